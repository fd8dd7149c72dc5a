-- What is found by a name, as sections are made, lose their names and end.
use Rattle.std.proofs.Common.{◌≡◌, inl, inr, ℕ, zero, suc, ◌+◌, ◌<◌, Bool, true, false, cond, [], ◌∷◌, ◌++◌, length, Option, Some, None, refl, sym, ap, ◌∙◌, subst, arith}
use Rattle.std.specs.Prelude.{if◌then◌else◌, option_map, slice_set, position, bytes_eq, IfSome, unwrap_or, nat_lt}
use Rattle.std.specs.List.{position_or_len}
use Rattle.std.specs.Cmp.Lexicographic.{bytes_decides}
use Rattle.std.proofs.lemmas.Bool.{true≢false, ltb-true, ltb-false}
use Rattle.std.proofs.lemmas.List.{get_or-set_same, get_or-set_other, get_or_append_left}
use Rattle.std.proofs.lemmas.List.Sums.{fails_before_first, passes_at_first}
use Rattle.mm_types.specs.{Text}
use Rattle.mm_types.proofs.{same_or_not}
use Rattle.mm_world.specs.{Numbered, numbered, SectionOf, is_named}
use Rattle.mm_sections.specs.{CountedSection, section_in, section_settled, IsNameIndex, name_lost, without_name, with_name}

-- ---- names

pub bytes_eq-sym : (a b : Text) → bytes_eq a b ≡ bytes_eq b a
bytes_eq-sym a b =
    elim (bytes_eq a b) as (λ x. bytes_eq a b ≡ x → x ≡ bytes_eq b a) [
      | true ↦ λ e. sym ((bytes_decides b a).1 (sym ((bytes_decides a b).0 e)))
      | false ↦ λ e. elim (bytes_eq b a) as (λ y. bytes_eq b a ≡ y → false ≡ y) [
        | true ↦ λ f. absurd (true≢false (sym ((bytes_decides a b).1 (sym ((bytes_decides b a).0 f))) ∙ e))
        | false ↦ λ f. refl
      ] refl
    ] refl

-- whether a name is the one that goes or comes
abbrev pub is_it : Option Text → Text → Bool
is_it None t = false
is_it (Some name) t = bytes_eq name t

named_it : (t : Text) (s : SectionOf) → is_named t (Some s) ≡ is_it s.name t
named_it t s = by s.name
  where
    by : (name : Option Text) → unwrap_or (option_map (bytes_eq t) name) false ≡ is_it name t
    by None = refl
    by (Some name) = bytes_eq-sym t name

without_it : (gone : Option Text) (find : Text → Option ℕ) (t : Text) → without_name gone find t ≡ cond (is_it gone t) None (find t)
without_it None find t = refl
without_it (Some name) find t = refl

joined_it : (new : Option Text) (n : ℕ) (find : Text → Option ℕ) (t : Text) → with_name new n find t ≡ cond (is_it new t) (Some n) (find t)
joined_it None n find t = refl
joined_it (Some name) n find t = refl

pub named_within : (t : Text) (ss : Numbered SectionOf) (k : ℕ) → is_named t (numbered ss k) ≡ true → k < length ss
named_within t [] k h = cc
named_within t (s ∷ ss) zero h = omega arith
named_within t (s ∷ ss) (suc k) h = let below = named_within t ss k h in omega (arith, below)

-- ---- what is found is what a search of the list gives

pub position_is_found : (find : Text → Option ℕ) (ss : Numbered SectionOf) → IsNameIndex find ss → (t : Text) → position (is_named t) ss ≡ find t
position_is_found find ss i t =
    let at = position_or_len (is_named t) ss in
    elim (nat_lt at (length ss)) as (λ b. nat_lt at (length ss) ≡ b → cond b (Some at) None ≡ find t) [
      | true ↦ λ e. sym (i.found t at (passes_at_first (is_named t) ss None (ltb-true at (length ss) e)))
      | false ↦ λ e. (
          elim (find t) as (λ o. find t ≡ o → None ≡ o) [
            | None ↦ λ f. refl
            | Some k ↦ λ f. (
                let named = i.named t k f in
                let inside = named_within t ss k named in
                let past = ltb-false at (length ss) e in
                let fails = fails_before_first (is_named t) ss k None (omega (arith, inside, past)) in
                absurd (true≢false (sym named ∙ fails)))
          ] refl)
    ] refl

-- ---- a section loses its name

pub record Loses (gone : Option Text) (old new : Option SectionOf) : Type 0 where
  pub had : (t : Text) → is_named t new ≡ true → is_named t old ≡ true
  pub not_it : (t : Text) → is_named t new ≡ true → is_it gone t ≡ false
  pub keeps : (t : Text) → is_named t old ≡ true → is_it gone t ≡ false → is_named t new ≡ true
  pub its : (t : Text) → is_it gone t ≡ true → is_named t old ≡ true

pub loses_nothing : (s : Option SectionOf) → Loses None s s
loses_nothing s = record { had = λ t h. h; not_it = λ t h. refl; keeps = λ t h e. h; its = λ t e. absurd (true≢false (sym e)) }

loses_name : (s : SectionOf) (new : Option SectionOf) → ((t : Text) → is_named t new ≡ false) → Loses s.name (Some s) new
loses_name s new unnamed =
    record {
      had = λ t h. absurd (true≢false (sym h ∙ unnamed t));
      not_it = λ t h. absurd (true≢false (sym h ∙ unnamed t));
      keeps = λ t h e. absurd (true≢false (sym h ∙ named_it t s ∙ e));
      its = λ t e. named_it t s ∙ e;
    }

pub settled_loses : (c : CountedSection) → Loses (name_lost c) (Some c.section) (option_map section_in (section_settled c))
settled_loses c =
    let unnamed : SectionOf = record (c.section) { name = None } in
    let ends : Option CountedSection = if nat_lt 0 c.views then Some (record c { section = unnamed }) else None in
    elim (nat_lt 0 c.handles) as (λ b. Loses (cond b None c.section.name) (Some c.section) (option_map section_in (cond b (Some c) ends))) [
      | true ↦ loses_nothing (Some c.section)
      | false ↦
          elim (nat_lt 0 c.views) as (λ b. Loses c.section.name (Some c.section) (option_map section_in (cond b (Some (record c { section = unnamed })) None))) [
            | true ↦ loses_name c.section (Some unnamed) (λ t. refl)
            | false ↦ loses_name c.section None (λ t. refl)
          ]
    ]

module _ (find other : Text → Option ℕ) (ss : Numbered SectionOf) (i : IsNameIndex find ss) where
  module _ (n : ℕ) (new : Option SectionOf) (gone : Option Text) (inside : n < length ss) (loses : Loses gone (numbered ss n) new) (is : (t : Text) → other t ≡ without_name gone find t) where
    lost_named : (t : Text) (k : ℕ) → other t ≡ Some k → is_named t (numbered (slice_set ss n new) k) ≡ true
    lost_named t k e =
        let same : Some k ≡ cond (is_it gone t) None (find t) = sym e ∙ is t ∙ without_it gone find t in
        elim (is_it gone t) as (λ b. is_it gone t ≡ b → Some k ≡ cond b None (find t) → is_named t (numbered (slice_set ss n new) k) ≡ true) [
          | true ↦ λ b f. cc
          | false ↦ λ b f. (
              let had = i.named t k (sym f) in
              elim (same_or_not k n) [
                | inl at ↦ (
                    let now : is_named t (numbered ss n) ≡ true = subst (λ (j : ℕ). is_named t (numbered ss j) ≡ true) at had in
                    ap (λ (j : ℕ). is_named t (numbered (slice_set ss n new) j)) at
                    ∙ ap (is_named t) (get_or-set_same ss n new None inside) ∙ loses.keeps t now b)
                | inr off ↦ ap (is_named t) (get_or-set_other ss n k new None off) ∙ had
              ])
        ] refl same

    lost_found : (t : Text) (k : ℕ) → is_named t (numbered (slice_set ss n new) k) ≡ true → other t ≡ Some k
    lost_found t k h =
        is t ∙ without_it gone find t ∙ elim (same_or_not k n) [
          | inl at ↦ (
              let now : is_named t new ≡ true = ap (is_named t) (sym (get_or-set_same ss n new None inside)) ∙ ap (λ (j : ℕ). is_named t (numbered (slice_set ss n new) j)) (sym at) ∙ h in
              let before = i.found t n (loses.had t now) in
              ap (λ b. cond b None (find t)) (loses.not_it t now) ∙ before ∙ ap Some (sym at))
          | inr off ↦ (
              let before = i.found t k (ap (is_named t) (sym (get_or-set_other ss n k new None off)) ∙ h) in
              elim (is_it gone t) as (λ b. is_it gone t ≡ b → cond b None (find t) ≡ Some k) [
                | true ↦ λ b. (
                    let at_n = i.found t n (loses.its t b) in
                    let same : Some n ≡ Some k = sym at_n ∙ before in
                    absurd (off (let e : n ≡ k = cc in sym e)))
                | false ↦ λ b. before
              ] refl)
        ]

    pub index_after_loss : IsNameIndex other (slice_set ss n new)
    index_after_loss = record { named = lost_named; found = lost_found }

  -- ---- one section more

  module _ (s : SectionOf) (fresh : IfSome s.name (λ name. position (is_named name) ss ≡ None)) (is : (t : Text) → other t ≡ with_name s.name (length ss) find t) where
    not_found : (t : Text) → is_it s.name t ≡ true → find t ≡ None
    not_found t e =
        by s.name fresh e
      where
        by : (name : Option Text) → IfSome name (λ m. position (is_named m) ss ≡ None) → is_it name t ≡ true → find t ≡ None
        by None f h = absurd (true≢false (sym h))
        by (Some name) f h = ap find (sym ((bytes_decides name t).0 h)) ∙ sym (position_is_found find ss i name) ∙ f

    behind : numbered (ss ++ Some s ∷ []) (length ss) ≡ Some s
    behind = seam ss
      where
        seam : (xs : Numbered SectionOf) → numbered (xs ++ Some s ∷ []) (length xs) ≡ Some s
        seam [] = refl
        seam (x ∷ xs) = seam xs

    more_named : (t : Text) (k : ℕ) → other t ≡ Some k → is_named t (numbered (ss ++ Some s ∷ []) k) ≡ true
    more_named t k e =
        let same : Some k ≡ cond (is_it s.name t) (Some (length ss)) (find t) = sym e ∙ is t ∙ joined_it s.name (length ss) find t in
        elim (is_it s.name t) as (λ b. is_it s.name t ≡ b → Some k ≡ cond b (Some (length ss)) (find t) → is_named t (numbered (ss ++ Some s ∷ []) k) ≡ true) [
          | true ↦ λ b f. (
              let at : k ≡ length ss = cc in
              ap (λ (j : ℕ). is_named t (numbered (ss ++ Some s ∷ []) j)) at ∙ ap (is_named t) behind ∙ named_it t s ∙ b)
          | false ↦ λ b f. (
              let had = i.named t k (sym f) in
              ap (is_named t) (get_or_append_left ss (Some s ∷ []) None k (named_within t ss k had)) ∙ had)
        ] refl same

    more_found : (t : Text) (k : ℕ) → is_named t (numbered (ss ++ Some s ∷ []) k) ≡ true → other t ≡ Some k
    more_found t k h =
        is t ∙ joined_it s.name (length ss) find t ∙ elim (nat_lt k (length ss)) as (λ b. nat_lt k (length ss) ≡ b → cond (is_it s.name t) (Some (length ss)) (find t) ≡ Some k) [
          | true ↦ λ l. (
              let before = i.found t k (ap (is_named t) (sym (get_or_append_left ss (Some s ∷ []) None k (ltb-true k (length ss) l))) ∙ h) in
              elim (is_it s.name t) as (λ b. is_it s.name t ≡ b → cond b (Some (length ss)) (find t) ≡ Some k) [
                | true ↦ λ b. (let none = not_found t b in let bad : None ≡ Some k = sym none ∙ before in cc)
                | false ↦ λ b. before
              ] refl)
          | false ↦ λ l. (
              let past = ltb-false k (length ss) l in
              let inside = named_within t (ss ++ Some s ∷ []) k h in
              let at : k ≡ length ss = omega (arith, past, inside, long ss) in
              let its : is_it s.name t ≡ true = sym (named_it t s) ∙ ap (is_named t) (sym behind) ∙ ap (λ (j : ℕ). is_named t (numbered (ss ++ Some s ∷ []) j)) (sym at) ∙ h in
              ap (λ b. cond b (Some (length ss)) (find t)) its ∙ ap Some (sym at))
        ] refl
      where
        long : (xs : Numbered SectionOf) → length (xs ++ Some s ∷ []) ≡ length xs + 1
        long [] = refl
        long (x ∷ xs) = let e = long xs in omega (arith, e)

    pub index_after_one_more : IsNameIndex other (ss ++ Some s ∷ [])
    index_after_one_more = record { named = more_named; found = more_found }
