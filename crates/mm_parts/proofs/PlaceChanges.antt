-- A place becomes valid, or is valid no more.
use Rattle.std.proofs.Common.{◌≡◌, ◌≢◌, ◌⊎◌, ℕ, zero, suc, ◌+◌, ◌-◌, ◌≤◌, Bool, true, false, cond, List, Option, Some, None, refl, sym, ap, ◌∙◌}
use Rattle.std.proofs.Common.{subst, inl, inr, arith}
use Rattle.std.specs.Prelude.{is_some, option_map, unwrap_or, if◌then◌else◌, slice_index_or, ◌==◌, ◌&&◌}
use Rattle.std.proofs.lemmas.Bool.{or_left, and_parts, eqb-true, eq-eqb}
use Rattle.mm_types.proofs.{same_or_not, both}
use Rattle.mm_types.specs.{Frame, Area, Block, Key, Place, Record, Held}
use Rattle.mm_types.specs.declared.numbers.Key.TheVariants.{Private, Shared}
use Rattle.mm_move_rules.specs.{record_at, shared, unshared, after_map, after_unmap, ResidentSet, changed, same_key, same_place, key_of_place, set_in}
use Rattle.mm_move_rules.specs.{with_resident, resident_by, IsLegal, after_move, after_unmap_at, is_dead}
use Rattle.mm_move_laws.proofs.{set_here, set_else, kept_inside, reached_by, key_or_not, same_key-self, same_place-self, same_place-true}
use Rattle.mm_page_tables.specs.{Entry, Aside, WordsOf, key_entry, own_word, aside_or, is_aside, without_aside, made_valid, made_invalid, place_from}
use Rattle.mm_page_tables.specs.{valid_frame, is_valid_entry, changed_at}
use Rattle.mm_parts.specs.{JoinedParts, Owners, owners, owned_by, held_by, stands_of, valid_of, named_by, names_of, is_of_paging_file, life_of, life_in}
use Rattle.mm_parts.specs.{shown_of, requests_in, WordsKept, names_other, PartsKept, parts_after, left_by, names_after_map, has_owner, is_aside_entry}
use Rattle.mm_parts.specs.{MayMap, words_named, words_left}
use Rattle.mm_parts.proofs.Stands.{Beside, same_life, at_if, by_place, if_either, own_by, own_set, own_unset, not_valid, names_at, same_there}
use Rattle.mm_parts.proofs.Stands.{beside_or_not, by_key, in_table}
use Rattle.mm_parts.proofs.Stands.{Rewrites, rewrites_by, settled_records, same_owners, stands_frame, paging_frame, waits_frame}
use Rattle.mm_parts.proofs.Keeping.{Step, known, valid_owned}
use Rattle.mm_parts.proofs.Reading.{beside_shared, in_frame}
use Rattle.std.proofs.lemmas.Bool.Decides.{nat_tests}
use Rattle.mm_parts.proofs.Conditions.{mappable, own_place, Leaving}
use Rattle.mm_types.specs.declared.moves.Move.TheVariants as move
use Rattle.mm_page_tables.specs.declared.layout.Entry.TheVariants as entry
use Rattle.mm_types.specs.declared.frames.Held.TheVariants as held

no_file_cond : (b : Bool) (x y : Entry) (c : Block) → x ≢ entry.InFile c → y ≢ entry.InFile c → cond b x y ≢ entry.InFile c
no_file_cond true x y c h k e = h e
no_file_cond false x y c h k e = k e

-- the sizes of the sets stay
sets_kept : (sets : List ResidentSet) (pid : ℕ) (change : ℕ → ℕ) → ((q : ℕ) (s : ResidentSet) → set_in sets q ≡ Some s → (1 ≤ s.max) × (s.max ≤ 65536))
    → (q : ℕ) (s : ResidentSet) → set_in (with_resident sets pid change) q ≡ Some s → (1 ≤ s.max) × (s.max ≤ 65536)
sets_kept sets pid change kept q s e = elim (same_or_not q pid) [
  | inr n ↦ kept q s (sym (set_else sets pid q change n) ∙ e)
  | inl same ↦ here (set_in sets pid) refl (ap (λ (x : ℕ). set_in (with_resident sets pid change) x) (sym same) ∙ e)
]
  where
    none : (n : ℕ) → set_in sets n ≡ None → with_resident sets n change ≡ sets
    none zero x = refl
    none (suc k) x = ap (λ y. resident_by y sets k change) x

    here : (o : Option ResidentSet) → set_in sets pid ≡ o → set_in (with_resident sets pid change) pid ≡ Some s → (1 ≤ s.max) × (s.max ≤ 65536)
    here None g h = kept pid s (sym (ap (λ z. set_in z pid) (none pid g)) ∙ h)
    here (Some old) g h =
        let both : Some (record old { resident = change old.resident }) ≡ Some s = sym (set_here sets pid change old g) ∙ h in
        let is : record old { resident = change old.resident } ≡ s = cc in
        subst (λ (x : ResidentSet). (1 ≤ x.max) × (x.max ≤ 65536)) is (kept pid old g)

-- ---- a place becomes valid

-- the entry of a private key is the valid one at that place, and stays elsewhere
pub own_made : (a : Option Aside) (at : Place → Entry) (place q : Place) (e : Entry)
    → aside_or (without_aside a place) q (changed same_place at place e q) ≡ (if same_place q place then e else aside_or a q (at q))
own_made None at place q e = refl
own_made (Some a) at place q e = elim (same_place place a.place) as (λ b. same_place place a.place ≡ b → aside_or (if b then None else Some a) q (changed same_place at place e q) ≡ (if same_place q place then e else aside_or (Some a) q (at q))) [
  | true ↦ λ h. own_set (Some a) at place q e h
  | false ↦ λ h. own_unset (Some a) at place q e h
] refl

beside_made : (a : Option Aside) (place : Place) (x : Aside) → without_aside a place ≡ Some x → a ≡ Some x
beside_made None place x h = h
beside_made (Some a) place x h = elim (same_place place a.place) as (λ b. (if b then None else Some a) ≡ Some x → Some a ≡ Some x) [ true ↦ λ e. cc | false ↦ λ e. e ] h

left_made : (a : Option Aside) (place : Place) → option_map (λ x. x.place) (without_aside a place) ≡ left_by (option_map (λ x. x.place) a) place
left_made None place = refl
left_made (Some a) place = at_if (option_map (λ (x : Aside). x.place)) (same_place place a.place) None (Some a)

some_made : (a : Option Aside) (place : Place) → is_some (without_aside a place) ≡ true → is_some a ≡ true
some_made None place h = h
some_made (Some a) place h = refl

-- the place is valid for the frame then, with these words
abbrev pub MapStep : JoinedParts → Frame → Place → WordsOf → Type 0
MapStep t f place w =
    Step (record t { table = after_map t.table f.0; words = w; ages = changed same_place t.ages place (Some 0) })
    (record (parts_after (shown_of t) (move.Map f place)) {
      ages = changed same_place (shown_of t).ages place 0;
      aside = left_by (shown_of t).aside place;
      names = names_after_map (shown_of t).life.frames (shown_of t).names f place;
    })

-- The place comes to be valid for the frame, and prototype words may. What is needed of the words then: each is as before or valid for
-- the frame, and that of the frame's owner is; and keys stand where they stood.
pub record Maps (t : JoinedParts) (f : Frame) (place : Place) (proto' : ℕ → ℕ → Entry) : Type 0 where
  pub owned : is_some (record_at t.table f.0).owner ≡ true
  pub protos : (a i : ℕ) (e : Entry) → proto' a i ≡ e → (t.words.proto a i ≡ e) ⊎ (entry.Valid f 0 ≡ e)
  pub owner : (k : Key) → (record_at t.table f.0).owner ≡ Some k → key_entry (record (made_valid t.words place f) { proto = proto' }) k ≡ entry.Valid f 0
  pub stands : (q : Key) → stands_of (owners t.table) (record (made_valid t.words place f) { proto = proto' }) q ≡ stands_of (owners t.table) t.words q

module _ (t : JoinedParts) (kept : PartsKept t) (f : Frame) (place : Place) (legal : IsLegal (move.Map f place) (life_in t)) (proto' : ℕ → ℕ → Entry) (maps : Maps t f place proto') where
  map_change : Rewrites t.table (after_map t.table f.0) f.0 (shared (record_at t.table f.0))
  map_change = rewrites_by t.table (after_map t.table f.0) f.0 (shared (record_at t.table f.0)) (kept_inside t.table f.0 (or_left (is_some (record_at t.table f.0).owner) _ maps.owned)) refl

  map_life : life_of t.line (after_map t.table f.0) t.free (record (made_valid t.words place f) { proto = proto' }) (requests_in t) ≡ after_move (life_in t) (move.Map f place)
  map_life = same_life t.line (after_map t.table f.0) t.free (requests_in t) _ _ _ _ _ _ _ _ (λ b. slice_index_or t.line.added b false)
      refl
      (λ q. stands_frame t.table (after_map t.table f.0) f.0 (shared (record_at t.table f.0)) (record (made_valid t.words place f) { proto = proto' }) map_change refl q ∙ maps.stands q)
      (λ q. paging_frame t.table (after_map t.table f.0) f.0 (shared (record_at t.table f.0)) (record (made_valid t.words place f) { proto = proto' }) map_change refl refl q ∙ ap (is_of_paging_file t.table) (maps.stands q))
      (λ p. at_if valid_frame (same_place p place) (entry.Valid f 0) (t.words.at p))

  made_before : (q : Key) (e : Entry) → key_entry (record (made_valid t.words place f) { proto = proto' }) q ≡ e → (key_entry t.words q ≡ e) ⊎ (entry.Valid f 0 ≡ e)
  made_before (Private p v) e h = elim (if_either (same_place (place_from p v) place) (entry.Valid f 0) (own_word t.words (place_from p v)) e (sym (own_made t.words.aside t.words.at place (place_from p v) (entry.Valid f 0)) ∙ h)) [ inl x ↦ inr x | inr x ↦ inl x ]
  made_before (Shared a i) e h = maps.protos a.0 i e h

  map_words : WordsKept (after_map t.table f.0) (record (made_valid t.words place f) { proto = proto' })
  map_words = record {
    transition = λ q g h. (elim (made_before q (entry.Transition g) h) as (λ _. (record_at (after_map t.table f.0) g.0).shares ≡ 0) [
      | inl was ↦
          let owner : (record_at t.table g.0).owner ≡ Some q = (known t kept).owner q g (ap (held_by (owned_by (owners t.table) q)) was) in
          let other : g.0 ≢ f.0 = (λ same.
          let now = maps.owner q (ap (λ (x : ℕ). (record_at t.table x).owner) (sym same) ∙ owner) in
          let bad : entry.Valid f 0 ≡ entry.Transition g = sym now ∙ h in cc) in
          ap (λ (x : Record). x.shares) (map_change.elsewhere g.0 other) ∙ kept.words.transition q g was
      | inr e ↦ cc
    ]);
    valid_shared = λ a i g m h. (elim (maps.protos a.0 i (entry.Valid g m) h) as (λ _. (1 ≤ (record_at (after_map t.table f.0) g.0).shares) × (m ≡ 0)) [
      | inl was ↦
          let old = kept.words.valid_shared a i g m was in
          (elim (same_or_not g.0 f.0) as (λ _. (1 ≤ (record_at (after_map t.table f.0) g.0).shares) × (m ≡ 0)) [
            | inl s ↦ let e : (record_at (after_map t.table f.0) g.0).shares ≡ (record_at t.table f.0).shares + 1 = ap (λ (x : ℕ). (record_at (after_map t.table f.0) x).shares) s ∙ ap (λ (x : Record). x.shares) map_change.here in (omega (arith, e), old.1)
            | inr n ↦ let e : (record_at (after_map t.table f.0) g.0).shares ≡ (record_at t.table g.0).shares = ap (λ (x : Record). x.shares) (map_change.elsewhere g.0 n) in let some = old.0 in (omega (arith, e, some), old.1)
          ])
      | inr e ↦
          let frame_is : f ≡ g = cc in
          let number_is : 0 ≡ m = cc in
          let now : (record_at (after_map t.table f.0) g.0).shares ≡ (record_at t.table f.0).shares + 1 = ap (λ (x : Frame). (record_at (after_map t.table f.0) x.0).shares) (sym frame_is) ∙ ap (λ (x : Record). x.shares) map_change.here in
          (omega (arith, now), sym number_is)
    ]);
    no_file = λ p b. no_file_cond (same_place p place) (entry.Valid f 0) (t.words.at p) b (λ e. cc) (kept.words.no_file p b);
    no_proto = λ a i b j h. elim (maps.protos a i (entry.Proto b j) h) [ inl was ↦ kept.words.no_proto a i b j was | inr e ↦ cc ];
    beside = λ x at. kept.words.beside x (beside_made t.words.aside place x at);
    beside_bound = λ x at. kept.words.beside_bound x (beside_made t.words.aside place x at);
    beside_other = λ x at. elim (same_place x.place place) as (λ b. names_other (cond b (entry.Valid f 0) (t.words.at x.place)) ≡ true) [ true ↦ refl | false ↦ kept.words.beside_other x (beside_made t.words.aside place x at) ];
  }

  map_names : (q : Place) → names_of (owners (after_map t.table f.0)) (record (made_valid t.words place f) { proto = proto' }) q ≡ names_after_map (shown_of t).life.frames (shown_of t).names f place q
  map_names q = ap (λ o. named_by o q (changed same_place t.words.at place (entry.Valid f 0) q)) (same_owners t.table (after_map t.table f.0) f.0 (shared (record_at t.table f.0)) t.words map_change refl)
      ∙ names_at (owners t.table) t.words place (entry.Valid f 0) (record_at t.table f.0).owner refl q

  pub map_step : MapStep t f place (record (made_valid t.words place f) { proto = proto' })
  map_step = record {
    kept = assumption (
      reached_by (life_in t) _ (move.Map f place) legal map_life kept.reached,
      map_words,
      λ (h : is_some (without_aside t.words.aside place) ≡ true). kept.within.copying (some_made t.words.aside place h),
      sets_kept t.words.sets place.pid.0 (λ n. n + 1) kept.ranges.sets,
      waits_frame t.table (after_map t.table f.0) f.0 (shared (record_at t.table f.0)) t.flight map_change (λ read. read) kept.waits,
    );
    shown = λ i. record (shown_of t) {
      life = map_life i;
      ages = λ p. at_if (λ o. unwrap_or o 0) (same_place p place) (Some 0) (t.ages p) i;
      aside = left_made t.words.aside place i;
      names = λ q. map_names q i;
    };
  }

-- ---- a place is valid no more

-- where the entry at the place is not that of its private key, or says where that stands, keys stand where they stood
pub word_unmade : (w : WordsOf) (place : Place) (e : Entry) → is_aside w.aside place ≡ false → (q : Key) → key_entry (made_invalid w place e) q ≡ changed same_key (key_entry w) (key_of_place place) e q
word_unmade w place e h (Private p v) = own_by false w place (place_from p v) e h
word_unmade w place e h (Shared a i) = refl

pub word_beside : (w : WordsOf) (place : Place) (e : Entry) → Beside w.aside place → (q : Key) → key_entry (made_invalid w place e) q ≡ key_entry w q
word_beside w place e x (Private p v) = by_place (place_from p v) place (λ b. aside_or w.aside (place_from p v) (cond b e (w.at (place_from p v)))) (λ _. own_word w (place_from p v))
    (λ s. ap (λ (y : Place). aside_or w.aside y e) s ∙ x.says e ∙ sym (ap (λ (y : Place). aside_or w.aside y (w.at (place_from p v))) s ∙ x.says (w.at (place_from p v)))) (λ n off. refl)
word_beside w place e x (Shared b i) = refl

-- an entry that is not valid, and names a shared page, is a prototype's
named_shared : (o : Owners) (p : Place) (e : Entry) (a : Area) (i : ℕ) → is_valid_entry e ≡ false → named_by o p e ≡ Some (Shared a i) → names_other e ≡ true
named_shared o p (entry.Valid f n) a i v h = refl
named_shared o p _ a i v h = cc

-- the place is valid for the frame no more, with these words
abbrev pub UnmapStep : JoinedParts → Frame → Place → WordsOf → Type 0
UnmapStep t f place w = Step (record t { table = after_unmap t.table f.0; words = w; ages = changed same_place t.ages place None }) (record (parts_after (shown_of t) (move.Unmap place)) { ages = changed same_place (shown_of t).ages place 0 })

-- The place has this entry now, and prototype words may change. What is needed of the words then.
pub record Unmaps (t : JoinedParts) (f : Frame) (place : Place) (e : Entry) (proto' : ℕ → ℕ → Entry) : Type 0 where
  pub there : valid_of t.words place ≡ Some f
  pub calm : is_valid_entry e ≡ false
  pub no_file : (b : Block) → e ≢ entry.InFile b
  pub named : named_by (owners t.table) place e ≡ (record_at t.table f.0).owner
  -- a key that is in transition now was so before, or it is in this frame, which had one share
  pub transition : (q : Key) (g : Frame) → key_entry (record (made_invalid t.words place e) { proto = proto' }) q ≡ entry.Transition g → (key_entry t.words q ≡ entry.Transition g) ⊎ ((g.0 ≡ f.0) × ((record_at t.table f.0).shares ≡ 1))
  pub valid : (a i : ℕ) (g : Frame) (m : ℕ) → proto' a i ≡ entry.Valid g m → (t.words.proto a i ≡ entry.Valid g m) × (g.0 ≡ f.0 → 2 ≤ (record_at t.table f.0).shares)
  pub no_proto : (a i : ℕ) (b : Area) (j : ℕ) → proto' a i ≢ entry.Proto b j
  pub stands : (q : Key) → stands_of (owners t.table) (record (made_invalid t.words place e) { proto = proto' }) q ≡ stands_of (owners t.table) t.words q

module _ (t : JoinedParts) (kept : PartsKept t) (f : Frame) (place : Place) (legal : IsLegal (move.Unmap place) (life_in t)) (e : Entry) (proto' : ℕ → ℕ → Entry) (unmaps : Unmaps t f place e proto') where
  some : 1 ≤ (record_at t.table f.0).shares
  some = (known t kept).shares place f unmaps.there

  unmap_change : Rewrites t.table (after_unmap t.table f.0) f.0 (unshared (record_at t.table f.0))
  unmap_change =
      rewrites_by t.table (after_unmap t.table f.0) f.0 (unshared (record_at t.table f.0)) (kept_inside t.table f.0 (or_left (is_some (record_at t.table f.0).owner) _ (valid_owned t kept place f unmaps.there)))
      (settled_records t.table f.0 (unshared (record_at t.table f.0)))

  unmap_life : life_of t.line (after_unmap t.table f.0) t.free (record (made_invalid t.words place e) { proto = proto' }) (requests_in t) ≡ after_move (life_in t) (move.Unmap place)
  unmap_life =
      same_life t.line (after_unmap t.table f.0) t.free (requests_in t) _ _ _ _ _ _ _ _ (λ b. slice_index_or t.line.added b false)
      refl
      (λ q. stands_frame t.table (after_unmap t.table f.0) f.0 (unshared (record_at t.table f.0)) (record (made_invalid t.words place e) { proto = proto' }) unmap_change refl q ∙ unmaps.stands q)
      (λ q. paging_frame t.table (after_unmap t.table f.0) f.0 (unshared (record_at t.table f.0)) (record (made_invalid t.words place e) { proto = proto' }) unmap_change refl refl q ∙ ap (is_of_paging_file t.table) (unmaps.stands q))
      (λ p. at_if valid_frame (same_place p place) e (t.words.at p) ∙ ap (λ x. cond (same_place p place) x (valid_of t.words p)) (not_valid e unmaps.calm))
      ∙ sym (ap (λ o. after_unmap_at o (life_in t) place) unmaps.there)

  fewer : (record_at (after_unmap t.table f.0) f.0).shares ≡ (record_at t.table f.0).shares - 1
  fewer = ap (λ (x : Record). x.shares) unmap_change.here

  -- the place of the key beside the tables was valid for a shared page, and names it
  gone_other : (x : Aside) → t.words.aside ≡ Some x → x.place ≡ place → names_other e ≡ true
  gone_other x at same = by (record_at t.table f.0).owner refl
    where
      by : (o : Option Key) → (record_at t.table f.0).owner ≡ o → names_other e ≡ true
      by None g = let bad : false ≡ true = sym (ap is_some g) ∙ valid_owned t kept place f unmaps.there in cc
      by (Some (Private q u)) g = let bad : false ≡ true = beside_shared t kept x at f (ap (valid_of t.words) same ∙ unmaps.there) (Private q u) g in cc
      by (Some (Shared a i)) g = named_shared (owners t.table) place e a i unmaps.calm (unmaps.named ∙ g)

  left_other : (x : Aside) → t.words.aside ≡ Some x → names_other (changed same_place t.words.at place e x.place) ≡ true
  left_other x at = by_place x.place place (λ b. names_other (cond b e (t.words.at x.place))) (λ _. true) (gone_other x at) (λ n off. kept.words.beside_other x at)

  unmap_words : WordsKept (after_unmap t.table f.0) (record (made_invalid t.words place e) { proto = proto' })
  unmap_words = record {
    transition = λ q g h. (elim (unmaps.transition q g h) as (λ _. (record_at (after_unmap t.table f.0) g.0).shares ≡ 0) [
      | inl was ↦
          let none = kept.words.transition q g was in
          let other : g.0 ≢ f.0 = (λ same. let here : (record_at t.table f.0).shares ≡ 0 = ap (λ (x : ℕ). (record_at t.table x).shares) (sym same) ∙ none in let one = some in omega (arith, here, one)) in
          ap (λ (x : Record). x.shares) (unmap_change.elsewhere g.0 other) ∙ none
      | inr last ↦
          let one = last.1 in
          let left = fewer in
          ap (λ (x : ℕ). (record_at (after_unmap t.table f.0) x).shares) last.0 ∙ omega (arith, one, left)
    ]);
    valid_shared = λ a i g m h.
        let was = unmaps.valid a.0 i g m h in
        let old = kept.words.valid_shared a i g m was.0 in
        (elim (same_or_not g.0 f.0) as (λ _. (1 ≤ (record_at (after_unmap t.table f.0) g.0).shares) × (m ≡ 0)) [
          | inl s ↦
              let two = was.1 s in
              let left = fewer in
              let here : (record_at (after_unmap t.table f.0) g.0).shares ≡ (record_at (after_unmap t.table f.0) f.0).shares = ap (λ (x : ℕ). (record_at (after_unmap t.table f.0) x).shares) s in
              (omega (arith, two, left, here), old.1)
          | inr n ↦ let same : (record_at (after_unmap t.table f.0) g.0).shares ≡ (record_at t.table g.0).shares = ap (λ (x : Record). x.shares) (unmap_change.elsewhere g.0 n) in let one = old.0 in (omega (arith, one, same), old.1)
        ]);
    no_file = λ p b. no_file_cond (same_place p place) e (t.words.at p) b (unmaps.no_file b) (kept.words.no_file p b);
    no_proto = unmaps.no_proto;
    beside = kept.words.beside;
    beside_bound = kept.words.beside_bound;
    beside_other = left_other;
  }

  unmap_names : (q : Place) → names_of (owners (after_unmap t.table f.0)) (record (made_invalid t.words place e) { proto = proto' }) q ≡ names_of (owners t.table) t.words q
  unmap_names q =
      ap (λ o. named_by o q (changed same_place t.words.at place e q)) (same_owners t.table (after_unmap t.table f.0) f.0 (unshared (record_at t.table f.0)) t.words unmap_change refl)
      ∙ names_at (owners t.table) t.words place e (record_at t.table f.0).owner unmaps.named q
      ∙ same_there (names_of (owners t.table) t.words) place q (record_at t.table f.0).owner (named_valid (t.words.at place) refl)
    where
      named_valid : (x : Entry) → t.words.at place ≡ x → named_by (owners t.table) place (t.words.at place) ≡ (record_at t.table f.0).owner
      named_valid (entry.Valid g n) h = ap (named_by (owners t.table) place) h ∙ (let same : Some g ≡ Some f = sym (ap valid_frame h) ∙ unmaps.there in let is : g ≡ f = cc in ap (λ (x : Frame). (record_at t.table x.0).owner) is)
      named_valid _ h = let bad : None ≡ Some f = sym (ap valid_frame h) ∙ unmaps.there in cc

  pub unmap_step : UnmapStep t f place (record (made_invalid t.words place e) { proto = proto' })
  unmap_step = record {
    kept = assumption (
      reached_by (life_in t) _ (move.Unmap place) legal unmap_life kept.reached,
      unmap_words,
      sets_kept t.words.sets place.pid.0 (λ n. n - 1) kept.ranges.sets,
      waits_frame t.table (after_unmap t.table f.0) f.0 (unshared (record_at t.table f.0)) t.flight unmap_change (λ read. read) kept.waits,
    );
    shown = λ i. record (shown_of t) {
      life = unmap_life i;
      ages = λ p. at_if (λ o. unwrap_or o 0) (same_place p place) None (t.ages p) i;
      names = λ q. unmap_names q i;
    };
  }

-- ---- the moves map and unmap: of a private page at its own place, and of a shared page, whose prototype word changes with the first and the last

at_pair : (f : ℕ → ℕ → Entry) (a i : ℕ) (e : Entry) → changed_at f a i e a i ≡ e
at_pair f a i e = ap (λ b. cond b e (f a i)) (both (a == a) (i == i) (eq-eqb a a refl) (eq-eqb i i refl))

record IsPair (a i b j : ℕ) : Type 0 where
  first : b ≡ a
  second : j ≡ i

-- a word is the changed one, or as before
pair_or_not : (f : ℕ → ℕ → Entry) (a i b j : ℕ) (e x : Entry) → changed_at f a i e b j ≡ x → (IsPair a i b j × (e ≡ x)) ⊎ ((IsPair a i b j → ⊥) × (f b j ≡ x))
pair_or_not f a i b j e x h = elim ((b == a) && (j == i)) as (λ c. ((b == a) && (j == i)) ≡ c → (if c then e else f b j) ≡ x → (IsPair a i b j × (e ≡ x)) ⊎ ((IsPair a i b j → ⊥) × (f b j ≡ x))) [
  | true ↦ λ g k. let p = and_parts (b == a) (j == i) g in inl (record { first = eqb-true b a p.0; second = eqb-true j i p.1 }, k)
  | false ↦ λ g k. inr (λ p. let bad : true ≡ false = sym (both (b == a) (j == i) (eq-eqb b a p.first) (eq-eqb j i p.second)) ∙ g in cc, k)
] refl h

-- ---- map

-- the place's own private key is in the frame, or is dead
made_stands : (t : JoinedParts) (place : Place) (f : Frame) → (if owned_by (owners t.table) (key_of_place place) f then held.Frame f else held.Dead) ≡ stands_of (owners t.table) t.words (key_of_place place)
    → (q : Key) → stands_of (owners t.table) (made_valid t.words place f) q ≡ stands_of (owners t.table) t.words q
made_stands t place f here (Private p v) =
    ap (held_by (owned_by (owners t.table) (Private p v))) (own_made t.words.aside t.words.at place (place_from p v) (entry.Valid f 0))
    ∙ by_place (place_from p v) place (λ b. held_by (owned_by (owners t.table) (Private p v)) (cond b (entry.Valid f 0) (own_word t.words (place_from p v)))) (λ _. stands_of (owners t.table) t.words (Private p v))
    (λ s. ap (λ (x : Place). held_by (owned_by (owners t.table) (key_of_place x)) (entry.Valid f 0)) s ∙ here ∙ ap (λ (x : Place). stands_of (owners t.table) t.words (key_of_place x)) (sym s)) (λ n off. refl)
made_stands t place f here (Shared a i) = refl

pub map_own_step : (t : JoinedParts) → PartsKept t → (f : Frame) (place : Place) → IsLegal (move.Map f place) (life_in t) → (record_at t.table f.0).owner ≡ Some (key_of_place place)
    → MapStep t f place (made_valid t.words place f)
map_own_step t kept f place legal is =
    map_step t kept f place legal t.words.proto (record {
      owned = ap is_some is;
      protos = λ a i e h. inl h;
      owner = λ k e. let same : k ≡ key_of_place place = cc in ap (key_entry (made_valid t.words place f)) same ∙ own_made t.words.aside t.words.at place place (entry.Valid f 0) ∙ ap (λ b. cond b (entry.Valid f 0) (own_word t.words place)) (same_place-self place);
      stands = made_stands t place f (ap (λ b. if b then held.Frame f else held.Dead) (ap (λ (o : Option Key). has_owner o (key_of_place place)) is ∙ same_key-self (key_of_place place)) ∙ sym ((known t kept).owned f.0 (key_of_place place) is));
    })

dead_is_dead : (h : Held) → is_dead h ≡ true → h ≡ held.Dead
dead_is_dead held.Dead e = refl
dead_is_dead _ e = cc

pub map_shared_step : (t : JoinedParts) → PartsKept t → (f : Frame) (place : Place) (a : Area) (i : ℕ) → IsLegal (move.Map f place) (life_in t) → (record_at t.table f.0).owner ≡ Some (Shared a i)
    → is_dead ((life_in t).stands (key_of_place place)) ≡ true
    → MapStep t f place (record (made_valid t.words place f) { proto = changed_at t.words.proto a.0 i (entry.Valid f 0) })
map_shared_step t kept f place a i legal is dead =
    let proto' = changed_at t.words.proto a.0 i (entry.Valid f 0) in
    map_step t kept f place legal proto' (record {
      owned = ap is_some is;
      protos = λ b j e h. (elim (pair_or_not t.words.proto a.0 i b j (entry.Valid f 0) e h) as (λ _. (t.words.proto b j ≡ e) ⊎ (entry.Valid f 0 ≡ e)) [ inl s ↦ inr s.1 | inr n ↦ inl n.1 ]);
      owner = λ k e. let same : k ≡ Shared a i = cc in ap (key_entry (record (made_valid t.words place f) { proto = changed_at t.words.proto a.0 i (entry.Valid f 0) })) same ∙ at_pair t.words.proto a.0 i (entry.Valid f 0);
      stands = stands;
    })
  where
    here : (if owned_by (owners t.table) (key_of_place place) f then held.Frame f else held.Dead) ≡ stands_of (owners t.table) t.words (key_of_place place)
    here = ap (λ b. if b then held.Frame f else held.Dead) (ap (λ (o : Option Key). has_owner o (key_of_place place)) is) ∙ sym (dead_is_dead (stands_of (owners t.table) t.words (key_of_place place)) dead)

    stands : (q : Key) → stands_of (owners t.table) (record (made_valid t.words place f) { proto = changed_at t.words.proto a.0 i (entry.Valid f 0) }) q ≡ stands_of (owners t.table) t.words q
    stands (Private p v) = made_stands t place f here (Private p v)
    stands (Shared b j) = elim (pair_or_not t.words.proto a.0 i b.0 j (entry.Valid f 0) (changed_at t.words.proto a.0 i (entry.Valid f 0) b.0 j) refl) [
      | inl s ↦
          let key_is : Shared b j ≡ Shared a i = (λ x. Shared (record { 0 = s.0.first x }) (s.0.second x)) in
          ap (held_by (λ _. true)) (sym s.1) ∙ sym (ap (stands_of (owners t.table) t.words) key_is ∙ (known t kept).owned f.0 (Shared a i) is)
      | inr n ↦ ap (held_by (λ _. true)) (sym n.1)
    ]

-- ---- unmap

-- where the place's private key stands, as its entry says unless it stands beside the tables
unmade_stands : (t : JoinedParts) (place : Place) (e : Entry)
    → (Beside t.words.aside place → (q : Key) → stands_of (owners t.table) (made_invalid t.words place e) q ≡ stands_of (owners t.table) t.words q)
    → (is_aside t.words.aside place ≡ false → held_by (owned_by (owners t.table) (key_of_place place)) e ≡ stands_of (owners t.table) t.words (key_of_place place))
    → (q : Key) → stands_of (owners t.table) (made_invalid t.words place e) q ≡ stands_of (owners t.table) t.words q
unmade_stands t place e beside here q = elim (beside_or_not t.words.aside place) [
  | inl off ↦ ap (held_by (owned_by (owners t.table) q)) (word_unmade t.words place e off q)
      ∙ by_key q (key_of_place place) (λ b. held_by (owned_by (owners t.table) q) (cond b e (key_entry t.words q))) (λ _. stands_of (owners t.table) t.words q)
      (λ s. ap (λ (j : Key). held_by (owned_by (owners t.table) j) e) s ∙ here off ∙ ap (stands_of (owners t.table) t.words) (sym s)) (λ n. refl)
  | inr x ↦ beside x q
]

-- the word of a key after, by the word before
unmade_word : (w : WordsOf) (place : Place) (e : Entry) (q : Key) (x : Entry) → key_entry (made_invalid w place e) q ≡ x → ((q ≡ key_of_place place) × (e ≡ x)) ⊎ (key_entry w q ≡ x)
unmade_word w place e q x h = elim (beside_or_not w.aside place) [
  | inl off ↦ elim (key_or_not q (key_of_place place)) [
    | inl s ↦ inl (s.0, sym (ap (λ b. cond b e (key_entry w q)) s.1) ∙ sym (word_unmade w place e off q) ∙ h)
    | inr n ↦ inr (sym (ap (λ b. cond b e (key_entry w q)) n.1) ∙ sym (word_unmade w place e off q) ∙ h)
  ]
  | inr b ↦ inr (sym (word_beside w place e b q) ∙ h)
]

-- ---- of a private page

module _ (t : JoinedParts) (kept : PartsKept t) (f : Frame) (place : Place) (legal : IsLegal (move.Unmap place) (life_in t)) (there : valid_of t.words place ≡ Some f) (own : (record_at t.table f.0).owner ≡ Some (key_of_place place)) where
  own_some : 1 ≤ (record_at t.table f.0).shares
  own_some = (known t kept).shares place f there

  own_one : (record_at t.table f.0).shares ≡ 1
  own_one = let most = (known t kept).single f.0 place.pid place.vpn own in let some = own_some in omega (arith, most, some)

  -- its entry beside the tables would be that of a frame without shares
  not_beside : Beside t.words.aside place → ⊥
  not_beside b =
      let a = b.aside in
      let word : key_entry t.words (key_of_place place) ≡ a.entry = b.says (t.words.at place) in
      let stand : held_by (owned_by (owners t.table) (key_of_place place)) a.entry ≡ held.Frame f = ap (held_by (owned_by (owners t.table) (key_of_place place))) (sym word) ∙ (known t kept).owned f.0 (key_of_place place) own in
      elim (in_frame (owned_by (owners t.table) (key_of_place place)) a.entry f stand) [
        | inl e ↦ let none = kept.words.transition (key_of_place place) f (word ∙ e) in let some = own_some in omega (arith, some, none)
        | inr x ↦ let bad : true ≡ false = sym (kept.words.beside a b.is) ∙ ap is_aside_entry x.1 in cc
      ]

  pub unmap_own_step : UnmapStep t f place (made_invalid t.words place (entry.Transition f))
  unmap_own_step = unmap_step t kept f place legal (entry.Transition f) t.words.proto (record {
    there = there;
    calm = refl;
    no_file = λ b e. cc;
    named = sym own;
    transition = λ q g h. (elim (unmade_word t.words place (entry.Transition f) q (entry.Transition g) h) as (λ _. (key_entry t.words q ≡ entry.Transition g) ⊎ ((g.0 ≡ f.0) × ((record_at t.table f.0).shares ≡ 1))) [
      | inl s ↦ inr ((let both = s.1 in let same : f ≡ g = cc in ap (λ (x : Frame). x.0) (sym same)), own_one)
      | inr was ↦ inl was
    ]);
    valid = λ a i g m h. (
      h,
      λ same.
          let stands : stands_of (owners t.table) t.words (Shared (record { 0 = a }) i) ≡ held.Frame g = ap (held_by (λ _. true)) h in
          let owner : (record_at t.table f.0).owner ≡ Some (Shared (record { 0 = a }) i) = ap (λ (x : ℕ). (record_at t.table x).owner) (sym same) ∙ (known t kept).owner (Shared (record { 0 = a }) i) g stands in
          let bad : Some (Shared (record { 0 = a }) i) ≡ Some (key_of_place place) = sym owner ∙ own in cc,
    );
    no_proto = kept.words.no_proto;
    stands = unmade_stands t place (entry.Transition f) (λ b. absurd (not_beside b)) (λ h. sym ((known t kept).owned f.0 (key_of_place place) own));
  })

-- ---- of a shared page

module _ (t : JoinedParts) (kept : PartsKept t) (f : Frame) (place : Place) (a : Area) (i : ℕ) (legal : IsLegal (move.Unmap place) (life_in t)) (there : valid_of t.words place ≡ Some f) (owner : (record_at t.table f.0).owner ≡ Some (Shared a i)) where
  -- the place's private key is dead, or stands beside the tables
  shared_dead : is_aside t.words.aside place ≡ false → held.Dead ≡ stands_of (owners t.table) t.words (key_of_place place)
  shared_dead h = sym (ap (held_by (owned_by (owners t.table) (key_of_place place))) (in_table t.words.aside place (t.words.at place) h) ∙ by (t.words.at place) refl)
    where
      by : (e : Entry) → t.words.at place ≡ e → held_by (owned_by (owners t.table) (key_of_place place)) (t.words.at place) ≡ held.Dead
      by (entry.Valid g n) e =
          let same : Some g ≡ Some f = sym (ap valid_frame e) ∙ there in
          let is : g ≡ f = cc in
          ap (held_by (owned_by (owners t.table) (key_of_place place))) e
          ∙ ap (λ (x : Frame). if owned_by (owners t.table) (key_of_place place) x then held.Frame x else held.Dead) is
          ∙ ap (λ b. if b then held.Frame f else held.Dead) (ap (λ (o : Option Key). has_owner o (key_of_place place)) owner)
      by _ e = let bad : None ≡ Some f = sym (ap valid_frame e) ∙ there in cc

  shared_stands : (q : Key) → stands_of (owners t.table) (made_invalid t.words place (entry.Proto a i)) q ≡ stands_of (owners t.table) t.words q
  shared_stands = unmade_stands t place (entry.Proto a i)
      (λ b q. ap (held_by (owned_by (owners t.table) q)) (word_beside t.words place (entry.Proto a i) b q)) shared_dead

  shared_word : (q : Key) (x : Entry) → key_entry (made_invalid t.words place (entry.Proto a i)) q ≡ x → (entry.Proto a i ≡ x) ⊎ (key_entry t.words q ≡ x)
  shared_word q x h = elim (unmade_word t.words place (entry.Proto a i) q x h) [ inl s ↦ inl s.1 | inr was ↦ inr was ]

  -- a prototype word that is valid for the frame is that of its page
  valid_owner : (b j : ℕ) (g : Frame) (m : ℕ) → t.words.proto b j ≡ entry.Valid g m → g.0 ≡ f.0 → IsPair a.0 i b j
  valid_owner b j g m h same =
      let stands : stands_of (owners t.table) t.words (Shared (record { 0 = b }) j) ≡ held.Frame g = ap (held_by (λ _. true)) h in
      let is : Some (Shared (record { 0 = b }) j) ≡ Some (Shared a i) = sym ((known t kept).owner (Shared (record { 0 = b }) j) g stands) ∙ ap (λ (x : ℕ). (record_at t.table x).owner) same ∙ owner in
      let area_is : record { 0 = b } ≡ a = cc in
      let index_is : j ≡ i = cc in
      record { first = ap (λ (x : Area). x.0) area_is; second = index_is }

  -- other places are valid for it
  pub unmap_shared_step : 2 ≤ (record_at t.table f.0).shares → UnmapStep t f place (made_invalid t.words place (entry.Proto a i))
  unmap_shared_step two = unmap_step t kept f place legal (entry.Proto a i) t.words.proto (record {
    there = there;
    calm = refl;
    no_file = λ b e. cc;
    named = sym owner;
    transition = λ q g h. (elim (shared_word q (entry.Transition g) h) as (λ _. (key_entry t.words q ≡ entry.Transition g) ⊎ ((g.0 ≡ f.0) × ((record_at t.table f.0).shares ≡ 1))) [ inl e ↦ cc | inr was ↦ inl was ]);
    valid = λ b j g m h. (h, λ same. two);
    no_proto = kept.words.no_proto;
    stands = shared_stands;
  })

  last_stands : (q : Key) → stands_of (owners t.table) (record (made_invalid t.words place (entry.Proto a i)) { proto = changed_at t.words.proto a.0 i (entry.Transition f) }) q ≡ stands_of (owners t.table) t.words q
  last_stands (Private p v) = shared_stands (Private p v)
  last_stands (Shared b j) = elim (pair_or_not t.words.proto a.0 i b.0 j (entry.Transition f) (changed_at t.words.proto a.0 i (entry.Transition f) b.0 j) refl) [
    | inl s ↦
        let key_is : Shared b j ≡ Shared a i = (λ x. Shared (record { 0 = s.0.first x }) (s.0.second x)) in
        ap (held_by (λ _. true)) (sym s.1) ∙ sym (ap (stands_of (owners t.table) t.words) key_is ∙ (known t kept).owned f.0 (Shared a i) owner)
    | inr n ↦ ap (held_by (λ _. true)) (sym n.1)
  ]

  last_word : (q : Key) (g : Frame) → key_entry (record (made_invalid t.words place (entry.Proto a i)) { proto = changed_at t.words.proto a.0 i (entry.Transition f) }) q ≡ entry.Transition g
      → (key_entry t.words q ≡ entry.Transition g) ⊎ (g.0 ≡ f.0)
  last_word (Private p v) g h = elim (shared_word (Private p v) (entry.Transition g) h) [ inl e ↦ cc | inr was ↦ inl was ]
  last_word (Shared b j) g h = elim (pair_or_not t.words.proto a.0 i b.0 j (entry.Transition f) (entry.Transition g) h) [
    | inl s ↦ inr (let e = s.1 in let same : f ≡ g = cc in ap (λ (x : Frame). x.0) (sym same))
    | inr n ↦ inl n.1
  ]

  -- it was the last
  pub unmap_last_step : (record_at t.table f.0).shares ≡ 1
      → UnmapStep t f place (record (made_invalid t.words place (entry.Proto a i)) { proto = changed_at t.words.proto a.0 i (entry.Transition f) })
  unmap_last_step one = unmap_step t kept f place legal (entry.Proto a i) (changed_at t.words.proto a.0 i (entry.Transition f)) (record {
    there = there;
    calm = refl;
    no_file = λ b e. cc;
    named = sym owner;
    transition = λ q g h. (elim (last_word q g h) as (λ _. (key_entry t.words q ≡ entry.Transition g) ⊎ ((g.0 ≡ f.0) × ((record_at t.table f.0).shares ≡ 1))) [ inl was ↦ inl was | inr same ↦ inr (same, one) ]);
    valid = λ b j g m h. (elim (pair_or_not t.words.proto a.0 i b j (entry.Transition f) (entry.Valid g m) h) as (λ _. (t.words.proto b j ≡ entry.Valid g m) × (g.0 ≡ f.0 → 2 ≤ (record_at t.table f.0).shares)) [
      | inl s ↦ cc
      | inr n ↦ (n.1, λ same. absurd (n.0 (valid_owner b j g m n.1 same)))
    ]);
    no_proto = λ b j c k h. (elim (pair_or_not t.words.proto a.0 i b j (entry.Transition f) (entry.Proto c k) h) as (λ _. ⊥) [ inl s ↦ (let e = s.1 in cc) | inr n ↦ kept.words.no_proto b j c k n.1 ]);
    stands = last_stands;
  })

-- ---- the moves map and unmap, whatever page the frame has

pub map_any_step : (t : JoinedParts) → PartsKept t → (f : Frame) (place : Place) → IsLegal (move.Map f place) (life_in t) → MayMap (shown_of t).life f place → (o : Option Key) → (record_at t.table f.0).owner ≡ o
    → MapStep t f place (words_named o f (made_valid t.words place f))
map_any_step t kept f place legal alone None e = let bad : None ≡ Some (mappable t f place legal).key = sym e ∙ (mappable t f place legal).owner in cc
map_any_step t kept f place legal alone (Some (Private p v)) e = map_own_step t kept f place legal (own_place t f place p v (mappable t f place legal) e)
map_any_step t kept f place legal alone (Some (Shared a i)) e = map_shared_step t kept f place a i legal e (alone (rw e refl))

two_or_one : (n : ℕ) → 1 ≤ n → (n == 1) ≡ false → 2 ≤ n
two_or_one n some e = grind (arith, nat_tests)

pub unmap_any_step : (t : JoinedParts) → PartsKept t → (f : Frame) (place : Place) (k : Key) → IsLegal (move.Unmap place) (life_in t) → Leaving t f place → (record_at t.table f.0).owner ≡ Some k → (last : Bool) → ((record_at t.table f.0).shares == 1) ≡ last
    → UnmapStep t f place (words_left k f last place t.words)
unmap_any_step t kept f place (Private p v) legal leaving e last g =
    let same : place_from p v ≡ place = same_place-true (place_from p v) place ((known t kept).fits place f (Private p v) leaving.there e) in
    unmap_own_step t kept f place legal leaving.there (e ∙ ap (λ (x : Place). Some (key_of_place x)) same)
unmap_any_step t kept f place (Shared a i) legal leaving e true g = unmap_last_step t kept f place a i legal leaving.there e (eqb-true (record_at t.table f.0).shares 1 g)
unmap_any_step t kept f place (Shared a i) legal leaving e false g = unmap_shared_step t kept f place a i legal leaving.there e (two_or_one (record_at t.table f.0).shares leaving.some g)
