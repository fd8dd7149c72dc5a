-- The page that goes first, by the sets of the groups and by the map of ages.
use Rattle.std.proofs.Common.{◌≡◌, ◌⊎◌, ℕ, ◌+◌, ◌<◌, ◌≤◌, Bool, true, false, List, length, Option, Some, None, refl, sym, ap, ◌∙◌, subst, inl, inr, arith}
use Rattle.std.proofs.lemmas.Bool.{cases_eq, cases_lt}
use Rattle.std.specs.Prelude.{IsSome, is_some, option_map, MatchOption}
use Rattle.std.specs.FinMap as finite
use Rattle.mm_types.specs.{Vpn}
use Rattle.mm_bits.specs.{IsLowestFrom, NoneFrom}
use Rattle.mm_working_sets.specs.{GoesBefore, IsOldestInSet, NoneFollowsInSet, turned, IsNextFrom, is_in, group_in, age_in}
use Rattle.mm_working_sets.specs.{ages_by_group, AreGrouped, IsFirstOf, GoesFirst, IsBelow, NoAgeWithin}
use Rattle.mm_working_sets.proofs.GroupLemmas.{get-ages, set_of_group, group_of_set, none_held}
use Rattle.mm_working_sets.proofs.RingLemmas.{turned_back}

one_age : (a b : ℕ) → Some a ≡ Some b → a ≡ b
one_age a b e = cc

before_or_same : (v a w b : ℕ) → b ≤ a → (a ≡ b → v ≤ w) → (w ≡ v) ⊎ GoesBefore v a w b
before_or_same v a w b old low = elim (cases_lt b a) [
  | inl younger ↦ inr (inl younger)
  | inr equal ↦ elim (cases_eq w v) [
    | inl same ↦ inl same
    | inr other ↦ inr (inr (omega (arith, old, equal), (let behind = low (omega (arith, old, equal)) in omega (arith, behind, other))))
  ]
]

-- the lowest page of the same pages
pub next_same : (f g : ℕ → Bool) (from : ℕ) (r : Option Vpn) → ((w : ℕ) → g w ≡ f w) → IsNextFrom f from r → IsNextFrom g from r
next_same f g from None same none = λ w h l. none w (sym (same w) ∙ h) l
next_same f g from (Some v) same is = record { held = same v.0 ∙ is.held; low = is.low; least = λ w h l. is.least w (sym (same w) ∙ h) l }

module _ (newest : ℕ) (turning : newest < 7) (sets : List (List ℕ)) (is : AreGrouped sets (group_in sets)) where
  -- the group of a page is that of its age
  group_by_age : (w b : ℕ) → age_in newest sets w ≡ Some b → group_in sets w ≡ Some (turned newest b)
  group_by_age w b e = by (group_in sets w) e where
    by : (o : Option ℕ) → option_map (turned newest) o ≡ Some b → o ≡ Some (turned newest b)
    by None f = cc
    by (Some g) f =
        let age : turned newest g ≡ b = cc in
        ap (λ (n : ℕ). Some n) (sym (turned_back newest turning g) ∙ ap (turned newest) age)

  in_set : (w b : ℕ) → age_in newest sets w ≡ Some b → is_in sets (turned newest b) w ≡ true
  in_set w b e = set_of_group sets is w (turned newest b) (group_by_age w b e)

  pub none_younger : (limit before age : ℕ) → before ≡ age + 1 → NoAgeWithin (age_in newest sets) before limit → NoneFrom (is_in sets (turned newest age)) 0 → NoAgeWithin (age_in newest sets) age limit
  none_younger limit before age step none lacking w b h l = elim (cases_eq b age) [
    | inl same ↦ (let bad : true ≡ false = sym (in_set w b h) ∙ ap (λ n. is_in sets (turned newest n) w) same ∙ lacking w (omega arith) in cc)
    | inr other ↦ omega (arith, other, none w b h l, step)
  ]

  module _ (v g a : ℕ) (known : g ≤ 7) (aged : turned newest g ≡ a) where
    held_in : (x : ℕ) → is_in sets g x ≡ true → age_in newest sets x ≡ Some a
    held_in x held = ap (option_map (turned newest)) (group_of_set sets is x g known held) ∙ ap (λ (n : ℕ). Some n) aged

    -- a page of the same age is of the same group
    same_set : (w b : ℕ) → age_in newest sets w ≡ Some b → a ≡ b → is_in sets g w ≡ true
    same_set w b h same = ap (λ k. is_in sets k w) (sym (turned_back newest turning g) ∙ ap (turned newest) (aged ∙ same)) ∙ in_set w b h

    -- the lowest page of an age that none below `limit` exceeds
    pub oldest_is : (limit before x : ℕ) → before ≡ a + 1 → before ≤ limit → NoAgeWithin (age_in newest sets) before limit → IsLowestFrom (is_in sets g) 0 x → IsFirstOf (age_in newest sets) (IsBelow limit) x
    oldest_is limit before x step within none lowest = record {
      age = a;
      held = held_in x lowest.held;
      one = omega (arith, step, within);
      first = λ w b h l. before_or_same x a w b (omega (arith, none w b h l, step)) (λ same. lowest.least w (same_set w b h same) (omega arith));
    }

    -- the page after v is of the same age
    pub next_is : (x : ℕ) → IsLowestFrom (is_in sets g) (v + 1) x → IsFirstOf (age_in newest sets) (GoesBefore v a) x
    next_is x lowest = record {
      age = a;
      held = held_in x lowest.held;
      one = inr (refl, omega (arith, lowest.low));
      first = λ w b h goes. elim goes [
        | inl younger ↦ inr (inl younger)
        | inr after ↦ before_or_same x a w b (omega (arith, after.0)) (λ same. lowest.least w (same_set w b h same) (omega (arith, after.1)))
      ];
    }

    -- or else it is younger
    younger : NoneFrom (is_in sets g) (v + 1) → (w b : ℕ) → age_in newest sets w ≡ Some b → GoesBefore v a w b → b < a
    younger none w b h goes = elim goes [
      | inl less ↦ less
      | inr after ↦ (let bad : true ≡ false = sym (same_set w b h after.0) ∙ none w (omega (arith, after.1)) in cc)
    ]

    next_below : (r : Option Vpn) → NoneFrom (is_in sets g) (v + 1) → GoesFirst (age_in newest sets) (IsBelow a) r →
        GoesFirst (age_in newest sets) (GoesBefore v a) r
    next_below None lacking none = λ w b h goes. none w b h (younger lacking w b h goes)
    next_below (Some x) lacking first = record {
      age = first.age;
      held = first.held;
      one = inl first.one;
      first = λ w b h goes. first.first w b h (younger lacking w b h goes);
    }

  known_age : (v g a : ℕ) → group_in sets v ≡ Some g → age_in newest sets v ≡ Some a → turned newest g ≡ a
  known_age v g a e h = one_age (turned newest g) a (sym (ap (option_map (turned newest)) e) ∙ h)

  pub next_found : (v g x : ℕ) → group_in sets v ≡ Some g → IsLowestFrom (is_in sets g) (v + 1) x → (a : ℕ) → age_in newest sets v ≡ Some a → IsFirstOf (age_in newest sets) (GoesBefore v a) x
  next_found v g x e lowest a h = next_is v g a (is.known v g e) (known_age v g a e h) x lowest

  pub next_later : (v g limit : ℕ) (r : Option Vpn) → group_in sets v ≡ Some g → limit ≡ turned newest g → NoneFrom (is_in sets g) (v + 1) → GoesFirst (age_in newest sets) (IsBelow limit) r →
      (a : ℕ) → age_in newest sets v ≡ Some a → GoesFirst (age_in newest sets) (GoesBefore v a) r
  next_later v g limit r e is_limit none below a h =
      next_below v g a (is.known v g e) (known_age v g a e h) r none
      (subst (λ (n : ℕ). GoesFirst (age_in newest sets) (IsBelow n) r) (is_limit ∙ known_age v g a e h) below)

-- ---- by the map of ages

module _ (newest : ℕ) (sets : List (List ℕ)) (is : AreGrouped sets (group_in sets)) where
  -- what was found is the page that goes first after the one that is given, if any
  abbrev pub Answers : Option ℕ → Option Vpn → Type 0
  Answers after found = MatchOption found (NoneFollowsInSet (ages_by_group newest sets) after) (λ x. IsOldestInSet (ages_by_group newest sets) after x.0)

  from_map : (w b : ℕ) → finite.get (ages_by_group newest sets) w ≡ Some b → age_in newest sets w ≡ Some b
  from_map w b e = sym (get-ages newest sets is w) ∙ e

  pub answers_first : (found : Option Vpn) → ((v a : ℕ) → finite.get (ages_by_group newest sets) v ≡ Some a → a ≤ 7) → GoesFirst (age_in newest sets) (IsBelow 8) found → Answers None found
  answers_first None young none = λ w b e after. none w b (from_map w b e) (omega (arith, young w b e))
  answers_first (Some x) young first = record {
    age = first.age;
    held = get-ages newest sets is x.0 ∙ first.held;
    follows = tt;
    first = λ w b e after. first.first w b (from_map w b e) (omega (arith, young w b e));
  }

  next_at : (v a : ℕ) (found : Option Vpn) → age_in newest sets v ≡ Some a → GoesFirst (age_in newest sets) (GoesBefore v a) found → Answers (Some v) found
  next_at v a None held none = λ w b e after. none w b (from_map w b e) (after a (get-ages newest sets is v ∙ held))
  next_at v a (Some x) held first = record {
    age = first.age;
    held = get-ages newest sets is x.0 ∙ first.held;
    follows = λ age e. (let same : a ≡ age = one_age a age (sym held ∙ from_map v age e) in subst (λ (n : ℕ). GoesBefore v n x.0 first.age) same first.one);
    first = λ w b e after. first.first w b (from_map w b e) (after a (get-ages newest sets is v ∙ held));
  }

  pub answers_next : (v : ℕ) (found : Option Vpn) → IsSome (finite.get (ages_by_group newest sets) v) → ((a : ℕ) → age_in newest sets v ≡ Some a → GoesFirst (age_in newest sets) (GoesBefore v a) found) → Answers (Some v) found
  answers_next v found some next = by (age_in newest sets v) refl (ap is_some (sym (get-ages newest sets is v)) ∙ some) where
    by : (o : Option ℕ) → age_in newest sets v ≡ o → IsSome o → Answers (Some v) found
    by None e h = let bad : false ≡ true = h in cc
    by (Some a) e h = next_at v a found e (next a e)

-- without a set there is no page
pub no_page : (newest : ℕ) (sets : List (List ℕ)) → AreGrouped sets (group_in sets) → length sets ≡ 0 → (w b : ℕ) → age_in newest sets w ≡ Some b → ⊥
no_page newest sets is empty w b e = none_held newest sets is empty w (ap is_some (get-ages newest sets is w) ∙ ap is_some e)
