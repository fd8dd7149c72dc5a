-- What numbers have in leaves, and what becomes of it where a place is written, leaves are added and a leaf gets its places.
use Rattle.std.proofs.Common.{◌≡◌, ℕ, zero, suc, ◌-◌, ◌/◌, ◌%◌, ◌<◌, ◌≤◌, Bool, true, false, cond, List, [], ◌∷◌, ◌++◌, length, get_or, set, take, replicate, Option, Some, None, refl, sym, ap, ◌∙◌, inl, inr, arith, ltb, get_or-set_same, get_or-set_other}
use Rattle.std.specs.Prelude.{◌==◌, ◌↔◌, slice_get, slice_set, IsTrue, IsSome, is_some}
use Rattle.std.specs.Vec.{with_item}
use Rattle.std.specs.declared.vec.Vec.{Vec}
use Rattle.std.proofs.lemmas.Bool.{cases_lt, cases_eq, ltb-true, lt-ltb, eqb-true, eq-eqb, ne_eqb, cond-true, cond-false}
use Rattle.std.proofs.lemmas.List.{get_or_past, get_or_append_left, get_or-append_right, get_or_read, take_all}
use Rattle.std.proofs.lemmas.Option.{slice_get_read, slice_get_past}
use Rattle.mm_types.proofs.{get_set_same, get_set_other}
use Rattle.mm_replay.proofs.Outcomes.{filled_at, kept_at}
use Rattle.mm_replay.specs.{in_leaf, leaf_len, in_leaves, HasPlace, Sets, Same}

-- ---- functions of numbers

module _ {X : Type 0} where
  pub set_after : (f g h : ℕ → X) (n : ℕ) (x : X) → Same f g → Sets g h n x → Sets f h n x
  set_after f g h n x same sets = λ q. sets q ∙ ap (λ (y : X). cond (q == n) x y) (same q)

  pub set_to_same : (f : ℕ → X) (n : ℕ) (x : X) → f n ≡ x → Sets f f n x
  set_to_same f n x is = λ q. sym (kept_at (q == n) x (f q) (λ t. sym (ap f (eqb-true q n t) ∙ is)))

  pub same_twice : (f g h : ℕ → X) → Same f g → Same g h → Same f h
  same_twice f g h a b = λ q. b q ∙ a q

-- ---- leaves of any kind

module _ {X Z : Type 0} where
  pub place_within : (leaves : List (Vec X Z)) (n : ℕ) → HasPlace leaves n → n / 256 < length leaves
  place_within leaves n place = elim (cases_lt (n / 256) (length leaves)) [
    | inl near ↦ near
    | inr far ↦
        let none : leaf_len (slice_get leaves (n / 256)) ≡ 0 = ap (λ (o : Option (Vec X Z)). leaf_len o) (slice_get_past leaves (n / 256) far) in
        absurd (omega (arith, none, place))
  ]

  -- the leaf of a number
  module _ (leaves : List (Vec X Z)) (n : ℕ) (leaf : Vec X Z) (range : n / 256 < length leaves) (is : leaf ≡ get_or leaves (n / 256) leaf) where
    pub leaf_is : slice_get leaves (n / 256) ≡ Some leaf
    leaf_is = slice_get_read leaves (length leaves) (n / 256) leaf refl range is

    places : leaf_len (slice_get leaves (n / 256)) ≡ length leaf.items
    places = ap (λ (o : Option (Vec X Z)). leaf_len o) leaf_is

    pub place_in : HasPlace leaves n → n % 256 < length leaf.items
    place_in place = omega (arith, places, place)

    pub place_tested : (len : ℕ) → len ≡ length leaf.items → IsTrue (ltb (n % 256) len) ↔ HasPlace leaves n
    place_tested len counted = (
      (λ t. let near : n % 256 < len = ltb-true (n % 256) len t in omega (arith, places, counted, near)),
      (λ place. lt-ltb (n % 256) len (omega (arith, places, counted, place))),
    )

  pub no_place : (leaves : List (Vec X Z)) (n : ℕ) → length leaves ≤ n / 256 → IsTrue false ↔ HasPlace leaves n
  no_place leaves n far = (
    (λ t. let bad : false ≡ true = t in cc),
    (λ place. absurd (omega (arith, far, place_within leaves n place))),
  )

-- ---- a leaf that gets places without values

module _ {X : Type 0} where
  extended : (xs : List (Option X)) (k i : ℕ) → get_or (xs ++ replicate k None) i None ≡ get_or xs i None
  extended xs k i = elim (cases_lt i (length xs)) [
    | inl near ↦ get_or_append_left xs (replicate k None) None i near
    | inr far ↦ get_or-append_right xs (replicate k None) (length xs) i None refl far ∙ filled_at k (i - length xs) None ∙ sym (get_or_past xs i None far)
  ]

  pub resized : (xs new : List (Option X)) (k : ℕ) → new ≡ take 256 xs ++ replicate k None → length xs ≤ 256 → (i : ℕ) → get_or new i None ≡ get_or xs i None
  resized xs new k is few i =
      ap (λ (ys : List (Option X)). get_or ys i None) (is ∙ ap (λ (ys : List (Option X)). ys ++ replicate k None) (take_all 256 xs few)) ∙ extended xs k i

-- ---- leaves of values

module _ {X Z : Type 0} where
  pub none_in : (n : ℕ) (leaves : List (Vec (Option X) Z)) → leaves ≡ [] → in_leaves leaves n ≡ None
  unfolding in_leaves
  none_in n leaves e = ap (λ (ls : List (Vec (Option X) Z)). in_leaf (slice_get ls (n / 256)) (n % 256)) e

  some_within : (o : Option (Vec (Option X) Z)) (j : ℕ) → is_some (in_leaf o j) ≡ true → j < leaf_len o
  some_within None j some = cc
  some_within (Some leaf) j some = elim (cases_lt j (length leaf.items)) [
    | inl near ↦ near
    | inr far ↦
        let bad : false ≡ true = sym (ap is_some (get_or_past leaf.items j None far)) ∙ some in
        cc
  ]

  pub place_of_some : (leaves : List (Vec (Option X) Z)) (n : ℕ) → IsSome (in_leaves leaves n) → HasPlace leaves n
  unfolding in_leaves
  place_of_some leaves n some = some_within (slice_get leaves (n / 256)) (n % 256) some

  none_without : (o : Option (Vec (Option X) Z)) (j : ℕ) → (j < leaf_len o → ⊥) → in_leaf o j ≡ None
  none_without None j h = refl
  none_without (Some leaf) j h = elim (cases_lt j (length leaf.items)) [
    | inl near ↦ absurd (h near)
    | inr far ↦ get_or_past leaf.items j None far
  ]

  none_of : (leaves : List (Vec (Option X) Z)) (n : ℕ) → (HasPlace leaves n → ⊥) → in_leaves leaves n ≡ None
  unfolding in_leaves
  none_of leaves n h = none_without (slice_get leaves (n / 256)) (n % 256) h

  -- a number that was tested and has no place
  pub none_placed : (leaves : List (Vec (Option X) Z)) (n : ℕ) (b : Bool) → IsTrue b ↔ HasPlace leaves n → b ≡ false → in_leaves leaves n ≡ None
  none_placed leaves n b test e = none_of leaves n (λ place. let bad : false ≡ true = sym e ∙ test.1 place in cc)

  -- what is read at a place
  pub value_is : (leaves : List (Vec (Option X) Z)) (n : ℕ) (leaf : Vec (Option X) Z) (x : Option X) → HasPlace leaves n → leaf ≡ get_or leaves (n / 256) leaf → x ≡ get_or leaf.items (n % 256) x → x ≡ in_leaves leaves n
  unfolding in_leaves
  value_is leaves n leaf x place is at =
      let range : n / 256 < length leaves = place_within leaves n place in
      get_or_read leaf.items (n % 256) x (place_in leaves n leaf range is place) at None
      ∙ sym (ap (λ (o : Option (Vec (Option X) Z)). in_leaf o (n % 256)) (leaf_is leaves n leaf range is))

  -- a place is written
  module _ (leaves : List (Vec (Option X) Z)) (n : ℕ) (leaf : Vec (Option X) Z) (x : Option X) (place : HasPlace leaves n) (is : leaf ≡ get_or leaves (n / 256) leaf) where
    abbrev after : List (Vec (Option X) Z)
    after = slice_set leaves (n / 256) (with_item leaf (n % 256) x)

    new_at : (q : ℕ) → q / 256 ≡ n / 256 → in_leaves after q ≡ get_or (set leaf.items (n % 256) x) (q % 256) None
    unfolding in_leaves
    new_at q e =
        ap (λ (i : ℕ). in_leaf (slice_get after i) (q % 256)) e
        ∙ ap (λ (o : Option (Vec (Option X) Z)). in_leaf o (q % 256)) (get_set_same leaves (n / 256) (with_item leaf (n % 256) x) (place_within leaves n place))

    old_at : (q : ℕ) → q / 256 ≡ n / 256 → in_leaves leaves q ≡ get_or leaf.items (q % 256) None
    unfolding in_leaves
    old_at q e =
        ap (λ (i : ℕ). in_leaf (slice_get leaves i) (q % 256)) e
        ∙ ap (λ (o : Option (Vec (Option X) Z)). in_leaf o (q % 256)) (leaf_is leaves n leaf (place_within leaves n place) is)

    away : (q : ℕ) → (q / 256 ≡ n / 256 → ⊥) → in_leaves after q ≡ in_leaves leaves q
    unfolding in_leaves
    away q other = ap (λ (o : Option (Vec (Option X) Z)). in_leaf o (q % 256)) (get_set_other leaves (n / 256) (q / 256) (with_item leaf (n % 256) x) other)

    other_kept : (q : ℕ) → (q ≡ n → ⊥) → in_leaves after q ≡ in_leaves leaves q
    other_kept q differs = elim (cases_eq (q / 256) (n / 256)) [
      | inl e ↦
          new_at q e ∙ get_or-set_other leaf.items (n % 256) (q % 256) x None (λ i. differs (omega (arith, i, e)))
          ∙ sym (old_at q e)
      | inr other ↦ away q other
    ]

    same_set : (q : ℕ) → q ≡ n → in_leaves after q ≡ x
    same_set q e =
        new_at q (ap (λ (k : ℕ). k / 256) e)
        ∙ ap (λ (k : ℕ). get_or (set leaf.items (n % 256) x) (k % 256) None) e
        ∙ get_or-set_same leaf.items (n % 256) x None (place_in leaves n leaf (place_within leaves n place) is place)

    pub put_sets : Sets (in_leaves leaves) (in_leaves (slice_set leaves (n / 256) (with_item leaf (n % 256) x))) n x
    put_sets = λ q. elim (cases_eq q n) [
      | inl e ↦ same_set q e ∙ sym (cond-true (q == n) x (in_leaves leaves q) (eq-eqb q n e))
      | inr differs ↦ other_kept q differs ∙ sym (cond-false (q == n) x (in_leaves leaves q) (ne_eqb q n differs))
    ]

  -- a leaf without places comes at the end
  push_at : (leaves : List (Vec (Option X) Z)) (leaf : Vec (Option X) Z) (i j : ℕ) → leaf.items ≡ [] → in_leaf (slice_get (leaves ++ leaf ∷ []) i) j ≡ in_leaf (slice_get leaves i) j
  push_at [] leaf zero j e = ap (λ (xs : List (Option X)). get_or xs j None) e
  push_at [] leaf (suc i) j e = refl
  push_at (l ∷ ls) leaf zero j e = refl
  push_at (l ∷ ls) leaf (suc i) j e = push_at ls leaf i j e

  pub push_keeps : (leaves new : List (Vec (Option X) Z)) (leaf : Vec (Option X) Z) → new ≡ leaves ++ leaf ∷ [] → leaf.items ≡ [] → Same (in_leaves leaves) (in_leaves new)
  unfolding in_leaves
  push_keeps leaves new leaf is empty = λ q.
      ap (λ (ls : List (Vec (Option X) Z)). in_leaf (slice_get ls (q / 256)) (q % 256)) is ∙ push_at leaves leaf (q / 256) (q % 256) empty

  -- a leaf comes in another's place that has the same values
  module _ (leaves : List (Vec (Option X) Z)) (n : ℕ) (full : Vec (Option X) Z) (range : n / 256 < length leaves) where
    leaf_full : slice_get (slice_set leaves (n / 256) full) (n / 256) ≡ Some full
    leaf_full = get_set_same leaves (n / 256) full range

    pub full_place : 256 ≤ length full.items → HasPlace (slice_set leaves (n / 256) full) n
    full_place many =
        let places : leaf_len (slice_get (slice_set leaves (n / 256) full) (n / 256)) ≡ length full.items = ap (λ (o : Option (Vec (Option X) Z)). leaf_len o) leaf_full in
        omega (arith, places, many)

    pub full_keeps : (leaf : Vec (Option X) Z) → leaf ≡ get_or leaves (n / 256) leaf → ((i : ℕ) → get_or full.items i None ≡ get_or leaf.items i None) → Same (in_leaves leaves) (in_leaves (slice_set leaves (n / 256) full))
    unfolding in_leaves
    full_keeps leaf is same = λ q. elim (cases_eq (q / 256) (n / 256)) [
      | inl e ↦
          ap (λ (i : ℕ). in_leaf (slice_get (slice_set leaves (n / 256) full) i) (q % 256)) e
          ∙ ap (λ (o : Option (Vec (Option X) Z)). in_leaf o (q % 256)) leaf_full
          ∙ same (q % 256)
          ∙ ap (λ (o : Option (Vec (Option X) Z)). in_leaf o (q % 256)) (sym (leaf_is leaves n leaf range is))
          ∙ ap (λ (i : ℕ). in_leaf (slice_get leaves i) (q % 256)) (sym e)
      | inr other ↦ ap (λ (o : Option (Vec (Option X) Z)). in_leaf o (q % 256)) (get_set_other leaves (n / 256) (q / 256) full other)
    ]
