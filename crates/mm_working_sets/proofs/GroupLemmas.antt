-- The groups of pages: of what group a page is, and what a change of one page, or of a group, leaves.
use Rattle.std.proofs.Common.{◌≡◌, ◌≢◌, ℕ, zero, suc, ◌+◌, ◌-◌, ◌^◌, ◌<◌, ◌≤◌, Bool, true, false, cond, eqb, List, [], ◌∷◌, ◌++◌, length, set, get_or, Option, Some, None, refl, sym, ap, ◌∙◌, inl, inr, arith, get_or-set_same, get_or-set_other}
use Rattle.std.proofs.lemmas.Bool.{cases_eq, cases_lt, eq-eqb, ne_eqb, eqb-true, false_from_ne_true, or_right, or_parts}
use Rattle.std.proofs.lemmas.List.{get_or_past, get_or_read, get_or_append_left, get_or-append_right}
use Rattle.std.proofs.lemmas.List.FromFn.{get_or-range_with_len, length-range_with_len}
use Rattle.std.proofs.lemmas.Option.{slice_get-get_or, slice_get_past}
use Rattle.std.proofs.Math.ListN.{length-set}
use Rattle.std.specs.Prelude.{◌||◌, IsSome, is_some, option_map, slice_get}
use Rattle.std.specs.List.{range_with_len}
use Rattle.std.specs.Ordering.{nat_cmp}
use Rattle.std.specs.FinMap as finite
use Rattle.mm_types.specs.{found}
use Rattle.mm_types.proofs.{get_table, is_insert, is_remove, same}
use Rattle.mm_bits.specs.{have_bit, IsLowestFrom, put_at, NoneFrom}
use Rattle.mm_working_sets.specs.{older, AgesBy, turned, next_newest, numbers_below, is_in, group_below, group_in, age_in}
use Rattle.mm_working_sets.specs.{ages_by_group, is_group, AreGrouped, IsGrouped, PutsPage, Joins, retired_to}
use Rattle.mm_bits.proofs.{no_bits}
use Rattle.mm_working_sets.proofs.RingLemmas.{turned_newest, turned_older, next_turns}

-- ---- the group of a page

none_below : (sets : List (List ℕ)) (v n : ℕ) → ((g : ℕ) → g < n → is_in sets g v ≡ false) → group_below sets v n ≡ None
unfolding group_below
none_below sets v zero none = refl
none_below sets v (suc g) none = ap (λ b. cond b (Some g) (group_below sets v g)) (none g (omega arith)) ∙ none_below sets v g (λ h l. none h (omega arith))

one_below : (sets : List (List ℕ)) (v h n : ℕ) → h < n → ((g : ℕ) → g < n → is_in sets g v ≡ eqb h g) → group_below sets v n ≡ Some h
unfolding group_below
one_below sets v h zero low is = absurd (omega arith)
one_below sets v h (suc g) low is = elim (cases_eq h g) [
  | inl here ↦ ap (λ b. cond b (Some g) (group_below sets v g)) (is g (omega arith) ∙ eq-eqb h g here) ∙ ap (λ (n : ℕ). Some n) (sym here)
  | inr other ↦
      ap (λ b. cond b (Some g) (group_below sets v g)) (is g (omega arith) ∙ ne_eqb h g other)
      ∙ one_below sets v h g (omega (arith, other)) (λ k l. is k (omega arith))
]

number_at : (n v : ℕ) → v < n → slice_get (numbers_below n) v ≡ Some v
unfolding numbers_below
number_at n v near = slice_get-get_or (range_with_len 0 n) v 0 (omega (arith, near, length-range_with_len 0 n)) ∙ ap (λ (k : ℕ). Some k) (get_or-range_with_len 0 n v 0 near ∙ omega arith)

number_past : (n v : ℕ) → n ≤ v → slice_get (numbers_below n) v ≡ None
unfolding numbers_below
number_past n v far = slice_get_past (range_with_len 0 n) v (omega (arith, far, length-range_with_len 0 n))

module _ (sets : List (List ℕ)) (group : ℕ → Option ℕ) (is : AreGrouped sets group) where
  group_is : (v : ℕ) → group_in sets v ≡ group v
  unfolding group_in
  group_is v = by (group v) refl where
    by : (o : Option ℕ) → group v ≡ o → group_below sets v 8 ≡ group v
    by None e = none_below sets v 8 (λ g l. is.each g v (omega arith) ∙ ap (λ o. is_group o g) e) ∙ sym e
    by (Some h) e = one_below sets v h 8 (omega (arith, is.known v h e)) (λ g l. is.each g v (omega arith) ∙ ap (λ o. is_group o g) e) ∙ sym e

  pub are_grouped : AreGrouped sets (group_in sets)
  are_grouped = record {
    each = λ g v l. is.each g v l ∙ ap (λ o. is_group o g) (sym (group_is v));
    all = λ v. is.all v ∙ ap is_some (sym (group_is v));
    known = λ v g e. is.known v g (sym (group_is v) ∙ e);
    low = λ v g e. is.low v g (sym (group_is v) ∙ e);
  }

  none_high : (newest v : ℕ) → 2 ^ 19 ≤ v → option_map (turned newest) (group v) ≡ None
  none_high newest v high = by (group v) refl where
    by : (o : Option ℕ) → group v ≡ o → option_map (turned newest) (group v) ≡ None
    by None e = ap (option_map (turned newest)) e
    by (Some g) e = absurd (omega (arith, high, is.low v g e))

  get_by : (newest v : ℕ) → finite.get (ages_by_group newest sets) v ≡ option_map (turned newest) (group v)
  unfolding ages_by_group
  get_by newest v =
      get_table (age_in newest sets) (numbers_below 524288) v ∙ elim (cases_lt v 524288) [
        | inl near ↦ ap (found (age_in newest sets)) (number_at 524288 v near) ∙ ap (option_map (turned newest)) (group_is v)
        | inr far ↦ ap (found (age_in newest sets)) (number_past 524288 v far) ∙ sym (none_high newest v far)
      ]

pub get-ages : (newest : ℕ) (sets : List (List ℕ)) → AreGrouped sets (group_in sets) → (v : ℕ) → finite.get (ages_by_group newest sets) v ≡ age_in newest sets v
get-ages newest sets is v = get_by sets (group_in sets) is newest v

same_some : (f : ℕ → ℕ) (o : Option ℕ) → is_some (option_map f o) ≡ is_some o
same_some f None = refl
same_some f (Some x) = refl

module _ (newest : ℕ) (sets : List (List ℕ)) (is : AreGrouped sets (group_in sets)) where
  -- a page has a group where it has an age
  has_both : (v : ℕ) → is_some (finite.get (ages_by_group newest sets) v) ≡ is_some (group_in sets v)
  has_both v = ap is_some (get-ages newest sets is v) ∙ same_some (turned newest) (group_in sets v)

  pub some_group : (v : ℕ) → IsSome (finite.get (ages_by_group newest sets) v) → IsSome (group_in sets v)
  some_group v held = sym (has_both v) ∙ held

  pub in_all : (v : ℕ) → is_in sets 8 v ≡ is_some (finite.get (ages_by_group newest sets) v)
  in_all v = is.all v ∙ sym (has_both v)

  -- a page without an age has no group
  pub no_group : (v : ℕ) → finite.get (ages_by_group newest sets) v ≡ None → group_in sets v ≡ None
  no_group v e = by (group_in sets v) (sym (get-ages newest sets is v) ∙ e) where
    by : (o : Option ℕ) → option_map (turned newest) o ≡ None → o ≡ None
    by None e = refl
    by (Some g) e = cc

-- ---- sets as such

is_in_past : (sets : List (List ℕ)) (g v : ℕ) → length sets ≤ g → is_in sets g v ≡ false
unfolding is_in
is_in_past sets g v past = ap (λ (ws : List ℕ). have_bit ws v) (get_or_past sets g [] past) ∙ no_bits [] refl v

pub set_within : (sets : List (List ℕ)) (g v : ℕ) → is_in sets g v ≡ true → g < length sets
set_within sets g v held = elim (cases_lt g (length sets)) [
  | inl near ↦ near
  | inr far ↦ (let bad : true ≡ false = sym held ∙ is_in_past sets g v far in cc)
]

no_sets : (sets : List (List ℕ)) → ((g v : ℕ) → is_in sets g v ≡ false) → AreGrouped sets (λ v. None)
no_sets sets none = record {
  each = λ g v l. none g v;
  all = λ v. none 8 v;
  known = λ v g e. cc;
  low = λ v g e. cc;
}

pub empty_sets : (sets : List (List ℕ)) → length sets ≡ 0 → (g v : ℕ) → is_in sets g v ≡ false
empty_sets sets empty g v = is_in_past sets g v (omega (arith, empty))

pub empty_ages : (newest : ℕ) (sets : List (List ℕ)) → ((g v : ℕ) → is_in sets g v ≡ false) → ages_by_group newest sets ≡ finite.empty
empty_ages newest sets none = same (ages_by_group newest sets) finite.empty (λ v. get_by sets (λ w. None) (no_sets sets none) newest v ∙ sym (finite.get-empty nat_cmp v))

-- ---- one page is put into a set or taken out

in_here : (sets : List (List ℕ)) (s : List ℕ) (set' g v : ℕ) → set' < length sets → g ≡ set' → is_in (set sets set' s) g v ≡ have_bit s v
unfolding is_in
in_here sets s set' g v within e = ap (λ (k : ℕ). have_bit (get_or (set sets set' s) k []) v) e ∙ ap (λ (ws : List ℕ). have_bit ws v) (get_or-set_same sets set' s [] within)

in_there : (sets : List (List ℕ)) (s : List ℕ) (set' g v : ℕ) → g ≢ set' → is_in (set sets set' s) g v ≡ is_in sets g v
unfolding is_in
in_there sets s set' g v other = ap (λ (ws : List ℕ). have_bit ws v) (get_or-set_other sets set' g s [] other)

-- what was read of a set
pub in_read : (sets : List (List ℕ)) (s : List ℕ) (g v : ℕ) → g < length sets → s ≡ get_or sets g s → is_in sets g v ≡ have_bit s v
unfolding is_in
in_read sets s g v within read = ap (λ (ws : List ℕ). have_bit ws v) (sym (get_or_read sets g s within read []))

pub puts_page : (b : Bool) (old : List (List ℕ)) (s s' : List ℕ) (set' page : ℕ) → set' < length old → s ≡ get_or old set' s → ((v : ℕ) → have_bit s' v ≡ put_at b page (have_bit s) v) → PutsPage b old (set old set' s') set' page
puts_page b old s s' set' page within read puts = record {
  here = in_here old s' set' set' page within refl ∙ puts page ∙ ap (λ t. cond t b (have_bit s page)) (eq-eqb page page refl);
  other_sets = λ g v other. in_there old s' set' g v other;
  other_pages = λ g v other. elim (cases_eq g set') [
    | inl here ↦
        in_here old s' set' g v within here ∙ puts v ∙ ap (λ t. cond t b (have_bit s v)) (ne_eqb v page other)
        ∙ sym (in_read old s set' v within read) ∙ ap (λ k. is_in old k v) (sym here)
    | inr there ↦ in_there old s' set' g v there
  ];
  count = length-set old set' s';
}

-- ---- one page has another group

abbrev pub with_group : Option ℕ → ℕ → (ℕ → Option ℕ) → ℕ → Option ℕ
with_group o v group w = cond (eqb w v) o (group w)

module _ (o : Option ℕ) (v : ℕ) (group : ℕ → Option ℕ) where
  at_page : (w : ℕ) → w ≡ v → with_group o v group w ≡ o
  at_page w here = ap (λ b. cond b o (group w)) (eq-eqb w v here)

  elsewhere : (w : ℕ) → w ≢ v → with_group o v group w ≡ group w
  elsewhere w other = ap (λ b. cond b o (group w)) (ne_eqb w v other)

  regrouped : (old new : List (List ℕ)) → AreGrouped old group → ((g w : ℕ) → w ≢ v → is_in new g w ≡ is_in old g w) → ((g : ℕ) → g ≤ 7 → is_in new g v ≡ is_group o g) → is_in new 8 v ≡ is_some o →
      ((g : ℕ) → o ≡ Some g → (g ≤ 7) × (v < 2 ^ 19)) → AreGrouped new (with_group o v group)
  regrouped old new is others each all known = record {
    each = λ g w l. elim (cases_eq w v) [
      | inl here ↦ ap (is_in new g) here ∙ each g l ∙ ap (λ p. is_group p g) (sym (at_page w here))
      | inr other ↦ others g w other ∙ is.each g w l ∙ ap (λ p. is_group p g) (sym (elsewhere w other))
    ];
    all = λ w. elim (cases_eq w v) [
      | inl here ↦ ap (is_in new 8) here ∙ all ∙ ap is_some (sym (at_page w here))
      | inr other ↦ others 8 w other ∙ is.all w ∙ ap is_some (sym (elsewhere w other))
    ];
    known = λ w g e. elim (cases_eq w v) [
      | inl here ↦ (known g (sym (at_page w here) ∙ e)).0
      | inr other ↦ is.known w g (sym (elsewhere w other) ∙ e)
    ];
    low = λ w g e. elim (cases_eq w v) [
      | inl here ↦ (let bound = (known g (sym (at_page w here) ∙ e)).1 in omega (arith, bound, here))
      | inr other ↦ is.low w g (sym (elsewhere w other) ∙ e)
    ];
  }

number : (a b : ℕ) → Some a ≡ Some b → a ≡ b
number a b e = cc

module _ (newest v : ℕ) (old mid new : List (List ℕ)) (turning : newest < 7) (is : AreGrouped old (group_in old)) where
  -- a page comes to the newest group
  module _ (low : v < 2 ^ 19) (absent : group_in old v ≡ None) (puts : PutsPage true old mid newest v) (all : PutsPage true mid new 8 v) where
    pub added : AreGrouped new (with_group (Some newest) v (group_in old))
    added = regrouped (Some newest) v (group_in old) old new is
        (λ g w other. all.other_pages g w other ∙ puts.other_pages g w other)
        (λ g l. all.other_sets g v (omega (arith, l)) ∙ (elim (cases_eq newest g) [
          | inl here ↦ ap (λ k. is_in mid k v) (sym here) ∙ puts.here ∙ sym (eq-eqb newest g here)
          | inr other ↦ puts.other_sets g v (λ e. other (sym e)) ∙ is.each g v l ∙ ap (λ p. is_group p g) absent ∙ sym (ne_eqb newest g other)
        ]))
        all.here
        (λ g e. (omega (arith, number newest g e, turning), low))

  module _ (group : ℕ) (held : group_in old v ≡ Some group) (takes : PutsPage false old mid group v) where
    outside : (g : ℕ) → g ≤ 7 → is_in mid g v ≡ false
    outside g l = elim (cases_eq group g) [
      | inl here ↦ ap (λ k. is_in mid k v) (sym here) ∙ takes.here
      | inr other ↦ takes.other_sets g v (λ e. other (sym e)) ∙ is.each g v l ∙ ap (λ p. is_group p g) held ∙ ne_eqb group g other
    ]

    -- a page goes
    pub removed : PutsPage false mid new 8 v → AreGrouped new (with_group None v (group_in old))
    removed all = regrouped None v (group_in old) old new is
        (λ g w other. all.other_pages g w other ∙ takes.other_pages g w other)
        (λ g l. all.other_sets g v (omega (arith, l)) ∙ outside g l)
        all.here
        (λ g e. cc)

    -- a page goes to the newest group
    pub renewed : PutsPage true mid new newest v → AreGrouped new (with_group (Some newest) v (group_in old))
    renewed puts = regrouped (Some newest) v (group_in old) old new is
        (λ g w other. puts.other_pages g w other ∙ takes.other_pages g w other)
        (λ g l. elim (cases_eq newest g) [
          | inl here ↦ ap (λ k. is_in new k v) (sym here) ∙ puts.here ∙ sym (eq-eqb newest g here)
          | inr other ↦ puts.other_sets g v (λ e. other (sym e)) ∙ outside g l ∙ sym (ne_eqb newest g other)
        ])
        (puts.other_sets 8 v (omega (arith, turning)) ∙ takes.other_sets 8 v (omega (arith, is.known v group held)) ∙ is.all v ∙ ap is_some held)
        (λ g e. (omega (arith, number newest g e, turning), is.low v group held))

-- the map where one page has another group
module _ (newest v : ℕ) (old new : List (List ℕ)) (is : AreGrouped old (group_in old)) where
  pub ages_insert : AreGrouped new (with_group (Some newest) v (group_in old)) → ages_by_group newest new ≡ finite.insert (ages_by_group newest old) v 0
  ages_insert now = is_insert (ages_by_group newest old) (ages_by_group newest new) v 0
      (get_by new (with_group (Some newest) v (group_in old)) now newest v ∙ ap (option_map (turned newest)) (at_page (Some newest) v (group_in old) v refl) ∙ ap (λ (n : ℕ). Some n) (turned_newest newest))
      (λ q other.
      get_by new (with_group (Some newest) v (group_in old)) now newest q ∙ ap (option_map (turned newest)) (elsewhere (Some newest) v (group_in old) q other)
      ∙ sym (get-ages newest old is q))

  pub ages_remove : AreGrouped new (with_group None v (group_in old)) → ages_by_group newest new ≡ finite.remove (ages_by_group newest old) v
  ages_remove now = is_remove (ages_by_group newest old) (ages_by_group newest new) v
      (get_by new (with_group None v (group_in old)) now newest v ∙ ap (option_map (turned newest)) (at_page None v (group_in old) v refl))
      (λ q other.
      get_by new (with_group None v (group_in old)) now newest q ∙ ap (option_map (turned newest)) (elsewhere None v (group_in old) q other)
      ∙ sym (get-ages newest old is q))

-- ---- the pages of a group join those of the greatest age

pub joins_empty : (sets : List (List ℕ)) (group below : ℕ) → length sets ≡ 0 → Joins sets sets group below
joins_empty sets group below empty = record { gone = λ v l. empty_sets sets empty group v; both = λ v. refl; others = λ g v d e. refl; count = refl }

or_same : (a b c d : Bool) → a ≡ c → b ≡ d → (a || b) ≡ (c || d)
or_same a b c d e f = ap (λ x. x || b) e ∙ ap (λ x. c || x) f

module _ (old sets : List (List ℕ)) (group from : ℕ) (turns : group < 7) (is : Joins old sets group from) where
  pub joins_more : (mid new : List (List ℕ)) (page : ℕ) → IsLowestFrom (is_in sets group) from page → PutsPage false sets mid group page → PutsPage true mid new 7 page → Joins old new group (page + 1)
  joins_more mid new page lowest takes puts = record {
    gone = λ v l. elim (cases_eq v page) [
      | inl here ↦ ap (is_in new group) here ∙ puts.other_sets group page (omega (arith, turns)) ∙ takes.here
      | inr other ↦ puts.other_pages group v other ∙ takes.other_pages group v other ∙ (elim (cases_lt v from) [
        | inl low ↦ is.gone v low
        | inr high ↦ false_from_ne_true (is_in sets group v) (λ held. (let least = lowest.least v held high in absurd (omega (arith, least, l, other))))
      ])
    ];
    both = λ v. elim (cases_eq v page) [
      | inl here ↦
          ap (λ w. is_in new 7 w || is_in new group w) here ∙ ap (λ b. b || is_in new group page) puts.here
          ∙ sym (or_right (is_in sets 7 page) (is_in sets group page) lowest.held)
          ∙ is.both page ∙ ap (λ w. is_in old 7 w || is_in old group w) (sym here)
      | inr other ↦
          or_same (is_in new 7 v) (is_in new group v) (is_in sets 7 v) (is_in sets group v) (puts.other_pages 7 v other ∙ takes.other_pages 7 v other) (puts.other_pages group v other ∙ takes.other_pages group v other)
          ∙ is.both v
    ];
    others = λ g v d e. puts.other_sets g v d ∙ takes.other_sets g v e ∙ is.others g v d e;
    count = puts.count ∙ takes.count ∙ is.count;
  }

  pub joins_all : (below : ℕ) → NoneFrom (is_in sets group) from → Joins old sets group below
  joins_all below none = record {
    gone = λ v l. elim (cases_lt v from) [ inl low ↦ is.gone v low | inr high ↦ none v high ];
    both = is.both;
    others = is.others;
    count = is.count;
  }

module _ (group : ℕ) (turns : group < 7) where
  retired_same : (h : ℕ) → h ≡ group → retired_to group h ≡ 7
  retired_same h e = ap (λ b. cond b 7 h) (eq-eqb h group e)

  retired_other : (h : ℕ) → h ≢ group → retired_to group h ≡ h
  retired_other h d = ap (λ b. cond b 7 h) (ne_eqb h group d)

  never_there : (h : ℕ) → retired_to group h ≢ group
  never_there h e = elim (cases_eq h group) [
    | inl here ↦ omega (arith, retired_same h here, e, turns)
    | inr other ↦ other (sym (retired_other h other) ∙ e)
  ]

  to_oldest : (o : Option ℕ) → (is_group o 7 || is_group o group) ≡ is_group (option_map (retired_to group) o) 7
  to_oldest None = refl
  to_oldest (Some h) = elim (cases_eq h group) [
    | inl here ↦ or_right (eqb h 7) (eqb h group) (eq-eqb h group here) ∙ sym (eq-eqb (retired_to group h) 7 (retired_same h here))
    | inr other ↦
        or_same (eqb h 7) (eqb h group) (eqb h 7) false refl (ne_eqb h group other) ∙ or_none (eqb h 7)
        ∙ ap (λ k. eqb k 7) (sym (retired_other h other))
  ] where
    or_none : (b : Bool) → (b || false) ≡ b
    or_none true = refl
    or_none false = refl

  none_there : (o : Option ℕ) → false ≡ is_group (option_map (retired_to group) o) group
  none_there None = refl
  none_there (Some h) = sym (ne_eqb (retired_to group h) group (never_there h))

  as_before : (o : Option ℕ) (g : ℕ) → g ≢ 7 → g ≢ group → is_group o g ≡ is_group (option_map (retired_to group) o) g
  as_before None g d e = refl
  as_before (Some h) g d e = elim (cases_eq h group) [
    | inl here ↦ ne_eqb h g (λ same. e (sym same ∙ here)) ∙ sym (ne_eqb (retired_to group h) g (λ same. d (sym same ∙ retired_same h here)))
    | inr other ↦ ap (λ k. eqb k g) (sym (retired_other h other))
  ]

  was : (o : Option ℕ) (g : ℕ) → option_map (retired_to group) o ≡ Some g → (h : ℕ) × (o ≡ Some h) × (retired_to group h ≡ g)
  was None g e = cc
  was (Some h) g e = (h, refl, number (retired_to group h) g e)

  retired_known : (h : ℕ) → h ≤ 7 → retired_to group h ≤ 7
  retired_known h l = elim (cases_eq h group) [ inl here ↦ omega (arith, retired_same h here) | inr other ↦ omega (arith, retired_other h other, l) ]

  module _ (old new : List (List ℕ)) (of : ℕ → Option ℕ) (is : AreGrouped old of) (joins : Joins old new group (2 ^ 19)) where
    none_old : (v : ℕ) → 2 ^ 19 ≤ v → (g : ℕ) → g ≤ 7 → is_in old g v ≡ false
    none_old v high g l = is.each g v l ∙ by (of v) refl where
      by : (o : Option ℕ) → of v ≡ o → is_group o g ≡ false
      by None e = refl
      by (Some h) e = absurd (omega (arith, high, is.low v h e))

    all_gone : (v : ℕ) → is_in new group v ≡ false
    all_gone v = elim (cases_lt v (2 ^ 19)) [
      | inl low ↦ joins.gone v low
      | inr high ↦
          (or_parts (is_in new 7 v) (is_in new group v) (joins.both v ∙ or_same (is_in old 7 v) (is_in old group v) false false (none_old v high 7 (omega arith)) (none_old v high group (omega (arith, turns))))).1
    ]

    retired : AreGrouped new (λ v. option_map (retired_to group) (of v))
    retired = record {
      each = λ g v l. elim (cases_eq g group) [
        | inl here ↦ ap (λ k. is_in new k v) here ∙ all_gone v ∙ none_there (of v) ∙ ap (is_group (option_map (retired_to group) (of v))) (sym here)
        | inr other ↦ elim (cases_eq g 7) [
          | inl last ↦
              ap (λ k. is_in new k v) last ∙ sym (or_left_only (is_in new 7 v) (is_in new group v) (all_gone v)) ∙ joins.both v
              ∙ or_same (is_in old 7 v) (is_in old group v) (is_group (of v) 7) (is_group (of v) group) (is.each 7 v (omega arith)) (is.each group v (omega (arith, turns)))
              ∙ to_oldest (of v) ∙ ap (is_group (option_map (retired_to group) (of v))) (sym last)
          | inr early ↦ joins.others g v early other ∙ is.each g v l ∙ as_before (of v) g early other
        ]
      ];
      all = λ v. joins.others 8 v (omega arith) (omega (arith, turns)) ∙ is.all v ∙ sym (same_some (retired_to group) (of v));
      known = λ v g e. (let h = was (of v) g e in omega (arith, retired_known h.0 (is.known v h.0 h.1), h.2));
      low = λ v g e. (let h = was (of v) g e in is.low v h.0 h.1);
    } where
      or_left_only : (a b : Bool) → b ≡ false → (a || b) ≡ a
      or_left_only true b e = refl
      or_left_only false b e = e

-- the ring turned by one: each age is one more
module _ (newest : ℕ) (turning : newest < 7) (old new : List (List ℕ)) (is : AreGrouped old (group_in old)) (next : ℕ) (is_next : next ≡ next_newest newest) (joins : Joins old new next (2 ^ 19)) where
  turns : next < 7
  turns = omega (arith, is_next, next_turns newest turning)

  pub older_grouped : AreGrouped new (λ v. option_map (retired_to next) (group_in old v))
  older_grouped = retired next turns old new (group_in old) is joins

  pub older_ages : AgesBy older (ages_by_group newest old) (ages_by_group next new)
  older_ages v =
      get_by new (λ w. option_map (retired_to next) (group_in old w)) older_grouped next v
      ∙ by (group_in old v) (λ g e. is.known v g e)
      ∙ ap (option_map older) (sym (get-ages newest old is v)) where
        by : (o : Option ℕ) → ((g : ℕ) → o ≡ Some g → g ≤ 7) → option_map (turned next) (option_map (retired_to next) o) ≡ option_map older (option_map (turned newest) o)
        by None known = refl
        by (Some g) known = ap (λ n. Some (turned n (retired_to n g))) is_next ∙ ap (λ (n : ℕ). Some n) (turned_older newest turning g (known g refl))

-- ---- the lowest page of a set, which was read

module _ (sets : List (List ℕ)) (s : List ℕ) (g from : ℕ) (within : g < length sets) (read : s ≡ get_or sets g s) where
  pub lowest_in_set : (x : ℕ) → IsLowestFrom (have_bit s) from x → IsLowestFrom (is_in sets g) from x
  lowest_in_set x is = record {
    held = in_read sets s g x within read ∙ is.held;
    low = is.low;
    least = λ w held low. is.least w (sym (in_read sets s g w within read) ∙ held) low;
  }

  pub none_in_set : ((w : ℕ) → have_bit s w ≡ true → from ≤ w → ⊥) → NoneFrom (is_in sets g) from
  none_in_set none w low = in_read sets s g w within read ∙ false_from_ne_true (have_bit s w) (λ held. none w held low)

-- ---- the group of a page, looked for

module _ (sets : List (List ℕ)) (is : AreGrouped sets (group_in sets)) (v : ℕ) where
  pub group_of_set : (g : ℕ) → g ≤ 7 → is_in sets g v ≡ true → group_in sets v ≡ Some g
  group_of_set g known held = by (group_in sets v) refl (sym (is.each g v known) ∙ held) where
    by : (o : Option ℕ) → group_in sets v ≡ o → is_group o g ≡ true → group_in sets v ≡ Some g
    by None e h = let bad : false ≡ true = h in cc
    by (Some k) e h = e ∙ ap (λ (n : ℕ). Some n) (eqb-true k g h)

  pub set_of_group : (g : ℕ) → group_in sets v ≡ Some g → is_in sets g v ≡ true
  set_of_group g e = is.each g v (is.known v g e) ∙ ap (λ o. is_group o g) e ∙ eq-eqb g g refl

  some_set : IsSome (group_in sets v) → 0 < length sets
  some_set some = by (group_in sets v) refl some where
    by : (o : Option ℕ) → group_in sets v ≡ o → IsSome o → 0 < length sets
    by None e h = let bad : false ≡ true = h in cc
    by (Some k) e h = omega (arith, set_within sets k v (set_of_group k e))

pub none_held : (newest : ℕ) (sets : List (List ℕ)) → AreGrouped sets (group_in sets) → length sets ≡ 0 → (v : ℕ) → is_some (finite.get (ages_by_group newest sets) v) ≡ true → ⊥
none_held newest sets is empty v held = let bad : false ≡ true = sym (empty_sets sets empty 8 v) ∙ in_all newest sets is v ∙ held in cc

-- a page with an age has a group, and there are nine sets
pub nine_sets : (newest : ℕ) (sets : List (List ℕ)) → IsGrouped newest sets → (v : ℕ) → IsSome (finite.get (ages_by_group newest sets) v) → length sets ≡ 9
nine_sets newest sets is v held = is.whole (some_set sets is.grouped v (some_group newest sets is.grouped v held))

pub no_kept : (newest : ℕ) (sets : List (List ℕ)) → newest < 7 → (0 < length sets → length sets ≡ 9) → ((g v : ℕ) → is_in sets g v ≡ false) → IsGrouped newest sets
no_kept newest sets turning whole none = record { turning = turning; whole = whole; grouped = are_grouped sets (λ v. None) (no_sets sets none) }

-- there are as many sets as before
pub still_kept : (newest : ℕ) (old new : List (List ℕ)) (group : ℕ → Option ℕ) → newest < 7 → (0 < length old → length old ≡ 9) → length new ≡ length old → AreGrouped new group → IsGrouped newest new
still_kept newest old new group turning whole count now = record {
  turning = turning;
  whole = λ some. count ∙ whole (omega (arith, some, count));
  grouped = are_grouped new group now;
}

pub none_pushed : (sets : List (List ℕ)) (s : List ℕ) → ((g v : ℕ) → is_in sets g v ≡ false) → ((v : ℕ) → have_bit s v ≡ false) → (g v : ℕ) → is_in (sets ++ s ∷ []) g v ≡ false
unfolding is_in
none_pushed sets s none empty g v = elim (cases_lt g (length sets)) [
  | inl near ↦ ap (λ (ws : List ℕ). have_bit ws v) (get_or_append_left sets (s ∷ []) [] g near) ∙ none g v
  | inr far ↦
      ap (λ (ws : List ℕ). have_bit ws v) (get_or-append_right sets (s ∷ []) (length sets) g [] refl far) ∙ (elim (cases_eq (g - length sets) 0) [
        | inl here ↦ ap (λ (k : ℕ). have_bit (get_or (s ∷ []) k []) v) here ∙ empty v
        | inr past ↦ ap (λ (ws : List ℕ). have_bit ws v) (get_or_past (s ∷ []) (g - length sets) [] (omega (arith, past))) ∙ no_bits [] refl v
      ])
]
