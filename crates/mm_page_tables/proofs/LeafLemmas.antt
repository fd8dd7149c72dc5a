-- The words of one leaf: words changed between two places, and what numbers show after some of them changed.
use Rattle.std.proofs.Common.{◌≡◌, ◌≢◌, ◌⊎◌, ℕ, ◌+◌, ◌-◌, ◌/◌, ◌%◌, ◌<◌, ◌≤◌, Bool, true, false, List, [], ◌∷◌, ◌++◌, length, get_or, set, Option}
use Rattle.std.proofs.Common.{Some, None, refl, sym, ap, ◌∙◌, subst, inl, inr, arith, cond, get_or-set_same, get_or-set_other, zero, suc}
use Rattle.std.proofs.lemmas.Bool.{cases_lt, cases_eq}
use Rattle.std.proofs.lemmas.List.{get_or_past, get_or_append_left, get_or-append_right, get_or-replicate, length-replicate, ext_get_or}
use Rattle.std.proofs.lemmas.List.{get_or_default, length-append, length-take-le, length-drop, get_or-take, get_or-drop, take_at}
use Rattle.std.proofs.lemmas.List.FromFn.{length-map-range_with_len, get_or-map-range_with_len}
use Rattle.std.proofs.Math.ListN.{length-set, take, drop}
use Rattle.std.specs.Prelude.{IsSome, is_some, replicate, slice_index, ◌==◌, slice_get, if◌then◌else◌, ◌-◌, min}
use Rattle.std.specs.Int.{bit_at}
use Rattle.std.proofs.lemmas.Nat.Bits.{bit_at_ones, bit_at-zero}
use Rattle.mm_bits.specs.{have_bit, Becomes, SameWordsFrom}
use Rattle.mm_bits.proofs.{extended, zero_bit}
use Rattle.mm_page_tables.specs.{leaf_pages, bit_numbers, leaf_numbers, leaf_word, place_count, stored_word, shown_leaf, IsLeaf, Changed, number_when}
use Rattle.mm_page_tables.specs.{word_when, pages, Reserves, Releases, AreReserved, LeavesOf, leaf_of, word_in, numbers_from, end_of_pages, most_leaves}
use Rattle.mm_page_tables.specs.{directory_words, IsWholeLeaf, IsDirectory, IsInLeaf, with_leaf, with_leaf_word, SameWords, PlacesMore}
use Rattle.std.proofs.lemmas.Bool.Decides.{nat_tests}
use Rattle.std.specs.Ordering.{nat_cmp}
use Rattle.std.specs.FinMap.{FinMap}
use Rattle.mm_types.specs.{found, holds_page}
use Rattle.mm_types.proofs.{get_table, is_insert, same}
use Rattle.mm_page_tables.specs.Directory.{Changes}
use Rattle.std.specs.FinMap as finite

-- what is there only below n is below n
pub below_by : {A : Type 0} (i n : ℕ) (o : Option A) → (n ≤ i → o ≡ None) → IsSome o → i < n
below_by i n o past some = elim (cases_lt i n) [
  | inl near ↦ near
  | inr far ↦ let bad : false ≡ true = sym (ap is_some (past far)) ∙ some in cc
]

-- ---- words changed between two places

pub none_after : (n i : ℕ) → leaf_word (replicate n None) i ≡ None
none_after n i = elim (cases_lt i n) [
  | inl near ↦ get_or-replicate n i None None near
  | inr far ↦ get_or_past (replicate n None) i None (omega (arith, far, length-replicate {A = Option ℕ} n None))
]

-- ---- what numbers show

length-shown : (ns : List ℕ) → length (shown_leaf ns) ≡ place_count ns
unfolding shown_leaf
length-shown ns = length-map-range_with_len (stored_word ns) 0 (place_count ns)

pub all_places : (ns : List ℕ) → 0 < length ns → place_count ns ≡ leaf_pages
all_places [] some = absurd (omega arith)
all_places (n ∷ ns) some = refl

pub some_numbers : (ns : List ℕ) → 0 < place_count ns → 0 < length ns
some_numbers [] some = absurd (omega arith)
some_numbers (n ∷ ns) some = omega arith

pub most_places : (ns : List ℕ) → place_count ns ≤ leaf_pages
most_places [] = omega arith
most_places (n ∷ ns) = omega arith

pub places_shown : (ns : List ℕ) (now : List (Option ℕ)) → shown_leaf ns ≡ now → length now ≡ place_count ns
places_shown ns now view = sym (ap length view) ∙ length-shown ns

word-shown : (ns : List ℕ) (i : ℕ) → i < place_count ns → leaf_word (shown_leaf ns) i ≡ stored_word ns i
unfolding shown_leaf
word-shown ns i near = get_or-map-range_with_len (stored_word ns) 0 (place_count ns) i i None near (omega arith)

word-shown_past : (ns : List ℕ) (i : ℕ) → place_count ns ≤ i → leaf_word (shown_leaf ns) i ≡ None
word-shown_past ns i far = get_or_past (shown_leaf ns) i None (omega (arith, far, length-shown ns))

-- a page with a word has a place, and its bit is set
module _ (ns : List ℕ) (now : List (Option ℕ)) (at : ℕ) (view : shown_leaf ns ≡ now) (some : IsSome (leaf_word now at)) where
  pub placed : at < place_count ns
  placed = below_by at (place_count ns) (leaf_word now at) (λ far. ap (λ (ws : List (Option ℕ)). leaf_word ws at) (sym view) ∙ word-shown_past ns at far) some

  pub placed_low : at < leaf_pages
  placed_low = omega (arith, placed, most_places ns)

  pub word_there : leaf_word now at ≡ stored_word ns at
  word_there = ap (λ (ws : List (Option ℕ)). leaf_word ws at) (sym view) ∙ word-shown ns at placed

  pub bit_there : have_bit ns at ≡ true
  bit_there = elim (have_bit ns at) as (λ b. is_some (cond b (Some (slice_index ns (bit_numbers + at))) None) ≡ true → b ≡ true) [ true ↦ λ e. refl | false ↦ λ e. e ] (sym (ap is_some word_there) ∙ some)

  pub word_is : (x : ℕ) → slice_index ns (bit_numbers + at) ≡ x → leaf_word now at ≡ Some x
  word_is x e = word_there ∙ ap (λ (b : Bool). cond b (Some (slice_index ns (bit_numbers + at))) None) bit_there ∙ ap (λ (n : ℕ). Some n) e

pub shown_none : shown_leaf [] ≡ []
unfolding shown_leaf
shown_none = refl

-- no page of a leaf of zeros is reserved
pub shown_zero : (ns : List ℕ) → ns ≡ replicate bit_numbers 0 → shown_leaf ns ≡ replicate leaf_pages None
shown_zero ns is =
    let long : length ns ≡ bit_numbers = ap length is ∙ length-replicate {A = ℕ} bit_numbers 0 in
    let all : place_count ns ≡ leaf_pages = all_places ns (omega (arith, long)) in
    ext_get_or None (shown_leaf ns) (replicate leaf_pages None) (length-shown ns ∙ all ∙ sym (length-replicate {A = Option ℕ} leaf_pages None))
    (λ i h.
    let near : i < place_count ns = omega (arith, h, length-shown ns) in
    let unset : have_bit ns i ≡ false = ap (λ (ms : List ℕ). have_bit ms i) is ∙ zero_bit bit_numbers i in
    word-shown ns i near ∙ ap (λ (b : Bool). cond b (Some (slice_index ns (bit_numbers + i))) None) unset ∙ sym (get_or-replicate {A = Option ℕ} leaf_pages i None None (omega (arith, near, all))))

-- ---- numbers that change

same_bit : (old new : List ℕ) (i : ℕ) → get_or new (i / 64) 0 ≡ get_or old (i / 64) 0 → have_bit new i ≡ have_bit old i
unfolding have_bit
same_bit old new i e = ap (λ (n : ℕ). bit_at n (i % 64) == 1) e

same_page_word : (old new : List ℕ) (i : ℕ) → have_bit new i ≡ have_bit old i → get_or new (bit_numbers + i) 0 ≡ get_or old (bit_numbers + i) 0 → stored_word new i ≡ stored_word old i
same_page_word old new i bit word =
    ap (λ (b : Bool). cond b (Some (get_or new (bit_numbers + i) 0)) None) bit ∙ ap (λ (n : ℕ). cond (have_bit old i) (Some n) None) word

-- one word is set, after zeros were added at the end
module _ (capacity capacity' : ℕ) (old mid : List ℕ) (n at word : ℕ) (leaf : IsLeaf capacity old) (is : mid ≡ old ++ replicate n 0) (low : at < place_count old) (set_before : have_bit old at ≡ true) (long : bit_numbers + at < length mid) where
  abbrev new : List ℕ
  new = set mid (bit_numbers + at) word

  at_low : at < leaf_pages
  at_low = omega (arith, low, most_places old)

  some : 0 < length old
  some = some_numbers old (omega (arith, low))

  number_kept : (i : ℕ) → i ≢ bit_numbers + at → get_or new i 0 ≡ get_or old i 0
  number_kept i other = get_or-set_other mid (bit_numbers + at) i word 0 other ∙ ap (λ (ms : List ℕ). get_or ms i 0) is ∙ extended old n i

  bit_kept : (i : ℕ) → i < leaf_pages → have_bit new i ≡ have_bit old i
  bit_kept i h = same_bit old new i (number_kept (i / 64) (λ e. omega (arith, e)))

  new_length : length new ≡ length mid
  new_length = length-set mid (bit_numbers + at) word

  all_old : place_count old ≡ leaf_pages
  all_old = all_places old some

  all_new : place_count new ≡ leaf_pages
  all_new = all_places new (omega (arith, new_length, long))

  pub shown_set : shown_leaf (set mid (bit_numbers + at) word) ≡ set (shown_leaf old) at (Some word)
  shown_set =
      ext_get_or None (shown_leaf new) (set (shown_leaf old) at (Some word)) (length-shown new ∙ all_new ∙ sym (length-set (shown_leaf old) at (Some word) ∙ length-shown old ∙ all_old))
      (λ i h.
      let near : i < leaf_pages = omega (arith, h, length-shown new, all_new) in
      word-shown new i (omega (arith, near, all_new)) ∙ (elim (cases_eq i at) [
        | inl e ↦
            ap (stored_word new) e
            ∙ ap (λ (b : Bool). cond b (Some (get_or new (bit_numbers + at) 0)) None) (bit_kept at at_low ∙ set_before)
            ∙ ap (λ (w : ℕ). Some w) (get_or-set_same mid (bit_numbers + at) word 0 long)
            ∙ sym (ap (λ (k : ℕ). get_or (set (shown_leaf old) at (Some word)) k None) e ∙ get_or-set_same (shown_leaf old) at (Some word) None (omega (arith, low, length-shown old)))
        | inr other ↦
            same_page_word old new i (bit_kept i near) (number_kept (bit_numbers + i) (λ e. other (omega (arith, e))))
            ∙ sym (word-shown old i (omega (arith, near, all_old)))
            ∙ sym (get_or-set_other (shown_leaf old) at i (Some word) None other)
      ]))

  pub set_leaf : length mid ≤ leaf_numbers → leaf_numbers ≤ capacity' → IsLeaf capacity' (set mid (bit_numbers + at) word)
  set_leaf few room = record {
    bits = λ h. omega (arith, new_length, long);
    room = λ h. room;
    within = omega (arith, new_length, few);
    blank = λ i h unset. elim (cases_eq i at) [
      | inl e ↦
          let bad : false ≡ true = sym (ap (have_bit new) (sym e) ∙ unset) ∙ bit_kept at at_low ∙ set_before in
          cc
      | inr other ↦ number_kept (bit_numbers + i) (λ e. other (omega (arith, e))) ∙ leaf.blank i h (sym (bit_kept i h) ∙ unset)
    ];
  }

-- ---- a range of pages

module _ (f : Option ℕ → Option ℕ) (old new : List ℕ) (from to : ℕ) (all_old : place_count old ≡ leaf_pages) (all_new : place_count new ≡ leaf_pages) (end : to ≤ leaf_pages) where
  changed_shown : ((i : ℕ) → from ≤ i → i < to → stored_word new i ≡ f (stored_word old i)) → ((i : ℕ) → i < leaf_pages → (i < from) ⊎ (to ≤ i) → stored_word new i ≡ stored_word old i) → Changed f (leaf_word (shown_leaf old)) (leaf_word (shown_leaf new)) from to
  changed_shown inside outside = record {
    within = λ i l u. word-shown new i (omega (arith, all_new)) ∙ inside i l u ∙ ap f (sym (word-shown old i (omega (arith, all_old))));
    below = λ i u. elim (cases_lt i leaf_pages) [
      | inl near ↦ word-shown new i (omega (arith, all_new)) ∙ outside i near (inl u) ∙ sym (word-shown old i (omega (arith, all_old)))
      | inr far ↦ word-shown_past new i (omega (arith, all_new)) ∙ sym (word-shown_past old i (omega (arith, all_old)))
    ];
    above = λ i l. elim (cases_lt i leaf_pages) [
      | inl near ↦ word-shown new i (omega (arith, all_new)) ∙ outside i near (inr l) ∙ sym (word-shown old i (omega (arith, all_old)))
      | inr far ↦ word-shown_past new i (omega (arith, all_new)) ∙ sym (word-shown_past old i (omega (arith, all_old)))
    ];
  }

-- all bits are one or all are 0
all_bits : (on : Bool) (bits i : ℕ) → bits ≡ cond on 18446744073709551615 0 → i < 64 → (bit_at bits i == 1) ≡ on
all_bits true bits i e h = ap (λ (n : ℕ). bit_at n i == 1) e ∙ ap (λ (n : ℕ). n == 1) (bit_at_ones 64 i h)
all_bits false bits i e h = ap (λ (n : ℕ). bit_at n i == 1) e ∙ ap (λ (n : ℕ). n == 1) (bit_at-zero i)

pub all_put : (on : Bool) (bits : ℕ) (old new : List ℕ) → bits ≡ cond on 18446744073709551615 0 → ((k : ℕ) → k < bit_numbers → get_or new k 0 ≡ bits) → ((k : ℕ) → bit_numbers ≤ k → get_or new k 0 ≡ get_or old k 0) → Becomes on (have_bit old) (have_bit new) 0 leaf_pages
unfolding have_bit
all_put on bits old new e done rest = record {
  inside = λ i l u. ap (λ (n : ℕ). bit_at n (i % 64) == 1) (done (i / 64) (omega arith)) ∙ all_bits on bits (i % 64) e (omega arith);
  below = λ i u. absurd (omega arith);
  above = λ i l. ap (λ (n : ℕ). bit_at n (i % 64) == 1) (rest (i / 64) (omega arith));
}

-- a vector shows what its slice was left with, k numbers filled from the first on
abbrev pub filled : List ℕ → ℕ → ℕ → ℕ → List ℕ
filled xs first k v = take first xs ++ (replicate k v ++ drop k (drop first xs))

pub filled_slice : (n first k v : ℕ) (xs old new : List ℕ) → length xs ≡ n → old ≡ xs → first + k ≤ length xs → new ≡ replicate (length (take k (drop first old))) v
    → (let ws = take first old ++ (new ++ drop k (drop first old)) in take n (ws ++ drop (length ws) xs)) ≡ filled xs first k v
filled_slice n first k v xs old new e is inside all =
    let ws = take first old ++ (new ++ drop k (drop first old)) in
    let many : length (take k (drop first old)) ≡ k = length-take-le k (drop first old) (omega (arith, length-drop first old, ap length is, inside)) in
    let long : length ws ≡ length old =
    length-append (take first old) (new ++ drop k (drop first old)) ∙ ap (λ m. length (take first old) + m) (length-append new (drop k (drop first old)))
    ∙ omega (arith, length-take-le first old (omega (arith, ap length is, inside)), ap length all, length-replicate (length (take k (drop first old))) v, many, length-drop first old, length-drop k (drop first old), ap length is, inside) in
    let whole : n ≡ length ws = sym e ∙ ap length (sym is) ∙ sym long in
    take_at ws (drop (length ws) xs) n (sym whole)
    ∙ ap (λ (ns : List ℕ). take first old ++ (ns ++ drop k (drop first old))) (all ∙ ap (λ (m : ℕ). replicate m v) many)
    ∙ ap (λ (ns : List ℕ). filled ns first k v) is

module _ (xs : List ℕ) (first k v i : ℕ) (inside : first + k ≤ length xs) where
  first_long : length (take first xs) ≡ first
  first_long = length-take-le first xs (omega (arith, inside))

  pub filled_below : i < first → get_or (filled xs first k v) i 0 ≡ get_or xs i 0
  filled_below low = get_or_append_left (take first xs) (replicate k v ++ drop k (drop first xs)) 0 i (omega (arith, first_long, low)) ∙ get_or-take first xs i 0 low

  filled_on : first ≤ i → get_or (filled xs first k v) i 0 ≡ get_or (replicate k v ++ drop k (drop first xs)) (i - first) 0
  filled_on low = get_or-append_right (take first xs) (replicate k v ++ drop k (drop first xs)) first i 0 first_long low

  pub filled_within : first ≤ i → i < first + k → get_or (filled xs first k v) i 0 ≡ v
  filled_within low high =
      filled_on low
      ∙ get_or_append_left (replicate k v) (drop k (drop first xs)) 0 (i - first) (omega (arith, length-replicate k v, low, high))
      ∙ get_or-replicate k (i - first) v 0 (omega (arith, low, high))

  pub filled_above : first + k ≤ i → get_or (filled xs first k v) i 0 ≡ get_or xs i 0
  filled_above high =
      filled_on (omega (arith, high))
      ∙ get_or-append_right (replicate k v) (drop k (drop first xs)) k (i - first) 0 (length-replicate k v) (omega (arith, high))
      ∙ get_or-drop k (drop first xs) (i - first - k) 0
      ∙ get_or-drop first xs (k + (i - first - k)) 0
      ∙ ap (λ (q : ℕ). get_or xs q 0) (omega (arith, high))

-- the numbers between two places that are there are 0
pub cleared_numbers : (xs ys : List ℕ) (first end from to : ℕ) → end ≡ min to (length xs) → first ≡ min from end → ys ≡ filled xs first (end - first) 0 → Changed (number_when false) (slice_index xs) (slice_index ys) from to
cleared_numbers xs ys first end from to at_end at_first is =
    let inside : first + (end - first) ≤ length xs = omega (arith, at_end, at_first) in
    let was : (i : ℕ) → get_or ys i 0 ≡ get_or (filled xs first (end - first) 0) i 0 = λ i. ap (λ (ns : List ℕ). get_or ns i 0) is in
    let behind : (i : ℕ) → end ≤ i → get_or ys i 0 ≡ get_or xs i 0 = λ i l. was i ∙ filled_above xs first (end - first) 0 i inside (omega (arith, at_first, l)) in
    record {
      within = λ i l u. elim (cases_lt i end) [
        | inl near ↦ was i ∙ filled_within xs first (end - first) 0 i inside (omega (arith, at_first, l)) (omega (arith, at_first, near))
        | inr far ↦ behind i far ∙ get_or_past xs i 0 (omega (arith, at_end, far, u))
      ];
      below = λ i u. elim (cases_lt i first) [
        | inl near ↦ was i ∙ filled_below xs first (end - first) 0 i inside near
        | inr far ↦ behind i (omega (arith, at_first, far, u))
      ];
      above = λ i l. behind i (omega (arith, at_end, l));
    }

-- the word of a page after its bit, and of one whose bit is no longer set
stored_when : (on b : Bool) (x y : ℕ) → y ≡ number_when on x → (b ≡ false → x ≡ 0) → cond on (Some y) None ≡ word_when on (cond b (Some x) None)
stored_when true true x y e blank = ap (λ (n : ℕ). Some n) e
stored_when true false x y e blank = ap (λ (n : ℕ). Some n) (e ∙ blank refl)
stored_when false b x y e blank = refl

zero_when : (on : Bool) (x y : ℕ) → on ≡ false → y ≡ number_when on x → y ≡ 0
zero_when true x y off e = cc
zero_when false x y off e = e

-- bits are put, and where they are cleared the words of their pages too
module _ (capacity capacity' : ℕ) (old mid new : List ℕ) (now : List (Option ℕ)) (from to : ℕ) (on : Bool) (leaf : IsLeaf capacity old) (view : shown_leaf old ≡ now) (some : from < to) (end : to ≤ length now)
    (put : Becomes on (have_bit old) (have_bit mid) from to) (rest : SameWordsFrom leaf_pages old mid) (kept : length mid ≡ length old)
    (cleared : Changed (number_when on) (slice_index mid) (slice_index new) (bit_numbers + from) (bit_numbers + to)) (kept' : length new ≡ length mid) where
  put_end : to ≤ place_count old
  put_end = omega (arith, end, places_shown old now view)

  put_some : 0 < length old
  put_some = some_numbers old (omega (arith, put_end, some))

  all_after : place_count new ≡ leaf_pages
  all_after = all_places new (omega (arith, kept, kept', put_some))

  bit_after : (i : ℕ) → i < leaf_pages → have_bit new i ≡ have_bit mid i
  bit_after i h = same_bit mid new i (cleared.below (i / 64) (omega arith))

  bit_inside : (i : ℕ) → from ≤ i → i < to → have_bit new i ≡ on
  bit_inside i l u = bit_after i (omega (arith, put_end, most_places old, u)) ∙ put.inside i l u

  word_inside : (i : ℕ) → from ≤ i → i < to → get_or new (bit_numbers + i) 0 ≡ number_when on (get_or old (bit_numbers + i) 0)
  word_inside i l u = cleared.within (bit_numbers + i) (omega arith) (omega arith) ∙ ap (number_when on) (rest (bit_numbers + i) (omega arith))

  word_outside : (i : ℕ) → (i < from) ⊎ (to ≤ i) → get_or new (bit_numbers + i) 0 ≡ get_or old (bit_numbers + i) 0
  word_outside i (inl low) = cleared.below (bit_numbers + i) (omega arith) ∙ rest (bit_numbers + i) (omega arith)
  word_outside i (inr high) = cleared.above (bit_numbers + i) (omega arith) ∙ rest (bit_numbers + i) (omega arith)

  bit_outside : (i : ℕ) → i < leaf_pages → (i < from) ⊎ (to ≤ i) → have_bit new i ≡ have_bit old i
  bit_outside i h (inl low) = bit_after i h ∙ put.below i low
  bit_outside i h (inr high) = bit_after i h ∙ put.above i high

  pub put_words : Changed (word_when on) (leaf_word now) (leaf_word (shown_leaf new)) from to
  put_words = subst (λ (ws : List (Option ℕ)). Changed (word_when on) (leaf_word ws) (leaf_word (shown_leaf new)) from to) view (
      changed_shown (word_when on) old new from to (all_places old put_some) all_after (omega (arith, put_end, most_places old))
      (λ i l u.
      ap (λ (b : Bool). cond b (Some (get_or new (bit_numbers + i) 0)) None) (bit_inside i l u)
      ∙ stored_when on (have_bit old i) (get_or old (bit_numbers + i) 0) (get_or new (bit_numbers + i) 0) (word_inside i l u) (leaf.blank i (omega (arith, put_end, most_places old, u))))
      (λ i h place. same_page_word old new i (bit_outside i h place) (word_outside i place)))

  pub put_places : length (shown_leaf new) ≡ length now
  put_places = length-shown new ∙ all_after ∙ sym (places_shown old now view ∙ all_places old put_some)

  blank_after : (i : ℕ) → i < leaf_pages → have_bit new i ≡ false → get_or new (bit_numbers + i) 0 ≡ 0
  blank_after i h unset = elim (cases_lt i from) [
    | inl low ↦ word_outside i (inl low) ∙ leaf.blank i h (sym (bit_outside i h (inl low)) ∙ unset)
    | inr up ↦ elim (cases_lt i to) [
      | inl inside ↦ zero_when on _ _ (sym (bit_inside i up inside) ∙ unset) (word_inside i up inside)
      | inr high ↦ word_outside i (inr high) ∙ leaf.blank i h (sym (bit_outside i h (inr high)) ∙ unset)
    ]
  ]

  pub put_leaf : capacity ≤ capacity' → IsLeaf capacity' new
  put_leaf more = record {
    bits = λ h. omega (arith, kept, kept', leaf.bits put_some);
    room = λ h. omega (arith, more, leaf.room put_some);
    within = omega (arith, kept, kept', leaf.within);
    blank = blank_after;
  }

-- ---- the words of leaves as a finite map from pages

numbers_within : (start count i : ℕ) → i < count → slice_get (numbers_from start count) i ≡ Some (start + i)
unfolding numbers_from
numbers_within start zero i h = absurd (omega arith)
numbers_within start (suc count) zero h = ap (λ (n : ℕ). Some n) (omega arith)
numbers_within start (suc count) (suc i) h = numbers_within (start + 1) count i (omega arith) ∙ ap (λ (n : ℕ). Some n) (omega arith)

numbers_past : (start count i : ℕ) → count ≤ i → slice_get (numbers_from start count) i ≡ None
unfolding numbers_from
numbers_past start zero i h = refl
numbers_past start (suc count) zero h = absurd (omega arith)
numbers_past start (suc count) (suc i) h = numbers_past (start + 1) count i (omega arith)

-- no leaf has words past the end of pages
word_past : (leaves : LeavesOf) (page : ℕ) → length leaves ≤ most_leaves → end_of_pages ≤ page → word_in leaves page ≡ None
word_past leaves page few far =
    let past : length leaves ≤ page / leaf_pages = omega arith in
    ap (λ (leaf : List (Option ℕ)). get_or leaf (page % leaf_pages) None) (get_or_past leaves (page / leaf_pages) [] past)

-- what the map answers is what stands in the leaves
pub get-words_of : (leaves : LeavesOf) → IsDirectory leaves → (page : ℕ) → finite.get (directory_words leaves) page ≡ word_in leaves page
unfolding directory_words
get-words_of leaves directory page =
    get_table (word_in leaves) (numbers_from 0 end_of_pages) page ∙ elim (cases_lt page end_of_pages) [
      | inl near ↦ ap (found (word_in leaves)) (numbers_within 0 end_of_pages page near ∙ ap (λ (n : ℕ). Some n) (omega arith))
      | inr far ↦ ap (found (word_in leaves)) (numbers_past 0 end_of_pages page far) ∙ sym (word_past leaves page directory.few far)
    ]

-- a page with a word has a place
pub place_of_some : (leaves : LeavesOf) (page : ℕ) → IsSome (word_in leaves page) → IsInLeaf leaves page
place_of_some leaves page some = below_by (page % leaf_pages) (length (leaf_of leaves page)) (word_in leaves page) (get_or_past (leaf_of leaves page) (page % leaf_pages) None) some

pub leaf_of_place : (leaves : LeavesOf) (page : ℕ) → IsInLeaf leaves page → page / leaf_pages < length leaves
leaf_of_place leaves page place = elim (cases_lt (page / leaf_pages) (length leaves)) [
  | inl near ↦ near
  | inr far ↦
      let none : leaf_of leaves page ≡ [] = get_or_past leaves (page / leaf_pages) [] far in
      absurd (omega (arith, ap length none))
]

-- a leaf is put in another's place
pub leaf_of-same : (leaves : LeavesOf) (page q : ℕ) (leaf : List (Option ℕ)) → page / leaf_pages < length leaves → q / leaf_pages ≡ page / leaf_pages → leaf_of (with_leaf leaves page leaf) q ≡ leaf
leaf_of-same leaves page q leaf within e =
    ap (λ (i : ℕ). get_or (set leaves (page / leaf_pages) leaf) i []) e ∙ get_or-set_same leaves (page / leaf_pages) leaf [] within

pub leaf_of-other : (leaves : LeavesOf) (page q : ℕ) (leaf : List (Option ℕ)) → q / leaf_pages ≢ page / leaf_pages → leaf_of (with_leaf leaves page leaf) q ≡ leaf_of leaves q
leaf_of-other leaves page q leaf other = get_or-set_other leaves (page / leaf_pages) (q / leaf_pages) leaf [] other

module _ (leaves : LeavesOf) (page : ℕ) (word : Option ℕ) (place : IsInLeaf leaves page) where
  pub word_in-same : word_in (with_leaf_word leaves page word) page ≡ word
  word_in-same =
      ap (λ (leaf : List (Option ℕ)). get_or leaf (page % leaf_pages) None) (leaf_of-same leaves page page (set (leaf_of leaves page) (page % leaf_pages) word) (leaf_of_place leaves page place) refl)
      ∙ get_or-set_same (leaf_of leaves page) (page % leaf_pages) word None place

  pub word_in-other : (q : ℕ) → q ≢ page → word_in (with_leaf_word leaves page word) q ≡ word_in leaves q
  word_in-other q other = elim (cases_eq (q / leaf_pages) (page / leaf_pages)) [
    | inl same_leaf ↦
        let apart : q % leaf_pages ≢ page % leaf_pages = λ e. other (omega (arith, e, same_leaf)) in
        ap (λ (leaf : List (Option ℕ)). get_or leaf (q % leaf_pages) None) (leaf_of-same leaves page q (set (leaf_of leaves page) (page % leaf_pages) word) (leaf_of_place leaves page place) same_leaf)
        ∙ get_or-set_other (leaf_of leaves page) (page % leaf_pages) (q % leaf_pages) word None apart
        ∙ ap (λ (i : ℕ). get_or (get_or leaves i []) (q % leaf_pages) None) (sym same_leaf)
    | inr other_leaf ↦
        ap (λ (leaf : List (Option ℕ)). get_or leaf (q % leaf_pages) None) (leaf_of-other leaves page q (set (leaf_of leaves page) (page % leaf_pages) word) other_leaf)
  ]

-- where a leaf is put in another's place, the directory keeps its form
pub is_directory-with_leaf : (leaves : LeavesOf) (page : ℕ) (leaf : List (Option ℕ)) → IsWholeLeaf leaf → IsDirectory leaves → IsDirectory (with_leaf leaves page leaf)
is_directory-with_leaf leaves page leaf whole directory = record {
  few = omega (arith, length-set leaves (page / leaf_pages) leaf, directory.few);
  full = λ i. elim (cases_eq i (page / leaf_pages)) [
    | inl e ↦ elim (cases_lt (page / leaf_pages) (length leaves)) [
      | inl within ↦
          let here : get_or (set leaves (page / leaf_pages) leaf) i [] ≡ leaf = ap (λ (k : ℕ). get_or (set leaves (page / leaf_pages) leaf) k []) e ∙ get_or-set_same leaves (page / leaf_pages) leaf [] within in
          λ some. ap length here ∙ whole (omega (arith, ap length here))
      | inr past ↦
          let none : get_or (set leaves (page / leaf_pages) leaf) i [] ≡ [] = get_or_past (set leaves (page / leaf_pages) leaf) i [] (omega (arith, length-set leaves (page / leaf_pages) leaf, e)) in
          λ some. absurd (omega (arith, ap length none))
    ]
    | inr other ↦
        let there : get_or (set leaves (page / leaf_pages) leaf) i [] ≡ get_or leaves i [] = get_or-set_other leaves (page / leaf_pages) i leaf [] other in
        λ some. ap length there ∙ directory.full i (omega (arith, ap length there))
  ];
}

pub is_directory-with_word : (leaves : LeavesOf) (page : ℕ) (word : Option ℕ) → IsInLeaf leaves page → IsDirectory leaves → IsDirectory (with_leaf_word leaves page word)
is_directory-with_word leaves page word place directory =
    let same_length : length (set (leaf_of leaves page) (page % leaf_pages) word) ≡ length (leaf_of leaves page) = length-set (leaf_of leaves page) (page % leaf_pages) word in
    is_directory-with_leaf leaves page (set (leaf_of leaves page) (page % leaf_pages) word)
    (λ some. same_length ∙ directory.full (page / leaf_pages) (omega (arith, same_length)))
    directory

-- the map where one word is set
pub words_of-with_word : (leaves : LeavesOf) (page word : ℕ) → IsInLeaf leaves page → IsDirectory leaves → directory_words (with_leaf_word leaves page (Some word)) ≡ finite.insert (directory_words leaves) page word
words_of-with_word leaves page word place directory =
    let new : IsDirectory (with_leaf_word leaves page (Some word)) = is_directory-with_word leaves page (Some word) place directory in
    is_insert (directory_words leaves) (directory_words (with_leaf_word leaves page (Some word))) page word
    (get-words_of _ new page ∙ word_in-same leaves page (Some word) place)
    (λ q other. get-words_of _ new q ∙ word_in-other leaves page (Some word) place q other ∙ sym (get-words_of leaves directory q))

pub words_of-none : directory_words [] ≡ finite.empty
words_of-none =
    let none : IsDirectory [] = record { few = omega arith; full = λ i some. absurd (omega arith) } in
    same (directory_words []) finite.empty (λ q. get-words_of [] none q ∙ sym (finite.get-empty nat_cmp q))

-- maps of the same words are the same
pub words_of-same : (old new : LeavesOf) → IsDirectory old → IsDirectory new → SameWords old new → directory_words new ≡ directory_words old
words_of-same old new before after is = same (directory_words new) (directory_words old) (λ q. get-words_of new after q ∙ is q ∙ sym (get-words_of old before q))

inside : (q first n : ℕ) (v u : Option ℕ) → first ≤ q → q < first + n → (if holds_page (pages first n) q then v else u) ≡ v
inside q first n v u l h = grind (arith, nat_tests)

outside : (q first n : ℕ) (v u : Option ℕ) → (q < first) ⊎ (first + n ≤ q) → (if holds_page (pages first n) q then v else u) ≡ u
outside q first n v u h = grind (arith, nat_tests)

-- ---- a part of one leaf is changed

-- a leaf with room comes where none was
pub placed_leaf : (leaves : LeavesOf) (page : ℕ) (old leaf : List (Option ℕ)) → IsDirectory leaves → page / leaf_pages < length leaves → old ≡ get_or leaves (page / leaf_pages) old → (0 < length old → ⊥) → leaf ≡ replicate leaf_pages None →
    PlacesMore leaves (with_leaf leaves page leaf)
placed_leaf leaves page old leaf directory present is absent fresh =
    let none : length (leaf_of leaves page) ≤ 0 = elim (cases_lt 0 (length old)) [
      | inl some ↦ absurd (absent some)
      | inr none ↦ omega (arith, none, ap length (is ∙ get_or_default leaves (page / leaf_pages) old [] present))
    ] in
    let old_leaf : (q : ℕ) → q / leaf_pages ≡ page / leaf_pages → leaf_of leaves q ≡ leaf_of leaves page = λ q e. ap (λ (i : ℕ). get_or leaves i []) e in
    record {
      words = λ q. elim (cases_eq (q / leaf_pages) (page / leaf_pages)) [
        | inl e ↦
            ap (λ (l : List (Option ℕ)). leaf_word l (q % leaf_pages)) (leaf_of-same leaves page q leaf present e ∙ fresh) ∙ none_after leaf_pages (q % leaf_pages)
            ∙ sym (get_or_past (leaf_of leaves q) (q % leaf_pages) None (omega (arith, none, ap length (old_leaf q e))))
        | inr other ↦ ap (λ (l : List (Option ℕ)). leaf_word l (q % leaf_pages)) (leaf_of-other leaves page q leaf other)
      ];
      directory = is_directory-with_leaf leaves page leaf (λ some. ap length fresh ∙ length-replicate {A = Option ℕ} leaf_pages None) directory;
      places = λ q place. elim (cases_eq (q / leaf_pages) (page / leaf_pages)) [
        | inl e ↦ absurd (omega (arith, place, none, ap length (old_leaf q e)))
        | inr other ↦ omega (arith, place, ap length (leaf_of-other leaves page q leaf other))
      ];
      count = omega (arith, length-set leaves (page / leaf_pages) leaf);
    }

-- ---- one directory after another

module _ (f : Option ℕ → Option ℕ) where
  chosen : (q first n : ℕ) (w v u : Option ℕ) → (first ≤ q → q < first + n → w ≡ v) → (q < first → w ≡ u) → (first + n ≤ q → w ≡ u) → w ≡ (if holds_page (pages first n) q then v else u)
  chosen q first n w v u within below above =
      elim (cases_lt q first) [
        | inl low ↦ below low ∙ sym (outside q first n v u (inl low))
        | inr up ↦ elim (cases_lt q (first + n)) [
          | inl near ↦ within up near ∙ sym (inside q first n v u up near)
          | inr far ↦ above far ∙ sym (outside q first n v u (inr far))
        ]
      ]

  -- what a change of the leaves is to the map
  pub changes_map : (old new : LeavesOf) (first n : ℕ) → IsDirectory old → Changes f old new first (first + n) →
      (q : ℕ) → finite.get (directory_words new) q ≡ (if holds_page (pages first n) q then f (finite.get (directory_words old) q) else finite.get (directory_words old) q)
  changes_map old new first n before is q =
      let at_old : finite.get (directory_words old) q ≡ word_in old q = get-words_of old before q in
      get-words_of new is.directory q
      ∙ chosen q first n (word_in new q) (f (finite.get (directory_words old) q)) (finite.get (directory_words old) q)
      (λ l u. is.words.within q l u ∙ ap f (sym at_old))
      (λ u. is.words.below q u ∙ sym at_old)
      (λ l. is.words.above q l ∙ sym at_old)

-- a page that the map knows has a word
pub worded : (leaves : LeavesOf) (m : FinMap nat_cmp ℕ) (page : ℕ) → directory_words leaves ≡ m → IsDirectory leaves → IsSome (finite.get m page) → IsSome (word_in leaves page)
worded leaves m page view directory some =
    let P : Option ℕ → Type 0 = λ o. IsSome o in
    subst P (ap (λ (n : FinMap nat_cmp ℕ). finite.get n page) (sym view) ∙ get-words_of leaves directory page) some

-- reserved pages end before the last leaf does
pub reserved_end : (leaves : LeavesOf) (m : FinMap nat_cmp ℕ) (first n : ℕ) → directory_words leaves ≡ m → IsDirectory leaves → AreReserved m (pages first n) → 0 < n → first + n ≤ end_of_pages
reserved_end leaves m first n view directory reserved some =
    let word : IsSome (word_in leaves (first + n - 1)) = worded leaves m (first + n - 1) view directory (reserved (first + n - 1) (omega arith) (omega arith)) in
    omega (arith, directory.few, leaf_of_place leaves (first + n - 1) (place_of_some leaves (first + n - 1) word))

pub release_map : (old new : LeavesOf) (m : FinMap nat_cmp ℕ) (first n : ℕ) → directory_words old ≡ m → IsDirectory old → Changes (word_when false) old new first (first + n) → Releases m (directory_words new) (pages first n)
release_map old new m first n view directory changes =
    let P : FinMap nat_cmp ℕ → Type 0 = λ k. Releases k (directory_words new) (pages first n) in
    subst P view (changes_map (word_when false) old new first n directory changes)

pub reserve_map : (old whole room new : LeavesOf) (m : FinMap nat_cmp ℕ) (first n : ℕ) → directory_words old ≡ m → IsDirectory old → PlacesMore old whole → PlacesMore whole room → Changes (word_when true) room new first (first + n) → Reserves m (directory_words new) (pages first n)
reserve_map old whole room new m first n view directory a b changes =
    let P : FinMap nat_cmp ℕ → Type 0 = λ k. Reserves k (directory_words new) (pages first n) in
    let is : directory_words room ≡ m = words_of-same whole room a.directory b.directory b.words ∙ words_of-same old whole directory a.directory a.words ∙ view in
    subst P is (changes_map (word_when true) room new first n b.directory changes)

pub placed_map : (old whole : LeavesOf) (m : FinMap nat_cmp ℕ) → directory_words old ≡ m → IsDirectory old → PlacesMore old whole → directory_words whole ≡ m
placed_map old whole m view directory a = words_of-same old whole directory a.directory a.words ∙ view
