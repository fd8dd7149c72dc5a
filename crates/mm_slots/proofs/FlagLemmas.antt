-- The flags of slots, as one is taken or given back, and as more are added at the end.
use Rattle.std.proofs.Common.{◌≡◌, ◌≢◌, ℕ, zero, suc, ◌+◌, ◌-◌, ◌<◌, ◌≤◌, ◌^◌, Bool, true, false, cond, List, [], ◌∷◌, ◌++◌, length, get_or, set, replicate, Some, refl, sym, ap, ◌∙◌, subst, inl, inr, arith, length-set, get_or-set_same, get_or-set_other}
use Rattle.std.specs.Prelude.{slice_get, nat_lt, max}
use Rattle.std.specs.List.{sum_by}
use Rattle.std.proofs.lemmas.List.{ext_get_or, length-replicate, get_or-replicate, get_or_append_left, get_or-append_right}
use Rattle.std.proofs.Common.{length-append}
use Rattle.std.proofs.lemmas.List.FromFn.{length-map-range_with_len, get_or-map-range_with_len}
use Rattle.std.proofs.lemmas.List.Sums.{sum_by-set, sum_by-append, count_by-le-length}
use Rattle.std.proofs.lemmas.Option.{slice_get-get_or, get_or_from_slice_get}
use Rattle.mm_types.proofs.{same_or_not, get_within}
use Rattle.std.proofs.lemmas.Bool.{false_from_ne_true}
use Rattle.std.proofs.lemmas.Bool.Decides.{nat_tests}
use Rattle.mm_bits.specs.{have_bit, put_at, IsLowestFrom, NoneFrom}
use Rattle.mm_bits.proofs.{put_here, put_there}
use Rattle.mm_slots.specs.{SlotsOf, free_count, IsLowest, flags, is_free, AreSlots}

pub length-flags : (has : ℕ → Bool) (n : ℕ) → length (flags has n) ≡ n
unfolding flags
length-flags has n = length-map-range_with_len has 0 n

pub get_or-flags : (has : ℕ → Bool) (n i : ℕ) (d : Bool) → i < n → get_or (flags has n) i d ≡ has i
unfolding flags
get_or-flags has n i d h = get_or-map-range_with_len has 0 n i i d h (omega arith)

pub flag_at : (has : ℕ → Bool) (n i : ℕ) → i < n → slice_get (flags has n) i ≡ Some (has i)
flag_at has n i h = slice_get-get_or (flags has n) i false (omega (arith, length-flags has n)) ∙ ap (λ (b : Bool). Some b) (get_or-flags has n i false h)

pub flag_from : (has : ℕ → Bool) (n i : ℕ) (b : Bool) → slice_get (flags has n) i ≡ Some b → (i < n) × (has i ≡ b)
flag_from has n i b e =
    let inside : i < n = omega (arith, get_within (flags has n) i b e, length-flags has n) in
    (inside, sym (get_or-flags has n i false inside) ∙ get_or_from_slice_get (flags has n) i b false e)

pub flags_changed : (has has' : ℕ → Bool) (n i : ℕ) (now : Bool) → ((k : ℕ) → has' k ≡ put_at now i has k) → flags has' n ≡ set (flags has n) i now
flags_changed has has' n i now puts =
    ext_get_or false (flags has' n) (set (flags has n) i now) (length-flags has' n ∙ sym (length-flags has n) ∙ sym (length-set (flags has n) i now))
    (λ j h.
    let inside : j < n = omega (arith, h, length-flags has' n) in
    elim (same_or_not j i) [
      | inl e ↦
          get_or-flags has' n j false inside ∙ puts j ∙ put_here now i j has e
          ∙ sym (ap (λ (q : ℕ). get_or (set (flags has n) i now) q false) e ∙ get_or-set_same (flags has n) i now false (omega (arith, e, length-flags has n)))
      | inr d ↦
          get_or-flags has' n j false inside ∙ puts j ∙ put_there now i j has d
          ∙ sym (get_or-set_other (flags has n) i j now false d ∙ get_or-flags has n j false inside)
    ])

-- so many are added, and all from n on are in
pub flags_grown : (has : ℕ → Bool) (n m : ℕ) → ((i : ℕ) → n ≤ i → has i ≡ true) → flags has (n + m) ≡ flags has n ++ replicate m true
flags_grown has n m new =
    let whole : length (flags has n ++ replicate m true) ≡ n + m = length-append (flags has n) (replicate m true) ∙ ap (λ (k : ℕ). k + length (replicate m true)) (length-flags has n) ∙ ap (λ (k : ℕ). n + k) (length-replicate m true) in
    ext_get_or false (flags has (n + m)) (flags has n ++ replicate m true) (length-flags has (n + m) ∙ sym whole)
    (λ i h.
    let inside : i < n + m = omega (arith, h, length-flags has (n + m)) in
    get_or-flags has (n + m) i false inside ∙ elim (same_or_not (n - i) 0) [
      | inl e ↦
          new i (omega arith)
          ∙ sym (get_or-append_right (flags has n) (replicate m true) n i false (length-flags has n) (omega arith) ∙ get_or-replicate m (i - n) true false (omega arith))
      | inr d ↦
          sym (get_or_append_left (flags has n) (replicate m true) false i (omega (arith, length-flags has n)) ∙ get_or-flags has n i false (omega arith))
    ])

flags_nil : (has : ℕ → Bool) → flags has 0 ≡ []
unfolding flags
flags_nil has = refl

pub flags_all : (has : ℕ → Bool) (n : ℕ) → ((i : ℕ) → has i ≡ true) → flags has n ≡ replicate n true
flags_all has n all = let whole : n ≡ 0 + n = omega arith in ap (flags has) whole ∙ flags_grown has 0 n (λ i h. all i) ∙ ap (λ (fs : List Bool). fs ++ replicate n true) (flags_nil has)

-- ---- how many are free

pub count_changed : (free : List Bool) (i : ℕ) (was now : Bool) → slice_get free i ≡ Some was → free_count (set free i now) + cond was 1 0 ≡ free_count free + cond now 1 0
count_changed free i was now e =
    let inside = get_within free i was e in
    let old : get_or free i was ≡ was = get_or_from_slice_get free i was was e in
    ap (λ (b : Bool). free_count (set free i now) + cond b 1 0) (sym old) ∙ sum_by-set (λ (b : Bool). cond b 1 0) free i now was inside

pub count-append : (a b : List Bool) → free_count (a ++ b) ≡ free_count a + free_count b
count-append a b = sum_by-append (λ (x : Bool). cond x 1 0) a b

one_more : (n k : ℕ) → k ≡ n → 1 + k ≡ suc n
one_more n k e = omega arith

ones : (n : ℕ) → sum_by (λ (b : Bool). cond b 1 0) (replicate n true) ≡ n
ones zero = refl
ones (suc n) =
    sum_by-append (λ (b : Bool). cond b 1 0) (true ∷ []) (replicate n true)
    ∙ one_more n (sum_by (λ (b : Bool). cond b 1 0) (replicate n true)) (ones n)

pub count-replicate : (n : ℕ) → free_count (replicate n true) ≡ n
count-replicate n = ones n

-- where the count is not zero, some flag is set
pub some_counted : (free : List Bool) → free_count free ≢ 0 → (i : ℕ) × (slice_get free i ≡ Some true)
some_counted [] d = absurd (d refl)
some_counted (true ∷ free) d = (0, refl)
some_counted (false ∷ free) d = let h = some_counted free (λ e. d e) in (suc h.0, h.1)

pub counted_some : (free : List Bool) (i : ℕ) → slice_get free i ≡ Some true → free_count free ≢ 0
counted_some free i e z =
    let h = count_changed free i true false e in
    omega arith

-- ---- which slots are free

pub free_fresh : (back : ℕ → Bool) (fresh i : ℕ) → fresh ≤ i → is_free back fresh i ≡ true
unfolding is_free
free_fresh back fresh i h = let past : nat_lt i fresh ≡ false = grind (arith, nat_tests) in ap (λ (b : Bool). cond b (back i) true) past

pub free_back : (back : ℕ → Bool) (fresh i : ℕ) → i < fresh → is_free back fresh i ≡ back i
unfolding is_free
free_back back fresh i h = let near : nat_lt i fresh ≡ true = grind (arith, nat_tests) in ap (λ (b : Bool). cond b (back i) true) near

-- a slot that is not free was taken before
pub taken_before : (back : ℕ → Bool) (fresh i : ℕ) → is_free back fresh i ≡ false → i < fresh
taken_before back fresh i taken = elim (same_or_not (fresh - i) 0) [
  | inl e ↦ let bad : true ≡ false = sym (free_fresh back fresh i (omega arith)) ∙ taken in cc
  | inr d ↦ omega arith
]

-- one that was taken before comes or goes
pub free_changed : (back back' : ℕ → Bool) (fresh i : ℕ) (now : Bool) → i < fresh → ((k : ℕ) → back' k ≡ put_at now i back k) → (k : ℕ) → is_free back' fresh k ≡ put_at now i (is_free back fresh) k
free_changed back back' fresh i now before puts k = elim (same_or_not k i) [
  | inl e ↦ free_back back' fresh k (omega arith) ∙ puts k ∙ put_here now i k back e ∙ sym (put_here now i k (is_free back fresh) e)
  | inr d ↦
      (elim (same_or_not (fresh - k) 0) [
        | inl past ↦ free_fresh back' fresh k (omega arith) ∙ sym (free_fresh back fresh k (omega arith))
        | inr near ↦ free_back back' fresh k (omega arith) ∙ puts k ∙ put_there now i k back d ∙ sym (free_back back fresh k (omega arith))
      ])
      ∙ sym (put_there now i k (is_free back fresh) d)
]

-- those that were taken before stay low
pub low_changed : (back back' : ℕ → Bool) (fresh i : ℕ) (now : Bool) → i < fresh → ((k : ℕ) → back' k ≡ put_at now i back k) → NoneFrom back fresh → NoneFrom back' fresh
low_changed back back' fresh i now before puts low k h = puts k ∙ put_there now i k back (λ e. omega arith) ∙ low k h

-- the first that was never taken is taken
pub fresh_taken : (back : ℕ → Bool) (fresh next : ℕ) → next ≡ fresh + 1 → NoneFrom back fresh → (k : ℕ) → is_free back next k ≡ put_at false fresh (is_free back fresh) k
fresh_taken back fresh next more low k = elim (same_or_not k fresh) [
  | inl e ↦ free_back back next k (omega arith) ∙ low k (omega arith) ∙ sym (put_here false fresh k (is_free back fresh) e)
  | inr d ↦
      (elim (same_or_not (fresh - k) 0) [
        | inl past ↦ free_fresh back next k (omega arith) ∙ sym (free_fresh back fresh k (omega arith))
        | inr near ↦ free_back back next k (omega arith) ∙ sym (free_back back fresh k (omega arith))
      ])
      ∙ sym (put_there false fresh k (is_free back fresh) d)
]

-- the lowest that was given back is the lowest of all
pub lowest_back : (back : ℕ → Bool) (fresh i : ℕ) → NoneFrom back fresh → IsLowestFrom back 0 i → (i < fresh) × IsLowestFrom (is_free back fresh) 0 i
lowest_back back fresh i low is =
    let before : i < fresh = elim (same_or_not (fresh - i) 0) [
      | inl e ↦ let bad : true ≡ false = sym is.held ∙ low i (omega arith) in cc
      | inr d ↦ omega arith
    ] in (
      before,
      record {
        held = free_back back fresh i before ∙ is.held;
        low = is.low;
        least = λ w free h. elim (same_or_not (fresh - w) 0) [
          | inl e ↦ omega (arith, e, before)
          | inr d ↦ is.least w (sym (free_back back fresh w (omega arith)) ∙ free) h
        ];
      },
    )

-- where none was given back it is the first that was never taken
pub lowest_fresh : (back : ℕ → Bool) (fresh : ℕ) → NoneFrom back 0 → IsLowestFrom (is_free back fresh) 0 fresh
lowest_fresh back fresh none = record {
  held = free_fresh back fresh fresh (omega arith);
  low = omega arith;
  least = λ w free h. elim (same_or_not (fresh - w) 0) [
    | inl e ↦ omega arith
    | inr d ↦ let bad : true ≡ false = sym free ∙ free_back back fresh w (omega arith) ∙ none w (omega arith) in cc
  ];
}

pub new_slots : (back : ℕ → Bool) (room n : ℕ) → NoneFrom back 0 → n ≤ room → AreSlots back room 0 n n 0
new_slots back room n none fits = record {
  front = omega arith;
  low = λ i h. none i h;
  count = sym (ap free_count (flags_all (is_free back 0) n (λ i. free_fresh back 0 i (omega arith))) ∙ count-replicate n);
  covered = λ i h k. omega (arith, h, fits);
}

-- room is made
pub slots_reserved : (words words' : List ℕ) (room room' fresh slots free spare more : ℕ) → AreSlots (have_bit words) room fresh slots free spare → words' ≡ words → ((i : ℕ) → i < slots + more → i + 1 < 2 ^ 32 → i < room') → AreSlots (have_bit words') room' fresh slots free more
slots_reserved words words' room room' fresh slots free spare more s same covered =
    subst (λ (ws : List ℕ). AreSlots (have_bit ws) room' fresh slots free more) (sym same) (record {
      front = s.front;
      low = s.low;
      count = s.count;
      covered = covered;
    })

-- ---- the slots, as one is taken or given back, and as more are added

abbrev pub shown : (ℕ → Bool) → ℕ → ℕ → SlotsOf
shown has slots spare = record { free = flags has slots; spare = spare }

pub shown_changed : (has has' : ℕ → Bool) (slots spare i : ℕ) (now : Bool) (v : SlotsOf) → shown has slots spare ≡ v → ((k : ℕ) → has' k ≡ put_at now i has k) → shown has' slots spare ≡ record v { free = set v.free i now }
shown_changed has has' slots spare i now v e puts =
    ap (λ (f : List Bool). record { free = f; spare = spare }) (flags_changed has has' slots i now puts)
    ∙ ap (λ (w : SlotsOf). record w { free = set w.free i now }) e

module _ (back back' : ℕ → Bool) (room room' fresh fresh' slots free spare : ℕ) (s : AreSlots back room fresh slots free spare) where
  abbrev has : ℕ → Bool
  has = is_free back fresh

  abbrev has' : ℕ → Bool
  has' = is_free back' fresh'

  pub some_free : free ≢ 0 → (i : ℕ) × (has i ≡ true) × (i < slots)
  some_free d =
      let h = some_counted (flags has slots) (λ e. d (s.count ∙ e)) in
      let at = flag_from has slots h.0 true h.1 in
      (h.0, at.1, at.0)

  pub lowest_inside : (i : ℕ) → free ≢ 0 → IsLowestFrom has 0 i → i < slots
  lowest_inside i d is = let some = some_free d in omega (arith, some.2, is.least some.0 some.1 (omega arith))

  pub lowest_slot : (i : ℕ) (v : SlotsOf) → free ≢ 0 → shown has slots spare ≡ v → IsLowestFrom has 0 i → IsLowest v.free i
  lowest_slot i v d e is =
      let inside = lowest_inside i d is in
      subst (λ (w : SlotsOf). IsLowest w.free i) e (record {
        is_free = flag_at has slots i inside ∙ ap (λ (b : Bool). Some b) is.held;
        below = λ k h. flag_at has slots k (omega arith) ∙ ap (λ (b : Bool). Some b) (false_from_ne_true (has k) (λ set. omega (arith, h, is.least k set (omega arith))));
      })

  module _ (i : ℕ) (taken : slice_get (flags has slots) i ≡ Some false) where
    pub before : (i < fresh) × (i < slots)
    before = let at = flag_from has slots i false taken in (taken_before back fresh i at.1, at.0)

    pub more_fits : free < slots
    more_fits =
        let more = count_changed (flags has slots) i false true taken in
        let most = count_by-le-length (λ (b : Bool). b) (set (flags has slots) i true) in
        omega (arith, more, most, s.count, length-set (flags has slots) i true, length-flags has slots)

    pub slot_given : room' ≡ room → fresh' ≡ fresh → NoneFrom back' fresh' → ((k : ℕ) → has' k ≡ put_at true i has k) → AreSlots back' room' fresh' slots (free + 1) spare
    slot_given rooms same low puts = record {
      front = omega (arith, same, s.front);
      low = low;
      count =
          let more = count_changed (flags has slots) i false true taken in
          let new : free_count (flags has' slots) ≡ free_count (set (flags has slots) i true) = ap free_count (flags_changed has has' slots i true puts) in
          omega (arith, more, new, s.count);
      covered = λ j h k. omega (arith, rooms, s.covered j h k);
    }

  pub slot_taken : (i : ℕ) → free ≢ 0 → IsLowestFrom has 0 i → room' ≡ room → fresh' ≤ max fresh (i + 1) → NoneFrom back' fresh' → ((k : ℕ) → has' k ≡ put_at false i has k) → AreSlots back' room' fresh' slots (free - 1) spare
  slot_taken i d is rooms front low puts =
      let inside = lowest_inside i d is in
      let was : slice_get (flags has slots) i ≡ Some true = flag_at has slots i inside ∙ ap (λ (b : Bool). Some b) is.held in
      record {
        front = omega (arith, front, inside, s.front);
        low = low;
        count =
            let less = count_changed (flags has slots) i true false was in
            let new : free_count (flags has' slots) ≡ free_count (set (flags has slots) i false) = ap free_count (flags_changed has has' slots i false puts) in
            omega (arith, less, new, s.count);
        covered = λ j h k. omega (arith, rooms, s.covered j h k);
      }

  pub slots_grown : (n : ℕ) → n ≤ spare → AreSlots back room fresh (slots + n) (free + n) (spare - n)
  slots_grown n enough = record {
    front = omega (arith, s.front);
    low = s.low;
    count =
        let new : free_count (flags has (slots + n)) ≡ free_count (flags has slots ++ replicate n true) = ap free_count (flags_grown has slots n (λ i h. free_fresh back fresh i (omega (arith, h, s.front)))) in
        omega (arith, new, count-append (flags has slots) (replicate n true), count-replicate n, s.count);
    covered = λ j h k. s.covered j (omega arith) k;
  }

  pub shown_grown : (n : ℕ) (v : SlotsOf) → shown has slots spare ≡ v → shown has (slots + n) (spare - n) ≡ record { free = v.free ++ replicate n true; spare = v.spare - n }
  shown_grown n v e =
      ap (λ (f : List Bool). record { free = f; spare = spare - n }) (flags_grown has slots n (λ i h. free_fresh back fresh i (omega (arith, h, s.front))))
      ∙ ap (λ (w : SlotsOf). record { free = w.free ++ replicate n true; spare = w.spare - n }) e
