-- Where pages are free among ranges that lie apart, and the first place with room.
use Rattle.std.proofs.Common.{◌≡◌, ℕ, ◌+◌, ◌≤◌, ◌<◌, Bool, true, false, cond, not, eqb, leb, ltb, ◌&&◌, ◌||◌, List, [], ◌∷◌, ◌++◌, Option, Some, None, option_map, refl, sym, ap, ◌∙◌, arith, inl, inr, ◌*◌, ◌/◌, ◌-◌, ◌^◌, min}
use Rattle.std.specs.Prelude.{find, nat_le, is_some, ◌==◌, nat_lt}
use Rattle.std.specs.List.{list_any}
use Rattle.std.proofs.lemmas.Bool.{leb-true, leb-false, lt-ltb, le-ltb, le-leb, ne_eqb, and_parts, and_right, or_right, lt-leb, cases_lt, and_from, or_from, not_from_false}
use Rattle.mm_types.specs.{Range, end_of, end_of_user_pages, first_user_page, holds_page, meets, is_free, Vpn, granules, granule_pages, granule_range}
use Rattle.mm_types.specs.{lowest_gap, are_user_pages}
use Rattle.mm_vad.specs.{LieApart, range_at, is_begun_at, first_and_count, FollowsFrom, aligned, room, first_fit, Counter}
use Rattle.mm_types.proofs.{or_false, least_from-is, least_from-none}
use Rattle.mm_vad.proofs.RangeLists as apart

-- ---- what the range at a page and the first range from it on tell of the pages from there on

-- whether the range begins at the page
abbrev pub begins_at : ℕ → Option Range → Bool
begins_at first None = false
begins_at first (Some r) = r.first == first

-- whether the range, if there is one, begins at the page or above it
abbrev pub begins_from : ℕ → Option Range → Bool
begins_from page None = true
begins_from page (Some r) = nat_le page r.first

not_begun_above : (first low : ℕ) (xs : List Range) → LieApart low xs → first < low → is_begun_at first xs ≡ false
not_begun_above first low [] p h = refl
not_begun_above first low (x ∷ xs) p h =
    ap (λ b. b || is_begun_at first xs) (ne_eqb x.first first (omega (arith, p.0.from, h)))
    ∙ not_begun_above first (end_of x) xs p.1 (omega (arith, p.0.from, h))

-- a range begins at the page exactly where the first from it on does
pub begun_is : (first low : ℕ) (xs : List Range) → LieApart low xs → is_begun_at first xs ≡ begins_at first (find (λ r. nat_le first r.first) xs)
begun_is first low [] p = refl
begun_is first low (x ∷ xs) p =
    elim (leb first x.first) as (λ b. leb first x.first ≡ b → is_begun_at first (x ∷ xs) ≡ begins_at first (cond b (Some x) (find (λ r. nat_le first r.first) xs))) [
      | true ↦ λ k. (let low : first ≤ x.first = leb-true first x.first k in
          ap (λ b. eqb x.first first || b) (not_begun_above first (end_of x) xs p.1 (omega (arith, low, p.0.some))) ∙ or_false (eqb x.first first))
      | false ↦ λ k. (let below : x.first < first = leb-false first x.first k in
          ap (λ b. b || is_begun_at first xs) (ne_eqb x.first first (omega (arith, below))) ∙ begun_is first (end_of x) xs p.1)
    ] refl

-- a range begins on the left or on the right of the one in the middle, as the page lies
pub begun_left : (first a : ℕ) (xs : List Range) (m : Range) (ys : List Range) → LieApart a (xs ++ m ∷ ys) → first < m.first → is_begun_at first (xs ++ m ∷ ys) ≡ is_begun_at first xs
begun_left first a [] m ys p h = ap (λ b. b || is_begun_at first ys) (ne_eqb m.first first (omega arith)) ∙ not_begun_above first (end_of m) ys p.1 (omega arith)
begun_left first a (x ∷ xs) m ys p h = ap (λ b. eqb x.first first || b) (begun_left first (end_of x) xs m ys p.1 h)

pub begun_right : (first a : ℕ) (xs : List Range) (m : Range) (ys : List Range) → LieApart a (xs ++ m ∷ ys) → m.first < first → is_begun_at first (xs ++ m ∷ ys) ≡ is_begun_at first ys
begun_right first a [] m ys p h = ap (λ b. b || is_begun_at first ys) (ne_eqb m.first first (omega arith))
begun_right first a (x ∷ xs) m ys p h =
    let above : end_of x ≤ m.first = apart.begins_from (end_of x) xs m ys p.1 in
    ap (λ b. b || is_begun_at first (xs ++ m ∷ ys)) (ne_eqb x.first first (omega (arith, above, h))) ∙ begun_right first (end_of x) xs m ys p.1 h

pub met_above : (r : Range) (low : ℕ) (xs : List Range) → LieApart low xs → end_of r ≤ low → list_any (meets r) xs ≡ false
met_above r low [] p h = refl
met_above r low (x ∷ xs) p h =
    ap (λ b. b || list_any (meets r) xs) (and_right (ltb r.first (end_of x)) (ltb x.first (end_of r)) (le-ltb x.first (end_of r) (omega (arith, p.0.from, h))))
    ∙ met_above r (end_of x) xs p.1 (omega (arith, p.0.from, p.0.some, h))

-- where no range holds the first page, the first range from it on tells whether any is met
pub met_is : (first n low : ℕ) (xs : List Range) → 0 < n → LieApart low xs → find (λ r. holds_page r first) xs ≡ None → list_any (meets (range_at first n)) xs ≡ not (begins_from (first + n) (find (λ r. nat_le first r.first) xs))
met_is first n low [] some p e = refl
met_is first n low (x ∷ xs) some p e =
    elim (leb first x.first) as (λ b. leb first x.first ≡ b → list_any (meets (range_at first n)) (x ∷ xs) ≡ not (begins_from (first + n) (cond b (Some x) (find (λ r. nat_le first r.first) xs)))) [
      | true ↦ λ k. elim (leb (first + n) x.first) as (λ b. leb (first + n) x.first ≡ b → list_any (meets (range_at first n)) (x ∷ xs) ≡ not b) [
        | true ↦ λ j. met_above (range_at first n) x.first (x ∷ xs) (record { from = omega arith; some = p.0.some; within = p.0.within }, p.1) (leb-true (first + n) x.first j)
        | false ↦ λ j. (let low : first ≤ x.first = leb-true first x.first k in
            let high : x.first < first + n = leb-false (first + n) x.first j in
            rw (lt-ltb first (end_of x) (omega (arith, low, p.0.some)), lt-ltb x.first (first + n) high))
      ] refl
      | false ↦ λ k. (let below : x.first < first = leb-false first x.first k in
          elim (ltb first (end_of x)) as (λ b. ltb first (end_of x) ≡ b → list_any (meets (range_at first n)) (x ∷ xs) ≡ not (begins_from (first + n) (find (λ r. nat_le first r.first) xs))) [
            | true ↦ λ j. (let held : holds_page x first ≡ true = rw (le-leb x.first first (omega (arith, below)), j) in
                let found : find (λ r. holds_page r first) (x ∷ xs) ≡ Some x = ap (λ b. cond b (Some x) (find (λ r. holds_page r first) xs)) held in
                let bad : Some x ≡ None = sym found ∙ e in cc)
            | false ↦ λ j. (let free : holds_page x first ≡ false = and_right (leb x.first first) (ltb first (end_of x)) j in
                let rest : find (λ r. holds_page r first) xs ≡ None = sym (ap (λ b. cond b (Some x) (find (λ r. holds_page r first) xs)) free) ∙ e in
                ap (λ b. (b && ltb x.first (first + n)) || list_any (meets (range_at first n)) xs) j ∙ met_is first n (end_of x) xs some p.1 rest)
          ] refl)
    ] refl

held_meets : (first n : ℕ) (t : Range) → 0 < n → holds_page t first ≡ true → meets (range_at first n) t ≡ true
held_meets first n t some h =
    let parts = and_parts (leb t.first first) (ltb first (end_of t)) h in
    let low : t.first ≤ first = leb-true t.first first parts.0 in
    rw (parts.1, lt-ltb t.first (first + n) (omega (arith, low, some)))

-- a range that holds the first page is met
pub met_at : (first n : ℕ) (xs : List Range) → 0 < n → is_some (find (λ r. holds_page r first) xs) ≡ true → list_any (meets (range_at first n)) xs ≡ true
met_at first n [] some e = cc
met_at first n (x ∷ xs) some e =
    elim (holds_page x first) as (λ b. holds_page x first ≡ b → is_some (cond b (Some x) (find (λ r. holds_page r first) xs)) ≡ true → list_any (meets (range_at first n)) (x ∷ xs) ≡ true) [
      | true ↦ λ k h. ap (λ b. b || list_any (meets (range_at first n)) xs) (held_meets first n x some k)
      | false ↦ λ k h. or_right (meets (range_at first n) x) (list_any (meets (range_at first n)) xs) (met_at first n xs some h)
    ] refl e

pub is_free-from : (taken : List Range) (first n : ℕ) (b : Bool) → first_user_page ≤ first → first + n ≤ end_of_user_pages → list_any (meets (range_at first n)) taken ≡ b → is_free taken (range_at first n) ≡ not b
is_free-from taken first n b low high e = rw (le-leb first_user_page first low, le-leb (first + n) end_of_user_pages high, e)

-- the same, of what the code reads: a range's first page and how many there are
pub mapped_none : (o : Option Range) → option_map first_and_count o ≡ None → o ≡ None
mapped_none None e = refl
mapped_none (Some r) e = cc

pub mapped_some : (o : Option Range) → is_some (option_map first_and_count o) ≡ is_some o
mapped_some None = refl
mapped_some (Some r) = refl

abbrev pub first_or : ℕ → Option (Vpn × ℕ) → ℕ
first_or d None = d
first_or d (Some p) = p.0.0

pub mapped_begins_at : (first : ℕ) (o : Option Range) (next : Vpn) (count : ℕ) → option_map first_and_count o ≡ Some (next, count) → begins_at first o ≡ (next.0 == first)
mapped_begins_at first None next count e = cc
mapped_begins_at first (Some r) next count e = ap (λ p. first_or 0 p == first) e

pub mapped_begins_from : (page : ℕ) (o : Option Range) (next : Vpn) (count : ℕ) → option_map first_and_count o ≡ Some (next, count) → begins_from page o ≡ nat_le page next.0
mapped_begins_from page None next count e = cc
mapped_begins_from page (Some r) next count e = ap (λ p. nat_le page (first_or 0 p)) e

pub not_not : (b : Bool) → not (not b) ≡ b
not_not true = refl
not_not false = refl

-- ---- the first place with room among ranges that lie apart is the lowest granule whose range is free

-- whether `count` pages from the granule on end with the user pages and meet no range
abbrev pub is_open : List Range → ℕ → ℕ → Bool
is_open taken count g = nat_le (g * granule_pages + count) end_of_user_pages && not (list_any (meets (granule_range count g)) taken)

abbrev pub Outcome : ℕ → List Range → ℕ → Option ℕ → Type 0
Outcome low taken count None = (k : ℕ) → low ≤ k * granule_pages → is_open taken count k ≡ false
Outcome low taken count (Some page) = (g : ℕ) × (page ≡ g * granule_pages) × (low ≤ g * granule_pages) × (is_open taken count g ≡ true) × ((k : ℕ) → low ≤ k * granule_pages → k < g → is_open taken count k ≡ false)

open_from : (taken : List Range) (count g : ℕ) → g * granule_pages + count ≤ end_of_user_pages → list_any (meets (granule_range count g)) taken ≡ false → is_open taken count g ≡ true
open_from taken count g h e = rw (le-leb (g * granule_pages + count) end_of_user_pages h, e)

closed_more : (a b c : Bool) → (a && not c) ≡ false → (a && not (b || c)) ≡ false
closed_more true true c e = refl
closed_more true false c e = e
closed_more false b c e = refl

closed_here : (a b c : Bool) → b ≡ true → (a && not (b || c)) ≡ false
closed_here true b c e = rw e
closed_here false b c e = refl

open_more : (a b c : Bool) → b ≡ false → (a && not c) ≡ true → (a && not (b || c)) ≡ true
open_more a b c e k = rw e k

met : (r x : Range) → r.first < end_of x → x.first < end_of r → meets r x ≡ true
met r x h k = rw (lt-ltb r.first (end_of x) h, lt-ltb x.first (end_of r) k)

unmet : (r x : Range) → end_of x ≤ r.first → meets r x ≡ false
unmet r x h = ap (λ b. b && ltb x.first (end_of r)) (le-ltb r.first (end_of x) h)

-- below the first place there is none: the granule would begin below `low`
at_first : (low : ℕ) (xs : List Range) (count : ℕ) → 0 < count → aligned low + count ≤ end_of_user_pages → list_any (meets (granule_range count ((low + 15) / granule_pages))) xs ≡ false → Outcome low xs count (Some (aligned low))
at_first low xs count some fits e = (
  (low + 15) / granule_pages,
  refl,
  omega arith,
  open_from xs count ((low + 15) / granule_pages) fits e,
  λ k h less. absurd (omega (arith, h, less)),
)

-- a granule from `low` on whose range begins below the end of x meets x where there was no room before x
blocked : (low count : ℕ) (x : Range) (xs : List Range) (k : ℕ) → room low x.first < count → 0 < x.count → low ≤ k * granule_pages → k * granule_pages < end_of x → is_open (x ∷ xs) count k ≡ false
blocked low count x xs k small some h below =
    closed_here (leb (k * granule_pages + count) end_of_user_pages) (meets (granule_range count k) x) (list_any (meets (granule_range count k)) xs) (met (granule_range count k) x below (omega (arith, small, h)))

later_outcome : (low count : ℕ) (x : Range) (xs : List Range) (o : Option ℕ) → room low x.first < count → 0 < count → FollowsFrom low x → Outcome (end_of x) xs count o → Outcome low (x ∷ xs) count o
later_outcome low count x xs None small some f p = λ k h.
    elim (cases_lt (k * granule_pages) (end_of x)) [
      | inl below ↦ blocked low count x xs k small f.some h below
      | inr above ↦ closed_more (leb (k * granule_pages + count) end_of_user_pages) (meets (granule_range count k) x) (list_any (meets (granule_range count k)) xs) (p k above)
    ]
later_outcome low count x xs (Some page) small some f p = (
  p.0,
  p.1,
  (let h : end_of x ≤ p.0 * granule_pages = p.2 in omega (arith, h, f.from)),
  open_more (leb (p.0 * granule_pages + count) end_of_user_pages) (meets (granule_range count p.0) x) (list_any (meets (granule_range count p.0)) xs) (unmet (granule_range count p.0) x p.2) p.3,
  λ k h less. elim (cases_lt (k * granule_pages) (end_of x)) [
    | inl below ↦ blocked low count x xs k small f.some h below
    | inr above ↦ closed_more (leb (k * granule_pages + count) end_of_user_pages) (meets (granule_range count k) x) (list_any (meets (granule_range count k)) xs) (p.4 k above less)
  ],
)

pub fit_outcome : (low : ℕ) (xs : List Range) (count : ℕ) → 0 < count → LieApart low xs → Outcome low xs count (first_fit low xs end_of_user_pages count)
fit_outcome low [] count some p =
    elim (leb count (room low end_of_user_pages)) as (λ b. leb count (room low end_of_user_pages) ≡ b → Outcome low [] count (cond b (Some (aligned low)) None)) [
      | true ↦ λ e. at_first low [] count some (let h : count ≤ room low end_of_user_pages = leb-true count (room low end_of_user_pages) e in omega (arith, h, some)) refl
      | false ↦ λ e k h. (let small : room low end_of_user_pages < count = leb-false count (room low end_of_user_pages) e in
          ap (λ b. b && true) (lt-leb (k * granule_pages + count) end_of_user_pages (omega (arith, small, h))))
    ] refl
fit_outcome low (x ∷ xs) count some p =
    elim (leb count (room low x.first)) as (λ b. leb count (room low x.first) ≡ b → Outcome low (x ∷ xs) count (cond b (Some (aligned low)) (first_fit (end_of x) xs end_of_user_pages count))) [
      | true ↦ λ e. (let h : count ≤ room low x.first = leb-true count (room low x.first) e in
          at_first low (x ∷ xs) count some (omega (arith, h, some, p.0.within, p.0.some))
          (met_above (granule_range count ((low + 15) / granule_pages)) x.first (x ∷ xs) (record { from = omega arith; some = p.0.some; within = p.0.within }, p.1) (omega (arith, h, some))))
      | false ↦ λ e. later_outcome low count x xs (first_fit (end_of x) xs end_of_user_pages count) (leb-false count (room low x.first) e) some p.0 (fit_outcome (end_of x) xs count some p.1)
    ] refl

-- a granule below the first user page is not free
test_low : (taken : List Range) (count k : ℕ) → k * granule_pages < first_user_page → is_free taken (granule_range count k) ≡ false
test_low taken count k h = rw (lt-leb first_user_page (k * granule_pages) h)

test_open : (taken : List Range) (count k : ℕ) (b : Bool) → first_user_page ≤ k * granule_pages → is_open taken count k ≡ b → is_free taken (granule_range count k) ≡ b
test_open taken count k b h e = rw (le-leb first_user_page (k * granule_pages) h) e

test_closed : (taken : List Range) (count k : ℕ) → (first_user_page ≤ k * granule_pages → is_open taken count k ≡ false) → is_free taken (granule_range count k) ≡ false
test_closed taken count k h =
    elim (cases_lt (k * granule_pages) first_user_page) [
      | inl below ↦ test_low taken count k below
      | inr above ↦ test_open taken count k false above (h above)
    ]

is_open-within : (taken : List Range) (count g : ℕ) → is_open taken count g ≡ true → g * granule_pages + count ≤ end_of_user_pages
is_open-within taken count g e = leb-true (g * granule_pages + count) end_of_user_pages (and_parts (nat_le (g * granule_pages + count) end_of_user_pages) (not (list_any (meets (granule_range count g)) taken)) e).0

lowest_is : (taken : List Range) (count : ℕ) (o : Option ℕ) → 0 < count → Outcome first_user_page taken count o → lowest_gap taken count ≡ o
lowest_is taken count None some p =
    ap (λ o. option_map (λ g. g * granule_pages) o) (least_from-none (λ g. is_free taken (granule_range count g)) granules 0 (λ k _ _. test_closed taken count k (p k)))
lowest_is taken count (Some page) some p =
    let within = is_open-within taken count p.0 p.3 in
    ap (λ o. option_map (λ g. g * granule_pages) o)
    (least_from-is (λ g. is_free taken (granule_range count g)) granules 0 p.0 (omega arith) (omega (arith, within, some)) (test_open taken count p.0 true p.2 p.3)
    (λ k _ less. test_closed taken count k (λ h. p.4 k h less)))
    ∙ ap (λ (n : ℕ). Some n) (sym p.1)

pub lowest_gap-fit : (taken : List Range) (count : ℕ) → 0 < count → LieApart first_user_page taken → lowest_gap taken count ≡ first_fit first_user_page taken end_of_user_pages count
lowest_gap-fit taken count some p = lowest_is taken count (first_fit first_user_page taken end_of_user_pages count) some (fit_outcome first_user_page taken count some p)

-- ---- no page at all is free from the first user page on

abbrev nothing : Range
nothing = record { first = first_user_page; count = 0 }

none_meets : (low : ℕ) (rs : List Range) → first_user_page ≤ low → LieApart low rs → list_any (meets nothing) rs ≡ false
none_meets low [] h a = refl
none_meets low (x ∷ xs) h a =
    or_from (meets nothing x) (list_any (meets nothing) xs)
    (and_right (nat_lt first_user_page (end_of x)) (nat_lt x.first (end_of nothing)) (le-ltb x.first (end_of nothing) (omega (arith, a.0.from))))
    (none_meets (end_of x) xs (omega (arith, a.0.from)) a.1)

pub nothing_is_free : (rs : List Range) → LieApart first_user_page rs → lowest_gap rs 0 ≡ Some first_user_page
nothing_is_free rs a =
    let test : ℕ → Bool = λ g. is_free rs (granule_range 0 g) in
    let free : test 1 ≡ true = and_from (are_user_pages nothing) (not (list_any (meets nothing) rs)) refl
    (not_from_false (list_any (meets nothing) rs) (none_meets first_user_page rs (omega arith) a)) in
    ap (option_map (λ (g : ℕ). g * granule_pages)) (least_from-is test granules 0 1 (omega arith) (omega arith) free (λ k l u. (let same : k ≡ 0 = omega arith in ap test same)))

-- ---- A counter that has room counts every node that was visited

abbrev pub stepped : Counter → Counter
stepped c = record { steps = min (c.steps + 1) (2 ^ 64 - 1) }
