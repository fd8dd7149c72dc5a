-- What a `stack` line comes to, and the two commits that make a reserved region a stack.
use Rattle.std.proofs.Common.{◌≡◌, ◌≤◌, ◌+◌, ◌-◌, ℕ, Bool, true, false, Option, Some, List, ◌∷◌, ◌++◌, refl, sym, ◌∙◌, ap, cond, not, arith, replicate, is_some, count_by, nat_le, nat_lt, option_map, zero, suc, [], length, take, drop, map, set, slice_get, inl, inr, None}
use Rattle.std.specs.Prelude.{◌==◌, insert}
use Rattle.std.proofs.lemmas.Bool.{leb-true, le-leb, eqb-true}
use Rattle.std.proofs.lemmas.List.Sums.{sum_by-append, sum_by-cons, sum_by-insert, count_by-le-length}
use Rattle.std.proofs.lemmas.List.{set-set, length-replicate}
use Rattle.mm_types.specs.{Range, address_of, lowest_gap, are_user_pages, first_user_page, end_of, end_of_user_pages, Key, is_free, reserve_type}
use Rattle.mm_types.proofs.{same_or_not, get_set_same, get_within}
use Rattle.mm_types.specs.declared.answers.Answer.TheVariants as answer
use Rattle.mm_types.specs.declared.codes.Code.TheVariants as code
use Rattle.mm_types.specs.declared.numbers.Key.TheVariants as key
use Rattle.mm_types.specs.declared.views.Kind.TheVariants as kind
use Rattle.mm_world.specs.{RegionOf, RowOf, ProcessOf, process_of, ranges_of, add_region, set_regions, stack_by, set_stack, charge, region_charge}
use Rattle.mm_world.specs.{Tables, blank, OutcomeOf, done, need, within_limit, reserved_row, commit, stack, made, stack_region, reserve_pages}
use Rattle.mm_world.specs.{change_range, Page, content_of, own_page, pages_of, Found, region_around, set_region, is_private, change_rows}
use Rattle.mm_world.specs.Stack.{commit_pages}
use Rattle.mm_world.proofs.{charge-set_regions, and-true, at_alive, at_met, at_found, sum_by-split, is_placed, length-change_range, Inside}
use Rattle.mm_world.specs.WellFormed.{WellFormed}
use Rattle.mm_store.specs.{StoreOf}
use Rattle.mm_address_spaces.specs.{owned_in}
use Rattle.mm_object_tables.proofs.{count-replicate, beside_then, regions_in, content_is, regions_of_process, regions_set_same, regions_set_other}
use Rattle.mm_object_tables.proofs.{process_set_same}
use Rattle.mm_object_tables.specs.{FitsTables, Settled, Carried}
use Rattle.mm_object_tables.proofs.Regional as regional
use Rattle.mm_object_tables.proofs.Rows as rows
use Rattle.mm_calls.proofs.Around.{mapped, around, around_is, has_own}
use Rattle.mm_calls.proofs.Exits.{ChangesWithin}
use Rattle.mm_calls.proofs.Around.{commit_charge}
use Rattle.mm_calls.specs.{IsReserved, IsUncommitted, reserved_region}

-- the pages that are committed, and the guard page
charged_rows : (n c : ℕ) → count_by (λ (row : RowOf (Unit {0})). is_some row.own) (replicate n reserved_row ++ commit tt 0x104 reserved_row ∷ replicate c (commit tt 0x04 reserved_row)) ≡ c + 1
charged_rows n c =
    let one : RowOf (Unit {0}) → ℕ = λ row. cond (is_some row.own) 1 0 in
    let top : RowOf (Unit {0}) = commit tt 0x04 reserved_row in
    let guard : RowOf (Unit {0}) = commit tt 0x104 reserved_row in
    omega (
      arith,
      sum_by-append one (replicate n reserved_row) (guard ∷ replicate c top),
      sum_by-cons one guard (replicate c top),
      count-replicate (λ (row : RowOf (Unit {0})). is_some row.own) n reserved_row,
      count-replicate (λ (row : RowOf (Unit {0})). is_some row.own) c top,
    )

stack_charge : (t : Tables) (pid : ℕ) (p : ProcessOf (Unit {0})) (base r c : ℕ) → process_of t pid ≡ Some p → charge (set_regions t pid p (add_region (stack_region blank base r c) p.regions)) ≡ charge t + (c + 1)
stack_charge t pid p base r c lives =
    omega (
      arith,
      charge-set_regions t pid p (add_region (stack_region blank base r c) p.regions) lives,
      sum_by-insert region_charge p.regions (count_by (λ (r : RegionOf (Unit {0})). nat_lt r.base base) p.regions) (stack_region blank base r c),
      charged_rows (r - (c + 1)) c,
    )

some_bytes : (reserve n : ℕ) → n + 2 ≤ reserve_pages reserve → not (reserve == 0) ≡ true
some_bytes reserve n enough = by_zero (reserve == 0) refl
  where
    by_zero : (b : Bool) → (reserve == 0) ≡ b → not b ≡ true
    by_zero true e = let none : reserve_pages reserve ≡ 0 = ap reserve_pages (eqb-true reserve 0 e) in absurd (omega (arith, none, enough))
    by_zero false e = refl

-- a gap was found among the regions
abbrev ranged : ℕ → ℕ → Range
ranged count first = record { first = first; count = count }

abbrev pub gap_told : List (RegionOf (Unit {0})) → ℕ → Option Range
gap_told regions count = option_map (ranged count) (lowest_gap (ranges_of regions) count)

a_gap : (o : Option ℕ) (count : ℕ) (range : Range) → option_map (ranged count) o ≡ Some range → (o ≡ Some range.first) × (range.count ≡ count)
a_gap o count range e =
    let m = mapped (ranged count) o range e in
    (m.1.0 ∙ ap (λ (r : Range). Some r.first) m.1.1, sym (ap (λ (r : Range). r.count) m.1.1))

module _ (t : Tables) (tid pid reserve commit : ℕ) (p : ProcessOf (Unit {0})) (lives : process_of t pid ≡ Some p) (free : is_some (stack_by t tid) ≡ false) (n top : ℕ) (pages : n ≡ reserve_pages reserve) (committed : top ≡ commit_pages commit) (enough : top + 2 ≤ n) (regions : List (RegionOf (Unit {0}))) (same : regions ≡ p.regions) (range : Range) (told : gap_told regions n ≡ Some range) where
  fits : commit_pages commit + 2 ≤ reserve_pages reserve
  fits = omega (arith, pages, committed, enough)

  gap : lowest_gap (ranges_of p.regions) (reserve_pages reserve) ≡ Some range.first
  gap = (λ i. lowest_gap (ranges_of (sym same i)) (sym pages i)) ∙ (a_gap (lowest_gap (ranges_of regions) n) n range told).0

  count : reserve_pages reserve ≡ range.count
  count = sym pages ∙ sym (a_gap (lowest_gap (ranges_of regions) n) n range told).1

  abbrev rest : OutcomeOf (Unit {0})
  rest = need t code.InvalidParameter (not (reserve == 0)) (made blank t tid pid p (reserve_pages reserve) (commit_pages commit))

  -- with its region, which the thread gets
  abbrev whole : ℕ → ℕ → OutcomeOf (Unit {0})
  whole r c =
      done (answer.Stack (address_of range.first) (address_of r) (address_of (range.first + r - (c + 1))))
      (set_stack (set_regions t pid p (add_region (stack_region blank range.first r c) p.regions)) tid (record { pid = pid; base = range.first; guard_page = range.first + r - (c + 1) }))

  pub stack_within : ChangesWithin (stack blank t tid pid reserve commit) t (top + 1) (answer.Stack (address_of range.first) (address_of range.count) (address_of (range.first + range.count - (top + 1))))
      (set_stack (set_regions t pid p (add_region (stack_region blank range.first range.count top) p.regions)) tid (record { pid = pid; base = range.first; guard_page = range.first + range.count - (top + 1) }))
  stack_within =
      record {
        is = at_alive t pid p _ lives
            ∙ ap (λ b. cond b (done answer.Busy t) rest) free
            ∙ at_met t code.InvalidParameter (not (reserve == 0)) _ (some_bytes reserve (commit_pages commit) fits)
            ∙ at_met t code.InvalidParameter (nat_le (commit_pages commit + 2) (reserve_pages reserve)) _ (le-leb _ _ fits)
            ∙ at_found t code.InvalidAddress (lowest_gap (ranges_of p.regions) (reserve_pages reserve)) range.first _ gap
            ∙ (λ i. within_limit t (whole (count i) (sym committed i)));
        total = stack_charge t pid p range.first range.count top lives;
        same_limit = refl;
      }

pub user_end : (range : Range) → are_user_pages range ≡ true → end_of range ≤ end_of_user_pages
user_end range e = leb-true _ _ (and-true (nat_le first_user_page range.first) (nat_le (end_of range) end_of_user_pages) e).1

-- ---- the two commits that make a reserved region a stack: lists of rows, keys that stay, regions

module _ {A : Type 0} where
  all_changed : (f : A → A) (c : ℕ) (x : A) → map f (take c (replicate c x)) ++ drop c (replicate c x) ≡ replicate c (f x)
  all_changed f zero x = refl
  all_changed f (suc c) x = ap (λ xs. f x ∷ xs) (all_changed f c x)

  -- the last `c` of `n` equal elements are changed
  pub top_changed : (f : A → A) (k c n : ℕ) (x : A) → n ≡ k + c → change_range f k c (replicate n x) ≡ replicate k x ++ replicate c (f x)
  top_changed f zero c n x e = let same : n ≡ c = omega (arith, e) in ap (λ (m : ℕ). change_range f 0 c (replicate m x)) same ∙ all_changed f c x
  top_changed f (suc k) c zero x e = absurd (omega (arith, e))
  top_changed f (suc k) c (suc n) x e = ap (λ xs. x ∷ xs) (top_changed f k c n x (omega (arith, e)))

  -- the last of some equal elements is changed
  pub one_changed : (g : A → A) (k n : ℕ) (x : A) (ys : List A) → n ≡ k + 1 → change_range g k 1 (replicate n x ++ ys) ≡ replicate k x ++ g x ∷ ys
  one_changed g zero zero x ys e = absurd (omega (arith, e))
  one_changed g zero (suc zero) x ys e = refl
  one_changed g zero (suc (suc n)) x ys e = absurd (omega (arith, e))
  one_changed g (suc k) zero x ys e = absurd (omega (arith, e))
  one_changed g (suc k) (suc n) x ys e = ap (λ xs. x ∷ xs) (one_changed g k n x ys (omega (arith, e)))

  pub one_there : (k n : ℕ) (x : A) (ys : List A) → n ≡ k + 1 → take 1 (drop k (replicate n x ++ ys)) ≡ x ∷ []
  one_there zero zero x ys e = absurd (omega (arith, e))
  one_there zero (suc n) x ys e = refl
  one_there (suc k) zero x ys e = absurd (omega (arith, e))
  one_there (suc k) (suc n) x ys e = one_there k n x ys (omega (arith, e))

  -- none of them passes the test
  pub none_of_equal : (test : A → Bool) (k c n : ℕ) (x : A) → test x ≡ false → count_by test (take c (drop k (replicate n x))) ≡ 0
  none_of_equal test k c n x e =
      let xs = replicate n x in
      let none : count_by test xs ≡ 0 = count-replicate test n x ∙ ap (λ b. cond b n 0) e in
      omega (arith, none, sum_by-split (λ x. cond (test x) 1 0) xs k, sum_by-split (λ x. cond (test x) 1 0) (drop k xs) c)

  -- an element that was inserted is another
  pub set-insert : (xs : List A) (i : ℕ) (x y : A) → i ≤ length xs → set (insert xs i x) i y ≡ insert xs i y
  set-insert xs zero x y e = refl
  set-insert [] (suc i) x y e = absurd (omega (arith, e))
  set-insert (a ∷ xs) (suc i) x y e = ap (λ xs. a ∷ xs) (set-insert xs i x y (omega (arith, e)))

  pub get-insert : (xs : List A) (i : ℕ) (x : A) → i ≤ length xs → slice_get (insert xs i x) i ≡ Some x
  get-insert xs zero x e = refl
  get-insert [] (suc i) x e = absurd (omega (arith, e))
  get-insert (a ∷ xs) (suc i) x e = get-insert xs i x (omega (arith, e))

-- ---- two steps of which no key goes in the first

-- each key that lives in the first tables lives in the others
abbrev pub Lasts : Tables → Tables → Type 0
Lasts t u = (k : Key) → is_some (content_of t k) ≡ true → is_some (content_of u k) ≡ true

pub lasts_regions : (t u : Tables) (pid : ℕ) (p : ProcessOf (Unit {0})) (ss : List (RegionOf (Unit {0}))) → process_of t pid ≡ Some p → u ≡ set_regions t pid p ss → ((v : ℕ) → is_some (own_page p.regions v) ≡ true → is_some (own_page ss v) ≡ true) → Lasts t u
lasts_regions t u pid p ss lives is keeps k h = ap (λ (u : Tables). is_some (content_of u k)) is ∙ by_key k h
  where
    v : Tables
    v = set_regions t pid p ss

    by_key : (k : Key) → is_some (content_of t k) ≡ true → is_some (content_of v k) ≡ true
    by_key (key.Private q at) h =
        elim (same_or_not q.0 pid) [
          | inl same ↦
              ap is_some (content_is v q.0 at.0)
              ∙ ap (λ (n : ℕ). is_some (own_page (regions_in v n) at.0)) same
              ∙ ap (λ rs. is_some (own_page rs at.0)) (regions_set_same t pid p ss lives)
              ∙ keeps at.0
              (ap (λ rs. is_some (own_page rs at.0)) (sym (regions_of_process t pid p lives)) ∙ ap (λ (n : ℕ). is_some (own_page (regions_in t n) at.0)) (sym same)
              ∙ ap is_some (sym (content_is t q.0 at.0)) ∙ h)
          | inr other ↦
              ap is_some (content_is v q.0 at.0) ∙ ap (λ rs. is_some (own_page rs at.0)) (regions_set_other t pid q.0 p ss other) ∙ ap is_some (sym (content_is t q.0 at.0)) ∙ h
        ]
    by_key (key.Shared area index) h = h

-- ---- the bytes of keys that stay

carried_then : (a b c : Option Page) → Carried a b → Carried b c → (is_some a ≡ true → is_some b ≡ true) → Carried a c
carried_then None None None p q h = refl
carried_then None None (Some z) p q h = q
carried_then None (Some y) None p q h = refl
carried_then None (Some y) (Some z) p q h = q ∙ p
carried_then (Some x) None c p q h = let bad : false ≡ true = h refl in cc
carried_then (Some x) (Some y) None p q h = refl
carried_then (Some x) (Some y) (Some z) p q h = q ∙ p

pub joined : (t u v : Tables) (c d e : Key → Option Page) (s y z : StoreOf) → FitsTables t c s → Lasts t u → Settled u c d s y → Settled v d e y z → Settled v c e s z
joined t u v c d e s y z f lasts p q =
    record {
      fits = q.fits;
      carries = record { at = λ k. carried_then (c k) (d k) (e k) (p.carries.at k) (q.carries.at k) (λ h. p.fits.live k ∙ lasts k (sym (f.live k) ∙ h)) };
      rest = beside_then s y z p.rest q.rest;
    }

-- ---- the two commits that make a reserved region a stack

abbrev Row : Type 0
Row = RowOf (Unit {0})

abbrev top_row : Row
top_row = commit tt 0x04 reserved_row

abbrev guard_row : Row
guard_row = commit tt 0x104 reserved_row

-- ---- one commit

module _ (t : Tables) (pid : ℕ) (range : Range) (u : IsUncommitted t pid range) where
  abbrev committed : ℕ → RegionOf (Unit {0})
  committed prot = change_rows (commit tt prot) range u.region.thing

  pub charge_more : (prot : ℕ) → charge (set_region t pid u.process u.region.place (committed prot)) ≡ charge t + range.count
  charge_more prot = omega (arith, commit_charge t pid u.process range u.region u.lives u.around prot u.private, u.none)

  pub lasts_commit : (prot : ℕ) (v : Tables) → WellFormed t → v ≡ set_region t pid u.process u.region.place (committed prot) → Lasts t v
  lasts_commit prot v h is =
      let a = around u.process.regions range u.region u.around in
      lasts_regions t v pid u.process (set u.process.regions u.region.place (committed prot)) u.lives is (λ at own.
      let inner : rows.Inside range (pages_of u.region.thing) = record { low = a.inside.low; high = a.inside.high } in
      let moves = regional.commit_moves t pid u.process u.region.place u.region.thing range u.lives h a.at inner (private_is u.region.thing u.private) (record { 0 = pid }) prot refl in
      moves.owned at ∙ still _ _ own)
    where
      private_is : (r : RegionOf (Unit {0})) → r.kind ≡ kind.Private → is_private r.kind ≡ true
      private_is r e = ap is_private e

      still : (held was : Bool) → was ≡ true → cond held true was ≡ true
      still true was e = refl
      still false was e = e

-- ---- the top, then the guard page

module _ (t : Tables) (pid : ℕ) (range : Range) (top : ℕ) (r : IsReserved t pid range) (fits : top + 2 ≤ range.count) where
  abbrev pub guard : ℕ
  guard = range.first + range.count - (top + 1)

  abbrev pub first : RegionOf (Unit {0})
  first = reserved_region range

  pub length_first : length first.rows ≡ range.count
  length_first = length-replicate range.count reserved_row

  pub in_user : WellFormed t → end_of range ≤ end_of_user_pages
  in_user h =
      let placed = is_placed t pid r.place r.process first h r.lives r.there in
      omega (arith, user_end (pages_of first) placed.1, length_first)

  abbrev pub top_region : Found (RegionOf (Unit {0}))
  top_region = record { place = r.place; thing = first }

  module _ (inner : Range) (is : inner ≡ record { first = guard + 1; count = top }) (some : 1 ≤ top) (h : WellFormed t) where
    pub top_found : region_around r.process.regions inner ≡ Some top_region
    top_found =
        let low : inner.first ≡ guard + 1 = ap (λ (r : Range). r.first) is in
        let count : inner.count ≡ top = ap (λ (r : Range). r.count) is in
        let inside : Inside inner (pages_of first) = record { low = omega (arith, low, fits); high = omega (arith, low, count, fits, length_first) } in
        around_is t pid r.process r.place first inner r.lives h r.there inside (omega (arith, some, count))

    pub top_none : owned_in r.process.regions inner ≡ 0
    top_none = (around r.process.regions inner top_region top_found).owned ∙ none_of_equal has_own (inner.first - range.first) inner.count range.count reserved_row refl

    abbrev pub top_free : IsUncommitted t pid inner
    top_free = record { process = r.process; region = top_region; lives = r.lives; around = top_found; private = refl; none = top_none }

  module _ (inner : Range) (is : inner ≡ record { first = guard + 1; count = top }) (t' : Tables) (made : t' ≡ set_region t pid r.process r.place (change_rows (commit tt 0x04) inner first)) where
    abbrev pub second : RegionOf (Unit {0})
    second = change_rows (commit tt 0x04) inner first

    abbrev pub process' : ProcessOf (Unit {0})
    process' = record r.process { regions = set r.process.regions r.place second }

    pub rows_second : second.rows ≡ replicate (range.count - top) reserved_row ++ replicate top top_row
    rows_second =
        let low : inner.first - range.first ≡ range.count - top = omega (arith, ap (λ (r : Range). r.first) is, fits) in
        (λ i. change_range (commit tt 0x04) (low i) (is i).count (replicate range.count reserved_row))
        ∙ top_changed (commit tt 0x04) (range.count - top) top range.count reserved_row (omega (arith, fits))

    pub length_second : length second.rows ≡ range.count
    length_second = length-change_range (commit tt 0x04) (inner.first - range.first) inner.count first.rows ∙ length_first

    pub lives' : process_of t' pid ≡ Some process'
    lives' = ap (λ (t : Tables). process_of t pid) made ∙ process_set_same t pid r.process (set r.process.regions r.place second) r.lives

    pub there' : slice_get process'.regions r.place ≡ Some second
    there' = get_set_same r.process.regions r.place second (get_within r.process.regions r.place first r.there)

    abbrev pub guard_region : Found (RegionOf (Unit {0}))
    guard_region = record { place = r.place; thing = second }

    module _ (one : Range) (same : one ≡ record { first = guard; count = 1 }) (h : WellFormed t') where
      pub guard_found : region_around process'.regions one ≡ Some guard_region
      guard_found =
          let low : one.first ≡ guard = ap (λ (r : Range). r.first) same in
          let count : one.count ≡ 1 = ap (λ (r : Range). r.count) same in
          let inside : Inside one (pages_of second) = record { low = omega (arith, low, fits); high = omega (arith, low, count, fits, length_second) } in
          around_is t' pid process' r.place second one lives' h there' inside (omega (arith, count))

      pub guard_none : owned_in process'.regions one ≡ 0
      guard_none =
          let count : one.count ≡ 1 = ap (λ (r : Range). r.count) same in
          let place : one.first - range.first ≡ range.count - (top + 1) = omega (arith, ap (λ (r : Range). r.first) same, fits) in
          (around process'.regions one guard_region guard_found).owned
          ∙ (λ i. count_by has_own (take (count i) (drop (place i) (rows_second i))))
          ∙ ap (λ (rows : List Row). count_by has_own rows) (one_there (range.count - (top + 1)) (range.count - top) reserved_row (replicate top top_row) (omega (arith, fits)))

      abbrev pub guard_free : IsUncommitted t' pid one
      guard_free = record { process = process'; region = guard_region; lives = lives'; around = guard_found; private = refl; none = guard_none }

    -- both commits make the stack
    pub both_made : (one : Range) → one ≡ record { first = guard; count = 1 } → (u : Tables) → u ≡ set_region t' pid process' r.place (change_rows (commit tt 0x104) one second) → u ≡ set_region t pid r.process r.place (stack_region blank range.first range.count top)
    both_made one same u is' =
        let place : one.first - range.first ≡ range.count - (top + 1) = omega (arith, ap (λ (r : Range). r.first) same, fits) in
        let rows : change_range (commit tt 0x104) (one.first - range.first) one.count second.rows ≡ replicate (range.count - (top + 1)) reserved_row ++ guard_row ∷ replicate top top_row =
        (λ i. change_range (commit tt 0x104) (place i) (same i).count (rows_second i))
        ∙ one_changed (commit tt 0x104) (range.count - (top + 1)) (range.count - top) reserved_row (replicate top top_row) (omega (arith, fits)) in
        let third : change_rows (commit tt 0x104) one second ≡ stack_region blank range.first range.count top = (λ i. record second { rows = rows i }) in
        is'
        ∙ (λ i. set_region (made i) pid process' r.place (third i))
        ∙ (λ i. record t { processes = set-set t.processes pid (Some process') (Some (record r.process { regions = set-set r.process.regions r.place second (stack_region blank range.first range.count top) i })) i })

-- ---- after the reservation

module _ (t : Tables) (pid : ℕ) (p : ProcessOf (Unit {0})) (range : Range) (lives : process_of t pid ≡ Some p) (free : is_free (ranges_of p.regions) range ≡ true) where
  abbrev pub place : ℕ
  place = count_by (λ (r : RegionOf (Unit {0})). nat_lt r.base range.first) p.regions

  abbrev pub regions' : List (RegionOf (Unit {0}))
  regions' = add_region (reserved_region range) p.regions

  pub few : place ≤ length p.regions
  few = count_by-le-length (λ (r : RegionOf (Unit {0})). nat_lt r.base range.first) p.regions

  abbrev pub now_reserved : (t' : Tables) → t' ≡ set_regions t pid p regions' → IsReserved t' pid range
  now_reserved t' is =
      record {
        process = record p { regions = regions' };
        place = place;
        lives = ap (λ (t : Tables). process_of t pid) is ∙ process_set_same t pid p regions' lives;
        there = get-insert p.regions place (reserved_region range) few;
      }

  pub same_charge : (t' : Tables) → t' ≡ set_regions t pid p regions' → charge t' ≡ charge t
  same_charge t' is = omega (arith, ap (λ (t : Tables). charge t) is, regional.reserve_charge t pid p false reserve_type 0x04 range lives free)

  pub lasts_reserve : (t' : Tables) → t' ≡ set_regions t pid p regions' → Lasts t t'
  lasts_reserve t' is =
      lasts_regions t t' pid p regions' lives is (λ at own.
      (regional.reserve_moves t pid p false reserve_type 0x04 range lives free (record { 0 = pid })).owned at ∙ own)

  -- the region has become the stack
  pub stack_made : (top : ℕ) (t' u : Tables) → t' ≡ set_regions t pid p regions' → u ≡ set_region t' pid (record p { regions = regions' }) place (stack_region blank range.first range.count top) → u ≡ set_regions t pid p (add_region (stack_region blank range.first range.count top) p.regions)
  stack_made top t' u is made =
      let stack = stack_region blank range.first range.count top in
      made
      ∙ (λ i. set_region (is i) pid (record p { regions = regions' }) place stack)
      ∙ (λ i. record t { processes = set-set t.processes pid (Some (record p { regions = regions' })) (Some (record p { regions = set-insert p.regions place (reserved_region range) stack few i })) i })
