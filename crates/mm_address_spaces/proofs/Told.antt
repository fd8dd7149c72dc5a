-- What VirtualQuery tells of a page, read off the regions that are kept.
use Rattle.std.proofs.Common.{◌≡◌, ℕ, zero, suc, ◌+◌, ◌-◌, ◌<◌, ◌≤◌, Bool, true, false, cond, List, [], ◌∷◌, length, map, drop, Option, Some, None, option_map, unwrap_or, is_some, refl, sym, ap, ◌∙◌, subst, arith, slice_get, nat_lt, nat_le, ◌&&◌, get_or}
use Rattle.std.specs.Prelude.{find, ◌==◌, take_while}
use Rattle.std.specs.Cmp.{unsigned_Decides}
use Rattle.std.proofs.lemmas.Bool.{leb-true, eqb-true, eqb-false, ne_eqb, and_right}
use Rattle.std.proofs.lemmas.List.Sums.{take_while-cons}
use Rattle.std.proofs.lemmas.List.{drop-map, length-map}
use Rattle.std.specs.List.{prefix_len}
use Rattle.std.proofs.lemmas.List.Folds.{length-prefix_len}
use Rattle.std.proofs.lemmas.Option.{slice_get-map, get_or_from_slice_get}
use Rattle.mm_types.specs.{QueryInfo, address_of, first_user_page, end_of_user_pages, Kind, View, Range}
use Rattle.mm_types.proofs.{and_true, and_false, both as both_true}
use Rattle.mm_types.specs.declared.views.Kind.TheVariants as kind
use Rattle.mm_vad.specs.{FollowsFrom, Row, Region, Look, are_alike, same_look, run_from}
use Rattle.mm_vad.proofs.{each_region}
use Rattle.mm_vad.specs.Regions as vad
use Rattle.mm_vad.specs.Looks as looks
use Rattle.mm_world.specs.{RegionOf, WorldOf, Found, region_with, is_private, is_committed, PageState, same_state, first_run, row_state, page_states}
use Rattle.mm_world.specs.{region_info, next_base, type_of, Each, RowFits, PrivateRowFits, RowOf, AreaOf, region_around, area_at, row_at}
use Rattle.mm_world.specs.{is_committed_at, every_page, every_page_from, page_info, ViewRowFits}
use Rattle.mm_world.proofs.{each-at}
use Rattle.mm_address_spaces.specs.{shown_row, region_of, shown_regions, IsKeptSpace, IsRegionAt, IsAround, is_area_page, view_state, view_states, states_in}
use Rattle.mm_address_spaces.specs.{state_told, ToldState}
use Rattle.mm_address_spaces.proofs.Kept.{found_has, private_low, has_row, fit_low}
use Rattle.mm_address_spaces.proofs.Around.{is_around}
use Rattle.mm_address_spaces.proofs.RowsKept.{every_alike, thing_is}

-- ---- the next region

find_shown : (test : RegionOf (Unit {0}) → Bool) (t : Region → Bool) (vs : List Region) → ((r : Region) → test (region_of r) ≡ t r) → find test (shown_regions vs) ≡ option_map region_of (find t vs)
find_shown test t [] same = refl
find_shown test t (x ∷ xs) same =
    let later = find_shown test t xs same in
    ap (λ b. cond b (Some (region_of x)) (find test (shown_regions xs))) (same x)
    ∙ elim (t x) as (λ b. cond b (Some (region_of x)) (find test (shown_regions xs)) ≡ option_map region_of (cond b (Some x) (find t xs))) [
      | true ↦ refl
      | false ↦ later
    ]

pub next_shown : (vs : List Region) (page : ℕ) (o : Option Region) → o ≡ vad.region_from vs (page + 1) → next_base (shown_regions vs) page ≡ unwrap_or (option_map (λ r. r.base) (option_map region_of o)) end_of_user_pages
next_shown vs page o e =
    let next : suc page ≡ page + 1 = omega arith in
    let found = find_shown (λ r. nat_lt page r.base) (λ r. nat_le (page + 1) r.base.0) vs (λ r. ap (λ n. nat_le n r.base.0) next) in
    ap (λ x. unwrap_or (option_map (λ (r : RegionOf (Unit {0})). r.base) x) end_of_user_pages) (found ∙ ap (option_map region_of) (sym e))

pub next_behind : (vs : List Region) (page : ℕ) (r : Region) → IsKeptSpace vs → Some r ≡ vad.region_from vs (page + 1) → (page ≤ r.base.0) × (r.base.0 ≤ end_of_user_pages)
next_behind vs page r k e =
    let h = found_has (λ g. FollowsFrom first_user_page (vad.region_range g)) (λ g. nat_le (page + 1) g.base.0) vs r (each_region vs k.whole) (sym e) in
    let low : page + 1 ≤ r.base.0 = leb-true _ _ h.0 in
    (omega (arith, low), omega (arith, h.1.within))

-- ---- the states of the rows

abbrev own_by : Bool → Option (Unit {0})
own_by committed = cond committed (Some tt) None

abbrev pub state_of : Row → PageState
state_of row = row_state row.committed (shown_row kind.Private row)

abbrev state_by : Bool → ℕ → Bool → PageState
state_by committed prot guard = row_state {B = Unit {0}} committed (record { prot = prot; guard = guard; marked = false; own = None })

abbrev look_by : Bool → ℕ → Bool → Look
look_by committed prot guard = cond committed (record { committed = true; prot = prot; guard = guard }) (record { committed = false; prot = 0; guard = false })

same_sum : (a b : ℕ) → (a + 0x100 == b + 0x100) ≡ (a == b)
same_sum a b =
    elim (a == b) as (λ z. (a == b) ≡ z → (a + 0x100 == b + 0x100) ≡ z) [
      | true ↦ λ e. (unsigned_Decides (a + 0x100) (b + 0x100)).1 (omega (arith, eqb-true a b e))
      | false ↦ λ e. (let differ = eqb-false a b e in ne_eqb (a + 0x100) (b + 0x100) (λ i. differ (omega (arith, i))))
    ] refl

state_is : (row : Row) → state_of row ≡ state_by row.committed row.prot.0 row.guard
state_is row = elim row.committed as (λ b. row_state b (shown_row kind.Private row) ≡ state_by b row.prot.0 row.guard) [ true ↦ refl | false ↦ refl ]

-- pages look alike where they are in one state
alike_by : (ca cb ga gb : Bool) (pa pb : ℕ) → (ca ≡ true → pa < 0x100) → (cb ≡ true → pb < 0x100) → same_state (state_by ca pa ga) (state_by cb pb gb) ≡ same_look (look_by ca pa ga) (look_by cb pb gb)
alike_by true true true true pa pb la lb = same_sum pa pb ∙ sym (and_true (pa == pb))
alike_by true true true false pa pb la lb = ne_eqb (pa + 0x100) pb (λ i. omega (arith, i, lb refl)) ∙ sym (and_false (pa == pb))
alike_by true true false true pa pb la lb = ne_eqb pa (pb + 0x100) (λ i. omega (arith, i, la refl)) ∙ sym (and_false (pa == pb))
alike_by true true false false pa pb la lb = sym (and_true (pa == pb))
alike_by true false ga gb pa pb la lb = refl
alike_by false true ga gb pa pb la lb = refl
alike_by false false ga gb pa pb la lb = refl

low_prot : (row : Row) → PrivateRowFits (shown_row kind.Private row) → row.committed ≡ true → row.prot.0 < 0x100
low_prot row h e = private_low row.prot.0 (h.committed (ap (λ b. is_some (own_by b)) e))

alike : (a b : Row) → PrivateRowFits (shown_row kind.Private a) → PrivateRowFits (shown_row kind.Private b) → same_state (state_of a) (state_of b) ≡ are_alike a b
alike a b ha hb =
    ap (λ s. same_state s (state_of b)) (state_is a)
    ∙ ap (same_state (state_by a.committed a.prot.0 a.guard)) (state_is b)
    ∙ alike_by a.committed b.committed a.guard b.guard a.prot.0 b.prot.0 (low_prot a ha) (low_prot b hb)

abbrev Fit : List Row → Type 0
Fit rows = Each (RowFits kind.Private) (map (shown_row kind.Private) rows)

-- a run of states is a run of rows that are alike
run_alike : (a : Row) (rows : List Row) → PrivateRowFits (shown_row kind.Private a) → Fit rows → length (take_while (same_state (state_of a)) (map state_of rows)) ≡ length (take_while (are_alike a) rows)
run_alike a [] ha h = refl
run_alike a (x ∷ xs) ha h =
    let later = run_alike a xs ha h.1 in
    ap length (take_while-cons (same_state (state_of a)) (state_of x) (map state_of xs))
    ∙ ap (λ b. length (cond b (state_of x ∷ take_while (same_state (state_of a)) (map state_of xs)) [])) (alike a x ha h.0)
    ∙ elim (are_alike a x) as (λ b. length (cond b (state_of x ∷ take_while (same_state (state_of a)) (map state_of xs)) []) ≡ length (cond b (x ∷ take_while (are_alike a) xs) [])) [
      | true ↦ ap suc later
      | false ↦ refl
    ]
    ∙ sym (ap length (take_while-cons (are_alike a) x xs))

self_alike : (committed guard : Bool) (prot : ℕ) → same_look (look_by committed prot guard) (look_by committed prot guard) ≡ true
self_alike true true prot = ap (λ b. b && true) ((unsigned_Decides prot prot).1 refl)
self_alike true false prot = ap (λ b. b && true) ((unsigned_Decides prot prot).1 refl)
self_alike false guard prot = refl

run_states : (rows : List Row) → Fit rows → (first_run (map state_of rows)).1 ≡ looks.first_alike rows
run_states [] h = refl
run_states (row ∷ rows) h =
    let one : 1 + length (take_while (are_alike row) rows) ≡ suc (length (take_while (are_alike row) rows)) = omega arith in
    ap (λ n. 1 + n) (run_alike row rows h.0 h.1)
    ∙ one
    ∙ sym (ap (λ b. length (cond b (row ∷ take_while (are_alike row) rows) [])) (self_alike row.committed row.guard row.prot.0))
    ∙ sym (ap length (take_while-cons (are_alike row) row rows))

committed_is : (w : WorldOf (Unit {0})) (i : ℕ) (row : Row) → is_committed w kind.Private i (shown_row kind.Private row) ≡ row.committed
committed_is w i row = elim row.committed as (λ b. is_some (own_by b) ≡ b) [ true ↦ refl | false ↦ refl ]

states_are : (w : WorldOf (Unit {0})) (i : ℕ) (rows : List Row) → page_states w kind.Private i (map (shown_row kind.Private) rows) ≡ map state_of rows
states_are w i [] = refl
states_are w i (row ∷ rows) =
    ap (λ b. row_state b (shown_row kind.Private row) ∷ page_states w kind.Private (i + 1) (map (shown_row kind.Private) rows)) (committed_is w i row)
    ∙ ap (λ ss. state_of row ∷ ss) (states_are w (i + 1) rows)

fit_drop : (n : ℕ) (rows : List Row) → Fit rows → Fit (drop n rows)
fit_drop zero rows h = h
fit_drop (suc n) [] h = tt
fit_drop (suc n) (row ∷ rows) h = fit_drop n rows h.1

first_state : (i : ℕ) (rows : List Row) (row : Row) → slice_get rows i ≡ Some row → (first_run (drop i (map state_of rows))).0 ≡ state_of row
first_state i [] row e = cc
first_state zero (x ∷ xs) row e = let same : x ≡ row = cc in ap state_of same
first_state (suc i) (x ∷ xs) row e = first_state i xs row e

-- ---- a page in a region

module _ (rs : List (RegionOf (Unit {0}))) (page : ℕ) (g : Region) (at : IsRegionAt rs page g) where
  abbrev pub states : WorldOf (Unit {0}) → RegionOf (Unit {0}) → List PageState
  states w r = drop (page - r.base) (page_states w r.kind 0 r.rows)

  pub thing_at : (r : Found (RegionOf (Unit {0}))) → region_with rs page ≡ Some r → r.thing ≡ region_of g
  thing_at r e =
      let both : Some at.found ≡ Some r = sym at.there ∙ e in
      let same : at.found ≡ r = cc in
      ap (λ (f : Found (RegionOf (Unit {0}))). f.thing) (sym same) ∙ at.is_shown

  -- the kind of the region that is kept is that of the one that is shown
  pub kind_at : (b : Bool) → ((r : Found (RegionOf (Unit {0}))) → region_with rs page ≡ Some r → is_private r.thing.kind ≡ b) → is_private g.kind ≡ b
  kind_at b known = ap (λ (x : RegionOf (Unit {0})). is_private x.kind) (sym at.is_shown) ∙ known at.found at.there

  abbrev pub info_by : ℕ → PageState → ℕ → QueryInfo
  info_by size s kind = record { base = address_of page; alloc_base = address_of g.base.0; alloc_prot = g.alloc_prot.0; size = size; state = s.state; prot = s.prot; kind = kind }

  -- what is told of a page in a region
  pub region_told : (w : WorldOf (Unit {0})) (r : Found (RegionOf (Unit {0}))) (s : PageState) (n type : ℕ) → region_with rs page ≡ Some r → (first_run (states w (region_of g))).0 ≡ s → n ≡ (first_run (states w (region_of g))).1 → type ≡ type_of g.kind → info_by (address_of n) s type ≡ region_info w r.thing page
  region_told w r s n type e state run same_type =
      ap (λ m. info_by (address_of m) s type) run
      ∙ ap (λ x. info_by (address_of (first_run (states w (region_of g))).1) x type) (sym state)
      ∙ ap (λ t. info_by (address_of (first_run (states w (region_of g))).1) (first_run (states w (region_of g))).0 t) same_type
      ∙ ap (λ x. region_info w x page) (sym (thing_at r e))

  module _ (private : g.kind ≡ kind.Private) where
    private_states : (w : WorldOf (Unit {0})) → states w (region_of g) ≡ drop (page - g.base.0) (map state_of g.rows)
    private_states w =
        ap (λ k. drop (page - g.base.0) (page_states w k 0 (map (shown_row k) g.rows))) private
        ∙ ap (drop (page - g.base.0)) (states_are w 0 g.rows)

    private_fit : Fit g.rows
    private_fit = subst (λ k. Each (RowFits k) (map (shown_row k) g.rows)) private at.fit

    pub private_run : (w : WorldOf (Unit {0})) → (first_run (states w (region_of g))).1 ≡ run_from g.rows (page - g.base.0)
    private_run w =
        ap (λ ss. (first_run ss).1) (private_states w ∙ drop-map state_of (page - g.base.0) g.rows)
        ∙ run_states (drop (page - g.base.0) g.rows) (fit_drop (page - g.base.0) g.rows private_fit)

    pub private_state : (w : WorldOf (Unit {0})) (row : Row) → slice_get g.rows (page - g.base.0) ≡ Some row → (first_run (states w (region_of g))).0 ≡ state_of row
    private_state w row there = ap (λ ss. (first_run ss).0) (private_states w) ∙ first_state (page - g.base.0) g.rows row there

-- ---- what is told of the pages of a view, and which of them are committed

abbrev Area : Type 0
Area = AreaOf (Unit {0})

-- ---- tests of pages

pub every_more : (q : ℕ → Bool) (first n : ℕ) → every_page_from q first n ≡ true → q (first + n) ≡ true → every_page_from q first (suc n) ≡ true
every_more q first zero e here =
    let same : first ≡ first + 0 = omega arith in
    both_true (q first) true (ap q same ∙ here) refl
every_more q first (suc n) e here =
    let same : first + 1 + n ≡ first + suc n = omega arith in
    by_first (q first) e (λ rest. every_more q (first + 1) n rest (ap q same ∙ here))
  where
    by_first : (a : Bool) → (a && every_page_from q (first + 1) n) ≡ true → (every_page_from q (first + 1) n ≡ true → every_page_from q (first + 1) (suc n) ≡ true) → (a && every_page_from q (first + 1) (suc n)) ≡ true
    by_first true e later = later e
    by_first false e later = cc

pub every_fails : (q : ℕ → Bool) (first count i : ℕ) → i < count → q (first + i) ≡ false → every_page_from q first count ≡ false
every_fails q first zero i low e = absurd (omega (arith, low))
every_fails q first (suc count) zero low e =
    let same : first ≡ first + 0 = omega arith in
    ap (λ b. b && every_page_from q (first + 1) count) (ap q same ∙ e)
every_fails q first (suc count) (suc i) low e =
    let same : first + 1 + i ≡ first + suc i = omega arith in
    and_right (q first) (every_page_from q (first + 1) count) (every_fails q (first + 1) count i (omega (arith, low)) (ap q same ∙ e))

-- pages counted from a base
every_from : (q : ℕ → Bool) (base first count : ℕ) → base ≤ first → every_page_from (λ page. q (page - base)) first count ≡ every_page_from q (first - base) count
every_from q base first zero low = refl
every_from q base first (suc count) low =
    let next : first + 1 - base ≡ first - base + 1 = omega (arith, low) in
    ap (λ b. q (first - base) && b) (every_from q base (first + 1) count (omega (arith, low)) ∙ ap (λ n. every_page_from q n count) next)

-- ---- committed pages

area_page : (w : WorldOf (Unit {0})) (a : Area) (r : RegionOf (Unit {0})) (v : View) (page : ℕ) (row : RowOf (Unit {0})) → r.kind ≡ kind.View v → area_at w v.area.0 ≡ a → row_at r page ≡ Some row → is_committed_at w r page ≡ is_area_page a v (page - r.base)
area_page w a r v page row is same at =
    ap (λ o. unwrap_or (option_map (is_committed w r.kind (page - r.base)) o) false) at
    ∙ ap (λ k. is_committed w k (page - r.base) row) is
    ∙ ap (λ (x : Area). is_area_page x v (page - r.base)) same

pub view_committed : (w : WorldOf (Unit {0})) (a : Area) (rs : List (RegionOf (Unit {0}))) (range : Range) (r : Found (RegionOf (Unit {0}))) (v : View) → region_around rs range ≡ Some r → r.thing.kind ≡ kind.View v → area_at w v.area.0 ≡ a → every_page (is_committed_at w r.thing) range ≡ every_page_from (is_area_page a v) (range.first - r.thing.base) range.count
view_committed w a rs range r v e is same =
    let i = is_around rs range r e in
    every_alike (is_committed_at w r.thing) (λ page. is_area_page a v (page - r.thing.base)) range.first range.count
    (λ page low high.
    let row = has_row r.thing.rows (page - r.thing.base) (omega (arith, low, high, i.low, i.high)) in
    area_page w a r.thing v page row.0 is same row.1)
    ∙ every_from (is_area_page a v) r.thing.base range.first range.count i.low

-- the view that is kept is the one that is asked for
pub same_view : (k : Kind) (u v : View) → k ≡ kind.View u → k ≡ kind.View v → u ≡ v
same_view k u v e f = let both : kind.View u ≡ kind.View v = sym e ∙ f in cc

pub committed_told : (w : WorldOf (Unit {0})) (a : Area) (rs : List (RegionOf (Unit {0}))) (range : Range) (g : Region) (u : View) (h : IsAround rs range g) (r : Found (RegionOf (Unit {0}))) (v : View) → g.kind ≡ kind.View u → region_around rs range ≡ Some r → r.thing.kind ≡ kind.View v → area_at w v.area.0 ≡ a → every_page (is_committed_at w r.thing) range ≡ every_page_from (is_area_page a u) (range.first - g.base.0) range.count
committed_told w a rs range g u h r v kept e is same =
    let thing = thing_is rs range g h r e in
    let views : v ≡ u = same_view r.thing.kind v u is (ap (λ (x : RegionOf (Unit {0})). x.kind) thing ∙ kept) in
    view_committed w a rs range r v e is same
    ∙ ap (λ (x : RegionOf (Unit {0})). every_page_from (is_area_page a v) (range.first - x.base) range.count) thing
    ∙ ap (λ (x : View). every_page_from (is_area_page a x) (range.first - g.base.0) range.count) views

-- ---- what is told

state_at : (a : Area) (v : View) (i k : ℕ) (rows : List (RowOf (Unit {0}))) (row : RowOf (Unit {0})) → slice_get rows k ≡ Some row → slice_get (view_states a v i rows) k ≡ Some (view_state a v (i + k) row)
state_at a v i k [] row e = cc
state_at a v i zero (x ∷ rows) row e =
    let same : x ≡ row = cc in
    let here : i ≡ i + 0 = omega arith in
    ap (λ (x : RowOf (Unit {0})). Some (view_state a v i x)) same ∙ ap (λ n. Some (view_state a v n row)) here
state_at a v i (suc k) (x ∷ rows) row e =
    let here : i + 1 + k ≡ i + suc k = omega arith in
    state_at a v (i + 1) k rows row e ∙ ap (λ n. Some (view_state a v n row)) here

length_states : (a : Area) (v : View) (i : ℕ) (rows : List (RowOf (Unit {0}))) → length (view_states a v i rows) ≡ length rows
length_states a v i [] = refl
length_states a v i (row ∷ rows) = ap suc (length_states a v (i + 1) rows)

pub length_in : (a : Area) (v : View) (rows : List Row) → length (states_in a v rows) ≡ length rows
length_in a v rows = length_states a v 0 (map (shown_row (kind.View v)) rows) ∙ length-map rows (shown_row (kind.View v))

world_states : (w : WorldOf (Unit {0})) (a : Area) (v : View) → area_at w v.area.0 ≡ a → (i : ℕ) (rows : List (RowOf (Unit {0}))) → page_states w (kind.View v) i rows ≡ view_states a v i rows
world_states w a v e i [] = refl
world_states w a v e i (row ∷ rows) =
    ap (λ (x : Area). view_state x v i row ∷ page_states w (kind.View v) (i + 1) rows) e
    ∙ ap (λ ss. view_state a v i row ∷ ss) (world_states w a v e (i + 1) rows)

-- what is told of a page stands among the states
pub seen : (a : Area) (v : View) (rows : List Row) (k : ℕ) (t : ToldState) → k < length rows → ((row : Row) → slice_get rows k ≡ Some row → state_told t ≡ view_state a v k (shown_row (kind.View v) row)) → slice_get (states_in a v rows) k ≡ Some (state_told t)
seen a v rows k t inside is =
    let row = has_row rows k inside in
    let here : 0 + k ≡ k = omega arith in
    state_at a v 0 k (map (shown_row (kind.View v)) rows) (shown_row (kind.View v) row.0) (slice_get-map (shown_row (kind.View v)) rows k ∙ ap (option_map (shown_row (kind.View v))) row.1)
    ∙ ap (λ n. Some (view_state a v n (shown_row (kind.View v) row.0))) here
    ∙ ap (λ s. Some s) (sym (is row.0 row.1))

pub seen_there : (a : Area) (v : View) (rows : List Row) (k : ℕ) (t : ToldState) (d : PageState) → k < length rows → ((row : Row) → slice_get rows k ≡ Some row → state_told t ≡ view_state a v k (shown_row (kind.View v) row)) → get_or (states_in a v rows) k d ≡ state_told t
seen_there a v rows k t d inside is = get_or_from_slice_get (states_in a v rows) k (state_told t) d (seen a v rows k t inside is)

pub first_at : (k : ℕ) (ss : List PageState) (s : PageState) → slice_get ss k ≡ Some s → first_run (drop k ss) ≡ (s, 1 + length (take_while (same_state s) (drop (suc k) ss)))
first_at k [] s e = cc
first_at zero (x ∷ ss) s e = let same : x ≡ s = cc in ap (λ (y : PageState). (y, 1 + length (take_while (same_state y) ss))) same
first_at (suc k) (x ∷ ss) s e = first_at k ss s e

pub run_at : (k : ℕ) (ss : List PageState) (s : PageState) → slice_get ss k ≡ Some s → (first_run (drop k ss)).1 ≡ 1 + prefix_len (same_state s) (drop (k + 1) ss)
run_at k ss s e =
    let next : suc k ≡ k + 1 = omega arith in
    ap (λ r. r.1) (first_at k ss s e)
    ∙ ap (λ n. 1 + length (take_while (same_state s) (drop n ss))) next
    ∙ ap (λ n. 1 + n) (length-prefix_len (same_state s) (drop (k + 1) ss))

-- a protection that is kept in a view is a byte
pub view_low : (v : View) (rows : List Row) (k : ℕ) (row : Row) → Each (ViewRowFits v.access) (map (shown_row (kind.View v)) rows) → slice_get rows k ≡ Some row → row.prot.0 < 0x100
view_low v rows k row fit e = fit_low (kind.View v) (shown_row (kind.View v) row) (each-at (ViewRowFits v.access) (map (shown_row (kind.View v)) rows) k _ fit (slice_get-map (shown_row (kind.View v)) rows k ∙ ap (option_map (shown_row (kind.View v))) e))

-- ---- a page in a view

module _ (rs : List (RegionOf (Unit {0}))) (page : ℕ) (g : Region) (at : IsRegionAt rs page g) (u : View) (kept : g.kind ≡ kind.View u) where
  pub view_fit : Each (ViewRowFits u.access) (map (shown_row (kind.View u)) g.rows)
  view_fit = subst (λ k. Each (RowFits k) (map (shown_row k) g.rows)) kept at.fit

  pub view_states_are : (w : WorldOf (Unit {0})) (a : Area) → area_at w u.area.0 ≡ a → states rs page g at w (region_of g) ≡ drop (page - g.base.0) (states_in a u g.rows)
  view_states_are w a same =
      ap (λ k. drop (page - g.base.0) (page_states w k 0 (map (shown_row k) g.rows))) kept
      ∙ ap (drop (page - g.base.0)) (world_states w a u same 0 (map (shown_row (kind.View u)) g.rows))

pub state_read : (a : Area) (v : View) (rows : List Row) (k : ℕ) (got row : Row) (t : ToldState) (b : Bool) → slice_get rows k ≡ Some got → slice_get rows k ≡ Some row → state_told t ≡ row_state b (shown_row (kind.View v) got) → b ≡ is_area_page a v k → state_told t ≡ view_state a v k (shown_row (kind.View v) row)
state_read a v rows k got row t b e f is committed =
    let both : Some got ≡ Some row = sym e ∙ f in
    let same : got ≡ row = cc in
    is
    ∙ ap (λ z. row_state z (shown_row (kind.View v) got)) committed
    ∙ ap (λ (x : Row). view_state a v k (shown_row (kind.View v) x)) same

pub not_private : (k : Kind) → k ≡ kind.Private → is_private k ≡ false → ⊥
not_private k e f = let bad : true ≡ false = ap is_private (sym e) ∙ f in cc

-- the kind of the region that is kept around a range is that of the one that is shown
pub kind_around : (rs : List (RegionOf (Unit {0}))) (range : Range) (g : Region) → IsAround rs range g → (b : Bool) → ((r : Found (RegionOf (Unit {0}))) → region_around rs range ≡ Some r → is_private r.thing.kind ≡ b) → is_private g.kind ≡ b
kind_around rs range g h b known = ap (λ (x : RegionOf (Unit {0})). is_private x.kind) (sym h.at.is_shown) ∙ known h.at.found h.around

-- ---- what a query tells of a page of a view

module _ (rs : List (RegionOf (Unit {0}))) (page : ℕ) (g : Region) (at : IsRegionAt rs page g) (u : View) (kept : g.kind ≡ kind.View u) where
  pub view_told : (w : WorldOf (Unit {0})) (a : Area) (r : Found (RegionOf (Unit {0}))) (v : View) (t : ToldState) (n : ℕ) → region_with rs page ≡ Some r → r.thing.kind ≡ kind.View v → area_at w v.area.0 ≡ a → slice_get (states_in a u g.rows) (page - g.base.0) ≡ Some (state_told t) → n ≡ (first_run (drop (page - g.base.0) (states_in a u g.rows))).1 → info_by rs page g at (address_of n) (state_told t) 0x40000 ≡ page_info w rs page (region_with rs page)
  view_told w a r v t n e is same there run =
      let views : v ≡ u = same_view r.thing.kind v u is (ap (λ (x : RegionOf (Unit {0})). x.kind) (thing_at rs page g at r e) ∙ kept) in
      let area : area_at w u.area.0 ≡ a = subst (λ (x : View). area_at w x.area.0 ≡ a) views same in
      let all = view_states_are rs page g at u kept w a area in
      region_told rs page g at w r (state_told t) n 0x40000 e
      (ap (λ ss. (first_run ss).0) all ∙ ap (λ x. x.0) (first_at (page - g.base.0) (states_in a u g.rows) (state_told t) there))
      (run ∙ sym (ap (λ ss. (first_run ss).1) all))
      (sym (ap type_of kept))
      ∙ ap (page_info w rs page) (sym e)
