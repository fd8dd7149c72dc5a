-- Calls do not look at what a page holds: to change what each page holds by a function and then to call is to call and then to change.
use Rattle.std.proofs.Common.{◌≡◌, ℕ, zero, suc, ◌+◌, ◌-◌, Bool, true, false, Option, Some, None, List, [], ◌∷◌, refl, sym, ◌∙◌, ap, cond, is_some, is_none, sum_by, count_by, replicate, set, get_or, map, leb, nat_lt, ◌&&◌, option_map, unwrap_or, slice_get}
use Rattle.std.specs.Prelude.{insert, remove, ◌==◌}
use Rattle.std.proofs.Math.Path.{fun_ext}
use Rattle.std.proofs.Math.ListN.{get_or-map}
use Rattle.std.proofs.lemmas.List.{map-set, length-map, map-append, take-map, drop-map}
use Rattle.std.proofs.lemmas.Option.{slice_get-map}
use Rattle.std.proofs.lemmas.Iterator.Adapters.{option_map_id}
pub use Rattle.mm_types.proofs.{some_map as some-map}
use Rattle.std.proofs.lemmas.List.Sums.{sum_by-cons}
use Rattle.mm_types.specs.{Code, Answer, Prot, Kind, Range, lies_within, address_of, base_of, reserve_type}
use Rattle.mm_types.specs.declared.codes.Code.TheVariants as code
use Rattle.mm_types.specs.declared.answers.Answer.TheVariants as answer
use Rattle.mm_types.specs.declared.views.Kind.TheVariants as kind
use Rattle.mm_world.specs.{RowOf, RegionOf, ProcessOf, AreaOf, WorldOf, pages_of, map_row, map_region, map_process, map_area, map_world, map_outcome}
use Rattle.mm_world.specs.{end_stacks, Found, first_where, one_later, change_range, ranges_of, region_around, add_region, process_of, set_process}
use Rattle.mm_world.specs.{set_regions, set_region, area_at, set_area, no_area, shared_page, placed, is_private, charge, limit, is_charged}
use Rattle.mm_world.specs.{region_charge, process_charge, area_charge, OutcomeOf, done, need, find_or, with_process, within_limit, is_one_of}
use Rattle.mm_world.specs.{protections_of, row_at, accepts, is_committed, is_committed_at, reserved_row, commit, protected, change_rows, every_page}
use Rattle.mm_world.specs.{alloc, reserve, commit_in, commit_shared, private_region, new_row, is_stack_at, free, decommit, private_at, private_around}
use Rattle.mm_world.specs.{protect, protection_at, protection_of}

module _ {A B : Type 0} (f : A → B) where
  pub record Agrees (o : OutcomeOf A) (p : OutcomeOf B) : Type 0 where
    pub same : p ≡ map_outcome f o

  abbrev pub map_found : Found (RegionOf A) → Found (RegionOf B)
  map_found r = record { place = r.place; thing = map_region f r.thing }

-- ---- lists

pub first-map : {X Y : Type 0} (test : Y → Bool) (g : X → Y) (xs : List X) → first_where test (map g xs) ≡ option_map (λ (r : Found X). let s : Found Y = record { place = r.place; thing = g r.thing } in s) (first_where (λ x. test (g x)) xs)
first-map test g [] = refl
first-map {X} {Y} test g (x ∷ xs) = by_test (test (g x)) (first-map test g xs)
  where
    there : Found X → Found Y
    there r = record { place = r.place; thing = g r.thing }

    later : (o : Option (Found X)) → option_map one_later (option_map there o) ≡ option_map there (option_map one_later o)
    later None = refl
    later (Some r) = refl

    by_test : (b : Bool) → first_where test (map g xs) ≡ option_map there (first_where (λ x. test (g x)) xs) → cond b (Some (record { place = 0; thing = g x })) (option_map one_later (first_where test (map g xs))) ≡ option_map there (cond b (Some (record { place = 0; thing = x })) (option_map one_later (first_where (λ x. test (g x)) xs)))
    by_test true ih = refl
    by_test false ih = ap (option_map one_later) ih ∙ later (first_where (λ x. test (g x)) xs)

pub map-insert : {X Y : Type 0} (g : X → Y) (xs : List X) (i : ℕ) (x : X) → map g (insert xs i x) ≡ insert (map g xs) i (g x)
map-insert g xs i x = simp (map-append, take-map, drop-map)

pub map-remove : {X Y : Type 0} (g : X → Y) (xs : List X) (i : ℕ) → map g (remove xs i) ≡ remove (map g xs) i
map-remove g xs i = simp (map-append, take-map, drop-map)

map-map : {X Y : Type 0} (g : X → Y) (c : X → X) (d : Y → Y) (xs : List X) → ((x : X) → g (c x) ≡ d (g x)) → map g (map c xs) ≡ map d (map g xs)
map-map g c d [] e = refl
map-map g c d (x ∷ xs) e = λ i. e x i ∷ map-map g c d xs e i

pub map-change_range : {X Y : Type 0} (g : X → Y) (c : X → X) (d : Y → Y) (first count : ℕ) (xs : List X) → ((x : X) → g (c x) ≡ d (g x)) → map g (change_range c first count xs) ≡ change_range d first count (map g xs)
map-change_range g c d first count xs e = simp (map-append, take-map, drop-map, map-map g c d)

pub map-replicate : {X Y : Type 0} (g : X → Y) (n : ℕ) (x : X) → map g (replicate n x) ≡ replicate n (g x)
map-replicate g zero x = refl
map-replicate g (suc n) x = ap (λ ys. g x ∷ ys) (map-replicate g n x)

pub sum_by-map : {X Y : Type 0} (h : Y → ℕ) (g : X → Y) (xs : List X) → sum_by h (map g xs) ≡ sum_by (λ x. h (g x)) xs
sum_by-map h g [] = refl
sum_by-map h g (x ∷ xs) = sum_by-cons h (g x) (map g xs) ∙ ap (λ (n : ℕ). h (g x) + n) (sum_by-map h g xs) ∙ sym (sum_by-cons (λ x. h (g x)) x xs)

-- two readings of what there is, if there is anything
pub read-map : {X Y V : Type 0} (g : X → Y) (p : Y → V) (q : X → V) → ((x : X) → p (g x) ≡ q x) → (d : V) (o : Option X) → unwrap_or (option_map p (option_map g o)) d ≡ unwrap_or (option_map q o) d
read-map g p q e d None = refl
read-map g p q e d (Some x) = e x

pub every_page-same : (s t : ℕ → Bool) (range : Range) → ((page : ℕ) → s page ≡ t page) → every_page s range ≡ every_page t range
every_page-same s t range e = ap (λ u. every_page u range) (fun_ext e)

module _ {A B : Type 0} (f : A → B) where
  -- ---- regions

  pub pages_of-map : (r : RegionOf A) → pages_of (map_region f r) ≡ pages_of r
  pages_of-map r = ap (λ (n : ℕ). let range : Range = record { first = r.base; count = n } in range) (length-map r.rows (map_row f))

  pub ranges_of-map : (rs : List (RegionOf A)) → ranges_of (map (map_region f) rs) ≡ ranges_of rs
  ranges_of-map [] = refl
  ranges_of-map (r ∷ rs) = λ i. pages_of-map r i ∷ ranges_of-map rs i

  -- the region that passes a test
  pub found-map : (test : RegionOf B → Bool) (test' : RegionOf A → Bool) → ((r : RegionOf A) → test (map_region f r) ≡ test' r) → (rs : List (RegionOf A)) → first_where test (map (map_region f) rs) ≡ option_map (map_found f) (first_where test' rs)
  found-map test test' e rs = first-map test (map_region f) rs ∙ ap (λ t. option_map (map_found f) (first_where t rs)) (fun_ext e)

  around : (rs : List (RegionOf A)) (range : Range) → region_around (map (map_region f) rs) range ≡ option_map (map_found f) (region_around rs range)
  around rs range = found-map (λ r. lies_within range (pages_of r)) _ (λ r. ap (lies_within range) (pages_of-map r)) rs

  at_private : (rs : List (RegionOf A)) (addr : ℕ) → private_at (map (map_region f) rs) addr ≡ option_map (map_found f) (private_at rs addr)
  at_private rs addr = first-map (λ r. is_private r.kind && (address_of r.base == addr)) (map_region f) rs

  around_private : (rs : List (RegionOf A)) (range : Range) → private_around (map (map_region f) rs) range ≡ option_map (map_found f) (private_around rs range)
  around_private rs range = found-map (λ r. is_private r.kind && lies_within range (pages_of r)) _ (λ r. ap (λ range'. is_private r.kind && lies_within range range') (pages_of-map r)) rs

  pub same_place : (rs : List (RegionOf A)) (addr : ℕ) (wanted : Range) (count : ℕ) → placed (ranges_of (map (map_region f) rs)) addr wanted count ≡ placed (ranges_of rs) addr wanted count
  same_place rs addr wanted count = ap (λ ranges. placed ranges addr wanted count) (ranges_of-map rs)

  pub map-add_region : (r : RegionOf A) (rs : List (RegionOf A)) → map (map_region f) (add_region r rs) ≡ add_region (map_region f r) (map (map_region f) rs)
  map-add_region r rs =
      map-insert (map_region f) rs (count_by (λ x. nat_lt x.base r.base) rs) r
      ∙ ap (λ n. insert (map (map_region f) rs) n (map_region f r)) (sym (sum_by-map (λ x. cond (nat_lt x.base r.base) 1 0) (map_region f) rs))

  -- ---- worlds

  pub at_process : (w : WorldOf A) (pid : ℕ) → process_of (map_world f w) pid ≡ option_map (map_process f) (process_of w pid)
  at_process w pid = get_or-map (option_map (map_process f)) w.processes pid None

  pub to_process : (w : WorldOf A) (pid : ℕ) (p : Option (ProcessOf A)) → map_world f (set_process w pid p) ≡ set_process (map_world f w) pid (option_map (map_process f) p)
  to_process w pid p = ap (λ ps. record (map_world f w) { processes = ps }) (map-set (option_map (map_process f)) w.processes pid p)

  pub to_regions : (w : WorldOf A) (pid : ℕ) (p : ProcessOf A) (rs : List (RegionOf A)) → map_world f (set_regions w pid p rs) ≡ set_regions (map_world f w) pid (map_process f p) (map (map_region f) rs)
  to_regions w pid p rs = to_process w pid (Some (record p { regions = rs }))

  pub to_added : (w : WorldOf A) (pid : ℕ) (p : ProcessOf A) (new : RegionOf A) (new' : RegionOf B) → map_region f new ≡ new' → set_regions (map_world f w) pid (map_process f p) (add_region new' (map (map_region f) p.regions)) ≡ map_world f (set_regions w pid p (add_region new p.regions))
  to_added w pid p new new' e =
      ap (λ r. set_regions (map_world f w) pid (map_process f p) (add_region r (map (map_region f) p.regions))) (sym e)
      ∙ ap (λ rs. set_regions (map_world f w) pid (map_process f p) rs) (sym (map-add_region new p.regions))
      ∙ sym (to_regions w pid p (add_region new p.regions))

  pub to_region : (w : WorldOf A) (pid : ℕ) (p : ProcessOf A) (place : ℕ) (r : RegionOf A) → map_world f (set_region w pid p place r) ≡ set_region (map_world f w) pid (map_process f p) place (map_region f r)
  to_region w pid p place r = to_regions w pid p (set p.regions place r) ∙ ap (λ rs. set_regions (map_world f w) pid (map_process f p) rs) (map-set (map_region f) p.regions place r)

  pub map-area_at : (w : WorldOf A) (area : ℕ) → area_at (map_world f w) area ≡ map_area f (area_at w area)
  map-area_at w area = ap (λ o. unwrap_or o no_area) (slice_get-map (map_area f) w.areas area) ∙ elim (slice_get w.areas area) as (λ o. unwrap_or (option_map (map_area f) o) no_area ≡ map_area f (unwrap_or o no_area)) [ None ↦ refl | Some a ↦ refl ]

  pub map-shared_page : (w : WorldOf A) (area i : ℕ) → shared_page (map_world f w) area i ≡ option_map f (shared_page w area i)
  map-shared_page w area i = ap (λ (a : AreaOf B). get_or a.pages i None) (map-area_at w area) ∙ get_or-map (option_map f) (area_at w area).pages i None

  -- ---- the charge

  same_row : (k : Kind) (row : RowOf A) → is_charged k (map_row f row) ≡ is_charged k row
  same_row kind.Private row = some-map f row.own
  same_row (kind.View v) row = refl

  same_region : (r : RegionOf A) → region_charge (map_region f r) ≡ region_charge r
  same_region r = sum_by-map (λ row. cond (is_charged r.kind row) 1 0) (map_row f) r.rows ∙ ap (λ t. count_by t r.rows) (fun_ext (same_row r.kind))

  same_process : (p : Option (ProcessOf A)) → process_charge (option_map (map_process f) p) ≡ process_charge p
  same_process None = refl
  same_process (Some p) = sum_by-map region_charge (map_region f) p.regions ∙ ap (λ t. sum_by t p.regions) (fun_ext same_region)

  same_area : (a : AreaOf A) → area_charge (map_area f a) ≡ area_charge a
  same_area a =
      sum_by-map (λ page. cond (is_some page && is_none a.file_block) 1 0) (option_map f) a.pages
      ∙ ap (λ t. count_by t a.pages) (fun_ext (λ page. ap (λ b. b && is_none a.file_block) (some-map f page)))

  pub same_charge : (w : WorldOf A) → charge (map_world f w) ≡ charge w
  same_charge w = λ i.
      (sum_by-map process_charge (option_map (map_process f)) w.processes ∙ ap (λ t. sum_by t w.processes) (fun_ext same_process)) i
      + (sum_by-map area_charge (map_area f) w.areas ∙ ap (λ t. sum_by t w.areas) (fun_ext same_area)) i

  -- ---- rows

  pub map-row_at : (r : RegionOf A) (page : ℕ) → row_at (map_region f r) page ≡ option_map (map_row f) (row_at r page)
  map-row_at r page = slice_get-map (map_row f) r.rows (page - r.base)

  same_protections : (k : Kind) (row : RowOf A) → protections_of k (map_row f row) ≡ protections_of k row
  same_protections kind.Private row = refl
  same_protections (kind.View v) row = refl

  same_accepts : (r : RegionOf A) (prot page : ℕ) → accepts (map_region f r) prot page ≡ accepts r prot page
  same_accepts r prot page =
      ap (λ o. unwrap_or (option_map (λ (row : RowOf B). is_one_of (protections_of r.kind row) (base_of prot)) o) false) (map-row_at r page)
      ∙ read-map (map_row f) _ _ (λ row. ap (λ ps. is_one_of ps (base_of prot)) (same_protections r.kind row)) false (row_at r page)

  pub same_committed : (w : WorldOf A) (k : Kind) (i : ℕ) (row : RowOf A) → is_committed (map_world f w) k i (map_row f row) ≡ is_committed w k i row
  same_committed w kind.Private i row = some-map f row.own
  same_committed w (kind.View v) i row = ap is_some (map-shared_page w v.area.0 (v.first + i)) ∙ some-map f (shared_page w v.area.0 (v.first + i))

  same_committed_at : (w : WorldOf A) (r : RegionOf A) (page : ℕ) → is_committed_at (map_world f w) (map_region f r) page ≡ is_committed_at w r page
  same_committed_at w r page =
      ap (λ o. unwrap_or (option_map (is_committed (map_world f w) r.kind (page - r.base)) o) false) (map-row_at r page)
      ∙ read-map (map_row f) _ _ (same_committed w r.kind (page - r.base)) false (row_at r page)

  map-protected : (k : Kind) (prot : ℕ) (row : RowOf A) → map_row f (protected k prot row) ≡ protected k prot (map_row f row)
  map-protected kind.Private prot row = refl
  map-protected (kind.View v) prot row = elim row.own as (λ o. map_row f (protected (kind.View v) prot (record row { own = o })) ≡ protected (kind.View v) prot (map_row f (record row { own = o }))) [ None ↦ refl | Some x ↦ refl ]

  pub map-change_rows : (c : RowOf A → RowOf A) (d : RowOf B → RowOf B) (range : Range) (r : RegionOf A) → ((row : RowOf A) → map_row f (c row) ≡ d (map_row f row)) → map_region f (change_rows c range r) ≡ change_rows d range (map_region f r)
  map-change_rows c d range r e = ap (λ rows. record (map_region f r) { rows = rows }) (map-change_range (map_row f) c d (range.first - r.base) range.count r.rows e)

  -- ---- tables

  pub at_need : (w : WorldOf A) (why : Code) (b c : Bool) (o : OutcomeOf A) (p : OutcomeOf B) → c ≡ b → Agrees f o p → Agrees f (need w why b o) (need (map_world f w) why c p)
  at_need w why true true o p e h = h
  at_need w why false false o p e h = record { same = refl }
  at_need w why _ _ o p e h = cc

  pub at_find : {X Y : Type 0} (w : WorldOf A) (why : Code) (g : X → Y) (x : Option X) (y : Option Y) (k : X → OutcomeOf A) (l : Y → OutcomeOf B) → y ≡ option_map g x → ((a : X) → x ≡ Some a → Agrees f (k a) (l (g a))) → Agrees f (find_or w why x k) (find_or (map_world f w) why y l)
  at_find w why g None None k l e h = record { same = refl }
  at_find w why g (Some a) (Some b) k l e h =
      let same : b ≡ g a = cc in
      record { same = ap (λ y. l y) same ∙ (h a refl).same }
  at_find w why g _ _ k l e h = cc

  pub at_found : {X : Type 0} (w : WorldOf A) (why : Code) (x y : Option X) (k : X → OutcomeOf A) (l : X → OutcomeOf B) → y ≡ x → ((a : X) → x ≡ Some a → Agrees f (k a) (l a)) → Agrees f (find_or w why x k) (find_or (map_world f w) why y l)
  at_found w why x y k l e h = at_find w why (λ a. a) x y k l (e ∙ sym (option_map_id x)) h

  pub at_lives : (w : WorldOf A) (pid : ℕ) (k : ProcessOf A → OutcomeOf A) (l : ProcessOf B → OutcomeOf B) → ((p : ProcessOf A) → process_of w pid ≡ Some p → Agrees f (k p) (l (map_process f p))) → Agrees f (with_process w pid k) (with_process (map_world f w) pid l)
  at_lives w pid k l h = at_find w code.InvalidHandle (map_process f) (process_of w pid) (process_of (map_world f w) pid) k l (at_process w pid) h

  pub at_region : (w : WorldOf A) (why : Code) (x : Option (Found (RegionOf A))) (y : Option (Found (RegionOf B))) (k : Found (RegionOf A) → OutcomeOf A) (l : Found (RegionOf B) → OutcomeOf B) → y ≡ option_map (map_found f) x → ((r : Found (RegionOf A)) → x ≡ Some r → Agrees f (k r) (l (map_found f r))) → Agrees f (find_or w why x k) (find_or (map_world f w) why y l)
  at_region w why x y k l e h = at_find w why (map_found f) x y k l e h

  pub at_if : (b : Bool) (o o' : OutcomeOf A) (p p' : OutcomeOf B) → Agrees f o p → Agrees f o' p' → Agrees f (cond b o o') (cond b p p')
  at_if true o o' p p' h k = h
  at_if false o o' p p' h k = k

  pub at_done : (a : Answer) (w : WorldOf A) (v : WorldOf B) → v ≡ map_world f w → Agrees f (done a w) (done a v)
  at_done a w v e = record { same = ap (λ x. done a x) e }

  pub at_answer : (a b : Answer) (w : WorldOf A) (v : WorldOf B) → b ≡ a → v ≡ map_world f w → Agrees f (done a w) (done b v)
  at_answer a b w v e h = record { same = λ i. done (e i) (h i) }

  pub at_limit : (w : WorldOf A) (o : OutcomeOf A) (p : OutcomeOf B) → Agrees f o p → Agrees f (within_limit w o) (within_limit (map_world f w) p)
  at_limit w o p h = at_need w code.CommitmentLimit (leb (charge o.world) (limit o.world)) (leb (charge p.world) (limit p.world)) o p same_test h
    where
      same_test : leb (charge p.world) (limit p.world) ≡ leb (charge o.world) (limit o.world)
      same_test = ap (λ (q : OutcomeOf B). leb (charge q.world) (limit q.world)) h.same ∙ ap (λ c. leb c (limit o.world)) (same_charge o.world)

  pub ruleset agreeing = (at_lives, at_need, at_region, at_found, at_if, at_done, at_answer, at_limit)

  -- a region with changed rows, in its place
  at_change : (w : WorldOf A) (pid : ℕ) (p : ProcessOf A) (r : Found (RegionOf A)) (c : RowOf A → RowOf A) (d : RowOf B → RowOf B) (range : Range) → ((row : RowOf A) → map_row f (c row) ≡ d (map_row f row)) → set_region (map_world f w) pid (map_process f p) r.place (change_rows d range (map_region f r.thing)) ≡ map_world f (set_region w pid p r.place (change_rows c range r.thing))
  at_change w pid p r c d range e =
      ap (λ x. set_region (map_world f w) pid (map_process f p) r.place x) (sym (map-change_rows c d range r.thing e)) ∙ sym (to_region w pid p r.place (change_rows c range r.thing))

  module _ (fill : ℕ → A) where
    abbrev pub there : ℕ → B
    there n = f (fill n)

    -- ---- alloc

    map-new_row : (type prot : ℕ) → map_row f (new_row fill type prot) ≡ new_row there type prot
    map-new_row type prot = elim (type == reserve_type) as (λ b. map_row f (cond b reserved_row (commit (fill 0) prot reserved_row)) ≡ cond b reserved_row (commit (there 0) prot reserved_row)) [ true ↦ refl | false ↦ refl ]

    map-private_region : (watched : Bool) (type prot : ℕ) (range : Range) → map_region f (private_region fill watched type prot range) ≡ private_region there watched type prot range
    map-private_region watched type prot range =
        ap (λ rows. record (private_region there watched type prot range) { rows = rows })
        (map-replicate (map_row f) range.count (new_row fill type prot) ∙ ap (λ row. replicate range.count row) (map-new_row type prot))

    pub map-commit : (prot : ℕ) (row : RowOf A) → map_row f (commit (fill 0) prot row) ≡ commit (there 0) prot (map_row f row)
    map-commit prot row = elim row.own as (λ o. map_row f (commit (fill 0) prot (record row { own = o })) ≡ commit (there 0) prot (map_row f (record row { own = o }))) [ None ↦ refl | Some x ↦ refl ]

    in_reserve : (w : WorldOf A) (pid : ℕ) (p : ProcessOf A) (addr size : ℕ) (watched : Bool) (type prot : ℕ) → Agrees f (reserve fill w pid p addr size watched type prot) (reserve there (map_world f w) pid (map_process f p) addr size watched type prot)
    in_reserve w pid p addr size watched type prot = search (agreeing, same_place, to_added, map-private_region) depth 14

    map-commit_shared : (first count : ℕ) (a : AreaOf A) → map_area f (commit_shared fill first count a) ≡ commit_shared there first count (map_area f a)
    map-commit_shared first count a =
        ap (λ pages. record (map_area f a) { pages = pages })
        (map-change_range (option_map f) (λ page. Some (unwrap_or page (fill 0))) (λ page. Some (unwrap_or page (there 0))) first count a.pages
        (λ o. elim o as (λ o. option_map f (Some (unwrap_or o (fill 0))) ≡ Some (unwrap_or (option_map f o) (there 0))) [ None ↦ refl | Some x ↦ refl ]))

    in_commit : (w : WorldOf A) (pid : ℕ) (p : ProcessOf A) (r : Found (RegionOf A)) (k : Kind) (range : Range) (prot : ℕ) → Agrees f (commit_in fill w pid p r k range prot) (commit_in there (map_world f w) pid (map_process f p) (map_found f r) k range prot)
    in_commit w pid p r kind.Private range prot = search (agreeing, at_change, map-commit) depth 14
    in_commit w pid p r (kind.View v) range prot = search (agreeing, at_file, every_page-same, same_accepts, at_shared) depth 16
      where
        to_area : (w : WorldOf A) (area : ℕ) (a : AreaOf A) → map_world f (set_area w area a) ≡ set_area (map_world f w) area (map_area f a)
        to_area w area a = ap (λ areas. record (map_world f w) { areas = areas }) (map-set (map_area f) w.areas area a)

        at_file : is_none (area_at (map_world f w) v.area.0).file_block ≡ is_none (area_at w v.area.0).file_block
        at_file = ap (λ (a : AreaOf B). is_none a.file_block) (map-area_at w v.area.0)

        at_shared : (first : ℕ) → set_area (set_region (map_world f w) pid (map_process f p) r.place (change_rows (protected r.thing.kind prot) range (map_region f r.thing))) v.area.0 (commit_shared there first range.count (area_at (map_world f w) v.area.0)) ≡ map_world f (set_area (set_region w pid p r.place (change_rows (protected r.thing.kind prot) range r.thing)) v.area.0 (commit_shared fill first range.count (area_at w v.area.0)))
        at_shared first =
            (λ i. set_area (at_change w pid p r (protected r.thing.kind prot) (protected r.thing.kind prot) range (map-protected r.thing.kind prot) i) v.area.0
            ((ap (commit_shared there first range.count) (map-area_at w v.area.0) ∙ sym (map-commit_shared first range.count (area_at w v.area.0))) i))
            ∙ sym (to_area (set_region w pid p r.place (change_rows (protected r.thing.kind prot) range r.thing)) v.area.0 (commit_shared fill first range.count (area_at w v.area.0)))

    pub in_alloc : (w : WorldOf A) (pid addr size type prot : ℕ) → Agrees f (alloc fill w pid addr size type prot) (alloc there (map_world f w) pid addr size type prot)
    in_alloc w pid addr size type prot = search (agreeing, in_reserve, around, in_commit) depth 16

  -- ---- free

  at_decommit : (w : WorldOf A) (pid : ℕ) (p : ProcessOf A) (r : Found (RegionOf A)) (range : Range) → Agrees f (decommit w pid p r range) (decommit (map_world f w) pid (map_process f p) (map_found f r) range)
  at_decommit w pid p r range = at_done answer.Ok _ _ (at_change w pid p r (λ row. reserved_row) (λ row. reserved_row) range (λ row. refl))

  at_whole : (w : WorldOf A) (pid : ℕ) (p : ProcessOf A) (r : Found (RegionOf A)) → Agrees f (decommit w pid p r (pages_of r.thing)) (decommit (map_world f w) pid (map_process f p) (map_found f r) (pages_of (map_region f r.thing)))
  at_whole w pid p r = record { same = ap (λ range. decommit (map_world f w) pid (map_process f p) (map_found f r) range) (pages_of-map r.thing) ∙ (at_decommit w pid p r (pages_of r.thing)).same }

  at_release : (w : WorldOf A) (pid addr : ℕ) (p : ProcessOf A) (r : Found (RegionOf A)) → end_stacks (set_regions (map_world f w) pid (map_process f p) (remove (map (map_region f) p.regions) r.place)) (is_stack_at pid addr) ≡ map_world f (end_stacks (set_regions w pid p (remove p.regions r.place)) (is_stack_at pid addr))
  at_release w pid addr p r = ap (λ v. end_stacks v (is_stack_at pid addr)) (ap (λ rs. set_regions (map_world f w) pid (map_process f p) rs) (sym (map-remove (map_region f) p.regions r.place)) ∙ sym (to_regions w pid p (remove p.regions r.place)))

  pub in_free : (w : WorldOf A) (pid addr size type : ℕ) → Agrees f (free w pid addr size type) (free (map_world f w) pid addr size type)
  in_free w pid addr size type = search (agreeing, at_private, around_private, at_release, at_whole, at_decommit) depth 16

  -- ---- protect

  same_protection : (r : RegionOf A) (page : ℕ) → protection_at (map_region f r) page ≡ protection_at r page
  same_protection r page =
      ap (λ (n : ℕ). let prot : Prot = record { 0 = n } in prot)
      (ap (λ (o : Option (RowOf B)). unwrap_or (option_map protection_of o) 0) (map-row_at r page) ∙ read-map (map_row f) protection_of protection_of (λ row. refl) 0 (row_at r page))

  pub in_protect : (w : WorldOf A) (pid addr size prot : ℕ) → Agrees f (protect w pid addr size prot) (protect (map_world f w) pid addr size prot)
  in_protect w pid addr size prot = search (agreeing, around, every_page-same, same_committed_at, same_accepts, same_protection, at_change, map-protected) depth 20
