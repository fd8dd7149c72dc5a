-- What lines do to the charge.
use Rattle.std.proofs.Common.{suc, subst, unwrap_or, nat_lt, ◌≡◌, ℕ, ◌+◌, ◌-◌, ◌≤◌, ◌<◌, Bool, true, false, Option, Some, None, List, [], ◌∷◌, ◌++◌, refl, sym, ◌∙◌, ap, cond, arith, length, is_some, is_none, sum_by, count_by, set, map, take, drop, ◌&&◌, ◌||◌, slice_get}
use Rattle.std.specs.Prelude.{remove}
use Rattle.std.specs.List.{list_any}
use Rattle.std.proofs.lemmas.List.{take-append-drop}
use Rattle.std.proofs.lemmas.List.Sums.{sum_by-set, sum_by-cons, sum_by-append, sum_by-remove, sum_by_push}
use Rattle.std.proofs.lemmas.Option.{get_or_from_slice_get, slice_get_within}
use Rattle.std.proofs.lemmas.Bool.{and_right}
use Rattle.mm_types.specs.{Code, Answer, Kind, Range, Text, View}
use Rattle.mm_world.specs.{WorldOf, ProcessOf, RegionOf, RowOf, AreaOf, SectionOf, Numbered, add_region, set_area, Found, change_range, process_of}
use Rattle.mm_world.specs.{set_process, set_regions, set_region, no_area, charge, limit, is_charged, region_charge, process_charge, area_charge}
use Rattle.mm_world.specs.{OutcomeOf, done, refused, reserved_row, change_rows, alloc, commit_in, protect, create, handle_or, with_handle, settle}
use Rattle.mm_world.specs.{settled_area, settled_areas, settled_sections, uses, map_view, no_regions, KeepsLimit, Committed, committed_at, set_row}
use Rattle.mm_world.specs.{guard_off}
use Rattle.mm_world.proofs.Tables.{Holds, tables}
use Rattle.mm_world.proofs.Edits.{Moves, Rises, Falls, Stays, Charged, Terms, RegionEdit, RegionComes, RegionGoes, RegionChanges, Edit, Rest, Regions, HandleComes, HandleGoes, AreaComes, AreaChanges, Settles, ProcessComes, ProcessGoes, Edits, Nothing, Then}
use Rattle.mm_world.proofs.Finding.{numbered_inside, found_stands, IsCommitted, committed_is}
use Rattle.mm_types.specs.declared.views.Kind.TheVariants as kind

-- ---- sums

abbrev one_if : Bool → ℕ
one_if b = cond b 1 0

abbrev counted : {A : Type 0} → (A → Bool) → A → ℕ
counted test x = one_if (test x)

-- one element of a list is given another
pub sum_by-put : {A : Type 0} (f : A → ℕ) (xs : List A) (i : ℕ) (x y : A) → slice_get xs i ≡ Some x → sum_by f (set xs i y) + f x ≡ sum_by f xs + f y
sum_by-put f xs i x y here =
    let inside : i < length xs = slice_get_within xs i x here in
    omega (arith, sum_by-set f xs i y x inside, ap f (get_or_from_slice_get xs i x x here))

pub sum_by-split : {A : Type 0} (f : A → ℕ) (xs : List A) (n : ℕ) → sum_by f xs ≡ sum_by f (take n xs) + sum_by f (drop n xs)
sum_by-split f xs n = ap (sum_by f) (sym (take-append-drop n xs)) ∙ sum_by-append f (take n xs) (drop n xs)

pub count_by-none : {A : Type 0} (test : A → Bool) (change : A → A) (xs : List A) → ((x : A) → test (change x) ≡ false) → count_by test (map change xs) ≡ 0
count_by-none test change [] none = refl
count_by-none test change (x ∷ xs) none =
    omega (arith, sum_by-cons (counted test) (change x) (map change xs), ap one_if (none x), count_by-none test change xs none)

pub count_by-never : {A : Type 0} (test : A → Bool) (xs : List A) → ((x : A) → test x ≡ false) → count_by test xs ≡ 0
count_by-never test [] never = refl
count_by-never test (x ∷ xs) never = omega (arith, sum_by-cons (counted test) x xs, ap one_if (never x), count_by-never test xs never)

-- a change of the elements of a range after which none passes the test
pub count_by-change_range : {A : Type 0} (test : A → Bool) (change : A → A) (first count : ℕ) (xs : List A) → ((x : A) → test (change x) ≡ false) → count_by test (change_range change first count xs) ≤ count_by test xs
count_by-change_range test change first count xs none =
    let f = counted test in
    let later = drop first xs in
    let middle = map change (take count later) in
    let whole : count_by test (change_range change first count xs) ≡ count_by test (take first xs ++ middle) + count_by test (drop count later) =
    sum_by-append f (take first xs ++ middle) (drop count later) in
    let rest : count_by test later ≡ count_by test (take count later) + count_by test (drop count later) = sum_by-split f later count in
    omega (arith, whole, sum_by-append f (take first xs) middle, count_by-none test change (take count later) none, sum_by-split f xs first, rest)

-- ---- what edits may do

pub stays_charged : (c : Moves) (old new : ℕ) → new ≡ old → Charged c old new
stays_charged Rises old new same = tt
stays_charged Falls old new same = omega (arith, same)
stays_charged Stays old new same = same

-- one thing in a sum is changed
moved : (c : Moves) (old new before after : ℕ) → after + old ≡ before + new → Charged c old new → Charged c before after
moved Rises old new before after sum h = tt
moved _ old new before after sum h = omega (arith, sum, h)

then_charged : (c : Moves) (before middle after : ℕ) → Charged c before middle → Charged c middle after → Charged c before after
then_charged Rises before middle after h k = tt
then_charged Falls before middle after h k = omega (arith, h, k)
then_charged Stays before middle after h k = k ∙ h

module _ {B : Type 0} where
  -- ---- processes and regions

  pub charge-set_process : (w : WorldOf B) (pid : ℕ) (p : ProcessOf B) (q : Option (ProcessOf B)) → process_of w pid ≡ Some p → charge (set_process w pid q) + process_charge (Some p) ≡ charge w + process_charge q
  charge-set_process w pid p q lives =
      let inside : pid < length w.processes = numbered_inside w.processes pid p lives in
      omega (arith, sum_by-set process_charge w.processes pid q None inside, ap process_charge lives)

  pub charge-set_regions : (w : WorldOf B) (pid : ℕ) (p : ProcessOf B) (rs : List (RegionOf B)) → process_of w pid ≡ Some p → charge (set_regions w pid p rs) + sum_by region_charge p.regions ≡ charge w + sum_by region_charge rs
  charge-set_regions w pid p rs lives = charge-set_process w pid p (Some (record p { regions = rs })) lives

  charge-add_region : (new : RegionOf B) (rs : List (RegionOf B)) → sum_by region_charge (add_region new rs) ≡ sum_by region_charge rs + region_charge new
  charge-add_region new rs =
      let i = count_by (λ r. nat_lt r.base new.base) rs in
      omega (arith, sum_by-append region_charge (take i rs) (new ∷ drop i rs), sum_by-cons region_charge new (drop i rs), sum_by-split region_charge rs i)

  pub charge-same_regions : (w : WorldOf B) (pid : ℕ) (p : ProcessOf B) (handles : Numbered ℕ) → process_of w pid ≡ Some p → charge (set_process w pid (Some (record p { handles = handles }))) ≡ charge w
  charge-same_regions w pid p handles lives = omega (arith, charge-set_process w pid p (Some (record p { handles = handles })) lives)

  pub charge-set_region : (w : WorldOf B) (pid : ℕ) (p : ProcessOf B) (place : ℕ) (r new : RegionOf B) → process_of w pid ≡ Some p → slice_get p.regions place ≡ Some r → charge (set_region w pid p place new) + region_charge r ≡ charge w + region_charge new
  charge-set_region w pid p place r new lives there =
      omega (arith, charge-set_regions w pid p (set p.regions place new) lives, sum_by-put region_charge p.regions place r new there)

  pub charge-remove_region : (w : WorldOf B) (pid : ℕ) (p : ProcessOf B) (place : ℕ) (r : RegionOf B) → process_of w pid ≡ Some p → slice_get p.regions place ≡ Some r → charge (set_regions w pid p (remove p.regions place)) + region_charge r ≡ charge w
  charge-remove_region w pid p place r lives there =
      let inside : place < length p.regions = slice_get_within p.regions place r there in
      let old = ap region_charge (get_or_from_slice_get p.regions place r r there) in
      omega (arith, charge-set_regions w pid p (remove p.regions place) lives, sum_by-remove region_charge p.regions place r inside, old)

  -- ---- the end of sections

  settled_less : (sections : Numbered SectionOf) (n : ℕ) (a : AreaOf B) → area_charge (settled_area sections n a) ≤ area_charge a
  settled_less sections n a =
      elim (is_some a.file_block || list_any (uses n) sections) as (λ b. area_charge (cond b a no_area) ≤ area_charge a) [ true ↦ omega arith | false ↦ omega arith ]

  settled_sum : (sections : Numbered SectionOf) (n : ℕ) (areas : List (AreaOf B)) → sum_by area_charge (settled_areas sections n areas) ≤ sum_by area_charge areas
  settled_sum sections n [] = omega arith
  settled_sum sections n (a ∷ rest) =
      omega (
        arith,
        sum_by-cons area_charge (settled_area sections n a) (settled_areas sections (n + 1) rest),
        sum_by-cons area_charge a rest,
        settled_less sections n a,
        settled_sum sections (n + 1) rest,
      )

  pub charge-settle : (w : WorldOf B) → charge (settle w) ≤ charge w
  charge-settle w = omega (arith, settled_sum (settled_sections w.processes 0 w.sections) 0 w.areas)

  -- ---- decommitted rows, and files

  abbrev cleared : RowOf B → RowOf B
  cleared row = reserved_row

  none_charged : (k : Kind) (row : RowOf B) → is_charged k (cleared row) ≡ false
  none_charged kind.Private row = refl
  none_charged (kind.View v) row = refl

  pub decommit_less : (r : RegionOf B) (range : Range) → region_charge (change_rows cleared range r) ≤ region_charge r
  decommit_less r range = count_by-change_range (is_charged r.kind) cleared (range.first - r.base) range.count r.rows (none_charged r.kind)

  pub not_charged : (a : AreaOf B) (block : ℕ) → a.file_block ≡ Some block → area_charge a ≡ 0
  not_charged a block is_file =
      count_by-never (λ page. is_some page && is_none a.file_block) a.pages (λ page. and_right (is_some page) (is_none a.file_block) (ap is_none is_file))

  set_area_charge : (areas : List (AreaOf B)) (at : ℕ) (a : AreaOf B) (c : Moves) → Charged c (area_charge (unwrap_or (slice_get areas at) no_area)) (area_charge a) → Charged c (sum_by area_charge areas) (sum_by area_charge (set areas at a))
  set_area_charge areas at a c h = by_place (slice_get areas at) refl h
    where
      beyond : (areas : List (AreaOf B)) (at : ℕ) → slice_get areas at ≡ None → set areas at a ≡ areas
      beyond (b ∷ areas) (suc at) e = ap (λ (as' : List (AreaOf B)). b ∷ as') (beyond areas at e)
      beyond _ _ e = cc

      by_place : (o : Option (AreaOf B)) → slice_get areas at ≡ o → Charged c (area_charge (unwrap_or o no_area)) (area_charge a) → Charged c (sum_by area_charge areas) (sum_by area_charge (set areas at a))
      by_place None e h = stays_charged c (sum_by area_charge areas) (sum_by area_charge (set areas at a)) (ap (sum_by area_charge) (beyond areas at e))
      by_place (Some b) e h = moved c (area_charge b) (area_charge a) (sum_by area_charge areas) (sum_by area_charge (set areas at a)) (sum_by-put area_charge areas at b a e) h

  -- ---- a charge within the limit stays so

  pub kept_refusal : (w : WorldOf B) (why : Code) → Holds (KeepsLimit w) (refused w why)
  kept_refusal w why = record { it = record { kept = λ within. within } }

  pub kept_same : (w : WorldOf B) (a : Answer) → Holds (KeepsLimit w) (done a w)
  kept_same w a = record { it = record { kept = λ within. within } }

  -- the test of the limit itself
  pub kept_within : (w : WorldOf B) (o : OutcomeOf B) → charge o.world ≤ limit o.world → Holds (KeepsLimit w) o
  kept_within w o within = record { it = record { kept = λ before. within } }

  pub ruleset keeping = (tables, kept_refusal, kept_within)

  keeps_commit : (fill : ℕ → B) (w : WorldOf B) (pid : ℕ) (p : ProcessOf B) (r : Found (RegionOf B)) (k : Kind) (range : Range) (prot : ℕ) → Holds (KeepsLimit w) (commit_in fill w pid p r k range prot)
  keeps_commit fill w pid p r kind.Private range prot = search keeping depth 12
  keeps_commit fill w pid p r (kind.View v) range prot = search keeping depth 12

  pub keeps_alloc : (fill : ℕ → B) (w : WorldOf B) (pid addr size type prot : ℕ) → Holds (KeepsLimit w) (alloc fill w pid addr size type prot)
  keeps_alloc fill w pid addr size type prot = search (keeping, keeps_commit) depth 12

  pub keeps_protect : (w : WorldOf B) (pid addr size prot : ℕ) → Holds (KeepsLimit w) (protect w pid addr size prot)
  keeps_protect w pid addr size prot = search keeping depth 14

  pub keeps_map : (w : WorldOf B) (pid handle access offset len addr : ℕ) → Holds (KeepsLimit w) (map_view w pid handle access offset len addr)
  keeps_map w pid handle access offset len addr = search keeping depth 18

  keeps_handle_or : (w : WorldOf B) (pid : ℕ) (p : ProcessOf B) (found : Option ℕ) (made : OutcomeOf B) → process_of w pid ≡ Some p → Holds (KeepsLimit w) made → Holds (KeepsLimit w) (handle_or w pid p found made)
  keeps_handle_or w pid p None made lives h = h
  keeps_handle_or w pid p (Some number) made lives h = record { it = record { kept = λ within. omega (arith, within, charge-same_regions w pid p (p.handles ++ Some number ∷ []) lives) } }

  pub keeps_create : (fill : ℕ → B) (w : WorldOf B) (pid size flags : ℕ) (name : Option Text) → Holds (KeepsLimit w) (create fill w pid size flags name)
  keeps_create fill w pid size flags name = search (keeping, keeps_handle_or) depth 12

-- ---- each edit

module _ {B : Type 0} (t : Terms) where
  abbrev Goes : WorldOf B → WorldOf B → Type 0
  Goes w v = Charged t.charge (charge w) (charge v)

  after_region : (w : WorldOf B) (pid : ℕ) (p : ProcessOf B) (rs : List (RegionOf B)) → process_of w pid ≡ Some p → RegionEdit t w pid p.regions rs → Goes w (set_regions w pid p rs)
  after_region w pid p _ lives (RegionComes new h) =
      let rs = add_region new p.regions in
      moved t.charge 0 (region_charge new) (charge w) (charge (set_regions w pid p rs)) (omega (arith, charge-set_regions w pid p rs lives, charge-add_region new p.regions)) h.charged
  after_region w pid p _ lives (RegionGoes i r there ends charged) =
      moved t.charge (region_charge r) 0 (charge w) (charge (set_regions w pid p (remove p.regions i))) (omega (arith, charge-remove_region w pid p i r lives there)) charged
  after_region w pid p _ lives (RegionChanges i r new there like) =
      moved t.charge (region_charge r) (region_charge new) (charge w) (charge (set_region w pid p i new)) (charge-set_region w pid p i r new lives there) like.charged

  each : (w v : WorldOf B) → Edit t w v → Goes w v
  each w _ (Rest v b) =
      stays_charged t.charge (charge w) (charge v) (omega (arith, ap (λ (ps : Numbered (ProcessOf B)). sum_by process_charge ps) b.processes, ap (λ (as' : List (AreaOf B)). sum_by area_charge as') b.areas))
  each w _ (Regions pid p rs lives e) = after_region w pid p rs lives e
  each w _ (HandleComes pid p number lives there) = stays_charged t.charge (charge w) (charge (with_handle w pid p number)) (charge-same_regions w pid p _ lives)
  each w _ (HandleGoes pid p i lives) =
      stays_charged t.charge (charge w) (charge (set_process w pid (Some (record p { handles = set p.handles i None })))) (charge-same_regions w pid p _ lives)
  each w _ (ProcessComes room) =
      stays_charged t.charge (charge w) (charge (record w { processes = w.processes ++ Some no_regions ∷ [] })) (omega (arith, sum_by_push process_charge w.processes (Some no_regions)))
  each w _ (ProcessGoes pid p lives ends charged) =
      moved t.charge (process_charge (Some p)) 0 (charge w) (charge (set_process w pid None)) (charge-set_process w pid p None lives) charged
  each w _ (AreaComes a charged) =
      moved t.charge 0 (area_charge a) (charge w) (charge (record w { areas = w.areas ++ a ∷ [] })) (omega (arith, sum_by_push area_charge w.areas a)) charged
  each w _ (AreaChanges at a same charged) =
      moved t.charge (sum_by area_charge w.areas) (sum_by area_charge (set w.areas at a)) (charge w) (charge (set_area w at a)) (omega arith) (set_area_charge w.areas at a t.charge charged)
  each w _ (Settles falls) = falls (charge w) (charge (settle w)) (charge-settle w)
  each w _ _ = stays_charged t.charge (charge w) (charge w) refl

  each_limit : (w v : WorldOf B) → Edit t w v → limit w ≤ limit v
  each_limit w _ (Rest v b) = b.limit
  each_limit w v e = omega arith

  pub charge_goes : (w v : WorldOf B) → Edits t w v → Charged t.charge (charge w) (charge v)
  charge_goes w _ Nothing = stays_charged t.charge (charge w) (charge w) refl
  charge_goes w _ (Then u v es e) = then_charged t.charge (charge w) (charge u) (charge v) (charge_goes w u es) (each u v e)

  limit_stays : (w v : WorldOf B) → Edits t w v → limit w ≤ limit v
  limit_stays w _ Nothing = omega arith
  limit_stays w _ (Then u v es e) = omega (arith, limit_stays w u es, each_limit u v e)

-- edits that add no charge keep it within the limit
pub by_edits : {B : Type 0} (t : Answer → Terms) (w : WorldOf B) (o : OutcomeOf B) → (t o.answer).charge ≡ Falls → Edits (t o.answer) w o.world → Holds (KeepsLimit w) o
by_edits t w o falls es =
    let less : charge o.world ≤ charge w = subst (λ (c : Moves). Charged c (charge w) (charge o.world)) falls (charge_goes (t o.answer) w o.world es) in
    record { it = record { kept = λ within. omega (arith, within, less, limit_stays (t o.answer) w o.world es) } }

-- ---- an access leaves the charge exactly as it is

module _ {B : Type 0} where
  abbrev counts_one : Kind → RowOf B → ℕ
  counts_one k row = one_if (is_charged k row)

  -- a row that is charged as the one before
  pub row_charge : (r : RegionOf B) (i : ℕ) (row new : RowOf B) → slice_get r.rows i ≡ Some row → is_charged r.kind new ≡ is_charged r.kind row → count_by (is_charged r.kind) (set r.rows i new) ≡ region_charge r
  row_charge r i row new there e = omega (arith, sum_by-put (counts_one r.kind) r.rows i row new there, ap one_if e)

  pub charge-set_row : (w : WorldOf B) (pid : ℕ) (p : ProcessOf B) (c : Committed B) (page : ℕ) (new : RowOf B) → process_of w pid ≡ Some p → IsCommitted w p.regions page c → is_charged c.region.thing.kind new ≡ is_charged c.region.thing.kind c.row → charge (set_row w pid p c.region page new) ≡ charge w
  charge-set_row w pid p c page new lives h e =
      let r = c.region.thing in
      let changed : RegionOf B = record r { rows = set r.rows (page - r.base) new } in
      let same : region_charge changed ≡ region_charge r = row_charge r (page - r.base) c.row new h.row_there e in
      omega (arith, same, charge-set_region w pid p c.region.place r changed lives (found_stands _ p.regions c.region h.region).there)

  pub own_charged : (k : Kind) (row new : RowOf B) (bytes : B) → row.own ≡ Some bytes → is_some new.own ≡ true → new.marked ≡ row.marked → is_charged k new ≡ is_charged k row
  own_charged kind.Private row new bytes own there marked = there ∙ sym (ap is_some own)
  own_charged (kind.View v) row new bytes own there marked = marked

  pub guard_charged : (k : Kind) (row : RowOf B) → is_charged k (record row { guard = false }) ≡ is_charged k row
  guard_charged kind.Private row = refl
  guard_charged (kind.View v) row = refl

  pub charge-guard_off : (w : WorldOf B) (pid : ℕ) (p : ProcessOf B) (c : Committed B) (page : ℕ) → process_of w pid ≡ Some p → committed_at w p.regions page ≡ Some c → charge (guard_off w pid p c page) ≡ charge w
  charge-guard_off w pid p c page lives committed =
      charge-set_row w pid p c page (record c.row { guard = false }) lives (committed_is w p.regions page c committed) (guard_charged c.region.thing.kind c.row)

  pub view_charged : (k : Kind) (v : View) (row new : RowOf B) → k ≡ kind.View v → new.marked ≡ row.marked → is_charged k new ≡ is_charged k row
  view_charged k v row new is marked = subst (λ k. is_charged k new ≡ is_charged k row) (sym is) marked

  -- a page of a section with other bytes
  pub page_charge : (a : AreaOf B) (i : ℕ) (page new : B) → slice_get a.pages i ≡ Some (Some page) → area_charge (record a { pages = set a.pages i (Some new) }) ≡ area_charge a
  page_charge a i page new there =
      let pages : area_charge (record a { pages = set a.pages i (Some new) }) + one_if (is_some (Some page) && is_none a.file_block) ≡ area_charge a + one_if (is_some (Some new) && is_none a.file_block) =
      sum_by-put (λ o. one_if (is_some o && is_none a.file_block)) a.pages i (Some page) (Some new) there in
      omega (arith, pages)
