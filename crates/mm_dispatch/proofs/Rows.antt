-- What the tables tell of a process, of the row and of the key of a page, and of the room for a copy.
use Rattle.std.proofs.Common.{◌≡◌, ℕ, true, false, Option, Some, None, refl, sym, ◌∙◌, ap, is_some, option_map, ◌≤◌, ◌<◌, zero, suc, ◌-◌, Bool, List, [], ◌∷◌, subst, cond, arith, slice_get, sum_by, count_by}
use Rattle.std.specs.Prelude.{option_and_then}
use Rattle.mm_types.proofs.{none_of, some_found}
use Rattle.mm_object_tables.specs.{CommittedRow, told_committed, committed_row, FitsTables, key_at, owned_keys, paging_count}
use Rattle.mm_world.specs.{ProcessOf, process_of, Committed, committed_at, Tables, Page, key_of, content_of, RowOf, RegionOf, Numbered, numbered}
use Rattle.mm_world.specs.{charge, is_charged, region_charge, process_charge, RowFits, RowsFit, Spaces}
use Rattle.mm_types.specs.{Key, Pid, Place, Kind, View}
use Rattle.mm_store.specs.{StoreOf, place_at}
use Rattle.mm_world.proofs.{row_has_live_key, each-at, found_stands, numbered_there, committed_is}
use Rattle.std.proofs.lemmas.List.Sums.{sum_by-cons}
use Rattle.mm_types.specs.declared.views.Kind.TheVariants as kind

-- a living process
pub record Lives (t : Tables) (pid : ℕ) : Type 0 where
  pub process : ProcessOf (Unit {0})
  pub lives : process_of t pid ≡ Some process

pub lives-by : (t : Tables) (pid : ℕ) → is_some (process_of t pid) ≡ true → Lives t pid
lives-by t pid e = let p = some_found (process_of t pid) e in record { process = p.0; lives = p.1 }

pub gone-by : (t : Tables) (pid : ℕ) → is_some (process_of t pid) ≡ false → process_of t pid ≡ None
gone-by t pid e = none_of (process_of t pid) e

-- a row that was told
pub record IsTold (o : Option (Committed (Unit {0}))) (pid page : ℕ) (row : CommittedRow) : Type 0 where
  pub committed : Committed (Unit {0})
  pub there : o ≡ Some committed
  pub is : told_committed pid page committed ≡ row

row-in : (t : Tables) (pid page : ℕ) (p : ProcessOf (Unit {0})) → process_of t pid ≡ Some p → committed_row t pid page ≡ option_map (told_committed pid page) (committed_at t p.regions page)
row-in t pid page p lives = ap (λ p. option_and_then (λ (p : ProcessOf (Unit {0})). option_map (told_committed pid page) (committed_at t p.regions page)) p) lives

told-by : (pid page : ℕ) (o : Option (Committed (Unit {0}))) (row : CommittedRow) → option_map (told_committed pid page) o ≡ Some row → IsTold o pid page row
told-by pid page None row e = cc
told-by pid page (Some c) row e = record { committed = c; there = refl; is = cc }

none-by : (pid page : ℕ) (o : Option (Committed (Unit {0}))) → option_map (told_committed pid page) o ≡ None → o ≡ None
none-by pid page None e = refl
none-by pid page (Some c) e = cc

pub row-told : (t : Tables) (pid page : ℕ) (p : ProcessOf (Unit {0})) (row : CommittedRow) (result : Option CommittedRow) → process_of t pid ≡ Some p → result ≡ Some row → result ≡ committed_row t pid page → IsTold (committed_at t p.regions page) pid page row
row-told t pid page p row result lives e f = told-by pid page (committed_at t p.regions page) row (sym (row-in t pid page p lives) ∙ sym f ∙ e)

pub no-row : (t : Tables) (pid page : ℕ) (p : ProcessOf (Unit {0})) (result : Option CommittedRow) → process_of t pid ≡ Some p → result ≡ None → result ≡ committed_row t pid page → committed_at t p.regions page ≡ None
no-row t pid page p result lives e f = none-by pid page (committed_at t p.regions page) (sym (row-in t pid page p lives) ∙ sym f ∙ e)

-- ---- the key of a place, and what it holds

-- the key of a committed row's place
pub key-row : (t : Tables) (pid : Pid) (page : ℕ) (p : ProcessOf (Unit {0})) (c : Committed (Unit {0})) → process_of t pid.0 ≡ Some p → committed_at t p.regions page ≡ Some c → key_at t (place_at pid page) ≡ Some (key_of pid.0 page c.home)
key-row t pid page p c lives committed =
    ap (λ p. option_and_then (λ (p : ProcessOf (Unit {0})). option_map (λ (c : Committed (Unit {0})). key_of pid.0 page c.home) (committed_at t p.regions page)) p) lives
    ∙ ap (λ c. option_map (λ (c : Committed (Unit {0})). key_of pid.0 page c.home) c) committed

-- what stands behind the key of a place
record Behind (t : Tables) (place : Place) (k : Key) : Type 0 where
  process : ProcessOf (Unit {0})
  row : Committed (Unit {0})
  lives : process_of t place.pid.0 ≡ Some process
  committed : committed_at t process.regions place.vpn.0 ≡ Some row
  is : key_of place.pid.0 place.vpn.0 row.home ≡ k

behind : (t : Tables) (place : Place) (k : Key) → key_at t place ≡ Some k → Behind t place k
behind t place k e = by_process (process_of t place.pid.0) refl e
  where
    by_row : (p : ProcessOf (Unit {0})) (o : Option (Committed (Unit {0}))) → process_of t place.pid.0 ≡ Some p → committed_at t p.regions place.vpn.0 ≡ o → option_map (λ (c : Committed (Unit {0})). key_of place.pid.0 place.vpn.0 c.home) o ≡ Some k → Behind t place k
    by_row p None lives committed e = cc
    by_row p (Some c) lives committed e = record { process = p; row = c; lives = lives; committed = committed; is = cc }

    by_process : (o : Option (ProcessOf (Unit {0}))) → process_of t place.pid.0 ≡ o → option_and_then (λ (p : ProcessOf (Unit {0})). option_map (λ (c : Committed (Unit {0})). key_of place.pid.0 place.vpn.0 c.home) (committed_at t p.regions place.vpn.0)) o ≡ Some k → Behind t place k
    by_process None lives e = cc
    by_process (Some p) lives e = by_row p (committed_at t p.regions place.vpn.0) lives refl e

module _ (t : Tables) (contents : Key → Option Page) (s : StoreOf) (fits : FitsTables t contents s) where
  module _ (place : Place) (k : Key) (at : key_at t place ≡ Some k) where
    pub key-live : is_some (contents k) ≡ true
    key-live =
        let b = behind t place k at in
        fits.live k ∙ ap (λ (k : Key). is_some (content_of t k)) (sym b.is) ∙ row_has_live_key t place.pid.0 place.vpn.0 b.process b.row b.lives b.committed

-- ---- a marked page that was not copied is charged, so there is room for its copy

module _ {A : Type 0} (f g : A → ℕ) where
  sum-most : (xs : List A) → ((i : ℕ) (x : A) → slice_get xs i ≡ Some x → f x ≤ g x) → sum_by f xs ≤ sum_by g xs
  sum-most [] h = omega arith
  sum-most (x ∷ xs) h = omega (arith, sum_by-cons f x xs, sum_by-cons g x xs, h 0 x refl, sum-most xs (λ i. h (suc i)))

  sum-less : (xs : List A) → ((i : ℕ) (x : A) → slice_get xs i ≡ Some x → f x ≤ g x) → (i : ℕ) (x : A) → slice_get xs i ≡ Some x → f x < g x → sum_by f xs < sum_by g xs
  sum-less [] h i x there less = cc
  sum-less (y ∷ xs) h zero x there less =
      let same : y ≡ x = cc in
      omega (arith, sum_by-cons f y xs, sum_by-cons g y xs, less, ap f same, ap g same, sum-most xs (λ i. h (suc i)))
  sum-less (y ∷ xs) h (suc i) x there less =
      omega (arith, sum_by-cons f y xs, sum_by-cons g y xs, h 0 y refl, sum-less xs (λ i. h (suc i)) i x there less)

abbrev one_if : Bool → ℕ
one_if b = cond b 1 0

one-most : (a b : Bool) → (a ≡ true → b ≡ true) → one_if a ≤ one_if b
one-most false b h = omega arith
one-most true true h = omega arith
one-most true false h = let bad : false ≡ true = h refl in cc

abbrev owns : RowOf (Unit {0}) → ℕ
owns row = one_if (is_some row.own)

abbrev counts : Kind → RowOf (Unit {0}) → ℕ
counts k row = one_if (is_charged k row)

abbrev owned_in : RegionOf (Unit {0}) → ℕ
owned_in r = count_by (λ row. is_some row.own) r.rows

row-most : (k : Kind) (row : RowOf (Unit {0})) → RowFits k row → owns row ≤ counts k row
row-most kind.Private row h = one-most (is_some row.own) (is_some row.own) (λ e. e)
row-most (kind.View v) row h = one-most (is_some row.own) row.marked h.copied

region-most : (r : RegionOf (Unit {0})) → RowsFit r → owned_in r ≤ region_charge r
region-most r h = sum-most owns (counts r.kind) r.rows (λ i row there. row-most r.kind row (each-at (RowFits r.kind) r.rows i row h there))

row-less : (k : Kind) (v : View) (row : RowOf (Unit {0})) → k ≡ kind.View v → row.own ≡ None → row.marked ≡ true → owns row < counts k row
row-less k v row is none marked =
    subst (λ k. owns row < counts k row) (sym is) (omega (arith, ap (λ (o : Option (Unit {0})). one_if (is_some o)) none, ap one_if marked))

numbered-of : {A : Type 0} (xs : Numbered A) (i : ℕ) (x : A) → slice_get xs i ≡ Some (Some x) → numbered xs i ≡ Some x
numbered-of [] i x e = cc
numbered-of (y ∷ ys) zero x e = cc
numbered-of (y ∷ ys) (suc i) x e = numbered-of ys i x e

module _ (t : Tables) (spaces : Spaces t) where
  process-most : (pid : ℕ) (p : Option (ProcessOf (Unit {0}))) → slice_get t.processes pid ≡ Some p → owned_keys p ≤ process_charge p
  process-most pid None there = omega arith
  process-most pid (Some p) there =
      let rows = (spaces pid p (numbered-of t.processes pid p there)).rows in
      sum-most owned_in region_charge p.regions (λ i r at. region-most r (each-at RowsFit p.regions i r rows at))

  pub room-to-copy : (pid page : ℕ) (p : ProcessOf (Unit {0})) (c : Committed (Unit {0})) (v : View) → process_of t pid ≡ Some p → committed_at t p.regions page ≡ Some c → c.region.thing.kind ≡ kind.View v → c.row.own ≡ None → c.row.marked ≡ true → paging_count t < charge t
  room-to-copy pid page p c v lives committed is none marked =
      let h = committed_is t p.regions page c committed in
      let r = c.region.thing in
      let fits = (spaces pid p lives).rows in
      let at = (found_stands _ p.regions c.region h.region).there in
      let rows = each-at RowsFit p.regions c.region.place r fits at in
      let region : owned_in r < region_charge r =
      sum-less owns (counts r.kind) r.rows (λ i row there. row-most r.kind row (each-at (RowFits r.kind) r.rows i row rows there)) (page - r.base) c.row h.row_there (row-less r.kind v c.row is none marked) in
      let process : owned_keys (Some p) < process_charge (Some p) =
      sum-less owned_in region_charge p.regions (λ i r at. region-most r (each-at RowsFit p.regions i r fits at)) c.region.place r at region in
      let processes = sum-less owned_keys process_charge t.processes process-most pid (Some p) (numbered_there t.processes pid p lives) process in
      omega (arith, processes)
