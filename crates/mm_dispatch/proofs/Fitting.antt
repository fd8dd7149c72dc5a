-- A store goes on fitting the tables.
use Rattle.std.proofs.Common.{◌≡◌, ◌≤◌, ◌⊎◌, ◌+◌, Bool, true, false, Option, Some, refl, sym, ◌∙◌, ap, subst, cond, arith, length, is_some, ◌&&◌, inl, inr}
use Rattle.std.specs.Prelude.{Result, Ok, Err, OnOk, OnErr}
use Rattle.std.specs.Cmp.{unsigned_Decides}
use Rattle.mm_types.specs.{Key, Place}
use Rattle.mm_types.specs.declared.numbers.Key.TheVariants as key
use Rattle.mm_world.specs.{Page, same_key, content_of, Tables}
use Rattle.mm_world.specs.Report.{Report}
use Rattle.mm_store.specs.{Ready, StoreOf, own_key, fetched, rearranged, Served}
use Rattle.mm_move_rules.specs.{same_place}
use Rattle.mm_move_rules.specs.{changed}
use Rattle.mm_object_tables.specs.{FitsTables, key_at, copied}
use Rattle.mm_types.proofs.{parts}
use Rattle.mm_dispatch.proofs.Lines.{all-named}

-- ---- keys and places

pub same_key-is : (j k : Key) → same_key j k ≡ true → j ≡ k
same_key-is (key.Private p v) (key.Private q w) e =
    let h = parts _ _ e in
    let pids = (unsigned_Decides p.0 q.0).0 h.0 in
    let pages = (unsigned_Decides v.0 w.0).0 h.1 in
    λ i. key.Private (record { 0 = pids i }) (record { 0 = pages i })
same_key-is (key.Shared a i) (key.Shared b j) e =
    let h = parts _ _ e in
    let areas = (unsigned_Decides a.0 b.0).0 h.0 in
    let indices = (unsigned_Decides i j).0 h.1 in
    λ k. key.Shared (record { 0 = areas k }) (indices k)
same_key-is (key.Private p v) (key.Shared b j) e = cc
same_key-is (key.Shared a i) (key.Private q w) e = cc

pub same_place-is : (a b : Place) → same_place a b ≡ true → a ≡ b
same_place-is a b e =
    let h = parts _ _ e in
    let pids = (unsigned_Decides a.pid.0 b.pid.0).0 h.0 in
    let pages = (unsigned_Decides a.vpn.0 b.vpn.0).0 h.1 in
    λ i. record { pid = record { 0 = pids i }; vpn = record { 0 = pages i } }

pub place_itself : (place : Place) → same_place place place ≡ true
place_itself place = λ i. (unsigned_Decides place.pid.0 place.pid.0).1 refl i && (unsigned_Decides place.vpn.0 place.vpn.0).1 refl i

-- ---- pages are fetched

module _ (t : Tables) (c : Key → Option Page) (s : StoreOf) (f : FitsTables t c s) where
  -- what an access changes beside the names
  abbrev around : (Place → Option Key) → StoreOf → StoreOf
  around names z =
      record s {
        names = names;
        file_blocks = z.file_blocks;
        ready = z.ready;
        report = record (z.report) { extended = s.report.extended };
        paging_device = z.paging_device;
        file_device = z.file_device;
      }

  pub fits_fetched : (names : Place → Option Key) (z : StoreOf) → Served s z → length z.file_blocks ≡ length s.file_blocks → z ≡ around names z → ((place : Place) (k : Key) → names place ≡ Some k → key_at t place ≡ Some k) → FitsTables t c z
  fits_fetched names z served stored e named =
      let paging : length z.paging_device.named ≤ t.fails_taken = omega (arith, f.named_paging, all-named served.paging_calls s.paging_device z.paging_device served.paging) in
      let files : length z.file_device.named ≤ t.fails_taken = omega (arith, f.named_file, all-named served.file_calls s.file_device z.file_device served.files) in
      subst (λ (z : StoreOf). FitsTables t c z) (sym e) (assumption (named, stored ∙ f.stored, paging, files, f))

  -- the tables know nothing of a report, nor of what is ready
  pub fits_beside : (names : Place → Option Key) (ready : Option Ready) (report : Report) → ((place : Place) (k : Key) → names place ≡ Some k → key_at t place ≡ Some k) → FitsTables t c (record s { names = names; ready = ready; report = report })
  fits_beside names ready report named = assumption (named, f)

  pub names_one : (place : Place) (k : Key) → key_at t place ≡ Some k → (q : Place) (j : Key) → changed same_place s.names place (Some k) q ≡ Some j → key_at t q ≡ Some j
  names_one place k at q j e = by_test (same_place q place) refl e
    where
      by_test : (b : Bool) → same_place q place ≡ b → cond b (Some k) (s.names q) ≡ Some j → key_at t q ≡ Some j
      by_test true same e = ap (key_at t) (same_place-is q place same) ∙ at ∙ e
      by_test false other e = f.named q j e

  pub names_either : (names : Place → Option Key) (place : Place) (k : Key) → key_at t place ≡ Some k → (names ≡ s.names) ⊎ (names ≡ changed same_place s.names place (Some k)) → (q : Place) (j : Key) → names q ≡ Some j → key_at t q ≡ Some j
  names_either names place k at (inl none) q j e = f.named q j (ap (λ (n : Place → Option Key). n q) (sym none) ∙ e)
  names_either names place k at (inr one) q j e = names_one place k at q j (ap (λ (n : Place → Option Key). n q) (sym one) ∙ e)

  -- the bytes of a live key are others
  pub fits_bytes : (k : Key) (x : Page) → is_some (c k) ≡ true → FitsTables t (changed same_key c k (Some x)) s
  fits_bytes k x there =
      let live : (j : Key) → is_some (changed same_key c k (Some x) j) ≡ is_some (content_of t j) = λ j. by_test j (same_key j k) refl in
      assumption (live, f)
    where
      by_test : (j : Key) (b : Bool) → same_key j k ≡ b → is_some (cond b (Some x) (c j)) ≡ is_some (content_of t j)
      by_test j true same = sym there ∙ ap (λ (k : Key). is_some (c k)) (sym (same_key-is j k same)) ∙ f.live j
      by_test j false other = f.live j

  -- the tables may have changed otherwise in the meantime: a place that names a key has it
  pub at-named : (place : Place) (k : Key) → s.names place ≡ Some k → key_at t place ≡ Some k
  at-named place k e = f.named place k e

-- ---- however an access of the store ended

module _ (t : Tables) (c : Key → Option Page) (s : StoreOf) (c' : Key → Option Page) (z : StoreOf) (place : Place) (k : Key) (f : FitsTables t c s) (at : key_at t place ≡ Some k) (served : Served s z) (stored : length z.file_blocks ≡ length s.file_blocks) where
  pub fits_fetch : {T E : Type 0} (r : Result T E) → c' ≡ c → OnOk r (z ≡ record (fetched s z) { names = changed same_place s.names place (Some k) }) → OnErr r (z ≡ fetched s z) → FitsTables t c' z
  fits_fetch (Ok x) same ok err = subst (λ (c : Key → Option Page). FitsTables t c z) (sym same) (fits_fetched t c s f (changed same_place s.names place (Some k)) z served stored ok (names_one t c s f place k at))
  fits_fetch (Err e) same ok err = subst (λ (c : Key → Option Page). FitsTables t c z) (sym same) (fits_fetched t c s f s.names z served stored err f.named)

  pub fits_put : {T E : Type 0} (r : Result T E) (x : Page) → is_some (c k) ≡ true → OnOk r (c' ≡ changed same_key c k (Some x)) → OnErr r (c' ≡ c) → OnOk r (z ≡ record (fetched s z) { names = changed same_place s.names place (Some k) }) → OnErr r (z ≡ fetched s z) → FitsTables t c' z
  fits_put (Ok y) x live put kept ok err =
      subst (λ (c : Key → Option Page). FitsTables t c z) (sym put)
      (fits_bytes t c z (fits_fetched t c s f (changed same_place s.names place (Some k)) z served stored ok (names_one t c s f place k at)) k x live)
  fits_put (Err e) x live put kept ok err = subst (λ (c : Key → Option Page). FitsTables t c z) (sym kept) (fits_fetched t c s f s.names z served stored err f.named)

  -- a copy that failed
  pub fits_uncopied : c' ≡ c → z ≡ record (fetched s z) { names = z.names } → (z.names ≡ s.names) ⊎ (z.names ≡ changed same_place s.names place (Some k)) → FitsTables t c' z
  fits_uncopied same err names =
      subst (λ (c : Key → Option Page). FitsTables t c z) (sym same)
      (fits_fetched t c s f z.names z served stored err (names_either t c s f z.names place k at names))

-- ---- a page was copied

-- the store that the tables' own change speaks of is this one but for what an access changes
pub fits_copied : (t : Tables) (c : Key → Option Page) (s z : StoreOf) (place : Place) → FitsTables t c (copied place s) → Served s z → length z.file_blocks ≡ length s.file_blocks → z ≡ record (fetched s z) { names = changed same_place s.names place (Some (own_key place)); paging = changed same_key s.paging (own_key place) true; paging_keys = s.paging_keys + 1 } → FitsTables t c z
fits_copied t c s z place f served stored e =
    let again : Served (copied place s) z = record { paging_calls = served.paging_calls; file_calls = served.file_calls; paging = served.paging; files = served.files; paging_reads = served.paging_reads; paging_writes = served.paging_writes; file_reads = served.file_reads; file_writes = served.file_writes } in
    fits_fetched t c (copied place s) f (changed same_place s.names place (Some (own_key place))) z again stored e f.named

-- ---- calls of the store that change none of what the tables know

pub fits-same : (t : Tables) (c : Key → Option Page) (s : StoreOf) (c' : Key → Option Page) (z : StoreOf) → FitsTables t c s → c' ≡ c → z ≡ s → FitsTables t c' z
fits-same t c s c' z f contents store =
    subst (λ (c : Key → Option Page). FitsTables t c z) (sym contents) (subst (λ (s : StoreOf). FitsTables t c s) (sym store) f)

pub fits-rearranged : (t : Tables) (c : Key → Option Page) (s : StoreOf) (c' : Key → Option Page) (z : StoreOf) → FitsTables t c s → c' ≡ c → z ≡ record s { report = rearranged s.report z.report } → FitsTables t c' z
fits-rearranged t c s c' z f contents store =
    subst (λ (c : Key → Option Page). FitsTables t c z) (sym contents)
    (subst (λ (s : StoreOf). FitsTables t c s) (sym store) (fits_beside t c s f s.names s.ready (rearranged s.report z.report) f.named))
