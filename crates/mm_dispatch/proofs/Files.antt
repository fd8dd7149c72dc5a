-- The lines that the file device has a part in: `file`, `flush`, and `fail`, which names calls of either device; and what lines ask of devices beside their moves.
use Rattle.std.proofs.Common.{◌≡◌, ◌≤◌, ◌<◌, ℕ, zero, suc, ◌+◌, ◌-◌, Bool, true, false, Option, Some, None, List, [], ◌∷◌, refl, sym, ◌∙◌, ap, subst, cond, arith, is_some, unwrap_or, option_map, ◌&&◌, not, nat_le, nat_lt, ◌==◌, length, map, get_or, slice_get, count_by}
use Rattle.std.proofs.Math.Path.{fun_ext}
use Rattle.std.proofs.lemmas.Bool.{leb-true, lt-ltb}
use Rattle.std.proofs.lemmas.List.{length-append}
use Rattle.std.proofs.lemmas.List.Sums.{count_by-le-length, sum_by-cons}
use Rattle.mm_types.specs.{Answer, Device, Direction, Key, Pid, View, Range, holds_page, lies_within, range_of, page_of, end_of, Text, LineKind, Move}
use Rattle.mm_types.specs.{Name}
use Rattle.mm_devices.specs.{NamedCalls, DeviceOf}
use Rattle.mm_world.specs.{Page, RegionOf, ProcessOf, filled, pages_of, Found, process_of, area_at, shared_page, is_private, content_of, shared_key}
use Rattle.mm_world.specs.{OutcomeOf, done, new_file, take_fail, most_fails, flush, flushed_view, flushed_range, unpaged, when, is_ok, Tables}
use Rattle.mm_world.specs.{BytesAfter, BytesAfterFile, file_bytes, blank, world_with, region_with_bytes, process_with, Spaces, RegionRefers}
use Rattle.mm_world.specs.World.{World}
use Rattle.mm_world.specs.WellFormed.{WellFormed}
use Rattle.mm_world.proofs.{flush_across, new_file_across, each-at, found_stands}
use Rattle.mm_types.proofs.{parts, less}
use Rattle.mm_store.specs.{StoreOf, with_named, with_named_paging, Makes, Turns, OneMove, PassesIn, NotesIn, WritesFile, Ghosts as PageStoreGhosts}
use Rattle.mm_object_tables.specs.{key_bytes, file_block_in, BlocksHold, NamesAtMostOne, file_told, flush_told, IsTidy, beside_file, extended}
use Rattle.mm_dispatch.specs.{FlushHolds, FlushServed, NamedOn, Stepped, LineBegins, Devices, WritesBlocks, FileWrites, AskedBeside, AskedBesideOver}
use Rattle.mm_dispatch.specs.{StartsLine}
use Rattle.mm_dispatch.proofs.Lines.{stepped-faulted, bytes-kept}
use Rattle.mm_dispatch.proofs.Alike.{block-with, range-with, view-with}
use Rattle.mm_dispatch.proofs.With.{found_with, process-with, shared-with}
use Rattle.std.specs.Prelude.{Result, Ok, Err, IfOk}
use Rattle.mm_store.specs.Behind.{Behind}
use Rattle.mm_line_moves.specs.{HoldsBeside}
use Rattle.mm_calls.specs.{GrowsBy, NewFileMade}
use Rattle.mm_dispatch.proofs.Begun.{paged, noted}
use Rattle.mm_types.specs.declared.answers.Answer.TheVariants as answer
use Rattle.mm_types.specs.declared.devices.Device.TheVariants as device_of
use Rattle.mm_types.specs.declared.events.Event.TheVariants as line
use Rattle.mm_types.specs.declared.views.Kind.TheVariants as kind
use Rattle.mm_types.specs.declared.moves.Move.TheVariants as move

-- ---- `file`

-- bytes of a key that is live before and after, or never
file-same : (o : Option Page) (b : Bool) (x : Page) → is_some o ≡ b → cond (b && b) (unwrap_or o (filled 0)) (cond b x (filled 0)) ≡ unwrap_or o (filled 0)
file-same None false x e = refl
file-same (Some y) true x e = refl
file-same None true x e = cc
file-same (Some y) false x e = cc

module _ (u : Bool) (n : ℕ) (t : Tables) (old new : Key → Option Page) (s m z : StoreOf) (spaces : Spaces t) (live : (k : Key) → is_some (old k) ≡ is_some (content_of t k)) (a : Answer) (after : Tables) where
  abbrev w : World
  w = world_with t (key_bytes old)

  module _ (name : Text) (pages byte : ℕ) where
    abbrev made : OutcomeOf (Unit {0})
    made = new_file blank t name pages byte

    abbrev some-bytes : Key → Page
    some-bytes k = cond (is_some (content_of t k) && is_some (content_of made.world k)) (key_bytes old k) (cond (is_some (content_of made.world k)) (file_bytes byte k) (filled 0))

    file-answers : (unpaged w (line.File name pages byte)).answer ≡ made.answer
    file-answers = ap (λ (o : OutcomeOf Page). o.answer) ((new_file_across t (key_bytes old) spaces name pages byte).across some-bytes (λ k. refl))

    pub file-stepped : file_told t name pages byte z.report ≡ done a after → BytesAfterFile byte t (key_bytes old) after (key_bytes new) → Stepped u w (line.File name pages byte) s.report z.report a (world_with after (key_bytes new))
    file-stepped outcome bytes =
        stepped-faulted u (line.File name pages byte) n t old s m a after new z (is_ok made.answer && nat_lt 0 z.report.file_writes.failed) made outcome
        (ap (λ (a : Answer). when (is_ok a && nat_lt 0 z.report.file_writes.failed) answer.Fault) file-answers) refl
        (λ same.
        let kept : key_bytes new ≡ key_bytes old = fun_ext (λ k.
        bytes k
        ∙ ap (λ (v : Tables). cond (is_some (content_of t k) && is_some (content_of v k)) (key_bytes old k) (cond (is_some (content_of v k)) (file_bytes byte k) (filled 0))) same
        ∙ file-same (old k) (is_some (content_of t k)) (file_bytes byte k) (live k)) in
        λ i. world_with (same i) (kept i))
        (λ e.
        let world : made.world ≡ after = ap (λ (q : OutcomeOf (Unit {0})). q.world) e in
        (new_file_across t (key_bytes old) spaces name pages byte).across (key_bytes new) (subst (λ (v : Tables). BytesAfterFile byte t (key_bytes old) v (key_bytes new)) (sym world) bytes)
        ∙ ap (λ (q : OutcomeOf (Unit {0})). done q.answer (world_with q.world (key_bytes new))) e)

  -- ---- `flush`

  module _ (pid : Pid) (addr size : ℕ) where
    abbrev flushes : OutcomeOf (Unit {0})
    flushes = flush t pid.0 addr size

    abbrev flushed-bytes : Key → Page
    flushed-bytes k = cond (is_some (content_of t k) && is_some (content_of flushes.world k)) (key_bytes old k) (filled 0)

    flush-answers : (unpaged w (line.Flush pid addr size)).answer ≡ flushes.answer
    flush-answers = ap (λ (o : OutcomeOf Page). o.answer) ((flush_across t (key_bytes old) spaces pid.0 addr size).across flushed-bytes (λ k. refl))

    pub flush-stepped : flush_told t pid.0 addr size z.report ≡ done a after → after ≡ t → new ≡ old → Stepped u w (line.Flush pid addr size) s.report z.report a (world_with after (key_bytes new))
    flush-stepped outcome tables contents =
        stepped-faulted u (line.Flush pid addr size) n t old s m a after new z (is_ok flushes.answer && nat_lt 0 z.report.file_writes.failed) flushes outcome
        (ap (λ (a : Answer). when (is_ok a && nat_lt 0 z.report.file_writes.failed) answer.Fault) flush-answers) refl
        (λ same. λ i. world_with (same i) (key_bytes (contents i)))
        (λ e.
        let world : flushes.world ≡ t = ap (λ (q : OutcomeOf (Unit {0})). q.world) e ∙ tables in
        let kept : BytesAfter t (key_bytes old) flushes.world (key_bytes old) = subst (λ (v : Tables). BytesAfter t (key_bytes old) v (key_bytes old)) (sym world) (bytes-kept t t old live live) in
        (flush_across t (key_bytes old) spaces pid.0 addr size).across (key_bytes old) kept
        ∙ ap (λ (q : OutcomeOf (Unit {0})). done q.answer (world_with q.world (key_bytes old))) e
        ∙ ap (λ (c : Key → Option Page). done a (world_with after (key_bytes c))) (sym contents))

-- ---- what a `flush` leaves in the blocks

record Mapped {A B : Type 0} (f : A → B) (o : Option A) (y : B) : Type 0 where
  thing : A
  there : o ≡ Some thing
  is : f thing ≡ y

mapped : {A B : Type 0} (f : A → B) (o : Option A) (y : B) → option_map f o ≡ Some y → Mapped f o y
mapped f None y e = cc
mapped f (Some x) y e = record { thing = x; there = refl; is = cc }

all-some : {A : Type 0} (xs : List (Option A)) (i : ℕ) → count_by is_some xs ≡ length xs → i < length xs → is_some (get_or xs i None) ≡ true
all-some [] i e h = absurd (omega (arith, h))
all-some (None ∷ xs) i e h = absurd (omega (arith, e, sum_by-cons (λ (o : Option _). cond (is_some o) 1 0) None xs, count_by-le-length is_some xs))
all-some (Some x ∷ xs) zero e h = refl
all-some (Some x ∷ xs) (suc i) e h = all-some xs i (omega (arith, e, sum_by-cons (λ (o : Option _). cond (is_some o) 1 0) (Some x) xs)) (omega (arith, h))

same-bytes : (o : Option Page) (q : Option (Unit {0})) → is_some o ≡ true → is_some q ≡ true → o ≡ option_map (λ u. unwrap_or o (filled 0)) q
same-bytes (Some x) (Some u) e f = refl
same-bytes None q e f = cc
same-bytes (Some x) None e f = cc

module _ (t : Tables) (c : Key → Option Page) (sound : WellFormed t) (tidy : IsTidy t) (live : (k : Key) → is_some (c k) ≡ is_some (content_of t k)) where
  abbrev b : Key → Page
  b = key_bytes c

  -- a page of the range lies within the view
  record Within (r : RegionOf (Unit {0})) (page : ℕ) : Type 0 where
    low : r.base ≤ page
    high : page < r.base + length r.rows

  within-by : (r : RegionOf (Unit {0})) (addr size page : ℕ) (small : Bool) → (size == 0) ≡ small → lies_within (range_of addr (cond small 1 size)) (pages_of r) ≡ true → holds_page (cond small (record { first = page_of addr; count = end_of (pages_of r) - page_of addr }) (range_of addr size)) page ≡ true → Within r page
  within-by r addr size page true is lies holds =
      let l = parts (nat_le r.base (page_of addr)) (nat_le (end_of (range_of addr 1)) (end_of (pages_of r))) lies in
      let h = parts (nat_le (page_of addr) page) (nat_lt page (page_of addr + (end_of (pages_of r) - page_of addr))) holds in
      let base : r.base ≤ page_of addr = leb-true _ _ l.0 in
      let end : end_of (range_of addr 1) ≤ end_of (pages_of r) = leb-true _ _ l.1 in
      let from : page_of addr ≤ page = leb-true _ _ h.0 in
      let below : page < page_of addr + (end_of (pages_of r) - page_of addr) = less _ _ h.1 in
      record { low = omega (arith, base, from); high = omega (arith, base, from, end, below) }
  within-by r addr size page false is lies holds =
      let l = parts (nat_le r.base (page_of addr)) (nat_le (end_of (range_of addr size)) (end_of (pages_of r))) lies in
      let h = parts (nat_le (page_of addr) page) (nat_lt page (end_of (range_of addr size))) holds in
      let base : r.base ≤ page_of addr = leb-true _ _ l.0 in
      let end : end_of (range_of addr size) ≤ end_of (pages_of r) = leb-true _ _ l.1 in
      let from : page_of addr ≤ page = leb-true _ _ h.0 in
      let below : page < end_of (range_of addr size) = less _ _ h.1 in
      record { low = omega (arith, base, from); high = omega (arith, end, below) }

  module _ (blocks : List Page) (pid addr size : ℕ) (holds : BlocksHold t c blocks pid addr size) where
    at-page : (p : ProcessOf (Unit {0})) (r : Found (RegionOf (Unit {0}))) (v : View) (page first : ℕ) → process_of t pid ≡ Some p → flushed_view p.regions addr size ≡ Some r → r.thing.kind ≡ kind.View v → holds_page (flushed_range r.thing addr size) page ≡ true → (area_at t v.area.0).file_block ≡ Some first → slice_get blocks (first + (v.first + (page - r.thing.base))) ≡ shared_page (world_with t b) v.area.0 (v.first + (page - r.thing.base))
    at-page p r v page first lives found is inside block =
        let index = v.first + (page - r.thing.base) in
        let stands = found_stands _ p.regions r found in
        let passes = parts (not (is_private r.thing.kind)) (lies_within (range_of addr (cond (size == 0) 1 size)) (pages_of r.thing)) stands.passes in
        let at = within-by r.thing addr size page (size == 0) refl passes.1 inside in
        let refers = each-at (RegionRefers t) p.regions r.place r.thing ((sound.references.processes pid p lives).views) stands.there in
        let view = refers v is in
        let file = tidy.files v.area.0 first block in
        let there : is_some (shared_page t v.area.0 index) ≡ true = all-some (area_at t v.area.0).pages index file.committed (omega (arith, at.low, at.high, view.within)) in
        let has : file_block_in t (shared_key v.area.0 index) ≡ Some (first + index) =
        (λ i. cond (there i) (option_map (λ first. first + index) (block i)) None) in
        holds p r v page (first + index) lives found is inside has
        ∙ same-bytes (c (shared_key v.area.0 index)) (shared_page t v.area.0 index) (live (shared_key v.area.0 index) ∙ there) there
        ∙ sym (shared-with b t v.area.0 index)

    pub flush-holds : FlushHolds (world_with t b) blocks pid addr size
    flush-holds p r v page first lives found is inside block =
        let q = mapped (process_with b pid) (process_of t pid) p (sym (process-with b t pid) ∙ lives) in
        let view : flushed_view (map (region_with_bytes b pid) q.thing.regions) addr size ≡ Some r = ap (λ (p : ProcessOf Page). flushed_view p.regions addr size) q.is ∙ found in
        let x = mapped (found_with b pid) (flushed_view q.thing.regions addr size) r (sym (view-with t b pid (range_of addr (cond (size == 0) 1 size)) q.thing.regions) ∙ view) in
        let same : (found_with b pid x.thing).thing ≡ r.thing = ap (λ (f : Found (RegionOf Page)). f.thing) x.is in
        subst (λ (g : RegionOf Page). slice_get blocks (first + (v.first + (page - g.base))) ≡ shared_page (world_with t b) v.area.0 (v.first + (page - g.base))) same
        (at-page q.thing x.thing v page first q.there x.there
        (ap (λ (g : RegionOf Page). g.kind) same ∙ is)
        (ap (λ (range : Range). holds_page range page) (sym (range-with t b pid addr size x.thing.thing)) ∙ ap (λ (g : RegionOf Page). holds_page (flushed_range g addr size) page) same ∙ inside)
        (sym (block-with t b v.area.0) ∙ block))

pub flushed-line : (t : Tables) (c : Key → Option Page) → WellFormed t → IsTidy t → ((k : Key) → is_some (c k) ≡ is_some (content_of t k)) → (blocks : List Page) (pid : Pid) (addr size : ℕ) (a : Answer) → (a ≡ answer.Ok → BlocksHold t c blocks pid.0 addr size) → FlushServed (world_with t (key_bytes c)) blocks (line.Flush pid addr size) a
flushed-line t c sound tidy live blocks pid addr size answer.Ok holds = flush-holds t c sound tidy live blocks pid.0 addr size (holds refl)
flushed-line t c sound tidy live blocks pid addr size a holds = tt

-- ---- `fail`

pub fail-taken : (t : Tables) → t.fails_taken < 64 → take_fail t ≡ done answer.Ok (record t { fails_taken = t.fails_taken + 1 })
fail-taken t h = ap (λ b. cond b (done answer.Ok (record t { fails_taken = t.fails_taken + 1 })) (done answer.Full t)) (lt-ltb t.fails_taken most_fails h)

module _ (u : Bool) (direction : Direction) (k n number : ℕ) (s m z : StoreOf) (b : LineBegins number s m) where
  abbrev calls : NamedCalls
  calls = record { direction = direction; passes = k - 1; fails = n }

  abbrev FilesNamed : Type 0
  FilesNamed = z ≡ record m { file_device = with_named m.file_device calls }

  abbrev PagingNamed : Type 0
  PagingNamed = z ≡ record m { paging_device = with_named_paging u m.paging_device calls }

  -- what such a call does to the store
  pub record NamesCalls (device : Device) : Type 0 where
    pub devices : Devices u (line.Fail device direction k n) s z answer.Ok
    pub is : NamesAtMostOne m z
    pub line_is : z.line ≡ m.line
    pub blocks : z.file_blocks ≡ m.file_blocks

  by-devices : (device : Device) (d f : DeviceOf) → z ≡ record m { paging_device = d; file_device = f } → NamedOn u device calls s.paging_device d s.file_device f → (length d.named ≤ length m.paging_device.named + 1) × (length f.named ≤ length m.file_device.named + 1) → d.faults ≡ m.paging_device.faults → f.faults ≡ m.file_device.faults → NamesCalls device
  by-devices device d f e named few paging files =
      let is-paging : z.paging_device ≡ d = ap (λ (s : StoreOf). s.paging_device) e in
      let is-files : z.file_device ≡ f = ap (λ (s : StoreOf). s.file_device) e in
      record {
        devices = record {
          asked_files = λ bad. cc;
          asked_paging = λ bad. cc;
          named = subst (λ (d : DeviceOf). NamedOn u device calls s.paging_device d s.file_device z.file_device) (sym is-paging) (subst (λ (f : DeviceOf). NamedOn u device calls s.paging_device d s.file_device f) (sym is-files) named);
          failed = λ f. absurd f;
          paging_later = omega (arith, ap (λ (d : DeviceOf). d.faults) is-paging, paging, ap (λ (d : DeviceOf). d.faults) b.paging);
          files_later = omega (arith, ap (λ (d : DeviceOf). d.faults) is-files, files, ap (λ (d : DeviceOf). d.faults) b.files);
        };
        is = record {
          same = e ∙ (λ i. record m { paging_device = sym is-paging i; file_device = sym is-files i });
          paging = omega (arith, ap (λ (d : DeviceOf). length d.named) is-paging, few.0);
          file = omega (arith, ap (λ (d : DeviceOf). length d.named) is-files, few.1);
        };
        line_is = ap (λ (s : StoreOf). s.line) e;
        blocks = ap (λ (s : StoreOf). s.file_blocks) e;
      }

  paging-faults : (u : Bool) (d : DeviceOf) → (with_named_paging u d calls).faults ≡ d.faults
  paging-faults true d = refl
  paging-faults false d = refl

  paging-length : (u : Bool) (d : DeviceOf) → length (with_named_paging u d calls).named ≤ length d.named + 1
  paging-length true d = omega arith
  paging-length false d = omega (arith, length-append d.named (calls ∷ []))

  pub names-calls : (device : Device) → (device ≡ device_of.File → FilesNamed) → (device ≡ device_of.Paging → PagingNamed) → NamesCalls device
  names-calls device_of.File files paging =
      by-devices device_of.File m.paging_device (with_named m.file_device calls) (files refl) (b.paging, ap (λ (d : DeviceOf). with_named d calls) b.files)
      (omega arith, omega (arith, length-append m.file_device.named (calls ∷ []))) refl refl
  names-calls device_of.Paging files paging =
      by-devices device_of.Paging (with_named_paging u m.paging_device calls) m.file_device (paging refl) (ap (λ (d : DeviceOf). with_named_paging u d calls) b.paging, b.files)
      (paging-length u m.paging_device, omega arith) (paging-faults u m.paging_device) refl

-- ---- what is asked beside the moves, and what slots and blocks hold then

-- ---- the blocks of a file

blocks-written : (first pages : ℕ) (ok : Bool) (m z : StoreOf) → WritesFile first pages ok m z
    → WritesBlocks first pages ok m.file_device z.file_device m.file_blocks z.file_blocks
blocks-written first pages ok m z h =
    record { whole = h.whole; calls = h.calls; served = h.served; are = h.are; all = h.all; some = h.some; kept = h.blocks_kept }

file-writes : (first pages : ℕ) (a : Answer) (m z : StoreOf) → NewFileMade first pages a m z
    → FileWrites first pages a m.file_device z.file_device m.file_blocks z.file_blocks
file-writes first pages answer.Ok m z h = blocks-written first pages true m z h
file-writes first pages answer.Fault m z h = blocks-written first pages false m z h
file-writes first pages a m z h = (ap (λ (s : StoreOf). s.file_device) h, ap (λ (s : StoreOf). s.file_blocks) h)

-- ---- the lines

-- where an `at` was noted, slots are as before
begun-slots : (u : Bool) (x : Move) (s m : StoreOf) (b y : Behind) → u ≡ false
    → PassesIn u (OneMove x) s m b y → y.slots ≡ b.slots
begun-slots u x s m b y paging p = (paged u (OneMove x) s m b y paging p).that.slots

pub beside-file : (w : World) (name : Name) (pages byte number : ℕ) (a : Answer) (x : Move) (u : Bool) (s m z : StoreOf) (b y c : Behind)
    → u ≡ false → LineBegins number s m → z ≡ beside_file m z → NewFileMade w.blocks_used pages a m z
    → PassesIn u (OneMove x) s m b y → NotesIn u (Turns Makes) y c
    → AskedBeside w.blocks_used (line.File name pages byte) a s.paging_device z.paging_device s.file_device z.file_device s.file_blocks z.file_blocks × HoldsBeside w (line.File name pages byte) a b.slots c.slots s.file_blocks z.file_blocks
beside-file w name pages byte number a x u s m z b y c paging begins beside h p q = (
  (
    ap (λ (s : StoreOf). s.paging_device) beside ∙ begins.paging,
    subst (λ (d : DeviceOf). FileWrites w.blocks_used pages a d z.file_device s.file_blocks z.file_blocks) begins.files
        (subst (λ blocks. FileWrites w.blocks_used pages a m.file_device z.file_device blocks z.file_blocks) begins.blocks (file-writes w.blocks_used pages a m z h)),
  ),
  (noted u (Turns Makes) y c paging q).that.slots ∙ begun-slots u x s m b y paging p,
)

module _ (w : World) (used n number : ℕ) (u : Bool) (s z : StoreOf) (b c : Behind) (paging : u ≡ false) where
  abbrev GrewBy : Answer → Type 0
  GrewBy a = AskedBeside used (line.Grow n) a s.paging_device z.paging_device s.file_device z.file_device s.file_blocks z.file_blocks × HoldsBeside w (line.Grow n) a b.slots c.slots s.file_blocks z.file_blocks

  grew-by : (E : Type 0) (a : Answer) → z ≡ extended s z
      → ((limit : ℕ) → a ≡ answer.Limit limit → z.paging_device ≡ s.paging_device)
      → (a ≡ answer.Full → z.paging_device ≡ s.paging_device)
      → NotesIn u (GrowsBy {E = E} number n (Ok a)) b c → GrewBy a
  grew-by E answer.Full e grew unasked p = (
    (unasked refl, ap (λ (s : StoreOf). s.file_device) e),
    ((noted u (GrowsBy {E = E} number n (Ok answer.Full)) b c paging p).that.slots, ap (λ (s : StoreOf). s.file_blocks) e),
  )
  grew-by E (answer.Limit limit) e grew unasked p = (
    (grew limit refl, ap (λ (s : StoreOf). s.file_device) e),
    ((noted u (GrowsBy {E = E} number n (Ok (answer.Limit limit))) b c paging p).that.slots, ap (λ (s : StoreOf). s.file_blocks) e),
  )
  grew-by E a e grew unasked p = (
    (ap (λ (s : StoreOf). s.paging_device) e, ap (λ (s : StoreOf). s.file_device) e),
    ((noted u (GrowsBy {E = E} number n (Ok a)) b c paging p).that.slots, ap (λ (s : StoreOf). s.file_blocks) e),
  )

  pub beside-grow : {E : Type 0} (r : Result Answer E) → IfOk r (λ a. z ≡ extended s z)
      → IfOk r (λ a. (limit : ℕ) → a ≡ answer.Limit limit → z.paging_device ≡ s.paging_device)
      → IfOk r (λ a. a ≡ answer.Full → z.paging_device ≡ s.paging_device)
      → NotesIn u (GrowsBy number n r) b c → IfOk r GrewBy
  beside-grow {E} (Ok a) e grew unasked p = grew-by E a e grew unasked p
  beside-grow (Err x) e grew unasked p = tt

pub beside-fail : {G : Type 0} (p : PageStoreGhosts G) (t : Tables) (device : Device) (direction : Direction) (k n : ℕ) (a : Answer) {number : ℕ} {form : LineKind} {g m : G} → StartsLine p number form g m → (h : G)
    → p.unpaged ≡ false → (p.store h).file_blocks ≡ (p.store m).file_blocks → p.behind h ≡ p.behind m → AskedBesideOver p t (line.Fail device direction k n) a g h
beside-fail p t device direction k n a {number} {form} {g} {m} starts h paging blocks same =
    (tt, (ap (λ (b : Behind). b.slots) same ∙ begun-slots p.unpaged (move.At number form) (p.store g) (p.store m) (p.behind g) (p.behind m) paging starts.passes, blocks ∙ starts.begins.blocks))
