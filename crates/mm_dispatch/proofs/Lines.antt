-- From what a call did to devices, to the tables and to the bytes to what its line did to the world.
use Rattle.std.proofs.Common.{◌≡◌, ◌≤◌, ◌⊎◌, inl, inr, ℕ, Bool, List, [], ◌∷◌, refl, sym, ◌∙◌, ap, subst, arith, length, ◌+◌, true, false, Option, Some, None, Result, Ok, Err, cond, is_some, unwrap_or, ◌&&◌, nat_le, ◌++◌}
use Rattle.std.proofs.lemmas.List.{length-map}
use Rattle.mm_types.specs.{Answer, Event, Key, LineKind, NoMemory}
use Rattle.mm_devices.specs.{one_further, DeviceOf, Call, AllServed}
use Rattle.mm_world.specs.Report.{Report}
use Rattle.mm_store.specs.{tallied, StoreOf, Served, SomeFailed, rearranged, pid_after, begun, Ghosts as PageStoreGhosts}
use Rattle.mm_object_tables.specs.{store_beside, FitsTables, key_bytes, Called, MadeAtMost}
use Rattle.mm_dispatch.specs.{IsFailure, FailedBefore, Named, OneFailed, LineBegins, Devices, FlushServed, Stepped, KeepsTables, Decided, IsNext}
use Rattle.mm_dispatch.specs.{StartsLine, DecidedOver, FitsOver, is_plain_kind, world_over, Idle, HaltedOver, IdleOver, MarkedOver, AnswersLine}
use Rattle.mm_dispatch.specs.{HaltsLine, EndsWaits, MakesLine, TakesLine, AskedBesideOver}
use Rattle.std.specs.Prelude.{IsOk, IfOk, OnErr}
use Rattle.mm_world.specs.{new_process, no_regions, most_processes, Page, filled, content_of, OutcomeOf, done, step, stepped, unpaged, told, when}
use Rattle.mm_world.specs.{world_told, Tables, BytesAfter, AcrossBytes, world_with}
use Rattle.mm_world.specs.World.{World}
use Rattle.mm_world.proofs.{Holds}
use Rattle.mm_types.proofs.{and_false}
use Rattle.mm_dispatch.proofs.Making.{Makes}
use Rattle.mm_dispatch.proofs.Marking.{each-ok}
use Rattle.mm_types.specs.declared.devices.Direction.TheVariants as way
use Rattle.mm_types.specs.declared.answers.Answer.TheVariants as answer
use Rattle.mm_types.specs.declared.moves.LineKind.TheVariants as kind

-- ---- calls behind calls

pub all-later : (cs : List Call) (x y : DeviceOf) → AllServed cs x y → x.faults ≤ y.faults
all-later [] x y h = omega (arith, ap (λ (d : DeviceOf). d.faults) h)
all-later (c ∷ cs) x y h = let l = all-later cs h.0 y h.1.1 in omega (arith, h.1.0.later, l)

pub all-named : (cs : List Call) (x y : DeviceOf) → AllServed cs x y → length y.named ≡ length x.named
all-named [] x y h = ap (λ (d : DeviceOf). length d.named) h
all-named (c ∷ cs) x y h = all-named cs h.0 y h.1.1 ∙ ap length h.1.0.after ∙ length-map x.named (one_further c.way)

-- ---- no device was called

pub record Quiet (m z : StoreOf) : Type 0 where
  pub paging : z.paging_device ≡ m.paging_device
  pub files : z.file_device ≡ m.file_device
  pub report_is : z.report ≡ rearranged m.report z.report
  pub line_is : z.line ≡ m.line

quiet-of : (m z y : StoreOf) → z ≡ y → y.paging_device ≡ m.paging_device → y.file_device ≡ m.file_device → y.report ≡ rearranged m.report z.report → y.line ≡ m.line → Quiet m z
quiet-of m z y e paging files report line =
    record {
      paging = ap (λ (s : StoreOf). s.paging_device) e ∙ paging;
      files = ap (λ (s : StoreOf). s.file_device) e ∙ files;
      report_is = ap (λ (s : StoreOf). s.report) e ∙ report;
      line_is = ap (λ (s : StoreOf). s.line) e ∙ line;
    }

pub quiet-beside : (m z : StoreOf) → z ≡ store_beside m z → Quiet m z
quiet-beside m z e = quiet-of m z (store_beside m z) e refl refl refl refl

pub quiet-rearranged : (m z : StoreOf) → z ≡ record m { report = rearranged m.report z.report } → Quiet m z
quiet-rearranged m z e = quiet-of m z (record m { report = rearranged m.report z.report }) e refl refl refl refl

pub quiet-same : (m z : StoreOf) → z ≡ m → Quiet m z
quiet-same m z e = quiet-of m z m e refl refl (ap (λ (s : StoreOf). rearranged m.report s.report) (sym e)) refl

pub served-quiet : (m z : StoreOf) → Quiet m z → Served m z
served-quiet m z h =
    record {
      paging_calls = [];
      file_calls = [];
      paging = h.paging;
      files = h.files;
      paging_reads = ap (λ (r : Report). r.paging_reads) h.report_is;
      paging_writes = ap (λ (r : Report). r.paging_writes) h.report_is;
      file_reads = ap (λ (r : Report). r.file_reads) h.report_is;
      file_writes = ap (λ (r : Report). r.file_writes) h.report_is;
    }

-- ---- a line

pub devices-told : (u : Bool) (e : Event) (n : ℕ) (s m z : StoreOf) (a : Answer) → LineBegins n s m → Served m z → Named u e a s.paging_device z.paging_device s.file_device z.file_device → (IsFailure a → FailedBefore e s.report ⊎ SomeFailed m z) → Devices u e s z a
devices-told u e n s m z a b h named failed =
    record {
      asked_files = λ plain.
          record {
            calls = h.file_calls;
            served = subst (λ (d : DeviceOf). AllServed h.file_calls d z.file_device) b.files h.files;
            read = h.file_reads ∙ ap (λ (r : Report). tallied way.Read h.file_calls r.file_reads) b.report_is;
            wrote = h.file_writes ∙ ap (λ (r : Report). tallied way.Write h.file_calls r.file_writes) b.report_is;
          };
      asked_paging = λ plain stays.
          record {
            calls = h.paging_calls;
            served = subst (λ (d : DeviceOf). AllServed h.paging_calls d z.paging_device) b.paging h.paging;
            read = h.paging_reads ∙ ap (λ (r : Report). tallied way.Read h.paging_calls r.paging_reads) b.report_is;
            wrote = h.paging_writes ∙ ap (λ (r : Report). tallied way.Write h.paging_calls r.paging_writes) b.report_is;
          };
      named = named;
      failed = λ f. elim (failed f) [
        | inl before ↦ inl before
        | inr rose ↦ inr (subst (λ (d : DeviceOf). OneFailed d z.paging_device s.file_device z.file_device) b.paging
            (subst (λ (d : DeviceOf). OneFailed m.paging_device z.paging_device d z.file_device) b.files rose))
      ];
      paging_later = omega (arith, all-later h.paging_calls m.paging_device z.paging_device h.paging, ap (λ (d : DeviceOf). d.faults) b.paging);
      files_later = omega (arith, all-later h.file_calls m.file_device z.file_device h.files, ap (λ (d : DeviceOf). d.faults) b.files);
    }

pub devices-served : (u : Bool) (e : Event) (n : ℕ) (s m z : StoreOf) (a : Answer) → LineBegins n s m → Served m z → Named u e a s.paging_device z.paging_device s.file_device z.file_device → (IsFailure a → SomeFailed m z) → Devices u e s z a
devices-served u e n s m z a b h named failed = devices-told u e n s m z a b h named (λ f. inr (failed f))

-- where no device was called, the answer is no failure
pub devices-quiet : (u : Bool) (e : Event) (n : ℕ) (s m z : StoreOf) (a : Answer) → LineBegins n s m → Quiet m z → Named u e a s.paging_device z.paging_device s.file_device z.file_device → (IsFailure a → ⊥) → Devices u e s z a
devices-quiet u e n s m z a b h named fine = devices-served u e n s m z a b (served-quiet m z h) named (λ f. absurd (fine f))

-- ---- tables and bytes

-- ---- calls

-- a call on the tables is the call on the world
pub called-across : (q : OutcomeOf (Unit {0})) (o : OutcomeOf Page) (t : Tables) (old : Key → Option Page) (a : Answer) (after : Tables) (new : Key → Option Page) → AcrossBytes t (key_bytes old) q o → Called q t old a after new → o ≡ done a (world_with after (key_bytes new))
called-across q o t old a after new across h =
    let world : q.world ≡ after = ap (λ (q : OutcomeOf (Unit {0})). q.world) h.outcome in
    across.across (key_bytes new) (subst (λ (v : Tables). BytesAfter t (key_bytes old) v (key_bytes new)) (sym world) h.bytes)
    ∙ ap (λ (q : OutcomeOf (Unit {0})). done q.answer (world_with q.world (key_bytes new))) h.outcome

-- bytes that stay, of keys that stay live
bytes_at : (o : Option Page) (a b : Bool) → is_some o ≡ a → is_some o ≡ b → unwrap_or o (filled 0) ≡ cond (a && b) (unwrap_or o (filled 0)) (filled 0)
bytes_at None a false e f = ap (λ b. cond b (filled 0) (filled 0)) (sym (and_false a))
bytes_at None a true e f = cc
bytes_at (Some x) true true e f = refl
bytes_at (Some x) false b e f = cc
bytes_at (Some x) true false e f = cc

pub bytes-kept : (t after : Tables) (c : Key → Option Page) → ((k : Key) → is_some (c k) ≡ is_some (content_of t k)) → ((k : Key) → is_some (c k) ≡ is_some (content_of after k)) → BytesAfter t (key_bytes c) after (key_bytes c)
bytes-kept t after c old new k = bytes_at (c k) _ _ (old k) (new k)

-- a line of which the store tells nothing
pub stepped-plain : (u : Bool) (w : World) (e : Event) (before later : Report) (a : Answer) (v : World) → told w e before later ≡ None → unpaged w e ≡ done a v → Stepped u w e before later a v
stepped-plain u w e before later a v none outcome =
    record { decided = ap (stepped w e) none ∙ outcome; told = λ never plain fine. outcome }

module _ (u : Bool) (e : Event) (n : ℕ) (t : Tables) (old : Key → Option Page) (s m : StoreOf) (a : Answer) (after : Tables) (new : Key → Option Page) (z : StoreOf) where
  abbrev w : World
  w = world_with t (key_bytes old)

  abbrev v : World
  v = world_with after (key_bytes new)

  abbrev NamedHere : Type 0
  NamedHere = Named u e a s.paging_device z.paging_device s.file_device z.file_device

  pub keeps-made : n ≡ s.line + 1 → z.line ≡ n → MadeAtMost (s.line + 1) after → FitsTables after new z → KeepsTables after new z
  keeps-made next is few fits =
      record { fits = fits; few = subst (λ (k : ℕ). MadeAtMost k after) (sym (is ∙ next)) few }

  -- a line that called no device
  pub decided-quiet : n ≡ s.line + 1 → LineBegins n s m → Quiet m z → told w e s.report z.report ≡ None → unpaged w e ≡ done a v → (IsFailure a → ⊥) → NamedHere → FlushServed v z.file_blocks e a → MadeAtMost (s.line + 1) after → FitsTables after new z → Decided u e n t old s a after new z
  decided-quiet next b quiet none outcome fine named flushed few fits =
      record {
        stepped = stepped-plain u w e s.report z.report a v none outcome;
        devices = devices-quiet u e n s m z a b quiet named fine;
        flushed = flushed;
        keeps = keeps-made next (quiet.line_is ∙ b.line_is) few fits;
        line_is = quiet.line_is ∙ b.line_is;
      }

  -- one whose call on the world has the outcome of its call on the tables
  pub decided-call : (q : OutcomeOf (Unit {0})) → KeepsTables t old s → n ≡ s.line + 1 → LineBegins n s m → Quiet m z → AcrossBytes t (key_bytes old) q (unpaged w e) → Holds (Makes t) q → told w e s.report z.report ≡ None → NamedHere → FlushServed v z.file_blocks e a → Called q t old a after new → FitsTables after new z → Decided u e n t old s a after new z
  decided-call q keeps next b quiet across makes none named flushed called fits =
      let answers : q.answer ≡ a = ap (λ (q : OutcomeOf (Unit {0})). q.answer) called.outcome in
      let tables : q.world ≡ after = ap (λ (q : OutcomeOf (Unit {0})). q.world) called.outcome in
      decided-quiet next b quiet none (called-across q (unpaged w e) t old a after new across called)
      (subst (λ (a : Answer). IsFailure a → ⊥) answers makes.it.fine) named flushed
      (subst (λ (t : Tables). MadeAtMost (s.line + 1) t) tables (makes.it.made s.line keeps.few)) fits

  -- a line of which the store may tell that a device failed
  pub stepped-faulted : (b : Bool) (q : OutcomeOf (Unit {0})) → cond b (done answer.Fault t) q ≡ done a after → told w e s.report z.report ≡ when b answer.Fault → world_told w e answer.Fault ≡ w → (after ≡ t → v ≡ w) → (q ≡ done a after → unpaged w e ≡ done a v) → Stepped u w e s.report z.report a v
  stepped-faulted true q outcome is_told kept same across =
      let answers : answer.Fault ≡ a = ap (λ (o : OutcomeOf (Unit {0})). o.answer) outcome in
      let tables : t ≡ after = ap (λ (o : OutcomeOf (Unit {0})). o.world) outcome in
      record {
        decided = ap (stepped w e) is_told ∙ ap (λ (w : World). done answer.Fault w) (kept ∙ sym (same (sym tables))) ∙ ap (λ (a : Answer). done a v) answers;
        told = λ never plain fine. absurd (fine (sym answers));
      }
  stepped-faulted false q outcome is_told kept same across = stepped-plain u w e s.report z.report a v is_told (across outcome)

  pub faulted-answer : (b : Bool) (q : OutcomeOf (Unit {0})) → (IsFailure q.answer → ⊥) → cond b (done answer.Fault t) q ≡ done a after → IsFailure a → a ≡ answer.Fault
  faulted-answer true q fine outcome f = sym (ap (λ (o : OutcomeOf (Unit {0})). o.answer) outcome)
  faulted-answer false q fine outcome f = absurd (fine (subst (λ (a : Answer). IsFailure a) (sym (ap (λ (o : OutcomeOf (Unit {0})). o.answer) outcome)) f))

  pub faulted-made : (b : Bool) (q : OutcomeOf (Unit {0})) (k : ℕ) → MadeAtMost k t → MadeAtMost k q.world → cond b (done answer.Fault t) q ≡ done a after → MadeAtMost k after
  faulted-made true q k h h' outcome = subst (λ (t : Tables). MadeAtMost k t) (ap (λ (o : OutcomeOf (Unit {0})). o.world) outcome) h
  faulted-made false q k h h' outcome = subst (λ (t : Tables). MadeAtMost k t) (ap (λ (o : OutcomeOf (Unit {0})). o.world) outcome) h'

  -- a line that called devices
  pub decided-served : n ≡ s.line + 1 → LineBegins n s m → z.line ≡ m.line → Served m z → Stepped u w e s.report z.report a v → (IsFailure a → SomeFailed m z) → NamedHere → FlushServed v z.file_blocks e a → MadeAtMost (s.line + 1) after → FitsTables after new z → Decided u e n t old s a after new z
  decided-served next b line_is served step failed named flushed few fits =
      record {
        stepped = step;
        devices = devices-served u e n s m z a b served named failed;
        flushed = flushed;
        keeps = keeps-made next (line_is ∙ b.line_is) few fits;
        line_is = line_is ∙ b.line_is;
      }

pub one-later : (t : Tables) (n : ℕ) → MadeAtMost n t → MadeAtMost (n + 1) t
one-later t n h = record { sections = omega (arith, h.sections); areas = omega (arith, h.areas); handles = λ pid p lives. omega (arith, h.handles pid p lives) }

-- a line after which tables and bytes are those before
pub decided-same : {G : Type 0} (p : PageStoreGhosts G) {n : ℕ} {k : LineKind} {t : Tables} {g x y : G} → IsNext p n t g → StartsLine p n k g x → (e : Event) (a : Answer) → Quiet (p.store x) (p.store y) → p.contents y ≡ p.contents x → told (world_over p t g) e (p.store g).report (p.store y).report ≡ None → unpaged (world_over p t g) e ≡ done a (world_over p t g) → (IsFailure a → ⊥)
    → Named p.unpaged e a (p.store g).paging_device (p.store y).paging_device (p.store g).file_device (p.store y).file_device → FlushServed (world_over p t y) (p.store y).file_blocks e a → FitsOver p t y → DecidedOver p e n t g a t y
decided-same p {n = n} {t} {g} {x} {y} next starts e a quiet same none outcome fine named flushed fits =
    decided-quiet p.unpaged e n t (p.contents g) (p.store g) (p.store x) a t (p.contents y) (p.store y) next.line_is starts.begins quiet none
    (outcome ∙ (λ i. done a (world_with t (key_bytes (sym (same ∙ starts.contents) i))))) fine named flushed (one-later t (p.store g).line next.keeps.few) fits

-- a line that the store began by itself
pub begins-line : (n : ℕ) (k : LineKind) (s m : StoreOf) → m ≡ record s { line = n; kind = k; last_pid = pid_after s.last_pid k; ready = None; report = begun s.report } → LineBegins n s m
begins-line n k s m e =
    record {
      line_is = ap (λ (s : StoreOf). s.line) e;
      report_is = ap (λ (s : StoreOf). s.report) e;
      paging = ap (λ (s : StoreOf). s.paging_device) e;
      files = ap (λ (s : StoreOf). s.file_device) e;
      blocks = ap (λ (s : StoreOf). s.file_blocks) e;
    }

same_last : (last : ℕ) (k : LineKind) → is_plain_kind k ≡ true → pid_after last k ≡ last
same_last last (kind.Process pid min max) e = cc
same_last last _ e = refl

pub begins-plain : (n : ℕ) (k : LineKind) (t : Tables) (c d : Key → Option Page) (s m : StoreOf) → is_plain_kind k ≡ true → n ≡ s.line + 1 → d ≡ c → m ≡ record s { line = n; kind = k; last_pid = pid_after s.last_pid k; ready = None; report = begun s.report } → KeepsTables t c s → KeepsTables t d m
begins-plain n k t c d s m plain next same e keeps =
    let last : pid_after s.last_pid k + 1 ≡ length t.processes = ap (λ (l : ℕ). l + 1) (same_last s.last_pid k plain) ∙ keeps.fits.last_pid in
    subst (λ (c : Key → Option Page). KeepsTables t c m) (sym same)
    (subst (λ (m : StoreOf). KeepsTables t c m) (sym e)
    (record { fits = assumption (last, keeps.fits); few = subst (λ (l : ℕ). MadeAtMost l t) (sym next) (one-later t s.line keeps.few) }))

pub full-process : (t : Tables) → nat_le (length t.processes) most_processes ≡ false → new_process t ≡ done answer.Full t
full-process t full =
    ap (λ b. cond b (done (answer.NewProcess (record { 0 = length t.processes })) (record t { processes = t.processes ++ Some no_regions ∷ [] })) (done answer.Full t)) full

-- ---- results

pub if-ok : {T E : Type 0} {P Q : T → Type 0} (r : Result T E) → IfOk r P → ((x : T) → P x → Q x) → IfOk r Q
if-ok (Ok x) h f = f x h
if-ok (Err e) h f = tt

pub if-err : {T E : Type 0} {P Q : Type 0} (r : Result T E) → OnErr r P → (P → Q) → OnErr r Q
if-err (Ok x) h f = tt
if-err (Err e) h f = f h

pub none-if : {X : Type 0} (b : Bool) (x : X) (o : Option X) → o ≡ None → o ≡ cond b (Some x) None → b ≡ false
none-if true x o e f = let bad : None ≡ Some x = sym e ∙ f in cc
none-if false x o e f = refl

-- a store that never fails gave no error
not-ok : {T E : Type 0} (r : Result T E) (x : E) → r ≡ Err x → IsOk r → ⊥
not-ok (Ok y) x is ok = cc
not-ok (Err y) x is ok = cc

pub never-fails : {T E : Type 0} (u : Bool) (r : Result T E) (x : E) → r ≡ Err x → (u ≡ true → IsOk r) → u ≡ true → ⊥
never-fails u r x is fine e = not-ok r x is (fine e)

-- ---- a line's promise, from its parts

-- ---- a line that ran out of memory, by the store after its begin and after its call

pub idle-beside : {n : ℕ} {t after : Tables} {old mid new : Key → Option Page} {s m z : StoreOf} → LineBegins n s m → mid ≡ old → z ≡ store_beside m z → after ≡ t → new ≡ mid → Idle t old s after new z
idle-beside b same e tables contents =
    record {
      tables = tables;
      contents = contents ∙ same;
      paging = ap (λ (s : StoreOf). s.paging_device) e ∙ b.paging;
      files = ap (λ (s : StoreOf). s.file_device) e ∙ b.files;
      blocks = ap (λ (s : StoreOf). s.file_blocks) e ∙ b.blocks;
    }

pub idle-still : {n : ℕ} {t after : Tables} {old mid new : Key → Option Page} {s m z : StoreOf} → LineBegins n s m → mid ≡ old → z ≡ m → after ≡ t → new ≡ mid → Idle t old s after new z
idle-still {m = m} b same e tables contents = idle-beside b same (subst (λ (z : StoreOf). z ≡ store_beside m z) (sym e) refl) tables contents

pub idle-grown : {t after : Tables} {old new : Key → Option Page} {s z : StoreOf} → new ≡ old → z ≡ s → after ≡ t → Idle t old s after new z
idle-grown contents e tables =
    record {
      tables = tables;
      contents = contents;
      paging = ap (λ (s : StoreOf). s.paging_device) e;
      files = ap (λ (s : StoreOf). s.file_device) e;
      blocks = ap (λ (s : StoreOf). s.file_blocks) e;
    }

-- ---- both parts of what is promised

module _ {G : Type 0} (p : PageStoreGhosts G) (e : Event) (n : ℕ) (t : Tables) (g : G) where
  pub answers-line : (r : Result Answer NoMemory) (after : Tables) (h : G) → IfOk r (λ a. DecidedOver p e n t g a after h) → IfOk r (λ a. MarkedOver p e n t g a after h) → IfOk r (λ a. AnswersLine p e n t g a after h)
  answers-line (Ok a) after h decided marked = record { decided = decided; marked = marked }
  answers-line (Err x) after h decided marked = tt

  pub halts-line : (r : Result Answer NoMemory) (after : Tables) (h : G) → OnErr r (IdleOver p t g after h) → OnErr r (HaltedOver p e n t g h) → OnErr r (HaltsLine p e n t g after h)
  halts-line (Ok a) after h idle halted = tt
  halts-line (Err x) after h idle halted = record { idle = idle; halted = halted }

-- ---- said of the event that it is

module _ {G : Type 0} (p : PageStoreGhosts G) {line : ℕ} {t : Tables} {g : G} {e f : Event} where
  -- of a line that cannot run out of memory
  pub answered : e ≡ f → {T : Type 0} {given : T → Answer} {v : T} {after : Tables} {h : G} → AnswersLine p f line t g (given v) after h → EndsWaits t f (given v) (p.store h).report → (p.unpaged ≡ false → AskedBesideOver p t f (given v) g h) → p.loans h ≡ p.loans g
      → TakesLine p e line t g given (Ok v) after h
  answered is {given = given} {v} {after} {h} done waits beside loans =
      subst (λ (e : Event). TakesLine p e line t g given (Ok v) after h) (sym is)
      (record { done = done; broke = tt; no_memory = λ none. refl; waits = waits; beside = beside; loans = loans })

  -- of one that can
  module _ (is : e ≡ f) {r : Result Answer NoMemory} {after : Tables} {h : G} (m : MakesLine p f line t g r after h) (waits : (a : Answer) → EndsWaits t f a (p.store h).report) where
    pub made-beside : (p.unpaged ≡ false → IfOk r (λ a. AskedBesideOver p t f a g h)) → TakesLine p e line t g (λ a. a) r after h
    made-beside beside =
        subst (λ (e : Event). TakesLine p e line t g (λ a. a) r after h) (sym is)
        (record { done = m.done; broke = m.broke; no_memory = m.no_memory; waits = each-ok r waits; beside = beside; loans = m.loans })

    pub made : ((a : Answer) → p.unpaged ≡ false → AskedBesideOver p t f a g h) → TakesLine p e line t g (λ a. a) r after h
    made beside = made-beside (λ paged. each-ok r (λ a. beside a paged))
