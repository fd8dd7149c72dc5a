-- The lines `io`, `counts` and `grow`.
use Rattle.std.proofs.Common.{◌≡◌, ◌<◌, ℕ, Bool, true, false, Option, Some, refl, sym, ◌∙◌, ap, subst, cond, nat_lt, length, ◌≤◌, ◌+◌, inl, inr, [], nat_le, ◌&&◌, arith}
use Rattle.std.proofs.lemmas.Bool.{false_from_ne_true, lt-ltb, ltb-true}
use Rattle.mm_types.specs.{Answer, Event, Key, LineKind, limit_of, Rose}
use Rattle.mm_world.specs.{Page, done, failed_calls, step, stepped, when, Tables, world_with, OutcomeOf, grow, with_slots, most_slots}
use Rattle.mm_world.specs.{is_failed_extension}
use Rattle.mm_world.specs.World.{World}
use Rattle.mm_world.specs.Report.{Report}
use Rattle.mm_store.specs.{StoreOf, Ready, Served, SomeFailed, completed, Completes, CompletesAs, NoMove, OneMove, Ghosts as PageStoreGhosts, begun}
use Rattle.mm_object_tables.specs.{FitsTables, key_bytes, extended, grow_told}
use Rattle.mm_dispatch.specs.{IsFailure, Named, FlushServed, asks_frames, IsNext, StartsLine, AnswersLine, MarkedOver, PassesOver, DecidedOver, FitsOver}
use Rattle.mm_dispatch.specs.{world_over, KeepsTables, Decided}
use Rattle.mm_dispatch.proofs.Lines.{decided-served, one-later, stepped-faulted, faulted-answer, faulted-made, keeps-made}
use Rattle.mm_dispatch.proofs.Begun.{passes_as}
use Rattle.mm_dispatch.proofs.Fitting.{fits_fetched}
use Rattle.mm_dispatch.proofs.Making.{in_grow}
use Rattle.mm_dispatch.proofs.Marking.{Plain, marked_completes, marked_none}
use Rattle.mm_devices.specs.{DeviceOf}
use Rattle.mm_types.specs.declared.answers.Answer.TheVariants as answer
use Rattle.mm_types.specs.declared.events.Event.TheVariants as line
use Rattle.mm_types.specs.declared.moves.LineKind.TheVariants as kind
use Rattle.mm_types.specs.declared.moves.Move.TheVariants as move
use Rattle.mm_store.specs.declared.outcomes.Done.TheVariants as ended

module _ {G : Type 0} (p : PageStoreGhosts G) {n : ℕ} {k : LineKind} {t : Tables} {g x : G} (y : G) (next : IsNext p n t g) (starts : StartsLine p n k g x) (same : p.contents y ≡ p.contents x) where
  abbrev w : World
  w = world_over p t g

  abbrev s : StoreOf
  s = p.store g

  abbrev m : StoreOf
  m = p.store x

  abbrev z : StoreOf
  z = p.store y

  pub told-line : (e : Event) (a : Answer) → asks_frames e ≡ true → step w e s.report z.report ≡ done a w → z.line ≡ m.line → Served m z → (IsFailure a → SomeFailed m z) → Named p.unpaged e a s.paging_device z.paging_device s.file_device z.file_device → FlushServed (world_over p t y) z.file_blocks e a → FitsOver p t y → DecidedOver p e n t g a t y
  told-line e a asks answer line_is served failed named flushed fits =
      decided-served p.unpaged e n t (p.contents g) s m a t (p.contents y) z next.line_is starts.begins line_is served
      (record {
        decided = answer ∙ (λ i. done a (world_with t (key_bytes (sym (same ∙ starts.contents) i))));
        told = λ never plain fine. let bad : true ≡ false = sym asks ∙ plain in cc;
      })
      failed named flushed (one-later t s.line next.keeps.few) fits

  -- an `io` line changes nothing that the tables know
  module _ (is : k ≡ kind.Io) (i : ℕ) (served : Served m z) (stored : length z.file_blocks ≡ length m.file_blocks) (store : z ≡ completed m z) where
    fits-completed : FitsOver p t y
    fits-completed =
        subst (λ (c : Key → Option Page). FitsTables t c z) (sym same)
        (let fits = (starts.keeps t next.keeps).fits in
        fits_fetched t (p.contents x) m fits m.names z served stored (store ∙ ap (λ (r : Option Ready). record (completed m z) { ready = r }) (sym (ap (λ (s : StoreOf). s.ready) store))) fits.named)

    io-line : (few fails : Bool) (a : Answer) → nat_lt s.report.counts.requests i ≡ few → nat_lt 0 (failed_calls z.report) ≡ fails → stepped w (line.Io i) (cond few (Some answer.Nothing) (when fails answer.Fault)) ≡ done a w → (IsFailure a → SomeFailed m z) → MarkedOver p (line.Io i) n t g a t y → AnswersLine p (line.Io i) n t g a t y
    io-line few fails a e f answers failed marked = record {
      decided = told-line (line.Io i) a refl ((λ k. stepped w (line.Io i) (cond (e k) (Some answer.Nothing) (when (f k) answer.Fault))) ∙ answers) (ap (λ (s : StoreOf). s.line) store) served failed tt tt fits-completed;
      marked = marked;
    }

    first : PassesOver p (OneMove (move.At n kind.Io)) g x
    first = subst (λ (k : LineKind). PassesOver p (OneMove (move.At n k)) g x) is starts.passes

    plain : (a : Answer) → Plain (line.Io i) w a (p.behind g)
    plain a = record { ages = λ ms. refl; waits = λ ws l. refl }

    pub io-none : m.report.counts.requests < i → PassesOver p (CompletesAs i ended.None) x y → AnswersLine p (line.Io i) n t g answer.Nothing t y
    io-none few passes =
        io-line true _ answer.Nothing (lt-ltb _ _ (subst (λ (r : Report). r.counts.requests < i) starts.begins.report_is few)) refl refl (λ f. absurd f)
        (marked_none n kind.Io (line.Io i) w answer.Nothing (world_over p t y) p.unpaged s m z (p.behind g) (p.behind x) (p.behind y) (plain answer.Nothing) (λ ms h. h) first
        (passes_as p.unpaged (CompletesAs i ended.None) NoMove m z (p.behind x) (p.behind y) (λ ms rep h. h.1) passes))

    module _ (found : m.report.counts.requests < i → ⊥) where
      many : nat_lt s.report.counts.requests i ≡ false
      many = false_from_ne_true (nat_lt s.report.counts.requests i) (λ e. found (subst (λ (r : Report). r.counts.requests < i) (sym starts.begins.report_is) (ltb-true _ _ e)))

      pub io-ok : failed_calls z.report ≡ failed_calls m.report → PassesOver p (Completes i true) x y → AnswersLine p (line.Io i) n t g answer.Ok t y
      io-ok none passes =
          io-line false false answer.Ok many (ap (nat_lt 0) none ∙ ap (λ (r : Report). nat_lt 0 (failed_calls r)) starts.begins.report_is) refl (λ f. absurd f)
          (marked_completes n kind.Io (line.Io i) w answer.Ok (world_over p t y) p.unpaged s m z (p.behind g) (p.behind x) (p.behind y) (plain answer.Ok) i true
          (λ ms log h. record { frame = h.frame; found = h.found; one = h.one; moved = record { waits = h.moved.waits; ages = h.moved.ages } }) first passes)

      pub io-failed : 0 < failed_calls z.report → SomeFailed m z → PassesOver p (Completes i false) x y → AnswersLine p (line.Io i) n t g answer.Fault t y
      io-failed some blamed passes =
          io-line false true answer.Fault many (lt-ltb _ _ some) refl (λ f. blamed)
          (marked_completes n kind.Io (line.Io i) w answer.Fault (world_over p t y) p.unpaged s m z (p.behind g) (p.behind x) (p.behind y) (plain answer.Fault) i false
          (λ ms log h. record { frame = h.frame; found = h.found; one = h.one; moved = record { waits = h.moved.waits; ages = h.moved.ages } }) first passes)

-- ---- a `grow` line: the paging file grows, or the paging device fails

module _ (t : Tables) (n : ℕ) where
  abbrev grew : Tables
  grew = record t { machine = with_slots t.machine n }

  abbrev both : Bool → OutcomeOf (Unit {0})
  both b = cond b (done (answer.Limit (limit_of (with_slots t.machine n))) grew) (done answer.Full t)

  -- it changes the machine alone
  with-bytes : (bytes : Key → Page)
      → grow (world_with t bytes) n ≡ done (grow t n).answer (world_with (grow t n).world bytes)
  with-bytes bytes = by_room (nat_le (t.machine.slots + n) most_slots)
    where
      by_room : (b : Bool)
          → cond b (done (answer.Limit (limit_of (with_slots t.machine n))) (world_with grew bytes)) (done answer.Full (world_with t bytes)) ≡ done (both b).answer (world_with (both b).world bytes)
      by_room true = refl
      by_room false = refl

pub grow-line : (u : Bool) (count n : ℕ) (t : Tables) (old : Key → Option Page) (s : StoreOf) (a : Answer) (after : Tables) (new : Key → Option Page) (z : StoreOf)
    → KeepsTables t old s → n ≡ s.line + 1 → grow_told t count z.report ≡ done a after → new ≡ old
    → FitsTables after new z → z ≡ extended s z
    → z.report ≡ record (begun s.report) { counts = z.report.counts; extended = z.report.extended } → z.line ≡ n → (a ≡ answer.Fault → Rose s.paging_device.faults z.paging_device.faults) → s.paging_device.faults ≤ z.paging_device.faults → Decided u (line.Grow count) n t old s a after new z
grow-line u count n t old s a after new z keeps next outcome contents fits rest report is blamed later =
    let e : Event = line.Grow count in
    let q = grow t count in
    let b = nat_le (t.machine.slots + count) most_slots && is_failed_extension z.report.extended in
    let files : z.file_device ≡ s.file_device = ap (λ (x : StoreOf). x.file_device) rest in
    record {
      stepped = stepped-faulted u e n t old s s a after new z b q outcome refl refl
          (λ same. λ i. world_with (same i) (key_bytes (contents i)))
          (λ made.
          with-bytes t count (key_bytes old)
          ∙ ap (λ (o : OutcomeOf (Unit {0})). done o.answer (world_with o.world (key_bytes old))) made
          ∙ ap (λ (c : Key → Option Page). done a (world_with after (key_bytes c))) (sym contents));
      devices = record {
        asked_files = λ plain. record {
          calls = [];
          served = files;
          read = ap (λ (r : Report). r.file_reads) report;
          wrote = ap (λ (r : Report). r.file_writes) report;
        };
        asked_paging = λ plain stays. cc;
        named = tt;
        failed = λ f. inr (inl (inl (blamed (faulted-answer u e n t old s s a after new z b q (in_grow t count).it.fine outcome f))));
        paging_later = later;
        files_later = omega (arith, ap (λ (d : DeviceOf). d.faults) files);
      };
      flushed = tt;
      keeps = keeps-made u e n t old s s a after new z next is (faulted-made u e n t old s s a after new z b q (s.line + 1) (one-later t s.line keeps.few) ((in_grow t count).it.made s.line keeps.few) outcome) fits;
      line_is = is;
    }
