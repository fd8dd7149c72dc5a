-- What a run of a generated script did, from how far its events were decided.
use Rattle.std.proofs.Common.{◌≡◌, ◌≢◌, ◌⊎◌, ℕ, ◌<◌, List, [], ◌++◌, length, Option, refl, sym, ap, ◌∙◌, subst, inl, inr, arith}
use Rattle.std.specs.Prelude.{Result, Ok, Err, MatchResult}
use Rattle.mm_types.specs.{Appended, Rose, Text, Event}
use Rattle.mm_types.proofs.{append_nil, appended_none, rose_later}
use Rattle.mm_run.specs.{Tally, Ending, Stage, Follows, DecidedLine, last_stage, answers_in, moves_of, TornText, status_of, Left, StageLeaves}
use Rattle.mm_run.specs.{FaultCounts, IsBlamed, IsAccounted, Around, GaveAll, begun_at, AreDecided, ClosesEvents, HeadIsMuted, HeadWantsMemory, BulkStops, BulkEnds, BulkRan}
use Rattle.mm_run.specs.{events_in, bulk_text, four_lines, Stopped, Tallied, BatchRan}
use Rattle.mm_run.specs.declared.endings.Ending.TheVariants as ending
use Rattle.mm_run.proofs.Stories.{follows_here}
use Rattle.std.proofs.lemmas.List.{length-map}
use Rattle.mm_run.proofs.Closing.{MovesAfter, leaves_after}
use Rattle.mm_run.proofs.Ends.{accounted_moves}
use Rattle.mm_run.proofs.Logs.{events_logged, log_closed, log_left, events_hold}
use Rattle.mm_run.proofs.Failures.{events_faultless}
use Rattle.mm_run.proofs.Events.{follows_done}

module _ (a b : Around) (events : List Event) (status : ℕ) where
  ran_by : (lines : List DecidedLine) (left : List Event) (e : Ending) (end : Stage) (written : Text) → events ≡ events_in lines ++ left → AreDecided (begun_at a.beside) lines → BulkStops e left → ClosesEvents e (last_stage (begun_at a.beside) lines) end → (e ≡ ending.MovesFault → HeadIsMuted left (last_stage (begun_at a.beside) lines) end)
      → (e ≡ ending.NoMemory → HeadWantsMemory left (last_stage (begun_at a.beside) lines) end)
      → StageLeaves end b.beside → Appended a.took b.took written → BulkEnds b status e (bulk_text (answers_in lines) end) written → BulkRan a b events status
  ran_by lines left e end written are decided stops closes muted wants leaves wrote ends = record {
    lines = lines;
    left = left;
    events_are = are;
    decided = decided;
    e = e;
    stops = stops;
    end = end;
    written = written;
    wrote = wrote;
    ends = ends;
    closes = closes;
    muted = muted;
    wants = wants;
    leaves = leaves;
    log = log_left a.beside.moves a.beside.moves_faults (moves_of lines) e (last_stage (begun_at a.beside) lines) end b.beside leaves
        (log_closed (begun_at a.beside) (last_stage (begun_at a.beside) lines) (moves_of lines) (events_logged (begun_at a.beside) lines decided) refl refl e end closes);
    holds = λ q. events_hold (begun_at a.beside) lines end b.beside tt decided (follows_done e (last_stage (begun_at a.beside) lines) end q closes) leaves;
    faultless = λ calm. events_faultless a.beside b.beside e end leaves calm lines decided closes;
  }

  -- all events were decided
  module _ (t : Tally) (end : Stage) (h : Tallied (begun_at a.beside) events t end) (leaves : StageLeaves end b.beside) where
    text_is : four_lines t.lines t.ok t.none t.charge t.limit ≡ bulk_text (answers_in h.handled.lines) end
    text_is =
        let many : t.lines ≡ length (answers_in h.handled.lines) = h.lines ∙ sym (ap length h.handled.events_are) ∙ length-map h.handled.lines (λ (l : DecidedLine). l.event) ∙ sym (length-map h.handled.lines (λ (l : DecidedLine). l.answer)) in
        λ i. four_lines (many i) (h.handled.ok_is i) (h.handled.none_is i) (h.charge i) (h.limit i)

    all_by : (written : Text) → Appended a.took b.took written → BulkEnds b status ending.Done (bulk_text (answers_in h.handled.lines) end) written → BulkRan a b events status
    all_by written wrote ends =
        ran_by h.handled.lines [] ending.Done end written (sym h.handled.events_are ∙ sym (append_nil (events_in h.handled.lines))) h.handled.decided refl
        (subst (λ (x : Stage). Follows (last_stage (begun_at a.beside) h.handled.lines) x) (sym h.handled.end_is) (follows_here (last_stage (begun_at a.beside) h.handled.lines)))
        (λ q. cc) (λ q. cc) leaves wrote ends

    ran_told : status ≡ 0 → Appended a.took b.took (four_lines t.lines t.ok t.none t.charge t.limit) → GaveAll b → BulkRan a b events status
    ran_told q w gave = all_by (four_lines t.lines t.ok t.none t.charge t.limit) w (inl (q, refl, text_is, gave))

    ran_torn : status ≡ 5 → TornText a.took b.took (four_lines t.lines t.ok t.none t.charge t.limit) → b.beside.gave ≡ b.beside.moves → BulkRan a b events status
    ran_torn q w gave = all_by w.front w.wrote (inr (inl (q, refl, record { back = w.back; whole = sym text_is ∙ w.whole }, gave)))

    all_unflushed : status ≡ 6 → b.took ≡ a.took → BulkRan a b events status
    all_unflushed q still = all_by [] (subst (λ (x : Option Text). Appended a.took x []) (sym still) (appended_none a.took)) (inr (inr (inl q, refl)))

  -- some were not
  ran_stopped : (e : Ending) (end : Stage) → Stopped (begun_at a.beside) events e end → StageLeaves end b.beside → (status ≡ 6) ⊎ (status ≡ status_of e) → b.took ≡ a.took → BulkRan a b events status
  ran_stopped e end h leaves q still =
      ran_by h.lines h.left e end [] h.events_are h.decided h.stops h.closes h.muted h.wants leaves (subst (λ (x : Option Text). Appended a.took x []) (sym still) (appended_none a.took))
      (inr (inr (either q, refl)))
    where
      not_done : (k : Ending) → BulkStops k h.left → 0 < length h.left → k ≢ ending.Done
      not_done k s some q = let none = ap length (subst (λ (x : Ending). BulkStops x h.left) q s) in omega (arith, none)

      either : (status ≡ 6) ⊎ (status ≡ status_of e) → (status ≡ 6) ⊎ ((status ≡ status_of e) × (e ≢ ending.Done))
      either (inl six) = inl six
      either (inr own) = inr (own, not_done e h.stops h.some)

  -- the moves were given on after the last event, or could not be
  module _ (x : Left) (m : MovesAfter x b.beside) where
    leaves_here : (end : Stage) → StageLeaves end x → StageLeaves end b.beside
    leaves_here end h = leaves_after end x b.beside m h

    pub ran_unflushed : (r : Result Tally Ending) → BatchRan (begun_at a.beside) events r x → status ≡ 6 → b.took ≡ a.took → BulkRan a b events status
    ran_unflushed (Ok t) h q still = all_unflushed t h.end h.finished (leaves_here h.end h.leaves) q still
    ran_unflushed (Err e) h q still = ran_stopped e h.end h.finished (leaves_here h.end h.leaves) (inl q) still

    pub ran_failed : (e : Ending) → BatchRan (begun_at a.beside) events (Err e) x → status ≡ status_of e → b.took ≡ a.took → BulkRan a b events status
    ran_failed e h q still = ran_stopped e h.end h.finished (leaves_here h.end h.leaves) (inr q) still

    module _ (t : Tally) (h : BatchRan (begun_at a.beside) events (Ok t) x) (gave : b.beside.gave ≡ b.beside.moves) where
      pub all_told : status ≡ 0 → Appended a.took b.took (four_lines t.lines t.ok t.none t.charge t.limit) → b.gave ≡ b.took → BulkRan a b events status
      all_told q w answers = ran_told t h.end h.finished (leaves_here h.end h.leaves) q w (record { answers = answers; moves = gave })

      pub all_torn : status ≡ 5 → TornText a.took b.took (four_lines t.lines t.ok t.none t.charge t.limit) → BulkRan a b events status
      all_torn q w = ran_torn t h.end h.finished (leaves_here h.end h.leaves) q w gave

-- ---- the counts of faults

-- the sink of moves failed at last, whatever came before
rose_then_moves : (e : Ending) (opening : Type 0) (c m : FaultCounts) (k : ℕ) → IsBlamed e opening c m → Rose m.moves k → Rose c.moves k
rose_then_moves ending.NoMemory opening c m k b r = rose_later c.moves m.moves k b.0 r
rose_then_moves ending.ReadFault opening c m k b r = subst (λ (x : ℕ). Rose x k) (ap (λ (x : FaultCounts). x.moves) b.1) r
rose_then_moves ending.OutFault opening c m k b r = subst (λ (x : ℕ). Rose x k) (ap (λ (x : FaultCounts). x.moves) b.1) r
rose_then_moves ending.MovesFault opening c m k b r = omega (arith, b.0, r)
rose_then_moves ending.SetupFault opening c m k b r = subst (λ (x : FaultCounts). Rose x.moves k) b.1 r
rose_then_moves e opening c m k b r = subst (λ (x : FaultCounts). Rose x.moves k) b r

module _ {A : Type 0} (r : Result A Ending) (opening : Type 0) (c m : FaultCounts) (h : MatchResult r (λ _. m ≡ c) (λ e. IsBlamed e opening c m)) where
  moves_rose : (q : Result A Ending) → MatchResult q (λ _. m ≡ c) (λ e. IsBlamed e opening c m) → (k : ℕ) → Rose m.moves k → Rose c.moves k
  moves_rose (Ok x) h k rose = subst (λ (x : FaultCounts). Rose x.moves k) h rose
  moves_rose (Err e) h k rose = rose_then_moves e opening c m k h rose

  pub accounted_unflushed : (d : FaultCounts) (status : ℕ) → status ≡ 6 → Rose m.moves d.moves → d ≡ record c { moves = d.moves } → IsAccounted status opening c d
  accounted_unflushed d status q rose alone = accounted_moves opening c d status q (moves_rose r h d.moves rose) alone
