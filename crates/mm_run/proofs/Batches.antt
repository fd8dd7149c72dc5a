-- Events decided one after another.
use Rattle.std.proofs.Common.{◌≡◌, ◌⊎◌, ℕ, ◌+◌, take, drop, get_or, length-drop, ◌<◌, Bool, true, cond, List, [], ◌∷◌, ◌++◌, length, refl, sym, ap, ◌∙◌, subst, inl, inr, arith}
use Rattle.std.specs.Prelude.{count_by, Result, Ok, Err, MatchResult}
use Rattle.std.proofs.lemmas.List.{map-append, take_more, drop_more, take-append-drop}
use Rattle.std.proofs.lemmas.List.Sums.{sum_by_push, sum_by-cons}
use Rattle.mm_types.specs.{MachineOf, limit_of, Answer, Event, Move}
use Rattle.mm_types.specs.declared.answers.Answer.TheVariants as answer
use Rattle.mm_types.specs.declared.events.Event.TheVariants as line
use Rattle.mm_line_moves.specs.{first_move}
use Rattle.mm_run.specs.{Ending, Outset, Stage, NotBegun, Running, Follows, HasNoted, log_of, MachineIsMade, Moved, DecidedLine, last_stage}
use Rattle.mm_run.specs.{answers_in, BreaksOff, AreDecided, IsEventNext, ClosesEvents, HeadIsMuted, HeadWantsMemory, MutesEvent, BulkStops, events_in, begins_ok, is_no_answer, FaultCounts}
use Rattle.mm_run.specs.{BreaksLine, IsBlamed, IsUnanswered, Handled, Stopped}
use Rattle.mm_run.specs.declared.endings.Ending.TheVariants as ending
use Rattle.mm_dispatch.specs.{Scene}
use Rattle.mm_run.proofs.Stories.{follows_here, last-append}
use Rattle.mm_run.proofs.Firsts.{first_answered}
use Rattle.mm_run.proofs.Ends.{blamed_beside}

pub decided_then : (old : Stage) (xs ys : List DecidedLine) → AreDecided old xs → AreDecided (last_stage old xs) ys → AreDecided old (xs ++ ys)
decided_then old [] ys u v = v
decided_then old (x ∷ xs) ys u v = (u.0, u.1, decided_then x.after xs ys u.2 v)

-- an event has no text
abbrev pub decided_event : Event → Answer → List Move → Stage → Stage → DecidedLine
decided_event e a moves before after = record { text = []; event = e; answer = a; moves = moves; before = before; after = after }

pub handled_none : (s : Stage) → Handled s [] 0 0 s
handled_none s = record { lines = []; events_are = refl; decided = tt; ok_is = refl; none_is = refl; end_is = refl }

counted_more : (p : Answer → Bool) (xs : List DecidedLine) (l : DecidedLine) (k : ℕ) → k ≡ count_by p (answers_in xs) → k + cond (p l.answer) 1 0 ≡ count_by p (answers_in (xs ++ l ∷ []))
counted_more p xs l k e =
    ap (λ n. n + cond (p l.answer) 1 0) e ∙ sym (sum_by_push (λ x. cond (p x) 1 0) (answers_in xs) l.answer) ∙ ap (count_by p) (sym (map-append (λ (x : DecidedLine). x.answer) xs (l ∷ [])))

-- one event more
pub handled_more : (s z end : Stage) (es : List Event) (ok none : ℕ) (e : Event) (a : Answer) → Handled s es ok none z → Moved z e a end → HasNoted end → Handled s (es ++ e ∷ []) (ok + cond (begins_ok a) 1 0) (none + cond (is_no_answer a) 1 0) end
handled_more s z end es ok none e a h m noted =
    let l = decided_event e a m.moves z end in
    record {
      lines = h.lines ++ l ∷ [];
      events_are = map-append (λ (x : DecidedLine). x.event) h.lines (l ∷ []) ∙ ap (λ xs. xs ++ e ∷ []) h.events_are;
      decided = decided_then s h.lines (l ∷ []) h.decided
          (record { follows = subst (λ (x : Stage). Follows x z) h.end_is (follows_here z); decided = m.decided }, noted, tt);
      ok_is = counted_more begins_ok h.lines l ok h.ok_is;
      none_is = counted_more is_no_answer h.lines l none h.none_is;
      end_is = sym (last-append s h.lines (l ∷ []));
    }

some_left : (e : Ending) (left : List Event) → (e ≡ ending.NoMemory) ⊎ ((e ≡ ending.MovesFault) ⊎ (e ≡ ending.SetupFault)) → 0 < length left → BulkStops e left
some_left e left (inl q) some = subst (λ (k : Ending). BulkStops k left) (sym q) some
some_left e left (inr (inl q)) some = subst (λ (k : Ending). BulkStops k left) (sym q) some
some_left e left (inr (inr q)) some = subst (λ (k : Ending). BulkStops k left) (sym q) some

-- the next event is not decided, or not noted
module _ (s z : Stage) (es left : List Event) (ok none : ℕ) (h : Handled s es ok none z) (some : 0 < length left) where
  stopped_by : (e : Ending) (end : Stage) → (e ≡ ending.NoMemory) ⊎ ((e ≡ ending.MovesFault) ⊎ (e ≡ ending.SetupFault)) → ClosesEvents e z end → (e ≡ ending.MovesFault → HeadIsMuted left z end) → (e ≡ ending.NoMemory → HeadWantsMemory left z end) → Stopped s (es ++ left) e end
  stopped_by e end which closes muted wants = record {
    lines = h.lines;
    left = left;
    events_are = ap (λ xs. xs ++ left) (sym h.events_are);
    decided = h.decided;
    stops = some_left e left which some;
    some = some;
    closes = subst (λ (x : Stage). ClosesEvents e x end) h.end_is closes;
    muted = λ q. subst (λ (x : Stage). HeadIsMuted left x end) h.end_is (muted q);
    wants = λ q. subst (λ (x : Stage). HeadWantsMemory left x end) h.end_is (wants q);
  }

  pub stopped_memory : (end : Stage) → Follows z end ⊎ ((e : Event) × BreaksOff e z end) → HeadWantsMemory left z end → Stopped s (es ++ left) ending.NoMemory end
  stopped_memory end closes wants = stopped_by ending.NoMemory end (inl refl) closes (λ q. cc) (λ q. wants)

  pub stopped_moves : (end : Stage) (e : Event) (a : Answer) (rest : List Event) → left ≡ e ∷ rest → Moved z e a end → (log_of end).failed ≡ true → Stopped s (es ++ left) ending.MovesFault end
  stopped_moves end e a rest head m failed =
      let mutes : MutesEvent z end = record { line = decided_event e a m.moves z end; next = record { follows = follows_here z; decided = m.decided }; failed = failed; after = refl } in
      stopped_by ending.MovesFault end (inr (inl refl)) (inr mutes) (λ q. inr (mutes, (rest, head))) (λ q. cc)

-- nothing was decided
pub stopped_here : (o : Outset) (es : List Event) (e : Ending) → (e ≡ ending.NoMemory) ⊎ (e ≡ ending.SetupFault) → 0 < length es → Stopped (NotBegun o) es e (NotBegun o)
stopped_here o es e (inl q) some =
    let s : Stage = NotBegun o in
    subst (λ (k : Ending). Stopped s es k s) (sym q)
    (stopped_by s s [] es 0 0 (handled_none s) some ending.NoMemory s (inl refl) (inl (follows_here s)) (λ p. cc) (λ p. follows_here s))
stopped_here o es e (inr q) some =
    let s : Stage = NotBegun o in
    subst (λ (k : Ending). Stopped s es k s) (sym q)
    (stopped_by s s [] es 0 0 (handled_none s) some ending.SetupFault s (inr (inr refl)) (follows_here s) (λ p. cc) (λ p. cc))

-- how an event that was not noted stops the rest
pub stopped_next : (s : Stage) (z y : Scene) (es left : List Event) (ok none : ℕ) (event : Event) (e : Ending) (rest : List Event) → left ≡ event ∷ rest → Handled s es ok none (Running z) → 0 < length left
    → IsUnanswered z event e y → Stopped s (es ++ left) e (Running y)
stopped_next s z y es left ok none event e rest head h some (inl b) =
    subst (λ (k : Ending). Stopped s (es ++ left) k (Running y)) (sym b.0)
    (stopped_memory s (Running z) es left ok none h some (Running y) (inr (event, off b.1.breaks))
    (record { event = event; rest = rest; head = head; takes = b.1.takes; breaks = off b.1.breaks }))
  where
    off : BreaksLine z event y → BreaksOff event (Running z) (Running y)
    off breaks = record { before = Running z; follows = follows_here (Running z); breaks = breaks }
stopped_next s z y es left ok none event e rest head h some (inr m) =
    subst (λ (k : Ending). Stopped s (es ++ left) k (Running y)) (sym m.0)
    (stopped_moves s (Running z) es left ok none h some (Running y) event m.1.0 rest head m.1.1 m.2)

-- ---- the first event

module _ (m : MachineOf) (o : Outset) (s : Scene) (made : MachineIsMade m o s) where
  abbrev first_line : DecidedLine
  first_line = decided_event (line.Machine m) (answer.Limit (limit_of m)) (first_move m ∷ []) (NotBegun o) (Running s)

  first_next : IsEventNext (NotBegun o) first_line
  first_next = record { follows = follows_here (NotBegun o); decided = first_answered m o s made (limit_of m) refl }

  counted_first : (p : Answer → Bool) (ls : List DecidedLine) → count_by p (answers_in (first_line ∷ ls)) ≡ cond (p (answer.Limit (limit_of m))) 1 0 + count_by p (answers_in ls)
  counted_first p ls = sum_by-cons (λ x. cond (p x) 1 0) (answer.Limit (limit_of m)) (answers_in ls)

  module _ (noted : HasNoted (Running s)) (es : List Event) (end : Stage) where
    pub first_handled : (ok none : ℕ) → Handled (Running s) es ok none end → Handled (NotBegun o) (line.Machine m ∷ es) (ok + 1) none end
    first_handled ok none h =
        let a = h.ok_is in let b = h.none_is in
        record {
          lines = first_line ∷ h.lines;
          events_are = ap (λ xs. line.Machine m ∷ xs) h.events_are;
          decided = (first_next, noted, h.decided);
          ok_is = omega (arith, counted_first begins_ok h.lines);
          none_is = omega (arith, counted_first is_no_answer h.lines);
          end_is = h.end_is;
        }

    pub first_stopped : (e : Ending) → Stopped (Running s) es e end → Stopped (NotBegun o) (line.Machine m ∷ es) e end
    first_stopped e h = record {
      lines = first_line ∷ h.lines;
      left = h.left;
      events_are = ap (λ xs. line.Machine m ∷ xs) h.events_are;
      decided = (first_next, noted, h.decided);
      stops = h.stops;
      some = h.some;
      closes = h.closes;
      muted = h.muted;
      wants = h.wants;
    }

  pub first_muted : (es : List Event) → s.behind.log.failed ≡ true → Stopped (NotBegun o) (line.Machine m ∷ es) ending.MovesFault (Running s)
  first_muted es failed =
      let mutes : MutesEvent (NotBegun o) (Running s) = record { line = first_line; next = first_next; failed = failed; after = refl } in
      record {
        lines = [];
        left = line.Machine m ∷ es;
        events_are = refl;
        decided = tt;
        stops = omega arith;
        some = omega arith;
        closes = inr mutes;
        muted = λ q. inr (mutes, (es, refl));
        wants = λ q. cc;
      }

-- ---- the events of a list, from the first on

-- so many events of a list were decided, and the next
pub handled_on : (s z end : Stage) (events : List Event) (i ok none x y : ℕ) (e : Event) (a : Answer) → i < length events → e ≡ get_or events i e → Handled s (take i events) ok none z → Moved z e a end → HasNoted end
    → x ≡ cond (begins_ok a) 1 0 → y ≡ cond (is_no_answer a) 1 0 → Handled s (take (i + 1) events) (ok + x) (none + y) end
handled_on s z end events i ok none x y e a within at h m noted p q =
    let more : take i events ++ e ∷ [] ≡ take (i + 1) events = ap (λ d. take i events ++ d ∷ []) at ∙ sym (take_more events i e within) in
    subst (λ (es : List Event). Handled s es (ok + x) (none + y) end) more
    (subst (λ (k : ℕ). Handled s (take i events ++ e ∷ []) (ok + k) (none + y) end) (sym p)
    (subst (λ (k : ℕ). Handled s (take i events ++ e ∷ []) (ok + cond (begins_ok a) 1 0) (none + k) end) (sym q)
    (handled_more s z end (take i events) ok none e a h m noted)))

-- so many events of a list were decided, and the next was not
pub stopped_on : (s : Stage) (z y : Scene) (events : List Event) (i ok none : ℕ) (event : Event) (e : Ending) → i < length events → event ≡ get_or events i event → Handled s (take i events) ok none (Running z)
    → IsUnanswered z event e y → Stopped s events e (Running y)
stopped_on s z y events i ok none event e within at h why =
    let head : drop i events ≡ event ∷ drop (i + 1) events = drop_more events i event within ∙ ap (λ (d : Event). d ∷ drop (i + 1) events) (sym at) in
    subst (λ (es : List Event). Stopped s es e (Running y)) (take-append-drop i events)
    (stopped_next s z y (take i events) (drop i events) ok none event e (drop (i + 1) events) head h (omega (arith, length-drop i events)) why)

-- with devices that were opened beside
pub blamed_opened : {A : Type 0} (r : Result A Ending) (opening : Type 0) (c d : FaultCounts) → MatchResult r (λ _. d ≡ c) (λ e. IsBlamed e ⊥ c d) → MatchResult r (λ _. d ≡ c) (λ e. IsBlamed e opening c d)
blamed_opened (Ok x) opening c d h = h
blamed_opened (Err e) opening c d h = blamed_beside e opening c d h
