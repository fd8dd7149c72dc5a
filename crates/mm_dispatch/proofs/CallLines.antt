-- Lines that are a call: decided and noted, from what began them and what the call came to, and what is noted of other lines, form by form.
use Rattle.std.proofs.Common.{◌≡◌, ℕ, List, [], Bool, true, false, Option, None, refl, sym, ◌∙◌, subst, ◌∷◌, ◌++◌, Some, ap, cond, inl, inr, arith, is_some, length, nat_lt, ◌&&◌, nat_le}
use Rattle.std.specs.Prelude.{Result, Ok, Err, IfOk, IsOk, OnErr}
use Rattle.mm_types.specs.{Answer, Event, NoMemory, LineKind, Move, Key, Pid, Place, end_of_user_pages}
use Rattle.mm_world.specs.{Page, Tables, AcrossBytes, blank, OutcomeOf, done as outcome, told, unpaged, KeptOf, process_of, new_process, no_regions}
use Rattle.mm_world.specs.{most_processes, kept_by, threads, world_with}
use Rattle.mm_world.specs.World.{World}
use Rattle.mm_world.specs.Report.{Report}
use Rattle.mm_world.proofs.{Holds, numbered_inside}
use Rattle.mm_types.proofs.{on_err, and_false}
use Rattle.mm_devices.specs.{DeviceOf}
use Rattle.mm_store.specs.Behind.{Behind}
use Rattle.mm_store.specs.{Turn, AllTurn, Turned, Turns, StoreOf, Ghosts as PageStoreGhosts, leaving, page_rank, Makes, OneMove, Trims, AgesAll, Flushes}
use Rattle.mm_store.specs.{PassesIn, Notes, NotesIn, Goes}
use Rattle.mm_line_moves.specs.{kind_of_line, Does, HoldsBeside, asks_beside, with_line, lives, if_lives, made_process, kind_of_growth, GivesUp, Trimming}
use Rattle.mm_line_moves.specs.{keeps_for}
use Rattle.mm_object_tables.specs.{Called, FitsTables, Settled, key_bytes, MakesPages, StaysIdle, is_uncommitted as is_free}
use Rattle.mm_calls.specs.{AnswersCall, LacksMemory, LosesPages, GrowsBy, keys_of_flush as keys_flushed}
use Rattle.mm_dispatch.specs.{takes_memory, IsNext, MakesLine, StartsCall, StartsLine, TakesLine, LineWent, TellsLine, DecidedOver, HaltedOver, FitsOver}
use Rattle.mm_dispatch.specs.{MarkedOver, PassesOver, world_over, AskedBeside, EndsWaits, FlushServed, Named, is_of_process, waited, StartsRelease}
use Rattle.mm_dispatch.specs.{keeps_keys, takes_away, EachMove, IdlesIn, idle_left, Halted}
use Rattle.mm_dispatch.proofs.Lines.{bytes-kept, decided-call, if-ok, if-err, idle-beside, answered, made}
use Rattle.mm_dispatch.proofs.Making.{Makes as MakesFew}
use Rattle.mm_dispatch.proofs.Marking.{Plain, each-ok, marked_turn, marked_still, marked_alone, halted_makes, halted_alone, marked_ends, marked_trims}
use Rattle.mm_dispatch.proofs.Marking.{marked_flushes, halted_none}
use Rattle.mm_dispatch.proofs.Lines.{quiet-beside}
use Rattle.std.proofs.lemmas.Bool.{lt-ltb}
use Rattle.mm_move_rules.specs.{Log, Waiting, Idle, waits_through, ages_through, all_aged}
use Rattle.mm_store.specs.Flushing.{Flushing}
use Rattle.mm_store.specs.Leaving.{Leaving}
use Rattle.mm_dispatch.proofs.Alike.{lives-with, kind-with, leaving-with, gives-with, flushed-with}
use Rattle.mm_dispatch.proofs.Begun.{noted, begun_with, went_then, noted_from, noted_then, went_alone}
use Rattle.mm_dispatch.proofs.Marking.{makes_keep, ends_take}
use Rattle.mm_types.specs.declared.moves.LineKind.TheVariants as kind
use Rattle.mm_types.specs.declared.moves.Move.TheVariants as move
use Rattle.mm_types.specs.declared.answers.Answer.TheVariants as answer
use Rattle.mm_types.specs.declared.events.Event.TheVariants as event

-- of a store that pages: its moves, behind an `at` of this kind
abbrev pub WentAs : {G : Type 0} → LineKind → PageStoreGhosts G → Event → ℕ → Tables → G → Answer → Tables → G → Type 0
WentAs k p e n t g a after h =
    LineWent false (move.At n k) (λ ms. TellsLine n k e (world_over p t g) a (world_over p after h) (p.store h).report (p.behind g) ms (p.behind h)) (p.store g) (p.store h) (p.behind g) (p.behind h)

-- of such a line neither store nor devices tell anything beside its moves
pub record IsCall (k : LineKind) (old_world : World) (e : Event) : Type 0 where
  pub none : (before later : Report) → told old_world e before later ≡ None
  pub named : (u : Bool) (a : Answer) (paging paging' files files' : DeviceOf) → Named u e a paging paging' files files'
  pub flushed : (v : World) (blocks : List Page) (a : Answer) → FlushServed v blocks e a
  pub plain : (a : Answer) (b : Behind) → Plain e old_world a b
  pub kind_is : (a : Answer) → kind_of_line old_world e a ≡ k
  pub bare : asks_beside e ≡ false
  pub waits : (t : Tables) (a : Answer) (after : Report) → EndsWaits t e a after
  pub asked : (used : ℕ) (a : Answer) (paging paging' files files' : DeviceOf) (blocks blocks' : List Page) → AskedBeside used e a paging paging' files files' blocks blocks'
  pub held : (a : Answer) (slots slots' blocks blocks' : List Page) → HoldsBeside old_world e a slots slots' blocks blocks'

module _ {G : Type 0} (p : PageStoreGhosts G) {n : ℕ} {t : Tables} {g m : G} {e f : Event} (said : f ≡ e) {k first : LineKind} (is : IsCall k (world_over p t g) e) (next : IsNext p n t g) (starts : StartsLine p n first g m) where
  abbrev old_world : World
  old_world = world_over p t g

  -- it was was_noted, if its moves are so
  pub was_noted : (a : Answer) (after : Tables) (h : G) → (p.unpaged ≡ false → WentAs k p e n t g a after h) → MarkedOver p e n t g a after h
  was_noted a after h went paging =
      subst (λ (x : Bool). LineWent x (move.At n (kind_of_line old_world e a)) (λ ms. TellsLine n (kind_of_line old_world e a) e old_world a (world_over p after h) (p.store h).report (p.behind g) ms (p.behind h)) (p.store g) (p.store h) (p.behind g) (p.behind h)) (sym is.bare)
      (subst (λ (k : LineKind). WentAs k p e n t g a after h) (sym (is.kind_is a)) (went paging))

  module _ {q : OutcomeOf (Unit {0})} (across : AcrossBytes t (key_bytes (p.contents g)) q (unpaged old_world e)) (makes : Holds (MakesFew t) q) where
    decided : {a : Answer} {after : Tables} {h : G} → AnswersCall p q t m a after h → DecidedOver p e n t g a after h
    decided {a = a} {after} {h} d =
        decided-call p.unpaged e n t (p.contents g) (p.store g) (p.store m) a after (p.contents h) (p.store h) q next.keeps next.line_is starts.begins (quiet-beside _ _ d.beside) across makes
        (is.none _ _) (is.named _ a _ _ _ _) (is.flushed (world_over p after h) _ a) (subst (λ (old : Key → Option Page). Called q t old a after (p.contents h)) starts.contents d.called) d.fits

    -- it cannot run out of memory
    pub answers-call : {a : Answer} {after : Tables} {h : G} → AnswersCall p q t m a after h → (p.unpaged ≡ false → WentAs k p e n t g a after h) → p.loans h ≡ p.loans m → TakesLine p f n t g (λ a. a) (Ok a) after h
    answers-call {a = a} {after} {h} d went loans =
        answered p said (record { decided = decided d; marked = was_noted a after h went }) (is.waits t a _) (λ paged. (is.asked _ a _ _ _ _ _ _, is.held a _ _ _ _)) (loans ∙ starts.loans)

    -- it may have run out of memory
    takes-call : {after : Tables} {h : G} (r : Result Answer NoMemory) → IfOk r (λ a. AnswersCall p q t m a after h) → OnErr r (LacksMemory p t m after h) → IfOk r (λ a. p.unpaged ≡ false → WentAs k p e n t g a after h) → OnErr r (HaltedOver p e n t g h)
        → (takes_memory blank t e ≡ false → IsOk r) → p.loans h ≡ p.loans m → TakesLine p f n t g (λ a. a) r after h
    takes-call {after} {h} r done broke went halted enough loans =
        made p said (by_result r done broke went halted enough) (λ a. is.waits t a _) (λ a paged. (is.asked _ a _ _ _ _ _ _, is.held a _ _ _ _))
      where
        by_result : (r : Result Answer NoMemory) → IfOk r (λ a. AnswersCall p q t m a after h) → OnErr r (LacksMemory p t m after h) → IfOk r (λ a. p.unpaged ≡ false → WentAs k p e n t g a after h) → OnErr r (HaltedOver p e n t g h) → (takes_memory blank t e ≡ false → IsOk r) → MakesLine p e n t g r after h
        by_result (Ok a) done broke went halted enough =
            record { done = record { decided = decided done; marked = was_noted a after h went }; broke = tt; no_memory = enough; loans = loans ∙ starts.loans }
        by_result (Err x) done broke went halted enough = record {
          done = tt;
          broke = record { idle = idle-beside starts.begins starts.contents broke.settled.rest broke.tables broke.contents; halted = halted };
          no_memory = enough;
          loans = loans ∙ starts.loans;
        }

-- ---- a line that begins as a call

module _ {G : Type 0} (p : PageStoreGhosts G) {n : ℕ} {t : Tables} {g m : G} {e f : Event} (said : f ≡ e) (is : IsCall kind.Call (world_over p t g) e) (next : IsNext p n t g) (call : StartsCall p n t g m) {q : OutcomeOf (Unit {0})} (across : AcrossBytes t (key_bytes (p.contents g)) q (unpaged (world_over p t g) e)) (makes : Holds (MakesFew t) q) where
  abbrev at : Move
  at = move.At n kind.Call

  abbrev begun : Behind
  begun = with_line at (p.behind g)

  abbrev Done : Answer → Tables → G → List Move → Type 0
  Done a after h ms = Does (world_over p t g) e a (world_over p after h) (p.store h).report begun ms (p.behind h)

  starts : StartsLine p n kind.Call g m
  starts = call.starts

  alone : (a : Answer) (after : Tables) → Done a after m [] → p.unpaged ≡ false → WentAs kind.Call p e n t g a after m
  alone a after does = marked_alone n kind.Call e (world_over p t g) a (world_over p after m) p.unpaged (p.store g) (p.store m) (p.behind g) (p.behind m) (is.plain a (p.behind g)) does starts.passes

  -- it calls the store for nothing
  pub looks-call : {a : Answer} {after : Tables} → Done a after m [] → AnswersCall p q t m a after m → TakesLine p f n t g (λ a. a) (Ok a) after m
  looks-call {a = a} {after} does d = answers-call p said is next starts across makes d (alone a after does) refl

  -- what was decided by the tables alone
  pub looked : {a : Answer} {after : Tables} → q ≡ outcome a after → FitsOver p after m → AnswersCall p q t m a after m
  looked {after = after} is fits = record { called = record { outcome = is; bytes = bytes-kept t after (p.contents m) call.keeps.fits.live fits.live }; fits = fits; beside = refl }

  pub takes-looking : {after : Tables} (r : Result Answer NoMemory) → IfOk r (λ a. q ≡ outcome a after) → OnErr r (after ≡ t) → (takes_memory blank t e ≡ false → IsOk r) → ((c : Key → Option Page) (s : StoreOf) → FitsTables t c s → Settled after c c s s) → ((a : Answer) → Done a after m []) → TakesLine p f n t g (λ a. a) r after m
  takes-looking {after = after} r ok err enough settled does =
      let s = settled _ _ call.keeps.fits in
      takes-call p said is next starts across makes r (if-ok r ok (λ a h. looked h s.fits)) (if-err r err (λ same. record { tables = same; contents = refl; settled = s })) (each-ok r (λ a. alone a after (does a)))
      (on_err r (halted_alone (world_over p t g) e n kind.Call answer.Ok (is.kind_is answer.Ok) p.unpaged (p.store g) (p.store m) (p.behind g) (p.behind m) starts.passes)) enough refl

  module _ {after : Tables} {h : G} (r : Result Answer NoMemory) (done : IfOk r (λ a. AnswersCall p q t m a after h)) (broke : OnErr r (LacksMemory p t m after h)) (enough : takes_memory blank t e ≡ false → IsOk r) where
    -- keys come to be, which one turn tells
    pub makes-turns : (turn : Answer → Turn) → ((a : Answer) (ms : List Move) → AllTurn (turn a) ms → AllTurn Makes ms) → ((a : Answer) (ms : List Move) → Turned (turn a) begun.life ms → Done a after h ms)
        → IfOk r (λ a. PassesOver p (Turns (turn a)) m h) → OnErr r (PassesOver p (Turns Makes) m h) → p.loans h ≡ p.loans m → TakesLine p f n t g (λ a. a) r after h
    makes-turns turn makes-all does passes idles loans =
        takes-call p said is next starts across makes r done broke
        (if-ok r passes (λ a q. marked_turn n kind.Call e (world_over p t g) a (world_over p after h) p.unpaged (p.store g) (p.store m) (p.store h) (p.behind g) (p.behind m) (p.behind h) (is.plain a (p.behind g)) (turn a) (makes-all a) (does a) starts.passes q))
        (if-err r idles (halted_makes (world_over p t g) e n kind.Call answer.Ok (is.kind_is answer.Ok) p.unpaged (p.store g) (p.store m) (p.store h) (p.behind g) (p.behind m) (p.behind h) starts.passes)) enough loans

    pub makes-keys : ((a : Answer) (ms : List Move) → Turned Makes begun.life ms → Done a after h ms) → MakesPages p r m h → TakesLine p f n t g (λ a. a) r after h
    makes-keys does pages = makes-turns (λ a. Makes) (λ a ms all. all) does (each-ok r (λ a. pages.passes)) (on_err r pages.passes) pages.loans

    -- no key comes or goes
    pub makes-none : ((a : Answer) (ms : List Move) → ms ≡ [] → Done a after h ms) → StaysIdle p m h → TakesLine p f n t g (λ a. a) r after h
    makes-none does idles =
        takes-call p said is next starts across makes r done broke
        (each-ok r (λ a. marked_still n kind.Call e (world_over p t g) a (world_over p after h) p.unpaged (p.store g) (p.store m) (p.store h) (p.behind g) (p.behind m) (p.behind h) (is.plain a (p.behind g)) (does a) starts.passes idles.passes))
        (on_err r (halted_makes (world_over p t g) e n kind.Call answer.Ok (is.kind_is answer.Ok) p.unpaged (p.store g) (p.store m) (p.store h) (p.behind g) (p.behind m) (p.behind h) starts.passes (idles.passes Makes))) enough idles.loans

-- of a line that asks devices for what is no move, nothing is told of devices
pub unasked : (x : Move) (That : List Move → Type 0) (s z s' z' : StoreOf) (b c : Behind) → LineWent false x That s z b c → LineWent true x That s' z' b c
unasked x That s z s' z' b c h = record { moves = h.moves; in_range = h.in_range; grew = h.grew; replays = h.replays; that = h.that; told = λ bad. cc; traffic = λ bad. cc }

-- ---- pages that are taken away

abbrev pub none : Place → Bool
none place = false

module _ (t : Tables) (old : Key → Option Page) (after : Tables) (new : Key → Option Page) (n : ℕ) (pid : Pid) (e : Event) (a : Answer) where
  abbrev w : World
  w = world_with t (key_bytes old)

  abbrev v : World
  v = world_with after (key_bytes new)

  abbrev now : LineKind
  now = cond (is_some (process_of t pid.0)) (kind.Unbind pid) kind.Call

  marked_release : (u : Bool) (s m z : StoreOf) (b y c : Behind) → Plain e w a b → ((k : LineKind) (ms : List Move) → GivesUp w pid v (with_line (move.At n k) b).life ms → Does w e a v z.report (with_line (move.At n k) b) ms c)
      → PassesIn u (OneMove (move.At n now)) s m b y → PassesIn u (Turns (Goes (leaving t pid.0 (is_free after)))) m z y c → u ≡ false
      → LineWent false (move.At n (if_lives w pid (kind.Unbind pid))) (λ ms. TellsLine n (if_lives w pid (kind.Unbind pid)) e w a v z.report b ms c) s z b c
  marked_release u s m z b y c plain does p q paging =
      subst (λ (k : LineKind). LineWent false (move.At n k) (λ ms. TellsLine n k e w a v z.report b ms c) s z b c) (kind-with t (key_bytes old) pid (kind.Unbind pid))
      (marked_ends n now e w a v u s m z b y c plain (leaving t pid.0 (is_free after)) 1 (page_rank end_of_user_pages)
      (λ ms log h. does now ms (subst (λ (held : Leaving). Turned (Goes held) (with_line (move.At n now) b).life ms) (gives-with t (key_bytes old) pid.0 after (key_bytes new)) h.turned)) p q paging)

  -- a handle is closed: of pages of the process none goes
  marked_close : (u : Bool) (s m z : StoreOf) (b y c : Behind) → Plain e w a b → ((ms : List Move) → Turned (Goes (leaving w pid.0 none)) (with_line (move.At n kind.Call) b).life ms → Does w e a v z.report (with_line (move.At n kind.Call) b) ms c)
      → PassesIn u (OneMove (move.At n kind.Call)) s m b y → PassesIn u (Turns (Goes (leaving t pid.0 none))) m z y c → u ≡ false
      → LineWent false (move.At n kind.Call) (λ ms. TellsLine n kind.Call e w a v z.report b ms c) s z b c
  marked_close u s m z b y c plain does p q paging =
      marked_ends n kind.Call e w a v u s m z b y c plain (leaving t pid.0 none) 1 (page_rank end_of_user_pages)
      (λ ms log h. does ms (subst (λ (held : Leaving). Turned (Goes held) (with_line (move.At n kind.Call) b).life ms) (leaving-with t (key_bytes old) pid.0 none) h.turned)) p q paging

-- ---- such lines over a store

module _ {G : Type 0} (p : PageStoreGhosts G) {n : ℕ} {t : Tables} (pid : Pid) {e f : Event} (said : f ≡ e) {g m : G} where
  pub releases-call : IsCall (if_lives (world_over p t g) pid (kind.Unbind pid)) (world_over p t g) e → IsNext p n t g → StartsRelease p n t pid g m → {q : OutcomeOf (Unit {0})} → AcrossBytes t (key_bytes (p.contents g)) q (unpaged (world_over p t g) e) → Holds (MakesFew t) q
      → {a : Answer} {after : Tables} {h : G}
      → ((k : LineKind) (ms : List Move) → GivesUp (world_over p t g) pid (world_over p after h) (with_line (move.At n k) (p.behind g)).life ms → Does (world_over p t g) e a (world_over p after h) (p.store h).report (with_line (move.At n k) (p.behind g)) ms (p.behind h))
      → AnswersCall p q t m a after h → LosesPages p pid t after m h → TakesLine p f n t g (λ a. a) (Ok a) after h
  releases-call is next release across makes {a} {after} {h} does d loses =
      answers-call p said is next release.starts across makes d
      (marked_release t (p.contents g) after (p.contents h) n pid e a p.unpaged (p.store g) (p.store m) (p.store h) (p.behind g) (p.behind m) (p.behind h) (is.plain a (p.behind g)) does release.starts.passes loses.passes) loses.loans

  pub closes-call : IsCall kind.Call (world_over p t g) e → IsNext p n t g → StartsCall p n t g m → {q : OutcomeOf (Unit {0})} → AcrossBytes t (key_bytes (p.contents g)) q (unpaged (world_over p t g) e) → Holds (MakesFew t) q
      → {a : Answer} {after : Tables} {h : G}
      → ((ms : List Move) → Turned (Goes (leaving (world_over p t g) pid.0 none)) (with_line (move.At n kind.Call) (p.behind g)).life ms → Does (world_over p t g) e a (world_over p after h) (p.store h).report (with_line (move.At n kind.Call) (p.behind g)) ms (p.behind h))
      → AnswersCall p q t m a after h → PassesOver p (Turns (Goes (leaving t pid.0 none))) m h → p.loans h ≡ p.loans m → TakesLine p f n t g (λ a. a) (Ok a) after h
  closes-call is next call across makes {a} {after} {h} does d passes loans =
      answers-call p said is next call.starts across makes d
      (marked_close t (p.contents g) after (p.contents h) n pid e a p.unpaged (p.store g) (p.store m) (p.store h) (p.behind g) (p.behind m) (p.behind h) (is.plain a (p.behind g)) does call.starts.passes passes) loans

-- ---- a process

-- a pid is that of the next process, of which there may be one more
pub record IsNextPid (t : Tables) (pid : Pid) : Type 0 where
  pub room : nat_le (length t.processes) most_processes ≡ true
  pub same : pid ≡ record { 0 = length t.processes }

pub next-pid : (t : Tables) (pid : Pid) (o : Option Pid) → o ≡ Some pid → o ≡ cond (nat_le (length t.processes) most_processes) (Some (record { 0 = length t.processes })) None → IsNextPid t pid
next-pid t pid o is told = by (nat_le (length t.processes) most_processes) refl (sym is ∙ told)
  where
    by : (b : Bool) → nat_le (length t.processes) most_processes ≡ b → Some pid ≡ cond b (Some (record { 0 = length t.processes })) None → IsNextPid t pid
    by true room e = record { room = room; same = cc }
    by false room e = cc

pub process_kind : (t : Tables) (old new : Key → Option Page) (pid : Pid) → IsNextPid t pid → (a : Answer) (after : Tables) (min max : ℕ)
    → Called (new_process t) t old a after new → kind.Process pid min max ≡ made_process a min max
process_kind t old new pid h a after min max called =
    let answers : a ≡ answer.NewProcess pid =
    sym (ap (λ (q : OutcomeOf (Unit {0})). q.answer) called.outcome)
    ∙ (λ i. (cond (h.room i) (outcome (answer.NewProcess (sym h.same i)) (record t { processes = t.processes ++ Some no_regions ∷ [] })) (outcome answer.Full t)).answer) in
    sym (ap (λ (a : Answer). made_process a min max) answers)

-- ---- a trim, an age

module _ (t : Tables) (old new : Key → Option Page) (n : ℕ) (pid : Pid) (u : Bool) (s m z : StoreOf) (b y c : Behind) where
  abbrev before : World
  before = world_with t (key_bytes old)

  abbrev later : World
  later = world_with t (key_bytes new)

  module _ (found : Bool) (is : found ≡ is_some (process_of t pid.0)) where
    lives_is : found ≡ lives before pid
    lives_is = is ∙ sym (lives-with t (key_bytes old) pid)

    abbrev Trimmed : ℕ → Answer → StoreOf → Behind → LineKind → Type 0
    Trimmed count a z c k = LineWent false (move.At n k) (λ ms. TellsLine n k (event.Trim pid count) before a later z.report b ms c) s z b c

    trim_kind : cond found (kind.Trim pid) kind.Call ≡ if_lives before pid (kind.Trim pid)
    trim_kind = ap (λ x. cond x (kind.Trim pid) kind.Call) lives_is

    pub marked_trim : (count : ℕ) (a : Answer) → found ≡ true → PassesIn u (OneMove (move.At n (cond found (kind.Trim pid) kind.Call))) s m b y → PassesIn u (Trims pid count) m z y c → u ≡ false → Trimmed count a z c (if_lives before pid (kind.Trim pid))
    marked_trim count a on p q paging =
        let k = cond found (kind.Trim pid) kind.Call in
        subst (Trimmed count a z c) trim_kind
        (marked_trims n k (event.Trim pid count) before a later u s m z b y c (record { ages = λ ms. refl; waits = λ ws l. refl }) pid count
        (λ ms log h. subst (λ (x : Bool). Trimming x pid count (with_line (move.At n k) b) ms c) (sym on ∙ lives_is) (record { each = h.each; count = h.count; moved = record { waits = h.moved.waits; ages = h.moved.ages }; slots = h.slots })) p q paging)

    pub marked_no_trim : (count : ℕ) (a : Answer) → found ≡ false → PassesIn u (OneMove (move.At n (cond found (kind.Trim pid) kind.Call))) s m b y → u ≡ false → Trimmed count a m y (if_lives before pid (kind.Trim pid))
    marked_no_trim count a off p paging =
        let k = cond found (kind.Trim pid) kind.Call in
        subst (Trimmed count a m y) trim_kind
        (marked_alone n k (event.Trim pid count) before a later u s m b y (record { ages = λ ms. refl; waits = λ ws l. refl })
        (subst (λ (x : Bool). Trimming x pid count (with_line (move.At n k) b) [] y) (sym off ∙ lives_is) refl) p paging)

    -- the ages of the pages of a living process
    abbrev Aged : Answer → StoreOf → Behind → Type 0
    Aged a z c = LineWent false (move.At n kind.Call) (λ ms. TellsLine n kind.Call (event.Age pid) before a later z.report b ms c) s z b c

    pub marked_age : (a : Answer) → found ≡ true → PassesIn u (OneMove (move.At n kind.Call)) s m b y → PassesIn u (AgesAll pid) m z y c → u ≡ false → Aged a z c
    marked_age a on p q paging =
        went_then n kind.Call (AgesAll pid) u s m z b y c (λ ms. TellsLine n kind.Call (event.Age pid) before a later z.report b ms c) paging
        (λ log ms h. record {
          one_way = inl (subst (λ (xs : List Move). EachMove keeps_keys xs) (sym h.none) tt);
          does = h.none;
          ages = ap (λ (x : Behind). x.ages) h.same ∙ (λ i. λ place. cond ((sym on ∙ lives_is) i) (all_aged pid b.life b.ages place) (b.ages place));
          waits = ap (λ (x : Behind). x.waits) h.same ∙ ap (λ xs. waits_through xs b.waits) (sym h.none);
        }) p q

    pub marked_no_age : (a : Answer) → found ≡ false → PassesIn u (OneMove (move.At n kind.Call)) s m b y → u ≡ false → Aged a m y
    marked_no_age a off p paging =
        went_alone n kind.Call u s m b y (λ ms. TellsLine n kind.Call (event.Age pid) before a later m.report b ms y) paging
        (λ log same. record {
          one_way = inl tt;
          does = refl;
          ages = ap (λ (x : Behind). x.ages) same ∙ (λ i. λ place. cond ((sym off ∙ lives_is) i) (all_aged pid b.life b.ages place) (b.ages place));
          waits = ap (λ (x : Behind). x.waits) same;
        }) p

-- ---- a flush

pub marked_flush : (t : Tables) (old new : Key → Option Page) (n : ℕ) (pid : Pid) (addr size : ℕ) (a : Answer) (u : Bool) (s m z : StoreOf) (b y c : Behind) → PassesIn u (OneMove (move.At n kind.Call)) s m b y → PassesIn u (Flushes (keys_flushed t pid.0 addr size)) m z y c → u ≡ false
    → LineWent false (move.At n kind.Call) (λ ms. TellsLine n kind.Call (event.Flush pid addr size) (world_with t (key_bytes old)) a (world_with t (key_bytes new)) z.report b ms c) s z b c
marked_flush t old new n pid addr size a u s m z b y c p q paging =
    marked_flushes n kind.Call (event.Flush pid addr size) (world_with t (key_bytes old)) a (world_with t (key_bytes new)) u s m z b y c (record { ages = λ ms. refl; waits = λ ws l. refl }) (keys_flushed t pid.0 addr size)
    (λ ms h. subst (λ (ks : List Key). Flushing (with_line (move.At n kind.Call) b).life ks ms) (flushed-with t (key_bytes old) pid.0 addr size) h) p q paging

-- ---- lines that ask devices for what is no move

-- a file
pub marked_file : (n : ℕ) (e : Event) (w : World) (a : Answer) (v : World) (u : Bool) (s m z : StoreOf) (b y c : Behind) → Plain e w a b → ((ms : List Move) → Turned Makes (with_line (move.At n kind.Call) b).life ms → Does w e a v z.report (with_line (move.At n kind.Call) b) ms c) → PassesIn u (OneMove (move.At n kind.Call)) s m b y → NotesIn u (Turns Makes) y c → u ≡ false
    → LineWent true (move.At n kind.Call) (λ ms. TellsLine n kind.Call e w a v z.report b ms c) s z b c
marked_file n e w a v u s m z b y c plain does p q paging =
    noted_then n kind.Call (Turns Makes) u s m z b y c (λ ms. TellsLine n kind.Call e w a v z.report b ms c) paging
    (λ log ms h. record {
      one_way = inl (makes_keep ms h.turned.all);
      does = does ms h.turned;
      ages = h.moved.ages ∙ sym (plain.ages ms);
      waits = h.moved.waits ∙ sym (plain.waits (waits_through ms b.waits) c.life);
    }) p q

-- the paging file grows, or the paging device failed
module _ (n count : ℕ) (w v : World) (s z : StoreOf) (b c : Behind) where
  abbrev Extends : Answer → LineKind → Type 0
  Extends a k = LineWent true (move.At n k) (λ ms. TellsLine n k (event.Grow count) w a v z.report b ms c) s z b c

  alone_as : (k : LineKind) (a : Answer) (P : Behind → List Move → Behind → Type 0) → ((ms : List Move) → P b ms c → ms ≡ move.At n k ∷ []) → ((ms : List Move) → P b ms c → c.ages ≡ ages_through ms b.ages) → ((ms : List Move) → P b ms c → c.waits ≡ waits_through ms b.waits) → Notes P b c → Extends a k
  alone_as k a P one ages waits p =
      let e = one p.moves p.that in
      noted_from n k (λ x ms d. ms ≡ []) s z b c (λ ms. TellsLine n k (event.Grow count) w a v z.report b ms c)
      (λ log ms h. record {
        one_way = inl (subst (λ (xs : List Move). EachMove keeps_keys xs) (sym h) tt);
        does = h;
        ages = ages p.moves p.that ∙ ap (λ t. ages_through t b.ages) e ∙ ap (λ t. ages_through t b.ages) (sym h);
        waits = waits p.moves p.that ∙ ap (λ t. waits_through t b.waits) e ∙ ap (λ t. waits_through t b.waits) (sym h);
      })
      (record { moves = p.moves; in_range = p.in_range; grew = p.grew; replays = p.replays; that = record { rest = []; is = e; log = c.log; that = refl } })

  grew_by : (E : Type 0) (a : Answer) → Notes (GrowsBy {E = E} n count (Ok a)) b c → Extends a (kind_of_growth a count)
  grew_by E (answer.Limit limit) p = alone_as (kind.Grow count) (answer.Limit limit) (GrowsBy {E = E} n count (Ok (answer.Limit limit))) (λ ms h. h.one) (λ ms h. h.moved.ages) (λ ms h. h.moved.waits) p
  grew_by E a p = alone_as kind.Call a (GrowsBy {E = E} n count (Ok a)) (λ ms h. h.one) (λ ms h. h.moved.ages) (λ ms h. h.moved.waits) p

  pub marked_grow : {E : Type 0} (u : Bool) (r : Result Answer E) → NotesIn u (GrowsBy n count r) b c → IfOk r (λ a. u ≡ false → Extends a (kind_of_growth a count))
  marked_grow {E} u (Ok a) p = λ paging. grew_by E a (noted u (GrowsBy {E = E} n count (Ok a)) b c paging p)
  marked_grow u (Err e) p = tt

  pub halted_grow : {E : Type 0} (u : Bool) (r : Result Answer E) → NotesIn u (GrowsBy n count r) b c → OnErr r (u ≡ false → Halted w (event.Grow count) n b c)
  halted_grow u (Ok a) p = tt
  halted_grow {E} u (Err e) p = λ paging. halted_none w (event.Grow count) n b c (noted u (GrowsBy {E = E} n count (Err e)) b c paging p)

-- calls are named to fail: nothing behind the store changes
pub marked_fail : (n : ℕ) (e : Event) (w : World) (a : Answer) (v : World) (u : Bool) (s m z : StoreOf) (b y c : Behind) → Plain e w a b → Does w e a v z.report (with_line (move.At n kind.Call) b) [] c → c ≡ y → PassesIn u (OneMove (move.At n kind.Call)) s m b y → u ≡ false
    → LineWent true (move.At n kind.Call) (λ ms. TellsLine n kind.Call e w a v z.report b ms c) s z b c
marked_fail n e w a v u s m z b y c plain does same p paging =
    unasked (move.At n kind.Call) (λ ms. TellsLine n kind.Call e w a v z.report b ms c) s m s z b c
    (went_alone n kind.Call u s m b c (λ ms. TellsLine n kind.Call e w a v z.report b ms c) paging
    (λ log is. record {
      one_way = inl tt;
      does = does;
      ages = ap (λ (x : Behind). x.ages) is ∙ sym (plain.ages []);
      waits = ap (λ (x : Behind). x.waits) is ∙ sym (plain.waits b.waits c.life);
    }) (subst (λ (x : Behind). PassesIn u (OneMove (move.At n kind.Call)) s m b x) (sym same) p))

-- ---- a process ends

away_waits : (ms : List Move) (ws : ℕ → Waiting) → EachMove takes_away ms → waits_through ms ws ≡ ws
away_waits [] ws a = refl
away_waits (move.Unmap p ∷ ms) ws a = away_waits ms ws a.1
away_waits (move.Drop k ∷ ms) ws a = away_waits ms ws a.1
away_waits (_ ∷ ms) ws a = let bad = a.0 in cc

same_holder : (pid : Pid) (o : Option KeptOf) → is_of_process pid.0 o ≡ keeps_for o pid
same_holder pid None = refl
same_holder pid (Some k) = refl

-- each thread that keeps an access has a number below 256
below : (pid : ℕ) (t : Tables) (tid : ℕ) → length t.kept ≡ threads → (nat_lt tid threads && is_of_process pid (kept_by t tid)) ≡ is_of_process pid (kept_by t tid)
below pid t tid count = by_kept (kept_by t tid) refl
  where
    by_kept : (o : Option KeptOf) → kept_by t tid ≡ o → (nat_lt tid threads && is_of_process pid o) ≡ is_of_process pid o
    by_kept None e = and_false (nat_lt tid threads)
    by_kept (Some k) e = ap (λ x. x && is_of_process pid (Some k)) (lt-ltb tid threads (omega (arith, numbered_inside t.kept tid k e, count)))

module _ (t : Tables) (old mid : Key → Option Page) (after : Tables) (new : Key → Option Page) (n : ℕ) (pid : Pid) (a : Answer) (count : length t.kept ≡ threads) (u : Bool) (s x m z : StoreOf) (b d y c : Behind) where
  abbrev e : Event
  e = event.Exit pid

  abbrev exits : World
  exits = world_with t (key_bytes old)

  abbrev exited : World
  exited = world_with after (key_bytes new)

  abbrev first : LineKind
  first = cond (is_some (process_of t pid.0)) (kind.Unbind pid) kind.Call

  abbrev Ended : Behind → List Move → Type 0
  Ended d ms = (log : Log) × Turns (Goes (leaving t pid.0 (is_free after))) (begun_with n first log d) ms c

  exit_tells : (ws : ℕ → Waiting) → ((tid : ℕ) → ws tid ≡ idle_left t pid.0 threads b.waits tid) → (ms : List Move) → Ended (record b { waits = ws }) ms → TellsLine n first e exits a exited z.report b ms c
  exit_tells ws idle ms (log, h) = record {
    one_way = inr (ends_take (leaving t pid.0 (is_free after)) 1 (page_rank end_of_user_pages) ms h.turned.all);
    does = subst (λ (held : Leaving). Turned (Goes held) (with_line (move.At n first) b).life ms) (gives-with t (key_bytes old) pid.0 after (key_bytes new)) h.turned;
    ages = h.moved.ages;
    waits =
        h.moved.waits ∙ away_waits ms ws (ends_take (leaving t pid.0 (is_free after)) 1 (page_rank end_of_user_pages) ms h.turned.all)
        ∙ (λ i. λ tid. (idle tid ∙ (λ j. cond ((below pid.0 t tid count ∙ same_holder pid (kept_by t tid)) j) Idle (b.waits tid)) ∙ (λ j. cond (keeps_for (kept_by t tid) pid) Idle (sym (away_waits ms b.waits (ends_take (leaving t pid.0 (is_free after)) 1 (page_rank end_of_user_pages) ms h.turned.all)) j tid))) i);
  }

  moved_back : (ws : ℕ → Waiting) → ((tid : ℕ) → ws tid ≡ idle_left t pid.0 threads b.waits tid) → LineWent false (move.At n first) (Ended (record b { waits = ws })) (waited s x) z (record b { waits = ws }) c → LineWent false (move.At n first) (λ ms. TellsLine n first e exits a exited z.report b ms c) s z b c
  moved_back ws idle h = record {
    moves = h.moves;
    in_range = h.in_range;
    grew = h.grew;
    replays = h.replays;
    that = exit_tells ws idle h.moves h.that;
    told = h.told;
    traffic = λ plain. let d = h.traffic plain in record {
      paging_calls = d.paging_calls;
      paging_served = d.paging_served;
      paging_are = d.paging_are;
      file_calls = d.file_calls;
      files_served = d.files_served;
      files_are = d.files_are;
      slots_kept = d.slots_kept;
      blocks_kept = d.blocks_kept;
    };
  }

  pub marked_exit : IdlesIn u t pid.0 threads b d → x ≡ waited s x → PassesIn u (OneMove (move.At n first)) x m d y → PassesIn u (Turns (Goes (leaving t pid.0 (is_free after)))) m z y c → u ≡ false
      → LineWent false (move.At n (if_lives exits pid (kind.Unbind pid))) (λ ms. TellsLine n (if_lives exits pid (kind.Unbind pid)) e exits a exited z.report b ms c) s z b c
  marked_exit idles rest p q paging =
      let h = idles paging in
      let went = went_then n first (Turns (Goes (leaving t pid.0 (is_free after)))) u x m z d y c (Ended d) paging (λ log ms k. (log, k)) p q in
      subst (λ (k : LineKind). LineWent false (move.At n k) (λ ms. TellsLine n k e exits a exited z.report b ms c) s z b c) (kind-with t (key_bytes old) pid (kind.Unbind pid))
      (moved_back d.waits h.waits
      (subst (λ (o : StoreOf). LineWent false (move.At n first) (Ended (record b { waits = d.waits })) o z (record b { waits = d.waits }) c) rest
      (subst (λ (o : Behind). LineWent false (move.At n first) (Ended o) x z o c) h.same went)))
