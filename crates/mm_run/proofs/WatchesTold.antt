-- What each `watch` of a run gave is what the lines before it tell.
use Rattle.std.proofs.Common.{◌≡◌, ℕ, zero, suc, Option, Some, None, List, [], ◌∷◌, ◌++◌, refl, sym, ap, ◌∙◌, subst}
use Rattle.std.specs.Prelude.{map, replicate, slice_index_or}
use Rattle.mm_types.specs.{Answer, Event, Move, MachineOf}
use Rattle.mm_types.specs.declared.events.Event.TheVariants as line
use Rattle.mm_world.specs.{Page, OutcomeOf, first_world, Spaces, flag_of, write_of}
use Rattle.mm_world.specs.World.{World}
use Rattle.mm_world.proofs.{spaces_keep, first_spaces}
use Rattle.mm_dispatch.specs.{Scene}
use Rattle.mm_run.specs.{Outset, Stage, NotBegun, Running, Follows, with_flush, log_of, MachineBegins, DecidesLine, StageStepped, AnsweredLine}
use Rattle.mm_run.specs.{WriteMarks, write_marks_after, write_marks_over, no_write_marks, GivesWritten, DecidedLine, IsNextLine, AreAnswered, last_stage}
use Rattle.mm_run.specs.{answered_lines}
use Rattle.mm_run.proofs.WrittenPages.{Agrees, writes_to}
use Rattle.mm_run.proofs.WatchLines.{step_agrees, watch_gives}

-- ---- what lines tell agrees with what the run shows

abbrev AgreesAt : (ℕ → ℕ → WriteMarks) → Stage → Type 0
AgreesAt m (NotBegun o) = (pid page : ℕ) → m pid page ≡ no_write_marks
AgreesAt m (Running s) = Agrees m s.world × Spaces s.world

agrees_with : (m : ℕ → ℕ → WriteMarks) (g : Option (List ℕ)) (k : ℕ) (s : Stage) → AgreesAt m s → AgreesAt m (with_flush g k s)
agrees_with m g k (NotBegun o) h = h
agrees_with m g k (Running s) h = h

agrees_follows : (m : ℕ → ℕ → WriteMarks) (a b : Stage) → Follows a b → AgreesAt m a → AgreesAt m b
agrees_follows m a b f h = subst (AgreesAt m) (sym f.same) (agrees_with m (log_of b).given (log_of b).faults a h)

abbrev next : (ℕ → ℕ → WriteMarks) → Event → Answer → ℕ → ℕ → WriteMarks
next m e a pid page = write_marks_after pid page (m pid page) (record { event = e; answer = a })

none_kept : (n i : ℕ) → slice_index_or (map write_of (replicate n None)) i None ≡ None
none_kept zero zero = refl
none_kept zero (suc i) = refl
none_kept (suc n) zero = refl
none_kept (suc n) (suc i) = none_kept n i

abbrev new_world : MachineOf → World
new_world machine = first_world machine

no_flag : (machine : MachineOf) (pid page : ℕ) → flag_of (new_world machine) pid page ≡ None
no_flag machine zero page = refl
no_flag machine (suc pid) page = refl

first_agrees : (m : ℕ → ℕ → WriteMarks) (machine : MachineOf) → ((pid page : ℕ) → m pid page ≡ no_write_marks) → Agrees m (new_world machine) × Spaces (new_world machine)
first_agrees m machine none = (
  record {
    keeps = λ pid page thread inside. ap (λ (x : WriteMarks). x.keeps thread) (none pid page) ∙ ap (writes_to pid page) (sym (none_kept 256 thread));
    written = λ pid page b flag. (let no_way : None ≡ Some b = sym (no_flag machine pid page) ∙ flag in cc);
  },
  first_spaces machine,
)

machine_tells : (m : ℕ → ℕ → WriteMarks) (machine : MachineOf) (a : Answer) → ((pid page : ℕ) → m pid page ≡ no_write_marks) → (pid page : ℕ) → next m (line.Machine machine) a pid page ≡ no_write_marks
machine_tells m machine a none pid page = none pid page

begins_agrees : (m : ℕ → ℕ → WriteMarks) (o : Outset) (e : Event) (a : Answer) (moves : List Move) (s : Scene) → MachineBegins o e a moves s → ((pid page : ℕ) → m pid page ≡ no_write_marks) → AgreesAt (next m e a) (Running s)
begins_agrees m o e a moves s b none =
    subst (λ (w : World). Agrees (next m e a) w × Spaces w) (sym b.first.world)
    (subst (λ (x : Event). Agrees (next m x a) (new_world b.machine) × Spaces (new_world b.machine)) (sym b.names)
    (first_agrees (next m (line.Machine b.machine) a) b.machine (machine_tells m b.machine a none)))

decides_agrees : (m : ℕ → ℕ → WriteMarks) (s z : Scene) (e : Event) (a : Answer) (moves : List Move) → DecidesLine s e a moves z → AgreesAt m (Running s) → AgreesAt (next m e a) (Running z)
decides_agrees m s z e a moves d h = (
  step_agrees m s.world z.world e a s.report z.report d.answered h.1 h.0,
  subst (λ (o : OutcomeOf Page). Spaces o.world) d.answered (spaces_keep s.world e s.report z.report h.1),
)

stepped_agrees : (m : ℕ → ℕ → WriteMarks) (old new : Stage) (e : Event) (a : Answer) (moves : List Move) → StageStepped old e a moves new → AgreesAt m old → AgreesAt (next m e a) new
stepped_agrees m (NotBegun o) (NotBegun p) e a moves d h = absurd d
stepped_agrees m (NotBegun o) (Running z) e a moves d h = begins_agrees m o e a moves z d h
stepped_agrees m (Running s) (NotBegun p) e a moves d h = absurd d
stepped_agrees m (Running s) (Running z) e a moves d h = decides_agrees m s z e a moves d.1 h

lines_agree : (m : ℕ → ℕ → WriteMarks) (n : ℕ) (old : Stage) (lines : List DecidedLine) → AreAnswered n old lines → AgreesAt m old → AgreesAt (λ pid page. write_marks_over pid page (m pid page) (answered_lines lines)) (last_stage old lines)
lines_agree m n old [] u h = h
lines_agree m n old (l ∷ ls) u h =
    lines_agree (next m l.event l.answer) (suc n) l.after ls u.2
    (stepped_agrees m l.before l.after l.event l.answer l.moves u.0.decided.step (agrees_follows m old l.before u.0.follows h))

-- ---- a `watch` among the lines

gives_at : (lines : List AnsweredLine) (old new : Stage) (e : Event) (a : Answer) (moves : List Move) → StageStepped old e a moves new → AgreesAt (λ pid page. write_marks_over pid page no_write_marks lines) old → GivesWritten lines e a
gives_at lines (NotBegun o) (NotBegun p) e a moves d h = absurd d
gives_at lines (NotBegun o) (Running z) e a moves d h = subst (λ (x : Event). GivesWritten lines x a) (sym d.names) tt
gives_at lines (Running s) (NotBegun p) e a moves d h = absurd d
gives_at lines (Running s) (Running z) e a moves d h = watch_gives lines s.world z.world e a s.report z.report d.1.answered h.1 h.0

-- the lines before one of them, and this one
record Among (n : ℕ) (old : Stage) (before : List DecidedLine) (l : DecidedLine) : Type 0 where
  pub answered : AreAnswered n old before
  pub number : ℕ
  pub next : IsNextLine number (last_stage old before) l

among : (n : ℕ) (old : Stage) (before after : List DecidedLine) (l : DecidedLine) → AreAnswered n old (before ++ l ∷ after) → Among n old before l
among n old [] after l u = record { answered = tt; number = n; next = u.0 }
among n old (x ∷ xs) after l u =
    let rest = among (suc n) x.after xs after l u.2 in
    record { answered = (u.0, u.1, rest.answered); number = rest.number; next = rest.next }

pub watches_told : (o : Outset) (lines : List DecidedLine) → AreAnswered 0 (NotBegun o) lines → (before after : List DecidedLine) (l : DecidedLine) → before ++ l ∷ after ≡ lines → GivesWritten (answered_lines before) l.event l.answer
watches_told o lines u before after l at =
    let h = among 0 (NotBegun o) before after l (subst (AreAnswered 0 (NotBegun o)) (sym at) u) in
    let told = lines_agree (λ pid page. no_write_marks) 0 (NotBegun o) before h.answered (λ pid page. refl) in
    gives_at (answered_lines before) l.before l.after l.event l.answer l.moves h.next.decided.step
    (agrees_follows (λ pid page. write_marks_over pid page no_write_marks (answered_lines before)) (last_stage (NotBegun o) before) l.before h.next.follows told)
