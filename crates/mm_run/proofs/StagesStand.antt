-- What the law of one log asks holds after each line of a run, so runs have it.
use Rattle.std.proofs.Common.{◌≡◌, ℕ, zero, suc, ◌<◌, ◌^◌, Option, Some, List, [], ◌∷◌, length, refl, sym, ap, ◌∙◌, subst}
use Rattle.std.specs.Prelude.{is_some}
use Rattle.mm_types.specs.{Answer, Event, Move, Key, MachineOf}
use Rattle.mm_move_rules.specs.{is_live, unstarted}
use Rattle.mm_move_laws.specs.Sound.{Sound}
use Rattle.mm_move_laws.proofs.{kept_along, sound_unstarted, paging_lives}
use Rattle.mm_world.specs.{Page, OutcomeOf, ProcessOf, content_of, process_of, first_world, Spaces}
use Rattle.mm_world.specs.World.{World}
use Rattle.mm_world.proofs.{spaces_keep, first_spaces}
use Rattle.mm_dispatch.specs.{Scene}
use Rattle.mm_run.specs.{Outset, Stage, NotBegun, Running, Follows, with_flush, log_of, MachineBegins, DecidesLine, StageNotes, IsDecided}
use Rattle.mm_run.specs.{DecidedLine, AreAnswered, StageStands, last_stage}

-- ---- what each line keeps

pub record Stands (s : Scene) : Type 0 where
  pub sound : Sound s.behind.life
  pub spaces : Spaces s.world
  pub handles : (pid : ℕ) (p : ProcessOf Page) → process_of s.world pid ≡ Some p → length p.handles < 2 ^ 32
  pub keys : (k : Key) → is_live s.behind.life k ≡ is_some (content_of s.world k)

abbrev pub KeepsStage : Stage → Type 0
KeepsStage (NotBegun o) = Unit {0}
KeepsStage (Running s) = Stands s

keeps_with : (g : Option (List ℕ)) (k : ℕ) (s : Stage) → KeepsStage s → KeepsStage (with_flush g k s)
keeps_with g k (NotBegun o) h = tt
keeps_with g k (Running s) h = record { sound = h.sound; spaces = h.spaces; handles = h.handles; keys = h.keys }

pub keeps_follows : (a b : Stage) → Follows a b → KeepsStage a → KeepsStage b
keeps_follows a b f h = subst KeepsStage (sym f.same) (keeps_with (log_of b).given (log_of b).faults a h)

first_handles : (m : MachineOf) (pid : ℕ) (p : ProcessOf Page) → process_of (first_world m) pid ≡ Some p → length p.handles < 2 ^ 32
first_handles m zero p e = cc
first_handles m (suc pid) p e = cc

begins_standing : (o : Outset) (e : Event) (a : Answer) (moves : List Move) (s : Scene) → MachineBegins o e a moves s → StageNotes (NotBegun o) moves (Running s) → Stands s
begins_standing o e a moves s b n = record {
  sound = kept_along moves unstarted s.behind.life sound_unstarted n.replays;
  spaces = subst (λ (w : World). Spaces w) (sym b.first.world) (first_spaces b.machine);
  handles = λ pid p e. first_handles b.machine pid p (ap (λ (w : World). process_of w pid) (sym b.first.world) ∙ e);
  keys = b.first.agrees.keys;
}

decides_standing : (s z : Scene) (e : Event) (a : Answer) (moves : List Move) → DecidesLine s e a moves z → StageNotes (Running s) moves (Running z) → Stands s → Stands z
decides_standing s z e a moves d n h = record {
  sound = kept_along moves s.behind.life z.behind.life h.sound n.replays;
  spaces = subst (λ (o : OutcomeOf Page). Spaces o.world) d.answered (spaces_keep s.world e s.report z.report h.spaces);
  handles = d.told.handles;
  keys = (d.told.line refl).agrees.keys;
}

pub decided_keeps : (old new : Stage) (e : Event) (a : Answer) (moves : List Move) → IsDecided old e a moves new → KeepsStage old → KeepsStage new
decided_keeps (NotBegun o) (NotBegun p) e a moves d h = absurd d.step
decided_keeps (NotBegun o) (Running z) e a moves d h = begins_standing o e a moves z d.step d.notes
decided_keeps (Running s) (NotBegun p) e a moves d h = absurd d.step
decided_keeps (Running s) (Running z) e a moves d h = decides_standing s z e a moves d.step.1 d.notes h

lines_keep : (n : ℕ) (old : Stage) (lines : List DecidedLine) → AreAnswered n old lines → KeepsStage old → KeepsStage (last_stage old lines)
lines_keep n old [] u h = h
lines_keep n old (l ∷ ls) u h =
    lines_keep (suc n) l.after ls u.2 (decided_keeps l.before l.after l.event l.answer l.moves u.0.decided (keeps_follows old l.before u.0.follows h))

stage_stands : (s : Stage) → KeepsStage s → StageStands s
stage_stands (NotBegun o) h = tt
stage_stands (Running s) h = record { spaces = h.spaces; few = h.handles; live = paging_lives s.behind.life h.sound; sound = h.sound; keys = h.keys }

pub stages_stand : (o : Outset) (lines : List DecidedLine) → AreAnswered 0 (NotBegun o) lines → StageStands (last_stage (NotBegun o) lines)
stages_stand o lines u = stage_stands (last_stage (NotBegun o) lines) (lines_keep 0 (NotBegun o) lines u tt)
