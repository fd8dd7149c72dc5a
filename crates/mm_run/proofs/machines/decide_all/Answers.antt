use Rattle.std.proofs.Common.{◌≡◌, ◌<◌, List, ℕ, take, refl, sym, ap, ◌∙◌, subst, arith}
use Rattle.std.specs.Prelude.{Ok, Err}
use Rattle.mm_script.specs.{IsLine as IsLineFor}
use Rattle.mm_script.specs.{is_machine}
use Rattle.mm_run.specs.{begun_at, left_seen, output_seen, reading_of}
use Rattle.mm_run.proofs.{begins_ends, begins_then, blamed_beside, blamed_open, came_bad, came_unopened, came_usage, comes_here, goes_ends}
use Rattle.mm_run.proofs.machines.decide_all.Goals as goal

-- the words are no form
pub returns-then-not-is_form-clause-ends : goal.returns-then-not-is_form-clause-ends
returns-then-not-is_form-clause-ends g c = record {
  came = comes_here _ _ _ _ _ _ refl refl refl (came_usage _ _ _ _);
  faults = refl;
  idle = omega arith;
}

-- no line is found
pub returns-in-Err-clause-ends : goal.returns-in-Err-clause-ends
returns-in-Err-clause-ends g c = begins_ends c.new-held.ensures _ _ c.in-Err.ending (c.in-Err.ensures.finds (output_seen g.O.Sink c.args.out.now) c.args.kept.now (begun_at (left_seen g.M.Sink g.P.BlockDevice g.F.BlockDevice c.args.moves.now c.args.paging.now c.args.files.now)))

pub returns-in-Err-clause-form : goal.returns-in-Err-clause-form
returns-in-Err-clause-form g c = λ is. (c.in-Err.ensures.finds (output_seen g.O.Sink c.args.out.now) c.args.kept.now (begun_at (left_seen g.M.Sink g.P.BlockDevice g.F.BlockDevice c.args.moves.now c.args.paging.now c.args.files.now))).form

-- the first line makes no machine
pub returns-in-Err-read_first-clause-ends : goal.returns-in-Err-read_first-clause-ends
returns-in-Err-read_first-clause-ends g c =
    let small : 0 < 1000000 = omega arith in
    let front = c.in-Ok.ensures.line in
    let held = c.next_line.new.held in
    let bad : reading_of 0 (take c.in-Ok.len held) ≡ Err c.in-Err-read_first.column = ap (λ xs. reading_of 0 (take c.in-Ok.len xs)) (sym c.bytes.ensures) ∙ sym c.read_first.ensures.reads ∙ c.in-Err-read_first.is in
    let first = c.in-Ok.ensures.finds (output_seen g.O.Sink c.args.out.now) c.args.kept.now (begun_at (left_seen g.M.Sink g.P.BlockDevice g.F.BlockDevice c.args.moves.now c.args.paging.now c.args.files.now)) in
    begins_ends c.new-held.ensures _ _ _ (goes_ends first _ (record {
      came = came_bad _ _ 0 front.line small front.behind _ _ _ _ _ bad (λ e s. c.in-Err-read_first.ensures.refused e (subst (λ (xs : List ℕ). IsLineFor (take c.in-Ok.len xs) e) (sym c.bytes.ensures) s));
      faults = refl;
      idle = omega arith;
      form = λ q. cc;
    }))

-- a machine begins

pub returns-in-Ok-open_devices-clause-ends : goal.returns-in-Ok-open_devices-clause-ends
returns-in-Ok-open_devices-clause-ends g c =
    let d = c.open_devices.ensures in
    let ran = c.run_machine.ensures in
    let first = c.in-Ok.ensures.finds (output_seen g.O.Sink c.args.out.now) c.args.kept.now (begun_at (left_seen g.M.Sink g.P.BlockDevice g.F.BlockDevice c.args.moves.now c.args.paging.now c.args.files.now)) in
    begins_then c.new-held.ensures _ _ c.run_machine.result _ first (record {
      came = ran.came (g.P.BlockDevice.faults c.args.paging.now) (g.F.BlockDevice.faults c.args.files.now) d.paging_later d.files_later;
      faults = blamed_beside c.run_machine.result _ _ _ ran.faults;
      idle = ran.idle;
    })

-- a device is not opened
pub returns-in-Err-open_devices-clause-ends : goal.returns-in-Err-open_devices-clause-ends
returns-in-Err-open_devices-clause-ends g c =
    let failed = c.in-Err-open_devices.ensures in
    let front = c.in-Ok.ensures.line in
    let event = c.in-Ok-read_first.event in
    let says : reading_of 0 (take c.in-Ok.len c.next_line.new.held) ≡ Ok event = ap (λ xs. reading_of 0 (take c.in-Ok.len xs)) (sym c.bytes.ensures) ∙ sym c.read_first.ensures.reads ∙ c.in-Ok-read_first.is in
    let grammar = subst (λ (xs : List ℕ). IsLineFor (take c.in-Ok.len xs) event) c.bytes.ensures c.in-Ok-read_first.ensures.grammar in
    let first = c.in-Ok.ensures.finds (output_seen g.O.Sink c.args.out.now) c.args.kept.now (begun_at (left_seen g.M.Sink g.P.BlockDevice g.F.BlockDevice c.args.moves.now c.args.paging.now c.args.files.now)) in
    begins_then c.new-held.ensures _ _ c.in-Err-open_devices.ending _ first (record {
      came = comes_here _ _ _ _ _ _ refl refl refl (came_unopened c.next_line.new.held c.in-Ok.len front _ _ c.args.kept.now _ event says grammar (ap is_machine c.in-Machine.is) c.in-Err-open_devices.ending failed.ends);
      faults = blamed_open c.in-Err-open_devices.ending _ _ failed.ends failed.blame;
      idle = omega arith;
    })

-- where a read failed nothing was held back

pub returns-in-Ok-open_devices-clause-none : goal.returns-in-Ok-open_devices-clause-none
returns-in-Ok-open_devices-clause-none g c = λ k q. (c.run_machine.ensures.still q).none

pub returns-in-Ok-open_devices-clause-gave : goal.returns-in-Ok-open_devices-clause-gave
returns-in-Ok-open_devices-clause-gave g c = λ k q. (c.run_machine.ensures.still q).answers

pub returns-in-Ok-open_devices-clause-moves : goal.returns-in-Ok-open_devices-clause-moves
returns-in-Ok-open_devices-clause-moves g c = λ k q. (c.run_machine.ensures.still q).moves
