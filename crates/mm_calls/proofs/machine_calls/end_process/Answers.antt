use Rattle.std.proofs.Common.{◌∙◌, sym, map}
use Rattle.std.specs.Prelude.{◌==◌}
use Rattle.mm_world.specs.{process_of, end_stacks, kept_of_others, Tables}
use Rattle.mm_object_tables.specs.{is_uncommitted}
use Rattle.mm_object_tables.proofs.{all_ended}
use Rattle.mm_calls.proofs.machine_calls.end_process.Goals as goal
use Rattle.mm_types.proofs.{some_found}

pub returns-clause-loses : goal.returns-clause-loses
returns-clause-loses g c =
    let old = c.args.t.now in
    let p = some_found (process_of old c.args.pid.0) (sym c.has.ensures ∙ c.if-not-has.false) in
    let t : Tables = end_stacks (record old { kept = map (kept_of_others c.args.pid.0) old.kept }) (λ s. s.pid == c.args.pid.0) in
    record {
      passes = c.end_process.ensures.passes (is_uncommitted c.end_process.new.self) (all_ended t c.end_process.new.self c.args.pid p.0 p.1 c.end_process.ensures.ended);
      loans = c.end_process.ensures.loans;
    }
