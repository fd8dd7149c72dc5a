use Rattle.std.proofs.Common.{ap, ◌∙◌}
use Rattle.std.specs.Prelude.{is_some}
use Rattle.mm_types.specs.{Record}
use Rattle.mm_move_rules.specs.{record_at, settled, unshared, with_record}
use Rattle.mm_pfn_database.proofs.{kept_owned, shared_busy, shared_owned, shared_used}
use Rattle.mm_pfn_database.proofs.frames.Frames.unshare.Goals as goal

pub rebind-requires-clause-bound : goal.rebind-requires-clause-bound
rebind-requires-clause-bound c = shared_used (record_at c.args.self.now.table c.args.f.0) c.requires

pub rebind-requires-clause-kept : goal.rebind-requires-clause-kept
rebind-requires-clause-kept c = λ k.
    kept_owned (unshared c.look-r.result) (ap (λ (r : Record). is_some r.owner) c.look-r.ensures ∙ shared_owned (record_at c.args.self.now.table c.args.f.0) c.requires k)

pub returns : goal.returns
returns c =
    let v = c.args.self.now in
    let f = c.args.f.0 in
    c.rebind.ensures.settled (shared_busy (record_at v.table f) c.requires)
    ∙ ap (λ (r : Record). record v { table = settled (with_record v.table f (unshared r)) f }) c.look-r.ensures
