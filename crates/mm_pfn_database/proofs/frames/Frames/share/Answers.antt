use Rattle.std.proofs.Common.{ap, ◌∙◌, arith}
use Rattle.std.specs.Prelude.{is_some}
use Rattle.mm_types.specs.{Record}
use Rattle.mm_move_rules.specs.{record_at, off_lists, shared, with_record}
use Rattle.mm_pfn_database.proofs.{kept_owned, owned_used, shared_busy}
use Rattle.mm_pfn_database.proofs.frames.Frames.share.Goals as goal

pub rebind-requires-clause-bound : goal.rebind-requires-clause-bound
rebind-requires-clause-bound c = owned_used (record_at c.args.self.now.table c.args.f.0) c.requires.owned

pub rebind-requires-clause-kept : goal.rebind-requires-clause-kept
rebind-requires-clause-kept c = λ k. kept_owned (shared c.look-r.result) (ap (λ (r : Record). is_some r.owner) c.look-r.ensures ∙ c.requires.owned)

pub returns : goal.returns
returns c =
    let v = c.args.self.now in
    let f = c.args.f.0 in
    c.rebind.ensures.left (shared_busy (shared c.look-r.result) (omega arith))
    ∙ ap (λ (r : Record). record v { table = with_record (off_lists v.table f) f (shared r) }) c.look-r.ensures
