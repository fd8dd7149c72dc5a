use Rattle.std.proofs.Common.{sym, ap, ◌∙◌}
use Rattle.mm_types.specs.{Record}
use Rattle.mm_move_rules.specs.{record_at}
use Rattle.mm_pfn_database.proofs.{owned_used, disowned_kept}
use Rattle.mm_pfn_database.proofs.frames.Frames.forget.Goals as goal

pub rebind-requires-clause-bound : goal.rebind-requires-clause-bound
rebind-requires-clause-bound c = owned_used (record_at c.args.self.now.table c.args.f.0) c.requires.owned

pub rebind-requires-clause-kept : goal.rebind-requires-clause-kept
rebind-requires-clause-kept c = λ k.
    disowned_kept c.look-r.result (sym c.has_request.ensures ∙ c.if-has_request.true) (ap (λ (r : Record). r.shares) c.look-r.ensures ∙ c.requires.unshared)
