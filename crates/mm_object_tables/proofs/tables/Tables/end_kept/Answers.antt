use Rattle.std.proofs.Common.{None}
use Rattle.mm_object_tables.proofs.{put_kept, put_is}
use Rattle.mm_object_tables.proofs.tables.Tables.end_kept.Goals as goal

pub invariant_of-self : goal.invariant_of-self
invariant_of-self c = put_kept c.self.inside c.args.tid.0 None (λ k e. cc) c.self.invariant

pub returns-clause-ended : goal.returns-clause-ended
returns-clause-ended c = put_is c.self.inside c.args.tid.0 None c.args.self.now c.self.view_is
