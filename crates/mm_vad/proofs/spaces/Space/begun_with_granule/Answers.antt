use Rattle.std.proofs.Common.{sym, arith}
use Rattle.mm_vad.proofs.{found_at_base}
use Rattle.mm_vad.proofs.spaces.Space.begun_with_granule.Goals as goal

pub returns-then-at-region : goal.returns-then-at-region
returns-then-at-region c = sym (found_at_base c.self.inside.regions _ _ c.self.invariant c.self.view_is _ c.args.v.0 _ c.in-Some.ensures.value (omega arith) (omega (arith, c.if-at-region.true)))
