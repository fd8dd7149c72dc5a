use Rattle.std.proofs.Common.{ap, ◌∙◌}
use Rattle.mm_types.specs.{is_free}
use Rattle.mm_vad.specs.{range_at}
use Rattle.mm_vad.proofs.{ranges_shown}
use Rattle.mm_vad.proofs.spaces.Space.is_free.Goals as goal

pub returns : goal.returns
returns c = c.is_free.ensures ∙ ap (λ taken. is_free taken (range_at c.args.first.0 c.args.n)) (ranges_shown c.self.inside.regions _ _ c.self.invariant c.self.view_is)
