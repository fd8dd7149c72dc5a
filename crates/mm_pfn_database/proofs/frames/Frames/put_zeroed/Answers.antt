use Rattle.std.proofs.Common.{refl, ◌∙◌}
use Rattle.mm_pfn_database.specs.declared.standing.Standing.TheVariants.{Zeroed}
use Rattle.mm_pfn_database.proofs.{hand_zero, hand_fits, now_put}
use Rattle.mm_pfn_database.proofs.frames.Frames.put_zeroed.Goals as goal

pub stand-requires : goal.stand-requires
stand-requires c = λ a. hand_fits c.args.self.now a c.b.view_is c.requires refl Zeroed (λ e. cc) (λ e. hand_zero c.args.self.now a c.b.view_is c.requires refl refl)

pub returns : goal.returns
returns c = c.stand.ensures.stood ∙ now_put c.args.self.now c.stand.ensures.placed c.b.view_is c.requires refl Zeroed
