use Rattle.std.proofs.Common.{refl, ◌∙◌}
use Rattle.mm_pfn_database.specs.declared.standing.Standing.TheVariants.{Taken}
use Rattle.mm_pfn_database.proofs.{hand_fits, now_put}
use Rattle.mm_pfn_database.proofs.frames.Frames.soil_blank.Goals as goal

pub stand-requires : goal.stand-requires
stand-requires c = λ a. hand_fits c.args.self.now a c.b.view_is c.requires refl Taken (λ e. cc) (λ e. cc)

pub returns-clause-soiled : goal.returns-clause-soiled
returns-clause-soiled c = c.stand.ensures.stood ∙ now_put c.args.self.now c.stand.ensures.placed c.b.view_is c.requires refl Taken
