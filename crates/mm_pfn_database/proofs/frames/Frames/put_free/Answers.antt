use Rattle.std.proofs.Common.{refl, ◌∙◌}
use Rattle.mm_pfn_database.specs.declared.standing.Standing.TheVariants.{Free}
use Rattle.mm_pfn_database.proofs.{hand_fits, now_put}
use Rattle.mm_pfn_database.proofs.frames.Frames.put_free.Goals as goal

pub stand-requires : goal.stand-requires
stand-requires c = λ a. hand_fits c.args.self.now a c.d.view_is c.requires refl Free (λ e. cc) (λ e. cc)

pub returns : goal.returns
returns c = c.stand.ensures.stood ∙ now_put c.args.self.now c.stand.ensures.placed c.d.view_is c.requires refl Free
