use Rattle.std.proofs.Common.{refl, ◌∙◌}
use Rattle.mm_move_rules.specs.{being_read}
use Rattle.mm_pfn_database.specs.declared.standing.Standing.TheVariants.{Bound}
use Rattle.mm_pfn_database.proofs.{given_fits, now_given}
use Rattle.mm_pfn_database.proofs.frames.Frames.bind_read.Goals as goal

pub stand-requires : goal.stand-requires
stand-requires c = λ a. given_fits c.args.self.now a c.d.view_is c.requires refl (being_read c.args.key c.args.backing) refl (λ e. cc)

pub returns-clause-bound : goal.returns-clause-bound
returns-clause-bound c = c.stand.ensures.stood ∙ now_given c.args.self.now c.stand.ensures.placed c.d.view_is c.requires refl (being_read c.args.key c.args.backing) Bound
