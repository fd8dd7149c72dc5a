use Rattle.std.proofs.Common.{refl, ap, ◌∙◌}
use Rattle.std.specs.Prelude.{is_some}
use Rattle.mm_move_rules.specs.{given}
use Rattle.mm_pfn_database.specs.declared.standing.Standing.TheVariants.{Bound}
use Rattle.mm_pfn_database.proofs.{hand_zero, given_fits, now_given}
use Rattle.mm_pfn_database.proofs.frames.Frames.bind.Goals as goal

pub stand-requires : goal.stand-requires
stand-requires c = λ a. given_fits c.args.self.now a c.b.view_is c.requires refl (given c.args.key) refl (λ e. ap is_some (hand_zero c.args.self.now a c.b.view_is c.requires refl refl))

pub returns-clause-bound : goal.returns-clause-bound
returns-clause-bound c = c.stand.ensures.stood ∙ now_given c.args.self.now c.stand.ensures.placed c.b.view_is c.requires refl (given c.args.key) Bound
