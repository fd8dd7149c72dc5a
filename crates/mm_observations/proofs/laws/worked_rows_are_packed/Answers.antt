use Rattle.std.proofs.Common.{refl}
use Rattle.mm_script.specs.{without_return}
use Rattle.mm_move_classes.specs.{digits_of}
use Rattle.mm_observations.proofs.laws.worked_rows_are_packed.Goals as goal

pub returns : goal.returns
unfolding without_return digits_of
returns c = record { worked = refl; more = refl; refused = refl }
