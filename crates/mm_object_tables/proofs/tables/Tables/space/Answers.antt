use Rattle.std.proofs.Common.{ap}
use Rattle.mm_world.specs.{ProcessOf}
use Rattle.mm_object_tables.proofs.tables.Tables.space.Goals as goal

pub returns : goal.returns
returns c p lives = ap (λ (p : ProcessOf (Unit {0})). p.regions) (c.process.ensures.shown p lives)
