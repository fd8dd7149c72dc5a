use Rattle.mm_world.proofs.{full_world, tables_back}
use Rattle.mm_world.proofs.laws.worlds_are_tables_and_bytes.Goals as goal

pub returns : goal.returns
returns c = record {
  world = full_world;
  tables = λ t bytes. tables_back bytes t;
}
