use Rattle.mm_world.proofs.{row_has_live_key, private_key_has_row}
use Rattle.mm_world.proofs.laws.keys_are_those_of_committed_rows.Goals as goal

pub returns : goal.returns
returns c = record {
  live = row_has_live_key;
  committed = private_key_has_row;
}
