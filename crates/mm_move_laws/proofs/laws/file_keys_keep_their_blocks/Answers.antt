use Rattle.mm_move_laws.proofs.{paging_block, file_has_block, block_kept, blocks_apart}
use Rattle.mm_move_laws.proofs.laws.file_keys_keep_their_blocks.Goals as goal

pub returns : goal.returns
returns c = record {
  has = file_has_block;
  stays = block_kept;
  none = paging_block;
  one = λ l reached. (blocks_apart l reached).one;
  added = λ l reached. (blocks_apart l reached).there;
}
