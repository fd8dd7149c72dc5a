use Rattle.mm_frame_laws.proofs.{carries_written, carries_block}
use Rattle.mm_frame_laws.proofs.bytes.pages_are_written.Goals as goal

pub returns : goal.returns
returns c = record {
  page = λ l ram slots blocks h f k page owner soiled. carries_written l h.reached ram slots blocks h.located f k page owner soiled;
  block = λ l ram slots blocks h b page new. carries_block l h.reached ram slots blocks h.located b page new;
}
