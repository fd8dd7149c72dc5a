use Rattle.mm_move_laws.proofs.{keys_counted, paging_lives, some_keys, file_key_stays}
use Rattle.mm_move_laws.proofs.laws.page_file_keys_are_within_the_limit.Goals as goal

pub returns : goal.returns
returns c = record {
  within = λ l s. s.limited;
  counted = keys_counted;
  homes = λ l s. s.homed.home;
  backings = λ l s k f e. s.homed.backing f k e;
  live = paging_lives;
  some = some_keys;
  file_keys_stay = file_key_stays;
}
