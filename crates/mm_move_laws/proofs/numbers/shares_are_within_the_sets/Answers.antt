use Rattle.mm_move_laws.proofs.{share_most, places_are, all_shares, share_within, places_within, private_share}
use Rattle.mm_move_laws.proofs.numbers.shares_are_within_the_sets.Goals as goal

pub returns : goal.returns
returns c = record {
  places = places_are;
  shares = all_shares;
  share = share_within;
  room = places_within;
  most = share_most;
  private = private_share;
}
