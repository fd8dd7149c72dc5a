use Rattle.mm_move_laws.proofs.{places_counted, place_shares, place_owned, place_own}
use Rattle.mm_move_laws.proofs.laws.shares_are_valid_places.Goals as goal

pub returns : goal.returns
returns c = record {
  counted = places_counted;
  shared = place_shares;
  owned = place_owned;
  own = place_own;
  within = λ l s. s.shown.below;
}
