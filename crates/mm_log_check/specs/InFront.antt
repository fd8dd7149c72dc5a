-- A move's line in front of a text.
-- Profile, "Logs of moves".
use Rattle.std.specs.Prelude.{◌≡◌, ◌∷◌}
use Rattle.mm_types.specs.{Text, Move, LineKind}
use Rattle.mm_move_rules.specs.{move_onto, kind_onto, IsMove, IsKind}

-- the move's line stands in front, and this after it
abbrev pub StandsInFront : Move → Text → Text → Type 0
StandsInFront m rest text = (move_onto m (10 ∷ rest) ≡ text) × IsMove m

-- the words of a kind stand in front, and this after its line feed
abbrev pub KindInFront : LineKind → Text → Text → Type 0
KindInFront k rest text = (kind_onto k (10 ∷ rest) ≡ text) × IsKind k
