-- The moves of a `grow` line, by what it answers.
-- Profile, "Logs of moves".
use Rattle.std.specs.Prelude.{ℕ, List, Result, Ok, Err}
use Rattle.mm_types.specs.{Answer, Move}
use Rattle.mm_types.specs.declared.answers.Answer.TheVariants as answer
use Rattle.mm_types.specs.declared.moves.LineKind.TheVariants as kind
use Rattle.mm_types.specs.declared.moves.Move.TheVariants as move
use Rattle.mm_store.specs.Behind.{Behind}
use Rattle.mm_store.specs.{Grows, OneMove, NoMove}

-- the paging file has grown, or it is the line of a call that changed nothing; without memory no
-- line has begun
abbrev pub GrowsBy : {E : Type 0} → ℕ → ℕ → Result Answer E → Behind → List Move → Behind → Type 0
GrowsBy line n (Ok (answer.Limit limit)) b moves c = Grows line n b moves c
GrowsBy line n (Ok a) b moves c = OneMove (move.At line kind.Call) b moves c
GrowsBy line n (Err e) b moves c = NoMove b moves c
