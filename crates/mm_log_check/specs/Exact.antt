-- What a check of a log whose bytes are told has to say.
-- Profile, "Logs of moves".
use Rattle.std.specs.Prelude.{◌≡◌, ◌⊎◌, ℕ, List, [], ◌∷◌, Option, codes}
use Rattle.mm_types.specs.{Text, Appended, Move}
use Rattle.mm_move_rules.specs.{numbered, FrameLife, counts_of_log}
use Rattle.mm_log_check.specs.LogText.{yes_text}
use Rattle.mm_log_check.specs.declared.endings.Asked.{Asked}

-- memory was refused, or the source or the sink failed
abbrev pub IsFaultStatus : ℕ → Type 0
IsFaultStatus status = (status ≡ 1) ⊎ ((status ≡ 4) ⊎ (status ≡ 5))

-- yes, with the counts of these moves, or where a key stands after them
pub record SaysYes (a : Asked) (moves : List Move) (l : FrameLife) (took took' : Option Text)
    (status : ℕ) : Type 0 where
  pub zero : status ≡ 0
  pub text : Appended took took' (yes_text a (counts_of_log moves) l)

-- no, at this line
pub record SaysNo (line : ℕ) (took took' : Option Text) (status : ℕ) : Type 0 where
  pub three : status ≡ 3
  pub text : Appended took took' (numbered (codes "no line ") line (10 ∷ []))
