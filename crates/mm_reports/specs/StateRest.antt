-- What the teller of a state has still to write; and a list of frames as flags.
-- Profile, "What a log shows".
use Rattle.std.specs.Prelude.{◌≡◌, ℕ, ◌<◌, Bool, List, false, slice_index_or}
use Rattle.mm_types.specs.{Text, Move}
use Rattle.mm_move_rules.specs.{is_on, FrameLife}
use Rattle.mm_reports.specs.States.{state_from}
use Rattle.mm_reports.specs.declared.states.StateTeller.{StateTeller}

-- each frame below this number is marked exactly where it is in the list
abbrev pub AreMarkedBelow : List Bool → ℕ → List ℕ → Type 0
AreMarkedBelow marks count frames = (f : ℕ) → f < count → slice_index_or marks f false
    ≡ is_on f frames

abbrev pub state_rest : StateTeller → Bool → FrameLife → List Move → Text
state_rest t whole l ms = state_from t.line whole l t.pages.keys ms
