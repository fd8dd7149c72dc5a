-- What was told of a state, and what is still to come.
use Rattle.std.proofs.Common.{◌≡◌, ℕ, Bool, List, ◌∷◌, ◌++◌, ap, ◌∙◌, append_assoc}
use Rattle.mm_types.specs.{Text, Move}
use Rattle.mm_move_rules.specs.{FrameLife, after_move}
use Rattle.mm_reports.specs.{ValidPage, pages_after, state_ended_by, state_from}

pub state_taken : (line : ℕ) (pages pages' : List ValidPage) (text text1 : Text) (l : FrameLife) (m : Move)
    → text1 ≡ text ++ state_ended_by line l pages m → pages' ≡ pages_after pages m → (whole : Bool) (ms : List Move)
    → text1 ++ state_from line whole (after_move l m) pages' ms ≡ text ++ state_from line whole l pages (m ∷ ms)
state_taken line pages pages' text text1 l m e1 e2 whole ms =
    let come : Text = state_from line whole (after_move l m) (pages_after pages m) ms in
    ap (λ (ps : List ValidPage). text1 ++ state_from line whole (after_move l m) ps ms) e2
    ∙ ap (λ t. t ++ come) e1
    ∙ append_assoc text (state_ended_by line l pages m) come
