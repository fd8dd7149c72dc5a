-- What a class has to know of the moves before it, beside the state.
-- Profile, "Logs of moves".
use Rattle.std.specs.Prelude.{ℕ, ◌≤◌, Bool, true, false, ◌==◌, if◌then◌else◌, List, slice_index_or}
use Rattle.mm_types.specs.{Move}
use Rattle.mm_types.specs.declared.moves.Move.TheVariants as move
use Rattle.mm_move_classes.specs.declared.marks.FrameMark.{FrameMark}

pub record MarksOf : Type 0 where
  -- the frames that were brought in since the line began: those with a `give` or a `got`
  pub fresh : ℕ → Bool
  -- the frames whose page was read in, and neither made valid nor replaced by a new one since
  pub arrived : ℕ → Bool

abbrev pub no_marks : MarksOf
no_marks = record { fresh = λ _. false; arrived = λ _. false }

-- of one frame this holds from now on, of the others what held
abbrev pub with_frame : (ℕ → Bool) → ℕ → Bool → ℕ → Bool
with_frame frames f now = λ g. if f == g then now else frames g

abbrev pub marks_after : MarksOf → Move → MarksOf
marks_after v (move.At n k) = record v { fresh = λ _. false }
marks_after v (move.Give f k) =
    record { fresh = with_frame v.fresh f.0 true; arrived = with_frame v.arrived f.0 false }
marks_after v (move.Got f) =
    record { fresh = with_frame v.fresh f.0 true; arrived = with_frame v.arrived f.0 true }
marks_after v (move.Map f place) = record v { arrived = with_frame v.arrived f.0 false }
marks_after v _ = v

-- ---- what is remembered of each frame

abbrev pub unmarked : FrameMark
unmarked = record { line = 0; has_arrived = false }

abbrev pub mark_at : List FrameMark → ℕ → FrameMark
mark_at frames f = slice_index_or frames f unmarked

abbrev pub marks_in : ℕ → List FrameMark → MarksOf
marks_in line frames = record {
  fresh = λ f. (mark_at frames f).line == line;
  arrived = λ f. (mark_at frames f).has_arrived;
}

-- no frame was brought in by a line that has not begun
pub record AreMarkedBefore (line : ℕ) (frames : List FrameMark) : Type 0 where
  pub begun : 1 ≤ line
  pub earlier : (f : ℕ) → (mark_at frames f).line ≤ line
