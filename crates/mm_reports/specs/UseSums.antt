-- The cells of the table of uses add up.
-- Profile, "What a log shows".
use Rattle.std.specs.Prelude.{◌≡◌, ℕ, ◌+◌, sum}
use Rattle.mm_types.specs.{Counts}
use Rattle.mm_move_rules.specs.{FrameLife, counts_of}
use Rattle.mm_reports.specs.Uses.{cell, totals}
use Rattle.mm_reports.specs.declared.uses.Column.{Column}
use Rattle.mm_reports.specs.declared.uses.Column.TheVariants as column
use Rattle.mm_reports.specs.declared.uses.Use.TheVariants as use_of_frames

abbrev pub total_in : Counts → Column → ℕ
total_in c column.Active = c.active
total_in c column.Standby = c.standby
total_in c column.Modified = c.modified
total_in c column.Transition = c.transition
total_in c column.Zeroed = c.zeroed
total_in c column.Free = c.free

-- all frames that stand so, whatever they are used for
abbrev pub of_all_uses : FrameLife → Column → ℕ
of_all_uses l c =
    cell l use_of_frames.ProcessPrivate c + cell l use_of_frames.PageFileSection c
    + cell l use_of_frames.MappedFile c + cell l use_of_frames.Deleted c
    + cell l use_of_frames.Unused c

pub record AddUp (l : FrameLife) : Type 0 where
  -- the cells of each column, to its total
  pub columns : (c : Column) → of_all_uses l c ≡ total_in (counts_of l) c
  -- the totals, to the frames
  pub frames : sum (totals (counts_of l)) ≡ l.machine.frames
