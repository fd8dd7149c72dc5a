-- Each frame is counted in one row of each column.
use Rattle.std.proofs.Common.{◌≡◌, ◌+◌, cond, List, [], ◌∷◌, length, refl, ◌∙◌, arith}
use Rattle.std.specs.Prelude.{◌==◌, count_by, sum}
use Rattle.std.proofs.lemmas.List.{length-map}
use Rattle.std.proofs.lemmas.List.Sums.{length-filter, sum_by-cons}
use Rattle.mm_types.specs.{Counts, Record}
use Rattle.mm_move_rules.specs.{record_at, FrameLife, counts_of, is_active, is_in_transition}
use Rattle.mm_move_laws.specs.{counted_frames}
use Rattle.mm_reports.specs.{AddUp, total_in, use_of, row_of_use, is_use, records_in, totals, Column, Use}
use Rattle.mm_reports.specs.declared.uses.Column.TheVariants as column
use Rattle.mm_reports.specs.declared.uses.Use.TheVariants as use_of_frames

one_row : (u : Use) → cond (row_of_use u == 0) 1 0 + cond (row_of_use u == 1) 1 0 + cond (row_of_use u == 2) 1 0 + cond (row_of_use u == 3) 1 0 + cond (row_of_use u == 4) 1 0 ≡ 1
one_row use_of_frames.ProcessPrivate = refl
one_row use_of_frames.PageFileSection = refl
one_row use_of_frames.MappedFile = refl
one_row use_of_frames.Deleted = refl
one_row use_of_frames.Unused = refl

each_once : (l : FrameLife) (xs : List Record)
    → count_by (is_use l use_of_frames.ProcessPrivate) xs + count_by (is_use l use_of_frames.PageFileSection) xs + count_by (is_use l use_of_frames.MappedFile) xs
    + count_by (is_use l use_of_frames.Deleted) xs + count_by (is_use l use_of_frames.Unused) xs ≡ length xs
each_once l [] = refl
each_once l (r ∷ rs) =
    omega (
      arith,
      each_once l rs,
      one_row (use_of l r),
      sum_by-cons (λ x. cond (is_use l use_of_frames.ProcessPrivate x) 1 0) r rs,
      sum_by-cons (λ x. cond (is_use l use_of_frames.PageFileSection x) 1 0) r rs,
      sum_by-cons (λ x. cond (is_use l use_of_frames.MappedFile x) 1 0) r rs,
      sum_by-cons (λ x. cond (is_use l use_of_frames.Deleted x) 1 0) r rs,
      sum_by-cons (λ x. cond (is_use l use_of_frames.Unused x) 1 0) r rs,
    )

in_column : (l : FrameLife) (c : Column) → length (records_in l c) ≡ total_in (counts_of l) c
in_column l column.Active = length-filter is_active l.frames.records
in_column l column.Standby = length-map l.frames.standby (record_at l.frames)
in_column l column.Modified = length-map l.frames.modified (record_at l.frames)
in_column l column.Transition = length-filter is_in_transition l.frames.records
in_column l column.Zeroed = length-map l.frames.zeroed (record_at l.frames)
in_column l column.Free = length-map l.frames.free (record_at l.frames)

all_counted : (c : Counts) → sum (totals c) ≡ counted_frames c
all_counted c = omega arith

pub add_up : (l : FrameLife) → counted_frames (counts_of l) ≡ l.machine.frames → AddUp l
add_up l frames = record {
  columns = λ c. each_once l (records_in l c) ∙ in_column l c;
  frames = all_counted (counts_of l) ∙ frames;
}
