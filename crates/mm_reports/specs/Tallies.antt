-- What is counted of the moves of a log.
-- Profile, "What a log shows".
use Rattle.std.specs.Prelude.{ℕ, ◌+◌, Bool, true, false, List, [], ◌∷◌, replicate, Option, Some}
use Rattle.std.specs.Prelude.{None, slice_index, slice_set}
use Rattle.std.specs.declared.cmp.Ordering.{Ordering}
use Rattle.std.specs.Ordering.{nat_cmp, bool_cmp, match_ordering, ordering_then}
use Rattle.mm_types.specs.{Move, Key}
use Rattle.mm_move_rules.specs.{after_move, FrameLife, unstarted}
use Rattle.mm_move_classes.specs.{class_of, next_of, MarksOf, marks_after, no_marks, Class}
use Rattle.mm_reports.specs.Faults.{column_of, process_of_line, page_faulted, FaultPlace, place_of, is_zero_fill}
use Rattle.mm_reports.specs.Faults.{is_hard, is_first_use, is_soft, request_end, is_on_paging_file}

-- ---- numbers by column, and tables of them

abbrev pub one_in_column : List ℕ → ℕ → List ℕ
one_in_column counts column = slice_set counts column (slice_index counts column + 1)

abbrev pub none_counted : List ℕ
none_counted = replicate 8 0

abbrev pub Table : Type 0 → Type 0
Table K = List (K × List ℕ)

-- one more in a column of a row; the rows stand in order, and a new one is put in its place
abbrev pub counted : {K : Type 0} → (K → K → Ordering) → Table K → K → ℕ → Table K
counted cmp [] k column = (k, one_in_column none_counted column) ∷ []
counted cmp (e ∷ es) k column =
    match_ordering (cmp k e.0) ((k, one_in_column none_counted column) ∷ e ∷ es)
    ((e.0, one_in_column e.1 column) ∷ es) (e ∷ counted cmp es k column)

abbrev pub place_cmp : FaultPlace → FaultPlace → Ordering
place_cmp a b =
    ordering_then
    (ordering_then (ordering_then (nat_cmp a.0 b.0) (bool_cmp a.1 b.1)) (nat_cmp a.2 b.2))
    (nat_cmp a.3 b.3)

-- ---- all that is counted

pub record FaultTally : Type 0 where
  -- the faults of each page, and of each process
  pub pages : Table FaultPlace
  pub processes : Table ℕ
  -- how requests on the paging file ended, and on files
  pub paging_file : List ℕ
  pub files : List ℕ
  -- as a check of a log counts
  pub zero_fills : ℕ
  pub hard : ℕ
  pub soft : ℕ
  pub first_uses : ℕ

abbrev pub no_tally : FaultTally
no_tally = record {
  pages = [];
  processes = [];
  paging_file = replicate 4 0;
  files = replicate 4 0;
  zero_fills = 0;
  hard = 0;
  soft = 0;
  first_uses = 0;
}

-- a fault of this process on this page
abbrev pub with_fault : FaultTally → ℕ → Option Key → Option ℕ → FaultTally
with_fault t pid None column = t
with_fault t pid (Some k) None = t
with_fault t pid (Some k) (Some column) = record t {
  pages = counted place_cmp t.pages (place_of pid k) column;
  processes = counted nat_cmp t.processes pid column;
}

abbrev pub plus_one : Bool → ℕ → ℕ
plus_one true n = n + 1
plus_one false n = n

abbrev pub with_class : FaultTally → Option Class → FaultTally
with_class t c = record t {
  zero_fills = plus_one (is_zero_fill c) t.zero_fills;
  hard = plus_one (is_hard c) t.hard;
  soft = plus_one (is_soft c) t.soft;
  first_uses = plus_one (is_first_use c) t.first_uses;
}

-- a request that ended so
abbrev pub with_end : FaultTally → Bool → Option ℕ → FaultTally
with_end t paged None = t
with_end t true (Some how) = record t { paging_file = one_in_column t.paging_file how }
with_end t false (Some how) = record t { files = one_in_column t.files how }

abbrev pub column_in : Option Class → Option ℕ
column_in None = None
column_in (Some c) = column_of c

-- one move more, of this class
abbrev pub tally_after : FaultTally → FrameLife → Move → Option Class → FaultTally
tally_after t l m c =
    with_end (with_class (with_fault t (process_of_line l.kind) (page_faulted l m) (column_in c)) c)
    (is_on_paging_file l m) (request_end m)

-- the moves that come, in this state, with these marks, after this move
abbrev pub tally_from : FaultTally → FrameLife → MarksOf → Option Move → List Move → FaultTally
tally_from t l v before [] = t
tally_from t l v before (m ∷ ms) =
    tally_from (tally_after t l m (class_of l v before m (next_of ms))) (after_move l m)
    (marks_after v m)
    (Some m) ms

abbrev pub fault_tally : List Move → FaultTally
fault_tally moves = tally_from no_tally unstarted no_marks None moves
