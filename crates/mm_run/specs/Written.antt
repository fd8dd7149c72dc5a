-- Which pages of watched regions are written, told by a list of lines and their answers alone
-- (GetWriteWatch).
-- Profile, "Watched regions and stacks".
use Rattle.std.specs.Prelude.{◌≡◌, ℕ, Bool, false, not, ◌&&◌, ◌==◌, if◌then◌else◌, List, map, take, filter, fold}
use Rattle.std.specs.List.{range_with_len}
use Rattle.mm_types.specs.{Answer, Event, Range, address_of, range_of}
use Rattle.mm_types.specs.declared.answers.Answer.TheVariants as answer
use Rattle.mm_types.specs.declared.events.Event.TheVariants as line
use Rattle.mm_world.specs.{access_writes, written_after, ends_none}

-- a line that was answered
pub record AnsweredLine : Type 0 where
  pub event : Event
  pub answer : Answer

-- what lines tell of one page: whether a thread keeps a write to it, and whether it is written
pub record WriteMarks : Type 0 where
  pub keeps : ℕ → Bool
  pub written : Bool

abbrev pub no_write_marks : WriteMarks
no_write_marks = record { keeps = λ thread. false; written = false }

module _ (pid page : ℕ) where
  -- the thread keeps a write to the page from a `begin` answered `pending` on, until a `resume`
  -- ends the access or the process ends
  abbrev pub keeps_after : ℕ → Bool → Event → Answer → Bool
  keeps_after thread was (line.Begin tid by what) (answer.Pending why) =
      if tid.0 == thread then access_writes pid page by.0 what else was
  keeps_after thread was (line.Resume tid) a =
      if (tid.0 == thread) && not (ends_none a) then false else was
  keeps_after thread was (line.Exit by) answer.Ok = if by.0 == pid then false else was
  keeps_after thread was _ _ = was

  abbrev pub write_marks_after : WriteMarks → AnsweredLine → WriteMarks
  write_marks_after m l = record {
    keeps = λ thread. keeps_after thread (m.keeps thread) l.event l.answer;
    written = written_after pid page m.keeps m.written l.event l.answer;
  }

  -- what these lines tell of the page, after others that told this
  abbrev pub write_marks_over : WriteMarks → List AnsweredLine → WriteMarks
  write_marks_over m lines = fold write_marks_after m lines

  -- whether the page is written after these lines
  abbrev pub is_page_written : List AnsweredLine → Bool
  is_page_written lines = (write_marks_over no_write_marks lines).written

-- the lowest pages of the range that are written after these lines, at most `count`
abbrev pub lowest_written : List AnsweredLine → ℕ → Range → ℕ → List ℕ
lowest_written lines pid range count =
    take count (filter (λ page. is_page_written pid page lines)
    (range_with_len range.first range.count))

-- a `watch` after these lines that was answered with pages gave exactly these
abbrev pub GivesWritten : List AnsweredLine → Event → Answer → Type 0
GivesWritten lines (line.Watch pid unwrites addr size count) (answer.Watched pages) =
    pages ≡ map address_of (lowest_written lines pid.0 (range_of addr size) count)
GivesWritten lines _ _ = Unit {0}
