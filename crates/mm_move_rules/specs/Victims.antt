-- Which of two pages of a working set goes first, and which modified frame can be written.
-- Profile, "Which frame moves, and when".
use Rattle.std.specs.Prelude.{ℕ, ◌+◌, Bool, not, ◌&&◌, ◌||◌, nat_lt, ◌==◌, min}
use Rattle.std.specs.List.{list_any}
use Rattle.mm_move_rules.specs.Frames.{record_at}
use Rattle.mm_move_rules.specs.Life.{FrameLife}
use Rattle.mm_move_rules.specs.Legal.{owner_is}

-- a valid page of a process and its age: 0 at its `map` and at each line whose access there is
-- answered `ok`
pub record Aged : Type 0 where
  pub page : ℕ
  pub age : ℕ

-- each later `age` line adds one, up to 7
abbrev pub aged : ℕ → ℕ
aged age = min (age + 1) 7

-- the greatest age goes first, and among equal ages the lowest page
abbrev pub goes_before : Aged → Aged → Bool
goes_before a b = nat_lt b.age a.age || ((a.age == b.age) && nat_lt a.page b.page)

-- a modified frame can be written: its page has a block of its own, or a slot is free
abbrev pub can_be_written : FrameLife → ℕ → Bool
can_be_written l f = owner_is (λ k. not (l.paging k)) (record_at l.frames f) ||
    list_any (λ b. b) l.free_slots
