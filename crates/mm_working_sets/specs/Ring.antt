-- The ring of groups. The pages of one age are a group. Groups 0 to 6 take turns: in each round
-- one of them is the newest and has age 0, and the one that was the newest so many rounds ago has
-- that age. Group 7 has age 7, and takes the pages of the group whose turn comes.
use Rattle.std.specs.Prelude.{ℕ, ◌+◌, ◌-◌, ◌==◌, nat_lt, nat_le, if◌then◌else◌}

-- the age of a group while another is the newest, and as well the group of an age
abbrev pub turned : ℕ → ℕ → ℕ
turned newest n = if nat_le n newest then newest - n else if nat_lt n 7 then newest + 7 - n else n

-- the newest group of the next round
abbrev pub next_newest : ℕ → ℕ
next_newest newest = if newest == 6 then 0 else newest + 1
