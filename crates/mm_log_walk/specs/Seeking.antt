-- What a log has to have for what is asked of it.
-- Profile, "What a log shows".
use Rattle.std.specs.Prelude.{ℕ, Bool, false, nat_lt, nat_le, if◌then◌else◌, [], ◌∷◌, codes}
use Rattle.mm_types.specs.{Text}
use Rattle.mm_move_rules.specs.{numbered, FrameLife}
use Rattle.mm_log_walk.specs.declared.seeking.Sought.{Sought}
use Rattle.mm_log_walk.specs.declared.seeking.Sought.TheVariants as sought

-- a log that ends in this state has no such line, as its lines are numbered from 1 on, or its
-- machine no such page frame
abbrev pub lacks : Sought → FrameLife → Bool
lacks sought.Nothing l = false
lacks (sought.Line n) l = nat_lt l.line n
lacks (sought.Frame n) l = nat_le l.machine.frames n

abbrev pub sought_text : Sought → Text
sought_text sought.Nothing = []
sought_text (sought.Line n) = numbered (codes "no such line ") n (10 ∷ [])
sought_text (sought.Frame n) = numbered (codes "no such frame ") n (10 ∷ [])

-- what is said at the end of a log that replays, and its status
abbrev pub sought_words : Sought → FrameLife → Text
sought_words s l = if lacks s l then sought_text s else []

abbrev pub sought_status : Sought → FrameLife → ℕ
sought_status s l = if lacks s l then 6 else 0
