-- Where a request can begin.
-- Profile, "Logs of moves".
use Rattle.std.specs.Prelude.{Bool, ◌&&◌, ◌||◌}
use Rattle.mm_move_rules.specs.{FrameLife, is_access, is_call, is_thread, is_writer, has_depth}

-- in a plain access and in a call, whatever is in flight; in an access of a thread and in a line of
-- the writer, where fewer than depth requests are
abbrev pub may_begin : FrameLife → Bool
may_begin l = is_access l.kind || is_call l.kind ||
    ((is_thread l.kind || is_writer l.kind) && has_depth l)
