-- Shortage: an access wants a frame, and none can be taken at once.
use Rattle.std.specs.Prelude.{Bool, true, false, not, ◌&&◌, if◌then◌else◌, is_some, option_map, unwrap_or}
use Rattle.mm_types.specs.{Held, Place}
use Rattle.mm_types.specs.declared.frames.Held.TheVariants as held
use Rattle.mm_move_rules.specs.{FrameLife, is_live, is_short}
use Rattle.mm_world.specs.{Need}

abbrev pub is_framed : Held → Bool
is_framed (held.Frame f) = true
is_framed (held.Slot s) = false
is_framed (held.Block b) = false
is_framed held.Zero = false
is_framed held.Dead = false

-- a page is valid at the place, and its copy has not come to be; or none is, and the key to be had
-- has no frame
abbrev pub wants_frame : Need → Place → FrameLife → Bool
wants_frame n place l =
    if is_some (l.valid place)
    then unwrap_or (option_map (λ k. not (is_live l k)) n.copy) false
    else not (is_framed (l.stands n.key))

abbrev pub is_shortage : Need → Place → FrameLife → Bool
is_shortage n place l = is_short l && wants_frame n place l
