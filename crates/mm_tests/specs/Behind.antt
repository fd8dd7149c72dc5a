-- What stays where bytes of pages were changed behind a state, and when a device can be changed so.
use Rattle.std.specs.Prelude.{◌≡◌, ◌<◌, ℕ, is_some, length}
use Rattle.mm_types.specs.{MachineOf, Key}
use Rattle.mm_types.specs.declared.frames.Backing.TheVariants as backing
use Rattle.mm_move_rules.specs.{record_at, FrameLife}
use Rattle.mm_state_calls.specs.{StateOf}

abbrev pub small_machine : MachineOf
small_machine = record { frames = 6; slots = 8; depth = 1; blocks = 1 }

-- the bytes of live pages changed, and what devices hold and were asked; nothing else
pub record BytesChanged (s z : StateOf) : Type 0 where
  pub rest : z ≡ record s {
    contents = z.contents;
    paging = z.paging;
    files = z.files;
    slots = z.slots;
    blocks = z.blocks;
  }
  pub live : (k : Key) → is_some (z.contents k) ≡ is_some (s.contents k)
  pub paging : length z.paging.named ≡ length s.paging.named
  pub files : length z.files.named ≡ length s.files.named
  pub stored : length z.blocks ≡ length s.blocks

-- no frame has a slot or a block behind it
abbrev pub NoneBacked : FrameLife → Type 0
NoneBacked l = (f : ℕ) → f < l.machine.frames → (record_at l.frames f).backing ≡ backing.None
