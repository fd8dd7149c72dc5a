-- The first move of a run over a store that pages, and what its devices hold.
-- Profile, "A run".
use Rattle.std.specs.Prelude.{◌≡◌, true, List}
use Rattle.mm_types.specs.{Move, Key, MachineOf}
use Rattle.mm_types.specs.declared.moves.Move.TheVariants as move
use Rattle.mm_move_rules.specs.{FrameLife}
use Rattle.mm_world.specs.{Page, content_of}
use Rattle.mm_world.specs.World.{World}
use Rattle.mm_store.specs.{kind_of_machine, stored_of, is_on_device, bytes_on_devices}

abbrev pub first_move : MachineOf → Move
first_move m = move.At 1 (kind_of_machine m)

-- each key that the replay shows unchanged, with a slot or a block, has its bytes there
abbrev pub DevicesHold : World → FrameLife → List Page → List Page → Type 0
DevicesHold w l slots blocks =
    (k : Key) → is_on_device (stored_of l (l.stands k)) ≡ true →
    content_of w k ≡ bytes_on_devices slots blocks (stored_of l (l.stands k))
