-- What a state shows.
use Rattle.mm_types.specs.{Loans, Both}
use Rattle.mm_devices.specs.declared.Inject.{Ghosts as DeviceGhosts}
use Rattle.mm_log_writer.specs.{Ghosts as MovesGhosts}
use Rattle.mm_parts.specs.PartsShown as parts
use Rattle.mm_state.specs.declared.states.State.{State}
use Rattle.mm_state_calls.specs.{StateOf}
use Rattle.mm_devices.specs.{device_with}
use Rattle.mm_state.specs.Shown.{joined_state}

module _ {P F M : Type 0} {p : DeviceGhosts P} {f : DeviceGhosts F} {m : MovesGhosts M} where
  abbrev pub shown_state : State P F M p f m → StateOf
  shown_state s = joined_state (parts.shown_parts s.parts) (m.log s.moves) s.told
      (device_with (p.log s.paging) (p.named s.paging) (p.faults s.paging))
      (device_with (f.log s.files) (f.named s.files) (f.faults s.files)) (p.blocks s.paging)
      (f.blocks s.files)

  -- the references that it holds
  abbrev pub loans : State P F M p f m → Loans
  loans s = Both (Both (p.loans s.paging) (f.loans s.files)) (m.loans s.moves)
