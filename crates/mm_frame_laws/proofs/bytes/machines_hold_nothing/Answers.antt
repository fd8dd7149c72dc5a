use Rattle.mm_frame_laws.proofs.{carries_start}
use Rattle.mm_frame_laws.proofs.bytes.machines_hold_nothing.Goals as goal

pub returns : goal.returns
returns c = carries_start
