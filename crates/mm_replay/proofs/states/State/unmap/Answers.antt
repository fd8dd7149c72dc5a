use Rattle.std.proofs.Common.{sym}
use Rattle.mm_replay.proofs.states.State.unmap.Goals as goal

pub unmap-requires : goal.unmap-requires
unmap-requires c = c.requires.shared c.args.place c.in-Some.frame (sym c.in-Some.ensures.value)
