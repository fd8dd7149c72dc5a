use Rattle.std.proofs.Common.{ap, sym}
use Rattle.std.specs.Prelude.{is_some}
use Rattle.mm_replay.proofs.states.State.drop_key.Goals as goal

pub drop_page-requires-clause-owned : goal.drop_page-requires-clause-owned
drop_page-requires-clause-owned c = ap is_some (c.requires.sound.owned.back c.args.key c.in-Frame.frame (sym c.in-Frame.ensures))
