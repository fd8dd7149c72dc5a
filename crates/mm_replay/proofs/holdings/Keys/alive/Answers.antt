use Rattle.std.proofs.Common.{sym, ◌∙◌, arith}
use Rattle.mm_replay.proofs.{private_is, shared_is}
use Rattle.mm_replay.proofs.holdings.Keys.alive.Goals as goal

pub returns-in-Private : goal.returns-in-Private
returns-in-Private c = c.get.ensures ∙ sym (private_is c.args.self.now.pages c.args.self.now.indices c.args.key c.in-Private.pid c.in-Private.vpn c.from.result c.in-Private.is (omega arith))

pub returns-in-Shared : goal.returns-in-Shared
returns-in-Shared c = c.get-in-Shared.ensures ∙ sym (shared_is c.args.self.now.pages c.args.self.now.indices c.args.key c.in-Shared.area c.in-Shared.index c.in-Shared.is)
