use Rattle.std.proofs.Common.{None, arith}
use Rattle.mm_replay.proofs.{private_written, shared_written}
use Rattle.mm_replay.proofs.holdings.Keys.forget.Goals as goal

pub returns-in-Private : goal.returns-in-Private
returns-in-Private c =
    let s = c.args.self.now in
    private_written s.pages s.indices c.remove.new.self c.args.key c.in-Private.pid c.in-Private.vpn c.from.result None c.in-Private.is (omega arith) c.remove.ensures.removed

pub returns-in-Shared : goal.returns-in-Shared
returns-in-Shared c =
    let s = c.args.self.now in
    shared_written s.pages s.indices c.remove-in-Shared.new.self c.args.key c.in-Shared.area c.in-Shared.index None c.in-Shared.is c.remove-in-Shared.ensures.removed
