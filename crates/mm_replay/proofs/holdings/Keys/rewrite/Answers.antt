use Rattle.std.proofs.Common.{Some, sym, ap, ◌∙◌, arith}
use Rattle.std.specs.Prelude.{is_some}
use Rattle.mm_replay.proofs.{private_is, shared_is, private_written, shared_written}
use Rattle.mm_replay.proofs.holdings.Keys.rewrite.Goals as goal

pub change-requires : goal.change-requires
change-requires c =
    let s = c.args.self.now in
    sym (ap is_some (private_is s.pages s.indices c.args.key c.in-Private.pid c.in-Private.vpn c.from.result c.in-Private.is (omega arith))) ∙ c.requires

pub change-requires-in-Shared : goal.change-requires-in-Shared
change-requires-in-Shared c =
    let s = c.args.self.now in
    sym (ap is_some (shared_is s.pages s.indices c.args.key c.in-Shared.area c.in-Shared.index c.in-Shared.is)) ∙ c.requires

pub returns-in-Private : goal.returns-in-Private
returns-in-Private c =
    let s = c.args.self.now in
    private_written s.pages s.indices c.change.new.self c.args.key c.in-Private.pid c.in-Private.vpn c.from.result (Some c.args.alive) c.in-Private.is (omega arith) c.change.ensures

pub returns-in-Shared : goal.returns-in-Shared
returns-in-Shared c =
    let s = c.args.self.now in
    shared_written s.pages s.indices c.change-in-Shared.new.self c.args.key c.in-Shared.area c.in-Shared.index (Some c.args.alive) c.in-Shared.is c.change-in-Shared.ensures
