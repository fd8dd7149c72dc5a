use Rattle.std.proofs.Common.{◌≡◌, true, false, ◌∙◌, sym, ap, is_some}
use Rattle.mm_object_tables.proofs.{shown_is, lives_there}
use Rattle.mm_object_tables.proofs.tables.Tables.process.Goals as goal

pub unreachable-requires : goal.unreachable-requires
unreachable-requires c =
    let bad : true ≡ false = sym (lives_there c.self.inside c.args.self.now c.self.view_is c.args.pid.0 c.index.result.now c.requires.lives c.index.ensures) ∙ ap is_some c.in-None.is in
    cc

pub returns-clause-shown : goal.returns-clause-shown
returns-clause-shown c p lives =
    shown_is c.self.inside c.args.self.now c.self.view_is c.args.pid.0 c.index.result.now c.requires.lives c.index.ensures c.in-Some.process p c.in-Some.is lives
