use Rattle.std.proofs.Common.{ap, ◌∙◌}
use Rattle.mm_move_rules.specs.{FrameTable, with_record}
use Rattle.mm_pfn_database.proofs.{bound_fits, busy_off, now_left, now_settled}
use Rattle.mm_pfn_database.proofs.frames.Frames.rebind.Goals as goal

pub stand-requires : goal.stand-requires
stand-requires c = λ a. bound_fits c.args.self.now a c.args.f.0 c.requires.bound c.args.r c.requires.kept c.requires.written

pub returns-clause-left : goal.returns-clause-left
returns-clause-left c = λ e. c.stand.ensures.stood ∙ now_left c.args.self.now c.stand.ensures.placed c.args.f.0 c.requires.bound c.args.r e

pub returns-clause-settled : goal.returns-clause-settled
returns-clause-settled c = λ e. c.stand.ensures.stood ∙ now_settled c.args.self.now c.stand.ensures.placed c.args.f.0 c.requires.bound c.args.r e

pub returns-clause-stays : goal.returns-clause-stays
returns-clause-stays c = λ e d.
    let v = c.args.self.now in
    c.stand.ensures.stood ∙ now_left v c.stand.ensures.placed c.args.f.0 c.requires.bound c.args.r d
    ∙ ap (λ (t : FrameTable). record v { table = with_record t c.args.f.0 c.args.r }) (busy_off v c.stand.ensures.placed c.args.f.0 c.requires.bound e)
