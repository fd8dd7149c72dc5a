use Rattle.mm_pager.proofs.{give_legal, gives, readied_ready, went_give, zero_unframed}
use Rattle.mm_pager.proofs.faults.assign.Goals as goal

pub assign-requires : goal.assign-requires
assign-requires g c = record { legal = give_legal c.args.key (g.T.StateCalls.shown c.args.state.now) (g.T.StateCalls.shown c.ready_frame.new.state) (g.met.T.StateCalls.holds c.args.state.now) c.ready_frame.ensures.readies c.requires.touch c.requires.zero c.ready_frame.ensures.zeroed }

pub returns-clause-gave : goal.returns-clause-gave
returns-clause-gave g c =
    let s = g.T.StateCalls.shown c.args.state.now in
    let y = g.T.StateCalls.shown c.ready_frame.new.state in
    let z = g.T.StateCalls.shown c.assign.new.self in
    gives c.args.key c.assign.result s y z (readied_ready s y (g.met.T.StateCalls.holds c.args.state.now) c.ready_frame.ensures.readies) c.assign.ensures.made c.assign.ensures.rest c.assign.ensures.quiet
    (λ a n free. went_give a c.assign.result c.args.key s y z (g.met.T.StateCalls.holds c.args.state.now) c.ready_frame.ensures.readies c.assign.ensures.frame c.assign.ensures.made (zero_unframed _ c.requires.zero) n free)
