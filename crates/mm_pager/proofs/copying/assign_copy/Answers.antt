use Rattle.std.proofs.Common.{◌≡◌, Some, rules}
use Rattle.mm_pager.proofs.{copy_given, copy_gives, copy_legal}
use Rattle.mm_pager.proofs.copying.assign_copy.Goals as goal

pub assign-requires : goal.assign-requires
assign-requires g c = record { legal = copy_gives c.args.place (g.T.StateCalls.shown c.args.state.now) (g.T.StateCalls.shown c.ready_frame.new.state) (g.T.StateCalls.shown c.add_zero.new.self) (g.met.T.StateCalls.holds c.args.state.now) c.ready_frame.ensures.readies c.ready_frame.ensures.zeroed c.requires.touch c.add_zero.ensures.made }

pub returns-clause-gave : goal.returns-clause-gave
returns-clause-gave g c =
    let aside : (g.T.StateCalls.shown c.add_zero.new.self).aside ≡ Some c.args.place = search rules in
    copy_given c.args.place c.assign.result (g.T.StateCalls.shown c.args.state.now) (g.T.StateCalls.shown c.ready_frame.new.state) (g.T.StateCalls.shown c.add_zero.new.self) (g.T.StateCalls.shown c.assign.new.self) _ (g.met.T.StateCalls.holds c.args.state.now) (g.met.T.StateCalls.holds c.assign.new.self) c.requires.may.dead
    c.ready_frame.ensures.readies c.add_zero.ensures.made c.add_zero.ensures.rest aside c.assign.ensures.frame c.assign.ensures.made c.assign.ensures.rest c.assign.ensures.quiet

pub add_zero-requires-clause-legal : goal.add_zero-requires-clause-legal
add_zero-requires-clause-legal g c = copy_legal c.args.place (g.T.StateCalls.shown c.args.state.now) (g.T.StateCalls.shown c.ready_frame.new.state) (g.met.T.StateCalls.holds c.args.state.now) (g.met.T.StateCalls.holds c.ready_frame.new.state) c.ready_frame.ensures.readies c.requires.may.dead c.requires.may.room c.requires.touch c.requires.may.shows
