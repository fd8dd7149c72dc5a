use Rattle.mm_pager.proofs.{none_next, past_next, gone_next, next_at, may_legal, valid_in}
use Rattle.mm_store.specs.{place_at}
use Rattle.mm_pager.proofs.releasing.let_next_go.Goals as goal

pub returns-in-None-clause-gone : goal.returns-in-None-clause-gone
returns-in-None-clause-gone g c = none_next (g.T.StateCalls.shown c.args.state.now) c.args.pid c.args.from c.args.end c.next_valid.result c.in-None.is c.requires.some c.next_valid.ensures

pub unmap-requires : goal.unmap-requires
unmap-requires g c =
    let s = g.T.StateCalls.shown c.args.state.now in
    let next = next_at (valid_in s c.args.pid) c.args.from c.next_valid.result c.in-Some.vpn c.in-Some.is c.next_valid.ensures in
    record { legal = may_legal s (place_at c.args.pid c.in-Some.vpn.0) next.held (c.requires.may c.in-Some.vpn.0 next.low c.if-vpn-end.true) }

pub returns-then-vpn-end-clause-gone : goal.returns-then-vpn-end-clause-gone
returns-then-vpn-end-clause-gone g c =
    let s = g.T.StateCalls.shown c.args.state.now in
    gone_next s (g.T.StateCalls.shown c.unmap.new.self) c.args.pid c.args.from c.args.end c.in-Some.vpn.0 c.if-vpn-end.true
    (next_at (valid_in s c.args.pid) c.args.from c.next_valid.result c.in-Some.vpn c.in-Some.is c.next_valid.ensures) c.unmap.ensures.made c.unmap.ensures.rest

pub returns-else-vpn-end-clause-gone : goal.returns-else-vpn-end-clause-gone
returns-else-vpn-end-clause-gone g c =
    let s = g.T.StateCalls.shown c.args.state.now in
    past_next s c.args.pid c.args.from c.args.end c.in-Some.vpn.0 c.requires.some c.if-vpn-end.false
    (next_at (valid_in s c.args.pid) c.args.from c.next_valid.result c.in-Some.vpn c.in-Some.is c.next_valid.ensures)
