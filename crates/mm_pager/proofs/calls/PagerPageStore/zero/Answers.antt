use Rattle.mm_pager.specs.{own_in, paged_state}
use Rattle.mm_pager.proofs.{by_clears, tidied_store, tidied_kept, zero_passes}
use Rattle.mm_pager.proofs.calls.PagerPageStore.zero.Goals as goal
use Rattle.mm_move_rules.specs.{is_touch}
use Rattle.std.proofs.Common.{ap}

pub returns-clause-store : goal.returns-clause-store
returns-clause-store g c =
    let s = paged_state c.args.self.now in
    let z = g.T.StateCalls.shown c.zero.new.state in
    tidied_store _ s z (own_in c.args.self.now) (by_clears c.args.n s z c.zero.ensures.cleared c.zero.ensures.rest) (g.met.T.StateCalls.holds c.args.self.now.state) (g.met.T.StateCalls.holds c.zero.new.state)

pub returns-clause-passes : goal.returns-clause-passes
returns-clause-passes g c = zero_passes c.args.n (paged_state c.args.self.now) (g.T.StateCalls.shown c.zero.new.state) (own_in c.args.self.now) (own_in c.args.self.now) c.zero.ensures.cleared c.zero.ensures.rest

pub invariant_of-self : goal.invariant_of-self
invariant_of-self g c =
    let s = paged_state c.args.self.now in
    let z = g.T.StateCalls.shown c.zero.new.state in
    record { kept = tidied_kept _ s z (own_in c.args.self.now) (by_clears c.args.n s z c.zero.ensures.cleared c.zero.ensures.rest) c.args.self.now.kept (ap is_touch c.requires.kind) }
