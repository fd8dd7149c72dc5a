use Rattle.std.proofs.Common.{ap}
use Rattle.mm_state_calls.specs.{StateOf}
use Rattle.mm_pager.specs.{own_in, paged_state}
use Rattle.mm_pager.proofs.{by_trim, tidied_store, tidied_kept, trim_passes}
use Rattle.mm_pager.proofs.calls.PagerPageStore.trim.Goals as goal
use Rattle.mm_move_rules.specs.{is_touch}

pub returns-clause-store : goal.returns-clause-store
returns-clause-store g c =
    let s = paged_state c.args.self.now in
    let z = g.T.StateCalls.shown c.trim.new.state in
    tidied_store _ s z (own_in c.args.self.now) (by_trim c.args.pid c.args.n s z c.trim.ensures.trimmed) (g.met.T.StateCalls.holds c.args.self.now.state) (g.met.T.StateCalls.holds c.trim.new.state)

pub returns-clause-contents : goal.returns-clause-contents
returns-clause-contents g c = ap (λ (s : StateOf). s.contents) c.trim.ensures.trimmed.same

pub returns-clause-passes : goal.returns-clause-passes
returns-clause-passes g c = trim_passes c.args.pid c.args.n (paged_state c.args.self.now) (g.T.StateCalls.shown c.trim.new.state) (own_in c.args.self.now) (own_in c.args.self.now) c.trim.ensures.trimmed

pub invariant_of-self : goal.invariant_of-self
invariant_of-self g c =
    let s = paged_state c.args.self.now in
    let z = g.T.StateCalls.shown c.trim.new.state in
    record { kept = tidied_kept _ s z (own_in c.args.self.now) (by_trim c.args.pid c.args.n s z c.trim.ensures.trimmed) c.args.self.now.kept (ap is_touch c.requires.kind) }
