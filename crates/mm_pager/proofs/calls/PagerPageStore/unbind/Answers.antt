use Rattle.std.proofs.Common.{ap, ◌∙◌, false, ◌+◌}
use Rattle.mm_state_calls.specs.{StateOf}
use Rattle.mm_store.specs.Housekeeping.{Ends}
use Rattle.mm_store.specs.{page_rank}
use Rattle.mm_store.proofs.{turns_same}
use Rattle.mm_pager.specs.{store, paged_behind, own_in, paged_state}
use Rattle.mm_pager.proofs.{pages_low, pages_open, may_let_pages, in_pages, unbound_store, unbound_passes, all_among, all_places}
use Rattle.mm_pager.proofs.calls.PagerPageStore.unbind.Goals as goal

pub returns-then-n-eq0-clause-passes : goal.returns-then-n-eq0-clause-passes
returns-then-n-eq0-clause-passes g c held from to a = turns_same false (Ends held from to) (store c.args.self.now) (paged_behind c.args.self.now)

pub let_all_go-requires-clause-open : goal.let_all_go-requires-clause-open
let_all_go-requires-clause-open g c = pages_open (paged_state c.args.self.now) (own_in c.args.self.now) c.args.pid c.args.first.0 c.args.n (g.met.T.StateCalls.holds c.args.self.now.state) c.requires.bound c.if-n-eq0.false

pub let_all_go-requires-clause-may : goal.let_all_go-requires-clause-may
let_all_go-requires-clause-may g c page l h = may_let_pages (paged_state c.args.self.now) (own_in c.args.self.now) c.args.pid (record { first = c.args.first.0; count = c.args.n }) (g.met.T.StateCalls.holds c.args.self.now.state) c.requires.kind page (in_pages c.args.first.0 c.args.n page l h)

pub let_all_go-requires-clause-low : goal.let_all_go-requires-clause-low
let_all_go-requires-clause-low g c = pages_low (paged_state c.args.self.now) (own_in c.args.self.now) c.args.pid c.args.first.0 c.args.n (g.met.T.StateCalls.holds c.args.self.now.state) c.requires.bound c.if-n-eq0.false

pub unbind-requires-clause-open : goal.unbind-requires-clause-open
unbind-requires-clause-open g c = ap (λ (x : StateOf). x.is_open c.args.pid.0) c.let_all_go.ensures.thins.same ∙ pages_open (paged_state c.args.self.now) (own_in c.args.self.now) c.args.pid c.args.first.0 c.args.n (g.met.T.StateCalls.holds c.args.self.now.state) c.requires.bound c.if-n-eq0.false

pub returns-clause-store : goal.returns-clause-store
returns-clause-store g c = unbound_store (paged_state c.args.self.now) (g.T.StateCalls.shown c.let_all_go.new.state) (g.T.StateCalls.shown c.unbind.new.self) (own_in c.args.self.now) c.args.pid (record { first = c.args.first.0; count = c.args.n }) (g.met.T.StateCalls.holds c.args.self.now.state) (g.met.T.StateCalls.holds c.let_all_go.new.state) c.let_all_go.ensures.thins
    (c.let_all_go.ensures.went all_places 0 (page_rank (c.args.first.0 + c.args.n)) (all_among c.args.pid (record { first = c.args.first.0; count = c.args.n }))) c.unbind.ensures.rest

pub returns-clause-passes : goal.returns-clause-passes
returns-clause-passes g c held from to a = unbound_passes (paged_state c.args.self.now) (g.T.StateCalls.shown c.let_all_go.new.state) (g.T.StateCalls.shown c.unbind.new.self) (own_in c.args.self.now) _ c.args.pid (record { first = c.args.first.0; count = c.args.n }) held from to (c.let_all_go.ensures.went held from to a) c.unbind.ensures.rest
