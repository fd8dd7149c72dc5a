use Rattle.mm_pager.specs.{own_in, paged_state}
use Rattle.mm_pager.proofs.{may_let_own, paging_lives, drop_legal, removed_store, removed_contents, removed_passes}
use Rattle.mm_pager.proofs.calls.PagerPageStore.remove.Goals as goal

pub let_own_go-requires : goal.let_own_go-requires
let_own_go-requires g c = record { may = may_let_own c.args.key (paged_state c.args.self.now) (own_in c.args.self.now) (g.met.T.StateCalls.holds c.args.self.now.state) c.requires.live (paging_lives (paged_state c.args.self.now) c.args.key (g.met.T.StateCalls.holds c.args.self.now.state) c.requires.live) c.requires.kind }

pub drop_key-requires : goal.drop_key-requires
drop_key-requires g c = record { legal = drop_legal c.args.key (paged_state c.args.self.now) (g.T.StateCalls.shown c.let_own_go.new.state) (own_in c.args.self.now) (g.met.T.StateCalls.holds c.let_own_go.new.state) c.let_own_go.ensures.gone c.requires.live c.requires.kind }

pub returns-clause-store : goal.returns-clause-store
returns-clause-store g c = removed_store c.args.key (paged_state c.args.self.now) (g.T.StateCalls.shown c.let_own_go.new.state) (g.T.StateCalls.shown c.drop_key.new.self) (own_in c.args.self.now) (g.met.T.StateCalls.holds c.args.self.now.state) (g.met.T.StateCalls.holds c.let_own_go.new.state) (g.met.T.StateCalls.holds c.drop_key.new.self) c.let_own_go.ensures.gone c.requires.live c.drop_key.ensures.made c.drop_key.ensures.rest

pub returns-clause-passes : goal.returns-clause-passes
returns-clause-passes g c = removed_passes c.args.key (paged_state c.args.self.now) (g.T.StateCalls.shown c.let_own_go.new.state) (g.T.StateCalls.shown c.drop_key.new.self) (own_in c.args.self.now) _ (g.met.T.StateCalls.holds c.args.self.now.state) c.let_own_go.ensures.gone c.drop_key.ensures.made c.drop_key.ensures.rest

pub returns-clause-contents : goal.returns-clause-contents
returns-clause-contents g c = removed_contents c.args.key (paged_state c.args.self.now) (g.T.StateCalls.shown c.let_own_go.new.state) (g.T.StateCalls.shown c.drop_key.new.self) c.let_own_go.ensures.gone c.drop_key.ensures.rest
