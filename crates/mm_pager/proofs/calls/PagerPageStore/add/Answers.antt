use Rattle.std.proofs.Common.{ap, ◌∙◌}
use Rattle.mm_world.specs.{filled}
use Rattle.mm_state_calls.specs.{StateOf}
use Rattle.mm_pager.specs.{own_in, paged_state}
use Rattle.mm_pager.proofs.{changed_keys, adds_passes, added_store, stands_nowhere}
use Rattle.mm_pager.proofs.calls.PagerPageStore.add.Goals as goal

pub returns-clause-contents : goal.returns-clause-contents
unfolding filled
returns-clause-contents g c = ap (λ (s : StateOf). s.contents) c.add_zero.ensures.rest ∙ changed_keys _ c.args.key _

pub returns-clause-passes : goal.returns-clause-passes
returns-clause-passes g c = adds_passes c.args.key _ _ (own_in c.args.self.now) _ c.add_zero.ensures.made (ap (λ (s : StateOf). s.slots) c.add_zero.ensures.rest)

pub returns-clause-store : goal.returns-clause-store
returns-clause-store g c = added_store (paged_state c.args.self.now) (g.T.StateCalls.shown c.add_zero.new.self) (own_in c.args.self.now) c.args.key _ _ (stands_nowhere (paged_state c.args.self.now) c.args.key (g.met.T.StateCalls.holds c.args.self.now.state) c.requires.dead) c.add_zero.ensures.made c.add_zero.ensures.rest
