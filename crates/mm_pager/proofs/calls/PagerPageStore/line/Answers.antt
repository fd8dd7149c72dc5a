use Rattle.std.proofs.Common.{ap}
use Rattle.mm_types.specs.declared.moves.Move.TheVariants as move
use Rattle.mm_state_calls.specs.{StateOf}
use Rattle.mm_pager.specs.{own_in}
use Rattle.mm_pager.proofs.{line_store, one_passes}
use Rattle.mm_pager.proofs.calls.PagerPageStore.line.Goals as goal

pub returns-clause-store : goal.returns-clause-store
returns-clause-store g c = line_store _ _ (own_in c.args.self.now) c.args.line c.args.kind c.requires.kind c.at.ensures.made c.at.ensures.rest

pub returns-clause-passes : goal.returns-clause-passes
returns-clause-passes g c = one_passes (move.At c.args.line c.args.kind) _ _ (own_in c.args.self.now) _ c.at.ensures.made (ap (λ (s : StateOf). s.slots) c.at.ensures.rest)
