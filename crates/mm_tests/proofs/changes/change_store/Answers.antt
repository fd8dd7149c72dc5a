use Rattle.mm_pager.specs.{own_in}
use Rattle.mm_state.specs.{shown_state}
use Rattle.mm_tests.proofs.{still_kept, still_fits, same_line}
use Rattle.mm_tests.proofs.changes.change_store.Goals as goal

pub invariant_of-store : goal.invariant_of-store
invariant_of-store g c = record { kept = still_kept (shown_state c.args.store.now.state) _ _ c.change_state.ensures c.args.store.now.kept }

pub returns-clause-fits : goal.returns-clause-fits
returns-clause-fits g c = λ t h. still_fits t (shown_state c.args.store.now.state) _ (own_in c.args.store.now) c.change_state.ensures h

pub returns-clause-line : goal.returns-clause-line
returns-clause-line g c = same_line (shown_state c.args.store.now.state) _ (own_in c.args.store.now) c.change_state.ensures
