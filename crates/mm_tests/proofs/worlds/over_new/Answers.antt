use Rattle.std.proofs.Common.{ap}
use Rattle.mm_state_calls.specs.{StateOf}
use Rattle.mm_tests.proofs.{is_new}
use Rattle.mm_tests.proofs.worlds.over_new.Goals as goal

pub over-store-requires-clause-unused : goal.over-store-requires-clause-unused
over-store-requires-clause-unused g c = λ b. ap (λ (z : StateOf). z.life.added b) c.in-Ok.ensures.starts.shows

pub first-world-requires : goal.first-world-requires
first-world-requires g c =
    is_new _ _ _ _ _ _ _ c.new-machine.ensures c.requires.blocks c.requires.none_named c.requires.no_file_named c.in-Ok.ensures.starts _ _ c.over-store.ensures.contents c.over-store.ensures.store
