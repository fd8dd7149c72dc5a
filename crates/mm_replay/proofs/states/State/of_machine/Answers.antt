use Rattle.std.proofs.Common.{ap}
use Rattle.mm_replay.specs.{InFlightOf}
use Rattle.mm_types.specs.declared.moves.LineKind.TheVariants as kind
use Rattle.mm_replay.proofs.{fresh_life, flagged_none}
use Rattle.mm_replay.proofs.states.State.of_machine.Goals as goal

pub returns : goal.returns
returns c =
    let a = c.args in
    fresh_life (record { frames = a.frames; slots = a.slots; depth = a.depth; blocks = a.blocks }) a.line (kind.Machine a.frames a.slots a.depth a.blocks) _ _ _ _ _ _ _ _
    c.new-4.ensures.items c.in_ok-table.ensures c.in_ok-free_slots.ensures c.new-keys.ensures.stands c.new-keys.ensures.paging
    (flagged_none _ a.blocks c.in_ok-added.ensures) c.new-places.ensures (ap (λ (v : InFlightOf). v.requests) c.in_ok-flight.ensures)
