use Rattle.std.proofs.Common.{List, refl, ap, ◌∙◌, arith}
use Rattle.mm_vad.specs.{Row, rows_joined}
use Rattle.mm_vad.proofs.{no-rows, written_as}
use Rattle.mm_vad.proofs.written.WrittenRows.new.Goals as goal

pub invariant_of-result : goal.invariant_of-result
invariant_of-result c = (
  no-rows c.in_ok-chunks.chunks.rows c.in_ok-rest.rest.items c.in_ok-chunks.ensures.rows c.in_ok-rest.ensures.items,
  record { within = omega (arith, c.in_ok-chunks.ensures.room); behind = omega (arith, c.in_ok-rest.ensures.capacity) },
)

pub returns : goal.returns
returns c =
    let rest = c.in_ok-rest.rest.items in
    written_as _ _ _ _ (ap (λ (cs : List (List Row)). rows_joined cs rest) c.in_ok-chunks.ensures.rows ∙ c.in_ok-rest.ensures.items) refl
