use Rattle.std.proofs.Common.{List, ap}
use Rattle.mm_vad.specs.{Chunk, chunks_of}
use Rattle.mm_vad.proofs.{no_chunks}
use Rattle.mm_vad.proofs.chunks.Chunks.new.Goals as goal

pub invariant_of-result : goal.invariant_of-result
invariant_of-result c = no_chunks c.in_ok-chunks.chunks.items c.in_ok-places.places.items _ c.in_ok-chunks.ensures.items c.in_ok-places.ensures.items

pub returns-clause-rows : goal.returns-clause-rows
unfolding chunks_of
returns-clause-rows c = ap (λ (cs : List Chunk). chunks_of cs c.in_ok-places.places.items) c.in_ok-chunks.ensures.items
