use Rattle.std.proofs.Common.{◌≡◌, ◌-◌, drop}
use Rattle.mm_replay.specs.Standing.{life}
use Rattle.mm_sentences.specs.{none_free}
use Rattle.mm_sentences.proofs.refusals.none_below.Given as goal

abbrev pub invariant-loop-below : goal.invariant-loop-below
invariant-loop-below l = none_free (l.fn.slot.0 - l.below) (drop l.below (life l.life).free_slots) ≡ none_free l.fn.slot.0 (life l.life).free_slots
