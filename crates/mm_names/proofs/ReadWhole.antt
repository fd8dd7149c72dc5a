-- All that a source gives was read.
use Rattle.std.proofs.Common.{◌≡◌, ◌+◌, ◌<◌, ◌≤◌, [], ◌∷◌, ◌++◌, length, Option, sym, subst, ◌∙◌}
use Rattle.mm_types.specs.{Text, Took}
use Rattle.mm_types.proofs.{took_none, took_then}
use Rattle.mm_names.specs.{IsManyBytes, most_bytes}

-- more bytes were read than a written file may have
pub many_read : (left mid left' : Option Text) (old new bytes : Text) → Took left mid old → Took mid left' bytes
    → new ≡ old ++ bytes → most_bytes < length new → IsManyBytes left left'
many_read left mid left' old new bytes u v e many = record {
  text = new;
  took = subst (λ (t : Text). Took left left' t) (sym e) (took_then left mid left' old bytes u v);
  many = many;
}

pub ruleset read_whole = (took_none)
