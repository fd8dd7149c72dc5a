use Rattle.std.proofs.Common.{ℕ, ap, List, ◌∷◌, [], option_map}
use Rattle.std.specs.Prelude.{nat_eq}
use Rattle.std.specs.Map.{lookup}
use Rattle.mm_types.specs.{SectionId}
use Rattle.mm_sections.specs.{section_number}
use Rattle.mm_sections.proofs.handles.Handles.new.Goals as goal

pub returns : goal.returns
returns c = ap (λ (es : List (ℕ × SectionId)). option_map section_number (lookup (nat_eq 0) es) ∷ []) c.new.ensures.empty
