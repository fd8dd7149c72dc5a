-- The parts that are tested one by one: all but the last of each move.
use Rattle.std.specs.Prelude.{ℕ, zero, suc, not, Bool, true, false, ◌&&◌, List, [], ◌∷◌}
use Rattle.std.specs.List.{list_all}
use Rattle.mm_move_rules.specs.{FrameLife}
use Rattle.mm_sentences.specs.Parts.{part_holds}
use Rattle.mm_sentences.specs.declared.parts.Part.{Part}
use Rattle.mm_sentences.specs.declared.parts.Part.TheVariants as part

abbrev pub is_tested : Part → Bool
is_tested (part.MachineRange k) = false
is_tested (part.FewProcesses pid) = false
is_tested (part.FewSlots n) = false
is_tested (part.CallOrCopy k) = false
is_tested (part.BlockNew b) = false
is_tested (part.Unmapped k) = false
is_tested part.Zeroes = false
is_tested part.Access = false
is_tested part.AccessReads = false
is_tested part.IoOrAccess = false
is_tested (part.BelowMax pid) = false
is_tested (part.MayEnd p) = false
is_tested part.WritesSlot = false
is_tested (part.WritesBlock f) = false
is_tested part.IoAccessOrCall = false
is_tested _ = true

abbrev pub are_tested : List Part → Bool
are_tested parts = list_all is_tested parts

-- each of the parts holds
abbrev pub all_hold : FrameLife → List Part → Bool
all_hold l [] = true
all_hold l (p ∷ ps) = part_holds l p && all_hold l ps

-- none of the first slots is free
abbrev pub none_free : ℕ → List Bool → Bool
none_free zero frees = true
none_free (suc s) [] = true
none_free (suc s) (free ∷ rest) = not free && none_free s rest
