-- A field between quotes, byte by byte.
use Rattle.std.proofs.Common.{◌≡◌, ℕ, Bool, true, false, [], ◌∷◌, ◌++◌, refl, append_assoc, append-nil}
use Rattle.std.specs.Prelude.{◌==◌, if◌then◌else◌}
use Rattle.mm_types.specs.{Text}
use Rattle.mm_csv.specs.{doubled}

-- one byte more
pub doubled_more : (c : ℕ) (cs : Text) → doubled (c ∷ []) ++ doubled cs ≡ doubled (c ∷ cs)
doubled_more c cs = pick (c == 34)
  where
    pick : (b : Bool) → (if b then 34 ∷ 34 ∷ [] else c ∷ []) ++ doubled cs ≡ (if b then 34 ∷ 34 ∷ doubled cs else c ∷ doubled cs)
    pick true = refl
    pick false = refl

pub ruleset doubling = (doubled_more, append_assoc)

pub ruleset joined = (append_assoc, append-nil)
