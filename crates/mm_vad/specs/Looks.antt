-- What VirtualQuery tells of a page of a region, and how many pages in a row are alike in it.
-- Profile, "Answers".
use Rattle.std.specs.Prelude.{ℕ, Bool, true, false, ◌&&◌, ◌==◌, if◌then◌else◌, List, [], ◌∷◌, length, drop, take_while}
use Rattle.mm_vad.specs.declared.pages.Row.{Row}

-- whether a page is committed, its base protection, and whether it has a guard
pub record Look : Type 0 where
  pub committed : Bool
  pub prot : ℕ
  pub guard : Bool

-- a page that is not committed has protection 0 and no guard, whatever its row says
abbrev pub look_of : Row → Look
look_of row =
    if row.committed
    then record { committed = true; prot = row.prot.0; guard = row.guard }
    else record { committed = false; prot = 0; guard = false }

abbrev pub same_flag : Bool → Bool → Bool
same_flag true b = b
same_flag false true = false
same_flag false false = true

abbrev pub same_look : Look → Look → Bool
same_look a b = same_flag a.committed b.committed && (a.prot == b.prot) && same_flag a.guard b.guard

abbrev pub are_alike : Row → Row → Bool
are_alike a b = same_look (look_of a) (look_of b)

-- how many rows from the first on are alike
abbrev pub first_alike : List Row → ℕ
first_alike [] = 0
first_alike (row ∷ rows) = length (take_while (are_alike row) (row ∷ rows))

-- the same from row i on
abbrev pub run_from : List Row → ℕ → ℕ
run_from rows i = first_alike (drop i rows)
