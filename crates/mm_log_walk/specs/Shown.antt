-- A line as the page's data has it.
-- Profile, "What a log shows".
use Rattle.std.specs.Prelude.{ℕ, Bool, ◌&&◌, ◌||◌, nat_le, ◌==◌, not, if◌then◌else◌, [], ◌∷◌}
use Rattle.std.specs.Prelude.{◌++◌, map, take}
use Rattle.mm_types.specs.{Text}

-- a byte that stands for itself in the page: printable ASCII, and none that could end or open
-- anything in HTML
abbrev pub is_plain_byte : ℕ → Bool
is_plain_byte c = nat_le 32 c && nat_le c 126 && not ((c == 38) || (c == 60))

abbrev pub shown_byte : ℕ → ℕ
shown_byte c = if is_plain_byte c then c else 63

-- the first 256 bytes of a line
abbrev pub shown_line : Text → Text
shown_line line = map shown_byte (take 256 line) ++ 10 ∷ []
