-- Words and numbers in the columns of a table.
-- Profile, "What a log shows".
use Rattle.std.specs.Prelude.{ℕ, ◌-◌, List, ◌++◌, length, replicate, flat_map}
use Rattle.mm_types.specs.{Text, decimal}

-- at the right end of a column of this width, or as it is where it is wider
unfoldable pub right_in : ℕ → Text → Text
right_in width word = replicate (width - length word) 32 ++ word

-- at the left end of it
unfoldable pub left_in : ℕ → Text → Text
left_in width word = word ++ replicate (width - length word) 32

-- numbers, each in a column of this width
abbrev pub numbers_in : ℕ → List ℕ → Text
numbers_in width ns = flat_map (λ n. right_in width (decimal n)) ns
