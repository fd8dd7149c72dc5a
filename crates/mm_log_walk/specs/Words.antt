-- The first word of a line, and what it is of an access.
-- Profile, "What a log shows".
use Rattle.std.specs.Prelude.{Bool, ◌||◌, bytes_eq, codes, ◌==◌, if◌then◌else◌, [], ◌∷◌}
use Rattle.mm_types.specs.{Text}

-- the bytes before the first space
abbrev pub first_word : Text → Text
first_word [] = []
first_word (c ∷ cs) = if c == 32 then [] else c ∷ first_word cs

-- the lines that use pages, or let a thread use them
abbrev pub is_access_word : Text → Bool
is_access_word w =
    bytes_eq w (codes "read") || bytes_eq w (codes "write") || bytes_eq w (codes "exec")

abbrev pub is_thread_word : Text → Bool
is_thread_word w = bytes_eq w (codes "begin") || bytes_eq w (codes "resume")
