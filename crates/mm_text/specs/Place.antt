-- A word by its place.
-- Profile, "Script".
use Rattle.std.specs.Prelude.{slice_range}
use Rattle.mm_types.specs.{Text}
use Rattle.mm_text.specs.Word.{Word}
use Rattle.mm_text.specs.declared.spans.Span.{Span}

-- the word of a line that stands there
abbrev pub word_at : Text → Span → Word
word_at line s = record { from = s.from; text = slice_range line s.from s.to }
