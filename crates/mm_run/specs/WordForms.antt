-- Which form the words of a run are.
-- Profile, "A run".
use Rattle.std.specs.Prelude.{List, String}
use Rattle.std.specs.declared.alloc.Global.{Global}
use Rattle.mm_run.specs.declared.forms.WordsForm.{WordsForm}
use Rattle.mm_run.specs.declared.forms.WordsForm.TheVariants as form
use Rattle.mm_run.specs.Story.{IsRunForm}
use Rattle.mm_run.specs.Bulk.{IsBulk}

-- the words are this form
abbrev pub SaysForm : List (String Global) → WordsForm → Type 0
SaysForm words form.Run = IsRunForm words
SaysForm words (form.Bulk seed count) = IsBulk words seed count
