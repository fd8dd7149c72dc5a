-- The keywords by their lengths, so that a word is compared with few: a tool of proof.
use Rattle.std.specs.Prelude.{ℕ, List, [], ◌∷◌, ◌==◌, if◌then◌else◌}
use Rattle.mm_script.specs.declared.keywords.Keyword.{Keyword}
use Rattle.mm_script.specs.declared.keywords.Keyword.TheVariants as keyword

abbrev pub four_letter_keywords : List Keyword
four_letter_keywords = keyword.Read ∷ keyword.Exit ∷ keyword.File ∷ keyword.Free ∷ keyword.Open ∷
    keyword.Exec ∷ keyword.Trim ∷ keyword.Fail ∷ keyword.Grow ∷ []

abbrev pub five_letter_keywords : List Keyword
five_letter_keywords = keyword.Write ∷ keyword.Alloc ∷ keyword.Query ∷ keyword.Close ∷
    keyword.Unmap ∷ keyword.Flush ∷ keyword.Begin ∷ keyword.Watch ∷ keyword.Stack ∷ keyword.Probe ∷
    []

abbrev pub six_letter_keywords : List Keyword
six_letter_keywords = keyword.Writer ∷ keyword.Create ∷ keyword.Resume ∷ keyword.Zeroer ∷
    keyword.Charge ∷ keyword.Counts ∷ []

abbrev pub other_keywords : List Keyword
other_keywords = keyword.Io ∷ keyword.Map ∷ keyword.Age ∷ keyword.Machine ∷ keyword.Process ∷
    keyword.Protect ∷ keyword.CreateFile ∷ keyword.ResetWatch ∷ []

abbrev pub keywords_of_length : ℕ → List Keyword
keywords_of_length n =
    if n == 4 then four_letter_keywords
    else if n == 5 then five_letter_keywords
    else if n == 6 then six_letter_keywords
    else other_keywords
