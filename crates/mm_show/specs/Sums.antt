-- How many moves are of each class, and how many lines of each kind.
-- Profile, "What a log shows".
use Rattle.std.specs.Prelude.{slice_index, ℕ, Bool, false, ◌==◌, if◌then◌else◌, List, [], ◌∷◌}
use Rattle.std.specs.Prelude.{◌++◌, flat_map}
use Rattle.std.specs.Prelude.{count_by, codes}
use Rattle.mm_types.specs.{Text, decimal, Move}
use Rattle.mm_types.specs.declared.moves.Move.TheVariants as move
use Rattle.mm_move_classes.specs.{classes, class_count, kind_code, code_of, Class}
use Rattle.mm_show.specs.Words.{all_classes}
use Rattle.mm_show.specs.declared.sums.KindName.{KindName}
use Rattle.mm_show.specs.declared.sums.KindName.TheVariants as kind

-- how many there are of something, where there is one
abbrev pub counted_row : Text → ℕ → Text
counted_row name n = if n == 0 then [] else name ++ 32 ∷ (decimal n ++ 10 ∷ [])

-- the line begins with this move, and is of the kind of this code
abbrev pub is_kind : ℕ → Move → Bool
is_kind code (move.At n k) = kind_code k == code
is_kind code _ = false

abbrev pub class_sum_row : (Class → ℕ) → Class → Text
class_sum_row count c = counted_row (code_of c ∷ []) (count c)

abbrev pub class_sums : (Class → ℕ) → Text
class_sums count = flat_map (class_sum_row count) all_classes

abbrev pub kind_name_text : KindName → Text
kind_name_text kind.Machine = codes "at machine"
kind_name_text kind.Process = codes "at process"
kind_name_text kind.Grow = codes "at grow"
kind_name_text kind.Access = codes "at access"
kind_name_text kind.Thread = codes "at thread"
kind_name_text kind.Trim = codes "at trim"
kind_name_text kind.Unbind = codes "at unbind"
kind_name_text kind.Writer = codes "at writer"
kind_name_text kind.Zeroer = codes "at zeroer"
kind_name_text kind.Io = codes "at io"
kind_name_text kind.Call = codes "at call"

-- the code of the kind in the page's data
abbrev pub kind_letter : KindName → ℕ
kind_letter kind.Machine = 0x4D
kind_letter kind.Process = 0x50
kind_letter kind.Grow = 0x4E
kind_letter kind.Access = 0x61
kind_letter kind.Thread = 0x74
kind_letter kind.Trim = 0x72
kind_letter kind.Unbind = 0x75
kind_letter kind.Writer = 0x77
kind_letter kind.Zeroer = 0x7A
kind_letter kind.Io = 0x69
kind_letter kind.Call = 0x63

-- the kinds, in the order in which they are told
abbrev pub all_kinds : List KindName
all_kinds =
    kind.Machine ∷ kind.Process ∷ kind.Grow ∷ kind.Access ∷ kind.Thread ∷ kind.Trim ∷ kind.Unbind ∷
    kind.Writer ∷ kind.Zeroer ∷ kind.Io ∷ kind.Call ∷ []

abbrev pub kind_row : (ℕ → ℕ) → KindName → Text
kind_row count k = counted_row (kind_name_text k) (count (kind_letter k))

abbrev pub kind_sums : (ℕ → ℕ) → Text
kind_sums count = flat_map (kind_row count) all_kinds

-- numbers that are kept by code
abbrev pub code_count : List ℕ → Class → ℕ
code_count counts c = slice_index counts (code_of c)

abbrev pub sums_text : List Move → Text
sums_text moves =
    class_sums (λ c. class_count c (classes moves)) ++ kind_sums (λ k. count_by (is_kind k) moves)
