-- Windows' names of errors and statuses.
-- Profile, "Answers".
use Rattle.std.specs.Prelude.{List, [], ◌∷◌, Option, Some, None, codes}
use Rattle.mm_types.specs.{Text, Code, Raise}
use Rattle.mm_types.specs.declared.codes.Code.TheVariants as code
use Rattle.mm_types.specs.declared.codes.Raise.TheVariants as raise
use Rattle.mm_names.specs.{text_among}

-- the answers of calls that are refused, and what is raised, each with its name
abbrev pub error_names : List (Text × Text)
error_names =
    (codes "error 2", codes "ERROR_FILE_NOT_FOUND") ∷ (codes "error 5", codes "ERROR_ACCESS_DENIED")
    ∷ (codes "error 6", codes "ERROR_INVALID_HANDLE")
    ∷ (codes "error 87", codes "ERROR_INVALID_PARAMETER")
    ∷ (codes "error 183", codes "ERROR_ALREADY_EXISTS")
    ∷ (codes "error 487", codes "ERROR_INVALID_ADDRESS")
    ∷ (codes "error 1132", codes "ERROR_MAPPED_ALIGNMENT")
    ∷ (codes "error 1455", codes "ERROR_COMMITMENT_LIMIT") ∷ []

abbrev pub status_names : List (Text × Text)
status_names =
    (codes "raise 0x80000001", codes "STATUS_GUARD_PAGE_VIOLATION")
    ∷ (codes "raise 0xC0000005", codes "STATUS_ACCESS_VIOLATION")
    ∷ (codes "raise 0xC0000006", codes "STATUS_IN_PAGE_ERROR")
    ∷ (codes "raise 0xC00000FD", codes "STATUS_STACK_OVERFLOW") ∷ []

abbrev pub first_text : Option Text → Option Text → Option Text
first_text None other = other
first_text (Some t) other = Some t

-- the name of an answer that is an error or a status
abbrev pub failure_name : Text → Option Text
failure_name answer = first_text (text_among error_names answer) (text_among status_names answer)

-- ---- the same by code

abbrev pub code_name : Code → Text
code_name code.NotFound = codes "ERROR_FILE_NOT_FOUND"
code_name code.AccessDenied = codes "ERROR_ACCESS_DENIED"
code_name code.InvalidHandle = codes "ERROR_INVALID_HANDLE"
code_name code.InvalidParameter = codes "ERROR_INVALID_PARAMETER"
code_name code.AlreadyExists = codes "ERROR_ALREADY_EXISTS"
code_name code.InvalidAddress = codes "ERROR_INVALID_ADDRESS"
code_name code.Misaligned = codes "ERROR_MAPPED_ALIGNMENT"
code_name code.CommitmentLimit = codes "ERROR_COMMITMENT_LIMIT"

abbrev pub raise_name : Raise → Text
raise_name raise.GuardPage = codes "STATUS_GUARD_PAGE_VIOLATION"
raise_name raise.AccessViolation = codes "STATUS_ACCESS_VIOLATION"
raise_name raise.InPageError = codes "STATUS_IN_PAGE_ERROR"
raise_name raise.StackOverflow = codes "STATUS_STACK_OVERFLOW"
