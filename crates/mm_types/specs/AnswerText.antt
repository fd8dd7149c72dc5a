-- The text of an answer.
-- Profile, "Answers".
use Rattle.std.specs.Prelude.{ℕ, if◌then◌else◌, List, [], ◌∷◌, ◌++◌, codes, map, length, flat_map}
use Rattle.mm_types.specs.declared.answers.Answer.{Answer}
use Rattle.mm_types.specs.declared.answers.Answer.TheVariants as answer
use Rattle.mm_types.specs.declared.answers.Why.{Why}
use Rattle.mm_types.specs.declared.answers.Why.TheVariants as why
use Rattle.mm_types.specs.declared.codes.Code.{Code}
use Rattle.mm_types.specs.declared.codes.Code.TheVariants as code
use Rattle.mm_types.specs.declared.codes.Raise.{Raise}
use Rattle.mm_types.specs.declared.codes.Raise.TheVariants as raise
use Rattle.mm_types.specs.Spelling.{Text, decimal, hex8, byte_pairs, spaced}

-- the number of an error code
abbrev pub code_number : Code → ℕ
code_number code.NotFound = 2
code_number code.AccessDenied = 5
code_number code.InvalidHandle = 6
code_number code.InvalidParameter = 87
code_number code.AlreadyExists = 183
code_number code.InvalidAddress = 487
code_number code.Misaligned = 1132
code_number code.CommitmentLimit = 1455

-- the number of a status that an access raises
abbrev pub status_number : Raise → ℕ
status_number raise.GuardPage = 0x80000001
status_number raise.AccessViolation = 0xC0000005
status_number raise.InPageError = 0xC0000006
status_number raise.StackOverflow = 0xC00000FD

abbrev pub why_text : Why → Text
why_text why.Read = codes "read"
why_text why.Frame = codes "frame"
why_text why.Full = codes "full"

abbrev pub ok_text : List Text → Text
ok_text parts = spaced (codes "ok") parts

-- the words of an answer: addresses, sizes, protections, states, types and statuses as `0x` and
-- eight digits, other numbers in decimal, bytes as pairs of digits
abbrev pub answer_text : Answer → Text
answer_text answer.Ok = codes "ok"
answer_text (answer.Limit limit) = ok_text (decimal limit ∷ [])
answer_text (answer.NewProcess pid) = ok_text (decimal pid.0 ∷ [])
answer_text (answer.At addr) = ok_text (hex8 addr ∷ [])
answer_text (answer.OldProt prot) = ok_text (hex8 prot.0 ∷ [])
answer_text (answer.Info i) =
    ok_text (hex8 i.base ∷ hex8 i.alloc_base ∷ hex8 i.alloc_prot ∷ hex8 i.size ∷ hex8 i.state ∷
    hex8 i.prot ∷ hex8 i.kind ∷ [])
answer_text (answer.Created handle existed) =
    ok_text (decimal handle ∷ decimal (if existed then 183 else 0) ∷ [])
answer_text (answer.Opened handle) = ok_text (decimal handle ∷ [])
answer_text (answer.Bytes bytes) = ok_text (byte_pairs bytes ∷ [])
answer_text (answer.Charge charge limit) = ok_text (decimal charge ∷ decimal limit ∷ [])
answer_text (answer.Counts c) =
    ok_text (decimal c.zeroed ∷ decimal c.free ∷ decimal c.standby ∷ decimal c.modified ∷
    decimal c.active ∷ decimal c.transition ∷ decimal c.free_slots ∷ decimal c.requests ∷ [])
answer_text (answer.Error why) = spaced (codes "error") (decimal (code_number why) ∷ [])
answer_text (answer.Raised status) = spaced (codes "raise") (hex8 (status_number status) ∷ [])
answer_text (answer.Pending what) = spaced (codes "pending") (why_text what ∷ [])
answer_text answer.Nothing = codes "none"
answer_text answer.Busy = codes "busy"
answer_text answer.Full = codes "full"
answer_text answer.Fault = codes "fault"
answer_text (answer.Watched pages) = ok_text (decimal (length pages) ∷ map hex8 pages)
answer_text (answer.Stack base size guard) = ok_text (hex8 base ∷ hex8 size ∷ hex8 guard ∷ [])

-- an answer's line
abbrev pub spelling : Answer → Text
spelling a = answer_text a ++ 0x0A ∷ []

-- the lines of some answers
abbrev pub spelled : List Answer → Text
spelled answers = flat_map spelling answers
