-- Answers that lines can have, and answers that they cannot.
-- Profile, "Answers".
use Rattle.std.specs.Prelude.{Bool, List, [], ◌∷◌, codes, map}
use Rattle.mm_types.specs.{Text}
use Rattle.mm_log_walk.specs.AnswerForms.{can_answer}

pub record WorkedAnswer : Type 0 where
  pub word : Text
  pub answer : Text

abbrev pub answer_to : Text → Text → WorkedAnswer
answer_to w a = record { word = w; answer = a }

abbrev pub all_can : List WorkedAnswer → List Bool
all_can rows = map (λ r. can_answer r.word r.answer) rows

abbrev pub fitting_answers : List WorkedAnswer
fitting_answers =
    answer_to (codes "machine") (codes "ok 12") ∷ answer_to (codes "alloc") (codes "ok 0x00010000")
    ∷ answer_to (codes "read") (codes "ok 05FF") ∷ answer_to (codes "write") (codes "ok")
    ∷ answer_to (codes "begin") (codes "ok 07") ∷ answer_to (codes "begin") (codes "pending full")
    ∷ answer_to (codes "watch") (codes "ok 1 0x00010000") ∷ answer_to (codes "watch") (codes "ok 0")
    ∷ answer_to (codes "free") (codes "error 487") ∷ answer_to (codes "io") (codes "none") ∷ []

abbrev pub other_answers : List WorkedAnswer
other_answers =
    answer_to (codes "machine") (codes "ok") ∷ answer_to (codes "alloc") (codes "ok 16")
    ∷ answer_to (codes "read") (codes "ok") ∷ answer_to (codes "write") (codes "ok 05")
    ∷ answer_to (codes "write") (codes "pending read") ∷ answer_to (codes "free") (codes "error 3")
    ∷ answer_to (codes "io") (codes "error 6") ∷ answer_to (codes "alloc") (codes "raise 0xC0000005")
    ∷ answer_to (codes "trim") (codes "ok ") ∷ answer_to (codes "age") [] ∷ []

abbrev pub ten : Bool → List Bool
ten b = b ∷ b ∷ b ∷ b ∷ b ∷ b ∷ b ∷ b ∷ b ∷ b ∷ []
