-- What is written of a form, each exactly.
use Rattle.std.proofs.Common.{◌≡◌, ℕ, Bool, true, false, List, Option, Some, None, refl, sym, ap, ◌∙◌, subst}
use Rattle.std.specs.Prelude.{Result, Ok, Err, option_map}
use Rattle.mm_types.specs.{Text, Move}
use Rattle.mm_log_walk.specs.{Said, said_from_first, Answers, RestOf, beside, HasBytes, HasLines, FileFault, Sought}
use Rattle.mm_move_rules.specs.{unstarted}
use Rattle.mm_show.specs.{PageTexts, PageOf, form_said, form_sought, form_why, sums_said, FileIs, sums_text, sum_rest, SumTeller, Form, FileHas}
use Rattle.mm_show.specs.{IfGood, page_rest, PageTeller, page_said, whole_page_text}

abbrev read_as : Option (List Text) → Result (Option (List Text)) FileFault
read_as lines = Ok lines

abbrev ok_of : {V : Type 0} → Option V → Result (Option V) FileFault
ok_of o = Ok o

-- the lines that were read are those that are told
pub file_lines : (named : Bool) (left : Option (Option Text)) (lines s : Option (List Text)) → FileIs named left s
    → (named ≡ false → read_as lines ≡ read_as None) → (named ≡ true → HasLines left lines) → lines ≡ s
file_lines false left lines s f none has =
    let e : read_as lines ≡ read_as None = none refl in
    let none_is : lines ≡ None = cc in
    none_is ∙ sym f
file_lines true left None s f none has =
    absurd (subst (λ (o : Option (Option Text)). HasLines o None) f.1.0 (has refl))
file_lines true left (Some xs) s f none has =
    let lines : HasLines (Some (Some f.0)) (Some xs) = subst (λ (o : Option (Option Text)). HasLines o (Some xs)) f.1.0 (has refl) in
    ap Some (lines f.0 refl) ∙ sym f.1.1

-- and the bytes
pub file_bytes : {V : Type 0} (items : V → Text) (named : Bool) (left : Option (Option Text)) (bytes : Option V) (o : Option Text) → FileHas named left o
    → (named ≡ false → ok_of bytes ≡ ok_of None) → (named ≡ true → HasBytes left (option_map items bytes)) → option_map items bytes ≡ o
file_bytes items false left bytes o f none has =
    let e : ok_of bytes ≡ ok_of None = none refl in
    let none_is : bytes ≡ None = cc in
    ap (λ b. option_map items b) none_is ∙ sym f
file_bytes items true left None o f none has =
    absurd (subst (λ (x : Option (Option Text)). HasBytes x None) f.1.0 (has refl))
file_bytes items true left (Some v) o f none has =
    let bytes : HasBytes (Some (Some f.0)) (Some (items v)) = subst (λ (x : Option (Option Text)). HasBytes x (Some (items v))) f.1.0 (has refl) in
    ap Some (bytes f.0 refl) ∙ sym f.1.1

-- what a teller says from the first move on is what its form says
pub said_is : (rest : RestOf) (said : Said) → ((whole : Bool) (moves : List Move) → rest whole unstarted moves ≡ said whole moves) → said_from_first rest ≡ said
said_is rest said e = λ i. λ whole. λ moves. e whole moves i

-- the sums, of a log that ends well or does not
pub said_sums : (t : SumTeller) → ((moves : List Move) → sum_rest t true unstarted moves ≡ sums_text moves) → said_from_first (sum_rest t) ≡ sums_said
said_sums t e = λ i. λ whole. λ moves. by whole moves i
  where
    by : (whole : Bool) (moves : List Move) → said_from_first (sum_rest t) whole moves ≡ sums_said whole moves
    by true moves = e moves
    by false moves = refl

-- a page says nothing of a log that does not end well
pub said_page : (t : PageTeller) (p : PageOf) (script answers : Option (List Text)) → ((moves : List Move) → page_rest t true unstarted moves ≡ whole_page_text p script answers moves) → said_from_first (page_rest t) ≡ page_said p script answers
said_page t p script answers e = λ i. λ whole. λ moves. by whole moves i
  where
    by : (whole : Bool) (moves : List Move) → page_rest t whole unstarted moves ≡ page_said p script answers whole moves
    by true moves = e moves
    by false moves = refl

-- told by the form that was asked for
pub told_as : (f g : Form) (p : PageOf) (script answers : Option (List Text)) (left left' took took' : Option Text) (sought : Sought) (said : Said) (status : ℕ) → f ≡ g → sought ≡ form_sought f
    → said ≡ form_said g p script answers → Answers left left' took took' (beside script answers) sought said (form_why g) status
    → Answers left left' took took' (beside script answers) (form_sought f) (form_said f p script answers) (form_why f) status
told_as f g p script answers left left' took took' sought said status e asked same h =
    subst (λ (s : Sought). Answers left left' took took' (beside script answers) s (form_said f p script answers) (form_why f) status) asked
    (subst (λ (x : Form). Answers left left' took took' (beside script answers) sought (form_said x p script answers) (form_why x) status) (sym e)
    (subst (λ (y : Said). Answers left left' took took' (beside script answers) sought y (form_why g) status) same h))

-- what is said with the packed text, of each
pub good_map : (r : Result Text ℕ) (took took' : Option Text) (result : ℕ) (A B : Text → Type 0) → ((text : Text) → A text → B text) → IfGood r took took' result A → IfGood r took took' result B
good_map (Ok text) took took' result A B f h = f text h
good_map (Err n) took took' result A B f h = h

-- observations that are good, and a row that is not
pub good_told : (r : Result Text ℕ) (text : Text) (took took' : Option Text) (result : ℕ) (A : Text → Type 0) → r ≡ Ok text → A text → IfGood r took took' result A
good_told r text took took' result A e h = subst (λ (x : Result Text ℕ). IfGood x took took' result A) (sym e) h
