-- What is asked of a log.
-- Profile, "What a log shows".
use Rattle.std.specs.Prelude.{ℕ, Bool, true, false, ◌==◌, bytes_eq, if◌then◌else◌, List, [], ◌∷◌}
use Rattle.std.specs.Prelude.{length, Option, Some, None, codes, option_map, slice_index_or}
use Rattle.std.specs.Prelude.{◌&&◌, nat_le}
use Rattle.std.specs.Prelude.{◌-◌, ◌/◌, nat_lt}
use Rattle.std.specs.Prelude.{option_and_then}
use Rattle.std.specs.List.{list_any}
use Rattle.mm_types.specs.{Text, Key}
use Rattle.mm_types.specs.declared.numbers.Key.TheVariants.{Private, Shared}
use Rattle.mm_text.specs.{number_of}
use Rattle.mm_arguments.specs.{is_dashed}
use Rattle.mm_reports.specs.{before, after_byte}
use Rattle.mm_reports.specs.declared.styles.Style.TheVariants as style
use Rattle.mm_show.specs.declared.forms.Form.{Form}
use Rattle.mm_show.specs.declared.forms.Form.TheVariants as form
use Rattle.mm_show.specs.declared.forms.Files.{Files}
use Rattle.mm_show.specs.declared.forms.Files.TheVariants as files

-- a word by its place
abbrev pub asked_word : List Text → ℕ → Text
asked_word words place = slice_index_or words place []

-- ---- numbers and keys

-- a line's number, 1 to 1,000,000
abbrev pub line_among : ℕ → Option ℕ
line_among n = if nat_le 1 n && nat_le n 1000000 then Some n else None

abbrev pub line_asked_for : Text → Option ℕ
line_asked_for word = option_and_then line_among (number_of word)

-- a process's number, below 256
abbrev pub pid_among : ℕ → Option ℕ
pid_among n = if nat_lt n 256 then Some n else None

abbrev pub pid_of : Text → Option ℕ
pid_of word = option_and_then pid_among (number_of word)

abbrev pub private_key_asked : Option ℕ → Option ℕ → Option Key
private_key_asked None page = None
private_key_asked (Some pid) None = None
private_key_asked (Some pid) (Some page) = Some (Private (record { 0 = pid }) (record { 0 = page }))

abbrev pub shared_key_asked : Option ℕ → Option ℕ → Option Key
shared_key_asked None index = None
shared_key_asked (Some area) None = None
shared_key_asked (Some area) (Some index) = Some (Shared (record { 0 = area }) index)

-- the page that holds an address
abbrev pub page_asked : Text → Option ℕ
page_asked word = option_map (λ address. address / 4096) (number_of word)

-- `p1.16`, `s0.2`, or a process and an address, `1:0x11000`
abbrev pub key_asked : Text → Option Key
key_asked [] = None
key_asked (c ∷ cs) =
    if c == 112 then private_key_asked (pid_of (before 46 cs)) (number_of (after_byte 46 cs))
    else if c == 115 then shared_key_asked (number_of (before 46 cs)) (number_of (after_byte 46 cs))
    else private_key_asked (pid_of (before 58 (c ∷ cs))) (page_asked (after_byte 58 (c ∷ cs)))

-- ---- forms

-- the files that so many values name
abbrev pub files_beside : ℕ → Option Files
files_beside count =
    if count == 0 then Some files.None
    else if count == 1 then Some files.Script
    else if count == 2 then Some files.Both
    else None

-- those of a page
abbrev pub page_files : ℕ → Option Files
page_files count = if count == 3 then Some files.Observed else files_beside count

-- a form without values
abbrev pub alone : Form → ℕ → Option Form
alone f count = if count == 0 then Some f else None

-- a form with one value that was read
abbrev pub with_one : {A : Type 0} → (A → Form) → Option A → ℕ → Option Form
with_one make read count = if count == 1 then option_map make read else None

-- the value is the word `csv`
abbrev pub is_csv : Text → Bool
is_csv value = bytes_eq value (codes "csv")

-- `counts` with no value, with a line, or with `csv` and files behind it
abbrev pub counts_with : Text → ℕ → Option Form
counts_with first count =
    if count == 0 then Some form.Counts
    else if is_csv first then option_map form.CountsCsv (files_beside (count - 1))
    else with_one form.CountsAt (line_asked_for first) count

-- `faults` with no value, or with `csv`
abbrev pub faults_with : Text → ℕ → Option Form
faults_with first count =
    if count == 0 then Some (form.Faults style.Columns)
    else if is_csv first then with_one form.Faults (Some style.Csv) count
    else None

-- the form of this name with these values
abbrev pub form_in : Text → List Text → Option Form
form_in name values =
    let first : Text = asked_word values 0 in
    let count : ℕ = length values in
    if bytes_eq name (codes "html") then option_map form.Html (page_files count)
    else if bytes_eq name (codes "tell") then option_map form.Tell (files_beside count)
    else if bytes_eq name (codes "events") then option_map form.Events (files_beside count)
    else if bytes_eq name (codes "counts") then counts_with first count
    else if bytes_eq name (codes "state") then with_one form.StateAt (line_asked_for first) count
    else if bytes_eq name (codes "frame") then with_one form.FrameAt (number_of first) count
    else if bytes_eq name (codes "key") then with_one form.KeyAt (key_asked first) count
    else if bytes_eq name (codes "faults") then faults_with first count
    else if bytes_eq name (codes "sums") then alone form.Sums count
    else None

abbrev pub form_among : List Text → Option Form
form_among [] = None
form_among (name ∷ values) = form_in name values

-- the form that the words are; none of them begins with `-`
abbrev pub form_of : List Text → Option Form
form_of words = if list_any is_dashed words then None else form_among words

-- ---- files

abbrev pub files_of : Form → Files
files_of (form.Html named) = named
files_of (form.Tell named) = named
files_of (form.Events named) = named
files_of (form.CountsCsv named) = named
files_of _ = files.None

-- the place of the first of them among the words: behind the name of the form, and behind `csv`
abbrev pub files_at : Form → ℕ
files_at (form.CountsCsv named) = 2
files_at _ = 1

-- the first and the second of the files are named
abbrev pub has_script : Files → Bool
has_script files.None = false
has_script files.Script = true
has_script files.Both = true
has_script files.Observed = true

abbrev pub has_answers : Files → Bool
has_answers files.None = false
has_answers files.Script = false
has_answers files.Both = true
has_answers files.Observed = true

-- and the third
abbrev pub has_observations : Files → Bool
has_observations files.Observed = true
has_observations _ = false

-- and of the words that are this form, if any, where it names some
abbrev pub first_file : Option Form → Option ℕ
first_file None = None
first_file (Some f) = if has_script (files_of f) then Some (files_at f) else None
