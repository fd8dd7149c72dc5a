-- What each form says of a log.
-- Profile, "What a log shows".
use Rattle.std.specs.Prelude.{◌≡◌, ◌⊎◌, ℕ, Bool, true, false, List, [], ◌∷◌, ◌++◌, Option, Some}
use Rattle.std.specs.Prelude.{None, codes}
use Rattle.mm_types.specs.{Text, Move}
use Rattle.mm_move_classes.specs.{log_data}
use Rattle.mm_log_check.specs.{Shows, IsRefusedLog}
use Rattle.mm_log_walk.specs.{lines_of, shown_line, Said, Sought, Why, no_why}
use Rattle.mm_log_walk.specs.declared.seeking.Sought.TheVariants as sought
use Rattle.mm_sentences.specs.{why_not}
use Rattle.mm_reports.specs.{counts_rows, fault_rows, frame_history, key_history, state_rows, use_rows}
use Rattle.mm_reports.specs.declared.styles.Style.TheVariants as style
use Rattle.mm_transcripts.specs.{transcript}
use Rattle.mm_events.specs.{events}
use Rattle.mm_show.specs.Rows.{script_file, answers_file}
use Rattle.mm_show.specs.Words.{class_rows}
use Rattle.mm_show.specs.Sums.{sums_text}
use Rattle.mm_show.specs.declared.forms.Form.{Form}
use Rattle.mm_show.specs.declared.forms.Form.TheVariants as form

-- the fixed texts of a page, the name of the script's file, and the packed observations
pub record PageOf : Type 0 where
  pub up_to_classes : Text
  pub up_to_moves : Text
  pub up_to_script : Text
  pub up_to_answers : Text
  pub up_to_name : Text
  pub up_to_observations : Text
  pub up_to_end : Text
  pub name : Text
  pub observations : Text

-- what stands in front of the moves, and behind them
abbrev pub front_text : PageOf → Text
front_text p = p.up_to_classes ++ (class_rows ++ p.up_to_moves)

-- of a script that is named
abbrev pub name_row : Option (List Text) → Text → Text
name_row None name = []
name_row (Some script) name = shown_line name

abbrev pub script_text : PageOf → Option (List Text) → Option (List Text) → Text
script_text p script answers =
    p.up_to_script ++ (script_file script ++ (p.up_to_answers ++ (answers_file answers
    ++ (p.up_to_name ++ name_row script p.name))))

abbrev pub behind_text : PageOf → Option (List Text) → Option (List Text) → Text
behind_text p script answers =
    script_text p script answers ++ (p.up_to_observations ++ (p.observations ++ p.up_to_end))

abbrev pub whole_page_text : PageOf → Option (List Text) → Option (List Text) → List Move → Text
whole_page_text p script answers moves =
    front_text p ++ (log_data moves ++ behind_text p script answers)

-- nothing of a log that does not end well
abbrev pub page_said : PageOf → Option (List Text) → Option (List Text) → Said
page_said p script answers true moves = whole_page_text p script answers moves
page_said p script answers false moves = []

abbrev pub sums_said : Said
sums_said true moves = sums_text moves
sums_said false moves = []

abbrev pub form_said : Form → PageOf → Option (List Text) → Option (List Text) → Said
form_said (form.Html named) p script answers = page_said p script answers
form_said (form.Tell named) p script answers = transcript script answers
form_said (form.Events named) p script answers = events script answers
form_said form.Counts p script answers = counts_rows style.Columns None None
form_said (form.CountsCsv named) p script answers = counts_rows style.Csv script answers
form_said (form.CountsAt line) p script answers = use_rows line
form_said (form.StateAt line) p script answers = state_rows line
form_said (form.FrameAt n) p script answers = frame_history n
form_said (form.KeyAt key) p script answers = key_history key
form_said (form.Faults s) p script answers = fault_rows s
form_said form.Sums p script answers = sums_said

-- what the log has to have
abbrev pub form_sought : Form → Sought
form_sought (form.CountsAt line) = sought.Line line
form_sought (form.StateAt line) = sought.Line line
form_sought (form.FrameAt n) = sought.Frame n
form_sought _ = sought.Nothing

-- behind the number of a bad line: a page says nothing
abbrev pub form_why : Form → Why
form_why (form.Html named) = no_why
form_why _ = why_not

-- ---- files

-- a file that is named is told, and these are its lines
abbrev pub FileIs : Bool → Option (Option Text) → Option (List Text) → Type 0
FileIs false left lines = lines ≡ None
FileIs true left lines =
    (text : Text) × ((left ≡ Some (Some text)) × (lines ≡ Some (lines_of text)))

abbrev pub unread_text : Text → Text
unread_text name = codes "cannot read " ++ (name ++ 10 ∷ [])

-- the file of this name was not read, and this is said; or memory was refused for that
abbrev pub IsUnread : Text → Option Text → Option Text → ℕ → Type 0
IsUnread name took took' result =
    Shows took took' (unread_text name) 4 result ⊎ IsRefusedLog took took' result

abbrev pub show_usage_text : Text
show_usage_text =
    codes "usage: mmshow html [SCRIPT [ANSWERS [OBSERVATIONS]]] | tell [SCRIPT [ANSWERS]] "
    ++ (codes "| events [SCRIPT [ANSWERS]] | counts [LINE] | counts csv [SCRIPT [ANSWERS]] | state LINE "
    ++ (codes "| frame N | key KEY | faults [csv] | sums" ++ 10 ∷ []))
