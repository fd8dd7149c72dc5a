-- A script as it is written, line by line: a tool of proof.
use Rattle.std.specs.Prelude.{◌≡◌, ℕ, ◌+◌, ◌==◌, Bool, true, false, ◌&&◌, List, [], ◌∷◌, ◌++◌, length, Option, Some, None}
use Rattle.std.specs.List.{AllByRecursion}
use Rattle.mm_types.specs.{Text, Event}
use Rattle.mm_script.specs.{printed, IsWellFormed}
use Rattle.mm_names.specs.declared.meanings.Meaning.{Meaning}
use Rattle.mm_names.specs.declared.meanings.Meaning.TheVariants as meaning
use Rattle.mm_names.specs.Keys.{NamesOf, no_names, with_given}
use Rattle.mm_names.specs.Meaning.{meant}
use Rattle.mm_names.specs.Scripts.{placed_line, spelled_events}

-- what was read so far: the names, whether an event came, whether every line means something, the
-- script's text and how many lines it has
pub record ScriptOf : Type 0 where
  pub names : NamesOf
  pub begun : Bool
  pub clean : Bool
  pub text : Text
  pub lines : ℕ

abbrev pub unread : ScriptOf
unread = record { names = no_names; begun = false; clean = true; text = []; lines = 0 }

abbrev pub with_event : ScriptOf → Event → ScriptOf
with_event s e =
    record s { begun = true; text = s.text ++ (printed e ++ 10 ∷ []); lines = s.lines + 1 }

abbrev pub with_meaning : ScriptOf → Meaning → ScriptOf
with_meaning s meaning.Nothing = s
with_meaning s (meaning.Gives g) = record s { names = with_given s.names g }
with_meaning s (meaning.Says e) = with_event s e
with_meaning s meaning.Wrong = record s { clean = false }

abbrev pub with_written_line : ScriptOf → Text → ScriptOf
with_written_line s line = with_meaning s (placed_line s.begun (meant s.names line))

abbrev pub with_lines : ScriptOf → List Text → ScriptOf
with_lines s [] = s
with_lines s (l ∷ ls) = with_lines (with_written_line s l) ls

-- every line means something, and one means an event
abbrev pub is_whole : ScriptOf → Bool
is_whole s = s.clean && s.begun

-- These events are the script's, and each of its lines is in the grammar.
pub record SpellsScript (s : ScriptOf) (events : List Event) : Type 0 where
  pub text : s.text ≡ spelled_events events
  pub lines : s.lines ≡ length events
  pub formed : AllByRecursion IsWellFormed events

abbrev pub ScriptEnds : Option (List Event) → ScriptOf → Type 0
ScriptEnds None s = is_whole s ≡ false
ScriptEnds (Some events) s = (is_whole s ≡ true) × SpellsScript s events
