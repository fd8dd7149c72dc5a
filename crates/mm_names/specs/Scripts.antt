-- What a written file means.
-- docs/WRITTEN.md
use Rattle.std.specs.Prelude.{◌≡◌, ℕ, ◌≤◌, ◌==◌, Bool, true, false, ◌&&◌, not, if◌then◌else◌, List, [], ◌∷◌, ◌++◌, length, Option, Some, None, Ok, option_map}
use Rattle.std.specs.List.{AllByRecursion}
use Rattle.mm_types.specs.{Text, Event}
use Rattle.mm_types.specs.declared.events.Event.TheVariants as line
use Rattle.mm_script.specs.{printed, parse}
use Rattle.mm_names.specs.declared.meanings.Meaning.{Meaning}
use Rattle.mm_names.specs.declared.meanings.Meaning.TheVariants as meaning
use Rattle.mm_names.specs.Keys.{NamesOf, no_names, with_given}
use Rattle.mm_names.specs.Meaning.{meant}
use Rattle.mm_script.specs.{is_machine}

-- a UTF-8 mark may stand in front
abbrev pub without_mark : Text → Text
without_mark (a ∷ b ∷ c ∷ cs) =
    if (a == 0xEF) && (b == 0xBB) && (c == 0xBF) then cs else a ∷ b ∷ c ∷ cs
without_mark cs = cs

-- a last line without its line feed
abbrev pub last_line : Text → List Text
last_line [] = []
last_line (c ∷ cs) = (c ∷ cs) ∷ []

-- the lines of a text, the first of which has begun so
abbrev pub written_lines_from : Text → Text → List Text
written_lines_from begun [] = last_line begun
written_lines_from begun (c ∷ cs) =
    if c == 10 then begun ∷ written_lines_from [] cs else written_lines_from (begun ++ c ∷ []) cs

abbrev pub written_lines : Text → List Text
written_lines text = written_lines_from [] (without_mark text)

-- the first event of a script is a machine, and no later one is
abbrev pub may_stand : Bool → Event → Bool
may_stand false e = is_machine e
may_stand true e = not (is_machine e)

abbrev pub placed_line : Bool → Meaning → Meaning
placed_line begun (meaning.Says e) = if may_stand begun e then meaning.Says e else meaning.Wrong
placed_line begun m = m

abbrev pub goes_on : Meaning → NamesOf → Bool
    → (NamesOf → Bool → Option (List Event)) → Option (List Event)
goes_on meaning.Nothing names begun later = later names begun
goes_on (meaning.Gives g) names begun later = later (with_given names g) begun
goes_on (meaning.Says e) names begun later = option_map (λ es. e ∷ es) (later names true)
goes_on meaning.Wrong names begun later = None

-- The events that lines mean, where these names were given before, and a script has begun or not.
-- None where a line means nothing that may stand there, or no line means an event.
abbrev pub events_of : NamesOf → Bool → List Text → Option (List Event)
events_of names begun [] = if begun then Some [] else None
events_of names begun (l ∷ ls) =
    goes_on (placed_line begun (meant names l)) names begun (λ ns b. events_of ns b ls)

-- the script that a written file means
unfoldable pub script_in : Text → Option (List Event)
script_in text = events_of no_names false (written_lines text)

-- the first event is a machine, and no other
abbrev pub IsScript : List Event → Type 0
IsScript [] = ⊥
IsScript (e ∷ es) = (is_machine e ≡ true) × AllByRecursion (λ f. is_machine f ≡ false) es

-- Each line is one that `mmsim` takes, of at most 256 bytes, and these are their events.
abbrev pub ArePlain : List Text → List Event → Type 0
ArePlain [] [] = Unit {0}
ArePlain [] (e ∷ es) = ⊥
ArePlain (l ∷ ls) [] = ⊥
ArePlain (l ∷ ls) (e ∷ es) = (parse l ≡ Ok e) × (length l ≤ 256) × ArePlain ls es

-- the lines of events, as `mmsim` reads them
abbrev pub spelled_events : List Event → Text
spelled_events [] = []
spelled_events (e ∷ es) = printed e ++ 10 ∷ spelled_events es
