-- A script that is written line by line is the one that the file means.
use Rattle.std.proofs.Common.{◌≡◌, ℕ, ◌+◌, Bool, true, false, ◌&&◌, if◌then◌else◌, List, [], ◌∷◌, ◌++◌, length, Option, Some, None, option_map, Result, Ok, Err, IfOk, sym, refl, ap, subst, ◌∙◌, append_assoc, arith}
use Rattle.std.specs.List.{AllByRecursion}
use Rattle.mm_types.specs.{Text, NoMemory, Event}
use Rattle.mm_types.proofs.{append_nil}
use Rattle.mm_script.specs.{printed, IsWellFormed}
use Rattle.mm_names.specs.declared.meanings.Meaning.{Meaning}
use Rattle.mm_names.specs.declared.meanings.Meaning.TheVariants as meaning
use Rattle.mm_names.specs.{NamesOf, with_given, meant, FormedIn, placed_line, goes_on, events_of, written_lines_from, without_mark, script_in, spelled_events}
use Rattle.mm_names.specs.{ScriptOf, unread, with_event, with_meaning, with_written_line, with_lines, is_whole, SpellsScript, ScriptEnds}
use Rattle.mm_names.proofs.Formed.{formed_meant, formed_placed}

-- a script was spelled behind a text of some lines
pub record Onto (text : Text) (lines : ℕ) (t : ScriptOf) (events : List Event) : Type 0 where
  pub behind : t.text ≡ text ++ spelled_events events
  pub more : t.lines ≡ lines + length events
  pub formed : AllByRecursion IsWellFormed events

abbrev pub EndsFrom : Text → ℕ → Option (List Event) → ScriptOf → Type 0
EndsFrom text lines None t = is_whole t ≡ false
EndsFrom text lines (Some events) t = (is_whole t ≡ true) × Onto text lines t events

pub unclean_meaning : (m : Meaning) (s : ScriptOf) → s.clean ≡ false → (with_meaning s m).clean ≡ false
unclean_meaning meaning.Nothing s h = h
unclean_meaning (meaning.Gives g) s h = h
unclean_meaning (meaning.Says e) s h = h
unclean_meaning meaning.Wrong s h = refl

pub stays_unclean : (ls : List Text) (s : ScriptOf) → s.clean ≡ false → (with_lines s ls).clean ≡ false
stays_unclean [] s h = h
stays_unclean (l ∷ ls) s h =
    stays_unclean ls (with_written_line s l) (unclean_meaning (placed_line s.begun (meant s.names l)) s h)

pub not_whole : (s : ScriptOf) → s.clean ≡ false → is_whole s ≡ false
not_whole s h = ap (λ b. b && s.begun) h

pub ends_more : (text : Text) (lines : ℕ) (e : Event) (o : Option (List Event)) (t : ScriptOf) → IsWellFormed e
    → EndsFrom (text ++ (printed e ++ 10 ∷ [])) (lines + 1) o t → EndsFrom text lines (option_map (λ es. e ∷ es) o) t
ends_more text lines e None t f h = h
ends_more text lines e (Some es) t f h = (
  h.0,
  record {
    behind = h.1.behind ∙ append_assoc text (printed e ++ 10 ∷ []) (spelled_events es)
        ∙ ap (λ xs. text ++ xs) (append_assoc (printed e) (10 ∷ []) (spelled_events es));
    more = omega (arith, h.1.more);
    formed = (f, h.1.formed);
  },
)

pub ends_line : (m : Meaning) (s : ScriptOf) (ls : List Text) → FormedIn m → s.clean ≡ true
    → ((u : ScriptOf) → u.clean ≡ true → EndsFrom u.text u.lines (events_of u.names u.begun ls) (with_lines u ls))
    → EndsFrom s.text s.lines (goes_on m s.names s.begun (λ ns b. events_of ns b ls)) (with_lines (with_meaning s m) ls)
ends_line meaning.Nothing s ls f h later = later s h
ends_line (meaning.Gives g) s ls f h later = later (record s { names = with_given s.names g }) h
ends_line (meaning.Says e) s ls f h later =
    ends_more s.text s.lines e (events_of s.names true ls) (with_lines (with_event s e) ls) f (later (with_event s e) h)
ends_line meaning.Wrong s ls f h later =
    not_whole (with_lines (record s { clean = false }) ls) (stays_unclean ls (record s { clean = false }) refl)

pub ends_here : (b : Bool) (s : ScriptOf) → s.clean ≡ true → s.begun ≡ b
    → EndsFrom s.text s.lines (if b then Some [] else None) s
ends_here true s h e = (
  ap (λ c. c && s.begun) h ∙ e,
  record {
    behind = sym (append_nil s.text);
    more = omega arith;
    formed = tt;
  },
)
ends_here false s h e = ap (λ c. c && s.begun) h ∙ e

pub ends_from : (ls : List Text) (s : ScriptOf) → s.clean ≡ true
    → EndsFrom s.text s.lines (events_of s.names s.begun ls) (with_lines s ls)
ends_from [] s h = ends_here s.begun s h refl
ends_from (l ∷ ls) s h =
    ends_line (placed_line s.begun (meant s.names l)) s ls
    (formed_placed s.begun (meant s.names l) (formed_meant s.names l)) h (ends_from ls)

pub ends_whole : (o : Option (List Event)) (t : ScriptOf) → EndsFrom [] 0 o t → ScriptEnds o t
ends_whole None t h = h
ends_whole (Some es) t h =
    (h.0, record { text = h.1.behind; lines = omega (arith, h.1.more); formed = h.1.formed })

pub ends : (text : Text) → ScriptEnds (script_in text) (with_lines unread (written_lines_from [] (without_mark text)))
unfolding script_in
ends text =
    ends_whole (script_in text) (with_lines unread (written_lines_from [] (without_mark text)))
    (ends_from (written_lines_from [] (without_mark text)) unread refl)

pub ends_read : (text : Text) (r : Result ScriptOf NoMemory)
    → IfOk r (λ s. s ≡ with_lines unread (written_lines_from [] (without_mark text))) → IfOk r (λ s. ScriptEnds (script_in text) s)
ends_read text (Ok s) h = subst (λ (t : ScriptOf). ScriptEnds (script_in text) t) (sym h) (ends text)
ends_read text (Err e) h = tt

pub ruleset story = (ends_read)
