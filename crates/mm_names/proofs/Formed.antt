-- What a line says is in the grammar.
use Rattle.std.proofs.Common.{◌≡◌, ℕ, IfOk, subst, Bool, true, false, nat_le, bytes_eq, is_some, if◌then◌else◌, List, [], ◌∷◌, length, Option, Some, None, Result, Ok, Err, codes, sym, refl}
use Rattle.mm_types.specs.{Text, NoMemory, Event}
use Rattle.mm_text.specs.{name_of, words_of}
use Rattle.mm_text.specs.Word.{Word}
use Rattle.mm_script.specs.{LineFault, without_return, parse}
use Rattle.mm_script.proofs.{parse_ok, line_fits}
use Rattle.mm_names.specs.declared.meanings.Meaning.{Meaning}
use Rattle.mm_names.specs.declared.meanings.Meaning.TheVariants as meaning
use Rattle.mm_names.specs.{NamesOf, tidy_of, value_of, windows_value, lowered, keyword_for, said_by, said_in, given_as, given_under, let_of, sentence}
use Rattle.mm_names.specs.{phrase, most_line, meant_by, event_or, meant, plain_of, FormedIn, may_stand, placed_line}

pub formed_choice : (b : Bool) (m n : Meaning) → FormedIn m → FormedIn n → FormedIn (if b then m else n)
formed_choice true m n g h = g
formed_choice false m n g h = h

pub formed_said : (text : Text) (r : Result Event LineFault) → r ≡ parse text → FormedIn (said_by r)
formed_said text (Ok e) h = line_fits text e (parse_ok text e (sym h))
formed_said text (Err f) h = tt

pub formed_in : (line : Option Text) → FormedIn (said_in line)
formed_in None = tt
formed_in (Some l) =
    formed_choice (nat_le (length l) 256) (said_by (parse l)) meaning.Wrong (formed_said l (parse l) refl) tt

pub formed_as : (name : Text) (n : Option ℕ) → FormedIn (given_as name n)
formed_as name None = tt
formed_as name (Some n) = tt

pub formed_given : (names : NamesOf) (name : Option Text) (word : Text) → FormedIn (given_under names name word)
formed_given names None word = tt
formed_given names (Some name) word =
    formed_choice (is_some (windows_value name)) meaning.Wrong (given_as name (value_of names word)) tt
    (formed_as name (value_of names word))

pub formed_let : (names : NamesOf) (ws : List Word) → FormedIn (let_of names ws)
formed_let names [] = tt
formed_let names (a ∷ []) = tt
formed_let names (a ∷ b ∷ []) = tt
formed_let names (a ∷ b ∷ c ∷ []) =
    formed_choice (bytes_eq b.text (codes "=")) (given_under names (name_of a.text) c.text) meaning.Wrong
    (formed_given names (name_of a.text) c.text) tt
formed_let names (a ∷ b ∷ c ∷ d ∷ ws) = tt

pub formed_sentence : (names : NamesOf) (ws : List Word) → FormedIn (sentence names ws)
formed_sentence names [] = tt
formed_sentence names (w ∷ ws) =
    formed_choice (bytes_eq (lowered w.text) (codes "let")) (let_of names ws)
    (said_in (plain_of names (keyword_for (lowered w.text)) ws)) (formed_let names ws)
    (formed_in (plain_of names (keyword_for (lowered w.text)) ws))

pub formed_phrase : (names : NamesOf) (text : Text) → FormedIn (phrase names text)
formed_phrase names [] = tt
formed_phrase names (c ∷ cs) = formed_sentence names (words_of (c ∷ cs))

pub formed_by : (names : NamesOf) (text : Option Text) → FormedIn (meant_by names text)
formed_by names None = tt
formed_by names (Some t) =
    formed_choice (nat_le (length t) most_line) (phrase names t) meaning.Wrong (formed_phrase names t) tt

pub formed_else : (text : Text) (r : Result Event LineFault) (m : Meaning) → r ≡ parse text → FormedIn m → FormedIn (event_or r m)
formed_else text (Ok e) m h f = line_fits text e (parse_ok text e (sym h))
formed_else text (Err g) m h f = f

pub formed_meant : (names : NamesOf) (line : Text) → FormedIn (meant names line)
unfolding meant
formed_meant names line =
    let other : Meaning = meant_by names (tidy_of (without_return line)) in
    formed_choice (nat_le (length line) most_line) (event_or (parse line) other) meaning.Wrong
    (formed_else line (parse line) other refl (formed_by names (tidy_of (without_return line)))) tt

pub formed_placed : (begun : Bool) (m : Meaning) → FormedIn m → FormedIn (placed_line begun m)
formed_placed begun meaning.Nothing h = tt
formed_placed begun (meaning.Gives g) h = tt
formed_placed begun (meaning.Says e) h = formed_choice (may_stand begun e) (meaning.Says e) meaning.Wrong h tt
formed_placed begun meaning.Wrong h = tt

pub formed_result : (names : NamesOf) (line : Text) (r : Result Meaning NoMemory)
    → IfOk r (λ m. m ≡ meant names line) → IfOk r (λ m. FormedIn m)
formed_result names line (Ok m) h = subst (λ (n : Meaning). FormedIn n) (sym h) (formed_meant names line)
formed_result names line (Err e) h = tt

pub ruleset formed = (formed_result)
