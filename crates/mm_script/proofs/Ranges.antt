-- The fields of what is read are in their ranges.
use Rattle.std.proofs.Common.{◌≡◌, ℕ, ◌+◌, ◌*◌, ◌^◌, ◌<◌, List, [], ◌∷◌, length, ◌&&◌, Some, None, subst, arith}
use Rattle.std.specs.Prelude.{nat_le, nat_lt}
use Rattle.std.specs.List.{AllByRecursion}
use Rattle.std.proofs.lemmas.Bool.{ltb-true, and_parts}
use Rattle.std.proofs.lemmas.Option.{cond_some}
use Rattle.mm_types.specs.{Text, Event}
use Rattle.mm_text.specs.{digit_value, hex_digits, number_of_form, number_of, pair_of, pairs_of, is_name, name_of}
use Rattle.mm_script.specs.{Exactly, Decimal, Hex, Bytes, Named, NamedOrDash, Spells, EachSpells, fields_of, IsLine, IsByte, IsInRange, IsWellFormed}
use Rattle.mm_script.specs.Field.{Field}
use Rattle.mm_script.proofs.Plain.{limited_some, before_some, few_some}

pub number_below : (w : Text) (n : ℕ) → number_of w ≡ Some n → n < 2 ^ 32
number_below w n h = (limited_some (number_of_form w (hex_digits w)) n h).1

pair_below : (c d b : ℕ) → pair_of c d ≡ Some b → b < 256
pair_below c d b h =
    let t = cond_some (nat_lt (digit_value c) 16 && nat_lt (digit_value d) 16) (16 * digit_value c + digit_value d) b h in
    let p = and_parts (nat_lt (digit_value c) 16) (nat_lt (digit_value d) 16) t.0 in
    omega (arith, t.1, ltb-true (digit_value c) 16 p.0, ltb-true (digit_value d) 16 p.1)

pairs_bytes : (cs : Text) (bs : List ℕ) → pairs_of cs ≡ Some bs → AllByRecursion IsByte bs
pairs_bytes [] bs h = let same : [] ≡ bs = cc in subst (AllByRecursion IsByte) same tt
pairs_bytes (c ∷ []) bs h = cc
pairs_bytes (c ∷ d ∷ cs) bs h =
    let p = before_some (pair_of c d) (pairs_of cs) bs h in
    subst (AllByRecursion IsByte) p.4 (pair_below c d p.0 p.2, pairs_bytes cs p.1 p.3)

named_in_range : (w name : Text) → name_of w ≡ Some name → name_of name ≡ Some name
named_in_range w name h =
    let t = cond_some (is_name w && nat_le (length w) 32) w name h in
    subst (λ (v : Text). name_of v ≡ Some name) t.1 h

pub word_in_range : (f : Field) (w : Text) → Spells w f → IsInRange f
word_in_range (Exactly text) w h = tt
word_in_range (Decimal least most n) w h = (h.1, h.2)
word_in_range (Hex n) w h = number_below w n h
word_in_range (Bytes bytes) w h = let p = few_some (pairs_of w) bytes h in (p.1, p.2, pairs_bytes w bytes p.0)
word_in_range (Named name) w h = named_in_range w name h
word_in_range (NamedOrDash None) w h = tt
word_in_range (NamedOrDash (Some name)) w h = named_in_range w name h

words_in_range : (fs : List Field) (ws : List Text) → EachSpells ws fs → AllByRecursion IsInRange fs
words_in_range [] ws h = tt
words_in_range (f ∷ fs) [] h = absurd h
words_in_range (f ∷ fs) (w ∷ ws) h = (word_in_range f w h.0, words_in_range fs ws h.1)

pub line_fits : (text : Text) (e : Event) → IsLine text e → IsWellFormed e
line_fits text e h = record { fields = words_in_range (fields_of e) h.words h.spelled; joined = h.joined }
