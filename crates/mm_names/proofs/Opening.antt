-- The events of a file are a script, and a plain file is its own.
use Rattle.std.proofs.Common.{◌≡◌, ℕ, ◌≤◌, Bool, true, false, not, nat_le, if◌then◌else◌, List, [], ◌∷◌, ◌++◌, length, Option, Some, None, Result, Ok, Err, option_map, unwrap_or, sym, refl, ap, subst, ◌∙◌, arith}
use Rattle.std.specs.List.{AllByRecursion}
use Rattle.mm_types.specs.{Text, Event}
use Rattle.mm_script.specs.{LineFault, without_return, parse}
use Rattle.mm_names.specs.declared.meanings.Meaning.{Meaning}
use Rattle.mm_names.specs.declared.meanings.Meaning.TheVariants as meaning
use Rattle.mm_names.specs.{NamesOf, no_names, with_given, tidy_of, most_line, meant_by, event_or, meant, may_stand, placed_line, goes_on}
use Rattle.mm_script.specs.{is_machine}
use Rattle.mm_names.specs.{events_of, written_lines, script_in, IsScript, ArePlain}

-- what may follow: no machine once a script has begun
abbrev pub Starts : Bool → List Event → Type 0
Starts true es = AllByRecursion (λ f. is_machine f ≡ false) es
Starts false es = IsScript es

pub not_true : (b : Bool) → not b ≡ true → b ≡ false
not_true true h = sym h
not_true false h = refl

pub starts_with : (begun : Bool) (e : Event) (es : List Event) → may_stand begun e ≡ true → Starts true es → Starts begun (e ∷ es)
starts_with true e es h later = (not_true (is_machine e) h, later)
starts_with false e es h later = (h, later)

pub starts_more : (begun : Bool) (e : Event) (o : Option (List Event)) (es : List Event) → may_stand begun e ≡ true
    → ((fs : List Event) → o ≡ Some fs → Starts true fs) → option_map (λ fs. e ∷ fs) o ≡ Some es → Starts begun es
starts_more begun e None es h later is = let bad : None ≡ Some es = is in cc
starts_more begun e (Some fs) es h later is =
    subst (λ (gs : List Event). Starts begun gs) (ap (λ o. unwrap_or o (e ∷ fs)) is)
    (starts_with begun e fs h (later fs refl))

pub starts_said : (b begun : Bool) (e : Event) (names : NamesOf) (ls : List Text) (es : List Event) → may_stand begun e ≡ b
    → ((ns : NamesOf) (c : Bool) (fs : List Event) → events_of ns c ls ≡ Some fs → Starts c fs)
    → goes_on (if b then meaning.Says e else meaning.Wrong) names begun (λ ns c. events_of ns c ls) ≡ Some es
    → Starts begun es
starts_said true begun e names ls es h later is =
    starts_more begun e (events_of names true ls) es h (λ fs. later names true fs) is
starts_said false begun e names ls es h later is = let bad : None ≡ Some es = is in cc

pub starts_line : (m : Meaning) (begun : Bool) (names : NamesOf) (ls : List Text) (es : List Event)
    → ((ns : NamesOf) (c : Bool) (fs : List Event) → events_of ns c ls ≡ Some fs → Starts c fs)
    → goes_on (placed_line begun m) names begun (λ ns c. events_of ns c ls) ≡ Some es → Starts begun es
starts_line meaning.Nothing begun names ls es later is = later names begun es is
starts_line (meaning.Gives g) begun names ls es later is = later (with_given names g) begun es is
starts_line (meaning.Says e) begun names ls es later is =
    starts_said (may_stand begun e) begun e names ls es refl later is
starts_line meaning.Wrong begun names ls es later is = let bad : None ≡ Some es = is in cc

pub starts_none : (begun : Bool) (es : List Event) → (if begun then Some [] else None) ≡ Some es → Starts begun es
starts_none true es is = subst (λ (gs : List Event). Starts true gs) (ap (λ o. unwrap_or o []) is) tt
starts_none false es is = let bad : None ≡ Some es = is in cc

pub starts : (ls : List Text) (names : NamesOf) (begun : Bool) (es : List Event) → events_of names begun ls ≡ Some es
    → Starts begun es
starts [] names begun es is = starts_none begun es is
starts (l ∷ ls) names begun es is = starts_line (meant names l) begun names ls es (starts ls) is

pub opens : (text : Text) (es : List Event) → script_in text ≡ Some es → IsScript es
unfolding script_in
opens text es is = starts (written_lines text) no_names false es is

pub stands : (begun : Bool) (e : Event) (es : List Event) → Starts begun (e ∷ es)
    → (may_stand begun e ≡ true) × Starts true es
stands true e es h = (ap not h.0, h.1)
stands false e es h = (h.0, h.1)

pub short_line : (n : ℕ) → n ≤ 256 → nat_le n most_line ≡ true
short_line n h = grind (arith, h)

pub plain_meant : (names : NamesOf) (l : Text) (e : Event) → parse l ≡ Ok e → length l ≤ 256
    → meant names l ≡ meaning.Says e
unfolding meant
plain_meant names l e h short =
    let other : Meaning = meant_by names (tidy_of (without_return l)) in
    ap (λ b. if b then event_or (parse l) other else meaning.Wrong) (short_line (length l) short)
    ∙ ap (λ r. event_or r other) h

pub plain_goes : (begun : Bool) (m : Meaning) (e : Event) (names : NamesOf) (ls : List Text) (es : List Event)
    → m ≡ meaning.Says e → may_stand begun e ≡ true → events_of names true ls ≡ Some es
    → goes_on (placed_line begun m) names begun (λ ns c. events_of ns c ls) ≡ Some (e ∷ es)
plain_goes begun m e names ls es is stand later =
    ap (λ n. goes_on (placed_line begun n) names begun (λ ns c. events_of ns c ls)) is
    ∙ ap (λ b. goes_on (if b then meaning.Says e else meaning.Wrong) names begun (λ ns c. events_of ns c ls)) stand
    ∙ ap (λ o. option_map (λ fs. e ∷ fs) o) later

pub plain_from : (ls : List Text) (es : List Event) (names : NamesOf) (begun : Bool) → ArePlain ls es → Starts begun es
    → events_of names begun ls ≡ Some es
plain_from [] [] names true plain start = refl
plain_from [] [] names false plain start = absurd start
plain_from [] (e ∷ es) names begun plain start = absurd plain
plain_from (l ∷ ls) [] names begun plain start = absurd plain
plain_from (l ∷ ls) (e ∷ es) names begun plain start =
    let stand = stands begun e es start in
    plain_goes begun (meant names l) e names ls es (plain_meant names l e plain.0 plain.1) stand.0
    (plain_from ls es names true plain.2 stand.1)

pub plain_script : (text : Text) (es : List Event) → ArePlain (written_lines text) es → IsScript es → script_in text ≡ Some es
unfolding script_in
plain_script text es plain start = plain_from (written_lines text) es no_names false plain start

pub ruleset opening = (opens, plain_script)
