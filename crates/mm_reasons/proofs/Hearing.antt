-- What is said of a text as its bytes come.
use Rattle.std.proofs.Common.{◌≡◌, ◌⊎◌, inl, inr, ℕ, ◌+◌, ◌<◌, ◌≤◌, Bool, true, false, ◌&&◌, ◌==◌, nat_le, if◌then◌else◌, List, [], ◌∷◌, ◌++◌, length, take, drop, get_or, Option, sym, refl, ap, subst, ◌∙◌, append_assoc, length-append, arith}
use Rattle.std.proofs.lemmas.Bool.{eqb-true}
use Rattle.std.proofs.lemmas.Bool.Decides.{nat_tests}
use Rattle.mm_types.specs.{Text, Event}
use Rattle.mm_types.proofs.{append_nil, parts, and_false}
use Rattle.mm_names.specs.{NamesOf, meant, most_line, meant_by, event_or, tidy_of, placed_line, written_lines_from, written_lines, without_mark}
use Rattle.mm_names.specs.declared.meanings.Meaning.{Meaning}
use Rattle.mm_names.specs.declared.meanings.Meaning.TheVariants as meaning
use Rattle.mm_script.specs.{keyword_of, without_return, parse, word_as}
use Rattle.mm_reasons.specs.{begun_after, ended_from, heard_before, heard_from, heard_of, HearingOf, hearing_after, marked_from, most_of_line_kept, names_after}
use Rattle.mm_reasons.specs.{said_by_line, said_of, to_come, line_without_mark}

-- ---- lines that mean nothing

-- the test of a line's length fails
too_long : (n : ℕ) → most_line < n → nat_le n most_line ≡ false
too_long n h = grind (arith, nat_tests)

long_means : (names : NamesOf) (line : Text) → most_line < length line → meant names line ≡ meaning.Wrong
unfolding meant
long_means names line h =
    ap (λ (b : Bool). if b then event_or (parse line) (meant_by names (tidy_of (without_return line))) else meaning.Wrong)
    (too_long (length line) h)

blank_means : (names : NamesOf) → meant names [] ≡ meaning.Nothing
unfolding meant parse word_as without_return keyword_of
blank_means names = refl

-- what a line and those behind it say, by what it means
abbrev line_and : NamesOf → Bool → Meaning → List Text → List Event
line_and names b m ls =
    said_of (placed_line b m) ++ heard_from (names_after names m) (begun_after b (placed_line b m)) ls

long_line : (names : NamesOf) (b : Bool) (line : Text) (ls : List Text) → most_line < length line
    → heard_from names b (line ∷ ls) ≡ heard_from names b ls
long_line names b line ls h = ap (λ (m : Meaning). line_and names b m ls) (long_means names line h)

blank_line : (names : NamesOf) (b : Bool) (ls : List Text) → heard_from names b ([] ∷ ls) ≡ heard_from names b ls
blank_line names b ls = ap (λ (m : Meaning). line_and names b m ls) (blank_means names)

-- ---- a line of which not all is kept

-- the lines behind the first
abbrev behind : Text → List Text
behind [] = []
behind (c ∷ cs) = if c == 10 then ended_from [] cs else behind cs

long_step : (names : NamesOf) (b t : Bool) (c : ℕ) (cs w : Text) → most_line < length w
    → (most_line < length (w ++ c ∷ []) → heard_from names b (ended_from (w ++ c ∷ []) cs) ≡ heard_from names b (behind cs))
    → heard_from names b (if t then w ∷ ended_from [] cs else ended_from (w ++ c ∷ []) cs)
    ≡ heard_from names b (if t then ended_from [] cs else behind cs)
long_step names b true c cs w h later = long_line names b w (ended_from [] cs) h
long_step names b false c cs w h later = later (omega (arith, length-append w (c ∷ [])))

long_rest : (names : NamesOf) (b : Bool) (cs w : Text) → most_line < length w
    → heard_from names b (ended_from w cs) ≡ heard_from names b (behind cs)
long_rest names b [] w h = refl
long_rest names b (c ∷ cs) w h = long_step names b (c == 10) c cs w h (long_rest names b cs (w ++ c ∷ []))

-- a byte of it changes nothing
long_byte : (names : NamesOf) (b : Bool) (c : ℕ) (cs w : Text) → (c == 10) ≡ false → most_line < length w
    → heard_from names b (ended_from w (c ∷ cs)) ≡ heard_from names b (ended_from w cs)
long_byte names b c cs w e h =
    long_rest names b (c ∷ cs) w h
    ∙ ap (λ (t : Bool). heard_from names b (if t then ended_from [] cs else behind cs)) e
    ∙ sym (long_rest names b cs w h)

-- ---- the mark in front

mark_choice : (t : Bool) (u w v : Text) → (if t then u ++ v else w ++ v) ≡ (if t then u else w) ++ v
mark_choice true u w v = refl
mark_choice false u w v = refl

mark_push : (a b c : ℕ) (w v : Text) → without_mark (a ∷ b ∷ c ∷ (w ++ v)) ≡ without_mark (a ∷ b ∷ c ∷ w) ++ v
mark_push a b c w v = mark_choice ((a == 0xEF) && (b == 0xBB) && (c == 0xBF)) w (a ∷ b ∷ c ∷ w) v

marked_step : (t : Bool) (x : ℕ) (l l' cs : Text) → marked_from (l' ++ x ∷ []) cs ≡ ended_from (l ++ x ∷ []) cs
    → l ≡ without_mark l'
    → (if t then without_mark l' ∷ ended_from [] cs else marked_from (l' ++ x ∷ []) cs)
    ≡ (if t then l ∷ ended_from [] cs else ended_from (l ++ x ∷ []) cs)
marked_step true x l l' cs later e = ap (λ (k : Text). k ∷ ended_from [] cs) (sym e)
marked_step false x l l' cs later e = later

-- behind three bytes the mark is known
marked_long : (a b c : ℕ) (cs w : Text)
    → marked_from (a ∷ b ∷ c ∷ w) cs ≡ ended_from (without_mark (a ∷ b ∷ c ∷ w)) cs
marked_long a b c [] w = refl
marked_long a b c (x ∷ cs) w =
    marked_step (x == 10) x (without_mark (a ∷ b ∷ c ∷ w)) (a ∷ b ∷ c ∷ w) cs
    (marked_long a b c cs (w ++ x ∷ []) ∙ ap (λ (l : Text). ended_from l cs) (mark_push a b c w (x ∷ []))) refl

-- the two ways of taking it off are one
mark_by : (t : Bool) (a b c : ℕ) (cs : Text) → ((a == 0xEF) && (b == 0xBB) && (c == 0xBF)) ≡ t
    → marked_from [] (a ∷ b ∷ c ∷ cs) ≡ ended_from [] (without_mark (a ∷ b ∷ c ∷ cs))
mark_by true a b c cs e =
    let two = parts ((a == 0xEF) && (b == 0xBB)) (c == 0xBF) e in
    let one = parts (a == 0xEF) (b == 0xBB) two.0 in
    let P : ℕ → ℕ → ℕ → Type 0 =
    λ x y z. marked_from [] (x ∷ y ∷ z ∷ cs) ≡ ended_from [] (without_mark (x ∷ y ∷ z ∷ cs)) in
    subst (λ (x : ℕ). P x b c) (sym (eqb-true a 0xEF one.0))
    (subst (λ (y : ℕ). P 0xEF y c) (sym (eqb-true b 0xBB one.1))
    (subst (λ (z : ℕ). P 0xEF 0xBB z) (sym (eqb-true c 0xBF two.1)) (marked_long 0xEF 0xBB 0xBF cs [])))
mark_by false a b c cs e =
    ap (λ (ls : List Text). if a == 10 then [] ∷ ended_from [] (b ∷ c ∷ cs)
    else if b == 10 then (a ∷ []) ∷ ended_from [] (c ∷ cs)
    else if c == 10 then (a ∷ b ∷ []) ∷ ended_from [] cs else ls)
    (marked_long a b c cs [] ∙ ap (λ (t : Bool). ended_from (if t then [] else a ∷ b ∷ c ∷ []) cs) e)
    ∙ ap (λ (t : Bool). ended_from [] (if t then cs else a ∷ b ∷ c ∷ cs)) (sym e)

mark_once : (text : Text) → marked_from [] text ≡ ended_from [] (without_mark text)
mark_once [] = refl
mark_once (a ∷ []) = refl
mark_once (a ∷ b ∷ []) = refl
mark_once (a ∷ b ∷ c ∷ cs) = mark_by ((a == 0xEF) && (b == 0xBB) && (c == 0xBF)) a b c cs refl

-- ---- the end of a text ends its last line

last_step : (t : Bool) (names : NamesOf) (b : Bool) (c : ℕ) (w cs cs' : Text)
    → ((ns : NamesOf) (d : Bool) (v : Text) → heard_from ns d (ended_from v cs') ≡ heard_from ns d (written_lines_from v cs))
    → heard_from names b (if t then w ∷ ended_from [] cs' else ended_from (w ++ c ∷ []) cs')
    ≡ heard_from names b (if t then w ∷ written_lines_from [] cs else written_lines_from (w ++ c ∷ []) cs)
last_step true names b c w cs cs' later =
    ap (λ (es : List Event). said_of (placed_line b (meant names w)) ++ es)
    (later (names_after names (meant names w)) (begun_after b (placed_line b (meant names w))) [])
last_step false names b c w cs cs' later = later names b (w ++ c ∷ [])

last_here : (names : NamesOf) (b : Bool) (w : Text) → heard_from names b (w ∷ []) ≡ heard_from names b (written_lines_from w [])
last_here names b [] = blank_line names b []
last_here names b (c ∷ cs) = refl

last_line : (cs : Text) (names : NamesOf) (b : Bool) (w : Text)
    → heard_from names b (ended_from w (cs ++ 10 ∷ [])) ≡ heard_from names b (written_lines_from w cs)
last_line [] names b w = last_here names b w
last_line (c ∷ cs) names b w = last_step (c == 10) names b c w cs (cs ++ 10 ∷ []) (last_line cs)

mark_feed : (text : Text) → without_mark (text ++ 10 ∷ []) ≡ without_mark text ++ 10 ∷ []
mark_feed [] = refl
mark_feed (a ∷ []) = refl
mark_feed (a ∷ b ∷ []) =
    ap (λ (t : Bool). if t then [] else a ∷ b ∷ 10 ∷ []) (and_false ((a == 0xEF) && (b == 0xBB)))
mark_feed (a ∷ b ∷ c ∷ cs) = mark_push a b c cs (10 ∷ [])

-- a text and a line feed say what the text says
pub heard_fed : (text : Text) → heard_before (text ++ 10 ∷ []) ≡ heard_of text
unfolding heard_before heard_of
heard_fed text =
    ap (λ (t : Text). heard_from [] false (ended_from [] t)) (mark_feed text)
    ∙ last_line (without_mark text) [] false []

-- ---- what is to come

-- before the first line
abbrev pub unheard : HearingOf
unheard = record { names = []; begun = false; fresh = true; leaves_out = true }

pub to_come_first : (text : Text) → to_come unheard [] text ≡ heard_before text
unfolding to_come heard_before
to_come_first text = ap (λ (ls : List Text). heard_from [] false ls) (mark_once text)

pub to_come_fed : (text : Text) → to_come unheard [] (text ++ 10 ∷ []) ≡ heard_of text
to_come_fed text = to_come_first (text ++ 10 ∷ []) ∙ heard_fed text

none_by : (names : NamesOf) (b fresh : Bool) (line : Text)
    → heard_from names b (if fresh then marked_from line [] else ended_from line []) ≡ []
none_by names b true line = refl
none_by names b false line = refl

pub to_come_none : (h : HearingOf) (line : Text) → to_come h line [] ≡ []
unfolding to_come
to_come_none h line = none_by h.names h.begun h.fresh line

-- a byte of a line is kept
kept_by : (names : NamesOf) (b fresh : Bool) (line rest : Text) (c : ℕ) → (c == 10) ≡ false
    → heard_from names b (if fresh then marked_from line (c ∷ rest) else ended_from line (c ∷ rest))
    ≡ heard_from names b (if fresh then marked_from (line ++ c ∷ []) rest else ended_from (line ++ c ∷ []) rest)
kept_by names b true line rest c e =
    ap (λ (t : Bool). heard_from names b (if t then without_mark line ∷ ended_from [] rest else marked_from (line ++ c ∷ []) rest)) e
kept_by names b false line rest c e =
    ap (λ (t : Bool). heard_from names b (if t then line ∷ ended_from [] rest else ended_from (line ++ c ∷ []) rest)) e

pub to_come_kept : (h : HearingOf) (line rest : Text) (c : ℕ) → (c == 10) ≡ false
    → to_come h line (c ∷ rest) ≡ to_come h (line ++ c ∷ []) rest
unfolding to_come
to_come_kept h line rest c e = kept_by h.names h.begun h.fresh line rest c e

-- or the line is so long that it means nothing, whatever comes
mark_short : (t : Bool) (u v : Text) (n : ℕ) → n ≤ length u → n ≤ length v → n ≤ length (if t then u else v)
mark_short true u v n h g = h
mark_short false u v n h g = g

marked_byte : (names : NamesOf) (b : Bool) (line rest : Text) (c : ℕ) → (c == 10) ≡ false → most_of_line_kept ≤ length line
    → heard_from names b (marked_from line (c ∷ rest)) ≡ heard_from names b (marked_from line rest)
marked_byte names b [] rest c e h = absurd (omega arith)
marked_byte names b (x ∷ []) rest c e h = absurd (omega arith)
marked_byte names b (x ∷ y ∷ []) rest c e h = absurd (omega arith)
marked_byte names b (x ∷ y ∷ z ∷ w) rest c e h =
    let long : 65537 ≤ length (without_mark (x ∷ y ∷ z ∷ w)) =
    mark_short ((x == 0xEF) && (y == 0xBB) && (z == 0xBF)) w (x ∷ y ∷ z ∷ w) 65537 (omega arith) (omega arith) in
    ap (λ (ls : List Text). heard_from names b ls) (marked_long x y z (c ∷ rest) w)
    ∙ long_byte names b c rest (without_mark (x ∷ y ∷ z ∷ w)) e (omega arith)
    ∙ ap (λ (ls : List Text). heard_from names b ls) (sym (marked_long x y z rest w))

long_by : (names : NamesOf) (b fresh : Bool) (line rest : Text) (c : ℕ) → (c == 10) ≡ false → most_of_line_kept ≤ length line
    → heard_from names b (if fresh then marked_from line (c ∷ rest) else ended_from line (c ∷ rest))
    ≡ heard_from names b (if fresh then marked_from line rest else ended_from line rest)
long_by names b true line rest c e h = marked_byte names b line rest c e h
long_by names b false line rest c e h = long_byte names b c rest line e (omega arith)

pub to_come_long : (h : HearingOf) (line rest : Text) (c : ℕ) → (c == 10) ≡ false → most_of_line_kept ≤ length line
    → to_come h line (c ∷ rest) ≡ to_come h line rest
unfolding to_come
to_come_long h line rest c e l = long_by h.names h.begun h.fresh line rest c e l

-- a line ends
ended_by : (names : NamesOf) (b fresh : Bool) (line rest : Text)
    → heard_from names b (if fresh then marked_from line (10 ∷ rest) else ended_from line (10 ∷ rest))
    ≡ heard_from names b ((if fresh then without_mark line else line) ∷ ended_from [] rest)
ended_by names b true line rest = refl
ended_by names b false line rest = refl

pub to_come_ended : (h : HearingOf) (line rest : Text) → to_come h line (10 ∷ rest)
    ≡ said_by_line h (line_without_mark h line) ++ to_come (hearing_after h (meant h.names (line_without_mark h line))) [] rest
unfolding to_come
to_come_ended h line rest = ended_by h.names h.begun h.fresh line rest

-- a byte that is no line feed
pub no_feed : (c : ℕ) → (c ≡ 10 → ⊥) → (c == 10) ≡ false
no_feed c h = grind (arith, nat_tests)
