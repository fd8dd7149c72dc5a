-- A text is read as the event that it is a line for, and otherwise its first fault is told.
use Rattle.std.proofs.Common.{◌≡◌, ◌≤◌, ◌⊎◌, arith, List, [], ◌∷◌, ◌++◌, length, Some, Result, Ok, Err, true, refl, sym, ap, ◌∙◌, subst, inl, inr}
use Rattle.std.specs.Prelude.{IfErr, OnOk, OnErr}
use Rattle.mm_types.specs.{Text, spaced, Event}
use Rattle.mm_text.specs.{words_of}
use Rattle.mm_text.specs.Word.{Word}
use Rattle.mm_text.proofs.{words_from-some}
use Rattle.mm_script.specs.{LineFault, Keyword, Exactly, EachSpells, fields_of, are_joined, IsText, IsLine, spaced_words, text_of, keyword_of}
use Rattle.mm_script.specs.{shape_of, without_return, first_fault, fault_behind, fault_among, fault_place, ◌>>=◌, Rest, rest_behind, word_as, make_of}
use Rattle.mm_script.specs.{line_of, whole_line, parse, IsPut, IsWellFormed}
use Rattle.mm_script.specs.Field.{Field}
use Rattle.mm_script.proofs.Binds.{bind_ok, bind_err, Missing, Bad, word_ok, word_err, word_again}
use Rattle.mm_script.proofs.Ranges.{line_fits}
use Rattle.mm_script.proofs.Joined.{texts, joined_words, split_words, return_cases, return_taken, plain_kept, IsPlain, ArePlain}
use Rattle.mm_script.proofs.Shapes.{Values, made_of, fields_for, plain_words}
use Rattle.mm_script.proofs.EachForm.{fields_made, form_of, plain_keyword}
use Rattle.mm_script.proofs.Found.{keyword_is, keyword_again}
use Rattle.mm_script.proofs.Walk.{spelled_on, event_ok, event_again, event_err}

nil_cons : {A : Type 0} (x : A) (xs : List A) → [] ≡ x ∷ xs → ⊥
nil_cons x xs h = cc

whole_text : (text : Text) (ws : List Word) → 1 ≤ length ws → spaced_words (texts ws) ≡ without_return text → (text ≡ without_return text) ⊎ (text ≡ without_return text ++ 0x0D ∷ []) → IsText text (texts ws)
whole_text text [] h j c = absurd (omega arith)
whole_text text (w ∷ ws) h j (inl e) = inl (e ∙ sym j)
whole_text text (w ∷ ws) h j (inr e) = inr (e ∙ ap (λ t. t ++ 0x0D ∷ []) (sym j))

line_text : (text : Text) → IsText text (texts (words_of (without_return text)))
line_text text = whole_text text (words_of (without_return text)) (words_from-some 0 [] (without_return text)) (joined_words (without_return text)) (return_cases text)

-- what is read is a line
pub parse_ok : (text : Text) (e : Event) → parse text ≡ Ok e → IsLine text e
unfolding parse line_of
parse_ok text e h =
    let body = without_return text in
    let p = bind_ok (word_as keyword_of (whole_line body)) _ e h in
    let r = word_ok keyword_of (whole_line body) p.0.1 p.0.0 p.1 in
    let m = event_ok p.0.0 (shape_of p.0.0) (make_of p.0.0) p.0.1 e p.2 in
    let first = keyword_is r.word.text p.0.0 r.value in
    let fields : fields_of e ≡ Exactly (text_of p.0.0) ∷ fields_for (shape_of p.0.0) m.values = ap fields_of (sym m.made) ∙ fields_made p.0.0 m.values in
    record {
      words = texts (words_of body);
      whole = line_text text;
      spelled = subst (λ (fs : List Field). EachSpells (texts (words_of body)) fs) (sym fields) (spelled_on keyword_of (whole_line body) p.0.1 p.0.0 (Exactly (text_of p.0.0)) (fields_for (shape_of p.0.0) m.values) r first m.spelled);
      joined = m.joined;
    }

-- the words of a text of plain words
abbrev HasWords : Text → List Text → Type 0
HasWords text ws = texts (words_of (without_return text)) ≡ ws

has_words : (text w : Text) (ws : List Text) → IsText text (w ∷ ws) → IsPlain w → ArePlain ws → HasWords text (w ∷ ws)
has_words text w ws (inl e) p ps = ap (λ t. texts (words_of t)) (ap without_return e ∙ plain_kept w ws p ps) ∙ split_words w ws p ps
has_words text w ws (inr e) p ps = ap (λ t. texts (words_of t)) (ap without_return e ∙ return_taken (spaced w ws)) ∙ split_words w ws p ps

-- what the words of a keyword's line are read as
parse_words : (k : Keyword) (vs : Values (shape_of k)) (rest : Rest) (left : List Word) (w : Text) (ws : List Text) → rest.left ≡ left → texts left ≡ w ∷ ws → w ≡ text_of k → EachSpells ws (fields_for (shape_of k) vs) → are_joined (made_of (shape_of k) (make_of k) vs) ≡ true
    → (word_as keyword_of rest >>= λ x. line_of x.0 x.1) ≡ Ok (made_of (shape_of k) (make_of k) vs)
unfolding line_of
parse_words k vs rest [] w ws l t first each j = absurd (nil_cons w ws t)
parse_words k vs rest (v ∷ vs') w ws l t first each j =
    let head : v.text ≡ w = cc in
    let tail : texts vs' ≡ ws = cc in
    let key : keyword_of v.text ≡ Some k = ap keyword_of (head ∙ first) ∙ keyword_again k in
    ap (λ r. r >>= λ x. line_of x.0 x.1) (word_again keyword_of rest k v vs' l key)
    ∙ event_again k (shape_of k) (make_of k) vs (rest_behind rest v vs') vs' refl (subst (λ (ts : List Text). EachSpells ts (fields_for (shape_of k) vs)) (sym tail) each) j

line_again : (text : Text) (e : Event) (k : Keyword) (vs : Values (shape_of k)) → made_of (shape_of k) (make_of k) vs ≡ e → (ws : List Text) → IsText text ws → EachSpells ws (Exactly (text_of k) ∷ fields_for (shape_of k) vs) → are_joined e ≡ true → parse text ≡ Ok e
unfolding parse
line_again text e k vs made [] whole each j = absurd whole
line_again text e k vs made (w ∷ ws) whole each j =
    let body = without_return text in
    let plain = plain_words (shape_of k) vs ws each.1 in
    let first = subst IsPlain (sym each.0) (plain_keyword k) in
    parse_words k vs (whole_line body) (words_of body) w ws refl (has_words text w ws whole first plain) each.0 each.1 (subst (λ (x : Event). are_joined x ≡ true) (sym made) j) ∙ ap (λ x. Ok x) made

-- a line is read as its event
pub parse_again : (text : Text) (e : Event) → IsLine text e → parse text ≡ Ok e
parse_again text e h =
    let form = form_of e in
    let fields : fields_of e ≡ Exactly (text_of form.keyword) ∷ fields_for (shape_of form.keyword) form.values = ap fields_of (sym form.made) ∙ fields_made form.keyword form.values in
    line_again text e form.keyword form.values form.made h.words h.whole (subst (λ (fs : List Field). EachSpells h.words fs) fields h.spelled) h.joined

at_words : (text : Text) (ws : List Word) (f : LineFault) → words_of (without_return text) ≡ ws → f ≡ fault_among ws (length (without_return text)) → f ≡ fault_place text
at_words text ws f l h = h ∙ ap (λ xs. fault_among xs (length (without_return text))) (sym l)

-- a fault that is told is the text's first
pub parse_err : (text : Text) (f : LineFault) → parse text ≡ Err f → f ≡ fault_place text
unfolding parse line_of
parse_err text f h =
    let body = without_return text in
    elim (bind_err (word_as keyword_of (whole_line body)) _ f h) [
      | inl e ↦ elim (word_err keyword_of (whole_line body) f e) [
        | Missing l p ↦ at_words text [] f l p
        | Bad w ws l n p ↦ at_words text (w ∷ ws) f l (p ∙ ap (λ o. fault_behind o w ws (length (without_return text))) (sym n))
      ]
      | inr p ↦
          let r = word_ok keyword_of (whole_line body) p.0.1 p.0.0 p.1 in
          at_words text (r.word ∷ r.words) f r.left
          (event_err p.0.0 (shape_of p.0.0) (make_of p.0.0) p.0.1 f p.2
          ∙ ap (λ (x : Rest). first_fault p.0.0 (shape_of p.0.0) x.left x.end x.number x.last) r.left_then
          ∙ ap (λ o. fault_behind o r.word r.words (length (without_return text))) (sym r.value))
    ]

-- no text is a line for two events
pub one_event : (text : Text) (d e : Event) → IsLine text d → IsLine text e → d ≡ e
one_event text d e g h = let same : Ok d ≡ Ok e = sym (parse_again text d g) ∙ parse_again text e h in cc

-- what is told where an event is wanted
pub record Puts (text : Text) (r : Result (Unit {0}) LineFault) (old new : Event) : Type 0 where
  pub ok : OnOk r (IsLine text new)
  pub fits : OnOk r (IsWellFormed new)
  pub only : (e : Event) → IsLine text e → (r ≡ Ok tt) × (new ≡ e)
  pub fault : IfErr r (λ f. f ≡ fault_place text)
  pub none : OnErr r ((e : Event) → IsLine text e → ⊥)
  pub same : OnErr r (new ≡ old)

pub put : (text : Text) (r : Result (Unit {0}) LineFault) (old new : Event) → IsPut r old new (parse text) → Puts text r old new
put text (Ok u) old new h =
    let line = parse_ok text new h in
    record {
      ok = line;
      fits = line_fits text new line;
      only = λ e g. (refl, let same : Ok new ≡ Ok e = sym h ∙ parse_again text e g in cc);
      fault = tt;
      none = tt;
      same = tt;
    }
put text (Err f) old new h = record {
  ok = tt;
  fits = tt;
  only = λ e g. absurd (no_line e g);
  fault = parse_err text f h.0;
  none = no_line;
  same = h.1;
}
  where
    no_line : (e : Event) → IsLine text e → ⊥
    no_line e g = let bad : Err f ≡ Ok e = sym h.0 ∙ parse_again text e g in cc
