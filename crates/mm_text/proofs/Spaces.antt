-- The words of a line that was put together from words, and the line that a line's words make.
use Rattle.std.proofs.Common.{◌≡◌, ◌≢◌, ℕ, ◌+◌, ◌≤◌, Bool, true, false, cond, List, [], ◌∷◌, ◌++◌, length, map, refl, sym, ap, ◌∙◌, inl, inr, arith, append_assoc}
use Rattle.std.specs.Prelude.{◌==◌}
use Rattle.std.specs.List.{AllByRecursion}
use Rattle.std.proofs.lemmas.List.{append-nil}
use Rattle.std.proofs.lemmas.Bool.{ne_eqb, eqb-true, cases_Bool}
use Rattle.mm_types.specs.{Text, spaced}
use Rattle.mm_text.specs.{words_from, words_of}
use Rattle.mm_text.specs.Word.{Word}

abbrev pub HasNoSpace : Text → Type 0
HasNoSpace text = AllByRecursion (λ c. c ≢ 0x20) text

-- words at their places, with one byte between each and the next
abbrev pub placed : ℕ → Text → List Text → List Word
placed from w [] = record { from = from; text = w } ∷ []
placed from w (t ∷ ts) = record { from = from; text = w } ∷ placed (from + length w + 1) t ts

abbrev pick : Bool → List Word → List Word → List Word
pick b ended longer = cond b ended longer

pub words_from-append : (from : ℕ) (text t rest : Text) → HasNoSpace t → words_from from text (t ++ rest) ≡ words_from from (text ++ t) rest
words_from-append from text [] rest h = ap (λ s. words_from from s rest) (sym (append-nil text))
words_from-append from text (c ∷ cs) rest h =
    ap (λ b. pick b (record { from = from; text = text } ∷ words_from (from + length text + 1) [] (cs ++ rest)) (words_from from (text ++ c ∷ []) (cs ++ rest))) (ne_eqb c 0x20 h.0)
    ∙ words_from-append from (text ++ c ∷ []) cs rest h.1
    ∙ ap (λ s. words_from from s rest) (append_assoc text (c ∷ []) cs)

words_from-spaced : (from : ℕ) (w : Text) (ts : List Text) → HasNoSpace w → AllByRecursion HasNoSpace ts → words_from from [] (spaced w ts) ≡ placed from w ts
words_from-spaced from w [] h hs = ap (λ s. words_from from [] s) (sym (append-nil w)) ∙ words_from-append from [] w [] h
words_from-spaced from w (t ∷ ts) h hs =
    words_from-append from [] w (0x20 ∷ spaced t ts) h
    ∙ ap (λ ws. record { from = from; text = w } ∷ ws) (words_from-spaced (from + length w + 1) t ts hs.0 hs.1)

-- a line of words with one space between each and the next has just these words
pub words_of-spaced : (w : Text) (ts : List Text) → HasNoSpace w → AllByRecursion HasNoSpace ts → words_of (spaced w ts) ≡ placed 0 w ts
words_of-spaced w ts h hs = words_from-spaced 0 w ts h hs

-- ---- the other way

abbrev text_of : Word → Text
text_of w = w.text

abbrev pub joined : List Word → Text
joined [] = []
joined (w ∷ ws) = spaced w.text (map text_of ws)

pub words_from-some : (from : ℕ) (text cs : Text) → 1 ≤ length (words_from from text cs)
words_from-some from text [] = omega arith
words_from-some from text (c ∷ cs) = elim (c == 0x20) as (λ b. 1 ≤ length (pick b (record { from = from; text = text } ∷ words_from (from + length text + 1) [] cs) (words_from from (text ++ c ∷ []) cs))) [
  | true ↦ omega arith
  | false ↦ words_from-some from (text ++ c ∷ []) cs
]

joined-more : (from : ℕ) (text : Text) (ws : List Word) → 1 ≤ length ws → joined (record { from = from; text = text } ∷ ws) ≡ text ++ 0x20 ∷ joined ws
joined-more from text [] h = absurd (omega arith)
joined-more from text (w ∷ ws) h = refl

joined-from : (from : ℕ) (text cs : Text) → joined (words_from from text cs) ≡ text ++ cs
joined-from from text [] = sym (append-nil text)
joined-from from text (c ∷ cs) =
    let ended : List Word = record { from = from; text = text } ∷ words_from (from + length text + 1) [] cs in
    let longer : List Word = words_from from (text ++ c ∷ []) cs in
    elim (cases_Bool (c == 0x20)) [
      | inl same ↦
          ap (λ b. joined (pick b ended longer)) same
          ∙ joined-more from text (words_from (from + length text + 1) [] cs) (words_from-some (from + length text + 1) [] cs)
          ∙ ap (λ s. text ++ 0x20 ∷ s) (joined-from (from + length text + 1) [] cs)
          ∙ ap (λ (b : ℕ). text ++ b ∷ cs) (sym (eqb-true c 0x20 same))
      | inr other ↦ ap (λ b. joined (pick b ended longer)) other ∙ joined-from from (text ++ c ∷ []) cs ∙ append_assoc text (c ∷ []) cs
    ]

-- the words of a line, with one space between each and the next, are the line
pub joined-words_of : (line : Text) → joined (words_of line) ≡ line
joined-words_of line = joined-from 0 [] line

-- ---- names
