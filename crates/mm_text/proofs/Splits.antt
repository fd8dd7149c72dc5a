-- The words of a line, one byte after another.
use Rattle.std.proofs.Common.{◌≡◌, ◌≢◌, ℕ, ◌+◌, ◌≤◌, ◌<◌, Bool, cond, List, [], ◌∷◌, ◌++◌, length, drop, get_or, sym, ap, ◌∙◌, arith}
use Rattle.std.specs.Prelude.{slice_range}
use Rattle.std.proofs.lemmas.List.{drop_more, drop_all}
use Rattle.std.proofs.lemmas.List.Edits.{between_more, between_none, length-between}
use Rattle.std.proofs.lemmas.Bool.{eq-eqb, ne_eqb, le-leb, lt-leb}
use Rattle.mm_types.specs.{Text}
use Rattle.mm_text.specs.{words_from, rest_from}
use Rattle.mm_text.specs.Word.{Word}

abbrev pick : Bool → List Word → List Word → List Word
pick b ended longer = cond b ended longer

module _ (line : Text) (from to : ℕ) (order : from ≤ to) where
  pub word_longer : to < length line → get_or line to 0 ≢ 32 → words_from from (slice_range line from to) (drop to line) ≡ words_from from (slice_range line from (to + 1)) (drop (to + 1) line)
  word_longer within other =
      let text : Text = slice_range line from to in
      let rest : Text = drop (to + 1) line in
      ap (λ r. words_from from text r) (drop_more line to 0 within)
      ∙ ap (λ b. pick b (record { from = from; text = text } ∷ words_from (from + length text + 1) [] rest) (words_from from (text ++ get_or line to 0 ∷ []) rest)) (ne_eqb (get_or line to 0) 32 other)
      ∙ ap (λ t. words_from from t rest) (sym (between_more line from to 0 order within))

  pub word_ended : to < length line → get_or line to 0 ≡ 32 → words_from from (slice_range line from to) (drop to line) ≡ record { from = from; text = slice_range line from to } ∷ rest_from (to + 1) line
  word_ended within same =
      let text : Text = slice_range line from to in
      let rest : Text = drop (to + 1) line in
      let place : from + length text + 1 ≡ to + 1 = omega (arith, length-between line from to (omega arith)) in
      ap (λ r. words_from from text r) (drop_more line to 0 within)
      ∙ ap (λ b. pick b (record { from = from; text = text } ∷ words_from (from + length text + 1) [] rest) (words_from from (text ++ get_or line to 0 ∷ []) rest)) (eq-eqb (get_or line to 0) 32 same)
      ∙ ap (λ (k : ℕ). record { from = from; text = text } ∷ words_from k [] rest) place
      ∙ ap (λ b. record { from = from; text = text } ∷ pick b (words_from (to + 1) [] rest) []) (sym (le-leb (to + 1) (length line) (omega arith)))

  pub word_over : length line ≤ to → words_from from (slice_range line from to) (drop to line) ≡ record { from = from; text = slice_range line from to } ∷ rest_from (to + 1) line
  word_over over =
      let text : Text = slice_range line from to in
      ap (λ r. words_from from text r) (drop_all to line over)
      ∙ ap (λ b. record { from = from; text = text } ∷ pick b (words_from (to + 1) [] (drop (to + 1) line)) []) (sym (lt-leb (to + 1) (length line) (omega arith)))

pub word_begun : (line : Text) (from : ℕ) → words_from from [] (drop from line) ≡ words_from from (slice_range line from from) (drop from line)
word_begun line from = ap (λ t. words_from from t (drop from line)) (sym (between_none line from))

pub rest_some : (line : Text) (at : ℕ) → at ≤ length line → rest_from at line ≡ words_from at [] (drop at line)
rest_some line at h = ap (λ b. pick b (words_from at [] (drop at line)) []) (le-leb at (length line) h)

pub rest_none : (line : Text) (at : ℕ) → length line < at → rest_from at line ≡ []
rest_none line at h = ap (λ b. pick b (words_from at [] (drop at line)) []) (lt-leb at (length line) h)

-- one byte more, at a place that is told otherwise
longer_at : (line : Text) (from to next : ℕ) → from ≤ to → to < length line → get_or line to 0 ≢ 32 → next ≡ to + 1 → words_from from (slice_range line from to) (drop to line) ≡ words_from from (slice_range line from next) (drop next line)
longer_at line from to next order within other e =
    word_longer line from to order within other ∙ ap (λ (k : ℕ). words_from from (slice_range line from k) (drop k line)) (sym e)

-- four bytes a turn
module _ (line : Text) (from to : ℕ) (order : from ≤ to) where
  pub word_ended-1 : to + 1 < length line → get_or line to 0 ≢ 32 → get_or line (to + 1) 0 ≡ 32 → words_from from (slice_range line from to) (drop to line) ≡ record { from = from; text = slice_range line from (to + 1) } ∷ rest_from (to + 1 + 1) line
  word_ended-1 within a same =
      longer_at line from to (to + 1) order (omega arith) a (omega arith) ∙ word_ended line from (to + 1) (omega arith) within same

  pub word_longer-2 : to + 1 < length line → get_or line to 0 ≢ 32 → get_or line (to + 1) 0 ≢ 32 → words_from from (slice_range line from to) (drop to line) ≡ words_from from (slice_range line from (to + 2)) (drop (to + 2) line)
  word_longer-2 within a b =
      longer_at line from to (to + 1) order (omega arith) a (omega arith) ∙ longer_at line from (to + 1) (to + 2) (omega arith) within b (omega arith)

  pub word_ended-2 : to + 2 < length line → get_or line to 0 ≢ 32 → get_or line (to + 1) 0 ≢ 32 → get_or line (to + 2) 0 ≡ 32 → words_from from (slice_range line from to) (drop to line) ≡ record { from = from; text = slice_range line from (to + 2) } ∷ rest_from (to + 2 + 1) line
  word_ended-2 within a b same = word_longer-2 (omega arith) a b ∙ word_ended line from (to + 2) (omega arith) within same

  pub word_longer-3 : to + 2 < length line → get_or line to 0 ≢ 32 → get_or line (to + 1) 0 ≢ 32 → get_or line (to + 2) 0 ≢ 32 → words_from from (slice_range line from to) (drop to line) ≡ words_from from (slice_range line from (to + 3)) (drop (to + 3) line)
  word_longer-3 within a b c = word_longer-2 (omega arith) a b ∙ longer_at line from (to + 2) (to + 3) (omega arith) within c (omega arith)

  pub word_ended-3 : to + 3 < length line → get_or line to 0 ≢ 32 → get_or line (to + 1) 0 ≢ 32 → get_or line (to + 2) 0 ≢ 32 → get_or line (to + 3) 0 ≡ 32 → words_from from (slice_range line from to) (drop to line) ≡ record { from = from; text = slice_range line from (to + 3) } ∷ rest_from (to + 3 + 1) line
  word_ended-3 within a b c same = word_longer-3 (omega arith) a b c ∙ word_ended line from (to + 3) (omega arith) within same

  pub word_longer-4 : to + 3 < length line → get_or line to 0 ≢ 32 → get_or line (to + 1) 0 ≢ 32 → get_or line (to + 2) 0 ≢ 32 → get_or line (to + 3) 0 ≢ 32 → words_from from (slice_range line from to) (drop to line) ≡ words_from from (slice_range line from (to + 4)) (drop (to + 4) line)
  word_longer-4 within a b c d = word_longer-3 (omega arith) a b c ∙ longer_at line from (to + 3) (to + 4) (omega arith) within d (omega arith)

pub ruleset splits = (word_longer, word_ended, word_over, word_begun, rest_some, rest_none)

pub ruleset fours = (word_longer, word_ended, word_over, word_begun, word_ended-1, word_ended-2, word_ended-3, word_longer-4)
