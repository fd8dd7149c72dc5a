-- A word that is a known text.
use Rattle.std.proofs.Common.{◌≡◌, ◌≢◌, ℕ, ◌+◌, ◌≤◌, ◌<◌, Bool, true, false, cond, [], ◌∷◌, ◌++◌, length, drop, take, get_or, refl, sym, ap, ◌∙◌, arith}
use Rattle.std.specs.Prelude.{◌==◌, slice_range}
use Rattle.std.proofs.lemmas.List.{take_more, take_all}
use Rattle.std.proofs.lemmas.List.Edits.{between_more, between_none}
use Rattle.std.proofs.lemmas.List.Folds.{drop_split}
use Rattle.mm_types.specs.{Text}
use Rattle.mm_text.specs.{is_unspaced, words_from, rest_from, EndsWord, IsWordAt, TakesText}
use Rattle.mm_text.proofs.Spaces.{HasNoSpace, words_from-append}
use Rattle.mm_text.proofs.Runs.{ended_at}
use Rattle.mm_text.proofs.Splits.{rest_some}

no_space_here : (c : ℕ) (cs : Text) → is_unspaced (c ∷ cs) ≡ true → c ≢ 0x20
no_space_here c cs h e =
    let here : is_unspaced (c ∷ cs) ≡ false = ap (λ (x : ℕ). cond (x == 0x20) false (is_unspaced cs)) e in
    let bad : true ≡ false = sym h ∙ here in
    cc

no_space_behind : (c : ℕ) (cs : Text) → is_unspaced (c ∷ cs) ≡ true → is_unspaced cs ≡ true
no_space_behind c cs h = elim (c == 0x20) as (λ b. cond b false (is_unspaced cs) ≡ true → is_unspaced cs ≡ true) [
  | true ↦ λ e. cc
  | false ↦ λ e. e
] h

no_space : (text : Text) → is_unspaced text ≡ true → HasNoSpace text
no_space [] h = tt
no_space (c ∷ cs) h = (no_space_here c cs h, no_space cs (no_space_behind c cs h))

-- ---- one byte after another

pub begun_none : (line text : Text) (from : ℕ) → slice_range line from (from + 0) ≡ take 0 text
begun_none line text from = ap (λ (k : ℕ). slice_range line from k) (omega arith) ∙ between_none line from

pub begun_more : (line text : Text) (from i : ℕ) → from + i < length line → i < length text → get_or line (from + i) 0 ≡ get_or text i 0 → slice_range line from (from + i) ≡ take i text → slice_range line from (from + (i + 1)) ≡ take (i + 1) text
begun_more line text from i within inside same e =
    ap (λ (k : ℕ). slice_range line from k) (omega arith)
    ∙ between_more line from (from + i) 0 (omega arith) within
    ∙ ap (λ (t : Text). t ++ get_or line (from + i) 0 ∷ []) e
    ∙ ap (λ (b : ℕ). take i text ++ b ∷ []) same
    ∙ sym (take_more text i 0 inside)

pub begun_all : (line text : Text) (from i : ℕ) → length text ≤ i → i ≤ length text → slice_range line from (from + i) ≡ take i text → slice_range line from (from + length text) ≡ text
begun_all line text from i all most e = ap (λ (k : ℕ). slice_range line from (from + k)) (omega (arith, all, most)) ∙ e ∙ take_all i text all

pub ruleset begun = (begun_none, begun_more, begun_all)

-- ---- the word

pub text_told : (line text : Text) (from : ℕ) → from + length text ≤ length line → is_unspaced text ≡ true → slice_range line from (from + length text) ≡ text → EndsWord line (from + length text) → IsWordAt line from (from + length text) text
text_told line text from within plain e ends =
    let to : ℕ = from + length text in
    record {
      within = within;
      word =
          ap (words_from from []) (drop_split line from to (omega arith))
          ∙ ap (λ (t : Text). words_from from [] (t ++ drop to line)) e
          ∙ words_from-append from [] text (drop to line) (no_space text plain)
          ∙ ap (λ (t : Text). words_from from t (drop to line)) (sym e)
          ∙ ended_at line from to (omega arith) ends
          ∙ ap (λ (t : Text). record { from = from; text = t } ∷ rest_from (to + 1) line) e;
    }

pub text_taken : (line text : Text) (from to : ℕ) → from ≤ length line → IsWordAt line from to text → TakesText (record { line = line; left = rest_from from line }) (record { line = line; left = rest_from (to + 1) line }) from text
text_taken line text from to within w = record {
  line = refl;
  within = within;
  left = rest_some line from within ∙ w.word;
}

pub ruleset texts = (text_told, text_taken)
