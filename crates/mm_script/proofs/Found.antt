-- The keyword that a word is, sought among all or among those of its length.
use Rattle.std.proofs.Common.{◌≡◌, List, [], ◌∷◌, length, Option, Some, None, true, false, cond, refl, sym, ap, ◌∙◌}
use Rattle.std.specs.Prelude.{bytes_eq}
use Rattle.std.proofs.lemmas.Option.{same_Some}
use Rattle.std.proofs.lemmas.Slice.Eq.{bytes_eq-Decides}
use Rattle.mm_types.specs.{Text}
use Rattle.mm_script.specs.{Keyword, text_of, keyword_among, keywords, keyword_of, keywords_of_length}
use Rattle.mm_script.specs.declared.keywords.Keyword.TheVariants as keyword

among_is : (ks : List Keyword) (word : Text) (k : Keyword) → keyword_among ks word ≡ Some k → word ≡ text_of k
among_is [] word k h = cc
among_is (j ∷ ks) word k h = elim (bytes_eq word (text_of j)) as (λ b. bytes_eq word (text_of j) ≡ b → cond b (Some j) (keyword_among ks word) ≡ Some k → word ≡ text_of k) [
  | true ↦ λ e f. (bytes_eq-Decides word (text_of j)).0 e ∙ ap text_of (same_Some j k f)
  | false ↦ λ e f. among_is ks word k f
] refl h

-- the keyword among those of the word's length
abbrev sought : Text → Option Keyword
sought word = keyword_among (keywords_of_length (length word)) word

-- each keyword is found by its text, both ways
both_ways : (k : Keyword) → (keyword_among keywords (text_of k) ≡ Some k) × (sought (text_of k) ≡ Some k)
both_ways keyword.Machine = (refl, refl)
both_ways k = (refl, refl)

same_ways : (word : Text) (a b : Option Keyword) → keyword_among keywords word ≡ a → sought word ≡ b → b ≡ a
same_ways word (Some k) b p q = sym q ∙ ap sought (among_is keywords word k p) ∙ (both_ways k).1
same_ways word None None p q = refl
same_ways word None (Some k) p q =
    let bad : None ≡ Some k = sym p ∙ ap (keyword_among keywords) (among_is (keywords_of_length (length word)) word k q) ∙ (both_ways k).0 in
    cc

pub found_sorted : (word : Text) (r : Option Keyword) → r ≡ keyword_among (keywords_of_length (length word)) word → r ≡ keyword_of word
unfolding keyword_of
found_sorted word r h = h ∙ same_ways word (keyword_among keywords word) (sought word) refl refl

-- a word that is a keyword's text is that keyword
pub found_word : (word : Text) (k : Keyword) → bytes_eq word (text_of k) ≡ true → Some k ≡ keyword_of word
unfolding keyword_of
found_word word k same = sym (ap (keyword_among keywords) ((bytes_eq-Decides word (text_of k)).0 same) ∙ (both_ways k).0)

pub keyword_is : (word : Text) (k : Keyword) → keyword_of word ≡ Some k → word ≡ text_of k
unfolding keyword_of
keyword_is word k h = among_is keywords word k h

pub keyword_again : (k : Keyword) → keyword_of (text_of k) ≡ Some k
unfolding keyword_of
keyword_again k = (both_ways k).0
