-- Words with one space between each and the next, and the words of a text.
use Rattle.std.specs.List.{AllByRecursion}
use Rattle.std.proofs.Common.{map, ◌≡◌, ◌≢◌, ℕ, ◌+◌, ◌⊎◌, List, [], ◌∷◌, ◌++◌, length, Bool, true, false, cond, eqb, refl, sym, ap, ◌∙◌, inl, inr, subst}
use Rattle.std.proofs.lemmas.Bool.{eqb-true}
use Rattle.mm_types.specs.{Text, spaced}
use Rattle.mm_types.proofs.{append_nil}
use Rattle.mm_text.specs.{words_of}
use Rattle.mm_text.specs.Word.{Word}
use Rattle.mm_text.proofs.{HasNoSpace, placed, words_of-spaced, joined, joined-words_of}
use Rattle.mm_script.specs.{spaced_words, without_return}

-- what the words are
abbrev pub texts : List Word → List Text
texts ws = map (λ w. w.text) ws

spaced_texts : (ws : List Word) → spaced_words (texts ws) ≡ joined ws
spaced_texts [] = refl
spaced_texts (w ∷ ws) = refl

-- the words of a text, joined, are the text
pub joined_words : (text : Text) → spaced_words (texts (words_of text)) ≡ text
joined_words text = spaced_texts (words_of text) ∙ joined-words_of text

-- a byte that ends no word and no line
abbrev pub is_plain : ℕ → Bool
is_plain c = cond (eqb c 0x20) false (cond (eqb c 0x0D) false true)

abbrev pub IsPlain : Text → Type 0
IsPlain [] = Unit {0}
IsPlain (c ∷ cs) = (is_plain c ≡ true) × IsPlain cs

abbrev pub ArePlain : List Text → Type 0
ArePlain [] = Unit {0}
ArePlain (w ∷ ws) = IsPlain w × ArePlain ws

no_space : (c : ℕ) → is_plain c ≡ true → c ≢ 0x20
no_space c h e = let t : is_plain 0x20 ≡ true = ap is_plain (sym e) ∙ h in cc

spaceless : (w : Text) → IsPlain w → HasNoSpace w
spaceless [] p = tt
spaceless (c ∷ cs) p = (no_space c p.0, spaceless cs p.1)

all_spaceless : (ws : List Text) → ArePlain ws → AllByRecursion HasNoSpace ws
all_spaceless [] p = tt
all_spaceless (w ∷ ws) p = (spaceless w p.0, all_spaceless ws p.1)

no_return : (c : ℕ) → is_plain c ≡ true → eqb c 0x0D ≡ false
no_return c h = elim (eqb c 0x0D) as (λ b. cond (eqb c 0x20) false (cond b false true) ≡ true → b ≡ false) [
  | true ↦ λ e. elim (eqb c 0x20) as (λ b. cond b false false ≡ true → true ≡ false) [ true ↦ λ d. sym d | false ↦ λ d. sym d ] e
  | false ↦ λ e. refl
] h

texts_placed : (from : ℕ) (w : Text) (ws : List Text) → texts (placed from w ws) ≡ w ∷ ws
texts_placed from w [] = refl
texts_placed from w (v ∷ vs) = ap (λ ts. w ∷ ts) (texts_placed (from + length w + 1) v vs)

-- the words of words that were joined are these words
pub split_words : (w : Text) (ws : List Text) → IsPlain w → ArePlain ws → texts (words_of (spaced w ws)) ≡ w ∷ ws
split_words w ws p ps = ap texts (words_of-spaced w ws (spaceless w p) (all_spaceless ws ps)) ∙ texts_placed 0 w ws

-- a carriage return at the end is taken off, and only it
pub return_cases : (text : Text) → (text ≡ without_return text) ⊎ (text ≡ without_return text ++ 0x0D ∷ [])
unfolding without_return
return_cases [] = inl refl
return_cases (c ∷ []) = elim (eqb c 0x0D) as (λ b. eqb c 0x0D ≡ b → (c ∷ [] ≡ cond b [] (c ∷ [])) ⊎ (c ∷ [] ≡ cond b [] (c ∷ []) ++ 0x0D ∷ [])) [
  | true ↦ λ e. inr (ap (λ d. d ∷ []) (eqb-true c 0x0D e))
  | false ↦ λ e. inl refl
] refl
return_cases (c ∷ d ∷ cs) = elim (return_cases (d ∷ cs)) [ inl e ↦ inl (ap (λ t. c ∷ t) e) | inr e ↦ inr (ap (λ t. c ∷ t) e) ]

pub return_taken : (text : Text) → without_return (text ++ 0x0D ∷ []) ≡ text
unfolding without_return
return_taken [] = refl
return_taken (c ∷ []) = refl
return_taken (c ∷ d ∷ cs) = ap (λ t. c ∷ t) (return_taken (d ∷ cs))

-- no carriage return stands in the text
abbrev NoReturn : Text → Type 0
NoReturn [] = Unit {0}
NoReturn (c ∷ cs) = (eqb c 0x0D ≡ false) × NoReturn cs

return_none : (text : Text) → NoReturn text → without_return text ≡ text
unfolding without_return
return_none [] h = refl
return_none (c ∷ []) h = ap (λ b. cond b [] (c ∷ [])) h.0
return_none (c ∷ d ∷ cs) h = ap (λ t. c ∷ t) (return_none (d ∷ cs) h.1)

plain_append : (a b : Text) → IsPlain a → NoReturn b → NoReturn (a ++ b)
plain_append [] b p q = q
plain_append (c ∷ cs) b p q = (no_return c p.0, plain_append cs b p.1 q)

plain_line : (w : Text) (ws : List Text) → IsPlain w → ArePlain ws → NoReturn (spaced w ws)
plain_line w [] p ps = subst NoReturn (append_nil w) (plain_append w [] p tt)
plain_line w (v ∷ vs) p ps = plain_append w (0x20 ∷ spaced v vs) p (refl, plain_line v vs ps.0 ps.1)

pub plain_kept : (w : Text) (ws : List Text) → IsPlain w → ArePlain ws → without_return (spaced w ws) ≡ spaced w ws
plain_kept w ws p ps = return_none (spaced w ws) (plain_line w ws p ps)

-- what has no carriage return at its end stays as it is
pub not_returned : (text p : Text) → p ≡ 0x0D ∷ [] → ((front : Text) → text ≢ front ++ p) → text ≡ without_return text
not_returned text p e h = elim (return_cases text) [
  | inl same ↦ same
  | inr taken ↦ absurd (h (without_return text) (taken ∙ ap (λ q. without_return text ++ q) (sym e)))
]
