-- Words that are written one after another.
use Rattle.std.proofs.Common.{◌≡◌, ℕ, zero, suc, ◌+◌, ◌*◌, ◌≤◌, ◌<◌, Bool, List, [], ◌∷◌, ◌++◌, length, drop, get_or, map, refl, sym, ap, ◌∙◌, arith, append_assoc, length-append, lit≤}
use Rattle.std.proofs.lemmas.List.{append-nil, drop_more, drop_all}
use Rattle.mm_types.specs.{Text, decimal, spaced}
use Rattle.mm_text.specs.{following, number_word}
use Rattle.mm_text.proofs.Digits.{decimal_is}
use Rattle.mm_text.proofs.Spelled.{length-digits, length-decimal, length-decimal-32, length-hex8, length-byte_pairs}

-- words with a space between each and the next are the first, and each other after a space
pub spaced_is : (first : Text) (ts : List Text) → spaced first ts ≡ first ++ following ts
spaced_is first [] = sym (append-nil first)
spaced_is first (t ∷ ts) = ap (λ s. first ++ 0x20 ∷ s) (spaced_is t ts)

pub spaced_line : (out first : Text) (ts : List Text) → (out ++ first) ++ following ts ≡ out ++ spaced first ts
spaced_line out first ts = append_assoc out first (following ts) ∙ ap (λ s. out ++ s) (sym (spaced_is first ts))

-- one word more
pub words_more : (hex : Bool) (out : Text) (xs : List ℕ) (i : ℕ) → i < length xs → ((out ++ 0x20 ∷ []) ++ number_word hex (get_or xs i 0)) ++ following (map (number_word hex) (drop (i + 1) xs)) ≡ out ++ following (map (number_word hex) (drop i xs))
words_more hex out xs i h =
    append_assoc (out ++ 0x20 ∷ []) (number_word hex (get_or xs i 0)) (following (map (number_word hex) (drop (i + 1) xs)))
    ∙ append_assoc out (0x20 ∷ []) (number_word hex (get_or xs i 0) ++ following (map (number_word hex) (drop (i + 1) xs)))
    ∙ ap (λ r. out ++ following (map (number_word hex) r)) (sym (drop_more xs i 0 h))

pub words_all : (hex : Bool) (out : Text) (xs : List ℕ) (i : ℕ) → length xs ≤ i → out ++ following (map (number_word hex) (drop i xs)) ≡ out
words_all hex out xs i h = ap (λ r. out ++ following (map (number_word hex) r)) (drop_all i xs h) ∙ append-nil out

-- the number of addresses that `watch` tells
pub length-decimal-short : (n : ℕ) → n ≤ 16 → length (decimal n) ≤ 2
length-decimal-short n few = omega (arith, ap length (decimal_is 20 n []), length-digits 10 (lit≤ tt) (lit≤ tt) 20 1 n [] (omega arith))

pub ruleset steps = (length-decimal-short, words_more, words_all, spaced_line, append_assoc, length-append, length-decimal, length-decimal-32, length-hex8, length-byte_pairs)
