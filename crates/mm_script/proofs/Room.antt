-- How much room a word takes, and words behind one another.
use Rattle.std.proofs.Common.{◌≡◌, ℕ, ◌≤◌, ◌<◌, List, [], ◌++◌, length, arith, ap, ◌∙◌, append_assoc, length-append, lit≤}
use Rattle.mm_types.specs.{Text, decimal, spaced}
use Rattle.mm_text.specs.{following}
use Rattle.mm_text.proofs.{decimal_is, length-digits, length-byte_pairs, length-decimal-32, length-hex_short, spaced_line as line_of_words}

pub length-decimal-8 : (n : ℕ) → n < 256 → length (decimal n) ≤ 3
length-decimal-8 n low = omega (arith, ap length (decimal_is 20 n []), length-digits 10 (lit≤ tt) (lit≤ tt) 20 2 n [] (omega arith))

pub ruleset widths = (append_assoc, length-append, length-decimal-8, length-decimal-32, length-hex_short, length-byte_pairs)

pub spaced_line : (old first mid new : Text) (ts : List Text) → mid ≡ old ++ first → new ≡ mid ++ following ts → new ≡ old ++ spaced first ts
spaced_line old first mid new ts m n = n ∙ ap (λ s. s ++ following ts) m ∙ line_of_words old first ts
