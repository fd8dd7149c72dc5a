-- A move's line that is read in front of a text.
use Rattle.std.proofs.Common.{◌≡◌, ℕ, ◌+◌, ◌-◌, ◌*◌, ◌/◌, ◌%◌, ◌≤◌, cond, [], ◌∷◌, ◌++◌, length, take, drop, get_or, sym, ap, ◌∙◌, arith, append_assoc}
use Rattle.std.proofs.lemmas.Bool.{lt-ltb}
use Rattle.std.proofs.Math.Seq.{take-length}
use Rattle.mm_types.specs.{Text, glyph, decimal}
use Rattle.mm_log_writer.proofs.{decimal_one, decimal_more}

-- a text by its first byte and the others
pub first_and_rest : (text : Text) (first : ℕ) → 1 ≤ length text → first ≡ get_or text 0 0 → text ≡ first ∷ take (length text - 1) (drop 1 text)
first_and_rest [] first some e = absurd (omega (arith, some))
first_and_rest (b ∷ bs) first some e =
    let count : length bs ≡ length (b ∷ bs) - 1 = omega arith in
    ap (λ (x : ℕ). x ∷ bs) (sym e) ∙ ap (λ t. first ∷ t) (sym (take-length bs)) ∙ ap (λ (k : ℕ). first ∷ take k bs) count

glyph_of : (byte : ℕ) → 48 ≤ byte → byte ≤ 57 → glyph (byte - 48) ≡ byte
glyph_of byte low high =
    let d : ℕ = byte - 48 in
    ap (λ b. cond b (0x30 + d) (0x37 + d)) (lt-ltb d 10 (omega arith)) ∙ omega arith

-- the first digit
pub front_one : (byte : ℕ) (rest : Text) → 48 ≤ byte → byte ≤ 57 → decimal (byte - 48) ++ rest ≡ byte ∷ rest
front_one byte rest low high =
    ap (λ t. t ++ rest) (decimal_one (byte - 48) (omega arith)) ∙ ap (λ (b : ℕ). b ∷ rest) (glyph_of byte low high)

pub front_zero : (rest : Text) → decimal 0 ++ rest ≡ 48 ∷ rest
front_zero rest = ap (λ t. t ++ rest) (decimal_one 0 (omega arith))

-- one digit more
pub front_more : (sum byte : ℕ) (rest text : Text) → 1 ≤ sum → sum ≤ 99999999 → 48 ≤ byte → byte ≤ 57 → decimal sum ++ byte ∷ rest ≡ text → decimal (10 * sum + (byte - 48)) ++ rest ≡ text
front_more sum byte rest text some few low high e =
    let n : ℕ = 10 * sum + (byte - 48) in
    let front : n / 10 ≡ sum = omega arith in
    let last : n % 10 ≡ byte - 48 = omega arith in
    ap (λ t. t ++ rest) (decimal_more n (omega arith) (omega arith))
    ∙ append_assoc (decimal (n / 10)) (glyph (n % 10) ∷ []) rest
    ∙ ap (λ (k : ℕ). decimal k ++ glyph (n % 10) ∷ rest) front
    ∙ ap (λ (d : ℕ). decimal sum ++ glyph d ∷ rest) last
    ∙ ap (λ (b : ℕ). decimal sum ++ b ∷ rest) (glyph_of byte low high)
    ∙ e

pub ruleset fronts = (front_zero, front_one, front_more)
