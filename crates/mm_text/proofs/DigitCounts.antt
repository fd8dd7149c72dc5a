-- How long a number is, and texts put together.
use Rattle.std.proofs.Common.{◌≡◌, ℕ, zero, suc, ◌+◌, ◌/◌, ◌%◌, ◌≤◌, Bool, true, false, cond, ◌∷◌, [], length, arith, append_assoc, length-append}
use Rattle.std.specs.Prelude.{nat_lt}
use Rattle.mm_types.specs.{Text, glyph, decimal, decimal_onto}

longer_of : (b : Bool) (last more : Text) (k : ℕ) → length last ≤ k → length more ≤ k → length (cond b last more) ≤ k
longer_of true last more k p q = p
longer_of false last more k p q = q

length-decimal_onto : (count n : ℕ) (rest : Text) → length (decimal_onto count n rest) ≤ count + length rest
unfolding decimal_onto
length-decimal_onto zero n rest = omega arith
length-decimal_onto (suc count) n rest =
    let last : Text = glyph (n % 10) ∷ rest in
    longer_of (nat_lt n 10) last (decimal_onto count (n / 10) last) (suc count + length rest) (omega arith) (omega (arith, length-decimal_onto count (n / 10) last))

-- a number has at most twenty digits
pub length-decimal : (n : ℕ) → length (decimal n) ≤ 20
length-decimal n = length-decimal_onto 20 n []

pub ruleset joined = (append_assoc, length-append, length-decimal)
