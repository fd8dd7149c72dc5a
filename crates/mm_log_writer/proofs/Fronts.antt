-- What stands in front of an index, after bytes were stored from there on.
use Rattle.std.proofs.Common.{◌≡◌, ℕ, ◌+◌, ◌^◌, ◌≤◌, ◌<◌, [], ◌∷◌, ◌++◌, length, get_or, set, sym, ap, ◌∙◌, arith, append_assoc, length-append}
use Rattle.std.specs.Prelude.{take}
use Rattle.std.proofs.lemmas.List.{take-take, length-take-le, take_more, take_more_set, take_all}
use Rattle.std.proofs.Math.Seq.{take-append-add}
use Rattle.mm_types.specs.{Text, decimal}
use Rattle.mm_text.proofs.{length-decimal-32}

-- a text follows in front of a later index, and so does each front of it
pub shorter : (old new : Text) (more : Text) (at n k : ℕ) → at ≤ length old → take (at + n) new ≡ take at old ++ more → k ≤ n → take (at + k) new ≡ take at old ++ take k more
shorter old new more at n k inside e few =
    let front : length (take at old) ≡ at = length-take-le at old inside in
    sym (take-take (at + k) (at + n) new (omega arith))
    ∙ ap (take (at + k)) e
    ∙ ap (λ (m : ℕ). take (m + k) (take at old ++ more)) (sym front)
    ∙ take-append-add (take at old) more k

-- how far a text reaches
pub reaches : (old new more : Text) (at end : ℕ) → at ≤ length old → end ≤ length new → take end new ≡ take at old ++ more → end ≡ at + length more
reaches old new more at end inside within e =
    omega (arith, length-take-le at old inside, length-take-le end new within, ap length e, length-append (take at old) more)

pub reaches_number : (old new : Text) (at end n : ℕ) → n < 2 ^ 32 → at ≤ length old → end ≤ length new → take end new ≡ take at old ++ decimal n → end ≤ at + 10
reaches_number old new at end n low inside within e = omega (arith, reaches old new (decimal n) at end inside within e, length-decimal-32 n low)

-- three bytes one after another
pub three : (t : Text) (a b c : ℕ) → ((t ++ a ∷ []) ++ b ∷ []) ++ c ∷ [] ≡ t ++ a ∷ b ∷ c ∷ []
three t a b c = ap (λ (x : Text). x ++ c ∷ []) (append_assoc t (a ∷ []) (b ∷ [])) ∙ append_assoc t (a ∷ b ∷ []) (c ∷ [])

-- one byte more of those that are written
pub byte_more : (old out bytes : Text) (at i d : ℕ) → at + i < length out → i < length bytes → take (at + i) out ≡ take at old ++ take i bytes → take (at + (i + 1)) (set out (at + i) (get_or bytes i d)) ≡ take at old ++ take (i + 1) bytes
byte_more old out bytes at i d within inside e =
    let b = get_or bytes i d in
    ap (λ (k : ℕ). take k (set out (at + i) b)) (omega arith)
    ∙ take_more_set out (at + i) b within
    ∙ ap (λ (t : Text). t ++ b ∷ []) e
    ∙ append_assoc (take at old) (take i bytes) (b ∷ [])
    ∙ ap (λ (t : Text). take at old ++ t) (sym (take_more bytes i d inside))

-- all of them
pub bytes_all : (bytes : Text) (i : ℕ) → length bytes ≤ i → take i bytes ≡ bytes
bytes_all bytes i all = take_all i bytes all
