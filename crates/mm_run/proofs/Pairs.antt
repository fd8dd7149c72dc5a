-- The line of the bytes that a read gives, piece by piece.
use Rattle.std.proofs.Common.{◌≡◌, ℕ, ◌+◌, ◌/◌, ◌%◌, ◌≤◌, ◌<◌, List, [], ◌∷◌, ◌++◌, length, drop, get_or, refl, sym, ap, ◌∙◌, arith, append_assoc}
use Rattle.std.proofs.lemmas.List.{append-nil, drop_all, drop_more}
use Rattle.std.specs.Prelude.{codes}
use Rattle.mm_types.specs.declared.answers.Answer.TheVariants as answer
use Rattle.mm_types.specs.{Text, glyph, spelling, byte_pairs}

pub bytes_kept : (old pairs bytes : List ℕ) → pairs ≡ byte_pairs bytes → ((old ++ codes "ok ") ++ pairs) ++ (0x0A ∷ []) ≡ old ++ spelling (answer.Bytes bytes)
bytes_kept old pairs bytes e =
    append_assoc (old ++ codes "ok ") pairs (0x0A ∷ [])
    ∙ append_assoc old (codes "ok ") (pairs ++ (0x0A ∷ []))
    ∙ ap (λ (ps : List ℕ). old ++ (codes "ok " ++ (ps ++ (0x0A ∷ [])))) e

-- one byte more in pairs
pub pair_put : (out : Text) (b : ℕ) (bs : List ℕ) → b < 256 → ((out ++ glyph (b / 16) ∷ []) ++ glyph (b % 16) ∷ []) ++ byte_pairs bs ≡ out ++ byte_pairs (b ∷ bs)
pair_put out b bs low =
    let high : b / 16 ≡ b / 16 % 16 = omega arith in
    append_assoc (out ++ glyph (b / 16) ∷ []) (glyph (b % 16) ∷ []) (byte_pairs bs)
    ∙ append_assoc out (glyph (b / 16) ∷ []) (glyph (b % 16) ∷ byte_pairs bs)
    ∙ ap (λ d. out ++ glyph d ∷ glyph (b % 16) ∷ byte_pairs bs) high

pub read_more : (out xs : List ℕ) (i : ℕ) → i < length xs → get_or xs i 0 < 256 → ((out ++ glyph (get_or xs i 0 / 16) ∷ []) ++ glyph (get_or xs i 0 % 16) ∷ []) ++ byte_pairs (drop (i + 1) xs) ≡ out ++ byte_pairs (drop i xs)
read_more out xs i h low =
    pair_put out (get_or xs i 0) (drop (i + 1) xs) low ∙ ap (λ r. out ++ byte_pairs r) (sym (drop_more xs i 0 h))

-- its line feed, behind all pairs
pub read_done : (out old bytes : List ℕ) (i : ℕ) → length bytes ≤ i → out ++ byte_pairs (drop i bytes) ≡ (old ++ codes "ok ") ++ byte_pairs bytes → out ++ 0x0A ∷ [] ≡ old ++ spelling (answer.Bytes bytes)
read_done out old bytes i all e =
    ap (λ (t : List ℕ). t ++ (0x0A ∷ [])) (sym (append-nil out) ∙ ap (λ (r : List ℕ). out ++ byte_pairs r) (sym (drop_all i bytes all)) ∙ e) ∙ bytes_kept old (byte_pairs bytes) bytes refl

pub ruleset reads = (read_more, read_done)
