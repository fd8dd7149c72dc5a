-- A text without the spaces at its end; spaces one after another.
use Rattle.std.proofs.Common.{◌≡◌, ◌≢◌, ℕ, zero, suc, ◌+◌, ◌-◌, ◌<◌, ◌≤◌, Bool, true, false, ◌&&◌, cond, List, [], ◌∷◌, ◌++◌, length, take, drop, get_or, replicate, refl, sym, ap, ◌∙◌, arith, append_assoc}
use Rattle.std.specs.Prelude.{◌==◌}
use Rattle.std.proofs.lemmas.Bool.{eq-eqb, ne_eqb}
use Rattle.std.proofs.lemmas.List.{take-replicate}
use Rattle.mm_types.specs.{Text}
use Rattle.mm_transcripts.specs.{trimmed, is_none_left}

abbrev onto : ℕ → Text → Text
onto c behind = cond ((c == 0x20) && is_none_left behind) [] (c ∷ behind)

-- a space more at the end
pub space_more : (xs : Text) (k : ℕ) → k < length xs → get_or xs k 0 ≡ 0x20 → trimmed (take (suc k) xs) ≡ trimmed (take k xs)
space_more [] k low e = absurd (omega arith)
space_more (c ∷ cs) zero low e = ap (λ b. cond (b && true) [] (c ∷ [])) (eq-eqb c 0x20 e)
space_more (c ∷ cs) (suc k) low e = ap (onto c) (space_more cs k (omega (arith, low)) e)

-- what ends in no space
none_left_not : (b : Bool) (c : ℕ) (cs : Text) → is_none_left cs ≡ false → cond (b && is_none_left cs) [] (c ∷ cs) ≡ c ∷ cs
none_left_not true c cs e = ap (λ t. cond t [] (c ∷ cs)) e
none_left_not false c cs e = refl

some_left : (xs : Text) (k : ℕ) → k < length xs → is_none_left (take (suc k) xs) ≡ false
some_left [] k low = absurd (omega arith)
some_left (c ∷ cs) k low = refl

pub no_space : (xs : Text) (k : ℕ) → k < length xs → get_or xs k 0 ≢ 0x20 → trimmed (take (suc k) xs) ≡ take (suc k) xs
no_space [] k low e = absurd (omega arith)
no_space (c ∷ cs) zero low e = ap (λ b. cond (b && true) [] (c ∷ [])) (ne_eqb c 0x20 e)
no_space (c ∷ cs) (suc k) low e =
    ap (onto c) (no_space cs k (omega (arith, low)) e)
    ∙ none_left_not (c == 0x20) c (take (suc k) cs) (some_left cs k (omega (arith, low)))

-- in the words of a place behind the end
pub trimmed_one : (xs : Text) (end : ℕ) → 0 < end → end ≤ length xs → get_or xs (end - 1) 0 ≡ 0x20 → trimmed (take end xs) ≡ trimmed (take (end - 1) xs)
trimmed_one xs end some low e = ap (λ n. trimmed (take n xs)) (same end some) ∙ space_more xs (end - 1) (omega (arith, some, low)) e
  where
    same : (end : ℕ) → 0 < end → end ≡ suc (end - 1)
    same end some = omega (arith, some)

pub trimmed_all : (xs : Text) (end : ℕ) → 0 < end → end ≤ length xs → get_or xs (end - 1) 0 ≢ 0x20 → take end xs ≡ trimmed (take end xs)
trimmed_all xs end some low e =
    sym (ap (λ n. trimmed (take n xs)) (same end some) ∙ no_space xs (end - 1) (omega (arith, some, low)) e ∙ ap (λ n. take n xs) (sym (same end some)))
  where
    same : (end : ℕ) → 0 < end → end ≡ suc (end - 1)
    same end some = omega (arith, some)

pub trimmed_none : (xs : Text) → [] ≡ trimmed (take 0 xs)
trimmed_none xs = refl

pub ruleset trimming = (trimmed_one, trimmed_all, trimmed_none)

-- some spaces of as many as a line has columns
pub few_spaces : (n : ℕ) → n ≤ 46 → take n (replicate {A = ℕ} 46 0x20) ≡ replicate n 0x20
few_spaces n few = take-replicate {X = ℕ} n 46 0x20 few

pub ruleset spaces = (few_spaces, append_assoc)
