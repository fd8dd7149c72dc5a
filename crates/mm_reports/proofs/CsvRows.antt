-- Rows of csv that are written in pieces.
use Rattle.std.proofs.Common.{◌≡◌, ℕ, List, [], ◌∷◌, ◌++◌, Option, refl, sym, ap, ◌∙◌, append_assoc}
use Rattle.std.specs.Prelude.{map, flat_map}
use Rattle.mm_types.specs.{Text, decimal}
use Rattle.mm_csv.specs.{csv_field, csv_next, csv_row, fields_behind}
use Rattle.mm_reports.specs.{number_next}

-- numbers in front of other fields, and as the last ones
numbers_before : (ns : List ℕ) (rest : List Text) → flat_map number_next ns ++ fields_behind rest ≡ fields_behind (map decimal ns ++ rest)
numbers_before [] rest = refl
numbers_before (n ∷ ns) rest = append_assoc (number_next n) (flat_map number_next ns) (fields_behind rest) ∙ ap (λ t. number_next n ++ t) (numbers_before ns rest)

numbers_last : (ns : List ℕ) → flat_map number_next ns ++ 10 ∷ [] ≡ fields_behind (map decimal ns)
numbers_last [] = refl
numbers_last (n ∷ ns) = append_assoc (number_next n) (flat_map number_next ns) (10 ∷ []) ∙ ap (λ t. number_next n ++ t) (numbers_last ns)

-- four pieces
four : (text text1 text2 text3 text4 a b c d : Text) → text1 ≡ text ++ a → text2 ≡ text1 ++ b → text3 ≡ text2 ++ c → text4 ≡ text3 ++ d → text4 ≡ text ++ (a ++ (b ++ (c ++ d)))
four text text1 text2 text3 text4 a b c d e1 e2 e3 e4 =
    e4 ∙ ap (λ t. t ++ d) (e3 ∙ ap (λ t. t ++ c) (e2 ∙ ap (λ t. t ++ b) e1))
    ∙ append_assoc ((text ++ a) ++ b) c d ∙ append_assoc (text ++ a) b (c ++ d) ∙ append_assoc text a (b ++ (c ++ d))

-- a number, numbers, a field, and the last fields
pub counts_joined : (text text1 text2 text3 text4 : Text) (line : ℕ) (ns : List ℕ) (sets : Text) (last : List Text)
    → text1 ≡ text ++ csv_field (decimal line) → text2 ≡ text1 ++ flat_map number_next ns → text3 ≡ text2 ++ csv_next sets → text4 ≡ text3 ++ fields_behind last
    → text4 ≡ text ++ csv_row (decimal line ∷ (map decimal ns ++ (sets ∷ last)))
counts_joined text text1 text2 text3 text4 line ns sets last e1 e2 e3 e4 =
    four text text1 text2 text3 text4 (csv_field (decimal line)) (flat_map number_next ns) (csv_next sets) (fields_behind last) e1 e2 e3 e4
    ∙ ap (λ t. text ++ (csv_field (decimal line) ++ t)) (numbers_before ns (sets ∷ last))

-- a number, a field, and numbers
pub faults_joined : (text text1 text2 text3 text4 : Text) (pid : ℕ) (page : Text) (ns : List ℕ)
    → text1 ≡ text ++ csv_field (decimal pid) → text2 ≡ text1 ++ csv_next page → text3 ≡ text2 ++ flat_map number_next ns → text4 ≡ text3 ++ 10 ∷ []
    → text4 ≡ text ++ csv_row (decimal pid ∷ page ∷ map decimal ns)
faults_joined text text1 text2 text3 text4 pid page ns e1 e2 e3 e4 =
    four text text1 text2 text3 text4 (csv_field (decimal pid)) (csv_next page) (flat_map number_next ns) (10 ∷ []) e1 e2 e3 e4
    ∙ ap (λ t. text ++ (csv_field (decimal pid) ++ (csv_next page ++ t))) (numbers_last ns)
