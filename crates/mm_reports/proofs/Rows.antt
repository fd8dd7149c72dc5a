-- Rows that are written in pieces.
use Rattle.std.proofs.Common.{◌≡◌, ℕ, ◌∷◌, [], ◌++◌, ap, ◌∙◌, append_assoc}
use Rattle.std.specs.Prelude.{codes}
use Rattle.mm_types.specs.{Text, decimal}
use Rattle.mm_move_rules.specs.{ResidentSet, numbered}
use Rattle.mm_reports.specs.{working_set_row}

-- the two numbers of a row are these
pub pair_is : (before between behind : Text) (m n m' n' : ℕ) (text text1 : Text) → text1 ≡ text ++ numbered before m (numbered between n behind) → m ≡ m' → n ≡ n'
    → text1 ≡ text ++ numbered before m' (numbered between n' behind)
pair_is before between behind m n m' n' text text1 e em en =
    e ∙ ap (λ (k : ℕ). text ++ numbered before k (numbered between n behind)) em ∙ ap (λ (k : ℕ). text ++ numbered before m' (numbered between k behind)) en

-- a working set is told in three pieces
module _ (text text1 text2 text3 : Text) (pid resident min max : ℕ) (s : ResidentSet) where
  pub set_told : text1 ≡ text ++ (codes "working set of process " ++ decimal pid) → text2 ≡ text1 ++ (codes ": " ++ decimal resident)
      → text3 ≡ text2 ++ numbered (codes " (min ") min (numbered (codes ", max ") max (41 ∷ 10 ∷ [])) → resident ≡ s.resident → min ≡ s.min → max ≡ s.max
      → text3 ≡ text ++ working_set_row pid s
  set_told e1 e2 e3 er em ex =
      let process : Text = codes "working set of process " ++ decimal pid in
      let frames : Text = codes ": " ++ decimal s.resident in
      let limits : Text = numbered (codes " (min ") s.min (numbered (codes ", max ") s.max (41 ∷ 10 ∷ [])) in
      let told : text2 ≡ text1 ++ frames = e2 ∙ ap (λ (k : ℕ). text1 ++ (codes ": " ++ decimal k)) er in
      pair_is (codes " (min ") (codes ", max ") (41 ∷ 10 ∷ []) min max s.min s.max text2 text3 e3 em ex
      ∙ ap (λ t. t ++ limits) (told ∙ ap (λ t. t ++ frames) e1)
      ∙ append_assoc (text ++ process) frames limits
      ∙ append_assoc text process (frames ++ limits)
      ∙ ap (λ t. text ++ t) (append_assoc (codes "working set of process ") (decimal pid) (frames ++ limits))
      ∙ ap (λ t. text ++ (codes "working set of process " ++ (decimal pid ++ t))) (append_assoc (codes ": ") (decimal s.resident) limits)

-- a text in three pieces, and in five
pub three : (text text1 text2 text3 a b c : Text) → text1 ≡ text ++ a → text2 ≡ text1 ++ b → text3 ≡ text2 ++ c → text3 ≡ text ++ (a ++ (b ++ c))
three text text1 text2 text3 a b c e1 e2 e3 = e3 ∙ ap (λ t. t ++ c) (e2 ∙ ap (λ t. t ++ b) e1) ∙ append_assoc (text ++ a) b c ∙ append_assoc text a (b ++ c)

pub five : (text text1 text2 text3 text4 text5 a b c d e : Text) → text1 ≡ text ++ a → text2 ≡ text1 ++ b → text3 ≡ text2 ++ c → text4 ≡ text3 ++ d → text5 ≡ text4 ++ e
    → text5 ≡ text ++ (a ++ (b ++ (c ++ (d ++ e))))
five text text1 text2 text3 text4 text5 a b c d e e1 e2 e3 e4 e5 =
    three text2 text3 text4 text5 c d e e3 e4 e5 ∙ ap (λ t. t ++ (c ++ (d ++ e))) (e2 ∙ ap (λ t. t ++ b) e1) ∙ append_assoc (text ++ a) b (c ++ (d ++ e)) ∙ append_assoc text a (b ++ (c ++ (d ++ e)))
