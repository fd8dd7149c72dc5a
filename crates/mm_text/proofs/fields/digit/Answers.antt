-- The table is held against the definition at each of the 256 bytes, by computing.
use Rattle.std.proofs.Common.{◌≡◌, ℕ, ◌≤◌, ◌<◌, List, get_or, true, refl, arith}
use Rattle.std.specs.Prelude.{nat_le, ◌==◌}
use Rattle.std.proofs.lemmas.Bool.{agree_below, agree_below_at, eqb-true, leb-true}
use Rattle.mm_text.specs.declared.fields.TheConstants.{DIGIT_VALUES}
use Rattle.mm_text.specs.{digit_value}
use Rattle.mm_text.proofs.fields.digit.Goals as goal

value_at : (table : List ℕ) (b : ℕ) → agree_below (λ k. get_or table k 0 == digit_value k) (λ _. true) 256 ≡ true → b < 256 → get_or table b 0 ≡ digit_value b
value_at table b same low = eqb-true (get_or table b 0) (digit_value b) (agree_below_at (λ k. get_or table k 0 == digit_value k) (λ _. true) 256 b same low)

most_at : (table : List ℕ) (b : ℕ) → agree_below (λ k. nat_le (get_or table k 0) 16) (λ _. true) 256 ≡ true → b < 256 → get_or table b 0 ≤ 16
most_at table b few low = leb-true (get_or table b 0) 16 (agree_below_at (λ k. nat_le (get_or table k 0) 16) (λ _. true) 256 b few low)

pub returns-clause-value : goal.returns-clause-value
returns-clause-value c = value_at DIGIT_VALUES c.args.byte refl (omega arith)

pub returns-clause-most : goal.returns-clause-most
returns-clause-most c = most_at DIGIT_VALUES c.args.byte refl (omega arith)
