-- The least number that passes a test.
use Rattle.std.proofs.Common.{◌≡◌, ℕ, zero, suc, ◌+◌, ◌≤◌, ◌<◌, Bool, true, false, Option, Some, None, refl, ◌∙◌, ap, cond, arith}
use Rattle.std.proofs.Math.Decide.{dec_le}
use Rattle.mm_types.specs.{least_from}

abbrev step : Bool → ℕ → Option ℕ → Option ℕ
step b start later = cond b (Some start) later

pub least_from-is : (test : ℕ → Bool) (count start g : ℕ) → start ≤ g → g < start + count → test g ≡ true → ((k : ℕ) → start ≤ k → k < g → test k ≡ false) → least_from test count start ≡ Some g
unfolding least_from
least_from-is test zero start g low high passes below = absurd (omega arith)
least_from-is test (suc count) start g low high passes below =
    elim (dec_le g start) [
      | yes h ↦ (let e : start ≡ g = omega arith in ap (λ b. step b start (least_from test count (start + 1))) (ap test e ∙ passes) ∙ ap (λ (n : ℕ). Some n) e)
      | no h ↦ ap (λ b. step b start (least_from test count (start + 1))) (below start (omega arith) (omega arith))
          ∙ least_from-is test count (start + 1) g (omega arith) (omega arith) passes (λ k l u. below k (omega arith) u)
    ]

pub least_from-none : (test : ℕ → Bool) (count start : ℕ) → ((k : ℕ) → start ≤ k → k < start + count → test k ≡ false) → least_from test count start ≡ None
unfolding least_from
least_from-none test zero start fails = refl
least_from-none test (suc count) start fails =
    ap (λ b. step b start (least_from test count (start + 1))) (fails start (omega arith) (omega arith))
    ∙ least_from-none test count (start + 1) (λ k l u. fails k (omega arith) (omega arith))
