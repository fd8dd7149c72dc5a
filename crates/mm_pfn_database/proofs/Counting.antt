-- How a count over the records changes with one record.
use Rattle.std.proofs.Common.{◌≡◌, ℕ, ◌+◌, ◌-◌, ◌<◌, ◌≤◌, ◌^◌, Bool, cond, List, length, get_or, set, ap, arith, length-set}
use Rattle.std.specs.Prelude.{count_by}
use Rattle.std.proofs.lemmas.List.Sums.{sum_by-set, count_by-le-length}
use Rattle.mm_types.specs.{Record}
use Rattle.mm_types.proofs.{one_at_most}

pub counted : (p : Record → Bool) (xs : List Record) (f : ℕ) (r old : Record) (n was now : ℕ) → f < length xs → old ≡ get_or xs f old → n ≡ count_by p xs → was ≡ cond (p old) 1 0 → now ≡ cond (p r) 1 0 → length xs < 2 ^ 32 → (n - was) + now < 2 ^ 32
counted p xs f r old n was now low read count a b small =
    let m = sum_by-set (λ (x : Record). cond (p x) 1 0) xs f r old low in
    let most = count_by-le-length p (set xs f r) in
    let same : cond (p old) 1 0 ≡ cond (p (get_or xs f old)) 1 0 = ap {B = ℕ} (λ (x : Record). cond (p x) 1 0) read in
    let w : was ≤ 1 = omega (arith, one_at_most (p old), a) in
    let k : now ≤ 1 = omega (arith, one_at_most (p r), b) in
    omega (arith, m, most, same, a, b, count, length-set xs f r)
