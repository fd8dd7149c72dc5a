-- Finite maps from numbers.
use Rattle.std.proofs.Common.{◌≡◌, ℕ, Option, Some, None, refl, ap, ◌∙◌}
use Rattle.std.specs.Prelude.{Bool, true, false, cond, ◌==◌, is_some, ◌+◌, ◌-◌}
use Rattle.std.specs.Cmp.{unsigned_tied, nat_cmp_total}
use Rattle.std.specs.Ordering.{nat_cmp}
use Rattle.std.specs.FinMap as finite
use Rattle.std.specs.FinMap.{FinMap}

pub same : {X : Type 0} (m n : FinMap nat_cmp X) → ((q : ℕ) → finite.get m q ≡ finite.get n q) → m ≡ n
same m n h = finite.same_map nat_cmp_total finite.nat_cmp-IsAntisymmetric m n h

pub get-insert : {X : Type 0} (m : FinMap nat_cmp X) (k : ℕ) (v : X) (q : ℕ) → finite.get (finite.insert m k v) q ≡ cond (q == k) (Some v) (finite.get m q)
get-insert m k v q = finite.get-insert nat_cmp_total m k v q ∙ ap (λ b. cond b (Some v) (finite.get m q)) (unsigned_tied q k)

pub get-remove : {X : Type 0} (m : FinMap nat_cmp X) (k q : ℕ) → finite.get (finite.remove m k) q ≡ cond (q == k) None (finite.get m q)
get-remove m k q = finite.get-remove nat_cmp_total m k q ∙ ap (λ b. cond b None (finite.get m q)) (unsigned_tied q k)

some_of_cond : {X : Type 0} (b : Bool) (x : X) (o : Option X) → is_some o ≡ true → is_some (cond b (Some x) o) ≡ true
some_of_cond true x o h = refl
some_of_cond false x o h = h

pub insert_keeps : {X : Type 0} (m : FinMap nat_cmp X) (j : ℕ) (x : X) (k : ℕ) → is_some (finite.get m k) ≡ true → is_some (finite.get (finite.insert m j x) k) ≡ true
insert_keeps m j x k h = ap is_some (get-insert m j x k) ∙ some_of_cond (k == j) x (finite.get m k) h

pub len_less : {X : Type 0} (m : FinMap nat_cmp X) (k : ℕ) (x : X) → finite.get m k ≡ Some x → finite.len (finite.remove m k) ≡ finite.len m - 1
len_less {X} m k x h = finite.len-remove nat_cmp_total m k ∙ ap (λ (o : Option X). cond (is_some o) (finite.len m - 1) (finite.len m)) h

pub len_more : {X : Type 0} (m : FinMap nat_cmp X) (k : ℕ) (x : X) → finite.get m k ≡ None → finite.len (finite.insert m k x) ≡ finite.len m + 1
len_more {X} m k x h = finite.len-insert nat_cmp_total m k x ∙ ap (λ (o : Option X). cond (is_some o) (finite.len m) (finite.len m + 1)) h
