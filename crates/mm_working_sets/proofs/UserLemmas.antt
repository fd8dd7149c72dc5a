-- What users of a working set need: what its maps have after a call.
use Rattle.std.proofs.Common.{◌≡◌, ◌≢◌, ℕ, ◌+◌, ◌≤◌, Bool, true, false, Option, Some, None, refl, ap, ◌∙◌, arith, cond}
use Rattle.std.specs.Prelude.{IsSome, is_some, ◌==◌, option_map}
use Rattle.std.specs.Ordering.{nat_cmp}
use Rattle.std.specs.Cmp.{nat_cmp_total, unsigned_Decides}
use Rattle.std.specs.FinMap as finite
use Rattle.std.specs.FinMap.{FinMap}
use Rattle.mm_types.proofs.{get-insert, differ}
use Rattle.mm_working_sets.specs.{older, AgesBy}

pub here : (m : FinMap nat_cmp ℕ) (k x : ℕ) → finite.get (finite.insert m k x) k ≡ Some x
here m k x = get-insert m k x k ∙ ap (λ b. cond b (Some x) (finite.get m k)) ((unsigned_Decides k k).1 refl)

pub elsewhere : (m : FinMap nat_cmp ℕ) (k x q : ℕ) → q ≢ k → finite.get (finite.insert m k x) q ≡ finite.get m q
elsewhere m k x q other = get-insert m k x q ∙ ap (λ b. cond b (Some x) (finite.get m q)) (differ q k other)

pub is_here : (m : FinMap nat_cmp ℕ) (k x : ℕ) → IsSome (finite.get (finite.insert m k x) k)
is_here m k x = ap is_some (here m k x)

either : (b : Bool) (o : Option ℕ) (x : ℕ) → IsSome o → IsSome (cond b (Some x) o)
either true o x some = refl
either false o x some = some

pub stays : (m : FinMap nat_cmp ℕ) (k x q : ℕ) → IsSome (finite.get m q) → IsSome (finite.get (finite.insert m k x) q)
stays m k x q some = ap is_some (get-insert m k x q) ∙ either (q == k) (finite.get m q) x some

same_kind : (o : Option ℕ) → is_some (option_map older o) ≡ is_some o
same_kind None = refl
same_kind (Some x) = refl

pub aged_stays : (old new : FinMap nat_cmp ℕ) (q : ℕ) → AgesBy older old new → IsSome (finite.get old q) → IsSome (finite.get new q)
aged_stays old new q by some = ap is_some (by q) ∙ same_kind (finite.get old q) ∙ some

counted : (b : Bool) (n : ℕ) → cond b n (n + 1) ≤ n + 1
counted true n = omega arith
counted false n = omega arith

pub one_more : (m : FinMap nat_cmp ℕ) (k x : ℕ) → finite.len (finite.insert m k x) ≤ finite.len m + 1
one_more m k x = omega (arith, finite.len-insert nat_cmp_total m k x, counted (finite.contains_key m k) (finite.len m))

pub none_held : (q : ℕ) → finite.get (finite.empty {X = ℕ} {R = nat_cmp}) q ≡ None
none_held q = finite.get-empty nat_cmp q

pub none_counted : finite.len (finite.empty {X = ℕ} {R = nat_cmp}) ≡ 0
none_counted = finite.len-empty nat_cmp ℕ
