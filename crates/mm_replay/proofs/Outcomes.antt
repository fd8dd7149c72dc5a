-- What a call leaves, by its answer, a choice whose first value is the second, and lists of one value.
use Rattle.std.proofs.Common.{◌≡◌, ℕ, zero, suc, get_or, replicate, Bool, true, false, cond, Option, Some, None, refl}
use Rattle.std.specs.Prelude.{Result, Ok, Err, OnOk, OnErr, IfNone}

pub on_ok_then : {T E P Q : Type 0} (r : Result T E) → (P → Q) → OnOk r P → OnOk r Q
on_ok_then (Ok x) f p = f p
on_ok_then (Err e) f p = tt

pub on_err_then : {T E P Q : Type 0} (r : Result T E) → (P → Q) → OnErr r P → OnErr r Q
on_err_then (Ok x) f p = tt
on_err_then (Err e) f p = f p

pub if_none : {T P : Type 0} (o : Option T) → (o ≡ None → P) → IfNone o P
if_none None f = f refl
if_none (Some x) f = tt

pub kept_at : {V : Type 0} (b : Bool) (x y : V) → (b ≡ true → x ≡ y) → cond b x y ≡ y
kept_at true x y h = h refl
kept_at false x y h = refl

-- a list of one value has it everywhere
pub filled_at : {X : Type 0} (n k : ℕ) (x : X) → get_or (replicate n x) k x ≡ x
filled_at zero k x = refl
filled_at (suc n) zero x = refl
filled_at (suc n) (suc k) x = filled_at n k x
