-- Lists by place: what stands at one, and what a list is with one more at its end.
use Rattle.std.proofs.Common.{◌≡◌, ◌≢◌, ◌<◌, ℕ, zero, suc, true, Option, Some, None, List, [], ◌∷◌, ◌++◌, refl, ap, arith, length, get_or, slice_get, is_some, unwrap_or}

pub is_there : {A : Type 0} (xs : List A) (k : ℕ) → k < length xs → is_some (slice_get xs k) ≡ true
is_there [] k h = absurd (omega arith)
is_there (x ∷ xs) zero h = refl
is_there (x ∷ xs) (suc k) h = is_there xs k (omega arith)

pub some_get : {A : Type 0} (xs : List A) (i : ℕ) (d : A) → i < length xs → slice_get xs i ≡ Some (unwrap_or (slice_get xs i) d)
some_get [] i d h = absurd (omega (arith, h))
some_get (x ∷ xs) zero d h = refl
some_get (x ∷ xs) (suc i) d h = some_get xs i d (omega (arith, h))

pub get_last : {A : Type 0} (xs : List A) (x : A) → slice_get (xs ++ x ∷ []) (length xs) ≡ Some x
get_last [] x = refl
get_last (y ∷ xs) x = get_last xs x

pub push_other : {A : Type 0} (xs : List (Option A)) (x : Option A) (q : ℕ) → q ≢ length xs → get_or (xs ++ x ∷ []) q None ≡ get_or xs q None
push_other [] x zero n = absurd (n refl)
push_other [] x (suc q) n = refl
push_other (y ∷ ys) x zero n = refl
push_other (y ∷ ys) x (suc q) n = push_other ys x q (λ e. n (ap suc e))

pub push_at : {A : Type 0} (xs : List (Option A)) (x : Option A) (q : ℕ) → q ≡ length xs → get_or (xs ++ x ∷ []) q None ≡ x
push_at [] x zero e = refl
push_at [] x (suc q) e = absurd (omega (arith, e))
push_at (y ∷ ys) x zero e = absurd (omega (arith, e))
push_at (y ∷ ys) x (suc q) e = push_at ys x q (omega (arith, e))

pub none_at_end : {A : Type 0} (xs : List (Option A)) (q : ℕ) → q ≡ length xs → get_or xs q None ≡ None
none_at_end [] q e = refl
none_at_end (y ∷ ys) zero e = absurd (omega (arith, e))
none_at_end (y ∷ ys) (suc q) e = none_at_end ys q (omega (arith, e))
