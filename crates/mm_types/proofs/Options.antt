-- Options and results: what every layer asks of them.
use Rattle.std.proofs.Common.{◌≡◌, true, false, Option, Some, None, refl, sym, ◌∙◌, is_some, is_none, option_map}
use Rattle.std.specs.Prelude.{Result, Ok, Err, OnErr}

pub none_of : {A : Type 0} (o : Option A) → is_some o ≡ false → o ≡ None
none_of None e = refl
none_of (Some x) e = cc

pub none_is : {A : Type 0} (o : Option A) → is_none o ≡ true → o ≡ None
none_is None e = refl
none_is (Some x) e = cc

pub some_found : {A : Type 0} (o : Option A) → is_some o ≡ true → (a : A) × (o ≡ Some a)
some_found None e = cc
some_found (Some a) e = (a, refl)

pub same_found : {A : Type 0} (o : Option A) (a b : A) → o ≡ Some a → o ≡ Some b → a ≡ b
same_found None a b e f = cc
same_found (Some x) a b e f = let one : x ≡ a = cc in let other : x ≡ b = cc in sym one ∙ other

pub some_map : {A B : Type 0} (f : A → B) (o : Option A) → is_some (option_map f o) ≡ is_some o
some_map f None = refl
some_map f (Some x) = refl

pub on_err : {T E : Type 0} {P : Type 0} (r : Result T E) → P → OnErr r P
on_err (Ok x) p = tt
on_err (Err e) p = p
