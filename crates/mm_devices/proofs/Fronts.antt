use Rattle.std.proofs.Common.{◌≡◌, ℕ, zero, suc, List, [], ◌∷◌, ◌++◌, length, take, drop, map, ap, refl}
use Rattle.mm_types.specs.{Direction}
use Rattle.mm_types.specs.contracts.devices.DirectionPartialEq.TheImpl as equality
use Rattle.mm_types.specs.declared.devices.Direction.TheVariants as way
use Rattle.mm_devices.specs.{same_direction}

-- the derived test is the one of the definitions
pub same_way : (a b : Direction) → (equality.ghosts).eq a b ≡ same_direction a b
same_way way.Read way.Read = refl
same_way way.Read way.Write = refl
same_way way.Write way.Read = refl
same_way way.Write way.Write = refl

-- a list whose first n elements were changed in place is as long as before
pub front_length : {X : Type 0} (f : X → X) (n : ℕ) (xs : List X) → length (map f (take n xs) ++ drop n xs) ≡ length xs
front_length f zero xs = refl
front_length f (suc n) [] = refl
front_length f (suc n) (x ∷ xs) = ap suc (front_length f n xs)

-- and these are its first n
pub front_changed : {X : Type 0} (f : X → X) (n : ℕ) (xs : List X) → take n (map f (take n xs) ++ drop n xs) ≡ map f (take n xs)
front_changed f zero xs = refl
front_changed f (suc n) [] = refl
front_changed f (suc n) (x ∷ xs) = ap (λ ys. f x ∷ ys) (front_changed f n xs)
