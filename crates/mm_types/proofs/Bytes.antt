-- What was taken and appended, one piece after another.
use Rattle.std.proofs.Common.{◌≡◌, ℕ, ◌≤◌, List, [], ◌∷◌, ◌++◌, Option, Some, None, refl, sym, ap, ◌∙◌, append_assoc, arith}
use Rattle.mm_types.specs.{Took, Appended, Rose}

pub append_nil : {A : Type 0} (xs : List A) → xs ++ [] ≡ xs
append_nil [] = refl
append_nil (x ∷ xs) = ap (λ ys. x ∷ ys) (append_nil xs)

pub took_none : (a : Option (List ℕ)) → Took a a []
took_none None = tt
took_none (Some a) = refl

pub took_then : (a b c : Option (List ℕ)) (s t : List ℕ) → Took a b s → Took b c t → Took a c (s ++ t)
took_then None None None s t u v = tt
took_then None None (Some c) s t u v = v
took_then None (Some b) c s t u v = absurd u
took_then (Some a) None c s t u v = absurd u
took_then (Some a) (Some b) None s t u v = absurd v
took_then (Some a) (Some b) (Some c) s t u v = u ∙ ap (λ xs. s ++ xs) v ∙ sym (append_assoc s t c)

pub appended_none : (a : Option (List ℕ)) → Appended a a []
appended_none None = tt
appended_none (Some a) = sym (append_nil a)

pub appended_then : (a b c : Option (List ℕ)) (s t : List ℕ) → Appended a b s → Appended b c t → Appended a c (s ++ t)
appended_then None None None s t u v = tt
appended_then None None (Some c) s t u v = v
appended_then None (Some b) c s t u v = absurd u
appended_then (Some a) None c s t u v = absurd u
appended_then (Some a) (Some b) None s t u v = absurd v
appended_then (Some a) (Some b) (Some c) s t u v = v ∙ ap (λ xs. xs ++ t) u ∙ append_assoc a s t

-- A count that rose stays risen.
pub rose_then : (a b c : ℕ) → Rose a b → b ≤ c → Rose a c
rose_then a b c h l = omega arith

pub rose_later : (a b c : ℕ) → a ≤ b → Rose b c → Rose a c
rose_later a b c l h = omega arith
