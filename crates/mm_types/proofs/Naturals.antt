-- Numbers by their tests.
use Rattle.std.proofs.Common.{◌≡◌, ◌≤◌, ◌<◌, ℕ, suc, true, false, refl, inl, inr, arith}
use Rattle.std.specs.Prelude.{◌==◌, nat_lt}
use Rattle.std.specs.Cmp.{unsigned_Decides}
use Rattle.std.proofs.lemmas.Bool.{leb-true}
use Rattle.std.proofs.lemmas.Bool.Decides.{leb_tells}
use Rattle.mm_types.proofs.Booleans.{not_true}

pub same_number : (n : ℕ) → (n == n) ≡ true
same_number n = (unsigned_Decides n n).1 refl

pub less : (a b : ℕ) → nat_lt a b ≡ true → a < b
less a b e = leb-true (suc a) b e

pub is_below : (a b : ℕ) → a < b → nat_lt a b ≡ true
is_below a b e = elim (leb_tells (suc a) b) [ inl h ↦ h.0 | inr h ↦ absurd (omega (arith, h.1)) ]

pub none_below : (i : ℕ) → nat_lt i 0 ≡ false
none_below i = not_true (nat_lt i 0) (λ e. absurd (omega (arith, less _ _ e)))
