-- What is blamed, as counts of faults go on.
use Rattle.std.proofs.Common.{◌≡◌, ◌⊎◌, inl, inr, ℕ, ◌≤◌, Result, Ok, Err, IfErr, sym, subst, ◌∙◌, arith}
use Rattle.mm_types.specs.{Rose}
use Rattle.mm_types.proofs.{rose_later, rose_then}
use Rattle.mm_names.specs.{Ending, names_status}
use Rattle.mm_names.specs.declared.endings.Ending.TheVariants as ending
use Rattle.mm_reasons.specs.{WriteBlamed, Blamed}

-- one of the two sinks wrote before
pub blamed_later : (e : Ending) (a b c x y z : ℕ) → a ≤ b → x ≤ y → WriteBlamed e b c y z → WriteBlamed e a c x z
blamed_later ending.OutFault a b c x y z l k (inl h) = inl (rose_later a b c l h)
blamed_later ending.OutFault a b c x y z l k (inr h) = inr (rose_later x y z k h)
blamed_later ending.ReadFault a b c x y z l k h = h
blamed_later ending.Written a b c x y z l k h = tt
blamed_later ending.NoMemory a b c x y z l k h = tt
blamed_later ending.Usage a b c x y z l k h = tt
blamed_later ending.Refused a b c x y z l k h = tt
blamed_later ending.TooLong a b c x y z l k h = tt

-- and a source was read
pub blamed_write : (e : Ending) (s t a b c x y z : ℕ) → a ≤ b → x ≤ y → WriteBlamed e b c y z → Blamed e s t a c x z
blamed_write ending.OutFault s t a b c x y z l k (inl h) = inl (rose_later a b c l h)
blamed_write ending.OutFault s t a b c x y z l k (inr h) = inr (rose_later x y z k h)
blamed_write ending.ReadFault s t a b c x y z l k h = absurd h
blamed_write ending.Written s t a b c x y z l k h = tt
blamed_write ending.NoMemory s t a b c x y z l k h = tt
blamed_write ending.Usage s t a b c x y z l k h = tt
blamed_write ending.Refused s t a b c x y z l k h = tt
blamed_write ending.TooLong s t a b c x y z l k h = tt

pub blamed_result : {A : Type 0} (r : Result A Ending) (s t a b c x y z : ℕ) → a ≤ b → x ≤ y
    → IfErr r (λ e. WriteBlamed e b c y z) → IfErr r (λ e. Blamed e s t a c x z)
blamed_result (Ok v) s t a b c x y z l k h = tt
blamed_result (Err e) s t a b c x y z l k h = blamed_write e s t a b c x y z l k h

-- a text was told, and nothing else written
pub told_refused : (e : Ending) (a x y : ℕ) → (e ≡ ending.Refused) ⊎ ((e ≡ ending.OutFault) × Rose x y) → WriteBlamed e a a x y
told_refused e a x y (inl h) = subst (λ (d : Ending). WriteBlamed d a a x y) (sym h) tt
told_refused e a x y (inr h) = subst (λ (d : Ending). WriteBlamed d a a x y) (sym h.0) (inr h.1)

pub told_long : (e : Ending) (a x y : ℕ) → (e ≡ ending.TooLong) ⊎ ((e ≡ ending.OutFault) × Rose x y) → WriteBlamed e a a x y
told_long e a x y (inl h) = subst (λ (d : Ending). WriteBlamed d a a x y) (sym h) tt
told_long e a x y (inr h) = subst (λ (d : Ending). WriteBlamed d a a x y) (sym h.0) (inr h.1)

-- a text could not be told
pub not_told : (e : Ending) (a x y : ℕ) → (e ≡ ending.Written) ⊎ ((e ≡ ending.OutFault) × Rose x y) → e ≡ ending.OutFault
    → WriteBlamed ending.OutFault a a x y
not_told e a x y (inl h) is = let bad : ending.Written ≡ ending.OutFault = sym h ∙ is in cc
not_told e a x y (inr h) is = inr h.1

-- a script was put
pub put_blamed : (e : Ending) (a b x y : ℕ) → (e ≡ ending.Written) ⊎ ((e ≡ ending.OutFault) × Rose a b) → WriteBlamed e a b x y
put_blamed e a b x y (inl h) = subst (λ (d : Ending). WriteBlamed d a b x y) (sym h) tt
put_blamed e a b x y (inr h) = subst (λ (d : Ending). WriteBlamed d a b x y) (sym h.0) (inl h.1)

-- what the statuses blame
pub read_blamed : (e : Ending) (s t a b x y status : ℕ) → status ≡ names_status e → Blamed e s t a b x y → status ≡ 4 → Rose s t
read_blamed ending.ReadFault s t a b x y status is h four = h
read_blamed ending.OutFault s t a b x y status is h four = omega arith
read_blamed ending.Written s t a b x y status is h four = omega arith
read_blamed ending.NoMemory s t a b x y status is h four = omega arith
read_blamed ending.Usage s t a b x y status is h four = omega arith
read_blamed ending.Refused s t a b x y status is h four = omega arith
read_blamed ending.TooLong s t a b x y status is h four = omega arith

never : {A : Type 0} → ⊥ → A
never bad = absurd bad

pub write_blamed : (e : Ending) (s t a b x y status : ℕ) → status ≡ names_status e → Blamed e s t a b x y → status ≡ 5
    → Rose a b ⊎ Rose x y
write_blamed ending.OutFault s t a b x y status is h five = h
write_blamed ending.ReadFault s t a b x y status is h five = never (omega arith)
write_blamed ending.Written s t a b x y status is h five = never (omega arith)
write_blamed ending.NoMemory s t a b x y status is h five = never (omega arith)
write_blamed ending.Usage s t a b x y status is h five = never (omega arith)
write_blamed ending.Refused s t a b x y status is h five = never (omega arith)
write_blamed ending.TooLong s t a b x y status is h five = never (omega arith)

pub ruleset blames = (
  blamed_later,
  blamed_write,
  blamed_result,
  told_refused,
  told_long,
  not_told,
  put_blamed,
  read_blamed,
  write_blamed,
  rose_later,
  rose_then,
)
