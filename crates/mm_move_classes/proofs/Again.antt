-- From the data of a log the log can be read back: numbers end themselves, and a class tells how many follow.
use Rattle.std.proofs.Common.{◌≡◌, ◌⊎◌, ℕ, zero, suc, ◌+◌, ◌*◌, ◌/◌, ◌%◌, ◌≤◌, ◌<◌, List, [], ◌∷◌, ◌++◌, length, Option, Some, None, refl, sym, ap, ◌∙◌, inl, inr, arith, append_assoc}
use Rattle.std.specs.Prelude.{◌^◌}
use Rattle.std.proofs.lemmas.Bool.{cases_lt}
use Rattle.mm_types.specs.{Text, Block, Key, Place, LineKind, Move, Stored}
use Rattle.mm_types.specs.declared.numbers.Key.TheVariants.{Private, Shared}
use Rattle.mm_types.specs.declared.moves.LineKind.TheVariants as kind
use Rattle.mm_types.specs.declared.moves.Move.TheVariants as move
use Rattle.mm_types.specs.declared.moves.Stored.TheVariants as stored
use Rattle.mm_move_rules.specs.{IsKey, IsPlace, IsKind, IsStored, IsBlock, IsMove}
use Rattle.mm_move_classes.specs.{digits_of, number_text, numbers_text, key_numbers, block_numbers, stored_number, kind_numbers, move_numbers}
use Rattle.mm_move_classes.proofs.Digits.{last_at, more_at}

pub heads : {A : Type 0} (a b : A) (x y : List A) → a ∷ x ≡ b ∷ y → (a ≡ b) × (x ≡ y)
heads a b x y e = let h : a ≡ b = cc in let t : x ≡ y = cc in (h, t)

pub cancel : (p x y : Text) → p ++ x ≡ p ++ y → x ≡ y
cancel [] x y e = e
cancel (c ∷ p) x y e = cancel p x y (heads c c (p ++ x) (p ++ y) e).1

-- ---- numbers

-- so many digits are enough
Fits : ℕ → ℕ → Type 0
Fits zero n = ⊥
Fits (suc k) n = (n < 32) ⊎ Fits k (n / 32)

fits_low : (k n : ℕ) → n < 32 → Fits (suc k) n
unfolding Fits
fits_low k n h = inl h

fits_more : (k m : ℕ) → ((n : ℕ) → n < m → Fits k n) → (n : ℕ) → n < 32 * m → Fits (suc k) n
unfolding Fits
fits_more k m h n low = inr (h (n / 32) (omega (arith, low)))

-- the numbers of a move are smaller
abbrev pub most : ℕ
most = 34359738368

fits_all : (n : ℕ) → n < most → Fits 13 n
fits_all n h =
    fits_more 12 1073741824 (fits_more 11 33554432 (fits_more 10 1048576 (fits_more 9 32768 (fits_more 8 1024 (fits_more 7 32 (fits_low 6)))))) n h

higher : (k n : ℕ) → 32 ≤ n → Fits (suc k) n → Fits k (n / 32)
unfolding Fits
higher k n h (inl low) = absurd (omega (arith, h, low))
higher k n h (inr f) = f

none_fits : (n : ℕ) → Fits 0 n → ⊥
unfolding Fits
none_fits n f = f

pub record Both (a b : ℕ) (x y : Text) : Type 0 where
  pub number : a ≡ b
  pub rest : x ≡ y

digits_again : (k a b : ℕ) (x y : Text) → Fits k a → Fits k b → digits_of k a ++ x ≡ digits_of k b ++ y → Both a b x y
digits_again zero a b x y f g e = absurd (none_fits a f)
digits_again (suc k) a b x y f g e = elim (cases_lt a 32) [
  | inl low ↦ elim (cases_lt b 32) [
    | inl low' ↦
        let h = heads (63 + a) (63 + b) x y (ap (λ (t : Text). t ++ x) (sym (last_at k a low)) ∙ e ∙ ap (λ (t : Text). t ++ y) (last_at k b low')) in
        record { number = omega (arith, h.0); rest = h.1 }
    | inr high' ↦
        let h = heads (63 + a) (95 + b % 32) x (digits_of k (b / 32) ++ y)
        (ap (λ (t : Text). t ++ x) (sym (last_at k a low)) ∙ e ∙ ap (λ (t : Text). t ++ y) (more_at k b high')) in
        absurd (omega (arith, h.0, low))
  ]
  | inr high ↦ elim (cases_lt b 32) [
    | inl low' ↦
        let h = heads (95 + a % 32) (63 + b) (digits_of k (a / 32) ++ x) y
        (ap (λ (t : Text). t ++ x) (sym (more_at k a high)) ∙ e ∙ ap (λ (t : Text). t ++ y) (last_at k b low')) in
        absurd (omega (arith, h.0, low'))
    | inr high' ↦
        let h = heads (95 + a % 32) (95 + b % 32) (digits_of k (a / 32) ++ x) (digits_of k (b / 32) ++ y)
        (ap (λ (t : Text). t ++ x) (sym (more_at k a high)) ∙ e ∙ ap (λ (t : Text). t ++ y) (more_at k b high')) in
        let more = digits_again k (a / 32) (b / 32) x y (higher k a high f) (higher k b high' g) h.1 in
        record { number = omega (arith, h.0, more.number); rest = more.rest }
  ]
]

-- ---- lists of numbers

pub AreSmall : List ℕ → Type 0
AreSmall [] = Unit {0}
AreSmall (n ∷ ns) = (n < most) × AreSmall ns

small_first : (n : ℕ) (ns : List ℕ) → AreSmall (n ∷ ns) → n < most
unfolding AreSmall
small_first n ns s = s.0

small_rest : (n : ℕ) (ns : List ℕ) → AreSmall (n ∷ ns) → AreSmall ns
unfolding AreSmall
small_rest n ns s = s.1

pub record Lists (ns ms : List ℕ) (x y : Text) : Type 0 where
  pub numbers : ns ≡ ms
  pub rest : x ≡ y

pub numbers_again : (ns ms : List ℕ) (x y : Text) → AreSmall ns → AreSmall ms → length ns ≡ length ms → numbers_text ns ++ x ≡ numbers_text ms ++ y → Lists ns ms x y
numbers_again [] [] x y s t n e = record { numbers = refl; rest = e }
numbers_again [] (m ∷ ms) x y s t n e = absurd (omega (arith, n))
numbers_again (a ∷ ns) [] x y s t n e = absurd (omega (arith, n))
numbers_again (a ∷ ns) (b ∷ ms) x y s t n e =
    let h = digits_again 13 a b (numbers_text ns ++ x) (numbers_text ms ++ y) (fits_all a (small_first a ns s)) (fits_all b (small_first b ms t))
    (sym (append_assoc (number_text a) (numbers_text ns) x) ∙ e ∙ append_assoc (number_text b) (numbers_text ms) y) in
    let more = numbers_again ns ms x y (small_rest a ns s) (small_rest b ms t) (omega (arith, n)) h.rest in
    record { numbers = ap (λ (k : ℕ). k ∷ ns) h.number ∙ ap (λ (ks : List ℕ). b ∷ ks) more.numbers; rest = more.rest }

-- ---- the numbers of a move are small

small_key : (k : Key) → IsKey k → AreSmall (key_numbers k)
unfolding AreSmall
small_key (Private pid vpn) h = let a = h.0 in let b = h.1 in (omega (arith, a), (omega (arith, b), tt))
small_key (Shared area index) h = let a = h.0 in let b = h.1 in (omega (arith, a), (omega (arith, b), tt))

small_block : (b : Option Block) → IsBlock b → AreSmall (block_numbers b)
unfolding AreSmall
small_block None h = tt
small_block (Some b) h = (omega (arith, h), tt)

small_stored : (s : Stored) → IsStored s → stored_number s < most
small_stored (stored.Slot s) h = omega (arith, h)
small_stored (stored.Block b) h = omega (arith, h)

small_more : (ns ms : List ℕ) → AreSmall ns → AreSmall ms → AreSmall (ns ++ ms)
unfolding AreSmall
small_more [] ms s t = t
small_more (n ∷ ns) ms s t = (s.0, small_more ns ms s.1 t)

small_kind : (k : LineKind) → IsKind k → AreSmall (kind_numbers k)
unfolding AreSmall
small_kind (kind.Machine f s d b) h =
    let p = h.0 in let q = h.1 in let r = h.2 in let t = h.3 in (omega (arith, p), (omega (arith, q), (omega (arith, r), (omega (arith, t), tt))))
small_kind (kind.Process p a b) h = let q = h.0 in let r = h.1 in let t = h.2 in (omega (arith, q), (omega (arith, r), (omega (arith, t), tt)))
small_kind kind.Writer h = tt
small_kind kind.Zeroer h = tt
small_kind kind.Io h = tt
small_kind kind.Call h = tt
small_kind x h = (omega (arith, h), tt)

small_one : (n : ℕ) → n < 2 ^ 32 → AreSmall (n ∷ [])
unfolding AreSmall
small_one n h = (omega (arith, h), tt)

small_then : (n : ℕ) (ns : List ℕ) → n < 2 ^ 32 → AreSmall ns → AreSmall (n ∷ ns)
unfolding AreSmall
small_then n ns h s = (omega (arith, h), s)

small_place : (p : Place) → IsPlace p → AreSmall (p.pid.0 ∷ p.vpn.0 ∷ [])
unfolding AreSmall
small_place p h = let a = h.0 in let b = h.1 in (omega (arith, a), (omega (arith, b), tt))

small_last : (f : ℕ) (s : Stored) → f < 2 ^ 32 → IsStored s → AreSmall (f ∷ stored_number s ∷ [])
unfolding AreSmall
small_last f s h i = (omega (arith, h), (small_stored s i, tt))

pub small_move : (m : Move) → IsMove m → AreSmall (move_numbers m)
small_move (move.At n k) h = small_kind k h.1
small_move (move.Add k b) h = small_more (key_numbers k) (block_numbers b) (small_key k h.0) (small_block b h.1)
small_move (move.Drop k) h = small_key k h
small_move (move.Clear f) h = small_one f.0 h
small_move (move.Steal f) h = small_one f.0 h
small_move (move.Give f k) h = small_then f.0 (key_numbers k) h.0 (small_key k h.1)
small_move (move.Read f k) h = small_then f.0 (key_numbers k) h.0 (small_key k h.1)
small_move (move.Got f) h = small_one f.0 h
small_move (move.Bad f) h = small_one f.0 h
small_move (move.Map f p) h = small_then f.0 (p.pid.0 ∷ p.vpn.0 ∷ []) h.0 (small_place p h.1)
small_move (move.Unmap p) h = small_place p h
small_move (move.Soil f) h = small_one f.0 h
small_move (move.Write f s) h = small_last f.0 s h.0 h.1
small_move (move.Wrote f) h = small_one f.0 h
small_move (move.Lost f) h = small_one f.0 h
