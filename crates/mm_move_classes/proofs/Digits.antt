-- Numbers, one digit after another.
use Rattle.std.proofs.Common.{◌≡◌, ℕ, zero, suc, ◌+◌, ◌-◌, ◌/◌, ◌%◌, ◌≤◌, ◌<◌, Bool, cond, List, [], ◌∷◌, ◌++◌, length, drop, get_or, refl, sym, ap, ◌∙◌, subst, arith, append_assoc, length-append}
use Rattle.std.proofs.lemmas.Bool.{lt-ltb, le-ltb}
use Rattle.std.proofs.lemmas.List.{append-nil, drop_more, drop_all}
use Rattle.std.proofs.lemmas.List.Concat.{flat_map-append}
use Rattle.mm_types.specs.{Text}
use Rattle.mm_move_classes.specs.{digits_of, number_text, numbers_text}

abbrev either : Bool → Text → Text → Text
either b last more = cond b last more

pub last_at : (j n : ℕ) → n < 32 → digits_of (suc j) n ≡ (63 + n) ∷ []
unfolding digits_of
last_at j n low = ap (λ b. either b ((63 + n) ∷ []) ((95 + n % 32) ∷ digits_of j (n / 32))) (lt-ltb n 32 low)

pub more_at : (j n : ℕ) → 32 ≤ n → digits_of (suc j) n ≡ (95 + n % 32) ∷ digits_of j (n / 32)
unfolding digits_of
more_at j n high = ap (λ b. either b ((63 + n) ∷ []) ((95 + n % 32) ∷ digits_of j (n / 32))) (le-ltb n 32 high)

-- the last digit
pub digits_last : (out : Text) (k n : ℕ) → 0 < k → n < 32 → out ++ (63 + n) ∷ [] ≡ out ++ digits_of k n
digits_last out k n some low =
    let e : suc (k - 1) ≡ k = omega arith in
    ap (λ t. out ++ t) (sym (last_at (k - 1) n low) ∙ ap (λ (i : ℕ). digits_of i n) e)

-- a digit with another after it
pub digits_more : (out : Text) (k n : ℕ) → 0 < k → 32 ≤ n → (out ++ (95 + n % 32) ∷ []) ++ digits_of (k - 1) (n / 32) ≡ out ++ digits_of k n
digits_more out k n some high =
    let e : suc (k - 1) ≡ k = omega arith in
    append_assoc out ((95 + n % 32) ∷ []) (digits_of (k - 1) (n / 32))
    ∙ ap (λ t. out ++ t) (sym (more_at (k - 1) n high) ∙ ap (λ (i : ℕ). digits_of i n) e)

pub digits_none : (out : Text) (n : ℕ) → out ++ digits_of 0 n ≡ out
unfolding digits_of
digits_none out n = append-nil out

-- ---- one number after another

pub numbers_more : (out : Text) (xs : List ℕ) (i : ℕ) → i < length xs → (out ++ number_text (get_or xs i 0)) ++ numbers_text (drop (i + 1) xs) ≡ out ++ numbers_text (drop i xs)
numbers_more out xs i h =
    append_assoc out (number_text (get_or xs i 0)) (numbers_text (drop (i + 1) xs)) ∙ ap (λ (r : List ℕ). out ++ numbers_text r) (sym (drop_more xs i 0 h))

pub numbers_all : (out : Text) (xs : List ℕ) (i : ℕ) → length xs ≤ i → out ++ numbers_text (drop i xs) ≡ out
numbers_all out xs i h = ap (λ (r : List ℕ). out ++ numbers_text r) (drop_all i xs h) ∙ append-nil out

-- one number and then others
pub number_then : (out : Text) (n : ℕ) (ns : List ℕ) → (out ++ number_text n) ++ numbers_text ns ≡ out ++ numbers_text (n ∷ ns)
number_then out n ns = append_assoc out (number_text n) (numbers_text ns)

-- numbers and then one
pub then_number : (out : Text) (ns : List ℕ) (n : ℕ) → (out ++ numbers_text ns) ++ number_text n ≡ out ++ numbers_text (ns ++ n ∷ [])
then_number out ns n =
    append_assoc out (numbers_text ns) (number_text n)
    ∙ ap (λ (t : Text). out ++ t) (ap (λ (t : Text). numbers_text ns ++ t) (sym (append-nil (number_text n))) ∙ sym (flat_map-append number_text ns (n ∷ [])))

pub then_none : (out : Text) (ns : List ℕ) → out ++ numbers_text ns ≡ out ++ numbers_text (ns ++ [])
then_none out ns = ap (λ (r : List ℕ). out ++ numbers_text r) (sym (append-nil ns))

pub ruleset digits =
    (append_assoc, length-append, append-nil, digits_last, digits_more, digits_none, numbers_more, numbers_all, number_then, then_number, then_none)
