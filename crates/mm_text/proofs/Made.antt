-- What a constructor in place answers, by its two clauses; a name by its first byte and the others.
use Rattle.std.proofs.Common.{◌≡◌, ℕ, ◌≤◌, ◌<◌, ◌↔◌, ◌⊎◌, Bool, true, false, cond, List, [], ◌∷◌, length, get_or, drop, Option, Some, None, IfSome, IsSome, refl, sym, ap, ◌∙◌, inl, inr, arith}
use Rattle.std.specs.Prelude.{nat_le, ◌&&◌}
use Rattle.std.specs.List.{list_all}
use Rattle.std.proofs.lemmas.Bool.{and_right, le-leb, lt-leb, cases_lt}
use Rattle.mm_types.specs.{Text}
use Rattle.mm_text.specs.{is_letter, is_name_byte, is_name, few_bytes, name_of}

fit : (n most : ℕ) → 1 ≤ n → n ≤ most → (nat_le 1 n && nat_le n most) ≡ true
fit n most some few = ap (λ t. t && nat_le n most) (le-leb 1 n some) ∙ le-leb n most few

unfit : (n most : ℕ) → (n ≡ 0) ⊎ (most < n) → (nat_le 1 n && nat_le n most) ≡ false
unfit n most (inl e) = ap (λ k. nat_le 1 k && nat_le k most) e
unfit n most (inr h) = and_right (nat_le 1 n) (nat_le n most) (lt-leb n most h)

-- a length from 1 to `most`, or not
fits_or : (n most : ℕ) → ((1 ≤ n) × (n ≤ most)) ⊎ ((n ≡ 0) ⊎ (most < n))
fits_or n most = elim (cases_lt 0 n) [
  | inl some ↦ elim (cases_lt most n) [ inl many ↦ inr (inr many) | inr few ↦ inl (omega arith, few) ]
  | inr none ↦ inr (inl (omega arith))
]

pub made_bytes : (r : Option (List ℕ)) (bs : List ℕ) → (IsSome r ↔ ((1 ≤ length bs) × (length bs ≤ 64))) → IfSome r (λ b. b ≡ bs) → r ≡ few_bytes bs
made_bytes None bs when is = elim (fits_or (length bs) 64) [
  | inl h ↦ (let bad : false ≡ true = when.1 h in cc)
  | inr h ↦ ap (λ b. cond b (Some bs) None) (sym (unfit (length bs) 64 h))
]
made_bytes (Some b) bs when is =
    let h = when.0 refl in
    ap (λ xs. Some xs) is ∙ ap (λ t. cond t (Some bs) None) (sym (fit (length bs) 64 h.0 h.1))

-- the same of a name's bytes, of which there are some
is_name-some : (word : Text) → is_name word ≡ true → 1 ≤ length word
is_name-some [] e = cc
is_name-some (c ∷ cs) e = omega arith

abbrev short : Bool → Text → Option Text
short b word = cond b (Some word) None

pub made_name : (r : Option Text) (word : Text) → (IsSome r ↔ ((1 ≤ length word) × (length word ≤ 32))) → IfSome r (λ n. n ≡ word) → is_name word ≡ true → r ≡ name_of word
made_name None word when is good =
    let some : 1 ≤ length word = is_name-some word good in
    elim (cases_lt 32 (length word)) [
      | inl many ↦ sym (ap (λ t. short t word) (and_right (is_name word) (nat_le (length word) 32) (lt-leb (length word) 32 many)))
      | inr few ↦ (let bad : false ≡ true = when.1 (some, few) in cc)
    ]
made_name (Some n) word when is good =
    let h = when.0 refl in
    ap (λ xs. Some xs) is ∙ sym (ap (λ t. short (t && nat_le (length word) 32) word) good ∙ ap (λ t. short t word) (le-leb (length word) 32 h.1))

pub no_name : (word : Text) → is_name word ≡ false → name_of word ≡ None
no_name word e = ap (λ t. short (t && nat_le (length word) 32) word) e

pub is_name-at : (word : Text) → 1 ≤ length word → is_name word ≡ (is_letter (get_or word 0 0) && list_all is_name_byte (drop 1 word))
is_name-at [] h = absurd (omega arith)
is_name-at (c ∷ cs) h = refl

pub ruleset made = (made_bytes, made_name, no_name, is_name-at)
