-- Pages within ranges, ranges within ranges, and ranges that do not meet, in numbers.
use Rattle.std.proofs.Common.{◌≡◌, ℕ, ◌≤◌, ◌<◌, true, false, sym, ◌∙◌, arith, nat_le, nat_lt}
use Rattle.std.proofs.lemmas.Bool.{leb-true, le-leb}
use Rattle.mm_types.specs.{Range, end_of, holds_page, lies_within, meets}
use Rattle.mm_types.proofs.{both, parts, not_true, less, is_below}

-- ---- a page of a range

pub record Within (range : Range) (page : ℕ) : Type 0 where
  pub low : range.first ≤ page
  pub high : page < end_of range

pub within : (range : Range) (page : ℕ) → holds_page range page ≡ true → Within range page
within range page e =
    let h = parts (nat_le range.first page) (nat_lt page (end_of range)) e in
    record { low = leb-true _ _ h.0; high = less _ _ h.1 }

pub holds : (range : Range) (page : ℕ) → range.first ≤ page → page < end_of range → holds_page range page ≡ true
holds range page low high = both (nat_le range.first page) (nat_lt page (end_of range)) (le-leb _ _ low) (is_below _ _ high)

pub holds_not : (range : Range) (page : ℕ) → (Within range page → ⊥) → holds_page range page ≡ false
holds_not range page h = not_true (holds_page range page) (λ e. h (within range page e))

-- ---- a range within another

pub record Inside (inner outer : Range) : Type 0 where
  pub low : outer.first ≤ inner.first
  pub high : end_of inner ≤ end_of outer

pub inside : (inner outer : Range) → lies_within inner outer ≡ true → Inside inner outer
inside inner outer e =
    let h = parts (nat_le outer.first inner.first) (nat_le (end_of inner) (end_of outer)) e in
    record { low = leb-true _ _ h.0; high = leb-true _ _ h.1 }

pub lies : (inner outer : Range) → Inside inner outer → lies_within inner outer ≡ true
lies inner outer h = both (nat_le outer.first inner.first) (nat_le (end_of inner) (end_of outer)) (le-leb _ _ h.low) (le-leb _ _ h.high)

pub holds_too : (inner outer : Range) (page : ℕ) → Inside inner outer → holds_page inner page ≡ true → holds_page outer page ≡ true
holds_too inner outer page h e = let w = within inner page e in holds outer page (omega (arith, w.low, h.low)) (omega (arith, w.high, h.high))

-- the first page of a range that has one
pub holds_first : (inner outer : Range) → Inside inner outer → 1 ≤ inner.count → holds_page outer inner.first ≡ true
holds_first inner outer h some = holds outer inner.first h.low (omega (arith, h.high, some))

-- ---- ranges that do not meet

-- a page of the second is none of the first
pub apart : (a b : Range) (page : ℕ) → meets a b ≡ false → holds_page b page ≡ true → holds_page a page ≡ false
apart a b page e in_b =
    holds_not a page (λ in_a.
    let h = within b page in_b in
    let bad : true ≡ false = sym (both (nat_lt a.first (end_of b)) (nat_lt b.first (end_of a)) (is_below _ _ (omega (arith, in_a.low, h.high))) (is_below _ _ (omega (arith, in_a.high, h.low)))) ∙ e in
    cc)

-- a page of the first is none of the second
pub apart_too : (a b : Range) (page : ℕ) → meets a b ≡ false → holds_page a page ≡ true → holds_page b page ≡ false
apart_too a b page e in_a =
    holds_not b page (λ in_b.
    let bad : true ≡ false = sym in_a ∙ apart a b page e (holds b page in_b.low in_b.high) in
    cc)
