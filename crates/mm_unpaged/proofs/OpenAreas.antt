-- The open areas as a function of the number: what a write to the list of them leaves.
use Rattle.std.proofs.Common.{◌≡◌, ℕ, zero, suc, ◌+◌, ◌<◌, Bool, List, [], ◌∷◌, ◌++◌, length, replicate, Option, Some, None, true, false, refl, sym, ap, ◌∙◌, arith}
use Rattle.std.specs.Prelude.{◌==◌, IsSome, slice_index_or, slice_set, if◌then◌else◌}
use Rattle.std.specs.Cmp.{unsigned_Decides}
use Rattle.std.proofs.lemmas.Bool.{eqb-true}
use Rattle.std.proofs.lemmas.List.{get_or-set_same, get_or-set_other, get_or_read}
use Rattle.mm_move_rules.specs.{changed}
use Rattle.mm_unpaged.specs.{AreaPages, size_of, area_pages, page_of_area, area_block, one_if_live}
use Rattle.std.specs.List.{sum_by}
use Rattle.std.proofs.lemmas.List.Sums.{sum_by-cons}
use Rattle.mm_unpaged.specs.declared.areas.AreaPages.TheVariants.{Filed}

pub set_at : {A : Type 0} (xs : List A) (i q : ℕ) (x d : A) → i < length xs → slice_index_or (slice_set xs i x) q d ≡ (if q == i then x else slice_index_or xs q d)
set_at xs i q x d h = at (q == i) refl
  where
    at : (b : Bool) → (q == i) ≡ b → slice_index_or (slice_set xs i x) q d ≡ (if b then x else slice_index_or xs q d)
    at true e = ap (λ (k : ℕ). slice_index_or (slice_set xs i x) k d) (eqb-true q i e) ∙ get_or-set_same xs i x d h
    at false e = get_or-set_other xs i q x d (λ s. let t : (q == i) ≡ true = (unsigned_Decides q i).1 s in let bad : true ≡ false = sym t ∙ e in cc)

-- one more of none is as none
pub pushed : {A : Type 0} (xs : List A) (d : A) → ◌≡◌ {A = ℕ → A} (λ q. slice_index_or (xs ++ d ∷ []) q d) (λ q. slice_index_or xs q d)
pushed {A} xs d = λ i. λ (q : ℕ). (at xs q) i
  where
    at : (ys : List A) (q : ℕ) → slice_index_or (ys ++ d ∷ []) q d ≡ slice_index_or ys q d
    at [] zero = refl
    at [] (suc q) = refl
    at (y ∷ ys) zero = refl
    at (y ∷ ys) (suc q) = at ys q

-- an area that is another one, which a change `f` makes of it
pub set_area : (xs : List (Option AreaPages)) (a : ℕ) (here new : Option AreaPages) (f : Option AreaPages → Option AreaPages) → a < length xs → here ≡ slice_index_or xs a here → new ≡ f here → ◌≡◌ {A = ℕ → Option AreaPages} (λ q. slice_index_or (slice_set xs a new) q None) (changed ◌==◌ (λ q. slice_index_or xs q None) a (f (slice_index_or xs a None)))
set_area xs a here new f near read is =
    (λ j. λ (q : ℕ). (set_at xs a q new None near) j)
    ∙ ap (changed ◌==◌ (λ q. slice_index_or xs q None) a) (is ∙ ap f (get_or_read xs a here near read None))

-- a list of one value has it at each index
pub none_at : {A : Type 0} (d : A) (n j : ℕ) → slice_index_or (replicate n d) j d ≡ d
none_at d zero j = refl
none_at d (suc n) zero = refl
none_at d (suc n) (suc j) = none_at d n j

-- an area with pages has a place
pub has_place : (xs : List (Option AreaPages)) (a i : ℕ) → i < length (area_pages (slice_index_or xs a None)) → a < length xs
has_place [] a i h = absurd (omega arith)
has_place (x ∷ xs) zero i h = omega arith
has_place (x ∷ xs) (suc a) i h = let n = has_place xs a i h in omega arith

pub live_within : {A : Type 0} (xs : List (Option A)) (i : ℕ) → IsSome (slice_index_or xs i None) → i < length xs
live_within [] i h = cc
live_within (x ∷ xs) zero h = omega arith
live_within (x ∷ xs) (suc i) h = let n = live_within xs i h in omega arith

pub live_place : (xs : List (Option AreaPages)) (a i : ℕ) → IsSome (page_of_area (slice_index_or xs a None) i) → a < length xs
live_place xs a i h = has_place xs a i (live_within (area_pages (slice_index_or xs a None)) i h)

-- an open area has a place
pub open_place : (xs : List (Option AreaPages)) (a : ℕ) → IsSome (size_of (slice_index_or xs a None)) → a < length xs
open_place [] a h = cc
open_place (x ∷ xs) zero h = omega arith
open_place (x ∷ xs) (suc a) h = let n = open_place xs a h in omega arith

-- a new segment has no live page
pub none_live : (n : ℕ) → sum_by one_if_live (replicate n None) ≡ 0
none_live zero = refl
none_live (suc n) = let first = sum_by-cons one_if_live None (replicate n None) in omega (arith, first, none_live n)

pub in_file : (first count i : ℕ) → i < count → area_block (Some (Filed first count)) i ≡ Some (first + i)
in_file first count i h = grind arith
