-- Lists of ranges that lie apart: what is added, taken out and found, and what a search visits.
use Rattle.std.proofs.Common.{◌≡◌, ◌≢◌, ◌||◌, ℕ, ◌+◌, ◌≤◌, List, [], ◌∷◌, ◌++◌, length, ap, ◌∙◌, arith, length-append, ◌<◌, true, false, cond, eqb, ltb, refl, ◌⊎◌, inl, inr, not, IsTrue, Bool, leb, ◌&&◌, Option, Some, None, option_map, ◌*◌, ◌^◌, zero, suc, sym}
use Rattle.mm_types.specs.{Range, end_of, end_of_user_pages, first_user_page, meets, is_free, are_user_pages, holds_page}
use Rattle.mm_vad.specs.{FollowsFrom, LieApart, end_after, add_range, remove_range, is_begun_at, TreeOf, IsShaped, VisitsAtMost, VisitsFew, repeated, Region}
use Rattle.mm_vad.specs.{IsSpace, region_range, region_ranges}
use Rattle.std.proofs.lemmas.Bool.{lt-ltb, le-ltb, eq-eqb, eqb-true, ne_eqb, ltb-true, ltb-false, or_parts, and_cases, and_parts, not-true, leb-true, le-leb, lt-leb}
use Rattle.std.specs.Prelude.{nat_le, find, All}
use Rattle.std.specs.List.{list_any}
use Rattle.std.specs.Option.{option_or}
use Rattle.std.proofs.Math.Nat.{pow-zero}
use Rattle.std.proofs.Math.Pow.{pow_mono}
use Rattle.std.proofs.lemmas.Grind.{pow_more}
use Rattle.std.proofs.lemmas.List.Elements.{All-nil, All-cons}

-- ---- ranges that lie apart, around one of them

-- what holds from one place on holds from any place below
pub apart_from_below : (a b : ℕ) (xs : List Range) → a ≤ b → LieApart b xs → LieApart a xs
apart_from_below a b [] h p = tt
apart_from_below a b (x ∷ xs) h p = (record { from = omega (arith, p.0.from); some = p.0.some; within = p.0.within }, p.1)

pub apart_front : (a : ℕ) (xs ys : List Range) → LieApart a (xs ++ ys) → LieApart a xs
apart_front a [] ys p = tt
apart_front a (x ∷ xs) ys p = (p.0, apart_front (end_of x) xs ys p.1)

pub apart_middle : (a : ℕ) (xs : List Range) (m : Range) (ys : List Range) → LieApart a (xs ++ m ∷ ys) → FollowsFrom (end_after a xs) m × LieApart (end_of m) ys
apart_middle a [] m ys p = p
apart_middle a (x ∷ xs) m ys p = apart_middle (end_of x) xs m ys p.1

pub apart_back : (a : ℕ) (xs : List Range) (m : Range) (ys : List Range) → LieApart a (xs ++ m ∷ ys) → LieApart 0 ys
apart_back a xs m ys p = apart_from_below 0 (end_of m) ys (omega arith) (apart_middle a xs m ys p).1

-- a range begins at or above the place that the ranges before it begin from
pub begins_from : (a : ℕ) (xs : List Range) (m : Range) (ys : List Range) → LieApart a (xs ++ m ∷ ys) → a ≤ m.first
begins_from a [] m ys p = p.0.from
begins_from a (x ∷ xs) m ys p =
    let rest : end_of x ≤ m.first = begins_from (end_of x) xs m ys p.1 in
    omega (arith, p.0.from, rest)

-- there are no more ranges than pages
pub length-apart : (a : ℕ) (xs : List Range) → a ≤ end_of_user_pages → LieApart a xs → a + length xs ≤ end_of_user_pages
length-apart a [] h p = omega arith
length-apart a (x ∷ xs) h p =
    let rest : end_of x + length xs ≤ end_of_user_pages = length-apart (end_of x) xs p.0.within p.1 in
    omega (arith, p.0.from, p.0.some, rest)

-- the ranges on each side are fewer
pub both_shorter : (xs : List Range) (m : Range) (ys zs : List Range) → zs ≡ xs ++ m ∷ ys → length zs ≡ length xs + length ys + 1
both_shorter xs m ys zs e = ap length e ∙ omega (arith, length-append xs (m ∷ ys))

-- ---- A range added or removed, around one of the ranges

pub add_left : (x : Range) (xs : List Range) (m : Range) (ys : List Range) → x.first < m.first → add_range x (xs ++ m ∷ ys) ≡ add_range x xs ++ m ∷ ys
add_left x [] m ys h = rw (lt-ltb x.first m.first h)
add_left x (y ∷ xs) m ys h =
    elim (ltb x.first y.first) as (λ b. cond b (x ∷ y ∷ (xs ++ m ∷ ys)) (y ∷ add_range x (xs ++ m ∷ ys)) ≡ cond b (x ∷ y ∷ xs) (y ∷ add_range x xs) ++ m ∷ ys) [
      | true ↦ refl
      | false ↦ ap (λ rest. y ∷ rest) (add_left x xs m ys h)
    ]

pub add_right : (x : Range) (a : ℕ) (xs : List Range) (m : Range) (ys : List Range) → LieApart a (xs ++ m ∷ ys) → m.first ≤ x.first → add_range x (xs ++ m ∷ ys) ≡ xs ++ m ∷ add_range x ys
add_right x a [] m ys p h = rw (le-ltb x.first m.first h)
add_right x a (y ∷ xs) m ys p h =
    let above : end_of y ≤ m.first = begins_from (end_of y) xs m ys p.1 in
    rw (le-ltb x.first y.first (omega (arith, above, h))) (ap (λ rest. y ∷ rest) (add_right x (end_of y) xs m ys p.1 h))

-- nothing is removed where no range begins
pub remove_none : (first a : ℕ) (xs : List Range) → LieApart a xs → first < a → remove_range first xs ≡ xs
remove_none first a [] p h = refl
remove_none first a (x ∷ xs) p h =
    rw (ne_eqb x.first first (omega (arith, p.0.from, h))) (ap (λ rest. x ∷ rest) (remove_none first (end_of x) xs p.1 (omega (arith, p.0.from, h))))

pub remove_left : (first a : ℕ) (xs : List Range) (m : Range) (ys : List Range) → LieApart a (xs ++ m ∷ ys) → first < m.first → remove_range first (xs ++ m ∷ ys) ≡ remove_range first xs ++ m ∷ ys
remove_left first a [] m ys p h =
    rw (ne_eqb m.first first (omega arith)) (ap (λ rest. m ∷ rest) (remove_none first (end_of m) ys p.1 (omega arith)))
remove_left first a (x ∷ xs) m ys p h =
    elim (eqb x.first first) as (λ b. cond b (xs ++ m ∷ ys) (x ∷ remove_range first (xs ++ m ∷ ys)) ≡ cond b xs (x ∷ remove_range first xs) ++ m ∷ ys) [
      | true ↦ refl
      | false ↦ ap (λ rest. x ∷ rest) (remove_left first (end_of x) xs m ys p.1 h)
    ]

remove_skip : (first a : ℕ) (xs : List Range) (m : Range) (ys : List Range) → LieApart a (xs ++ m ∷ ys) → m.first ≤ first → remove_range first (xs ++ m ∷ ys) ≡ xs ++ remove_range first (m ∷ ys)
remove_skip first a [] m ys p h = refl
remove_skip first a (x ∷ xs) m ys p h =
    let above : end_of x ≤ m.first = begins_from (end_of x) xs m ys p.1 in
    rw (ne_eqb x.first first (omega (arith, above, h, p.0.some))) (ap (λ rest. x ∷ rest) (remove_skip first (end_of x) xs m ys p.1 h))

pub remove_right : (first a : ℕ) (xs : List Range) (m : Range) (ys : List Range) → LieApart a (xs ++ m ∷ ys) → m.first < first → remove_range first (xs ++ m ∷ ys) ≡ xs ++ m ∷ remove_range first ys
remove_right first a xs m ys p h =
    remove_skip first a xs m ys p (omega arith)
    ∙ ap (λ b. xs ++ cond b ys (m ∷ remove_range first ys)) (ne_eqb m.first first (omega arith))

pub remove_middle : (first a : ℕ) (xs : List Range) (m : Range) (ys : List Range) → LieApart a (xs ++ m ∷ ys) → m.first ≡ first → remove_range first (xs ++ m ∷ ys) ≡ xs ++ ys
remove_middle first a xs m ys p h =
    remove_skip first a xs m ys p (omega arith)
    ∙ ap (λ b. xs ++ cond b ys (m ∷ remove_range first ys)) (eq-eqb m.first first h)

pub length-add : (x : Range) (xs : List Range) → length (add_range x xs) ≡ length xs + 1
length-add x [] = refl
length-add x (y ∷ xs) =
    elim (ltb x.first y.first) as (λ b. length (cond b (x ∷ y ∷ xs) (y ∷ add_range x xs)) ≡ length (y ∷ xs) + 1) [ true ↦ omega arith | false ↦ omega (arith, length-add x xs) ]

pub length-remove-le : (first : ℕ) (xs : List Range) → length (remove_range first xs) ≤ length xs
length-remove-le first [] = omega arith
length-remove-le first (x ∷ xs) =
    elim (eqb x.first first) as (λ b. length (cond b xs (x ∷ remove_range first xs)) ≤ length (x ∷ xs)) [ true ↦ omega arith | false ↦ omega (arith, length-remove-le first xs) ]

-- ---- ranges still lie apart with one more that was free, and without one

-- of two ranges that do not meet, one ends where or before the other begins
sides : (r x : Range) → meets r x ≡ false → (end_of x ≤ r.first) ⊎ (end_of r ≤ x.first)
sides r x e = elim (and_cases (ltb r.first (end_of x)) (ltb x.first (end_of r)) e) [ inl h ↦ inl (ltb-false r.first (end_of x) h) | inr h ↦ inr (ltb-false x.first (end_of r) h) ]

pub add_apart : (low : ℕ) (r : Range) (xs : List Range) → FollowsFrom low r → list_any (meets r) xs ≡ false → LieApart low xs → LieApart low (add_range r xs)
add_apart low r [] f e p = (f, tt)
add_apart low r (x ∷ xs) f e p =
    let parts = or_parts (meets r x) (list_any (meets r) xs) e in
    elim (ltb r.first x.first) as (λ b. ltb r.first x.first ≡ b → LieApart low (cond b (r ∷ x ∷ xs) (x ∷ add_range r xs))) [
      | true ↦ λ k. (let less : r.first < x.first = ltb-true r.first x.first k in
          let before : end_of r ≤ x.first = elim (sides r x parts.0) [ inl h ↦ absurd (omega (arith, h, less)) | inr h ↦ h ] in
          (f, (record { from = before; some = p.0.some; within = p.0.within }, p.1)))
      | false ↦ λ k. (let more : x.first ≤ r.first = ltb-false r.first x.first k in
          let after : end_of x ≤ r.first = elim (sides r x parts.0) [ inl h ↦ h | inr h ↦ absurd (omega (arith, h, more, f.some)) ] in
          (p.0, add_apart (end_of x) r xs (record { from = after; some = f.some; within = f.within }) parts.1 p.1))
    ] refl

pub remove_apart : (low first : ℕ) (xs : List Range) → LieApart low xs → LieApart low (remove_range first xs)
remove_apart low first [] p = tt
remove_apart low first (x ∷ xs) p =
    elim (eqb x.first first) as (λ b. LieApart low (cond b xs (x ∷ remove_range first xs))) [
      | true ↦ apart_from_below low (end_of x) xs (omega (arith, p.0.from)) p.1
      | false ↦ (p.0, remove_apart (end_of x) first xs p.1)
    ]

-- what it means that a range is free
pub free_parts : (taken : List Range) (r : Range) → IsTrue (is_free taken r) → 0 < r.count → FollowsFrom first_user_page r × (list_any (meets r) taken ≡ false)
free_parts taken r free some =
    let parts = and_parts (are_user_pages r) (not (list_any (meets r) taken)) free in
    let bounds = and_parts (nat_le first_user_page r.first) (nat_le (end_of r) end_of_user_pages) parts.0 in
    (record { from = leb-true first_user_page r.first bounds.0; some = some; within = leb-true (end_of r) end_of_user_pages bounds.1 }, not-true (list_any (meets r) taken) parts.1)

pub add_free : (taken : List Range) (r : Range) → IsTrue (is_free taken r) → 0 < r.count → LieApart first_user_page taken → LieApart first_user_page (add_range r taken)
add_free taken r free some p = let parts = free_parts taken r free some in add_apart first_user_page r taken parts.0 parts.1 p

-- ---- the first range that passes a test, around one of the ranges

pub find-append : (p : Range → Bool) (xs ys : List Range) → find p (xs ++ ys) ≡ option_or (find p xs) (find p ys)
find-append p [] ys = refl
find-append p (x ∷ xs) ys = elim (p x) as (λ b. cond b (Some x) (find p (xs ++ ys)) ≡ option_or (cond b (Some x) (find p xs)) (find p ys)) [ true ↦ refl | false ↦ find-append p xs ys ]

-- no range passes where none that begins from `a` does
pub find_none : (p : Range → Bool) (a : ℕ) (xs : List Range) → ((r : Range) → a ≤ r.first → p r ≡ false) → LieApart a xs → find p xs ≡ None
find_none p a [] fails h = refl
find_none p a (x ∷ xs) fails h =
    ap (λ b. cond b (Some x) (find p xs)) (fails x h.0.from)
    ∙ find_none p (end_of x) xs (λ r k. fails r (omega (arith, h.0.from, k))) h.1

-- ranges that end at or below the place where `m` begins do not pass
pub find_skip : (p : Range → Bool) (a : ℕ) (xs : List Range) (m : Range) (ys : List Range) → ((r : Range) → 0 < r.count → end_of r ≤ m.first → p r ≡ false) → LieApart a (xs ++ m ∷ ys) → find p (xs ++ m ∷ ys) ≡ find p (m ∷ ys)
find_skip p a [] m ys fails h = refl
find_skip p a (x ∷ xs) m ys fails h =
    ap (λ b. cond b (Some x) (find p (xs ++ m ∷ ys))) (fails x h.0.some (begins_from (end_of x) xs m ys h.1))
    ∙ find_skip p (end_of x) xs m ys fails h.1

or_none : {A : Type 0} (o : Option A) → option_or o None ≡ o
or_none None = refl
or_none (Some x) = refl

begins_above : (v : ℕ) (r : Range) → v < r.first → holds_page r v ≡ false
begins_above v r h = let k : leb r.first v ≡ false = lt-leb r.first v h in ap (λ b. b && ltb v (end_of r)) k

ends_below : (v : ℕ) (r : Range) → end_of r ≤ v → holds_page r v ≡ false
ends_below v r h =
    let k : ltb v (end_of r) ≡ false = le-ltb v (end_of r) h in
    ap (λ b. leb r.first v && b) k ∙ elim (leb r.first v) as (λ b. (b && false) ≡ false) [ true ↦ refl | false ↦ refl ]

pub at_left : (v a : ℕ) (xs : List Range) (m : Range) (ys : List Range) → LieApart a (xs ++ m ∷ ys) → v < m.first → find (λ r. holds_page r v) (xs ++ m ∷ ys) ≡ find (λ r. holds_page r v) xs
at_left v a xs m ys p h =
    let q = apart_middle a xs m ys p in
    let here : find (λ r. holds_page r v) (m ∷ ys) ≡ None = find_none (λ r. holds_page r v) m.first (m ∷ ys) (λ r k. begins_above v r (omega (arith, h, k))) (record { from = omega arith; some = q.0.some; within = q.0.within }, q.1) in
    find-append (λ r. holds_page r v) xs (m ∷ ys) ∙ ap (option_or (find (λ r. holds_page r v) xs)) here ∙ or_none (find (λ r. holds_page r v) xs)

pub at_middle : (v a : ℕ) (xs : List Range) (m : Range) (ys : List Range) → LieApart a (xs ++ m ∷ ys) → m.first ≤ v → v < end_of m → find (λ r. holds_page r v) (xs ++ m ∷ ys) ≡ Some m
at_middle v a xs m ys p low high =
    find_skip (λ r. holds_page r v) a xs m ys (λ r _ k. ends_below v r (omega (arith, low, k))) p
    ∙ rw (le-leb m.first v low, lt-ltb v (end_of m) high)

pub at_right : (v a : ℕ) (xs : List Range) (m : Range) (ys : List Range) → LieApart a (xs ++ m ∷ ys) → end_of m ≤ v → find (λ r. holds_page r v) (xs ++ m ∷ ys) ≡ find (λ r. holds_page r v) ys
at_right v a xs m ys p h =
    find_skip (λ r. holds_page r v) a xs m ys (λ r _ k. ends_below v r (omega (arith, h, k))) p
    ∙ ap (λ b. cond b (Some m) (find (λ r. holds_page r v) ys)) (ends_below v m h)

pub first_left : (v : ℕ) (xs : List Range) (m : Range) (ys : List Range) → v ≤ m.first → find (λ r. nat_le v r.first) (xs ++ m ∷ ys) ≡ option_or (find (λ r. nat_le v r.first) xs) (Some m)
first_left v xs m ys h =
    find-append (λ r. nat_le v r.first) xs (m ∷ ys)
    ∙ ap (λ b. option_or (find (λ r. nat_le v r.first) xs) (cond b (Some m) (find (λ r. nat_le v r.first) ys))) (le-leb v m.first h)

pub first_right : (v a : ℕ) (xs : List Range) (m : Range) (ys : List Range) → LieApart a (xs ++ m ∷ ys) → m.first < v → find (λ r. nat_le v r.first) (xs ++ m ∷ ys) ≡ find (λ r. nat_le v r.first) ys
first_right v a xs m ys p h =
    find_skip (λ r. nat_le v r.first) a xs m ys (λ r some k. lt-leb v r.first (omega (arith, h, some, k))) p
    ∙ ap (λ b. cond b (Some m) (find (λ r. nat_le v r.first) ys)) (lt-leb v m.first h)

mapped_or : {B : Type 0} (f : Range → B) (o : Option Range) (m : Range) (above : Option B) → option_or (option_map f (option_or o (Some m))) above ≡ option_or (option_map f o) (Some (f m))
mapped_or f None m above = refl
mapped_or f (Some x) m above = refl

-- the range in the middle is what stands for none on its left, in place of what stood for none in all
pub first_before : {B : Type 0} (f : Range → B) (v : ℕ) (xs : List Range) (m : Range) (ys : List Range) (above : Option B) → v ≤ m.first
    → option_or (option_map f (find (λ r. nat_le v r.first) (xs ++ m ∷ ys))) above ≡ option_or (option_map f (find (λ r. nat_le v r.first) xs)) (Some (f m))
first_before f v xs m ys above h = ap (λ o. option_or (option_map f o) above) (first_left v xs m ys h) ∙ mapped_or f (find (λ r. nat_le v r.first) xs) m above

-- ---- the nodes that one way down a balanced tree visits are few

cube : (x : ℕ) → x ^ 3 ≡ x * x * x
cube x =
    let first : x ^ 1 ≡ x = pow_more x 0 ∙ ap (λ (p : ℕ). p * x) (pow-zero x) ∙ omega arith in
    pow_more x 2 ∙ ap (λ (p : ℕ). p * x) (pow_more x 1 ∙ ap (λ (p : ℕ). p * x) first)

square_below : (n : ℕ) → (n + 1) * (n + 1) ≤ (n + 2) * (n + 2) * (n + 2)
square_below n = omega arith

pub visits_few : {A : Type 0} (stepped : A → A) (before after : A) (t : TreeOf) → IsShaped t → VisitsAtMost stepped before after t.height → VisitsFew stepped before after (length t.ranges)
visits_few stepped before after t shaped v = record {
  visited = v.visited;
  counted = v.counted;
  few =
      let up : 2 ^ v.visited ≤ 2 ^ t.height = pow_mono v.few in
      rw cube (omega (arith, up, shaped.full, square_below (length t.ranges)));
}

repeated_after : {A : Type 0} (f : A → A) (k : ℕ) (x : A) → repeated f k (f x) ≡ f (repeated f k x)
repeated_after f zero x = refl
repeated_after f (suc k) x = repeated_after f k (f x)

-- one more node is visited
pub visits_more : {A : Type 0} (stepped : A → A) (before after next : A) (k h : ℕ) → next ≡ stepped after → k < h → VisitsAtMost stepped before after k → VisitsAtMost stepped before next h
visits_more stepped before after next k h is less v = record {
  visited = suc v.visited;
  counted = is ∙ ap stepped v.counted ∙ sym (repeated_after stepped v.visited before);
  few = omega (arith, v.few, less);
}

-- ---- what the crates above want of the regions of a space: places in the list, and that they lie apart

-- each region has a page, and all of them are user pages
each_from : (low : ℕ) (gs : List Region) → first_user_page ≤ low → LieApart low (region_ranges gs) → All (λ g. FollowsFrom first_user_page (region_range g)) gs
each_from low [] le a = All-nil (λ (g : Region). FollowsFrom first_user_page (region_range g))
each_from low (x ∷ xs) le a =
    All-cons (λ (g : Region). FollowsFrom first_user_page (region_range g)) x xs
    (record { from = omega (arith, a.0.from); some = a.0.some; within = a.0.within })
    (each_from (end_of (region_range x)) xs (omega (arith, a.0.from)) a.1)

pub each_region : (gs : List Region) → IsSpace gs → All (λ g. FollowsFrom first_user_page (region_range g)) gs
each_region gs s = each_from first_user_page gs (omega arith) s.apart

-- ---- where ranges begin after a change

or_swap : (a b c : Bool) → (a || (b || c)) ≡ (b || (a || c))
or_swap true true c = refl
or_swap true false c = refl
or_swap false b c = refl

-- ranges begin where they began, and where the new one does
pub begun_add : (first : ℕ) (r : Range) (xs : List Range) → is_begun_at first (add_range r xs) ≡ (eqb r.first first || is_begun_at first xs)
begun_add first r [] = refl
begun_add first r (x ∷ xs) =
    elim (ltb r.first x.first) as (λ b. is_begun_at first (cond b (r ∷ x ∷ xs) (x ∷ add_range r xs)) ≡ (eqb r.first first || (eqb x.first first || is_begun_at first xs))) [
      | true ↦ refl
      | false ↦ ap (λ b. eqb x.first first || b) (begun_add first r xs) ∙ or_swap (eqb x.first first) (eqb r.first first) (is_begun_at first xs)
    ]

-- but where the one that goes did
pub begun_remove : (first gone : ℕ) (xs : List Range) → first ≢ gone → is_begun_at first (remove_range gone xs) ≡ is_begun_at first xs
begun_remove first gone [] other = refl
begun_remove first gone (x ∷ xs) other =
    elim (eqb x.first gone) as (λ b. eqb x.first gone ≡ b → is_begun_at first (cond b xs (x ∷ remove_range gone xs)) ≡ (eqb x.first first || is_begun_at first xs)) [
      | true ↦ λ e. (
          let here : x.first ≡ gone = eqb-true x.first gone e in
          sym (ap (λ b. b || is_begun_at first xs) (ne_eqb x.first first (λ k. other (sym k ∙ here)))))
      | false ↦ λ e. ap (λ b. eqb x.first first || b) (begun_remove first gone xs other)
    ] refl
