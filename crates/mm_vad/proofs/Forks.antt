-- A range between two trees: what is kept of both, and turns that put their heights right.
use Rattle.std.proofs.Common.{◌≡◌, ℕ, ◌+◌, ◌*◌, ◌^◌, ◌≤◌, max, inl, inr, arith, ◌<◌, true, false, cond, leb, List, [], ◌∷◌, ◌++◌, Option, Some, None, refl, ap, ◌∙◌, ◌≢◌, ◌-◌, Bool, eqb, length, sym, subst, length-append, append_assoc}
use Rattle.std.proofs.lemmas.Bool.{cases_order, cases_lt, le-leb, lt-leb, leb-false, eqb-true, eqb-false, eq-eqb}
use Rattle.std.proofs.lemmas.Nat.{pow-add}
use Rattle.std.proofs.Math.Nat.{mul-le-mul_left}
use Rattle.mm_vad.specs.{DifferByAtMost, aligned, room, lowest, end_after, widest, first_fit, LieApart, is_begun_at, remove_range, TreeOf, IsShaped}
use Rattle.mm_vad.specs.{IsBalanced, taken_range, range_in, ranges_under, tree_of, tree_at, IsSpan, IsNode, IsTree, Alike, MayLeanAt, Became, Node}
use Rattle.mm_vad.specs.{TakenRange, Span, IsFork, IsTurned}
use Rattle.mm_types.specs.{Range, end_of, end_of_user_pages}
use Rattle.std.specs.Option.{option_or, ForSome}
use Rattle.std.specs.Prelude.{Box, IsTrue}
use Rattle.std.specs.declared.alloc.Global.{Global}
use Rattle.mm_vad.proofs.RangeLists.{remove_middle}

-- ---- how high a balanced tree can be

squares_same : (p a b : ℕ) → p ≤ a * a → p ≤ b * b → 2 * p ≤ (a + b) * (a + b)
squares_same p a b h k = omega arith

squares_apart : (p a b : ℕ) → p ≤ a * a → 2 * p ≤ b * b → 4 * p ≤ (a + b) * (a + b)
squares_apart p a b h k =
    elim (cases_lt a b) [
      | inl less ↦ (let e : a ≤ b = omega arith in omega (arith, mul-le-mul_left a e))
      | inr more ↦ omega (arith, mul-le-mul_left b more)
    ]

-- a square above 2 to the height grows with the tree
pub full_fork : (l r a b : ℕ) → DifferByAtMost 1 l r → 2 ^ l ≤ a * a → 2 ^ r ≤ b * b → 2 ^ (max l r + 1) ≤ (a + b) * (a + b)
full_fork l r a b near h k =
    elim (cases_order l r) [
      | inl same ↦ (let e : max l r + 1 ≡ l + 1 = omega arith in rw (e, pow-add 2 l 1) (let k2 : 2 ^ l ≤ b * b = rw same k in omega (arith, squares_same (2 ^ l) a b h k2)))
      | inr (inl less) ↦ (let e : max l r + 1 ≡ l + 2 = omega (arith, near) in let f : r ≡ l + 1 = omega (arith, near) in let k2 : 2 ^ l * 2 ^ 1 ≤ b * b = rw (f, pow-add 2 l 1) at k in rw (e, pow-add 2 l 2) (omega (arith, squares_apart (2 ^ l) a b h (omega (arith, k2)))))
      | inr (inr more) ↦ (let e : max l r + 1 ≡ r + 2 = omega (arith, near) in let f : l ≡ r + 1 = omega (arith, near) in let h2 : 2 ^ r * 2 ^ 1 ≤ a * a = rw (f, pow-add 2 r 1) at h in rw (e, pow-add 2 r 2) (omega (arith, squares_apart (2 ^ r) b a k (omega (arith, h2)))))
    ]

-- ---- the room before the ranges on both sides of one of them

pub end_after-append : (low : ℕ) (xs : List Range) (m : Range) (ys : List Range) → end_after low (xs ++ m ∷ ys) ≡ end_after (end_of m) ys
end_after-append low [] m ys = refl
end_after-append low (x ∷ xs) m ys = end_after-append (end_of x) xs m ys

pub widest-append : (low : ℕ) (xs : List Range) (m : Range) (ys : List Range) → widest low (xs ++ m ∷ ys) ≡ max (max (widest low xs) (room (end_after low xs) m.first)) (widest (end_of m) ys)
widest-append low [] m ys = omega arith
widest-append low (x ∷ xs) m ys = omega (arith, widest-append (end_of x) xs m ys)

-- less room is left from a higher page on
pub room_falls : (low high page : ℕ) → low ≤ high → room high page ≤ room low page
room_falls low high page h = omega arith

pub widest_falls : (low high : ℕ) (xs : List Range) → low ≤ high → widest high xs ≤ widest low xs
widest_falls low high [] h = omega arith
widest_falls low high (x ∷ xs) h = omega (arith, room_falls low high x.first h)

-- the room before the first range, and the room between the ranges
pub widest_parts : (low : ℕ) (xs : List Range) → low ≤ end_of_user_pages → widest low xs ≡ max (room low (lowest xs)) (widest end_of_user_pages xs)
widest_parts low [] h = omega arith
widest_parts low (x ∷ xs) h = omega (arith, room_falls low end_of_user_pages x.first h)

pub fit-append : (low : ℕ) (xs : List Range) (m : Range) (ys : List Range) (high n : ℕ) → first_fit low (xs ++ m ∷ ys) high n ≡ option_or (first_fit low xs m.first n) (first_fit (end_of m) ys high n)
fit-append low [] m ys high n = elim (leb n (room low m.first)) as (λ b. cond b (Some (aligned low)) (first_fit (end_of m) ys high n) ≡ option_or (cond b (Some (aligned low)) None) (first_fit (end_of m) ys high n)) [ true ↦ refl | false ↦ refl ]
fit-append low (x ∷ xs) m ys high n =
    elim (leb n (room low x.first)) as (λ b. cond b (Some (aligned low)) (first_fit (end_of x) (xs ++ m ∷ ys) high n) ≡ option_or (cond b (Some (aligned low)) (first_fit (end_of x) xs m.first n)) (first_fit (end_of m) ys high n)) [
      | true ↦ refl
      | false ↦ fit-append (end_of x) xs m ys high n
    ]

-- nothing fits where the room is less
pub fit_none : (low : ℕ) (xs : List Range) (high n : ℕ) → widest low xs < n → room (end_after low xs) high < n → first_fit low xs high n ≡ None
fit_none low [] high n h k = rw (lt-leb n (room low high) k)
fit_none low (x ∷ xs) high n h k =
    let here : room low x.first < n = omega (arith, h) in
    let later : widest (end_of x) xs < n = omega (arith, h) in
    rw (lt-leb n (room low x.first) here) (fit_none (end_of x) xs high n later k)

abbrev pub is_place : Option ℕ → Type 0
is_place None = ⊥
is_place (Some x) = Unit {0}

-- something fits where there is room before one of the ranges
pub fit_some : (low : ℕ) (xs : List Range) (high n : ℕ) → n ≤ max (widest low xs) (room (end_after low xs) high) → is_place (first_fit low xs high n)
fit_some low [] high n h =
    let here : n ≤ room low high = omega (arith, h) in rw (le-leb n (room low high) here) tt
fit_some low (x ∷ xs) high n h =
    elim (leb n (room low x.first)) as (λ b. leb n (room low x.first) ≡ b → is_place (cond b (Some (aligned low)) (first_fit (end_of x) xs high n))) [
      | true ↦ λ e. tt
      | false ↦ λ e. fit_some (end_of x) xs high n (let here : room low x.first < n = leb-false n (room low x.first) e in omega (arith, here, h))
    ] refl

or_place : (o later : Option ℕ) → is_place o → option_or o later ≡ o
or_place None later h = absurd h
or_place (Some x) later h = refl

pub lowest_front : (xs : List Range) (m : Range) (ys zs : List Range) → lowest (xs ++ m ∷ ys) ≡ lowest (xs ++ m ∷ zs)
lowest_front [] m ys zs = refl
lowest_front (x ∷ xs) m ys zs = refl

-- the first place is below the middle one where there is enough room between the ranges up to it
pub fit_left : (low : ℕ) (xs : List Range) (m : Range) (ys : List Range) (high n : ℕ) → low ≤ end_of_user_pages → n ≤ widest end_of_user_pages (xs ++ m ∷ []) → first_fit low (xs ++ m ∷ ys) high n ≡ first_fit low xs m.first n
fit_left low xs m ys high n h enough =
    let more = widest_falls low end_of_user_pages (xs ++ m ∷ []) h in
    let parts = widest-append low xs m [] in
    let place = fit_some low xs m.first n (omega (arith, enough, more, parts)) in
    fit-append low xs m ys high n ∙ or_place (first_fit low xs m.first n) (first_fit (end_of m) ys high n) place

-- and above it where there is not, nor below the lowest range
pub fit_right : (low : ℕ) (xs : List Range) (m : Range) (ys : List Range) (high n : ℕ) → low ≤ end_of_user_pages → room low (lowest (xs ++ m ∷ ys)) < n → widest end_of_user_pages (xs ++ m ∷ []) < n → first_fit low (xs ++ m ∷ ys) high n ≡ first_fit (end_of m) ys high n
fit_right low xs m ys high n h first small =
    let same : room low (lowest (xs ++ m ∷ [])) < n = rw (lowest_front xs m [] ys) first in
    let all = widest_parts low (xs ++ m ∷ []) h in
    let parts = widest-append low xs m [] in
    let before : widest low xs < n = omega (arith, same, small, all, parts) in
    let last : room (end_after low xs) m.first < n = omega (arith, same, small, all, parts) in
    fit-append low xs m ys high n ∙ ap (λ o. option_or o (first_fit (end_of m) ys high n)) (fit_none low xs m.first n before last)

-- ---- what is kept of a tree, from what is kept of its two sides

max-zero : (n : ℕ) → n ≡ max n 0
max-zero n = omega arith

abbrev pub fork_of : TreeOf → Range → TreeOf → TreeOf
fork_of l m u = record { ranges = l.ranges ++ m ∷ u.ranges; height = max l.height u.height + 1 }

lowest_over : (xs ys : List Range) (m : Range) (h : ℕ) (b : Bool) → eqb h 0 ≡ b → (h ≡ 0 → xs ≡ []) → h ≤ length xs → cond b m.first (lowest xs) ≡ lowest (xs ++ m ∷ ys)
lowest_over xs ys m h true e bare low = rw (bare (eqb-true h 0 e))
lowest_over [] ys m h false e bare low = absurd (eqb-false h 0 e (omega (arith, low)))
lowest_over (x ∷ xs) ys m h false e bare low = refl

highest_over : (xs ys : List Range) (m : Range) (h : ℕ) (b : Bool) → eqb h 0 ≡ b → (h ≡ 0 → ys ≡ []) → h ≤ length ys → cond b (end_of m) (end_after end_of_user_pages ys) ≡ end_after (end_of m) ys
highest_over xs ys m h true e bare low = rw (bare (eqb-true h 0 e))
highest_over xs [] m h false e bare low = absurd (eqb-false h 0 e (omega (arith, low)))
highest_over xs (y ∷ ys) m h false e bare low = refl

pub lowest_fork : (l u : TreeOf) (m : Range) (below : Span) → IsSpan below l → IsShaped l → cond (eqb below.height 0) m.first below.lowest ≡ lowest (l.ranges ++ m ∷ u.ranges)
lowest_fork l u m below b shaped_l =
    ap (λ x. cond (eqb below.height 0) m.first x) b.lowest_is
    ∙ lowest_over l.ranges u.ranges m below.height (eqb below.height 0) refl (λ e. shaped_l.bare (sym b.height_is ∙ e)) (omega (arith, b.height_is, shaped_l.low))

pub highest_fork : (l u : TreeOf) (m : Range) (above : Span) → IsSpan above u → IsShaped u → cond (eqb above.height 0) (end_of m) above.highest ≡ end_after end_of_user_pages (l.ranges ++ m ∷ u.ranges)
highest_fork l u m above a shaped_u =
    ap (λ x. cond (eqb above.height 0) (end_of m) x) a.highest_is
    ∙ highest_over l.ranges u.ranges m above.height (eqb above.height 0) refl (λ e. shaped_u.bare (sym a.height_is ∙ e)) (omega (arith, a.height_is, shaped_u.low))
    ∙ sym (end_after-append end_of_user_pages l.ranges m u.ranges)

-- the room on the left, from what is kept of that side
pub left_fork : (l : TreeOf) (m : Range) (below : Span) (gap : ℕ) → IsSpan below l → gap ≡ max below.gap (room below.highest m.first) → gap ≡ widest end_of_user_pages (l.ranges ++ m ∷ [])
left_fork l m below gap b is = rw (b.gap_is, b.highest_is) at is ∙ max-zero _ ∙ sym (widest-append end_of_user_pages l.ranges m [])

-- and on the right
pub right_fork : (u : TreeOf) (m : Range) (above : Span) (gap : ℕ) → IsSpan above u → end_of m ≤ end_of_user_pages → gap ≡ max (room (end_of m) above.lowest) above.gap → gap ≡ widest (end_of m) u.ranges
right_fork u m above gap a within is = rw (a.gap_is, a.lowest_is) at is ∙ sym (widest_parts (end_of m) u.ranges within)

within_after : (low : ℕ) (xs : List Range) → low ≤ end_of_user_pages → end_after end_of_user_pages xs ≤ end_of_user_pages → end_after low xs ≤ end_of_user_pages
within_after low [] h k = h
within_after low (x ∷ xs) h k = k

pub shaped_fork : (l u : TreeOf) (m : Range) → IsShaped l → IsShaped u → DifferByAtMost 1 l.height u.height → end_of m ≤ end_of_user_pages → IsShaped (fork_of l m u)
shaped_fork l u m a b near within = record {
  within = rw (end_after-append end_of_user_pages l.ranges m u.ranges) (within_after (end_of m) u.ranges within b.within);
  bare = λ e. absurd (omega (arith, e));
  low = omega (arith, a.low, b.low, length-append l.ranges (m ∷ u.ranges));
  full =
      let e : (length l.ranges + 1) + (length u.ranges + 1) ≡ length (l.ranges ++ m ∷ u.ranges) + 1 = omega (arith, length-append l.ranges (m ∷ u.ranges)) in
      subst (λ (n : ℕ). 2 ^ (max l.height u.height + 1) ≤ n * n) e (full_fork l.height u.height (length l.ranges + 1) (length u.ranges + 1) near a.full b.full);
}

-- a node made of two sides and what is kept of them
pub node_fork : (l u : TreeOf) (p : TakenRange) (left_gap right_gap : ℕ) (s : Span) → IsShaped l → IsShaped u → DifferByAtMost 1 l.height u.height → end_of (taken_range p) ≤ end_of_user_pages
    → left_gap ≡ widest end_of_user_pages (l.ranges ++ taken_range p ∷ []) → right_gap ≡ widest (end_of (taken_range p)) u.ranges
    → s.lowest ≡ lowest (l.ranges ++ taken_range p ∷ u.ranges) → s.highest ≡ end_after end_of_user_pages (l.ranges ++ taken_range p ∷ u.ranges) → s.gap ≡ max left_gap right_gap → s.height ≡ max l.height u.height + 1
    → IsNode (record { left = l; pages = p; right = u; left_gap = left_gap; right_gap = right_gap; span = s }) (record { ranges = l.ranges ++ taken_range p ∷ u.ranges; height = s.height })
node_fork l u p left_gap right_gap s shaped_l shaped_u near within left right low high gap height =
    let m = taken_range p in
    let t : ℕ → TreeOf = λ n. record { ranges = l.ranges ++ m ∷ u.ranges; height = n } in
    record {
      fork = record { ranges = refl; height = height; near = near };
      shaped = subst (λ (n : ℕ). IsShaped (t n)) (sym height) (shaped_fork l u m shaped_l shaped_u near within);
      below = shaped_l;
      above = shaped_u;
      within = within;
      span = record {
        lowest_is = low;
        highest_is = high;
        gap_is = omega (arith, gap, left, right, widest-append end_of_user_pages l.ranges m [], widest-append end_of_user_pages l.ranges m u.ranges);
        height_is = refl;
      };
      left_gap = left;
      right_gap = right;
    }

-- ---- a side becomes another tree

-- the node at the root of a tree
pub at_root : (root : Option (Box Node Global)) (top : Box Node Global) (n : Node) (t : TreeOf)
    → IsTree root → root ≡ Some top → tree_of root ≡ t → n ≡ top.value → IsNode n t
at_root root top n t is some view same =
    let Q : TreeOf → Type 0 = λ u. IsNode top.value u in
    let P : Node → Type 0 = λ x. IsNode x t in
    subst P (sym same) (subst Q (ap tree_of (sym some) ∙ view) (subst IsTree some is))

-- what was kept is still right of a node that keeps the same
pub same_kept : (was : Span) (n : Node) → IsNode n (tree_at n) → was ≡ n.span → IsSpan was (tree_at n)
same_kept was n is same = subst (λ (s : Span). IsSpan s (tree_at n)) (sym same) is.span

-- two trees of which the same is kept
pub alike : (s : Span) (t u : TreeOf) → IsSpan s t → IsSpan s u → Alike t u
alike s t u a b = record {
  lowest = sym b.lowest_is ∙ a.lowest_is;
  highest = sym b.highest_is ∙ a.highest_is;
  gap = sym b.gap_is ∙ a.gap_is;
  height = sym b.height_is ∙ a.height_is;
}

pub alike_itself : (t : TreeOf) → Alike t t
alike_itself t = record { lowest = refl; highest = refl; gap = refl; height = refl }

abbrev span_of : TreeOf → Span
span_of t = record { lowest = lowest t.ranges; highest = end_after end_of_user_pages t.ranges; gap = widest end_of_user_pages t.ranges; height = t.height }

is_span : (t u : TreeOf) → Alike t u → IsSpan (span_of t) u
is_span t u a = record { lowest_is = sym a.lowest; highest_is = sym a.highest; gap_is = sym a.gap; height_is = sym a.height }

-- ---- heights where one side was changed by one

-- the height of a node whose sides may lean, from those of its sides
record Settles (l u s : ℕ) : Type 0 where
  least : max l u ≤ s
  most : s ≤ max l u + 1
  near : l ≤ u + 1 → u ≤ l + 1 → s ≡ max l u + 1

module _ (a b l u s : ℕ) (about : DifferByAtMost 1 a b) (settles : Settles l u s) where
  grown : a ≤ l → b ≤ u → l + u ≤ a + b + 1 → (max a b + 1 ≤ s) × (s ≤ max a b + 2)
  grown la ub few = (grind (arith, settles.near), grind (arith, settles.near))

  shrunk : l ≤ a → u ≤ b → a + b ≤ l + u + 1 → (max a b ≤ s) × (s ≤ max a b + 1)
  shrunk la ub few = (grind (arith, settles.near), grind (arith, settles.near))

-- ---- a node whose sides became others

module _ (n : Node) (t l u : TreeOf) (is : IsNode n t) where
  abbrev pub with_sides : Node
  with_sides = record { left = l; pages = n.pages; right = u; left_gap = n.left_gap; right_gap = n.right_gap; span = n.span }

  -- where the right side is as it was, or the left one
  pub may_lean_left : (d : Node) → d ≡ with_sides → u ≡ n.right → DifferByAtMost 2 l.height u.height → length l.ranges + length u.ranges + 1 < 2 ^ 32 → MayLeanAt true d
  may_lean_left d e same near few =
      let m = range_in n in
      let made : MayLeanAt true with_sides = record {
        lean = record { near = near; within = is.within; few = few };
        highest = λ _. is.span.highest_is
            ∙ ap (end_after end_of_user_pages) is.fork.ranges
            ∙ end_after-append end_of_user_pages n.left.ranges m n.right.ranges
            ∙ ap (λ (x : TreeOf). end_after (end_of m) x.ranges) (sym same)
            ∙ sym (end_after-append end_of_user_pages l.ranges m u.ranges);
        right_gap = λ _. is.right_gap ∙ ap (λ (x : TreeOf). widest (end_of m) x.ranges) (sym same);
        lowest = λ no. cc;
        left_gap = λ no. cc;
      } in
      subst (MayLeanAt true) (sym e) made

  pub may_lean_right : (d : Node) → d ≡ with_sides → l ≡ n.left → DifferByAtMost 2 l.height u.height → length l.ranges + length u.ranges + 1 < 2 ^ 32 → MayLeanAt false d
  may_lean_right d e same near few =
      let m = range_in n in
      let made : MayLeanAt false with_sides = record {
        lean = record { near = near; within = is.within; few = few };
        highest = λ no. cc;
        right_gap = λ no. cc;
        lowest = λ _. is.span.lowest_is
            ∙ ap lowest is.fork.ranges
            ∙ ap (λ (x : TreeOf). lowest (x.ranges ++ m ∷ n.right.ranges)) (sym same)
            ∙ lowest_front l.ranges m n.right.ranges u.ranges;
        left_gap = λ _. is.left_gap ∙ ap (λ (x : TreeOf). widest end_of_user_pages (x.ranges ++ m ∷ [])) (sym same);
      } in
      subst (MayLeanAt false) (sym e) made

  module _ (d : Node) (e : d ≡ with_sides) (s : TreeOf) (r : Bool) (shaped : IsShaped s) (balanced : IsBalanced s (ranges_under d) d.left.height d.right.height) (same : r ≡ false → IsSpan d.span s)
      (ranges : List Range) (are : ranges ≡ l.ranges ++ range_in n ∷ u.ranges) where
    settles : Settles l.height u.height s.height
    settles =
        let P : Node → Type 0 = λ x. Settles x.left.height x.right.height s.height in
        let made : P d = record { least = balanced.least; most = balanced.most; near = λ x y. balanced.near (x, y) } in
        subst P e made

    ranges_are : s.ranges ≡ ranges
    ranges_are = balanced.is ∙ ap ranges_under e ∙ sym are

    as_before : r ≡ false → Alike t s
    as_before unset = alike n.span t s is.span (subst (λ (x : Node). IsSpan x.span s) e (same unset))

    pub settled_grown : n.left.height ≤ l.height → n.right.height ≤ u.height → l.height + u.height ≤ n.left.height + n.right.height + 1 → Became t s ranges t.height (t.height + 1) r
    settled_grown low high few =
        let by = grown n.left.height n.right.height l.height u.height s.height is.fork.near settles low high few in
        record { is = ranges_are; shaped = shaped; not_lower = omega (arith, by.0, is.fork.height); not_higher = omega (arith, by.1, is.fork.height); same = as_before }

    pub settled_shrunk : l.height ≤ n.left.height → u.height ≤ n.right.height → n.left.height + n.right.height ≤ l.height + u.height + 1 → Became t s ranges (t.height - 1) t.height r
    settled_shrunk low high few =
        let by = shrunk n.left.height n.right.height l.height u.height s.height is.fork.near settles low high few in
        record { is = ranges_are; shaped = shaped; not_lower = omega (arith, by.0, is.fork.height); not_higher = omega (arith, by.1, is.fork.height); same = as_before }

  module _ (left : Alike n.left l) (right : Alike n.right u) (shaped_l : IsShaped l) (shaped_u : IsShaped u) where
    -- where the same is kept of both sides, what a node keeps is still right
    pub node_unchanged : IsNode with_sides (tree_at with_sides)
    node_unchanged =
        let m = range_in n in
        let near : DifferByAtMost 1 l.height u.height = (omega (arith, left.height, right.height, is.fork.near.0), omega (arith, left.height, right.height, is.fork.near.1)) in
        let left_is : IsSpan (span_of n.left) l = is_span n.left l left in
        let right_is : IsSpan (span_of n.right) u = is_span n.right u right in
        let left_was = is_span n.left n.left (alike_itself n.left) in
        let right_was = is_span n.right n.right (alike_itself n.right) in
        node_fork l u n.pages n.left_gap n.right_gap n.span shaped_l shaped_u near is.within
        (is.left_gap
        ∙ widest-append end_of_user_pages n.left.ranges m []
        ∙ ap (λ x. max (max x (room (end_after end_of_user_pages n.left.ranges) m.first)) 0) (sym left.gap)
        ∙ ap (λ x. max (max (widest end_of_user_pages l.ranges) (room x m.first)) 0) (sym left.highest)
        ∙ sym (widest-append end_of_user_pages l.ranges m []))
        (is.right_gap
        ∙ widest_parts (end_of m) n.right.ranges is.within
        ∙ ap (λ x. max (room (end_of m) x) (widest end_of_user_pages n.right.ranges)) (sym right.lowest)
        ∙ ap (λ x. max (room (end_of m) (lowest u.ranges)) x) (sym right.gap)
        ∙ sym (widest_parts (end_of m) u.ranges is.within))
        (is.span.lowest_is ∙ ap lowest is.fork.ranges ∙ sym (lowest_fork n.left n.right m (span_of n.left) left_was is.below) ∙ lowest_fork l u m (span_of n.left) left_is shaped_l)
        (is.span.highest_is ∙ ap (end_after end_of_user_pages) is.fork.ranges ∙ sym (highest_fork n.left n.right m (span_of n.right) right_was is.above) ∙ highest_fork l u m (span_of n.right) right_is shaped_u)
        (omega (arith, is.left_gap, is.right_gap, is.span.gap_is, ap (widest end_of_user_pages) is.fork.ranges, widest-append end_of_user_pages n.left.ranges m [], widest-append end_of_user_pages n.left.ranges m n.right.ranges))
        (omega (arith, left.height, right.height, is.fork.height, is.span.height_is))

    pub unchanged : (ranges : List Range) → ranges ≡ l.ranges ++ range_in n ∷ u.ranges → (least most : ℕ) → least ≤ t.height → t.height ≤ most → Became t (tree_at with_sides) ranges least most false
    unchanged ranges are least most low high =
        let now = node_unchanged in
        record {
          is = sym are;
          shaped = now.shaped;
          not_lower = omega (arith, low, is.span.height_is);
          not_higher = omega (arith, high, is.span.height_is);
          same = λ unset. alike n.span t (tree_at with_sides) is.span now.span;
        }

no_ranges : IsShaped (record { ranges = []; height = 0 })
no_ranges = record { within = omega arith; bare = λ e. refl; low = omega arith; full = omega arith }

tree_shaped : (root : Option (Box Node Global)) → IsTree root → IsShaped (tree_of root)
tree_shaped None is = no_ranges
tree_shaped (Some n) is = is.shaped

-- the range at the root goes
pub taken : (root new : Option (Box Node Global)) (t : TreeOf) (first : ℕ) → IsTree root → tree_of root ≡ t → LieApart 0 t.ranges → IsTrue (is_begun_at first t.ranges) → ForSome root (λ n. n.value.pages.first ≡ first) → IsTree new
    → ForSome root (λ n. (tree_of new).ranges ≡ n.value.left.ranges ++ n.value.right.ranges) → ForSome root (λ n. max n.value.left.height n.value.right.height ≤ (tree_of new).height)
    → ForSome root (λ n. (tree_of new).height ≤ max n.value.left.height n.value.right.height + 1) → Became t (tree_of new) (remove_range first t.ranges) (t.height - 1) t.height true
taken None new t first is view apart begun here tree ranges least most =
    let P : TreeOf → Type 0 = λ x. IsTrue (is_begun_at first x.ranges) in
    let bad : false ≡ true = subst P (sym view) begun in
    cc
taken (Some n) new t first is view apart begun here tree ranges least most =
    let node = at_root (Some n) n n.value t is refl view refl in
    let l = n.value.left in
    let u = n.value.right in
    record {
      is = ranges n refl ∙ sym (ap (remove_range first) node.fork.ranges ∙ remove_middle first 0 l.ranges (range_in n.value) u.ranges (subst (LieApart 0) node.fork.ranges apart) (here n refl));
      shaped = tree_shaped new tree;
      not_lower = omega (arith, least n refl, node.fork.height);
      not_higher = omega (arith, most n refl, node.fork.height);
      same = λ e. (let bad : true ≡ false = e in cc);
    }

pub apart : (a b : ℕ) → eqb a b ≡ false → a ≢ b
apart a b unset e = let bad : true ≡ false = sym (eq-eqb a b e) ∙ unset in cc

-- ---- two trees of which one is two levels higher, and a range between them, turned

-- the range of the higher one's root comes between
pub left_once : {l u inner outer f : TreeOf} {r q r' q' : Range} → IsFork u inner q outer → IsFork f l r' inner → r' ≡ r → q' ≡ q → u.height ≡ l.height + 2 → inner.height ≤ outer.height → end_of q ≤ end_of_user_pages → IsTurned l r u f q' outer
left_once a b here there higher lean within = record {
  ranges = rw (b.ranges, here, there, a.ranges, append_assoc);
  within = rw there within;
  about = (omega arith, omega arith);
  least = omega arith;
  most = omega arith;
  near = λ e. absurd (omega arith);
}

pub right_once : {l u inner outer f : TreeOf} {r q r' q' : Range} → IsFork l outer q inner → IsFork f inner r' u → r' ≡ r → q' ≡ q → l.height ≡ u.height + 2 → inner.height ≤ outer.height → end_of q ≤ end_of_user_pages → IsTurned l r u outer q' f
right_once a b here there higher lean within = record {
  ranges = rw (b.ranges, here, there, a.ranges, append_assoc);
  within = rw there within;
  about = (omega arith, omega arith);
  least = omega arith;
  most = omega arith;
  near = λ e. absurd (omega arith);
}

-- the range of its inner side's root does
pub left_twice : {l u inner outer below above f g : TreeOf} {r q m r' m' : Range} → IsFork u inner q outer → IsFork inner below m above → IsFork f l r' below → IsFork g above q outer → r' ≡ r → m' ≡ m → u.height ≡ l.height + 2 → outer.height < inner.height → end_of m ≤ end_of_user_pages → IsTurned l r u f m' g
left_twice a b low high here there higher lean within = record {
  ranges = rw (low.ranges, high.ranges, here, there, a.ranges, b.ranges, append_assoc, append_assoc);
  within = rw there within;
  about = (omega arith, omega arith);
  least = omega arith;
  most = omega arith;
  near = λ e. absurd (omega arith);
}

pub right_twice : {l u inner outer below above f g : TreeOf} {r q m r' m' : Range} → IsFork l outer q inner → IsFork inner below m above → IsFork f outer q below → IsFork g above r' u → r' ≡ r → m' ≡ m → l.height ≡ u.height + 2 → outer.height < inner.height → end_of m ≤ end_of_user_pages → IsTurned l r u f m' g
right_twice a b low high here there higher lean within = record {
  ranges = rw (low.ranges, high.ranges, here, there, a.ranges, b.ranges, append_assoc, append_assoc, append_assoc);
  within = rw there within;
  about = (omega arith, omega arith);
  least = omega arith;
  most = omega arith;
  near = λ e. absurd (omega arith);
}
