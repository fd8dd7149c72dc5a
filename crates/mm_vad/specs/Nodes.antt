-- What the nodes of a tree are seen as, and what holds of each.
use Rattle.std.specs.Prelude.{◌≡◌, ℕ, ◌+◌, ◌^◌, ◌<◌, ◌≤◌, List, length, [], ◌∷◌, ◌++◌, Option, Some, None, Box, Bool, true, false}
use Rattle.std.specs.declared.alloc.Global.{Global}
use Rattle.mm_types.specs.{Range, end_of, end_of_user_pages}
use Rattle.mm_vad.specs.Room.{lowest, end_after, widest}
use Rattle.mm_vad.specs.Shape.{TreeOf, IsShaped, IsFork, DifferByAtMost}
use Rattle.mm_vad.specs.declared.trees.Node.{Node}
use Rattle.mm_vad.specs.declared.trees.TakenRange.{TakenRange}
use Rattle.mm_vad.specs.declared.trees.Span.{Span}

abbrev pub taken_range : TakenRange → Range
taken_range p = record { first = p.first; count = p.count }

abbrev pub range_in : Node → Range
range_in n = taken_range n.pages

abbrev pub tree_of : Option (Box Node Global) → TreeOf
tree_of None = record { ranges = []; height = 0 }
tree_of (Some b) = record {
  ranges = b.value.left.ranges ++ range_in b.value ∷ b.value.right.ranges;
  height = b.value.span.height;
}

-- what is kept of a tree's ranges
pub record IsSpan (s : Span) (t : TreeOf) : Type 0 where
  pub lowest_is : s.lowest ≡ lowest t.ranges
  pub highest_is : s.highest ≡ end_after end_of_user_pages t.ranges
  pub gap_is : s.gap ≡ widest end_of_user_pages t.ranges
  pub height_is : s.height ≡ t.height

-- a node between its two sides, with what it keeps of them
pub record IsNode (n : Node) (t : TreeOf) : Type 0 where
  pub fork : IsFork t n.left (range_in n) n.right
  pub shaped : IsShaped t
  pub below : IsShaped n.left
  pub above : IsShaped n.right
  pub within : end_of (range_in n) ≤ end_of_user_pages
  pub span : IsSpan n.span t
  pub left_gap : n.left_gap ≡ widest end_of_user_pages (n.left.ranges ++ range_in n ∷ [])
  pub right_gap : n.right_gap ≡ widest (end_of (range_in n)) n.right.ranges

-- the ranges of a node and of its two sides
abbrev pub ranges_under : Node → List Range
ranges_under n = n.left.ranges ++ range_in n ∷ n.right.ranges

abbrev pub tree_at : Node → TreeOf
tree_at n = record { ranges = ranges_under n; height = n.span.height }

-- a node one of whose sides may be two levels higher than the other; what it keeps of them may
-- be out of date
pub record MayLean (n : Node) : Type 0 where
  pub near : DifferByAtMost 2 n.left.height n.right.height
  pub within : end_of (range_in n) ≤ end_of_user_pages
  pub few : length n.left.ranges + length n.right.ranges + 1 < 2 ^ 32

-- the same, where the left side or the right one changed: all that it keeps of the range and the
-- other side is right
pub record MayLeanAt (at_left : Bool) (n : Node) : Type 0 where
  pub lean : MayLean n
  pub highest : at_left ≡ true → n.span.highest ≡ end_after end_of_user_pages (ranges_under n)
  pub right_gap : at_left ≡ true → n.right_gap ≡ widest (end_of (range_in n)) n.right.ranges
  pub lowest : at_left ≡ false → n.span.lowest ≡ lowest (ranges_under n)
  pub left_gap : at_left ≡ false → n.left_gap
      ≡ widest end_of_user_pages (n.left.ranges ++ range_in n ∷ [])

-- what is kept of one tree is so of the other
pub record Alike (t u : TreeOf) : Type 0 where
  pub lowest : lowest u.ranges ≡ lowest t.ranges
  pub highest : end_after end_of_user_pages u.ranges ≡ end_after end_of_user_pages t.ranges
  pub gap : widest end_of_user_pages u.ranges ≡ widest end_of_user_pages t.ranges
  pub height : u.height ≡ t.height

-- what a tree became: it has these ranges and a height within these bounds, and where it is not
-- called changed, what is kept of it is the same
pub record Became (t u : TreeOf) (ranges : List Range) (least most : ℕ) (changed : Bool) :
    Type 0 where
  pub is : u.ranges ≡ ranges
  pub shaped : IsShaped u
  pub not_lower : least ≤ u.height
  pub not_higher : u.height ≤ most
  pub same : changed ≡ false → Alike t u

abbrev pub IsTree : Option (Box Node Global) → Type 0
IsTree None = Unit {0}
IsTree (Some b) = IsNode b.value (tree_of (Some b))
