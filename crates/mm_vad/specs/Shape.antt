-- What a tree of ranges is seen as, and how high it is.
use Rattle.std.specs.Prelude.{◌≡◌, ℕ, ◌+◌, ◌*◌, ◌^◌, ◌≤◌, max, List, [], ◌∷◌, ◌++◌, length}
use Rattle.mm_types.specs.{Range, end_of, end_of_user_pages}
use Rattle.mm_vad.specs.Room.{end_after}
use Rattle.mm_vad.specs.Visits.{repeated}

-- the ranges in order, and the height
pub record TreeOf : Type 0 where
  pub ranges : List Range
  pub height : ℕ

-- the last range ends with the user pages; the tree is low beside the number of its ranges
pub record IsShaped (t : TreeOf) : Type 0 where
  pub within : end_after end_of_user_pages t.ranges ≤ end_of_user_pages
  pub bare : t.height ≡ 0 → t.ranges ≡ []
  pub low : t.height ≤ length t.ranges
  pub full : 2 ^ t.height ≤ (length t.ranges + 1) * (length t.ranges + 1)

-- neither height is more than this above the other
abbrev pub DifferByAtMost : ℕ → ℕ → ℕ → Type 0
DifferByAtMost by a b = (a ≤ b + by) × (b ≤ a + by)

-- the tree is a range between two trees that are about as high
pub record IsFork (t l : TreeOf) (r : Range) (u : TreeOf) : Type 0 where
  pub ranges : t.ranges ≡ l.ranges ++ r ∷ u.ranges
  pub height : t.height ≡ max l.height u.height + 1
  pub near : DifferByAtMost 1 l.height u.height

-- a tree of these ranges, as high as the higher of two sides or one higher, and just so where they
-- were near
pub record IsBalanced (t : TreeOf) (ranges : List Range) (l u : ℕ) : Type 0 where
  pub is : t.ranges ≡ ranges
  pub least : max l u ≤ t.height
  pub most : t.height ≤ max l u + 1
  pub near : DifferByAtMost 1 l u → t.height ≡ max l u + 1

-- two trees and a range between them became two that are about as high, with the same ranges
pub record IsTurned (l : TreeOf) (r : Range) (u l' : TreeOf) (r' : Range) (u' : TreeOf) :
    Type 0 where
  pub ranges : l'.ranges ++ r' ∷ u'.ranges ≡ l.ranges ++ r ∷ u.ranges
  pub within : end_of r' ≤ end_of_user_pages
  pub about : DifferByAtMost 1 l'.height u'.height
  pub least : max l.height u.height ≤ max l'.height u'.height + 1
  pub most : max l'.height u'.height ≤ max l.height u.height
  pub near : DifferByAtMost 1 l.height u.height → max l'.height u'.height ≡ max l.height u.height

-- between the two states of a ledger at most so many nodes were visited
pub record VisitsAtMost {A : Type 0} (stepped : A → A) (before after : A) (most : ℕ) : Type 0 where
  pub visited : ℕ
  pub counted : after ≡ repeated stepped visited before
  pub few : visited ≤ most
