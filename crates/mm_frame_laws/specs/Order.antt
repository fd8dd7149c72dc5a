-- Which page goes first, as functions of a list of places, and as code goes through sets and
-- processes. Profile, "Which frame moves, and when".
use Rattle.std.specs.Prelude.{◌≡◌, ◌⊎◌, ◌<◌, ℕ, Bool, true, false, is_some, ◌||◌, ◌&&◌, not, ◌==◌, if◌then◌else◌, List, [], ◌∷◌, Option, Some, None}
use Rattle.mm_types.specs.{Frame, Place}
use Rattle.mm_move_rules.specs.{FrameLife, set_of, is_above_min, Ages, page_first, process_first, may_go, IsOldest}

-- of two pages of any processes
abbrev pub place_first : FrameLife → Ages → Place → Place → Bool
place_first l ages p q = process_first l p.pid.0 q.pid.0 ||
    ((p.pid.0 == q.pid.0) && page_first ages p q)

-- the same as a function of the places
abbrev pub earlier : FrameLife → Ages → Place → Option Place → Place
earlier l ages p None = p
earlier l ages p (Some q) = if place_first l ages q p then q else p

-- the first of the places that pass a test
abbrev pub first_that : FrameLife → Ages → (Place → Bool) → List Place → Option Place
first_that l ages test [] = None
first_that l ages test (p ∷ rest) =
    let later = first_that l ages test rest in
    if test p then Some (earlier l ages p later) else later

abbrev pub first_to_go : FrameLife → Ages → Option Frame → List Place → Option Place
first_to_go l ages pinned places = first_that l ages (may_go l pinned) places

-- a page of this process that may go
abbrev pub may_go_in : FrameLife → Option Frame → ℕ → Place → Bool
may_go_in l pinned pid place = (place.pid.0 == pid) && may_go l pinned place

abbrev pub first_to_go_in : FrameLife → Ages → Option Frame → ℕ → List Place → Option Place
first_to_go_in l ages pinned pid places = first_that l ages (may_go_in l pinned pid) places

-- ---- how a set is gone through, the oldest page first

-- the one goes before the other, in one process: the greater age, and among equal ages the lower
-- page
abbrev pub Sooner : Ages → Place → Place → Type 0
Sooner ages p q = (ages q < ages p) ⊎ ((ages p ≡ ages q) × (p.vpn.0 < q.vpn.0))

-- a page follows that page, if one is given
abbrev pub FollowsPage : Ages → Option Place → Place → Type 0
FollowsPage ages None q = Unit {0}
FollowsPage ages (Some p) q = Sooner ages p q

-- the page that goes next in its process after that page, if one is given
pub record IsNextPage (l : FrameLife) (ages : Ages) (after : Option Place) (place : Place) :
    Type 0 where
  pub valid : is_some (l.valid place) ≡ true
  pub follows : FollowsPage ages after place
  pub first : (q : Place) → q.pid.0 ≡ place.pid.0 → is_some (l.valid q) ≡ true →
      FollowsPage ages after q → (q ≡ place) ⊎ Sooner ages place q

-- each page of the process that may go follows that page, if one is given
abbrev pub PassedTo : FrameLife → Ages → Option Frame → ℕ → Option Place → Type 0
PassedTo l ages pinned pid after = (q : Place) → q.pid.0 ≡ pid → may_go l pinned q ≡ true →
    FollowsPage ages after q

-- no page of the process follows it
abbrev pub NoPageFollows : FrameLife → Ages → ℕ → Option Place → Type 0
NoPageFollows l ages pid after = (q : Place) → q.pid.0 ≡ pid → is_some (l.valid q) ≡ true →
    FollowsPage ages after q → ⊥

-- ---- how processes are gone through, the lowest pid first

-- of the processes below a pid none holds a page that may go; or it is the first of theirs
pub record IsBest (l : FrameLife) (ages : Ages) (pinned : Option Frame) (below : ℕ)
    (place : Place) : Type 0 where
  pub oldest : IsOldest l ages pinned place
  pub low : place.pid.0 < below
  pub process : (q : Place) → q.pid.0 < below → may_go l pinned q ≡ true →
      process_first l q.pid.0 place.pid.0 ≡ false

abbrev pub BestBelow : FrameLife → Ages → Option Frame → ℕ → Option Place → Type 0
BestBelow l ages pinned below None = (q : Place) → q.pid.0 < below → may_go l pinned q ≡ false
BestBelow l ages pinned below (Some v) = IsBest l ages pinned below v

-- a later process goes first only where it is above its minimum and the best so far is not
abbrev pub takes_over : FrameLife → ℕ → Option Place → Bool
takes_over l pid None = true
takes_over l pid (Some v) = is_above_min (set_of l pid) && not (is_above_min (set_of l v.pid.0))
