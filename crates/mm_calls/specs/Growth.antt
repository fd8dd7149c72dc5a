-- Which probes make a stack grow, how often a stack grows, and when it cannot.
-- Profile, "Watched regions and stacks".
use Rattle.std.specs.Prelude.{◌≡◌, ◌⊎◌, ◌<◌, ℕ, ◌+◌, ◌-◌, Bool, true, false, not, ◌==◌, if◌then◌else◌, List, [], ◌∷◌, Option, Some, None, length, slice_get}
use Rattle.mm_types.specs.declared.views.Kind.TheVariants as kind
use Rattle.mm_world.specs.{WorldOf, ProcessOf, RegionOf, StackOf, Page, Numbered, filled, process_of, stack_by, charge, limit, Committed}
use Rattle.mm_world.specs.{committed_at, probe, is_overflow}
use Rattle.mm_world.specs.World.{World}

-- the guard page is one page lower
abbrev pub guard_lowered : StackOf → StackOf
guard_lowered s = record s { guard_page = s.guard_page - 1 }

-- the stack is there before and after, and its guard page is another
abbrev pub has_grown : Option StackOf → Option StackOf → Bool
has_grown None z = false
has_grown (Some s) None = false
has_grown (Some s) (Some z) = not (z.guard_page == s.guard_page)

-- the probe makes the stack of the thread grow
abbrev pub grows : {B : Type 0} → (ℕ → B) → WorldOf B → ℕ → ℕ → Bool
grows fill w tid addr = has_grown (stack_by w tid) (stack_by (probe fill w tid addr).world tid)

-- a probe of an address, in a world whose stacks do not matter
pub record ProbeIn : Type 0 where
  pub world : World
  pub addr : ℕ

-- its world, with these stacks
abbrev pub probed : Numbered StackOf → ProbeIn → World
probed stacks p = record p.world { stacks = stacks }

-- how many of these probes, one after another, make the stack of the thread grow: each in a world
-- of its own, with the stacks that the one before left
abbrev pub growths : Numbered StackOf → ℕ → List ProbeIn → ℕ
growths stacks tid [] = 0
growths stacks tid (p ∷ ps) =
    (if grows filled (probed stacks p) tid p.addr then 1 else 0) + growths
    (probe filled (probed stacks p) tid p.addr).world.stacks tid ps

-- no page is left to grow into, or no commitment
abbrev pub NothingLeft : World → ProcessOf Page → StackOf → Type 0
NothingLeft w p s =
    (s.guard_page - 1 ≡ s.base) ⊎
    ((committed_at w p.regions (s.guard_page - 1) ≡ None) × (charge w ≡ limit w))

-- the page is the guard page of the thread's stack, its guard is on, and nothing is left
pub record Overflows (w : World) (tid page : ℕ) : Type 0 where
  pub stack : StackOf
  pub has : stack_by w tid ≡ Some stack
  pub process : ProcessOf Page
  pub lives : process_of w stack.pid ≡ Some process
  pub committed : Committed Page
  pub there : committed_at w process.regions page ≡ Some committed
  pub on_guard_page : page ≡ stack.guard_page
  pub guard_on : committed.row.guard ≡ true
  pub nothing_left : NothingLeft w process stack

-- the page is the guard page of the stack, its guard is on, and something is left
pub record StackGrows (w : World) (s : StackOf) (page : ℕ) : Type 0 where
  pub process : ProcessOf Page
  pub lives : process_of w s.pid ≡ Some process
  pub committed : Committed Page
  pub there : committed_at w process.regions page ≡ Some committed
  pub on_guard_page : page ≡ s.guard_page
  pub guard_on : committed.row.guard ≡ true
  pub something_left : is_overflow w process s ≡ false

-- the stack begins where a private region of a living process does, and this region has its guard
-- page
pub record StackStandsIn (w : World) (s : StackOf) (p : ProcessOf Page) : Type 0 where
  pub lives : process_of w s.pid ≡ Some p
  pub place : ℕ
  pub region : RegionOf Page
  pub there : slice_get p.regions place ≡ Some region
  pub private : region.kind ≡ kind.Private
  pub based : region.base ≡ s.base
  pub above : s.base < s.guard_page
  pub within : s.guard_page < region.base + length region.rows
