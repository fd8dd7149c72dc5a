-- What the steps of a new stack begin with.
-- Profile, "Watched regions and stacks".
use Rattle.std.specs.Prelude.{◌≡◌, ℕ, false, Some, slice_get}
use Rattle.mm_types.specs.declared.views.Kind.TheVariants as kind
use Rattle.mm_types.specs.{Range, reserve_type, readwrite}
use Rattle.mm_world.specs.{RegionOf, ProcessOf, Found, process_of, region_around, private_region, Tables, blank}
use Rattle.mm_address_spaces.specs.{owned_in}

-- a region of which no page is committed
abbrev pub reserved_region : Range → RegionOf (Unit {0})
reserved_region range = private_region blank false reserve_type readwrite range

-- these are the pages of such a region of a living process
pub record IsReserved (t : Tables) (pid : ℕ) (range : Range) : Type 0 where
  pub process : ProcessOf (Unit {0})
  pub place : ℕ
  pub lives : process_of t pid ≡ Some process
  pub there : slice_get process.regions place ≡ Some (reserved_region range)

-- these pages lie in a private region of a living process, and none of them is committed
pub record IsUncommitted (t : Tables) (pid : ℕ) (range : Range) : Type 0 where
  pub process : ProcessOf (Unit {0})
  pub region : Found (RegionOf (Unit {0}))
  pub lives : process_of t pid ≡ Some process
  pub around : region_around process.regions range ≡ Some region
  pub private : region.thing.kind ≡ kind.Private
  pub none : owned_in process.regions range ≡ 0
