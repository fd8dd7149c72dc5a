-- What is asked of pages that are to get another protection.
-- Profile, "Calls".
use Rattle.std.specs.Prelude.{◌≡◌, true, List, Some}
use Rattle.mm_types.specs.{Range}
use Rattle.mm_world.specs.{WorldOf, RegionOf, Found, region_around, is_private, protection_at, every_page, is_committed_at}
use Rattle.mm_address_spaces.specs.declared.queries.ProtectInfo.{ProtectInfo}

pub record IsAsked (regions : List (RegionOf (Unit {0}))) (range : Range) (asked : ProtectInfo) :
    Type 0 where
  pub region : Found (RegionOf (Unit {0}))
  pub around : region_around regions range ≡ Some region
  pub kind : region.thing.kind ≡ asked.kind
  pub committed : is_private region.thing.kind ≡ true → (w : WorldOf (Unit {0})) →
      asked.owned ≡ every_page (is_committed_at w region.thing) range
  pub before : asked.before ≡ protection_at region.thing range.first
