-- What a query of a page tells at once.
-- Profile, "Answers".
use Rattle.std.specs.Prelude.{◌≡◌, ℕ, List, Some}
use Rattle.mm_types.specs.{QueryInfo, View}
use Rattle.mm_types.specs.declared.views.Kind.TheVariants as kind
use Rattle.mm_world.specs.{RegionOf, Found, region_with}
use Rattle.mm_address_spaces.specs.declared.queries.PageInfo.{PageInfo}
use Rattle.mm_address_spaces.specs.declared.queries.PageInfo.TheVariants as page

abbrev pub IfTold : PageInfo → (QueryInfo → Type 0) → Type 0
IfTold (page.Told info) P = P info
IfTold (page.InView view) P = Unit {0}

abbrev pub IfInView : PageInfo → (View → Type 0) → Type 0
IfInView (page.Told info) P = Unit {0}
IfInView (page.InView view) P = P view

-- the page lies in a view, and in this one
pub record LiesInView (regions : List (RegionOf (Unit {0}))) (n : ℕ) (view : View) : Type 0 where
  pub region : Found (RegionOf (Unit {0}))
  pub there : region_with regions n ≡ Some region
  pub kind_is : region.thing.kind ≡ kind.View view
