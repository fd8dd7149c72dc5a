-- What the bound places show, each as a function of the place.
use Rattle.std.specs.Prelude.{ℕ, Bool, false, if◌then◌else◌, is_some, Option, Some, None}
use Rattle.std.specs.List.{sum_by}
use Rattle.std.specs.HashMap.{get, values}
use Rattle.mm_types.specs.{Key, Place, Range}
use Rattle.mm_types.specs.contracts.numbers.PlacePartialEq.TheImpl as place_equality
use Rattle.mm_world.specs.{Page}
use Rattle.mm_unpaged.specs.declared.places.BoundPlace.{BoundPlace}
use Rattle.mm_unpaged.specs.declared.places.Places.{Places}

abbrev pub place_eq : Place → Place → Bool
place_eq = (place_equality.ghosts).eq

abbrev pub found_in : Places → Place → Option BoundPlace
found_in places place = get place_eq places.map place

abbrev pub named_key : Option BoundPlace → Option Key
named_key None = None
named_key (Some place) = place.named

abbrev pub page_in_place : Option BoundPlace → Option Page
page_in_place None = None
page_in_place (Some place) = place.page

abbrev pub is_bound_in : Places → Place → Bool
is_bound_in places place = is_some (found_in places place)

abbrev pub names_in : Places → Place → Option Key
names_in places place = named_key (found_in places place)

abbrev pub pages_at : Places → Place → Option Page
pages_at places place = page_in_place (found_in places place)

-- how many pages there are
abbrev pub page_count : BoundPlace → ℕ
page_count place = if is_some place.page then 1 else 0

abbrev pub pages_in : Places → ℕ
pages_in places = sum_by page_count (values places.map)

-- this many pages, from one on
abbrev pub range_from : ℕ → ℕ → Range
range_from first count = record { first = first; count = count }

abbrev pub no_place : Place → Bool
no_place _ = false

abbrev pub no_name : Place → Option Key
no_name _ = None

abbrev pub no_page : Place → Option Page
no_page _ = None
