-- What is told of the pages of a view, whose control area has these pages.
-- Profile, "Answers".
use Rattle.std.specs.Prelude.{ℕ, ◌+◌, Bool, is_some, List, [], ◌∷◌, map}
use Rattle.mm_types.specs.{View}
use Rattle.mm_types.specs.declared.views.Kind.TheVariants as kind
use Rattle.mm_vad.specs.{Row}
use Rattle.mm_world.specs.{AreaOf, RowOf, numbered, PageState, row_state}
use Rattle.mm_address_spaces.specs.Shown.{shown_row}
use Rattle.mm_address_spaces.specs.declared.queries.ToldState.{ToldState}

-- whether the page of a view is committed: the area's page with the view's first index and the
-- page's own is
abbrev pub is_area_page : AreaOf (Unit {0}) → View → ℕ → Bool
is_area_page a v i = is_some (numbered a.pages (v.first + i))

abbrev pub view_state : AreaOf (Unit {0}) → View → ℕ → RowOf (Unit {0}) → PageState
view_state a v i row = row_state (is_area_page a v i) row

-- of each page, the first of which has this index
abbrev pub view_states : AreaOf (Unit {0}) → View → ℕ → List (RowOf (Unit {0})) → List PageState
view_states a v i [] = []
view_states a v i (row ∷ rows) = view_state a v i row ∷ view_states a v (i + 1) rows

-- the same of the rows that are kept
abbrev pub states_in : AreaOf (Unit {0}) → View → List Row → List PageState
states_in a v rows = view_states a v 0 (map (shown_row (kind.View v)) rows)

abbrev pub state_told : ToldState → PageState
state_told s = record { state = s.state; prot = s.prot }
