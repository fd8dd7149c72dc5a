-- The frames with a request, as a list over the frames.
use Rattle.std.specs.Prelude.{◌≡◌, ℕ, Bool, true, false, List, length, Some, slice_get, slice_index_or}
use Rattle.mm_page_lists.specs.{ListsOf, IsOnOne, list_at}
use Rattle.mm_replay.specs.Listed.{AreLists}

-- the number of frames, and those with a request, oldest first
pub record InFlightOf : Type 0 where
  pub frames : ℕ
  pub requests : List ℕ

abbrev pub flight_of : ListsOf → InFlightOf
flight_of v = record { frames = v.numbers; requests = list_at v.lists 0 }

-- the flags are those of the frames on the list
pub record AreFlagged (v : ListsOf) (flags : List Bool) : Type 0 where
  pub lists : AreLists 1 v
  pub sized : length flags ≡ v.numbers
  pub there : (f : ℕ) → slice_index_or flags f false ≡ true → IsOnOne v.lists f
  pub flagged : (k f : ℕ) → slice_get (list_at v.lists 0) k ≡ Some f →
      slice_index_or flags f false ≡ true
