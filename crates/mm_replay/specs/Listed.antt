-- The list that each frame is on, by its record: no frame is loose.
use Rattle.std.specs.Prelude.{◌≡◌, ◌≢◌, ℕ, zero, suc, ◌<◌, nat_lt, not, Bool, true, ◌&&◌, ◌||◌, ◌==◌, if◌then◌else◌, is_some, List, [], ◌∷◌, ◌++◌, length, replicate, Option, Some, None, slice_index_or}
use Rattle.mm_types.specs.{Record}
use Rattle.mm_move_rules.specs.{FrameTable, blank, is_idle, is_read, rest}
use Rattle.mm_page_lists.specs.{ListsOf, AreApart, IsOnNone, list_at, number_at}

-- zeroed, free, standby, modified are lists 0 to 3; one of them alone has numbers, or none has
abbrev pub free_alone : List ℕ → List (List ℕ)
free_alone xs = [] ∷ xs ∷ [] ∷ [] ∷ []

-- so many lists over no numbers
abbrev pub no_lists : ℕ → ListsOf
no_lists count = record { numbers = 0; lists = replicate count [] }

abbrev pub lists_or_empty : ℕ → Option ListsOf → ListsOf
lists_or_empty count None = no_lists count
lists_or_empty count (Some v) = v

pub record AreLists (count : ℕ) (v : ListsOf) : Type 0 where
  pub counted : length v.lists ≡ count
  pub apart : AreApart v

abbrev pub table_from_lists : List Record → ListsOf → FrameTable
table_from_lists records v = record {
  records = records;
  zeroed = list_at v.lists 0;
  free = list_at v.lists 1;
  standby = list_at v.lists 2;
  modified = list_at v.lists 3;
}

-- the first of a list leaves it
abbrev pub first_taken : FrameTable → ℕ → FrameTable
first_taken d zero = record d { zeroed = rest d.zeroed }
first_taken d (suc zero) = record d { free = rest d.free }
first_taken d (suc (suc zero)) = record d { standby = rest d.standby }
first_taken d (suc (suc (suc j))) = record d { modified = rest d.modified }

-- a frame goes to the end of a list
abbrev pub put_behind : FrameTable → ℕ → ℕ → FrameTable
put_behind d zero f = record d { zeroed = d.zeroed ++ f ∷ [] }
put_behind d (suc zero) f = record d { free = d.free ++ f ∷ [] }
put_behind d (suc (suc zero)) f = record d { standby = d.standby ++ f ∷ [] }
put_behind d (suc (suc (suc j))) f = record d { modified = d.modified ++ f ∷ [] }

abbrev pub record_of : List Record → ℕ → Record
record_of records f = slice_index_or records f blank

-- an idle frame without an owner is zeroed or free, one with an owner on modified where it is
-- changed, else on standby
abbrev pub belongs : Record → ℕ → Bool
belongs r j = is_idle r &&
    (if is_some r.owner then (j == (if r.changed then 3 else 2)) else nat_lt j 2)

-- an idle frame of a changed page
abbrev pub is_changed_page : Record → Bool
is_changed_page r = (is_some r.owner && is_idle r) && r.changed

-- a frame without an owner has no shares, and none that is being read
abbrev pub is_owned : Record → Bool
is_owned r = (is_some r.owner && not (is_read r.request)) || (r.shares == 0)

-- each idle frame is on the list where it belongs, no other frame is on one, and none is on two
pub record Kept (records : List Record) (v : ListsOf) : Type 0 where
  pub numbers : v.numbers ≡ length records
  pub lists : AreLists 4 v
  pub listed : (j k f : ℕ) → number_at v.lists j k ≡ Some f → belongs (record_of records f) j ≡ true
  pub there : (f : ℕ) → f < length records → is_idle (record_of records f) ≡ true → (j k : ℕ) ×
      (number_at v.lists j k ≡ Some f)
  pub owned : (f : ℕ) → is_owned (record_of records f) ≡ true

-- the same of all frames but one, which is on no list
pub record Off (records : List Record) (v : ListsOf) (f : ℕ) : Type 0 where
  pub numbers : v.numbers ≡ length records
  pub lists : AreLists 4 v
  pub low : f < length records
  pub off : IsOnNone v.lists f
  pub listed : (j k g : ℕ) → number_at v.lists j k ≡ Some g → belongs (record_of records g) j ≡ true
  pub there : (g : ℕ) → g ≢ f → g < length records → is_idle (record_of records g) ≡ true →
      (j k : ℕ) × (number_at v.lists j k ≡ Some g)
  pub owned : (g : ℕ) → g ≢ f → is_owned (record_of records g) ≡ true
