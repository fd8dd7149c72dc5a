-- Each frame is on one list, active, in transition or in one token in hand.
-- Profile, "Logs of moves".
use Rattle.std.specs.Prelude.{cond, ◌≡◌, ◌≢◌, ℕ, ◌+◌, ◌<◌, ◌^◌, Bool, true, false, ◌&&◌, ◌||◌, ◌==◌, if◌then◌else◌, is_some, filter, map, List, [], ◌∷◌, ◌++◌, length, Option, Some, None, slice_index_or, slice_set}
use Rattle.mm_types.specs.{Record}
use Rattle.mm_move_rules.specs.{FrameTable, blank, record_at, is_idle, has_request, is_read, is_on, settled_by, with_record, is_active, is_in_transition}
use Rattle.mm_page_lists.specs.{ListsOf, AreApart, list_at, number_at, with_list, without}
use Rattle.mm_ram.specs.{page_at, zero_page}
use Rattle.mm_pfn_database.specs.declared.standing.Standing.{Standing}
use Rattle.mm_pfn_database.specs.declared.standing.Standing.TheVariants.{Zeroed, Free, Bound, Cleared, Taken}
use Rattle.mm_pfn_database.specs.Base.{FramesOf, standing_at, has_block, is_modified_with_block}

-- the list that a frame is on: zeroed, free, standby, modified are lists 0 to 3
abbrev pub list_for : Standing → Record → Option ℕ
list_for Zeroed r = Some 0
list_for Free r = Some 1
list_for Bound r = if is_idle r then Some (if r.changed then 3 else 2) else None
list_for Cleared r = None
list_for Taken r = None

abbrev pub table_of : List Record → List (List ℕ) → FrameTable
table_of records lists = record {
  records = records;
  zeroed = list_at lists 0;
  free = list_at lists 1;
  standby = list_at lists 2;
  modified = list_at lists 3;
}

-- a bound frame has an owner, or a request and no shares
abbrev pub is_kept : Record → Bool
is_kept r = is_some r.owner || (has_request r.request && (r.shares == 0))

-- a frame holds a page, or a request holds it
abbrev pub is_bound : Record → Bool
is_bound r = is_some r.owner || has_request r.request

abbrev pub is_zero : Standing → Bool
is_zero Zeroed = true
is_zero Free = false
is_zero Bound = false
is_zero Cleared = true
is_zero Taken = false

-- each frame is on the list that it stands on, and on no other
pub record AreListed (records : List Record) (standing : List Standing) (lists : List (List ℕ)) :
    Type 0 where
  pub held : (j k f : ℕ) → number_at lists j k ≡ Some f →
      list_for (standing_at standing f) (slice_index_or records f blank) ≡ Some j
  pub there : (f j : ℕ) → f < length records →
      list_for (standing_at standing f) (slice_index_or records f blank) ≡ Some j → (k : ℕ) ×
      (number_at lists j k ≡ Some f)

-- what a frame holds, by where it stands
pub record Holds (standing : Standing) (r : Record) (page : Option (List ℕ)) : Type 0 where
  pub empty : standing ≢ Bound → r ≡ blank
  pub kept : standing ≡ Bound → is_kept r ≡ true
  pub zero : is_zero standing ≡ true → page ≡ Some zero_page
  pub written : standing ≡ Bound → is_read r.request ≡ false → is_some page ≡ true

pub record AreFrames (records : List Record) (standing : List Standing) (lists : ListsOf)
    (bytes : List (Option (List ℕ))) : Type 0 where
  pub small : length records < 2 ^ 32
  pub standings : length standing ≡ length records
  pub pages : length bytes ≡ length records
  pub numbers : lists.numbers ≡ length records
  pub four : length lists.lists ≡ 4
  pub apart : AreApart lists
  pub listed : AreListed records standing lists.lists
  pub holds : (f : ℕ) → f < length records →
      Holds (standing_at standing f) (slice_index_or records f blank) (page_at bytes f)

-- of these frames those whose page has a block
abbrev pub backed_in : List Record → List ℕ → List ℕ
backed_in records xs = filter (λ f. has_block (slice_index_or records f blank).backing) xs

abbrev pub backed_list : List Record → List ℕ → ListsOf
backed_list records xs = record { numbers = length records; lists = backed_in records xs ∷ [] }

-- a second list has the modified frames whose page has a block
pub record AreBacked (records : List Record) (lists : List (List ℕ)) (with_block : ListsOf) :
    Type 0 where
  pub apart : AreApart with_block
  pub same : with_block ≡ backed_list records (list_at lists 3)

pub record AreKept (records : List Record) (standing : List Standing) (lists with_block : ListsOf)
    (bytes : List (Option (List ℕ))) : Type 0 where
  pub placed : AreFrames records standing lists bytes
  pub backed : AreBacked records lists.lists with_block

-- four lists, with numbers on the second alone
abbrev pub free_only : List ℕ → List (List ℕ)
free_only xs = [] ∷ xs ∷ [] ∷ [] ∷ []

-- ---- what the type keeps, in what contracts see

abbrev pub lists_of : FrameTable → List (List ℕ)
lists_of d = d.zeroed ∷ d.free ∷ d.standby ∷ d.modified ∷ []

abbrev pub ArePlaced : FramesOf → Type 0
ArePlaced v = AreFrames v.table.records v.standing (record {
  numbers = length v.table.records;
  lists = lists_of v.table;
}) v.bytes

-- ---- a frame comes to stand elsewhere

-- a number leaves its list, and goes to the end of this one, if any
abbrev pub pushed_on : Option ℕ → ListsOf → ℕ → ListsOf
pushed_on None v f = v
pushed_on (Some i) v f = with_list v i (list_at v.lists i ++ f ∷ [])

abbrev pub relisted : Option ℕ → ListsOf → ℕ → ListsOf
relisted to v f = pushed_on to (record v { lists = map (without f) v.lists }) f

-- the second list that a frame with this record is on
abbrev pub second_for : Record → Option ℕ
second_for r = if is_modified_with_block r then Some 0 else None

abbrev pub off_all : FrameTable → ℕ → FrameTable
off_all d f = record d {
  zeroed = without f d.zeroed;
  free = without f d.free;
  standby = without f d.standby;
  modified = without f d.modified;
}

-- a frame with this record goes to the end of the list that it stands on now, if any
abbrev pub joined : Standing → Record → FrameTable → ℕ → FrameTable
joined Zeroed r d f = record d { zeroed = d.zeroed ++ f ∷ [] }
joined Free r d f = record d { free = d.free ++ f ∷ [] }
joined Bound r d f = settled_by r d f
joined Cleared r d f = d
joined Taken r d f = d

abbrev pub stood : FramesOf → ℕ → Record → Standing → FramesOf
stood v f r s = record v {
  table = joined s r (with_record (off_all v.table f) f r) f;
  standing = slice_set v.standing f s;
}

-- what the type keeps lets this frame stand there with this record
pub record CanStand (v : FramesOf) (f : ℕ) (r : Record) (s : Standing) : Type 0 where
  pub there : f < length v.table.records
  pub holds : Holds s r (page_at v.bytes f)

abbrev pub is_in_hand : Standing → Bool
is_in_hand Zeroed = false
is_in_hand Free = false
is_in_hand Bound = false
is_in_hand Cleared = true
is_in_hand Taken = true

abbrev pub one_if : Bool → ℕ
one_if b = cond b 1 0

-- on how many of the four lists, active, in transition and in hand the frame is
abbrev pub places : FramesOf → ℕ → ℕ
places v f =
    one_if (is_on f v.table.zeroed) + one_if (is_on f v.table.free) + one_if
    (is_on f v.table.standby) + one_if (is_on f v.table.modified)
    + one_if (is_active (record_at v.table f)) + one_if (is_in_transition (record_at v.table f)) +
    one_if (is_in_hand (standing_at v.standing f))

-- a page that no valid entry and no request holds, changed or not
pub record IsAtRest (changed_page : Bool) (r : Record) : Type 0 where
  pub owned : is_some r.owner ≡ true
  pub unshared : r.shares ≡ 0
  pub no_request : has_request r.request ≡ false
  pub same : r.changed ≡ changed_page
