-- What the words of places and keys say, as entries.
use Rattle.std.specs.Prelude.{ℕ, ◌+◌, ◌-◌, Bool, true, false, not, ◌&&◌, ◌==◌, nat_lt, if◌then◌else◌, List, Option, Some, None, unwrap_or, option_map}
use Rattle.mm_types.specs.{Range, holds_page, Frame, Pid, Vpn, Key, Place}
use Rattle.mm_types.specs.declared.numbers.Key.TheVariants.{Private, Shared}
use Rattle.mm_move_rules.specs.{ResidentSet, changed, same_place, with_resident}
use Rattle.mm_page_tables.specs.declared.layout.Entry.{Entry}
use Rattle.mm_page_tables.specs.declared.layout.Entry.TheVariants as entry
use Rattle.mm_page_tables.specs.declared.aside.Aside.{Aside}

-- The entry of each place, of each index of an open area (`Empty` elsewhere), and of the one
-- private key whose entry stands beside the tables; the working sets of pid 1, 2, .. A valid
-- entry's place in its working set is not told: it reads as 0.
pub record WordsOf : Type 0 where
  pub bound : Place → Bool
  -- of each pid whether its process is open
  pub is_open : ℕ → Bool
  pub at : Place → Entry
  pub sizes : ℕ → Option ℕ
  pub proto : ℕ → ℕ → Entry
  pub aside : Option Aside
  pub sets : List ResidentSet

abbrev pub place_from : Pid → Vpn → Place
place_from p v = record { pid = p; vpn = v }

-- the place's private key is the one beside the tables
abbrev pub is_aside : Option Aside → Place → Bool
is_aside None place = false
is_aside (Some a) place = same_place place a.place

abbrev pub aside_or : Option Aside → Place → Entry → Entry
aside_or None place e = e
aside_or (Some a) place e = if same_place place a.place then a.entry else e

-- the entry of a private key, by its place
abbrev pub own_word : WordsOf → Place → Entry
own_word w place = aside_or w.aside place (w.at place)

-- the one entry of a key
abbrev pub key_entry : WordsOf → Key → Entry
key_entry w (Private p v) = own_word w (place_from p v)
key_entry w (Shared a i) = w.proto a.0 i

-- ---- entries

abbrev pub is_valid_entry : Entry → Bool
is_valid_entry entry.Empty = false
is_valid_entry entry.Zero = false
is_valid_entry (entry.Paged s) = false
is_valid_entry (entry.InFile b) = false
is_valid_entry (entry.Transition f) = false
is_valid_entry (entry.Valid f n) = true
is_valid_entry (entry.Proto a i) = false

-- the frame of a valid entry
abbrev pub valid_frame : Entry → Option Frame
valid_frame entry.Empty = None
valid_frame entry.Zero = None
valid_frame (entry.Paged s) = None
valid_frame (entry.InFile b) = None
valid_frame (entry.Transition f) = None
valid_frame (entry.Valid f n) = Some f
valid_frame (entry.Proto a i) = None

-- without the place in a working set
abbrev pub bare : Entry → Entry
bare entry.Empty = entry.Empty
bare entry.Zero = entry.Zero
bare (entry.Paged s) = entry.Paged s
bare (entry.InFile b) = entry.InFile b
bare (entry.Transition f) = entry.Transition f
bare (entry.Valid f n) = entry.Valid f 0
bare (entry.Proto a i) = entry.Proto a i

abbrev pub is_there : Entry → Bool
is_there entry.Empty = false
is_there entry.Zero = true
is_there (entry.Paged s) = true
is_there (entry.InFile b) = true
is_there (entry.Transition f) = true
is_there (entry.Valid f n) = true
is_there (entry.Proto a i) = true

-- the key has a word: its place is bound, or its index is one of an open area
abbrev pub has_word : WordsOf → Key → Bool
has_word w (Private p v) = w.bound (place_from p v)
has_word w (Shared a i) = unwrap_or (option_map (λ n. nat_lt i n) (w.sizes a.0)) false

-- ---- changes

-- a function of places changed at the pages of a range, of one pid
abbrev pub changed_in : {A : Type 0} → (Place → A) → ℕ → Range → A → Place → A
changed_in f pid r a place = if (place.pid.0 == pid) && holds_page r place.vpn.0 then a else f place

-- a function of two numbers changed at one pair
abbrev pub changed_at : (ℕ → ℕ → Entry) → ℕ → ℕ → Entry → ℕ → ℕ → Entry
changed_at f a i e b j = if (b == a) && (j == i) then e else f b j

abbrev pub with_own : Bool → WordsOf → Place → Entry → WordsOf
with_own true w place e = record w { aside = Some (record { place = place; entry = e }) }
with_own false w place e = record w { at = changed same_place w.at place e }

-- the entry of a key is this one now
abbrev pub with_entry : WordsOf → Key → Entry → WordsOf
with_entry w (Private p v) e = with_own (is_aside w.aside (place_from p v)) w (place_from p v) e
with_entry w (Shared a i) e = record w { proto = changed_at w.proto a.0 i e }

-- no entry of a place becomes valid by that, nor ceases to be
abbrev pub keeps_places : WordsOf → Key → Entry → Bool
keeps_places w (Private p v) e = not (is_valid_entry e) &&
    not (is_valid_entry (own_word w (place_from p v)))
keeps_places w (Shared a i) e = true

-- a private key's entry is put beside the tables
abbrev pub with_aside : WordsOf → Place → Entry → WordsOf
with_aside w place e = record w { aside = Some (record { place = place; entry = e }) }

abbrev pub without_aside : Option Aside → Place → Option Aside
without_aside None place = None
without_aside (Some a) place = if same_place place a.place then None else Some a

-- the place is valid for a frame now; its key's entry is in the table from then on
abbrev pub made_valid : WordsOf → Place → Frame → WordsOf
made_valid w place f = record w {
  at = changed same_place w.at place (entry.Valid f 0);
  aside = without_aside w.aside place;
  sets = with_resident w.sets place.pid.0 (λ n. n + 1);
}

-- the place is valid no more, and has this entry
abbrev pub made_invalid : WordsOf → Place → Entry → WordsOf
made_invalid w place e = record w {
  at = changed same_place w.at place e;
  sets = with_resident w.sets place.pid.0 (λ n. n - 1);
}
