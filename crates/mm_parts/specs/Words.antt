-- What the parts keep of words, beside what follows from the replay's state.
use Rattle.std.specs.Prelude.{◌≡◌, ◌≢◌, ◌≤◌, ℕ, Bool, true, false, Some}
use Rattle.mm_types.specs.{Area, Block, Frame, Key, Place}
use Rattle.mm_move_rules.specs.{FrameTable, record_at}
use Rattle.mm_page_tables.specs.{Entry, Aside, WordsOf, key_entry}
use Rattle.mm_page_tables.specs.declared.layout.Entry.TheVariants as entry

-- an entry that a private key can have beside the tables
abbrev pub is_aside_entry : Entry → Bool
is_aside_entry entry.Empty = false
is_aside_entry entry.Zero = true
is_aside_entry (entry.Paged s) = true
is_aside_entry (entry.InFile b) = false
is_aside_entry (entry.Transition f) = true
is_aside_entry (entry.Valid f n) = false
is_aside_entry (entry.Proto a i) = false

-- the entry of a place that is valid for a page or names a shared one
abbrev pub names_other : Entry → Bool
names_other entry.Empty = false
names_other entry.Zero = false
names_other (entry.Paged s) = false
names_other (entry.InFile b) = false
names_other (entry.Transition f) = false
names_other (entry.Valid f n) = true
names_other (entry.Proto a i) = true

pub record WordsKept (d : FrameTable) (w : WordsOf) : Type 0 where
  pub transition : (k : Key) (f : Frame) → key_entry w k ≡ entry.Transition f →
      (record_at d f.0).shares ≡ 0
  pub valid_shared : (a : Area) (i : ℕ) (f : Frame) (n : ℕ) → w.proto a.0 i ≡ entry.Valid f n →
      (1 ≤ (record_at d f.0).shares) × (n ≡ 0)
  pub no_file : (p : Place) (b : Block) → w.at p ≢ entry.InFile b
  pub no_proto : (a i : ℕ) (b : Area) (j : ℕ) → w.proto a i ≢ entry.Proto b j
  pub beside : (x : Aside) → w.aside ≡ Some x → is_aside_entry x.entry ≡ true
  pub beside_bound : (x : Aside) → w.aside ≡ Some x → w.bound x.place ≡ true
  pub beside_other : (x : Aside) → w.aside ≡ Some x → names_other (w.at x.place) ≡ true
