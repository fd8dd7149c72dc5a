-- What a process shows, and how it changes.
use Rattle.std.specs.Prelude.{◌≡◌, ℕ, Bool, false, is_some, ◌==◌, if◌then◌else◌, Option}
use Rattle.std.specs.FinMap as finite
use Rattle.mm_types.specs.{Range, holds_page}
use Rattle.mm_move_rules.specs.{ResidentSet, changed}
use Rattle.mm_working_sets.specs.{WorkingSetOf}
use Rattle.mm_page_tables.specs.declared.layout.Entry.{Entry}
use Rattle.mm_page_tables.specs.Entries.{entry_or}
use Rattle.mm_page_tables.specs.Words.{bare}
use Rattle.mm_page_tables.specs.declared.processes.Process.{Process}

abbrev pub bound_of : Process → ℕ → Bool
bound_of p page = is_some (finite.get p.table page)

abbrev pub at_of : Process → ℕ → Entry
at_of p page = bare (entry_or (finite.get p.table page))

abbrev pub age_of : Process → ℕ → Option ℕ
age_of p page = finite.get p.set.ages page

abbrev pub resident_by_numbers : ℕ → ℕ → ℕ → ResidentSet
resident_by_numbers min max n = record { min = min; max = max; resident = n }

abbrev pub resident_set : WorkingSetOf → ResidentSet
resident_set s = resident_by_numbers s.min s.max (finite.len s.places)

abbrev pub resident_of : Process → ResidentSet
resident_of p = resident_set p.set

-- one page has another entry now
pub record EntryBecomes (old new : Process) (page : ℕ) (e : Entry) : Type 0 where
  pub at : (q : ℕ) → at_of new q ≡ changed ◌==◌ (at_of old) page e q
  pub bound : (q : ℕ) → bound_of new q ≡ bound_of old q
  pub opened : new.is_open ≡ old.is_open

-- the pages of a range are bound now, or not
pub record Rebinds (old new : Process) (r : Range) (b : Bool) : Type 0 where
  pub bound : (q : ℕ) → bound_of new q ≡ (if holds_page r q then b else bound_of old q)
  pub set : new.set ≡ old.set
  pub opened : new.is_open ≡ old.is_open

-- a closed process without a page
pub record ProcessBegins (p : Process) (min max : ℕ) : Type 0 where
  pub table : p.table ≡ finite.empty
  pub set : p.set ≡ record {
    min = min;
    max = max;
    reserved = false;
    ages = finite.empty;
    places = finite.empty;
  }
  pub opened : p.is_open ≡ false

-- nothing of a process changed but whether it is open
pub record KeepsPages (old new : Process) : Type 0 where
  pub table : new.table ≡ old.table
  pub ages : new.set.ages ≡ old.set.ages
  pub resident : resident_of new ≡ resident_of old
