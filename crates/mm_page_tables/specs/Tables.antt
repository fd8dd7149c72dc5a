-- Processes by their pids, and the key beside the tables.
use Rattle.std.specs.Prelude.{◌≡◌, ℕ, zero, suc, Bool, true, false, List, Option, Some, None, slice_get}
use Rattle.mm_types.specs.{Place}
use Rattle.mm_page_tables.specs.declared.layout.Entry.{Entry}
use Rattle.mm_page_tables.specs.declared.layout.Entry.TheVariants as entry
use Rattle.mm_page_tables.specs.declared.aside.Aside.{Aside}
use Rattle.mm_page_tables.specs.declared.processes.Process.{Process}
use Rattle.mm_page_tables.specs.Changes.{bound_of, at_of, age_of}

abbrev pub process_in : List Process → ℕ → Option Process
process_in ps zero = None
process_in ps (suc k) = slice_get ps k

abbrev pub read_or : {A : Type 0} → (Process → A) → A → Option Process → A
read_or read none None = none
read_or read none (Some p) = read p

abbrev pub bound_in : List Process → Place → Bool
bound_in ps place = read_or (λ p. bound_of p place.vpn.0) false (process_in ps place.pid.0)

abbrev pub at_in : List Process → Place → Entry
at_in ps place = read_or (λ p. at_of p place.vpn.0) entry.Empty (process_in ps place.pid.0)

abbrev pub age_of_place : List Process → Place → Option ℕ
age_of_place ps place = read_or (λ p. age_of p place.vpn.0) None (process_in ps place.pid.0)

abbrev pub is_open_in : List Process → ℕ → Bool
is_open_in ps pid = read_or (λ p. p.is_open) false (process_in ps pid)

-- the key beside the tables is that of a bound place
abbrev pub AsideBound : List Process → Option Aside → Type 0
AsideBound ps aside = (a : Aside) → aside ≡ Some a → bound_in ps a.place ≡ true
