-- What each process keeps, told of places and pids.
use Rattle.std.proofs.Common.{◌≡◌, ℕ, zero, suc, ◌≤◌, Bool, true, false, List, [], ◌∷◌, map, Option, Some, None, refl, sym, ap, ◌∙◌, arith}
use Rattle.std.specs.Prelude.{is_some, slice_get}
use Rattle.std.specs.FinMap as finite
use Rattle.mm_types.specs.{Place}
use Rattle.mm_move_rules.specs.{ResidentSet, set_in}
use Rattle.mm_page_tables.specs.{entry_or, is_valid_entry, Process, bound_of, at_of, age_of, resident_of, process_in, read_or, bound_in, at_in}
use Rattle.mm_page_tables.specs.{age_of_place, is_open_in}
use Rattle.mm_page_tables.specs.declared.layout.Entry.TheVariants as entry
use Rattle.mm_page_tables.proofs.EntryLemmas.{valid_place}

aged_by : (o : Option Process) (v : ℕ) → is_some (read_or (λ p. age_of p v) None o) ≡ is_valid_entry (read_or (λ p. at_of p v) entry.Empty o)
aged_by None v = refl
aged_by (Some p) v = p.kept.aged v ∙ valid_place (entry_or (finite.get p.table v))

pub aged : (ps : List Process) (x : Place) → is_some (age_of_place ps x) ≡ is_valid_entry (at_in ps x)
aged ps x = aged_by (process_in ps x.pid.0) x.vpn.0

young_by : (o : Option Process) (v age : ℕ) → read_or (λ p. age_of p v) None o ≡ Some age → age ≤ 7
young_by None v age h = cc
young_by (Some p) v age h = p.kept.young v age h

pub young : (ps : List Process) (x : Place) (age : ℕ) → age_of_place ps x ≡ Some age → age ≤ 7
young ps x age h = young_by (process_in ps x.pid.0) x.vpn.0 age h

open_of_bound : (p : Process) (v : ℕ) (b : Bool) → p.is_open ≡ b → bound_of p v ≡ true → b ≡ true
open_of_bound p v true e h = refl
open_of_bound p v false e h = let bad : true ≡ false = sym h ∙ ap is_some (p.kept.closed e v) in cc

bound_by : (o : Option Process) (v : ℕ) → read_or (λ p. bound_of p v) false o ≡ true → read_or (λ p. p.is_open) false o ≡ true
bound_by None v h = cc
bound_by (Some p) v h = open_of_bound p v p.is_open refl h

pub bound_open : (ps : List Process) (x : Place) → bound_in ps x ≡ true → is_open_in ps x.pid.0 ≡ true
bound_open ps x h = bound_by (process_in ps x.pid.0) x.vpn.0 h

pub begun : (ps : List Process) (pid : ℕ) → is_open_in ps pid ≡ true → is_some (set_in (map resident_of ps) pid) ≡ true
begun ps zero h = cc
begun [] (suc k) h = cc
begun (p ∷ ps) (suc zero) h = refl
begun (p ∷ ps) (suc (suc k)) h = begun ps (suc k) h

within_at : (ps : List Process) (k : ℕ) (s : ResidentSet) → slice_get (map resident_of ps) k ≡ Some s → s.resident ≤ s.max
within_at [] k s h = cc
within_at (p ∷ ps) zero s h = let e : resident_of p ≡ s = cc in omega (arith, p.kept.within, ap (λ (r : ResidentSet). r.resident) e, ap (λ (r : ResidentSet). r.max) e)
within_at (p ∷ ps) (suc k) s h = within_at ps k s h

pub within : (ps : List Process) (pid : ℕ) (s : ResidentSet) → set_in (map resident_of ps) pid ≡ Some s → s.resident ≤ s.max
within ps zero s h = cc
within ps (suc k) s h = within_at ps k s h
