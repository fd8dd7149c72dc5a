-- An access of a thread that was ready, and has its frames after the line, does not wait; one that waits does as its call said.
use Rattle.std.proofs.Common.{◌≡◌, ℕ, Bool, true, false, Some, None, refl}
use Rattle.std.specs.Prelude.{not, ◌&&◌, if◌then◌else◌, nat_le}
use Rattle.mm_types.specs.declared.answers.Why.TheVariants as why
use Rattle.mm_world.specs.{is_short, Need, is_being_read, is_in_store, still_needs_frame, pending}
use Rattle.mm_world.specs.Report.{Report}
use Rattle.mm_store.specs.{waits_at_once}

cases_none : (a b c still short : Bool) → (if a then Some why.Read else if b then Some why.Full else if c then Some why.Read else None) ≡ None → still ≡ false
    → (if a then Some why.Read else if b then Some why.Full else if c then Some why.Read else if still && short then Some why.Frame else None) ≡ None
cases_none false false false true short e h = cc
cases_none false false false false short e h = refl
cases_none _ _ _ still short e h = e

pub not_pending : (depth : ℕ) (n : Need) (before after : Report) → waits_at_once depth n.key before ≡ None → still_needs_frame n after ≡ false → pending depth n before after ≡ None
not_pending depth n before after e h =
    cases_none (is_being_read (before.whereabouts n.key)) (is_in_store (before.whereabouts n.key) && nat_le depth before.counts.requests) (is_in_store (before.whereabouts n.key) && not (is_short before)) (still_needs_frame n after) (is_short after) e h
