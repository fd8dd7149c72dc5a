-- What the records of frames are after a frame settles or is taken, and what a changed page keeps.
use Rattle.std.proofs.Common.{◌≡◌, ℕ, suc, Bool, true, false, ◌∷◌, [], ◌++◌, replicate, refl, sym, slice_index_or}
use Rattle.std.specs.Prelude.{if◌then◌else◌}
use Rattle.mm_types.specs.{Record}
use Rattle.mm_types.specs.declared.frames.Request.TheVariants as request
use Rattle.mm_move_rules.specs.{FrameTable, blank, rest, is_empty, is_idle, is_again, has_request, settled_by, taken_for_read, soiled, without_slot}
use Rattle.mm_move_rules.specs.{write_done}

pub all_blank : (n f : ℕ) → slice_index_or (replicate n blank) f blank ≡ blank
all_blank (suc n) (suc f) = all_blank n f
all_blank _ _ = cc

-- ---- tables

pub records_settled : (r : Record) (d : FrameTable) (f : ℕ) → (settled_by r d f).records ≡ d.records
records_settled r d f = by (is_idle r) r.changed
  where
    by : (i c : Bool) → (if i then (if c then record d { modified = d.modified ++ f ∷ [] } else record d { standby = d.standby ++ f ∷ [] }) else d).records ≡ d.records
    by true true = refl
    by _ _ = cc

pub records_taken : (d : FrameTable) → (taken_for_read d).records ≡ d.records
records_taken d = by (is_empty d.free)
  where
    by : (b : Bool) → (if b then record d { zeroed = rest d.zeroed } else record d { free = rest d.free }).records ≡ d.records
    by true = refl
    by false = refl

-- ---- one record

-- what both ways to soil a page keep
pub soiled_part : {X : Type 0} (part : Record → X) (r : Record) → part (record r { request = request.WriteAgain }) ≡ part r → part (record r { changed = true; backing = without_slot r.backing }) ≡ part r → part (soiled r) ≡ part r
soiled_part part r a b = by (has_request r.request)
  where
    by : (c : Bool) → part (if c then record r { request = request.WriteAgain } else record r { changed = true; backing = without_slot r.backing }) ≡ part r
    by true = a
    by false = b

pub soiled_shares : (r : Record) → (soiled r).shares ≡ r.shares
soiled_shares r = soiled_part (λ (q : Record). q.shares) r refl refl

pub soiled_owner : (r : Record) → (soiled r).owner ≡ r.owner
soiled_owner r = soiled_part (λ (q : Record). q.owner) r refl refl

pub soiled_request : (r : Record) → has_request (soiled r).request ≡ has_request r.request
soiled_request r = by (has_request r.request) refl
  where
    by : (c : Bool) → has_request r.request ≡ c → has_request (if c then record r { request = request.WriteAgain } else record r { changed = true; backing = without_slot r.backing }).request ≡ has_request r.request
    by true e = sym e
    by false e = refl

-- what both ways to end a write keep
pub done_part : {X : Type 0} (part : Record → X) (r : Record) → part (record r { request = request.None; backing = without_slot r.backing }) ≡ part r → part (record r { request = request.None; changed = false }) ≡ part r → part (write_done r) ≡ part r
done_part part r a b = by (is_again r.request)
  where
    by : (c : Bool) → part (if c then record r { request = request.None; backing = without_slot r.backing } else record r { request = request.None; changed = false }) ≡ part r
    by true = a
    by false = b

pub done_owner : (r : Record) → (write_done r).owner ≡ r.owner
done_owner r = done_part (λ (q : Record). q.owner) r refl refl
