-- The requests as one list, looked up by age and by frame, and the waits for them.
use Rattle.std.proofs.Common.{◌≡◌, ℕ, ◌+◌, ◌<◌, ◌≤◌, Bool, true, false, cond, List, [], ◌∷◌, ◌++◌, Option, Some, None, refl, sym, ap, ◌∙◌, subst, inl, inr, arith, length}
use Rattle.std.specs.Prelude.{◌==◌, ◌||◌, option_map, slice_get, slice_set, map, if◌then◌else◌}
use Rattle.std.specs.List.{list_any, position_from}
use Rattle.std.proofs.lemmas.Iterator.Adapters.{position_from-zero}
use Rattle.std.proofs.lemmas.Option.{slice_get-map}
use Rattle.std.proofs.lemmas.Bool.{eq-eqb}
use Rattle.mm_types.proofs.{same_or_not, set_cases, get_set_same, get_set_other, differ}
use Rattle.mm_types.specs.{Frame}
use Rattle.mm_move_rules.specs.{record_at, is_read, has_request, changed, ForFrame, Ended, ended_by}
use Rattle.mm_move_laws.specs.{one_if, times}
use Rattle.mm_requests.specs.{is_requested, place_in, ended, Waiting}
use Rattle.mm_requests.specs.declared.flights.Waiting.TheVariants as waiting
use Rattle.mm_parts.specs.{JoinedParts, shown_of, requests, own_request, own_is, PartsKept, AreWaits, wait_as_walked, walked_or, waits_of}
use Rattle.mm_parts.proofs.Keeping.{Step, known}
use Rattle.mm_parts.proofs.RequestLists.{in_flight, own_apart, times-append}
use Rattle.mm_parts.proofs.Holding.{read_once}
use Rattle.mm_move_laws.proofs.{one_most}

-- ---- by frame

from_last : (t : ℕ → Bool) (g i : ℕ) (xs : List ℕ) → list_any t xs ≡ false → t g ≡ true → position_from t i (xs ++ g ∷ []) ≡ Some (i + length xs)
from_last t g i [] none e = ap (λ b. cond b (Some i) None) e ∙ ap Some (omega arith)
from_last t g i (x ∷ xs) none e = elim (t x) as (λ b. t x ≡ b → (b || list_any t xs) ≡ false → position_from t i ((x ∷ xs) ++ g ∷ []) ≡ Some (i + length (x ∷ xs))) [
  | true ↦ λ h n. cc
  | false ↦ λ h n. ap (λ b. cond b (Some i) (position_from t (i + 1) (xs ++ g ∷ []))) h ∙ from_last t g (i + 1) xs n e ∙ ap Some (omega arith)
] refl none

own_once : (f : ℕ) (own : Option Frame) → own_is own f ≡ true → 1 ≤ times f (own_request own)
own_once f None h = cc
own_once f (Some g) h = let one = ap one_if h in omega (arith, one)

-- the line's own request is the last
pub place_last : (f : ℕ) (xs : List ℕ) (own : Option Frame) → own_is own f ≡ true → is_requested f xs ≡ false → Some (length xs + 1) ≡ place_in f (requests xs own)
place_last f xs None own none = cc
place_last f xs (Some g) own none = sym ((ap (option_map (λ i. i + 1)) (position_from-zero (λ x. x == f) (xs ++ g.0 ∷ []))) ∙ ap (option_map (λ i. i + 1)) (from_last (λ x. x == f) g.0 0 xs none own) ∙ ap Some (omega arith))

-- the line's own request is not in flight
pub own_alone : (t : JoinedParts) → PartsKept t → (f : ℕ) → own_is t.own f ≡ true → is_requested f t.flight.frames ≡ false
own_alone t kept f own =
    let once = ((known t kept).standing f).flight in
    let most = one_most (has_request (record_at t.table f).request) in
    let sum = times-append f t.flight.frames (own_request t.own) in
    let some = own_once f t.own own in
    own_apart f t.own t.flight.frames (omega (arith, once, most, sum, some)) own

pub read_flies : (t : JoinedParts) → PartsKept t → (f : ℕ) → is_read (record_at t.table f).request ≡ true → own_is t.own f ≡ false → is_requested f t.flight.frames ≡ true
read_flies t kept f reads other = in_flight f t.own t.flight.frames (read_once t kept f reads) other

-- ---- waits

set_waits : (t : JoinedParts) → PartsKept t → (n : ℕ) (x : Waiting) → n < length t.flight.waits
    → ((f : Frame) → x ≡ waiting.For f → (is_requested f.0 t.flight.frames ≡ true) × (is_read (record_at t.table f.0).request ≡ true))
    → AreWaits t.table (record t.flight { waits = slice_set t.flight.waits n x })
set_waits t kept n x within new u f e = elim (set_cases t.flight.waits n u x (waiting.For f) within e) [
  | inl here ↦ new f here.1
  | inr there ↦ kept.waits u f there.1
]

pub wait_step : (t : JoinedParts) → PartsKept t → (n : ℕ) (x : Waiting) → n < length t.flight.waits
    → ((f : Frame) → x ≡ waiting.For f → (is_requested f.0 t.flight.frames ≡ true) × (is_read (record_at t.table f.0).request ≡ true))
    → Step (record t { flight = record t.flight { waits = slice_set t.flight.waits n x } }) (record (shown_of t) { waits = slice_set t.flight.waits n x })
wait_step t kept n x within new = record { kept = assumption (set_waits t kept n x within new); shown = refl }

-- what a wait for a read is
pub new_wait : (t : JoinedParts) → PartsKept t → (f g : Frame) → is_read (record_at t.table f.0).request ≡ true → own_is t.own f.0 ≡ false → waiting.For f ≡ waiting.For g
    → (is_requested g.0 t.flight.frames ≡ true) × (is_read (record_at t.table g.0).request ≡ true)
new_wait t kept f g reads other e =
    let same : f ≡ g = cc in
    subst (λ (h : Frame). (is_requested h.0 t.flight.frames ≡ true) × (is_read (record_at t.table h.0).request ≡ true)) same (read_flies t kept f.0 reads other, reads)

pub no_wait : (t : JoinedParts) (f : Frame) → waiting.Nothing ≡ waiting.For f → (is_requested f.0 t.flight.frames ≡ true) × (is_read (record_at t.table f.0).request ≡ true)
no_wait t f e = cc

pub waits_set : (ws : List Waiting) (n : ℕ) (x : Waiting) → n < length ws → (u : ℕ) → waits_of (slice_set ws n x) u ≡ changed ◌==◌ (waits_of ws) n (wait_as_walked x) u
waits_set ws n x within u = elim (same_or_not u n) [
  | inl e ↦ ap (waits_of (slice_set ws n x)) e ∙ ap walked_or (get_set_same ws n x within) ∙ sym (ap (λ b. if b then wait_as_walked x else waits_of ws u) (eq-eqb u n e))
  | inr other ↦ ap walked_or (get_set_other ws n u x other) ∙ sym (ap (λ b. if b then wait_as_walked x else waits_of ws u) (differ u n other))
]

ended_one : (f : ℕ) (ok : Bool) (x : Waiting) → wait_as_walked (ended f ok x) ≡ ended_by f ok (wait_as_walked x)
ended_one f ok (waiting.For g) = by (g.0 == f) ok
  where
    by : (b c : Bool) → wait_as_walked (if b then (if c then waiting.Done else waiting.Failed) else waiting.For g) ≡ (if b then Ended c else ForFrame g.0)
    by true true = refl
    by true false = refl
    by false c = refl
ended_one f ok _ = cc

-- the end of a read, to the waits
pub waits_ended : (ws : List Waiting) (f t : ℕ) (ok : Bool) → waits_of (map (ended f ok) ws) t ≡ ended_by f ok (waits_of ws t)
waits_ended ws f t ok = ap walked_or (slice_get-map (ended f ok) ws t)
    ∙ elim (slice_get ws t) as (λ o. walked_or (option_map (ended f ok) o) ≡ ended_by f ok (walked_or o)) [ None ↦ refl | Some x ↦ ended_one f ok x ]
