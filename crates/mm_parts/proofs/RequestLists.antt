-- The requests as one list, those in flight and behind them the line's own, and the waits for them.
use Rattle.std.proofs.Common.{◌≡◌, ◌≢◌, ℕ, suc, ◌+◌, ◌≤◌, Bool, true, false, not, List, [], ◌∷◌, ◌++◌, Option, Some, None, refl, sym, ap, ◌∙◌, arith}
use Rattle.std.specs.Prelude.{◌==◌, map, is_some, if◌then◌else◌, option_map, slice_get}
use Rattle.std.proofs.lemmas.Bool.{eqb-true, eq-eqb}
use Rattle.std.proofs.lemmas.Option.{slice_get-map}
use Rattle.mm_types.proofs.Booleans.{not_true}
use Rattle.mm_types.proofs.Bytes.{append_nil}
use Rattle.mm_types.specs.{Frame, LineKind, Record}
use Rattle.mm_move_rules.specs.{FrameTable, record_at, is_read, without}
use Rattle.mm_move_laws.specs.{one_if, times}
use Rattle.mm_move_laws.proofs.Tallies.{tally-append, times_on, times-without_other}
use Rattle.mm_move_laws.proofs.Lists.{without_append, without_none}
use Rattle.mm_requests.specs.{FlightOf, is_requested, ended, Waiting}
use Rattle.mm_requests.specs.declared.flights.Waiting.TheVariants as waiting
use Rattle.mm_parts.specs.{requests, own_request, own_is, is_own_line, AreWaits, own_after, own_ended, flight_begun, flight_ended}
use Rattle.mm_parts.proofs.Stands.{Rewrites}

pub times-append : (f : ℕ) (xs ys : List ℕ) → times f (xs ++ ys) ≡ times f xs + times f ys
times-append f xs ys = tally-append (λ x. x == f) xs ys

own_stays : (f : ℕ) (own : Option Frame) → own_is own f ≡ false → without f (own_request own) ≡ own_request own
own_stays f None n = refl
own_stays f (Some g) n = ap (λ b. if not b then g.0 ∷ [] else []) n

own_times : (f : ℕ) (own : Option Frame) → own_is own f ≡ false → times f (own_request own) ≡ 0
own_times f None n = refl
own_times f (Some g) n = let e = ap one_if n in omega (arith, e)

pub own_none : (f : ℕ) (own : Option Frame) → own_is own f ≡ true → own_ended own f ≡ None
own_none f None n = refl
own_none f (Some g) n = ap (λ b. if b then None else Some g) n

pub own_other : (f : ℕ) (own : Option Frame) → own_is own f ≡ false → own_ended own f ≡ own
own_other f None n = refl
own_other f (Some g) n = ap (λ b. if b then None else Some g) n

own_out : (f : ℕ) (own : Option Frame) (xs : List ℕ) → times f (requests xs own) ≡ 1 → own_is own f ≡ true → requests xs None ≡ without f (requests xs own)
own_out f None xs once is = cc
own_out f (Some g) xs once is =
    let one = ap one_if is in
    let sum = times-append f xs (g.0 ∷ []) in
    let none : times f xs ≡ 0 = omega (arith, once, one, sum) in
    sym (without_append f xs (g.0 ∷ []) ∙ ap (λ zs. zs ++ without f (g.0 ∷ [])) (without_none f xs none) ∙ ap (λ b. xs ++ (if not b then g.0 ∷ [] else [])) is)

-- once a request has ended, the others are there in their order
pub ended_requests : (q : FlightOf) (own : Option Frame) (f : ℕ) (ok : Bool) → times f (requests q.frames own) ≡ 1
    → requests (flight_ended (own_is own f) q f ok).frames (own_ended own f) ≡ without f (requests q.frames own)
ended_requests q own f ok once = elim (own_is own f) as (λ b. own_is own f ≡ b → requests (flight_ended b q f ok).frames (own_ended own f) ≡ without f (requests q.frames own)) [
  | true ↦ λ e. ap (requests q.frames) (own_none f own e) ∙ own_out f own q.frames once e
  | false ↦ λ e. ap (requests (without f q.frames)) (own_other f own e) ∙ (sym (without_append f q.frames (own_request own) ∙ ap (λ zs. without f q.frames ++ zs) (own_stays f own e)))
] refl

any_head : (f x : ℕ) (xs : List ℕ) (b : Bool) → (x == f) ≡ b → 1 ≤ times f (x ∷ xs) → (1 ≤ times f xs → is_requested f xs ≡ true) → is_requested f (x ∷ xs) ≡ true
any_head f x xs true e h rest = rw e refl
any_head f x xs false e h rest = rw e (rest (let one = ap one_if e in omega (arith, h, one)))

pub any_in : (f : ℕ) (xs : List ℕ) → 1 ≤ times f xs → is_requested f xs ≡ true
any_in f [] h = absurd (omega (arith, h))
any_in f (x ∷ xs) h = any_head f x xs (x == f) refl h (any_in f xs)

pub none_in : (f : ℕ) (xs : List ℕ) → times f xs ≡ 0 → is_requested f xs ≡ false
none_in f xs e = not_true (is_requested f xs) (λ h. let some = times_on f xs h in omega (arith, some, e))

-- a request that is not the line's own is in flight
pub in_flight : (f : ℕ) (own : Option Frame) (xs : List ℕ) → times f (requests xs own) ≡ 1 → own_is own f ≡ false → is_requested f xs ≡ true
in_flight f own xs once n =
    let sum = times-append f xs (own_request own) in
    let none = own_times f own n in
    any_in f xs (omega (arith, once, sum, none))

pub not_in_flight : (f : ℕ) (own : Option Frame) (xs : List ℕ) → times f (requests xs own) ≡ 0 → is_requested f xs ≡ false
not_in_flight f own xs none = let sum = times-append f xs (own_request own) in none_in f xs (omega (arith, none, sum))

-- the line's own request is not in flight
pub own_apart : (f : ℕ) (own : Option Frame) (xs : List ℕ) → times f (requests xs own) ≡ 1 → own_is own f ≡ true → is_requested f xs ≡ false
own_apart f None xs once is = cc
own_apart f (Some g) xs once is =
    let one = ap one_if is in
    let sum = times-append f xs (g.0 ∷ []) in
    none_in f xs (omega (arith, once, one, sum))

-- ---- a request begins

begun_own : (own : Option Frame) (k : LineKind) (f : Frame) (b : Bool) → is_own_line k ≡ b → own_after k own f ≡ (if b then Some f else own)
begun_own own k f b e = ap (λ (c : Bool). if c then Some f else own) e

nothing : (own : Option Frame) (b : Bool) → (is_some own ≡ true → b ≡ true) → b ≡ false → own ≡ None
nothing None b h e = refl
nothing (Some f) b h e = let bad : true ≡ false = sym (h refl) ∙ e in cc

pub begun_requests : (q : FlightOf) (own : Option Frame) (k : LineKind) (f : Frame) → (is_some own ≡ true → is_own_line k ≡ true) → (is_own_line k ≡ true → own ≡ None)
    → requests (flight_begun (is_own_line k) q f).frames (own_after k own f) ≡ requests q.frames own ++ f.0 ∷ []
begun_requests q own k f within can = by (is_own_line k) refl
  where
    by : (b : Bool) → is_own_line k ≡ b → requests (flight_begun b q f).frames (own_after k own f) ≡ requests q.frames own ++ f.0 ∷ []
    by true e =
        let none = can e in
        ap (requests q.frames) (begun_own own k f true e)
        ∙ ap (λ zs. zs ++ f.0 ∷ []) (sym (append_nil q.frames) ∙ ap (requests q.frames) (sym none))
    by false e =
        let none = nothing own (is_own_line k) within e in
        ap (requests (q.frames ++ f.0 ∷ [])) (begun_own own k f false e ∙ none) ∙ append_nil (q.frames ++ f.0 ∷ [])
        ∙ ap (λ zs. zs ++ f.0 ∷ []) (sym (append_nil q.frames) ∙ ap (requests q.frames) (sym none))

pub begun_within : (own : Option Frame) (k : LineKind) (f : Frame) → (is_some own ≡ true → is_own_line k ≡ true) → is_some (own_after k own f) ≡ true → is_own_line k ≡ true
begun_within own k f within h = elim (is_own_line k) as (λ b. is_own_line k ≡ b → b ≡ true) [
  | true ↦ λ e. refl
  | false ↦ λ e. sym e ∙ within (sym (ap is_some (begun_own own k f false e)) ∙ h)
] refl

pub ended_within : (own : Option Frame) (f : ℕ) → is_some (own_ended own f) ≡ true → is_some own ≡ true
ended_within None f h = h
ended_within (Some g) f h = refl

pub begun_depth : (b : Bool) (q : FlightOf) (f : Frame) → (flight_begun b q f).depth ≡ q.depth
begun_depth true q f = refl
begun_depth false q f = refl

pub begun_waits : (b : Bool) (q : FlightOf) (f : Frame) → (flight_begun b q f).waits ≡ q.waits
begun_waits true q f = refl
begun_waits false q f = refl

pub ended_depth : (b : Bool) (q : FlightOf) (f : ℕ) (ok : Bool) → (flight_ended b q f ok).depth ≡ q.depth
ended_depth true q f ok = refl
ended_depth false q f ok = refl

-- ---- waits

in_pushed : (g f : ℕ) (xs : List ℕ) → is_requested g xs ≡ true → is_requested g (xs ++ f ∷ []) ≡ true
in_pushed g f xs h = let some = times_on g xs h in let sum = times-append g xs (f ∷ []) in any_in g (xs ++ f ∷ []) (omega (arith, some, sum))

in_without : (g f : ℕ) (xs : List ℕ) → g ≢ f → is_requested g xs ≡ true → is_requested g (without f xs) ≡ true
in_without g f xs n h = let some = times_on g xs h in let same = times-without_other f g xs n in any_in g (without f xs) (omega (arith, some, same))

pub waits_begun : (b : Bool) (d : FrameTable) (q : FlightOf) (f : Frame) → AreWaits d q → AreWaits d (flight_begun b q f)
waits_begun true d q f waits = waits
waits_begun false d q f waits = λ t g e. let was = waits t g e in (in_pushed g.0 f.0 q.frames was.0, was.1)

-- what a thread waits for yet, once a request has ended
still_by : (f : ℕ) (ok b : Bool) (h g : Frame) → (h.0 == f) ≡ b → (if b then (if ok then waiting.Done else waiting.Failed) else waiting.For h) ≡ waiting.For g → (waiting.For h ≡ waiting.For g) × (g.0 ≢ f)
still_by f true true h g e x = cc
still_by f false true h g e x = cc
still_by f ok false h g e x =
    let same : h ≡ g = cc in
    (x, λ s. let is = eq-eqb h.0 f (ap (λ (y : Frame). y.0) same ∙ s) in let bad : true ≡ false = sym is ∙ e in cc)

still_for : (f : ℕ) (ok : Bool) (w : Waiting) (g : Frame) → ended f ok w ≡ waiting.For g → (w ≡ waiting.For g) × (g.0 ≢ f)
still_for f ok (waiting.For h) g x = still_by f ok (h.0 == f) h g refl x
still_for f ok _ g x = cc

still_at : (f : ℕ) (ok : Bool) (ws : List Waiting) (t : ℕ) (g : Frame) → slice_get (map (ended f ok) ws) t ≡ Some (waiting.For g) → (slice_get ws t ≡ Some (waiting.For g)) × (g.0 ≢ f)
still_at f ok ws t g x = elim (slice_get ws t) as (λ o. option_map (ended f ok) o ≡ Some (waiting.For g) → (o ≡ Some (waiting.For g)) × (g.0 ≢ f)) [
  | None ↦ λ h. cc
  | Some w ↦ λ h. let is : ended f ok w ≡ waiting.For g = cc in let s = still_for f ok w g is in (ap (λ (y : Waiting). Some y) s.0, s.1)
] (sym (slice_get-map (ended f ok) ws t) ∙ x)

-- where nobody waits for it, no wait changes
calm_wait : (f : ℕ) (ok : Bool) (w : Waiting) → ((g : Frame) → w ≡ waiting.For g → g.0 ≢ f) → ended f ok w ≡ w
calm_wait f ok waiting.Nothing h = refl
calm_wait f ok (waiting.For g) h = elim (g.0 == f) as (λ b. (g.0 == f) ≡ b → (if b then (if ok then waiting.Done else waiting.Failed) else waiting.For g) ≡ waiting.For g) [
  | true ↦ λ e. absurd (h g refl (eqb-true g.0 f e))
  | false ↦ λ e. refl
] refl
calm_wait f ok waiting.Done h = refl
calm_wait f ok waiting.Failed h = refl

pub calm_waits : (f : ℕ) (ok : Bool) (ws : List Waiting) → ((t : ℕ) (g : Frame) → slice_get ws t ≡ Some (waiting.For g) → g.0 ≢ f) → map (ended f ok) ws ≡ ws
calm_waits f ok [] h = refl
calm_waits f ok (w ∷ ws) h = λ i. calm_wait f ok w (λ g e. h 0 g (ap Some e)) i ∷ calm_waits f ok ws (λ t g e. h (suc t) g e) i

-- the waits once a request has ended: nobody waited for the line's own
pub ended_waits : (d : FrameTable) (q : FlightOf) (own : Option Frame) (f : ℕ) (ok : Bool) → AreWaits d q → times f (requests q.frames own) ≡ 1
    → (flight_ended (own_is own f) q f ok).waits ≡ map (ended f ok) q.waits
ended_waits d q own f ok waits once = elim (own_is own f) as (λ b. own_is own f ≡ b → (flight_ended b q f ok).waits ≡ map (ended f ok) q.waits) [
  | false ↦ λ e. refl
  | true ↦ λ e. sym (calm_waits f ok q.waits (λ t g x same.
      let here : is_requested f q.frames ≡ true = ap (λ (y : ℕ). is_requested y q.frames) (sym same) ∙ (waits t g x).0 in
      let bad : true ≡ false = sym here ∙ own_apart f own q.frames once e in cc))
] refl

-- a request that is not a read is waited for by nobody
pub unread_waits : (d : FrameTable) (q : FlightOf) (f : ℕ) (ok : Bool) → AreWaits d q → is_read (record_at d f).request ≡ false → map (ended f ok) q.waits ≡ q.waits
unread_waits d q f ok waits calm = calm_waits f ok q.waits (λ t g x same.
    let read : is_read (record_at d f).request ≡ true = ap (λ (y : ℕ). is_read (record_at d y).request) (sym same) ∙ (waits t g x).1 in
    let bad : true ≡ false = sym read ∙ calm in cc)

-- the waits that are left are for other reads, which go on
pub waits_ended : (d d' : FrameTable) (q : FlightOf) (own : Option Frame) (f : ℕ) (r : Record) (ok : Bool) → Rewrites d d' f r → AreWaits d q → times f (requests q.frames own) ≡ 1
    → AreWaits d' (flight_ended (own_is own f) q f ok)
waits_ended d d' q own f r ok change waits once = λ t g x.
    let left : slice_get (map (ended f ok) q.waits) t ≡ Some (waiting.For g) = ap (λ ws. slice_get ws t) (sym (ended_waits d q own f ok waits once)) ∙ x in
    let s = still_at f ok q.waits t g left in
    let was = waits t g s.0 in (
      elim (own_is own f) as (λ b. is_requested g.0 (flight_ended b q f ok).frames ≡ true) [ true ↦ was.0 | false ↦ in_without g.0 f q.frames s.1 was.0 ],
      ap (λ (y : Record). is_read y.request) (change.elsewhere g.0 s.1) ∙ was.1,
    )
