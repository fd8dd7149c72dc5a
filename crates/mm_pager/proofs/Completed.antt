-- A request that has ended, by the result of the call.
use Rattle.std.proofs.Common.{◌≡◌, ℕ, zero, suc, ◌+◌, ◌-◌, ◌≤◌, ◌<◌, Bool, true, false, List, [], ◌∷◌, Option, Some, None, refl, sym, ap, ◌∙◌, subst, arith, inl, inr, ◌⊎◌}
use Rattle.std.proofs.lemmas.Bool.{lt-ltb}
use Rattle.std.proofs.Math.Logic.{∥∥₁_elim}
use Rattle.std.proofs.Props.{props}
use Rattle.std.specs.Cmp.{unsigned_Decides}
use Rattle.std.specs.Prelude.{◌==◌, nat_lt, if◌then◌else◌, length, option_map, min, slice_get, slice_index_or, ◌^◌}
use Rattle.mm_types.specs.{Backing, Record, Request, Move, Frame, Key, Place}
use Rattle.mm_types.specs.declared.devices.Direction.TheVariants as way
use Rattle.mm_types.specs.declared.frames.Backing.TheVariants as backing
use Rattle.mm_types.specs.declared.frames.Request.TheVariants as request
use Rattle.mm_types.specs.declared.moves.LineKind.TheVariants as kind
use Rattle.mm_types.specs.declared.moves.Move.TheVariants as move
use Rattle.mm_move_rules.specs.{record_at, blank, is_read, is_write, has_request, FrameLife, is_touch, after_move, ending}
use Rattle.mm_move_laws.specs.{is_backed, one_if, times}
use Rattle.mm_move_laws.proofs.{reached_sound}
use Rattle.mm_requests.specs.{nth_oldest}
use Rattle.mm_world.specs.{failed_calls}
use Rattle.mm_store.specs.{Done, CompletesAs, Completes, Passes, completed, fetched, Served, with_read, with_write}
use Rattle.mm_store.specs.declared.outcomes.Done.TheVariants as done
use Rattle.mm_store.specs.Told.{Told}
use Rattle.mm_parts.specs.{end_of_read, write_end, own_ended}
use Rattle.mm_state_calls.specs.{StateOf, Made, SomeFault, DoesMoves, moved_with_call, StateHolds}
use Rattle.mm_state_calls.proofs.{does_nothing, does_one}
use Rattle.mm_pager.specs.{LifeKept, EndsOne, EndsAs, OwnOf, StoreKept, store_of, report_of, behind_of}
use Rattle.mm_pager.proofs.AccessMoves.{called_on, called_store, kept_same, kept_within, InLine, served_by}
use Rattle.mm_pager.proofs.Shows.{passes_of, none_passes, kept_untouched}
use Rattle.mm_types.proofs.{get_within, less}
use Rattle.mm_reclaim.proofs.{one_some, fault_by}

-- ---- the move with which a request ends

ending_read : (r : Record) (f : Frame) (ok : Bool) → is_read r.request ≡ true → ending r f ok ≡ end_of_read ok f
ending_read r f true e = ap (λ (b : Bool). if b then move.Got f else move.Wrote f) e
ending_read r f false e = ap (λ (b : Bool). if b then move.Bad f else move.Lost f) e

ending_write : (r : Record) (f : Frame) (ok : Bool) → is_read r.request ≡ false → ending r f ok ≡ write_end ok f
ending_write r f true e = ap (λ (b : Bool). if b then move.Got f else move.Wrote f) e
ending_write r f false e = ap (λ (b : Bool). if b then move.Bad f else move.Lost f) e

writes_else : (q : Request) → has_request q ≡ true → is_read q ≡ false → is_write q ≡ true
writes_else request.None h r = cc
writes_else request.Read h r = cc
writes_else q h r = refl

pub called_by_write : (s z : StateOf) (n : ℕ) → s.own ≡ None → z ≡ record (moved_with_call s z) { own = own_ended s.own n } → z ≡ moved_with_call s z
called_by_write s z n o e = e ∙ ap (λ (x : Option Frame). record (moved_with_call s z) { own = x }) (ap (λ (x : Option Frame). own_ended x n) o ∙ sym o)

-- ---- the request that is found

get_times : (xs : List ℕ) (n f : ℕ) → slice_get xs n ≡ Some f → 1 ≤ times f xs
get_times [] n f e = cc
get_times (x ∷ xs) zero f e = let same : x ≡ f = cc in let a : (x == f) ≡ true = (unsigned_Decides x f).1 same in let b : one_if (x == f) ≡ 1 = ap one_if a in omega (arith, b)
get_times (x ∷ xs) (suc n) f e = let a = get_times xs n f e in omega (arith, a)

get_past : (xs : List ℕ) (n : ℕ) → slice_get xs n ≡ None → length xs ≤ n
get_past [] n e = omega arith
get_past (x ∷ xs) zero e = cc
get_past (x ∷ xs) (suc n) e = let a = get_past xs n e in omega (arith, a)

one_is : (b : Bool) → 1 ≤ one_if b → b ≡ true
one_is true h = refl
one_is false h = absurd (omega (arith, h))

-- a frame in flight has a request
pub flight_request : (s : StateOf) (n f : ℕ) → StateHolds s → slice_get s.life.flight n ≡ Some f → has_request (record_at s.life.frames f).request ≡ true
flight_request s n f h e = ∥∥₁_elim h.reached (hlevel props) (λ r.
    one_is (has_request (record_at s.life.frames f).request) (subst (λ (m : ℕ). 1 ≤ m) ((reached_sound s.life r).standing f).flight (get_times s.life.flight n f e)))

requested_low : (xs : List Record) (f : ℕ) → has_request (slice_index_or xs f blank).request ≡ true → nat_lt f (length xs) ≡ true
requested_low [] f h = cc
requested_low (x ∷ xs) zero h = lt-ltb 0 (length (x ∷ xs)) (omega arith)
requested_low (x ∷ xs) (suc f) h = let a = requested_low xs f h in grind (arith, a)

-- and is one of the machine's
pub flight_low : (s : StateOf) (f : ℕ) → StateHolds s → has_request (record_at s.life.frames f).request ≡ true → f < s.life.machine.frames
flight_low s f h e = less f s.life.machine.frames (∥∥₁_elim h.reached (hlevel props) (λ r.
    subst (λ (n : ℕ). nat_lt f n ≡ true) (reached_sound s.life r).framed (requested_low s.life.frames.records f e)))

nth_back : (i n : ℕ) (xs : List ℕ) (o : Option ℕ) → 1 ≤ i → o ≡ nth_oldest i xs → slice_get xs (i - 1) ≡ o
nth_back zero n xs o h e = absurd (omega (arith, h))
nth_back (suc i) n xs o h e = let back : suc i - 1 ≡ i = omega arith in ap (λ (k : ℕ). slice_get xs k) back ∙ sym e

pub nth_found : (i : ℕ) (xs : List ℕ) (r : Option Frame) (f : Frame) → 1 ≤ i → option_map (λ g. g.0) r ≡ nth_oldest i xs → r ≡ Some f → slice_get xs (i - 1) ≡ Some f.0
nth_found i xs r f h e q = nth_back i 0 xs (Some f.0) h (sym (ap (λ (o : Option Frame). option_map (λ (g : Frame). g.0) o) q) ∙ e)

pub nth_none : (i : ℕ) (xs : List ℕ) (r : Option Frame) → 1 ≤ i → option_map (λ g. g.0) r ≡ nth_oldest i xs → r ≡ None → length xs < i
nth_none i xs r h e q = let a = get_past xs (i - 1) (nth_back i 0 xs None h (sym (ap (λ (o : Option Frame). option_map (λ (g : Frame). g.0) o) q) ∙ e)) in omega (arith, h, a)

-- ---- what an ended request leaves

-- what holds of the end of a read and of a write holds of it
ending_by : (P : Move → Type 0) (r : Record) (f : Frame) (ok : Bool) → P (end_of_read ok f) → P (write_end ok f) → P (ending r f ok)
ending_by P r f true p q = at (is_read r.request)
  where
    at : (b : Bool) → P (if b then move.Got f else move.Wrote f)
    at true = p
    at false = q
ending_by P r f false p q = at (is_read r.request)
  where
    at : (b : Bool) → P (if b then move.Bad f else move.Lost f)
    at true = p
    at false = q

kept_ending : (r : Record) (f : Frame) (ok : Bool) (l : FrameLife) → LifeKept l (after_move l (ending r f ok))
kept_ending r f true l = ending_by (λ (m : Move). LifeKept l (after_move l m)) r f true (kept_within l (move.Got f) tt) (kept_within l (move.Wrote f) tt)
kept_ending r f false l = ending_by (λ (m : Move). LifeKept l (after_move l m)) r f false (kept_within l (move.Bad f) tt) (kept_within l (move.Lost f) tt)

in_ending : (r : Record) (f : Frame) (ok : Bool) → InLine (ending r f ok ∷ [])
in_ending r f true = ending_by (λ (m : Move). InLine (m ∷ [])) r f true tt tt
in_ending r f false = ending_by (λ (m : Move). InLine (m ∷ [])) r f false tt tt

life_one : (i : ℕ) (ok : Bool) (s z : StateOf) → EndsOne i ok s z → LifeKept s.life z.life
life_one i ok s z e = subst (λ (l : FrameLife). LifeKept s.life l) (sym e.made.life) (kept_ending (record_at s.life.frames e.frame.0) e.frame ok s.life)

-- what a call leaves that ends a request, or finds none
pub record Completing (ms : List Move) (s z : StateOf) : Type 0 where
  pub does : DoesMoves ms s z
  pub line : InLine ms
  pub life : LifeKept s.life z.life
  pub same : z ≡ moved_with_call s z

one_completes : (i : ℕ) (ok : Bool) (s z : StateOf) (e : EndsOne i ok s z) → Completing (ending (record_at s.life.frames e.frame.0) e.frame ok ∷ []) s z
one_completes i ok s z e = record { does = does_one _ s z e.made; line = in_ending (record_at s.life.frames e.frame.0) e.frame ok; life = life_one i ok s z e; same = e.same }

pub completes : (i : ℕ) (r : Done) (s z : StateOf) → EndsAs i r s z → (ms : List Move) × Completing ms s z
completes i done.None s z e = subst (λ (x : StateOf). (ms : List Move) × Completing ms s x) (sym e.1) ([], record { does = does_nothing s; line = tt; life = kept_same s.life; same = refl })
completes i done.Ok s z e = (_, one_completes i true s z e)
completes i done.Failed s z e = (_, one_completes i false s z e)

module _ (ms : List Move) (s z : StateOf) (o : OwnOf) (c : Completing ms s z) where
  pub ended_store : StateHolds s → StateHolds z → store_of z o ≡ completed (store_of s o) (store_of z o)
  ended_store h g =
      called_store ms s z o o c.does.replays c.life (called_on s z c.same) h g refl refl
      ∙ ap (λ (n : Place → Option Key). record (fetched (store_of s o) (store_of z o)) { names = n }) (ap (λ (x : StateOf). x.names) c.same)

  pub ended_served : Served (store_of s o) (store_of z o)
  ended_served = served_by ms s z o o c.line c.does

  pub ended_kept : StoreKept s o → s.life.kind ≡ kind.Io → StoreKept z o
  ended_kept k io = kept_untouched s z o k (ap is_touch io) c.life c.same

-- ---- the result

pub ended_none : (i : ℕ) (r : Done) (s z : StateOf) (o : OwnOf) → EndsAs i r s z → r ≡ done.None → (length s.life.flight < i) × (store_of z o ≡ store_of s o)
ended_none i done.None s z o e q = (e.0, ap (λ (x : StateOf). store_of x o) e.1)
ended_none i r s z o e q = cc

pub ended_some : (i : ℕ) (r : Done) (s z : StateOf) → 1 ≤ i → EndsAs i r s z → length s.life.flight < i → r ≡ done.None
ended_some i done.None s z h e l = refl
ended_some i done.Ok s z h e l = let a = get_within s.life.flight (i - 1) e.frame.0 e.found in absurd (omega (arith, h, a, l))
ended_some i done.Failed s z h e l = let a = get_within s.life.flight (i - 1) e.frame.0 e.found in absurd (omega (arith, h, a, l))

-- ---- devices

abbrev pub failed_told : Told → ℕ
failed_told t = t.paging_reads.failed + t.paging_writes.failed + t.file_reads.failed + t.file_writes.failed

good_read : (b : Backing) (t : Told) → failed_told (with_read true b t) ≡ failed_told t
good_read backing.None t = refl
good_read b t = refl

good_write : (b : Backing) (t : Told) → failed_told (with_write true b t) ≡ failed_told t
good_write backing.None t = refl
good_write b t = refl

some_in : (a b c d n : ℕ) → (a ≡ n) ⊎ ((b ≡ n) ⊎ ((c ≡ n) ⊎ (d ≡ n))) → 0 < n → 0 < a + b + c + d
some_in a b c d n (inl e) h = omega (arith, e, h)
some_in a b c d n (inr (inl e)) h = omega (arith, e, h)
some_in a b c d n (inr (inr (inl e))) h = omega (arith, e, h)
some_in a b c d n (inr (inr (inr e))) h = omega (arith, e, h)

bad_read : (b : Backing) (t : Told) (k : Option Key) → is_backed b ≡ true → 0 < failed_told (record (with_read false b t) { last_failed_read = k })
bad_read backing.None t k h = cc
bad_read (backing.Slot s) t k h = some_in (min (t.paging_reads.failed + 1) (2 ^ 64 - 1)) t.paging_writes.failed t.file_reads.failed t.file_writes.failed _ (inl refl) (one_some t.paging_reads.failed)
bad_read (backing.Block s) t k h = some_in t.paging_reads.failed t.paging_writes.failed (min (t.file_reads.failed + 1) (2 ^ 64 - 1)) t.file_writes.failed _ (inr (inr (inl refl))) (one_some t.file_reads.failed)

bad_write : (b : Backing) (t : Told) → is_backed b ≡ true → 0 < failed_told (with_write false b t)
bad_write backing.None t h = cc
bad_write (backing.Slot s) t h = some_in t.paging_reads.failed (min (t.paging_writes.failed + 1) (2 ^ 64 - 1)) t.file_reads.failed t.file_writes.failed _ (inr (inl refl)) (one_some t.paging_writes.failed)
bad_write (backing.Block s) t h = some_in t.paging_reads.failed t.paging_writes.failed t.file_reads.failed (min (t.file_writes.failed + 1) (2 ^ 64 - 1)) _ (inr (inr (inr refl))) (one_some t.file_writes.failed)

-- a page that is being written has a home to go to
backed_write : (s : StateOf) (f : ℕ) → StateHolds s → is_write (record_at s.life.frames f).request ≡ true → is_backed (record_at s.life.frames f).backing ≡ true
backed_write s f h w = ∥∥₁_elim h.reached (hlevel props) (λ r. (((reached_sound s.life r).standing f).fit.writing w).1)

-- what one end tells, where the call succeeded and where it failed
pub ok_told : (s z : StateOf) (f : Frame) → Made (ending (record_at s.life.frames f.0) f true) s z → failed_told z.told ≡ failed_told s.told
ok_told s z f m = at (is_read (record_at s.life.frames f.0).request) refl
  where
    at : (b : Bool) → is_read (record_at s.life.frames f.0).request ≡ b → failed_told z.told ≡ failed_told s.told
    at true e = let n : Made (move.Got f) s z = subst (λ (x : Move). Made x s z) (ending_read (record_at s.life.frames f.0) f true e) m in ap failed_told n.told ∙ good_read (record_at s.life.frames f.0).backing s.told
    at false e = let n : Made (move.Wrote f) s z = subst (λ (x : Move). Made x s z) (ending_write (record_at s.life.frames f.0) f true e) m in ap failed_told n.told ∙ good_write (record_at s.life.frames f.0).backing s.told

pub record Blames (s z : StateOf) : Type 0 where
  pub failed : 0 < failed_told z.told
  pub fault : SomeFault s z

pub bad_told : (s z : StateOf) (f : Frame) → StateHolds s → has_request (record_at s.life.frames f.0).request ≡ true → Made (ending (record_at s.life.frames f.0) f false) s z → Blames s z
bad_told s z f h q m = at (is_read (record_at s.life.frames f.0).request) refl
  where
    at : (b : Bool) → is_read (record_at s.life.frames f.0).request ≡ b → Blames s z
    at true e =
        let n : Made (move.Bad f) s z = subst (λ (x : Move). Made x s z) (ending_read (record_at s.life.frames f.0) f false e) m in
        let b = h.reading f e in
        record { failed = subst (λ (t : Told). 0 < failed_told t) (sym n.told) (bad_read (record_at s.life.frames f.0).backing s.told (record_at s.life.frames f.0).owner b); fault = fault_by way.Read (record_at s.life.frames f.0).backing s z b n.calls }
    at false e =
        let n : Made (move.Lost f) s z = subst (λ (x : Move). Made x s z) (ending_write (record_at s.life.frames f.0) f false e) m in
        let b = backed_write s f.0 h (writes_else (record_at s.life.frames f.0).request q e) in
        record { failed = subst (λ (t : Told). 0 < failed_told t) (sym n.told) (bad_write (record_at s.life.frames f.0).backing s.told b); fault = fault_by way.Write (record_at s.life.frames f.0).backing s z b n.calls }

pub ended_ok : (i : ℕ) (r : Done) (s z : StateOf) (o : OwnOf) → EndsAs i r s z → r ≡ done.Ok → failed_calls (report_of z o) ≡ failed_calls (report_of s o)
ended_ok i done.Ok s z o e q = ok_told s z e.frame e.made
ended_ok i r s z o e q = cc

pub ended_blames : (i : ℕ) (r : Done) (s z : StateOf) → StateHolds s → EndsAs i r s z → r ≡ done.Failed → Blames s z
ended_blames i done.Failed s z h e q = bad_told s z e.frame h (flight_request s (i - 1) e.frame.0 h e.found) e.made
ended_blames i r s z h e q = cc

passes_one : (i : ℕ) (ok : Bool) (s z : StateOf) (o : OwnOf) → EndsOne i ok s z → Passes (Completes i ok) (store_of s o) (store_of z o) (behind_of s) (behind_of z)
passes_one i ok s z o e = passes_of (Completes i ok) (ending (record_at s.life.frames e.frame.0) e.frame ok ∷ []) s z o o (does_one _ s z e.made)
    (record { frame = e.frame.0; found = e.found; one = refl; moved = record { waits = e.made.waits; ages = e.made.ages } })

pub ended_passes : (i : ℕ) (r : Done) (s z : StateOf) (o : OwnOf) → EndsAs i r s z → Passes (CompletesAs i r) (store_of s o) (store_of z o) (behind_of s) (behind_of z)
ended_passes i done.None s z o e = none_passes (CompletesAs i done.None) s z o o s.contents s.ages s.waits e.1 (e.0, record { none = refl; same = refl })
ended_passes i done.Ok s z o e = passes_one i true s z o e
ended_passes i done.Failed s z o e = passes_one i false s z o e
