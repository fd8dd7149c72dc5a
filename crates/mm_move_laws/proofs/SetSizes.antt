-- The valid places are as many as the sizes of the working sets add up to, and as the shares of all frames.
use Rattle.std.proofs.Common.{◌≡◌, ℕ, zero, suc, ◌+◌, ◌-◌, ◌*◌, ◌<◌, ◌≤◌, true, List, [], ◌∷◌, length, Option, Some, None, refl, sym, ap, ◌∙◌, inl, inr, arith, subst, length-set, length-append}
use Rattle.std.proofs.lemmas.Option.{slice_get_past}
use Rattle.std.specs.Prelude.{◌==◌, is_some, slice_get, slice_set, nat_lt}
use Rattle.std.specs.Cmp.{unsigned_Decides}
use Rattle.std.proofs.lemmas.Bool.{cases_lt, lt-ltb, or_left, eqb-true, and_parts, leb-true, ltb-true}
use Rattle.mm_types.proofs.Cells.{get_within}
use Rattle.mm_types.specs.{Frame, Pid, Vpn, Place, MachineOf, IsMachine, LineKind, Move}
use Rattle.mm_types.specs.declared.numbers.Key.TheVariants.{Private}
use Rattle.mm_types.proofs.Options.{none_of}
use Rattle.mm_types.proofs.Booleans.{not_true}
use Rattle.mm_move_rules.specs.{ResidentSet, record_at, has_request, FrameLife, same_place, set_in, set_of, with_resident, resident_by, unstarted, IsLegal}
use Rattle.mm_move_rules.specs.{is_legal_kind, is_valid_machine, is_touch, after_move, after_at, after_unmap_at}
use Rattle.mm_move_laws.specs.{one_if, tally, sum_to, is_of, residents, residents_in, valid_places, maxima_in, CountsPlaces, InRange}
use Rattle.mm_move_rules.specs.{is_frame}
use Rattle.mm_move_laws.specs.{ReachedByMoves}
use Rattle.mm_move_laws.specs.Sound.{Sound}
use Rattle.mm_move_laws.proofs.Sums.{one_most, sum-same, sum-plus, sum-zeros, sum-front, sum-inside, sum-tally, total-listed, total-ones}
use Rattle.mm_move_laws.proofs.Tallies.{tally-more, length-left}
use Rattle.mm_move_laws.proofs.Sights.{kept_inside}
use Rattle.mm_move_laws.proofs.PlaceCounts.{has_shares, same_place-true, same_place-self}
use Rattle.mm_move_laws.proofs.Moved.{dropped_as, along}
use Rattle.mm_move_laws.proofs.Parts.{five_parts, three_parts}
use Rattle.mm_types.specs.declared.moves.LineKind.TheVariants as kind
use Rattle.mm_types.specs.declared.moves.Stored.TheVariants as stored
use Rattle.mm_types.specs.declared.moves.Move.TheVariants as move

-- ---- sets by pid

pub no_set_past : (sets : List ResidentSet) (pid : ℕ) → length sets < pid → set_in sets pid ≡ None
no_set_past sets zero h = refl
no_set_past sets (suc k) h = slice_get_past sets k (omega (arith, h))

set_here : (sets : List ResidentSet) (k : ℕ) → k < length sets → (s : ResidentSet) × (slice_get sets k ≡ Some s)
set_here [] k h = absurd (omega (arith, h))
set_here (s ∷ sets) zero h = (s, refl)
set_here (s ∷ sets) (suc k) h = set_here sets k (omega (arith, h))

pub set_there : (sets : List ResidentSet) (pid : ℕ) → 1 ≤ pid → pid ≤ length sets → (s : ResidentSet) × (set_in sets pid ≡ Some s)
set_there sets zero h g = absurd (omega (arith, h))
set_there sets (suc k) h g = set_here sets k (omega (arith, g))

pub set_within : (sets : List ResidentSet) (pid : ℕ) (s : ResidentSet) → set_in sets pid ≡ Some s → (1 ≤ pid) × (pid ≤ length sets)
set_within sets zero s e = cc
set_within sets (suc k) s e = let h = get_within sets k s e in (omega arith, omega (arith, h))

-- ---- the sizes add up

sizes : (sets : List ResidentSet) → sum_to (λ k. residents (slice_get sets k)) (length sets) ≡ residents_in sets
sizes [] = refl
sizes (s ∷ sets) = let a = sum-front (λ k. residents (slice_get (s ∷ sets) k)) (length sets) in let b = sizes sets in omega (arith, a, b)

pub sizes_by_pid : (sets : List ResidentSet) → sum_to (λ pid. residents (set_in sets pid)) (suc (length sets)) ≡ residents_in sets
sizes_by_pid sets = let a = sum-front (λ pid. residents (set_in sets pid)) (length sets) in let b = sizes sets in omega (arith, a, b)

pub sizes_below : (sets : List ResidentSet) → ((k : ℕ) (s : ResidentSet) → slice_get sets k ≡ Some s → s.resident ≤ s.max) → residents_in sets ≤ maxima_in sets
sizes_below [] h = omega arith
sizes_below (s ∷ sets) h = let a = h 0 s refl in let b = sizes_below sets (λ k. h (suc k)) in omega (arith, a, b)

pub maxima_below : (sets : List ResidentSet) (n : ℕ) → ((k : ℕ) (s : ResidentSet) → slice_get sets k ≡ Some s → s.max ≤ n) → maxima_in sets ≤ length sets * n
maxima_below [] n h = omega arith
maxima_below (s ∷ sets) n h = let a = h 0 s refl in let b = maxima_below sets n (λ k. h (suc k)) in grind (arith, a, b)

-- ---- one place fewer

set_fewer : (sets : List ResidentSet) (k : ℕ) (s : ResidentSet) → slice_get sets k ≡ Some s → 1 ≤ s.resident → residents_in (slice_set sets k (record s { resident = s.resident - 1 })) + 1 ≡ residents_in sets
set_fewer [] k s e h = cc
set_fewer (t ∷ sets) zero s e h = let same : t ≡ s = cc in let n : t.resident ≡ s.resident = ap (λ (x : ResidentSet). x.resident) same in omega (arith, h, n)
set_fewer (t ∷ sets) (suc k) s e h = let a = set_fewer sets k s e h in omega (arith, a)

pub sets_fewer : (sets : List ResidentSet) (pid : ℕ) → 1 ≤ residents (set_in sets pid) → residents_in (with_resident sets pid (λ n. n - 1)) + 1 ≡ residents_in sets
sets_fewer sets zero h = absurd (omega (arith, h))
sets_fewer sets (suc k) h = at (slice_get sets k) refl h
  where
    at : (o : Option ResidentSet) → slice_get sets k ≡ o → 1 ≤ residents o → residents_in (resident_by o sets k (λ n. n - 1)) + 1 ≡ residents_in sets
    at None e g = absurd (omega (arith, g))
    at (Some s) e g = set_fewer sets k s e g

-- ---- places of a list by pid

of_pid : (xs : List Place) (n : ℕ) → ((pid : ℕ) → n ≤ pid → tally (is_of pid) xs ≡ 0) → sum_to (λ pid. tally (is_of pid) xs) n ≡ length xs
of_pid [] n low = sum-zeros n
of_pid (p ∷ xs) n low =
    let rest = of_pid xs n (λ pid l. let h = low pid l in omega (arith, h)) in
    let inside : p.pid.0 < n = elim (cases_lt p.pid.0 n) [
      | inl l ↦ l
      | inr l ↦ (let h = low p.pid.0 l in let e : one_if (p.pid.0 == p.pid.0) ≡ 1 = ap one_if ((unsigned_Decides p.pid.0 p.pid.0).1 refl) in absurd (omega (arith, h, e)))
    ] in
    omega (arith, rest, sum-plus (λ pid. one_if (p.pid.0 == pid)) (λ pid. tally (is_of pid) xs) n, sum-inside p.pid.0 n inside)

module _ (l : FrameLife) (s : Sound l) where
  -- any list that has each valid place once
  pub places_are : (c : CountsPlaces l) → length c.places ≡ valid_places l
  places_are c =
      let n = suc (length l.sets) in
      let by_pid = of_pid c.places (suc (length l.sets)) (λ pid h. c.resident pid ∙ ap residents (no_set_past l.sets pid (omega (arith, h)))) in
      let same = sum-same (λ pid. tally (is_of pid) c.places) (λ pid. residents (set_in l.sets pid)) (suc (length l.sets)) (λ pid h. c.resident pid) in
      omega (arith, by_pid, same, sizes_by_pid l.sets)

  abbrev pub counts_places : CountsPlaces l
  counts_places = record { places = s.shown.places; once = s.shown.once; shares = s.shown.shares; resident = s.shown.resident }

  pub share_within : (f : ℕ) → (record_at l.frames f).shares ≤ valid_places l
  share_within f = omega (arith, s.shown.shares f, length-left (λ p. is_frame f (l.valid p)) s.shown.places, places_are counts_places)

  -- a valid place's frame is there
  pub frame_low : (p : Place) (f : Frame) → l.valid p ≡ Some f → f.0 < length l.frames.records
  frame_low p f e =
      let some = has_shares l.valid l.frames l.sets s.shown p f e in
      let owned = (s.standing f.0).fit.shown (lt-ltb 0 (record_at l.frames f.0).shares (omega (arith, some))) in
      kept_inside l.frames f.0 (or_left (is_some (record_at l.frames f.0).owner) (has_request (record_at l.frames f.0).request) owned)

  -- all shares together
  pub shares_are : sum_to (λ f. (record_at l.frames f).shares) (length l.frames.records) ≡ valid_places l
  shares_are =
      let n = length l.frames.records in
      let a = sum-same (λ f. (record_at l.frames f).shares) (λ f. tally (λ p. is_frame f (l.valid p)) s.shown.places) (length l.frames.records) (λ f h. sym (s.shown.shares f)) in
      let c = total-listed same_place same_place-self (λ p. sum_to (λ f. one_if (is_frame f (l.valid p))) (length l.frames.records)) (λ p. 1) s.shown.places (λ p h. each p h) in
      let e = places_are counts_places in
      omega (arith, a, sum-tally (λ f p. is_frame f (l.valid p)) s.shown.places (length l.frames.records), c, total-ones s.shown.places, e)
    where
      each : (p : Place) → 1 ≤ tally (same_place p) s.shown.places → sum_to (λ f. one_if (is_frame f (l.valid p))) (length l.frames.records) ≡ 1
      each p h = at (l.valid p) refl
        where
          at : (o : Option Frame) → l.valid p ≡ o → sum_to (λ f. one_if (is_frame f o)) (length l.frames.records) ≡ 1
          at None e = let none = s.shown.once p ∙ ap (λ (o : Option Frame). one_if (is_some o)) e in absurd (omega (arith, none, h))
          at (Some g) e = sum-inside g.0 (length l.frames.records) (frame_low p g e)

  pub all_shares : sum_to (λ f. (record_at l.frames f).shares) l.machine.frames ≡ valid_places l
  all_shares = ap (λ (n : ℕ). sum_to (λ f. (record_at l.frames f).shares) n) (sym s.framed) ∙ shares_are

  pub places_within : valid_places l ≤ maxima_in l.sets
  places_within = sizes_below l.sets (λ k t e. s.shown.below (suc k) t e)

  -- where each working set has room for at most n
  pub places_most : (n : ℕ) → ((pid : ℕ) (t : ResidentSet) → set_of l pid ≡ Some t → t.max ≤ n) → valid_places l ≤ length l.sets * n
  places_most n h = omega (arith, places_within, maxima_below l.sets n (λ k t e. h (suc k) t e))

  -- the process of a valid place has places
  pub resident_there : (p : Place) → is_some (l.valid p) ≡ true → 1 ≤ residents (set_of l p.pid.0)
  resident_there p there =
      let more = tally-more (same_place p) (is_of p.pid.0) s.shown.places (λ q h. ap (λ (x : Place). is_of p.pid.0 x) (sym (same_place-true p q h)) ∙ (unsigned_Decides p.pid.0 p.pid.0).1 refl) in
      omega (arith, s.shown.once p ∙ ap one_if there, more, s.shown.resident p.pid.0)

  -- where a pid has no process none of its places is valid
  pub nowhere : (p : Place) → set_of l p.pid.0 ≡ None → l.valid p ≡ None
  nowhere p none = none_of (l.valid p) (not_true (is_some (l.valid p)) (λ e. omega (arith, resident_there p e, ap residents none)))

  -- a private page has one place
  shows_own : (f : ℕ) (p : Pid) (v : Vpn) → (record_at l.frames f).owner ≡ Some (Private p v) → (x : Place) → is_frame f (l.valid x) ≡ true → same_place (record { pid = p; vpn = v }) x ≡ true
  shows_own f p v o x h = at (l.valid x) refl h
    where
      at : (m : Option Frame) → l.valid x ≡ m → is_frame f m ≡ true → same_place (record { pid = p; vpn = v }) x ≡ true
      at None e h = cc
      at (Some g) e h = s.shown.fits x g (Private p v) e (ap (λ (n : ℕ). (record_at l.frames n).owner) (eqb-true g.0 f h) ∙ o)

  pub private_share : (f : ℕ) (p : Pid) (v : Vpn) → (record_at l.frames f).owner ≡ Some (Private p v) → (record_at l.frames f).shares ≤ 1
  private_share f p v o =
      let le = tally-more (λ x. is_frame f (l.valid x)) (same_place (record { pid = p; vpn = v })) s.shown.places (shows_own f p v o) in
      omega (arith, le, s.shown.shares f, s.shown.once (record { pid = p; vpn = v }), one_most (is_some (l.valid (record { pid = p; vpn = v }))))

-- ---- from line 1 on the machine's numbers are in range, and there are at most 64 working sets

machine_is : (m : MachineOf) → is_valid_machine m ≡ true → IsMachine m
machine_is m h =
    let p = five_parts _ _ _ _ _ h in
    let q = three_parts _ _ _ p.0 in
    record {
      least_frames = leb-true 6 m.frames q.0;
      most_frames = leb-true m.frames 262144 q.1;
      most_slots = leb-true m.slots 262144 q.2;
      least_depth = leb-true 1 m.depth p.1;
      most_depth = leb-true m.depth 64 p.2;
      most_blocks = leb-true m.blocks 65536 p.3;
      enough_frames = leb-true (2 * m.depth + 4) m.frames p.4;
    }

length-resident : (sets : List ResidentSet) (pid : ℕ) (change : ℕ → ℕ) → length (with_resident sets pid change) ≡ length sets
length-resident sets zero change = refl
length-resident sets (suc k) change = at (slice_get sets k)
  where
    at : (o : Option ResidentSet) → length (resident_by o sets k change) ≡ length sets
    at None = refl
    at (Some s) = length-set sets k (record s { resident = change s.resident })

-- a move that begins no line
same_line : (l m : FrameLife) → m.line ≡ l.line → m.machine ≡ l.machine → m.kind ≡ l.kind → length m.sets ≡ length l.sets → InRange l → InRange m
same_line l m a b c d r = record {
  machine = λ h. subst IsMachine (sym b) (r.machine (omega (arith, a, h)));
  begun = λ h. let e = r.begun (sym (ap is_touch c) ∙ h) in omega (arith, a, e);
  sets = let e = r.sets in omega (arith, d, e);
}

range_unmapped : (o : Option Frame) (l : FrameLife) (p : Place) → InRange l → InRange (after_unmap_at o l p)
range_unmapped None l p r = r
range_unmapped (Some f) l p r = same_line l (after_unmap_at (Some f) l p) refl refl refl (length-resident l.sets p.pid.0 (λ n. n - 1)) r

module _ (l : FrameLife) (r : InRange l) (n : ℕ) where
  -- a line of the same machine
  same : (m : FrameLife) → m.line ≡ n → m.machine ≡ l.machine → length m.sets ≤ 64 → n ≡ l.line + 1 → nat_lt 0 l.line ≡ true → InRange m
  same m a b sets next later = record {
    machine = λ h. subst IsMachine (sym b) (r.machine (ltb-true 0 l.line later));
    begun = λ h. omega (arith, a, next);
    sets = sets;
  }

  range_at : (k : LineKind) → n ≡ l.line + 1 → is_legal_kind l k ≡ true → InRange (after_at l n k)
  range_at (kind.Machine frames slots depth blocks) next h = record {
    machine = λ g. machine_is (record { frames = frames; slots = slots; depth = depth; blocks = blocks }) (and_parts (l.line == 0) (is_valid_machine (record { frames = frames; slots = slots; depth = depth; blocks = blocks })) h).1;
    begun = λ g. omega (arith, next);
    sets = omega arith;
  }
  range_at (kind.Process pid min max) next h =
      let parts = three_parts _ _ _ h in
      let most = leb-true pid.0 64 parts.2 in
      let new : ResidentSet = record { min = min; max = max; resident = 0 } in
      let longer = length-append l.sets (new ∷ []) in
      same (after_at l n (kind.Process pid min max)) refl refl (omega (arith, eqb-true pid.0 (length l.sets + 1) parts.1, most, longer)) next parts.0
  range_at (kind.Grow count) next h =
      let parts = three_parts _ _ _ h in
      let was = r.machine (ltb-true 0 l.line parts.0) in
      record {
        machine = λ g. assumption (leb-true (l.machine.slots + count) 262144 parts.2);
        begun = λ g. omega (arith, next);
        sets = r.sets;
      }
  range_at kd next h = same (after_at l n kd) refl refl r.sets next h

pub range_move : (x : Move) (l : FrameLife) → InRange l → IsLegal x l → InRange (after_move l x)
range_move (move.At n k) l r h =
    let parts = three_parts _ _ _ h in
    range_at l r n k (eqb-true n (l.line + 1) parts.0) parts.2
range_move (move.Drop k) l r h = subst InRange (sym (dropped_as (l.stands k) l k)) (same_line l _ refl refl refl refl r)
range_move (move.Map f place) l r h = same_line l (after_move l (move.Map f place)) refl refl refl (length-resident l.sets place.pid.0 (λ n. n + 1)) r
range_move (move.Unmap place) l r h = range_unmapped (l.valid place) l place r
range_move (move.Add k None) l r h = same_line l (after_move l (move.Add k None)) refl refl refl refl r
range_move (move.Write f (stored.Slot t)) l r h = same_line l (after_move l (move.Write f (stored.Slot t))) refl refl refl refl r
range_move x l r h = same_line l (after_move l x) refl refl refl refl r

pub range_unstarted : InRange unstarted
range_unstarted = record { machine = λ h. absurd (omega (arith, h)); begun = λ h. cc; sets = omega arith }

pub in_range : (l : FrameLife) → ReachedByMoves l → InRange l
in_range l r = along InRange range_move r.moves unstarted l range_unstarted r.replays
