-- The steps of a fault, from what their pieces promise.
use Rattle.std.proofs.Common.{◌≡◌, ℕ, Bool, true, false, List, [], ◌∷◌, Option, Some, None, refl, sym, ap, ◌∙◌, subst, arith, inl}
use Rattle.std.specs.Prelude.{◌&&◌, ◌||◌, IsTrue, not, is_some, if◌then◌else◌, ◌==◌, option_map, unwrap_or}
use Rattle.mm_move_rules.specs.{is_access, is_on, FrameLife, same_place, is_live, is_dead, key_of_place, is_short, after_move, after_unmap_at, Replays}
use Rattle.mm_move_rules.specs.{Walk, Through, walked, walked_all, SearchMove, Starved, IsVictim, may_go, is_unpinned, record_at, is_read, changed}
use Rattle.mm_move_rules.specs.{is_stored, is_zero, fits_place, is_call, is_io, is_touch, is_write, IsLegal}
use Rattle.mm_types.specs.declared.faults.PageFault.TheVariants as fault
use Rattle.mm_types.specs.{Held, LineKind, Move, Frame, Key, Place, PageFault}
use Rattle.mm_types.specs.declared.moves.LineKind.TheVariants as kind
use Rattle.mm_types.proofs.{both}
use Rattle.mm_types.specs.declared.moves.Move.TheVariants as move
use Rattle.mm_types.specs.declared.moves.Stored.TheVariants as stored
use Rattle.mm_world.specs.{Need, Tally}
use Rattle.mm_store.specs.{Aim, AccessMove, ReadFails, InShortage, is_framed, is_shortage, no_calls}
use Rattle.mm_state_calls.specs.{StateOf, Searched, walk_of, IsFlightOf, Made, moved, moved_with_call, StateHolds}
use Rattle.mm_pager.specs.{Anywhere, HasTried, Sought, Stuck, AccessBegins, Causes, KeepsButNames, Fails, LifeKept, Pins, TookFrame, IsFresh, PutsFor}
use Rattle.mm_pager.specs.{ReadsFor, InQuietFrame, GivesFrame, FindsNone, FreeNow, Brings, FailsToBring, Faulted, PutsAtPlace, Went}
use Rattle.mm_pager.proofs.AccessMoves.{piece_of, flight_same, called_on, kept_same, kept_then, kept_unmap, kept_within, piece_as, sought_then, went_nothing, went_then, keeps_then, keeps_called, moved_on, flight_on, flight_then, got_flight, read_flight, search_flight}
use Rattle.std.specs.Cmp.{unsigned_Decides}
use Rattle.mm_move_laws.proofs.{same_place-true, changed_here}
use Rattle.mm_pager.proofs.Taking.{access_touches, stored_unframed, uncopied_then, wants_copy, wants_unframed, unmapped_stands, Ready, freed_ready, went_read, stuck_read, read_called, read_fails, bad_read, bad_fault, got_calm, reads_for, fault_later, given_names, given_beside, given_soiled}
use Rattle.mm_types.specs.declared.frames.Held.TheVariants as held
use Rattle.mm_store.specs.Told.{Told}
use Rattle.mm_parts.specs.{front_for_read, own_after, own_ended, names_after_give}
use Rattle.mm_state_calls.proofs.{does_one}
use Rattle.mm_reclaim.proofs.{called_then, fault_from}

-- ---- A search, as a piece of an access: without a pinned frame where its place is not valid and its page has no frame, and while the frame of its place is pinned where it makes a copy

-- ---- what it leaves

-- a place that is valid in the pinned frame stays so, as does one that is not valid where none is pinned
pub record Left (pin : Option Frame) (l m : FrameLife) : Type 0 where
  pub life : LifeKept l m
  pub stands : m.stands ≡ l.stands
  pub valid : (p : Place) → l.valid p ≡ pin → m.valid p ≡ pin

left_same : (pin : Option Frame) (l : FrameLife) → Left pin l l
left_same pin l = record { life = kept_same l; stands = refl; valid = λ p e. e }

left_then : (pin : Option Frame) (l m n : FrameLife) → Left pin l m → Left pin m n → Left pin l n
left_then pin l m n p q = record { life = kept_then l m n p.life q.life; stands = q.stands ∙ p.stands; valid = λ x e. q.valid x (p.valid x e) }

-- a page that may go is in no pinned frame
none_pinned : (pin o : Option Frame) → is_unpinned pin o ≡ true → o ≡ pin → pin ≡ None
none_pinned None o u e = refl
none_pinned (Some f) o u e =
    let same : (f.0 == f.0) ≡ true = (unsigned_Decides f.0 f.0).1 refl in
    let bad : false ≡ true = ap not (sym same) ∙ sym (ap (is_unpinned (Some f)) e) ∙ u in
    cc

unmap_stays : (pin : Option Frame) (l : FrameLife) (p q : Place) (o : Option Frame) → (same_place q p ≡ true → pin ≡ None) → l.valid q ≡ pin → (after_unmap_at o l p).valid q ≡ pin
unmap_stays pin l p q None n v = v
unmap_stays pin l p q (Some f) n v = at (same_place q p) n
  where
    at : (b : Bool) → (b ≡ true → pin ≡ None) → (if b then None else l.valid q) ≡ pin
    at true none = sym (none refl)
    at false none = v

left_unmap : (pin : Option Frame) (l : FrameLife) (p : Place) → may_go l pin p ≡ true → Left pin l (after_move l (move.Unmap p))
left_unmap pin l p g = record {
  life = kept_unmap l p (l.valid p);
  stands = unmapped_stands l p (l.valid p);
  valid = λ q v. unmap_stays pin l p q (l.valid p) (λ e. none_pinned pin (l.valid p) g (ap l.valid (sym (same_place-true q p e)) ∙ v)) v;
}

left_one : (pin : Option Frame) (flight : List ℕ) (w : Walk) (m : Move) (ms : List Move) → SearchMove pin flight w m ms → Left pin w.life (after_move w.life m)
left_one pin flight w (move.Write f (stored.Slot s)) ms h = record { life = kept_within w.life (move.Write f (stored.Slot s)) tt; stands = refl; valid = λ p e. e }
left_one pin flight w (move.Write f (stored.Block b)) ms h = record { life = kept_within w.life (move.Write f (stored.Block b)) tt; stands = refl; valid = λ p e. e }
left_one pin flight w (move.Wrote f) ms h = record { life = kept_within w.life (move.Wrote f) tt; stands = refl; valid = λ p e. e }
left_one pin flight w (move.Lost f) ms h = record { life = kept_within w.life (move.Lost f) tt; stands = refl; valid = λ p e. e }
left_one pin flight w (move.Unmap p) ms h = left_unmap pin w.life p h.2.oldest.goes
left_one pin flight w m ms h = absurd h

left_all : (pin : Option Frame) (flight : List ℕ) (ms : List Move) (w : Walk) (m : FrameLife) → Through (SearchMove pin flight) w ms → Replays ms w.life m → Left pin w.life m
left_all pin flight [] w m h r = subst (λ (l : FrameLife). Left pin w.life l) (sym r) (left_same pin w.life)
left_all pin flight (x ∷ xs) w m h r = left_then pin w.life (after_move w.life x) m (left_one pin flight w x xs h.0) (left_all pin flight xs (walked w x) m h.1 r.1)

pub search_left : (pin : Option Frame) (found : Bool) (s z : StateOf) → Searched pin found s z → Left pin s.life z.life
search_left pin found s z h = left_all pin s.life.flight h.moves (walk_of s) z.life (h.each s.life.flight (flight_same s.life.flight pin s.life refl)) h.does.replays

-- ---- each move is one of the access

ends_access : (k : LineKind) (b : Bool) → is_touch k ≡ true → IsTrue (b && (is_io k || is_access k || is_call k)) → is_access k ≡ true
ends_access (kind.Access p) b t h = refl
ends_access (kind.Thread p) true t h = cc
ends_access (kind.Thread p) false t h = cc
ends_access k b t h = cc

begins_access : (pin : Option Frame) (flight : List ℕ) (w : Walk) (m : Move) (ms : List Move) → SearchMove pin flight w m ms → IsLegal m w.life → is_touch w.life.kind ≡ true → (is_short w.life ≡ true → is_access w.life.kind ≡ true) → is_access w.life.kind ≡ true
begins_access pin flight w (move.Write f s) ms h legal t c = c h.0
begins_access pin flight w (move.Wrote f) ms h legal t c = ends_access w.life.kind (is_write (record_at w.life.frames f.0).request) t legal
begins_access pin flight w (move.Lost f) ms h legal t c = ends_access w.life.kind (is_write (record_at w.life.frames f.0).request) t legal
begins_access pin flight w (move.Unmap p) ms h legal t c = c h.0
begins_access pin flight w m ms h legal t c = absurd h

module _ (pin : Option Frame) (a : Aim) (stands : Key → Held) (wants : (l : FrameLife) → l.stands ≡ stands → l.valid a.place ≡ pin → is_short l ≡ true → is_shortage a.need a.place l ≡ true) where
  access_one : (w : Walk) (m : Move) (ms : List Move) → is_access w.life.kind ≡ true → w.life.stands ≡ stands → w.life.valid a.place ≡ pin → SearchMove pin a.start.flight w m ms → AccessMove a w m ms
  access_one w (move.Write f s) ms c e v h = (wants w.life e v h.0, h.1, h.2)
  access_one w (move.Wrote f) ms c e v h = h
  access_one w (move.Lost f) ms c e v h = h
  access_one w (move.Unmap p) ms c e v h = InShortage c (wants w.life e v h.0) h.1 (subst (λ (o : Option Frame). IsVictim w.life w.ages o p) (sym v) h.2)
  access_one w m ms c e v h = absurd h

  access_all : (ms : List Move) (w : Walk) → is_access w.life.kind ≡ true → w.life.stands ≡ stands → w.life.valid a.place ≡ pin → Through (SearchMove pin a.start.flight) w ms → Through (AccessMove a) w ms
  access_all [] w c e v h = tt
  access_all (x ∷ xs) w c e v h =
      let left = left_one pin a.start.flight w x xs h.0 in
      (access_one w x xs c e v h.0, access_all xs (walked w x) (ap is_access left.life.kind ∙ c) (left.stands ∙ e) (left.valid a.place v) h.1)

  -- moves are only made in the line of an access
  access_from : (ms : List Move) (w : Walk) (l : FrameLife) → is_touch w.life.kind ≡ true → (is_short w.life ≡ true → is_access w.life.kind ≡ true) → w.life.stands ≡ stands → w.life.valid a.place ≡ pin → Through (SearchMove pin a.start.flight) w ms → Replays ms w.life l → Through (AccessMove a) w ms
  access_from [] w l t c e v h r = tt
  access_from (x ∷ xs) w l t c e v h r = access_all (x ∷ xs) w (begins_access pin a.start.flight w x xs h.0 r.0 t c) e v h

-- a search that an access makes, of a page that wants a frame
record Seeks (pin : Option Frame) (a : Aim) (s : StateOf) : Type 0 where
  wants : (l : FrameLife) → l.stands ≡ s.life.stands → l.valid a.place ≡ pin → is_short l ≡ true → is_shortage a.need a.place l ≡ true
  at : s.life.valid a.place ≡ pin
  flight : IsFlightOf a.start.flight pin s.life
  touch : is_touch s.life.kind ≡ true
  access : is_short s.life ≡ true → is_access s.life.kind ≡ true

search_each : (pin : Option Frame) (a : Aim) (found : Bool) (s z : StateOf) → Seeks pin a s → (h : Searched pin found s z) → Through (AccessMove a) (walk_of s) h.moves
search_each pin a found s z k h = access_from pin a s.life.stands k.wants h.moves (walk_of s) z.life k.touch k.access refl k.at (h.each a.start.flight k.flight) h.does.replays

-- it reads no page
none_fails : (pin : Option Frame) (flight : List ℕ) (ms : List Move) (w : Walk) → Through (SearchMove pin flight) w ms → ReadFails false ms
none_fails pin flight [] w h = refl
none_fails pin flight (move.Bad f ∷ ms) w h = absurd h.0
none_fails pin flight (m ∷ ms) w h = none_fails pin flight ms (walked w m) h.1

search_fine : (pin : Option Frame) (a : Aim) (found : Bool) (s z : StateOf) → Seeks pin a s → (h : Searched pin found s z) → ReadFails false h.moves
search_fine pin a found s z k h = none_fails pin a.start.flight h.moves (walk_of s) (h.each a.start.flight k.flight)

sought_in : (pin : Option Frame) (a : Aim) (s z : StateOf) → Seeks pin a s → Searched pin true s z → Sought a s z
sought_in pin a s z k h =
    let none = h.no_read in
    let one = h.one in
    piece_of a Anywhere false 0 0 1 [] h.moves s z h.does (search_each pin a true s z k h) tt (search_fine pin a true s z k h) (omega (arith, none)) (omega (arith, one))

stuck_in : (pin : Option Frame) (a : Aim) (s z : StateOf) → Seeks pin a s → Searched pin false s z → Stuck a fault.NoFrame 0 s z
stuck_in pin a s z k h =
    let none = h.no_read in
    let lost = h.lost refl in
    let left = search_left pin false s z h in
    piece_of a (HasTried a fault.NoFrame z) false 0 0 0 [] h.moves s z h.does (search_each pin a false s z k h)
    (λ e. (k.wants z.life left.stands (left.valid a.place k.at) (h.short refl), subst (λ (o : Option Frame). Starved o (walked_all (walk_of s) h.moves)) (sym (left.valid a.place k.at)) (h.starved refl))) (search_fine pin a false s z k h) (omega (arith, none)) (omega (arith, lost))

-- why nothing came of it, by the report
pub search_causes : (pin : Option Frame) (k : Key) (s z : StateOf) → Searched pin false s z → Causes fault.NoFrame k s z
search_causes pin k s z h = record { read = λ e. cc; kept = λ e. h.read; short = λ e. h.short refl; failed = λ e. h.fails refl; none = λ e n. h.none refl ∙ ap (λ (t : Tally). t.succeeded) n; fault = h.fault refl }

-- ---- without a pinned frame

seeks_by : (a : Aim) (k : Key) (s : StateOf) → is_access s.life.kind ≡ true → is_framed (s.life.stands k) ≡ false → AccessBegins a k s → Seeks None a s
seeks_by a k s c u b = record {
  wants = λ l e v h. both _ _ h (wants_unframed a k l b.needs v (ap (λ (x : Key → Held). not (is_framed (x k))) e ∙ ap not u));
  at = b.at;
  flight = λ f h. inl (ap (λ (x : FrameLife). is_on f.0 x.flight) (sym b.from) ∙ h);
  touch = access_touches s.life.kind c;
  access = λ e. c;
}

pub sought_by : (a : Aim) (k : Key) (s z : StateOf) → is_access s.life.kind ≡ true → is_framed (s.life.stands k) ≡ false → AccessBegins a k s → Searched None true s z → Sought a s z
sought_by a k s z c u b h = sought_in None a s z (seeks_by a k s c u b) h

pub stuck_by : (a : Aim) (k : Key) (s z : StateOf) → is_access s.life.kind ≡ true → is_framed (s.life.stands k) ≡ false → AccessBegins a k s → Searched None false s z → Stuck a fault.NoFrame 0 s z
stuck_by a k s z c u b h = stuck_in None a s z (seeks_by a k s c u b) h

pub search_fails : (k : Key) (s z : StateOf) → is_framed (s.life.stands k) ≡ false → Searched None false s z → Fails fault.NoFrame k s z
search_fails k s z u h = record {
  causes = search_causes None k s z h;
  unframed = λ e. ap (λ (x : Key → Held). is_framed (x k)) (search_left None false s z h).stands ∙ u;
  same = h.same;
}

pub search_keeps : (found : Bool) (s z : StateOf) → Searched None found s z → KeepsButNames s z
search_keeps found s z h = let l = search_left None found s z h in record {
  kind = l.life.kind;
  unmapped = l.valid;
  same = called_on s z h.same;
}

-- ---- while the frame of the access's own place is pinned

-- the line may search, where it must
pub record MaySeek (s : StateOf) : Type 0 where
  pub touch : is_touch s.life.kind ≡ true
  pub access : is_short s.life ≡ true → is_access s.life.kind ≡ true

seeks_pinned : (a : Aim) (place : Place) (f : Frame) (s : StateOf) → MaySeek s → Pins a place f s → Seeks (Some f) a s
seeks_pinned a place f s may p = record {
  wants = λ l e v h. both _ _ h (wants_copy a.need a.place (key_of_place place) l (ap is_some v) p.copy (ap (λ (x : Key → Held). not (is_dead (x (key_of_place place)))) e ∙ p.dead));
  at = ap s.life.valid p.at ∙ p.valid;
  flight = p.flight;
  touch = may.touch;
  access = may.access;
}

pub sought_pinned : (a : Aim) (place : Place) (f : Frame) (s z : StateOf) → MaySeek s → Pins a place f s → Searched (Some f) true s z → Sought a s z
sought_pinned a place f s z may p h = sought_in (Some f) a s z (seeks_pinned a place f s may p) h

pub stuck_pinned : (a : Aim) (place : Place) (f : Frame) (s z : StateOf) → MaySeek s → Pins a place f s → Searched (Some f) false s z → Stuck a fault.NoFrame 0 s z
stuck_pinned a place f s z may p h = stuck_in (Some f) a s z (seeks_pinned a place f s may p) h

-- ---- what a page asks that is brought behind it

pub found_stands : (test : Held → Bool) (k : Key) (s t : StateOf) → Searched None true s t → test (s.life.stands k) ≡ true → test (t.life.stands k) ≡ true
found_stands test k s t p e = ap (λ (x : Key → Held). test (x k)) (search_left None true s t p).stands ∙ e

pub found_access : (s t : StateOf) → Searched None true s t → is_access s.life.kind ≡ true → is_access t.life.kind ≡ true
found_access s t p e = ap is_access (search_left None true s t p).life.kind ∙ e

-- ---- the promises of the steps of a fault, from what their pieces promise

-- ---- a frame is given

given_moved : (k : Key) (s y z : StateOf) → y ≡ moved s y → z ≡ record (moved y z) { names = names_after_give y.aside y.names k } → z ≡ record (moved s z) { names = z.names }
given_moved k s y z r e =
    e
    ∙ ap (λ (x : StateOf). record (moved x z) { names = names_after_give y.aside y.names k }) r
    ∙ ap (λ (n : Place → Option Key). record (moved s z) { names = n }) (sym (ap (λ (x : StateOf). x.names) e))

-- a demand-zero page got a frame that was made ready
pub gives : (k : Key) (f : Frame) (s y z : StateOf) → Ready s y → Made (move.Give f k) y z → z ≡ record (moved y z) { names = names_after_give y.aside y.names k }
    → is_read (record_at z.life.frames f.0).request ≡ false → ((a : Aim) → a.need.key ≡ k → s.life.valid a.place ≡ None → TookFrame a 0 s z) → GivesFrame k f s z
gives k f s y z r m e quiet went =
    let w = given_moved k s y z r.rest e in
    record {
      went = went;
      keeps = record {
        kind = ap (λ (l : FrameLife). l.kind) m.life ∙ r.life.kind;
        unmapped = λ p h. ap (λ (l : FrameLife). l.valid p) m.life ∙ ap (λ (v : Place → Option Frame). v p) r.valid ∙ h;
        same = moved_on s z z.names s.aside w;
      };
      stored = (ap (λ (x : StateOf). x.slots) w, ap (λ (x : StateOf). x.blocks) w);
      calm = m.told ∙ ap (λ (t : Told). record t { search_writes = no_calls }) r.told;
      names = given_names k s y z (ap (λ (x : StateOf). x.names) r.rest) (ap (λ (x : StateOf). x.names) e);
      frame = record { stands = ap (λ (l : FrameLife). l.stands k) m.life ∙ changed_here y.life.stands k (held.Frame f); quiet = quiet };
      flight = ap (λ (l : FrameLife). l.flight) m.life ∙ r.flight;
      valid = ap (λ (l : FrameLife). l.valid) m.life ∙ r.valid;
      beside = given_beside k s y z (ap (λ (x : StateOf). x.names) r.rest) (ap (λ (x : StateOf). x.aside) r.rest) (ap (λ (x : StateOf). x.names) e);
      soiled = given_soiled y.life z.life f k m.life;
    }

-- ---- a page gets its frame

-- which it has already
pub brings_here : (k : Key) (f : Frame) (s : StateOf) → InQuietFrame k f s → Brings k f s s
brings_here k f s i = record {
  went = λ a b. went_nothing a 1 s;
  keeps = record { kind = refl; unmapped = λ p h. h; same = refl };
  calm = record { read = refl; begun = λ h. h };
  names = λ place v h. refl;
  frame = i;
  flight = flight_same s.life.flight (Some f) s.life refl;
}

pub zero_unframed : (h : Held) → is_zero h ≡ true → is_framed h ≡ false
zero_unframed (held.Frame f) e = cc
zero_unframed h e = refl

-- a read of it ends
pub brings_settled : (k : Key) (f : Frame) (s z : StateOf) → StateHolds s → s.life.stands k ≡ held.Frame f → Made (move.Got f) s z → z ≡ moved_with_call s z → is_read (record_at z.life.frames f.0).request ≡ false → Brings k f s z
brings_settled k f s z h e m same quiet = record {
  went = λ a b. piece_of a IsFresh false 1 0 0 [] (move.Got f ∷ []) s z (does_one (move.Got f) s z m) ((h.owner k f e ∙ ap (λ (x : Key). Some x) (sym b.needs), b.at), tt) refl refl (omega arith) (omega arith);
  keeps = keeps_called s z (ap (λ (l : FrameLife). l.kind) m.life) (ap (λ (l : FrameLife). l.valid) m.life) same;
  calm = got_calm f s z m;
  names = λ place v n. ap (λ (x : StateOf). changed same_place x.names place v) same;
  frame = record { stands = ap (λ (l : FrameLife). l.stands k) m.life ∙ e; quiet = quiet };
  flight = got_flight f s z m;
}

pub settling_fails : (k : Key) (f : Frame) (s z : StateOf) → StateHolds s → s.life.stands k ≡ held.Frame f → Made (move.Bad f) s z → z ≡ moved_with_call s z → FailsToBring k fault.Read s z
settling_fails k f s z h e m same = record {
  stuck = λ a b. piece_of a (HasTried a fault.Read z) true 1 0 0 [] (move.Bad f ∷ []) s z (does_one (move.Bad f) s z m) ((h.owner k f e ∙ ap (λ (x : Key). Some x) (sym b.needs), b.at), tt) (λ q. cc) (refl, refl) (omega arith) (omega arith);
  fails = read_fails k s z (bad_read f k s z h m e) (bad_fault f s z h m) same;
}

-- none is found for it
pub fails_to_find : (k : Key) (e : PageFault) (s z : StateOf) → is_access s.life.kind ≡ true → is_framed (s.life.stands k) ≡ false → FindsNone None e s z → FailsToBring k e s z
fails_to_find k e s z c u w = subst (λ (x : PageFault). FailsToBring k x s z) (sym w.why) (record {
  stuck = λ a b. piece_as a (HasTried a fault.NoFrame z) 0 1 0 0 0 0 [] s z (omega arith) (omega arith) (stuck_by a k s z c u b w.searched);
  fails = search_fails k s z u w.searched;
})

-- a frame is found for it, and given
pub brings_given : (k : Key) (f : Frame) (s t z : StateOf) → is_access s.life.kind ≡ true → is_framed (s.life.stands k) ≡ false → Searched None true s t → GivesFrame k f t z → Brings k f s z
brings_given k f s t z c u p w = record {
  went = λ a b. piece_as a IsFresh 0 1 0 0 0 0 [] s z (omega arith) (omega arith) (sought_then a IsFresh 0 s t z (sought_by a k s t c u b p) (w.went a b.needs ((search_left None true s t p).valid a.place b.at)));
  keeps = keeps_then s t z (search_keeps true s t p) w.keeps;
  calm = record { read = ap (λ (x : Told). x.last_failed_read) w.calm ∙ p.read; begun = λ h. ap (λ (x : Told). x.search_writes) w.calm };
  names = λ place v h. w.names place v h ∙ ap (λ (x : StateOf). changed same_place x.names place v) p.same;
  frame = w.frame;
  flight = flight_then s.life.flight (Some f) t.life z.life (search_flight true s t p) (flight_same t.life.flight (Some f) z.life w.flight);
}

-- a frame is found for it and made ready, and it is read in
module _ (k : Key) (f : Frame) (s t y m z : StateOf) (c : is_access s.life.kind ≡ true) (st : is_stored (s.life.stands k) ≡ true) (p : Searched None true s t) (ht : StateHolds t) (frees : FreeNow t y) (first : f ≡ front_for_read y.life) (holds : StateHolds m) (begins : Made (move.Read f k) y m) (own : s.own ≡ None)
    (from : m ≡ record (moved y m) { own = own_after y.life.kind y.own f }) (to : z ≡ record (moved_with_call m z) { own = own_ended m.own f.0; slots = m.slots; blocks = m.blocks }) where
  ready : Ready t y
  ready = freed_ready t y ht frees

  here : m.life.stands k ≡ held.Frame f
  here = ap (λ (l : FrameLife). l.stands k) begins.life ∙ changed_here y.life.stands k (held.Frame f)

  read_same : z ≡ moved_with_call t z
  read_same = read_called y m z f (ap (λ (x : StateOf). x.own) ready.rest ∙ ap (λ (x : StateOf). x.own) p.same ∙ own) from to ∙ ap (λ (x : StateOf). moved_with_call x z) ready.rest

  reads : (a : Aim) → AccessBegins a k s → ReadsFor a k t
  reads a b = let left = search_left None true s t p in reads_for a k s t b.needs b.from st (left.valid a.place b.at) left.stands

  pub brings_read : Made (move.Got f) m z → is_read (record_at z.life.frames f.0).request ≡ false → Brings k f s z
  brings_read ends quiet = record {
    went = λ a b. sought_then a IsFresh 1 s t z (sought_by a k s t c (stored_unframed (s.life.stands k) st) b p) (went_read a f k t y m z frees first holds begins ht (reads a b) ends);
    keeps = keeps_then s t z (search_keeps true s t p) (keeps_called t z (ap (λ (l : FrameLife). l.kind) ends.life ∙ ap (λ (l : FrameLife). l.kind) begins.life ∙ ready.life.kind)
        (ap (λ (l : FrameLife). l.valid) ends.life ∙ ap (λ (l : FrameLife). l.valid) begins.life ∙ ready.valid) read_same);
    calm = record {
      read = (got_calm f m z ends).read ∙ ap (λ (x : Told). x.last_failed_read) begins.told ∙ ap (λ (x : Told). x.last_failed_read) ready.told ∙ p.read;
      begun = λ h. (got_calm f m z ends).begun (ap (λ (x : Told). x.search_writes) begins.told);
    };
    names = λ place v h. ap (λ (x : StateOf). changed same_place x.names place v) read_same ∙ ap (λ (x : StateOf). changed same_place x.names place v) p.same;
    frame = record { stands = ap (λ (l : FrameLife). l.stands k) ends.life ∙ here; quiet = quiet };
    flight = flight_then s.life.flight (Some f) t.life z.life (search_flight true s t p)
        (flight_then t.life.flight (Some f) y.life z.life (flight_same t.life.flight None y.life ready.flight) (read_flight k f y m z begins ends));
  }

  pub reading_fails : Made (move.Bad f) m z → FailsToBring k fault.Read s z
  reading_fails ends = record {
    stuck = λ a b. sought_then a (HasTried a fault.Read z) 1 s t z (sought_by a k s t c (stored_unframed (s.life.stands k) st) b p) (stuck_read a f k t y m z frees first holds begins ht (reads a b) ends);
    fails = read_fails k s z (bad_read f k m z holds ends here)
        (fault_later p.moves s t z p.does (fault_from t m z (begins.calls.0 ∙ ap (λ (x : StateOf). x.paging) ready.rest) (begins.calls.1 ∙ ap (λ (x : StateOf). x.files) ready.rest) (bad_fault f m z holds ends)))
        (called_then s t z p.same read_same);
  }

-- ---- it becomes valid

pub faulted : (k : Key) (f : Frame) (place : Place) (s y z : StateOf) → fits_place place k ≡ true → Brings k f s y → ((a : Aim) → PutsFor a k place y → Went a 0 y z) → PutsAtPlace k f place y z → Faulted k f place s z
faulted k f place s y z fits b w p = record {
  went = λ a e h. went_then a IsFresh 1 0 s y z (b.went a h) (w a (record { at = e; needs = h.needs; uncopied = uncopied_then a s y (ap (λ (x : StateOf). x.contents) b.keeps.same) h.uncopied }));
  calm = record { read = ap (λ (t : Told). t.last_failed_read) p.told ∙ b.calm.read; begun = λ h. ap (λ (t : Told). t.search_writes) p.told ∙ b.calm.begun h };
  placed = record {
    valid = p.placed.valid;
    names = p.placed.names ∙ b.names place (Some k) fits;
    kind = p.placed.kind ∙ b.keeps.kind;
    frame = p.placed.frame;
    same = p.placed.same ∙ ap (λ (x : StateOf). record (moved_with_call x z) { names = z.names }) b.keeps.same;
  };
  flight = flight_on s.life.flight (Some f) y.life z.life b.flight p.flight;
}
