-- A frame is taken and made ready, given to a key or read into, and its page becomes valid.
use Rattle.std.proofs.Common.{◌≡◌, ℕ, Bool, true, false, List, [], ◌∷◌, ◌++◌, Option, Some, None, refl, sym, ap, ◌∙◌, subst, arith, inl, inr, ◌≤◌}
use Rattle.mm_types.proofs.{parts, not_false}
use Rattle.std.specs.Prelude.{◌&&◌, ◌||◌, not, if◌then◌else◌, is_none, is_some, option_map, unwrap_or}
use Rattle.std.specs.Cmp.{unsigned_Decides}
use Rattle.mm_types.specs.{Backing, Held, LineKind, Frame, Key, Move, Record, Request, Place, Pid}
use Rattle.mm_types.specs.declared.moves.LineKind.TheVariants as kind
use Rattle.mm_types.specs.declared.frames.Backing.TheVariants as backing
use Rattle.mm_types.specs.declared.devices.Direction.TheVariants as way
use Rattle.mm_types.specs.declared.faults.PageFault.TheVariants as fault
use Rattle.mm_types.specs.declared.frames.Held.TheVariants as held
use Rattle.mm_types.specs.declared.moves.Move.TheVariants as move
use Rattle.mm_move_rules.specs.{FrameLife, changed, same_key, is_empty, is_first, is_read, record_at, IsLegal, is_touch, is_access, is_zero, is_stored}
use Rattle.mm_move_rules.specs.{after_move, homed, Walk, is_thread, has_depth, touches, given, same_place, key_of_place, ResidentSet, is_shared, is_dead, is_live, is_write, is_again}
use Rattle.mm_move_rules.specs.{set_of, fits_place, is_below_max, is_at_max, owner_is, after_unmap_at, IsOldest}
use Rattle.mm_move_laws.proofs.{changed_else, changed_here, same_place-true, same_place-self, reached_sound}
use Rattle.mm_devices.proofs.{all_served_later, failed_later}
use Rattle.mm_store.specs.{Aim, IsGivenNext, IsUsedNext, is_had, with_read, FromFull, is_framed, wants_frame, is_copied, key_shown, key_written, IsSoiledFor}
use Rattle.mm_world.specs.{Need}
use Rattle.mm_types.specs.declared.frames.Request.TheVariants as request
use Rattle.mm_store.specs.Told.{Told}
use Rattle.mm_state_calls.specs.{StateOf, Made, DoesMoves, SomeFault, moved_with_call, moved, StateHolds}
use Rattle.mm_state_calls.proofs.{does_one, does_two}
use Rattle.mm_parts.specs.{own_after, own_ended, front, front_for_read, is_own_line, names_given, HasSet, left_by, MayMap, names_after_give, names_after_map}
use Rattle.mm_pager.specs.{Calm, TakesFrame, TookFrame, HasTried, IsFresh, IsUncopied, Piece, PutsFor, ReadsFor, Fails, FreeNow, Free, Stolen, Readies, Zeroed, Cleared}
use Rattle.mm_pager.specs.{LifeKept, NamesFor, Went, InQuietFrame, Placed}
use Rattle.mm_pager.proofs.AccessMoves.{piece_of, move_front, kept_made, kept_same, kept_then, set_there, went_one, moved_on}
use Rattle.mm_reclaim.proofs.{fault_by, moved_then}
use Rattle.mm_types.specs.declared.numbers.Key.TheVariants.{Private, Shared}
use Rattle.mm_frame_laws.specs.{IsSoiled, is_calm, NoPageFollows}
use Rattle.std.proofs.Math.Logic.{∥∥₁_elim}
use Rattle.std.proofs.Props.{props}
use Rattle.mm_move_laws.specs.{residents}
use Rattle.mm_frame_laws.proofs.{all_go, set_oldest}

-- ---- how a frame is made ready, and given or read into

-- ---- a frame is made ready

-- what that changes: neither the line, nor what is valid or in flight, and no device is called
pub record Ready (s y : StateOf) : Type 0 where
  pub rest : y ≡ moved s y
  pub life : LifeKept s.life y.life
  pub valid : y.life.valid ≡ s.life.valid
  pub flight : y.life.flight ≡ s.life.flight
  pub told : y.told ≡ s.told
  -- a page without a frame is where it was
  pub stands : (test : Held → Bool) (k : Key) → ((f : Frame) → test (held.Frame f) ≡ false) → test (s.life.stands k) ≡ true → test (y.life.stands k) ≡ true

pub ready_now : (s : StateOf) → Ready s s
ready_now s = record { rest = refl; life = kept_same s.life; valid = refl; flight = refl; told = refl; stands = λ test k n e. e }

-- where a page stands once another's frame is stolen
stays_at : (test : Held → Bool) (stands : Key → Held) (o k : Key) (v : Held) → (o ≡ k → ⊥) → test (stands k) ≡ true → test (changed same_key stands o v k) ≡ true
stays_at test stands o k v n e = ap test (changed_else stands o k v (λ q. n (sym q))) ∙ e

stolen_stays : (test : Held → Bool) (s y : StateOf) (f : Frame) (k : Key) → StateHolds s → test (held.Frame f) ≡ false → y.life ≡ after_move s.life (move.Steal f) → test (s.life.stands k) ≡ true → test (y.life.stands k) ≡ true
stolen_stays test s y f k h out e t = ap (λ (x : FrameLife). test (x.stands k)) e ∙ at (record_at s.life.frames f.0).owner refl
  where
    at : (o : Option Key) → (record_at s.life.frames f.0).owner ≡ o → test (homed s.life o (record_at s.life.frames f.0).backing k) ≡ true
    at None q = t
    at (Some o) q = stays_at test s.life.stands o k _ (λ same. let bad : true ≡ false = sym t ∙ ap (λ (j : Key). test (s.life.stands j)) (sym same) ∙ ap test (h.of_frame o f q) ∙ out in cc) t

pub freed_ready : (s y : StateOf) → StateHolds s → FreeNow s y → Ready s y
freed_ready s y h (Free e) = subst (λ (x : StateOf). Ready s x) (sym e) (ready_now s)
freed_ready s y h (Stolen z f m e) = record {
  rest = e;
  life = kept_made (move.Steal (front s.life.frames.standby)) s y m tt;
  valid = ap (λ (l : FrameLife). l.valid) m.life;
  flight = ap (λ (l : FrameLife). l.flight) m.life;
  told = m.told;
  stands = λ test k n t. stolen_stays test s y (front s.life.frames.standby) k h (n (front s.life.frames.standby)) m.life t;
}

pub readied_ready : (s y : StateOf) → StateHolds s → Readies s y → Ready s y
readied_ready s y h (Zeroed e) = subst (λ (x : StateOf). Ready s x) (sym e) (ready_now s)
readied_ready s y h (Cleared x none f m e) =
    let r = freed_ready s x h f in
    record {
      rest = moved_then s x y r.rest e;
      life = kept_then s.life x.life y.life r.life (kept_made (move.Clear (front x.life.frames.free)) x y m tt);
      valid = ap (λ (l : FrameLife). l.valid) m.life ∙ r.valid;
      flight = ap (λ (l : FrameLife). l.flight) m.life ∙ r.flight;
      told = m.told ∙ r.told;
      stands = λ test k n t. ap (λ (l : FrameLife). test (l.stands k)) m.life ∙ r.stands test k n t;
    }

-- ---- the lists

nothing_in : (xs : List ℕ) → is_empty xs ≡ true → xs ≡ []
nothing_in [] e = refl
nothing_in (x ∷ xs) e = cc

-- no frame is zeroed, still
none_zeroed : (s y : StateOf) → FreeNow s y → is_empty s.life.frames.zeroed ≡ true → is_empty y.life.frames.zeroed ≡ true
none_zeroed s y (Free e) none = ap (λ (x : StateOf). is_empty x.life.frames.zeroed) e ∙ none
none_zeroed s y (Stolen z f m e) none = ap (λ (l : FrameLife). is_empty l.frames.zeroed) m.life ∙ none

-- a frame that was stolen is the only free one, and the next that is cleared or read into
stolen_alone : (s y : StateOf) (f : Frame) → is_empty s.life.frames.free ≡ true → Made (move.Steal f) s y → y.life.frames.free ≡ f.0 ∷ []
stolen_alone s y f none m = ap (λ (l : FrameLife). l.frames.free) m.life ∙ ap (λ (xs : List ℕ). xs ++ f.0 ∷ []) (nothing_in s.life.frames.free none)

-- ---- a frame is wanted

pub wants_unframed : (a : Aim) (k : Key) (l : FrameLife) → a.need.key ≡ k → l.valid a.place ≡ None → not (is_framed (l.stands k)) ≡ true → wants_frame a.need a.place l ≡ true
wants_unframed a k l n e u = ap (λ (o : Option Frame). if is_some o then unwrap_or (option_map (λ (j : Key). not (is_live l j)) a.need.copy) false else not (is_framed (l.stands a.need.key))) e ∙ ap (λ (j : Key). not (is_framed (l.stands j))) n ∙ u

pub wants_copy : (n : Need) (place : Place) (k : Key) (l : FrameLife) → is_some (l.valid place) ≡ true → n.copy ≡ Some k → is_live l k ≡ false → wants_frame n place l ≡ true
wants_copy n place k l v c d = ap (λ (b : Bool). if b then unwrap_or (option_map (λ (j : Key). not (is_live l j)) n.copy) false else not (is_framed (l.stands n.key))) v ∙ ap (λ (o : Option Key). unwrap_or (option_map (λ (j : Key). not (is_live l j)) o) false) c ∙ ap not d

pub took_freed : {b : Bool} (a : Aim) (E : Walk → Type 0) (n : ℕ) (s y z : StateOf) → FreeNow s y → wants_frame a.need a.place s.life ≡ true → (q : TakesFrame a E b n y z) → ((f : Frame) → y.life.frames.free ≡ f.0 ∷ [] → (t : List ℕ) → IsUsedNext f (q t).moves) → TakesFrame a E b n s z
unfolding move_front
took_freed {b = b} a E n s y z (Free e) w q h = subst (λ (x : StateOf). TakesFrame a E b n x z) e q
took_freed a E n s y z (Stolen no_zeroed none m e) w q h =
    let f = front s.life.frames.standby in
    move_front a E (move.Steal f) n s y z m (λ t. refl) refl refl refl q (λ t. (w, h f (stolen_alone s y f none m) t))

pub took_ready : {b : Bool} (a : Aim) (E : Walk → Type 0) (n : ℕ) (s y z : StateOf) → Readies s y → ((x : StateOf) → FreeNow s x → wants_frame a.need a.place x.life ≡ true) → (q : TakesFrame a E b n y z) → ((t : List ℕ) → IsGivenNext (front y.life.frames.zeroed) (q t).moves) → TakesFrame a E b n s z
unfolding move_front
took_ready {b = b} a E n s y z (Zeroed e) w q h = subst (λ (x : StateOf). TakesFrame a E b n x z) e q
took_ready a E n s y z (Cleared x none f m e) w q h =
    let g = front x.life.frames.free in
    let empty : x.life.frames.zeroed ≡ [] = nothing_in x.life.frames.zeroed (none_zeroed s x f none) in
    let last : front y.life.frames.zeroed ≡ g = ap (λ (l : FrameLife). front l.frames.zeroed) m.life ∙ ap (λ (xs : List ℕ). front (xs ++ g.0 ∷ [])) empty in
    took_freed a E n s x z f (w s (Free refl)) (move_front a E (move.Clear g) n x y z m (λ t. refl) refl refl refl q (λ t. (w x f, subst (λ (v : Frame). IsGivenNext v (q t).moves) last (h t)))) (λ v only t. ap front only)

-- ---- a page is given a frame

-- a key without bytes is dead
pub dead_of : (k : Key) (s : StateOf) → StateHolds s → s.contents k ≡ None → is_dead (s.life.stands k) ≡ true
dead_of k s h e = not_false (is_dead (s.life.stands k)) (h.live k ∙ ap is_some e)

-- a page without a frame wants one, also once another's was stolen
wants_still : (a : Aim) (k : Key) (s : StateOf) → StateHolds s → a.need.key ≡ k → s.life.valid a.place ≡ None → is_framed (s.life.stands k) ≡ false → (x : StateOf) → FreeNow s x → wants_frame a.need a.place x.life ≡ true
wants_still a k s h n free u x f =
    let r = freed_ready s x h f in
    wants_unframed a k x.life n (ap (λ (v : Place → Option Frame). v a.place) r.valid ∙ free) (r.stands (λ d. not (is_framed d)) k (λ g. refl) (ap not u))

-- and so does a copy that has not come to be
pub copy_still : (a : Aim) (k : Key) (s : StateOf) → StateHolds s → a.need.copy ≡ Some k → is_some (s.life.valid a.place) ≡ true → s.contents k ≡ None → (x : StateOf) → FreeNow s x → wants_frame a.need a.place x.life ≡ true
copy_still a k s h c v e x f =
    let r = freed_ready s x h f in
    wants_copy a.need a.place k x.life (ap (λ (g : Place → Option Frame). is_some (g a.place)) r.valid ∙ v) c (ap not (r.stands is_dead k (λ g. refl) (dead_of k s h e)))

abbrev took_give : (a : Aim) (f : Frame) (k : Key) (y z : StateOf) → Made (move.Give f k) y z → k ≡ a.need.key → y.life.valid a.place ≡ None → (t : List ℕ) → Piece a IsFresh false 0 1 0 t y z
took_give a f k y z m n free t = piece_of a IsFresh false 0 1 0 t (move.Give f k ∷ []) y z (does_one (move.Give f k) y z m) (inl (n, free), tt) refl refl (omega arith) (omega arith)

pub went_give : (a : Aim) (f : Frame) (k : Key) (s y z : StateOf) → StateHolds s → Readies s y → f ≡ front y.life.frames.zeroed → Made (move.Give f k) y z → is_framed (s.life.stands k) ≡ false → a.need.key ≡ k → s.life.valid a.place ≡ None → TookFrame a 0 s z
went_give a f k s y z h r e m u n free = took_ready a IsFresh 0 s y z r (wants_still a k s h n free u) (took_give a f k y z m (sym n) (ap (λ (v : Place → Option Frame). v a.place) (readied_ready s y h r).valid ∙ free)) (λ t. e)

-- a frame that is zeroed already
pub went_given : (a : Aim) (f : Frame) (k : Key) (y z : StateOf) → Made (move.Give f k) y z → a.need.key ≡ k → y.life.valid a.place ≡ None → TookFrame a 0 y z
went_given a f k y z m n free = took_give a f k y z m (sym n) free

pub first_there : (xs : List ℕ) → is_empty xs ≡ false → is_first (front xs).0 xs ≡ true
first_there [] e = cc
first_there (x ∷ xs) e = grind arith

pub give_legal : (k : Key) (s y : StateOf) → StateHolds s → Readies s y → is_touch s.life.kind ≡ true → is_zero (s.life.stands k) ≡ true → is_empty y.life.frames.zeroed ≡ false → IsLegal (move.Give (front y.life.frames.zeroed) k) y.life
give_legal k s y h r t z some =
    let ready = readied_ready s y h r in
    let zero = ready.stands is_zero k (λ f. refl) z in
    let first = first_there y.life.frames.zeroed some in
    let touch : is_touch y.life.kind ≡ true = ap is_touch ready.life.kind ∙ t in
    grind (arith, zero, first, touch)

pub clear_legal : (s y : StateOf) → StateHolds s → FreeNow s y → is_touch s.life.kind ≡ true → is_empty s.life.frames.zeroed ≡ true → (is_empty y.life.frames.zeroed ≡ true → is_empty y.life.frames.free ≡ false) → IsLegal (move.Clear (front y.life.frames.free)) y.life
clear_legal s y h f t none some =
    let empty : is_empty y.life.frames.zeroed ≡ true = none_zeroed s y f none in
    let first = first_there y.life.frames.free (some empty) in
    let touch : is_touch y.life.kind ≡ true = ap is_touch (freed_ready s y h f).life.kind ∙ t in
    grind (arith, empty, first, touch)

-- ---- a page is read

read_first : (l : FrameLife) (xs ys : List ℕ) → (is_empty ys ≡ true → is_empty xs ≡ false)
    → (is_first (front_for_read (record l { frames = record l.frames { free = xs; zeroed = ys } })).0 xs || (is_empty xs && is_first (front_for_read (record l { frames = record l.frames { free = xs; zeroed = ys } })).0 ys)) ≡ true
read_first l (x ∷ xs) ys h = grind arith
read_first l [] (y ∷ ys) h = grind arith
read_first l [] [] h = let bad = h refl in cc

-- a read can begin where a frame is free or zeroed
pub read_legal : (k : Key) (l : FrameLife) → (is_empty l.frames.zeroed ≡ true → is_empty l.frames.free ≡ false) → is_stored (l.stands k) ≡ true → (is_access l.kind || (is_thread l.kind && has_depth l)) ≡ true → IsLegal (move.Read (front_for_read l) k) l
read_legal k l some stored fits = let first = read_first l l.frames.free l.frames.zeroed some in λ i. first i && stored i && fits i

pub access_touches : (k : LineKind) → is_access k ≡ true → is_touch k ≡ true
access_touches (kind.Access pid) e = refl
access_touches k e = cc

pub touches_touch : (pid : ℕ) (k : LineKind) → touches pid k ≡ true → is_touch k ≡ true
touches_touch pid (kind.Access p) e = refl
touches_touch pid (kind.Thread p) e = refl
touches_touch pid k e = cc

read_stands : (k : Key) (f : Frame) (s y : StateOf) → Made (move.Read f k) s y → y.life.stands k ≡ held.Frame f
read_stands k f s y m = ap (λ (l : FrameLife). l.stands k) m.life ∙ changed_here s.life.stands k (held.Frame f)

-- its frame has it, also as the access names it
got_there : (f : Frame) (k j : Key) (s y : StateOf) → StateHolds y → Made (move.Read f k) s y → j ≡ k → (record_at (after_move s.life (move.Read f k)).frames f.0).owner ≡ Some j
got_there f k j s y h m q = ap (λ (x : FrameLife). (record_at x.frames f.0).owner) (sym m.life) ∙ h.owner k f (read_stands k f s y m) ∙ ap (λ (x : Key). Some x) (sym q)

-- a frame that is free then is the one that it is read into
only_read : (l : FrameLife) (f : Frame) → l.frames.free ≡ f.0 ∷ [] → front_for_read l ≡ f
only_read l f e = ap (λ (xs : List ℕ). front_for_read (record l { frames = record l.frames { free = xs } })) e

module _ (a : Aim) (f : Frame) (k : Key) (s y m z : StateOf) (frees : FreeNow s y) (first : f ≡ front_for_read y.life) (holds : StateHolds m) (begins : Made (move.Read f k) y m) (hs : StateHolds s) (h : ReadsFor a k s) where
  still_free : y.life.valid a.place ≡ None
  still_free = ap (λ (v : Place → Option Frame). v a.place) (freed_ready s y hs frees).valid ∙ h.free

  wanted : wants_frame a.need a.place s.life ≡ true
  wanted = wants_unframed a k s.life h.needs h.free (ap not h.unframed)

  pub went_read : Made (move.Got f) m z → TookFrame a 1 s z
  went_read ends = took_freed a IsFresh 1 s y z frees wanted
      (λ t. piece_of a IsFresh false 1 1 0 t (move.Read f k ∷ move.Got f ∷ []) y z (does_two (move.Read f k) (move.Got f) y m z begins ends)
      ((sym h.needs, still_free, h.absent, λ e. inl refl), ((got_there f k a.need.key y m holds begins h.needs, still_free), tt)) refl refl (omega arith) (omega arith)) (λ g only t. first ∙ only_read y.life g only)

  pub stuck_read : Made (move.Bad f) m z → TakesFrame a (HasTried a fault.Read z) true 1 s z
  stuck_read ends = took_freed a (HasTried a fault.Read z) 1 s y z frees wanted
      (λ t. piece_of a (HasTried a fault.Read z) true 1 1 0 t (move.Read f k ∷ move.Bad f ∷ []) y z (does_two (move.Read f k) (move.Bad f) y m z begins ends)
      ((sym h.needs, still_free, h.absent, λ e. inr refl), ((got_there f k a.need.key y m holds begins h.needs, still_free), tt)) (λ e. cc) (refl, refl) (omega arith) (omega arith)) (λ g only t. first ∙ only_read y.life g only)

  -- it stays in flight where its line is no access
  pub took_read : (is_access y.life.kind ≡ true → ⊥) → TookFrame a 1 s m
  took_read never = took_freed a IsFresh 1 s y m frees wanted
      (λ t. piece_of a IsFresh false 1 1 0 t (move.Read f k ∷ []) y m (does_one (move.Read f k) y m begins) ((sym h.needs, still_free, h.absent, λ e. absurd (never e)), tt) refl refl (omega arith) (omega arith))
      (λ g only t. first ∙ only_read y.life g only)

-- ---- the line's own request has ended

pub called_by_read : (s z : StateOf) (n : ℕ) → s.own ≡ None → z ≡ record (moved_with_call s z) { own = own_ended s.own n; slots = s.slots; blocks = s.blocks } → z ≡ moved_with_call s z
called_by_read s z n o e =
    e ∙ ap (λ (x : Option Frame). record (moved_with_call s z) { own = x; slots = s.slots; blocks = s.blocks }) (ap (λ (x : Option Frame). own_ended x n) o ∙ sym o)
    ∙ ap (λ (x : List (List ℕ)). record (moved_with_call s z) { slots = x; blocks = s.blocks }) (sym (ap (λ (x : StateOf). x.slots) e))
    ∙ ap (λ (x : List (List ℕ)). record (moved_with_call s z) { blocks = x }) (sym (ap (λ (x : StateOf). x.blocks) e))

own_back : (b : Bool) (o : Option Frame) (f : Frame) → o ≡ None → own_ended (if b then Some f else o) f.0 ≡ o
own_back true o f e = ap (λ (b : Bool). if b then None else Some f) ((unsigned_Decides f.0 f.0).1 refl) ∙ sym e
own_back false o f e = ap (λ (x : Option Frame). own_ended x f.0) e ∙ sym e

-- a read of the line began and ended
pub read_called : (s y z : StateOf) (f : Frame) → s.own ≡ None → y ≡ record (moved s y) { own = own_after s.life.kind s.own f } → z ≡ record (moved_with_call y z) { own = own_ended y.own f.0; slots = y.slots; blocks = y.blocks } → z ≡ moved_with_call s z
read_called s y z f o b e =
    let w : z ≡ record (moved_with_call s z) { own = own_ended (own_after s.life.kind s.own f) f.0; slots = s.slots; blocks = s.blocks } =
    e ∙ ap (λ (x : StateOf). record (moved_with_call x z) { own = own_ended x.own f.0; slots = x.slots; blocks = x.blocks }) b in
    w ∙ ap (λ (x : Option Frame). record (moved_with_call s z) { own = x; slots = s.slots; blocks = s.blocks }) (own_back (is_own_line s.life.kind) s.own f o)
    ∙ ap (λ (x : List (List ℕ)). record (moved_with_call s z) { slots = x; blocks = s.blocks }) (sym (ap (λ (x : StateOf). x.slots) w))
    ∙ ap (λ (x : List (List ℕ)). record (moved_with_call s z) { blocks = x }) (sym (ap (λ (x : StateOf). x.blocks) w))

-- ---- a read has failed

-- its device failed, and the report tells the page
pub bad_fault : (f : Frame) (s z : StateOf) → StateHolds s → Made (move.Bad f) s z → SomeFault s z
bad_fault f s z h m = fault_by way.Read (record_at s.life.frames f.0).backing s z (h.reading f (parts (is_read (record_at s.life.frames f.0).request) _ m.legal).0) m.calls

pub bad_read : (f : Frame) (k : Key) (s z : StateOf) → StateHolds s → Made (move.Bad f) s z → s.life.stands k ≡ held.Frame f → z.told.last_failed_read ≡ Some k
bad_read f k s z h m e = ap (λ (t : Told). t.last_failed_read) m.told ∙ h.owner k f e

pub read_fails : (k : Key) (s z : StateOf) → z.told.last_failed_read ≡ Some k → SomeFault s z → z ≡ moved_with_call s z → Fails fault.Read k s z
read_fails k s z read failed same = record {
  causes = record { read = λ e. read; kept = λ e. cc; short = λ e. cc; failed = λ e. cc; none = λ e. cc; fault = failed };
  unframed = λ e. cc;
  same = same;
}

-- of the report a read that succeeds changes its count alone
read_keeps : (b : Backing) (t : Told) → ((with_read true b t).last_failed_read ≡ t.last_failed_read) × ((with_read true b t).search_writes ≡ t.search_writes)
read_keeps backing.None t = (refl, refl)
read_keeps b t = (refl, refl)

pub got_calm : (f : Frame) (s z : StateOf) → Made (move.Got f) s z → Calm s z
got_calm f s z m =
    let k = read_keeps (record_at s.life.frames f.0).backing s.told in
    record { read = ap (λ (t : Told). t.last_failed_read) m.told ∙ k.0; begun = λ n. ap (λ (t : Told). t.search_writes) m.told ∙ k.1 ∙ n }

-- ---- a page that is read

absent : (l : FrameLife) (h : Held) → is_stored h ≡ true → is_had l h ≡ false
absent l (held.Slot t) e = refl
absent l (held.Block b) e = refl
absent l h e = cc

-- a page on a device is in no frame
pub stored_unframed : (h : Held) → is_stored h ≡ true → is_framed h ≡ false
stored_unframed (held.Frame f) e = cc
stored_unframed h e = refl

pub reads_for : (a : Aim) (k : Key) (s t : StateOf) → a.need.key ≡ k → a.start ≡ s.life → is_stored (s.life.stands k) ≡ true → t.life.valid a.place ≡ None → t.life.stands ≡ s.life.stands → ReadsFor a k t
reads_for a k s t n e h free same = record {
  needs = n;
  absent = absent a.start (a.start.stands k) (ap (λ (l : FrameLife). is_stored (l.stands k)) e ∙ h);
  free = free;
  unframed = ap (λ (g : Key → Held). is_framed (g k)) same ∙ stored_unframed (s.life.stands k) h;
}

-- a fault of a device behind other moves
pub fault_later : (ms : List Move) (s t z : StateOf) → DoesMoves ms s t → SomeFault t z → SomeFault s z
fault_later ms s t z d (inl h) = inl (failed_later s.paging t.paging z.paging (all_served_later d.paging_calls s.paging t.paging d.paging) h)
fault_later ms s t z d (inr h) = inr (failed_later s.files t.files z.files (all_served_later d.file_calls s.files t.files d.files) h)

-- ---- what a page that is given a frame leaves, where its key may stand beside the tables

-- changed twice
pub changed_twice : {K V : Type 0} (same : K → K → Bool) (f : K → V) (k : K) (x v : V) → changed same (changed same f k x) k v ≡ changed same f k v
changed_twice {K} {V} same f k x v = λ i. λ q. by (same q k) (f q) i
  where
    by : (b : Bool) (y : V) → (if b then v else (if b then x else y)) ≡ (if b then v else y)
    by true y = refl
    by false y = refl

-- changed to what it was
pub young_still : {V : Type 0} (g : Place → V) (p : Place) (v : V) → g p ≡ v → g ≡ changed same_place g p v
young_still {V} g p v e = λ i. λ q. at q i
  where
    by : (q : Place) (b : Bool) → same_place q p ≡ b → g q ≡ (if b then v else g q)
    by q true h = ap g (same_place-true q p h) ∙ e
    by q false h = refl

    at : (q : Place) → g q ≡ changed same_place g p v q
    at q = by q (same_place q p) refl

named_at : (n : Place → Option Key) (p place : Place) (v : Option Key) → p ≡ place → changed same_place (changed same_place n p (Some (key_of_place p))) place v ≡ changed same_place n place v
named_at n p place v e = ap (λ (q : Place). changed same_place (changed same_place n q (Some (key_of_place q))) place v) e ∙ changed_twice same_place n place (Some (key_of_place place)) v

given_at : (o : Option Place) (n : Place → Option Key) (p place : Place) (v : Option Key) → p ≡ place → changed same_place (names_given o n p) place v ≡ changed same_place n place v
given_at None n p place v e = named_at n p place v e
given_at (Some q) n p place v e = at (same_place p q)
  where
    at : (b : Bool) → changed same_place (if b then n else changed same_place n p (Some (key_of_place p))) place v ≡ changed same_place n place v
    at true = refl
    at false = named_at n p place v e

pub given_names : (k : Key) (s y z : StateOf) → y.names ≡ s.names → z.names ≡ names_after_give y.aside y.names k → NamesFor k s z
given_names (Private p w) s y z n e = λ place v h.
    ap (λ (f : Place → Option Key). changed same_place f place v) e
    ∙ given_at y.aside y.names (record { pid = p; vpn = w }) place v (same_place-true (record { pid = p; vpn = w }) place h)
    ∙ ap (λ (f : Place → Option Key). changed same_place f place v) n
given_names (Shared a i) s y z n e = λ place v h. ap (λ (f : Place → Option Key). changed same_place f place v) (e ∙ n)

-- its place names what it named, where it stands beside the tables
pub given_beside : (k : Key) (s y z : StateOf) → y.names ≡ s.names → y.aside ≡ s.aside → z.names ≡ names_after_give y.aside y.names k → (place : Place) → s.aside ≡ Some place → k ≡ key_of_place place → z.names ≡ s.names
given_beside k s y z n o e place a q =
    e ∙ ap (names_after_give y.aside y.names) q ∙ ap (λ (x : Option Place). names_given x y.names place) (o ∙ a)
    ∙ ap (λ (b : Bool). if b then y.names else changed same_place y.names place (Some (key_of_place place))) (same_place-self place) ∙ n

-- its frame can be written
-- so is what is written to it
calm_again : (q : Request) → is_calm q ≡ true → is_write q ≡ true → is_again q ≡ true
calm_again request.WriteAgain c w = refl
calm_again q c w = cc

pub soiled_for : (k : Key) (r : Record) → r.owner ≡ Some k → IsSoiled r → IsSoiledFor k r
soiled_for k r o s = record { owner = o; changed = s.changed; again = calm_again r.request s.calm }

pub given_soiled : (l m : FrameLife) (f : Frame) (k : Key) → m ≡ after_move l (move.Give f k) → (record_at m.frames f.0).owner ≡ Some k → IsSoiled (record_at m.frames f.0)
given_soiled l m f k e o = elim (set_there l.frames.records f.0 (given k)) [
  | inl h ↦ let all = ap (λ (x : FrameLife). record_at x.frames f.0) e ∙ h in record { changed = ap (λ (r : Record). r.changed) all; calm = ap (λ (r : Record). is_calm r.request) all }
  | inr h ↦ let bad : None ≡ Some k = sym (ap (λ (x : FrameLife). (record_at x.frames f.0).owner) e ∙ ap (λ (r : Record). r.owner) h.0) ∙ o in cc
]

-- ---- A page becomes valid at a place

pub own_test : (test : Key → Bool) (r : Record) (k : Key) → r.owner ≡ Some k → owner_is test r ≡ test k
own_test test r k e = ap (λ (o : Option Key). unwrap_or (option_map test o) false) e

pub map_legal : (k : Key) (f : Frame) (place : Place) (s : StateOf) → StateHolds s → InQuietFrame k f s → fits_place place k ≡ true → s.life.valid place ≡ None → touches place.pid.0 s.life.kind ≡ true → is_below_max (set_of s.life place.pid.0) ≡ true → IsLegal (move.Map f place) s.life
map_legal k f place s h i fits free touch below =
    let own : owner_is (fits_place place) (record_at s.life.frames f.0) ≡ true = own_test (fits_place place) (record_at s.life.frames f.0) k (h.owner k f i.stands) ∙ fits in
    let quiet = i.quiet in
    let none : is_none (s.life.valid place) ≡ true = ap is_none free in
    grind (arith, own, quiet, none, touch, below)

pub may_map : (k : Key) (f : Frame) (place : Place) (s : StateOf) → StateHolds s → InQuietFrame k f s → (is_shared k ≡ true → s.contents (key_of_place place) ≡ None) → MayMap s.life f place
may_map k f place s h i alone = λ e. dead_of (key_of_place place) s h (alone (sym (own_test is_shared (record_at s.life.frames f.0) k (h.owner k f i.stands)) ∙ e))

placed_same : (s z : StateOf) (place : Place) (n : Place → Option Key) → s.aside ≡ None → z ≡ record (moved s z) { names = n; aside = left_by s.aside place } → z ≡ record (moved_with_call s z) { names = z.names }
placed_same s z place n a e =
    moved_on s z n s.aside (e ∙ ap (λ (x : Option Place). record (moved s z) { names = n; aside = x }) (ap (λ (x : Option Place). left_by x place) a ∙ sym a))
    ∙ ap (λ (x : Place → Option Key). record (moved_with_call s z) { names = x }) (sym (ap (λ (x : StateOf). x.names) e))

pub placed_by : (k : Key) (f : Frame) (place : Place) (s z : StateOf) → StateHolds s → InQuietFrame k f s → s.aside ≡ None → Made (move.Map f place) s z → z ≡ record (moved s z) { names = names_after_map s.life.frames s.names f place; aside = left_by s.aside place }
    → is_read (record_at z.life.frames f.0).request ≡ false → Placed k f place s z
placed_by k f place s z h i a m e quiet = record {
  valid = ap (λ (l : FrameLife). l.valid place) m.life ∙ ap (λ (b : Bool). if b then Some f else s.life.valid place) (same_place-self place);
  names = ap (λ (x : StateOf). x.names) e ∙ ap (λ (o : Option Key). changed same_place s.names place o) (h.owner k f i.stands);
  kind = ap (λ (l : FrameLife). l.kind) m.life;
  frame = record { stands = ap (λ (l : FrameLife). l.stands k) m.life ∙ i.stands; quiet = quiet };
  same = placed_same s z place (names_after_map s.life.frames s.names f place) a e;
}

-- so it is after another page was unmapped
pub placed_after : (k : Key) (f : Frame) (place : Place) (s y z : StateOf) → y.life.kind ≡ s.life.kind → y ≡ moved s y → Placed k f place y z → Placed k f place s z
placed_after k f place s y z kind e q = record {
  valid = q.valid;
  names = q.names ∙ ap (λ (x : StateOf). changed same_place x.names place (Some k)) e;
  kind = q.kind ∙ kind;
  frame = q.frame;
  same = q.same ∙ ap (λ (x : StateOf). record (moved_with_call x z) { names = z.names }) e;
}

-- ---- the piece

-- no copy has come to be, so it is the page of the access that becomes valid
not_copied : (a : Aim) (s : StateOf) → StateHolds s → IsUncopied a s → is_copied a.need s.life ≡ false
not_copied a s h u = at a.need.copy refl
  where
    at : (o : Option Key) → a.need.copy ≡ o → unwrap_or (option_map (λ (k : Key). is_live s.life k) o) false ≡ false
    at None e = refl
    at (Some k) e = h.live k ∙ ap is_some (u k e)

shown_of : (a : Aim) (k : Key) (f : Frame) (place : Place) (s : StateOf) → StateHolds s → PutsFor a k place s → InQuietFrame k f s → (record_at s.life.frames f.0).owner ≡ Some (key_shown a.need s.life)
shown_of a k f place s h p i =
    h.owner k f i.stands ∙ ap (λ (x : Key). Some x) (sym p.needs)
    ∙ ap (λ (b : Bool). Some (if b then key_written a.need else a.need.key)) (sym (not_copied a s h p.uncopied))

pub uncopied_then : (a : Aim) (s y : StateOf) → y.contents ≡ s.contents → IsUncopied a s → IsUncopied a y
uncopied_then a s y e u j c = ap (λ (g : Key → Option (List ℕ)). g j) e ∙ u j c

pub went_map : (a : Aim) (k : Key) (f : Frame) (place : Place) (s z : StateOf) → StateHolds s → InQuietFrame k f s → PutsFor a k place s → Made (move.Map f place) s z → Went a 0 s z
went_map a k f place s z h i p m = went_one a (move.Map f place) s z m (sym p.at, shown_of a k f place s h p i) refl refl (omega arith) (omega arith)

pub went_unmap_map : (a : Aim) (k : Key) (f : Frame) (place p : Place) (s y z : StateOf) → StateHolds y → InQuietFrame k f y → y ≡ moved s y → PutsFor a k place s → p.pid ≡ place.pid → s.life.valid place ≡ None → is_at_max (set_of s.life place.pid.0) ≡ true → IsOldest s.life s.ages None p → Made (move.Unmap p) s y → Made (move.Map f place) y z → Went a 0 s z
went_unmap_map a k f place p s y z h i same b q free full old u m =
    let e = b.at in
    let puts : PutsFor a k place y = record { at = e; needs = b.needs; uncopied = uncopied_then a s y (ap (λ (x : StateOf). x.contents) same) b.uncopied } in
    piece_of a IsFresh false 0 0 0 [] (move.Unmap p ∷ move.Map f place ∷ []) s z (does_two (move.Unmap p) (move.Map f place) s y z u m)
    (FromFull (q ∙ ap (λ (x : Place). x.pid) (sym e)) (ap s.life.valid e ∙ free) (ap (λ (x : Pid). is_at_max (set_of s.life x.0)) q ∙ full) old (f, ap (λ (x : Place). move.Map f x) (sym e)), ((sym e, shown_in u.life (shown_of a k f place y h puts i)), tt)) refl refl (omega arith) (omega arith)
  where
    shown_in : {l : FrameLife} → y.life ≡ l → (record_at y.life.frames f.0).owner ≡ Some (key_shown a.need y.life) → (record_at l.frames f.0).owner ≡ Some (key_shown a.need l)
    shown_in e h = subst (λ (l : FrameLife). (record_at l.frames f.0).owner ≡ Some (key_shown a.need l)) e h

-- ---- the oldest page of a full set

resident_full : (t : ResidentSet) → 1 ≤ t.max → is_at_max (Some t) ≡ true → 1 ≤ t.resident
resident_full t m e = grind (arith, m, e)

full_some : (l : FrameLife) (pid : ℕ) → HasSet l pid → is_at_max (set_of l pid) ≡ true → 1 ≤ residents (set_of l pid)
full_some l pid h e =
    let some = resident_full h.set h.some (ap is_at_max (sym h.found) ∙ e) in
    subst (λ (o : Option ResidentSet). 1 ≤ residents o) (sym h.found) some

-- a full set has a page
pub some_page : (s : StateOf) (pid : ℕ) → StateHolds s → HasSet s.life pid → is_at_max (set_of s.life pid) ≡ true → NoPageFollows s.life s.ages pid None → ⊥
some_page s pid h t full none = ∥∥₁_elim h.reached (hlevel props) (λ r.
    let old = set_oldest s.life (reached_sound s.life r) s.ages pid (full_some s.life pid t full) in
    none old.0 old.1.0 (sym (all_go s.life old.0) ∙ old.1.1.goes) tt)

pub unmapped_stands : (l : FrameLife) (p : Place) (o : Option Frame) → (after_unmap_at o l p).stands ≡ l.stands
unmapped_stands l p None = refl
unmapped_stands l p (Some f) = refl

-- a page stays in its frame where a place is valid no more
pub in_frame_then : (k : Key) (f : Frame) (s y : StateOf) (p : Place) → InQuietFrame k f s → y.life ≡ after_move s.life (move.Unmap p) → ((g : Frame) → (record_at y.life.frames g.0).request ≡ (record_at s.life.frames g.0).request) → InQuietFrame k f y
in_frame_then k f s y p i e r = record {
  stands = ap (λ (x : FrameLife). x.stands k) e ∙ ap (λ (g : Key → Held). g k) (unmapped_stands s.life p (s.life.valid p)) ∙ i.stands;
  quiet = ap is_read (r f) ∙ i.quiet;
}

pub unmapped_still : (l : FrameLife) (p q : Place) (o : Option Frame) → l.valid q ≡ None → (after_unmap_at o l p).valid q ≡ None
unmapped_still l p q None e = e
unmapped_still l p q (Some f) e = at (same_place q p)
  where
    at : (b : Bool) → (if b then None else l.valid q) ≡ None
    at true = refl
    at false = e
