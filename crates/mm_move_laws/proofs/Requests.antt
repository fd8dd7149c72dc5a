-- `clear`, `steal`, `give` and `read` keep what holds.
use Rattle.std.proofs.Common.{◌≡◌, Bool, true, false, [], ◌∷◌, ◌++◌, length, Option, refl, sym, ap, ◌∙◌, subst, arith, ℕ, ◌+◌, ◌<◌, ◌≤◌, cond, not, List, Some, None, length-set}
use Rattle.std.specs.Prelude.{◌&&◌, ◌||◌, ◌==◌, is_some}
use Rattle.std.proofs.lemmas.Bool.{and_parts, or_right, not_from_true, and_right}
use Rattle.mm_types.specs.{Frame, Key, Record, Backing, Held}
use Rattle.mm_move_rules.specs.{FrameTable, record_at, blank, is_first, is_empty, given, being_read, slot_of, after_clear, after_steal, after_give}
use Rattle.mm_move_rules.specs.{after_read, FrameLife, same_key, changed, IsLegal, is_zero, is_stored, is_access, is_touch, is_zeroer, after_move, homed}
use Rattle.mm_move_rules.specs.{home_at, backing_of, slot_at, without_slot, without, with_record, settled, to_free, has_request, is_read, is_write}
use Rattle.mm_move_rules.specs.{is_again, read_done, write_done, write_lost, is_io, is_call, freed}
use Rattle.mm_move_laws.specs.{is_home_for, is_backing_for, is_backed, times, holding, is_kept, Fit, sight, FramesStand, SlotsHeld}
use Rattle.mm_move_laws.specs.Sound.{Sound}
use Rattle.mm_move_laws.proofs.Taking.{first_zeroed, changes_clear, changes_give, first_standby, changes_steal, fresh_read, changes_read, Changes, flights_ended, changes_settled, changes_freed}
use Rattle.mm_move_laws.proofs.Owners.{is_frame_of, owned_bind, owned_leave, homed_frame, homed_key, backing_is_home, backing_kept}
use Rattle.mm_move_laws.proofs.SlotHolders.{slots_still, slots_moved, slots_sent_home, slots_brought, slots_given_up}
use Rattle.mm_move_laws.proofs.Sound.{begins_read, begun_few, sound_frame, sound_key, some_owner, no_owner, ended_few, orphan_unshared}
use Rattle.mm_move_laws.proofs.Parts.{four_parts, three_parts}
use Rattle.mm_move_laws.proofs.Sights.{fit_read_done, fit_write_done, fit_write_lost, slot_without, kept_inside, kept_not_fresh, busy_off}
pub use Rattle.mm_move_rules.proofs.Requests.{read_has, write_has}
use Rattle.mm_types.specs.declared.frames.Backing.TheVariants as backing
use Rattle.mm_types.specs.declared.frames.Held.TheVariants as held
use Rattle.mm_types.specs.declared.moves.Move.TheVariants as move
use Rattle.mm_types.specs.declared.frames.Request.TheVariants as request

pub zero_is : (h : Held) → is_zero h ≡ true → h ≡ held.Zero
zero_is held.Zero e = refl
zero_is _ e = cc

pub home_is_no_frame : (b : Backing) → is_frame_of (home_at b) ≡ false
home_is_no_frame backing.None = refl
home_is_no_frame _ = refl

pub slot_of_home : (b : Backing) → slot_at (home_at b) ≡ slot_of b
slot_of_home backing.None = refl
slot_of_home _ = refl

pub stored_backed : (h : Held) → is_stored h ≡ true → is_backed (backing_of h) ≡ true
stored_backed (held.Slot s) e = refl
stored_backed _ e = cc

stored_no_frame : (h : Held) → is_stored h ≡ true → is_frame_of h ≡ false
stored_no_frame (held.Frame f) e = cc
stored_no_frame _ e = refl

home_is_backing : (b : Bool) (h : Held) → is_stored h ≡ true → is_home_for b h ≡ true → is_backing_for b (backing_of h) ≡ true
home_is_backing b (held.Slot s) e i = i
home_is_backing b (held.Block c) e i = i
home_is_backing b _ e i = cc

module _ (l : FrameLife) (s : Sound l) where
  abbrev d : FrameTable
  d = l.frames

  pub keeps_clear : (f : Frame) → IsLegal (move.Clear f) l → Sound (after_move l (move.Clear f))
  keeps_clear f h =
      let first = (and_parts (is_first f.0 d.free) (is_zeroer l.kind || (is_touch l.kind && is_empty d.zeroed)) h).0 in
      let c = changes_clear d l.flight f.0 s.standing first in
      sound_frame l s (after_clear d f.0) l.flight l.free_slots f.0 (record_at d f.0) c refl refl (λ k e b. b) (slots_still d (after_clear d f.0) l.flight l.flight f.0 (record_at d f.0) c l.free_slots l.stands refl s.held) refl s.few

  pub keeps_give : (f : Frame) (k : Key) → IsLegal (move.Give f k) l → Sound (after_move l (move.Give f k))
  keeps_give f k h =
      let parts = three_parts _ _ _ h in
      let c = changes_give d l.flight f.0 s.standing k parts.0 in
      let bare : record_at d f.0 ≡ blank = first_zeroed d l.flight f.0 s.standing parts.0 in
      let zero = zero_is (l.stands k) parts.1 in
      let paging : l.paging k ≡ true = ap (is_home_for (l.paging k)) (sym zero) ∙ s.homed.home k in
      let now = homed_frame d (after_give d f.0 k) l.flight l.flight f.0 (given k) c l.paging l.stands (λ q e. let same : k ≡ q = cc in ap l.paging (sym same) ∙ paging) s.homed in
      sound_key l s (after_give d f.0 k) l.flight l.free_slots f.0 (given k) c k (held.Frame f) refl (ap (λ (r : Record). r.shares) bare)
      (owned_bind d (after_give d f.0 k) l.flight l.flight f.0 (given k) c l.stands s.owned k refl (ap (λ (r : Record). r.owner) bare) (ap is_frame_of zero))
      (homed_key l.paging (after_give d f.0 k) l.stands k (held.Frame f) refl now)
      (slots_moved d (after_give d f.0 k) l.flight l.flight f.0 (given k) c l.free_slots l.stands k (held.Frame f) (sym (ap (λ (r : Record). slot_of r.backing) bare)) (sym (ap slot_at zero)) s.held)
      refl s.few

  -- the owner of a frame goes back to the frame's backing
  pub keeps_steal : (f : Frame) → IsLegal (move.Steal f) l → Sound (after_move l (move.Steal f))
  keeps_steal f h =
      let first = (four_parts _ _ _ _ h).0 in
      let c = changes_steal d l.flight f.0 s.standing first in
      let known = first_standby d l.flight f.0 s.standing first in
      let o = some_owner (record_at d f.0) known.idle.owned in
      let now = homed_frame d (after_steal d f.0) l.flight l.flight f.0 blank c l.paging l.stands (λ q e. cc) s.homed in
      let frame : l.stands o.0 ≡ held.Frame f = s.owned.owned f.0 o.0 o.1 in
      let kept : Sound (record l { frames = after_steal d f.0; stands = changed same_key l.stands o.0 (home_at (record_at d f.0).backing) }) =
      sound_key l s (after_steal d f.0) l.flight l.free_slots f.0 blank c o.0 (home_at (record_at d f.0).backing) refl known.idle.unshared
      (owned_leave d (after_steal d f.0) l.flight l.flight f.0 blank c l.stands s.owned o.0 (home_at (record_at d f.0).backing) refl o.1 (home_is_no_frame (record_at d f.0).backing))
      (homed_key l.paging (after_steal d f.0) l.stands o.0 (home_at (record_at d f.0).backing) (backing_is_home (l.paging o.0) (record_at d f.0).backing (s.homed.backing f.0 o.0 o.1)) now)
      (slots_sent_home d (after_steal d f.0) l.flight l.flight f.0 blank c l.free_slots l.stands o.0 (home_at (record_at d f.0).backing) refl (ap slot_at frame) (slot_of_home (record_at d f.0).backing) s.held)
      refl s.few in
      subst (λ (x : Option Key). Sound (record l { frames = after_steal d f.0; stands = homed l x (record_at d f.0).backing })) (sym o.1) kept

  pub keeps_read : (f : Frame) (k : Key) → IsLegal (move.Read f k) l → Sound (after_move l (move.Read f k))
  keeps_read f k h =
      let parts = three_parts _ _ _ h in
      let home = backing_of (l.stands k) in
      let c = changes_read d l.flight f.0 s.standing k home (stored_backed (l.stands k) parts.1) parts.0 in
      let bare : record_at d f.0 ≡ blank = (fresh_read d l.flight f.0 s.standing parts.0).bare in
      let new = after_read d f.0 k home in
      let now = homed_frame d new l.flight (l.flight ++ f.0 ∷ []) f.0 (being_read k home) c l.paging l.stands
      (λ q e. let same : k ≡ q = cc in subst (λ (x : Key). is_backing_for (l.paging x) home ≡ true) same (home_is_backing (l.paging k) (l.stands k) parts.1 (s.homed.home k))) s.homed in
      sound_key l s new (l.flight ++ f.0 ∷ []) l.free_slots f.0 (being_read k home) c k (held.Frame f) refl (ap (λ (r : Record). r.shares) bare)
      (owned_bind d new l.flight (l.flight ++ f.0 ∷ []) f.0 (being_read k home) c l.stands s.owned k refl (ap (λ (r : Record). r.owner) bare) (stored_no_frame (l.stands k) parts.1))
      (homed_key l.paging new l.stands k (held.Frame f) refl now)
      (slots_brought d new l.flight (l.flight ++ f.0 ∷ []) f.0 (being_read k home) c l.free_slots l.stands k (held.Frame f) (ap (λ (r : Record). slot_of r.backing) bare) refl refl s.held)
      refl
      (begun_few l f.0 (begins_read l f.0 k h))

-- ---- `got`, `bad`, `wrote` and `lost` keep what holds: requests that end

pub length-freed : (free : List Bool) (o : Option ℕ) → length (freed free o) ≡ length free
length-freed free None = refl
length-freed free (Some s) = length-set free s true

-- what is known of a frame with a request
pub record Requested (d : FrameTable) (q : List ℕ) (f : ℕ) : Type 0 where
  pub low : f < length d.records
  pub fresh : times f d.zeroed + times f d.free ≡ 0
  pub standby : times f d.standby ≡ 0
  pub modified : times f d.modified ≡ 0

pub requested : (d : FrameTable) (q : List ℕ) (f : ℕ) → FramesStand d q → has_request (record_at d f).request ≡ true → Requested d q f
requested d q f s h =
    let kept : is_kept (record_at d f) ≡ true = or_right (is_some (record_at d f).owner) (has_request (record_at d f).request) h in
    let off = busy_off (sight d q f) (s f) (and_right ((record_at d f).shares == 0) (not (has_request (record_at d f).request)) (not_from_true (has_request (record_at d f).request) h)) in
    record { low = kept_inside d f kept; fresh = kept_not_fresh (sight d q f) (s f) kept; standby = off.0; modified = off.1 }

module _ (l : FrameLife) (s : Sound l) (f : ℕ) (busy : has_request (record_at l.frames f).request ≡ true) where
  abbrev r : Record
  r = record_at l.frames f

  abbrev q' : List ℕ
  q' = without f l.flight

  fewer : is_access l.kind ≡ false → is_call l.kind ≡ false → length (without f l.flight) ≤ l.machine.depth
  fewer a b = let h = s.few a b in let e = ended_few l.flight f in omega (arith, h, e)

  known : Requested l.frames l.flight f
  known = requested l.frames l.flight f s.standing busy

  -- without an owner the frame goes to free, with its slot
  pub orphan_ends : is_some r.owner ≡ false → Sound (record l { frames = to_free l.frames f; free_slots = freed l.free_slots (slot_of r.backing); flight = without f l.flight })
  orphan_ends none =
      let o = no_owner r none in
      let c = changes_freed l.frames l.flight q' f (flights_ended l.flight f) known.low known.fresh known.standby known.modified in
      sound_frame l s (to_free l.frames f) q' (freed l.free_slots (slot_of r.backing)) f blank c (sym o) (sym (orphan_unshared r (s.standing f).fit o)) (λ k e b. cc)
      (slots_given_up l.frames (to_free l.frames f) l.flight q' f blank c l.free_slots l.stands refl s.held) (length-freed l.free_slots (slot_of r.backing)) fewer

  -- with an owner it settles
  pub owned_ends : (new : Record) (free' : List Bool) → is_some r.owner ≡ true → new.owner ≡ r.owner → new.shares ≡ r.shares → has_request new.request ≡ false → Fit new
      → ((b : Bool) → is_backing_for b r.backing ≡ true → is_backing_for b new.backing ≡ true)
      → ((d' : FrameTable) → Changes l.frames d' l.flight (without f l.flight) f new → SlotsHeld free' (holding d' l.stands)) → length free' ≡ length l.free_slots
      → Sound (record l { frames = settled (with_record l.frames f new) f; free_slots = free'; flight = without f l.flight })
  owned_ends new free' owned owner shares quiet fit backing slots size =
      let c = changes_settled l.frames l.flight q' f 0 new (flights_ended l.flight f) known.low (ap is_some owner ∙ owned) fit known.fresh known.standby known.modified (sym (ap (λ b. cond b 1 0) quiet)) in
      sound_frame l s (settled (with_record l.frames f new) f) q' free' f new c owner shares (λ k e b. backing (l.paging k) b) (slots (settled (with_record l.frames f new) f) c) size fewer

module _ (l : FrameLife) (s : Sound l) (f : Frame) where
  pub keeps_got : IsLegal (move.Got f) l → Sound (after_move l (move.Got f))
  keeps_got h =
      let read = (and_parts (is_read (record_at l.frames f.0).request) (is_io l.kind || is_access l.kind) h).0 in
      let busy = read_has (record_at l.frames f.0).request read in
      elim (is_some (record_at l.frames f.0).owner) as (λ b. is_some (record_at l.frames f.0).owner ≡ b → Sound (record l { frames = cond b (settled (with_record l.frames f.0 (read_done (record_at l.frames f.0))) f.0) (to_free l.frames f.0); free_slots = freed l.free_slots (cond b None (slot_of (record_at l.frames f.0).backing)); flight = without f.0 l.flight })) [
        | true ↦ λ o.
            owned_ends l s f.0 busy (read_done (record_at l.frames f.0)) l.free_slots o refl refl refl (fit_read_done (record_at l.frames f.0) (s.standing f.0).fit o read) (λ b k. k)
            (λ d' c. slots_still l.frames d' l.flight (without f.0 l.flight) f.0 (read_done (record_at l.frames f.0)) c l.free_slots l.stands refl s.held) refl
        | false ↦ λ o. orphan_ends l s f.0 busy o
      ] refl

  bad_owned : (k : Key) → (record_at l.frames f.0).owner ≡ Some k → is_read (record_at l.frames f.0).request ≡ true → Sound (record l { frames = to_free l.frames f.0; free_slots = l.free_slots; stands = changed same_key l.stands k (home_at (record_at l.frames f.0).backing); flight = without f.0 l.flight })
  bad_owned k o read =
      let busy = read_has (record_at l.frames f.0).request read in
      let known = requested l.frames l.flight f.0 s.standing busy in
      let c = changes_freed l.frames l.flight (without f.0 l.flight) f.0 (flights_ended l.flight f.0) known.low known.fresh known.standby known.modified in
      let now = homed_frame l.frames (to_free l.frames f.0) l.flight (without f.0 l.flight) f.0 blank c l.paging l.stands (λ q e. cc) s.homed in
      let home = home_at (record_at l.frames f.0).backing in
      let frame : l.stands k ≡ held.Frame f = s.owned.owned f.0 k o in
      sound_key l s (to_free l.frames f.0) (without f.0 l.flight) l.free_slots f.0 blank c k home refl ((s.standing f.0).fit.reading read).0
      (owned_leave l.frames (to_free l.frames f.0) l.flight (without f.0 l.flight) f.0 blank c l.stands s.owned k home refl o (home_is_no_frame (record_at l.frames f.0).backing))
      (homed_key l.paging (to_free l.frames f.0) l.stands k home (backing_is_home (l.paging k) (record_at l.frames f.0).backing (s.homed.backing f.0 k o)) now)
      (slots_sent_home l.frames (to_free l.frames f.0) l.flight (without f.0 l.flight) f.0 blank c l.free_slots l.stands k home refl (ap slot_at frame) (slot_of_home (record_at l.frames f.0).backing) s.held)
      refl (fewer l s f.0 busy)

  pub keeps_bad : IsLegal (move.Bad f) l → Sound (after_move l (move.Bad f))
  keeps_bad h =
      let read = (and_parts (is_read (record_at l.frames f.0).request) (is_io l.kind || is_access l.kind) h).0 in
      elim (record_at l.frames f.0).owner as (λ o. (record_at l.frames f.0).owner ≡ o → Sound (record l { frames = to_free l.frames f.0; free_slots = freed l.free_slots (cond (is_some o) None (slot_of (record_at l.frames f.0).backing)); stands = homed l o (record_at l.frames f.0).backing; flight = without f.0 l.flight })) [
        | None ↦ λ o. orphan_ends l s f.0 (read_has (record_at l.frames f.0).request read) (ap is_some o)
        | Some k ↦ λ o. bad_owned k o read
      ] refl

  wrote_owned : is_some (record_at l.frames f.0).owner ≡ true → is_write (record_at l.frames f.0).request ≡ true → (again : Bool) → is_again (record_at l.frames f.0).request ≡ again
      → Sound (record l { frames = settled (with_record l.frames f.0 (write_done (record_at l.frames f.0))) f.0; free_slots = freed l.free_slots (cond (not again) None (slot_of (record_at l.frames f.0).backing)); flight = without f.0 l.flight })
  wrote_owned o w again e =
      let known = fit_write_done (record_at l.frames f.0) (s.standing f.0).fit o w in
      let busy = write_has (record_at l.frames f.0).request w in
      elim again as (λ a. is_again (record_at l.frames f.0).request ≡ a → Sound (record l { frames = settled (with_record l.frames f.0 (write_done (record_at l.frames f.0))) f.0; free_slots = freed l.free_slots (cond (not a) None (slot_of (record_at l.frames f.0).backing)); flight = without f.0 l.flight })) [
        | true ↦ λ a.
            let made : write_done (record_at l.frames f.0) ≡ record (record_at l.frames f.0) { request = request.None; backing = without_slot (record_at l.frames f.0).backing } = ap (λ b. cond b (record (record_at l.frames f.0) { request = request.None; backing = without_slot (record_at l.frames f.0).backing }) (record (record_at l.frames f.0) { request = request.None; changed = false })) a in
            subst (λ (x : Record). Sound (record l { frames = settled (with_record l.frames f.0 x) f.0; free_slots = freed l.free_slots (slot_of (record_at l.frames f.0).backing); flight = without f.0 l.flight })) (sym made)
            (owned_ends l s f.0 busy (record (record_at l.frames f.0) { request = request.None; backing = without_slot (record_at l.frames f.0).backing }) (freed l.free_slots (slot_of (record_at l.frames f.0).backing)) o refl refl refl
            (subst Fit made known) (λ b k. backing_kept b (record_at l.frames f.0).backing k)
            (λ d' c. slots_given_up l.frames d' l.flight (without f.0 l.flight) f.0 _ c l.free_slots l.stands (slot_without (record_at l.frames f.0).backing) s.held) (length-freed l.free_slots (slot_of (record_at l.frames f.0).backing)))
        | false ↦ λ a.
            let made : write_done (record_at l.frames f.0) ≡ record (record_at l.frames f.0) { request = request.None; changed = false } = ap (λ b. cond b (record (record_at l.frames f.0) { request = request.None; backing = without_slot (record_at l.frames f.0).backing }) (record (record_at l.frames f.0) { request = request.None; changed = false })) a in
            subst (λ (x : Record). Sound (record l { frames = settled (with_record l.frames f.0 x) f.0; free_slots = l.free_slots; flight = without f.0 l.flight })) (sym made)
            (owned_ends l s f.0 busy (record (record_at l.frames f.0) { request = request.None; changed = false }) l.free_slots o refl refl refl
            (subst Fit made known) (λ b k. k)
            (λ d' c. slots_still l.frames d' l.flight (without f.0 l.flight) f.0 _ c l.free_slots l.stands refl s.held) refl)
      ] e

  pub keeps_wrote : IsLegal (move.Wrote f) l → Sound (after_move l (move.Wrote f))
  keeps_wrote h =
      let write = (and_parts (is_write (record_at l.frames f.0).request) (is_io l.kind || is_access l.kind || is_call l.kind) h).0 in
      elim (is_some (record_at l.frames f.0).owner) as (λ b. is_some (record_at l.frames f.0).owner ≡ b → Sound (record l { frames = cond b (settled (with_record l.frames f.0 (write_done (record_at l.frames f.0))) f.0) (to_free l.frames f.0); free_slots = freed l.free_slots (cond (b && not (is_again (record_at l.frames f.0).request)) None (slot_of (record_at l.frames f.0).backing)); flight = without f.0 l.flight })) [
        | true ↦ λ o. wrote_owned o write (is_again (record_at l.frames f.0).request) refl
        | false ↦ λ o. orphan_ends l s f.0 (write_has (record_at l.frames f.0).request write) o
      ] refl

  pub keeps_lost : IsLegal (move.Lost f) l → Sound (after_move l (move.Lost f))
  keeps_lost h =
      let write = (and_parts (is_write (record_at l.frames f.0).request) (is_io l.kind || is_access l.kind || is_call l.kind) h).0 in
      let busy = write_has (record_at l.frames f.0).request write in
      elim (is_some (record_at l.frames f.0).owner) as (λ b. is_some (record_at l.frames f.0).owner ≡ b → Sound (record l { frames = cond b (settled (with_record l.frames f.0 (write_lost (record_at l.frames f.0))) f.0) (to_free l.frames f.0); free_slots = freed l.free_slots (slot_of (record_at l.frames f.0).backing); flight = without f.0 l.flight })) [
        | true ↦ λ o.
            owned_ends l s f.0 busy (write_lost (record_at l.frames f.0)) (freed l.free_slots (slot_of (record_at l.frames f.0).backing)) o refl refl refl (fit_write_lost (record_at l.frames f.0) (s.standing f.0).fit o write)
            (λ b k. backing_kept b (record_at l.frames f.0).backing k)
            (λ d' c. slots_given_up l.frames d' l.flight (without f.0 l.flight) f.0 (write_lost (record_at l.frames f.0)) c l.free_slots l.stands (slot_without (record_at l.frames f.0).backing) s.held)
            (length-freed l.free_slots (slot_of (record_at l.frames f.0).backing))
        | false ↦ λ o. orphan_ends l s f.0 busy o
      ] refl
