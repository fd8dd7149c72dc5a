-- `add` and `drop` keep what holds.
use Rattle.std.proofs.Common.{◌≡◌, ◌≢◌, ℕ, Bool, true, false, cond, not, List, length, Option, Some, None, refl, sym, ap, ◌∙◌, subst, inr, arith, get_or-set_same, length-set, ◌+◌, ◌-◌, ◌≤◌, ◌<◌, [], ◌∷◌, ◌++◌, inl}
use Rattle.mm_types.proofs.Booleans.{not_false, not_true}
use Rattle.std.specs.Prelude.{is_some, ◌==◌, ◌&&◌, slice_set, option_map, unwrap_or}
use Rattle.std.proofs.lemmas.Bool.{and_parts, or_left, ltb-true, eqb-true, or_cases, lt-ltb, not-true, and_left, and_right}
use Rattle.mm_types.specs.{limit_of, Key, Block, Record, Held, Frame, Slot, Place, Backing}
use Rattle.mm_move_rules.specs.{FrameTable, record_at, blank, slot_of, with_record, off_lists, to_free, has_request, disowned, FrameLife, same_key, changed}
use Rattle.mm_move_rules.specs.{is_dead, IsLegal, is_unmapped, after_move, dropped_at, unlisted, slot_at, freed, ResidentSet, without_slot, is_read}
use Rattle.mm_move_rules.specs.{is_write, is_again, is_idle, shared, unshared, being_written, after_map, after_unmap, after_write, set_of, fits_place}
use Rattle.mm_move_rules.specs.{is_below_max, may_unmap, is_access, is_call, is_block, after_unmap_at}
use Rattle.mm_move_laws.specs.{one_if, times, holding, is_kept, sight, Stand, frame, owner_at, Owned, SlotsHeld, is_backing_for, Fit}
use Rattle.mm_move_laws.specs.Sound.{Sound}
use Rattle.mm_move_laws.proofs.Tallies.{times-without_same, times_on}
use Rattle.mm_move_laws.proofs.Sights.{fit_disowned, kept_inside, kept_not_fresh, stand_orphan, other-record, other-off, own-record, fit_shared, fit_unshared, fit_dirtied, fit_again, fit_being_written, slot_without, busy_off, on_modified}
use Rattle.mm_move_laws.proofs.Taking.{Changes, stands_kept, Flights, changes_freed, flights_same, flights_begun, changes_settled, changes_busy, changes_written, idle_is}
use Rattle.mm_move_laws.proofs.Owners.{is_frame_of, changed_here, owned_leave, owned_rehomed, homed_frame, homed_key, homed_flag, dead_not_paging, paged_add, paged_drop, paged_unblocked, owned_same, backing_kept}
use Rattle.mm_move_laws.proofs.SlotHolders.{slots_moved, slots_dropped, slots_rehomed, slots_homeless, slots_still, slots_given_up, slots_taken}
use Rattle.mm_move_laws.proofs.PlaceCounts.{shown_same, has_shares, shown_map, shown_unmap}
use Rattle.mm_move_laws.proofs.Requests.{requested, length-freed, write_has}
use Rattle.mm_move_laws.proofs.Parts.{three_parts, five_parts, four_parts}
use Rattle.mm_types.proofs.Tables.{differ}
use Rattle.mm_types.proofs.Options.{none_is}
use Rattle.mm_move_laws.proofs.Lowest.{lowest_free}
use Rattle.mm_move_laws.proofs.Sound.{begins_block, begins_slot, begun_few, sound_frame, owner_passes}
use Rattle.mm_types.specs.declared.frames.Held.TheVariants as held
use Rattle.mm_types.specs.declared.moves.Move.TheVariants as move
use Rattle.mm_types.specs.declared.frames.Backing.TheVariants as backing
use Rattle.mm_types.specs.declared.frames.Request.TheVariants as request
use Rattle.mm_types.specs.declared.moves.Stored.TheVariants as stored

dead_no_frame : (h : Held) → is_dead h ≡ true → is_frame_of h ≡ false
dead_no_frame (held.Frame f) e = cc
dead_no_frame _ e = refl

dead_no_slot : (h : Held) → is_dead h ≡ true → slot_at h ≡ None
dead_no_slot (held.Slot s) e = cc
dead_no_slot _ e = refl

pub dead_is : (h : Held) → not (not (is_dead h)) ≡ true → is_dead h ≡ true
dead_is h e = not_false (is_dead h) (not-true (not (is_dead h)) e)

-- a key that stands in no frame owns none
no_frame_owns : (d : FrameTable) (stands : Key → Held) (k : Key) → Owned d stands → is_frame_of (stands k) ≡ false → (f : ℕ) → owner_at d f ≢ Some k
no_frame_owns d stands k o out f e = let h = o.owned f k e in let bad : false ≡ true = sym out ∙ ap is_frame_of h in cc

module _ (l : FrameLife) (s : Sound l) where
  -- ---- `add`
  pub keeps_add : (k : Key) (b : Option Block) → IsLegal (move.Add k b) l → Sound (after_move l (move.Add k b))
  keeps_add k None h =
      let parts = three_parts _ _ _ h in
      let dead = dead_is (l.stands k) parts.0 in
      let out = dead_no_frame (l.stands k) dead in
      let limited : l.paging_keys + 1 ≤ limit_of l.machine = omega (arith, ltb-true l.paging_keys (limit_of l.machine) parts.1) in
      assumption (
        owned_rehomed l.frames l.stands k held.Zero out refl s.owned,
        slots_rehomed l.frames l.free_slots l.stands k held.Zero (sym (dead_no_slot (l.stands k) dead)) s.held,
        paged_add l.paging l.paging_keys k (dead_not_paging (l.paging k) (l.stands k) dead (s.homed.home k)) s.paged,
        homed_flag l.paging l.frames l.stands k true held.Zero refl (no_frame_owns l.frames l.stands k s.owned out) s.homed,
        limited,
      )
  keeps_add k (Some b) h =
      let dead = dead_is (l.stands k) (and_parts _ _ (and_parts _ _ (and_parts _ _ h).0).0).1 in
      assumption (
        owned_rehomed l.frames l.stands k (held.Block b) (dead_no_frame (l.stands k) dead) refl s.owned,
        slots_rehomed l.frames l.free_slots l.stands k (held.Block b) (sym (dead_no_slot (l.stands k) dead)) s.held,
        homed_key l.paging l.frames l.stands k (held.Block b) (ap not (dead_not_paging (l.paging k) (l.stands k) dead (s.homed.home k))) s.homed,
      )

  -- ---- `drop`
  -- a key without a frame
  drops_home : (k : Key) → l.paging k ≡ true → is_frame_of (l.stands k) ≡ false → Sound (record (unlisted l k) { free_slots = freed l.free_slots (slot_at (l.stands k)) })
  drops_home k paging out =
      let limited : l.paging_keys - 1 ≤ limit_of l.machine = let h = s.limited in omega (arith, h) in
      assumption (
        owned_rehomed l.frames l.stands k held.Dead out refl s.owned,
        slots_homeless l.frames l.free_slots l.stands k held.Dead refl s.held,
        paged_drop l.paging l.paging_keys k paging s.paged,
        homed_flag l.paging l.frames l.stands k false held.Dead refl (no_frame_owns l.frames l.stands k s.owned out) s.homed,
        limited,
        length-freed l.free_slots (slot_at (l.stands k)) ∙ s.slotted,
      )

  -- what is left of a frame whose key is dropped
  module _ (k : Key) (f : ℕ) (paging : l.paging k ≡ true) (at : l.stands k ≡ held.Frame (frame f)) (unshared : (record_at l.frames f).shares ≡ 0) where
    mine : owner_at l.frames f ≡ Some k
    mine = s.owned.owner k (frame f) at

    kept : is_kept (record_at l.frames f) ≡ true
    kept = or_left (is_some (record_at l.frames f).owner) (has_request (record_at l.frames f).request) (ap is_some mine)

    drops_frame : (d' : FrameTable) (r : Record) (free' : List Bool) → Changes l.frames d' l.flight l.flight f r → r.owner ≡ None → r.shares ≡ 0
        → SlotsHeld free' (holding d' (changed same_key l.stands k held.Dead)) → length free' ≡ length l.free_slots
        → Sound (record (unlisted l k) { frames = d'; free_slots = free' })
    drops_frame d' r free' c none shares slots size =
        let owned = owned_leave l.frames d' l.flight l.flight f r c l.stands s.owned k held.Dead none mine refl in
        let now = homed_frame l.frames d' l.flight l.flight f r c l.paging l.stands (λ q e. let bad : None ≡ Some q = sym none ∙ e in cc) s.homed in
        record {
          standing = stands_kept l.frames d' l.flight l.flight f r c s.standing;
          owned = owned;
          held = slots;
          shown = shown_same l.frames d' l.flight l.flight f r c l.valid l.sets s.shown (shares ∙ sym unshared) (inr unshared);
          paged = paged_drop l.paging l.paging_keys k paging s.paged;
          homed = homed_flag l.paging d' l.stands k false held.Dead refl (λ g e.
              let bad : held.Dead ≡ held.Frame (frame g) = sym (changed_here l.stands k held.Dead) ∙ (owned.owned g k e) in cc) now;
          limited = let h = s.limited in omega (arith, h);
          few = s.few;
          framed = c.size ∙ s.framed;
          slotted = size ∙ s.slotted;
        }

    -- it waits for its request
    drops_busy : has_request (record_at l.frames f).request ≡ true → Sound (record (unlisted l k) { frames = with_record l.frames f (disowned (record_at l.frames f)); free_slots = l.free_slots })
    drops_busy busy =
        let known = requested l.frames l.flight f s.standing busy in
        let new = disowned (record_at l.frames f) in
        let c : Changes l.frames (with_record l.frames f (disowned (record_at l.frames f))) l.flight l.flight f (disowned (record_at l.frames f)) = record {
          elsewhere = λ g n. other-record l.frames l.flight f g n (disowned (record_at l.frames f));
          here = get_or-set_same l.frames.records f (disowned (record_at l.frames f)) blank known.low;
          stand = subst Stand (sym (own-record l.frames l.flight f (disowned (record_at l.frames f)) known.low))
              (stand_orphan _ refl busy (fit_disowned (record_at l.frames f) (s.standing f).fit unshared busy (paged_unblocked (l.paging k) (record_at l.frames f).backing paging (s.homed.backing f k mine))) known.fresh known.standby known.modified ((s.standing f).flight ∙ ap one_if busy));
          size = length-set l.frames.records f (disowned (record_at l.frames f));
        } in
        drops_frame (with_record l.frames f (disowned (record_at l.frames f))) (disowned (record_at l.frames f)) l.free_slots c refl unshared
        (slots_moved l.frames (with_record l.frames f (disowned (record_at l.frames f))) l.flight l.flight f (disowned (record_at l.frames f)) c l.free_slots l.stands k held.Dead refl (sym (ap slot_at at)) s.held) refl

    -- it is free
    drops_idle : has_request (record_at l.frames f).request ≡ false → Sound (record (unlisted l k) { frames = to_free (off_lists l.frames f) f; free_slots = freed l.free_slots (slot_of (record_at l.frames f).backing) })
    drops_idle quiet =
        let flight : times f l.flight ≡ 0 = (s.standing f).flight ∙ ap one_if quiet in
        let flights : Flights l.flight l.flight f 0 = record { others = λ g n. refl; own = flight } in
        let freed_at = changes_freed (off_lists l.frames f) l.flight l.flight f flights (kept_inside l.frames f kept) (kept_not_fresh (sight l.frames l.flight f) (s.standing f) kept)
        (times-without_same f l.frames.standby) (times-without_same f l.frames.modified) in
        let c : Changes l.frames (to_free (off_lists l.frames f) f) l.flight l.flight f blank = record {
          elsewhere = λ g n. freed_at.elsewhere g n ∙ other-off l.frames l.flight f g n;
          here = freed_at.here;
          stand = freed_at.stand;
          size = freed_at.size;
        } in
        drops_frame (to_free (off_lists l.frames f) f) blank (freed l.free_slots (slot_of (record_at l.frames f).backing)) c refl refl
        (slots_dropped l.frames (to_free (off_lists l.frames f) f) l.flight l.flight f blank c l.free_slots l.stands k held.Dead refl (sym (ap slot_at at)) s.held)
        (length-freed l.free_slots (slot_of (record_at l.frames f).backing))

    drops_at : Sound (dropped_at (held.Frame (frame f)) l k)
    drops_at = elim (has_request (record_at l.frames f).request) as (λ b. has_request (record_at l.frames f).request ≡ b
        → Sound (record (unlisted l k) { frames = cond b (with_record l.frames f (disowned (record_at l.frames f))) (to_free (off_lists l.frames f) f); free_slots = freed l.free_slots (cond b None (slot_of (record_at l.frames f).backing)) })) [
          | true ↦ drops_busy
          | false ↦ drops_idle
        ] refl

  pub keeps_drop : (k : Key) → IsLegal (move.Drop k) l → Sound (after_move l (move.Drop k))
  keeps_drop k h =
      let parts = three_parts _ _ _ h in
      elim (l.stands k) as (λ x. l.stands k ≡ x → is_unmapped l x ≡ true → Sound (dropped_at x l k)) [
        | held.Frame f ↦ λ e u. drops_at k f.0 parts.1 e (eqb-true (record_at l.frames f.0).shares 0 u)
        | _ ↦ λ e u. subst (λ (o : Option ℕ). Sound (record (unlisted l k) { free_slots = freed l.free_slots o })) (ap slot_at e) (drops_home k parts.1 (ap is_frame_of e))
      ] refl parts.2

-- ---- `map`, `unmap`, `soil` and `write` keep what holds

-- ---- small readings of conditions

record RoomInSet (o : Option ResidentSet) : Type 0 where
  pub set : ResidentSet
  pub is : o ≡ Some set
  pub room : set.resident < set.max

room_in : (o : Option ResidentSet) → is_below_max o ≡ true → RoomInSet o
room_in None e = cc
room_in (Some s) e = record { set = s; is = refl; room = ltb-true s.resident s.max e }

not_zero : (n : ℕ) → 1 ≤ n → (n == 0) ≡ false
not_zero n h = differ n 0 (λ e. absurd (omega (arith, h, e)))

block_slot : (b : ℕ) (x : Backing) → is_block b x ≡ true → slot_of x ≡ None
block_slot b (backing.Block c) e = refl
block_slot b _ e = cc

block_backing : (p : Bool) (b : ℕ) (c : Block) (x : Backing) → is_block b x ≡ true → is_backing_for p x ≡ true → is_backing_for p (backing.Block c) ≡ true
block_backing p b c (backing.Block x) e i = i
block_backing p b c _ e i = cc

module _ (l : FrameLife) (s : Sound l) where
  -- ---- `map`
  pub keeps_map : (f : Frame) (place : Place) → IsLegal (move.Map f place) l → Sound (after_move l (move.Map f place))
  keeps_map f place h =
      let parts = five_parts _ _ _ _ _ h in
      let owner = owner_passes (fits_place place) (record_at l.frames f.0) parts.0 in
      let owned : is_some (record_at l.frames f.0).owner ≡ true = ap is_some owner.is in
      let kept : is_kept (record_at l.frames f.0) ≡ true = or_left (is_some (record_at l.frames f.0).owner) (has_request (record_at l.frames f.0).request) owned in
      let room = room_in (set_of l place.pid.0) parts.4 in
      let busy : is_idle (shared (record_at l.frames f.0)) ≡ false = and_left ((record_at l.frames f.0).shares + 1 == 0) (not (has_request (record_at l.frames f.0).request)) (not_zero ((record_at l.frames f.0).shares + 1) (omega arith)) in
      let c = changes_busy l.frames l.flight l.flight f.0 (times f.0 l.flight) (shared (record_at l.frames f.0)) (flights_same l.flight f.0) (kept_inside l.frames f.0 kept) owned
      (fit_shared (record_at l.frames f.0) (s.standing f.0).fit owned (not-true (is_read (record_at l.frames f.0).request) parts.1)) busy
      (kept_not_fresh (sight l.frames l.flight f.0) (s.standing f.0) kept) (s.standing f.0).flight in
      let d' = after_map l.frames f.0 in
      assumption (
        stands_kept l.frames d' l.flight l.flight f.0 (shared (record_at l.frames f.0)) c s.standing,
        owned_same l.frames d' l.flight l.flight f.0 (shared (record_at l.frames f.0)) c l.stands s.owned refl,
        slots_still l.frames d' l.flight l.flight f.0 (shared (record_at l.frames f.0)) c l.free_slots l.stands refl s.held,
        shown_map l.frames d' l.flight l.flight f.0 (shared (record_at l.frames f.0)) c l.valid l.sets s.shown place room.set (none_is (l.valid place) parts.2) room.is room.room refl refl
            (λ k e. let both : Some owner.key ≡ Some k = sym owner.is ∙ e in let same : owner.key ≡ k = cc in ap (fits_place place) (sym same) ∙ owner.passes),
        homed_frame l.frames d' l.flight l.flight f.0 (shared (record_at l.frames f.0)) c l.paging l.stands (λ k e. s.homed.backing f.0 k e) s.homed,
        c.size ∙ s.framed,
      )

  -- ---- `unmap`
  unmaps : (place : Place) (f : Frame) → l.valid place ≡ Some f → Sound (after_unmap_at (Some f) l place)
  unmaps place f there =
      let some = has_shares l.valid l.frames l.sets s.shown place f there in
      let fit = (s.standing f.0).fit in
      let owned = fit.shown (lt-ltb 0 (record_at l.frames f.0).shares (omega (arith, some))) in
      let kept : is_kept (record_at l.frames f.0) ≡ true = or_left (is_some (record_at l.frames f.0).owner) (has_request (record_at l.frames f.0).request) owned in
      let busy : is_idle (record_at l.frames f.0) ≡ false = and_left ((record_at l.frames f.0).shares == 0) (not (has_request (record_at l.frames f.0).request)) (not_zero (record_at l.frames f.0).shares some) in
      let off = busy_off (sight l.frames l.flight f.0) (s.standing f.0) busy in
      let c = changes_settled l.frames l.flight l.flight f.0 (times f.0 l.flight) (unshared (record_at l.frames f.0)) (flights_same l.flight f.0) (kept_inside l.frames f.0 kept) owned
      (fit_unshared (record_at l.frames f.0) fit owned ((not_true (is_read (record_at l.frames f.0).request) (λ e. omega (arith, some, (fit.reading e).0)))))
      (kept_not_fresh (sight l.frames l.flight f.0) (s.standing f.0) kept) off.0 off.1 (s.standing f.0).flight in
      let d' = after_unmap l.frames f.0 in
      assumption (
        stands_kept l.frames d' l.flight l.flight f.0 (unshared (record_at l.frames f.0)) c s.standing,
        owned_same l.frames d' l.flight l.flight f.0 (unshared (record_at l.frames f.0)) c l.stands s.owned refl,
        slots_still l.frames d' l.flight l.flight f.0 (unshared (record_at l.frames f.0)) c l.free_slots l.stands refl s.held,
        shown_unmap l.frames d' l.flight l.flight f.0 (unshared (record_at l.frames f.0)) c l.valid l.sets s.shown place there refl refl,
        homed_frame l.frames d' l.flight l.flight f.0 (unshared (record_at l.frames f.0)) c l.paging l.stands (λ k e. s.homed.backing f.0 k e) s.homed,
        c.size ∙ s.framed,
      )

  pub keeps_unmap : (place : Place) → IsLegal (move.Unmap place) l → Sound (after_move l (move.Unmap place))
  keeps_unmap place h = elim (l.valid place) as (λ o. l.valid place ≡ o → unwrap_or (option_map (λ f. may_unmap l place (record_at l.frames f.0)) o) false ≡ true → Sound (after_unmap_at o l place)) [
    | None ↦ λ e b. cc
    | Some f ↦ λ e b. unmaps place f e
  ] refl h

  -- ---- `soil`
  pub keeps_soil : (f : Frame) → IsLegal (move.Soil f) l → Sound (after_move l (move.Soil f))
  keeps_soil f h =
      let clean = not (record_at l.frames f.0).changed && not (has_request (record_at l.frames f.0).request) in
      let writing = is_write (record_at l.frames f.0).request && not (is_again (record_at l.frames f.0).request) in
      let parts = three_parts _ _ _ h in
      let fit = (s.standing f.0).fit in
      let owned = fit.shown parts.0 in
      let kept : is_kept (record_at l.frames f.0) ≡ true = or_left (is_some (record_at l.frames f.0).owner) (has_request (record_at l.frames f.0).request) owned in
      let shares = not_zero (record_at l.frames f.0).shares (omega (arith, ltb-true 0 (record_at l.frames f.0).shares parts.0)) in
      let busy : is_idle (record_at l.frames f.0) ≡ false = and_left ((record_at l.frames f.0).shares == 0) (not (has_request (record_at l.frames f.0).request)) shares in
      let off = busy_off (sight l.frames l.flight f.0) (s.standing f.0) busy in
      let low = kept_inside l.frames f.0 kept in
      let fresh = kept_not_fresh (sight l.frames l.flight f.0) (s.standing f.0) kept in
      let dirtied = record (record_at l.frames f.0) { changed = true; backing = without_slot (record_at l.frames f.0).backing } in
      let again = record (record_at l.frames f.0) { request = request.WriteAgain } in
      elim (or_cases clean writing parts.1) [
        | inl e ↦
            let quiet = not-true (has_request (record_at l.frames f.0).request) (and_parts (not (record_at l.frames f.0).changed) (not (has_request (record_at l.frames f.0).request)) e).1 in
            let c = changes_written l.frames l.flight l.flight f.0 (times f.0 l.flight) dirtied (flights_same l.flight f.0) low owned (fit_dirtied (record_at l.frames f.0) fit owned quiet) busy fresh off.0 off.1 (s.standing f.0).flight in
            let sound : Sound (record l { frames = with_record l.frames f.0 dirtied; free_slots = freed l.free_slots (slot_of (record_at l.frames f.0).backing) }) =
            sound_frame l s (with_record l.frames f.0 dirtied) l.flight (freed l.free_slots (slot_of (record_at l.frames f.0).backing)) f.0 dirtied c refl refl
            (λ k e b. backing_kept (l.paging k) (record_at l.frames f.0).backing b)
            (slots_given_up l.frames (with_record l.frames f.0 dirtied) l.flight l.flight f.0 dirtied c l.free_slots l.stands (slot_without (record_at l.frames f.0).backing) s.held)
            (length-freed l.free_slots (slot_of (record_at l.frames f.0).backing)) s.few in
            subst (λ (b : Bool). Sound (record l { frames = with_record l.frames f.0 (cond b again dirtied); free_slots = freed l.free_slots (cond b None (slot_of (record_at l.frames f.0).backing)) })) (sym quiet) sound
        | inr e ↦
            let write = (and_parts (is_write (record_at l.frames f.0).request) (not (is_again (record_at l.frames f.0).request)) e).0 in
            let has = write_has (record_at l.frames f.0).request write in
            let now : is_idle again ≡ false = and_left ((record_at l.frames f.0).shares == 0) (not (has_request request.WriteAgain)) shares in
            let c = changes_written l.frames l.flight l.flight f.0 (times f.0 l.flight) again (flights_same l.flight f.0) low owned (fit_again (record_at l.frames f.0) fit owned write) now fresh off.0 off.1
            ((s.standing f.0).flight ∙ ap one_if has) in
            let sound : Sound (record l { frames = with_record l.frames f.0 again }) =
            sound_frame l s (with_record l.frames f.0 again) l.flight l.free_slots f.0 again c refl refl (λ k e b. b)
            (slots_still l.frames (with_record l.frames f.0 again) l.flight l.flight f.0 again c l.free_slots l.stands refl s.held) refl s.few in
            subst (λ (b : Bool). Sound (record l { frames = with_record l.frames f.0 (cond b again dirtied); free_slots = freed l.free_slots (cond b None (slot_of (record_at l.frames f.0).backing)) })) (sym has) sound
      ]

  -- ---- `write`
  writes : (f : ℕ) (home : Backing) (free' : List Bool) → is_some (record_at l.frames f).owner ≡ true → (record_at l.frames f).changed ≡ true → has_request (record_at l.frames f).request ≡ false
      → Fit (being_written home (record_at l.frames f))
      → ((k : Key) → (record_at l.frames f).owner ≡ Some k → is_backing_for (l.paging k) (record_at l.frames f).backing ≡ true → is_backing_for (l.paging k) home ≡ true)
      → (Changes l.frames (after_write l.frames f home) l.flight (l.flight ++ f ∷ []) f (being_written home (record_at l.frames f)) → SlotsHeld free' (holding (after_write l.frames f home) l.stands))
      → length free' ≡ length l.free_slots
      → (is_access l.kind ≡ false → is_call l.kind ≡ false → length (l.flight ++ f ∷ []) ≤ l.machine.depth)
      → Sound (record l { frames = after_write l.frames f home; free_slots = free'; flight = l.flight ++ f ∷ [] })
  writes f home free' owned changed quiet fit backing slots size few =
      let kept : is_kept (record_at l.frames f) ≡ true = or_left (is_some (record_at l.frames f).owner) (has_request (record_at l.frames f).request) owned in
      let busy : is_idle (being_written home (record_at l.frames f)) ≡ false = and_right ((record_at l.frames f).shares == 0) false refl in
      let c = changes_busy l.frames l.flight (l.flight ++ f ∷ []) f (times f l.flight + 1) (being_written home (record_at l.frames f)) (flights_begun l.flight f) (kept_inside l.frames f kept) owned fit busy
      (kept_not_fresh (sight l.frames l.flight f) (s.standing f) kept) (omega (arith, (s.standing f).flight ∙ ap one_if quiet)) in
      sound_frame l s (after_write l.frames f home) (l.flight ++ f ∷ []) free' f (being_written home (record_at l.frames f)) c refl refl backing (slots c) size few

  pub keeps_write_slot : (f : Frame) (t : Slot) → IsLegal (move.Write f (stored.Slot t)) l → Sound (after_move l (move.Write f (stored.Slot t)))
  keeps_write_slot f t h =
      let parts = four_parts _ _ _ _ h in
      let known = on_modified (sight l.frames l.flight f.0) (s.standing f.0) (times_on f.0 l.frames.modified parts.0) in
      let idle = idle_is (record_at l.frames f.0) known.0 known.1.0 in
      let fit = (s.standing f.0).fit in
      let owner = owner_passes l.paging (record_at l.frames f.0) parts.1 in
      writes f.0 (backing.Slot t) (slice_set l.free_slots t.0 false) known.0 known.1.1 idle.quiet
      (fit_being_written (backing.Slot t) (record_at l.frames f.0) fit known.0 known.1.1 refl)
      (λ k e b. let both : Some owner.key ≡ Some k = sym owner.is ∙ e in let same : owner.key ≡ k = cc in ap l.paging (sym same) ∙ owner.passes)
      (λ c. slots_taken l.frames (after_write l.frames f.0 (backing.Slot t)) l.flight (l.flight ++ f.0 ∷ []) f.0 (being_written (backing.Slot t) (record_at l.frames f.0)) c l.free_slots l.stands t.0
      (lowest_free t.0 l.free_slots parts.2) (fit.dirty known.1.1 idle.quiet) refl s.held)
      (length-set l.free_slots t.0 false)
      (begun_few l f.0 (begins_slot l _ h))

  pub keeps_write_block : (f : Frame) (b : Block) → IsLegal (move.Write f (stored.Block b)) l → Sound (after_move l (move.Write f (stored.Block b)))
  keeps_write_block f b h =
      let parts = five_parts _ _ _ _ _ h in
      writes f.0 (backing.Block b) l.free_slots parts.1 parts.0 (not-true (has_request (record_at l.frames f.0).request) parts.2)
      (fit_being_written (backing.Block b) (record_at l.frames f.0) (s.standing f.0).fit parts.1 parts.0 refl)
      (λ k e i. block_backing (l.paging k) b.0 b (record_at l.frames f.0).backing parts.3 i)
      (λ c. slots_still l.frames (after_write l.frames f.0 (backing.Block b)) l.flight (l.flight ++ f.0 ∷ []) f.0 (being_written (backing.Block b) (record_at l.frames f.0)) c l.free_slots l.stands
      (sym (block_slot b.0 (record_at l.frames f.0).backing parts.3)) s.held)
      refl
      (begun_few l f.0 (begins_block l _ f.0 h))
