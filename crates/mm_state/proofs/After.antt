-- What single moves leave of the record of a frame, and of a working set.
use Rattle.std.proofs.Common.{◌≡◌, ℕ, zero, suc, ◌-◌, ◌≤◌, Bool, true, false, Option, Some, None, refl, sym, ap, ◌∙◌, inl, inr, arith}
use Rattle.std.specs.Prelude.{◌&&◌, ◌||◌, not, is_some, is_none, nat_lt, if◌then◌else◌, option_map, unwrap_or, slice_get}
use Rattle.std.proofs.lemmas.Bool.{and_parts, not-true, eqb-true, lt-ltb, ltb-true}
use Rattle.mm_types.proofs.{same_or_not, get_set_same, get_within}
use Rattle.mm_types.specs.{Frame, Key, Place, Record, Request}
use Rattle.mm_types.specs.declared.frames.Request.TheVariants as request
use Rattle.mm_types.specs.declared.moves.Move.TheVariants as move
use Rattle.mm_move_rules.specs.{ResidentSet, blank, record_at, is_read, is_write, is_again, is_first, is_empty, has_request, shared, unshared, soiled}
use Rattle.mm_move_rules.specs.{read_done, without_slot, FrameLife, set_in, set_of, with_resident, resident_by, IsLegal, owner_is, fits_place, touches}
use Rattle.mm_move_rules.specs.{is_touch, is_below_max, is_at_max, is_access, is_thread, is_io, is_zero, is_stored, has_depth, may_unmap, after_move}
use Rattle.mm_move_rules.specs.{after_unmap_at, backing_of}
use Rattle.mm_move_laws.specs.{ReachedByMoves}
use Rattle.mm_move_laws.proofs.{changes_give, changes_read, read_has, owner_passes, facts_of, stored_backed}
use Rattle.mm_parts.specs.{end_of_read}
use Rattle.mm_frame_laws.specs.{IsSoiled, is_calm}
use Rattle.mm_frame_laws.proofs.{others_set, here_set, records_ended, owned_low, asked_low, shown_calm}

asked_write : (q : Request) → has_request q ≡ true → is_read q ≡ false → is_write q ≡ true
asked_write request.None h c = cc
asked_write request.Read h c = cc
asked_write request.Write h c = refl
asked_write request.WriteAgain h c = refl

calm_quiet : (q : Request) → has_request q ≡ false → is_calm q ≡ true
calm_quiet request.None e = refl
calm_quiet _ e = cc

module _ (l : FrameLife) (reached : ∥ ReachedByMoves l ∥₁) where
  pub give_quiet : (f : Frame) (k : Key) → IsLegal (move.Give f k) l → is_read (record_at (after_move l (move.Give f k)).frames f.0).request ≡ false
  give_quiet f k legal =
      let first = is_first f.0 l.frames.zeroed in
      let zero = is_zero (l.stands k) in
      let parts = and_parts first zero (and_parts (first && zero) (is_touch l.kind) legal).0 in
      ap (λ (r : Record). is_read r.request) (changes_give l.frames l.flight f.0 (facts_of l reached).standing k parts.0).here

  pub read_begun : (f : Frame) (k : Key) → IsLegal (move.Read f k) l → is_read (record_at (after_move l (move.Read f k)).frames f.0).request ≡ true
  read_begun f k legal =
      let there = is_first f.0 l.frames.free || (is_empty l.frames.free && is_first f.0 l.frames.zeroed) in
      let stored = is_stored (l.stands k) in
      let parts = and_parts there stored (and_parts (there && stored) (is_access l.kind || (is_thread l.kind && has_depth l)) legal).0 in
      ap (λ (r : Record). is_read r.request) (changes_read l.frames l.flight f.0 (facts_of l reached).standing k (backing_of (l.stands k)) (stored_backed (l.stands k) parts.1) parts.0).here

  pub got_quiet : (f : Frame) → IsLegal (move.Got f) l → is_read (record_at (after_move l (move.Got f)).frames f.0).request ≡ false
  got_quiet f legal =
      let r = record_at l.frames f.0 in
      let o = is_some r.owner in
      let reading = (and_parts (is_read r.request) (is_io l.kind || is_access l.kind) legal).0 in
      ap (λ (x : Record). is_read x.request) (here_set l.frames (after_move l (move.Got f)).frames f.0 (if o then read_done r else blank) (records_ended o (read_done r) l.frames f.0) (asked_low l.frames f.0 (read_has r.request reading)))
      ∙ quiet r o
    where
      quiet : (r : Record) (b : Bool) → is_read (if b then read_done r else blank).request ≡ false
      quiet r true = refl
      quiet r false = refl

  pub map_quiet : (f : Frame) (p : Place) → IsLegal (move.Map f p) l → is_read (record_at (after_move l (move.Map f p)).frames f.0).request ≡ false
  map_quiet f p legal =
      let r = record_at l.frames f.0 in
      let a = owner_is (fits_place p) r in
      let b = not (is_read r.request) in
      let v = is_none (l.valid p) in
      let t = touches p.pid.0 l.kind in
      let front = and_parts a b (and_parts (a && b) v (and_parts (a && b && v) t (and_parts (a && b && v && t) (is_below_max (set_of l p.pid.0)) legal).0).0).0 in
      let owner = owner_passes (fits_place p) r front.0 in
      ap (λ (x : Record). is_read x.request) (here_set l.frames (after_move l (move.Map f p)).frames f.0 (shared r) refl (owned_low l.frames f.0 (ap is_some owner.is)))
      ∙ not-true (is_read r.request) front.1

  pub soil_soiled : (f : Frame) → IsLegal (move.Soil f) l → IsSoiled (record_at (after_move l (move.Soil f)).frames f.0)
  soil_soiled f legal =
      let r = record_at l.frames f.0 in
      let test = (not r.changed && not (has_request r.request)) || (is_write r.request && not (is_again r.request)) in
      let some = ltb-true 0 r.shares (and_parts (nat_lt 0 r.shares) test (and_parts (nat_lt 0 r.shares && test) (is_touch l.kind) legal).0).0 in
      let calm = shown_calm l (facts_of l reached) f.0 (omega (arith, some)) in
      let owned = ((facts_of l reached).standing f.0).fit.shown (lt-ltb 0 r.shares some) in
      let here = here_set l.frames (after_move l (move.Soil f)).frames f.0 (soiled r) refl (owned_low l.frames f.0 owned) in
      record {
        changed = ap (λ (x : Record). x.changed) here ∙ dirty (has_request r.request) refl calm;
        calm = ap (λ (x : Record). is_calm x.request) here ∙ quiet r (has_request r.request) refl;
      }
    where
      dirty : (b : Bool) → has_request (record_at l.frames f.0).request ≡ b → is_read (record_at l.frames f.0).request ≡ false
          → (if b then record (record_at l.frames f.0) { request = request.WriteAgain } else record (record_at l.frames f.0) { changed = true; backing = without_slot (record_at l.frames f.0).backing }).changed ≡ true
      dirty true e calm = (((facts_of l reached).standing f.0).fit.writing (asked_write (record_at l.frames f.0).request e calm)).0
      dirty false e calm = refl

      quiet : (r : Record) (b : Bool) → has_request r.request ≡ b → is_calm (if b then record r { request = request.WriteAgain } else record r { changed = true; backing = without_slot r.backing }).request ≡ true
      quiet r true e = refl
      quiet r false e = calm_quiet r.request e

  pub unmap_requests : (p : Place) → IsLegal (move.Unmap p) l → (f : Frame) → (record_at (after_move l (move.Unmap p)).frames f.0).request ≡ (record_at l.frames f.0).request
  unmap_requests p legal f = by (l.valid p) refl legal
    where
      by : (o : Option Frame) → l.valid p ≡ o → unwrap_or (option_map (λ g. may_unmap l p (record_at l.frames g.0)) o) false ≡ true → (record_at (after_unmap_at o l p).frames f.0).request ≡ (record_at l.frames f.0).request
      by None e h = cc
      by (Some g) e h =
          let r = record_at l.frames g.0 in
          let some = (facts_of l reached).shares p g e in
          let owned = ((facts_of l reached).standing g.0).fit.shown (lt-ltb 0 r.shares (omega (arith, some))) in
          let m = after_unmap_at (Some g) l p in
          let is = records_ended true (unshared r) l.frames g.0 in
          elim (same_or_not f.0 g.0) [
            | inl s ↦ ap (λ (x : ℕ). (record_at m.frames x).request) s ∙ ap (λ (x : Record). x.request) (here_set l.frames m.frames g.0 (unshared r) is (owned_low l.frames g.0 owned)) ∙ sym (ap (λ (x : ℕ). (record_at l.frames x).request) s)
            | inr n ↦ ap (λ (x : Record). x.request) (others_set l.frames m.frames g.0 (unshared r) is f.0 n)
          ]

  -- a full working set has room once a page has gone
  pub unmap_below : ((pid : ℕ) (s : ResidentSet) → set_in l.sets pid ≡ Some s → 1 ≤ s.max) → (p : Place) → IsLegal (move.Unmap p) l → is_at_max (set_of l p.pid.0) ≡ true
      → is_below_max (set_of (after_move l (move.Unmap p)) p.pid.0) ≡ true
  unmap_below some p legal full = by (l.valid p) refl legal
    where
      sets : (pid : ℕ) → is_at_max (set_in l.sets pid) ≡ true → is_below_max (set_in (with_resident l.sets pid (λ n. n - 1)) pid) ≡ true
      sets zero h = cc
      sets (suc k) h = at (slice_get l.sets k) refl h
        where
          at : (o : Option ResidentSet) → slice_get l.sets k ≡ o → is_at_max o ≡ true → is_below_max (slice_get (resident_by o l.sets k (λ n. n - 1)) k) ≡ true
          at None e h = cc
          at (Some s) e h =
              let low = get_within l.sets k s e in
              let most = some (suc k) s e in
              let is = eqb-true s.resident s.max h in
              ap is_below_max (get_set_same l.sets k (record s { resident = s.resident - 1 }) low) ∙ lt-ltb (s.resident - 1) s.max (omega (arith, most, is))

      by : (o : Option Frame) → l.valid p ≡ o → unwrap_or (option_map (λ g. may_unmap l p (record_at l.frames g.0)) o) false ≡ true → is_below_max (set_of (after_unmap_at o l p) p.pid.0) ≡ true
      by None e h = cc
      by (Some g) e h = sets p.pid.0 full

pub read_quiet : (l : FrameLife) → ∥ ReachedByMoves l ∥₁ → (ok : Bool) (f : Frame) → IsLegal (move.Got f) l → ok ≡ true → is_read (record_at (after_move l (end_of_read ok f)).frames f.0).request ≡ false
read_quiet l reached true f legal e = got_quiet l reached f legal
read_quiet l reached false f legal e = cc
