-- What `got`, `bad`, `wrote`, `lost` and `unmap` leave of the frame database.
use Rattle.std.proofs.Common.{◌≡◌, ℕ, ◌<◌, Bool, true, false, cond, not, List, [], ◌∷◌, ◌++◌, length, Option, Some, refl, sym, ap, ◌∙◌, subst, arith, get_or-set_same, get_or-set_other, length-set}
use Rattle.std.specs.Prelude.{◌&&◌, ◌||◌, is_some}
use Rattle.std.proofs.lemmas.Bool.{and_parts}
use Rattle.mm_types.specs.{Frame, Place, Record}
use Rattle.mm_types.specs.declared.moves.Move.TheVariants as move
use Rattle.mm_move_rules.specs.{FrameTable, record_at, blank, has_request, is_read, is_write, is_idle, with_record, settled, settled_by, to_free, read_done}
use Rattle.mm_move_rules.specs.{write_done, write_lost, unshared, FrameLife, IsLegal, is_io, is_access, is_call, after_move, after_unmap_at}
use Rattle.mm_move_laws.specs.{at_end_if, ListsAre, ended_as, Settles}
use Rattle.mm_move_laws.specs.Sound.{Sound}
use Rattle.mm_move_laws.proofs.Requests.{requested, read_has, write_has}
use Rattle.mm_move_laws.proofs.SetSizes.{frame_low}
use Rattle.mm_move_laws.proofs.PlaceCounts.{has_shares}
use Rattle.std.proofs.lemmas.Bool.{lt-ltb}
use Rattle.mm_move_rules.proofs.{done_owner, records_settled}

-- the lists after a frame settles
lists_settle : (x : FrameTable) (f : ℕ) (i c : Bool) → ListsAre (cond i (cond c (record x { modified = x.modified ++ f ∷ [] }) (record x { standby = x.standby ++ f ∷ [] })) x) x.zeroed x.free (at_end_if (i && not c) f x.standby) (at_end_if (i && c) f x.modified)
lists_settle x f true true = record { zeroed = refl; free = refl; standby = refl; modified = refl }
lists_settle x f _ _ = record { zeroed = refl; free = refl; standby = refl; modified = refl }

module _ (d : FrameTable) (f : ℕ) (low : f < length d.records) where
  -- a frame with an owner, that is on no list
  module _ (r : Record) (owned : is_some r.owner ≡ true) where
    settled_is : settled (with_record d f r) f ≡ settled_by r (with_record d f r) f
    settled_is = ap (λ (k : Record). settled_by k (with_record d f r) f) (get_or-set_same d.records f r blank low)

    records_are : (settled (with_record d f r) f).records ≡ (with_record d f r).records
    records_are = ap (λ (t : FrameTable). t.records) settled_is ∙ records_settled r (with_record d f r) f

    record_is : (g : ℕ) → record_at (settled (with_record d f r) f) g ≡ record_at (with_record d f r) g
    record_is g = ap (λ (rs : List Record). record_at (record d { records = rs }) g) records_are

    pub settles : Settles d (settled (with_record d f r) f) f r
    settles = record {
      here = record_is f ∙ get_or-set_same d.records f r blank low;
      others = λ g n. record_is g ∙ get_or-set_other d.records f g r blank n;
      size = ap (λ (rs : List Record). length rs) records_are ∙ length-set d.records f r;
      lists =
          let a = lists_settle (with_record d f r) f (is_idle r) r.changed in
          let b : ListsAre (settled (with_record d f r) f) d.zeroed d.free (at_end_if (is_idle r && not r.changed) f d.standby) (at_end_if (is_idle r && r.changed) f d.modified)
          = subst (λ (t : FrameTable). ListsAre t d.zeroed d.free (at_end_if (is_idle r && not r.changed) f d.standby) (at_end_if (is_idle r && r.changed) f d.modified)) (sym settled_is) a in
          subst (λ (o : Bool). ListsAre (settled (with_record d f r) f) d.zeroed (at_end_if (not o) f d.free) (at_end_if (o && is_idle r && not r.changed) f d.standby) (at_end_if (o && is_idle r && r.changed) f d.modified)) (sym owned) b;
    }

  pub frees : Settles d (to_free d f) f blank
  frees = record {
    here = get_or-set_same d.records f blank blank low;
    others = λ g n. get_or-set_other d.records f g blank blank n;
    size = length-set d.records f blank;
    lists = record { zeroed = refl; free = refl; standby = refl; modified = refl };
  }

  pub settles_or_frees : (change : Record → Record) → (change (record_at d f)).owner ≡ (record_at d f).owner
      → Settles d (cond (is_some (record_at d f).owner) (settled (with_record d f (change (record_at d f))) f) (to_free d f)) f (ended_as change (record_at d f))
  settles_or_frees change same = elim (is_some (record_at d f).owner) as (λ b. is_some (record_at d f).owner ≡ b → Settles d (cond b (settled (with_record d f (change (record_at d f))) f) (to_free d f)) f (cond b (change (record_at d f)) blank)) [
    | true ↦ λ o. settles (change (record_at d f)) (ap is_some same ∙ o)
    | false ↦ λ o. frees
  ] refl

module _ (l : FrameLife) (s : Sound l) (f : Frame) where
  low_of : has_request (record_at l.frames f.0).request ≡ true → f.0 < length l.frames.records
  low_of busy = (requested l.frames l.flight f.0 s.standing busy).low

  pub got_settles : IsLegal (move.Got f) l → Settles l.frames (after_move l (move.Got f)).frames f.0 (ended_as read_done (record_at l.frames f.0))
  got_settles h =
      let read = (and_parts (is_read (record_at l.frames f.0).request) (is_io l.kind || is_access l.kind) h).0 in
      settles_or_frees l.frames f.0 (low_of (read_has (record_at l.frames f.0).request read)) read_done refl

  pub bad_settles : IsLegal (move.Bad f) l → Settles l.frames (after_move l (move.Bad f)).frames f.0 blank
  bad_settles h =
      let read = (and_parts (is_read (record_at l.frames f.0).request) (is_io l.kind || is_access l.kind) h).0 in
      frees l.frames f.0 (low_of (read_has (record_at l.frames f.0).request read))

  pub wrote_settles : IsLegal (move.Wrote f) l → Settles l.frames (after_move l (move.Wrote f)).frames f.0 (ended_as write_done (record_at l.frames f.0))
  wrote_settles h =
      let write = (and_parts (is_write (record_at l.frames f.0).request) (is_io l.kind || is_access l.kind || is_call l.kind) h).0 in
      settles_or_frees l.frames f.0 (low_of (write_has (record_at l.frames f.0).request write)) write_done (done_owner (record_at l.frames f.0))

  pub lost_settles : IsLegal (move.Lost f) l → Settles l.frames (after_move l (move.Lost f)).frames f.0 (ended_as write_lost (record_at l.frames f.0))
  lost_settles h =
      let write = (and_parts (is_write (record_at l.frames f.0).request) (is_io l.kind || is_access l.kind || is_call l.kind) h).0 in
      settles_or_frees l.frames f.0 (low_of (write_has (record_at l.frames f.0).request write)) write_lost refl

  pub unmap_settles : (place : Place) → l.valid place ≡ Some f → Settles l.frames (after_move l (move.Unmap place)).frames f.0 (unshared (record_at l.frames f.0))
  unmap_settles place there =
      let some = has_shares l.valid l.frames l.sets s.shown place f there in
      let owned = (s.standing f.0).fit.shown (lt-ltb 0 (record_at l.frames f.0).shares (omega (arith, some))) in
      subst (λ (o : Option Frame). Settles l.frames (after_unmap_at o l place).frames f.0 (unshared (record_at l.frames f.0))) (sym there) (settles l.frames f.0 (frame_low l s place f there) (unshared (record_at l.frames f.0)) owned)
