-- What the unmap of a place leaves.
use Rattle.std.proofs.Common.{◌≡◌, ◌≢◌, ℕ, zero, suc, ◌+◌, ◌-◌, ◌≤◌, Bool, true, false, cond, not, [], ◌∷◌, ◌++◌, Option, Some, None, sym, ap, ◌∙◌, subst, inl, inr, arith, ◌<◌, List, length, refl, get_or-set_same, get_or-set_other, length-set}
use Rattle.std.specs.Prelude.{◌==◌, ◌&&◌, is_some, ◌||◌, option_map, unwrap_or, slice_set}
use Rattle.std.proofs.lemmas.Bool.{lt-ltb, and_parts, and_from, or_left, or_right, eqb-true}
use Rattle.std.specs.Cmp.{unsigned_Decides}
use Rattle.mm_types.proofs.{same_or_not, differ, and_false}
use Rattle.mm_types.specs.{Frame, Place, Record, Slot, Block, Key, Backing, Request, Stored}
use Rattle.mm_move_rules.specs.{record_at, has_request, is_idle, unshared, FrameLife, set_of, after_move, after_unmap_at, ResidentSet, FrameTable, blank}
use Rattle.mm_move_rules.specs.{is_on, is_empty, slot_of, without, without_slot, with_record, being_written, write_done, write_lost, settled, settled_by}
use Rattle.mm_move_rules.specs.{after_write, after_wrote, after_lost, is_write, is_shared, is_live, key_of_place, IsLegal, owner_is, is_access, is_io}
use Rattle.mm_move_rules.specs.{is_call, is_writer, has_depth, is_lowest, is_block, may_write_block, is_short, may_unmap, unbinds, trims, touches}
use Rattle.mm_move_rules.specs.{is_above_min, is_at_max, freed, can_be_written}
use Rattle.mm_move_laws.proofs.{set_here, set_else, has_shares, place_or_not, same_place-self, sets_fewer, resident_there, unmap_settles, owner_passes}
use Rattle.mm_move_laws.proofs.{without_none, begun_ended, set_back, set_back_or, lowest_free, lowest_there, ModifiedFrame, modified_frame, four_parts}
use Rattle.mm_move_laws.specs.Sound.{Sound}
use Rattle.mm_move_laws.specs.{valid_places, ListsAre, at_end_if, Settles, is_backing_for, block_of}
use Rattle.mm_frame_laws.specs.{is_last, Unmapped, backing_to, after_written, after_failed, put_last}
use Rattle.std.specs.List.{list_any}
use Rattle.mm_types.specs.declared.moves.Move.TheVariants as move
use Rattle.mm_types.specs.declared.frames.Backing.TheVariants as backing
use Rattle.mm_types.specs.declared.frames.Request.TheVariants as request
use Rattle.mm_types.specs.declared.moves.Stored.TheVariants as stored

-- without one of n shares there are none exactly where n is one
one_less : (n : ℕ) → 1 ≤ n → (n - 1 == 0) ≡ (n == 1)
one_less zero h = absurd (omega (arith, h))
one_less (suc n) h = elim (same_or_not (suc n) 1) [
  | inl e ↦ (unsigned_Decides (suc n - 1) 0).1 (omega (arith, e)) ∙ sym ((unsigned_Decides (suc n) 1).1 e)
  | inr d ↦ differ (suc n - 1) 0 (λ e. d (omega (arith, e))) ∙ sym (differ (suc n) 1 d)
]

module _ (l : FrameLife) (s : Sound l) (place : Place) (f : Frame) (there : l.valid place ≡ Some f) where
  abbrev was : Record
  was = record_at l.frames f.0

  abbrev u : Record
  u = unshared (record_at l.frames f.0)

  abbrev now : FrameLife
  now = after_move l (move.Unmap place)

  some_shares : 1 ≤ was.shares
  some_shares = has_shares l.valid l.frames l.sets s.shown place f there

  owned : is_some was.owner ≡ true
  owned = let some = some_shares in (s.standing f.0).fit.shown (lt-ltb 0 was.shares (omega (arith, some)))

  settles : Settles l.frames now.frames f.0 u
  settles = unmap_settles l s f place there

  now_is : now ≡ after_unmap_at (Some f) l place
  now_is = ap (λ (o : Option Frame). after_unmap_at o l place) there

  idle_last : (is_some was.owner && is_idle u) ≡ is_last was
  idle_last = ap (λ b. b && is_idle u) owned ∙ ap (λ b. b && not (has_request was.request)) (one_less was.shares some_shares)

  lists_now : ListsAre now.frames l.frames.zeroed l.frames.free (at_end_if (is_last was && not was.changed) f.0 l.frames.standby) (at_end_if (is_last was && was.changed) f.0 l.frames.modified)
  lists_now =
      let a = settles.lists in
      let b : ListsAre now.frames l.frames.zeroed (at_end_if (not (is_some was.owner)) f.0 l.frames.free) (at_end_if (is_last was && not was.changed) f.0 l.frames.standby) (at_end_if (is_last was && was.changed) f.0 l.frames.modified)
      = subst (λ (i : Bool). ListsAre now.frames l.frames.zeroed (at_end_if (not (is_some was.owner)) f.0 l.frames.free) (at_end_if (i && not was.changed) f.0 l.frames.standby) (at_end_if (i && was.changed) f.0 l.frames.modified)) idle_last a in
      subst (λ (o : Bool). ListsAre now.frames l.frames.zeroed (at_end_if (not o) f.0 l.frames.free) (at_end_if (is_last was && not was.changed) f.0 l.frames.standby) (at_end_if (is_last was && was.changed) f.0 l.frames.modified)) owned b

  pub unmapped : Unmapped l (after_move l (move.Unmap place)) place f.0
  unmapped = record {
    lists = lists_now;
    own = settles.here;
    others = settles.others;
    writers = record {
      owners = λ g. elim (same_or_not g f.0) [
        | inl e ↦ ap (λ (k : ℕ). (record_at now.frames k).owner) e ∙ (ap (λ (t : Record). t.owner) settles.here ∙ ap (λ (k : ℕ). (record_at l.frames k).owner) (sym e))
        | inr n ↦ ap (λ (t : Record). t.owner) (settles.others g n)
      ];
      free_slots = ap (λ (m : FrameLife). m.free_slots) now_is;
      paging = ap (λ (m : FrameLife). m.paging) now_is;
    };
    fewer = ap (λ (m : FrameLife). valid_places m + 1) now_is ∙ sets_fewer l.sets place.pid.0 (resident_there l s place (ap is_some there));
    gone = ap (λ (m : FrameLife). m.valid place) now_is ∙ ap (λ b. cond b None (l.valid place)) (same_place-self place);
    stays = λ q n. ap (λ (m : FrameLife). m.valid q) now_is ∙ elim (place_or_not q place) [
      | inl e ↦ absurd (n e.0)
      | inr e ↦ ap (λ b. cond b None (l.valid q)) e.1
    ];
    flight = ap (λ (m : FrameLife). m.flight) now_is;
    kind = ap (λ (m : FrameLife). m.kind) now_is;
    machine = ap (λ (m : FrameLife). m.machine) now_is;
  }

  last_is : was.shares ≡ 1 → has_request was.request ≡ false → is_last was ≡ true
  last_is one quiet = ap (λ (n : ℕ). (n == 1) && not (has_request was.request)) one ∙ ap not quiet

  unmapped_last : was.shares ≡ 1 → has_request was.request ≡ false → (c : Bool) → was.changed ≡ c → ListsAre (after_move l (move.Unmap place)).frames l.frames.zeroed l.frames.free (at_end_if (not c) f.0 l.frames.standby) (at_end_if c f.0 l.frames.modified)
  unmapped_last one quiet c is =
      let last = last_is one quiet in
      record {
        zeroed = unmapped.lists.zeroed;
        free = unmapped.lists.free;
        standby = unmapped.lists.standby ∙ (ap (λ b. at_end_if (b && not was.changed) f.0 l.frames.standby) last ∙ ap (λ b. at_end_if (not b) f.0 l.frames.standby) is);
        modified = unmapped.lists.modified ∙ (ap (λ b. at_end_if (b && was.changed) f.0 l.frames.modified) last ∙ ap (λ b. at_end_if b f.0 l.frames.modified) is);
      }

  pub unmapped_clean : was.shares ≡ 1 → has_request was.request ≡ false → was.changed ≡ false → ListsAre (after_move l (move.Unmap place)).frames l.frames.zeroed l.frames.free (l.frames.standby ++ f.0 ∷ []) l.frames.modified
  unmapped_clean one quiet clean = unmapped_last one quiet false clean

  pub unmapped_changed : was.shares ≡ 1 → has_request was.request ≡ false → was.changed ≡ true → ListsAre (after_move l (move.Unmap place)).frames l.frames.zeroed l.frames.free l.frames.standby (l.frames.modified ++ f.0 ∷ [])
  unmapped_changed one quiet dirty = unmapped_last one quiet true dirty

-- ---- working sets

pub sized : (l : FrameLife) (place : Place) (f : Frame) (s : ResidentSet) → l.valid place ≡ Some f → set_of l place.pid.0 ≡ Some s → set_of (after_move l (move.Unmap place)) place.pid.0 ≡ Some (record s { resident = s.resident - 1 })
sized l place f s there e = ap (λ (o : Option Frame). set_of (after_unmap_at o l place) place.pid.0) there ∙ set_here l.sets place.pid.0 (λ n. n - 1) s e

pub others_sized : (l : FrameLife) (place : Place) (f : Frame) (pid : ℕ) → l.valid place ≡ Some f → pid ≢ place.pid.0 → set_of (after_move l (move.Unmap place)) pid ≡ set_of l pid
others_sized l place f pid there n = ap (λ (o : Option Frame). set_of (after_unmap_at o l place) pid) there ∙ set_else l.sets place.pid.0 pid (λ k. k - 1) n

-- ---- what a write of a modified frame leaves, where it succeeds and where it fails

-- ---- small facts

no_request : (q : Request) → has_request q ≡ false → q ≡ request.None
no_request request.None e = refl
no_request _ e = cc

paged_backing : (x : Backing) → is_backing_for true x ≡ true → slot_of x ≡ None → x ≡ backing.None
paged_backing backing.None i e = refl
paged_backing _ i e = cc

pub file_backing : (x : Backing) → is_backing_for false x ≡ true → (b : Block) × (x ≡ backing.Block b)
file_backing (backing.Block b) i = (b, refl)
file_backing _ i = cc

same_block : (b : Block) (x : Backing) → is_block b.0 x ≡ true → x ≡ backing.Block b
same_block b (backing.Block c) e = let n : c.0 ≡ b.0 = eqb-true c.0 b.0 e in λ i. backing.Block (record { 0 = n i })
same_block b _ e = cc

-- ---- a modified frame

module _ (l : FrameLife) (s : Sound l) (f : Frame) (on : is_on f.0 l.frames.modified ≡ true) where
  abbrev r : Record
  r = record_at l.frames f.0

  modified : ModifiedFrame l f.0
  modified = modified_frame l s f.0 on

  -- ---- written to a home

  module _ (home : Backing) where
    abbrev w : Record
    w = being_written home (record_at l.frames f.0)

    abbrev d1 : FrameTable
    d1 = after_write l.frames f.0 home

    pub in_write : record_at d1 f.0 ≡ w
    in_write = get_or-set_same l.frames.records f.0 w blank modified.low

    low1 : f.0 < length d1.records
    low1 = let n = length-set l.frames.records f.0 w in let k = modified.low in omega (arith, n, k)

    abbrev c : Record
    c = record (being_written home (record_at l.frames f.0)) { request = request.None; changed = false }

    abbrev v : Record
    v = record (being_written home (record_at l.frames f.0)) { request = request.None; backing = without_slot home }

    idle_then : (t : Record) → t.shares ≡ r.shares → t.request ≡ request.None → is_idle t ≡ true
    idle_then t a b = ap (λ (n : ℕ). (n == 0) && not (has_request t.request)) (a ∙ modified.unshared) ∙ ap (λ (q : Request). not (has_request q)) b

    settled_then : (t : Record) → settled (with_record d1 f.0 t) f.0 ≡ settled_by t (with_record d1 f.0 t) f.0
    settled_then t = ap (λ (k : Record). settled_by k (with_record d1 f.0 t) f.0) (get_or-set_same d1.records f.0 t blank low1)

    -- a write that succeeded
    wrote_is : after_wrote d1 f.0 ≡ record (with_record d1 f.0 c) { standby = d1.standby ++ f.0 ∷ [] }
    wrote_is =
        ap (λ (t : Record). cond (is_some t.owner) (settled (with_record d1 f.0 (write_done t)) f.0) (record d1 { records = slice_set d1.records f.0 blank; free = d1.free ++ f.0 ∷ [] })) in_write
        ∙ (ap (λ b. cond b (settled (with_record d1 f.0 c) f.0) (record d1 { records = slice_set d1.records f.0 blank; free = d1.free ++ f.0 ∷ [] })) modified.owned
        ∙ (settled_then c ∙ ap (λ b. cond b (record (with_record d1 f.0 c) { standby = d1.standby ++ f.0 ∷ [] }) (with_record d1 f.0 c)) (idle_then c refl refl)))

    pub wrote_lists : ListsAre (after_wrote d1 f.0) l.frames.zeroed l.frames.free (l.frames.standby ++ f.0 ∷ []) (without f.0 l.frames.modified)
    wrote_lists = record {
      zeroed = ap (λ (t : FrameTable). t.zeroed) wrote_is;
      free = ap (λ (t : FrameTable). t.free) wrote_is;
      standby = ap (λ (t : FrameTable). t.standby) wrote_is ∙ ap (λ (xs : List ℕ). xs ++ f.0 ∷ []) (without_none f.0 l.frames.standby modified.off_standby);
      modified = ap (λ (t : FrameTable). t.modified) wrote_is;
    }

    -- a write that failed
    lost_is : after_lost d1 f.0 ≡ record (with_record d1 f.0 v) { modified = d1.modified ++ f.0 ∷ [] }
    lost_is =
        ap (λ (t : Record). cond (is_some t.owner) (settled (with_record d1 f.0 (write_lost t)) f.0) (record d1 { records = slice_set d1.records f.0 blank; free = d1.free ++ f.0 ∷ [] })) in_write
        ∙ (ap (λ b. cond b (settled (with_record d1 f.0 v) f.0) (record d1 { records = slice_set d1.records f.0 blank; free = d1.free ++ f.0 ∷ [] })) modified.owned
        ∙ (settled_then v ∙ (ap (λ b. cond b (cond r.changed (record (with_record d1 f.0 v) { modified = d1.modified ++ f.0 ∷ [] }) (record (with_record d1 f.0 v) { standby = d1.standby ++ f.0 ∷ [] })) (with_record d1 f.0 v)) (idle_then v refl refl)
        ∙ ap (λ b. cond b (record (with_record d1 f.0 v) { modified = d1.modified ++ f.0 ∷ [] }) (record (with_record d1 f.0 v) { standby = d1.standby ++ f.0 ∷ [] })) modified.changed)))

    pub lost_table : r.backing ≡ without_slot home → after_lost d1 f.0 ≡ record l.frames { modified = without f.0 l.frames.modified ++ f.0 ∷ [] }
    lost_table e =
        let same : r ≡ v = λ i. record r { backing = e i; request = (no_request r.request modified.quiet) i } in
        let records : slice_set (slice_set l.frames.records f.0 w) f.0 v ≡ l.frames.records = set_back_or l.frames.records f.0 w v blank same in
        let standby = without_none f.0 l.frames.standby modified.off_standby in
        lost_is ∙ (λ i. record { records = records i; zeroed = l.frames.zeroed; free = l.frames.free; standby = standby i; modified = without f.0 l.frames.modified ++ f.0 ∷ [] })

-- ---- the state after it

module _ (l : FrameLife) (s : Sound l) (f : Frame) (on : is_on f.0 l.frames.modified ≡ true) where
  module _ (t : Slot) (legal : IsLegal (move.Write f (stored.Slot t)) l) where
    pub slot_parts : (owner_is l.paging (record_at l.frames f.0) ≡ true) × (is_lowest t.0 l.free_slots ≡ true)
    slot_parts =
        let parts = four_parts _ _ _ _ legal in
        (parts.1, parts.2)

    pub slot_backing : (record_at l.frames f.0).backing ≡ backing.None
    slot_backing =
        let m = modified_frame l s f.0 on in
        let o = owner_passes l.paging (record_at l.frames f.0) slot_parts.0 in
        let both : Some o.key ≡ Some m.key = sym o.is ∙ m.owner in
        let same : o.key ≡ m.key = cc in
        let paging : l.paging m.key ≡ true = ap l.paging (sym same) ∙ o.passes in
        paged_backing (record_at l.frames f.0).backing (sym (ap (λ b. is_backing_for b (record_at l.frames f.0).backing) paging) ∙ m.fits) m.slotless

    slot_failed : after_failed l f (stored.Slot t) ≡ put_last l f.0
    slot_failed =
        let slots : freed (slice_set l.free_slots t.0 false) (slot_of (record_at (after_write l.frames f.0 (backing.Slot t)) f.0).backing) ≡ l.free_slots =
        ap (λ (x : Record). freed (slice_set l.free_slots t.0 false) (slot_of x.backing)) (in_write l s f on (backing.Slot t)) ∙ set_back l.free_slots t.0 false true (lowest_free t.0 l.free_slots slot_parts.1) in
        let flight = begun_ended f.0 l.flight (modified_frame l s f.0 on).off_flight in
        λ i. record l { frames = (lost_table l s f on (backing.Slot t) slot_backing) i; free_slots = slots i; flight = flight i }

  module _ (b : Block) (legal : IsLegal (move.Write f (stored.Block b)) l) where
    pub block_is : (record_at l.frames f.0).backing ≡ backing.Block b
    block_is = same_block b (record_at l.frames f.0).backing (and_parts _ _ (and_parts _ _ legal).0).1

    block_failed : after_failed l f (stored.Block b) ≡ put_last l f.0
    block_failed =
        let slots : freed l.free_slots (slot_of (record_at (after_write l.frames f.0 (backing.Block b)) f.0).backing) ≡ l.free_slots =
        ap (λ (x : Record). freed l.free_slots (slot_of x.backing)) (in_write l s f on (backing.Block b)) in
        let flight = begun_ended f.0 l.flight (modified_frame l s f.0 on).off_flight in
        λ i. record l { frames = (lost_table l s f on (backing.Block b) block_is) i; free_slots = slots i; flight = flight i }

  -- a write that failed leaves the frame at the end of the modified list, and all else as it was
  pub failed : (home : Stored) → IsLegal (move.Write f home) l → after_failed l f home ≡ put_last l f.0
  failed (stored.Slot t) legal = slot_failed t legal
  failed (stored.Block b) legal = block_failed b legal

  -- after one that succeeded the frame is the last of standby
  pub written : (home : Stored) → ListsAre (after_written l f home).frames l.frames.zeroed l.frames.free (l.frames.standby ++ f.0 ∷ []) (without f.0 l.frames.modified)
  written (stored.Slot t) = wrote_lists l s f on (backing.Slot t)
  written (stored.Block b) = wrote_lists l s f on (backing.Block b)

  pub written_found : (home : Stored) → is_short (after_written l f home) ≡ false
  written_found home =
      ap (λ (xs : List ℕ). is_empty (after_written l f home).frames.zeroed && is_empty (after_written l f home).frames.free && is_empty xs) (written home).standby
      ∙ (ap (λ b. is_empty (after_written l f home).frames.zeroed && is_empty (after_written l f home).frames.free && b) (pushed l.frames.standby) ∙ and_false (is_empty (after_written l f home).frames.zeroed && is_empty (after_written l f home).frames.free))
    where
      pushed : (xs : List ℕ) → is_empty (xs ++ f.0 ∷ []) ≡ false
      pushed [] = refl
      pushed (x ∷ xs) = refl

  pub written_flight : (home : Stored) → (after_written l f home).flight ≡ l.flight
  written_flight (stored.Slot t) = begun_ended f.0 l.flight (modified_frame l s f.0 on).off_flight
  written_flight (stored.Block b) = begun_ended f.0 l.flight (modified_frame l s f.0 on).off_flight

  -- ---- a write can be made

  -- where the line may write to a slot, and to a block
  store_if : (is_access l.kind || (is_writer l.kind && has_depth l)) ≡ true → may_write_block l f.0 ≡ true → can_be_written l f.0 ≡ true → (home : Stored) × IsLegal (move.Write f home) l
  store_if slot_line block_line can = by_key (l.paging m.key) refl
    where
      m : ModifiedFrame l f.0
      m = modified_frame l s f.0 on

      by_key : (b : Bool) → l.paging m.key ≡ b → (home : Stored) × IsLegal (move.Write f home) l
      by_key true e =
          let file : owner_is (λ k. not (l.paging k)) (record_at l.frames f.0) ≡ false = ap (λ (o : Option Key). unwrap_or (option_map (λ k. not (l.paging k)) o) false) m.owner ∙ ap not e in
          let some : list_any (λ b. b) l.free_slots ≡ true = sym (ap (λ b. b || list_any (λ b. b) l.free_slots) file) ∙ can in
          let low = lowest_there l.free_slots some in
          let paging : owner_is l.paging (record_at l.frames f.0) ≡ true = ap (λ (o : Option Key). unwrap_or (option_map l.paging o) false) m.owner ∙ e in
          let on_it = is_on f.0 l.frames.modified in
          let page = owner_is l.paging (record_at l.frames f.0) in (
            stored.Slot (record { 0 = low.0 }),
            and_from (on_it && page && is_lowest low.0 l.free_slots) (is_access l.kind || (is_writer l.kind && has_depth l))
                (and_from (on_it && page) (is_lowest low.0 l.free_slots) (and_from on_it page on paging) low.1)
                slot_line,
          )
      by_key false e =
          let home = file_backing (record_at l.frames f.0).backing (sym (ap (λ b. is_backing_for b (record_at l.frames f.0).backing) e) ∙ m.fits) in
          let block : is_block home.0.0 (record_at l.frames f.0).backing ≡ true = ap (is_block home.0.0) home.1 ∙ (unsigned_Decides home.0.0 home.0.0).1 refl in
          let changed = (record_at l.frames f.0).changed in
          let owned = is_some (record_at l.frames f.0).owner in
          let quiet = not (has_request (record_at l.frames f.0).request) in
          let on_it = is_on f.0 l.frames.modified in (
            stored.Block home.0,
            and_from (changed && owned && quiet && is_block home.0.0 (record_at l.frames f.0).backing) (may_write_block l f.0)
                (and_from (changed && owned && quiet) (is_block home.0.0 (record_at l.frames f.0).backing) (and_from (changed && owned) quiet (and_from changed owned m.changed m.owned) (ap not m.quiet)) block)
                block_line,
          )

  pub store_there : is_access l.kind ≡ true → can_be_written l f.0 ≡ true → (home : Stored) × IsLegal (move.Write f home) l
  store_there access can =
      let on_it = is_on f.0 l.frames.modified in
      store_if (or_left (is_access l.kind) (is_writer l.kind && has_depth l) access)
      (or_left ((on_it && is_access l.kind) || (on_it && is_writer l.kind && has_depth l)) (is_call l.kind) (or_left (on_it && is_access l.kind) (on_it && is_writer l.kind && has_depth l) (and_from on_it (is_access l.kind) on access))) can

  pub store_in_writer : is_writer l.kind ≡ true → has_depth l ≡ true → can_be_written l f.0 ≡ true → (home : Stored) × IsLegal (move.Write f home) l
  store_in_writer writer depth can =
      let on_it = is_on f.0 l.frames.modified in
      store_if (or_right (is_access l.kind) (is_writer l.kind && has_depth l) (and_from (is_writer l.kind) (has_depth l) writer depth))
      (or_left ((on_it && is_access l.kind) || (on_it && is_writer l.kind && has_depth l)) (is_call l.kind) (or_right (on_it && is_access l.kind) (on_it && is_writer l.kind && has_depth l) (and_from (on_it && is_writer l.kind) (has_depth l) (and_from on_it (is_writer l.kind) on writer) depth))) can

  -- and its request can be ended
  ends : (home : Backing) → is_access l.kind ≡ true → (is_write (record_at (after_write l.frames f.0 home) f.0).request && (is_io l.kind || is_access l.kind || is_call l.kind)) ≡ true
  ends home access =
      and_from (is_write (record_at (after_write l.frames f.0 home) f.0).request) (is_io l.kind || is_access l.kind || is_call l.kind)
      (ap (λ (x : Record). is_write x.request) (in_write l s f on home)) (or_left (is_io l.kind || is_access l.kind) (is_call l.kind) (or_right (is_io l.kind) (is_access l.kind) access))

  pub wrote_legal : (home : Stored) → is_access l.kind ≡ true → IsLegal (move.Wrote f) (after_move l (move.Write f home))
  wrote_legal (stored.Slot t) access = ends (backing.Slot t) access
  wrote_legal (stored.Block b) access = ends (backing.Block b) access

  pub lost_legal : (home : Stored) → is_access l.kind ≡ true → IsLegal (move.Lost f) (after_move l (move.Write f home))
  lost_legal (stored.Slot t) access = ends (backing.Slot t) access
  lost_legal (stored.Block b) access = ends (backing.Block b) access

-- ---- which frames can be written

pub file_writes : (l : FrameLife) (f : ℕ) (k : Key) → (record_at l.frames f).owner ≡ Some k → l.paging k ≡ false → can_be_written l f ≡ true
file_writes l f k o e = or_left (owner_is (λ q. not (l.paging q)) (record_at l.frames f)) (list_any (λ b. b) l.free_slots) (ap (λ (x : Option Key). unwrap_or (option_map (λ q. not (l.paging q)) x) false) o ∙ ap not e)

pub paged_writes : (l : FrameLife) (f : ℕ) (k : Key) → (record_at l.frames f).owner ≡ Some k → l.paging k ≡ true → can_be_written l f ≡ list_any (λ b. b) l.free_slots
paged_writes l f k o e = ap (λ (b : Bool). b || list_any (λ b. b) l.free_slots) (ap (λ (x : Option Key). unwrap_or (option_map (λ q. not (l.paging q)) x) false) o ∙ ap not e)

pub which_writes : (l : FrameLife) → Sound l → (f : ℕ) → is_on f l.frames.modified ≡ true → can_be_written l f ≡ is_some (block_of (record_at l.frames f).backing) || list_any (λ b. b) l.free_slots
which_writes l s f on = by_key (l.paging m.key) refl
  where
    m : ModifiedFrame l f
    m = modified_frame l s f on

    by_key : (b : Bool) → l.paging m.key ≡ b → can_be_written l f ≡ is_some (block_of (record_at l.frames f).backing) || list_any (λ b. b) l.free_slots
    by_key true e =
        let none = paged_backing (record_at l.frames f).backing (sym (ap (λ b. is_backing_for b (record_at l.frames f).backing) e) ∙ m.fits) m.slotless in
        paged_writes l f m.key m.owner e ∙ sym (ap (λ (x : Backing). is_some (block_of x) || list_any (λ b. b) l.free_slots) none)
    by_key false e =
        let block = file_backing (record_at l.frames f).backing (sym (ap (λ b. is_backing_for b (record_at l.frames f).backing) e) ∙ m.fits) in
        file_writes l f m.key m.owner e ∙ sym (ap (λ (x : Backing). is_some (block_of x) || list_any (λ b. b) l.free_slots) block.1)

-- ---- a write that has begun

module _ (l : FrameLife) (s : Sound l) (f : Frame) (on : is_on f.0 l.frames.modified ≡ true) where
  begun_lists : (home : Backing) → ListsAre (after_write l.frames f.0 home) l.frames.zeroed l.frames.free l.frames.standby (without f.0 l.frames.modified)
  begun_lists home = record { zeroed = refl; free = refl; standby = without_none f.0 l.frames.standby (modified_frame l s f.0 on).off_standby; modified = refl }

  pub write_lists : (home : Stored) → ListsAre (after_move l (move.Write f home)).frames l.frames.zeroed l.frames.free l.frames.standby (without f.0 l.frames.modified)
  write_lists (stored.Slot t) = begun_lists (backing.Slot t)
  write_lists (stored.Block b) = begun_lists (backing.Block b)

  pub write_record : (home : Stored) → record_at (after_move l (move.Write f home)).frames f.0 ≡ being_written (backing_to home) (record_at l.frames f.0)
  write_record (stored.Slot t) = in_write l s f on (backing.Slot t)
  write_record (stored.Block b) = in_write l s f on (backing.Block b)

pub write_others : (l : FrameLife) (f : Frame) (home : Stored) (g : ℕ) → g ≢ f.0 → record_at (after_move l (move.Write f home)).frames g ≡ record_at l.frames g
write_others l f (stored.Slot t) g n = get_or-set_other l.frames.records f.0 g (being_written (backing.Slot t) (record_at l.frames f.0)) blank n
write_others l f (stored.Block b) g n = get_or-set_other l.frames.records f.0 g (being_written (backing.Block b) (record_at l.frames f.0)) blank n

-- ---- an unmap can be made

pub unmap_legal : (l : FrameLife) (place : Place) (f : Frame) → is_access l.kind ≡ true → is_short l ≡ true → l.valid place ≡ Some f → IsLegal (move.Unmap place) l
unmap_legal l place f access short there =
    ap (λ (o : Option Frame). unwrap_or (option_map (λ (g : Frame). may_unmap l place (record_at l.frames g.0)) o) false) there
    ∙ or_left (unbinds place.pid.0 l.kind || (trims place.pid.0 l.kind && is_above_min (set_of l place.pid.0)) || (touches place.pid.0 l.kind && is_at_max (set_of l place.pid.0)) || (is_access l.kind && is_short l))
    (touches place.pid.0 l.kind && owner_is is_shared (record_at l.frames f.0) && is_live l (key_of_place place))
    (or_right (unbinds place.pid.0 l.kind || (trims place.pid.0 l.kind && is_above_min (set_of l place.pid.0)) || (touches place.pid.0 l.kind && is_at_max (set_of l place.pid.0))) (is_access l.kind && is_short l)
    (and_from (is_access l.kind) (is_short l) access short))

module _ (l : FrameLife) (place : Place) (f : Frame) (there : l.valid place ≡ Some f) where
  may : may_unmap l place (record_at l.frames f.0) ≡ true → IsLegal (move.Unmap place) l
  may h = ap (λ (o : Option Frame). unwrap_or (option_map (λ (g : Frame). may_unmap l place (record_at l.frames g.0)) o) false) there ∙ h

  pub trim_legal : trims place.pid.0 l.kind ≡ true → is_above_min (set_of l place.pid.0) ≡ true → IsLegal (move.Unmap place) l
  trim_legal t a =
      may (or_left (unbinds place.pid.0 l.kind || (trims place.pid.0 l.kind && is_above_min (set_of l place.pid.0)) || (touches place.pid.0 l.kind && is_at_max (set_of l place.pid.0)) || (is_access l.kind && is_short l)) (touches place.pid.0 l.kind && owner_is is_shared (record_at l.frames f.0) && is_live l (key_of_place place))
      (or_left (unbinds place.pid.0 l.kind || (trims place.pid.0 l.kind && is_above_min (set_of l place.pid.0)) || (touches place.pid.0 l.kind && is_at_max (set_of l place.pid.0))) (is_access l.kind && is_short l)
      (or_left (unbinds place.pid.0 l.kind || (trims place.pid.0 l.kind && is_above_min (set_of l place.pid.0))) (touches place.pid.0 l.kind && is_at_max (set_of l place.pid.0))
      (or_right (unbinds place.pid.0 l.kind) (trims place.pid.0 l.kind && is_above_min (set_of l place.pid.0)) (and_from (trims place.pid.0 l.kind) (is_above_min (set_of l place.pid.0)) t a)))))

  pub full_legal : touches place.pid.0 l.kind ≡ true → is_at_max (set_of l place.pid.0) ≡ true → IsLegal (move.Unmap place) l
  full_legal t a =
      may (or_left (unbinds place.pid.0 l.kind || (trims place.pid.0 l.kind && is_above_min (set_of l place.pid.0)) || (touches place.pid.0 l.kind && is_at_max (set_of l place.pid.0)) || (is_access l.kind && is_short l)) (touches place.pid.0 l.kind && owner_is is_shared (record_at l.frames f.0) && is_live l (key_of_place place))
      (or_left (unbinds place.pid.0 l.kind || (trims place.pid.0 l.kind && is_above_min (set_of l place.pid.0)) || (touches place.pid.0 l.kind && is_at_max (set_of l place.pid.0))) (is_access l.kind && is_short l)
      (or_right (unbinds place.pid.0 l.kind || (trims place.pid.0 l.kind && is_above_min (set_of l place.pid.0))) (touches place.pid.0 l.kind && is_at_max (set_of l place.pid.0))
      (and_from (touches place.pid.0 l.kind) (is_at_max (set_of l place.pid.0)) t a))))
