-- How a copy ends, and what it leaves of the store.
use Rattle.std.proofs.Common.{◌≡◌, ℕ, ◌≤◌, ◌+◌, true, false, [], Option, Some, None, refl, sym, ap, ◌∙◌, subst, arith, inl, inr, ◌⊎◌, Bool, List}
use Rattle.std.specs.Prelude.{is_some, Result, Ok, Err, IfErr, OnOk, not, is_none, ◌==◌, ◌||◌, option_map, unwrap_or}
use Rattle.mm_types.specs.{PageFault, Frame, Key, Place, limit_of, Held, Move}
use Rattle.mm_types.specs.declared.faults.PageFault.TheVariants as fault
use Rattle.mm_types.specs.declared.moves.LineKind.TheVariants as kind
use Rattle.mm_move_rules.specs.{FrameLife, Walk, changed, same_key, same_place, key_of_place, is_access, is_short, is_live, is_dead, is_touch, Replays}
use Rattle.mm_store.specs.{Aim, Copies, MayAccess, IsReady, copying, Passes, IsBegun, HasCauses, fetched, where_of, block_at, backed_by, StoreOf}
use Rattle.mm_store.specs.{Ready, own_key}
use Rattle.mm_world.specs.{Tally, Page, same_key as same_in_world, still_needs_frame, search_failed, is_short as report_is_short}
use Rattle.mm_state_calls.specs.{StateOf, moved_with_call, IsFlightOf, StateHolds}
use Rattle.mm_pager.specs.{Piece, IsFresh, HasTried, Went, IsUncopied, LifeKept, Reaches, FailsToBring, FindsNone, CopiesPage, FailsToCopyPage, CopiesFrom}
use Rattle.mm_pager.specs.{Readied, Pins, CopyMapped, most_reads, Causes, OwnOf, StoreKept, store_of, report_of, behind_of}
use Rattle.mm_pager.proofs.AccessMoves.{piece_as, went_then, aim_at, called_on, kept_then, added_behind, piece_life, made_by, block_same, called_store, paging_has_none, dead_has_none}
use Rattle.mm_pager.proofs.Taking.{changed_twice, fault_later, young_still}
use Rattle.mm_pager.proofs.Copies.{reaches_begins}
use Rattle.mm_pager.proofs.FaultSteps.{MaySeek, search_left, search_causes, stuck_pinned}
use Rattle.mm_types.specs.declared.frames.Held.TheVariants as held
use Rattle.mm_move_laws.proofs.{key_or_not, changed_here, changed_else, same_key-self}
use Rattle.mm_store.specs.Reports.{Ends}
use Rattle.mm_pager.proofs.Shows.{calm_through, kept_by, none_ready, changed_keys, passes_of}
use Rattle.mm_pager.proofs.Ending.{framed_has, nothing_read, fails_not, short_counts, search_failed_by}

-- ---- A page is copied: it becomes valid at the place first, where it is not

-- ---- the page is valid at the place, and its frame is pinned

pub few_reads : (o : Option Frame) → most_reads o ≤ 1
few_reads None = omega arith
few_reads (Some f) = omega arith

same_copy : (s : StateOf) (k j : Key) → s.contents k ≡ None → Some k ≡ Some j → s.contents j ≡ None
same_copy s k j dead e =
    let same : k ≡ j = cc in
    ap s.contents (sym same) ∙ dead

module _ (k : Key) (f : Frame) (place : Place) (s t : StateOf) (r : Readied k f place s t) where
  begins_here : Reaches (aim_at false k place s) k place s
  begins_here = record { at = refl; needs = refl; from = refl }

  none_copied : IsUncopied (aim_at false k place s) s
  none_copied j e = cc

  -- the copy has not come to be
  copy_dead : s.contents (key_of_place place) ≡ None → (a : Aim) → CopiesFrom a k place s → IsUncopied a s
  copy_dead dead a c j e = same_copy s (key_of_place place) j dead (sym c.copy ∙ e)

  pub readied_life : LifeKept s.life t.life
  readied_life = piece_life (aim_at false k place s) IsFresh (most_reads (s.life.valid place)) 0 0 s t refl (r.went (aim_at false k place s) begins_here none_copied)

  pub still_dead : s.contents (key_of_place place) ≡ None → t.contents (key_of_place place) ≡ None
  still_dead dead = ap (λ (x : StateOf). x.contents (key_of_place place)) r.same ∙ dead

  pins_then : StateHolds t → s.contents (key_of_place place) ≡ None → (a : Aim) → CopiesFrom a k place s → Pins a place f t
  pins_then h dead a c = record {
    at = c.reaches.at;
    copy = c.copy;
    dead = h.live (key_of_place place) ∙ ap is_some (still_dead dead);
    valid = r.held.valid;
    flight = subst (λ (l : FrameLife). IsFlightOf l.flight (Some f) t.life) (sym c.reaches.from) r.flight;
  }

  -- what is done then stands behind it
  page_then : (E : Aim → Walk → Type 0) (q : ℕ) → most_reads (s.life.valid place) ≤ q → StateHolds t → s.contents (key_of_place place) ≡ None → (z : StateOf) → ((a : Aim) → Pins a place f t → Piece a (E a) false 0 0 0 [] t z) → (a : Aim) → CopiesFrom a k place s → Piece a (E a) false q 0 0 [] s z
  page_then E q few ht dead z h a c =
      let n = most_reads (s.life.valid place) in
      piece_as a (E a) (n + 0) q 0 0 0 0 [] s z (omega (arith, few)) (omega arith) (went_then a (E a) n 0 s t z (r.went a c.reaches (copy_dead dead a c)) (h a (pins_then ht dead a c)))

  named_own : (n : Place → Option Key) → (n ≡ s.names) ⊎ (n ≡ changed same_place s.names place (Some k)) → changed same_place n place (Some (key_of_place place)) ≡ changed same_place s.names place (Some (key_of_place place))
  named_own n (inl e) = ap (λ (x : Place → Option Key). changed same_place x place (Some (key_of_place place))) e
  named_own n (inr e) = ap (λ (x : Place → Option Key). changed same_place x place (Some (key_of_place place))) e ∙ changed_twice same_place s.names place (Some k) (Some (key_of_place place))

  page_copied : (z : StateOf) → CopyMapped k place t z → CopyMapped k place s z
  page_copied z c = record {
    life = added_behind (key_of_place place) s.life t.life z.life readied_life c.life;
    valid = c.valid;
    soiled = c.soiled;
    young = c.young;
    names = c.names ∙ named_own t.names r.names;
    contents = c.contents ∙ ap (λ (x : StateOf). changed same_key x.contents (key_of_place place) (x.contents k)) r.same;
    framed = c.framed;
    read = c.read ∙ r.calm.read;
    same = c.same ∙ ap (λ (x : StateOf). record (moved_with_call x z) { names = z.names; contents = z.contents }) r.same;
  }

  short_before : (o : Option Frame) → s.life.valid place ≡ o → is_short t.life ≡ true → (s.life.valid place ≡ None) ⊎ (is_short s.life ≡ true)
  short_before None e h = inl e
  short_before (Some g) e h = inr (ap (λ (x : StateOf). is_short x.life) (sym (r.still (ap is_some e))) ∙ h)

  page_unready : is_short t.life ≡ true → (s.life.valid place ≡ None) ⊎ (is_short s.life ≡ true)
  page_unready h = short_before (s.life.valid place) refl h

  -- no frame was found for it
  pub page_fails : (e : PageFault) (z : StateOf) → MaySeek t → StateHolds t → s.contents (key_of_place place) ≡ None → FindsNone (Some f) e t z → FailsToCopyPage k place e s z
  page_fails e z may ht dead n =
      let p = n.searched in
      let c = search_causes (Some f) k t z p in
      let w = r.went (aim_at false k place s) begins_here none_copied in
      subst (λ (x : PageFault). FailsToCopyPage k place x s z) (sym n.why) (record {
        stuck = page_then (λ a. HasTried a fault.NoFrame z) 1 (few_reads (s.life.valid place)) ht dead z (λ a b. stuck_pinned a place f t z may b p);
        unready = page_unready n.short;
        life = kept_then s.life t.life z.life readied_life (search_left (Some f) false t z p).life;
        names = subst (λ (m : Place → Option Key). (m ≡ s.names) ⊎ (m ≡ changed same_place s.names place (Some k))) (sym (ap (λ (x : StateOf). x.names) p.same)) r.names;
        causes = record {
          read = λ h. cc;
          kept = λ h. p.read ∙ r.calm.read;
          short = c.short;
          failed = c.failed;
          none = λ h m. p.none refl ∙ ap (λ (x : Tally). x.succeeded) (r.calm.begun m);
          fault = fault_later w.moves s t z w.does c.fault;
        };
        same = called_on t z p.same ∙ ap (λ (x : StateOf). record (moved_with_call x z) { names = z.names }) r.same;
      })

  -- the first half's line may make the second one's search
  pub page_access : (s.life.valid place ≡ None → s.life.kind ≡ kind.Access place.pid) → (is_short s.life ≡ true → s.life.kind ≡ kind.Access place.pid) → is_short t.life ≡ true → is_access t.life.kind ≡ true
  page_access a b h = ap is_access (readied_life.kind ∙ elim (page_unready h) [ inl e ↦ a e | inr g ↦ b g ])

-- ---- by the result of the second half

pub ok_copies : {T E : Type 0} (r : Result T E) (k : Key) (f : Frame) (place : Place) (s t : StateOf) → Readied k f place s t → StateHolds t → s.contents (key_of_place place) ≡ None → (z : StateOf)
    → OnOk r ((a : Aim) → Pins a place f t → Went a 0 t z) → OnOk r (CopyMapped k place t z) → OnOk r (CopiesPage k place s z)
ok_copies (Ok v) k f place s t rd h dead z w c = record { went = page_then k f place s t rd (λ a. IsFresh) (most_reads (s.life.valid place)) (omega arith) h dead z w; copied = page_copied k f place s t rd z c }
ok_copies (Err e) k f place s t rd h dead z w c = tt

pub err_copies : {T : Type 0} (r : Result T PageFault) (k : Key) (f : Frame) (place : Place) (s t : StateOf) → Readied k f place s t → MaySeek t → StateHolds t → s.contents (key_of_place place) ≡ None → (z : StateOf)
    → IfErr r (λ e. FindsNone (Some f) e t z) → IfErr r (λ e. FailsToCopyPage k place e s z)
err_copies (Ok v) k f place s t rd may h dead z n = tt
err_copies (Err e) k f place s t rd may h dead z n = page_fails k f place s t rd e z may h dead n

-- the page could not be brought
pub fails_to_hold : (k : Key) (place : Place) (e : PageFault) (s z : StateOf) → s.life.valid place ≡ None → s.contents (key_of_place place) ≡ None → FailsToBring k e s z → FailsToCopyPage k place e s z
fails_to_hold k place e s z free dead w =
    record {
      stuck = λ a c. w.stuck a (reaches_begins a k place s free c.reaches (λ j q. same_copy s (key_of_place place) j dead (sym c.copy ∙ q)));
      unready = inl free;
      life = piece_life (aim_at false k place s) (HasTried (aim_at false k place s) e z) 1 0 0 s z refl (w.stuck (aim_at false k place s) (record { needs = refl; from = refl; at = free; uncopied = λ j q. cc }));
      names = inl (ap (λ (x : StateOf). x.names) w.fails.same);
      causes = w.fails.causes;
      same = called_on s z w.fails.same;
    }

-- ---- what a copy leaves of the store, and how it ends

-- ---- when it may be made

pub plain_where_free : (place : Place) (k : Key) (s : StateOf) (o : OwnOf) → StoreKept s o → MayAccess (store_of s o) place (copying k place) → s.life.valid place ≡ None → s.life.kind ≡ kind.Access place.pid
plain_where_free place k s o h (inl e) n = e
plain_where_free place k s o h (inr e) n = let bad : false ≡ true = sym (ap is_some n) ∙ h.ready _ e.1 in cc

pub plain_where_short : (place : Place) (k : Key) (s : StateOf) (o : OwnOf) → StoreKept s o → MayAccess (store_of s o) place (copying k place) → is_short s.life ≡ true → s.life.kind ≡ kind.Access place.pid
plain_where_short place k s o h (inl e) n = e
plain_where_short place k s o h (inr e) n = let bad : true ≡ false = sym n ∙ h.room _ e.1 refl in cc

-- where it was ready it does not fail
pub never_unready : (place : Place) (k : Key) (s : StateOf) (o : OwnOf) → StoreKept s o → IsReady (store_of s o) place (copying k place) → (s.life.valid place ≡ None) ⊎ (is_short s.life ≡ true) → ⊥
never_unready place k s o h r (inl e) = let bad : false ≡ true = sym (ap is_some e) ∙ h.ready _ r in cc
never_unready place k s o h r (inr e) = let bad : true ≡ false = sym e ∙ h.room _ r refl in cc

-- ---- its moves

abbrev pub copy_aim : Key → Place → StateOf → Aim
copy_aim k place s = record { place = place; need = copying k place; writes = true; start = s.life }

pub aims : (k : Key) (place : Place) (s : StateOf) → CopiesFrom (copy_aim k place s) k place s
aims k place s = record { reaches = record { at = refl; needs = refl; from = refl }; copy = refl }

-- ---- what the store keeps

touches_then : (place : Place) (k : Key) (s : StateOf) (o : OwnOf) → MayAccess (store_of s o) place (copying k place) → is_touch s.life.kind ≡ true
touches_then place k s o (inl e) = ap is_touch e
touches_then place k s o (inr e) = ap is_touch e.0

-- the page copied to is ready
pub copied_kept : (n : ℕ) (k : Key) (place : Place) (s z : StateOf) (o u : OwnOf) (now : Ready) → StoreKept s o → MayAccess (store_of s o) place (copying k place) → ((a : Aim) → CopiesFrom a k place s → Went a n s z) → CopyMapped k place s z
    → u.ready ≡ Some now → now.place ≡ place → now.need.copy ≡ None → u.blocks_used ≡ o.blocks_used → StoreKept z u
copied_kept n k place s z o u now h may went c ready at none used = record {
  own = ap (λ (x : StateOf). x.own) c.same ∙ h.own;
  aside = ap (λ (x : StateOf). x.aside) c.same ∙ h.aside;
  ready = λ r e. ap (λ (x : Ready). is_some (z.life.valid x.place)) (sym (is_now r e)) ∙ ap (λ (p : Place). is_some (z.life.valid p)) at ∙ c.valid;
  touching = λ r e. ap is_touch c.life.kind ∙ touches_then place k s o may;
  room = λ r e copies. let bad : false ≡ true = sym (ap is_some none) ∙ ap (λ (x : Ready). is_some x.need.copy) (is_now r e) ∙ copies in cc;
  fresh = λ b low. ap (λ (f : ℕ → Bool). f b) c.life.added ∙ h.fresh b (subst (λ (a : ℕ). a ≤ b) used low);
  calm = λ t. let w = went (copy_aim k place s) (aims k place s) in calm_through (copy_aim k place s) IsFresh n 0 0 s z w h.calm t;
}
  where
    is_now : (r : Ready) → u.ready ≡ Some r → now ≡ r
    is_now r e = let both : Some now ≡ Some r = sym ready ∙ e in cc

-- nothing is ready
pub failed_kept : (e : PageFault) (k : Key) (place : Place) (s z : StateOf) (o u : OwnOf) → StoreKept s o → FailsToCopyPage k place e s z → u.ready ≡ None → u.blocks_used ≡ o.blocks_used → StoreKept z u
failed_kept e k place s z o u h p none used = kept_by s z o u (none_ready u none) h (ap (λ (x : StateOf). x.own) p.same) (ap (λ (x : StateOf). x.aside) p.same) p.life.added used
    (λ t. calm_through (copy_aim k place s) (HasTried (copy_aim k place s) e z) 1 0 0 s z (p.stuck (copy_aim k place s) (aims k place s)) h.calm t)

none_of : (o : Option Frame) (n : ℕ) → n ≤ most_reads o → is_some o ≡ true → n ≡ 0
none_of None n h e = cc
none_of (Some f) n h e = omega (arith, h)

pub copy_passes : (k : Key) (place : Place) (s z : StateOf) (o u : OwnOf) → StoreKept s o → ((a : Aim) → CopiesFrom a k place s → Went a (most_reads (s.life.valid place)) s z) → CopyMapped k place s z
    → Passes (Copies {T = Unit {0}} (copy_aim k place s) (IsReady (store_of s o) place (copying k place)) (Ok tt)) (store_of s o) (store_of z u) (behind_of s) (behind_of z)
copy_passes k place s z o u h went c =
    let w = went (copy_aim k place s) (aims k place s) in
    passes_of _ w.moves s z o u w.does (record {
      ends = record {
        made = made_by (copy_aim k place s) IsFresh (most_reads (s.life.valid place)) s z w (few_reads (s.life.valid place));
        read = w.fails;
        waits = w.does.waits;
        served = record { valid = c.valid; soiled = λ w. c.soiled };
        ages = young_still z.ages place 0 c.young ∙ ap (λ (g : Place → ℕ). changed same_place g place 0) w.does.ages;
      };
      calm = λ r. none_of (s.life.valid place) _ w.few_reads (h.ready _ r);
    })

pub failed_passes : (e : PageFault) (k : Key) (place : Place) (s z : StateOf) (o u : OwnOf) → StoreKept s o → FailsToCopyPage k place e s z
    → Passes (Copies {T = Unit {0}} (copy_aim k place s) (IsReady (store_of s o) place (copying k place)) (Err e)) (store_of s o) (store_of z u) (behind_of s) (behind_of z)
failed_passes e k place s z o u h p =
    let w = p.stuck (copy_aim k place s) (aims k place s) in
    passes_of _ w.moves s z o u w.does (record {
      ends = record { made = made_by (copy_aim k place s) (HasTried (copy_aim k place s) e z) 1 s z w (omega arith); read = w.fails; waits = w.does.waits; ages = w.does.ages; short = λ e. (w.ends e).0; starved = λ e. (w.ends e).1 };
      calm = λ r. absurd (never_unready place k s o h r p.unready);
    })

-- ---- the store after it

block_copied : (k : Key) (place : Place) (s z : StateOf) (ms : List Move) → StateHolds s → StateHolds z → Replays ms s.life z.life → s.contents (key_of_place place) ≡ None → CopyMapped k place s z → (q : Key)
    → block_at (backed_by z.life (z.life.stands q)) ≡ block_at (backed_by s.life (s.life.stands q))
block_copied k place s z ms h g r dead c q = elim (key_or_not q (key_of_place place)) [
  | inl e ↦
      subst (λ (x : Key). block_at (backed_by z.life (z.life.stands x)) ≡ block_at (backed_by s.life (s.life.stands x))) (sym e.0)
      (paging_has_none z (key_of_place place) g (ap (λ (p : Key → Bool). p (key_of_place place)) c.life.paging ∙ changed_here s.life.paging (key_of_place place) true) ∙ sym (dead_has_none s (key_of_place place) h dead))
  | inr n ↦
      block_same s z ms h g r q (ap (λ (p : Key → Bool). p q) c.life.paging ∙ changed_else s.life.paging (key_of_place place) q true n.0)
      (ap is_some (ap (λ (p : Key → Option Page). p q) c.contents ∙ changed_else s.contents (key_of_place place) q (s.contents k) n.0))
]

-- the store with a new page-file key, which its place names
abbrev pub with_copy : StoreOf → StoreOf → Place → Key → StoreOf
with_copy s z place to = record (fetched s z) {
  names = changed same_place s.names place (Some to);
  paging = changed same_in_world s.paging to true;
  paging_keys = s.paging_keys + 1;
}

pub copied_store : (n : ℕ) (k : Key) (place : Place) (to : Key) (s z : StateOf) (o u : OwnOf) → to ≡ own_key place → StateHolds s → StateHolds z → s.contents (key_of_place place) ≡ None → ((a : Aim) → CopiesFrom a k place s → Went a n s z) → CopyMapped k place s z → u.extended ≡ o.extended → u.blocks_used ≡ o.blocks_used
    → store_of z u ≡ with_copy (store_of s o) (store_of z u) place to
copied_store n k place to s z o u e h g dead went c x b =
    let w = went (copy_aim k place s) (aims k place s) in
    let blocks = block_copied k place s z w.moves h g w.does.replays dead c in
    let paging : z.life.paging ≡ changed same_in_world s.life.paging (own_key place) true = c.life.paging ∙ changed_keys s.life.paging (key_of_place place) true in
    let opened : z.is_open ≡ s.is_open = ap (λ (t : StateOf). t.is_open) c.same in
    let areas : z.areas ≡ s.areas = ap (λ (t : StateOf). t.areas) c.same in
    let bound : z.bound ≡ s.bound = ap (λ (t : StateOf). t.bound) c.same in
    (λ i. record {
      machine = c.life.machine i;
      is_open = opened i;
      areas = areas i;
      bound = bound i;
      names = c.names i;
      paging = paging i;
      paging_keys = c.life.keys i;
      room = limit_of (c.life.machine i);
      block_of = λ q. blocks q i;
      blocks_used = b i;
      file_blocks = z.blocks;
      line = c.life.line i;
      kind = c.life.kind i;
      last_pid = c.life.pids i;
      ready = u.ready;
      report = record (report_of z u) { extended = x i };
      paging_device = z.paging;
      file_device = z.files;
    }) ∙ ap (with_copy (store_of s o) (store_of z u) place) (sym e)

pub failed_store : (e : PageFault) (k : Key) (place : Place) (s z : StateOf) (o u : OwnOf) → StateHolds s → StateHolds z → FailsToCopyPage k place e s z → u.extended ≡ o.extended → u.blocks_used ≡ o.blocks_used → store_of z u ≡ record (fetched (store_of s o) (store_of z u)) { names = z.names }
failed_store e k place s z o u h g p x b = let w = p.stuck (copy_aim k place s) (aims k place s) in called_store w.moves s z o u w.does.replays p.life p.same h g x b

-- ---- how it ends, by the report

live_where : (l : FrameLife) (h : Held) → not (is_dead h) ≡ true → not (is_none (where_of l h)) ≡ true
live_where l held.Dead e = cc
live_where l h e = refl

dead_where : (l : FrameLife) (h : Held) → not (is_dead h) ≡ false → not (is_none (where_of l h)) ≡ false
dead_where l held.Dead e = refl
dead_where l h e = cc

either_some : (a b : Bool) → b ≡ false → (not a || not b) ≡ true
either_some a b q = grind (arith, q)

-- the place's own page lives then
copied_live : (k : Key) (place : Place) (s z : StateOf) → StateHolds z → CopyMapped k place s z → is_some (s.contents k) ≡ true → is_live z.life (key_of_place place) ≡ true
copied_live k place s z g c some = g.live (key_of_place place) ∙ ap (λ (p : Key → Option Page). is_some (p (key_of_place place))) c.contents ∙ ap is_some (changed_here s.contents (key_of_place place) (s.contents k)) ∙ some

-- a report tells of the store's own fields the extension alone
abbrev told_by : Option Bool → OwnOf
told_by x = record { extended = x; ready = None; blocks_used = 0 }

pub copied_ends : (k : Key) (place : Place) (s z : StateOf) (o : OwnOf) (x : Option Bool) → StateHolds z → CopyMapped k place s z → is_some (s.contents k) ≡ true → IsBegun (report_of s o) → Ends {T = Unit {0}} (copying k place) (report_of z (told_by x)) (Ok tt)
copied_ends k place s z o x g c some b =
    let still : still_needs_frame (copying k place) (report_of z (told_by x)) ≡ false =
    (λ i. not (framed_has z.life (z.life.stands k) c.framed i) || not (live_where z.life (z.life.stands (key_of_place place)) (copied_live k place s z g c some) i)) in
    record {
      ok = ap (λ (f : Bool). f || search_failed (copying k place) (report_of z (told_by x))) (nothing_read k (report_of z (told_by x)) (c.read ∙ b.no_failed_read)) ∙ fails_not _ (z.told.search_writes.succeeded == 0) (still_needs_frame (copying k place) (report_of z (told_by x))) (report_is_short (report_of z (told_by x))) still;
      had = still;
      read = λ h. cc;
      no_frame = λ h. cc;
    }

pub failed_causes_copy : (why : PageFault) (k : Key) (place : Place) (s z : StateOf) (x : Option Bool) → StateHolds z → z.contents (key_of_place place) ≡ None → Causes why k s z → HasCauses {T = Unit {0}} (copying k place) (report_of z (told_by x)) (Err why)
failed_causes_copy fault.Read k place s z x g dead h = record {
  read = λ e. ap (λ (r : Option Key). unwrap_or (option_map (same_in_world k) r) false) (h.read refl) ∙ same_key-self k;
  no_frame = λ e. cc;
}
failed_causes_copy fault.NoFrame k place s z x g dead h = record {
  read = λ e. cc;
  no_frame = λ e. (
    h.failed refl,
    either_some _ _ (dead_where z.life (z.life.stands (key_of_place place)) (g.live (key_of_place place) ∙ ap is_some dead)),
    short_counts true true true z.life.frames.zeroed z.life.frames.free z.life.frames.standby (h.short refl),
  );
}

pub failed_ends_copy : (why : PageFault) (k : Key) (place : Place) (s z : StateOf) (o : OwnOf) (x : Option Bool) → StateHolds z → z.contents (key_of_place place) ≡ None → Causes why k s z → IsBegun (report_of s o) → Ends {T = Unit {0}} (copying k place) (report_of z (told_by x)) (Err why)
failed_ends_copy fault.Read k place s z o x g dead h b = record { ok = tt; had = tt; read = (failed_causes_copy fault.Read k place s z x g dead h).read; no_frame = λ e. cc }
failed_ends_copy fault.NoFrame k place s z o x g dead h b =
    let c = (failed_causes_copy fault.NoFrame k place s z x g dead h).no_frame refl in
    record {
      ok = tt;
      had = tt;
      read = λ e. cc;
      no_frame = λ e. (
        nothing_read k (report_of z (told_by x)) (h.kept refl ∙ b.no_failed_read),
        search_failed_by z.told.search_writes.failed z.told.search_writes.succeeded _ _ c.0 (h.none refl b.no_failed_write) c.1 c.2,
      );
    }

-- ---- in the call's own words

-- the place's own page is dead still
pub failed_dead : (s z : StateOf) (place : Place) → z ≡ record (moved_with_call s z) { names = z.names } → s.contents (key_of_place place) ≡ None → z.contents (key_of_place place) ≡ None
failed_dead s z place e dead = ap (λ (x : StateOf). x.contents (key_of_place place)) e ∙ dead
