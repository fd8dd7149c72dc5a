-- What a class says of the state in which its move is legal.
use Rattle.std.proofs.Common.{◌≡◌, ℕ, zero, suc, ◌+◌, ◌≤◌, Bool, true, false, cond, List, [], ◌∷◌, Option, Some, None, refl, sym, ap, ◌∙◌, arith}
use Rattle.std.specs.Prelude.{◌&&◌, ◌||◌, ◌==◌, not, nat_lt, is_some, option_map, unwrap_or}
use Rattle.std.proofs.lemmas.Bool.{and_parts, lt-ltb}
use Rattle.mm_types.specs.{Block, Frame, Place, Slot, Held, LineKind, Move}
use Rattle.mm_types.specs.declared.frames.Held.TheVariants as held
use Rattle.mm_types.specs.declared.moves.LineKind.TheVariants as kind
use Rattle.mm_types.specs.declared.moves.Move.TheVariants as move
use Rattle.mm_move_rules.specs.{record_at, is_on, is_idle, has_request, FrameLife, set_of, is_shared, key_of_place, is_live, is_access, is_at_max}
use Rattle.mm_move_rules.specs.{is_above_min, is_short, is_stored, is_unbind, unbinds, trims, touches, owner_is, fits_place, may_unmap, is_legal_map}
use Rattle.mm_move_laws.specs.Sound.{Sound}
use Rattle.mm_move_laws.specs.{one_if, times}
use Rattle.mm_move_laws.proofs.{owner_passes}
use Rattle.mm_move_classes.specs.{class_of_read, class_of_soft, class_of_map, class_of_unmap, is_trim, makes_way, makes_room, ToldAs, SaysTheState, Class}
use Rattle.mm_move_classes.specs.declared.classes.Class.TheVariants as class

some_class : (a b : Class) → Some a ≡ Some b → a ≡ b
some_class a b e = cc

-- ---- reads

from_slot : (h : Held) → class_of_read h ≡ class.HardFaultFromPagingFile → (s : Slot) × (h ≡ held.Slot s)
from_slot (held.Slot s) e = (s, refl)
from_slot h e = cc

from_block : (h : Held) → is_stored h ≡ true → class_of_read h ≡ class.HardFaultFromFile → (b : Block) × (h ≡ held.Block b)
from_block (held.Block b) i e = (b, refl)
from_block h i e = cc

-- ---- maps

-- no soft fault is the end of another fault
no_soft : (a b : Bool) (c : Class) → cond a class.MadeValid (cond b class.FirstUse c) ≡ class.SoftFaultFromStandby → c ≡ class.SoftFaultFromStandby
no_soft true b c e = cc
no_soft false true c e = cc
no_soft false false c e = e

no_soft_modified : (a b : Bool) (c : Class) → cond a class.MadeValid (cond b class.FirstUse c) ≡ class.SoftFaultFromModified → c ≡ class.SoftFaultFromModified
no_soft_modified true b c e = cc
no_soft_modified false true c e = cc
no_soft_modified false false c e = e

record Quiet (a b c : Bool) : Type 0 where
  unshared : a ≡ false
  quiet : b ≡ false
  off : c ≡ false

on_standby : (a b c : Bool) → cond a class.SoftFaultShared (cond b class.SoftFaultInTransition (cond c class.SoftFaultFromModified class.SoftFaultFromStandby)) ≡ class.SoftFaultFromStandby → Quiet a b c
on_standby false false false e = record { unshared = refl; quiet = refl; off = refl }
on_standby a b c e = cc

on_modified : (a b c : Bool) → cond a class.SoftFaultShared (cond b class.SoftFaultInTransition (cond c class.SoftFaultFromModified class.SoftFaultFromStandby)) ≡ class.SoftFaultFromModified → c ≡ true
on_modified false false true e = refl
on_modified a b c e = cc

-- a frame that is not on a list stands there no times, and one that is not there is not on it
on_times : (f : ℕ) (xs : List ℕ) → 1 ≤ times f xs → is_on f xs ≡ true
on_times f [] h = absurd (omega arith)
on_times f (x ∷ xs) h = here (x == f) (is_on f xs) (times f xs) h (on_times f xs)
  where
    here : (b on : Bool) (n : ℕ) → 1 ≤ one_if b + n → (1 ≤ n → on ≡ true) → (b || on) ≡ true
    here true on n h k = refl
    here false on n h k = k (omega (arith, h))

idle_here : (shares : ℕ) (busy : Bool) → nat_lt 0 shares ≡ false → busy ≡ false → ((shares == 0) && not busy) ≡ true
idle_here zero busy a b = ap not b
idle_here (suc n) busy a b = let bad : true ≡ false = sym (lt-ltb 0 (suc n) (omega arith)) ∙ a in cc

times_none : (f : ℕ) (xs : List ℕ) → is_on f xs ≡ false → times f xs ≡ 0
times_none f [] h = refl
times_none f (x ∷ xs) h = none (x == f) (is_on f xs) (times f xs) h (times_none f xs)
  where
    none : (b on : Bool) (n : ℕ) → (b || on) ≡ false → (on ≡ false → n ≡ 0) → one_if b + n ≡ 0
    none true on n h k = cc
    none false on n h k = omega (arith, k h)

one_true : (b : Bool) → one_if b ≡ 0 → b ≡ false
one_true true e = absurd (omega arith)
one_true false e = refl

stands_there : (owned idle changed : Bool) → owned ≡ true → idle ≡ true → (owned && (idle && changed)) ≡ false → one_if (owned && (idle && not changed)) ≡ 1
stands_there true true false a b c = refl
stands_there o i x a b c = cc

module _ (l : FrameLife) (s : Sound l) where
  standby_there : (f : ℕ) → is_some (record_at l.frames f).owner ≡ true → is_idle (record_at l.frames f) ≡ true → is_on f l.frames.modified ≡ false → is_on f l.frames.standby ≡ true
  standby_there f owned idle off =
      let r = record_at l.frames f in
      let unchanged : (is_some (record_at l.frames f).owner && (is_idle (record_at l.frames f) && (record_at l.frames f).changed)) ≡ false =
      one_true _ (sym (s.standing f).modified ∙ times_none f l.frames.modified off) in
      on_times f l.frames.standby
      (omega (arith, (s.standing f).standby, stands_there (is_some r.owner) (is_idle r) r.changed owned idle unchanged))

  is_standby : (f : Frame) (p : Place) → ToldAs l (move.Map f p) class.SoftFaultFromStandby → is_on f.0 l.frames.standby ≡ true
  is_standby f p t =
      let r = record_at l.frames f.0 in
      let soft : class_of_soft l f.0 (record_at l.frames f.0) ≡ class.SoftFaultFromStandby =
      no_soft (t.marks.fresh f.0) (t.marks.arrived f.0) _ (some_class (class_of_map l t.marks f.0) class.SoftFaultFromStandby t.class) in
      let q = on_standby (nat_lt 0 r.shares) (has_request r.request) (is_on f.0 l.frames.modified) soft in
      let legal : is_legal_map l (record_at l.frames f.0) p ≡ true = t.legal in
      let a = and_parts _ _ legal in
      let b = and_parts _ _ a.0 in
      let c = and_parts _ _ b.0 in
      let d = and_parts _ _ c.0 in
      standby_there f.0 (ap is_some (owner_passes (fits_place p) r d.0).is) (idle_here r.shares (has_request r.request) q.unshared q.quiet) q.off

is_modified : (l : FrameLife) (f : Frame) (p : Place) → ToldAs l (move.Map f p) class.SoftFaultFromModified → is_on f.0 l.frames.modified ≡ true
is_modified l f p t =
    let r = record_at l.frames f.0 in
    let soft : class_of_soft l f.0 (record_at l.frames f.0) ≡ class.SoftFaultFromModified =
    no_soft_modified (t.marks.fresh f.0) (t.marks.arrived f.0) _ (some_class (class_of_map l t.marks f.0) class.SoftFaultFromModified t.class) in
    on_modified (nat_lt 0 r.shares) (has_request r.request) (is_on f.0 l.frames.modified) soft

-- ---- unmaps

record Others (a b c d : Bool) : Type 0 where
  no_end : a ≡ false
  no_trim : b ≡ false
  no_copy : c ≡ false
  no_want : d ≡ false

by_tests : Bool → Bool → Bool → Bool → Class
by_tests a b c d = cond a class.PlaceEnds (cond b class.Trimmed (cond c class.MakesWayForCopy (cond d class.TrimmedForWantOfFrames class.Replaced)))

replaced_by : (a b c d : Bool) → by_tests a b c d ≡ class.Replaced → Others a b c d
unfolding by_tests
replaced_by false false false false e = record { no_end = refl; no_trim = refl; no_copy = refl; no_want = refl }
replaced_by a b c d e = cc

wanted_by : (a b c d : Bool) → by_tests a b c d ≡ class.TrimmedForWantOfFrames → d ≡ true
unfolding by_tests
wanted_by false false false true e = refl
wanted_by a b c d e = cc

unbinds_is : (pid : ℕ) (k : LineKind) → unbinds pid k ≡ true → is_unbind k ≡ true
unbinds_is pid (kind.Unbind p) e = refl
unbinds_is pid _ e = cc

trims_is : (pid : ℕ) (k : LineKind) → trims pid k ≡ true → is_trim k ≡ true
trims_is pid (kind.Trim p) e = refl
trims_is pid _ e = cc

no_room : (s room : Bool) → s ≡ true → (s && not room) ≡ false → room ≡ true
no_room true true a b = refl
no_room true false a b = cc
no_room false r a b = cc

clash : (b : Bool) → b ≡ true → b ≡ false → (P : Type 0) → P
clash b p q P = let bad : true ≡ false = sym p ∙ q in cc

is_short_then : (l : FrameLife) (p : Place) → ToldAs l (move.Unmap p) class.TrimmedForWantOfFrames → is_short l ≡ true
unfolding by_tests
is_short_then l p t =
    let want = wanted_by (is_unbind l.kind) (is_trim l.kind) (makes_way l p) (is_access l.kind && is_short l && not (makes_room l p.pid.0 t.after))
    (some_class (class_of_unmap l p t.after) class.TrimmedForWantOfFrames t.class) in
    (and_parts (is_access l.kind) (is_short l) (and_parts (is_access l.kind && is_short l) (not (makes_room l p.pid.0 t.after)) want).0).1

five : (a b c d e : Bool) (P : Type 0) → (a || b || c || d || e) ≡ true → (a ≡ true → P) → (b ≡ true → P) → (c ≡ true → P) → (d ≡ true → P) → (e ≡ true → P) → P
five true b c d e P h p q r s t = p refl
five false true c d e P h p q r s t = q refl
five false false true d e P h p q r s t = r refl
five false false false true e P h p q r s t = s refl
five false false false false true P h p q r s t = t refl
five false false false false false P h p q r s t = let bad : false ≡ true = h in cc

module _ (l : FrameLife) (p : Place) (after : Option Move)
    (o : Others (is_unbind l.kind) (is_trim l.kind) (makes_way l p) (is_access l.kind && is_short l && not (makes_room l p.pid.0 after))) where
  abbrev AtMax : Type 0
  AtMax = is_at_max (set_of l p.pid.0) ≡ true

  from_room : makes_room l p.pid.0 after ≡ true → AtMax
  from_room h = (and_parts _ _ (and_parts _ _ h).0).1

  way_made : (f : Frame) → l.valid p ≡ Some f → (touches p.pid.0 l.kind && owner_is is_shared (record_at l.frames f.0) && is_live l (key_of_place p)) ≡ true → makes_way l p ≡ true
  way_made f e h =
      ap (λ (v : Option Frame). touches p.pid.0 l.kind && unwrap_or (option_map (λ g. owner_is is_shared (record_at l.frames g.0)) v) false && is_live l (key_of_place p)) e ∙ h

  full_at : (f : Frame) → l.valid p ≡ Some f → may_unmap l p (record_at l.frames f.0) ≡ true → AtMax
  full_at f e h =
      five (unbinds p.pid.0 l.kind) (trims p.pid.0 l.kind && is_above_min (set_of l p.pid.0)) (touches p.pid.0 l.kind && is_at_max (set_of l p.pid.0)) (is_access l.kind && is_short l)
      (touches p.pid.0 l.kind && owner_is is_shared (record_at l.frames f.0) && is_live l (key_of_place p)) AtMax h
      (λ u. clash (is_unbind l.kind) (unbinds_is p.pid.0 l.kind u) o.no_end AtMax)
      (λ u. clash (is_trim l.kind) (trims_is p.pid.0 l.kind (and_parts _ _ u).0) o.no_trim AtMax)
      (λ u. (and_parts _ _ u).1)
      (λ u. from_room (no_room (is_access l.kind && is_short l) (makes_room l p.pid.0 after) u o.no_want))
      (λ u. clash (makes_way l p) (way_made f e u) o.no_copy AtMax)

  full_by : (v : Option Frame) → l.valid p ≡ v → unwrap_or (option_map (λ f. may_unmap l p (record_at l.frames f.0)) v) false ≡ true → AtMax
  full_by None e h = let bad : false ≡ true = h in cc
  full_by (Some f) e h = full_at f e h

is_full_then : (l : FrameLife) (p : Place) → ToldAs l (move.Unmap p) class.Replaced → is_at_max (set_of l p.pid.0) ≡ true
unfolding by_tests
is_full_then l p t =
    full_by l p t.after
    (replaced_by (is_unbind l.kind) (is_trim l.kind) (makes_way l p) (is_access l.kind && is_short l && not (makes_room l p.pid.0 t.after))
    (some_class (class_of_unmap l p t.after) class.Replaced t.class)) (l.valid p) refl t.legal

pub says : (l : FrameLife) → Sound l → SaysTheState l
says l s = record {
  paging_file = λ f k t. from_slot (l.stands k) (some_class (class_of_read (l.stands k)) class.HardFaultFromPagingFile t.class);
  file = λ f k t. from_block (l.stands k) (and_parts _ _ (and_parts _ _ t.legal).0).1 (some_class (class_of_read (l.stands k)) class.HardFaultFromFile t.class);
  standby = is_standby l s;
  modified = is_modified l;
  replaced = is_full_then l;
  short = is_short_then l;
}
