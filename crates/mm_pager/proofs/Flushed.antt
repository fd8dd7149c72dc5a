-- A page of a file that is written to its block.
use Rattle.std.proofs.Common.{◌≡◌, ◌≢◌, ℕ, ◌<◌, Bool, true, false, List, [], ◌∷◌, ◌++◌, Option, Some, None, refl, sym, ap, ◌∙◌, subst, inl, inr, ◌⊎◌}
use Rattle.std.proofs.Math.Logic.{∥∥₁_elim}
use Rattle.std.proofs.Props.{props}
use Rattle.std.specs.Prelude.{not, ◌&&◌, ◌||◌, if◌then◌else◌, is_some, IsSome, slice_get, Result, Ok, Err, OnOk, OnErr, is_ok}
use Rattle.mm_types.specs.{Backing, Held, Record, Request, LineKind, Move, Stored, Block, Frame, Key}
use Rattle.mm_types.specs.declared.devices.Direction.TheVariants as way
use Rattle.mm_types.specs.declared.frames.Backing.TheVariants as backing
use Rattle.mm_types.specs.declared.frames.Held.TheVariants as held
use Rattle.mm_types.specs.declared.frames.Request.TheVariants as request
use Rattle.mm_types.specs.declared.moves.LineKind.TheVariants as kind
use Rattle.mm_types.specs.declared.moves.Move.TheVariants as move
use Rattle.mm_types.specs.declared.moves.Stored.TheVariants as stored
use Rattle.mm_devices.proofs.{later_same, later_then, serves_later, serves_failed, failed_later}
use Rattle.mm_types.proofs.{get_set_other, or_true, same_number, some_found}
use Rattle.mm_move_rules.specs.{record_at, blank, is_read, is_write, is_again, has_request, write_done, without_slot, being_written, FrameLife, is_live}
use Rattle.mm_move_rules.specs.{is_dead, IsLegal, is_touch, is_access, is_writer, is_call, is_block, has_depth, is_on, wait_of}
use Rattle.mm_move_laws.specs.{ended_as}
use Rattle.mm_move_laws.proofs.{reached_sound, wrote_settles}
use Rattle.mm_store.specs.{IsEndOf, IsWrittenNow, IsWrittenIf, IsEndedFirst, FlushesBy, FlushedAt, ends_lost, FlushesPage as Flushes, Passes, wrote}
use Rattle.mm_store.specs.{Served, fetched, stored_of, backed_by, block_at, in_backing, is_on_device, bytes_on_devices, is_framed, with_write}
use Rattle.mm_store.specs.Told.{Told}
use Rattle.mm_parts.specs.{write_end, write_target, goes_to, lowest_free_slot, own_after, own_ended}
use Rattle.mm_state_calls.specs.{StateOf, CalledFor, Made, WrotePage, backing_of_frame, moved, moved_with_call, written_if, DoesMoves, StateHolds}
use Rattle.mm_state_calls.proofs.{does_one, does_two, does_then, does_nothing}
use Rattle.mm_frame_laws.specs.{blocks_written, slots_written}
use Rattle.mm_pager.specs.{HoldsFilePage, WritesTo, WritesBack, EndedIf, WrittenIf, is_changed_then, EndsFlight, WritesChanged, FlushesFrame}
use Rattle.mm_pager.specs.{FlushedOnePage, LifeKept, OwnOf, StoreKept, store_of, report_of, behind_of}
use Rattle.mm_pager.proofs.Shows.{kept_untouched, passes_of}
use Rattle.mm_pager.proofs.Completed.{called_by_write}
use Rattle.mm_pager.proofs.AccessMoves.{kept_same, kept_then, blocks_kept, called_on, called_store, kept_made, with_told, InLine, served_by, set_there}
use Rattle.mm_pager.proofs.Ending.{some_is}
use Rattle.mm_reclaim.proofs.{one_some}

-- ---- blocks

-- a backing with this block
block_is : (x : Backing) (n : ℕ) → block_at (in_backing x) ≡ Some n → x ≡ backing.Block (record { 0 = n })
block_is backing.None n e = cc
block_is (backing.Slot s) n e = cc
block_is (backing.Block c) n e = let same : c.0 ≡ n = cc in ap (λ (k : ℕ). backing.Block (record { 0 = k })) same

pub block_of_frame : (s : StateOf) (k : Key) (f : Frame) (n : ℕ) → s.life.stands k ≡ held.Frame f → block_at (backed_by s.life (s.life.stands k)) ≡ Some n → backing_of_frame s f ≡ backing.Block (record { 0 = n })
block_of_frame s k f n e b = block_is (backing_of_frame s f) n (sym (ap (λ (h : Held). block_at (backed_by s.life h)) e) ∙ b)

live_frame : (s : StateOf) (k : Key) (f : Frame) → s.life.stands k ≡ held.Frame f → is_live s.life k ≡ true
live_frame s k f e = ap (λ (h : Held). not (is_dead h)) e

page_of : (s : StateOf) (k : Key) (f : Frame) → StateHolds s → s.life.stands k ≡ held.Frame f → (page : List ℕ) × (s.contents k ≡ Some page)
page_of s k f h e = some_found (s.contents k) (sym (h.live k) ∙ live_frame s k f e)

-- ---- device calls

device_none : (b : Block) (s z : StateOf) → z.paging ≡ s.paging → z.files ≡ s.files → z.slots ≡ s.slots → z.blocks ≡ s.blocks → z.waits ≡ s.waits → z.told ≡ s.told → WritesTo b true s z
device_none b s z p f l k w t = record {
  paging = p;
  slots = l;
  waits = w;
  others = λ other n. ap (λ (x : List (List ℕ)). slice_get x other) k;
  told = subst (λ (x : Told). x ≡ record s.told { file_writes = x.file_writes; search_writes = x.search_writes }) (sym t) refl;
  later = later_same s.files z.files f;
  quiet = λ e. ap (λ (x : Told). x.file_writes.failed) t;
  failed = λ e. cc;
  blamed = λ e. cc;
}

device_then : (b : Block) (ok : Bool) (s y z : StateOf) → WritesTo b true s y → WritesTo b ok y z → WritesTo b ok s z
device_then b ok s y z p q = record {
  paging = q.paging ∙ p.paging;
  slots = q.slots ∙ p.slots;
  waits = q.waits ∙ p.waits;
  others = λ other n. q.others other n ∙ p.others other n;
  told = q.told ∙ ap (λ (t : Told). record t { file_writes = z.told.file_writes; search_writes = z.told.search_writes }) p.told;
  later = later_then s.files y.files z.files p.later q.later;
  quiet = λ e. q.quiet e ∙ p.quiet refl;
  failed = q.failed;
  blamed = λ e. failed_later s.files y.files z.files p.later (q.blamed e);
}

slots_same : (b : Block) (page : List ℕ) (ok : Bool) (xs : List (List ℕ)) → written_if ok (slots_written (backing.Block b) page) xs ≡ xs
slots_same b page true xs = refl
slots_same b page false xs = refl

others_same : (b : Block) (page : List ℕ) (ok : Bool) (xs : List (List ℕ)) (other : ℕ) → other ≢ b.0 → slice_get (written_if ok (blocks_written (backing.Block b) page) xs) other ≡ slice_get xs other
others_same b page true xs other n = get_set_other xs b.0 other page n
others_same b page false xs other n = refl

none_failed : (t : Told) (b : Block) (ok : Bool) → ok ≡ true → (with_write ok (backing.Block b) t).file_writes.failed ≡ t.file_writes.failed
none_failed t b true e = refl
none_failed t b false e = cc

one_failed : (t : Told) (b : Block) (ok : Bool) → ok ≡ false → 0 < (with_write ok (backing.Block b) t).file_writes.failed
one_failed t b true e = cc
one_failed t b false e = one_some t.file_writes.failed

by_call : (b : Block) (page : List ℕ) (ok : Bool) (s z : StateOf) → z.told ≡ with_write ok (backing.Block b) s.told → z.waits ≡ s.waits → CalledFor way.Write (backing.Block b) ok s.paging s.files z.paging z.files → WrotePage (backing.Block b) page ok s z → WritesTo b ok s z
by_call b page ok s z t w c p = record {
  paging = c.1;
  slots = p.slots_are ∙ slots_same b page ok s.slots;
  waits = w;
  others = λ other n. ap (λ (x : List (List ℕ)). slice_get x other) p.blocks_are ∙ others_same b page ok s.blocks other n;
  told = subst (λ (x : Told). x ≡ record s.told { file_writes = x.file_writes; search_writes = x.search_writes }) (sym t) refl;
  later = serves_later _ s.files z.files c.0;
  quiet = λ e. ap (λ (x : Told). x.file_writes.failed) t ∙ none_failed s.told b ok e;
  failed = λ e. subst (λ (x : Told). 0 < x.file_writes.failed) (sym t) (one_failed s.told b ok e);
  blamed = λ e. serves_failed _ s.files z.files c.0 e;
}

ended_device : (b : Block) (f : Frame) (page : List ℕ) (ok : Bool) (s z : StateOf) → backing_of_frame s f ≡ backing.Block b → Made (write_end ok f) s z → WrotePage (backing_of_frame s f) page ok s z → WritesTo b ok s z
ended_device b f page true s z e m w = by_call b page true s z (m.told ∙ ap (λ (h : Backing). with_write true h s.told) e) m.waits (subst (λ (h : Backing). CalledFor way.Write h true s.paging s.files z.paging z.files) e m.calls) (subst (λ (h : Backing). WrotePage h page true s z) e w)
ended_device b f page false s z e m w = by_call b page false s z (m.told ∙ ap (λ (h : Backing). with_write false h s.told) e) m.waits (subst (λ (h : Backing). CalledFor way.Write h false s.paging s.files z.paging z.files) e m.calls) (subst (λ (h : Backing). WrotePage h page false s z) e w)

-- ---- the life of the frames

life_end : (ok : Bool) (f : Frame) (s z : StateOf) → Made (write_end ok f) s z → LifeKept s.life z.life
life_end true f s z m = kept_made (move.Wrote f) s z m tt
life_end false f s z m = kept_made (move.Lost f) s z m tt

held_end : (ok : Bool) (f : Frame) (s z : StateOf) → Made (write_end ok f) s z → z.life.stands ≡ s.life.stands
held_end true f s z m = ap (λ (l : FrameLife). l.stands) m.life
held_end false f s z m = ap (λ (l : FrameLife). l.stands) m.life

-- the frame's page has the block that it had
backed_after : (s z : StateOf) (ms : List Move) (k : Key) (f : Frame) (b : Block) → StateHolds s → StateHolds z → DoesMoves ms s z → LifeKept s.life z.life → z.life.stands ≡ s.life.stands → z.contents ≡ s.contents → s.life.stands k ≡ held.Frame f → backing_of_frame s f ≡ backing.Block b → backing_of_frame z f ≡ backing.Block b
backed_after s z ms k f b h g d l st c e w =
    block_of_frame z k f b.0 (ap (λ (x : Key → Held). x k) st ∙ e)
    (blocks_kept s z ms h g d.replays l.paging c k ∙ ap (λ (x : Held). block_at (backed_by s.life x)) e ∙ ap (λ (x : Backing). block_at (in_backing x)) w)

-- ---- one list of writes behind another

pub writes_none : (b : Block) (s : StateOf) → WritesBack b true [] s s
writes_none b s = record { does = does_nothing s; life = kept_same s.life; stands = refl; same = refl; device = device_none b s s refl refl refl refl refl refl }

writes_then : (b : Block) (ok : Bool) (xs ys : List Move) (s y z : StateOf) → WritesBack b true xs s y → WritesBack b ok ys y z → WritesBack b ok (xs ++ ys) s z
writes_then b ok xs ys s y z p q = record {
  does = does_then xs ys s y z p.does q.does;
  life = kept_then s.life y.life z.life p.life q.life;
  stands = q.stands ∙ p.stands;
  same = q.same ∙ ap (λ (x : StateOf). moved_with_call x z) p.same;
  device = device_then b ok s y z p.device q.device;
}

-- ---- a write in flight ends

done_still : (r : Record) → is_write (ended_as write_done r).request ≡ false
done_still r = at (is_some r.owner) (is_again r.request)
  where
    at : (o a : Bool) → is_write (if o then (if a then record r { request = request.None; backing = without_slot r.backing } else record r { request = request.None; changed = false }) else blank).request ≡ false
    at true true = refl
    at true false = refl
    at false a = refl

-- what is looked at in the record of a frame whose write has ended
ended_look : (look : Record → Bool) (f : Frame) (s z : StateOf) → StateHolds s → Made (move.Wrote f) s z → look (record_at z.life.frames f.0) ≡ look (ended_as write_done (record_at s.life.frames f.0))
ended_look look f s z h m = ∥∥₁_elim h.reached (hlevel props) (λ r. ap (λ (l : FrameLife). look (record_at l.frames f.0)) m.life ∙ ap look (wrote_settles s.life (reached_sound s.life r) f m.legal).here)

ended_still : (ok : Bool) (f : Frame) (s z : StateOf) → StateHolds s → Made (write_end ok f) s z → ok ≡ true → is_write (record_at z.life.frames f.0).request ≡ false
ended_still true f s z h m e = ended_look (λ r. is_write r.request) f s z h m ∙ done_still (record_at s.life.frames f.0)
ended_still false f s z h m e = cc

pub flight_none : (b : Block) (f : Frame) (s : StateOf) → backing_of_frame s f ≡ backing.Block b → is_write (record_at s.life.frames f.0).request ≡ false → EndsFlight b f true s s
flight_none b f s e w = record {
  moves = [];
  are = subst (λ (x : Bool). EndedIf x true f []) (sym w) (refl, refl);
  writes = writes_none b s;
  backed = e;
  still = λ q. w;
  changed = λ q. ap (λ (x : Bool). if x then is_again (record_at s.life.frames f.0).request else (record_at s.life.frames f.0).changed) (sym w);
}

-- a page that was written to during its write is changed after it, any other is not
done_changed : (r : Record) → is_some r.owner ≡ true → r.changed ≡ true → (ended_as write_done r).changed ≡ is_again r.request
done_changed r o c = at (is_some r.owner) (is_again r.request) o
  where
    at : (o a : Bool) → o ≡ true → (if o then (if a then record r { request = request.None; backing = without_slot r.backing } else record r { request = request.None; changed = false }) else blank).changed ≡ a
    at true true q = c
    at true false q = refl
    at false a q = cc

ended_changed : (ok : Bool) (f : Frame) (s z : StateOf) → StateHolds s → Made (write_end ok f) s z → is_some (record_at s.life.frames f.0).owner ≡ true → is_write (record_at s.life.frames f.0).request ≡ true → ok ≡ true → (record_at z.life.frames f.0).changed ≡ is_again (record_at s.life.frames f.0).request
ended_changed true f s z h m o w e = ended_look (λ r. r.changed) f s z h m ∙ done_changed (record_at s.life.frames f.0) o (h.writing f w)
ended_changed false f s z h m o w e = cc

-- what the end of a write tells of the page that is written
abbrev pub WroteOf : Frame → Bool → StateOf → StateOf → Type 0
WroteOf f ok s z = (k : Key) (page : List ℕ) → (record_at s.life.frames f.0).owner ≡ Some k → s.contents k ≡ Some page → WrotePage (backing_of_frame s f) page ok s z

pub flight_ended : (b : Block) (f : Frame) (ok : Bool) (s z : StateOf) → StateHolds s → StateHolds z → HoldsFilePage f s → backing_of_frame s f ≡ backing.Block b → s.own ≡ None → is_write (record_at s.life.frames f.0).request ≡ true → Made (write_end ok f) s z → z ≡ record (moved_with_call s z) { own = own_ended s.own f.0 } → WroteOf f ok s z → EndsFlight b f ok s z
flight_ended b f ok s z h g i e o v m r w =
    let same = called_by_write s z f.0 o r in
    let page = page_of s i.key f h i.stands in
    record {
      moves = write_end ok f ∷ [];
      are = subst (λ (x : Bool). EndedIf x ok f (write_end ok f ∷ [])) (sym v) refl;
      writes = record {
        does = does_one (write_end ok f) s z m;
        life = life_end ok f s z m;
        stands = held_end ok f s z m;
        same = same;
        device = ended_device b f page.0 ok s z e m (w i.key page.0 (h.owner i.key f i.stands) page.1);
      };
      backed = backed_after s z (write_end ok f ∷ []) i.key f b h g (does_one (write_end ok f) s z m) (life_end ok f s z m) (held_end ok f s z m) (ap (λ (x : StateOf). x.contents) same) i.stands e;
      still = ended_still ok f s z h m;
      changed = λ q. ended_changed ok f s z h m (ap is_some (h.owner i.key f i.stands)) v q
          ∙ ap (λ (x : Bool). if x then is_again (record_at s.life.frames f.0).request else (record_at s.life.frames f.0).changed) (sym v);
    }

-- the page is in the same frame then
pub filed_after : (b : Block) (f : Frame) (ok : Bool) (s z : StateOf) → EndsFlight b f ok s z → HoldsFilePage f s → HoldsFilePage f z
filed_after b f ok s z p i = record { key = i.key; stands = ap (λ (x : Key → Held). x i.key) p.writes.stands ∙ i.stands; block = b; backed = p.backed }

-- ---- a changed page is written

pub changed_none : (b : Block) (f : Frame) (s : StateOf) → backing_of_frame s f ≡ backing.Block b → (record_at s.life.frames f.0).changed ≡ false → WritesChanged b f true s s
changed_none b f s e c = record { moves = []; are = subst (λ (x : Bool). WrittenIf x true f []) (sym c) (refl, refl); writes = writes_none b s; backed = e; clean = λ q. c }

pub target_is : (l : FrameLife) (f : Frame) (b : Block) → (record_at l.frames f.0).backing ≡ backing.Block b → write_target l f ≡ stored.Block b
target_is l f b e = ap (λ (h : Backing). goes_to h (lowest_free_slot l.free_slots)) e

-- a changed page that is not being written has no request at all
no_request : (q : Request) → is_write q ≡ false → (is_read q ≡ true → ⊥) → has_request q ≡ false
no_request request.None w r = refl
no_request request.Read w r = absurd (r refl)
no_request request.Write w r = cc
no_request request.WriteAgain w r = cc

quiet_frame : (s : StateOf) (f : Frame) → StateHolds s → is_write (record_at s.life.frames f.0).request ≡ false → (record_at s.life.frames f.0).changed ≡ true → has_request (record_at s.life.frames f.0).request ≡ false
quiet_frame s f h w c = ∥∥₁_elim h.reached (hlevel props) (λ r. no_request (record_at s.life.frames f.0).request w (λ e.
    let n = (((reached_sound s.life r).standing f.0).fit.reading e).1 in let bad : true ≡ false = sym c ∙ n in cc))

is_its_block : (x : Backing) (b : Block) → x ≡ backing.Block b → is_block b.0 x ≡ true
is_its_block x b e = ap (is_block b.0) e ∙ same_number b.0

pub start_legal : (s : StateOf) (f : Frame) → StateHolds s → HoldsFilePage f s → s.life.kind ≡ kind.Call → is_write (record_at s.life.frames f.0).request ≡ false → (record_at s.life.frames f.0).changed ≡ true → IsLegal (move.Write f (write_target s.life f)) s.life
start_legal s f h i k w c = subst (λ (t : Stored). IsLegal (move.Write f t) s.life) (sym (target_is s.life f i.block i.backed))
    ((λ j. c j && owned j && not (quiet j) && its j && (other || call j)) ∙ or_true other)
  where
    r : Record
    r = record_at s.life.frames f.0

    other : Bool
    other = (is_on f.0 s.life.frames.modified && is_access s.life.kind) || (is_on f.0 s.life.frames.modified && is_writer s.life.kind && has_depth s.life)

    owned : is_some r.owner ≡ true
    owned = ap is_some (h.owner i.key f i.stands)

    quiet : has_request r.request ≡ false
    quiet = quiet_frame s f h w c

    its : is_block i.block.0 r.backing ≡ true
    its = is_its_block r.backing i.block i.backed

    call : is_call s.life.kind ≡ true
    call = ap is_call k

-- the record of the frame that is being written
begun_record : (b : Block) (f : Frame) (s y : StateOf) → Made (move.Write f (stored.Block b)) s y → (record_at y.life.frames f.0 ≡ being_written (backing.Block b) (record_at s.life.frames f.0)) ⊎ ((record_at y.life.frames f.0 ≡ blank) × (record_at s.life.frames f.0 ≡ blank))
begun_record b f s y m = elim (set_there s.life.frames.records f.0 (being_written (backing.Block b) (record_at s.life.frames f.0))) [
  | inl h ↦ inl (ap (λ (l : FrameLife). record_at l.frames f.0) m.life ∙ h)
  | inr h ↦ inr (ap (λ (l : FrameLife). record_at l.frames f.0) m.life ∙ h.0, h.1)
]

begun_once : (b : Block) (f : Frame) (s y : StateOf) → Made (move.Write f (stored.Block b)) s y → is_again (record_at y.life.frames f.0).request ≡ false
begun_once b f s y m = elim (begun_record b f s y m) [
  | inl h ↦ ap (λ (r : Record). is_again r.request) h
  | inr h ↦ ap (λ (r : Record). is_again r.request) h.0
]

done_clean : (r : Record) → is_again r.request ≡ false → (ended_as write_done r).changed ≡ false
done_clean r e = at (is_some r.owner) (is_again r.request) e
  where
    at : (o a : Bool) → a ≡ false → (if o then (if a then record r { request = request.None; backing = without_slot r.backing } else record r { request = request.None; changed = false }) else blank).changed ≡ false
    at true true q = cc
    at true false q = refl
    at false a q = refl

ended_clean : (ok : Bool) (f : Frame) (s z : StateOf) → StateHolds s → Made (write_end ok f) s z → is_again (record_at s.life.frames f.0).request ≡ false → ok ≡ true → (record_at z.life.frames f.0).changed ≡ false
ended_clean true f s z h m a e = ended_look (λ r. r.changed) f s z h m ∙ done_clean (record_at s.life.frames f.0) a
ended_clean false f s z h m a e = cc

own_done : (s y z : StateOf) (f : Frame) → s.own ≡ None → s.life.kind ≡ kind.Call → y ≡ record (moved s y) { own = own_after s.life.kind s.own f } → z ≡ record (moved_with_call y z) { own = own_ended y.own f.0 } → z ≡ moved_with_call s z
own_done s y z f o k a e =
    e
    ∙ ap (λ (x : Option Frame). record (moved_with_call y z) { own = own_ended x f.0 }) (ap (λ (x : StateOf). x.own) a ∙ ap (λ (x : LineKind). own_after x s.own f) k)
    ∙ ap (λ (b : Bool). record (moved_with_call y z) { own = if b then None else Some f }) (same_number f.0)
    ∙ ap (λ (x : StateOf). record (moved_with_call x z) { own = None }) a
    ∙ ap (λ (x : Option Frame). record (moved_with_call s z) { own = x }) (sym o)

pub changed_written : (b : Block) (f : Frame) (to : Stored) (ok : Bool) (s y z : StateOf) → StateHolds s → StateHolds y → StateHolds z → HoldsFilePage f s → backing_of_frame s f ≡ backing.Block b → s.own ≡ None → s.life.kind ≡ kind.Call → (record_at s.life.frames f.0).changed ≡ true
    → to ≡ write_target s.life f → Made (move.Write f to) s y → y ≡ record (moved s y) { own = own_after s.life.kind s.own f }
    → Made (write_end ok f) y z → z ≡ record (moved_with_call y z) { own = own_ended y.own f.0 } → WroteOf f ok y z → WritesChanged b f ok s z
changed_written b f to ok s y z h hy g i e o k c t n a m r w =
    let start : Made (move.Write f (stored.Block b)) s y = subst (λ (x : Stored). Made (move.Write f x) s y) (t ∙ target_is s.life f b e) n in
    let xs : List Move = move.Write f (stored.Block b) ∷ write_end ok f ∷ [] in
    let does = does_two (move.Write f (stored.Block b)) (write_end ok f) s y z start m in
    let life = kept_then s.life y.life z.life (kept_made (move.Write f (stored.Block b)) s y start tt) (life_end ok f y z m) in
    let stands = held_end ok f y z m ∙ ap (λ (l : FrameLife). l.stands) start.life in
    let same = own_done s y z f o k a r in
    let at : y.life.stands i.key ≡ held.Frame f = ap (λ (x : Key → Held). x i.key) (ap (λ (l : FrameLife). l.stands) start.life) ∙ i.stands in
    let backed = backed_after s y (move.Write f (stored.Block b) ∷ []) i.key f b h hy (does_one (move.Write f (stored.Block b)) s y start) (kept_made (move.Write f (stored.Block b)) s y start tt) (ap (λ (l : FrameLife). l.stands) start.life) (ap (λ (x : StateOf). x.contents) a) i.stands e in
    let page = page_of y i.key f hy at in
    record {
      moves = xs;
      are = subst (λ (x : Bool). WrittenIf x ok f xs) (sym c) (stored.Block b, refl);
      writes = record {
        does = does;
        life = life;
        stands = stands;
        same = same;
        device = device_then b ok s y z (device_none b s y start.calls.0 start.calls.1 (ap (λ (x : StateOf). x.slots) a) (ap (λ (x : StateOf). x.blocks) a) start.waits start.told)
            (ended_device b f page.0 ok y z backed m (w i.key page.0 (hy.owner i.key f at) page.1));
      };
      backed = backed_after s z xs i.key f b h g does life stands (ap (λ (x : StateOf). x.contents) same) i.stands e;
      clean = ended_clean ok f y z hy m (begun_once b f s y start);
    }

-- ---- a page in a frame is flushed

end_is : (ok : Bool) (f : Frame) → IsEndOf f (write_end ok f)
end_is true f = inl refl
end_is false f = inr refl

lost_is : (ok : Bool) (f : Frame) → ends_lost (write_end ok f ∷ []) ≡ not ok
lost_is true f = refl
lost_is false f = refl

-- a write that failed was in flight
lost_shape : (q : Request) (c : Bool) (f : Frame) (ms : List Move) → EndedIf (is_write q) false f ms → FlushesBy q c f ms
lost_shape request.None c f ms e = let bad = e.1 in cc
lost_shape request.Read c f ms e = let bad = e.1 in cc
lost_shape request.Write c f ms e = subst (IsEndedFirst false f) (sym e) (inr (refl, refl))
lost_shape request.WriteAgain c f ms e = subst (IsEndedFirst true f) (sym e) (inr (refl, refl))

lost_end : (w : Bool) (f : Frame) (ms : List Move) → EndedIf w false f ms → ends_lost ms ≡ true
lost_end true f ms e = ap ends_lost e
lost_end false f ms e = let bad = e.1 in cc

pub frame_lost : (b : Block) (f : Frame) (s z : StateOf) → EndsFlight b f false s z → FlushesFrame b f false s z
frame_lost b f s z p =
    let r = record_at s.life.frames f.0 in
    record { moves = p.moves; are = lost_shape r.request r.changed f p.moves p.are; ends = lost_end (is_write r.request) f p.moves p.are; writes = p.writes; backed = p.backed; clean = λ e. cc }

written_shape : (c ok : Bool) (f : Frame) (ys : List Move) → WrittenIf c ok f ys → IsWrittenIf c f ys
written_shape true ok f ys e = subst (IsWrittenNow f) (sym e.1) ((e.0, refl), end_is ok f)
written_shape false ok f ys e = e.0

-- then a page that is changed still is written
then_written : (again ok : Bool) (f : Frame) (xs ys : List Move) → xs ≡ move.Wrote f ∷ [] → WrittenIf again ok f ys → IsEndedFirst again f (xs ++ ys)
then_written again ok f xs ys e w = subst (λ (ms : List Move). IsEndedFirst again f (ms ++ ys)) (sym e) (inl (refl, written_shape again ok f ys w))

flush_shape : (q : Request) (c d ok : Bool) (f : Frame) (xs ys : List Move) → EndedIf (is_write q) true f xs → d ≡ is_changed_then q c → WrittenIf d ok f ys → FlushesBy q c f (xs ++ ys)
flush_shape request.None c d ok f xs ys e k w = subst (λ (ms : List Move). IsWrittenIf c f (ms ++ ys)) (sym e.0) (written_shape c ok f ys (subst (λ (x : Bool). WrittenIf x ok f ys) k w))
flush_shape request.Read c d ok f xs ys e k w = subst (λ (ms : List Move). IsWrittenIf c f (ms ++ ys)) (sym e.0) (written_shape c ok f ys (subst (λ (x : Bool). WrittenIf x ok f ys) k w))
flush_shape request.Write c d ok f xs ys e k w = then_written false ok f xs ys e (subst (λ (x : Bool). WrittenIf x ok f ys) k w)
flush_shape request.WriteAgain c d ok f xs ys e k w = then_written true ok f xs ys e (subst (λ (x : Bool). WrittenIf x ok f ys) k w)

flush_end : (v d ok : Bool) (f : Frame) (xs ys : List Move) → EndedIf v true f xs → WrittenIf d ok f ys → ends_lost (xs ++ ys) ≡ not ok
flush_end true true ok f xs ys e w = ap (λ (ms : List Move). ends_lost (ms ++ ys)) e ∙ ap (λ (ms : List Move). ends_lost (move.Wrote f ∷ ms)) w.1 ∙ lost_is ok f
flush_end true false ok f xs ys e w = ap (λ (ms : List Move). ends_lost (ms ++ ys)) e ∙ ap (λ (ms : List Move). ends_lost (move.Wrote f ∷ ms)) w.0 ∙ ap not (sym w.1)
flush_end false true ok f xs ys e w = ap (λ (ms : List Move). ends_lost (ms ++ ys)) e.0 ∙ ap ends_lost w.1 ∙ lost_is ok f
flush_end false false ok f xs ys e w = ap (λ (ms : List Move). ends_lost (ms ++ ys)) e.0 ∙ ap ends_lost w.0 ∙ ap not (sym w.1)

pub frame_flushed : (b : Block) (f : Frame) (ok : Bool) (s y z : StateOf) → EndsFlight b f true s y → WritesChanged b f ok y z → FlushesFrame b f ok s z
frame_flushed b f ok s y z p q =
    let r = record_at s.life.frames f.0 in
    let d = (record_at y.life.frames f.0).changed in
    record {
      moves = p.moves ++ q.moves;
      are = flush_shape r.request r.changed d ok f p.moves q.moves p.are (p.changed refl) q.are;
      ends = flush_end (is_write r.request) d ok f p.moves q.moves p.are q.are;
      writes = writes_then b ok p.moves q.moves s y z p.writes q.writes;
      backed = q.backed;
      clean = q.clean;
    }

-- ---- a page is flushed

pub page_framed : (k : Key) (b : Block) (f : Frame) (ok : Bool) (s z : StateOf) → s.life.stands k ≡ held.Frame f → FlushesFrame b f ok s z → FlushedOnePage k b ok s z
page_framed k b f ok s z e p = record {
  moves = p.moves;
  writes = p.writes;
  page = subst (λ (h : Held). FlushedAt s.life h p.moves) (sym e) p.are;
  ends = p.ends;
  clean = λ q. ap (stored_of z.life) (ap (λ (x : Key → Held). x k) p.writes.stands ∙ e) ∙ (λ i. if p.clean q i then held.Dead else in_backing (p.backed i));
}

-- without a frame it is in its block
home_is : (l : FrameLife) (h : Held) (b : Block) → is_framed h ≡ false → block_at (backed_by l h) ≡ Some b.0 → h ≡ held.Block b
home_is l (held.Block c) b n e = let same : c.0 ≡ b.0 = cc in ap (λ (x : ℕ). held.Block (record { 0 = x })) same
home_is l h b n e = cc

pub page_home : (k : Key) (b : Block) (s : StateOf) → is_framed (s.life.stands k) ≡ false → block_at (backed_by s.life (s.life.stands k)) ≡ Some b.0 → FlushedOnePage k b true s s
page_home k b s n e =
    let h = home_is s.life (s.life.stands k) b n e in
    record { moves = []; writes = writes_none b s; page = subst (λ (x : Held). FlushedAt s.life x []) (sym h) refl; ends = refl; clean = λ q. ap (stored_of s.life) h }

-- ---- what the store shows then

pub flushed_store : (k : Key) (b : Block) (ok : Bool) (s z : StateOf) (o : OwnOf) → StateHolds s → StateHolds z → FlushedOnePage k b ok s z → store_of z o ≡ wrote (store_of s o) (store_of z o)
flushed_store k b ok s z o h g p =
    called_store p.moves s z o o p.writes.does.replays p.writes.life (called_on s z p.writes.same) h g refl refl
    ∙ (λ i. record (fetched (store_of s o) (store_of z o)) {
      names = ap (λ (x : StateOf). x.names) p.writes.same i;
      report = with_told (record (report_of z o) { wait = λ tid. wait_of (p.writes.device.waits i tid) }) (p.writes.device.told i);
      paging_device = p.writes.device.paging i;
    })

pub on_ok_if : {T E : Type 0} {P : Type 0} (r : Result T E) → (is_ok r ≡ true → P) → OnOk r P
on_ok_if (Ok v) f = f refl
on_ok_if (Err e) f = tt

pub on_err_if : {T E : Type 0} {P : Type 0} (r : Result T E) → (is_ok r ≡ false → P) → OnErr r P
on_err_if (Ok v) f = tt
on_err_if (Err e) f = f refl

-- its block holds its bytes
pub flushed_bytes : (k : Key) (b : Block) (ok : Bool) (s z : StateOf) → StateHolds z → FlushedOnePage k b ok s z → ok ≡ true → slice_get z.blocks b.0 ≡ s.contents k
flushed_bytes k b ok s z g p e =
    let at = p.clean e in
    sym (ap (bytes_on_devices z.slots z.blocks) at) ∙ sym (g.stored k (ap is_on_device at)) ∙ ap (λ (x : StateOf). x.contents k) p.writes.same

end_in_line : (f : Frame) (m : Move) → IsEndOf f m → InLine (m ∷ [])
end_in_line f m (inl e) = subst (λ (x : Move). InLine (x ∷ [])) (sym e) tt
end_in_line f m (inr e) = subst (λ (x : Move). InLine (x ∷ [])) (sym e) tt

written_in_line : (c : Bool) (f : Frame) (ms : List Move) → IsWrittenIf c f ms → InLine ms
written_in_line false f ms h = subst InLine (sym h) tt
written_in_line true f (x ∷ y ∷ []) h = subst (λ (m : Move). InLine (m ∷ y ∷ [])) (sym h.0.1) (end_in_line f y h.1)
written_in_line true f ms h = absurd h

ended_in_line : (again : Bool) (f : Frame) (ms : List Move) → IsEndedFirst again f ms → InLine ms
ended_in_line again f [] h = absurd h
ended_in_line again f (x ∷ ms) (inl h) = subst (λ (m : Move). InLine (m ∷ ms)) (sym h.0) (written_in_line again f ms h.1)
ended_in_line again f (x ∷ ms) (inr h) = subst (λ (m : Move). InLine (m ∷ ms)) (sym h.0) (subst (λ (ns : List Move). InLine (move.Lost f ∷ ns)) (sym h.1) tt)

flush_in_line : (q : Request) (c : Bool) (f : Frame) (ms : List Move) → FlushesBy q c f ms → InLine ms
flush_in_line request.None c f ms h = written_in_line c f ms h
flush_in_line request.Read c f ms h = written_in_line c f ms h
flush_in_line request.Write c f ms h = ended_in_line false f ms h
flush_in_line request.WriteAgain c f ms h = ended_in_line true f ms h

flushed_in_line : (l : FrameLife) (h : Held) (ms : List Move) → FlushedAt l h ms → InLine ms
flushed_in_line l (held.Frame f) ms p = flush_in_line (record_at l.frames f.0).request (record_at l.frames f.0).changed f ms p
flushed_in_line l h ms p = subst InLine (sym p) tt

pub flushed_served : (k : Key) (b : Block) (ok : Bool) (s z : StateOf) (o : OwnOf) → FlushedOnePage k b ok s z → Served (store_of s o) (store_of z o)
flushed_served k b ok s z o p = served_by p.moves s z o o (flushed_in_line s.life (s.life.stands k) p.moves p.page) p.writes.does

pub flushed_passes : (k : Key) (b : Block) (ok : Bool) (s z : StateOf) (o : OwnOf) → FlushedOnePage k b ok s z → Passes (Flushes k ok) (store_of s o) (store_of z o) (behind_of s) (behind_of z)
flushed_passes k b ok s z o p = passes_of (Flushes k ok) p.moves s z o o p.writes.does (record {
  page = p.page;
  ends = p.ends;
  moved = record { waits = p.writes.does.waits; ages = p.writes.does.ages };
  slots = p.writes.device.slots;
})

pub flushed_kept : (k : Key) (b : Block) (ok : Bool) (s z : StateOf) (o : OwnOf) → StoreKept s o → s.life.kind ≡ kind.Call → FlushedOnePage k b ok s z → StoreKept z o
flushed_kept k b ok s z o h c p = kept_untouched s z o h (ap is_touch c) p.writes.life p.writes.same

-- not in a frame
pub not_framed : (h : Held) → ((f : Frame) → h ≡ held.Frame f → ⊥) → is_framed h ≡ false
not_framed (held.Frame f) n = absurd (n f refl)
not_framed h n = refl

-- the block of a page, and how it was flushed
pub record Flushing (k : Key) (ok : Bool) (s z : StateOf) : Type 0 where
  pub block : Block
  pub is : block_at (backed_by s.life (s.life.stands k)) ≡ Some block.0
  pub page : FlushedOnePage k block ok s z

pub flushing_of : (k : Key) (ok : Bool) (s z : StateOf) → IsSome (block_at (backed_by s.life (s.life.stands k))) → ((b : Block) → block_at (backed_by s.life (s.life.stands k)) ≡ Some b.0 → FlushedOnePage k b ok s z) → Flushing k ok s z
flushing_of k ok s z h f = let n = some_found (block_at (backed_by s.life (s.life.stands k))) (some_is (block_at (backed_by s.life (s.life.stands k))) h) in record { block = record { 0 = n.0 }; is = n.1; page = f (record { 0 = n.0 }) n.1 }

-- that block is the only one
pub its_bytes : (k : Key) (ok : Bool) (s z : StateOf) → StateHolds z → Flushing k ok s z → ok ≡ true → (block : ℕ) → block_at (backed_by s.life (s.life.stands k)) ≡ Some block → slice_get z.blocks block ≡ s.contents k
its_bytes k ok s z g p e block is =
    let both : Some p.block.0 ≡ Some block = sym p.is ∙ is in let same : p.block.0 ≡ block = cc in
    ap (λ (n : ℕ). slice_get z.blocks n) (sym same) ∙ flushed_bytes k p.block ok s z g p.page e

pub its_others : (k : Key) (ok : Bool) (s z : StateOf) → Flushing k ok s z → (block other : ℕ) → block_at (backed_by s.life (s.life.stands k)) ≡ Some block → other ≢ block → slice_get z.blocks other ≡ slice_get s.blocks other
its_others k ok s z p block other is n =
    let both : Some p.block.0 ≡ Some block = sym p.is ∙ is in let same : p.block.0 ≡ block = cc in
    p.page.writes.device.others other (λ e. n (e ∙ same))
