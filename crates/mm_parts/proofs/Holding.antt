-- What the parts keep, in terms of what they show.
use Rattle.std.proofs.Common.{◌≡◌, ℕ, ◌<◌, ◌≤◌, Bool, true, false, [], ◌++◌, Option, Some, None, refl, sym, ap, ◌∙◌, arith, length, length-append}
use Rattle.std.specs.Prelude.{not, is_some}
use Rattle.std.proofs.Math.Logic.{∥∥₁_elim}
use Rattle.std.proofs.Props.{props}
use Rattle.std.proofs.lemmas.Bool.{or_left, or_right}
use Rattle.mm_types.specs.{Frame, Key, Place}
use Rattle.mm_move_rules.specs.{ResidentSet, record_at, has_request, is_read, is_dead, set_in}
use Rattle.mm_move_laws.specs.{one_if, times}
use Rattle.mm_move_laws.proofs.Requests.{read_has}
use Rattle.mm_move_laws.proofs.Sights.{kept_inside}
use Rattle.mm_move_laws.proofs.Deduced.{blocks_apart}
use Rattle.mm_page_tables.specs.{Entry, Aside, key_entry, has_word, is_there, valid_frame}
use Rattle.mm_page_tables.specs.declared.layout.Entry.TheVariants as entry
use Rattle.mm_requests.specs.{is_requested}
use Rattle.mm_parts.specs.{JoinedParts, Owners, owners, owned_by, held_by, named_by, life_in, shown_of, requests, requests_in, own_is, HasSet}
use Rattle.mm_parts.specs.{LinesHold, PagesHold, StorageHolds, PartsKept}
use Rattle.mm_move_laws.proofs.Facts.{Facts}
use Rattle.mm_parts.proofs.Keeping.{known}
use Rattle.mm_parts.proofs.RequestLists.{own_apart}
use Rattle.mm_parts.proofs.Reading.{word_home}
use Rattle.mm_parts.proofs.Keeping.{valid_there, valid_owned, valid_calm}
use Rattle.mm_types.proofs.Booleans.{not_true}
use Rattle.mm_types.proofs.Options.{some_map}

-- ---- lines

-- a frame whose page is being read has one request
pub read_once : (t : JoinedParts) → PartsKept t → (f : ℕ) → is_read (record_at t.table f).request ≡ true → times f (requests_in t) ≡ 1
read_once t kept f h = ((known t kept).standing f).flight ∙ ap one_if (read_has (record_at t.table f).request h)

-- a request in flight is not the line's own
not_own : (t : JoinedParts) → PartsKept t → (f : ℕ) → is_requested f t.flight.frames ≡ true → is_read (record_at t.table f).request ≡ true → own_is t.own f ≡ false
not_own t kept f flies reads = not_true (own_is t.own f) (λ e. let bad : true ≡ false = sym flies ∙ own_apart f t.own t.flight.frames (read_once t kept f reads) e in cc)

few_by : (t : JoinedParts) → PartsKept t → length t.flight.frames ≤ t.flight.depth → t.own ≡ None → length (requests_in t) ≤ t.line.machine.depth
few_by t kept few none =
    let depth = kept.depth in
    let e : length (requests_in t) ≡ length (t.flight.frames ++ []) = ap (λ o. length (requests t.flight.frames o)) none in
    let n = length-append t.flight.frames [] in
    omega (arith, few, depth, e, n)

pub lines_hold : (t : JoinedParts) → PartsKept t → length t.flight.frames ≤ t.flight.depth → length t.flight.waits ≡ 256 → LinesHold (shown_of t)
lines_hold t kept few threads = record {
  reached = kept.reached;
  machine = kept.line.machine;
  begun = kept.line.begun;
  few = few_by t kept few;
  own_line = kept.within.requesting;
  copying = λ h. kept.within.copying (sym (some_map (λ (x : Aside). x.place) t.words.aside) ∙ h);
  waits = λ n f e. let h = kept.waits n f e in (h.1, not_own t kept f.0 h.0 h.1);
  threads = threads;
}

-- ---- pages

live_there : (own : Frame → Bool) (e : Entry) → not (is_dead (held_by own e)) ≡ true → is_there e ≡ true
live_there own entry.Empty h = cc
live_there own _ h = refl

named_frame : (o : Owners) (p : Place) (e : Entry) (f : Frame) → valid_frame e ≡ Some f → o f.0 ≡ named_by o p e
named_frame o p (entry.Valid g n) f h = let same : f ≡ g = cc in ap (λ (x : Frame). o x.0) same
named_frame o p _ f h = cc

unnamed_at : (o : Owners) (p : Place) (e : Entry) → (is_there e ≡ true → ⊥) → named_by o p e ≡ None
unnamed_at o p entry.Empty none = refl
unnamed_at o p entry.Zero none = refl
unnamed_at o p (entry.InFile b) none = refl
unnamed_at o p _ none = absurd (none refl)

owned_low : (t : JoinedParts) → PartsKept t → (f : ℕ) → is_some (record_at t.table f).owner ≡ true → f < t.line.machine.frames
owned_low t kept f some =
    let low = kept_inside t.table f (or_left (is_some (record_at t.table f).owner) (has_request (record_at t.table f).request) some) in
    let size = (known t kept).framed in
    omega (arith, low, size)

has_set : (t : JoinedParts) → PartsKept t → ((pid : ℕ) (s : ResidentSet) → set_in t.words.sets pid ≡ Some s → s.resident ≤ s.max) → (pid : ℕ) (o : Option ResidentSet)
    → set_in t.words.sets pid ≡ o → is_some o ≡ true → HasSet (life_in t) pid
has_set t kept within pid None e h = cc
has_set t kept within pid (Some s) e h = record { set = s; found = e; some = (kept.ranges.sets pid s e).0; most = (kept.ranges.sets pid s e).1; within = within pid s e }

pub pages_hold : (t : JoinedParts) → PartsKept t
    → ((k : Key) → is_there (key_entry t.words k) ≡ true → has_word t.words k ≡ true)
    → ((p : Place) → is_there (t.words.at p) ≡ true → t.words.bound p ≡ true)
    → ((p : Place) → t.words.bound p ≡ true → t.words.is_open p.pid.0 ≡ true)
    → ((pid : ℕ) → t.words.is_open pid ≡ true → is_some (set_in t.words.sets pid) ≡ true)
    → ((pid : ℕ) (s : ResidentSet) → set_in t.words.sets pid ≡ Some s → s.resident ≤ s.max)
    → PagesHold (shown_of t)
pages_hold t kept there bound open_now begun within =
    let facts : Facts (life_in t) = known t kept in
    record {
      home = λ k live. word_home t k (there k (live_there (owned_by (owners t.table) k) (key_entry t.words k) live));
      owner = facts.owner;
      of_frame = λ k f e. facts.owned f.0 k e;
      there = λ k f e. owned_low t kept f.0 (ap is_some (facts.owner k f e));
      framed = facts.framed;
      bound = λ p f v. bound p (valid_there (t.words.at p) (ap is_some v));
      named = λ p f v. named_frame (owners t.table) p (t.words.at p) f v;
      owned = λ p f v. ap is_some (sym (named_frame (owners t.table) p (t.words.at p) f v)) ∙ valid_owned t kept p f v;
      fits = facts.fits;
      low = λ p f v. owned_low t kept f.0 (valid_owned t kept p f v);
      shared = facts.shares;
      unread = valid_calm t kept;
      unnamed = λ p h. unnamed_at (owners t.table) p (t.words.at p) (λ held. let bad : true ≡ false = sym (bound p held) ∙ h in cc);
      user = kept.ranges.user;
      open_process = open_now;
      sets = λ pid h. has_set t kept within pid (set_in t.words.sets pid) refl (begun pid h);
    }

-- ---- devices

pub storage_holds : (t : JoinedParts) → PartsKept t → StorageHolds (shown_of t)
storage_holds t kept =
    let facts : Facts (life_in t) = known t kept in
    record {
      reading = λ f h. (facts.standing f.0).fit.clean (or_right (is_some (record_at t.table f.0).owner) (has_request (record_at t.table f.0).request) (read_has (record_at t.table f.0).request h)) ((facts.standing f.0).fit.reading h).1;
      writing = λ f h. (facts.standing f.0).fit.writing h;
      slotted = facts.slotted;
      backed = facts.backed;
      homed = facts.homed;
      blocks_apart = λ j k b e g. ∥∥₁_elim kept.reached (hlevel props) (λ x. (blocks_apart (life_in t) x).one j k b e g);
      block_there = λ k b e. ∥∥₁_elim kept.reached (hlevel props) (λ x. (blocks_apart (life_in t) x).there k b e);
      home = facts.home;
      backing = facts.backing;
    }
