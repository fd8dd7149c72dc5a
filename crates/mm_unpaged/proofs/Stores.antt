-- Stores that differ in some parts, and what an access that called no device shows.
use Rattle.std.proofs.Common.{◌≡◌, ℕ, Bool, true, false, List, Option, Some, None, refl, sym, ap, ◌∙◌, subst, arith}
use Rattle.std.specs.Prelude.{IsSome, Ok, not, is_none, nat_lt, ◌==◌, if◌then◌else◌, ◌||◌, ◌&&◌, option_map}
use Rattle.mm_types.specs.{LineKind, Key, Pid, Place, MachineOf}
use Rattle.mm_types.specs.declared.moves.LineKind.TheVariants as line_kind
use Rattle.mm_world.specs.{Page, Tally, InFrame, is_short, same_key, Need, has_frame, still_needs_frame, access_fails}
use Rattle.mm_world.specs.Report.{Report}
use Rattle.mm_world.proofs.{same_again}
use Rattle.mm_devices.specs.{DeviceOf}
use Rattle.mm_store.specs.{Served, begun, called, fetched, eased, StoreOf, Ready, pid_after, touch, copying, own_key}
use Rattle.mm_move_rules.specs.{same_place}
use Rattle.mm_move_rules.specs.{changed}
use Rattle.mm_store.specs.Reports.{Ends}
use Rattle.mm_store.proofs.{served_nothing}
use Rattle.mm_unpaged.specs.{unpaged_report}

module _ (machine : MachineOf) (is_open : ℕ → Bool) (file_blocks : List Page) (line : ℕ) (kind : LineKind) (last_pid : ℕ) (ready : Option Ready) (paging_device file_device : DeviceOf) where
  abbrev store_parts : (ℕ → Option ℕ) → (Place → Bool) → (Place → Option Key) → (Key → Bool) → ℕ → ℕ → (Key → Option ℕ) → ℕ → Report → StoreOf
  store_parts areas bound names paging keys room block_of used report = record {
    machine = machine;
    is_open = is_open;
    areas = areas;
    bound = bound;
    names = names;
    paging = paging;
    paging_keys = keys;
    room = room;
    block_of = block_of;
    blocks_used = used;
    file_blocks = file_blocks;
    line = line;
    kind = kind;
    last_pid = last_pid;
    ready = ready;
    report = report;
    paging_device = paging_device;
    file_device = file_device;
  }

  pub same_parts : {a a' : ℕ → Option ℕ} {b b' : Place → Bool} {n n' : Place → Option Key} {p p' : Key → Bool} {k k' r r' : ℕ} {o o' : Key → Option ℕ} {u u' : ℕ} {t t' : Report} → a ≡ a' → b ≡ b' → n ≡ n' → p ≡ p' → k ≡ k' → r ≡ r' → o ≡ o' → u ≡ u' → t ≡ t' → store_parts a b n p k r o u t ≡ store_parts a' b' n' p' k' r' o' u' t'
  same_parts ea eb en ep ek er eo eu et = λ i. store_parts (ea i) (eb i) (en i) (ep i) (ek i) (er i) (eo i) (eu i) (et i)

module _ (s z : StoreOf) (names : Place → Option Key) (is : z ≡ record s { names = names }) where
  -- a place names another key, and all else is as before
  pub fetched_named : z ≡ record (fetched s z) { names = names }
  fetched_named = subst (λ (t : StoreOf). t ≡ record (fetched s t) { names = names }) (sym is) refl

  pub served_named : Served s z
  served_named = served_nothing s z (ap (λ (t : StoreOf). t.paging_device) is) (ap (λ (t : StoreOf). t.file_device) is) (ap (λ (t : StoreOf). t.report.paging_reads) is) (ap (λ (t : StoreOf). t.report.paging_writes) is) (ap (λ (t : StoreOf). t.report.file_reads) is) (ap (λ (t : StoreOf). t.report.file_writes) is)

  pub eased_named : z.report ≡ eased s.report z.report
  eased_named = subst (λ (t : StoreOf). t.report ≡ eased s.report t.report) (sym is) refl

pub named_after : (s m z : StoreOf) (place : Place) (k : Key) → m ≡ s → z ≡ record m { names = changed same_place m.names place (Some k) } → z ≡ record s { names = changed same_place s.names place (Some k) }
named_after s m z place k same e = e ∙ ap (λ (t : StoreOf). record t { names = changed same_place t.names place (Some k) }) same

-- a line in which the paging file grows calls no paging device
abbrev grown_as : StoreOf → MachineOf → ℕ → LineKind → StoreOf → StoreOf
grown_as s m line kind z = record s {
  machine = m;
  room = z.room;
  line = line;
  kind = kind;
  ready = None;
  report = record (begun s.report) { counts = z.report.counts; extended = z.report.extended };
  paging_device = called s.paging_device z.paging_device;
}

pub grown : (s z : StoreOf) (m : MachineOf) (line : ℕ) (kind : LineKind) → z ≡ record s { machine = m; line = line; kind = kind; ready = None; report = begun s.report } → z ≡ grown_as s m line kind z
grown s z m line kind is = subst (λ (t : StoreOf). t ≡ grown_as s m line kind t) (sym is) refl

-- ---- an access to pages that are at hand

had_here : (p : Option Page) → IsSome p → not (has_frame (option_map (λ _. InFrame) p)) ≡ false
had_here (Some p) h = refl
had_here None h = cc

had_both : (p q : Option Page) → IsSome p → IsSome q → (not (has_frame (option_map (λ _. InFrame) p)) || not (not (is_none (option_map (λ _. InFrame) q)))) ≡ false
had_both (Some p) (Some q) h k = refl
had_both (Some p) None h k = cc
had_both None q h k = cc

fails_not : (a b still short : Bool) → still ≡ false → (a && b && still && short) ≡ false
fails_not a b still short e = grind (arith, e)

fails_none : (n : Need) (w : Tally) (d : Key → Option Page) → still_needs_frame n (unpaged_report w d) ≡ false → access_fails n (unpaged_report w d) ≡ false
fails_none n w d e = fails_not (nat_lt 0 w.failed) (w.succeeded == 0) (still_needs_frame n (unpaged_report w d)) (is_short (unpaged_report w d)) e

touch_had : (k : Key) (w : Tally) (d : Key → Option Page) → IsSome (d k) → still_needs_frame (touch k) (unpaged_report w d) ≡ false
touch_had k w d h = ap (λ b. b || false) (had_here (d k) h)

pub touch_ends : (k : Key) (w : Tally) (d : Key → Option Page) → IsSome (d k) → Ends {T = Unit {0}} (touch k) (unpaged_report w d) (Ok tt)
touch_ends k w d h = record {
  ok = fails_none (touch k) w d (touch_had k w d h);
  had = touch_had k w d h;
  read = λ e. cc;
  no_frame = λ e. cc;
}

pub copy_ends : (from : Key) (p : Place) (w : Tally) (d : Key → Option Page) → IsSome (d from) → IsSome (d (own_key p)) → Ends {T = Unit {0}} (copying from p) (unpaged_report w d) (Ok tt)
copy_ends from p w d h k = record {
  ok = fails_none (copying from p) w d (had_both (d from) (d (own_key p)) h k);
  had = had_both (d from) (d (own_key p)) h k;
  read = λ e. cc;
  no_frame = λ e. cc;
}

live_by : (b : Bool) (p q : Option Page) → IsSome p → IsSome q → IsSome (if b then p else q)
live_by true p q h k = h
live_by false p q h k = k

-- a key that is live is so after another was changed to a page
pub changed_live : (d : Key → Option Page) (k q : Key) (v : Option Page) → IsSome v → IsSome (d q) → IsSome (changed same_key d k v q)
changed_live d k q v h g = live_by (same_key q k) v (d q) h g

pub changed_here : (d : Key → Option Page) (k : Key) (v : Option Page) → IsSome v → IsSome (changed same_key d k v k)
changed_here d k v h = subst (λ b. IsSome (if b then v else d k)) (sym (same_again k)) h

-- after a write of a page, and after a copy
pub written_live : (d e : Key → Option Page) (k : Key) (page : Page) → e ≡ changed same_key d k (Some page) → IsSome (d k) → IsSome (e k)
written_live d e k page h g = subst (λ (f : Key → Option Page). IsSome (f k)) (sym h) (changed_here d k (Some page) refl)

pub copied_from : (d e : Key → Option Page) (from to : Key) → e ≡ changed same_key d to (d from) → IsSome (d from) → IsSome (e from)
copied_from d e from to h g = subst (λ (f : Key → Option Page). IsSome (f from)) (sym h) (changed_live d to from (d from) g g)

pub copied_to : (d e : Key → Option Page) (from to : Key) (p : Place) → e ≡ changed same_key d to (d from) → to ≡ own_key p → IsSome (d from) → IsSome (e (own_key p))
copied_to d e from to p h o g = subst (λ (k : Key). IsSome (e k)) o (subst (λ (f : Key → Option Page). IsSome (f to)) (sym h) (changed_here d to (d from) g))

-- the last pid stays after a line that is no process
pub pid_stays : (last : ℕ) (k : LineKind) → ((pid : Pid) (min max : ℕ) → k ≡ line_kind.Process pid min max → ⊥) → last ≡ pid_after last k
pid_stays last (line_kind.Machine frames slots depth blocks) h = refl
pid_stays last (line_kind.Process pid min max) h = absurd (h pid min max refl)
pid_stays last (line_kind.Unbind pid) h = refl
pid_stays last (line_kind.Access pid) h = refl
pid_stays last (line_kind.Thread pid) h = refl
pid_stays last (line_kind.Trim pid) h = refl
pid_stays last line_kind.Writer h = refl
pid_stays last line_kind.Zeroer h = refl
pid_stays last line_kind.Io h = refl
pid_stays last line_kind.Call h = refl
pid_stays last (line_kind.Grow n) h = refl
