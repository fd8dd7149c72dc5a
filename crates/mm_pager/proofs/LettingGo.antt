-- Places that are let go, page by page, and keys that are no more.
use Rattle.std.proofs.Common.{◌≡◌, ℕ, zero, suc, ◌+◌, ◌-◌, ◌^◌, ◌≤◌, ◌<◌, Bool, true, false, List, [], ◌∷◌, Option, Some, None, refl, sym, ap, ◌∙◌, subst, arith, inl, inr}
use Rattle.std.proofs.lemmas.Bool.{eqb-true, cases_lt}
use Rattle.std.proofs.Math.Logic.{∥∥₁_elim}
use Rattle.std.proofs.Props.{props}
use Rattle.std.specs.Cmp.{unsigned_Decides}
use Rattle.std.specs.Prelude.{is_some, ◌&&◌, ◌||◌, ◌==◌, if◌then◌else◌, option_map, unwrap_or}
use Rattle.mm_types.specs.{Range, holds_page, limit_of, Held, LineKind, Frame, Key, Pid, Vpn, Place}
use Rattle.mm_types.specs.declared.frames.Held.TheVariants as held
use Rattle.mm_types.specs.declared.moves.LineKind.TheVariants as kind
use Rattle.mm_types.specs.declared.moves.Move.TheVariants as move
use Rattle.mm_types.specs.declared.numbers.Key.TheVariants.{Private, Shared}
use Rattle.mm_types.proofs.{not_true, none_of, some_found}
use Rattle.mm_bits.specs.{IsLowestFrom}
use Rattle.mm_working_sets.specs.{IsNextFrom}
use Rattle.mm_move_rules.specs.{record_at, FrameLife, changed, same_key, same_place, set_of, key_of_place, is_shared, is_live, IsLegal, may_unmap, unbinds}
use Rattle.mm_move_rules.specs.{trims, touches, is_above_min, is_at_max, is_access, is_short, is_call, is_unbind, is_unmapped, owner_is, fits_place}
use Rattle.mm_move_rules.specs.{after_unmap_at, dropped_at, wait_of}
use Rattle.mm_move_laws.specs.Sound.{Sound}
use Rattle.mm_move_rules.specs.{is_frame}
use Rattle.mm_move_laws.proofs.{reached_sound, changed_here, changed_else, key_or_not, same_place-self, same_place-true, tally-none}
use Rattle.mm_move_laws.proofs.{paging_lives as paging_live}
use Rattle.mm_world.specs.{same_key as same_in_world}
use Rattle.mm_store.specs.{AllBound, AreAmong, IsAmong, MayUnbind, MayRemove, IsReleasing, place_at, Turns, page_rank, Passes, PassesIn, rearranged}
use Rattle.mm_store.specs.{block_at, backed_by, StoreOf, changed_in, unnamed}
use Rattle.mm_store.specs.Housekeeping.{Ends}
use Rattle.mm_store.specs.Leaving.{Leaving}
use Rattle.mm_store.proofs.{ends_then, ends_wider}
use Rattle.mm_state_calls.specs.{StateOf, Made, moved, StateHolds}
use Rattle.mm_state_calls.proofs.{does_one, does_two}
use Rattle.mm_pager.specs.{LifeBut, LifeKept, Thins, LetsGo, LetGo, Still, Gone, OwnLetGo, MayLetGo, MayLetOwnGo, NextGone, OwnOf, store_of}
use Rattle.mm_pager.specs.{report_of, behind_of}
use Rattle.mm_pager.proofs.Shows.{turns_still, passes_of, changed_keys}
use Rattle.mm_pager.proofs.AccessMoves.{kept_same, kept_then, blocks_kept, block_same, paging_has_none, dead_has_none, fetched_by, with_told, kept_made}
use Rattle.mm_pager.proofs.Taking.{unmapped_stands, unmapped_still}
use Rattle.mm_reclaim.proofs.{moved_then}
use Rattle.mm_parts.specs.{names_after_drop}

-- ---- one place

-- in a line that unbinds pages of its process a place can go
pub unbind_legal : (l : FrameLife) (p : Place) (f : Frame) → l.valid p ≡ Some f → l.kind ≡ kind.Unbind p.pid → IsLegal (move.Unmap p) l
unbind_legal l p f v e =
    let u : unbinds p.pid.0 l.kind ≡ true = ap (λ (k : LineKind). unbinds p.pid.0 k) e ∙ (unsigned_Decides p.pid.0 p.pid.0).1 refl in
    let r = record_at l.frames f.0 in
    ap (λ (o : Option Frame). unwrap_or (option_map (λ (g : Frame). may_unmap l p (record_at l.frames g.0)) o) false) v
    ∙ ap (λ (b : Bool). b || (trims p.pid.0 l.kind && is_above_min (set_of l p.pid.0)) || (touches p.pid.0 l.kind && is_at_max (set_of l p.pid.0)) || (is_access l.kind && is_short l)
    || (touches p.pid.0 l.kind && owner_is is_shared r && is_live l (key_of_place p))) u

unmapped_less : (l : FrameLife) (p q : Place) (f : Frame) (o : Option Frame) → (after_unmap_at o l p).valid q ≡ Some f → l.valid q ≡ Some f
unmapped_less l p q f None e = e
unmapped_less l p q f (Some g) e = at (same_place q p) e
  where
    at : (b : Bool) → (if b then None else l.valid q) ≡ Some f → l.valid q ≡ Some f
    at true e = cc
    at false e = e

pub unmapped_gone : (l : FrameLife) (p : Place) (o : Option Frame) → l.valid p ≡ o → (after_unmap_at o l p).valid p ≡ None
unmapped_gone l p None e = e
unmapped_gone l p (Some g) e = ap (λ (b : Bool). if b then None else l.valid p) (same_place-self p)

pub gone_then : (s z : StateOf) (p : Place) → Made (move.Unmap p) s z → z.life.valid p ≡ None
gone_then s z p m = ap (λ (l : FrameLife). l.valid p) m.life ∙ unmapped_gone s.life p (s.life.valid p) refl

pub thins_unmap : (s z : StateOf) (p : Place) → Made (move.Unmap p) s z → z ≡ moved s z → Thins s z
thins_unmap s z p m e = record {
  life = kept_made (move.Unmap p) s z m tt;
  stands = ap (λ (l : FrameLife). l.stands) m.life ∙ unmapped_stands s.life p (s.life.valid p);
  valid = λ q f v. unmapped_less s.life p q f (s.life.valid p) (sym (ap (λ (l : FrameLife). l.valid q) m.life) ∙ v);
  unmapped = λ q v. ap (λ (l : FrameLife). l.valid q) m.life ∙ unmapped_still s.life p q (s.life.valid p) v;
  told = m.told;
  waits = m.waits;
  same = e;
}

pub thins_none : (s : StateOf) → Thins s s
thins_none s = record { life = kept_same s.life; stands = refl; valid = λ q f v. v; unmapped = λ q v. v; told = refl; waits = refl; same = refl }

pub thins_then : (s y z : StateOf) → Thins s y → Thins y z → Thins s z
thins_then s y z p q = record {
  life = kept_then s.life y.life z.life p.life q.life;
  stands = q.stands ∙ p.stands;
  valid = λ x f v. p.valid x f (q.valid x f v);
  unmapped = λ x v. q.unmapped x (p.unmapped x v);
  told = q.told ∙ p.told;
  waits = q.waits ∙ p.waits;
  same = moved_then s y z p.same q.same;
}

pub lets_one : (s z : StateOf) (p : Place) → Made (move.Unmap p) s z → z ≡ moved s z → (held : Leaving) (from to : ℕ) → held.places p ≡ true → from ≤ page_rank p.vpn.0 → page_rank p.vpn.0 < to → LetsGo held from to s z
lets_one s z p m e held from to h low high o u = passes_of (Turns (Ends held from to)) (move.Unmap p ∷ []) s z o u (does_one (move.Unmap p) s z m)
    (record { turned = record { all = (h, tt); order = (low, high, tt); lowest = (tt, tt) }; moved = record { waits = m.waits; ages = m.ages }; slots = ap (λ (x : StateOf). x.slots) e })

pub lets_none : (s : StateOf) (held : Leaving) (from to : ℕ) → LetsGo held from to s s
lets_none s held from to o u = turns_still s s o u refl refl refl refl refl (Ends held from to)

pub lets_then : (s y z : StateOf) (held : Leaving) (from mid to : ℕ) → from ≤ mid → mid ≤ to → LetsGo held from mid s y → LetsGo held mid to y z → LetsGo held from to s z
lets_then s y z held from mid to l h p q o u = ends_then false held from mid to (store_of s o) (store_of y o) (store_of z u) (behind_of s) (behind_of y) (behind_of z) l h (p o o) (q o u)

pub lets_wider : (s z : StateOf) (held : Leaving) (from to high : ℕ) → to ≤ high → LetsGo held from to s z → LetsGo held from high s z
lets_wider s z held from to high h p o u = ends_wider false held from to from high (store_of s o) (store_of z u) (behind_of s) (behind_of z) (omega arith) h (p o u)

pub may_still : (p : Place) (s y : StateOf) → Thins s y → MayLetGo p s → MayLetGo p y
may_still p s y t m f v = t.life.kind ∙ m f (t.valid p f v)

-- ---- what one place leaves

pub thins_of : (p : Place) (s z : StateOf) → LetGo p s z → Thins s z
thins_of p s z (Still e v) = subst (λ (x : StateOf). Thins s x) (sym e) (thins_none s)
thins_of p s z (Gone m e) = thins_unmap s z p m e

pub invalid_of : (p : Place) (s z : StateOf) → LetGo p s z → z.life.valid p ≡ None
invalid_of p s z (Still e v) = ap (λ (x : StateOf). x.life.valid p) e ∙ v
invalid_of p s z (Gone m e) = gone_then s z p m

-- ---- pages of a range, one more at a time

in_range : (range : Range) (page : ℕ) → range.first ≤ page → page < range.first + range.count → holds_page range page ≡ true
in_range range page l h = grind (arith, l, h)

pub nth_in : (first n i : ℕ) → i < n → holds_page (record { first = first; count = n }) (first + i) ≡ true
nth_in first n i h = in_range (record { first = first; count = n }) (first + i) (omega arith) (omega (arith, h))

pub in_pages : (first n page : ℕ) → first ≤ page → page < first + n → holds_page (record { first = first; count = n }) page ≡ true
in_pages first n page l h = in_range (record { first = first; count = n }) page l h

-- ---- the next valid page

-- in a line that unbinds pages of its process a valid place can go
pub may_legal : (s : StateOf) (p : Place) → is_some (s.life.valid p) ≡ true → MayLetGo p s → IsLegal (move.Unmap p) s.life
may_legal s p h m = let f = some_found (s.life.valid p) h in unbind_legal s.life p f.0 f.1 (m f.0 f.1)

not_valid : (s : StateOf) (p : Place) → (is_some (s.life.valid p) ≡ true → ⊥) → s.life.valid p ≡ None
not_valid s p h = none_of (s.life.valid p) (not_true (is_some (s.life.valid p)) h)

abbrev pub valid_in : StateOf → Pid → ℕ → Bool
valid_in s pid page = is_some (s.life.valid (place_at pid page))

still_next : (s : StateOf) (pid : Pid) (from end : ℕ) → from < end → ((w : ℕ) → valid_in s pid w ≡ true → from ≤ w → w < end → ⊥) → NextGone pid from end end s s
still_next s pid from end h none = record {
  more = h;
  within = omega arith;
  went = λ held e. lets_none s held (page_rank from) (page_rank end);
  thins = thins_none s;
  invalid = λ page l g. not_valid s (place_at pid page) (λ v. none page v l g);
}

pub next_at : (has : ℕ → Bool) (from : ℕ) (r : Option Vpn) (v : Vpn) → r ≡ Some v → IsNextFrom has from r → IsLowestFrom has from v.0
next_at has from r v e h = subst (λ (o : Option Vpn). IsNextFrom has from o) e h

-- no page is valid from there on
pub none_next : (s : StateOf) (pid : Pid) (from end : ℕ) (r : Option Vpn) → r ≡ None → from < end → IsNextFrom (valid_in s pid) from r → NextGone pid from end end s s
none_next s pid from end None e h none = still_next s pid from end h (λ w v l g. none w v l)
none_next s pid from end (Some w) e h next = cc

-- the next one lies past the end
pub past_next : (s : StateOf) (pid : Pid) (from end v : ℕ) → from < end → end ≤ v → IsLowestFrom (valid_in s pid) from v → NextGone pid from end end s s
past_next s pid from end v h past next = still_next s pid from end h (λ w t l g. absurd (omega (arith, next.least w t l, past, g)))

-- the next one is valid no more
pub gone_next : (s z : StateOf) (pid : Pid) (from end v : ℕ) → v < end → IsLowestFrom (valid_in s pid) from v → Made (move.Unmap (place_at pid v)) s z → z ≡ moved s z → NextGone pid from end (v + 1) s z
gone_next s z pid from end v h next m e = record {
  more = omega (arith, next.low);
  within = omega (arith, h);
  went = λ held all. lets_one s z (place_at pid v) m e held (page_rank from) (page_rank (v + 1)) (all v next.low h) (omega (arith, next.low)) (omega arith);
  thins = thins_unmap s z (place_at pid v) m e;
  invalid = λ page l g. elim (cases_lt page v) [
    | inl less ↦ (thins_unmap s z (place_at pid v) m e).unmapped (place_at pid page) (not_valid s (place_at pid page) (λ t. absurd (omega (arith, next.least page t l, less))))
    | inr more ↦ (let same : page ≡ v = omega (arith, more, g) in ap (λ (n : ℕ). z.life.valid (place_at pid n)) same ∙ gone_then s z (place_at pid v) m)
  ];
}

-- the pages so far are let go
abbrev pub GoneUpTo : Pid → ℕ → ℕ → StateOf → Type 0
GoneUpTo pid first end s = (page : ℕ) → first ≤ page → page < end → s.life.valid (place_at pid page) ≡ None

pub gone_more : (pid : Pid) (first from next : ℕ) (y z : StateOf) → Thins y z → GoneUpTo pid first from y → ((page : ℕ) → from ≤ page → page < next → z.life.valid (place_at pid page) ≡ None) → GoneUpTo pid first next z
gone_more pid first from next y z t g e page l h = elim (cases_lt page from) [
  | inl less ↦ t.unmapped (place_at pid page) (g page l less)
  | inr more ↦ e page more h
]

-- ---- the store

pub rearranged_by : (s z : StateOf) (o : OwnOf) → LifeKept s.life z.life → ((k : Key) → block_at (backed_by z.life (z.life.stands k)) ≡ block_at (backed_by s.life (s.life.stands k))) → z.told ≡ s.told → z.waits ≡ s.waits → z ≡ moved s z
    → store_of z o ≡ record (store_of s o) { report = rearranged (report_of s o) (report_of z o) }
rearranged_by s z o k b told waits e =
    fetched_by s z o o k b (ap (λ (x : StateOf). x.is_open) e) (ap (λ (x : StateOf). x.areas) e) (ap (λ (x : StateOf). x.bound) e) refl refl
    ∙ (λ i. record (store_of s o) {
      names = ap (λ (x : StateOf). x.names) e i;
      file_blocks = ap (λ (x : StateOf). x.blocks) e i;
      report = with_told (record (report_of z o) { wait = λ tid. wait_of (waits i tid) }) (told i);
      paging_device = ap (λ (x : StateOf). x.paging) e i;
      file_device = ap (λ (x : StateOf). x.files) e i;
    })

-- ---- a key is no more

releasing_kind : (k : LineKind) → IsReleasing k → (is_call k || is_unbind k) ≡ true
releasing_kind k (inl e) = ap (λ (x : LineKind). is_call x || is_unbind x) e
releasing_kind k (inr e) = ap (λ (x : LineKind). is_call x || is_unbind x) e.1

-- the line takes pages away
pub drop_kind : (k : Key) (s : StateOf) (o : OwnOf) → MayRemove (store_of s o) k → (is_call s.life.kind || is_unbind s.life.kind) ≡ true
drop_kind (Private pid vpn) s o (inl e) = ap (λ (x : LineKind). is_call x || is_unbind x) e
drop_kind (Private pid vpn) s o (inr e) = releasing_kind s.life.kind e.0
drop_kind (Shared area index) s o e = releasing_kind s.life.kind e.0

unnamed_invalid : (s : StateOf) (p : Place) (f : Frame) → StateHolds s → s.names p ≡ None → s.life.valid p ≡ Some f → ⊥
unnamed_invalid s p f h n v = let bad : false ≡ true = sym (ap is_some n) ∙ h.owned p f v in cc

-- its own place can be let go
pub may_let_own : (k : Key) (s : StateOf) (o : OwnOf) → StateHolds s → s.life.paging k ≡ true → is_live s.life k ≡ true → MayRemove (store_of s o) k → MayLetOwnGo k s
may_let_own (Private pid vpn) s o h g l (inl e) = (h.home (Private pid vpn) l, λ f v. e)
may_let_own (Private pid vpn) s o h g l (inr e) = (h.home (Private pid vpn) l, λ f v. absurd (unnamed_invalid s (record { pid = pid; vpn = vpn }) f h e.1 v))
may_let_own (Shared area index) s o h g l e = tt

-- a frame that no place shows has no shares
no_shares : (l : FrameLife) → Sound l → (f : ℕ) → ((p : Place) → is_frame f (l.valid p) ≡ false) → (record_at l.frames f).shares ≡ 0
no_shares l s f h = sym (s.shown.shares f) ∙ tally-none (λ p. is_frame f (l.valid p)) s.shown.places h

-- no place is valid for a page that no valid place names
unmapped_by : (s : StateOf) (k : Key) → StateHolds s → ((p : Place) (f : Frame) → s.names p ≡ Some k → s.life.valid p ≡ Some f → ⊥) → is_unmapped s.life (s.life.stands k) ≡ true
unmapped_by s k h none = at (s.life.stands k) refl
  where
    shows : (f : Frame) (p : Place) → s.life.stands k ≡ held.Frame f → (o : Option Frame) → s.life.valid p ≡ o → is_frame f.0 o ≡ false
    shows f p e None v = refl
    shows f p e (Some g) v = elim (g.0 == f.0) as (λ b. (g.0 == f.0) ≡ b → b ≡ false) [
      | true ↦ λ q. absurd (none p g (sym (h.named p g v) ∙ ap (λ (n : ℕ). (record_at s.life.frames n).owner) (eqb-true g.0 f.0 q) ∙ h.owner k f e) v)
      | false ↦ λ q. refl
    ] refl

    at : (w : Held) → s.life.stands k ≡ w → is_unmapped s.life w ≡ true
    at (held.Frame f) e = ap (λ (n : ℕ). n == 0) (∥∥₁_elim h.reached (hlevel props) (λ r. no_shares s.life (reached_sound s.life r) f.0 (λ p. shows f p e (s.life.valid p) refl)))
    at w e = refl

own_place : (pid : Pid) (vpn : Vpn) (p : Place) → fits_place p (Private pid vpn) ≡ true → p ≡ record { pid = pid; vpn = vpn }
own_place pid vpn p h = sym (same_place-true (record { pid = pid; vpn = vpn }) p h)

-- once its own place is let go, no place is valid for it
pub unmapped_then : (k : Key) (s y : StateOf) (o : OwnOf) → StateHolds y → OwnLetGo k s y → MayRemove (store_of s o) k → is_unmapped y.life (y.life.stands k) ≡ true
unmapped_then (Private pid vpn) s y o h g m = unmapped_by y (Private pid vpn) h (λ p f n v.
    let q = own_place pid vpn p (h.fits p f (Private pid vpn) v (h.named p f v ∙ n)) in
    let bad : None ≡ Some f = sym (invalid_of (record { pid = pid; vpn = vpn }) s y g) ∙ sym (ap y.life.valid q) ∙ v in cc)
unmapped_then (Shared area index) s y o h g m = unmapped_by y (Shared area index) h (λ p f n v. m.1 p (sym (ap (λ (x : StateOf). x.names p) g) ∙ n))

pub own_thins : (k : Key) (s y : StateOf) → OwnLetGo k s y → Thins s y
own_thins (Private pid vpn) s y g = thins_of (record { pid = pid; vpn = vpn }) s y g
own_thins (Shared area index) s y g = subst (λ (x : StateOf). Thins s x) (sym g) (thins_none s)

pub drop_legal : (k : Key) (s y : StateOf) (o : OwnOf) → StateHolds y → OwnLetGo k s y → s.life.paging k ≡ true → MayRemove (store_of s o) k → IsLegal (move.Drop k) y.life
drop_legal k s y o h g p m =
    let t = own_thins k s y g in
    let a : (is_call y.life.kind || is_unbind y.life.kind) ≡ true = ap (λ (x : LineKind). is_call x || is_unbind x) t.life.kind ∙ drop_kind k s o m in
    let b : y.life.paging k ≡ true = ap (λ (x : Key → Bool). x k) t.life.paging ∙ p in
    let c = unmapped_then k s y o h g m in
    (λ i. a i && b i && c i)

-- what a drop leaves of the life of the frames
abbrev Drops : Key → FrameLife → FrameLife → Type 0
Drops k l m = LifeBut (changed same_key l.paging k false) (l.paging_keys - 1) l m

drops_at : (k : Key) (l : FrameLife) (h : Held) → Drops k l (dropped_at h l k)
drops_at k l (held.Frame f) = record { machine = refl; line = refl; kind = refl; paging = refl; keys = refl; pids = refl; added = refl }
drops_at k l h = record { machine = refl; line = refl; kind = refl; paging = refl; keys = refl; pids = refl; added = refl }

drops_by : (k : Key) (s z : StateOf) → Made (move.Drop k) s z → Drops k s.life z.life
drops_by k s z m = subst (λ (l : FrameLife). Drops k s.life l) (sym m.life) (drops_at k s.life (s.life.stands k))

-- what the state is then
abbrev pub IsDropped : Key → StateOf → StateOf → Type 0
IsDropped k s z = z ≡ record (moved s z) { contents = changed same_key s.contents k None; names = names_after_drop s.names k }

drop_blocks : (k : Key) (s z : StateOf) → StateHolds s → StateHolds z → Made (move.Drop k) s z → s.life.paging k ≡ true → IsDropped k s z → (q : Key) → block_at (backed_by z.life (z.life.stands q)) ≡ block_at (backed_by s.life (s.life.stands q))
drop_blocks k s z h g m p e q = elim (key_or_not q k) [
  | inl a ↦ (let gone : z.contents q ≡ None = ap (λ (f : Key → Option (List ℕ)). f q) (ap (λ (x : StateOf). x.contents) e) ∙ ap (λ (x : Key). changed same_key s.contents k None x) a.0 ∙ changed_here s.contents k None in
      dead_has_none z q g gone ∙ sym (paging_has_none s q h (ap s.life.paging a.0 ∙ p)))
  | inr a ↦ block_same s z (move.Drop k ∷ []) h g (m.legal, m.life) q
      (ap (λ (f : Key → Bool). f q) (drops_by k s z m).paging ∙ changed_else s.life.paging k q false a.0)
      (ap (λ (f : Key → Option (List ℕ)). is_some (f q)) (ap (λ (x : StateOf). x.contents) e) ∙ ap is_some (changed_else s.contents k q None a.0))
]

dropped_names : (k : Key) (s : StateOf) → names_after_drop s.names k ≡ unnamed k s.names
dropped_names (Private pid vpn) s = refl
dropped_names (Shared area index) s = refl

dropped_shape : (k : Key) (s z : StateOf) (o : OwnOf) (n : Place → Option Key) → Drops k s.life z.life → ((q : Key) → block_at (backed_by z.life (z.life.stands q)) ≡ block_at (backed_by s.life (s.life.stands q))) → z.told ≡ s.told → z.waits ≡ s.waits
    → store_of (record (moved s z) { names = n }) o ≡ record (store_of s o) { names = n; paging = changed same_in_world s.life.paging k false; paging_keys = s.life.paging_keys - 1; report = rearranged (report_of s o) (report_of z o) }
dropped_shape k s z o n d b told waits = λ i. record (store_of s o) {
  names = n;
  machine = d.machine i;
  room = limit_of (d.machine i);
  paging = (d.paging ∙ changed_keys s.life.paging k false) i;
  paging_keys = d.keys i;
  block_of = λ key. b key i;
  line = d.line i;
  kind = d.kind i;
  last_pid = d.pids i;
  report = with_told (record (report_of z o) { wait = λ tid. wait_of (waits i tid) }) (told i);
}

dropped_store : (k : Key) (s z : StateOf) (o : OwnOf) → StateHolds s → StateHolds z → Made (move.Drop k) s z → s.life.paging k ≡ true → IsDropped k s z
    → store_of z o ≡ record (store_of s o) { names = unnamed k s.names; paging = changed same_in_world s.life.paging k false; paging_keys = s.life.paging_keys - 1; report = rearranged (report_of s o) (report_of z o) }
dropped_store k s z o h g m p e =
    ap (λ (x : StateOf). store_of x o) e
    ∙ dropped_shape k s z o (names_after_drop s.names k) (drops_by k s z m) (drop_blocks k s z h g m p e) m.told m.waits
    ∙ ap (λ (n : Place → Option Key). record (store_of s o) { names = n; paging = changed same_in_world s.life.paging k false; paging_keys = s.life.paging_keys - 1; report = rearranged (report_of s o) (report_of z o) }) (dropped_names k s)

-- the store once the key's own place was let go and the key dropped
pub removed_store : (k : Key) (s y z : StateOf) (o : OwnOf) → StateHolds s → StateHolds y → StateHolds z → OwnLetGo k s y → s.life.paging k ≡ true → Made (move.Drop k) y z → IsDropped k y z
    → store_of z o ≡ record (store_of s o) { names = unnamed k s.names; paging = changed same_in_world s.life.paging k false; paging_keys = s.life.paging_keys - 1; report = rearranged (report_of s o) (report_of z o) }
removed_store k s y z o h g f w p m e =
    let t = own_thins k s y w in
    dropped_store k y z o g f m (ap (λ (x : Key → Bool). x k) t.life.paging ∙ p) e
    ∙ ap (λ (x : StoreOf). record x { names = unnamed k x.names; paging = changed same_in_world x.paging k false; paging_keys = x.paging_keys - 1; report = rearranged x.report (report_of z o) })
    (rearranged_by s y o t.life (own_blocks k s y h g w t) t.told t.waits t.same)
  where
    own_blocks : (k : Key) (s y : StateOf) → StateHolds s → StateHolds y → OwnLetGo k s y → Thins s y → (q : Key) → block_at (backed_by y.life (y.life.stands q)) ≡ block_at (backed_by s.life (s.life.stands q))
    own_blocks (Private pid vpn) s y h g (Still e v) t q = ap (λ (x : StateOf). block_at (backed_by x.life (x.life.stands q))) e
    own_blocks (Private pid vpn) s y h g (Gone m e) t q = blocks_kept s y (move.Unmap (record { pid = pid; vpn = vpn }) ∷ []) h g (m.legal, m.life) t.life.paging (ap (λ (x : StateOf). x.contents) t.same) q
    own_blocks (Shared area index) s y h g e t q = ap (λ (x : StateOf). block_at (backed_by x.life (x.life.stands q))) e

pub removed_contents : (k : Key) (s y z : StateOf) → OwnLetGo k s y → IsDropped k y z → z.contents ≡ changed same_in_world s.contents k None
removed_contents k s y z w e = ap (λ (x : StateOf). x.contents) e ∙ ap (λ (f : Key → Option (List ℕ)). changed same_key f k None) (ap (λ (x : StateOf). x.contents) (own_thins k s y w).same) ∙ changed_keys s.contents k None

-- a key without bytes is not live
not_live : (s : StateOf) (k : Key) → StateHolds s → s.contents k ≡ None → is_live s.life k ≡ false
not_live s k h e = h.live k ∙ ap is_some e

pub removed_passes : (k : Key) (s y z : StateOf) (o u : OwnOf) → StateHolds s → OwnLetGo k s y → Made (move.Drop k) y z → IsDropped k y z → (held : Leaving) (from to : ℕ) → IsAmong s.contents held from to k
    → PassesIn false (Turns (Ends held from to)) (store_of s o) (store_of z u) (behind_of s) (behind_of z)
removed_passes (Private pid vpn) s y z o u g (Still e v) m w held from to h = subst (λ (x : StateOf). PassesIn false (Turns (Ends held from to)) (store_of x o) (store_of z u) (behind_of x) (behind_of z)) e
    (passes_of (Turns (Ends held from to)) (move.Drop (Private pid vpn) ∷ []) y z o u (does_one (move.Drop (Private pid vpn)) y z m)
    (record { turned = record { all = (h.0, tt); order = (h.1, h.2, tt); lowest = (ap (λ (x : StateOf). x.life.valid (record { pid = pid; vpn = vpn })) e ∙ v, tt) }; moved = record { waits = m.waits; ages = m.ages }; slots = ap (λ (x : StateOf). x.slots) w }))
removed_passes (Private pid vpn) s y z o u g (Gone n e) m w held from to h =
    let place : Place = record { pid = pid; vpn = vpn } in
    let d = does_two (move.Unmap place) (move.Drop (Private pid vpn)) s y z n m in
    passes_of (Turns (Ends held from to)) (move.Unmap place ∷ move.Drop (Private pid vpn) ∷ []) s z o u d
    (record {
      turned = record {
        all = (h.0, (h.0, tt));
        order = (h.1, h.2, (omega arith, h.2, tt));
        lowest = (tt, (unmapped_gone s.life place (s.life.valid place) refl, tt));
      };
      moved = record { waits = d.waits; ages = d.ages };
      slots = ap (λ (x : StateOf). x.slots) w ∙ ap (λ (x : StateOf). x.slots) e;
    })
removed_passes (Shared area index) s y z o u g e m w held from to h = subst (λ (x : StateOf). PassesIn false (Turns (Ends held from to)) (store_of x o) (store_of z u) (behind_of x) (behind_of z)) e
    (passes_of (Turns (Ends held from to)) (move.Drop (Shared area index) ∷ []) y z o u (does_one (move.Drop (Shared area index)) y z m)
    (record {
      turned = record {
        all = (refl, tt);
        order = (h.0, h.1, tt);
        lowest = ((λ i l. ap (λ (x : StateOf). is_live x.life (Shared area i)) e ∙ not_live s (Shared area i) g (h.2 i l)), tt);
      };
      moved = record { waits = m.waits; ages = m.ages };
      slots = ap (λ (x : StateOf). x.slots) w;
    }))

-- a page-file key lives
pub paging_lives : (s : StateOf) (k : Key) → StateHolds s → s.life.paging k ≡ true → is_live s.life k ≡ true
paging_lives s k h e = ∥∥₁_elim h.reached (hlevel props) (λ r. paging_live s.life (reached_sound s.life r) k e)

-- ---- pages of a process are given up

-- none of them is valid, or the line unbinds them
pub may_let_pages : (s : StateOf) (o : OwnOf) (pid : Pid) (range : Range) → StateHolds s → MayUnbind (store_of s o) pid range → (page : ℕ) → holds_page range page ≡ true → MayLetGo (place_at pid page) s
may_let_pages s o pid range h (inl e) page i f v = e
may_let_pages s o pid range h (inr e) page i f v = absurd (unnamed_invalid s (place_at pid page) f h (e.1 page i) v)

-- pages of 32 bits: the last one is a user page
pub pages_low : (s : StateOf) (o : OwnOf) (pid : Pid) (first n : ℕ) → StateHolds s → AllBound (store_of s o) pid (record { first = first; count = n }) true → (n ≡ 0 → ⊥) → first + n < 2 ^ 32
pages_low s o pid first n h bound some =
    let low = h.user (place_at pid (first + (n - 1))) (bound (first + (n - 1)) (nth_in first n (n - 1) (below n some))) in
    low_sum first n some low
  where
    below : (n : ℕ) → (n ≡ 0 → ⊥) → n - 1 < n
    below zero q = absurd (q refl)
    below (suc n) q = omega arith

    low_sum : (first n : ℕ) → (n ≡ 0 → ⊥) → first + (n - 1) < 0x7FFF0 → first + n < 2 ^ 32
    low_sum first zero q l = absurd (q refl)
    low_sum first (suc n) q l = omega (arith, l)

-- their process is open
pub pages_open : (s : StateOf) (o : OwnOf) (pid : Pid) (first n : ℕ) → StateHolds s → AllBound (store_of s o) pid (record { first = first; count = n }) true → (n ≡ 0 → ⊥) → s.is_open pid.0 ≡ true
pages_open s o pid first n h bound some = h.open_process (place_at pid first) (bound first (nth_there first n some))
  where
    nth_there : (first n : ℕ) → (n ≡ 0 → ⊥) → holds_page (record { first = first; count = n }) first ≡ true
    nth_there first zero q = absurd (q refl)
    nth_there first (suc n) q = grind arith

-- what the state is once pages are given up
abbrev pub IsUnbound : Pid → Range → StateOf → StateOf → Type 0
IsUnbound pid range y z = z ≡ record y { bound = changed_in pid range y.bound false; names = changed_in pid range y.names None }

-- all places
abbrev pub all_places : Leaving
all_places = record { places = λ q. true; rank = λ area. 0 }

pub unbound_store : (s y z : StateOf) (o : OwnOf) (pid : Pid) (range : Range) → StateHolds s → StateHolds y → Thins s y → LetsGo all_places 0 (page_rank (range.first + range.count)) s y → IsUnbound pid range y z
    → store_of z o ≡ record (store_of s o) { bound = changed_in pid range s.bound false; names = changed_in pid range s.names None; report = rearranged (report_of s o) (report_of z o) }
unbound_store s y z o pid range h g t w e =
    ap (λ (x : StateOf). store_of x o) e
    ∙ ap (λ (x : StoreOf). record x { bound = changed_in pid range x.bound false; names = changed_in pid range x.names None })
    (rearranged_by s y o t.life (blocks_kept s y (w o o).moves h g (w o o).replays t.life.paging (ap (λ (x : StateOf). x.contents) t.same)) t.told t.waits t.same)
    ∙ ap (λ (x : StateOf). record (store_of s o) { bound = changed_in pid range s.bound false; names = changed_in pid range s.names None; report = rearranged (report_of s o) (report_of x o) }) (sym e)

pub all_among : (pid : Pid) (range : Range) → AreAmong all_places 0 (page_rank (range.first + range.count)) pid range
all_among pid range = record { each = λ page h. refl; first = omega arith; last = omega arith }

pub unbound_passes : (s y z : StateOf) (o u : OwnOf) (pid : Pid) (range : Range) (held : Leaving) (from to : ℕ) → LetsGo held from to s y → IsUnbound pid range y z
    → PassesIn false (Turns (Ends held from to)) (store_of s o) (store_of z u) (behind_of s) (behind_of z)
unbound_passes s y z o u pid range held from to w e = subst (λ (x : StateOf). PassesIn false (Turns (Ends held from to)) (store_of s o) (store_of x u) (behind_of s) (behind_of x)) (sym e) (again (changed_in pid range y.bound false) (changed_in pid range y.names None) (w o u))
  where
    again : (b : Place → Bool) (n : Place → Option Key) → Passes (Turns (Ends held from to)) (store_of s o) (store_of y u) (behind_of s) (behind_of y)
        → Passes (Turns (Ends held from to)) (store_of s o) (store_of (record y { bound = b; names = n }) u) (behind_of s) (behind_of (record y { bound = b; names = n }))
    again b n p = record {
      moves = p.moves;
      in_range = p.in_range;
      grew = p.grew;
      replays = p.replays;
      that = record { turned = p.that.turned; moved = record { waits = p.that.moved.waits; ages = p.that.moved.ages }; slots = p.that.slots };
      report = p.report;
      paging_calls = p.paging_calls;
      paging = p.paging;
      paging_are = p.paging_are;
      file_calls = p.file_calls;
      files = p.files;
      files_are = p.files_are;
      slots_kept = p.slots_kept;
      blocks_kept = p.blocks_kept;
    }
