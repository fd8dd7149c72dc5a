-- Keys come to be, and are no more: add, drop.
use Rattle.std.proofs.Common.{◌≡◌, ◌≢◌, ℕ, ◌-◌, ◌≤◌, Bool, true, false, List, Option, Some, None, refl, sym, ap, ◌∙◌, arith, ◌⊎◌, ◌+◌, ◌<◌, ◌^◌, cond}
use Rattle.std.proofs.Common.{subst, inl, inr, length, length-set, get_or-set_same, get_or-set_other}
use Rattle.std.specs.Prelude.{◌&&◌, ◌||◌, is_some, if◌then◌else◌, slice_get, slice_set, slice_index_or, ◌==◌, not, nat_lt, option_map, unwrap_or}
use Rattle.std.proofs.lemmas.Bool.{and_parts, or_left, eqb-true, ltb-true, lt-ltb, eq-eqb}
use Rattle.mm_types.proofs.{not_true, differ, same_or_not}
use Rattle.mm_types.specs.{Frame, Key, Place, Record, Held, LineKind, limit_of, Area, Block, Pid, Vpn}
use Rattle.mm_types.specs.declared.numbers.Key.TheVariants.{Private, Shared}
use Rattle.mm_move_rules.specs.{FrameTable, blank, record_at, has_request, is_read, disowned, off_lists, to_free, with_record, after_drop, slot_after_drop}
use Rattle.mm_move_rules.specs.{IsLegal, is_touch, is_call, is_unbind, is_unmapped, after_move, freed, dropped_at, unlisted, slot_at, FrameLife, changed}
use Rattle.mm_move_rules.specs.{same_key, same_place, is_shared, is_live, is_dead, may_copy, touches, shows_shared, owner_is}
use Rattle.mm_move_laws.specs.{is_home_for}
use Rattle.mm_move_laws.proofs.{read_has, kept_inside, dead_is, owner_passes, reached_by}
use Rattle.mm_page_tables.specs.{Entry, Aside, key_entry, with_entry, is_valid_entry, is_there, is_aside, keeps_places, place_from, bare, aside_or}
use Rattle.mm_page_tables.specs.{with_aside, valid_frame}
use Rattle.mm_parts.specs.{JoinedParts, LineOf, owners, owned_by, held_by, names_of, life_in, shown_of, requests_in, is_aside_entry, PartsKept}
use Rattle.mm_parts.specs.{parts_after, names_after_drop, table_released, slot_released, IsReleased, stands_of, valid_of, named_by, is_of_paging_file}
use Rattle.mm_parts.specs.{life_of, WordsKept, names_other, aside_added, aside_after_add, IsClear, HasEntry, copy_place}
use Rattle.mm_parts.proofs.Stands.{same_life, sets_set, at_if, beside_or_not, if_either, in_table}
use Rattle.mm_parts.proofs.Stands.{Rewrites, rewrites_by, waits_frame}
use Rattle.mm_parts.proofs.Stands.{names_gone, names_none}
use Rattle.mm_parts.proofs.Keeping.{Step, step_to, known}
use Rattle.mm_parts.proofs.KeyChanges.{Rewords, is_resting, is_beside, rests, beyond, beyond_blank, key_step, key_stands, key_paging, key_valid}
use Rattle.mm_parts.proofs.KeyChanges.{places_kept, key_life}
use Rattle.mm_parts.proofs.Reading.{shared_by}
use Rattle.mm_parts.proofs.FrameSteps.{slot_if}
use Rattle.mm_parts.proofs.FrameSteps.{none_in, own_in}
use Rattle.mm_parts.proofs.LineSteps.{no_place}
use Rattle.mm_types.specs.declared.frames.Held.TheVariants as held
use Rattle.mm_types.specs.declared.moves.LineKind.TheVariants as kind
use Rattle.mm_types.specs.declared.moves.Move.TheVariants as move
use Rattle.mm_page_tables.specs.declared.layout.Entry.TheVariants as entry

-- ---- a word changes and no frame

pub nowhere : (d : FrameTable) → Rewrites d d (beyond d).0 blank
nowhere d = record { elsewhere = λ g m. refl; here = beyond_blank d }

pub word_only : (t : JoinedParts) → PartsKept t → (k : Key) (e : Entry) → is_resting k e ≡ true → (is_beside t.words k ≡ true → is_aside_entry e ≡ true) → ((g : Frame) → e ≢ entry.Transition g) → is_valid_entry (key_entry t.words k) ≡ false
    → Rewords t t.table (beyond t.table) blank k e
word_only t kept k e resting beside still calm = record {
  change = nowhere t.table;
  unshared = ap (λ (x : Record). x.shares) (beyond_blank t.table);
  bare = refl;
  only = none_in t kept (beyond t.table) k (ap (λ (x : Record). x.owner) (beyond_blank t.table));
  resting = resting;
  beside = beside;
  lands = λ g h. absurd (still g h);
  calm = calm;
}

-- ---- drop

not_touching : (k : LineKind) → (is_call k || is_unbind k) ≡ true → is_touch k ≡ false
not_touching (kind.Access p) h = cc
not_touching _ h = cc

not_beside : (a : Option Aside) (place : Place) → is_some a ≡ false → is_aside a place ≡ false
not_beside None place h = refl
not_beside (Some a) place h = cc

record CanDrop (t : JoinedParts) (k : Key) : Type 0 where
  touch : is_touch t.line.kind ≡ false
  paging : (life_in t).paging k ≡ true
  unmapped : is_unmapped (life_in t) ((life_in t).stands k) ≡ true

can_drop : (t : JoinedParts) (k : Key) → IsLegal (move.Drop k) (life_in t) → CanDrop t k
can_drop t k legal =
    let l = life_in t in
    let a = and_parts ((is_call t.line.kind || is_unbind t.line.kind) && l.paging k) (is_unmapped l (l.stands k)) legal in
    let b = and_parts (is_call t.line.kind || is_unbind t.line.kind) (l.paging k) a.0 in
    record { touch = not_touching t.line.kind b.0; paging = b.1; unmapped = a.1 }

module _ (t : JoinedParts) (kept : PartsKept t) (k : Key) (legal : IsLegal (move.Drop k) (life_in t)) where
  can : CanDrop t k
  can = can_drop t k legal

  none_aside : is_some t.words.aside ≡ false
  none_aside = not_true (is_some t.words.aside) (λ e. let bad : true ≡ false = sym (kept.within.copying e) ∙ can.touch in cc)

  none_beside : is_beside t.words k ≡ true → is_aside_entry entry.Empty ≡ true
  none_beside = by k
    where
      by : (q : Key) → is_beside t.words q ≡ true → is_aside_entry entry.Empty ≡ true
      by (Private p v) h = let bad : true ≡ false = sym h ∙ not_beside t.words.aside (place_from p v) none_aside in cc
      by (Shared a i) h = cc

  gone_names : (q : Place) → names_of (owners t.table) (with_entry t.words k entry.Empty) q ≡ names_after_drop (shown_of t).names k q
  gone_names = by k
    where
      by : (j : Key) (q : Place) → names_of (owners t.table) (with_entry t.words j entry.Empty) q ≡ names_after_drop (shown_of t).names j q
      by (Private p v) q = names_gone (owners t.table) t.words p v entry.Empty (not_beside t.words.aside (place_from p v) none_aside) refl q
      by (Shared a i) q = refl

  drop_by : (d' : FrameTable) (f : Frame) (r : Record) (free' : List Bool) → Rewords t d' f r k entry.Empty
      → record (unlisted (life_in t) k) { frames = d'; free_slots = free' } ≡ after_move (life_in t) (move.Drop k)
      → (is_read (record_at t.table f.0).request ≡ true → is_read r.request ≡ true)
      → Step (record t { line = record t.line { paging_keys = t.line.paging_keys - 1 }; table = d'; free = free'; words = with_entry t.words k entry.Empty })
      (record (parts_after (shown_of t) (move.Drop k)) { names = names_after_drop (shown_of t).names k })
  drop_by d' f r free' re moves goes_on =
      let n' : LineOf = record t.line { paging_keys = t.line.paging_keys - 1 } in
      key_step t kept d' f r k entry.Empty re (move.Drop k) legal n' t.bytes free' t.flight t.own (names_after_drop (shown_of t).names k)
      (same_life n' d' free' (requests_in t) _ _ _ _ _ _ _ _ (λ b. slice_index_or t.line.added b false)
      (sets_set t.words k entry.Empty) (key_stands t kept d' f r k entry.Empty re) (key_paging t kept d' f r k entry.Empty re) (key_valid t kept d' f r k entry.Empty re)
      ∙ moves)
      gone_names
      (record { machine = kept.line.machine; begun = kept.line.begun; blocks = kept.line.blocks })
      refl refl kept.within.requesting refl (waits_frame t.table d' f.0 r t.flight re.change goes_on kept.waits)

  drop_bare : (h : Held) (free' : List Bool) → is_valid_entry (key_entry t.words k) ≡ false → (life_in t).stands k ≡ h
      → record (unlisted (life_in t) k) { frames = t.table; free_slots = free' } ≡ dropped_at h (life_in t) k
      → Step (record t { line = record t.line { paging_keys = t.line.paging_keys - 1 }; table = t.table; free = free'; words = with_entry t.words k entry.Empty })
      (record (parts_after (shown_of t) (move.Drop k)) { names = names_after_drop (shown_of t).names k })
  drop_bare h free' calm stands moves =
      drop_by t.table (beyond t.table) blank free' (word_only t kept k entry.Empty (rests k entry.Empty refl refl refl) none_beside (λ g e. cc) calm)
      (moves ∙ ap (λ x. dropped_at x (life_in t) k) (sym stands))
      (λ read. let bad : true ≡ false = sym read ∙ ap (λ (x : Record). is_read x.request) (beyond_blank t.table) in cc)

  standing : (e : Entry) → key_entry t.words k ≡ e → (life_in t).stands k ≡ held_by (owned_by (owners t.table) k) e
  standing e h = ap (held_by (owned_by (owners t.table) k)) h

  not_dead : (life_in t).stands k ≡ held.Dead → ⊥
  not_dead h =
      let bad : is_home_for true held.Dead ≡ true = sym (ap (λ b. is_home_for b held.Dead) can.paging) ∙ ap (is_home_for ((life_in t).paging k)) (sym h) ∙ (known t kept).home k in cc

  -- a page that is dropped is valid nowhere
  no_valid : (f : Frame) (n : ℕ) → key_entry t.words k ≡ entry.Valid f n → ⊥
  no_valid f n word = by (owned_by (owners t.table) k f) (standing (entry.Valid f n) word)
    where
      some : 1 ≤ (record_at t.table f.0).shares
      some = shared_by t kept k f n word

      by : (b : Bool) → (life_in t).stands k ≡ (if b then held.Frame f else held.Dead) → ⊥
      by true e =
          let none : (record_at t.table f.0).shares ≡ 0 = eqb-true (record_at t.table f.0).shares 0 (sym (ap (is_unmapped (life_in t)) e) ∙ can.unmapped) in
          omega (arith, some, none)
      by false e = not_dead e

  pub drop_step : (e : Entry) → key_entry t.words k ≡ e
      → Step (record t { line = record t.line { paging_keys = t.line.paging_keys - 1 }; table = table_released e t.table; free = freed t.free (slot_released e t.table); words = with_entry t.words k entry.Empty })
      (record (parts_after (shown_of t) (move.Drop k)) { names = names_after_drop (shown_of t).names k })
  drop_step entry.Empty word = absurd (not_dead (standing entry.Empty word))
  drop_step entry.Zero word = drop_bare held.Zero t.free (ap is_valid_entry word) (standing entry.Zero word) refl
  drop_step (entry.Paged s) word = drop_bare (held.Slot s) (freed t.free (Some s.0)) (ap is_valid_entry word) (standing (entry.Paged s) word) refl
  drop_step (entry.InFile b) word =
      let stands = standing (entry.InFile b) word in
      let bad : is_home_for true (held.Block b) ≡ true = sym (ap (λ x. is_home_for x (held.Block b)) can.paging) ∙ ap (is_home_for ((life_in t).paging k)) (sym stands) ∙ (known t kept).home k in cc
  drop_step (entry.Transition f) word =
      let r = record_at t.table f.0 in
      let facts = known t kept in
      let owner = facts.owner k f (standing (entry.Transition f) word) in
      let unshared : r.shares ≡ 0 = kept.words.transition k f word in
      let new = if has_request r.request then disowned r else blank in
      let low = kept_inside t.table f.0 (or_left (is_some r.owner) (has_request r.request) (ap is_some owner)) in
      let re : Rewords t (after_drop t.table f.0) f new k entry.Empty = record {
        change = rewrites_by t.table (after_drop t.table f.0) f.0 new low
            (elim (has_request r.request) as (λ b. (if b then with_record t.table f.0 (disowned r) else to_free (off_lists t.table f.0) f.0).records ≡ slice_set t.table.records f.0 (if b then disowned r else blank)) [ true ↦ refl | false ↦ refl ]);
        unshared = unshared;
        bare = elim (has_request r.request) as (λ b. (if b then disowned r else blank).shares ≡ 0) [ true ↦ unshared | false ↦ refl ];
        only = own_in t kept f k owner;
        resting = rests k entry.Empty refl refl refl;
        beside = none_beside;
        lands = λ g e. cc;
        calm = ap is_valid_entry word;
      } in
      drop_by (after_drop t.table f.0) f new (freed t.free (slot_after_drop r)) re (ap (λ x. dropped_at x (life_in t) k) (sym (standing (entry.Transition f) word)))
      (elim (has_request r.request) as (λ b. has_request r.request ≡ b → is_read r.request ≡ true → is_read (if b then disowned r else blank).request ≡ true) [
        | true ↦ λ e h. h
        | false ↦ λ e h. let bad : true ≡ false = sym (read_has r.request h) ∙ e in cc
      ] refl)
  drop_step (entry.Valid f n) word = absurd (no_valid f n word)
  drop_step (entry.Proto a i) word = absurd (not_dead (standing (entry.Proto a i) word))

-- ---- what the move's condition says to the calls that drop is made of

released_bare : (e : Entry) (d : FrameTable) → (table_released (bare e) d ≡ table_released e d) × (slot_released (bare e) d ≡ slot_released e d)
released_bare (entry.Paged s) d = (refl, refl)
released_bare _ d = (refl, refl)

-- the entry as it is told, with its number
pub drop_told_step : (t : JoinedParts) (kept : PartsKept t) (k : Key) (legal : IsLegal (move.Drop k) (life_in t)) (e : Entry) → bare e ≡ key_entry t.words k
    → Step (record t { line = record t.line { paging_keys = t.line.paging_keys - 1 }; table = table_released e t.table; free = freed t.free (slot_released e t.table); words = with_entry t.words k entry.Empty })
    (record (parts_after (shown_of t) (move.Drop k)) { names = names_after_drop (shown_of t).names k })
drop_told_step t kept k legal e is =
    step_to _ _ _ (λ i. record t { line = record t.line { paging_keys = t.line.paging_keys - 1 }; table = sym (released_bare e t.table).0 i; free = freed t.free (sym (released_bare e t.table).1 i); words = with_entry t.words k entry.Empty })
    (drop_step t kept k legal (bare e) (sym is))

pub drop_frees : (t : JoinedParts) → PartsKept t → (k : Key) (e : Entry) → bare e ≡ key_entry t.words k → (s : ℕ) → slot_released e t.table ≡ Some s → slice_get t.free s ≡ Some false
drop_frees t kept k (entry.Paged x) w s h = (known t kept).homed k s (ap (λ z. slot_at (held_by (owned_by (owners t.table) k) z)) (sym w) ∙ h)
drop_frees t kept k (entry.Transition f) w s h = (known t kept).backed f.0 s (slot_if (has_request (record_at t.table f.0).request) (record_at t.table f.0).backing s h)
drop_frees t kept k _ w s h = cc

pub drop_released : (t : JoinedParts) → PartsKept t → (k : Key) (e : Entry) → bare e ≡ key_entry t.words k → IsReleased e t.table
drop_released t kept k (entry.Transition f) is =
    let owner = (known t kept).owner k f (ap (held_by (owned_by (owners t.table) k)) (sym is)) in
    (ap is_some owner, kept.words.transition k f (sym is))
drop_released t kept k _ is = tt

-- the key is at rest, and there is one
pub drop_calm : (t : JoinedParts) (kept : PartsKept t) (k : Key) → IsLegal (move.Drop k) (life_in t) → keeps_places t.words k entry.Empty ≡ true
drop_calm t kept k legal = places_kept t.words k entry.Empty refl (calm (key_entry t.words k) refl)
  where
    calm : (e : Entry) → key_entry t.words k ≡ e → is_valid_entry (key_entry t.words k) ≡ false
    calm (entry.Valid f n) w = absurd (no_valid t kept k legal f n w)
    calm _ w = ap is_valid_entry w

pub drop_some : (t : JoinedParts) (kept : PartsKept t) (k : Key) → IsLegal (move.Drop k) (life_in t) → 1 ≤ t.line.paging_keys
drop_some t kept k legal = (known t kept).keyed k (can_drop t k legal).paging

-- the key has an entry
pub drop_there : (t : JoinedParts) (kept : PartsKept t) (k : Key) → IsLegal (move.Drop k) (life_in t) → is_there (key_entry t.words k) ≡ true
drop_there t kept k legal = by (key_entry t.words k) refl
  where
    by : (e : Entry) → key_entry t.words k ≡ e → is_there (key_entry t.words k) ≡ true
    by entry.Empty w = absurd (not_dead t kept k legal (standing t kept k legal entry.Empty w))
    by _ w = ap is_there w

-- ---- keys come to be: add

dead_held : (own : Frame → Bool) (e : Entry) → is_dead (held_by own e) ≡ true → (e ≡ entry.Empty) ⊎ (((f : Frame) × ((n : ℕ) × ((e ≡ entry.Valid f n) × (own f ≡ false)))) ⊎ ((a : Area) × ((i : ℕ) × (e ≡ entry.Proto a i))))
dead_held own entry.Empty h = inl refl
dead_held own (entry.Valid f n) h = inr (inl (f, (n, (refl, elim (own f) as (λ b. is_dead (if b then held.Frame f else held.Dead) ≡ true → b ≡ false) [ true ↦ λ e. cc | false ↦ λ e. refl ] h))))
dead_held own (entry.Proto a i) h = inr (inr (a, (i, refl)))
dead_held own _ h = cc

-- a key whose place names nothing has no entry while it is dead
clear_word : (t : JoinedParts) → PartsKept t → (k : Key) → is_dead ((life_in t).stands k) ≡ true → ((p : Pid) (v : Vpn) → k ≡ Private p v → names_of (owners t.table) t.words (place_from p v) ≡ None) → key_entry t.words k ≡ entry.Empty
clear_word t kept (Shared a i) dead clear = elim (dead_held (owned_by (owners t.table) (Shared a i)) (t.words.proto a.0 i) dead) [
  | inl e ↦ e
  | inr x ↦ elim x [
    | inl y ↦ let bad : true ≡ false = y.1.1.1 in cc
    | inr y ↦ absurd (kept.words.no_proto a.0 i y.0 y.1.0 y.1.1)
  ]
]
clear_word t kept (Private p v) dead clear = elim (beside_or_not t.words.aside (place_from p v)) [
  | inl off ↦
      let is = in_table t.words.aside (place_from p v) (t.words.at (place_from p v)) off in
      is ∙ at_table (sym (ap (λ e. is_dead (held_by (owned_by (owners t.table) (Private p v)) e)) is) ∙ dead)
  | inr x ↦ absurd (lives x.aside.entry (kept.words.beside x.aside x.is) (sym (ap (λ e. is_dead (held_by (owned_by (owners t.table) (Private p v)) e)) (x.says (t.words.at (place_from p v)))) ∙ dead))
]
  where
    none : names_of (owners t.table) t.words (place_from p v) ≡ None
    none = clear p v refl

    valid_none : (f : Frame) (n : ℕ) → t.words.at (place_from p v) ≡ entry.Valid f n → ⊥
    valid_none f n e =
        let facts = known t kept in
        let some = facts.shares (place_from p v) f (ap valid_frame e) in
        let owned = (facts.standing f.0).fit.shown (lt-ltb 0 (record_at t.table f.0).shares (omega (arith, some))) in
        let owner : (record_at t.table f.0).owner ≡ None = sym (ap (named_by (owners t.table) (place_from p v)) e) ∙ none in
        let bad : false ≡ true = sym (ap is_some owner) ∙ owned in cc

    at_table : is_dead (held_by (owned_by (owners t.table) (Private p v)) (t.words.at (place_from p v))) ≡ true → t.words.at (place_from p v) ≡ entry.Empty
    at_table d = elim (dead_held (owned_by (owners t.table) (Private p v)) (t.words.at (place_from p v)) d) [
      | inl e ↦ e
      | inr x ↦ elim x [
        | inl y ↦ absurd (valid_none y.0 y.1.0 y.1.1.0)
        | inr y ↦ let bad : Some (Shared y.0 y.1.0) ≡ None = sym (ap (named_by (owners t.table) (place_from p v)) y.1.1) ∙ none in cc
      ]
    ]

    lives : (e : Entry) → is_aside_entry e ≡ true → is_dead (held_by (owned_by (owners t.table) (Private p v)) e) ≡ true → ⊥
    lives (entry.Paged s) x y = cc
    lives _ x y = cc

-- ---- a page-file key comes to be, at a place that names none or in a control area

record CanAdd (t : JoinedParts) (k : Key) : Type 0 where
  dead : is_dead ((life_in t).stands k) ≡ true
  room : t.line.paging_keys < limit_of t.line.machine
  where_it_may : (is_call t.line.kind || may_copy (life_in t) k) ≡ true

can_add : (t : JoinedParts) (k : Key) → IsLegal (move.Add k None) (life_in t) → CanAdd t k
can_add t k legal =
    let l = life_in t in
    let a = and_parts (not (is_live l k) && nat_lt t.line.paging_keys (limit_of t.line.machine)) (is_call t.line.kind || may_copy l k) legal in
    let b = and_parts (not (is_live l k)) (nat_lt t.line.paging_keys (limit_of t.line.machine)) a.0 in
    record { dead = dead_is (l.stands k) b.0; room = ltb-true t.line.paging_keys (limit_of t.line.machine) b.1; where_it_may = a.1 }

-- the key stands nowhere else: the place, if it is a private one, names none
abbrev pub NamesNone : JoinedParts → Key → Type 0
NamesNone t k = (p : Pid) (v : Vpn) → k ≡ Private p v → names_of (owners t.table) t.words (place_from p v) ≡ None

aside_none : (t : JoinedParts) (k : Key) → NamesNone t k → aside_after_add (shown_of t).names (shown_of t).aside k ≡ (shown_of t).aside
aside_none t (Private p v) none = ap (λ n. aside_added n (shown_of t).aside (place_from p v)) (none p v refl)
aside_none t (Shared a i) none = refl

pub add_zero_step : (t : JoinedParts) → PartsKept t → (k : Key) → IsLegal (move.Add k None) (life_in t) → NamesNone t k
    → Step (record t { line = record t.line { paging_keys = t.line.paging_keys + 1 }; words = with_entry t.words k entry.Zero }) (record (parts_after (shown_of t) (move.Add k None)) { aside = aside_after_add (shown_of t).names (shown_of t).aside k })
add_zero_step t kept k legal none =
    let can = can_add t k legal in
    let word = clear_word t kept k can.dead none in
    let re = word_only t kept k entry.Zero (rests k entry.Zero refl refl refl) (λ h. refl) (λ g e. cc) (ap is_valid_entry word) in
    let n' : LineOf = record t.line { paging_keys = t.line.paging_keys + 1 } in
    let step = key_step t kept t.table (beyond t.table) blank k entry.Zero re (move.Add k None) legal n' t.bytes t.free t.flight t.own (names_of (owners t.table) t.words)
    (same_life n' t.table t.free (requests_in t) _ _ _ _ _ _ _ _ (λ b. slice_index_or t.line.added b false)
    (sets_set t.words k entry.Zero) (key_stands t kept t.table (beyond t.table) blank k entry.Zero re) (key_paging t kept t.table (beyond t.table) blank k entry.Zero re) (key_valid t kept t.table (beyond t.table) blank k entry.Zero re))
    (names_none (owners t.table) t.words k entry.Zero (λ p v e. (none p v e, refl)))
    (record { machine = kept.line.machine; begun = kept.line.begun; blocks = kept.line.blocks })
    refl refl kept.within.requesting refl kept.waits in
    record { kept = step.kept; shown = step.shown ∙ ap (λ a. record (parts_after (shown_of t) (move.Add k None)) { aside = a }) (sym (aside_none t k none)) }

-- ---- a page of a file comes to be

added_set : (added : List Bool) (b : ℕ) → b < length added → (x : ℕ) → slice_index_or (slice_set added b true) x false ≡ changed ◌==◌ (λ y. slice_index_or added y false) b true x
added_set added b low x = elim (same_or_not x b) as (λ _. slice_index_or (slice_set added b true) x false ≡ cond (x == b) true (slice_index_or added x false)) [
  | inl s ↦ ap (λ y. slice_index_or (slice_set added b true) y false) s ∙ get_or-set_same added b true false low ∙ sym (ap (λ c. cond c true (slice_index_or added x false)) (eq-eqb x b s))
  | inr m ↦ get_or-set_other added b x true false m ∙ sym (ap (λ c. cond c true (slice_index_or added x false)) (differ x b m))
]

pub add_block_step : (t : JoinedParts) → PartsKept t → (k : Key) (b : Block) → IsLegal (move.Add k (Some b)) (life_in t)
    → Step (record t { line = record t.line { added = slice_set t.line.added b.0 true }; words = with_entry t.words k (entry.InFile b) }) (parts_after (shown_of t) (move.Add k (Some b)))
add_block_step t kept (Private p v) b legal =
    let l = life_in t in
    let a = and_parts (is_call t.line.kind && is_shared (Private p v) && not (is_live l (Private p v)) && nat_lt b.0 t.line.machine.blocks) (not (l.added b.0)) legal in
    let bad : false ≡ true = (and_parts (is_call t.line.kind) (is_shared (Private p v)) (and_parts (is_call t.line.kind && is_shared (Private p v)) (not (is_live l (Private p v))) (and_parts (is_call t.line.kind && is_shared (Private p v) && not (is_live l (Private p v))) (nat_lt b.0 t.line.machine.blocks) a.0).0).0).1 in cc
add_block_step t kept (Shared a' i') b legal =
    let l = life_in t in
    let a = and_parts (is_call t.line.kind && is_shared (Shared a' i') && not (is_live l (Shared a' i')) && nat_lt b.0 t.line.machine.blocks) (not (l.added b.0)) legal in
    let c = and_parts (is_call t.line.kind && is_shared (Shared a' i') && not (is_live l (Shared a' i'))) (nat_lt b.0 t.line.machine.blocks) a.0 in
    let e = and_parts (is_call t.line.kind && is_shared (Shared a' i')) (not (is_live l (Shared a' i'))) c.0 in
    let dead = dead_is (l.stands (Shared a' i')) e.1 in
    let inside = ltb-true b.0 t.line.machine.blocks c.1 in
    let size = kept.line.blocks in
    let word = clear_word t kept (Shared a' i') dead (λ p v x. cc) in
    let re = word_only t kept (Shared a' i') (entry.InFile b) refl (λ x. cc) (λ g x. cc) (ap is_valid_entry word) in
    let n' : LineOf = record t.line { added = slice_set t.line.added b.0 true } in
    let now : (x : ℕ) → slice_index_or (slice_set t.line.added b.0 true) x false ≡ changed ◌==◌ l.added b.0 true x = added_set t.line.added b.0 (omega (arith, inside, size)) in
    key_step t kept t.table (beyond t.table) blank (Shared a' i') (entry.InFile b) re (move.Add (Shared a' i') (Some b)) legal n' t.bytes t.free t.flight t.own (names_of (owners t.table) t.words)
    ((λ i. record (life_of t.line t.table t.free (with_entry t.words (Shared a' i') (entry.InFile b)) (requests_in t)) { added = λ x. now x i })
    ∙ ap (λ (z : FrameLife). record z { added = changed ◌==◌ l.added b.0 true })
    (key_life t kept t.table (beyond t.table) blank (Shared a' i') (entry.InFile b) re t.free (requests_in t) (sym (dead_unpaged t.table (l.stands (Shared a' i')) dead))))
    (names_none (owners t.table) t.words (Shared a' i') (entry.InFile b) (λ p v x. cc))
    (record { machine = kept.line.machine; begun = kept.line.begun; blocks = length-set t.line.added b.0 true ∙ kept.line.blocks })
    refl refl kept.within.requesting refl kept.waits
  where
    dead_unpaged : (d : FrameTable) (h : Held) → is_dead h ≡ true → is_of_paging_file d h ≡ false
    dead_unpaged d held.Dead x = refl
    dead_unpaged d _ x = cc

-- ---- the key of a copy comes to be, beside the tables

other_shown : (test : Frame → Bool) (e : Entry) → unwrap_or (option_map test (valid_frame e)) false ≡ true → names_other e ≡ true
other_shown test (entry.Valid f n) h = refl
other_shown test _ h = cc

module _ (t : JoinedParts) (p : Pid) (v : Vpn) (legal : IsLegal (move.Add (Private p v) None) (life_in t)) (touch : is_touch t.line.kind ≡ true) where
  touch_no_call : (k : LineKind) → is_touch k ≡ true → is_call k ≡ false
  touch_no_call kind.Call h = cc
  touch_no_call _ h = refl

  -- the place names the page that is copied
  shows : unwrap_or (option_map (λ f. owner_is is_shared (record_at t.table f.0)) (valid_of t.words (place_from p v))) false ≡ true
  shows =
      let may = sym (ap (λ b. b || may_copy (life_in t) (Private p v)) (touch_no_call t.line.kind touch)) ∙ (can_add t (Private p v) legal).where_it_may in
      (and_parts (touches p.0 t.line.kind) (shows_shared (life_in t) (place_from p v)) may).1

  pub shown_copied : (j : Key) × (names_of (owners t.table) t.words (place_from p v) ≡ Some j)
  shown_copied = at (t.words.at (place_from p v)) refl
    where
      at : (e : Entry) → t.words.at (place_from p v) ≡ e → (j : Key) × (names_of (owners t.table) t.words (place_from p v) ≡ Some j)
      at (entry.Valid f n) e =
          let owns = owner_passes is_shared (record_at t.table f.0) (sym (ap (λ x. unwrap_or (option_map (λ g. owner_is is_shared (record_at t.table g.0)) (valid_frame x)) false) e) ∙ shows) in
          (owns.key, ap (named_by (owners t.table) (place_from p v)) e ∙ owns.is)
      at _ e = let bad : false ≡ true = sym (ap (λ x. unwrap_or (option_map (λ g. owner_is is_shared (record_at t.table g.0)) (valid_frame x)) false) e) ∙ shows in cc

module _ (t : JoinedParts) (kept : PartsKept t) (p : Pid) (v : Vpn) (legal : IsLegal (move.Add (Private p v) None) (life_in t)) (touch : is_touch t.line.kind ≡ true)
    (free : t.words.aside ≡ None) (bound : t.words.bound (place_from p v) ≡ true) where
  word_aside : (q : Key) → key_entry (with_aside t.words (place_from p v) entry.Zero) q ≡ changed same_key (key_entry t.words) (Private p v) entry.Zero q
  word_aside (Private r u) = ap (λ x. if same_place (place_from r u) (place_from p v) then entry.Zero else x) (sym (ap (λ a. aside_or a (place_from r u) (t.words.at (place_from r u))) free))
  word_aside (Shared a i) = refl

  aside_stands : (q : Key) → stands_of (owners t.table) (with_aside t.words (place_from p v) entry.Zero) q ≡ changed same_key (stands_of (owners t.table) t.words) (Private p v) held.Zero q
  aside_stands q = ap (held_by (owned_by (owners t.table) q)) (word_aside q) ∙ at_if (held_by (owned_by (owners t.table) q)) (same_key q (Private p v)) entry.Zero (key_entry t.words q)

  aside_words : WordsKept t.table (with_aside t.words (place_from p v) entry.Zero)
  aside_words = record {
    transition = λ q f h. elim (if_either (same_key q (Private p v)) entry.Zero (key_entry t.words q) (entry.Transition f) (sym (word_aside q) ∙ h)) [ inl e ↦ cc | inr e ↦ kept.words.transition q f e ];
    valid_shared = kept.words.valid_shared;
    no_file = kept.words.no_file;
    no_proto = kept.words.no_proto;
    beside = λ x h. let e : record { place = place_from p v; entry = entry.Zero } ≡ x = cc in ap (λ (y : Aside). is_aside_entry y.entry) (sym e);
    beside_bound = λ x h. let e : record { place = place_from p v; entry = entry.Zero } ≡ x = cc in ap (λ (y : Aside). t.words.bound y.place) (sym e) ∙ bound;
    beside_other = λ x h. let e : record { place = place_from p v; entry = entry.Zero } ≡ x = cc in ap (λ (y : Aside). names_other (t.words.at y.place)) (sym e) ∙ other_shown (λ f. owner_is is_shared (record_at t.table f.0)) (t.words.at (place_from p v)) (shows t p v legal touch);
  }

  aside_life : life_of (record t.line { paging_keys = t.line.paging_keys + 1 }) t.table t.free (with_aside t.words (place_from p v) entry.Zero) (requests_in t) ≡ after_move (life_in t) (move.Add (Private p v) None)
  aside_life = same_life (record t.line { paging_keys = t.line.paging_keys + 1 }) t.table t.free (requests_in t) _ _ _ _ _ _ _ _ (λ b. slice_index_or t.line.added b false) refl aside_stands
      (λ q. ap (is_of_paging_file t.table) (aside_stands q) ∙ at_if (is_of_paging_file t.table) (same_key q (Private p v)) held.Zero (stands_of (owners t.table) t.words q)) (λ x. refl)

  pub add_aside_step : Step (record t { line = record t.line { paging_keys = t.line.paging_keys + 1 }; words = with_aside t.words (place_from p v) entry.Zero })
      (record (parts_after (shown_of t) (move.Add (Private p v) None)) { aside = aside_after_add (shown_of t).names (shown_of t).aside (Private p v) })
  add_aside_step = record {
    kept = assumption (reached_by (life_in t) _ (move.Add (Private p v) None) legal aside_life kept.reached, aside_words, touch);
    shown = λ i. record (shown_of t) { life = aside_life i; aside = (sym (ap (λ n. aside_added n (shown_of t).aside (place_from p v)) (shown_copied t p v legal touch).1)) i };
  }

-- ---- what the move's condition says to the calls that add is made of

pub keys_room : (t : JoinedParts) → PartsKept t → (k : Key) → IsLegal (move.Add k None) (life_in t) → t.line.paging_keys + 1 < 2 ^ 32
keys_room t kept k legal =
    let room = (can_add t k legal).room in
    let most = kept.line.machine.most_frames in
    let more = kept.line.machine.most_slots in
    omega (arith, room, most, more)

-- the key of a copy is the private one of its place, in a line that touches memory
copied : (t : JoinedParts) (k : Key) (place : Place) → copy_place k t.line.kind ≡ Some place → (Q : Key → Place → Type 0) → ((p : Pid) (v : Vpn) → is_touch t.line.kind ≡ true → Q (Private p v) (place_from p v)) → Q k place
copied t (Private p v) place e Q h = elim (is_touch t.line.kind) as (λ b. is_touch t.line.kind ≡ b → (if b then Some (place_from p v) else None) ≡ Some place → Q (Private p v) place) [
  | true ↦ λ g x. let same : place_from p v ≡ place = cc in subst (Q (Private p v)) same (h p v g)
  | false ↦ λ g x. cc
] refl e
copied t (Shared a i) place e Q h = cc

copy_alone : (t : JoinedParts) → PartsKept t → (p : Pid) (v : Vpn) → IsLegal (move.Add (Private p v) None) (life_in t) → is_touch t.line.kind ≡ true → IsClear (shown_of t).life.kind (shown_of t).names (shown_of t).aside (Private p v) → t.words.aside ≡ None
copy_alone t kept p v legal touch (inl none) =
    let there = shown_copied t p v legal touch in
    let bad : Some there.0 ≡ None = sym there.1 ∙ none in cc
copy_alone t kept p v legal touch (inr x) = no_place t.words.aside x.1

pub copy_none_aside : (t : JoinedParts) → PartsKept t → (k : Key) (place : Place) → copy_place k t.line.kind ≡ Some place → IsLegal (move.Add k None) (life_in t) → IsClear (shown_of t).life.kind (shown_of t).names (shown_of t).aside k → t.words.aside ≡ None
copy_none_aside t kept k place e = copied t k place e (λ q x. IsLegal (move.Add q None) (life_in t) → IsClear (shown_of t).life.kind (shown_of t).names (shown_of t).aside q → t.words.aside ≡ None) (λ p v touch legal clear. copy_alone t kept p v legal touch clear)

pub copy_step : (t : JoinedParts) → PartsKept t → (k : Key) (place : Place) → copy_place k t.line.kind ≡ Some place → IsLegal (move.Add k None) (life_in t) → HasEntry (shown_of t).bound (shown_of t).areas k → IsClear (shown_of t).life.kind (shown_of t).names (shown_of t).aside k
    → Step (record t { line = record t.line { paging_keys = t.line.paging_keys + 1 }; words = with_aside t.words place entry.Zero }) (record (parts_after (shown_of t) (move.Add k None)) { aside = aside_after_add (shown_of t).names (shown_of t).aside k })
copy_step t kept k place e = copied t k place e
    (λ q x. IsLegal (move.Add q None) (life_in t) → HasEntry (shown_of t).bound (shown_of t).areas q → IsClear (shown_of t).life.kind (shown_of t).names (shown_of t).aside q
    → Step (record t { line = record t.line { paging_keys = t.line.paging_keys + 1 }; words = with_aside t.words x entry.Zero }) (record (parts_after (shown_of t) (move.Add q None)) { aside = aside_after_add (shown_of t).names (shown_of t).aside q }))
    (λ p v touch legal home clear. add_aside_step t kept p v legal touch (copy_alone t kept p v legal touch clear) home)

pub copy_bound : (t : JoinedParts) (k : Key) (place : Place) → copy_place k t.line.kind ≡ Some place → HasEntry (shown_of t).bound (shown_of t).areas k → t.words.bound place ≡ true
copy_bound t k place e = copied t k place e (λ q x. HasEntry (shown_of t).bound (shown_of t).areas q → t.words.bound x ≡ true) (λ p v touch home. home)

-- a key that does not stand beside the tables comes to be where no page is named
pub set_names : (t : JoinedParts) (k : Key) → copy_place k t.line.kind ≡ None → IsClear (shown_of t).life.kind (shown_of t).names (shown_of t).aside k → NamesNone t k
set_names t (Private p v) e (inl none) = λ q u same. let p_is : p ≡ q = cc in let v_is : v ≡ u = cc in (λ i. names_of (owners t.table) t.words (place_from (sym p_is i) (sym v_is i))) ∙ none
set_names t (Private p v) e (inr x) = let bad : Some (place_from p v) ≡ None = sym (ap (λ b. if b then Some (place_from p v) else None) x.0) ∙ e in cc
set_names t (Shared a i) e clear = λ q u same. cc

pub set_places : (t : JoinedParts) → PartsKept t → (k : Key) → copy_place k t.line.kind ≡ None → IsLegal (move.Add k None) (life_in t) → IsClear (shown_of t).life.kind (shown_of t).names (shown_of t).aside k → keeps_places t.words k entry.Zero ≡ true
set_places t kept k e legal clear = places_kept t.words k entry.Zero refl (ap is_valid_entry (clear_word t kept k (can_add t k legal).dead (set_names t k e clear)))
