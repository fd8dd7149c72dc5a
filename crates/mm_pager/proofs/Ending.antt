-- How an access ends, and what it leaves.
use Rattle.std.proofs.Common.{◌≡◌, ℕ, ◌≤◌, Bool, true, false, List, [], ◌∷◌, Option, Some, None, refl, sym, ap, ◌∙◌, arith, inl, inr, ◌⊎◌, subst, zero, suc, ◌+◌, cond, append_assoc}
use Rattle.std.specs.Prelude.{not, is_some, length, ◌&&◌, ◌||◌, nat_lt, ◌==◌, option_map, unwrap_or, if◌then◌else◌, Ok, IsSome, Result, Err, count_by, take, drop, slice_set, slice_index_or}
use Rattle.mm_types.specs.{Held, Frame, Key, Place, PageFault, Move, Backing, Record}
use Rattle.mm_types.specs.declared.frames.Held.TheVariants as held
use Rattle.mm_move_rules.specs.{record_at, is_read, is_empty, FrameLife, changed, same_place, Walk, Through, is_thread, blank, has_request, soiled}
use Rattle.mm_move_rules.specs.{without_slot, same_key, counts_of, is_active, is_in_transition, after_move, zero_page, Waiting}
use Rattle.mm_world.specs.{same_key as same_in_world, has_frame, still_needs_frame, read_failed, search_failed, is_short as report_is_short}
use Rattle.mm_world.specs.{BeingRead, InFrame, filled, written}
use Rattle.mm_world.specs.Report.{Report}
use Rattle.mm_store.specs.{Touches, touch, IsReady, IsBegun, is_framed, where_of, framed_where, Passes, Aim, AccessMove, IsSoiledFor, Served, fetched, StoreOf, is_read_fault, key_written}
use Rattle.mm_store.specs.{eased, block_at, backed_by, in_backing}
use Rattle.mm_store.specs.Reports.{Ends}
use Rattle.mm_state_calls.specs.{StateOf, StateHolds, walk_of, moved, moved_with_call}
use Rattle.mm_pager.specs.{OwnOf, report_of, store_of, behind_of, Anywhere, Piece, IsFresh, HasTried, Went, AccessBegins, FailsToBring, IsCalledOn}
use Rattle.mm_pager.specs.{Soils, Was, Is, StoreKept, LifeKept}
use Rattle.mm_pager.proofs.Shows.{none_passes, calm_through, kept_by, none_ready, passes_of, passes_beside, changed_keys}
use Rattle.mm_types.specs.declared.moves.Move.TheVariants as move
use Rattle.mm_move_laws.proofs.{same_place-self}
use Rattle.mm_store.specs.Told.{Told}
use Rattle.mm_pager.proofs.AccessMoves.{made_by, piece_anywhere, went_nothing, went_one, aim_at, called_on, piece_life, called_store, InLine, served_by, look_set}
use Rattle.std.proofs.lemmas.List.Sums.{sum_by-append}
use Rattle.mm_types.specs.declared.frames.Backing.TheVariants as backing
use Rattle.mm_ram.specs.{overwritten}
use Rattle.mm_pager.proofs.Taking.{soiled_for, young_still}
use Rattle.mm_frame_laws.specs.{IsSoiled}
use Rattle.mm_state_calls.proofs.{does_one}
use Rattle.mm_move_rules.proofs.{soiled_part, soiled_shares, soiled_request}

-- ---- how an access ends, by the report, and what it did

pub framed_has : (l : FrameLife) (h : Held) → is_framed h ≡ true → has_frame (where_of l h) ≡ true
framed_has l (held.Frame f) e = at (is_read (record_at l.frames f.0).request) refl
  where
    at : (b : Bool) → is_read (record_at l.frames f.0).request ≡ b → has_frame (Some (framed_where (record_at l.frames f.0))) ≡ true
    at true q = ap (λ (c : Bool). has_frame (Some (if c then BeingRead else InFrame))) q
    at false q = ap (λ (c : Bool). has_frame (Some (if c then BeingRead else InFrame))) q
framed_has l h e = cc

pub unframed_has : (l : FrameLife) (h : Held) → is_framed h ≡ false → has_frame (where_of l h) ≡ false
unframed_has l (held.Frame f) e = cc
unframed_has l h e = refl

pub nothing_read : (k : Key) (r : Report) → r.last_failed_read ≡ None → read_failed (touch k) r ≡ false
nothing_read k r e = ap (λ (o : Option Key). unwrap_or (option_map (same_in_world k) o) false) e

pub fails_not : (a b still short : Bool) → still ≡ false → (a && b && still && short) ≡ false
fails_not a b still short e = grind (arith, e)

-- of an access that was had
pub had_ends : (k : Key) (z : StateOf) (o : OwnOf) → z.told.last_failed_read ≡ None → is_framed (z.life.stands k) ≡ true → Ends {T = Unit {0}} (touch k) (report_of z o) (Ok tt)
had_ends k z o e f =
    let still : still_needs_frame (touch k) (report_of z o) ≡ false = ap (λ (b : Bool). not b || false) (framed_has z.life (z.life.stands k) f) in
    record {
      ok = ap (λ (b : Bool). b || search_failed (touch k) (report_of z o)) (nothing_read k (report_of z o) e) ∙ fails_not (nat_lt 0 z.told.search_writes.failed) (z.told.search_writes.succeeded == 0) (still_needs_frame (touch k) (report_of z o)) (report_is_short (report_of z o)) still;
      had = still;
      read = λ h. cc;
      no_frame = λ h. cc;
    }

pub short_counts : (a b c : Bool) (x y z : List ℕ) → (is_empty x && is_empty y && is_empty z) ≡ true → ((length x == 0) && (length y == 0) && (length z == 0)) ≡ true
short_counts a b c [] [] [] h = refl
short_counts a b c [] [] (z ∷ zs) h = cc
short_counts a b c [] (y ∷ ys) z h = cc
short_counts a b c (x ∷ xs) y z h = cc

pub search_failed_by : (f s : ℕ) (still short : Bool) → 1 ≤ f → s ≡ 0 → still ≡ true → short ≡ true → (nat_lt 0 f && (s == 0) && still && short) ≡ true
search_failed_by f s still short a b c d = grind (arith, a, b, c, d)

-- ---- an access of a page that is valid

-- a write leaves the page soiled
abbrev pub IsSoiledAt : Bool → Key → Place → FrameLife → Type 0
IsSoiledAt w k place l = w ≡ true → (f : Frame) → l.valid place ≡ Some f → IsSoiledFor k (record_at l.frames f.0)

pub valid_passes : (w : Bool) (k : Key) (place : Place) (s z : StateOf) (o : OwnOf) (c : Key → Option (List ℕ)) → is_some (s.life.valid place) ≡ true → IsSoiledAt w k place s.life → z ≡ record s { ages = changed same_place s.ages place 0; contents = c }
    → Passes (Touches {T = Unit {0}} (record { place = place; need = touch k; writes = w; start = s.life }) (IsReady (store_of s o) place (touch k)) (Ok tt)) (store_of s o) (store_of z o) (behind_of s) (behind_of z)
valid_passes w k place s z o c v soiled e = none_passes _ s z o o c (changed same_place s.ages place 0) s.waits e (record {
  ends = record { made = record { each = tt; one_read = omega arith; few_writes = omega arith }; read = refl; waits = refl; served = record { valid = v; soiled = soiled }; ages = refl };
  calm = λ r. tt;
})

-- ---- a page that is valid has a frame

pub named_by : (n : Option Key) (k : Key) → is_some n ≡ true → (n ≡ None) ⊎ (n ≡ Some k) → n ≡ Some k
named_by n k h (inl e) = let bad : false ≡ true = sym (ap is_some e) ∙ h in cc
named_by n k h (inr e) = e

pub framed_at : (k : Key) (place : Place) (s : StateOf) → StateHolds s → (o : Option Frame) → s.life.valid place ≡ o → is_some o ≡ true → (s.names place ≡ None) ⊎ (s.names place ≡ Some k) → is_framed (s.life.stands k) ≡ true
framed_at k place s h None e v n = cc
framed_at k place s h (Some f) e v n = ap is_framed (h.of_frame k f (h.named place f e ∙ named_by (s.names place) k (h.owned place f e) n))

pub valid_ends : (k : Key) (place : Place) (s z : StateOf) (o : OwnOf) → StateHolds s → is_some (s.life.valid place) ≡ true → (s.names place ≡ None) ⊎ (s.names place ≡ Some k)
    → z ≡ record s { ages = changed same_place s.ages place 0 } → IsBegun (report_of s o) → Ends {T = Unit {0}} (touch k) (report_of z o) (Ok tt)
valid_ends k place s z o h v n e b = had_ends k z o (ap (λ (x : StateOf). x.told.last_failed_read) e ∙ b.no_failed_read)
    (ap (λ (x : StateOf). is_framed (x.life.stands k)) e ∙ framed_at k place s h (s.life.valid place) refl v n)

-- ---- what an access that faulted leaves, out of what its fault did

pub in_line : (a : Aim) (ms : List Move) (w : Walk) → Through (AccessMove a) w ms → InLine ms
in_line a [] w h = tt
in_line a (move.At n k ∷ ms) w h = h.0
in_line a (m ∷ ms) w h = in_line a ms _ h.1

-- moves of an access of a page that makes no copy, which change what calls of devices change, and names
pub record Moves (failed w : Bool) (k : Key) (place : Place) (s y : StateOf) : Type 0 where
  pub piece : Piece (aim_at w k place s) Anywhere failed 1 0 0 [] s y
  pub same : IsCalledOn s y

pub of_went : (w : Bool) (k : Key) (place : Place) (s y : StateOf) → s.life.valid place ≡ None → ((a : Aim) → a.place ≡ place → a.writes ≡ w → AccessBegins a k s → Went a 1 s y) → IsCalledOn s y → Moves false w k place s y
of_went w k place s y e h same = record { piece = piece_anywhere (aim_at w k place s) IsFresh 1 s y (h (aim_at w k place s) refl refl (record { needs = refl; from = refl; at = e; uncopied = λ j q. cc })); same = same }

-- the same of a page that is written, and is no copy
pub of_wrote : (k : Key) (place : Place) (s y : StateOf) → s.life.valid place ≡ None → ((a : Aim) → a.place ≡ place → a.writes ≡ true → a.need.copy ≡ None → AccessBegins a k s → Went a 1 s y) → IsCalledOn s y → Moves false true k place s y
of_wrote k place s y e h same = record { piece = piece_anywhere (aim_at true k place s) IsFresh 1 s y (h (aim_at true k place s) refl refl refl (record { needs = refl; from = refl; at = e; uncopied = λ j q. cc })); same = same }

pub of_stuck : (w : Bool) (why : PageFault) (k : Key) (place : Place) (s y : StateOf) → s.life.valid place ≡ None → FailsToBring k why s y → Moves (is_read_fault why) w k place s y
of_stuck w why k place s y e h = record { piece = piece_anywhere (aim_at w k place s) (HasTried (aim_at w k place s) why y) 1 s y (h.stuck (aim_at w k place s) (record { needs = refl; from = refl; at = e; uncopied = λ j q. cc })); same = called_on s y h.fails.same }

pub piece_served : {b : Bool} (a : Aim) (E : Walk → Type 0) (n : ℕ) (s y : StateOf) (o u : OwnOf) → Piece a E b n 0 0 [] s y → Served (store_of s o) (store_of y u)
piece_served a E n s y o u x = served_by x.moves s y o u (in_line a x.moves (walk_of s) x.each) x.does

module _ {failed : Bool} (w : Bool) (k : Key) (place : Place) (s y : StateOf) (o u : OwnOf) (m : Moves failed w k place s y) where
  pub served_in : Served (store_of s o) (store_of y u)
  served_in = piece_served (aim_at w k place s) Anywhere 1 s y o u m.piece

  pub kept_in : LifeKept s.life y.life
  kept_in = piece_life (aim_at w k place s) Anywhere 1 0 0 s y refl m.piece

  store_in : StateHolds s → StateHolds y → u.extended ≡ o.extended → u.blocks_used ≡ o.blocks_used → store_of y u ≡ record (fetched (store_of s o) (store_of y u)) { names = y.names }
  store_in h g x b = called_store m.piece.moves s y o u m.piece.does.replays kept_in m.same h g x b

  -- the access failed
  pub err_store : StateHolds s → StateHolds y → y.names ≡ s.names → u.extended ≡ o.extended → u.blocks_used ≡ o.blocks_used → store_of y u ≡ fetched (store_of s o) (store_of y u)
  err_store h g n x b = store_in h g x b ∙ ap (λ (q : Place → Option Key). record (fetched (store_of s o) (store_of y u)) { names = q }) n

  -- it was had: its page was read or written then
  pub ok_store : (z : StateOf) (c : Key → Option (List ℕ)) → StateHolds s → StateHolds y → y.names ≡ changed same_place s.names place (Some k) → z ≡ record y { ages = changed same_place y.ages place 0; contents = c } → u.extended ≡ o.extended → u.blocks_used ≡ o.blocks_used
      → store_of z u ≡ record (fetched (store_of s o) (store_of z u)) { names = changed same_place s.names place (Some k) }
  ok_store z c h g n r x b =
      subst (λ (t : StoreOf). t ≡ record (fetched (store_of s o) t) { names = changed same_place s.names place (Some k) }) (sym (ap (λ (t : StateOf). store_of t u) r))
      (store_in h g x b ∙ ap (λ (q : Place → Option Key). record (fetched (store_of s o) (store_of y u)) { names = q }) n)

  pub ok_served : (z : StateOf) (c : Key → Option (List ℕ)) → z ≡ record y { ages = changed same_place y.ages place 0; contents = c } → Served (store_of s o) (store_of z u)
  ok_served z c r = subst (λ (t : StoreOf). Served (store_of s o) t) (sym (ap (λ (t : StateOf). store_of t u) r)) served_in

  -- nothing is ready then
  pub faulted_kept : (z : StateOf) → StoreKept s o → z.life ≡ y.life → z.own ≡ y.own → z.aside ≡ y.aside → z.told ≡ y.told → u.ready ≡ None → u.blocks_used ≡ o.blocks_used → StoreKept z u
  faulted_kept z h l a b t r q = kept_by s z o u (none_ready u r) h (a ∙ ap (λ (x : StateOf). x.own) m.same) (b ∙ ap (λ (x : StateOf). x.aside) m.same) (ap (λ (f : FrameLife). f.added) l ∙ kept_in.added) q
      (λ th. ap (λ (x : Told). x.search_writes) t ∙ calm_through (aim_at w k place s) Anywhere 1 0 0 s y m.piece h.calm (sym (ap (λ (f : FrameLife). is_thread f.kind) l) ∙ th))

pub some_is : {A : Type 0} (o : Option A) → IsSome o → is_some o ≡ true
some_is (Some v) h = refl
some_is None h = cc

pub not_here : {A : Type 0} (o : Option A) → o ≡ None → is_some o ≡ true → ⊥
not_here o e h = let bad : false ≡ true = sym (ap is_some e) ∙ h in cc

-- ---- the moves that it made

abbrev IsOf : {T : Type 0} → Bool → Key → Place → StateOf → OwnOf → StateOf → OwnOf → Type 0 → Result T PageFault → Type 0
IsOf w k place s o z u IsNow r = Passes (Touches (aim_at w k place s) IsNow r) (store_of s o) (store_of z u) (behind_of s) (behind_of z)

pub went_passes : (w : Bool) (k : Key) (place : Place) (s y z : StateOf) (o u : OwnOf) (c : Key → Option (List ℕ)) (IsNow : Type 0) → s.life.valid place ≡ None → (IsNow → is_some (s.life.valid place) ≡ true)
    → Moves false w k place s y → is_some (y.life.valid place) ≡ true → IsSoiledAt w k place y.life → z ≡ record y { ages = changed same_place y.ages place 0; contents = c } → IsOf {T = Unit {0}} w k place s o z u IsNow (Ok tt)
went_passes w k place s y z o u c IsNow none now m v soiled e = passes_beside _ m.piece.moves s y z o u y.bound y.names c (changed same_place y.ages place 0) y.waits m.piece.does e (record {
  ends = record { made = made_by (aim_at w k place s) Anywhere 1 s y m.piece (omega arith); read = m.piece.fails; waits = m.piece.does.waits; served = record { valid = v; soiled = soiled }; ages = ap (λ (g : Place → ℕ). changed same_place g place 0) m.piece.does.ages };
  calm = λ r. absurd (not_here (s.life.valid place) none (now r));
})

pub stuck_passes : (w : Bool) (why : PageFault) (k : Key) (place : Place) (s z : StateOf) (o u : OwnOf) (IsNow : Type 0) → s.life.valid place ≡ None → (IsNow → is_some (s.life.valid place) ≡ true) → FailsToBring k why s z → IsOf {T = Unit {0}} w k place s o z u IsNow (Err why)
stuck_passes w why k place s z o u IsNow none now h =
    let p = h.stuck (aim_at w k place s) (record { needs = refl; from = refl; at = none; uncopied = λ j q. cc }) in
    passes_of _ p.moves s z o u p.does (record {
      ends = record { made = made_by (aim_at w k place s) (HasTried (aim_at w k place s) why z) 1 s z p (omega arith); read = p.fails; waits = p.does.waits; ages = p.does.ages; short = λ e. (p.ends e).0; starved = λ e. (p.ends e).1 };
      calm = λ r. absurd (not_here (s.life.valid place) none (now r));
    })

-- ---- a page that is valid is soiled, and written

pub went_soil : (a : Aim) (f : Frame) (s z : StateOf) → a.writes ≡ true → s.life.valid a.place ≡ Some f → (record_at s.life.frames f.0).owner ≡ Some (key_written a.need) → Soils f s z → Went a 0 s z
went_soil a f s z w v has (Was e) = subst (λ (x : StateOf). Went a 0 s x) (sym e) (went_nothing a 0 s)
went_soil a f s z w v has (Is m e) = went_one a (move.Soil f) s z m (w, v, has) refl refl (omega arith) (omega arith)

-- how an access that faulted and was had ends
pub faulted_ends : (k : Key) (s y z : StateOf) (o : OwnOf) (x : Option Bool) (a : Place → ℕ) (c : Key → Option (List ℕ)) → z ≡ record y { ages = a; contents = c } → y.told.last_failed_read ≡ s.told.last_failed_read → is_framed (y.life.stands k) ≡ true → IsBegun (report_of s o)
    → Ends {T = Unit {0}} (touch k) (report_of z (record { extended = x; ready = None; blocks_used = 0 })) (Ok tt)
faulted_ends k s y z o x a c r t f b = had_ends k z (record { extended = x; ready = None; blocks_used = 0 }) (ap (λ (q : StateOf). q.told.last_failed_read) r ∙ t ∙ b.no_failed_read) (ap (λ (q : StateOf). is_framed (q.life.stands k)) r ∙ f)

-- the place names its page then
pub named_then : (k : Key) (place : Place) (n m : Place → Option Key) → n ≡ changed same_place m place (Some k) → n place ≡ Some k
named_then k place n m e = ap (λ (f : Place → Option Key). f place) e ∙ ap (λ (b : Bool). if b then Some k else m place) (same_place-self place)

-- a page that was brought to be written is soiled
pub brought_soiled : (k : Key) (place : Place) (s y : StateOf) → StateHolds y → y.names ≡ changed same_place s.names place (Some k) → ((f : Frame) → y.life.valid place ≡ Some f → IsSoiled (record_at y.life.frames f.0)) → IsSoiledAt true k place y.life
brought_soiled k place s y h n soiled w f v = soiled_for k (record_at y.life.frames f.0) (h.named place f v ∙ named_then k place y.names s.names n) (soiled f v)

-- ---- A write to a page that is valid: it is soiled, where it is not yet

count_cons : (test : Record → Bool) (x : Record) (xs : List Record) → count_by test (x ∷ xs) ≡ (0 + cond (test x) 1 0) + count_by test xs
count_cons test x xs = sum_by-append (λ (r : Record). cond (test r) 1 0) (x ∷ []) xs

pub count_set : (test : Record → Bool) (xs : List Record) (f : ℕ) (r : Record) → test r ≡ test (slice_index_or xs f blank) → count_by test (slice_set xs f r) ≡ count_by test xs
count_set test [] f r e = refl
count_set test (x ∷ xs) zero r e = count_cons test r xs ∙ ap (λ (b : Bool). (0 + cond b 1 0) + count_by test xs) e ∙ sym (count_cons test x xs)
count_set test (x ∷ xs) (suc f) r e = count_cons test x (slice_set xs f r) ∙ ap (λ (n : ℕ). (0 + cond (test x) 1 0) + n) (count_set test xs f r e) ∙ sym (count_cons test x xs)

soiled_unread : (r : Record) → is_read r.request ≡ false → is_read (soiled r).request ≡ is_read r.request
soiled_unread r u = soiled_part (λ (q : Record). is_read q.request) r (sym u) refl

soiled_active : (r : Record) → is_active (soiled r) ≡ is_active r
soiled_active r = ap (λ (n : ℕ). nat_lt 0 n) (soiled_shares r)

soiled_transition : (r : Record) → is_in_transition (soiled r) ≡ is_in_transition r
soiled_transition r = ap (λ (n : ℕ). (n == 0) && has_request (soiled r).request) (soiled_shares r) ∙ ap (λ (b : Bool). (r.shares == 0) && b) (soiled_request r)

-- the life of the frames once a page is soiled
abbrev pub soiled_life : FrameLife → Frame → FrameLife
soiled_life l f = after_move l (move.Soil f)

soiled_where : (l : FrameLife) (f : Frame) → is_read (record_at l.frames f.0).request ≡ false → (h : Held) → where_of (soiled_life l f) h ≡ where_of l h
soiled_where l f u (held.Frame g) = ap (λ (b : Bool). Some (if b then BeingRead else InFrame)) (look_set (λ r. is_read r.request) l.frames.records f.0 g.0 (soiled (record_at l.frames f.0)) (soiled_unread (record_at l.frames f.0) u))
soiled_where l f u h = refl

-- how the report changes where a page is soiled: a slot may be free again
soiled_report : (s : StateOf) (o : OwnOf) (f : Frame) → is_read (record_at s.life.frames f.0).request ≡ false
    → report_of (record s { life = soiled_life s.life f }) o ≡ eased (report_of s o) (report_of (record s { life = soiled_life s.life f }) o)
soiled_report s o f u = λ i. record (report_of s o) {
  counts = record (counts_of s.life) {
    active = count_set is_active s.life.frames.records f.0 (soiled (record_at s.life.frames f.0)) (soiled_active (record_at s.life.frames f.0)) i;
    transition = count_set is_in_transition s.life.frames.records f.0 (soiled (record_at s.life.frames f.0)) (soiled_transition (record_at s.life.frames f.0)) i;
    free_slots = (counts_of (soiled_life s.life f)).free_slots;
  };
  whereabouts = λ k. soiled_where s.life f u (s.life.stands k) i;
}

without_block : (b : Backing) → block_at (in_backing (without_slot b)) ≡ block_at (in_backing b)
without_block backing.None = refl
without_block b = refl

soiled_backing : (r : Record) → block_at (in_backing (soiled r).backing) ≡ block_at (in_backing r.backing)
soiled_backing r = soiled_part (λ (q : Record). block_at (in_backing q.backing)) r refl (without_block r.backing)

soiled_block : (l : FrameLife) (f : Frame) (h : Held) → block_at (backed_by (soiled_life l f) h) ≡ block_at (backed_by l h)
soiled_block l f (held.Frame g) = look_set (λ r. block_at (in_backing r.backing)) l.frames.records f.0 g.0 (soiled (record_at l.frames f.0)) (soiled_backing (record_at l.frames f.0))
soiled_block l f h = refl

-- what the store shows then
abbrev pub Eases : StateOf → OwnOf → StateOf → Type 0
Eases s o z = store_of z o ≡ record (store_of s o) { report = eased (report_of s o) (report_of z o) }

soiled_eases : (s : StateOf) (o : OwnOf) (f : Frame) → is_read (record_at s.life.frames f.0).request ≡ false → Eases s o (record s { life = soiled_life s.life f })
soiled_eases s o f u = λ i. record (store_of s o) {
  block_of = λ k. soiled_block s.life f (s.life.stands k) i;
  report = soiled_report s o f u i;
}

-- a page was soiled, or was so, and nothing else changed
pub record Soiled (f : Frame) (s y : StateOf) : Type 0 where
  pub life : (y.life ≡ s.life) ⊎ (y.life ≡ soiled_life s.life f)
  pub same : y ≡ record s { life = y.life; log = y.log }

pub soiled_all : (f : Frame) (s y : StateOf) → Soils f s y → Soiled f s y
soiled_all f s y (Was e) = record {
  life = inl (ap (λ (x : StateOf). x.life) e);
  same = e ∙ ap (λ (x : StateOf). record s { life = x.life; log = x.log }) (sym e);
}
soiled_all f s y (Is m e) = record {
  life = inr m.life;
  same = e ∙ ap (λ (t : Told). record (moved s y) { told = t }) m.told
      ∙ ap (λ (a : Place → ℕ). record s { life = y.life; log = y.log; ages = a; waits = y.waits }) m.ages
      ∙ ap (λ (w : ℕ → Waiting). record s { life = y.life; log = y.log; waits = w }) m.waits;
}

-- what holds of a life in both cases holds of it
by_life : (P : FrameLife → Type 0) (f : Frame) (s y : StateOf) → Soiled f s y → P s.life → P (soiled_life s.life f) → P y.life
by_life P f s y h p q = elim h.life [
  | inl e ↦ subst P (sym e) p
  | inr e ↦ subst P (sym e) q
]

pub wrote_eases : (f : Frame) (s y z : StateOf) (o : OwnOf) (a : Place → ℕ) (c : Key → Option (List ℕ)) → Soils f s y → is_read (record_at s.life.frames f.0).request ≡ false → z ≡ record y { ages = a; contents = c } → Eases s o z
wrote_eases f s y z o a c h u e =
    let p = soiled_all f s y h in
    subst (λ (x : StateOf). Eases s o x) (sym e) (subst (λ (x : StateOf). Eases s o (record x { ages = a; contents = c })) (sym p.same)
    (by_life (λ (l : FrameLife). Eases s o (record s { life = l })) f s y p refl (soiled_eases s o f u)))

-- what holds of the frame of a place
pub at_place : (P : Frame → Type 0) (o : Option Frame) (f g : Frame) → o ≡ Some f → o ≡ Some g → P f → P g
at_place P o f g v w p =
    let both : Some f ≡ Some g = sym v ∙ w in
    let same : f ≡ g = cc in
    subst P same p

-- its frame has the page still
soils_owner : (k : Key) (f : Frame) (s y : StateOf) → (record_at s.life.frames f.0).owner ≡ Some k → Soils f s y → (record_at y.life.frames f.0).owner ≡ Some k
soils_owner k f s y has h = by_life (λ (l : FrameLife). (record_at l.frames f.0).owner ≡ Some k) f s y (soiled_all f s y h) has
    (look_set (λ (r : Record). r.owner) s.life.frames.records f.0 f.0 (soiled (record_at s.life.frames f.0)) (soiled_part (λ (q : Record). q.owner) (record_at s.life.frames f.0) refl refl) ∙ has)

pub wrote_passes : (k : Key) (f : Frame) (place : Place) (s y z : StateOf) (o : OwnOf) (c : Key → Option (List ℕ)) → s.life.valid place ≡ Some f → (record_at s.life.frames f.0).owner ≡ Some k → Soils f s y → IsSoiled (record_at y.life.frames f.0) → z ≡ record y { ages = changed same_place y.ages place 0; contents = c }
    → Passes (Touches {T = Unit {0}} (record { place = place; need = touch k; writes = true; start = s.life }) (IsReady (store_of s o) place (touch k)) (Ok tt)) (store_of s o) (store_of z o) (behind_of s) (behind_of z)
wrote_passes k f place s y z o c v has (Was e) soiled q =
    valid_passes true k place s z o c (ap is_some v) (λ w g u. at_place (λ (x : Frame). IsSoiledFor k (record_at s.life.frames x.0)) (s.life.valid place) f g v u (soiled_for k (record_at s.life.frames f.0) has (subst (λ (x : StateOf). IsSoiled (record_at x.life.frames f.0)) e soiled))) (q ∙ ap (λ (x : StateOf). record x { ages = changed same_place x.ages place 0; contents = c }) e)
wrote_passes k f place s y z o c v has (Is m e) soiled q =
    let there : y.life.valid place ≡ Some f = ap (λ (l : FrameLife). l.valid place) m.life ∙ v in
    let d = does_one (move.Soil f) s y m in
    passes_beside _ (move.Soil f ∷ []) s y z o o y.bound y.names c (changed same_place y.ages place 0) y.waits d q (record {
      ends = record {
        made = record { each = ((refl, v, has), tt); one_read = omega arith; few_writes = omega arith };
        read = refl;
        waits = d.waits;
        served = record {
          valid = ap is_some there;
          soiled = λ w g u. at_place (λ (x : Frame). IsSoiledFor k (record_at y.life.frames x.0)) (y.life.valid place) f g there u (soiled_for k (record_at y.life.frames f.0) (soils_owner k f s y has (Is m e)) soiled);
        };
        ages = ap (λ (g : Place → ℕ). changed same_place g place 0) d.ages;
      };
      calm = λ r. (f, refl, refl, v, has);
    })

soils_stands : (f : Frame) (s y : StateOf) → Soils f s y → y.life.stands ≡ s.life.stands
soils_stands f s y (Was e) = ap (λ (x : StateOf). x.life.stands) e
soils_stands f s y (Is m e) = ap (λ (l : FrameLife). l.stands) m.life

soils_told : (f : Frame) (s y : StateOf) → Soils f s y → y.told ≡ s.told
soils_told f s y (Was e) = ap (λ (x : StateOf). x.told) e
soils_told f s y (Is m e) = m.told

pub wrote_ends : (k : Key) (f : Frame) (place : Place) (s y z : StateOf) (o : OwnOf) (a : Place → ℕ) (c : Key → Option (List ℕ)) → StateHolds s → s.life.valid place ≡ Some f → (s.names place ≡ None) ⊎ (s.names place ≡ Some k) → Soils f s y
    → z ≡ record y { ages = a; contents = c } → IsBegun (report_of s o) → Ends {T = Unit {0}} (touch k) (report_of z o) (Ok tt)
wrote_ends k f place s y z o a c h v n p e b =
    had_ends k z o (ap (λ (x : StateOf). x.told.last_failed_read) e ∙ ap (λ (t : Told). t.last_failed_read) (soils_told f s y p) ∙ b.no_failed_read)
    (ap (λ (x : StateOf). is_framed (x.life.stands k)) e ∙ ap (λ (g : Key → Held). is_framed (g k)) (soils_stands f s y p) ∙ framed_at k place s h (s.life.valid place) refl (ap is_some v) n)

pub soils_contents : (f : Frame) (s y : StateOf) → Soils f s y → y.contents ≡ s.contents
soils_contents f s y h = ap (λ (x : StateOf). x.contents) (soiled_all f s y h).same

pub soils_names : (f : Frame) (s y : StateOf) → Soils f s y → y.names ≡ s.names
soils_names f s y h = ap (λ (x : StateOf). x.names) (soiled_all f s y h).same

-- a place that is valid names its page
pub named_here : (k : Key) (f : Frame) (place : Place) (s : StateOf) → StateHolds s → s.life.valid place ≡ Some f → (s.names place ≡ None) ⊎ (s.names place ≡ Some k) → s.names place ≡ Some k
named_here k f place s h v n = named_by (s.names place) k (h.owned place f v) n

-- the bytes that were written, in the words of worlds
written_is : (page : List ℕ) (off : ℕ) (bytes : List ℕ) → overwritten page off bytes ≡ written page off bytes
written_is page off bytes = sym (append_assoc (take off page) bytes (drop (off + length bytes) page))

filled_in : (k : Key) (off : ℕ) (bytes : List ℕ) (contents : Key → Option (List ℕ)) → changed same_key contents k (Some (overwritten (unwrap_or (contents k) zero_page) off bytes)) ≡ changed same_in_world contents k (Some (written (unwrap_or (contents k) (filled 0)) off bytes))
unfolding filled
filled_in k off bytes contents = ap (λ (p : List ℕ). changed same_key contents k (Some p)) (written_is (unwrap_or (contents k) zero_page) off bytes) ∙ changed_keys contents k (Some (written (unwrap_or (contents k) zero_page) off bytes))

pub written_in : (k : Key) (f : Frame) (off : ℕ) (bytes : List ℕ) (s y z : StateOf) (a : Place → ℕ) (c : Key → Option (List ℕ)) → Soils f s y → z ≡ record y { ages = a; contents = c } → z.contents ≡ changed same_key y.contents k (Some (overwritten (unwrap_or (y.contents k) zero_page) off bytes))
    → z.contents ≡ changed same_in_world s.contents k (Some (written (unwrap_or (s.contents k) (filled 0)) off bytes))
written_in k f off bytes s y z a c h r w =
    w ∙ ap (λ (g : Key → Option (List ℕ)). changed same_key g k (Some (overwritten (unwrap_or (g k) zero_page) off bytes))) (soils_contents f s y h) ∙ filled_in k off bytes s.contents

-- the same of a page that was brought first
pub brought_written : (k : Key) (off : ℕ) (bytes : List ℕ) (s y z : StateOf) (a : Place → ℕ) (c : Key → Option (List ℕ)) → y ≡ record (moved_with_call s y) { names = y.names } → z ≡ record y { ages = a; contents = c } → z.contents ≡ changed same_key y.contents k (Some (overwritten (unwrap_or (y.contents k) zero_page) off bytes))
    → z.contents ≡ changed same_in_world s.contents k (Some (written (unwrap_or (s.contents k) (filled 0)) off bytes))
brought_written k off bytes s y z a c e r w =
    w ∙ ap (λ (g : Key → Option (List ℕ)). changed same_key g k (Some (overwritten (unwrap_or (g k) zero_page) off bytes))) (ap (λ (x : StateOf). x.contents) e) ∙ filled_in k off bytes s.contents

-- what the store shows once a page was written that its place names already
pub wrote_named : (k : Key) (place : Place) (s z : StoreOf) → z ≡ record s { report = eased s.report z.report } → s.names place ≡ Some k → z ≡ record (fetched s z) { names = changed same_place s.names place (Some k) }
wrote_named k place s z e n = subst (λ (x : StoreOf). x ≡ record (fetched s x) { names = changed same_place s.names place (Some k) }) (sym e)
    (ap (λ (names : Place → Option Key). record s { report = eased s.report z.report; names = names }) (young_still s.names place (Some k) n))

-- nothing that the store shows changed, and the place names the page
pub read_named : (k : Key) (place : Place) (s z : StoreOf) → z ≡ s → s.names place ≡ Some k → z ≡ record (fetched s z) { names = changed same_place s.names place (Some k) }
read_named k place s z e n = wrote_named k place s z (e ∙ ap (λ (r : Report). record s { report = eased s.report r }) (sym (ap (λ (x : StoreOf). x.report) e))) n
