-- The counts are sums over the frames.
use Rattle.std.proofs.Common.{◌≡◌, ℕ, zero, suc, ◌+◌, ◌≤◌, Bool, true, false, cond, not, List, length, refl, sym, ap, ◌∙◌, arith, ◌≢◌, ◌<◌, [], ◌∷◌, Option, Some, None}
use Rattle.std.specs.Prelude.{◌==◌, ◌&&◌, ◌||◌, nat_lt, is_some, count_by, slice_get, slice_index_or, option_map, unwrap_or}
use Rattle.std.proofs.lemmas.List.{get_or_past}
use Rattle.std.proofs.lemmas.Bool.{lt-ltb, le-ltb, eqb-true, or_left}
use Rattle.mm_types.proofs.Tables.{differ}
use Rattle.mm_types.specs.{Record, Key, Held}
use Rattle.mm_move_rules.specs.{FrameTable, record_at, blank, has_request, is_active, is_in_transition, slot_of, FrameLife, same_key, is_zero, slot_at}
use Rattle.mm_move_laws.specs.{one_if, times, standings, is_kept, sight, Stand, FramesStand, tally, sum_to, Holder, Home, Behind, slot_held, holding}
use Rattle.mm_move_laws.specs.{is_home_for, is_framed, is_slotted, has_paged, has_slot, CountsHomes}
use Rattle.mm_move_laws.proofs.Sights.{kept_inside}
use Rattle.mm_move_laws.proofs.Sums.{sum-same, sum-plus, sum-ones, sum-times, sum-cells, sum-zeros, sum-swap, sum-inside, sum-tally, total-same, total-listed, total-plus, total-ones, total-tally}
use Rattle.std.specs.Cmp.{unsigned_Decides}
use Rattle.mm_move_laws.specs.Sound.{Sound}
use Rattle.mm_move_laws.proofs.Owners.{same_key-true, same_key-self}
use Rattle.mm_types.proofs.Booleans.{not_true, one_only_if, same_tests}
use Rattle.mm_move_laws.proofs.SlotHolders.{held_low}
use Rattle.mm_types.specs.declared.frames.Held.TheVariants as held

-- ---- one frame

above_zero : (n : ℕ) → nat_lt 0 n ≡ not (n == 0)
above_zero zero = refl
above_zero (suc n) = lt-ltb 0 (suc n) (omega arith) ∙ sym (ap not (differ (suc n) 0 (λ e. absurd (omega (arith, e)))))

-- owner, request, no shares, changed
placed : (o q z c : Bool) (i : ℕ) → (z ≡ false → o ≡ true) → cond (o || q) 0 i + one_if (o && ((z && not q) && not c)) + one_if (o && ((z && not q) && c)) + one_if (not z) + one_if (z && q) ≡ cond (o || q) 1 i
placed true true true c i h = refl
placed true false true true i h = refl
placed true _ _ c i h = refl
placed false true true c i h = refl
placed false false true c i h = omega arith
placed false _ _ c i h = let bad = h refl in cc

pub stands_once : (d : FrameTable) (q : List ℕ) (f : ℕ) → Stand (sight d q f) → standings d f ≡ one_if (nat_lt f (length d.records))
stands_once d q f s =
    let all = placed (is_some (record_at d f).owner) (has_request (record_at d f).request) ((record_at d f).shares == 0) (record_at d f).changed (one_if (nat_lt f (length d.records)))
    (λ z. s.fit.shown (above_zero (record_at d f).shares ∙ ap not z)) in
    omega (arith, ap one_if (above_zero (record_at d f).shares), all, at (is_kept (record_at d f)) refl, s.fresh, s.standby, s.modified)
  where
    at : (k : Bool) → is_kept (record_at d f) ≡ k → cond k 1 (one_if (nat_lt f (length d.records))) ≡ one_if (nat_lt f (length d.records))
    at true e = sym (ap one_if (lt-ltb f (length d.records) (kept_inside d f e)))
    at false e = refl

-- ---- all frames

module _ (d : FrameTable) (q : List ℕ) (s : FramesStand d q) where
  nothing_past : (f : ℕ) → length d.records ≤ f → standings d f ≡ 0
  nothing_past f l = stands_once d q f (s f) ∙ ap one_if (le-ltb f (length d.records) l)

  pub total : length d.zeroed + length d.free + length d.standby + length d.modified + count_by is_active d.records + count_by is_in_transition d.records ≡ length d.records
  total =
      let z = sum-times d.zeroed (length d.records) (λ f l. let h = nothing_past f l in omega (arith, h)) in
      let u = sum-times d.free (length d.records) (λ f l. let h = nothing_past f l in omega (arith, h)) in
      let b = sum-times d.standby (length d.records) (λ f l. let h = nothing_past f l in omega (arith, h)) in
      let m = sum-times d.modified (length d.records) (λ f l. let h = nothing_past f l in omega (arith, h)) in
      let ones = sum-same (standings d) (λ f. 1) (length d.records) (λ f l. stands_once d q f (s f) ∙ ap one_if (lt-ltb f (length d.records) l)) in
      let all = sum-ones (length d.records) in
      let p1 = sum-plus (λ f. times f d.zeroed) (λ f. times f d.free) (length d.records) in
      let p2 = sum-plus (λ f. times f d.zeroed + times f d.free) (λ f. times f d.standby) (length d.records) in
      let p3 = sum-plus (λ f. times f d.zeroed + times f d.free + times f d.standby) (λ f. times f d.modified) (length d.records) in
      let p4 = sum-plus (λ f. times f d.zeroed + times f d.free + times f d.standby + times f d.modified) (λ f. one_if (is_active (record_at d f))) (length d.records) in
      let p5 = sum-plus (λ f. times f d.zeroed + times f d.free + times f d.standby + times f d.modified + one_if (is_active (record_at d f))) (λ f. one_if (is_in_transition (record_at d f))) (length d.records) in
      omega (arith, z, u, b, m, sum-cells is_active blank d.records, sum-cells is_in_transition blank d.records, ones, all, p1, p2, p3, p4, p5)

  pub requests_total : length q ≡ count_by (λ r. has_request r.request) d.records
  requests_total =
      let listed = sum-times q (length d.records) (λ f l. (s f).flight ∙ ap (λ (r : Record). one_if (has_request r.request)) (get_or_past d.records f blank l)) in
      let same = sum-same (λ f. times f q) (λ f. one_if (has_request (record_at d f).request)) (length d.records) (λ f l. (s f).flight) in
      let records = sum-cells (λ (r : Record). has_request r.request) blank d.records in
      sym listed ∙ (same ∙ records)

-- ---- page-file keys counted by where they stand, and slots by what holds them

-- ---- tallies of tests that agree

pub tally-same : {A : Type 0} (p q : A → Bool) (xs : List A) → ((x : A) → p x ≡ q x) → tally p xs ≡ tally q xs
tally-same p q [] h = refl
tally-same p q (x ∷ xs) h = let a = tally-same p q xs h in let b = ap one_if (h x) in omega (arith, a, b)

pub tally-none : {A : Type 0} (p : A → Bool) (xs : List A) → ((x : A) → p x ≡ false) → tally p xs ≡ 0
tally-none p [] h = refl
tally-none p (x ∷ xs) h = let a = tally-none p xs h in let b : one_if (p x) ≡ 0 = ap one_if (h x) in omega (arith, a, b)

-- ---- where a key stands

abbrev pub in_frame : ℕ → Held → Bool
in_frame f (held.Frame g) = g.0 == f
in_frame f _ = false

abbrev pub in_slot : ℕ → Held → Bool
in_slot s (held.Slot t) = t.0 == s
in_slot s _ = false

abbrev pub is_slot : ℕ → Option ℕ → Bool
is_slot s None = false
is_slot s (Some t) = t == s

in_frame_is : (f : ℕ) (h : Held) → in_frame f h ≡ true → h ≡ held.Frame (record { 0 = f })
in_frame_is f (held.Frame g) e = let n : g.0 ≡ f = eqb-true g.0 f e in λ i. held.Frame (record { 0 = n i })
in_frame_is f _ e = cc

in_slot_at : (s : ℕ) (h : Held) → in_slot s h ≡ is_slot s (slot_at h)
in_slot_at s (held.Frame g) = refl
in_slot_at s _ = refl

is_slot_is : (s : ℕ) (o : Option ℕ) → is_slot s o ≡ true → o ≡ Some s
is_slot_is s None e = cc
is_slot_is s (Some t) e = ap (λ (n : ℕ). Some n) (eqb-true t s e)

is_slot_self : (s : ℕ) (o : Option ℕ) → o ≡ Some s → is_slot s o ≡ true
is_slot_self s o e = ap (is_slot s) e ∙ (unsigned_Decides s s).1 refl

slot_paging : (b : Bool) (h : Held) (s : ℕ) → is_home_for b h ≡ true → slot_at h ≡ Some s → b ≡ true
slot_paging b (held.Slot t) s i e = i
slot_paging b _ s i e = cc

-- a page-file key stands in one of three ways
three_ways : (b : Bool) (h : Held) → b ≡ true → is_home_for b h ≡ true → one_if (is_framed h) + one_if (is_slotted h) + one_if (is_zero h) ≡ 1
three_ways b (held.Block c) p i = let bad : false ≡ true = sym (ap not p) ∙ i in cc
three_ways b held.Dead p i = let bad : false ≡ true = sym (ap not p) ∙ i in cc
three_ways b _ p i = refl

module _ (l : FrameLife) (s : Sound l) where
  -- a key of the list is a page-file key
  listed : (k : Key) → 1 ≤ tally (same_key k) s.paged.keys → l.paging k ≡ true
  listed k h = let e = s.paged.once k in one_only_if (l.paging k) (omega (arith, h, e))

  pub homes_are : tally (λ k. is_framed (l.stands k)) s.paged.keys + tally (λ k. is_slotted (l.stands k)) s.paged.keys + tally (λ k. is_zero (l.stands k)) s.paged.keys ≡ l.paging_keys
  homes_are =
      let keys = s.paged.keys in
      let a = total-listed same_key same_key-self (λ k. one_if (is_framed (l.stands k)) + one_if (is_slotted (l.stands k)) + one_if (is_zero (l.stands k))) (λ k. 1) s.paged.keys
      (λ k h. three_ways (l.paging k) (l.stands k) (listed k h) (s.homed.home k)) in
      let b = total-plus (λ k. one_if (is_framed (l.stands k)) + one_if (is_slotted (l.stands k))) (λ k. one_if (is_zero (l.stands k))) s.paged.keys in
      let d = total-ones s.paged.keys in
      let f = total-tally (λ k. is_framed (l.stands k)) s.paged.keys in
      let g = total-tally (λ k. is_slotted (l.stands k)) s.paged.keys in
      let z = total-tally (λ k. is_zero (l.stands k)) s.paged.keys in
      let long = s.paged.long in
      omega (arith, a, b, total-plus (λ k. one_if (is_framed (l.stands k))) (λ k. one_if (is_slotted (l.stands k))) s.paged.keys, d, f, g, z, long)

  -- ---- frames

  -- the page-file keys in one frame
  frame_has : (f : ℕ) → tally (λ k. in_frame f (l.stands k)) s.paged.keys ≡ one_if (has_paged l (record_at l.frames f))
  frame_has f = at (record_at l.frames f).owner refl
    where
      at : (o : Option Key) → (record_at l.frames f).owner ≡ o → tally (λ k. in_frame f (l.stands k)) s.paged.keys ≡ one_if (unwrap_or (option_map l.paging o) false)
      at None e = tally-none (λ k. in_frame f (l.stands k)) s.paged.keys (λ k. not_true (in_frame f (l.stands k)) (λ h.
          let bad : None ≡ Some k = sym e ∙ (s.owned.owner k (record { 0 = f }) (in_frame_is f (l.stands k) h)) in cc))
      at (Some j) e =
          tally-same (λ k. in_frame f (l.stands k)) (same_key j) s.paged.keys (λ k. same_tests (in_frame f (l.stands k)) (same_key j k)
          (λ h.
          let both : Some j ≡ Some k = sym e ∙ (s.owned.owner k (record { 0 = f }) (in_frame_is f (l.stands k) h)) in
          let is : j ≡ k = cc in
          ap (same_key j) (sym is) ∙ same_key-self j)
          (λ h. ap (λ (q : Key). in_frame f (l.stands q)) (sym (same_key-true j k h)) ∙ (ap (in_frame f) (s.owned.owned f j e) ∙ (unsigned_Decides f f).1 refl)))
          ∙ s.paged.once j

  -- a key stands only in frames that are there
  frames_of : (k : Key) → sum_to (λ f. one_if (in_frame f (l.stands k))) (length l.frames.records) ≡ one_if (is_framed (l.stands k))
  frames_of k = at (l.stands k) refl
    where
      at : (h : Held) → l.stands k ≡ h → sum_to (λ f. one_if (in_frame f h)) (length l.frames.records) ≡ one_if (is_framed h)
      at (held.Frame g) e = sum-inside g.0 (length l.frames.records) (kept_inside l.frames g.0 (or_left (is_some (record_at l.frames g.0).owner) (has_request (record_at l.frames g.0).request) (ap is_some (s.owned.owner k g e))))
      at _ e = sum-zeros (length l.frames.records)

  pub frames_counted : tally (λ k. is_framed (l.stands k)) s.paged.keys ≡ count_by (has_paged l) l.frames.records
  frames_counted =
      let n = length l.frames.records in
      let a = sum-same (λ f. tally (λ k. in_frame f (l.stands k)) s.paged.keys) (λ f. one_if (has_paged l (record_at l.frames f))) (length l.frames.records) (λ f h. frame_has f) in
      let c = total-same (λ k. sum_to (λ f. one_if (in_frame f (l.stands k))) (length l.frames.records)) (λ k. one_if (is_framed (l.stands k))) s.paged.keys frames_of in
      let d = total-tally (λ k. is_framed (l.stands k)) s.paged.keys in
      let e = sum-cells (has_paged l) blank l.frames.records in
      omega (arith, a, sum-tally (λ f k. in_frame f (l.stands k)) s.paged.keys (length l.frames.records), c, d, e)

  -- ---- slots

  -- one slot: the page-file keys there, and the frames that it backs
  slot_has : (t : ℕ) → tally (λ k. in_slot t (l.stands k)) s.paged.keys + sum_to (λ f. one_if (is_slot t (slot_of (record_at l.frames f).backing))) (length l.frames.records) ≡ one_if (is_some (s.held.holder t))
  slot_has t = at (s.held.holder t) refl
    where
      n : ℕ
      n = length l.frames.records

      -- no key, or no frame, but the holder
      key_holds : (k : Key) → in_slot t (l.stands k) ≡ true → s.held.holder t ≡ Some (Home k)
      key_holds k h = s.held.found (Home k) t (is_slot_is t (slot_at (l.stands k)) (sym (in_slot_at t (l.stands k)) ∙ h))

      frame_holds : (f : ℕ) → is_slot t (slot_of (record_at l.frames f).backing) ≡ true → s.held.holder t ≡ Some (Behind f)
      frame_holds f h = s.held.found (Behind f) t (is_slot_is t (slot_of (record_at l.frames f).backing) h)

      no_key : ((k : Key) → s.held.holder t ≢ Some (Home k)) → tally (λ k. in_slot t (l.stands k)) s.paged.keys ≡ 0
      no_key none = tally-none (λ k. in_slot t (l.stands k)) s.paged.keys (λ k. not_true (in_slot t (l.stands k)) (λ h. none k (key_holds k h)))

      no_frame : ((f : ℕ) → s.held.holder t ≢ Some (Behind f)) → sum_to (λ f. one_if (is_slot t (slot_of (record_at l.frames f).backing))) (length l.frames.records) ≡ 0
      no_frame none =
          sum-same (λ f. one_if (is_slot t (slot_of (record_at l.frames f).backing))) (λ f. 0) (length l.frames.records) (λ f i. ap one_if (not_true (is_slot t (slot_of (record_at l.frames f).backing)) (λ h. none f (frame_holds f h))))
          ∙ sum-zeros (length l.frames.records)

      at : (o : Option Holder) → s.held.holder t ≡ o → tally (λ k. in_slot t (l.stands k)) s.paged.keys + sum_to (λ f. one_if (is_slot t (slot_of (record_at l.frames f).backing))) (length l.frames.records) ≡ one_if (is_some o)
      at None e =
          let b = no_frame (λ f h. let bad : None ≡ Some (Behind f) = sym e ∙ h in cc) in
          omega (arith, no_key (λ k h. let bad : None ≡ Some (Home k) = sym e ∙ h in cc), b)
      at (Some (Home j)) e =
          let there : slot_at (l.stands j) ≡ Some t = s.held.held t (Home j) e in
          let paging = slot_paging (l.paging j) (l.stands j) t (s.homed.home j) there in
          let a = tally-same (λ k. in_slot t (l.stands k)) (same_key j) s.paged.keys (λ k. same_tests (in_slot t (l.stands k)) (same_key j k)
          (λ h. let both : Some (Home j) ≡ Some (Home k) = sym e ∙ key_holds k h in let is : j ≡ k = cc in ap (same_key j) (sym is) ∙ same_key-self j)
          (λ h. ap (λ (q : Key). in_slot t (l.stands q)) (sym (same_key-true j k h)) ∙ (in_slot_at t (l.stands j) ∙ is_slot_self t (slot_at (l.stands j)) there))) in
          omega (arith, a, no_frame (λ f h. let bad : Some (Home j) ≡ Some (Behind f) = sym e ∙ h in cc), s.paged.once j ∙ ap one_if paging)
      at (Some (Behind g)) e =
          let there : slot_of (record_at l.frames g).backing ≡ Some t = s.held.held t (Behind g) e in
          let b = sum-same (λ f. one_if (is_slot t (slot_of (record_at l.frames f).backing))) (λ f. one_if (g == f)) (length l.frames.records) (λ f i. ap one_if (same_tests (is_slot t (slot_of (record_at l.frames f).backing)) (g == f)
          (λ h. let both : Some (Behind g) ≡ Some (Behind f) = sym e ∙ frame_holds f h in let is : g ≡ f = cc in (unsigned_Decides g f).1 is)
          (λ h. ap (λ (m : ℕ). is_slot t (slot_of (record_at l.frames m).backing)) (sym (eqb-true g f h)) ∙ is_slot_self t (slot_of (record_at l.frames g).backing) there))) in
          let c = sum-inside g (length l.frames.records) (kept_inside l.frames g (kept (is_kept (record_at l.frames g)) refl there)) in
          omega (arith, no_key (λ k h. let bad : Some (Behind g) ≡ Some (Home k) = sym e ∙ h in cc), b, c)
        where
          kept : (b : Bool) → is_kept (record_at l.frames g) ≡ b → slot_of (record_at l.frames g).backing ≡ Some t → b ≡ true
          kept true i h = refl
          kept false i h = let bad : None ≡ Some t = sym (ap (λ (r : Record). slot_of r.backing) ((s.standing g).fit.bare i)) ∙ h in cc

  -- what is held is a slot that is there
  slot_low : (h : Holder) (t : ℕ) → slot_held l h ≡ Some t → t < length l.free_slots
  slot_low h t e = held_low l.free_slots (holding l.frames l.stands) s.held t h e

  keys_of : (k : Key) → sum_to (λ t. one_if (in_slot t (l.stands k))) (length l.free_slots) ≡ one_if (is_slotted (l.stands k))
  keys_of k = at (l.stands k) refl
    where
      at : (h : Held) → l.stands k ≡ h → sum_to (λ t. one_if (in_slot t h)) (length l.free_slots) ≡ one_if (is_slotted h)
      at (held.Slot t) e = sum-inside t.0 (length l.free_slots) (slot_low (Home k) t.0 (ap slot_at e))
      at _ e = sum-zeros (length l.free_slots)

  backs : (f : ℕ) → sum_to (λ t. one_if (is_slot t (slot_of (record_at l.frames f).backing))) (length l.free_slots) ≡ one_if (has_slot (record_at l.frames f))
  backs f = at (slot_of (record_at l.frames f).backing) refl
    where
      at : (o : Option ℕ) → slot_of (record_at l.frames f).backing ≡ o → sum_to (λ t. one_if (is_slot t o)) (length l.free_slots) ≡ one_if (is_some o)
      at None e = sum-zeros (length l.free_slots)
      at (Some t) e = sum-inside t (length l.free_slots) (slot_low (Behind f) t e)

  taken_count : (free : List Bool) (holder : ℕ → Option Holder) → ((t : ℕ) (b : Bool) → slice_get free t ≡ Some b → is_some (holder t) ≡ not b) → sum_to (λ t. one_if (is_some (holder t))) (length free) ≡ count_by not free
  taken_count free holder h = sum-same (λ t. one_if (is_some (holder t))) (λ t. one_if (not (slice_index_or free t true))) (length free) (λ t low. let c = cell free t low in ap one_if (h t c.0 c.1.0 ∙ ap not (sym c.1.1))) ∙ sum-cells not true free
    where
      cell : (free : List Bool) (t : ℕ) → t < length free → (b : Bool) × ((slice_get free t ≡ Some b) × (slice_index_or free t true ≡ b))
      cell [] t low = absurd (omega (arith, low))
      cell (b ∷ free) zero low = (b, (refl, refl))
      cell (b ∷ free) (suc t) low = cell free t (omega (arith, low))

  pub slots_counted : tally (λ k. is_slotted (l.stands k)) s.paged.keys + count_by has_slot l.frames.records ≡ count_by not l.free_slots
  slots_counted =
      let m = length l.free_slots in
      let n = length l.frames.records in
      let each = sum-same (λ t. tally (λ k. in_slot t (l.stands k)) s.paged.keys + sum_to (λ f. one_if (is_slot t (slot_of (record_at l.frames f).backing))) (length l.frames.records)) (λ t. one_if (is_some (s.held.holder t))) (length l.free_slots) (λ t h. slot_has t) in
      let plus = sum-plus (λ t. tally (λ k. in_slot t (l.stands k)) s.paged.keys) (λ t. sum_to (λ f. one_if (is_slot t (slot_of (record_at l.frames f).backing))) (length l.frames.records)) (length l.free_slots) in
      let b = total-same (λ k. sum_to (λ t. one_if (in_slot t (l.stands k))) (length l.free_slots)) (λ k. one_if (is_slotted (l.stands k))) s.paged.keys keys_of in
      let c = total-tally (λ k. is_slotted (l.stands k)) s.paged.keys in
      let swap = sum-swap (λ t f. one_if (is_slot t (slot_of (record_at l.frames f).backing))) (length l.free_slots) (length l.frames.records) in
      let d = sum-same (λ f. sum_to (λ t. one_if (is_slot t (slot_of (record_at l.frames f).backing))) (length l.free_slots)) (λ f. one_if (has_slot (record_at l.frames f))) (length l.frames.records) (λ f h. backs f) in
      let e = sum-cells has_slot blank l.frames.records in
      let taken = taken_count l.free_slots s.held.holder s.held.taken in
      omega (arith, each, plus, sum-tally (λ t k. in_slot t (l.stands k)) s.paged.keys (length l.free_slots), b, c, swap, d, e, taken)

  pub counts_homes : CountsHomes l
  counts_homes = record {
    keys = s.paged.keys;
    once = s.paged.once;
    count = s.paged.long;
    homes = homes_are;
    frames = frames_counted;
    slots = slots_counted;
  }
