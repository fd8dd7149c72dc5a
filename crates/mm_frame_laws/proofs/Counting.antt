-- The count: where no frame is to be had and none can be written, some place may go.
use Rattle.std.proofs.Common.{◌≡◌, ◌⊎◌, ℕ, ◌+◌, ◌<◌, ◌≤◌, Bool, true, false, cond, not, List, [], ◌∷◌, length, Option, Some, None, refl, sym, ap, ◌∙◌, inl, inr, arith}
use Rattle.std.specs.Prelude.{◌==◌, ◌&&◌, ◌||◌, nat_lt, is_some, option_map, unwrap_or}
use Rattle.std.specs.List.{list_any}
use Rattle.std.proofs.lemmas.Bool.{or_right, or_cases, lt-ltb}
use Rattle.std.specs.Cmp.{unsigned_Decides}
use Rattle.mm_types.proofs.{not_false}
use Rattle.mm_types.specs.{IsMachine, Frame, Key, Place, Record, Backing}
use Rattle.mm_types.specs.declared.frames.Backing.TheVariants as backing
use Rattle.mm_move_rules.specs.{record_at, blank, has_request, slot_of, is_idle, is_on, is_empty, FrameLife, is_short, owner_is, can_be_written}
use Rattle.mm_move_rules.specs.{is_unpinned, may_go}
use Rattle.mm_move_laws.specs.{one_if, tally, times, is_backing_for, is_kept, sight, Stand, sum_to, has_paged, has_slot}
use Rattle.mm_move_rules.specs.{is_frame}
use Rattle.mm_move_laws.specs.Sound.{Sound}
use Rattle.mm_move_laws.proofs.{tally-more, some_owner, one_most, one_within, sum-most, sum-plus, sum-ones, sum-frame, sum-cells, none_counted}
use Rattle.mm_move_laws.proofs.{free_and_taken, counts_homes, requests_counted, three_hold, three_parts}
use Rattle.mm_frame_laws.specs.{NoneWritable, IsWithinDepth}

-- ---- lists

no_times : (f : ℕ) (xs : List ℕ) → is_empty xs ≡ true → times f xs ≡ 0
no_times f [] e = refl
no_times f (x ∷ xs) e = cc

first_or : (b c : Bool) (n : ℕ) → 1 ≤ one_if b + n → (1 ≤ n → c ≡ true) → (b || c) ≡ true
first_or true c n h k = refl
first_or false c n h k = k (omega (arith, h))

pub on_times : (f : ℕ) (xs : List ℕ) → 1 ≤ times f xs → is_on f xs ≡ true
on_times f [] h = absurd (omega (arith, h))
on_times f (x ∷ xs) h = first_or (x == f) (is_on f xs) (times f xs) h (on_times f xs)

-- an element that passes, or none does
pub search_list : {A : Type 0} (test : A → Bool) (xs : List A) → ((x : A) × (test x ≡ true)) ⊎ (tally test xs ≡ 0)
search_list test [] = inr refl
search_list test (x ∷ xs) = elim (test x) as (λ b. test x ≡ b → ((y : _) × (test y ≡ true)) ⊎ (one_if b + tally test xs ≡ 0)) [
  | true ↦ λ e. inl (x, e)
  | false ↦ λ e. elim (search_list test xs) [ inl h ↦ inl h | inr h ↦ inr (omega (arith, h)) ]
] refl

-- ---- one frame

-- a frame that nothing can empty: what it is
data Kept (f : ℕ) (l : FrameLife) (pinned : Option Frame) : Type 0 where
  busy : has_request (record_at l.frames f).request ≡ true → Kept f l pinned
  pins : is_frame f pinned ≡ true → has_request (record_at l.frames f).request ≡ false → is_some (record_at l.frames f).owner ≡ true → Kept f l pinned
  unwritten : is_on f l.frames.modified ≡ true → is_some (record_at l.frames f).owner ≡ true → slot_of (record_at l.frames f).backing ≡ None → Kept f l pinned

backing_pages : (b : Bool) (x : Backing) → is_backing_for b x ≡ true → is_some (slot_of x) ≡ true → b ≡ true
backing_pages b (backing.Slot s) i e = i
backing_pages b _ i e = cc

module _ (l : FrameLife) (s : Sound l) (pinned : Option Frame) (short : is_short l ≡ true) where
  abbrev r : ℕ → Record
  r f = record_at l.frames f

  lists : (is_empty l.frames.zeroed ≡ true) × ((is_empty l.frames.free ≡ true) × (is_empty l.frames.standby ≡ true))
  lists =
      let p = three_parts _ _ _ short in
      (p.0, (p.1, p.2))

  -- no place may go: only the pinned frame has shares
  unshared : tally (may_go l pinned) s.shown.places ≡ 0 → (f : ℕ) → is_frame f pinned ≡ false → (r f).shares ≡ 0
  unshared none f other =
      omega (arith, none, tally-more (λ p. is_frame f (l.valid p)) (may_go l pinned) s.shown.places (λ p e. shown (l.valid p) e), s.shown.shares f)
    where
      shown : (o : Option Frame) → is_frame f o ≡ true → is_unpinned pinned o ≡ true
      shown None e = cc
      shown (Some g) e =
          let same : g.0 ≡ f = (unsigned_Decides g.0 f).0 e in
          ap (λ (n : ℕ). not (is_frame n pinned)) same ∙ ap not other

  -- each frame of the machine
  kept : tally (may_go l pinned) s.shown.places ≡ 0 → (f : ℕ) → f < length l.frames.records → Kept f l pinned
  kept none f low = by_request (has_request (r f).request) refl
    where
      st : Stand (sight l.frames l.flight f)
      st = s.standing f

      is_kept_here : is_kept (r f) ≡ true
      is_kept_here =
          at (is_kept (r f)) (omega (arith, no_times f l.frames.zeroed lists.0, no_times f l.frames.free lists.1.0, st.fresh))
        where
          at : (b : Bool) → 0 ≡ cond b 0 (one_if (nat_lt f (length l.frames.records))) → b ≡ true
          at true e = refl
          at false e = let one : one_if (nat_lt f (length l.frames.records)) ≡ 1 = ap one_if (lt-ltb f (length l.frames.records) low) in absurd (omega (arith, e, one))

      by_request : (b : Bool) → has_request (r f).request ≡ b → Kept f l pinned
      by_request true q = busy q
      by_request false q = by_pin (is_frame f pinned) refl
        where
          owned : is_some (r f).owner ≡ true
          owned = elim (or_cases (is_some (r f).owner) (has_request (r f).request) is_kept_here) [
            | inl e ↦ e
            | inr e ↦ let bad : true ≡ false = sym e ∙ q in cc
          ]

          by_pin : (b : Bool) → is_frame f pinned ≡ b → Kept f l pinned
          by_pin true e = pins e q owned
          by_pin false e =
              let idle : is_idle (r f) ≡ true = ap (λ (n : ℕ). (n == 0) && not (has_request (r f).request)) (unshared none f e) ∙ ap not q in
              by_changed (r f).changed refl idle (no_times f l.frames.standby lists.1.1)
            where
              by_changed : (b : Bool) → (r f).changed ≡ b → is_idle (r f) ≡ true → times f l.frames.standby ≡ 0 → Kept f l pinned
              by_changed true c i a =
                  let one : times f l.frames.modified ≡ 1 = st.modified ∙ three_hold (is_some (r f).owner) (is_idle (r f)) (r f).changed owned i c in
                  unwritten (on_times f l.frames.modified (omega (arith, one))) owned (st.fit.dirty c q)
              by_changed false c i a =
                  absurd (omega (arith, a, st.standby ∙ three_hold (is_some (r f).owner) (is_idle (r f)) (not (r f).changed) owned i (ap not c)))

  -- what a frame counts for: one, and one more with a slot
  worth : NoneWritable l → tally (may_go l pinned) s.shown.places ≡ 0 → list_any (λ b. b) l.free_slots ≡ false → (f : ℕ) → f < length l.frames.records
      → 1 + one_if (has_slot (r f)) ≤ one_if (has_paged l (r f)) + (one_if (has_request (r f).request) + (one_if (has_request (r f).request) + one_if (is_frame f pinned)))
  worth unwritable none full f low = by_kept (kept none f low)
    where
      by_kept : Kept f l pinned → 1 + one_if (has_slot (r f)) ≤ one_if (has_paged l (r f)) + (one_if (has_request (r f).request) + (one_if (has_request (r f).request) + one_if (is_frame f pinned)))
      by_kept (busy q) = omega (arith, ap one_if q, one_most (has_slot (r f)))
      by_kept (pins e q owned) =
          let o = some_owner (r f) owned in
          let paged : one_if (has_slot (r f)) ≤ one_if (has_paged l (r f)) = one_within (has_slot (r f)) (has_paged l (r f)) (λ b.
          let p = backing_pages (l.paging o.0) (r f).backing (s.homed.backing f o.0 o.1) b in
          ap (λ (k : Option Key). unwrap_or (option_map l.paging k) false) o.1 ∙ p) in
          omega (arith, ap one_if e, paged)
      by_kept (unwritten on owned slotless) =
          let o = some_owner (r f) owned in
          let can = unwritable f on in
          let not_file : not (l.paging o.0) ≡ false = sym (ap (λ (k : Option Key). unwrap_or (option_map (λ x. not (l.paging x)) k) false) o.1) ∙ left_false (owner_is (λ k. not (l.paging k)) (r f)) (list_any (λ b. b) l.free_slots) can in
          let one : one_if (has_paged l (r f)) ≡ 1 = ap one_if (ap (λ (k : Option Key). unwrap_or (option_map l.paging k) false) o.1 ∙ not_false (l.paging o.0) not_file) in
          omega (arith, ap (λ (o : Option ℕ). one_if (is_some o)) slotless, one)
        where
          left_false : (a b : Bool) → (a || b) ≡ false → a ≡ false
          left_false true b h = cc
          left_false false b h = refl

  -- the same where some slot is free: no frame is modified
  worth_free : NoneWritable l → tally (may_go l pinned) s.shown.places ≡ 0 → list_any (λ b. b) l.free_slots ≡ true → (f : ℕ) → f < length l.frames.records
      → 1 ≤ one_if (has_request (r f).request) + one_if (is_frame f pinned)
  worth_free unwritable none some f low = by_kept (kept none f low)
    where
      by_kept : Kept f l pinned → 1 ≤ one_if (has_request (r f).request) + one_if (is_frame f pinned)
      by_kept (busy q) = let one : one_if (has_request (r f).request) ≡ 1 = ap one_if q in omega (arith, one)
      by_kept (pins e q owned) = let one : one_if (is_frame f pinned) ≡ 1 = ap one_if e in omega (arith, one)
      by_kept (unwritten on owned slotless) =
          let can : can_be_written l f ≡ true = or_right (owner_is (λ k. not (l.paging k)) (r f)) (list_any (λ b. b) l.free_slots) some in
          let bad : true ≡ false = sym can ∙ unwritable f on in cc

  -- as many requests as frames with one
  requests : sum_to (λ f. one_if (has_request (r f).request)) (length l.frames.records) ≡ length l.flight
  requests = sum-cells (λ (x : Record). has_request x.request) blank l.frames.records ∙ sym (requests_counted l s)

  pub never_stuck : IsMachine l.machine → IsWithinDepth l → NoneWritable l → tally (may_go l pinned) s.shown.places ≡ 0 → ⊥
  never_stuck machine few unwritable none = by_slots (list_any (λ b. b) l.free_slots) refl
    where
      n : ℕ
      n = length l.frames.records

      by_slots : (b : Bool) → list_any (λ x. x) l.free_slots ≡ b → ⊥
      by_slots true e =
          let each = sum-most (λ f. 1) (λ f. one_if (has_request (r f).request) + one_if (is_frame f pinned)) (length l.frames.records) (worth_free unwritable none e) in
          let plus = sum-plus (λ f. one_if (has_request (r f).request)) (λ f. one_if (is_frame f pinned)) (length l.frames.records) in
          let enough = machine.enough_frames in
          omega (arith, sum-ones (length l.frames.records), each, plus, sum-frame pinned (length l.frames.records), requests, s.framed, enough, few)
      by_slots false e =
          let ones = sum-ones (length l.frames.records) in
          let each = sum-most (λ f. 1 + one_if (has_slot (r f))) (λ f. one_if (has_paged l (r f)) + (one_if (has_request (r f).request) + (one_if (has_request (r f).request) + one_if (is_frame f pinned)))) (length l.frames.records) (worth unwritable none e) in
          let p0 = sum-plus (λ f. 1) (λ f. one_if (has_slot (r f))) (length l.frames.records) in
          let p1 = sum-plus (λ f. one_if (has_paged l (r f))) (λ f. one_if (has_request (r f).request) + (one_if (has_request (r f).request) + one_if (is_frame f pinned))) (length l.frames.records) in
          let p2 = sum-plus (λ f. one_if (has_request (r f).request)) (λ f. one_if (has_request (r f).request) + one_if (is_frame f pinned)) (length l.frames.records) in
          let p3 = sum-plus (λ f. one_if (has_request (r f).request)) (λ f. one_if (is_frame f pinned)) (length l.frames.records) in
          let pin = sum-frame pinned (length l.frames.records) in
          let slots = s.slotted in
          let paged = sum-cells (has_paged l) blank l.frames.records in
          let backed = sum-cells has_slot blank l.frames.records in
          let homes = (counts_homes l s).homes in
          let frames = (counts_homes l s).frames in
          let held = (counts_homes l s).slots in
          let all = free_and_taken l.free_slots in
          let full = none_counted l.free_slots e in
          let limit = s.limited in
          let enough = machine.enough_frames in
          omega (arith, ones, each, p0, p1, p2, p3, pin, requests, s.framed, slots, paged, backed, homes, frames, held, all, full, limit, enough, few)

  pub room : IsMachine l.machine → IsWithinDepth l → NoneWritable l → (place : Place) × (may_go l pinned place ≡ true)
  room machine few unwritable = elim (search_list (may_go l pinned) s.shown.places) [
    | inl h ↦ h
    | inr none ↦ absurd (never_stuck machine few unwritable none)
  ]
