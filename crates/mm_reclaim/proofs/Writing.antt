-- The modified frames that can be written, where each is written to, and the writes that begin.
use Rattle.std.proofs.Common.{◌≡◌, ℕ, zero, suc, ◌<◌, ◌≤◌, Bool, true, false, List, refl, sym, ap, ◌∙◌, subst, arith, ◌+◌, cond, [], ◌∷◌, ◌++◌, length, Some, ◌≢◌, ◌-◌, None, zero-add}
use Rattle.std.specs.Prelude.{◌==◌, ◌&&◌, ◌||◌, not, is_some, nat_lt, count_by, filter, slice_get, slice_set}
use Rattle.std.proofs.lemmas.Bool.{eqb-true, lt-ltb, or_left, or_right}
use Rattle.std.proofs.Math.Logic.{∥∥₁_elim}
use Rattle.std.proofs.Math.Bool.{Bool-set}
use Rattle.std.proofs.Props.{props}
use Rattle.mm_types.specs.{Backing, Frame, Stored, Record, LineKind, Move}
use Rattle.mm_types.specs.declared.frames.Backing.TheVariants as backing
use Rattle.mm_types.specs.declared.moves.Stored.TheVariants as stored
use Rattle.mm_types.specs.declared.moves.Move.TheVariants as move
use Rattle.mm_move_rules.specs.{record_at, is_on, is_idle, has_request, FrameLife, IsLegal, can_be_written, without, owner_is, is_writer, has_depth}
use Rattle.mm_move_rules.specs.{after_move, frame_of, lowest_free as lowest_from, target, writes_begun}
use Rattle.mm_move_laws.specs.{block_of, one_if, times, IsLowest}
use Rattle.mm_move_laws.specs.Sound.{Sound}
use Rattle.mm_move_laws.proofs.{reached_sound, modified_frame, lowest_is, free_counted, times_on, without_none, without_append, without_self, tally-append}
use Rattle.mm_slots.specs.{IsLowest as LowestSlot}
use Rattle.mm_frame_laws.specs.{Writable, first_passing}
use Rattle.mm_frame_laws.proofs.{on_times, which_writes, store_there, wrote_legal, slot_parts, slot_backing, block_is, on_append, store_in_writer}
use Rattle.mm_frame_laws.proofs.{write_others}
use Rattle.mm_parts.specs.{goes_to, lowest_free_slot, write_target, own_after}
use Rattle.mm_parts.proofs.{lowest_is as lowest_number}
use Rattle.mm_state_calls.specs.{StateOf, Made, StateHolds, moved}
use Rattle.mm_reclaim.specs.{IsUnderWay, writable_modified, Rounds, writings}
use Rattle.std.specs.Cmp.{unsigned_Decides}
use Rattle.mm_pfn_database.specs.{has_block, modified_with_block}
use Rattle.std.specs.List.{list_any}
use Rattle.mm_types.specs.declared.moves.LineKind.TheVariants as kind
use Rattle.mm_types.proofs.{and_false}
use Rattle.mm_reclaim.proofs.Trying.{kind_write}
use Rattle.mm_world.proofs.{or-false}

-- ---- where a modified frame is written to, and that it can be

pub modified_low : (s : StateOf) → StateHolds s → (f : ℕ) → is_on f s.life.frames.modified ≡ true → f < s.life.machine.frames
modified_low s h f on = ∥∥₁_elim h.reached (hlevel props) (λ r.
    let low = (modified_frame s.life (reached_sound s.life r) f on).low in
    let size = (reached_sound s.life r).framed in
    omega (arith, low, size))

none_free : (n : ℕ) → not (n == 0) ≡ nat_lt 0 n
none_free zero = refl
none_free (suc n) = ap not (by (suc n == 0) refl) ∙ sym (lt-ltb 0 (suc n) (omega arith))
  where
    by : (b : Bool) → (suc n == 0) ≡ b → b ≡ false
    by false e = refl
    by true e = let none = eqb-true (suc n) 0 e in absurd (omega (arith, none))

pub writable_is : (s : StateOf) → StateHolds s → (f : ℕ) → is_on f s.life.frames.modified ≡ true → (n : ℕ) → n ≡ count_by (λ b. b) s.life.free_slots
    → (is_some (block_of (record_at s.life.frames f).backing) || not (n == 0)) ≡ can_be_written s.life f
writable_is s h f on n e = ∥∥₁_elim h.reached (Bool-set _ _) (λ r.
    ap (λ b. is_some (block_of (record_at s.life.frames f).backing) || b) (none_free n ∙ ap (nat_lt 0) e ∙ free_counted s.life.free_slots)
    ∙ sym (which_writes s.life (reached_sound s.life r) f on))

-- a frame is modified where its record says so
pub modified_is : (s : StateOf) → StateHolds s → (f : ℕ) → (is_some (record_at s.life.frames f).owner && (((record_at s.life.frames f).shares == 0) && not (has_request (record_at s.life.frames f).request) && (record_at s.life.frames f).changed)) ≡ is_on f s.life.frames.modified
modified_is s h f = ∥∥₁_elim h.reached (Bool-set _ _) (λ r. by ((reached_sound s.life r).standing f).modified)
  where
    test : Bool
    test = is_some (record_at s.life.frames f).owner && (is_idle (record_at s.life.frames f) && (record_at s.life.frames f).changed)

    by : times f s.life.frames.modified ≡ one_if test → test ≡ is_on f s.life.frames.modified
    by e = at test (is_on f s.life.frames.modified) refl refl
      where
        at : (a b : Bool) → test ≡ a → is_on f s.life.frames.modified ≡ b → a ≡ b
        at true true x y = refl
        at false false x y = refl
        at true false x y = let more : 1 ≤ times f s.life.frames.modified = (let k = e ∙ ap one_if x in omega (arith, k)) in let bad : false ≡ true = sym y ∙ on_times f s.life.frames.modified more in cc
        at false true x y = let more = times_on f s.life.frames.modified y in let k = e ∙ ap one_if x in absurd (omega (arith, more, k))

-- the lowest free slot, in the words of the slots
same_lowest : (free : List Bool) (s : ℕ) → IsLowest free s → LowestSlot free s
same_lowest free s h = record { is_free = h.is_free; below = h.below }

-- a frame is written to where the code writes it
pub target_is : (l : FrameLife) → Sound l → (f : Frame) → is_on f.0 l.frames.modified ≡ true → (home : Stored) → IsLegal (move.Write f home) l → home ≡ write_target l f
target_is l s f on (stored.Slot t) legal =
    let low : t.0 ≡ lowest_free_slot l.free_slots = lowest_number l.free_slots t.0 (same_lowest l.free_slots t.0 (lowest_is l.free_slots t.0 (slot_parts l s f on t legal).1)) in
    let none : (record_at l.frames f.0).backing ≡ backing.None = slot_backing l s f on t legal in
    ap (λ (n : ℕ). stored.Slot (record { 0 = n })) low ∙ sym (ap (λ (b : Backing). goes_to b (lowest_free_slot l.free_slots)) none)
target_is l s f on (stored.Block b) legal = sym (ap (λ (x : Backing). goes_to x (lowest_free_slot l.free_slots)) (block_is l s f on b legal))

pub target_legal : (s : StateOf) → StateHolds s → IsUnderWay s → (f : Frame) → Writable s.life f.0 → IsLegal (move.Write f (write_target s.life f)) s.life
target_legal s h b f w = ∥∥₁_elim h.reached (Bool-set _ _) (λ r.
    let sound = reached_sound s.life r in
    let there = store_there s.life sound f w.modified b.access w.can in
    subst (λ (x : Stored). IsLegal (move.Write f x) s.life) (target_is s.life sound f w.modified there.0 there.1) there.1)

pub end_legal : (s : StateOf) → StateHolds s → IsUnderWay s → (f : Frame) → Writable s.life f.0 → (home : Stored) (m : StateOf) → Made (move.Write f home) s m → IsLegal (move.Wrote f) m.life
end_legal s h b f w home m made = subst (λ (l : FrameLife). IsLegal (move.Wrote f) l) (sym made.life) (∥∥₁_elim h.reached (Bool-set _ _) (λ r. wrote_legal s.life (reached_sound s.life r) f w.modified home b.access))

-- a frame that can be written, of the modified ones
pub can_write : (l : FrameLife) (f : ℕ) → is_on f l.frames.modified ≡ true → can_be_written l f ≡ true → Writable l f
can_write l f on can = record { modified = on; can = can }

-- ---- the modified frames that can be written, in order: how many there are, and the first

-- ---- lists that a test goes through

-- the same test on the list
filter_same : (p q : ℕ → Bool) (xs : List ℕ) → ((x : ℕ) → is_on x xs ≡ true → p x ≡ q x) → filter p xs ≡ filter q xs
filter_same p q [] same = refl
filter_same p q (x ∷ xs) same =
    ap (λ (b : Bool). cond b (x ∷ filter p xs) (filter p xs)) (same x (or_left (x == x) (is_on x xs) ((unsigned_Decides x x).1 refl)))
    ∙ ap (λ (ys : List ℕ). cond (q x) (x ∷ ys) ys) (filter_same p q xs (λ y h. same y (or_right (x == y) (is_on y xs) h)))

-- each passes
filter_all : (p : ℕ → Bool) (xs : List ℕ) → ((x : ℕ) → is_on x xs ≡ true → p x ≡ true) → filter p xs ≡ xs
filter_all p [] all = refl
filter_all p (x ∷ xs) all =
    ap (λ (b : Bool). cond b (x ∷ filter p xs) (filter p xs)) (all x (or_left (x == x) (is_on x xs) ((unsigned_Decides x x).1 refl)))
    ∙ ap (λ (ys : List ℕ). x ∷ ys) (filter_all p xs (λ y h. all y (or_right (x == y) (is_on y xs) h)))

-- where none is left none passes
pub none_passes : (p : ℕ → Bool) (xs : List ℕ) → length (filter p xs) ≡ 0 → (x : ℕ) → is_on x xs ≡ true → p x ≡ false
none_passes p [] none x h = cc
none_passes p (y ∷ xs) none x h = at (p y) refl (λ e on. none_passes p xs e x on)
  where
    at : (b : Bool) → p y ≡ b → (length (filter p xs) ≡ 0 → is_on x xs ≡ true → p x ≡ false) → p x ≡ false
    at true e rest = let some = sym (ap (λ (b : Bool). length (cond b (y ∷ filter p xs) (filter p xs))) e) ∙ none in absurd (omega (arith, some))
    at false e rest = here (y == x) refl
      where
        here : (c : Bool) → (y == x) ≡ c → p x ≡ false
        here true k = ap p (sym ((unsigned_Decides y x).0 k)) ∙ e
        here false k = rest (sym (ap (λ (b : Bool). length (cond b (y ∷ filter p xs) (filter p xs))) e) ∙ none) (sym (ap (λ (b : Bool). b || is_on x xs) k) ∙ h)

-- the first that passes, and those around it
pub record FirstOf (p : ℕ → Bool) (xs : List ℕ) : Type 0 where
  pub more : List ℕ
  pub first : ℕ
  pub behind : List ℕ
  pub is : xs ≡ more ++ (first ∷ behind)
  pub none : (x : ℕ) → is_on x more ≡ true → p x ≡ false
  pub passes : p first ≡ true
  pub fewer : length (filter p behind) + 1 ≡ length (filter p xs)
  pub front : (rest : List ℕ) → slice_get (filter p (xs ++ rest)) 0 ≡ Some first

pub first_of : (p : ℕ → Bool) (xs : List ℕ) → 1 ≤ length (filter p xs) → FirstOf p xs
first_of p [] some = absurd (omega (arith, some))
first_of p (x ∷ xs) some = at (p x) refl (λ more. first_of p xs more)
  where
    at : (b : Bool) → p x ≡ b → (1 ≤ length (filter p xs) → FirstOf p xs) → FirstOf p (x ∷ xs)
    at true e rest = record {
      more = [];
      first = x;
      behind = xs;
      is = refl;
      none = λ y h. cc;
      passes = e;
      fewer = let n = ap (λ (b : Bool). length (cond b (x ∷ filter p xs) (filter p xs))) e in omega (arith, n);
      front = λ rest. ap (λ (b : Bool). slice_get (cond b (x ∷ filter p (xs ++ rest)) (filter p (xs ++ rest))) 0) e;
    }
    at false e rest =
        let same = ap (λ (b : Bool). length (cond b (x ∷ filter p xs) (filter p xs))) e in
        let f = rest (omega (arith, same, some)) in
        record {
          more = x ∷ f.more;
          first = f.first;
          behind = f.behind;
          is = ap (λ (ys : List ℕ). x ∷ ys) f.is;
          none = λ y h. bars f y (x == y) refl h;
          passes = f.passes;
          fewer = f.fewer ∙ sym same;
          front = λ rest. ap (λ (b : Bool). slice_get (cond b (x ∷ filter p (xs ++ rest)) (filter p (xs ++ rest))) 0) e ∙ f.front rest;
        }
      where
        bars : (f : FirstOf p xs) (y : ℕ) (c : Bool) → (x == y) ≡ c → (c || is_on y f.more) ≡ true → p y ≡ false
        bars f y true k h = ap p (sym ((unsigned_Decides x y).0 k)) ∙ e
        bars f y false k h = f.none y h

-- those that none passes lie in front
pub front_behind : (p : ℕ → Bool) (xs ys : List ℕ) → ((x : ℕ) → is_on x xs ≡ true → p x ≡ false) → filter p (xs ++ ys) ≡ filter p ys
front_behind p [] ys none = refl
front_behind p (x ∷ xs) ys none =
    ap (λ (b : Bool). cond b (x ∷ filter p (xs ++ ys)) (filter p (xs ++ ys))) (none x (or_left (x == x) (is_on x xs) ((unsigned_Decides x x).1 refl)))
    ∙ front_behind p xs ys (λ y h. none y (or_right (x == y) (is_on y xs) h))

-- ---- all where a slot is free, else those with a block

pub has_block_is : (b : Backing) → is_some (block_of b) ≡ has_block b
has_block_is backing.None = refl
has_block_is b = refl

or_false : (a b : Bool) → b ≡ false → (a || b) ≡ a
or_false true b e = refl
or_false false b e = e

module _ (s : StateOf) (h : StateHolds s) (n : ℕ) (counted : n ≡ count_by (λ b. b) s.life.free_slots) where
  pub all_writable : not (n == 0) ≡ true → writable_modified s.life ≡ s.life.frames.modified
  all_writable some = filter_all (can_be_written s.life) s.life.frames.modified
      (λ f on. sym (writable_is s h f on n counted) ∙ or_right (is_some (block_of (record_at s.life.frames f).backing)) (not (n == 0)) some)

  pub blocks_writable : not (n == 0) ≡ false → writable_modified s.life ≡ modified_with_block s.life.frames
  blocks_writable none = filter_same (can_be_written s.life) (λ f. has_block (record_at s.life.frames f).backing) s.life.frames.modified
      (λ f on. sym (writable_is s h f on n counted) ∙ or_false (is_some (block_of (record_at s.life.frames f).backing)) (not (n == 0)) none ∙ has_block_is (record_at s.life.frames f).backing)

-- ---- writes of modified frames begin, of those that can be written, in the order of their list

-- ---- the first that passes a test

abbrev NonePass : (ℕ → Bool) → List ℕ → Type 0
NonePass test [] = Unit {0}
NonePass test (x ∷ xs) = (test x ≡ false) × NonePass test xs

-- it, those before it and those after it
record Split (test : ℕ → Bool) (xs : List ℕ) (f : ℕ) : Type 0 where
  before : List ℕ
  behind : List ℕ
  is : xs ≡ before ++ f ∷ behind
  over : NonePass test before
  here : test f ≡ true

split : (test : ℕ → Bool) (xs : List ℕ) (f : ℕ) → first_passing test xs ≡ Some f → Split test xs f
split test [] f e = cc
split test (x ∷ xs) f e = at (test x) refl e (λ h. split test xs f h)
  where
    at : (b : Bool) → test x ≡ b → cond b (Some x) (first_passing test xs) ≡ Some f → (first_passing test xs ≡ Some f → Split test xs f) → Split test (x ∷ xs) f
    at true t h later = let same : x ≡ f = cc in record { before = []; behind = xs; is = ap (λ (n : ℕ). n ∷ xs) same; over = tt; here = ap test (sym same) ∙ t }
    at false t h later = let s = later h in record { before = x ∷ s.before; behind = s.behind; is = ap (λ (ys : List ℕ). x ∷ ys) s.is; over = (t, s.over); here = s.here }

passing_on : (test : ℕ → Bool) (xs : List ℕ) (f : ℕ) → first_passing test xs ≡ Some f → is_on f xs ≡ true
passing_on test xs f e =
    let s = split test xs f e in
    ap (is_on f) s.is ∙ on_append f s.before (f ∷ s.behind) ∙ or_right (is_on f s.before) (is_on f (f ∷ s.behind)) (or_left (f == f) (is_on f s.behind) ((unsigned_Decides f f).1 refl))

first_filtered : (test : ℕ → Bool) (xs : List ℕ) → first_passing test xs ≡ slice_get (filter test xs) 0
first_filtered test [] = refl
first_filtered test (x ∷ xs) = at (test x) (first_filtered test xs)
  where
    at : (b : Bool) → first_passing test xs ≡ slice_get (filter test xs) 0 → cond b (Some x) (first_passing test xs) ≡ slice_get (cond b (x ∷ filter test xs) (filter test xs)) 0
    at true e = refl
    at false e = e

-- the first modified frame that can be written
front_passes : (l : FrameLife) → first_passing (can_be_written l) l.frames.modified ≡ slice_get (writable_modified l) 0
front_passes l = first_filtered (can_be_written l) l.frames.modified

-- ---- where it is written to

pub writer_legal : (s : StateOf) (f : Frame) → StateHolds s → s.life.kind ≡ kind.Writer → has_depth s.life ≡ true → slice_get (writable_modified s.life) 0 ≡ Some f.0 → IsLegal (move.Write f (write_target s.life f)) s.life
writer_legal s f h k depth front =
    let first = front_passes s.life ∙ front in
    let on = passing_on (can_be_written s.life) s.life.frames.modified f.0 first in
    let can = (split (can_be_written s.life) s.life.frames.modified f.0 first).here in
    ∥∥₁_elim h.reached (Bool-set _ _) (λ r.
    let sound = reached_sound s.life r in
    let there = store_in_writer s.life sound f on (ap is_writer k) depth can in
    subst (λ (x : Stored). IsLegal (move.Write f x) s.life) (target_is s.life sound f on there.0 there.1) there.1)

-- the lowest free slot, counted in two ways
lowest_from_is : (free : List Bool) (n : ℕ) → lowest_from n free ≡ lowest_free_slot free + n
lowest_from_is [] n = sym (zero-add n)
lowest_from_is (true ∷ free) n = sym (zero-add n)
lowest_from_is (false ∷ free) n = let rest = lowest_from_is free (n + 1) in omega (arith, rest)

lowest_same : (free : List Bool) → lowest_from 0 free ≡ lowest_free_slot free
lowest_same free = let h = lowest_from_is free 0 in omega (arith, h)

target_same : (b : Backing) (l : FrameLife) → goes_to b (lowest_free_slot l.free_slots) ≡ target b l
target_same backing.None l = ap (λ (n : ℕ). stored.Slot (record { 0 = n })) (sym (lowest_same l.free_slots))
target_same (backing.Slot t) l = ap (λ (n : ℕ). stored.Slot (record { 0 = n })) (sym (lowest_same l.free_slots))
target_same (backing.Block b) l = refl

-- ---- what a write that has begun leaves of the others

-- no slot comes to be free
none_freed : (free : List Bool) (t : ℕ) → list_any (λ b. b) free ≡ false → list_any (λ b. b) (slice_set free t false) ≡ false
none_freed [] t e = e
none_freed (true ∷ free) t e = cc
none_freed (false ∷ free) zero e = e
none_freed (false ∷ free) (suc t) e = none_freed free t e

still_not : (l : FrameLife) (f : Frame) (home : Stored) (g : ℕ) → g ≢ f.0 → can_be_written l g ≡ false → can_be_written (after_move l (move.Write f home)) g ≡ false
still_not l f home g n h = ap (λ (r : Record). owner_is (λ k. not ((after_move l (move.Write f home)).paging k)) r || list_any (λ b. b) (after_move l (move.Write f home)).free_slots) (write_others l f home g n) ∙ at home
  where
    parts : (owner_is (λ k. not (l.paging k)) (record_at l.frames g) ≡ false) × (list_any (λ b. b) l.free_slots ≡ false)
    parts = or-false (owner_is (λ k. not (l.paging k)) (record_at l.frames g)) (list_any (λ b. b) l.free_slots) h

    at : (home : Stored) → (owner_is (λ k. not ((after_move l (move.Write f home)).paging k)) (record_at l.frames g) || list_any (λ b. b) (after_move l (move.Write f home)).free_slots) ≡ false
    at (stored.Slot t) = ap (λ b. b || list_any (λ c. c) (slice_set l.free_slots t.0 false)) parts.0 ∙ none_freed l.free_slots t.0 parts.1
    at (stored.Block b) = h

others : (test : ℕ → Bool) (g f : ℕ) → test g ≡ false → test f ≡ true → g ≢ f
others test g f a b e = let bad : false ≡ true = sym a ∙ ap test e ∙ b in cc

still_none : (l : FrameLife) (f : Frame) (home : Stored) (xs : List ℕ) → can_be_written l f.0 ≡ true → NonePass (can_be_written l) xs → NonePass (can_be_written (after_move l (move.Write f home))) xs
still_none l f home [] can h = tt
still_none l f home (x ∷ xs) can h = (still_not l f home x (others (can_be_written l) x f.0 h.0 can) h.0, still_none l f home xs can h.1)

list_without : (before behind : List ℕ) (f : ℕ) → times f (before ++ f ∷ behind) ≡ 1 → without f (before ++ f ∷ behind) ≡ before ++ behind
list_without before behind f once =
    let a = tally-append (λ x. x == f) before (f ∷ behind) in
    let one : one_if (f == f) ≡ 1 = ap one_if ((unsigned_Decides f f).1 refl) in
    let p : without f before ≡ before = without_none f before (omega (arith, once, a, one)) in
    let q : without f behind ≡ behind = without_none f behind (omega (arith, once, a, one)) in
    without_append f before (f ∷ behind) ∙ ap (λ (ys : List ℕ). without f before ++ ys) (without_self f behind ∙ q) ∙ ap (λ (ys : List ℕ). ys ++ behind) p

list_after : (l : FrameLife) (f : Frame) (home : Stored) → (after_move l (move.Write f home)).frames.modified ≡ without f.0 l.frames.modified
list_after l f (stored.Slot t) = refl
list_after l f (stored.Block b) = refl

-- ---- the writes as the definition has them

-- where they stop at once
stopped : (n : ℕ) (l : FrameLife) (fs : List ℕ) → (nat_lt 0 n && has_depth l) ≡ false → writes_begun n l fs ≡ []
stopped n l [] e = refl
stopped n l (f ∷ fs) e = ap (λ b. cond b (cond (can_be_written l f) (move.Write (frame_of f) (target (record_at l.frames f).backing l) ∷ writes_begun (n - 1) (after_move l (move.Write (frame_of f) (target (record_at l.frames f).backing l))) fs) (writes_begun n l fs)) []) e

-- those that cannot be written are passed over
passed_over : (n : ℕ) (l : FrameLife) (xs fs : List ℕ) → NonePass (can_be_written l) xs → writes_begun n l (xs ++ fs) ≡ writes_begun n l fs
passed_over n l [] fs h = refl
passed_over n l (x ∷ xs) fs h =
    ap (λ b. cond (nat_lt 0 n && has_depth l) (cond b (move.Write (frame_of x) (target (record_at l.frames x).backing l) ∷ writes_begun (n - 1) (after_move l (move.Write (frame_of x) (target (record_at l.frames x).backing l))) (xs ++ fs)) (writes_begun n l (xs ++ fs))) []) h.0
    ∙ at (nat_lt 0 n && has_depth l) refl (passed_over n l xs fs h.1)
  where
    at : (b : Bool) → (nat_lt 0 n && has_depth l) ≡ b → writes_begun n l (xs ++ fs) ≡ writes_begun n l fs → cond b (writes_begun n l (xs ++ fs)) [] ≡ writes_begun n l fs
    at true e later = later
    at false e later = sym (stopped n l fs e)

none_begun : (n : ℕ) (l : FrameLife) (fs : List ℕ) → first_passing (can_be_written l) fs ≡ None → writes_begun n l fs ≡ []
none_begun n l [] e = refl
none_begun n l (f ∷ fs) e = at (can_be_written l f) refl e (λ h. none_begun n l fs h)
  where
    more : List Move
    more = move.Write (frame_of f) (target (record_at l.frames f).backing l) ∷ writes_begun (n - 1) (after_move l (move.Write (frame_of f) (target (record_at l.frames f).backing l))) fs

    over : (b : Bool) → writes_begun n l fs ≡ [] → cond b (writes_begun n l fs) [] ≡ []
    over true h = h
    over false h = refl

    at : (b : Bool) → can_be_written l f ≡ b → cond b (Some f) (first_passing (can_be_written l) fs) ≡ None → (first_passing (can_be_written l) fs ≡ None → writes_begun n l fs ≡ []) → cond (nat_lt 0 n && has_depth l) (cond (can_be_written l f) more (writes_begun n l fs)) [] ≡ []
    at true t h later = cc
    at false t h later = ap (λ b. cond (nat_lt 0 n && has_depth l) (cond b more (writes_begun n l fs)) []) t ∙ over (nat_lt 0 n && has_depth l) (later h)

first_begun : (n : ℕ) (l : FrameLife) (f : ℕ) (fs : List ℕ) → has_depth l ≡ true → can_be_written l f ≡ true
    → writes_begun (suc n) l (f ∷ fs) ≡ move.Write (frame_of f) (target (record_at l.frames f).backing l) ∷ writes_begun n (after_move l (move.Write (frame_of f) (target (record_at l.frames f).backing l))) fs
first_begun n l f fs depth can =
    ap (λ b. cond (b && has_depth l) (cond (can_be_written l f) more over) []) (lt-ltb 0 (suc n) (omega arith))
    ∙ ap (λ b. cond b (cond (can_be_written l f) more over) []) depth
    ∙ ap (λ b. cond b more over) can
    ∙ ap (λ (k : ℕ). m ∷ writes_begun k (after_move l m) fs) (one_less n)
  where
    m : Move
    m = move.Write (frame_of f) (target (record_at l.frames f).backing l)

    more : List Move
    more = m ∷ writes_begun (suc n - 1) (after_move l m) fs

    over : List Move
    over = writes_begun (suc n) l fs

    one_less : (k : ℕ) → suc k - 1 ≡ k
    one_less k = omega arith

-- ---- a round

module _ (s z : StateOf) (f : Frame) (home : Stored) (h : StateHolds s) (depth : has_depth s.life ≡ true) (front : slice_get (writable_modified s.life) 0 ≡ Some f.0) (to : home ≡ write_target s.life f) (m : Made (move.Write f home) s z) where
  first : first_passing (can_be_written s.life) s.life.frames.modified ≡ Some f.0
  first = front_passes s.life ∙ front

  parts : Split (can_be_written s.life) s.life.frames.modified f.0
  parts = split (can_be_written s.life) s.life.frames.modified f.0 first

  once : times f.0 s.life.frames.modified ≡ 1
  once = ∥∥₁_elim h.reached (hlevel props) (λ r. (modified_frame s.life (reached_sound s.life r) f.0 (passing_on (can_be_written s.life) s.life.frames.modified f.0 first)).once)

  goes : home ≡ target (record_at s.life.frames f.0).backing s.life
  goes = to ∙ target_same (record_at s.life.frames f.0).backing s.life

  list_now : z.life.frames.modified ≡ parts.before ++ parts.behind
  list_now =
      ap (λ (l : FrameLife). l.frames.modified) m.life ∙ list_after s.life f home ∙ ap (without f.0) parts.is
      ∙ list_without parts.before parts.behind f.0 (sym (ap (times f.0) parts.is) ∙ once)

  left_now : (n : ℕ) → writings n z.life ≡ writes_begun n z.life parts.behind
  left_now n = ap (writes_begun n z.life) list_now ∙ passed_over n z.life parts.before parts.behind (subst (λ (l : FrameLife). NonePass (can_be_written l) parts.before) (sym m.life) (still_none s.life f home parts.before parts.here parts.over))

  left_is : (n : ℕ) → writings (suc n) s.life ≡ move.Write f home ∷ writings n z.life
  left_is n =
      ap (writes_begun (suc n) s.life) parts.is ∙ passed_over (suc n) s.life parts.before (f.0 ∷ parts.behind) parts.over
      ∙ first_begun n s.life f.0 parts.behind depth parts.here
      ∙ ap (λ (x : Stored). move.Write f x ∷ writes_begun n (after_move s.life (move.Write f x)) parts.behind) (sym goes)
      ∙ ap (λ (l : FrameLife). move.Write f home ∷ writes_begun n l parts.behind) (sym m.life)
      ∙ ap (λ (xs : List Move). move.Write f home ∷ xs) (sym (left_now n))

  pub writes : s.life.kind ≡ kind.Writer → z ≡ record (moved s z) { own = own_after s.life.kind s.own f } → Rounds writings true s z
  writes k rest = record {
    first = move.Write f home;
    made = m;
    left = left_is;
    kind = ap (λ (l : FrameLife). l.kind) m.life ∙ kind_write s.life f home;
    same = rest ∙ ap (λ (x : LineKind). record (moved s z) { own = own_after x s.own f }) k;
  }

pub writes_none : (s : StateOf) → slice_get (writable_modified s.life) 0 ≡ None → Rounds writings false s s
writes_none s e = (λ n. none_begun n s.life s.life.frames.modified (front_passes s.life ∙ e), refl)

pub writes_full : (s : StateOf) → has_depth s.life ≡ false → Rounds writings false s s
writes_full s e = (λ n. stopped n s.life s.life.frames.modified (ap (λ b. nat_lt 0 n && b) e ∙ and_false (nat_lt 0 n)), refl)

pub no_writing : (l : FrameLife) → writings 0 l ≡ []
no_writing l = stopped 0 l l.frames.modified refl
