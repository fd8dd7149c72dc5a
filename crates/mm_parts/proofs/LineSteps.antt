-- A line begins, the first one too, and the line in which the paging file grows; and calls that are no moves.
use Rattle.std.proofs.Common.{◌≡◌, ℕ, ◌+◌, ◌<◌, ◌≤◌, true, false, [], ◌∷◌, ◌++◌, Option, Some, None, refl, sym, ap, ◌∙◌, inl, inr, arith, length}
use Rattle.std.proofs.Common.{replicate, zero, suc, Bool, subst, ◌⊎◌, ◌^◌, List}
use Rattle.std.specs.Prelude.{◌==◌, ◌&&◌, nat_le, nat_lt, is_some, option_map, slice_get, slice_index_or, unwrap_or, if◌then◌else◌, MatchOption}
use Rattle.std.specs.Prelude.{IfSome}
use Rattle.std.proofs.lemmas.Bool.{and_parts, eqb-true, leb-true, le-leb, ltb-true}
use Rattle.mm_types.proofs.{some_map, both}
use Rattle.mm_types.specs.{IsMachine, Frame, Pid, LineKind, MachineOf, Key, Range, holds_page, end_of_user_pages, Area, Place, Vpn}
use Rattle.mm_move_rules.specs.{ResidentSet, FrameLife, set_in, IsLegal, is_legal_kind, free_table, unstarted, after_move, changed, same_place, aged}
use Rattle.mm_move_rules.specs.{IsOldest}
use Rattle.mm_move_laws.proofs.{set_more, reached_by, reached_start, reached_next}
use Rattle.mm_page_tables.specs.{Aside, WordsOf, key_entry, no_words, Entry, own_word, aside_or, place_from, valid_frame, changed_in, is_valid_entry, pages}
use Rattle.mm_page_tables.specs.{ages_in, GoesBehind, IsOldestOf, NoneBehind}
use Rattle.mm_parts.specs.{JoinedParts, life_in, shown_of, requests_in, PartsKept, WithinLine, parts_after, IsPlainLine, words_begun, CanBeginSet}
use Rattle.mm_parts.specs.{machine_grown, owners, stands_of, is_of_paging_file, first_parts, started_parts, first_kind, first_move, owned_by, held_by, valid_of}
use Rattle.mm_parts.specs.{named_by, names_of, life_of, WordsKept, after_page}
use Rattle.mm_parts.proofs.Keeping.{Step, known}
use Rattle.std.proofs.lemmas.List.{length-replicate}
use Rattle.mm_types.specs.declared.numbers.Key.TheVariants.{Private, Shared}
use Rattle.mm_move_laws.specs.{ReachedByMoves}
use Rattle.mm_parts.proofs.Stands.{same_life, at_if}
use Rattle.mm_working_sets.specs.{GoesBefore, IsNextFrom}
use Rattle.std.specs.Option.{ForSome}
use Rattle.mm_frame_laws.specs.{FollowsPage, IsNextPage, NoPageFollows}
use Rattle.mm_frame_laws.proofs.{next_oldest, all_go}
use Rattle.mm_types.specs.declared.moves.LineKind.TheVariants as kind
use Rattle.mm_types.specs.declared.moves.Move.TheVariants as move
use Rattle.mm_types.specs.declared.frames.Held.TheVariants as held
use Rattle.mm_requests.specs.declared.flights.Waiting.TheVariants as waiting
use Rattle.mm_page_tables.specs.declared.layout.Entry.TheVariants as entry

-- the line after
record Next (t : JoinedParts) (n : ℕ) (k : LineKind) : Type 0 where
  number : n ≡ t.line.line + 1
  kind_is : is_legal_kind (life_in t) k ≡ true

next_line : (t : JoinedParts) (n : ℕ) (k : LineKind) → IsLegal (move.At n k) (life_in t) → Next t n k
next_line t n k legal =
    let a = and_parts ((n == t.line.line + 1) && nat_le (length (requests_in t)) t.line.machine.depth) (is_legal_kind (life_in t) k) legal in
    let b = and_parts (n == t.line.line + 1) (nat_le (length (requests_in t)) t.line.machine.depth) a.0 in
    record { number = eqb-true n (t.line.line + 1) b.0; kind_is = a.1 }

begun_line : (t : JoinedParts) (n : ℕ) (k : LineKind) → IsLegal (move.At n k) (life_in t) → 1 ≤ n
begun_line t n k legal = let number = (next_line t n k legal).number in omega (arith, number)

within_line : (k : LineKind) (own : Option Frame) (w : WordsOf) → own ≡ None → option_map (λ x. x.place) w.aside ≡ None → WithinLine k own w
within_line k own w e h = record {
  requesting = λ x. let bad : true ≡ false = sym x ∙ ap is_some e in cc;
  copying = λ x. let bad : true ≡ false = sym x ∙ sym (some_map (λ (y : Aside). y.place) w.aside) ∙ ap is_some h in cc;
}

process_line : (t : JoinedParts) → PartsKept t → (n : ℕ) (pid : Pid) (min max : ℕ) → IsLegal (move.At n (kind.Process pid min max)) (life_in t) → 1 ≤ max → max ≤ 65536 → t.own ≡ None → (shown_of t).aside ≡ None
    → Step (record t { line = record t.line { line = n; kind = kind.Process pid min max }; words = words_begun (kind.Process pid min max) t.words }) (parts_after (shown_of t) (move.At n (kind.Process pid min max)))
process_line t kept n pid min max legal low high own aside =
    record {
      kept = assumption (
        reached_by (life_in t) _ (move.At n (kind.Process pid min max)) legal refl kept.reached,
        begun_line t n (kind.Process pid min max) legal,
        within_line (kind.Process pid min max) t.own (words_begun (kind.Process pid min max) t.words) own aside,
        sets,
      );
      shown = refl;
    }
  where
    sets : (q : ℕ) (s : ResidentSet) → set_in (t.words.sets ++ record { min = min; max = max; resident = 0 } ∷ []) q ≡ Some s → (1 ≤ s.max) × (s.max ≤ 65536)
    sets q s e = elim (set_more t.words.sets (record { min = min; max = max; resident = 0 }) s q e) [
      | inl was ↦ kept.ranges.sets q s was
      | inr is ↦ let m : max ≡ s.max = ap (λ (x : ResidentSet). x.max) is in (omega (arith, low, m), omega (arith, high, m))
    ]

pub at_step : (t : JoinedParts) → PartsKept t → (n : ℕ) (k : LineKind) → IsLegal (move.At n k) (life_in t) → IsPlainLine k → t.own ≡ None → (shown_of t).aside ≡ None
    → Step (record t { line = record t.line { line = n; kind = k }; words = words_begun k t.words }) (parts_after (shown_of t) (move.At n k))
at_step t kept n (kind.Machine frames slots depth blocks) legal plain own aside =
    let first = (and_parts (t.line.line == 0) _ (next_line t n (kind.Machine frames slots depth blocks) legal).kind_is).0 in
    let zero_line = eqb-true t.line.line 0 first in
    let begun = kept.line.begun in
    absurd (omega (arith, zero_line, begun))
at_step t kept n (kind.Process pid min max) legal plain own aside = process_line t kept n pid min max legal plain.0 plain.1 own aside
at_step t kept n (kind.Grow count) legal plain own aside = absurd plain
at_step t kept n k legal plain own aside =
    record {
      kept = assumption (reached_by (life_in t) _ (move.At n k) legal (sym refl) kept.reached, begun_line t n k legal, within_line k t.own t.words own aside);
      shown = ap (λ (l : FrameLife). record (shown_of t) { life = l }) (sym refl);
    }

-- ---- the paging file grows

pub grow_machine : (t : JoinedParts) → PartsKept t → (n count : ℕ) → IsLegal (move.At n (kind.Grow count)) (life_in t) → IsMachine (machine_grown t.line.machine count)
grow_machine t kept n count legal =
    let m = kept.line.machine in
    let k = (next_line t n (kind.Grow count) legal).kind_is in
    let most = leb-true (t.line.machine.slots + count) 262144 (and_parts (nat_lt 0 t.line.line && nat_le 1 count) (nat_le (t.line.machine.slots + count) 262144) k).1 in
    assumption (most, m)

pub grow_step : (t : JoinedParts) → PartsKept t → (n count : ℕ) → IsLegal (move.At n (kind.Grow count)) (life_in t) → t.own ≡ None → (shown_of t).aside ≡ None
    → Step (record t { line = record t.line { machine = machine_grown t.line.machine count; line = n; kind = kind.Grow count }; free = t.free ++ replicate count true }) (parts_after (shown_of t) (move.At n (kind.Grow count)))
grow_step t kept n count legal own aside =
    record {
      kept = assumption (
        reached_by (life_in t) _ (move.At n (kind.Grow count)) legal refl kept.reached,
        grow_machine t kept n count legal,
        begun_line t n (kind.Grow count) legal,
        within_line (kind.Grow count) t.own t.words own aside,
      );
      shown = refl;
    }

-- there are fewer than 64 processes before one more
pub set_room : (t : JoinedParts) (n : ℕ) (k : LineKind) → IsLegal (move.At n k) (life_in t) → CanBeginSet k t.words
set_room t n (kind.Process pid min max) legal =
    let k = (next_line t n (kind.Process pid min max) legal).kind_is in
    let a = and_parts (nat_lt 0 t.line.line && (pid.0 == length t.words.sets + 1)) (nat_le pid.0 64) k in
    let same = eqb-true pid.0 (length t.words.sets + 1) (and_parts (nat_lt 0 t.line.line) (pid.0 == length t.words.sets + 1) a.0).1 in
    let most = leb-true pid.0 64 a.1 in
    omega (arith, same, most)
set_room t n _ legal = tt

pub no_place : (a : Option Aside) → option_map (λ x. x.place) a ≡ None → a ≡ None
no_place None e = refl
no_place (Some a) e = cc

pub slots_small : (t : JoinedParts) → PartsKept t → (n count : ℕ) → IsLegal (move.At n (kind.Grow count)) (life_in t) → length t.free + count < 4294967296
slots_small t kept n count legal =
    let most = (grow_machine t kept n count legal).most_slots in
    let size = (known t kept).slotted in
    omega (arith, most, size)

-- ---- the parts of a machine at rest

pub first_legal : (m : MachineOf) → IsMachine m → IsLegal (first_move m) unstarted
first_legal m h =
    both _ _
    (both _ _ (both _ _ (both _ _ (both _ _ (both _ _ (le-leb _ _ h.least_frames) (le-leb _ _ h.most_frames)) (le-leb _ _ h.most_slots)) (le-leb _ _ h.least_depth)) (le-leb _ _ h.most_depth)) (le-leb _ _ h.most_blocks))
    (le-leb _ _ h.enough_frames)

dead_at_start : (m : MachineOf) (k : Key) → stands_of (owners (free_table m.frames)) no_words k ≡ held.Dead
dead_at_start m (Private p v) = refl
dead_at_start m (Shared a i) = refl

none_added : (n x : ℕ) → slice_index_or (replicate n false) x false ≡ false
none_added (suc n) (suc x) = none_added n x
none_added _ _ = cc

life_at_start : (m : MachineOf) → life_in (started_parts m) ≡ after_move unstarted (first_move m)
life_at_start m =
    same_life (record { machine = m; line = 1; kind = first_kind m; paging_keys = 0; added = replicate m.blocks false }) (free_table m.frames) (replicate m.slots true) [] _ _ _ _ _ _ _ _ (λ b. slice_index_or (replicate m.blocks false) b false)
    refl (dead_at_start m) (λ k. ap (is_of_paging_file (free_table m.frames)) (dead_at_start m k)) (λ p. refl)
    ∙ (λ i. record (after_move unstarted (first_move m)) { added = λ b. none_added m.blocks b i })

no_set : (pid : ℕ) (s : ResidentSet) → set_in [] pid ≡ Some s → (1 ≤ s.max) × (s.max ≤ 65536)
no_set zero s e = cc
no_set (suc k) s e = cc

nobody_waits : (n t : ℕ) (f : Frame) → slice_get (replicate n waiting.Nothing) t ≡ Some (waiting.For f) → ⊥
nobody_waits (suc n) (suc t) f e = nobody_waits n t f e
nobody_waits _ _ f e = cc

pub start_step : (m : MachineOf) → IsMachine m → Step (started_parts m) (first_parts m)
start_step m h = record {
  kept = record {
    reached = ∣ subst ReachedByMoves (sym (life_at_start m)) (reached_next (first_move m) unstarted reached_start (first_legal m h)) ∣₁;
    line = record { machine = h; begun = omega arith; blocks = length-replicate {A = Bool} m.blocks false };
    words = record {
      transition = λ k f e. let bad = by k f e in absurd bad;
      valid_shared = λ a i f n e. cc;
      no_file = λ p b e. cc;
      no_proto = λ a i b j e. cc;
      beside = λ x e. cc;
      beside_bound = λ x e. cc;
      beside_other = λ x e. cc;
    };
    within = record { requesting = λ e. cc; copying = λ e. cc };
    ranges = record { areas = λ a e. cc; sets = no_set; user = λ p e. cc };
    depth = refl;
    waits = λ t f e. absurd (nobody_waits 256 t f e);
  };
  shown = λ i. record (first_parts m) { life = life_at_start m i };
}
  where
    by : (k : Key) (f : Frame) → key_entry no_words k ≡ entry.Transition f → ⊥
    by (Private p v) f e = cc
    by (Shared a i) f e = cc

-- ---- calls that are no moves: processes, places and areas come and go, and pages are used and get older

-- other open processes, bound places and sizes of areas; the entries and the sets stay
pub homes_step : (t : JoinedParts) → PartsKept t → (open_now : ℕ → Bool) (bound : Place → Bool) (sizes : ℕ → Option ℕ) → ((x : Aside) → t.words.aside ≡ Some x → bound x.place ≡ true) → ((a : ℕ) → is_some (sizes a) ≡ true → a < 2 ^ 28)
    → ((p : Place) → bound p ≡ true → p.vpn.0 < end_of_user_pages)
    → Step (record t { words = record t.words { is_open = open_now; bound = bound; sizes = sizes } }) (record (shown_of t) { is_open = open_now; bound = bound; areas = sizes })
homes_step t kept open_now bound sizes beside areas user = record { kept = assumption (beside, areas, user, kept); shown = refl }

pub open_step : (t : JoinedParts) → PartsKept t → (open_now : ℕ → Bool) → Step (record t { words = record t.words { is_open = open_now } }) (record (shown_of t) { is_open = open_now })
open_step t kept open_now = homes_step t kept open_now t.words.bound t.words.sizes kept.words.beside_bound kept.ranges.areas kept.ranges.user

bound_more : (f : Place → Bool) (pid : ℕ) (r : Range) (x : Place) → f x ≡ true → changed_in f pid r true x ≡ true
bound_more f pid r x h = elim ((x.pid.0 == pid) && holds_page r x.vpn.0) as (λ b. (if b then true else f x) ≡ true) [ true ↦ refl | false ↦ h ]

-- pages that are bound anew are user pages
bound_user : (f : Place → Bool) (pid : ℕ) (r : Range) → ((v : ℕ) → holds_page r v ≡ true → v < end_of_user_pages) → ((p : Place) → f p ≡ true → p.vpn.0 < end_of_user_pages) → (x : Place)
    → changed_in f pid r true x ≡ true → x.vpn.0 < end_of_user_pages
bound_user f pid r low kept x h = elim ((x.pid.0 == pid) && holds_page r x.vpn.0) as (λ b. ((x.pid.0 == pid) && holds_page r x.vpn.0) ≡ b → (if b then true else f x) ≡ true → x.vpn.0 < end_of_user_pages) [
  | true ↦ λ e g. low x.vpn.0 (and_parts (x.pid.0 == pid) (holds_page r x.vpn.0) e).1
  | false ↦ λ e g. kept x g
] refl h

bound_less : (f : Place → Bool) (pid : ℕ) (r : Range) (x : Place) → changed_in f pid r false x ≡ true → f x ≡ true
bound_less f pid r x h = elim ((x.pid.0 == pid) && holds_page r x.vpn.0) as (λ b. (if b then false else f x) ≡ true → f x ≡ true) [ true ↦ λ g. cc | false ↦ λ g. g ] h

pub bind_step : (t : JoinedParts) → PartsKept t → (pid : ℕ) (r : Range) → ((v : ℕ) → holds_page r v ≡ true → v < end_of_user_pages) → Step (record t { words = record t.words { bound = changed_in t.words.bound pid r true } }) (record (shown_of t) { bound = changed_in t.words.bound pid r true })
bind_step t kept pid r low = homes_step t kept t.words.is_open (changed_in t.words.bound pid r true) t.words.sizes (λ x e. bound_more t.words.bound pid r x.place (kept.words.beside_bound x e)) kept.ranges.areas (bound_user t.words.bound pid r low kept.ranges.user)

sized : (f : ℕ → Option ℕ) (a : ℕ) (n : Option ℕ) → (is_some n ≡ true → a < 2 ^ 28) → ((b : ℕ) → is_some (f b) ≡ true → b < 2 ^ 28) → (b : ℕ) → is_some (changed ◌==◌ f a n b) ≡ true → b < 2 ^ 28
sized f a n now kept b h = elim (b == a) as (λ c. (b == a) ≡ c → is_some (if c then n else f b) ≡ true → b < 2 ^ 28) [
  | true ↦ λ e x. let same = eqb-true b a e in let low = now x in omega (arith, same, low)
  | false ↦ λ e x. kept b x
] refl h

pub area_step : (t : JoinedParts) → PartsKept t → (a : ℕ) (n : Option ℕ) → (is_some n ≡ true → a < 2 ^ 28)
    → Step (record t { words = record t.words { sizes = changed ◌==◌ t.words.sizes a n } }) (record (shown_of t) { areas = changed ◌==◌ t.words.sizes a n })
area_step t kept a n low = homes_step t kept t.words.is_open t.words.bound (changed ◌==◌ t.words.sizes a n) kept.words.beside_bound (sized t.words.sizes a n low kept.ranges.areas) kept.ranges.user

-- a dead page of a control area has no entry
pub area_clear : (t : JoinedParts) → PartsKept t → (a : Area) (i : ℕ) → (life_in t).stands (Shared a i) ≡ held.Dead → t.words.proto a.0 i ≡ entry.Empty
area_clear t kept a i dead = by (t.words.proto a.0 i) refl dead
  where
    by : (e : Entry) → t.words.proto a.0 i ≡ e → held_by (λ _. true) e ≡ held.Dead → t.words.proto a.0 i ≡ entry.Empty
    by entry.Empty g h = g
    by (entry.Proto b j) g h = absurd (kept.words.no_proto a.0 i b j g)
    by _ g h = cc

-- ---- places are given up

-- no page of the range is valid, and none has a live private key; and nothing stands beside the tables
pub record Givable (t : JoinedParts) (pid : ℕ) (r : Range) : Type 0 where
  pub dead : (x : Place) → (x.pid.0 ≡ pid) → holds_page r x.vpn.0 ≡ true → (life_in t).stands (Private x.pid x.vpn) ≡ held.Dead
  pub invalid : (x : Place) → (x.pid.0 ≡ pid) → holds_page r x.vpn.0 ≡ true → valid_of t.words x ≡ None
  pub none : t.words.aside ≡ None

module _ (t : JoinedParts) (kept : PartsKept t) (pid : ℕ) (r : Range) (g : Givable t pid r) where
  abbrev given_words : WordsOf
  given_words = record t.words { bound = changed_in t.words.bound pid r false; at = changed_in t.words.at pid r entry.Empty }

  own_alone : (w : WordsOf) → w.aside ≡ None → (x : Place) → own_word w x ≡ w.at x
  own_alone w e x = ap (λ a. aside_or a x (w.at x)) e

  at_cases : (x : Place) → (changed_in t.words.at pid r entry.Empty x ≡ t.words.at x)
      ⊎ ((changed_in t.words.at pid r entry.Empty x ≡ entry.Empty) × (valid_of t.words x ≡ None) × ((life_in t).stands (Private x.pid x.vpn) ≡ held.Dead))
  at_cases x = elim ((x.pid.0 == pid) && holds_page r x.vpn.0) as (λ b. ((x.pid.0 == pid) && holds_page r x.vpn.0) ≡ b → ((if b then entry.Empty else t.words.at x) ≡ t.words.at x)
      ⊎ (((if b then entry.Empty else t.words.at x) ≡ entry.Empty) × (valid_of t.words x ≡ None) × ((life_in t).stands (Private x.pid x.vpn) ≡ held.Dead))) [
        | true ↦ λ e. let p = and_parts (x.pid.0 == pid) (holds_page r x.vpn.0) e in let of = eqb-true x.pid.0 pid p.0 in inr (refl, g.invalid x of p.1, g.dead x of p.1)
        | false ↦ λ e. inl refl
      ] refl

  given_stands : (k : Key) → stands_of (owners t.table) (record t.words { bound = changed_in t.words.bound pid r false; at = changed_in t.words.at pid r entry.Empty }) k ≡ stands_of (owners t.table) t.words k
  given_stands (Private p v) =
      ap (held_by (owned_by (owners t.table) (Private p v))) (own_alone given_words g.none (place_from p v))
      ∙ (elim (at_cases (place_from p v)) [
        | inl e ↦ ap (held_by (owned_by (owners t.table) (Private p v))) e
        | inr h ↦ ap (held_by (owned_by (owners t.table) (Private p v))) h.0 ∙ sym h.2 ∙ ap (held_by (owned_by (owners t.table) (Private p v))) (own_alone t.words g.none (place_from p v))
      ])
      ∙ sym (ap (held_by (owned_by (owners t.table) (Private p v))) (own_alone t.words g.none (place_from p v)))
  given_stands (Shared a i) = refl

  given_life : life_of t.line t.table t.free (record t.words { bound = changed_in t.words.bound pid r false; at = changed_in t.words.at pid r entry.Empty }) (requests_in t) ≡ life_in t
  given_life = same_life t.line t.table t.free (requests_in t) _ _ _ _ _ _ _ _ (λ b. slice_index_or t.line.added b false) refl given_stands (λ k. ap (is_of_paging_file t.table) (given_stands k))
      (λ x. elim (at_cases x) [ inl e ↦ ap valid_frame e | inr h ↦ ap valid_frame h.0 ∙ sym h.1 ])

  word_given : (k : Key) (e : Entry) → key_entry (record t.words { bound = changed_in t.words.bound pid r false; at = changed_in t.words.at pid r entry.Empty }) k ≡ e → (key_entry t.words k ≡ e) ⊎ (entry.Empty ≡ e)
  word_given (Private p v) e h = elim (at_cases (place_from p v)) [
    | inl same ↦ inl (own_alone t.words g.none (place_from p v) ∙ sym same ∙ sym (own_alone given_words g.none (place_from p v)) ∙ h)
    | inr x ↦ inr (sym x.0 ∙ sym (own_alone given_words g.none (place_from p v)) ∙ h)
  ]
  word_given (Shared a i) e h = inl h

  given_kept : WordsKept t.table (record t.words { bound = changed_in t.words.bound pid r false; at = changed_in t.words.at pid r entry.Empty })
  given_kept = record {
    transition = λ k f h. elim (word_given k (entry.Transition f) h) [ inl was ↦ kept.words.transition k f was | inr e ↦ cc ];
    valid_shared = kept.words.valid_shared;
    no_file = λ x b h. elim (at_cases x) [ inl e ↦ kept.words.no_file x b (sym e ∙ h) | inr y ↦ (let bad : entry.Empty ≡ entry.InFile b = sym y.0 ∙ h in cc) ];
    no_proto = kept.words.no_proto;
    beside = kept.words.beside;
    beside_bound = λ x e. let bad : None ≡ Some x = sym g.none ∙ e in cc;
    beside_other = λ x e. let bad : None ≡ Some x = sym g.none ∙ e in cc;
  }

  pub unbind_step : Step (record t { words = record t.words { bound = changed_in t.words.bound pid r false; at = changed_in t.words.at pid r entry.Empty } })
      (record (shown_of t) { bound = changed_in t.words.bound pid r false; names = changed_in (names_of (owners t.table) t.words) pid r None })
  unbind_step = record {
    kept = assumption (
      subst (λ (l : FrameLife). ∥ ReachedByMoves l ∥₁) (sym given_life) kept.reached,
      given_kept,
      λ (x : Place) (h : changed_in t.words.bound pid r false x ≡ true). kept.ranges.user x (bound_less t.words.bound pid r x h),
    );
    shown = λ i. record (shown_of t) { life = given_life i; bound = changed_in t.words.bound pid r false; names = λ x. at_if (named_by (owners t.table) x) ((x.pid.0 == pid) && holds_page r x.vpn.0) entry.Empty (t.words.at x) i };
  }

-- ---- ages and bytes

pub bytes_step : (t : JoinedParts) → PartsKept t → (bytes' : List (Option (List ℕ))) → Step (record t { bytes = bytes' }) (record (shown_of t) { bytes = bytes' })
bytes_step t kept bytes' = record { kept = assumption kept; shown = refl }

-- a page is used: it has age 0, and its frame these bytes
pub used_step : (t : JoinedParts) → PartsKept t → (place : Place) (bytes' : List (Option (List ℕ)))
    → Step (record t { ages = changed same_place t.ages place (Some 0); bytes = bytes' }) (record (shown_of t) { ages = changed same_place (shown_of t).ages place 0; bytes = bytes' })
used_step t kept place bytes' = record {
  kept = assumption kept;
  shown = λ i. record (shown_of t) { ages = λ p. at_if (λ o. unwrap_or o 0) (same_place p place) (Some 0) (t.ages p) i; bytes = bytes' };
}

-- ---- what the conditions say

range_of : (f n v : ℕ) → holds_page (pages f n) v ≡ true → (f ≤ v) × (v < f + n)
range_of f n v h = let p = and_parts (nat_le f v) (nat_lt v (f + n)) h in (leb-true f v p.0, ltb-true v (f + n) p.1)

-- pages up to there are user pages
pub range_user : (f n : ℕ) → f + n ≤ end_of_user_pages → (v : ℕ) → holds_page (pages f n) v ≡ true → v < end_of_user_pages
range_user f n high v h = let r = (range_of f n v h).1 in omega (arith, r, high)

pub givable : (t : JoinedParts) (pid : Pid) (f n : ℕ)
    → ((v : ℕ) → f ≤ v → v < f + n → (life_in t).stands (Private pid (record { 0 = v })) ≡ held.Dead)
    → ((v : ℕ) → f ≤ v → v < f + n → (life_in t).valid (place_from pid (record { 0 = v })) ≡ None)
    → (shown_of t).aside ≡ None → Givable t pid.0 (pages f n)
givable t pid f n dead invalid alone = record {
  dead = λ x of h. let r = range_of f n x.vpn.0 h in ap (λ (p : Pid). (life_in t).stands (Private p x.vpn)) (λ i. record { 0 = of i }) ∙ dead x.vpn.0 r.0 r.1;
  invalid = λ x of h. let r = range_of f n x.vpn.0 h in ap (λ (p : Pid). (life_in t).valid (place_from p x.vpn)) (λ i. record { 0 = of i }) ∙ invalid x.vpn.0 r.0 r.1;
  none = no_place t.words.aside alone;
}

-- ---- pages get older

pub valid_is : (e : Entry) → is_valid_entry e ≡ is_some (valid_frame e)
valid_is (entry.Paged s) = refl
valid_is _ = refl

-- ---- the page of a working set that goes next, as the place that goes next in its process

aged_some : (o : Option ℕ) → is_some o ≡ true → o ≡ Some (unwrap_or o 0)
aged_some None h = cc
aged_some (Some n) h = refl

module _ (t : JoinedParts) (aged : (p : Place) → is_some (t.ages p) ≡ is_valid_entry (t.words.at p)) (pid : Pid) where
  aged_valid : (p : Place) (a : ℕ) → t.ages p ≡ Some a → (is_some ((life_in t).valid p) ≡ true) × ((shown_of t).ages p ≡ a)
  aged_valid p a h = (sym (valid_is (t.words.at p)) ∙ sym (aged p) ∙ ap is_some h, ap (λ o. unwrap_or o 0) h)

  valid_aged : (p : Place) → is_some ((life_in t).valid p) ≡ true → t.ages p ≡ Some ((shown_of t).ages p)
  valid_aged p h = aged_some (t.ages p) (aged p ∙ valid_is (t.words.at p) ∙ h)

  -- the age of a page of this process
  page_aged : (q : Place) → q.pid.0 ≡ pid.0 → is_some ((life_in t).valid q) ≡ true → ages_in t.ages pid q.vpn.0 ≡ Some ((shown_of t).ages q)
  page_aged q e h = ap t.ages (λ i. record { pid = record { 0 = sym e i }; vpn = q.vpn }) ∙ valid_aged q h

  abbrev Held : Option Vpn → Type 0
  Held after = ForSome after (λ v. is_some ((life_in t).valid (place_from pid v)) ≡ true)

  abbrev page : Option Vpn → Option ℕ
  page after = option_map (λ w. w.0) after

  follows_by : (after : Option Vpn) → Held after → (v : Vpn) → GoesBehind (ages_in t.ages pid) (page after) v.0 ((shown_of t).ages (place_from pid v)) → FollowsPage (shown_of t).ages (after_page pid after) (place_from pid v)
  follows_by None held v h = tt
  follows_by (Some w) held v h = h ((shown_of t).ages (place_from pid w)) (valid_aged (place_from pid w) (held w refl))

  goes_by : (after : Option Vpn) → (q : Place) → FollowsPage (shown_of t).ages (after_page pid after) q → GoesBehind (ages_in t.ages pid) (page after) q.vpn.0 ((shown_of t).ages q)
  goes_by None q h = tt
  goes_by (Some w) q h = λ a e. subst (λ (n : ℕ). GoesBefore w.0 n q.vpn.0 ((shown_of t).ages q)) ((aged_valid (place_from pid w) a e).1) h

  oldest_next : (after : Option Vpn) → Held after → (v : Vpn) → IsOldestOf (ages_in t.ages pid) (page after) v.0 → IsNextPage (life_in t) (shown_of t).ages (after_page pid after) (place_from pid v)
  oldest_next after held v o =
      let here = aged_valid (place_from pid v) o.age o.held in
      record {
        valid = here.0;
        follows = follows_by after held v (subst (λ (n : ℕ). GoesBehind (ages_in t.ages pid) (page after) v.0 n) (sym here.1) o.follows);
        first = λ q e h f. elim (o.first q.vpn.0 ((shown_of t).ages q) (page_aged q e h) (goes_by after q f)) [
          | inl s ↦ inl (λ i. record { pid = record { 0 = e i }; vpn = record { 0 = s i } })
          | inr s ↦ inr (subst (λ (n : ℕ). GoesBefore v.0 n q.vpn.0 ((shown_of t).ages q)) (sym here.1) s)
        ];
      }

  -- as it is answered
  pub next_told : (after r : Option Vpn) → Held after → MatchOption r (NoneBehind (ages_in t.ages pid) (page after)) (λ v. IsOldestOf (ages_in t.ages pid) (page after) v.0)
      → MatchOption r (NoPageFollows (life_in t) (shown_of t).ages pid.0 (after_page pid after)) (λ v. IsNextPage (life_in t) (shown_of t).ages (after_page pid after) (place_from pid v))
  next_told after None held h = λ q e g f. h q.vpn.0 ((shown_of t).ages q) (page_aged q e g) (goes_by after q f)
  next_told after (Some v) held h = oldest_next after held v h

  pub oldest_told : (r : Option Vpn) → MatchOption r (NoneBehind (ages_in t.ages pid) None) (λ v. IsOldestOf (ages_in t.ages pid) None v.0)
      → IfSome r (λ v. IsOldest (life_in t) (shown_of t).ages None (place_from pid v))
  oldest_told None h = tt
  oldest_told (Some v) h =
      let none : Held None = (λ w e. cc) in
      let next = oldest_next None none v h in
      next_oldest (life_in t) (shown_of t).ages None None (place_from pid v) (λ q e g. tt) next (all_go (life_in t) (place_from pid v) ∙ next.valid)

  -- the next page of those with an age is the next of the valid ones
  pub next_shown : (from : ℕ) (r : Option Vpn) → IsNextFrom (λ v. is_some (ages_in t.ages pid v)) from r → IsNextFrom (λ v. is_some ((life_in t).valid (place_from pid (record { 0 = v })))) from r
  next_shown from r h = subst (λ (f : ℕ → Bool). IsNextFrom f from r) (λ i. λ v. (aged (place_from pid (record { 0 = v })) ∙ valid_is (t.words.at (place_from pid (record { 0 = v })))) i) h

-- the ages that the words show are of exactly the valid places
pub ages_held : (t : JoinedParts) (pid : Pid) (after : Option Vpn) → ((p : Place) → is_some (t.ages p) ≡ is_valid_entry (t.words.at p))
    → ForSome after (λ v. is_some ((life_in t).valid (place_from pid v)) ≡ true) → ForSome after (λ v. is_some (ages_in t.ages pid v.0) ≡ true)
ages_held t pid after aged h = λ v e. aged (place_from pid v) ∙ valid_is (t.words.at (place_from pid v)) ∙ h v e
