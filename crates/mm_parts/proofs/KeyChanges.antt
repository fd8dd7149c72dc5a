-- The word of one key changes, and with it the record of one frame that no place is valid for and that is no other key's.
use Rattle.std.proofs.Common.{◌≡◌, ◌≢◌, ◌⊎◌, ℕ, Bool, true, false, cond, List, Option, Some, refl, sym, ap, ◌∙◌, inl, inr, arith, length}
use Rattle.std.specs.Prelude.{◌==◌, ◌&&◌, not, is_some, option_map, slice_index_or}
use Rattle.std.proofs.lemmas.Bool.{and_parts, not-true}
use Rattle.std.proofs.lemmas.List.{get_or_past}
use Rattle.mm_types.proofs.Cells.{same_or_not}
use Rattle.mm_types.proofs.Options.{some_map}
use Rattle.mm_types.specs.{Frame, Area, Block, Key, Place, Record, Move, MachineOf}
use Rattle.mm_types.specs.declared.numbers.Key.TheVariants.{Private, Shared}
use Rattle.mm_types.specs.declared.frames.Held.TheVariants as held
use Rattle.mm_move_rules.specs.{FrameTable, blank, record_at, changed, same_key, same_place, set_in, IsLegal, is_touch, after_move}
use Rattle.mm_move_laws.proofs.PlaceCounts.{same_place-self}
use Rattle.mm_move_laws.proofs.Facts.{reached_by}
use Rattle.mm_pfn_database.specs.{has_block}
use Rattle.mm_requests.specs.{FlightOf}
use Rattle.mm_page_tables.specs.{Entry, Aside, WordsOf, key_entry, with_entry, with_own, keeps_places, is_valid_entry, is_aside, place_from}
use Rattle.mm_page_tables.specs.declared.layout.Entry.TheVariants as entry
use Rattle.mm_parts.specs.{JoinedParts, LineOf, owners, owned_by, held_by, stands_of, valid_of, names_of, is_of_paging_file, paging_of, life_of, life_in}
use Rattle.mm_parts.specs.{shown_of, requests, is_own_line, WordsKept, is_aside_entry, names_other, PartsKept, LineKept, AreWaits, parts_after}
use Rattle.mm_parts.proofs.Stands.{paging_at, same_life, if_either, by_key, by_place, own_cases, stands_set, stands_owner, proto_by, left_set, sets_set, valid_set, word_set}
use Rattle.mm_parts.proofs.Stands.{Rewrites}
use Rattle.mm_parts.proofs.Keeping.{Step, known}
use Rattle.mm_parts.proofs.Stands.{names_owner}

-- ---- entries

abbrev pub is_proto : Entry → Bool
is_proto (entry.Proto a i) = true
is_proto _ = false

abbrev pub is_file : Entry → Bool
is_file (entry.InFile b) = true
is_file _ = false

-- an entry that a key's word can be where no place is valid for its page
abbrev pub is_resting : Key → Entry → Bool
is_resting (Private p v) e = not (is_valid_entry e) && not (is_file e)
is_resting (Shared a i) e = not (is_valid_entry e) && not (is_proto e)

pub rests : (k : Key) (e : Entry) → is_valid_entry e ≡ false → is_file e ≡ false → is_proto e ≡ false → is_resting k e ≡ true
rests (Private p v) e calm file proto = rw (calm, file) refl
rests (Shared a i) e calm file proto = rw (calm, proto) refl

pub resting_calm : (k : Key) (e : Entry) → is_resting k e ≡ true → is_valid_entry e ≡ false
resting_calm (Private p v) e h = not-true (is_valid_entry e) (and_parts (not (is_valid_entry e)) (not (is_file e)) h).0
resting_calm (Shared a i) e h = not-true (is_valid_entry e) (and_parts (not (is_valid_entry e)) (not (is_proto e)) h).0

-- the key is the one beside the tables
abbrev pub is_beside : WordsOf → Key → Bool
is_beside w (Private p v) = is_aside w.aside (place_from p v)
is_beside w (Shared a i) = false

-- ---- what a change of a word leaves

pub aside_set : (w : WordsOf) (k : Key) (e : Entry) → option_map (λ x. x.place) (with_entry w k e).aside ≡ option_map (λ x. x.place) w.aside
aside_set w (Private p v) e = own_cases w (place_from p v) e (λ y. option_map (λ x. x.place) y.aside ≡ option_map (λ x. x.place) w.aside) (λ off. refl)
    (λ b. ap Some b.place ∙ sym (ap (option_map (λ (x : Aside). x.place)) b.is))
aside_set w (Shared a i) e = refl

at_by : (b : Bool) (w : WordsOf) (place : Place) (e : Entry) (p : Place) (x : Entry) → (with_own b w place e).at p ≡ x → (e ≡ x) ⊎ (w.at p ≡ x)
at_by true w place e p x h = inr h
at_by false w place e p x h = if_either (same_place p place) e (w.at p) x h

no_file_set : (w : WordsOf) (k : Key) (e : Entry) → is_resting k e ≡ true → ((p : Place) (b : Block) → w.at p ≢ entry.InFile b) → (p : Place) (b : Block) → (with_entry w k e).at p ≢ entry.InFile b
no_file_set w (Private q v) e h kept p b at = elim (at_by (is_aside w.aside (place_from q v)) w (place_from q v) e p (entry.InFile b) at) [
  | inl s ↦ let two = and_parts (not (is_valid_entry e)) (not (is_file e)) h in let bad : true ≡ false = sym (ap is_file s) ∙ not-true (is_file e) two.1 in cc
  | inr m ↦ kept p b m
]
no_file_set w (Shared a i) e h kept p b at = kept p b at

no_proto_set : (w : WordsOf) (k : Key) (e : Entry) → is_resting k e ≡ true → ((a i : ℕ) (b : Area) (j : ℕ) → w.proto a i ≢ entry.Proto b j) → (a i : ℕ) (b : Area) (j : ℕ) → (with_entry w k e).proto a i ≢ entry.Proto b j
no_proto_set w (Private q v) e h kept a i b j at = kept a i b j (sym (proto_by (is_aside w.aside (place_from q v)) w (place_from q v) e a i) ∙ at)
no_proto_set w (Shared c m) e h kept a i b j at = elim (if_either ((a == c.0) && (i == m)) e (w.proto a i) (entry.Proto b j) at) [
  | inl s ↦ let two = and_parts (not (is_valid_entry e)) (not (is_proto e)) h in let bad : true ≡ false = sym (ap is_proto s) ∙ not-true (is_proto e) two.1 in cc
  | inr was ↦ kept a i b j was
]

beside_set : (w : WordsOf) (k : Key) (e : Entry) → (is_beside w k ≡ true → is_aside_entry e ≡ true) → ((x : Aside) → w.aside ≡ Some x → (is_aside_entry x.entry ≡ true) × (w.bound x.place ≡ true))
    → (x : Aside) → (with_entry w k e).aside ≡ Some x → (is_aside_entry x.entry ≡ true) × (w.bound x.place ≡ true)
beside_set w (Private q v) e h kept x at = own_cases w (place_from q v) e (λ y. y.aside ≡ Some x → (is_aside_entry x.entry ≡ true) × (w.bound x.place ≡ true)) (λ off at. kept x at)
    (λ b at.
    let entry_is : e ≡ x.entry = cc in
    let place_is : place_from q v ≡ x.place = cc in
    (ap is_aside_entry (sym entry_is) ∙ h b.on, ap w.bound (sym place_is ∙ b.place) ∙ (kept b.aside b.is).1))
    at
beside_set w (Shared a i) e h kept x at = kept x at

other_set : (w : WordsOf) (k : Key) (e : Entry) → ((x : Aside) → w.aside ≡ Some x → names_other (w.at x.place) ≡ true)
    → (x : Aside) → (with_entry w k e).aside ≡ Some x → names_other ((with_entry w k e).at x.place) ≡ true
other_set w (Private q v) e kept x at = own_cases w (place_from q v) e (λ y. y.aside ≡ Some x → names_other (y.at x.place) ≡ true)
    (λ off at. by_place x.place (place_from q v) (λ b. names_other (cond b e (w.at x.place))) (λ _. true)
    (λ s.
    let here : is_aside w.aside (place_from q v) ≡ same_place (place_from q v) x.place = ap (λ (a : Option Aside). is_aside a (place_from q v)) at in
    let on : same_place (place_from q v) x.place ≡ true = ap (λ (y : Place). same_place (place_from q v) y) s ∙ same_place-self (place_from q v) in
    let bad : false ≡ true = sym off ∙ here ∙ on in cc)
    (λ n out. kept x at))
    (λ b at. let place_is : place_from q v ≡ x.place = cc in ap (λ (y : Place). names_other (w.at y)) (sym place_is ∙ b.place) ∙ kept b.aside b.is)
    at
other_set w (Shared a i) e kept x at = kept x at

pub places_kept : (w : WordsOf) (k : Key) (e : Entry) → is_valid_entry e ≡ false → is_valid_entry (key_entry w k) ≡ false → keeps_places w k e ≡ true
places_kept w (Private p v) e a b = rw (a, b) refl
places_kept w (Shared c i) e a b = refl

-- ---- one word and one frame

-- the change of a key's word to this entry, and of a frame to this record
pub record Rewords (t : JoinedParts) (d' : FrameTable) (f : Frame) (r : Record) (k : Key) (e : Entry) : Type 0 where
  pub change : Rewrites t.table d' f.0 r
  -- no place is valid for the frame, before and after, and no other key stands in it
  pub unshared : (record_at t.table f.0).shares ≡ 0
  pub bare : r.shares ≡ 0
  pub only : (q : Key) → stands_of (owners t.table) t.words q ≡ held.Frame f → q ≡ k
  -- the entry can be that of a page at rest, and names no other frame
  pub resting : is_resting k e ≡ true
  pub beside : is_beside t.words k ≡ true → is_aside_entry e ≡ true
  pub lands : (g : Frame) → e ≡ entry.Transition g → g.0 ≡ f.0
  pub calm : is_valid_entry (key_entry t.words k) ≡ false

-- a frame that is not there: where a word changes and no frame
pub beyond : FrameTable → Frame
beyond d = record { 0 = length d.records }

pub beyond_blank : (d : FrameTable) → record_at d (beyond d).0 ≡ blank
unfolding beyond
beyond_blank d = get_or_past d.records (length d.records) blank (omega arith)

module _ (t : JoinedParts) (kept : PartsKept t) (d' : FrameTable) (f : Frame) (r : Record) (k : Key) (e : Entry) (re : Rewords t d' f r k e) where
  valid_elsewhere : (p : Place) (g : Frame) → valid_of t.words p ≡ Some g → g.0 ≢ f.0
  valid_elsewhere p g v same = let some = (known t kept).shares p g v in let none : (record_at t.table g.0).shares ≡ 0 = ap (λ (x : ℕ). (record_at t.table x).shares) same ∙ re.unshared in omega (arith, some, none)

  owner_kept : (p : Place) (g : Frame) → valid_of t.words p ≡ Some g → owners d' g.0 ≡ owners t.table g.0
  owner_kept p g v = ap (λ (x : Record). x.owner) (re.change.elsewhere g.0 (valid_elsewhere p g v))

  pub key_stands : (q : Key) → stands_of (owners d') (with_entry t.words k e) q ≡ changed same_key (stands_of (owners t.table) t.words) k (held_by (owned_by (owners d') k) e) q
  key_stands q = stands_set (owners d') t.words k e q
      ∙ ap (λ h. cond (same_key q k) (held_by (owned_by (owners d') k) e) h) (stands_owner (owners t.table) (owners d') t.words kept.words.beside owner_kept q)

  -- every other key is a page-file key or not as before
  pub key_paging : (q : Key) → paging_of d' (stands_of (owners d') (with_entry t.words k e)) q ≡ changed same_key (paging_of t.table (stands_of (owners t.table) t.words)) k (is_of_paging_file d' (held_by (owned_by (owners d') k) e)) q
  key_paging q = ap (is_of_paging_file d') (key_stands q)
      ∙ by_key q k (λ b. is_of_paging_file d' (cond b (held_by (owned_by (owners d') k) e) (stands_of (owners t.table) t.words q))) (λ b. cond b (is_of_paging_file d' (held_by (owned_by (owners d') k) e)) (is_of_paging_file t.table (stands_of (owners t.table) t.words q))) (λ s. refl)
      (λ n. paging_at t.table d' (stands_of (owners t.table) t.words q) (λ g at. ap (λ (x : Record). has_block x.backing) (re.change.elsewhere g.0 (λ same. n (re.only q (at ∙ λ i. held.Frame (record { 0 = same i })))))))

  key_words : WordsKept d' (with_entry t.words k e)
  key_words =
      let w = t.words in
      let shares_here : (record_at d' f.0).shares ≡ 0 = ap (λ (x : Record). x.shares) re.change.here ∙ re.bare in
      let other : (q : Key) (x : Entry) → key_entry (with_entry t.words k e) q ≡ x → (e ≡ x) ⊎ (key_entry t.words q ≡ x) =
      (λ q x h. if_either (same_key q k) e (key_entry t.words q) x (sym (word_set t.words k e q) ∙ h)) in
      let both = beside_set w k e re.beside (λ x at. (kept.words.beside x at, kept.words.beside_bound x at)) in
      record {
        transition = λ q g h. elim (other q (entry.Transition g) h) [
          | inl s ↦ ap (λ (x : ℕ). (record_at d' x).shares) (re.lands g s) ∙ shares_here
          | inr m ↦ elim (same_or_not g.0 f.0) [
            | inl s ↦ ap (λ (x : ℕ). (record_at d' x).shares) s ∙ shares_here
            | inr n ↦ ap (λ (x : Record). x.shares) (re.change.elsewhere g.0 n) ∙ kept.words.transition q g m
          ]
        ];
        valid_shared = λ a i g m h. elim (other (Shared a i) (entry.Valid g m) h) [
          | inl s ↦ let bad : true ≡ false = sym (ap is_valid_entry s) ∙ resting_calm k e re.resting in cc
          | inr n ↦
              let was = kept.words.valid_shared a i g m n in
              let here : g.0 ≢ f.0 = (λ same. let none : (record_at t.table g.0).shares ≡ 0 = ap (λ (x : ℕ). (record_at t.table x).shares) same ∙ re.unshared in let some = was.0 in omega (arith, some, none)) in
              let now : (record_at d' g.0).shares ≡ (record_at t.table g.0).shares = ap (λ (x : Record). x.shares) (re.change.elsewhere g.0 here) in
              let some = was.0 in (omega (arith, some, now), was.1)
        ];
        no_file = no_file_set w k e re.resting kept.words.no_file;
        no_proto = no_proto_set w k e re.resting kept.words.no_proto;
        beside = λ x at. (both x at).0;
        beside_bound = λ x at. ap (λ (v : WordsOf). v.bound x.place) (left_set w k e) ∙ (both x at).1;
        beside_other = other_set w k e kept.words.beside_other;
      }

  pub key_valid : (p : Place) → valid_of (with_entry t.words k e) p ≡ valid_of t.words p
  key_valid = valid_set t.words k e (places_kept t.words k e (resting_calm k e re.resting) re.calm)

  -- the state of the replay then, where the key is a page-file key as before
  pub key_life : (free' : List Bool) (flight' : List ℕ) → is_of_paging_file d' (held_by (owned_by (owners d') k) e) ≡ is_of_paging_file t.table (stands_of (owners t.table) t.words k)
      → life_of t.line d' free' (with_entry t.words k e) flight'
      ≡ record (life_in t) { frames = d'; free_slots = free'; stands = changed same_key (stands_of (owners t.table) t.words) k (held_by (owned_by (owners d') k) e); flight = flight' }
  key_life free' flight' here =
      same_life t.line d' free' flight' _ _ _ _ _ _ _ _ (λ b. slice_index_or t.line.added b false)
      (sets_set t.words k e) key_stands
      (λ q. key_paging q ∙ still q) key_valid
    where
      still : (q : Key) → changed same_key (paging_of t.table (stands_of (owners t.table) t.words)) k (is_of_paging_file d' (held_by (owned_by (owners d') k) e)) q ≡ paging_of t.table (stands_of (owners t.table) t.words) q
      still q = by_key q k (λ b. cond b (is_of_paging_file d' (held_by (owned_by (owners d') k) e)) (is_of_paging_file t.table (stands_of (owners t.table) t.words q))) (λ _. is_of_paging_file t.table (stands_of (owners t.table) t.words q))
          (λ s. here ∙ ap (λ (j : Key). is_of_paging_file t.table (stands_of (owners t.table) t.words j)) (sym s)) (λ n. refl)

  pub key_step : (x : Move) → IsLegal x (life_in t) → (n' : LineOf) (bytes' : List (Option (List ℕ))) (free' : List Bool) (flight' : FlightOf) (own' : Option Frame) (names' : Place → Option Key)
      → life_of n' d' free' (with_entry t.words k e) (requests flight'.frames own') ≡ after_move (life_in t) x
      → ((q : Place) → names_of (owners t.table) (with_entry t.words k e) q ≡ names' q)
      → LineKept n' → n'.kind ≡ t.line.kind → n'.machine ≡ t.line.machine → (is_some own' ≡ true → is_own_line t.line.kind ≡ true) → flight'.depth ≡ t.flight.depth → AreWaits d' flight'
      → Step (record t { line = n'; table = d'; bytes = bytes'; free = free'; words = with_entry t.words k e; flight = flight'; own = own' })
      (record (parts_after (shown_of t) x) { bytes = bytes'; waits = flight'.waits; own = own'; names = names' })
  key_step x legal n' bytes' free' flight' own' names' life names line same_kind same_machine own depth waits = record {
    kept = record {
      reached = reached_by (life_in t) _ x legal life kept.reached;
      line = line;
      words = key_words;
      within = record {
        requesting = λ h. ap is_own_line same_kind ∙ own h;
        copying = λ h. ap is_touch same_kind ∙ kept.within.copying (sym (some_map (λ (x : Aside). x.place) t.words.aside) ∙ ap is_some (sym (aside_set t.words k e)) ∙ some_map (λ (x : Aside). x.place) (with_entry t.words k e).aside ∙ h);
      };
      ranges = record {
        sets = λ pid s h. kept.ranges.sets pid s (ap (λ z. set_in z pid) (sym (sets_set t.words k e)) ∙ h);
        areas = λ a h. kept.ranges.areas a (ap (λ (w : WordsOf). is_some (w.sizes a)) (sym (left_set t.words k e)) ∙ h);
        user = λ p h. kept.ranges.user p (ap (λ (w : WordsOf). w.bound p) (sym (left_set t.words k e)) ∙ h);
      };
      depth = depth ∙ kept.depth ∙ ap (λ (m : MachineOf). m.depth) (sym same_machine);
      waits = waits;
    };
    shown = λ i. record (shown_of t) {
      life = life i;
      bytes = bytes';
      waits = flight'.waits;
      own = own';
      aside = aside_set t.words k e i;
      is_open = (left_set t.words k e i).is_open;
      bound = (left_set t.words k e i).bound;
      areas = (left_set t.words k e i).sizes;
      names = λ q. (names_owner (owners t.table) (owners d') (with_entry t.words k e) (λ p g v. owner_kept p g (sym (key_valid p) ∙ v)) q ∙ names q) i;
    };
  }
