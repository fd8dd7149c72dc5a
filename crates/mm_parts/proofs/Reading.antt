-- The entry of a key, by where the key stands, and what the readers read off entries and lists.
use Rattle.std.proofs.Common.{◌≡◌, ◌⊎◌, ℕ, ◌≤◌, Bool, true, false, cond, Option, Some, refl, sym, ap, ◌∙◌, inl, inr, arith, None, List, [], ◌∷◌, ◌++◌}
use Rattle.std.proofs.Common.{◌<◌, length}
use Rattle.std.specs.Prelude.{not, if◌then◌else◌, slice_get, is_some, is_none, option_map, unwrap_or, nat_lt}
use Rattle.mm_types.specs.{Frame, Key, Place, Backing, Held, Pid, Vpn}
use Rattle.mm_types.specs.declared.numbers.Key.TheVariants.{Private, Shared}
use Rattle.mm_move_rules.specs.{FrameTable, record_at, is_shared, is_live, is_dead, key_of_place, is_zero, is_stored, home_at, backing_of, is_empty, rest}
use Rattle.mm_move_rules.specs.{after_steal, taken_for_read, has_request}
use Rattle.mm_move_laws.specs.{is_backed, is_backing_for, is_home_for}
use Rattle.mm_move_laws.proofs.PlaceCounts.{same_place-true, same_place-self}
use Rattle.mm_pfn_database.specs.{has_block, FramesOf, standby_taken, free_put, emptied}
use Rattle.mm_page_tables.specs.{Entry, Aside, key_entry, is_valid_entry, place_from, bare, aside_or, has_word, valid_frame}
use Rattle.mm_parts.specs.{JoinedParts, owners, owned_by, held_by, stands_of, valid_of, is_of_paging_file, life_in, is_aside_entry, PartsKept, home_entry}
use Rattle.mm_parts.specs.{entry_backing, front, has_owner, shown_of, HasEntry, first_frame, is_private_owner, is_own_page}
use Rattle.mm_parts.proofs.Keeping.{known}
use Rattle.mm_parts.proofs.Stands.{at_place, is_used, held_same}
use Rattle.mm_parts.proofs.KeyChanges.{is_resting}
use Rattle.mm_move_rules.proofs.Held.{stored_live}
use Rattle.std.proofs.lemmas.Bool.{ltb-true, lt-ltb, or_left}
use Rattle.mm_move_laws.proofs.Sights.{kept_inside}
use Rattle.mm_types.specs.declared.frames.Backing.TheVariants as backing
use Rattle.mm_types.specs.declared.frames.Held.TheVariants as held
use Rattle.mm_page_tables.specs.declared.layout.Entry.TheVariants as entry

-- ---- a key in a frame

pub in_frame : (own : Frame → Bool) (e : Entry) (f : Frame) → held_by own e ≡ held.Frame f → (e ≡ entry.Transition f) ⊎ ((n : ℕ) × (e ≡ entry.Valid f n))
in_frame own (entry.Transition g) f h = inl (let same : g ≡ f = cc in ap entry.Transition same)
in_frame own (entry.Valid g n) f h = elim (own g) as (λ b. (if b then held.Frame g else held.Dead) ≡ held.Frame f → (entry.Valid g n ≡ entry.Transition f) ⊎ ((m : ℕ) × (entry.Valid g n ≡ entry.Valid f m))) [
  | true ↦ λ e. inr (n, (let same : g ≡ f = cc in ap (λ (x : Frame). entry.Valid x n) same))
  | false ↦ λ e. cc
] h
in_frame own _ f h = cc

-- a key that is valid in some place has a share
pub shared_by : (t : JoinedParts) → PartsKept t → (k : Key) (f : Frame) (n : ℕ) → key_entry t.words k ≡ entry.Valid f n → 1 ≤ (record_at t.table f.0).shares
shared_by t kept (Private p v) f n e = (known t kept).shares (place_from p v) f (at_place t.words (place_from p v) f n kept.words.beside e)
shared_by t kept (Shared a i) f n e = (kept.words.valid_shared a i f n e).0

-- a page that has a frame and is valid nowhere
pub resting_word : (t : JoinedParts) → PartsKept t → (k : Key) (f : Frame) → stands_of (owners t.table) t.words k ≡ held.Frame f → (record_at t.table f.0).shares ≡ 0 → key_entry t.words k ≡ entry.Transition f
resting_word t kept k f stands none = elim (in_frame (owned_by (owners t.table) k) (key_entry t.words k) f stands) [
  | inl e ↦ e
  | inr x ↦ let some = shared_by t kept k f x.0 x.1 in absurd (omega (arith, some, none))
]

-- ---- the key beside the tables

pub beside_word : (t : JoinedParts) (x : Aside) → t.words.aside ≡ Some x → key_entry t.words (key_of_place x.place) ≡ x.entry
beside_word t x e = ap (λ (a : Option Aside). aside_or a x.place (t.words.at x.place)) e ∙ ap (λ b. cond b x.entry (t.words.at x.place)) (same_place-self x.place)

-- its place is valid for a shared page alone
pub beside_shared : (t : JoinedParts) → PartsKept t → (x : Aside) → t.words.aside ≡ Some x → (f : Frame) → valid_of t.words x.place ≡ Some f → (k : Key) → (record_at t.table f.0).owner ≡ Some k → is_shared k ≡ true
beside_shared t kept x at f v (Shared a i) e = refl
beside_shared t kept x at f v (Private q u) e =
    let same : place_from q u ≡ x.place = same_place-true (place_from q u) x.place ((known t kept).fits x.place f (Private q u) v e) in
    let stands = ap (λ (y : Place). stands_of (owners t.table) t.words (key_of_place y)) (sym same) ∙ (known t kept).owned f.0 (Private q u) e in
    let some = (known t kept).shares x.place f v in
    elim (in_frame (owned_by (owners t.table) (key_of_place x.place)) (key_entry t.words (key_of_place x.place)) f stands) [
      | inl rests ↦ (let none = kept.words.transition (key_of_place x.place) f rests in absurd (omega (arith, some, none)))
      | inr y ↦ (let bad : true ≡ false = sym (kept.words.beside x at) ∙ ap is_aside_entry (sym (beside_word t x at) ∙ y.1) in cc)
    ]

-- ---- a key in no frame

pub zero_word : (own : Frame → Bool) (e : Entry) → is_zero (held_by own e) ≡ true → e ≡ entry.Zero
zero_word own (entry.Valid f n) h = elim (own f) as (λ b. is_zero (if b then held.Frame f else held.Dead) ≡ true → entry.Valid f n ≡ entry.Zero) [ true ↦ λ e. cc | false ↦ λ e. cc ] h
zero_word own _ h = cc

-- an entry of a page on a device
abbrev pub is_away : Entry → Bool
is_away (entry.Paged s) = true
is_away (entry.InFile b) = true
is_away _ = false

pub stored_word : (own : Frame → Bool) (e : Entry) → is_stored (held_by own e) ≡ true → is_away e ≡ true
stored_word own (entry.Valid f n) h = elim (own f) as (λ b. is_stored (if b then held.Frame f else held.Dead) ≡ true → false ≡ true) [ true ↦ λ e. cc | false ↦ λ e. cc ] h
stored_word own _ h = cc

pub away_calm : (e : Entry) → is_away e ≡ true → is_valid_entry e ≡ false
away_calm (entry.Valid f n) h = cc
away_calm _ h = refl

-- ---- where a page without a frame stands

pub home_held : (own : Frame → Bool) (b : Backing) → held_by own (home_entry b) ≡ home_at b
home_held own (backing.Slot s) = refl
home_held own _ = refl

pub home_paging : (d : FrameTable) (own : Frame → Bool) (b : Backing) → is_of_paging_file d (held_by own (home_entry b)) ≡ not (has_block b)
home_paging d own (backing.Slot s) = refl
home_paging d own _ = refl

pub home_lands : (b : Backing) (g f : Frame) → home_entry b ≡ entry.Transition g → g.0 ≡ f.0
home_lands (backing.Slot s) g f e = cc
home_lands _ g f e = cc

home_own : (b : Backing) → has_block b ≡ false → is_aside_entry (home_entry b) ≡ true
home_own backing.None h = refl
home_own _ h = cc

pub home_resting : (k : Key) (b : Backing) → (is_shared k ≡ false → has_block b ≡ false) → is_resting k (home_entry b) ≡ true
home_resting (Private p v) (backing.Block b) h = let bad : true ≡ false = h refl in cc
home_resting (Shared a i) backing.None h = refl
home_resting _ _ h = refl

pub home_used : (b : Backing) → has_block b ≡ false → is_backed b ≡ true → is_used (home_entry b) ≡ true
home_used backing.None h k = cc
home_used _ h k = cc

pub backing_bare : (e : Entry) → entry_backing (bare e) ≡ entry_backing e
backing_bare (entry.Paged s) = refl
backing_bare _ = refl

pub backing_held : (own : Frame → Bool) (e : Entry) → backing_of (held_by own e) ≡ entry_backing e
backing_held own (entry.Valid f n) = elim (own f) as (λ b. backing_of (if b then held.Frame f else held.Dead) ≡ backing.None) [ true ↦ refl | false ↦ refl ]
backing_held own _ = refl

pub stored_paging : (d d' : FrameTable) (h : Held) (f : Frame) → is_stored h ≡ true → (record_at d' f.0).backing ≡ backing_of h → is_of_paging_file d' (held.Frame f) ≡ is_of_paging_file d h
stored_paging d d' (held.Slot s) f e b = ap (λ x. not (has_block x)) b
stored_paging d d' (held.Block c) f e b = ap (λ x. not (has_block x)) b
stored_paging d d' _ f e b = cc

-- ---- private pages are on no block

pub no_block : (b : Bool) (x : Backing) → b ≡ true → is_backing_for b x ≡ true → has_block x ≡ false
no_block b (backing.Block c) e h = let bad : false ≡ true = sym (ap not e) ∙ h in cc
no_block b _ e h = cc

pub own_backing : (t : JoinedParts) → PartsKept t → (k : Key) (f : Frame) → (record_at t.table f.0).owner ≡ Some k → is_shared k ≡ false → has_block (record_at t.table f.0).backing ≡ false
own_backing t kept k f owner own =
    let facts = known t kept in
    let live : is_live (life_in t) k ≡ true = ap (λ h. not (is_dead h)) (facts.owned f.0 k owner) in
    no_block ((life_in t).paging k) (record_at t.table f.0).backing (facts.paged k own live) (facts.backing f.0 k owner)

pub home_aside : (t : JoinedParts) → PartsKept t → (k : Key) (f : Frame) → (record_at t.table f.0).owner ≡ Some k → is_shared k ≡ false → is_aside_entry (home_entry (record_at t.table f.0).backing) ≡ true
home_aside t kept k f owner own = home_own (record_at t.table f.0).backing (own_backing t kept k f owner own)

away_used : (d : FrameTable) (own : Frame → Bool) (e : Entry) → is_away e ≡ true → is_home_for (is_of_paging_file d (held_by own e)) (held_by own e) ≡ true → is_of_paging_file d (held_by own e) ≡ true → is_used e ≡ true
away_used d own (entry.Paged s) h k p = refl
away_used d own _ h k p = cc

-- a private page on a device is in a slot
pub stored_used : (t : JoinedParts) → PartsKept t → (k : Key) → is_stored (stands_of (owners t.table) t.words k) ≡ true → is_shared k ≡ false → is_used (key_entry t.words k) ≡ true
stored_used t kept k stored own =
    let facts = known t kept in
    let live : is_live (life_in t) k ≡ true = stored_live (stands_of (owners t.table) t.words k) stored in
    away_used t.table (owned_by (owners t.table) k) (key_entry t.words k) (stored_word (owned_by (owners t.table) k) (key_entry t.words k) stored) (facts.home k) (facts.paged k own live)

-- ---- the first frames of lists

pub front_is : (xs : List ℕ) (b : ℕ) (f : Frame) → slice_get xs 0 ≡ Some b → f.0 ≡ b → f ≡ front xs
front_is [] b f e h = cc
front_is (x ∷ xs) b f e h = let same : x ≡ b = cc in let is : f.0 ≡ x = h ∙ sym same in λ i. record { 0 = is i }

pub some_front : (xs : List ℕ) (b : ℕ) → slice_get xs 0 ≡ Some b → is_empty xs ≡ false
some_front [] b e = cc
some_front (x ∷ xs) b e = refl

pub no_front : (xs : List ℕ) → slice_get xs 0 ≡ None → is_empty xs ≡ true
no_front [] e = refl
no_front (x ∷ xs) e = cc

pub taken_free : (d : FrameTable) (b : ℕ) → slice_get d.free 0 ≡ Some b → record d { free = rest d.free } ≡ taken_for_read d
taken_free d b e = sym (ap (λ c. if c then record d { zeroed = rest d.zeroed } else record d { free = rest d.free }) (some_front d.free b e))

pub taken_zeroed : (d : FrameTable) → slice_get d.free 0 ≡ None → record d { zeroed = rest d.zeroed } ≡ taken_for_read d
taken_zeroed d e = sym (ap (λ c. if c then record d { zeroed = rest d.zeroed } else record d { free = rest d.free }) (no_front d.free e))

-- ---- steal

pub stolen_table : (v : FramesOf) (f : ℕ) → slice_get v.table.standby 0 ≡ Some f → (free_put (standby_taken v) f).table ≡ after_steal v.table f
stolen_table v f e = ap (λ o. record v.table { records = emptied v.table.records o; standby = rest v.table.standby; free = v.table.free ++ f ∷ [] }) e

-- ---- fronts

pub first_is : (xs : List ℕ) (o : Option Frame) → option_map (λ f. f.0) o ≡ slice_get xs 0 → o ≡ first_frame xs
first_is [] None e = refl
first_is (x ∷ xs) (Some f) e = let same : f.0 ≡ x = cc in λ i. Some (record { 0 = same i })
first_is _ _ e = cc

pub none_first : (xs : List ℕ) → is_none (first_frame xs) ≡ is_empty xs
none_first [] = refl
none_first (x ∷ xs) = refl

-- ---- where a key stands

bare_held : (own : Frame → Bool) (e : Entry) → held_by own (bare e) ≡ held_by own e
bare_held own (entry.Paged s) = refl
bare_held own _ = refl

bare_valid : (e w : Entry) (f : Frame) (n : ℕ) → bare e ≡ w → e ≡ entry.Valid f n → w ≡ entry.Valid f 0
bare_valid e w f n told is = sym told ∙ ap bare is

-- the frame of a valid entry of a private key is its own, exactly where its page is a private one
own_by_page : (t : JoinedParts) → PartsKept t → (p : Pid) (v : Vpn) (f : Frame) → key_entry t.words (Private p v) ≡ entry.Valid f 0
    → is_private_owner (owners t.table f.0) ≡ has_owner (owners t.table f.0) (Private p v)
own_by_page t kept p v f word = by (owners t.table f.0) refl
  where
    there : valid_of t.words (place_from p v) ≡ Some f
    there = at_place t.words (place_from p v) f 0 kept.words.beside word

    by : (o : Option Key) → owners t.table f.0 ≡ o → is_private_owner o ≡ has_owner o (Private p v)
    by (Some (Private q u)) e = sym ((known t kept).fits (place_from p v) f (Private q u) there e)
    by _ e = cc

own_told : (t : JoinedParts) → PartsKept t → (k : Key) (f : Frame) → key_entry t.words k ≡ entry.Valid f 0 → is_own_page k (owners t.table f.0) ≡ owned_by (owners t.table) k f
own_told t kept (Private p v) f word = own_by_page t kept p v f word
own_told t kept (Shared a i) f word = refl

-- where a key stands, by its entry as it is told
pub stands_told : (t : JoinedParts) → PartsKept t → (k : Key) (e : Entry) (own : Bool) → bare e ≡ key_entry t.words k
    → ((f : Frame) → valid_frame e ≡ Some f → own ≡ is_own_page k (record_at t.table f.0).owner) → held_by (λ _. own) e ≡ (life_in t).stands k
stands_told t kept k e own told page =
    held_same (λ _. own) (owned_by (owners t.table) k) e (λ f n is. page f (ap valid_frame is) ∙ own_told t kept k f (bare_valid e (key_entry t.words k) f n told is))
    ∙ sym (bare_held (owned_by (owners t.table) k) e)
    ∙ ap (held_by (owned_by (owners t.table) k)) told

-- the frame of a valid entry is there
pub told_low : (t : JoinedParts) → PartsKept t → (k : Key) (e : Entry) → bare e ≡ key_entry t.words k → (f : Frame) → valid_frame e ≡ Some f → f.0 < length t.table.records
told_low t kept k e told f v = by e refl v
  where
    kept_low : 1 ≤ (record_at t.table f.0).shares → f.0 < length t.table.records
    kept_low some = kept_inside t.table f.0 (or_left (is_some (record_at t.table f.0).owner) (has_request (record_at t.table f.0).request)
        (((known t kept).standing f.0).fit.shown (lt-ltb 0 (record_at t.table f.0).shares (omega (arith, some)))))

    by : (x : Entry) → e ≡ x → valid_frame x ≡ Some f → f.0 < length t.table.records
    by (entry.Valid c n) g h =
        let same : c ≡ f = cc in
        kept_low (shared_by t kept k f 0 (bare_valid e (key_entry t.words k) f n told (g ∙ ap (λ (y : Frame). entry.Valid y n) same)))
    by _ g h = cc

-- ---- keys that have a word

pub word_home : (t : JoinedParts) (k : Key) → has_word t.words k ≡ true → HasEntry (shown_of t).bound (shown_of t).areas k
word_home t (Private p v) h = h
word_home t (Shared a i) h = elim (t.words.sizes a.0) as (λ o. t.words.sizes a.0 ≡ o → unwrap_or (option_map (λ n. nat_lt i n) o) false ≡ true → HasEntry (shown_of t).bound (shown_of t).areas (Shared a i)) [
  | None ↦ λ e x. cc
  | Some n ↦ λ e x. (n, (e, ltb-true i n x))
] refl h
