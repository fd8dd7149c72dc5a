-- What the words show after one of the processes changed, or one of the areas.
use Rattle.std.proofs.Common.{◌≡◌, ◌≢◌, ℕ, zero, suc, ◌+◌, ◌<◌, Bool, true, false, cond, List, [], ◌∷◌, length, map, Option, Some, None, refl}
use Rattle.std.proofs.Common.{sym, ap, ◌∙◌, inl, inr, arith, replicate}
use Rattle.std.specs.Prelude.{◌==◌, ◌&&◌, is_some, if◌then◌else◌, slice_get, slice_set, slice_index_or, ◌++◌, option_map, Result, Ok, Err, OnOk}
use Rattle.std.specs.Prelude.{OnErr, nat_lt, IsSome, unwrap_or}
use Rattle.mm_types.specs.{Range, holds_page, Pid, Vpn, Place}
use Rattle.mm_types.proofs.{same_or_not, get_set_same, get_set_other, get_last, is_there, none_of, some_map}
use Rattle.mm_page_tables.specs.{ages_in, Entry, entry_or, WordsOf, bare, changed_in, AreaWords, Aside, shown_words, Process, bound_of, place_from, at_of}
use Rattle.mm_page_tables.specs.{age_of, resident_of, resident_set, resident_by_numbers, EntryBecomes, Rebinds, ProcessBegins, KeepsPages, process_in}
use Rattle.mm_page_tables.specs.{read_or, bound_in, at_in, age_of_place, is_open_in, AsideBound, IsEntry, entry_word, proto_word, area_words, entry_in}
use Rattle.mm_page_tables.specs.{changed_at, proto_in, size_in, no_words, is_valid_entry}
use Rattle.mm_move_rules.specs.{changed, same_place, with_resident, resident_by, set_in, ResidentSet}
use Rattle.std.specs.Ordering.{nat_cmp}
use Rattle.std.specs.FinMap.{FinMap}
use Rattle.std.proofs.Math.Path.{fun_ext}
use Rattle.std.proofs.lemmas.List.{map-set, map-append, set-get_or, length-replicate}
use Rattle.std.proofs.lemmas.Option.{slice_get-get_or, slice_get-map, slice_get_past}
use Rattle.mm_page_tables.proofs.KeptProcesses.{by_test, here, elsewhere, gone, left}
use Rattle.std.specs.Option.{option_and_then}
use Rattle.std.proofs.Math.ListN.{length-set}
use Rattle.std.proofs.lemmas.Bool.{ltb-true}
use Rattle.mm_page_tables.proofs.EntryLemmas.{entry_again, zero_is_empty}
use Rattle.mm_page_tables.proofs.AreaLemmas.{word_within}
use Rattle.mm_page_tables.specs.declared.layout.Entry.TheVariants as entry
use Rattle.std.specs.FinMap as finite

there_by : (read : Process → Bool) (o : Option Process) → read_or read false o ≡ true → is_some o ≡ true
there_by read None h = cc
there_by read (Some p) h = refl

pub bound_there : (ps : List Process) (place : Place) → bound_in ps place ≡ true → is_some (process_in ps place.pid.0) ≡ true
bound_there ps place h = there_by (λ p. bound_of p place.vpn.0) (process_in ps place.pid.0) h

pub valid_there : (ps : List Process) (place : Place) → is_valid_entry (at_in ps place) ≡ true → is_some (process_in ps place.pid.0) ≡ true
valid_there ps place h = by (process_in ps place.pid.0) h
  where
    by : (o : Option Process) → is_valid_entry (read_or (λ p. at_of p place.vpn.0) entry.Empty o) ≡ true → is_some o ≡ true
    by None h = cc
    by (Some p) h = refl

pub open_there : (ps : List Process) (pid : ℕ) → is_open_in ps pid ≡ true → is_some (process_in ps pid) ≡ true
open_there ps pid h = there_by (λ p. p.is_open) (process_in ps pid) h

pub set_there : (ps : List Process) (pid : ℕ) → is_some (set_in (map resident_of ps) pid) ≡ true → is_some (process_in ps pid) ≡ true
set_there ps zero h = cc
set_there [] (suc k) h = cc
set_there (p ∷ ps) (suc zero) h = refl
set_there (p ∷ ps) (suc (suc k)) h = set_there ps (suc k) h

pub same_words : (a b : WordsOf) → ((x : Place) → a.bound x ≡ b.bound x) → ((x : ℕ) → a.is_open x ≡ b.is_open x) → ((x : Place) → a.at x ≡ b.at x)
    → ((x : ℕ) → a.sizes x ≡ b.sizes x) → ((x y : ℕ) → a.proto x y ≡ b.proto x y) → a.aside ≡ b.aside → a.sets ≡ b.sets → a ≡ b
same_words a b bo op at si pr as_is se = λ i. record { bound = λ x. bo x i; is_open = λ x. op x i; at = λ x. at x i; sizes = λ x. si x i; proto = λ x y. pr x y i; aside = as_is i; sets = se i }

-- a process that has the same table binds the same pages
pub same_bound : (p q : Process) → q.table ≡ p.table → (v : ℕ) → bound_of q v ≡ bound_of p v
same_bound p q table v = ap (λ (t : FinMap nat_cmp ℕ). is_some (finite.get t v)) table

-- the process of a pid changes from p to q
module _ (ps : List Process) (k : ℕ) (p q : Process) (within : k < length ps) (value : p ≡ slice_index_or ps k p) (pid : Pid) (next : pid.0 ≡ k + 1) where
  is_at : slice_get ps k ≡ Some p
  is_at = slice_get-get_or ps k p within ∙ ap (λ (x : Process). Some x) (sym value)

  at_next : pid.0 ≡ suc k
  at_next = omega (arith, next)

  -- what is read of a process, where the test tells whether it is this one
  reads_by : {A : Type 0} (read : Process → A) (none : A) (b : ℕ) (F : Bool → A) → (b ≡ pid.0 → read q ≡ F true) → read_or read none (process_in ps b) ≡ F false
      → read_or read none (process_in (slice_set ps k q) b) ≡ F (b == pid.0)
  reads_by read none b F here there = by_test b pid.0 F _
      (λ e. ap (λ n. read_or read none (process_in (slice_set ps k q) n)) (e ∙ at_next) ∙ ap (read_or read none) (get_set_same ps k q within) ∙ here e)
      (λ d. ap (read_or read none) (others b d) ∙ there)
    where
      others : (b : ℕ) → b ≢ pid.0 → process_in (slice_set ps k q) b ≡ process_in ps b
      others zero d = refl
      others (suc j) d = get_set_other ps k j q (λ e. d (ap suc e ∙ sym at_next))

  read_was : {A : Type 0} (read : Process → A) (none : A) (b : ℕ) → b ≡ pid.0 → read_or read none (process_in ps b) ≡ read p
  read_was read none b e = ap (λ n. read_or read none (process_in ps n)) (e ∙ at_next) ∙ ap (read_or read none) is_at

  -- what it shows stays, changes at one page, or at the pages of a range
  stays : {A : Type 0} (read : Process → A) (none : A) → read q ≡ read p → (b : ℕ) → read_or read none (process_in (slice_set ps k q) b) ≡ read_or read none (process_in ps b)
  stays read none same b = reads_by read none b (λ _. read_or read none (process_in ps b)) (λ e. same ∙ sym (read_was read none b e)) refl

  changed_reads : {A : Type 0} (read : Process → ℕ → A) (none a : A) (v : Vpn) → ((n : ℕ) → read q n ≡ changed ◌==◌ (read p) v.0 a n)
      → (x : Place) → read_or (λ r. read r x.vpn.0) none (process_in (slice_set ps k q) x.pid.0) ≡ changed same_place (λ y. read_or (λ r. read r y.vpn.0) none (process_in ps y.pid.0)) (place_from pid v) a x
  changed_reads read none a v change x = reads_by (λ r. read r x.vpn.0) none x.pid.0 (λ t. cond (t && (x.vpn.0 == v.0)) a (read_or (λ r. read r x.vpn.0) none (process_in ps x.pid.0)))
      (λ e. change x.vpn.0 ∙ ap (λ t. cond (x.vpn.0 == v.0) a t) (sym (read_was (λ r. read r x.vpn.0) none x.pid.0 e))) refl

  range_reads : {A : Type 0} (read : Process → ℕ → A) (none a : A) (r : Range) → ((v : ℕ) → read q v ≡ (if holds_page r v then a else read p v))
      → (x : Place) → read_or (λ s. read s x.vpn.0) none (process_in (slice_set ps k q) x.pid.0) ≡ changed_in (λ y. read_or (λ s. read s y.vpn.0) none (process_in ps y.pid.0)) pid.0 r a x
  range_reads read none a r change x = reads_by (λ s. read s x.vpn.0) none x.pid.0 (λ t. cond (t && holds_page r x.vpn.0) a (read_or (λ s. read s x.vpn.0) none (process_in ps x.pid.0)))
      (λ e. change x.vpn.0 ∙ ap (λ t. cond (holds_page r x.vpn.0) a t) (sym (read_was (λ s. read s x.vpn.0) none x.pid.0 e))) refl

  -- ---- the working sets

  set_is : slice_get (map resident_of ps) k ≡ Some (resident_of p)
  set_is = slice_get-map resident_of ps k ∙ ap (option_map resident_of) is_at

  pub set_at_index : set_in (map resident_of ps) pid.0 ≡ Some (resident_of p)
  set_at_index = ap (set_in (map resident_of ps)) at_next ∙ set_is

  sets_now : (s : ResidentSet) → resident_of q ≡ s → map resident_of (slice_set ps k q) ≡ slice_set (map resident_of ps) k s
  sets_now s is = map-set resident_of ps k q ∙ ap (slice_set (map resident_of ps) k) is

  pub sets_stay : resident_of q ≡ resident_of p → map resident_of (slice_set ps k q) ≡ map resident_of ps
  sets_stay same = sets_now (resident_of p) same ∙ sym (map-set resident_of ps k p) ∙ ap (map resident_of) (ap (slice_set ps k) value ∙ set-get_or ps k p)

  pub sets_move : (change : ℕ → ℕ) → resident_of q ≡ record (resident_of p) { resident = change (resident_of p).resident }
      → map resident_of (slice_set ps k q) ≡ with_resident (map resident_of ps) pid.0 change
  sets_move change moved = sets_now _ moved ∙ sym (ap (λ n. with_resident (map resident_of ps) n change) at_next ∙ ap (λ o. resident_by o (map resident_of ps) k change) set_is)

  -- ---- the words and ages of all processes

  pub entry_words : (areas : AreaWords) (aside : Option Aside) (v : Vpn) (e : Entry) (sets : List ResidentSet) → EntryBecomes p q v.0 e → map resident_of (slice_set ps k q) ≡ sets
      → shown_words (slice_set ps k q) areas aside ≡ record (shown_words ps areas aside) { at = changed same_place (at_in ps) (place_from pid v) e; sets = sets }
  entry_words areas aside v e sets b moved = same_words _ _ (λ x. stays (λ r. bound_of r x.vpn.0) false (b.bound x.vpn.0) x.pid.0)
      (stays (λ r. r.is_open) false b.opened) (changed_reads at_of entry.Empty e v b.at) (λ _. refl) (λ _ _. refl) refl moved

  table_words : (areas : AreaWords) (aside : Option Aside) (opens : ℕ → Bool) → ((b : ℕ) → is_open_in (slice_set ps k q) b ≡ opens b) → q.table ≡ p.table → resident_of q ≡ resident_of p
      → shown_words (slice_set ps k q) areas aside ≡ record (shown_words ps areas aside) { is_open = opens }
  table_words areas aside opens opened table resident = same_words _ _ (λ x. stays (λ r. bound_of r x.vpn.0) false (same_bound p q table x.vpn.0) x.pid.0) opened
      (λ x. stays (λ r. at_of r x.vpn.0) entry.Empty (ap (λ (t : FinMap nat_cmp ℕ). bare (entry_or (finite.get t x.vpn.0))) table) x.pid.0)
      (λ _. refl) (λ _ _. refl) refl (sets_stay resident)

  pub still_words : (areas : AreaWords) (aside : Option Aside) → q.table ≡ p.table → resident_of q ≡ resident_of p → q.is_open ≡ p.is_open
      → shown_words (slice_set ps k q) areas aside ≡ shown_words ps areas aside
  still_words areas aside table resident opened = table_words areas aside (is_open_in ps) (stays (λ r. r.is_open) false opened) table resident

  -- the process is open now, or closed
  pub opened_words : (areas : AreaWords) (aside : Option Aside) (b : Bool) → q.is_open ≡ b → KeepsPages p q
      → shown_words (slice_set ps k q) areas aside ≡ record (shown_words ps areas aside) { is_open = changed ◌==◌ (is_open_in ps) pid.0 b }
  opened_words areas aside b opened kept = table_words areas aside (changed ◌==◌ (is_open_in ps) pid.0 b)
      (λ n. reads_by (λ r. r.is_open) false n (λ t. cond t b (is_open_in ps n)) (λ _. opened) refl) kept.table kept.resident

  -- pages are bound now, or not, and their entries are these
  pub rebound_words : (areas : AreaWords) (aside : Option Aside) (r : Range) (b : Bool) (at : Place → Entry) → Rebinds p q r b → ((x : Place) → at_in (slice_set ps k q) x ≡ at x)
      → shown_words (slice_set ps k q) areas aside ≡ record (shown_words ps areas aside) { bound = changed_in (bound_in ps) pid.0 r b; at = at }
  rebound_words areas aside r b at re at_is = same_words _ _ (range_reads bound_of false b r re.bound) (stays (λ s. s.is_open) false re.opened) at_is
      (λ _. refl) (λ _ _. refl) refl (sets_stay (ap resident_set re.set))

  pub same_entries : ((v : ℕ) → at_of q v ≡ at_of p v) → (x : Place) → at_in (slice_set ps k q) x ≡ at_in ps x
  same_entries same x = stays (λ s. at_of s x.vpn.0) entry.Empty (same x.vpn.0) x.pid.0

  pub no_entries : (r : Range) → ((v : ℕ) → at_of q v ≡ (if holds_page r v then entry.Empty else at_of p v)) → (x : Place) → at_in (slice_set ps k q) x ≡ changed_in (at_in ps) pid.0 r entry.Empty x
  no_entries r at = range_reads at_of entry.Empty entry.Empty r at

  pub ages_changed : (v : Vpn) (a : Option ℕ) → ((n : ℕ) → age_of q n ≡ changed ◌==◌ (age_of p) v.0 a n) → age_of_place (slice_set ps k q) ≡ changed same_place (age_of_place ps) (place_from pid v) a
  ages_changed v a change = fun_ext (changed_reads age_of None a v change)

  pub ages_kept : q.set.ages ≡ p.set.ages → age_of_place (slice_set ps k q) ≡ age_of_place ps
  ages_kept same = fun_ext (λ x. stays (λ r. age_of r x.vpn.0) None (ap (λ (m : FinMap nat_cmp ℕ). finite.get m x.vpn.0) same) x.pid.0)

  pub older_ages : (f : ℕ → ℕ) → ((v : ℕ) → age_of q v ≡ option_map f (age_of p v))
      → (x : Place) → age_of_place (slice_set ps k q) x ≡ (if x.pid.0 == pid.0 then option_map f (age_of_place ps x) else age_of_place ps x)
  older_ages f older x = reads_by (λ r. age_of r x.vpn.0) None x.pid.0 (λ t. cond t (option_map f (age_of_place ps x)) (age_of_place ps x))
      (λ e. older x.vpn.0 ∙ ap (option_map f) (sym (read_was (λ r. age_of r x.vpn.0) None x.pid.0 e))) refl

  pub aside_kept : (aside : Option Aside) → ((v : ℕ) → bound_of q v ≡ bound_of p v) → AsideBound ps aside → AsideBound (slice_set ps k q) aside
  aside_kept aside same kept a is = stays (λ r. bound_of r a.place.vpn.0) false (same a.place.vpn.0) a.place.pid.0 ∙ kept a is

  grown : (b c : Bool) → c ≡ true → cond b true c ≡ true
  grown true c h = refl
  grown false c h = h

  pub aside_bind : {T E : Type 0} (res : Result T E) (aside : Option Aside) (r : Range) → OnOk res (Rebinds p q r true) → OnErr res (q.table ≡ p.table) → AsideBound ps aside → AsideBound (slice_set ps k q) aside
  aside_bind (Ok x) aside r re same kept a is = range_reads bound_of false true r re.bound a.place ∙ grown ((a.place.pid.0 == pid.0) && holds_page r a.place.vpn.0) (bound_in ps a.place) (kept a is)
  aside_bind (Err e) aside r re same kept a is = aside_kept aside (same_bound p q same) kept a is

  pub place_reads : {A : Type 0} (read : Process → ℕ → A) (none y : A) (v : ℕ) → read_or (λ s. read s v) none (process_in ps pid.0) ≡ y → read p v ≡ y
  place_reads read none y v h = sym (read_was (λ s. read s v) none pid.0 refl) ∙ h

  -- the ages of the pid's places are those of the process
  pub own_ages : age_of p ≡ ages_in (age_of_place ps) pid
  own_ages = fun_ext (λ v. sym (read_was (λ r. age_of r v) None pid.0 refl))

-- ---- one process more

append_other : {A : Type 0} (xs : List A) (x : A) (k : ℕ) → k ≢ length xs → slice_get (xs ++ x ∷ []) k ≡ slice_get xs k
append_other [] x zero h = absurd (h refl)
append_other [] x (suc k) h = refl
append_other (y ∷ ys) x zero h = refl
append_other (y ∷ ys) x (suc k) h = append_other ys x k (λ e. h (ap suc e))

module _ (ps : List Process) (p : Process) (min max : ℕ) (begins : ProcessBegins p min max) (qs : List Process) (is : qs ≡ ps ++ p ∷ []) where
  more_reads : {A : Type 0} (read : Process → A) (none : A) → read p ≡ none → (pid : ℕ) → read_or read none (process_in qs pid) ≡ read_or read none (process_in ps pid)
  more_reads read none same zero = refl
  more_reads read none same (suc k) = ap (λ (x : List Process). read_or read none (slice_get x k)) is ∙ elim (same_or_not k (length ps)) [
    | inl e ↦ ap (λ n. read_or read none (slice_get (ps ++ p ∷ []) n)) e ∙ ap (read_or read none) (get_last ps p) ∙ same ∙ sym (ap (read_or read none) (slice_get_past ps k (omega (arith, e))))
    | inr d ↦ ap (read_or read none) (append_other ps p k d)
  ]

  no_page : (v : ℕ) → finite.get p.table v ≡ None
  no_page v = ap (λ (t : FinMap nat_cmp ℕ). finite.get t v) begins.table ∙ finite.get-empty nat_cmp v

  bound_more : (x : Place) → bound_in qs x ≡ bound_in ps x
  bound_more x = more_reads (λ r. bound_of r x.vpn.0) false (ap is_some (no_page x.vpn.0)) x.pid.0

  pub pushed_words : (areas : AreaWords) (aside : Option Aside) → shown_words qs areas aside ≡ record (shown_words ps areas aside) { sets = map resident_of ps ++ record { min = min; max = max; resident = 0 } ∷ [] }
  pushed_words areas aside = same_words _ _ bound_more (more_reads (λ r. r.is_open) false begins.opened)
      (λ x. more_reads (λ r. at_of r x.vpn.0) entry.Empty (ap (λ o. bare (entry_or o)) (no_page x.vpn.0)) x.pid.0)
      (λ _. refl) (λ _ _. refl) refl
      (ap (map resident_of) is ∙ map-append resident_of ps (p ∷ []) ∙ ap (λ s. map resident_of ps ++ s ∷ []) (ap resident_set begins.set ∙ ap (resident_by_numbers min max) (finite.len-empty nat_cmp ℕ)))

  pub pushed_ages : age_of_place qs ≡ age_of_place ps
  pushed_ages = fun_ext (λ x. more_reads (λ r. age_of r x.vpn.0) None (ap (λ s. finite.get s.ages x.vpn.0) begins.set ∙ finite.get-empty nat_cmp x.vpn.0) x.pid.0)

  pub pushed_aside : (aside : Option Aside) → AsideBound ps aside → AsideBound qs aside
  pushed_aside aside kept a h = bound_more a.place ∙ kept a h

-- ---- the prototype words after a change

word_by : (o : Option (List ℕ)) (i : ℕ) → unwrap_or (option_map (λ n. nat_lt i n) (option_map length o)) false ≡ true → IsSome (option_and_then (λ words. slice_get words i) o)
word_by None i h = cc
word_by (Some ws) i h = is_there ws i (ltb-true i (length ws) h)

pub proto_there : (areas : AreaWords) (a i : ℕ) → unwrap_or (option_map (λ n. nat_lt i n) (size_in areas a)) false ≡ true → IsSome (proto_word areas a i)
proto_there areas a i h = word_by (finite.get areas a) i h

some_words : (o : Option (List ℕ)) (i : ℕ) → IsSome (option_and_then (λ words. slice_get words i) o) → o ≡ Some (unwrap_or o [])
some_words None i h = cc
some_words (Some ws) i h = refl

-- the entry that words of an area say
abbrev entry_at : ℕ → Option (List ℕ) → Entry
entry_at j words = bare (entry_or (option_and_then (λ ws. slice_get ws j) words))

-- one area has these words now, or none
module _ (areas new : AreaWords) (a : ℕ) (words : Option (List ℕ)) (at : finite.get new a ≡ words) (other : (b : ℕ) → b ≢ a → finite.get new b ≡ finite.get areas b) where
  area_by : {A : Type 0} (read : Option (List ℕ) → A) (b : ℕ) (F : Bool → A) → (b ≡ a → read words ≡ F true) → read (finite.get areas b) ≡ F false → read (finite.get new b) ≡ F (b == a)
  area_by read b F now before = by_test b a F _ (λ e. ap (λ n. read (finite.get new n)) e ∙ ap read at ∙ now e) (λ d. ap read (other b d) ∙ before)

  area_stays : {A : Type 0} (read : Option (List ℕ) → A) → read words ≡ read (finite.get areas a) → (b : ℕ) → read (finite.get new b) ≡ read (finite.get areas b)
  area_stays read same b = area_by read b (λ _. read (finite.get areas b)) (λ e. same ∙ sym (ap (λ n. read (finite.get areas n)) e)) refl

  -- with so many words, and the entries that it had
  resized : (size : Option ℕ) → option_map length words ≡ size → ((j : ℕ) → entry_at j words ≡ proto_in areas a j) → (ps : List Process) (aside : Option Aside)
      → shown_words ps new aside ≡ record (shown_words ps areas aside) { sizes = changed ◌==◌ (size_in areas) a size }
  resized size is same ps aside = same_words _ _ (λ _. refl) (λ _. refl) (λ _. refl)
      (λ b. area_by (option_map length) b (λ t. cond t size (size_in areas b)) (λ _. is) refl) (λ b j. area_stays (entry_at j) (same j) b) refl refl

module _ (areas new : AreaWords) (a i w : ℕ) (there : IsSome (proto_word areas a i)) (is : new ≡ finite.insert areas a (slice_set (area_words areas a) i w)) where
  old_is : finite.get areas a ≡ Some (area_words areas a)
  old_is = some_words (finite.get areas a) i there

  get_same : finite.get new a ≡ Some (slice_set (area_words areas a) i w)
  get_same = ap (λ (m : AreaWords). finite.get m a) is ∙ here areas a (slice_set (area_words areas a) i w)

  get_other : (b : ℕ) → b ≢ a → finite.get new b ≡ finite.get areas b
  get_other b d = ap (λ (m : AreaWords). finite.get m b) is ∙ elsewhere areas a (slice_set (area_words areas a) i w) b d

  protos_set : (e : Entry) → w ≡ entry_word e → IsEntry e → bare e ≡ e → (b j : ℕ) → proto_in new b j ≡ changed_at (proto_in areas) a i e b j
  protos_set e we fits plain b j = area_by areas new a _ get_same get_other (entry_at j) b (λ t. cond (t && (j == i)) e (proto_in areas b j))
      (λ s. by_test j i (λ t. cond t e (proto_in areas b j)) _
      (λ t. ap (λ n. bare (entry_or (slice_get (slice_set (area_words areas a) i w) n))) t ∙ ap (λ o. bare (entry_or o)) (get_set_same (area_words areas a) i w (word_within areas a i (area_words areas a) old_is there))
      ∙ ap (λ n. bare (entry_in n)) we ∙ ap bare (entry_again e fits) ∙ plain)
      (λ n. ap (λ o. bare (entry_or o)) (get_set_other (area_words areas a) i j w n) ∙ sym (ap (λ m. proto_in areas m j) s ∙ ap (entry_at j) old_is)))
      refl

  pub proto_shown : (ps : List Process) (aside : Option Aside) (e : Entry) → w ≡ entry_word e → IsEntry e → bare e ≡ e
      → shown_words ps new aside ≡ record (shown_words ps areas aside) { proto = changed_at (proto_in areas) a i e }
  proto_shown ps aside e we fits plain = same_words _ _ (λ _. refl) (λ _. refl) (λ _. refl)
      (area_stays areas new a _ get_same get_other (option_map length) (ap Some (length-set (area_words areas a) i w) ∙ sym (ap (option_map length) old_is)))
      (protos_set e we fits plain) refl refl

new_word : (n i : ℕ) → entry_at i (Some (replicate n 0)) ≡ entry.Empty
new_word zero i = refl
new_word (suc n) zero = ap bare zero_is_empty
new_word (suc n) (suc i) = new_word n i

pub opened_shown : (ps : List Process) (areas new : AreaWords) (aside : Option Aside) (a n : ℕ) → size_in areas a ≡ None → new ≡ finite.insert areas a (replicate n 0)
    → shown_words ps new aside ≡ record (shown_words ps areas aside) { sizes = changed ◌==◌ (size_in areas) a (Some n) }
opened_shown ps areas new aside a n none is =
    resized areas new a _ (ap (λ (m : AreaWords). finite.get m a) is ∙ here areas a (replicate n 0)) (λ b d. ap (λ (m : AreaWords). finite.get m b) is ∙ elsewhere areas a (replicate n 0) b d)
    (Some n) (ap Some (length-replicate n 0)) (λ j. new_word n j ∙ sym (ap (entry_at j) (none_of (finite.get areas a) (sym (some_map length (finite.get areas a)) ∙ ap is_some none)))) ps aside

pub closed_shown : (ps : List Process) (areas new : AreaWords) (aside : Option Aside) (a : ℕ) → ((i : ℕ) → proto_in areas a i ≡ entry.Empty) → new ≡ finite.remove areas a
    → shown_words ps new aside ≡ record (shown_words ps areas aside) { sizes = changed ◌==◌ (size_in areas) a None }
closed_shown ps areas new aside a none is =
    resized areas new a _ (ap (λ (m : AreaWords). finite.get m a) is ∙ gone areas a) (λ b d. ap (λ (m : AreaWords). finite.get m b) is ∙ left areas a b d) None refl (λ j. sym (none j)) ps aside

pub ok_then : {T E P Q : Type 0} (r : Result T E) → OnOk r P → (P → Q) → OnOk r Q
ok_then (Ok x) h f = f h
ok_then (Err e) h f = h

pub err_then : {T E P Q : Type 0} (r : Result T E) → OnErr r P → (P → Q) → OnErr r Q
err_then (Ok x) h f = h
err_then (Err e) h f = f h

pub new_shown : (ps : List Process) (areas : AreaWords) → ps ≡ [] → areas ≡ finite.empty → shown_words ps areas None ≡ no_words
new_shown ps areas pe ae = ap (λ (x : List Process). shown_words x areas None) pe ∙ ap (λ (m : AreaWords). shown_words [] m None) ae ∙ same_words _ _
    (λ x. nothing (λ (p : Process). bound_of p x.vpn.0) false x.pid.0) (λ x. nothing (λ (p : Process). p.is_open) false x) (λ x. nothing (λ (p : Process). at_of p x.vpn.0) entry.Empty x.pid.0)
    (λ x. ap (option_map length) (finite.get-empty nat_cmp x)) (λ x y. ap (entry_at y) (finite.get-empty nat_cmp x)) refl refl
  where
    nothing : {A : Type 0} (read : Process → A) (none : A) (pid : ℕ) → read_or read none (process_in [] pid) ≡ none
    nothing read none zero = refl
    nothing read none (suc k) = refl
