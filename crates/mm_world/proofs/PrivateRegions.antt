-- A private region of a process, as the regions of processes change.
use Rattle.std.proofs.Common.{◌≡◌, ℕ, zero, suc, Bool, true, false, Some, List, [], ◌∷◌, refl, ◌∙◌, ap, set, slice_get, is_some, not, ◌&&◌, ◌||◌, Option, None, sym, length, ◌≤◌, ◌<◌, ◌+◌, ◌-◌, subst, cond, arith, map, replicate, nat_le, nat_lt}
use Rattle.std.specs.Prelude.{insert, remove, ◌==◌}
use Rattle.std.specs.List.{list_any, list_all}
use Rattle.mm_types.proofs.{and_false, or_left, or_right, or_both, parts, both}
use Rattle.mm_world.specs.{RegionOf, pages_of, is_private, PagesOf, is_same_range, is_asked_region, WorldOf, ProcessOf, Numbered, numbered}
use Rattle.mm_world.specs.{process_of, set_process, no_regions, holds_asked, is_region_of, Page, StackOf, filled, set_regions, add_region, ranges_of}
use Rattle.mm_world.specs.{stack_by, set_stack, unless, is_stack_at, Committed, committed_at, guard_off, OutcomeOf, done, refused, alloc, stack, made}
use Rattle.mm_world.specs.{stack_region, probe, grown, is_overflow, step, first_world, threads, line_ends, is_private_region, is_stack_region}
use Rattle.mm_world.specs.{holds_stack, is_stacked, is_place, are_stacked}
use Rattle.mm_types.specs.{Kind, Answer, Code, Event, Range, holds_page, address_of, lowest_gap, commit_type, release_type, MachineOf}
use Rattle.mm_world.proofs.FlagRanges.{same_page as equals, equal}
use Rattle.mm_world.proofs.Finding.{put_at, push_at, numbered_inside}
use Rattle.mm_world.proofs.Edits.{Terms, RegionEdit, RegionComes, RegionGoes, RegionChanges, Edit, Rest, Regions, HandleComes, HandleGoes, ProcessComes, ProcessGoes, Edits, fold, Rises, is_call_success}
use Rattle.std.proofs.lemmas.Bool.{leb-true, le-leb, lt-ltb, ltb-true, ltb-false}
use Rattle.std.proofs.lemmas.List.Folds.{list_all-map}
use Rattle.std.proofs.lemmas.List.{get_or-set_same}
use Rattle.mm_world.specs.World.{World}
use Rattle.mm_world.specs.Report.{Report}
use Rattle.mm_world.proofs.Tables.{Holds, met, tables, at_probe}
use Rattle.mm_world.proofs.LineEdits.{stack_length}
use Rattle.mm_world.proofs.KeptWrites.{is_stack_line, left_by}
use Rattle.mm_types.specs.declared.answers.Answer.TheVariants as answer
use Rattle.mm_types.specs.declared.events.Event.TheVariants as line
use Rattle.mm_world.proofs.CallEdits as calls
use Rattle.mm_world.proofs.LineEdits as lines
use Rattle.mm_world.proofs.KeptWrites as kept

or-keeps : (a b c : Bool) → (a ≡ true → b ≡ true) → (a || c) ≡ true → (b || c) ≡ true
or-keeps true b c k h = or_left b c (k refl)
or-keeps false b c k h = or_right b c h

or-first : (a c : Bool) → a ≡ false → (a || c) ≡ true → c ≡ true
or-first true c e h = cc
or-first false c e h = h

module _ {A : Type 0} (test : A → Bool) where
  pub any_set : (xs : List A) (i : ℕ) (x new : A) → slice_get xs i ≡ Some x → (test x ≡ true → test new ≡ true) → list_any test xs ≡ true → list_any test (set xs i new) ≡ true
  any_set [] i x new there keeps h = cc
  any_set (y ∷ xs) zero x new there keeps h = or-keeps (test y) (test new) (list_any test xs) (λ e. keeps (ap test (let same : x ≡ y = cc in same) ∙ e)) h
  any_set (y ∷ xs) (suc i) x new there keeps h = or_both (test y) (list_any test xs) (list_any test (set xs i new)) (any_set xs i x new there keeps) h

  pub any_insert : (xs : List A) (i : ℕ) (new : A) → list_any test xs ≡ true → list_any test (insert xs i new) ≡ true
  any_insert [] i new h = cc
  any_insert (y ∷ xs) zero new h = or_right (test new) (list_any test (y ∷ xs)) h
  any_insert (y ∷ xs) (suc i) new h = or_both (test y) (list_any test xs) (list_any test (insert xs i new)) (any_insert xs i new) h

  pub any_inserted : (xs : List A) (i : ℕ) (new : A) → test new ≡ true → list_any test (insert xs i new) ≡ true
  any_inserted [] zero new h = or_left (test new) false h
  any_inserted [] (suc i) new h = or_left (test new) false h
  any_inserted (y ∷ xs) zero new h = or_left (test new) (list_any test (y ∷ xs)) h
  any_inserted (y ∷ xs) (suc i) new h = or_right (test y) (list_any test (insert xs i new)) (any_inserted xs i new h)

  pub any_remove : (xs : List A) (i : ℕ) (x : A) → slice_get xs i ≡ Some x → test x ≡ false → list_any test xs ≡ true → list_any test (remove xs i) ≡ true
  any_remove [] i x there fails h = cc
  any_remove (y ∷ xs) zero x there fails h = or-first (test y) (list_any test xs) (ap test (let same : y ≡ x = cc in same) ∙ fails) h
  any_remove (y ∷ xs) (suc i) x there fails h = or_both (test y) (list_any test xs) (list_any test (remove xs i)) (any_remove xs i x there fails) h

module _ {B : Type 0} where
  -- a view is no private region
  pub view_is_none : (x : PagesOf) (r : RegionOf B) → is_private r.kind ≡ false → is_asked_region x r ≡ false
  view_is_none x r e =
      ap (λ (b : Bool). (not x.watched || is_some r.watched) && (b && is_same_range (pages_of r) x.range)) e ∙ and_false (not x.watched || is_some r.watched)

-- ---- private regions stay, but for a release and the end of their process

module _ {B : Type 0} where
  -- a region with as many pages at the same base, watched as it was, stays what it was
  region_kept : (x : PagesOf) (r new : RegionOf B) → new.base ≡ r.base → new.kind ≡ r.kind → length new.rows ≡ length r.rows → is_some new.watched ≡ is_some r.watched → is_asked_region x r ≡ true → is_asked_region x new ≡ true
  region_kept x r new base kinds rows watched h =
      ap (λ (b : Bool). (not x.watched || b) && (is_private new.kind && is_same_range (pages_of new) x.range)) watched
      ∙ ap (λ (k : Kind). (not x.watched || is_some r.watched) && (is_private k && is_same_range (pages_of new) x.range)) kinds
      ∙ ap (λ (n : ℕ). (not x.watched || is_some r.watched) && (is_private r.kind && is_same_range (record { first = n; count = length new.rows }) x.range)) base
      ∙ ap (λ (n : ℕ). (not x.watched || is_some r.watched) && (is_private r.kind && is_same_range (record { first = r.base; count = n }) x.range)) rows
      ∙ h

  -- a region with another base than the one that goes
  other_base : (x : PagesOf) (r : RegionOf B) (b : Bool) → is_asked_region x r ≡ b → (r.base ≡ x.range.first → ⊥) → b ≡ false
  other_base x r true e other =
      let asked = parts (not x.watched || is_some r.watched) (is_private r.kind && is_same_range (pages_of r) x.range) e in
      let same = parts (is_private r.kind) (is_same_range (pages_of r) x.range) asked.1 in
      absurd (other (equals r.base x.range.first (parts (r.base == x.range.first) (length r.rows == x.range.count) same.1).0))
  other_base x r false e other = refl

module _ {B : Type 0} (t : Terms) (x : PagesOf) (lasts : t.ends x ≡ false) where
  gone : (pid : ℕ) (r : RegionOf B) → x.pid ≡ pid → (is_private r.kind ≡ true → (y : PagesOf) → y.pid ≡ pid → y.range.first ≡ r.base → t.ends y ≡ true) → is_asked_region x r ≡ false
  gone pid r here ends = by_kind (is_private r.kind) refl
    where
      by_kind : (b : Bool) → is_private r.kind ≡ b → is_asked_region x r ≡ false
      by_kind true is = other_base x r _ refl (λ same. let bad : true ≡ false = sym (ends is x here (sym same)) ∙ lasts in cc)
      by_kind false is = view_is_none x r is

  after_region : (w : WorldOf B) (pid : ℕ) (rs new : List (RegionOf B)) → RegionEdit t w pid rs new → x.pid ≡ pid → list_any (is_asked_region x) rs ≡ true → list_any (is_asked_region x) new ≡ true
  after_region w pid rs _ (RegionComes new h) here held = any_insert (is_asked_region x) rs _ new held
  after_region w pid rs _ (RegionGoes i r there ends charged) here held = any_remove (is_asked_region x) rs i r there (gone pid r here ends) held
  after_region w pid rs _ (RegionChanges i r new there like) here held =
      any_set (is_asked_region x) rs i r new there (region_kept x r new like.base like.kind like.count like.watched) held

  put : (w : WorldOf B) (pid : ℕ) (p : ProcessOf B) (q : Option (ProcessOf B)) → process_of w pid ≡ Some p → (x.pid ≡ pid → holds_asked x (Some p) ≡ true → holds_asked x q ≡ true) → is_region_of w x ≡ true → is_region_of (set_process w pid q) x ≡ true
  put w pid p q lives keeps = put_at (λ o n. holds_asked x o ≡ true → holds_asked x n ≡ true) w.processes pid x.pid p q lives keeps (λ other h. h)

  each : (w v : WorldOf B) → Edit t w v → is_region_of w x ≡ true → is_region_of v x ≡ true
  each w _ (Rest v b) h = ap (λ (ps : Numbered (ProcessOf B)). holds_asked x (numbered ps x.pid)) b.processes ∙ h
  each w _ (Regions pid p rs lives e) h = put w pid p (Some (record p { regions = rs })) lives (after_region w pid p.regions rs e) h
  each w _ (HandleComes pid p number lives there) h = put w pid p _ lives (λ here held. held) h
  each w _ (HandleGoes pid p i lives) h = put w pid p _ lives (λ here held. held) h
  each w _ (ProcessComes room) h = push_at (λ o n. holds_asked x o ≡ true → holds_asked x n ≡ true) w.processes x.pid (Some no_regions) (λ h. cc) (λ o h. h) h
  each w _ (ProcessGoes pid p lives ends charged) h = put w pid p None lives (λ here held. let bad : true ≡ false = sym (ends x here) ∙ lasts in cc) h
  each w v e h = h

  pub region_stays : (w v : WorldOf B) → Edits t w v → is_region_of w x ≡ true → is_region_of v x ≡ true
  region_stays = fold t (λ w. is_region_of w x ≡ true) each

-- ---- each stack keeps its region: what lines leave of it, and the region that a new one gets

-- no region of a stack goes
abbrev none_goes : Answer → Terms
none_goes a = record { ends = λ x. false; plain = false; kept = false; stacks = false; charge = Rises }

all_by : (p q : Option StackOf → Bool) → ((s : Option StackOf) → p s ≡ true → q s ≡ true) → (stacks : Numbered StackOf) → list_all p stacks ≡ true → list_all q stacks ≡ true
all_by p q to [] e = refl
all_by p q to (s ∷ rest) e = let halves = parts (p s) (list_all p rest) e in both (q s) (list_all q rest) (to s halves.0) (all_by p q to rest halves.1)

-- ---- a stack's region, by its pages

abbrev range_from : StackOf → ℕ → Range
range_from s n = record { first = s.base; count = n }

abbrev pages_from : StackOf → ℕ → PagesOf
pages_from s n = record { pid = s.pid; range = range_from s n; watched = false }

-- the same stack with another guard page
abbrev lowered : StackOf → ℕ → StackOf
lowered s guard = record { pid = s.pid; base = s.base; guard_page = guard }

holds_lower : (first count page lower : ℕ) → first ≤ lower → lower ≤ page → holds_page (record { first = first; count = count }) page ≡ true → holds_page (record { first = first; count = count }) lower ≡ true
holds_lower first count page lower low below e =
    let halves = parts (nat_le first page) (nat_lt page (first + count)) e in
    both (nat_le first lower) (nat_lt lower (first + count)) (le-leb first lower low) (lt-ltb lower (first + count) (let h = ltb-true page (first + count) halves.1 in omega (arith, h, below)))

module _ {B : Type 0} where
  -- a region with so many pages, which has the stack
  record HasPages (s : StackOf) (rs : List (RegionOf B)) : Type 0 where
    pub count : ℕ
    pub holds : holds_page (range_from s count) s.guard_page ≡ true
    pub private : list_any (is_private_region (range_from s count)) rs ≡ true

  later_pages : (s : StackOf) (r : RegionOf B) (rest : List (RegionOf B)) → HasPages s rest → HasPages s (r ∷ rest)
  later_pages s r rest h = record { count = h.count; holds = h.holds; private = or_right (is_private_region (range_from s h.count) r) (list_any (is_private_region (range_from s h.count)) rest) h.private }

  has_pages : (s : StackOf) (rs : List (RegionOf B)) → list_any (is_stack_region s) rs ≡ true → HasPages s rs
  has_pages s [] e = cc
  has_pages s (r ∷ rest) e = by_first (is_stack_region s r) refl (has_pages s rest) e
    where
      by_first : (b : Bool) → is_stack_region s r ≡ b → (list_any (is_stack_region s) rest ≡ true → HasPages s rest) → (b || list_any (is_stack_region s) rest) ≡ true → HasPages s (r ∷ rest)
      by_first true is later e =
          let private = parts (is_private r.kind) ((r.base == s.base) && holds_page (pages_of r) s.guard_page) is in
          let at = parts (r.base == s.base) (holds_page (pages_of r) s.guard_page) private.1 in
          record {
            count = length r.rows;
            holds = ap (λ (n : ℕ). holds_page (record { first = n; count = length r.rows }) s.guard_page) (sym (equals r.base s.base at.0)) ∙ at.1;
            private = or_left (is_private_region (range_from s (length r.rows)) r) (list_any (is_private_region (range_from s (length r.rows))) rest)
                (both (is_private r.kind) (is_same_range (pages_of r) (range_from s (length r.rows))) private.0
                (both (r.base == s.base) (length r.rows == length r.rows) at.0 (equal (length r.rows) (length r.rows) refl)));
          }
      by_first false is later e = later_pages s r rest (later e)

  -- the other way round
  pages_region : (s : StackOf) (n : ℕ) (r : RegionOf B) → holds_page (range_from s n) s.guard_page ≡ true → is_private_region (range_from s n) r ≡ true → is_stack_region s r ≡ true
  pages_region s n r holds e =
      let private = parts (is_private r.kind) (is_same_range (pages_of r) (range_from s n)) e in
      let same = parts (r.base == s.base) (length r.rows == n) private.1 in
      both (is_private r.kind) ((r.base == s.base) && holds_page (pages_of r) s.guard_page) private.0
      (both (r.base == s.base) (holds_page (pages_of r) s.guard_page) same.0
      (ap (λ (m : ℕ). holds_page (record { first = m; count = length r.rows }) s.guard_page) (equals r.base s.base same.0)
      ∙ ap (λ (m : ℕ). holds_page (record { first = s.base; count = m }) s.guard_page) (equals (length r.rows) n same.1) ∙ holds))

  any_to : (f g : RegionOf B → Bool) → ((r : RegionOf B) → f r ≡ true → g r ≡ true) → (rs : List (RegionOf B)) → list_any f rs ≡ true → list_any g rs ≡ true
  any_to f g to [] e = cc
  any_to f g to (r ∷ rest) e = by_first (f r) refl (any_to f g to rest) e
    where
      by_first : (b : Bool) → f r ≡ b → (list_any f rest ≡ true → list_any g rest ≡ true) → (b || list_any f rest) ≡ true → (g r || list_any g rest) ≡ true
      by_first true is later e = or_left (g r) (list_any g rest) (to r is)
      by_first false is later e = or_right (g r) (list_any g rest) (later e)

  stack_held : (s : StackOf) (o : Option (ProcessOf B)) (n : ℕ) → holds_page (range_from s n) s.guard_page ≡ true → holds_asked (pages_from s n) o ≡ true → holds_stack s o ≡ true
  stack_held s None n holds e = e
  stack_held s (Some p) n holds e = any_to (is_private_region (range_from s n)) (is_stack_region s) (λ r. pages_region s n r holds) p.regions e

  -- ---- a stack whose region stays

  same_live : (w : WorldOf B) (s : StackOf) (n : ℕ) → is_region_of w (pages_from s n) ≡ holds_asked (pages_from s n) (process_of w s.pid)
  same_live w s n = refl

  module _ (w v : WorldOf B) (s : StackOf) (keeps : (n : ℕ) → is_region_of w (pages_from s n) ≡ true → is_region_of v (pages_from s n) ≡ true) where
    held_still : (o : Option (ProcessOf B)) → process_of w s.pid ≡ o → holds_stack s o ≡ true → holds_stack s (process_of v s.pid) ≡ true
    held_still None is e = cc
    held_still (Some p) is e =
        let h = has_pages s p.regions e in
        stack_held s (process_of v s.pid) h.count h.holds
        (sym (same_live v s h.count) ∙ keeps h.count (same_live w s h.count ∙ ap (λ (o : Option (ProcessOf B)). holds_asked (pages_from s h.count) o) is ∙ h.private))

    pub stays : is_stacked w s ≡ true → is_stacked v s ≡ true
    stays e =
        let halves = parts (nat_lt s.base s.guard_page) (holds_stack s (process_of w s.pid)) e in
        both (nat_lt s.base s.guard_page) (holds_stack s (process_of v s.pid)) halves.0 (held_still (process_of w s.pid) refl halves.1)

  -- the regions of stacks stay where none goes
  stays_by : (w : WorldOf B) (o : OutcomeOf B) → Edits (none_goes o.answer) w o.world → (s : StackOf) → is_stacked w s ≡ true → is_stacked o.world s ≡ true
  stays_by w o es s = stays w o.world s (λ n. region_stays (none_goes o.answer) (pages_from s n) refl w o.world es)

  -- ---- a guard page that moves down, but not to the base page

  region_lower : (s : StackOf) (guard : ℕ) (r : RegionOf B) → s.base ≤ guard → guard ≤ s.guard_page → is_stack_region s r ≡ true → is_stack_region (lowered s guard) r ≡ true
  region_lower s guard r low below e =
      let private = parts (is_private r.kind) ((r.base == s.base) && holds_page (pages_of r) s.guard_page) e in
      let at = parts (r.base == s.base) (holds_page (pages_of r) s.guard_page) private.1 in
      both (is_private r.kind) ((r.base == s.base) && holds_page (pages_of r) guard) private.0
      (both (r.base == s.base) (holds_page (pages_of r) guard) at.0
      (holds_lower r.base (length r.rows) s.guard_page guard (subst (λ (n : ℕ). n ≤ guard) (sym (equals r.base s.base at.0)) low) below at.1))

  held_lower : (s : StackOf) (guard : ℕ) (o : Option (ProcessOf B)) → s.base ≤ guard → guard ≤ s.guard_page → holds_stack s o ≡ true → holds_stack (lowered s guard) o ≡ true
  held_lower s guard None low below e = e
  held_lower s guard (Some p) low below e = any_to (is_stack_region s) (is_stack_region (lowered s guard)) (λ r. region_lower s guard r low below) p.regions e

  lower_stacked : (v : WorldOf B) (s : StackOf) (guard : ℕ) → s.base < guard → guard ≤ s.guard_page → is_stacked v s ≡ true → is_stacked v (lowered s guard) ≡ true
  lower_stacked v s guard low below e =
      let halves = parts (nat_lt s.base s.guard_page) (holds_stack s (process_of v s.pid)) e in
      both (nat_lt s.base guard) (holds_stack (lowered s guard) (process_of v s.pid)) (lt-ltb s.base guard low) (held_lower s guard (process_of v s.pid) (omega (arith, low)) below halves.1)

  -- ---- stacks of a world

  abbrev are_placed : WorldOf B → Numbered StackOf → Bool
  are_placed w stacks = list_all (is_place w) stacks

  module _ (w : WorldOf B) where
    one_of : (stacks : Numbered StackOf) (tid : ℕ) (s : StackOf) → are_placed w stacks ≡ true → numbered stacks tid ≡ Some s → is_stacked w s ≡ true
    one_of [] tid s e at = cc
    one_of (x ∷ rest) zero s e at = ap (is_place w) (sym at) ∙ (parts (is_place w x) (are_placed w rest) e).0
    one_of (x ∷ rest) (suc tid) s e at = one_of rest tid s (parts (is_place w x) (are_placed w rest) e).1 at

    one_set : (stacks : Numbered StackOf) (tid : ℕ) (s : StackOf) → is_stacked w s ≡ true → are_placed w stacks ≡ true → are_placed w (set stacks tid (Some s)) ≡ true
    one_set [] tid s h e = e
    one_set (x ∷ rest) zero s h e = both (is_stacked w s) (are_placed w rest) h (parts (is_place w x) (are_placed w rest) e).1
    one_set (x ∷ rest) (suc tid) s h e =
        let halves = parts (is_place w x) (are_placed w rest) e in
        both (is_place w x) (are_placed w (set rest tid (Some s))) halves.0 (one_set rest tid s h halves.1)

  module _ (w v : WorldOf B) (ends : StackOf → Bool) (keeps : (s : StackOf) → ends s ≡ false → is_stacked w s ≡ true → is_stacked v s ≡ true) where
    place_left : (s : Option StackOf) → is_place w s ≡ true → is_place v (unless ends s) ≡ true
    place_left None e = refl
    place_left (Some s) e = by_end (ends s) refl
      where
        by_end : (b : Bool) → ends s ≡ b → is_place v (cond b None (Some s)) ≡ true
        by_end true is = refl
        by_end false is = keeps s is e

    all_left : (stacks : Numbered StackOf) → are_placed w stacks ≡ true → are_placed v (map (unless ends) stacks) ≡ true
    all_left stacks e = list_all-map (is_place v) (unless ends) stacks ∙ all_by (is_place w) (λ s. is_place v (unless ends s)) place_left stacks e

  module _ (w v : WorldOf B) (keeps : (s : StackOf) → is_stacked w s ≡ true → is_stacked v s ≡ true) where
    place_kept : (s : Option StackOf) → is_place w s ≡ true → is_place v s ≡ true
    place_kept None e = refl
    place_kept (Some s) e = keeps s e

    all_kept : (stacks : Numbered StackOf) → are_placed w stacks ≡ true → are_placed v stacks ≡ true
    all_kept stacks e = all_by (is_place w) (is_place v) place_kept stacks e

  -- ---- calls of stacks

  pub record KeepsStacked (w : WorldOf B) (o : OutcomeOf B) : Type 0 where
    pub stacked : are_stacked w ≡ true → are_stacked o.world ≡ true

  stacks_same : (w : WorldOf B) (a : Answer) → Holds (KeepsStacked w) (done a w)
  stacks_same w a = record { it = record { stacked = λ e. e } }

  stacks_refused : (w : WorldOf B) (why : Code) → Holds (KeepsStacked w) (refused w why)
  stacks_refused w why = stacks_same w _

  stacks_guard : (w : WorldOf B) (pid : ℕ) (p : ProcessOf B) (page : ℕ) (c : Committed B) (a : Answer) → process_of w pid ≡ Some p → committed_at w p.regions page ≡ Some c → Holds (KeepsStacked w) (done a (guard_off w pid p c page))
  stacks_guard w pid p page c a lives committed =
      let v = guard_off w pid p c page in
      record { it = record { stacked = λ e. all_kept w v (stays_by w (done a v) (lines.guard_edits (none_goes a) w pid p c page lives committed)) w.stacks e } }

  module _ (fill : ℕ → B) where
    module _ (w : WorldOf B) (tid pid : ℕ) (p : ProcessOf B) (r c base : ℕ) (lives : process_of w pid ≡ Some p) (fits : nat_le (c + 2) r ≡ true) (found : lowest_gap (ranges_of p.regions) r ≡ Some base) where
      abbrev guard : ℕ
      guard = base + r - (c + 1)

      abbrev new : StackOf
      new = record { pid = pid; base = base; guard_page = guard }

      abbrev v : WorldOf B
      v = set_stack (set_regions w pid p (add_region (stack_region fill base r c) p.regions)) tid new

      new_region : is_stack_region new (stack_region fill base r c) ≡ true
      new_region =
          let enough = leb-true (c + 2) r fits in
          both (base == base) (holds_page (pages_of (stack_region fill base r c)) guard) (equal base base refl)
          (ap (λ (n : ℕ). holds_page (record { first = base; count = n }) guard) (stack_length fill base r c enough)
          ∙ both (nat_le base guard) (nat_lt guard (base + r)) (le-leb base guard (omega (arith, enough))) (lt-ltb guard (base + r) (omega (arith, enough))))

      new_stacked : is_stacked v new ≡ true
      new_stacked =
          both (nat_lt base guard) (holds_stack new (process_of v pid)) (lt-ltb base guard (omega (arith, leb-true (c + 2) r fits)))
          (ap (λ (o : Option (ProcessOf B)). holds_stack new o) (get_or-set_same w.processes pid (Some (record p { regions = add_region (stack_region fill base r c) p.regions })) None (numbered_inside w.processes pid p lives))
          ∙ any_inserted (is_stack_region new) p.regions _ (stack_region fill base r c) new_region)

      stacks_new : (a : Answer) → is_call_success a ≡ true → Holds (KeepsStacked w) (done a v)
      stacks_new a ok = met (record {
        stacked = λ e.
            one_set v w.stacks tid new new_stacked
            (all_kept w v (stays_by w (done a v) (lines.by_stack fill none_goes (λ b. refl) (λ b n m. tt) w tid pid p new r c base a ok lives fits found).it.edits) w.stacks e);
      })

    stacks_made : (w : WorldOf B) (tid pid : ℕ) (p : ProcessOf B) (r c : ℕ) → process_of w pid ≡ Some p → Holds (KeepsStacked w) (made fill w tid pid p r c)
    stacks_made w tid pid p r c lives = search (tables, stacks_refused, stacks_new) depth 14

    in_stack : (w : WorldOf B) (tid pid reserve commit : ℕ) → Holds (KeepsStacked w) (stack fill w tid pid reserve commit)
    in_stack w tid pid reserve commit = search (tables, stacks_refused, stacks_same, stacks_made) depth 14

-- ---- a probe

module _ (w : World) (tid : ℕ) (s : StackOf) (has : stack_by w tid ≡ Some s) where
  below_guard : (next : ℕ) → is_stacked w s ≡ true → (next == s.base) ≡ false → next ≡ s.guard_page - 1 → (s.base < next) × (next ≤ s.guard_page)
  below_guard next stacked other is =
      let halves = parts (nat_lt s.base s.guard_page) (holds_stack s (process_of w s.pid)) stacked in
      let apart : next ≡ s.base → ⊥ = λ e. (let bad : true ≡ false = sym (equal next s.base e) ∙ other in cc) in
      let least : s.base ≤ next = omega (arith, ltb-true s.base s.guard_page halves.0, is) in
      (by_less (nat_lt s.base next) refl least apart, omega (arith, is))
    where
      by_less : (b : Bool) → nat_lt s.base next ≡ b → s.base ≤ next → (next ≡ s.base → ⊥) → s.base < next
      by_less true e least apart = ltb-true s.base next e
      by_less false e least apart = let h = ltb-false s.base next e in let same : next ≡ s.base = omega (arith, h, least) in absurd (apart same)

  not_low : (a b c : Bool) → a ≡ true → (a && (b || c)) ≡ false → b ≡ false
  not_low true true c e f = cc
  not_low _ _ c e f = cc

  stacks_grown : (p : ProcessOf Page) (c : Committed Page) (page : ℕ) → process_of w s.pid ≡ Some p → committed_at w p.regions page ≡ Some c → c.row.guard ≡ true → (c.row.guard && is_overflow w p s) ≡ false → Holds (KeepsStacked w) (grown filled (guard_off w s.pid p c page) tid s)
  stacks_grown p c page lives committed on fine =
      let next = s.guard_page - 1 in
      let m = guard_off w s.pid p c page in
      let v = (grown filled m tid s).world in
      let keeps : (x : StackOf) → is_stacked w x ≡ true → is_stacked v x ≡ true = stays_by w (grown filled m tid s) (lines.in_grown filled none_goes (λ a. refl) (λ a n m. tt) w tid s p c page lives committed).it.edits in
      met (record {
        stacked = λ e.
            let mine = one_of w w.stacks tid s e has in
            let low = below_guard next mine (not_low c.row.guard (next == s.base) _ on fine) refl in
            ap (λ (stacks : Numbered StackOf). are_placed v (set stacks tid (Some (lowered s next)))) (kept.same_stacks kept.same_threads m (alloc filled m s.pid (address_of next) 1 commit_type 0x104) refl (calls.in_alloc kept.same_threads filled m s.pid (address_of next) 1 commit_type 0x104 (λ a e. cc) (λ a n m. tt)).it.edits)
            ∙ one_set v w.stacks tid (lowered s next) (lower_stacked v s next low.0 low.1 (keeps s mine)) (all_kept w v keeps w.stacks e);
      })

in_probe : (w : World) (tid addr : ℕ) → Holds (KeepsStacked w) (probe filled w tid addr)
in_probe w tid addr = at_probe filled w tid addr (stacks_same w _) (stacks_same w _) (λ s p c has lives committed. search (tables, stacks_same, stacks_guard, stacks_grown) depth 14)

-- ---- a line

-- the line ends the stack
abbrev ends_stack : Event → Answer → StackOf → Bool
ends_stack (line.Free pid addr size type) answer.Ok s = (type == release_type) && is_stack_at pid.0 addr s
ends_stack (line.Exit pid) answer.Ok s = s.pid == pid.0
ends_stack _ _ s = false

same_end : (e : Event) (a : Answer) (s : StackOf) (n : ℕ) → line_ends e a (pages_from s n) ≡ ends_stack e a s
same_end (line.Free pid addr size type) answer.Ok s n = refl
same_end (line.Exit pid) answer.Ok s n = refl
same_end _ _ s n = refl

module _ (w v : World) where
  left_stacked : (e : Event) (a : Answer) → ((s : StackOf) → ends_stack e a s ≡ false → is_stacked w s ≡ true → is_stacked v s ≡ true) → (stacks : Numbered StackOf) → are_placed w stacks ≡ true → are_placed v (left_by e a stacks) ≡ true
  left_stacked (line.Free pid addr size type) answer.Ok keeps stacks h = by_type (type == release_type) keeps
    where
      by_type : (b : Bool) → ((s : StackOf) → (b && is_stack_at pid.0 addr s) ≡ false → is_stacked w s ≡ true → is_stacked v s ≡ true) → are_placed v (cond b (map (unless (is_stack_at pid.0 addr)) stacks) stacks) ≡ true
      by_type true keeps = all_left w v (is_stack_at pid.0 addr) keeps stacks h
      by_type false keeps = all_kept w v (λ s. keeps s refl) stacks h
  left_stacked (line.Exit pid) answer.Ok keeps stacks h = all_left w v (λ s. s.pid == pid.0) keeps stacks h
  left_stacked _ _ keeps stacks h = all_kept w v (λ s. keeps s refl) stacks h

module _ (w : World) (e : Event) (before after : Report) where
  abbrev o : OutcomeOf Page
  o = step w e before after

  stack_kept : (s : StackOf) → ends_stack e o.answer s ≡ false → is_stacked w s ≡ true → is_stacked o.world s ≡ true
  stack_kept s lasts = stays w o.world s (λ n. region_stays (lines.line_terms e o.answer) (pages_from s n) (same_end e o.answer s n ∙ lasts) w o.world (lines.in_step w e before after).edits)

  other_line : is_stack_line e ≡ false → are_stacked w ≡ true → are_stacked o.world ≡ true
  other_line other h =
      ap (are_placed o.world) ((kept.in_step w e before after).stacks other)
      ∙ left_stacked w o.world e o.answer stack_kept w.stacks h

pub stays_stacked : (w : World) (e : Event) (before after : Report) → are_stacked w ≡ true → are_stacked (step w e before after).world ≡ true
stays_stacked w (line.Stack tid pid reserve commit) before after h = (in_stack filled w tid.0 pid.0 reserve commit).it.stacked h
stays_stacked w (line.Probe tid addr) before after h = (in_probe w tid.0 addr).it.stacked h
stays_stacked w e before after h = other_line w e before after refl h

-- ---- no stack

none_placed : (w : World) (n : ℕ) → list_all (is_place w) (replicate n None) ≡ true
none_placed w zero = refl
none_placed w (suc n) = none_placed w n

pub first_stacked : (m : MachineOf) → are_stacked {B = Page} (first_world m) ≡ true
first_stacked m = none_placed (first_world m) threads
