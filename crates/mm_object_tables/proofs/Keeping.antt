-- What tables keep where processes, sections, areas or accesses are others, and a process among those that are kept.
use Rattle.std.proofs.Common.{unwrap_or, ◌≡◌, ◌≢◌, ◌⊎◌, inl, inr, ℕ, zero, suc, Bool, true, false, Option, Some, None, [], ◌∷◌, ◌++◌, refl, sym, ◌∙◌, ap, cond, map, is_some, set, ◌+◌, List, arith, get_or, nat_lt, ◌||◌, count_by, ◌≤◌, ◌<◌, subst, length, slice_get, ◌-◌, option_map, replicate, take, drop, length-set}
use Rattle.std.specs.Prelude.{◌==◌}
use Rattle.std.specs.Cmp.{unsigned_Decides}
use Rattle.std.specs.List.{list_any}
use Rattle.std.proofs.lemmas.Bool.{le-leb}
use Rattle.std.proofs.lemmas.List.{nil_from_length, get_or-set_other, get_or-set_same, get_or_default, map-set, set-get_or, length-map, take_all, drop_all, append-nil}
use Rattle.std.proofs.lemmas.List.Sums.{sum_by-cons, sum_by_push}
use Rattle.mm_types.proofs.{same_tests, or_right, same_or_not, push_at, push_other, some_found, same_found, some_map}
use Rattle.mm_world.specs.{Numbered, numbered, ProcessOf, KeptOf, WorldOf, process_of, kept_of_others, RegionOf, AreaOf, SectionOf, FileOf, StackOf}
use Rattle.mm_world.specs.{section_of, area_at, no_area, set_process, set_regions, charge, limit, area_charge, with_handle, new_section, settle}
use Rattle.mm_world.specs.{settled_section, settled_sections, settled_area, settled_areas, holds, views, is_handle_to, is_view_of, uses, Each}
use Rattle.mm_world.specs.{References, Tables, RowOf, Found, region_around, set_region, change_rows, most_slots, threads, first_world, keep, unless}
use Rattle.mm_world.specs.{end_stacks}
use Rattle.mm_world.proofs.{less, charge-same_regions, sum_by-put, numbered_inside, numbered_there, Edit, Nothing, Then, Beside, Rest as Others}
use Rattle.mm_world.proofs.{RegionEdit, HandleComes, SectionComes, any_terms, numbers_kept, references_kept, spaces_kept, any_set}
use Rattle.mm_object_tables.specs.{KeepersLive, NobodyKeeps, FileFits, IsTidy, handles_in, views_in, AreKeptTables, Process, shown_process, shown_processes}
use Rattle.mm_object_tables.specs.{tables_with, shown_accesses, process_handles, process_regions, with_handles, with_space, Kept, kept_of, unless_of}
use Rattle.mm_object_tables.specs.{StandBelow}
use Rattle.mm_object_tables.proofs.Lists.{none_replicated, one_if, same_some, area_before, same_number, area_in, area_at_end, any_more, any_last}
use Rattle.std.proofs.lemmas.List.Folds.{list_any_at}
use Rattle.mm_types.specs.declared.answers.Answer.TheVariants as answer
use Rattle.mm_types.specs.{MachineOf, limit_of, Range}
use Rattle.mm_world.specs.WellFormed.{WellFormed}
use Rattle.mm_world.proofs.Edits.{Edits, Regions}
use Rattle.mm_commit_charge.specs.{CommitOf}
use Rattle.mm_address_spaces.specs.{RegionsOf}
use Rattle.mm_sections.specs.{CountedSection, HandlesOf}
use Rattle.std.proofs.Math.ListN.{get_or-map}
use Rattle.mm_object_tables.specs.declared.tables.Tables.TheInside.{Inside}
use Rattle.mm_object_tables.proofs.Rows.{process_is}
use Rattle.std.proofs.lemmas.List.Edits.{map_over_more}

module _ {B : Type 0} where
  -- the processes that live still do where one of them becomes another
  pub lives_put : (ps : Numbered (ProcessOf B)) (pid n : ℕ) (q : ProcessOf B) → is_some (numbered ps n) ≡ true → is_some (numbered (set ps pid (Some q)) n) ≡ true
  lives_put (x ∷ ps) zero zero q e = refl
  lives_put (x ∷ ps) (suc pid) (suc n) q e = lives_put ps pid n q e
  lives_put _ _ _ q e = e

  -- and where there is one more
  pub lives_push : (ps : Numbered (ProcessOf B)) (q : ProcessOf B) (n : ℕ) → is_some (numbered ps n) ≡ true → is_some (numbered (ps ++ Some q ∷ []) n) ≡ true
  lives_push [] q n e = cc
  lives_push (x ∷ ps) q zero e = e
  lives_push (x ∷ ps) q (suc n) e = lives_push ps q n e

  pub keepers_less : (t : WorldOf B) (pid : ℕ) → NobodyKeeps pid t → KeepersLive t → KeepersLive (record t { processes = set t.processes pid None })
  keepers_less t pid nobody keepers tid k e = ap is_some (get_or-set_other t.processes pid k.pid None None (nobody tid k e)) ∙ keepers tid k e

-- ---- one thread keeps another access, or none

was_or_is : (ks : Numbered KeptOf) (at n : ℕ) (o : Option KeptOf) (k : KeptOf) → numbered (set ks at o) n ≡ Some k → (o ≡ Some k) ⊎ (numbered ks n ≡ Some k)
was_or_is (x ∷ ks) zero zero o k e = inl e
was_or_is (x ∷ ks) (suc at) (suc n) o k e = was_or_is ks at n o k e
was_or_is _ _ _ o k e = inr e

pub keepers_put : {B : Type 0} (t : WorldOf B) (tid : ℕ) (o : Option KeptOf) → ((k : KeptOf) → o ≡ Some k → is_some (process_of t k.pid) ≡ true) → KeepersLive t → KeepersLive (record t { kept = set t.kept tid o })
keepers_put t tid o lives keepers n k e = elim (was_or_is t.kept tid n o k e) [ inl is ↦ lives k is | inr was ↦ keepers n k was ]

-- ---- accesses of one process are dropped

of_other : (pid : ℕ) (o : Option KeptOf) (k : KeptOf) → kept_of_others pid o ≡ Some k → (o ≡ Some k) × (k.pid ≢ pid)
of_other pid None k e = cc
of_other pid (Some x) k e = by_test (x.pid == pid) (unsigned_Decides x.pid pid).1 e
  where
    by_test : (b : Bool) → (x.pid ≡ pid → b ≡ true) → cond b None (Some x) ≡ Some k → (Some x ≡ Some k) × (k.pid ≢ pid)
    by_test true here e = cc
    by_test false here e = (e, λ same. let is : x ≡ k = cc in let bad : false ≡ true = here (ap (λ (k : KeptOf). k.pid) is ∙ same) in cc)

-- what is kept then was kept, of another process
pub of_others : (pid : ℕ) (ks : Numbered KeptOf) (tid : ℕ) (k : KeptOf) → numbered (map (kept_of_others pid) ks) tid ≡ Some k → (numbered ks tid ≡ Some k) × (k.pid ≢ pid)
of_others pid [] tid k e = cc
of_others pid (x ∷ ks) zero k e = of_other pid x k e
of_others pid (x ∷ ks) (suc tid) k e = of_others pid ks tid k e

-- ---- searches and counts

pub any_count : {A : Type 0} (test : A → Bool) (xs : List A) → list_any test xs ≡ nat_lt 0 (count_by test xs)
any_count test [] = refl
any_count test (x ∷ xs) =
    ap (λ b. test x || b) (any_count test xs) ∙ by_test (test x) (count_by test xs)
    ∙ ap (λ (n : ℕ). nat_lt 0 n) (sym (sum_by-cons (λ x. one_if (test x)) x xs))
  where
    by_test : (b : Bool) (n : ℕ) → (b || nat_lt 0 n) ≡ nat_lt 0 (one_if b + n)
    by_test true n = sym (le-leb _ _ (omega arith))
    by_test false n = same_tests _ _ (λ e. le-leb _ _ (omega (arith, less _ _ e))) (λ e. le-leb _ _ (omega (arith, less _ _ e)))

pub any_put : {A : Type 0} (test : Option A → Bool) (xs : List (Option A)) (i : ℕ) (x : A) (y : Option A) → get_or xs i None ≡ Some x → test y ≡ test (Some x) → list_any test (set xs i y) ≡ list_any test xs
any_put test [] i x y there same = cc
any_put test (z ∷ xs) zero x y there same = ap (λ b. b || list_any test xs) (same ∙ ap test (sym there))
any_put test (z ∷ xs) (suc i) x y there same = ap (λ b. test z || b) (any_put test xs i x y there same)

-- ---- tables in which one process is another, or an area or a section is more: they stay well formed and tidy

module _ {B : Type 0} where
  abbrev pub with_area : WorldOf B → AreaOf B → WorldOf B
  with_area w a = record w { areas = w.areas ++ a ∷ [] }

  abbrev pub with_section : WorldOf B → SectionOf → WorldOf B
  with_section w s = record w { sections = w.sections ++ Some s ∷ [] }

  -- ---- what edits lead to, within the limit

  pub sound_by : (w v : WorldOf B) → Edits (any_terms answer.Ok) w v → charge v ≤ limit v → WellFormed w → WellFormed v
  sound_by w v es room h =
      let t = any_terms answer.Ok in
      record { numbers = numbers_kept t w v es h.numbers; spaces = spaces_kept t w v es h.spaces; references = references_kept t w v es h.references; charged = room }

  pub sound_edit : (w v : WorldOf B) → Edit (any_terms answer.Ok) w v → charge v ≤ limit v → WellFormed w → WellFormed v
  sound_edit w v e = sound_by w v (Then w v Nothing e)

  pub with_handle_charge : (w : WorldOf B) (pid : ℕ) (p : ProcessOf B) (number : ℕ) → process_of w pid ≡ Some p → charge (with_handle w pid p number) ≡ charge w
  with_handle_charge w pid p number lives = charge-same_regions w pid p (p.handles ++ Some number ∷ []) lives

  pub with_area_charge : (w : WorldOf B) (a : AreaOf B) → charge (with_area w a) ≡ charge w + area_charge a
  with_area_charge w a = omega (arith, sum_by_push area_charge w.areas a)

  pub new_section_well : (w : WorldOf B) (pid : ℕ) (p : ProcessOf B) (s : SectionOf) → process_of w pid ≡ Some p → s.area < length w.areas → WellFormed w → WellFormed (new_section w pid p s).world
  new_section_well w pid p s lives inside h =
      let v = with_section w s in
      let n = length w.sections in
      sound_by w (with_handle v pid p n) (Then v (with_handle v pid p n) (Then w v Nothing (SectionComes s (λ refers. inside))) (HandleComes pid p n lives (ap is_some (push_at w.sections (Some s) n refl))))
      (omega (arith, with_handle_charge v pid p n lives, h.charged)) h

-- ---- what is settled, one by one

module _ {B : Type 0} where
  sections_settle : (ps : List (Option (ProcessOf B))) (k : ℕ) (ss us : Numbered SectionOf) → length us ≡ length ss → ((i : ℕ) → settled_section ps (k + i) (numbered ss i) ≡ numbered us i) → settled_sections ps k ss ≡ us
  sections_settle ps k [] [] long h = refl
  sections_settle ps k (s ∷ ss) (u ∷ us) long h =
      let here : settled_section ps k s ≡ u = ap (λ (n : ℕ). settled_section ps n s) (let same : k ≡ k + 0 = omega arith in same) ∙ h 0 in
      let rest : settled_sections ps (k + 1) ss ≡ us =
      sections_settle ps (k + 1) ss us (omega (arith, long)) (λ i. ap (λ (n : ℕ). settled_section ps n (numbered ss i)) (let same : k + 1 + i ≡ k + suc i = omega arith in same) ∙ h (suc i)) in
      λ i. here i ∷ rest i
  sections_settle ps k _ _ long h = absurd (omega (arith, long))

  sections_settled : (ps : List (Option (ProcessOf B))) (k : ℕ) (ss : Numbered SectionOf) (i : ℕ) → numbered (settled_sections ps k ss) i ≡ settled_section ps (k + i) (numbered ss i)
  sections_settled ps k [] i = refl
  sections_settled ps k (s ∷ ss) zero = ap (λ (n : ℕ). settled_section ps n s) (let same : k ≡ k + 0 = omega arith in same)
  sections_settled ps k (s ∷ ss) (suc i) = sections_settled ps (k + 1) ss i ∙ ap (λ (n : ℕ). settled_section ps n (numbered ss i)) (let same : k + 1 + i ≡ k + suc i = omega arith in same)

  areas_settle : (ss : Numbered SectionOf) (k : ℕ) (areas bs : List (AreaOf B)) → length bs ≡ length areas → ((i : ℕ) → settled_area ss (k + i) (area_in areas i) ≡ area_in bs i) → settled_areas ss k areas ≡ bs
  areas_settle ss k [] [] long h = refl
  areas_settle ss k (a ∷ rest) (b ∷ bs) long h =
      let here : settled_area ss k a ≡ b = ap (λ (n : ℕ). settled_area ss n a) (let same : k ≡ k + 0 = omega arith in same) ∙ h 0 in
      let later : settled_areas ss (k + 1) rest ≡ bs =
      areas_settle ss (k + 1) rest bs (omega (arith, long)) (λ i. ap (λ (n : ℕ). settled_area ss n (area_in rest i)) (let same : k + 1 + i ≡ k + suc i = omega arith in same) ∙ h (suc i)) in
      λ i. here i ∷ later i
  areas_settle ss k _ _ long h = absurd (omega (arith, long))

  pub nothing_settles : (b : Bool) → cond b (no_area {B = B}) no_area ≡ no_area
  nothing_settles true = refl
  nothing_settles false = refl

  areas_settled : (ss : Numbered SectionOf) (k : ℕ) (areas : List (AreaOf B)) (i : ℕ) → area_in (settled_areas ss k areas) i ≡ settled_area ss (k + i) (area_in areas i)
  areas_settled ss k [] i = sym (nothing_settles (list_any (uses (k + i)) ss))
  areas_settled ss k (a ∷ rest) zero = ap (λ (n : ℕ). settled_area ss n a) (let same : k ≡ k + 0 = omega arith in same)
  areas_settled ss k (a ∷ rest) (suc i) = areas_settled ss (k + 1) rest i ∙ ap (λ (n : ℕ). settled_area ss n (area_in rest i)) (let same : k + 1 + i ≡ k + suc i = omega arith in same)

  -- what stands in place of a section, and of an area
  pub section_now : (ps : List (Option (ProcessOf B))) (ss : Numbered SectionOf) (n : ℕ) → numbered (settled_sections ps 0 ss) n ≡ settled_section ps n (numbered ss n)
  section_now ps ss n = sections_settled ps 0 ss n ∙ ap (λ (k : ℕ). settled_section ps k (numbered ss n)) (let same : 0 + n ≡ n = omega arith in same)

  pub area_now : (ss : Numbered SectionOf) (areas : List (AreaOf B)) (m : ℕ) → area_in (settled_areas ss 0 areas) m ≡ settled_area ss m (area_in areas m)
  area_now ss areas m = areas_settled ss 0 areas m ∙ ap (λ (k : ℕ). settled_area ss k (area_in areas m)) (let same : 0 + m ≡ m = omega arith in same)

  -- all sections are settled, and all areas but one
  pub record Settles (skip : ℕ) (w : WorldOf B) : Type 0 where
    pub sections : (n : ℕ) → settled_section w.processes n (section_of w n) ≡ section_of w n
    pub areas : (m : ℕ) → m ≢ skip → settled_area w.sections m (area_at w m) ≡ area_at w m

  pub section_settled : (w : WorldOf B) → settle w ≡ w → (n : ℕ) → settled_section w.processes n (section_of w n) ≡ section_of w n
  section_settled w e n = sym (section_now w.processes w.sections n) ∙ ap (λ (x : WorldOf B). section_of x n) e

  pub area_settled : (w : WorldOf B) → settle w ≡ w → (m : ℕ) → settled_area w.sections m (area_at w m) ≡ area_at w m
  area_settled w e m =
      ap (λ (x : WorldOf B). settled_area x.sections m (area_at w m)) (sym e)
      ∙ sym (area_now (settle w).sections w.areas m) ∙ ap (λ (x : WorldOf B). area_at x m) e

  pub settles_of : (skip : ℕ) (w : WorldOf B) → settle w ≡ w → Settles skip w
  settles_of skip w e = record { sections = section_settled w e; areas = λ m other. area_settled w e m }

  pub settle_as : (w : WorldOf B) (us : Numbered SectionOf) (bs : List (AreaOf B)) → length us ≡ length w.sections → length bs ≡ length w.areas → ((n : ℕ) → settled_section w.processes n (section_of w n) ≡ numbered us n) → ((m : ℕ) → settled_area us m (area_at w m) ≡ area_in bs m) → settle w ≡ record w { sections = us; areas = bs }
  settle_as w us bs long longer sections areas =
      let first : settled_sections w.processes 0 w.sections ≡ us =
      sections_settle w.processes 0 w.sections us long (λ n. ap (λ (k : ℕ). settled_section w.processes k (section_of w n)) (let same : 0 + n ≡ n = omega arith in same) ∙ sections n) in
      let second : settled_areas us 0 w.areas ≡ bs =
      areas_settle us 0 w.areas bs longer (λ m. ap (λ (k : ℕ). settled_area us k (area_at w m)) (let same : 0 + m ≡ m = omega arith in same) ∙ areas m) in
      let third : settled_areas (settled_sections w.processes 0 w.sections) 0 w.areas ≡ bs = ap (λ (ss : Numbered SectionOf). settled_areas ss 0 w.areas) first ∙ second in
      λ i. record w { sections = first i; areas = third i }

  pub settle_by : (w : WorldOf B) → ((n : ℕ) → settled_section w.processes n (section_of w n) ≡ section_of w n) → ((m : ℕ) → settled_area w.sections m (area_at w m) ≡ area_at w m) → settle w ≡ w
  settle_by w sections areas = settle_as w w.sections w.areas refl refl sections areas

  -- ---- more references

  pub section_more : (ps qs : List (Option (ProcessOf B))) (n : ℕ) (s : Option SectionOf) → (list_any (holds n) ps ≡ true → list_any (holds n) qs ≡ true) → (list_any (views n) ps ≡ true → list_any (views n) qs ≡ true) → settled_section ps n s ≡ s → settled_section qs n s ≡ s
  section_more ps qs n None held seen e = refl
  section_more ps qs n (Some s) held seen e = by_tests (list_any (holds n) ps) (list_any (holds n) qs) (list_any (views n) ps) (list_any (views n) qs) held seen e
    where
      by_tests : (a b c d : Bool) → (a ≡ true → b ≡ true) → (c ≡ true → d ≡ true) → cond a (Some s) (cond c (Some (record s { name = None })) None) ≡ Some s → cond b (Some s) (cond d (Some (record s { name = None })) None) ≡ Some s
      by_tests a true c d held seen e = refl
      by_tests true false c d held seen e = let bad : false ≡ true = held refl in cc
      by_tests false false true true held seen e = e
      by_tests false false true false held seen e = let bad : false ≡ true = seen refl in cc
      by_tests false false false d held seen e = cc

  section_held : (ps : List (Option (ProcessOf B))) (n : ℕ) (s : Option SectionOf) → list_any (holds n) ps ≡ true → settled_section ps n s ≡ s
  section_held ps n None e = refl
  section_held ps n (Some s) e = ap (λ b. cond b (Some s) (cond (list_any (views n) ps) (Some (record s { name = None })) None)) e

  -- of the same file or of none, with as many pages
  pub record Alike (a b : AreaOf B) : Type 0 where
    pub block : b.file_block ≡ a.file_block
    pub pages : length b.pages ≡ length a.pages

  pub alike_same : (a : AreaOf B) → Alike a a
  alike_same a = record { block = refl; pages = refl }

  alike_by : (a b : AreaOf B) → b ≡ a → Alike a b
  alike_by a b e = record { block = ap (λ (x : AreaOf B). x.file_block) e; pages = ap (λ (x : AreaOf B). length x.pages) e }

  empty_area : (b : AreaOf B) → Alike no_area b → no_area ≡ b
  empty_area b h = λ i. record { file_block = sym h.block i; pages = sym (nil_from_length b.pages h.pages) i }

  pub area_more : (ss us : Numbered SectionOf) (m : ℕ) (a b : AreaOf B) → Alike a b → (list_any (uses m) ss ≡ true → list_any (uses m) us ≡ true) → settled_area ss m a ≡ a → settled_area us m b ≡ b
  area_more ss us m a b h more e =
      ap (λ o. cond (is_some o || list_any (uses m) us) b no_area) h.block ∙ by_tests (is_some a.file_block) (list_any (uses m) ss) (list_any (uses m) us) more e
    where
      by_tests : (f c d : Bool) → (c ≡ true → d ≡ true) → cond (f || c) a no_area ≡ a → cond (f || d) b no_area ≡ b
      by_tests false true false more e = let bad : false ≡ true = more refl in cc
      by_tests false false false more e = empty_area b (subst (λ (a : AreaOf B). Alike a b) (sym e) h)
      by_tests _ c _ more e = refl

  pub area_used : (ss : Numbered SectionOf) (m : ℕ) (a : AreaOf B) → list_any (uses m) ss ≡ true → settled_area ss m a ≡ a
  area_used ss m a e = ap (λ b. cond b a no_area) (or_right (is_some a.file_block) (list_any (uses m) ss) e)

-- ---- a section more, with a handle to it

module _ (w : Tables) (pid : ℕ) (p : ProcessOf (Unit {0})) (s : SectionOf) (lives : process_of w pid ≡ Some p) (h : Settles s.area w) where
  one_settled : (n : ℕ) → settled_section (with_handle (with_section w s) pid p (length w.sections)).processes n (section_of (with_section w s) n) ≡ section_of (with_section w s) n
  one_settled n =
      let new : Option (ProcessOf (Unit {0})) = Some (record p { handles = p.handles ++ Some (length w.sections) ∷ [] }) in
      let at : slice_get w.processes pid ≡ Some (Some p) = numbered_there w.processes pid p lives in
      elim (same_or_not n (length w.sections)) [
        | inl same ↦
            section_held (set w.processes pid new) n (section_of (with_section w s) n)
            (list_any_at (holds n) (set w.processes pid new) pid new (omega (arith, numbered_inside w.processes pid p lives, length-set w.processes pid new))
            (ap (holds n) (get_or-set_same w.processes pid new new (numbered_inside w.processes pid p lives))
            ∙ any_last (is_handle_to n) p.handles (Some (length w.sections)) (same_number (length w.sections) n (sym same))))
        | inr other ↦
            section_more w.processes (set w.processes pid new) n (section_of (with_section w s) n)
            (any_set (holds n) w.processes pid (Some p) new at (any_more (is_handle_to n) p.handles (Some (length w.sections)))) (any_set (views n) w.processes pid (Some p) new at (λ k. k))
            (ap (settled_section w.processes n) (push_other w.sections (Some s) n other) ∙ h.sections n ∙ sym (push_other w.sections (Some s) n other))
      ]

  one_area : (m : ℕ) → settled_area (w.sections ++ Some s ∷ []) m (area_at w m) ≡ area_at w m
  one_area m =
      elim (same_or_not m s.area) [
        | inl same ↦ area_used (w.sections ++ Some s ∷ []) m (area_at w m) (any_last (uses m) w.sections (Some s) (same_number s.area m (sym same)))
        | inr other ↦
            area_more w.sections (w.sections ++ Some s ∷ []) m (area_at w m) (area_at w m) (alike_same (area_at w m)) (any_more (uses m) w.sections (Some s)) (h.areas m other)
      ]

  pub section_settles : settle (new_section w pid p s).world ≡ (new_section w pid p s).world
  section_settles = settle_by (with_handle (with_section w s) pid p (length w.sections)) one_settled one_area

-- ---- the rest of what is tidy

pub record Rest (w : Tables) : Type 0 where
  pub own_area : (n m : ℕ) (s r : SectionOf) → section_of w n ≡ Some s → section_of w m ≡ Some r → s.area ≡ r.area → (area_at w s.area).file_block ≡ None → n ≡ m
  pub some : (n : ℕ) (s : SectionOf) → section_of w n ≡ Some s → 1 ≤ length (area_at w s.area).pages
  pub files : (area first : ℕ) → (area_at w area).file_block ≡ Some first → FileFits w area first
  pub file_areas : Each (λ f. is_some (area_at w f.area).file_block ≡ true) w.files
  pub keepers : KeepersLive w

pub rest_of : (w : Tables) → IsTidy w → Rest w
rest_of w h = record { own_area = h.own_area; some = h.some; files = h.files; file_areas = h.file_areas; keepers = h.keepers }

pub tidy_by : (w : Tables) → settle w ≡ w → Rest w → IsTidy w
tidy_by w e h = record { settled = e; own_area = h.own_area; some = h.some; files = h.files; file_areas = h.file_areas; keepers = h.keepers }

-- ---- processes are others, which have the references that there were, or what stands beside them is

abbrev pub beside : Tables → MachineOf → List (Option (ProcessOf (Unit {0}))) → ℕ → Numbered KeptOf → Numbered StackOf → Tables
beside w m ps fails ks ss = record w { machine = m; processes = ps; fails_taken = fails; kept = ks; stacks = ss }

module _ (w : Tables) (m : MachineOf) (ps : List (Option (ProcessOf (Unit {0})))) (fails : ℕ) (ks : Numbered KeptOf) (ss : Numbered StackOf) where
  rest_beside : KeepersLive (beside w m ps fails ks ss) → Rest w → Rest (beside w m ps fails ks ss)
  rest_beside keepers h =
      record {
        own_area = h.own_area;
        some = h.some;
        files = λ area first e. let f = h.files area first e in record { blocks = f.blocks; some = f.some; committed = f.committed };
        file_areas = h.file_areas;
        keepers = keepers;
      }

  pub tidy_beside : KeepersLive (beside w m ps fails ks ss) → ((n : ℕ) → list_any (holds n) w.processes ≡ true → list_any (holds n) ps ≡ true) → ((n : ℕ) → list_any (views n) w.processes ≡ true → list_any (views n) ps ≡ true) → IsTidy w → IsTidy (beside w m ps fails ks ss)
  tidy_beside keepers held seen h =
      tidy_by (beside w m ps fails ks ss)
      (settle_by (beside w m ps fails ks ss) (λ n. section_more w.processes ps n (section_of w n) (held n) (seen n) (section_settled w h.settled n)) (area_settled w h.settled))
      (rest_beside keepers (rest_of w h))

pub beside_kept : (w : Tables) (m : MachineOf) (fails : ℕ) (ks : Numbered KeptOf) (ss : Numbered StackOf) (entries : Numbered CountedSection) (old new : CommitOf) → Beside (any_terms answer.Ok) w (beside w m w.processes fails ks ss) → KeepersLive (beside w m w.processes fails ks ss) → new.charge ≡ old.charge → new.limit ≡ limit_of m → AreKeptTables w entries old → AreKeptTables (beside w m w.processes fails ks ss) entries new
beside_kept w m fails ks ss entries old new stays keepers charged limited kept =
    record {
      sound = sound_edit w (beside w m w.processes fails ks ss) (Others (beside w m w.processes fails ks ss) stays) (omega (arith, kept.sound.charged, stays.limit)) kept.sound;
      tidy = tidy_beside w m w.processes fails ks ss keepers (λ n h. h) (λ n h. h) kept.tidy;
      counted = λ n c e. let k = kept.counted n c e in record { handles = k.handles; views = k.views };
      charged = charged ∙ kept.charged;
      limited = limited;
    }

pub put_tidy : (w : Tables) (pid : ℕ) (p q : ProcessOf (Unit {0})) → process_of w pid ≡ Some p → ((n : ℕ) → holds n (Some p) ≡ true → holds n (Some q) ≡ true) → ((n : ℕ) → views n (Some p) ≡ true → views n (Some q) ≡ true) → IsTidy w → IsTidy (set_process w pid (Some q))
put_tidy w pid p q lives held seen h =
    let at : slice_get w.processes pid ≡ Some (Some p) = numbered_there w.processes pid p lives in
    tidy_beside w w.machine (set w.processes pid (Some q)) w.fails_taken w.kept w.stacks (λ tid k e. lives_put w.processes pid k.pid q (h.keepers tid k e))
    (λ n. any_set (holds n) w.processes pid (Some p) (Some q) at (held n)) (λ n. any_set (views n) w.processes pid (Some p) (Some q) at (seen n)) h

pub handle_rest : (w : Tables) (pid : ℕ) (p : ProcessOf (Unit {0})) (number : ℕ) → Rest w → Rest (with_handle w pid p number)
handle_rest w pid p number h =
    let q : ProcessOf (Unit {0}) = record p { handles = p.handles ++ Some number ∷ [] } in
    rest_beside w w.machine (set w.processes pid (Some q)) w.fails_taken w.kept w.stacks (λ tid k e. lives_put w.processes pid k.pid q (h.keepers tid k e)) h

-- ---- a section more

-- a section can be made of this area
pub record MayList (w : Tables) (s : SectionOf) : Type 0 where
  pub alone : (area_at w s.area).file_block ≡ None → (n : ℕ) (r : SectionOf) → section_of w n ≡ Some r → r.area ≢ s.area
  pub some : 1 ≤ length (area_at w s.area).pages

pub section_rest : (w : Tables) (s : SectionOf) → MayList w s → Rest w → Rest (with_section w s)
section_rest w s may h =
    record {
      own_area = own;
      some = λ n r e.
          elim (cases n r e) [
            | inl is ↦ subst (λ (r : SectionOf). 1 ≤ length (area_at w r.area).pages) (sym is.1) may.some
            | inr is ↦ h.some n r is.1
          ];
      files = λ area first e. let f = h.files area first e in record { blocks = f.blocks; some = f.some; committed = f.committed };
      file_areas = h.file_areas;
      keepers = h.keepers;
    }
  where
    cases : (n : ℕ) (r : SectionOf) → section_of (with_section w s) n ≡ Some r → ((n ≡ length w.sections) × (r ≡ s)) ⊎ ((n ≢ length w.sections) × (section_of w n ≡ Some r))
    cases n r e =
        elim (same_or_not n (length w.sections)) [
          | inl same ↦ inl (same, same_some r s (sym e ∙ push_at w.sections (Some s) n same))
          | inr other ↦ inr (other, sym (push_other w.sections (Some s) n other) ∙ e)
        ]

    own : (n m : ℕ) (q r : SectionOf) → section_of (with_section w s) n ≡ Some q → section_of (with_section w s) m ≡ Some r → q.area ≡ r.area → (area_at w q.area).file_block ≡ None → n ≡ m
    own n m q r at_n at_m same paging =
        elim (cases n q at_n) [
          | inl a ↦
              elim (cases m r at_m) [
                | inl b ↦ a.0 ∙ sym b.0
                | inr b ↦
                    absurd (may.alone (ap (λ (q : SectionOf). (area_at w q.area).file_block) (sym a.1) ∙ paging) m r b.1 (sym same ∙ ap (λ (q : SectionOf). q.area) a.1))
              ]
          | inr a ↦
              elim (cases m r at_m) [
                | inl b ↦
                    let area : q.area ≡ s.area = same ∙ ap (λ (r : SectionOf). r.area) b.1 in
                    absurd (may.alone (ap (λ (k : ℕ). (area_at w k).file_block) (sym area) ∙ paging) n q a.1 area)
                | inr b ↦ h.own_area n m q r a.1 b.1 same paging
              ]
        ]

-- ---- areas that are others, and blocks that files have

abbrev pub with_areas : Tables → List (AreaOf (Unit {0})) → ℕ → Tables
with_areas w areas used = record w { areas = areas; blocks_used = used }

-- each area that there was is alike, and the area of each file fits
pub record AreasFit (w : Tables) (areas : List (AreaOf (Unit {0}))) (used : ℕ) : Type 0 where
  pub alike : (area : ℕ) → area < length w.areas → Alike (area_at w area) (area_in areas area)
  pub files : (area first : ℕ) → (area_in areas area).file_block ≡ Some first → FileFits (with_areas w areas used) area first

pub areas_rest : (w : Tables) (areas : List (AreaOf (Unit {0}))) (used : ℕ) → References w → AreasFit w areas used → Rest w → Rest (with_areas w areas used)
areas_rest w areas used refers fit h =
    record {
      own_area = λ n m s r at_n at_m same paging. h.own_area n m s r at_n at_m same (sym (fit.alike s.area (refers.sections n s at_n)).block ∙ paging);
      some = λ n s e. omega (arith, h.some n s e, (fit.alike s.area (refers.sections n s e)).pages);
      files = fit.files;
      file_areas = each_file w.files refers.files h.file_areas;
      keepers = h.keepers;
    }
  where
    each_file : (fs : List FileOf) → Each (λ (f : FileOf). f.area < length w.areas) fs → Each (λ (f : FileOf). is_some (area_at w f.area).file_block ≡ true) fs → Each (λ (f : FileOf). is_some (area_in areas f.area).file_block ≡ true) fs
    each_file [] low h = tt
    each_file (f ∷ fs) low h = (ap is_some (fit.alike f.area low.0).block ∙ h.0, each_file fs low.1 h.1)

-- a file's area goes by what it has
pub file_at : (v : Tables) (area first : ℕ) (a : AreaOf (Unit {0})) → area_at v area ≡ a → first + length a.pages ≤ v.blocks_used → 1 ≤ length a.pages → count_by is_some a.pages ≡ length a.pages → FileFits v area first
file_at v area first a at blocks some committed =
    let count : length (area_at v area).pages ≡ length a.pages = ap (λ (x : AreaOf (Unit {0})). length x.pages) at in
    record {
      blocks = omega (arith, blocks, count);
      some = omega (arith, some, count);
      committed = ap (λ (x : AreaOf (Unit {0})). count_by is_some x.pages) at ∙ committed ∙ sym count;
    }

-- ---- an area more

-- of a file, with its blocks behind the used ones, or of a page-file section
pub record MayAdd (w : Tables) (a : AreaOf (Unit {0})) (used : ℕ) : Type 0 where
  pub later : w.blocks_used ≤ used
  pub file : (first : ℕ) → a.file_block ≡ Some first → (first + length a.pages ≤ used) × (1 ≤ length a.pages) × (count_by is_some a.pages ≡ length a.pages)

module _ (w : Tables) (a : AreaOf (Unit {0})) (used : ℕ) where
  added_fits : MayAdd w a used → Rest w → AreasFit w (w.areas ++ a ∷ []) used
  added_fits may h =
      record {
        alike = λ area inside. alike_by (area_at w area) (area_in (w.areas ++ a ∷ []) area) (area_before w.areas a area (λ same. absurd (omega (arith, inside, same))));
        files = λ area first e.
            elim (same_or_not area (length w.areas)) [
              | inl same ↦
                  let at : area_in (w.areas ++ a ∷ []) area ≡ a = area_at_end w.areas a area same in
                  let f = may.file first (ap (λ (x : AreaOf (Unit {0})). x.file_block) (sym at) ∙ e) in
                  file_at (with_areas w (w.areas ++ a ∷ []) used) area first a at f.0 f.1 f.2
              | inr other ↦
                  let at : area_in (w.areas ++ a ∷ []) area ≡ area_at w area = area_before w.areas a area other in
                  let f = h.files area first (ap (λ (x : AreaOf (Unit {0})). x.file_block) (sym at) ∙ e) in
                  file_at (with_areas w (w.areas ++ a ∷ []) used) area first (area_at w area) at (omega (arith, f.blocks, may.later)) f.some f.committed
            ];
      }

  pub area_rest : References w → MayAdd w a used → Rest w → Rest (with_areas w (w.areas ++ a ∷ []) used)
  area_rest refers may h = areas_rest w (w.areas ++ a ∷ []) used refers (added_fits may h) h

  pub area_settles : settle w ≡ w → Settles (length w.areas) (with_areas w (w.areas ++ a ∷ []) used)
  area_settles e =
      record {
        sections = section_settled w e;
        areas = λ m other. let at = area_before w.areas a m other in ap (settled_area w.sections m) at ∙ area_settled w e m ∙ sym at;
      }

-- ---- regions that can stand in place of those of a process

pub record StandIn (t : Tables) (rs ss : List (RegionOf (Unit {0}))) : Type 0 where
  pub edit : (pid : ℕ) → RegionEdit (any_terms answer.Ok) t pid rs ss
  pub views : (n : ℕ) → count_by (λ r. is_view_of n r.kind) ss ≡ count_by (λ r. is_view_of n r.kind) rs

module _ (t : Tables) (pid : ℕ) (p : ProcessOf (Unit {0})) (ss : List (RegionOf (Unit {0}))) (lives : process_of t pid ≡ Some p) (h : StandIn t p.regions ss) where
  pub sound_after : WellFormed t → charge (set_regions t pid p ss) ≤ limit t → WellFormed (set_regions t pid p ss)
  sound_after sound within = sound_edit t (set_regions t pid p ss) (Regions pid p ss lives (h.edit pid)) within sound

  pub kept_after : (entries : Numbered CountedSection) (old new : CommitOf) → AreKeptTables t entries old → new.charge ≡ charge (set_regions t pid p ss) → new.limit ≡ limit t → charge (set_regions t pid p ss) ≤ limit t → AreKeptTables (set_regions t pid p ss) entries new
  kept_after entries old new kept charged limited within =
      let there = numbered_there t.processes pid p lives in
      let q : Option (ProcessOf (Unit {0})) = Some (record p { regions = ss }) in
      record {
        sound = sound_after kept.sound within;
        tidy = put_tidy t pid p (record p { regions = ss }) lives (λ n e. e) (λ n e.
            any_count (λ r. is_view_of n r.kind) ss ∙ ap (λ (n : ℕ). nat_lt 0 n) (h.views n) ∙ sym (any_count (λ r. is_view_of n r.kind) p.regions) ∙ e) kept.tidy;
        counted = λ n c e.
            let k = kept.counted n c e in
            record {
              handles = omega (arith, k.handles, sum_by-put (handles_in n) t.processes pid (Some p) q there);
              views = omega (arith, k.views, sum_by-put (views_in n) t.processes pid (Some p) q there, h.views n);
            };
        charged = charged;
        limited = limited;
      }

-- ---- the places of living processes among those that are kept

pub shown_at : (items : List (Option Process)) (pid : ℕ) (o : Option Process) → 1 ≤ pid → pid ≤ length items → o ≡ get_or items (pid - 1) o → numbered (shown_processes items) pid ≡ option_map shown_process o
shown_at items zero o some few e = absurd (omega arith)
shown_at items (suc i) o some few e =
    let same : suc i - 1 ≡ i = omega arith in
    get_or-map (option_map shown_process) items i None
    ∙ ap (option_map shown_process) (get_or_default items i None o (omega arith) ∙ sym (e ∙ ap (λ (k : ℕ). get_or items k o) same))

-- the pids that live
pub lives_where : (items : List (Option Process)) (pid : ℕ) → is_some (numbered (shown_processes items) pid) ≡ true → (1 ≤ pid) × (pid ≤ length items)
lives_where items zero e = cc
lives_where items (suc i) e =
    let there : is_some (get_or items i None) ≡ true =
    sym (some_map shown_process (get_or items i None)) ∙ ap is_some (sym (get_or-map (option_map shown_process) items i None)) ∙ e in
    let x = some_found (get_or items i None) there in
    (omega arith, numbered_inside items i x.0 x.1)

pub map_set : (items : List (Option Process)) (i : ℕ) (o : Option Process) → map (option_map shown_process) (set items i o) ≡ set (map (option_map shown_process) items) i (option_map shown_process o)
map_set items i o = map-set (option_map shown_process) items i o

pub shown_set : (items : List (Option Process)) (pid : ℕ) (o : Option Process) → 1 ≤ pid → shown_processes (set items (pid - 1) o) ≡ set (shown_processes items) pid (option_map shown_process o)
shown_set items zero o some = absurd (omega arith)
shown_set items (suc i) o some =
    let same : suc i - 1 ≡ i = omega arith in
    ap (λ (k : ℕ). shown_processes (set items k o)) same ∙ ap (λ ps. None ∷ ps) (map_set items i o)

-- other regions, or other handles, at the place of a living process
pub spaced : (o : Option Process) (space : RegionsOf) (f : List (RegionOf (Unit {0})) → List (RegionOf (Unit {0}))) → space.regions ≡ f (process_regions o) → (p : ProcessOf (Unit {0})) → option_map shown_process o ≡ Some p → option_map shown_process (with_space o space) ≡ Some (record p { regions = f p.regions })
spaced None space f is p e = cc
spaced (Some q) space f is p e =
    ap (λ rs. let o : Option (ProcessOf (Unit {0})) = Some (record { regions = rs; handles = q.handles.entries }) in o) is
    ∙ ap (option_map (λ (p : ProcessOf (Unit {0})). let r : ProcessOf (Unit {0}) = record p { regions = f p.regions } in r)) e

pub handled : (o : Option Process) (handles : HandlesOf) (f : Numbered ℕ → Numbered ℕ) → handles.entries ≡ f (process_handles o) → (p : ProcessOf (Unit {0})) → option_map shown_process o ≡ Some p → option_map shown_process (with_handles o handles) ≡ Some (record p { handles = f p.handles })
handled None handles f is p e = cc
handled (Some q) handles f is p e =
    ap (λ hs. let o : Option (ProcessOf (Unit {0})) = Some (record { regions = q.space.regions; handles = hs }) in o) is
    ∙ ap (option_map (λ (p : ProcessOf (Unit {0})). let r : ProcessOf (Unit {0}) = record p { handles = f p.handles } in r)) e

pub regions_as : (o : Option Process) (p : ProcessOf (Unit {0})) → option_map shown_process o ≡ Some p → process_regions o ≡ p.regions
regions_as None p e = cc
regions_as (Some q) p e = ap (λ (o : Option (ProcessOf (Unit {0}))). unwrap_or (option_map (λ (p : ProcessOf (Unit {0})). p.regions) o) []) e

pub handles_by : (o : Option Process) (p : ProcessOf (Unit {0})) → option_map shown_process o ≡ Some p → process_handles o ≡ p.handles
handles_by None p e = cc
handles_by (Some q) p e = ap (λ (o : Option (ProcessOf (Unit {0}))). unwrap_or (option_map (λ (p : ProcessOf (Unit {0})). p.handles) o) []) e

-- ---- a living process

pub record Standing (t : Tables) (pid : ℕ) (items : List (Option Process)) (o : Option Process) : Type 0 where
  pub process : Process
  pub is : o ≡ Some process
  pub lives : process_of t pid ≡ Some (shown_process process)
  pub some : 1 ≤ pid
  pub few : pid ≤ length items

-- these tables with other processes
abbrev pub shown_with : Inside → List (Option Process) → Tables
shown_with i items = tables_with i.machine (shown_processes items) i.directory.entries i.areas.items i.directory.files i.blocks_used i.fails_taken (shown_accesses i.kept) i.stacks

module _ (i : Inside) (t : Tables) (view : shown_with i i.processes.items ≡ t) where
  standing : (pid : ℕ) (o : Option Process) → is_some (process_of t pid) ≡ true → o ≡ get_or i.processes.items (pid - 1) o → Standing t pid i.processes.items o
  standing pid o alive found =
      let here : numbered (shown_processes i.processes.items) pid ≡ process_of t pid = ap (λ (t : Tables). process_of t pid) view in
      let w = lives_where i.processes.items pid (ap is_some here ∙ alive) in
      let at = shown_at i.processes.items pid o w.0 w.1 found in
      let x = some_found o (sym (some_map shown_process o) ∙ ap is_some (sym at ∙ here) ∙ alive) in
      record { process = x.0; is = x.1; lives = sym here ∙ at ∙ ap (option_map shown_process) x.1; some = w.0; few = w.1 }

  new_tables : (pid : ℕ) (o : Option Process) (space : RegionsOf) (p : ProcessOf (Unit {0})) (ss : List (RegionOf (Unit {0}))) → Standing t pid i.processes.items o → space.regions ≡ ss → process_of t pid ≡ Some p → shown_with i (set i.processes.items (pid - 1) (with_space o space)) ≡ set_regions t pid p ss
  new_tables pid o space p ss h is lives =
      let now = spaced o space (λ rs. ss) is p (ap (option_map shown_process) h.is ∙ sym h.lives ∙ lives) in
      (λ j. record (shown_with i i.processes.items) { processes = (shown_set i.processes.items pid (with_space o space) h.some ∙ ap (set (shown_processes i.processes.items) pid) now) j })
      ∙ ap (λ (t : Tables). set_regions t pid p ss) view

-- ---- The tables as they are kept, with a process that lives in them, after a step on it

-- what is known of tables that are kept and of what stands at the place of a process that lives, whose regions these are
pub record Held (i : Inside) (t : Tables) (pid : ℕ) (o : Option Process) (rs : List (RegionOf (Unit {0}))) : Type 0 where
  pub view : shown_with i i.processes.items ≡ t
  pub process : ProcessOf (Unit {0})
  pub there : is_some o ≡ true
  pub shown : option_map shown_process o ≡ Some process
  pub lives : process_of t pid ≡ Some process
  pub low : 1 ≤ pid
  pub same : rs ≡ process.regions
  pub kept : AreKeptTables t i.directory.entries i.commit
  pub changed : (space : RegionsOf) (p : ProcessOf (Unit {0})) (ss : List (RegionOf (Unit {0}))) → space.regions ≡ ss → process_of t pid ≡ Some p → shown_with i (set i.processes.items (pid - 1) (with_space o space)) ≡ set_regions t pid p ss

pub held_by : (i : Inside) (t : Tables) {rs : List (RegionOf (Unit {0}))} → shown_with i i.processes.items ≡ t → AreKeptTables (shown_with i i.processes.items) i.directory.entries i.commit → (pid : ℕ) (o : Option Process) → is_some (process_of t pid) ≡ true → o ≡ get_or i.processes.items (pid - 1) o → rs ≡ process_regions o → Held i t pid o rs
held_by i t view kept pid o alive found same =
    let s = standing i t view pid o alive found in
    record {
      view = view;
      process = shown_process s.process;
      there = ap is_some s.is;
      shown = ap (option_map shown_process) s.is;
      lives = s.lives;
      low = s.some;
      same = same ∙ ap process_regions s.is;
      kept = subst (λ (t : Tables). AreKeptTables t i.directory.entries i.commit) view kept;
      changed = λ space p ss is lives. new_tables i t view pid o space p ss s is lives;
    }

-- one lives there
pub lives_there : (i : Inside) (t : Tables) → shown_with i i.processes.items ≡ t → (pid : ℕ) (o : Option Process) → is_some (process_of t pid) ≡ true → o ≡ get_or i.processes.items (pid - 1) o → is_some o ≡ true
lives_there i t view pid o alive found = ap is_some (standing i t view pid o alive found).is

-- the process that stands there is the one that lives
pub shown_is : (i : Inside) (t : Tables) → shown_with i i.processes.items ≡ t → (pid : ℕ) (o : Option Process) → is_some (process_of t pid) ≡ true → o ≡ get_or i.processes.items (pid - 1) o → (x : Process) (p : ProcessOf (Unit {0})) → o ≡ Some x → process_of t pid ≡ Some p → shown_process x ≡ p
shown_is i t view pid o alive found x p e lives =
    let s = standing i t view pid o alive found in
    ap shown_process (same_found o x s.process e s.is) ∙ process_is t pid (shown_process s.process) p s.lives lives

module _ {i : Inside} {t : Tables} {pid : ℕ} {o : Option Process} {rs : List (RegionOf (Unit {0}))} (h : Held i t pid o rs) where
  -- the regions of the process by whatever name it has
  pub regions_by : (p : ProcessOf (Unit {0})) → process_of t pid ≡ Some p → rs ≡ p.regions
  regions_by p lives = h.same ∙ ap (λ (p : ProcessOf (Unit {0})). p.regions) (process_is t pid h.process p h.lives lives)

  -- a step has changed the regions
  pub still_kept : (space : RegionsOf) (ss : List (RegionOf (Unit {0}))) (commit : CommitOf) (total : ℕ) → space.regions ≡ ss → StandIn t h.process.regions ss → charge (set_regions t pid h.process ss) ≡ total → total ≤ limit t → commit.charge ≡ total → commit.limit ≡ i.commit.limit → AreKeptTables (shown_with i (set i.processes.items (pid - 1) (with_space o space))) i.directory.entries commit
  still_kept space ss commit total is stands charged within counted limited =
      subst (λ (t : Tables). AreKeptTables t i.directory.entries commit) (sym (h.changed space h.process ss is h.lives))
      (kept_after t pid h.process ss h.lives stands i.directory.entries i.commit commit h.kept (counted ∙ sym charged) (limited ∙ h.kept.limited) (omega (arith, charged, within)))

  -- a step has changed nothing
  pub same_tables : (space : RegionsOf) → space.regions ≡ rs → shown_with i (set i.processes.items (pid - 1) (with_space o space)) ≡ t
  same_tables space is =
      let same : set t.processes pid (Some h.process) ≡ t.processes = ap (set t.processes pid) (sym h.lives) ∙ set-get_or t.processes pid None in
      h.changed space h.process h.process.regions (is ∙ h.same) h.lives ∙ (λ i. record t { processes = same i })

  pub kept_same : (space : RegionsOf) → space.regions ≡ rs → AreKeptTables (shown_with i (set i.processes.items (pid - 1) (with_space o space))) i.directory.entries i.commit
  kept_same space is = subst (λ (t : Tables). AreKeptTables t i.directory.entries i.commit) (sym (same_tables space is)) h.kept

  -- a step has changed rows of the region around a range: the regions, and the tables then
  module _ (range : Range) (space : RegionsOf) (change : RegionOf (Unit {0}) → RowOf (Unit {0}) → RowOf (Unit {0})) (changed : (r : Found (RegionOf (Unit {0}))) → region_around rs range ≡ Some r → space.regions ≡ set rs r.place (change_rows (change r.thing) range r.thing)) (p : ProcessOf (Unit {0})) (r : Found (RegionOf (Unit {0}))) (lives : process_of t pid ≡ Some p) (found : region_around p.regions range ≡ Some r) where
    pub around_became : space.regions ≡ set p.regions r.place (change_rows (change r.thing) range r.thing)
    around_became =
        let same = regions_by p lives in
        changed r (ap (λ rs. region_around rs range) same ∙ found) ∙ ap (λ rs. set rs r.place (change_rows (change r.thing) range r.thing)) same

    pub around_changed : shown_with i (set i.processes.items (pid - 1) (with_space o space)) ≡ set_region t pid p r.place (change_rows (change r.thing) range r.thing)
    around_changed = h.changed space p (set p.regions r.place (change_rows (change r.thing) range r.thing)) around_became lives

-- ---- tables whose threads keep other accesses, or have other stacks

pub kept_with : (t : Tables) (ks : Numbered KeptOf) (ss : Numbered StackOf) (entries : Numbered CountedSection) (commit : CommitOf) → AreKeptTables t entries commit → length ks ≡ threads → KeepersLive (record t { kept = ks; stacks = ss }) → AreKeptTables (record t { kept = ks; stacks = ss }) entries commit
kept_with t ks ss entries commit kept count keepers =
    beside_kept t t.machine t.fails_taken ks ss entries commit commit
    (record { processes = refl; sections = refl; areas = refl; files = refl; threads = count ∙ sym kept.sound.numbers.kept; fails = λ h. h; blocks = λ h. h; slots = λ h. h; kept = λ e. cc; stacks = λ e. cc; limit = omega arith })
    keepers refl kept.limited kept

-- ---- one thread keeps another access, or none

module _ (i : Inside) (tid : ℕ) (o : Option Kept) where
  pub put_kept : ((k : KeptOf) → option_map kept_of o ≡ Some k → is_some (process_of (shown_with i i.processes.items) k.pid) ≡ true) → AreKeptTables (shown_with i i.processes.items) i.directory.entries i.commit → AreKeptTables (record (shown_with i i.processes.items) { kept = shown_accesses (set i.kept tid o) }) i.directory.entries i.commit
  put_kept lives kept =
      let t = shown_with i i.processes.items in
      subst (λ (ks : Numbered KeptOf). AreKeptTables (record t { kept = ks }) i.directory.entries i.commit) (sym (map-set (option_map kept_of) i.kept tid o))
      (kept_with t (set t.kept tid (option_map kept_of o)) t.stacks i.directory.entries i.commit kept (length-set t.kept tid (option_map kept_of o) ∙ kept.sound.numbers.kept) (keepers_put t tid (option_map kept_of o) lives kept.tidy.keepers))

  pub put_is : (t : Tables) → shown_with i i.processes.items ≡ t → record (shown_with i i.processes.items) { kept = shown_accesses (set i.kept tid o) } ≡ keep t tid (option_map kept_of o)
  put_is t view = (λ j. record (shown_with i i.processes.items) { kept = map-set (option_map kept_of) i.kept tid o j }) ∙ ap (λ (t : Tables). keep t tid (option_map kept_of o)) view

-- ---- no thread keeps one

pub first_kept : (m : MachineOf) (commit : CommitOf) → m.slots ≤ most_slots → commit.charge ≡ 0 → commit.limit ≡ limit_of m → AreKeptTables (first_world m) [] commit
first_kept m commit few charged limited =
    record {
      sound = record {
        numbers = record { processes = omega arith; no_process = refl; kept = refl; fails = omega arith; blocks = omega arith; slots = few };
        spaces = λ pid p e. absurd (nobody pid p e);
        references = record { processes = λ pid p e. absurd (nobody pid p e); sections = λ n s e. cc; files = tt };
        charged = omega arith;
      };
      tidy = record {
        settled = refl;
        own_area = λ n p s r e f same paging. cc;
        some = λ n s e. cc;
        files = λ area first e. cc;
        file_areas = tt;
        keepers = λ tid k e. absurd (let bad : None ≡ Some k = sym (none_replicated threads tid) ∙ e in cc);
      };
      counted = λ n c e. cc;
      charged = charged;
      limited = limited;
    }
  where
    nobody : (pid : ℕ) (p : ProcessOf (Unit {0})) → process_of (first_world m) pid ≡ Some p → ⊥
    nobody zero p e = cc
    nobody (suc pid) p e = cc

-- ---- accesses of one process are dropped

pub all_changed : {X : Type 0} (f : X → X) (xs : List X) (n : ℕ) → length xs ≤ n → map f (take n xs) ++ drop n xs ≡ map f xs
all_changed f xs n few = (λ i. map f (take_all n xs few i) ++ drop_all n xs few i) ∙ append-nil (map f xs)

pub shown_unless : (pid : ℕ) (ks : List (Option Kept)) → shown_accesses (map (unless_of pid) ks) ≡ map (kept_of_others pid) (shown_accesses ks)
shown_unless pid [] = refl
shown_unless pid (x ∷ ks) = λ i. one x i ∷ shown_unless pid ks i
  where
    by_test : (k : Kept) (b : Bool) → option_map kept_of (cond b None (Some k)) ≡ cond b None (Some (kept_of k))
    by_test k true = refl
    by_test k false = refl

    one : (o : Option Kept) → option_map kept_of (unless_of pid o) ≡ kept_of_others pid (option_map kept_of o)
    one None = refl
    one (Some k) = by_test k (k.pid.0 == pid)

module _ (t : Tables) (pid : ℕ) where
  pub kept_dropped : (entries : Numbered CountedSection) (commit : CommitOf) → AreKeptTables t entries commit → AreKeptTables (record t { kept = map (kept_of_others pid) t.kept }) entries commit
  kept_dropped entries commit kept =
      kept_with t (map (kept_of_others pid) t.kept) t.stacks entries commit kept (length-map t.kept (kept_of_others pid) ∙ kept.sound.numbers.kept)
      (λ tid k e. kept.tidy.keepers tid k (of_others pid t.kept tid k e).0)

-- ---- tables whose threads have other stacks

-- stacks stand beside what is kept
pub kept_beside : (t : Tables) (ss : Numbered StackOf) (entries : Numbered CountedSection) (commit : CommitOf) → AreKeptTables t entries commit → AreKeptTables (record t { stacks = ss }) entries commit
kept_beside t ss entries commit kept = kept_with t t.kept ss entries commit kept kept.sound.numbers.kept kept.tidy.keepers

pub nobody_beside : (t u : Tables) (ends : StackOf → Bool) (pid : ℕ) → u ≡ end_stacks t ends → NobodyKeeps pid t → NobodyKeeps pid u
nobody_beside t u ends pid is h = subst (NobodyKeeps pid) (sym is) h

-- ---- each place is changed, one by one

module _ {A : Type 0} where
  same_read : (xs : List A) (i : ℕ) (d : A) → get_or xs i d ≡ get_or xs i (get_or xs i d)
  same_read (a ∷ xs) (suc i) d = same_read xs i d
  same_read _ _ d = refl

  pub one_more : (f : A → A) (xs ys : List A) (i : ℕ) (d r : A) → i < length xs → ys ≡ map f (take i xs) ++ drop i xs → r ≡ f (get_or ys i d) → set ys i r ≡ map f (take (i + 1) xs) ++ drop (i + 1) xs
  one_more f xs ys i d r lt h is = ap (set ys i) is ∙ map_over_more f xs ys i (get_or ys i d) lt h (same_read ys i d)

-- ---- threads that have no stack are passed over

module _ (test : StackOf → Bool) where
  pub below_too : (end : ℕ) (xs : Numbered StackOf) → StandBelow end xs → StandBelow end (map (unless test) xs)
  below_too end xs below = record { within = below.within; none = λ tid after. get_or-map (unless test) xs tid None ∙ ap (unless test) (below.none tid after) }

  none_is : (xs : Numbered StackOf) → ((tid : ℕ) → numbered xs tid ≡ None) → xs ≡ map (unless test) xs
  none_is [] none = refl
  none_is (x ∷ xs) none =
      let e : x ≡ unless test x = none 0 ∙ ap (unless test) (sym (none 0)) in
      ap (λ (y : Option StackOf). y ∷ xs) e ∙ ap (λ (ys : Numbered StackOf). unless test x ∷ ys) (none_is xs (λ tid. none (suc tid)))

  front_alone : (xs : Numbered StackOf) (end : ℕ) → ((tid : ℕ) → end ≤ tid → numbered xs tid ≡ None) → map (unless test) (take end xs) ++ drop end xs ≡ map (unless test) xs
  front_alone [] zero none = refl
  front_alone [] (suc end) none = refl
  front_alone (x ∷ xs) zero none = none_is (x ∷ xs) (λ tid. none tid (omega arith))
  front_alone (x ∷ xs) (suc end) none = ap (λ (ys : Numbered StackOf). unless test x ∷ ys) (front_alone xs end (λ tid after. none (suc tid) (omega (arith, after))))

  pub unless_all : (end tid : ℕ) (xs ys : Numbered StackOf) → end ≤ tid → StandBelow end xs → ys ≡ map (unless test) (take tid xs) ++ drop tid xs → ys ≡ map (unless test) xs
  unless_all end tid xs ys after below is = is ∙ front_alone xs tid (λ i later. below.none i (omega (arith, after, later)))

pub none_yet : (n : ℕ) → StandBelow 0 (replicate n None)
none_yet n = record { within = omega arith; none = λ tid after. none_replicated n tid }
