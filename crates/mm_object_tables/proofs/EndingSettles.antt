-- One reference less, section by section: what is settled, that a store fits, and with what a section's pages go.
use Rattle.std.proofs.Common.{◌≡◌, ◌≢◌, inl, inr, ℕ, zero, suc, ◌+◌, ◌≤◌, ◌<◌, Bool, true, false, Option, Some, None, List, [], ◌∷◌, refl, sym, ◌∙◌, ap, subst, cond, arith, length, set, slice_get, is_some, ◌||◌, unwrap_or, count_by, is_none, ◌&&◌, nat_lt, sum_by, option_map, ◌-◌}
use Rattle.std.specs.Prelude.{◌==◌, remove, option_and_then, position}
use Rattle.std.specs.List.{list_any, position_or_len}
use Rattle.std.specs.Cmp.{unsigned_Decides}
use Rattle.std.proofs.lemmas.List.{get_or-set_same, get_or-set_other, length-set, set-set}
use Rattle.std.proofs.lemmas.List.Folds.{list_any_at}
use Rattle.std.proofs.lemmas.Option.{get_or_from_slice_get}
use Rattle.std.proofs.Math.Path.{fun_ext}
use Rattle.std.proofs.lemmas.Bool.{le-leb, ltb-true, ltb-false}
use Rattle.std.proofs.lemmas.List.Sums.{sum_by-cons, sum_by-remove, passes_at_first, fails_before_first}
use Rattle.mm_types.proofs.{none_of, get_set_other, get_set_same, get_within, same_or_not, some_found, some_map, not_true, or_left, or_right, or_both}
use Rattle.mm_types.proofs.{either, and_true, and_false, some_get}
use Rattle.mm_world.specs.{WorldOf, ProcessOf, SectionOf, AreaOf, FileOf, Numbered, numbered, RegionOf, section_of, area_at, no_area, set_process}
use Rattle.mm_world.specs.{process_of, holds, views, uses, settle, settled_section, settled_sections, settled_area, settled_areas, is_handle_to}
use Rattle.mm_world.specs.{is_view_of, Each, area_charge, Page, shared_page, Home, Committed, committed_at, key_of, InSection, Own, Tables}
use Rattle.mm_world.proofs.{numbered_inside, numbered_there, sum_by-put, count_by-never, found_stands, committed_is, home_cases, IsOwn, IsShared}
use Rattle.mm_sections.specs.{number_of_block}
use Rattle.mm_object_tables.specs.{IsTidy, KeepersLive, handles_in, views_in, handles_to, views_of, ended_area, FitsTables, Carried, CarriesPages}
use Rattle.mm_object_tables.specs.{store_beside, key_at, Less, is_key_of_area, Emptied, IsRankFor}
use Rattle.mm_object_tables.proofs.Keeping.{any_count, any_put, alike_same, area_more, area_now, area_settled, area_used, nothing_settles, section_more, section_now, section_settled, settle_as, settle_by}
use Rattle.mm_object_tables.proofs.Lists.{area_in, counted, same_some}
use Rattle.mm_types.specs.{Key, Place, View, Area}
use Rattle.mm_types.specs.declared.numbers.Key.TheVariants as key
use Rattle.mm_types.specs.declared.views.Kind.TheVariants as kind
use Rattle.mm_store.specs.{StoreOf, or_else, last_rank, handle_rank, view_rank, section_rank, rank_behind, goes_with}
use Rattle.mm_object_tables.proofs.Rows.{has, regions_in, region_key, key_in_has, key_at_is}
use Rattle.mm_object_tables.proofs.SectionFits.{IsOld, fits_area, no_block, with_area_of}

-- ---- lists

any_less : {A : Type 0} (test : Option A → Bool) (xs : List (Option A)) (i : ℕ) → test None ≡ false → list_any test (set xs i None) ≡ true → list_any test xs ≡ true
any_less test [] i none e = e
any_less test (x ∷ xs) zero none e = or_right (test x) (list_any test xs) (ap (λ b. b || list_any test xs) (sym none) ∙ e)
any_less test (x ∷ xs) (suc i) none e = or_both (test x) (list_any test (set xs i None)) (list_any test xs) (any_less test xs i none) e

pub any_numbered : {A : Type 0} (test : Option A → Bool) (xs : Numbered A) (i : ℕ) (x : A) → numbered xs i ≡ Some x → test (Some x) ≡ true → list_any test xs ≡ true
any_numbered test xs i x there passes = list_any_at test xs i None (numbered_inside xs i x there) (ap test there ∙ passes)

-- which section uses an area
pub record Uses (ss : Numbered SectionOf) (area : ℕ) : Type 0 where
  pub number : ℕ
  pub section : SectionOf
  pub there : numbered ss number ≡ Some section
  pub same_area : section.area ≡ area

used_by : (ss : Numbered SectionOf) (area : ℕ) → list_any (uses area) ss ≡ true → Uses ss area
used_by [] area e = cc
used_by (None ∷ ss) area e = let u = used_by ss area e in record { number = suc u.number; section = u.section; there = u.there; same_area = u.same_area }
used_by (Some s ∷ ss) area e =
    elim (either (s.area == area) (list_any (uses area) ss) e) [
      | inl h ↦ record { number = 0; section = s; there = refl; same_area = (unsigned_Decides s.area area).0 h }
      | inr h ↦ (let u = used_by ss area h in record { number = suc u.number; section = u.section; there = u.there; same_area = u.same_area })
    ]

twice : (s : SectionOf) (h v g u : Bool) → (g ≡ true → h ≡ true) → (u ≡ true → v ≡ true) → (settle_by : Option SectionOf → Option SectionOf) → ((x : SectionOf) → settle_by (Some x) ≡ cond g (Some x) (cond u (Some (record x { name = None })) None)) → settle_by None ≡ None → settle_by (cond h (Some s) (cond v (Some (record s { name = None })) None)) ≡ cond g (Some s) (cond u (Some (record s { name = None })) None)
twice s true v g u gh uv by at none = at s
twice s false true false u gh uv by at none = at (record s { name = None })
twice s false v true u gh uv by at none = absurd (let bad : false ≡ true = gh refl in cc)
twice s false false false true gh uv by at none = absurd (let bad : false ≡ true = uv refl in cc)
twice s false false false false gh uv by at none = none

each_still : (P Q : FileOf → Type 0) (fs : List FileOf) → ((f : FileOf) → P f → Q f) → Each P fs → Each Q fs
each_still P Q [] h k = tt
each_still P Q (f ∷ fs) h k = (h f k.0, each_still P Q fs h k.1)

module _ {B : Type 0} where
  -- ---- settled once and again

  -- the second processes have no reference that the first have not
  pub record Takes (ps qs : List (Option (ProcessOf B))) : Type 0 where
    pub held : (n : ℕ) → list_any (holds n) qs ≡ true → list_any (holds n) ps ≡ true
    pub seen : (n : ℕ) → list_any (views n) qs ≡ true → list_any (views n) ps ≡ true

  section_twice : (ps qs : List (Option (ProcessOf B))) (n : ℕ) (s : Option SectionOf) → Takes ps qs → settled_section qs n (settled_section ps n s) ≡ settled_section qs n s
  section_twice ps qs n None t = refl
  section_twice ps qs n (Some s) t =
      twice s (list_any (holds n) ps) (list_any (views n) ps) (list_any (holds n) qs) (list_any (views n) qs) (t.held n) (t.seen n) (settled_section qs n) (λ x. refl) refl

  sections_twice : (ps qs : List (Option (ProcessOf B))) (k : ℕ) (ss : Numbered SectionOf) → Takes ps qs → settled_sections qs k (settled_sections ps k ss) ≡ settled_sections qs k ss
  sections_twice ps qs k [] t = refl
  sections_twice ps qs k (s ∷ ss) t = λ i. section_twice ps qs k s t i ∷ sections_twice ps qs (k + 1) ss t i

  area_twice : (a : AreaOf B) (f b g : Bool) → (g ≡ true → b ≡ true) → (by : AreaOf B → AreaOf B) → by a ≡ cond (f || g) a no_area → by no_area ≡ no_area → by (cond (f || b) a no_area) ≡ cond (f || g) a no_area
  area_twice a false false true up by at none = absurd (let bad : false ≡ true = up refl in cc)
  area_twice a false false false up by at none = none
  area_twice a _ _ g up by at none = at

  areas_twice : (ss us : Numbered SectionOf) (k : ℕ) (areas : List (AreaOf B)) → ((a : ℕ) → list_any (uses a) us ≡ true → list_any (uses a) ss ≡ true) → settled_areas us k (settled_areas ss k areas) ≡ settled_areas us k areas
  areas_twice ss us k [] up = refl
  areas_twice ss us k (a ∷ rest) up =
      λ i. area_twice a (is_some a.file_block) (list_any (uses k) ss) (list_any (uses k) us) (up k) (settled_area us k) refl (nothing_settles (list_any (uses k) us)) i
      ∷ areas_twice ss us (k + 1) rest up i

  stayed : (ps : List (Option (ProcessOf B))) (n : ℕ) (s : Option SectionOf) (t : SectionOf) → settled_section ps n s ≡ Some t → (x : SectionOf) × (s ≡ Some x) × (t.area ≡ x.area)
  stayed ps n None t e = cc
  stayed ps n (Some s) t e = by_tests (list_any (holds n) ps) (list_any (views n) ps) e
    where
      by_tests : (b c : Bool) → cond b (Some s) (cond c (Some (record s { name = None })) None) ≡ Some t → (x : SectionOf) × (Some s ≡ Some x) × (t.area ≡ x.area)
      by_tests true c e = (s, refl, (let same : s ≡ t = cc in ap (λ (s : SectionOf). s.area) (sym same)))
      by_tests false true e = (s, refl, (let same : record s { name = None } ≡ t = cc in ap (λ (s : SectionOf). s.area) (sym same)))
      by_tests false false e = cc

  -- the section that stands after settling stood before
  pub stood : (ps : List (Option (ProcessOf B))) (ss : Numbered SectionOf) (n : ℕ) (t : SectionOf) → numbered (settled_sections ps 0 ss) n ≡ Some t → (x : SectionOf) × (numbered ss n ≡ Some x) × (t.area ≡ x.area)
  stood ps ss n t e = stayed ps n (numbered ss n) t (sym (section_now ps ss n) ∙ e)

  uses_less : (ps : List (Option (ProcessOf B))) (ss : Numbered SectionOf) (a : ℕ) → list_any (uses a) (settled_sections ps 0 ss) ≡ true → list_any (uses a) ss ≡ true
  uses_less ps ss a e =
      let u = used_by (settled_sections ps 0 ss) a e in
      let x = stood ps ss u.number u.section u.there in
      any_numbered (uses a) ss u.number x.0 x.1 ((unsigned_Decides x.0.area a).1 (sym x.2 ∙ u.same_area))

  pub settle_twice : (w : WorldOf B) (qs : List (Option (ProcessOf B))) → Takes w.processes qs → settle (record (settle w) { processes = qs }) ≡ settle (record w { processes = qs })
  settle_twice w qs t =
      let one = settled_sections w.processes 0 w.sections in
      let same : settled_sections qs 0 one ≡ settled_sections qs 0 w.sections = sections_twice w.processes qs 0 w.sections t in
      let areas : settled_areas (settled_sections qs 0 one) 0 (settled_areas one 0 w.areas) ≡ settled_areas (settled_sections qs 0 one) 0 w.areas =
      areas_twice one (settled_sections qs 0 one) 0 w.areas (uses_less qs one) in
      let whole : settled_areas (settled_sections qs 0 one) 0 (settled_areas one 0 w.areas) ≡ settled_areas (settled_sections qs 0 w.sections) 0 w.areas =
      areas ∙ ap (λ (ss : Numbered SectionOf). settled_areas ss 0 w.areas) same in
      λ i. record w { processes = qs; sections = same i; areas = whole i }

  -- an end that follows a step comes to the same as the end alone
  pub ends_same : (u : WorldOf B) (pid : ℕ) (q : Option (ProcessOf B)) → settle (set_process (settle (set_process u pid q)) pid None) ≡ settle (set_process u pid None)
  ends_same u pid q =
      let ps = set u.processes pid q in
      settle_twice (set_process u pid q) (set ps pid None) (record { held = λ n e. any_less (holds n) ps pid refl e; seen = λ n e. any_less (views n) ps pid refl e })
      ∙ ap (λ (ps : List (Option (ProcessOf B))). settle (record u { processes = ps })) (set-set u.processes pid q None)

  -- ---- one section less

  -- the processes lost references to one section alone
  module _ (t : WorldOf B) (qs : List (Option (ProcessOf B))) (m : ℕ) (s : SectionOf) (tidy : IsTidy t) (there : section_of t m ≡ Some s) (inside : s.area < length t.areas) (others : (n : ℕ) → n ≢ m → (list_any (holds n) qs ≡ list_any (holds n) t.processes) × (list_any (views n) qs ≡ list_any (views n) t.processes)) where
    no_longer_used : (area_at t s.area).file_block ≡ None → list_any (uses s.area) (set t.sections m None) ≡ false
    no_longer_used paging =
        not_true (list_any (uses s.area) (set t.sections m None)) (λ e.
        let u = used_by (set t.sections m None) s.area e in
        let other : u.number ≢ m = λ same. (let bad : ◌≡◌ {A = Option SectionOf} None (Some u.section) = sym (get_or-set_same t.sections m None None (numbered_inside t.sections m s there)) ∙ ap (numbered (set t.sections m None)) (sym same) ∙ u.there in cc) in
        let was : section_of t u.number ≡ Some u.section = sym (get_or-set_other t.sections m u.number None None other) ∙ u.there in
        other (tidy.own_area u.number m u.section s was there u.same_area (ap (λ (a : ℕ). (area_at t a).file_block) u.same_area ∙ paging)))

    area_ends : settled_area (set t.sections m None) s.area (area_at t s.area) ≡ ended_area (area_at t s.area)
    area_ends = ap (λ b. cond b (area_at t s.area) no_area) (by_file (area_at t s.area).file_block refl)
      where
        by_file : (f : Option ℕ) → (area_at t s.area).file_block ≡ f → (is_some (area_at t s.area).file_block || list_any (uses s.area) (set t.sections m None)) ≡ is_some (area_at t s.area).file_block
        by_file None e = ap (λ (f : Option ℕ). is_some f || list_any (uses s.area) (set t.sections m None)) e ∙ no_longer_used e ∙ sym (ap is_some e)
        by_file (Some first) e = ap (λ (f : Option ℕ). is_some f || list_any (uses s.area) (set t.sections m None)) e ∙ sym (ap is_some e)

    used_same : (n : ℕ) (o : Option SectionOf) → uses n o ≡ uses n (Some s) → list_any (uses n) (set t.sections m o) ≡ list_any (uses n) t.sections
    used_same n o e = any_put (uses n) t.sections m s o there e

    areas_by : (o : Option SectionOf) → ((x : SectionOf) → o ≡ Some x → x.area ≡ s.area) → (k : ℕ) → settled_area (set t.sections m o) k (area_at t k) ≡ area_in (cond (is_some o) t.areas (set t.areas s.area (ended_area (area_at t s.area)))) k
    areas_by None same k =
        let ended = ended_area (area_at t s.area) in
        elim (same_or_not k s.area) [
          | inl e ↦
              subst (λ (k : ℕ). settled_area (set t.sections m None) k (area_at t k) ≡ area_in (set t.areas s.area ended) k) (sym e)
              (area_ends ∙ sym (ap (λ o. unwrap_or o no_area) (get_set_same t.areas s.area ended inside)))
          | inr other ↦
              area_more t.sections (set t.sections m None) k (area_at t k) (area_at t k) (alike_same (area_at t k))
              (λ e. used_same k None (sym (not_true (s.area == k) (λ same. other (sym ((unsigned_Decides s.area k).0 same))))) ∙ e) (area_settled t tidy.settled k)
              ∙ sym (ap (λ o. unwrap_or o no_area) (get_set_other t.areas s.area k ended other))
        ]
    areas_by (Some x) same k =
        area_more t.sections (set t.sections m (Some x)) k (area_at t k) (area_at t k) (alike_same (area_at t k)) (λ e. used_same k (Some x) (ap (λ (a : ℕ). a == k) (same x refl)) ∙ e) (area_settled t tidy.settled k)

    pub settle_put : settle (record t { processes = qs }) ≡ record t { processes = qs; sections = set t.sections m (settled_section qs m (Some s)); areas = cond (is_some (settled_section qs m (Some s))) t.areas (set t.areas s.area (ended_area (area_at t s.area))) }
    settle_put =
        let x = settled_section qs m (Some s) in
        settle_as (record t { processes = qs }) (set t.sections m x) (cond (is_some x) t.areas (set t.areas s.area (ended_area (area_at t s.area)))) (length-set t.sections m x) (as_long (is_some x)) (λ n.
        elim (same_or_not n m) [
          | inl e ↦
              subst (λ (n : ℕ). settled_section qs n (section_of t n) ≡ numbered (set t.sections m x) n) (sym e)
              (ap (settled_section qs m) there ∙ sym (get_or-set_same t.sections m x None (numbered_inside t.sections m s there)))
          | inr other ↦
              section_more t.processes qs n (section_of t n) (λ e. (others n other).0 ∙ e) (λ e. (others n other).1 ∙ e) (section_settled t tidy.settled n)
              ∙ sym (get_or-set_other t.sections m n x None other)
        ])
        (areas_by x (λ y e. let was = stayed qs m (Some s) y e in was.2 ∙ ap (λ (s : SectionOf). s.area) (sym (same_some s was.0 was.1))))
      where
        as_long : (b : Bool) → length (cond b t.areas (set t.areas s.area (ended_area (area_at t s.area)))) ≡ length t.areas
        as_long true = refl
        as_long false = length-set t.areas s.area (ended_area (area_at t s.area))

  -- no reference was lost
  pub settle_same : (t : WorldOf B) (qs : List (Option (ProcessOf B))) → settle t ≡ t → ((n : ℕ) → (list_any (holds n) qs ≡ list_any (holds n) t.processes) × (list_any (views n) qs ≡ list_any (views n) t.processes)) → settle (record t { processes = qs }) ≡ record t { processes = qs }
  settle_same t qs tidy same =
      settle_by (record t { processes = qs }) (λ n. section_more t.processes qs n (section_of t n) (λ e. (same n).0 ∙ e) (λ e. (same n).1 ∙ e) (section_settled t tidy n)) (area_settled t tidy)

  -- ---- tidy tables stay tidy

  of_file : (ss : Numbered SectionOf) (a first : ℕ) (area : AreaOf B) → (settled_area ss a area).file_block ≡ Some first → settled_area ss a area ≡ area
  of_file ss a first area e = by_test (is_some area.file_block || list_any (uses a) ss) e
    where
      by_test : (b : Bool) → (cond b area no_area).file_block ≡ Some first → cond b area no_area ≡ area
      by_test true e = refl
      by_test false e = cc

  module _ (t : WorldOf B) (qs : List (Option (ProcessOf B))) (tidy : IsTidy t) where
    area_is : (a : ℕ) → area_at (settle (record t { processes = qs })) a ≡ settled_area (settled_sections qs 0 t.sections) a (area_at t a)
    area_is a = area_now (settled_sections qs 0 t.sections) t.areas a

    -- the area of a section that stands is as it was
    area_of_section : (n : ℕ) (s : SectionOf) → section_of (settle (record t { processes = qs })) n ≡ Some s → area_at (settle (record t { processes = qs })) s.area ≡ area_at t s.area
    area_of_section n s e =
        let kept = settled_sections qs 0 t.sections in
        area_is s.area ∙ area_used kept s.area (area_at t s.area) (any_numbered (uses s.area) kept n s e ((unsigned_Decides s.area s.area).1 refl))

    pub tidy_settled : KeepersLive (record t { processes = qs }) → IsTidy (settle (record t { processes = qs }))
    tidy_settled keepers =
        record {
          settled = settle_twice (record t { processes = qs }) qs (record { held = λ n e. e; seen = λ n e. e });
          own_area = λ n m s r e f same paging.
              let x = stood qs t.sections n s e in
              let y = stood qs t.sections m r f in
              tidy.own_area n m x.0 y.0 x.1 y.1 (sym x.2 ∙ same ∙ y.2) (ap (λ (a : ℕ). (area_at t a).file_block) (sym x.2) ∙ ap (λ (a : AreaOf B). a.file_block) (sym (area_of_section n s e)) ∙ paging);
          some = λ n s e.
              let x = stood qs t.sections n s e in
              subst (λ (a : AreaOf B). 1 ≤ length a.pages) (ap (λ (a : ℕ). area_at t a) (sym x.2) ∙ sym (area_of_section n s e)) (tidy.some n x.0 x.1);
          files = λ area first e.
              let same : area_at (settle (record t { processes = qs })) area ≡ area_at t area =
              area_is area ∙ of_file (settled_sections qs 0 t.sections) area first (area_at t area) (ap (λ (a : AreaOf B). a.file_block) (sym (area_is area)) ∙ e) in
              let f = tidy.files area first (ap (λ (a : AreaOf B). a.file_block) (sym same) ∙ e) in
              let pages = ap (λ (a : AreaOf B). length a.pages) same in
              record {
                blocks = omega (arith, f.blocks, pages);
                some = omega (arith, f.some, pages);
                committed = subst (λ (a : AreaOf B). count_by is_some a.pages ≡ length a.pages) (sym same) f.committed;
              };
          file_areas = each_still (λ f. is_some (area_at t f.area).file_block ≡ true) (λ f. is_some (area_at (settle (record t { processes = qs })) f.area).file_block ≡ true) t.files
              (λ f k. ap (λ (a : AreaOf B). is_some a.file_block) (area_is f.area ∙ ap (λ b. cond b (area_at t f.area) no_area) (or_left (is_some (area_at t f.area).file_block) (list_any (uses f.area) (settled_sections qs 0 t.sections)) k)) ∙ k) tidy.file_areas;
          keepers = keepers;
        }

-- ---- whether there is one, and how many there are

sum_more : (a n : ℕ) → (nat_lt 0 a || nat_lt 0 n) ≡ nat_lt 0 (a + n)
sum_more zero n = ap (nat_lt 0) (let same : n ≡ 0 + n = omega arith in same)
sum_more (suc a) n = ap (λ b. b || nat_lt 0 n) (le-leb 1 (suc a) (omega arith)) ∙ sym (le-leb 1 (suc a + n) (omega arith))

any_sum : {A : Type 0} (test : A → Bool) (f : A → ℕ) (xs : List A) → ((x : A) → test x ≡ nat_lt 0 (f x)) → list_any test xs ≡ nat_lt 0 (sum_by f xs)
any_sum test f [] same = refl
any_sum test f (x ∷ xs) same =
    (λ i. same x i || any_sum test f xs same i) ∙ sum_more (f x) (sum_by f xs) ∙ ap (nat_lt 0) (sym (sum_by-cons f x xs))

-- ---- areas

pub closed_count : (hs : Numbered ℕ) (i n m : ℕ) → numbered hs i ≡ Some m → count_by (is_handle_to n) (set hs i None) + cond (m == n) 1 0 ≡ count_by (is_handle_to n) hs
closed_count hs i n m there = omega (arith, sum_by-put (counted (is_handle_to n)) hs i (Some m) None (numbered_there hs i m there))

module _ {B : Type 0} where
  file_charge : (a : AreaOf B) → is_some a.file_block ≡ true → area_charge a ≡ 0
  file_charge a e =
      count_by-never (λ page. is_some page && is_none a.file_block) a.pages (λ page. ap (λ (o : Option ℕ). is_some page && is_none o) (some_found a.file_block e).1 ∙ and_false (is_some page))

  pub no_charge : (a : AreaOf B) → is_some (option_map number_of_block a.file_block) ≡ true → area_charge a ≡ 0
  no_charge a e = file_charge a (sym (some_map number_of_block a.file_block) ∙ e)

  pub paging_charge : (a : AreaOf B) → a.file_block ≡ None → area_charge a ≡ count_by is_some a.pages
  paging_charge a e = ap (λ (test : Option B → Bool). count_by test a.pages) (fun_ext (λ page. ap (λ (o : Option ℕ). is_some page && is_none o) e ∙ and_true (is_some page)))

  pub ended_charge : (a : AreaOf B) → area_charge (ended_area a) ≡ 0
  ended_charge a = by_file (is_some a.file_block) refl
    where
      by_file : (b : Bool) → is_some a.file_block ≡ b → area_charge (cond b a no_area) ≡ 0
      by_file true e = file_charge a e
      by_file false e = refl

  -- ---- references

  pub holds_count : (w : WorldOf B) (n : ℕ) → list_any (holds n) w.processes ≡ nat_lt 0 (handles_to w n)
  holds_count w n = any_sum (holds n) (handles_in n) w.processes each
    where
      each : (p : Option (ProcessOf B)) → holds n p ≡ nat_lt 0 (handles_in n p)
      each None = refl
      each (Some p) = any_count (is_handle_to n) p.handles

  pub views_count : (w : WorldOf B) (n : ℕ) → list_any (views n) w.processes ≡ nat_lt 0 (views_of w n)
  views_count w n = any_sum (views n) (views_in n) w.processes each
    where
      each : (p : Option (ProcessOf B)) → views n p ≡ nat_lt 0 (views_in n p)
      each None = refl
      each (Some p) = any_count (λ r. is_view_of n r.kind) p.regions

  pub handles_put : (w : WorldOf B) (pid n : ℕ) (p : ProcessOf B) (q : Option (ProcessOf B)) → process_of w pid ≡ Some p → handles_to (set_process w pid q) n + handles_in n (Some p) ≡ handles_to w n + handles_in n q
  handles_put w pid n p q lives = sum_by-put (handles_in n) w.processes pid (Some p) q (numbered_there w.processes pid p lives)

  pub views_put : (w : WorldOf B) (pid n : ℕ) (p : ProcessOf B) (q : Option (ProcessOf B)) → process_of w pid ≡ Some p → views_of (set_process w pid q) n + views_in n (Some p) ≡ views_of w n + views_in n q
  views_put w pid n p q lives = sum_by-put (views_in n) w.processes pid (Some p) q (numbered_there w.processes pid p lives)

  pub removed_views : (rs : List (RegionOf B)) (i n : ℕ) (r : RegionOf B) → slice_get rs i ≡ Some r → count_by (λ (r : RegionOf B). is_view_of n r.kind) (remove rs i) + cond (is_view_of n r.kind) 1 0 ≡ count_by (λ (r : RegionOf B). is_view_of n r.kind) rs
  removed_views rs i n r at =
      let one : RegionOf B → ℕ = λ r. cond (is_view_of n r.kind) 1 0 in
      omega (arith, sum_by-remove one rs i r (get_within rs i r at), ap one (get_or_from_slice_get rs i r r at))

  -- ---- one area is another

  pub area_sum : (areas : List (AreaOf B)) (i : ℕ) (a b : AreaOf B) → slice_get areas i ≡ Some a → sum_by area_charge (set areas i b) + area_charge a ≡ sum_by area_charge areas + area_charge b
  area_sum areas i a b at = sum_by-put area_charge areas i a b at

-- ---- what is kept of bytes

pub less_then : (a b c : Key → Option Page) → Less a b → Less b c → Less a c
less_then a b c h k x e = k x e ∙ h x (sym (ap is_some (k x e)) ∙ e)

pub beside_then : (a b c : StoreOf) → b ≡ store_beside a b → c ≡ store_beside b c → c ≡ store_beside a c
beside_then a b c e f = f ∙ ap (λ (x : StoreOf). store_beside x c) e

carried_less : (old new : Option Page) → (is_some new ≡ true → new ≡ old) → Carried old new
carried_less None None h = refl
carried_less (Some x) None h = refl
carried_less None (Some y) h = let bad : Some y ≡ None = h refl in cc
carried_less (Some x) (Some y) h = let both : Some y ≡ Some x = h refl in let same : y ≡ x = cc in same

pub carries_less : (c d : Key → Option Page) → Less c d → CarriesPages c d
carries_less c d h = record { at = λ k. carried_less (c k) (d k) (h k) }

-- ---- regions of a pid

module _ {B : Type 0} (w : WorldOf B) (pid : ℕ) where
  pub process_same : (p : ProcessOf B) (q : Option (ProcessOf B)) → process_of w pid ≡ Some p → process_of (set_process w pid q) pid ≡ q
  process_same p q e = get_or-set_same w.processes pid q None (numbered_inside w.processes pid p e)

  -- one process is another: what holds of it, and of all that stay, holds of each
  pub at_each : (p : ProcessOf B) (q : Option (ProcessOf B)) → process_of w pid ≡ Some p → (P : ℕ → Option (ProcessOf B) → Option (ProcessOf B) → Type 0) → P pid (Some p) q → ((n : ℕ) (o : Option (ProcessOf B)) → n ≢ pid → P n o o) → (n : ℕ) → P n (process_of w n) (process_of (set_process w pid q) n)
  at_each p q lives P here there n =
      elim (same_or_not n pid) [
        | inl e ↦
            subst (λ (k : ℕ). P k (process_of w k) (process_of (set_process w pid q) k)) (sym e)
            (subst (λ (o : Option (ProcessOf B)). P pid o (process_of (set_process w pid q) pid)) (sym lives) (subst (P pid (Some p)) (sym (process_same p q lives)) here))
        | inr other ↦ subst (P n (process_of w n)) (sym (get_or-set_other w.processes pid n q None other)) (there n (process_of w n) other)
      ]

pub key_is : (t : Tables) (place : Place) → key_at t place ≡ has (region_key t place.pid.0 place.vpn.0) (regions_in t place.pid.0) place.vpn.0
key_is t place = key_at_is t place ∙ key_in_has t place.pid.0 (regions_in t place.pid.0) place.vpn.0

-- ---- an area that ends, of which no view is left

module _ (t : Tables) (name : Area) (c d : Key → Option Page) (s z : StoreOf) (inside : name.0 < length t.areas) (paging : (area_at t name.0).file_block ≡ None) (unseen : (pid i : ℕ) (p : ProcessOf (Unit {0})) (r : RegionOf (Unit {0})) (x : View) → process_of t pid ≡ Some p → slice_get p.regions i ≡ Some r → r.kind ≡ kind.View x → x.area.0 ≢ name.0) (e : Emptied name (area_at t name.0) c d s z) where
  its : (k : Area) → k.0 ≡ name.0 → (k.0 == name.0) ≡ true
  its k same = (unsigned_Decides k.0 name.0).1 same

  not_its : (k : Key) → IsOld name.0 k → is_key_of_area name.0 k ≡ false
  not_its (key.Private pid page) old = refl
  not_its (key.Shared a i) old = not_true (a.0 == name.0) (λ e. old ((unsigned_Decides a.0 name.0).0 e))

  stands : (q : ℕ) → q ≢ name.0 → area_at (record t { areas = set t.areas name.0 no_area }) q ≡ area_at t q
  stands q other = ap (λ o. unwrap_or o no_area) (get_set_other t.areas name.0 q no_area other)

  pub fits_ended : FitsTables t c s → FitsTables (record t { areas = set t.areas name.0 no_area }) d z
  fits_ended f =
      let freed : sum_by area_charge (set t.areas name.0 no_area) + area_charge (area_at t name.0) ≡ sum_by area_charge t.areas =
      omega (arith, area_sum t.areas name.0 (area_at t name.0) no_area (some_get t.areas name.0 no_area inside)) in
      fits_area t (set t.areas name.0 no_area) name.0 no_area t.blocks_used c d s z (record {
        here = ap (λ o. unwrap_or o no_area) (get_set_same t.areas name.0 no_area inside);
        before = stands;
        stays = λ q j p r x i lives there is some. ap (λ (b : AreaOf (Unit {0})). is_some (numbered b.pages i)) (stands x.area.0 (unseen q j p r x lives there is)) ∙ some;
        live_new = λ k i same. ap (λ (d : Key → Option Page). is_some (d (key.Shared k i))) e.contents ∙ ap (λ b. is_some (cond b None (c (key.Shared k i)))) (its k same);
        live_old = λ k old. ap (λ (d : Key → Option Page). is_some (d k)) e.contents ∙ ap (λ b. is_some (cond b None (c k))) (not_its k old);
        paging_new = λ k i same. ap (λ (x : StoreOf). x.paging (key.Shared k i)) e.store ∙ ap (λ b. cond b false (s.paging (key.Shared k i))) (its k same);
        paging_old = λ k old. ap (λ (x : StoreOf). x.paging k) e.store ∙ ap (λ b. cond b false (s.paging k)) (not_its k old);
        block_new = λ k i same.
            ap (λ (x : StoreOf). x.block_of (key.Shared k i)) e.store ∙ f.blocks (key.Shared k i)
            ∙ no_block (is_some (shared_page t k.0 i)) i (area_at t k.0).file_block (ap (λ (n : ℕ). (area_at t n).file_block) same ∙ paging);
        block_old = λ k old. ap (λ (x : StoreOf). x.block_of k) e.store;
        areas_new = ap (λ (x : StoreOf). x.areas name.0) e.store ∙ ap (λ b. cond b None (s.areas name.0)) ((unsigned_Decides name.0 name.0).1 refl);
        areas_old = λ q other. ap (λ (x : StoreOf). x.areas q) e.store ∙ ap (λ b. cond b None (s.areas q)) (not_true (q == name.0) (λ e. other ((unsigned_Decides q name.0).0 e)));
        counted = omega (arith, ap (λ (x : StoreOf). x.paging_keys) e.store, f.counted, freed, paging_charge (area_at t name.0) paging);
        room = omega (arith, ap (λ (x : StoreOf). x.room) e.store, f.room, freed);
        blocks_used = ap (λ (x : StoreOf). x.blocks_used) e.store ∙ f.used;
        rest = e.store ∙ ap (with_area_of s) (sym e.store);
        stored = ap (λ (x : StoreOf). length x.file_blocks) e.store;
        named_file = ap (λ (x : StoreOf). length x.file_device.named) e.store;
      }) f

-- ---- a place that has the key of a section's page lies in a view of its area

of_home : (pid page : ℕ) (area : Area) (i : ℕ) (b : Unit {0}) (h : Home (Unit {0})) → h ≡ Own b → key_of {B = Unit {0}} pid page h ≡ key.Shared area i → ⊥
of_home pid page area i b h own e = let bad : key_of {B = Unit {0}} pid page (Own b) ≡ key.Shared area i = ap (key_of {B = Unit {0}} pid page) (sym own) ∙ e in absurd (cc)

pub seen_by : (t : Tables) (place : Place) (area : Area) (i : ℕ) → ((pid j : ℕ) (p : ProcessOf (Unit {0})) (r : RegionOf (Unit {0})) (x : View) → process_of t pid ≡ Some p → slice_get p.regions j ≡ Some r → r.kind ≡ kind.View x → x.area.0 ≢ area.0) → key_at t place ≡ Some (key.Shared area i) → ⊥
seen_by t place area i unseen e = by_process (process_of t place.pid.0) refl e
  where
    by_committed : (p : ProcessOf (Unit {0})) → process_of t place.pid.0 ≡ Some p → (o : Option (Committed (Unit {0}))) → committed_at t p.regions place.vpn.0 ≡ o → option_map (λ (c : Committed (Unit {0})). key_of place.pid.0 place.vpn.0 c.home) o ≡ Some (key.Shared area i) → ⊥
    by_committed p lives None at e = cc
    by_committed p lives (Some c) at e =
        let h = committed_is t p.regions place.vpn.0 c at in
        let is_key : key_of {B = Unit {0}} place.pid.0 place.vpn.0 c.home ≡ key.Shared area i = cc in
        elim (home_cases t (place.vpn.0 - c.region.thing.base) c.region.thing.kind c.row.own c.home h.home_there) [
          | IsOwn bytes own home ↦ of_home place.pid.0 place.vpn.0 area i bytes c.home home is_key
          | IsShared v page is own there home ↦
              (let both : key_of {B = Unit {0}} place.pid.0 place.vpn.0 (InSection v.area.0 (v.first + (place.vpn.0 - c.region.thing.base))) ≡ key.Shared area i = ap (key_of {B = Unit {0}} place.pid.0 place.vpn.0) (sym home) ∙ is_key in
              let same_area : v.area.0 ≡ area.0 = cc in
              unseen place.pid.0 c.region.place p c.region.thing v lives (found_stands _ p.regions c.region h.region).there is same_area)
        ]

    by_process : (o : Option (ProcessOf (Unit {0}))) → process_of t place.pid.0 ≡ o → option_and_then (λ (p : ProcessOf (Unit {0})). option_map (λ (c : Committed (Unit {0})). key_of place.pid.0 place.vpn.0 c.home) (committed_at t p.regions place.vpn.0)) o ≡ Some (key.Shared area i) → ⊥
    by_process None lives e = cc
    by_process (Some p) lives e = by_committed p lives (committed_at t p.regions place.vpn.0) refl e

-- ---- the last of a list

or_zero : (n m : ℕ) → or_else n m ≡ 0 → (n ≡ 0) × (m ≡ 0)
or_zero zero m e = (refl, e)
or_zero (suc n) m e = absurd (omega (arith, e))

or_some : (n m : ℕ) → 1 ≤ n → or_else n m ≡ n
or_some zero m h = absurd (omega (arith, h))
or_some (suc n) m h = refl

none_ranked : {A : Type 0} (test : A → Bool) (rank : ℕ → A → ℕ) (k : ℕ) (xs : List A) → count_by test xs ≡ 0 → last_rank test rank k xs ≡ 0
none_ranked test rank k [] e = refl
none_ranked test rank k (x ∷ xs) e = at (none_ranked test rank (k + 1) xs) (test x) (sum_by-cons (λ x. cond (test x) 1 0) x xs)
  where
    at : (count_by test xs ≡ 0 → last_rank test rank (k + 1) xs ≡ 0) → (b : Bool) → count_by test (x ∷ xs) ≡ cond b 1 0 + count_by test xs → or_else (last_rank test rank (k + 1) xs) (cond b (rank k x) 0) ≡ 0
    at later true c = absurd (omega (arith, c, e))
    at later false c = ap (λ n. or_else n 0) (later (omega (arith, c, e)))

-- ---- handles

abbrev handle_from : ℕ → ℕ → Numbered ℕ → ℕ
handle_from n k hs = last_rank (is_handle_to n) (λ place h. place + 1) k hs

-- the only handle that is left
closed_ranked : (n k i : ℕ) (hs : Numbered ℕ) → numbered hs i ≡ Some n → handle_from n k (set hs i None) ≡ 0 → handle_from n k hs ≡ k + i + 1
closed_ranked n k i [] at none = cc
closed_ranked n k zero (x ∷ xs) at none =
    let rest = (or_zero (handle_from n (k + 1) xs) 0 none).0 in
    let itself : is_handle_to n x ≡ true = ap (is_handle_to n) at ∙ (unsigned_Decides n n).1 refl in
    let here : k + 1 ≡ k + 0 + 1 = omega arith in
    (λ j. or_else (rest j) (cond (itself j) (k + 1) 0)) ∙ here
closed_ranked n k (suc i) (x ∷ xs) at none =
    let parts = or_zero (handle_from n (k + 1) (set xs i None)) (cond (is_handle_to n x) (k + 1) 0) none in
    let later = closed_ranked n (k + 1) i xs at parts.0 in
    let some : 1 ≤ handle_from n (k + 1) xs = omega (arith, later) in
    let there : k + 1 + i + 1 ≡ k + suc i + 1 = omega arith in
    or_some (handle_from n (k + 1) xs) (cond (is_handle_to n x) (k + 1) 0) some ∙ later ∙ there

-- the last handle stays the last where the lowest is closed
closed_later : (n k i : ℕ) (hs : Numbered ℕ) → ((j : ℕ) → j < i → numbered hs j ≡ None) → 1 ≤ handle_from n k (set hs i None) → handle_from n k hs ≡ handle_from n k (set hs i None)
closed_later n k i [] low some = refl
closed_later n k zero (x ∷ xs) low some = at (handle_from n (k + 1) xs) (cond (is_handle_to n x) (k + 1) 0) some
  where
    at : (m o : ℕ) → 1 ≤ or_else m 0 → or_else m o ≡ or_else m 0
    at zero o h = absurd (omega (arith, h))
    at (suc m) o h = refl
closed_later n k (suc i) (x ∷ xs) low some =
    let none : x ≡ None = low 0 (omega arith) in
    let closed : is_handle_to n x ≡ false = ap (is_handle_to n) none in
    at (handle_from n (k + 1) (set xs i None)) (handle_from n (k + 1) xs) (is_handle_to n x) closed
    (λ h. closed_later n (k + 1) i xs (λ j less. low (suc j) (omega (arith, less))) h) some
  where
    at : (m l : ℕ) (b : Bool) → b ≡ false → (1 ≤ m → l ≡ m) → 1 ≤ or_else m (cond b (k + 1) 0) → or_else l (cond b (k + 1) 0) ≡ or_else m (cond b (k + 1) 0)
    at zero l true e f h = cc
    at zero l false e f h = absurd (omega (arith, h))
    at (suc m) l b e f h = ap (λ l. or_else l (cond b (k + 1) 0)) (f (omega arith))

-- ---- views

abbrev view_from : ℕ → ℕ → List (RegionOf (Unit {0})) → ℕ
view_from n k rs = last_rank (λ r. is_view_of n r.kind) (λ place r. rank_behind r) k rs

anywhere : (n k m : ℕ) (rs : List (RegionOf (Unit {0}))) → view_from n k rs ≡ view_from n m rs
anywhere n k m [] = refl
anywhere n k m (r ∷ rs) = ap (λ l. or_else l (cond (is_view_of n r.kind) (rank_behind r) 0)) (anywhere n (k + 1) (m + 1) rs)

-- the only view that is left
removed_ranked : (n k i : ℕ) (rs : List (RegionOf (Unit {0}))) (r : RegionOf (Unit {0})) → slice_get rs i ≡ Some r → is_view_of n r.kind ≡ true → view_from n k (remove rs i) ≡ 0 → view_from n k rs ≡ rank_behind r
removed_ranked n k i [] r at is none = cc
removed_ranked n k zero (x ∷ rs) r at is none =
    let rest : view_from n (k + 1) rs ≡ 0 = anywhere n (k + 1) k rs ∙ none in
    let same : x ≡ r = cc in
    (λ j. or_else (rest j) (cond (is_view_of n (same j).kind) (rank_behind (same j)) 0)) ∙ ap (λ b. cond b (rank_behind r) 0) is
removed_ranked n k (suc i) (x ∷ rs) r at is none =
    let parts = or_zero (view_from n (k + 1) (remove rs i)) (cond (is_view_of n x.kind) (rank_behind x) 0) none in
    let later = removed_ranked n (k + 1) i rs r at is parts.0 in
    let some : 1 ≤ view_from n (k + 1) rs = omega (arith, later) in
    or_some (view_from n (k + 1) rs) (cond (is_view_of n x.kind) (rank_behind x) 0) some ∙ later

-- the last view stays the last where the lowest region is dropped
lowest_later : (n k : ℕ) (rs : List (RegionOf (Unit {0}))) → 1 ≤ view_from n k (remove rs 0) → view_from n k rs ≡ view_from n k (remove rs 0)
lowest_later n k [] some = refl
lowest_later n k (x ∷ rs) some =
    let same : view_from n (k + 1) rs ≡ view_from n k rs = anywhere n (k + 1) k rs in
    or_some (view_from n (k + 1) rs) (cond (is_view_of n x.kind) (rank_behind x) 0) (omega (arith, some, same)) ∙ same

-- ---- of a process

-- where a process has no handle and no view left, the handle that was closed was the last
pub closed_rank : (n i : ℕ) (p : ProcessOf (Unit {0})) → numbered p.handles i ≡ Some n → handles_in n (Some (record p { handles = set p.handles i None })) ≡ 0 → views_in n (Some p) ≡ 0 → section_rank n (Some p) ≡ i + 1
closed_rank n i p at handles views =
    let unseen = none_ranked (λ r. is_view_of n r.kind) (λ place r. rank_behind r) 0 p.regions views in
    let held = closed_ranked n 0 i p.handles at (none_ranked (is_handle_to n) (λ place h. place + 1) 0 (set p.handles i None) handles) in
    let here : 0 + i + 1 ≡ i + 1 = omega arith in
    ap (λ v. or_else v (handle_rank n p.handles)) unseen ∙ held ∙ here

pub removed_rank : (n i : ℕ) (p : ProcessOf (Unit {0})) (r : RegionOf (Unit {0})) → slice_get p.regions i ≡ Some r → is_view_of n r.kind ≡ true → views_in n (Some (record p { regions = remove p.regions i })) ≡ 0 → section_rank n (Some p) ≡ rank_behind r
removed_rank n i p r at is views =
    let last = removed_ranked n 0 i p.regions r at is (none_ranked (λ r. is_view_of n r.kind) (λ place r. rank_behind r) 0 (remove p.regions i) views) in
    or_some (view_rank n p.regions) (handle_rank n p.handles) (omega (arith, last)) ∙ last

-- the rest of a process goes as before
abbrev pub Ranked : ProcessOf (Unit {0}) → ProcessOf (Unit {0}) → Type 0
Ranked p q = (n : ℕ) → 1 ≤ section_rank n (Some q) → section_rank n (Some p) ≡ section_rank n (Some q)

pub ranked_closed : (p : ProcessOf (Unit {0})) (i : ℕ) → ((j : ℕ) → j < i → numbered p.handles j ≡ None) → Ranked p (record p { handles = set p.handles i None })
ranked_closed p i low n some = at (view_rank n p.regions) (handle_rank n p.handles) (handle_rank n (set p.handles i None)) (closed_later n 0 i p.handles low) some
  where
    at : (v h l : ℕ) → (1 ≤ l → h ≡ l) → 1 ≤ or_else v l → or_else v h ≡ or_else v l
    at zero h l f some = f some
    at (suc v) h l f some = refl

no_handle_ranked : (n k : ℕ) (hs : Numbered ℕ) → ((j : ℕ) → numbered hs j ≡ None) → handle_from n k hs ≡ 0
no_handle_ranked n k [] none = refl
no_handle_ranked n k (x ∷ hs) none =
    let here : is_handle_to n x ≡ false = ap (is_handle_to n) (none 0) in
    let rest = no_handle_ranked n (k + 1) hs (λ j. none (suc j)) in
    λ j. or_else (rest j) (cond (here j) (k + 1) 0)

pub ranked_removed : (p : ProcessOf (Unit {0})) → ((j : ℕ) → numbered p.handles j ≡ None) → Ranked p (record p { regions = remove p.regions 0 })
ranked_removed p none n some =
    at (view_rank n p.regions) (view_rank n (remove p.regions 0)) (handle_rank n p.handles) (no_handle_ranked n 0 p.handles none) (lowest_later n 0 p.regions) some
  where
    at : (v w h : ℕ) → h ≡ 0 → (1 ≤ w → v ≡ w) → 1 ≤ or_else w h → or_else v h ≡ or_else w h
    at v zero h e f some = absurd (omega (arith, e, some))
    at v (suc w) h e f some = ap (λ v. or_else v h) (f (omega arith))

-- ---- in tables

file_stays : (a : AreaOf (Unit {0})) (b c : Bool) → is_some a.file_block ≡ b → (cond (b || c) a no_area).file_block ≡ None → a.file_block ≡ None
file_stays a true c e h = h
file_stays a false c e h = none_of a.file_block e

-- what goes with the rest of a process goes as before, once what nothing refers to is gone
pub for_settled : (rank : ℕ → ℕ) (pid : ℕ) (t v : Tables) (p q : ProcessOf (Unit {0})) → process_of t pid ≡ Some p → v ≡ settle (set_process t pid (Some q)) → Ranked p q → IsRankFor rank pid t → IsRankFor rank pid v
for_settled rank pid t v p q lives is ranked for =
    subst (λ (w : Tables). IsRankFor rank pid w) (sym is) (λ n s there paging some.
    let u = set_process t pid (Some q) in
    let now : process_of u pid ≡ Some q = process_same t pid p (Some q) lives in
    let x = stood u.processes t.sections n s there in
    let area : area_at (settle u) s.area ≡ settled_area (settle u).sections s.area (area_at t s.area) = area_now (settle u).sections t.areas s.area in
    let file = file_stays (area_at t s.area) (is_some (area_at t s.area).file_block) _ refl (sym (ap (λ (a : AreaOf (Unit {0})). a.file_block) area) ∙ paging) in
    let mine : 1 ≤ section_rank n (Some q) = subst (λ (o : Option (ProcessOf (Unit {0}))). 1 ≤ section_rank n o) now some in
    let more : 1 ≤ section_rank n (process_of t pid) = subst (λ (o : Option (ProcessOf (Unit {0}))). 1 ≤ section_rank n o) (sym lives) (subst (λ (m : ℕ). 1 ≤ m) (sym (ranked n mine)) mine) in
    ap rank x.2 ∙ for n x.0 x.1 (ap (λ (a : ℕ). (area_at t a).file_block) (sym x.2) ∙ file) more
    ∙ ap (section_rank n) lives ∙ ranked n mine ∙ ap (section_rank n) (sym now))

pub for_set : (rank : ℕ → ℕ) (pid : ℕ) (t v : Tables) (p q : ProcessOf (Unit {0})) → process_of t pid ≡ Some p → v ≡ set_process t pid (Some q) → Ranked p q → IsRankFor rank pid t → IsRankFor rank pid v
for_set rank pid t v p q lives is ranked for =
    subst (λ (w : Tables). IsRankFor rank pid w) (sym is) (λ n s there paging some.
    let now : process_of (set_process t pid (Some q)) pid ≡ Some q = process_same t pid p (Some q) lives in
    let mine : 1 ≤ section_rank n (Some q) = subst (λ (o : Option (ProcessOf (Unit {0}))). 1 ≤ section_rank n o) now some in
    let more : 1 ≤ section_rank n (process_of t pid) = subst (λ (o : Option (ProcessOf (Unit {0}))). 1 ≤ section_rank n o) (sym lives) (subst (λ (m : ℕ). 1 ≤ m) (sym (ranked n mine)) mine) in
    for n s there paging more ∙ ap (section_rank n) lives ∙ ranked n mine ∙ ap (section_rank n) (sym now))

-- a page-file section has its area alone
first_use : (t : Tables) (n : ℕ) (s : SectionOf) → IsTidy t → section_of t n ≡ Some s → (area_at t s.area).file_block ≡ None → position (uses s.area) t.sections ≡ Some n
first_use t n s tidy lives paging =
    let at = position_or_len (uses s.area) t.sections in
    let inside = numbered_inside t.sections n s lives in
    let mine : uses s.area (numbered t.sections n) ≡ true = ap (uses s.area) lives ∙ (unsigned_Decides s.area s.area).1 refl in
    elim (nat_lt at (length t.sections)) as (λ b. nat_lt at (length t.sections) ≡ b → cond b (Some at) None ≡ Some n) [
      | true ↦ λ e. (
          let first = passes_at_first (uses s.area) t.sections None (ltb-true at (length t.sections) e) in
          ap (λ (m : ℕ). Some m) (sym (same (numbered t.sections at) refl first)))
      | false ↦ λ e. (
          let past = ltb-false at (length t.sections) e in
          let bad : true ≡ false = sym mine ∙ fails_before_first (uses s.area) t.sections n None (omega (arith, inside, past)) in cc)
    ] refl
  where
    same : (o : Option SectionOf) → numbered t.sections (position_or_len (uses s.area) t.sections) ≡ o → uses s.area o ≡ true → n ≡ position_or_len (uses s.area) t.sections
    same None e u = cc
    same (Some r) e u = tidy.own_area n (position_or_len (uses s.area) t.sections) s r lives e (sym ((unsigned_Decides r.area s.area).0 u)) paging

pub for_own : (t : Tables) (pid : ℕ) → IsTidy t → IsRankFor (goes_with t pid) pid t
for_own t pid tidy n s lives paging some = ap (λ (o : Option ℕ). unwrap_or (option_map (λ n. section_rank n (process_of t pid)) o) 0) (first_use t n s tidy lives paging)
