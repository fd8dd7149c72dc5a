-- One reference less: a handle is closed, a view unmapped, and what is left of tables and store.
use Rattle.std.proofs.Common.{◌≡◌, ◌≢◌, inl, inr, ℕ, ◌+◌, ◌-◌, ◌≤◌, ◌<◌, Bool, true, false, Option, Some, None, List, refl, sym, ◌∙◌, ap, subst, cond, arith, length, set, slice_get, is_some, not, ◌&&◌, nat_lt, option_map, sum_by, get_or, length-set, zero, suc, [], ◌∷◌, count_by}
use Rattle.std.specs.Prelude.{◌==◌, ◌/◌, ◌%◌, IsSomeAnd, option_and_then, remove}
use Rattle.std.specs.List.{list_any}
use Rattle.std.specs.Cmp.{unsigned_Decides}
use Rattle.std.proofs.lemmas.Bool.{ltb-false}
use Rattle.std.proofs.lemmas.List.{get_or-set_same, get_or-set_other, map-set, set-get_or, get_or_read_under}
use Rattle.std.proofs.lemmas.List.Folds.{list_any_at}
use Rattle.std.proofs.lemmas.Option.{get_or_from_slice_get, unwrap_or-slice_get}
use Rattle.std.proofs.Math.ListN.{get_or-map}
use Rattle.mm_types.specs.{Area, Key, View, Place, Pid, Kind, Range, end_of, end_of_user_pages}
use Rattle.mm_types.specs.declared.numbers.Key.TheVariants as key
use Rattle.mm_types.specs.declared.views.Kind.TheVariants as kind
use Rattle.mm_types.proofs.{same_or_not, get_within, not_true, and_true, some_get, some_map, some_found, same_found}
use Rattle.mm_world.specs.{Page, ProcessOf, RegionOf, AreaOf, SectionOf, Numbered, numbered, process_of, section_of, set_process, area_at, no_area}
use Rattle.mm_world.specs.{charge, area_charge, holds, views, is_view_of, settle, settled_section, Tables, ViewFits, Found, handle_section, RowOf}
use Rattle.mm_world.specs.{pages_of, region_around, set_regions, is_charged, region_charge, view_at}
use Rattle.mm_world.specs.WellFormed.{WellFormed}
use Rattle.mm_world.proofs.{each-at, numbered_inside, charge-same_regions, charge-settle, Then, Nothing, HandleGoes, Settles, charge-remove_region}
use Rattle.mm_world.proofs.{found_stands, RegionGoes}
use Rattle.mm_store.specs.{StoreOf, IsReleasing, section_rank, page_rank}
use Rattle.mm_commit_charge.specs.{CommitOf}
use Rattle.mm_sections.specs.{CountedSection, DirectoryOf, section_in, sections_of, section_settled, one_handle_less, held, one_view_less, HandlesOf}
use Rattle.mm_object_tables.specs.{handles_in, views_in, handles_to, views_of, IsCounted, AreKeptTables, FitsTables, Settled, store_beside, paging_count}
use Rattle.mm_object_tables.specs.{LosesReference, Less, is_key_of_area, ended_area, CanEnd, Emptied, IsRankFor, EndsArea, Process, shown_process}
use Rattle.mm_object_tables.specs.{shown_processes, shown_accesses, tables_with, passing, is_page_live, CanRelease, GivenUp, process_handles, with_handles}
use Rattle.mm_object_tables.specs.{with_space}
use Rattle.mm_object_tables.specs.declared.tables.Tables.TheInside.{Inside}
use Rattle.mm_object_tables.proofs.Keeping.{lives_put, shown_set, shown_with, Held, sound_by, spaced, handled, handles_by}
use Rattle.mm_object_tables.proofs.EndingSettles.{holds_count, views_count, handles_put, views_put, ended_charge, area_sum, any_numbered, settle_put, tidy_settled, seen_by, at_each, carries_less, less_then, beside_then, fits_ended, closed_count, closed_rank, removed_views, removed_rank}
use Rattle.mm_object_tables.proofs.PageByPage.{gone_same, given_less}
use Rattle.mm_object_tables.proofs.SectionFits.{fits_processes, with_open_of}
use Rattle.mm_object_tables.proofs.Rows.{paging-set_process, in_range, regions_of}
use Rattle.mm_types.specs.declared.moves.LineKind.TheVariants as line_kind
use Rattle.mm_world.proofs.Edits.{Regions}
use Rattle.mm_address_spaces.specs.{rows_of_range, marked_in, found_info, RegionInfo, RegionsOf}
use Rattle.mm_object_tables.proofs.Settled.{can_release, region_gone, ends, is_around, around_is, whole_inside, whole_range, some_pages}

-- ---- counted sections

settled_counts : (c x : CountedSection) → section_settled c ≡ Some x → (x.handles ≡ c.handles) × (x.views ≡ c.views)
settled_counts c x e = by_tests (nat_lt 0 c.handles) (nat_lt 0 c.views) e
  where
    by_tests : (a b : Bool) → cond a (Some c) (cond b (Some (record c { section = record (c.section) { name = None } })) None) ≡ Some x → (x.handles ≡ c.handles) × (x.views ≡ c.views)
    by_tests true b e = let same : c ≡ x = cc in (ap (λ (c : CountedSection). c.handles) (sym same), ap (λ (c : CountedSection). c.views) (sym same))
    by_tests false true e = let same : record c { section = record (c.section) { name = None } } ≡ x = cc in (ap (λ (c : CountedSection). c.handles) (sym same), ap (λ (c : CountedSection). c.views) (sym same))
    by_tests false false e = cc

settled_section_is : (c : CountedSection) (a b : Bool) → option_map section_in (cond a (Some c) (cond b (Some (record c { section = record (c.section) { name = None } })) None)) ≡ cond a (Some c.section) (cond b (Some (record (c.section) { name = None })) None)
settled_section_is c false true = refl
settled_section_is c _ _ = refl

ended_counts : (c : CountedSection) → is_some (section_settled c) ≡ false → (c.handles ≡ 0) × (c.views ≡ 0)
ended_counts c e = by_tests (nat_lt 0 c.handles) (nat_lt 0 c.views) refl refl e
  where
    none : (k : ℕ) → nat_lt 0 k ≡ false → k ≡ 0
    none k e = let h = ltb-false 0 k e in omega (arith, h)

    by_tests : (a b : Bool) → nat_lt 0 c.handles ≡ a → nat_lt 0 c.views ≡ b → is_some (cond a (Some c) (cond b (Some (record c { section = record (c.section) { name = None } })) None)) ≡ false → (c.handles ≡ 0) × (c.views ≡ 0)
    by_tests false false h v e = (none c.handles h, none c.views v)
    by_tests _ _ h v e = cc

-- ---- an area that ends

emptied_less : {area : Area} {a : AreaOf (Unit {0})} {c d : Key → Option Page} {s z : StoreOf} → Emptied area a c d s z → Less c d
emptied_less {area} {c = c} e k some =
    let gone = ap (λ (f : Key → Option Page). f k) e.contents in
    gone ∙ gone_same (is_key_of_area area.0 k) (c k) (sym (ap is_some gone) ∙ some)

pub ends_bound : {area : Area} {a : AreaOf (Unit {0})} {c d : Key → Option Page} {s z : StoreOf} → EndsArea area a c d s z → (place : Place) → z.bound place ≡ s.bound place
ends_bound {a = a} {s = s} {z = z} e place =
    elim a.file_block as (λ o. a.file_block ≡ o → z.bound place ≡ s.bound place) [
      | None ↦ λ none. ap (λ (x : StoreOf). x.bound place) (e.emptied none).store
      | Some first ↦ λ file. ap (λ (x : StoreOf). x.bound place) (e.file first file).1
    ] refl

-- ---- what a step leaves

pub record Landed (v made : Tables) (entries : Numbered CountedSection) (commit : CommitOf) (c d : Key → Option Page) (s z : StoreOf) : Type 0 where
  pub is : made ≡ v
  pub kept : AreKeptTables made entries commit
  pub settled : Settled made c d s z
  pub less_live : Less c d

pub landed_by : (v made : Tables) (entries : Numbered CountedSection) (commit : CommitOf) (c d : Key → Option Page) (s z : StoreOf) → made ≡ v → AreKeptTables v entries commit → FitsTables v d z → Less c d → z ≡ store_beside s z → Landed v made entries commit c d s z
landed_by v made entries commit c d s z is kept fits less rest =
    record {
      is = is;
      kept = subst (λ (w : Tables). AreKeptTables w entries commit) (sym is) kept;
      settled = record { fits = subst (λ (w : Tables). FitsTables w d z) (sym is) fits; carries = carries_less c d less; rest = rest };
      less_live = less;
    }

-- ---- a store does not see sections

fits_sections : (t : Tables) (ss : Numbered SectionOf) (c : Key → Option Page) (s : StoreOf) → FitsTables t c s → FitsTables (record t { sections = ss }) c s
fits_sections t ss c s f = fits_processes t t.processes ss t.files (λ q. refl) c s s refl f.opened f.last_pid refl refl refl refl f

-- a living process is another
pub lives_as : (t : Tables) (pid : ℕ) (p : ProcessOf (Unit {0})) (q : Option (ProcessOf (Unit {0}))) → process_of t pid ≡ Some p → is_some q ≡ true → (n : ℕ) → is_some (process_of (set_process t pid q) n) ≡ is_some (process_of t n)
lives_as t pid p q lives alive = at_each t pid p q lives (λ n o x. is_some x ≡ is_some o) alive (λ n o other. refl)

-- and keeps its regions
pub nothing_lost : (t : Tables) (pid : ℕ) (p : ProcessOf (Unit {0})) (q : Option (ProcessOf (Unit {0}))) → process_of t pid ≡ Some p → regions_of q ≡ p.regions → charge (set_process t pid q) ≡ charge t → paging_count (set_process t pid q) ≡ paging_count t → (c : Key → Option Page) (s z : StoreOf) → z ≡ with_open_of s z → ((n : ℕ) → z.is_open n ≡ is_some (process_of (set_process t pid q) n)) → z.last_pid ≡ s.last_pid → length z.file_blocks ≡ length s.file_blocks → length z.file_device.named ≡ length s.file_device.named → FitsTables t c s → FitsTables (set_process t pid q) c z
nothing_lost t pid p q lives same charged counted c s z rest opened last stored named f =
    fits_processes t (set t.processes pid q) t.sections t.files (at_each t pid p q lives (λ n o x. regions_of x ≡ regions_of o) same (λ n o other. refl)) c s z rest
    opened (ap (λ (n : ℕ). n + 1) last ∙ f.last_pid ∙ sym (length-set t.processes pid q)) stored named counted charged f

-- an area's charge is part of the whole
pub area_charged : (t : Tables) (n : ℕ) → n < length t.areas → area_charge (area_at t n) ≤ charge t
area_charged t n inside = omega (arith, area_sum t.areas n (area_at t n) no_area (some_get t.areas n no_area inside))

-- ---- one reference less

-- a process `p` becomes `q`, with one reference to a section less; `now` is what is counted of the section then
pub record OneLess (t : Tables) (pid : ℕ) (p q : ProcessOf (Unit {0})) (m : ℕ) (old now : CountedSection) (entries : Numbered CountedSection) (commit : CommitOf) : Type 0 where
  pub lives : process_of t pid ≡ Some p
  pub kept : AreKeptTables t entries commit
  pub sections : sections_of entries ≡ t.sections
  pub entry : numbered entries m ≡ Some old
  pub others : (n : ℕ) → n ≢ m → (handles_in n (Some q) ≡ handles_in n (Some p)) × (views_in n (Some q) ≡ views_in n (Some p))
  pub same_section : now.section ≡ old.section
  pub handles : now.handles + handles_in m (Some p) ≡ old.handles + handles_in m (Some q)
  pub seen : now.views + views_in m (Some p) ≡ old.views + views_in m (Some q)
  pub sub : (i : ℕ) (r : RegionOf (Unit {0})) → slice_get q.regions i ≡ Some r → (j : ℕ) × (slice_get p.regions j ≡ Some r)
  pub sound : WellFormed (settle (set_process t pid (Some q)))

module _ {t : Tables} {pid : ℕ} {p q : ProcessOf (Unit {0})} {m : ℕ} {old now : CountedSection} {entries : Numbered CountedSection} {commit : CommitOf} (l : OneLess t pid p q m old now entries commit) where
  abbrev u : Tables
  u = set_process t pid (Some q)

  abbrev area : ℕ
  area = old.section.area

  abbrev a : AreaOf (Unit {0})
  a = area_at t area

  abbrev es : Numbered CountedSection
  es = set entries m (section_settled now)

  -- the tables after it, with these areas
  abbrev with_areas : List (AreaOf (Unit {0})) → Tables
  with_areas areas = record t { processes = u.processes; sections = sections_of es; areas = areas }

  there : section_of t m ≡ Some old.section
  there = ap (λ (ss : Numbered SectionOf). numbered ss m) (sym l.sections) ∙ get_or-map (option_map section_in) entries m None ∙ ap (option_map section_in) l.entry

  pub inside : area < length t.areas
  inside = l.kept.sound.references.sections m old.section there

  counts : IsCounted t m old
  counts = l.kept.counted m old l.entry

  handles_now : now.handles ≡ handles_to u m
  handles_now = omega (arith, handles_put t pid m p (Some q) l.lives, l.handles, counts.handles)

  views_now : now.views ≡ views_of u m
  views_now = omega (arith, views_put t pid m p (Some q) l.lives, l.seen, counts.views)

  handles_same : (n : ℕ) → n ≢ m → handles_to u n ≡ handles_to t n
  handles_same n other = omega (arith, handles_put t pid n p (Some q) l.lives, (l.others n other).0)

  views_same : (n : ℕ) → n ≢ m → views_of u n ≡ views_of t n
  views_same n other = omega (arith, views_put t pid n p (Some q) l.lives, (l.others n other).1)

  bits : (n : ℕ) → n ≢ m → (list_any (holds n) u.processes ≡ list_any (holds n) t.processes) × (list_any (views n) u.processes ≡ list_any (views n) t.processes)
  bits n other = (
    holds_count u n ∙ ap (nat_lt 0) (handles_same n other) ∙ sym (holds_count t n),
    views_count u n ∙ ap (nat_lt 0) (views_same n other) ∙ sym (views_count t n),
  )

  settled_is : option_map section_in (section_settled now) ≡ settled_section u.processes m (Some old.section)
  settled_is =
      settled_section_is now (nat_lt 0 now.handles) (nat_lt 0 now.views)
      ∙ (λ i. cond ((ap (nat_lt 0) handles_now ∙ sym (holds_count u m)) i) (Some (l.same_section i)) (cond ((ap (nat_lt 0) views_now ∙ sym (views_count u m)) i) (Some (record (l.same_section i) { name = None })) None))

  -- the tables after it, by the counted sections
  one_is : settle u ≡ with_areas (cond (is_some (section_settled now)) t.areas (set t.areas area (ended_area a)))
  one_is =
      let ss : set t.sections m (settled_section u.processes m (Some old.section)) ≡ sections_of es =
      (λ i. set (sym l.sections i) m (sym settled_is i)) ∙ sym (map-set (option_map section_in) entries m (section_settled now)) in
      let some : is_some (settled_section u.processes m (Some old.section)) ≡ is_some (section_settled now) = ap is_some (sym settled_is) ∙ some_map section_in (section_settled now) in
      settle_put t u.processes m old.section l.kept.tidy there inside bits
      ∙ (λ i. record t { processes = u.processes; sections = ss i; areas = cond (some i) t.areas (set t.areas area (ended_area a)) })

  one_if : (b : Bool) → is_some (section_settled now) ≡ b → settle u ≡ with_areas (cond b t.areas (set t.areas area (ended_area a)))
  one_if b e = one_is ∙ (λ i. with_areas (cond (e i) t.areas (set t.areas area (ended_area a))))

  counted_now : (n : ℕ) (x : CountedSection) → numbered es n ≡ Some x → IsCounted (settle u) n x
  counted_now n x e =
      elim (same_or_not n m) [
        | inl is ↦
            (let is_now : section_settled now ≡ Some x = sym (get_or-set_same entries m (section_settled now) None (numbered_inside entries m old l.entry)) ∙ ap (numbered es) (sym is) ∙ e in
            let k = settled_counts now x is_now in
            record { handles = k.0 ∙ handles_now ∙ ap (handles_to u) (sym is); views = k.1 ∙ views_now ∙ ap (views_of u) (sym is) })
        | inr other ↦
            (let was = l.kept.counted n x (sym (get_or-set_other entries m n (section_settled now) None other) ∙ e) in
            record { handles = was.handles ∙ sym (handles_same n other); views = was.views ∙ sym (views_same n other) })
      ]

  -- the commit charge is what the tables say after it
  kept_now : (after : CommitOf) → after.charge ≡ charge (settle u) → after.limit ≡ commit.limit → AreKeptTables (settle u) es after
  kept_now after charged limited =
      record {
        sound = l.sound;
        tidy = tidy_settled t u.processes l.kept.tidy (λ tid k e. lives_put t.processes pid k.pid q (l.kept.tidy.keepers tid k e));
        counted = counted_now;
        charged = charged;
        limited = limited ∙ l.kept.limited;
      }

  -- ---- the section stays

  pub landed_stays : (made : Tables) (after : CommitOf) (c0 c1 : Key → Option Page) (s0 s1 : StoreOf) → made ≡ with_areas t.areas → is_some (section_settled now) ≡ true → after.charge ≡ charge u → after.limit ≡ commit.limit → Less c0 c1 → s1 ≡ store_beside s0 s1 → FitsTables u c1 s1 → Landed (settle u) made es after c0 c1 s0 s1
  landed_stays made after c0 c1 s0 s1 made_is stays charged limited less rest fits =
      let is = one_if true stays in
      landed_by (settle u) made es after c0 c1 s0 s1 (made_is ∙ sym is) (kept_now after (charged ∙ sym (ap (λ (w : Tables). charge w) is)) limited)
      (subst (λ (w : Tables). FitsTables w c1 s1) (sym is) (fits_sections u (sections_of es) c1 s1 fits)) less rest

  -- ---- the section ends

  -- the process has no reference to it left
  left_none : is_some (section_settled now) ≡ false → (handles_in m (Some q) ≡ 0) × (views_in m (Some q) ≡ 0)
  left_none ended =
      let none = ended_counts now ended in (
        omega (arith, none.0, l.handles, counts.handles, handles_put t pid m p None l.lives),
        omega (arith, none.1, l.seen, counts.views, views_put t pid m p None l.lives),
      )

  -- its area goes with the last one
  its_rank : a.file_block ≡ None → (rank : ℕ → ℕ) → IsRankFor rank pid t → (r : ℕ) → 1 ≤ r → section_rank m (Some p) ≡ r → rank area ≡ r
  its_rank paging rank for r some e =
      let same : section_rank m (process_of t pid) ≡ r = ap (section_rank m) l.lives ∙ e in
      for m old.section there paging (omega (arith, some, same)) ∙ same

  -- no view of its area is left
  unseen : is_some (section_settled now) ≡ false → a.file_block ≡ None → (n i : ℕ) (x : ProcessOf (Unit {0})) (r : RegionOf (Unit {0})) (v : View) → process_of u n ≡ Some x → slice_get x.regions i ≡ Some r → r.kind ≡ kind.View v → v.area.0 ≢ area
  unseen ended paging n i x r v alive at is same =
      let was : (k j : ℕ) × ((y : ProcessOf (Unit {0})) × ((process_of t k ≡ Some y) × (slice_get y.regions j ≡ Some r))) =
      elim (same_or_not n pid) [
        | inl here ↦
            (let now_q : Some q ≡ Some x = sym (get_or-set_same t.processes pid (Some q) None (numbered_inside t.processes pid p l.lives)) ∙ ap (process_of u) (sym here) ∙ alive in
            let is_q : q ≡ x = cc in
            let j = l.sub i r (ap (λ (y : ProcessOf (Unit {0})). slice_get y.regions i) is_q ∙ at) in
            (pid, j.0, (p, (l.lives, j.1))))
        | inr other ↦ (n, i, (x, (sym (get_or-set_other t.processes pid n (Some q) None other) ∙ alive, at)))
      ] in
      let y = was.2.0 in
      let fits : ViewFits t v (length r.rows) = each-at _ y.regions was.1 r (l.kept.sound.references.processes was.0 y was.2.1.0).views was.2.1.1 v is in
      let number : v.section.0 ≡ m = l.kept.tidy.own_area v.section.0 m fits.section old.section fits.lives there (fits.same_area ∙ same) (ap (λ (a : ℕ). (area_at t a).file_block) (fits.same_area ∙ same) ∙ paging) in
      let seen_now : list_any (views m) u.processes ≡ true =
      any_numbered (views m) u.processes n x alive (list_any_at (λ (r : RegionOf (Unit {0})). is_view_of m r.kind) x.regions i r (get_within x.regions i r at)
      (ap (λ (r : RegionOf (Unit {0})). is_view_of m r.kind) (get_or_from_slice_get x.regions i r r at) ∙ ap (is_view_of m) is ∙ (unsigned_Decides v.section.0 m).1 number)) in
      let bad : true ≡ false = sym seen_now ∙ views_count u m ∙ ap (nat_lt 0) (sym views_now) ∙ ap (nat_lt 0) (ended_counts now ended).1 in
      cc

  pub can_end : (name : Area) (c1 : Key → Option Page) (s1 : StoreOf) → name.0 ≡ area → is_some (section_settled now) ≡ false → a.file_block ≡ None → FitsTables u c1 s1 → IsReleasing s1.kind → CanEnd name a c1 s1
  can_end name c1 s1 is ended paging fits releasing =
      let at : area_at t name.0 ≡ a = ap (λ (n : ℕ). area_at t n) is in
      record {
        live = λ i. fits.live (key.Shared name i) ∙ ap (λ (a : AreaOf (Unit {0})). is_some (numbered a.pages i)) at;
        paging = λ i.
            fits.paging (key.Shared name i)
            ∙ (λ j. is_some (numbered (at j).pages i) && not (is_some ((ap (λ (a : AreaOf (Unit {0})). a.file_block) at ∙ paging) j)))
            ∙ and_true (is_some (numbered a.pages i));
        unnamed = λ place i e.
            seen_by u place name i (λ n j x r v alive there is_view same. unseen ended paging n j x r v alive there is_view (same ∙ is)) (fits.named place (key.Shared name i) e);
        opened = ap is_some (fits.areas name.0) ∙ opened (length (area_at t name.0).pages) (subst (λ (a : AreaOf (Unit {0})). 1 ≤ length a.pages) (sym at) (l.kept.tidy.some m old.section there));
        releasing = releasing;
      }
    where
      opened : (n : ℕ) → 1 ≤ n → is_some (cond (n == 0) None (Some n)) ≡ true
      opened n h = ap (λ b. is_some (cond b None (Some n))) (not_true (n == 0) (λ e. let same : n ≡ 0 = (unsigned_Decides n 0).0 e in absurd (omega (arith, h, same))))

  -- what an area was charged is given back
  freed : (b : AreaOf (Unit {0})) → area_charge b ≡ 0 → sum_by area_charge (set t.areas area b) + area_charge a ≡ sum_by area_charge t.areas
  freed b none = omega (arith, area_sum t.areas area a b (some_get t.areas area no_area inside), none)

  pub landed_ends : (name : Area) (made : Tables) (after : CommitOf) (c0 c1 d : Key → Option Page) (s0 s1 z : StoreOf) → name.0 ≡ area → made ≡ with_areas (set t.areas area (ended_area a)) → is_some (section_settled now) ≡ false → after.charge + area_charge a ≡ charge u → after.limit ≡ commit.limit → Less c0 c1 → s1 ≡ store_beside s0 s1 → FitsTables u c1 s1 → ((first : ℕ) → a.file_block ≡ Some first → (d ≡ c1) × (z ≡ s1)) → (a.file_block ≡ None → Emptied name a c1 d s1 z) → Landed (settle u) made es after c0 d s0 z
  landed_ends name made after c0 c1 d s0 s1 z name_is made_is ended charged limited less rest fits file emptied =
      let is = one_if false ended in
      let total : charge (settle u) + area_charge a ≡ charge u = omega (arith, ap (λ (w : Tables). charge w) is, freed (ended_area a) (ended_charge a)) in
      let f = after_area a.file_block refl in
      landed_by (settle u) made es after c0 d s0 z (made_is ∙ sym is) (kept_now after (omega (arith, charged, total)) limited)
      (subst (λ (w : Tables). FitsTables w d z) (sym is) f.0) (less_then c0 c1 d less f.1.0) (beside_then s0 s1 z rest f.1.1)
    where
      after_area : (o : Option ℕ) → a.file_block ≡ o → FitsTables (with_areas (set t.areas area (ended_area a))) d z × ((Less c1 d) × (z ≡ store_beside s1 z))
      after_area (Some first) e =
          let h = file first e in
          let stays : ended_area a ≡ get_or t.areas area no_area = ap (λ (o : Option ℕ). cond (is_some o) a no_area) e ∙ sym (get_or_from_slice_get t.areas area a no_area (some_get t.areas area no_area inside)) in
          let areas : t.areas ≡ set t.areas area (ended_area a) = sym (ap (set t.areas area) stays ∙ set-get_or t.areas area no_area) in (
            subst (λ (x : Key → Option Page). FitsTables (with_areas (set t.areas area (ended_area a))) x z) (sym h.0)
                (subst (λ (x : StoreOf). FitsTables (with_areas (set t.areas area (ended_area a))) c1 x) (sym h.1)
                (subst (λ (areas : List (AreaOf (Unit {0}))). FitsTables (with_areas areas) c1 s1) areas (fits_sections u (sections_of es) c1 s1 fits))),
            ((λ key some. ap (λ (x : Key → Option Page). x key) h.0), h.1 ∙ ap (store_beside s1) (sym h.1)),
          )
      after_area None e =
          let h = emptied e in
          let gone : ended_area a ≡ no_area = ap (λ (o : Option ℕ). cond (is_some o) a no_area) e in
          let at : area_at u name.0 ≡ a = ap (λ (n : ℕ). area_at t n) name_is in
          let now_fits : FitsTables (record u { areas = set u.areas name.0 no_area }) d z =
          fits_ended u name c1 d s1 z (omega (arith, inside, name_is)) (ap (λ (x : AreaOf (Unit {0})). x.file_block) at ∙ e) (λ n j x r v alive there is same. unseen ended e n j x r v alive there is (same ∙ name_is))
          (subst (λ (x : AreaOf (Unit {0})). Emptied name x c1 d s1 z) (sym at) h) fits in
          let as_named : set u.areas name.0 no_area ≡ set t.areas area (ended_area a) = λ i. set t.areas (name_is i) (sym gone i) in (
            subst (λ (areas : List (AreaOf (Unit {0}))). FitsTables (with_areas areas) d z) as_named (fits_sections (record u { areas = set u.areas name.0 no_area }) (sections_of es) d z now_fits),
            (emptied_less h, h.store ∙ ap (store_beside s1) (sym h.store)),
          )

-- ---- What the tables keep, of the fields that they are kept in; and areas at their places

pub record Standing (t : Tables) (items : List (Option Process)) (entries : Numbered CountedSection) (areas : List (AreaOf (Unit {0}))) (commit : CommitOf) : Type 0 where
  pub kept : AreKeptTables t entries commit
  pub processes : shown_processes items ≡ t.processes
  pub sections : sections_of entries ≡ t.sections
  pub areas_are : areas ≡ t.areas

-- the tables as they are kept, with this at the place of a process, this directory and these areas
abbrev pub kept_with : Inside → ℕ → Option Process → DirectoryOf → List (AreaOf (Unit {0})) → Tables
kept_with i pid y dir areas = tables_with i.machine (shown_processes (set i.processes.items (pid - 1) y)) dir.entries areas dir.files i.blocks_used i.fails_taken (shown_accesses i.kept) i.stacks

-- one reference less in them, before the area of a section that ended is looked at; where it was the last of the process, its
-- area goes with this rank
pub record Step (i : Inside) (t : Tables) (pid : ℕ) (q : ProcessOf (Unit {0})) (y : Option Process) (dir : DirectoryOf) (result : Option Area) (commit : CommitOf) (c0 c1 : Key → Option Page) (s0 s1 : StoreOf) (rank : ℕ) : Type 0 where
  pub p : ProcessOf (Unit {0})
  pub m : ℕ
  pub old : CountedSection
  pub now : CountedSection
  pub view : shown_with i i.processes.items ≡ t
  pub low : 1 ≤ pid
  pub one : OneLess t pid p q m old now i.directory.entries i.commit
  pub shown : option_map shown_process y ≡ Some q
  pub dir_is : dir ≡ record i.directory { entries = set i.directory.entries m (section_settled now) }
  pub told : result ≡ cond (is_some (section_settled now)) None (Some (record { 0 = old.section.area }))
  pub charged : commit.charge ≡ charge (set_process t pid (Some q))
  pub limited : commit.limit ≡ i.commit.limit
  pub less : Less c0 c1
  pub rest : s1 ≡ store_beside s0 s1
  pub fits : FitsTables (set_process t pid (Some q)) c1 s1
  pub ranked : handles_in m (Some q) ≡ 0 → views_in m (Some q) ≡ 0 → section_rank m (Some p) ≡ rank
  pub early : 1 ≤ rank

module _ {i : Inside} {t : Tables} {pid : ℕ} {q : ProcessOf (Unit {0})} {y : Option Process} {dir : DirectoryOf} {result : Option Area} {commit : CommitOf} {c0 c1 : Key → Option Page} {s0 s1 : StoreOf} {rank : ℕ} (w : Step i t pid q y dir result commit c0 c1 s0 s1 rank) where
  abbrev its_area : ℕ
  its_area = w.old.section.area

  abbrev left : Numbered CountedSection
  left = set i.directory.entries w.m (section_settled w.now)

  made : (areas bs : List (AreaOf (Unit {0}))) → areas ≡ bs → kept_with i pid y dir areas ≡ record t { processes = set t.processes pid (Some q); sections = sections_of left; areas = bs }
  made areas bs same =
      (λ j. kept_with i pid y (w.dir_is j) (same j))
      ∙ (λ j. record (shown_with i i.processes.items) { processes = (shown_set i.processes.items pid y w.low ∙ (λ k. set (shown_processes i.processes.items) pid (w.shown k))) j; sections = sections_of left; areas = bs })
      ∙ (λ j. record (w.view j) { processes = set (w.view j).processes pid (Some q); sections = sections_of left; areas = bs })

  as_told : {v : Tables} {after : CommitOf} {d : Key → Option Page} {z : StoreOf} → Landed (settle (set_process t pid (Some q))) v left after c0 d s0 z → Landed (settle (set_process t pid (Some q))) v dir.entries after c0 d s0 z
  as_told {v} {after} {d} {z} landed = subst (λ (dir : DirectoryOf). Landed (settle (set_process t pid (Some q))) v dir.entries after c0 d s0 z) (sym w.dir_is) landed

  pub whole_stays : result ≡ None → Landed (settle (set_process t pid (Some q))) (kept_with i pid y dir i.areas.items) dir.entries commit c0 c1 s0 s1
  whole_stays none =
      as_told (landed_stays w.one (kept_with i pid y dir i.areas.items) commit c0 c1 s0 s1 (made i.areas.items t.areas (ap (λ (t : Tables). t.areas) w.view))
      (still (is_some (section_settled w.now)) (sym w.told ∙ none)) w.charged w.limited w.less w.rest w.fits)
    where
      still : (b : Bool) → ◌≡◌ {A = Option Area} (cond b None (Some (record { 0 = its_area }))) None → b ≡ true
      still true e = refl
      still false e = cc

  module _ {n : Area} (some : result ≡ Some n) where
    end : (is_some (section_settled w.now) ≡ false) × (n.0 ≡ its_area)
    end = by_test (is_some (section_settled w.now)) (sym w.told ∙ some)
      where
        by_test : (b : Bool) → ◌≡◌ {A = Option Area} (cond b None (Some (record { 0 = its_area }))) (Some n) → (b ≡ false) × (n.0 ≡ its_area)
        by_test true e = cc
        by_test false e = let is : ◌≡◌ {A = Area} (record { 0 = its_area }) n = cc in (refl, ap (λ (n : Area). n.0) (sym is))

    areas_are : i.areas.items ≡ t.areas
    areas_are = ap (λ (t : Tables). t.areas) w.view

    pub its_area_inside : n.0 < length i.areas.items
    its_area_inside = omega (arith, end.1, inside w.one, ap (λ (areas : List (AreaOf (Unit {0}))). length areas) areas_are)

    module _ {pages : AreaOf (Unit {0})} (at : pages ≡ get_or i.areas.items n.0 pages) where
      is_area : pages ≡ area_at t its_area
      is_area = get_or_read_under t.areas its_area (length t.areas) pages no_area (at ∙ (λ j. get_or (areas_are j) (end.1 j) pages)) (inside w.one) refl ∙ sym (unwrap_or-slice_get t.areas its_area no_area)

      pub ends_at : pages.file_block ≡ None → (ranks : ℕ → ℕ) → IsRankFor ranks pid t → ranks n.0 ≡ rank
      ends_at paging ranks for =
          let none = left_none w.one end.0 in
          ap ranks end.1 ∙ its_rank w.one (ap (λ (a : AreaOf (Unit {0})). a.file_block) (sym is_area) ∙ paging) ranks for rank w.early (w.ranked none.0 none.1)

      pub whole_can : IsReleasing s1.kind → pages.file_block ≡ None → CanEnd n pages c1 s1
      whole_can releasing paging =
          subst (λ (a : AreaOf (Unit {0})). CanEnd n a c1 s1) (sym is_area)
          (can_end w.one n c1 s1 end.1 end.0 (ap (λ (a : AreaOf (Unit {0})). a.file_block) (sym is_area) ∙ paging) w.fits releasing)

      pub whole_charged : area_charge pages ≤ commit.charge
      whole_charged = omega (arith, ap (λ (a : AreaOf (Unit {0})). area_charge a) is_area, area_charged (set_process t pid (Some q)) its_area (inside w.one), w.charged)

      pub whole_ends : {pages' : AreaOf (Unit {0})} {after : CommitOf} {d : Key → Option Page} {z : StoreOf} → pages' ≡ ended_area pages → after ≡ record commit { charge = commit.charge - area_charge pages } → ((first : ℕ) → pages.file_block ≡ Some first → (d ≡ c1) × (z ≡ s1)) → (pages.file_block ≡ None → Emptied n pages c1 d s1 z) → Landed (settle (set_process t pid (Some q))) (kept_with i pid y dir (set i.areas.items n.0 pages')) dir.entries after c0 d s0 z
      whole_ends {pages'} {after} {d} {z} pages_are refunded file emptied =
          as_told (landed_ends w.one n (kept_with i pid y dir (set i.areas.items n.0 pages')) after c0 c1 d s0 s1 z end.1
          (made (set i.areas.items n.0 pages') (set t.areas its_area (ended_area (area_at t its_area))) (λ j. set (areas_are j) (end.1 j) ((pages_are ∙ ap ended_area is_area) j))) end.0
          (omega (arith, ap (λ (k : CommitOf). k.charge) refunded, whole_charged, ap (λ (a : AreaOf (Unit {0})). area_charge a) is_area, w.charged))
          (ap (λ (k : CommitOf). k.limit) refunded ∙ w.limited) w.less w.rest w.fits
          (λ first e. file first (ap (λ (a : AreaOf (Unit {0})). a.file_block) is_area ∙ e))
          (λ e. subst (λ (a : AreaOf (Unit {0})). Emptied n a c1 d s1 z) is_area (emptied (ap (λ (a : AreaOf (Unit {0})). a.file_block) is_area ∙ e))))

-- ---- a process that lives in the tables

module _ {i : Inside} {t : Tables} {pid : ℕ} {x : Option Process} {rs : List (RegionOf (Unit {0}))} (k : Held i t pid x rs) where
  pub same_process : (p : ProcessOf (Unit {0})) → process_of t pid ≡ Some p → k.process ≡ p
  same_process p lives = same_found (process_of t pid) k.process p k.lives lives

  -- the tables with this at its place
  pub put_process : (y : Option Process) (q : Option (ProcessOf (Unit {0}))) → option_map shown_process y ≡ q → shown_with i (set i.processes.items (pid - 1) y) ≡ set_process t pid q
  put_process y q shown =
      (λ j. record (shown_with i i.processes.items) { processes = (shown_set i.processes.items pid y k.low ∙ (λ m. set (shown_processes i.processes.items) pid (shown m))) j })
      ∙ ap (λ (t : Tables). set_process t pid q) k.view

-- ---- handles

-- the section of a handle that is there
pub record HasHandle (t : Tables) (p : ProcessOf (Unit {0})) (handle : ℕ) : Type 0 where
  pub number : ℕ
  pub is_held : held p.handles handle ≡ Some number
  pub there : numbered p.handles (handle / 4) ≡ Some number
  pub section : SectionOf
  pub lives : section_of t number ≡ Some section

has_handle : (t : Tables) (p : ProcessOf (Unit {0})) (handle : ℕ) → is_some (handle_section t p handle) ≡ true → HasHandle t p handle
has_handle t p handle e = by_held (held p.handles handle) refl e
  where
    there : (b : Bool) (n : ℕ) → cond b (numbered p.handles (handle / 4)) None ≡ Some n → numbered p.handles (handle / 4) ≡ Some n
    there true n e = e
    there false n e = cc

    by_held : (o : Option ℕ) → held p.handles handle ≡ o → is_some (option_and_then (λ number. option_map (λ s. let f : Found SectionOf = record { place = number; thing = s } in f) (section_of t number)) o) ≡ true → HasHandle t p handle
    by_held None h e = cc
    by_held (Some n) h e =
        let s = some_found (section_of t n) (sym (some_map (λ (s : SectionOf). let f : Found SectionOf = record { place = n; thing = s } in f) (section_of t n)) ∙ e) in
        record { number = n; is_held = h; there = there (handle % 4 == 0) n h; section = s.0; lives = s.1 }

-- the entry of a section that lives
pub has_entry : (entries : Numbered CountedSection) (ss : Numbered SectionOf) (n : ℕ) (s : SectionOf) → sections_of entries ≡ ss → numbered ss n ≡ Some s → (c : CountedSection) × (numbered entries n ≡ Some c)
has_entry entries ss n s sections there =
    some_found (numbered entries n) (sym (some_map section_in (numbered entries n)) ∙ ap is_some (sym (get_or-map (option_map section_in) entries n None) ∙ ap (λ (ss : Numbered SectionOf). numbered ss n) sections ∙ there))

-- ---- A handle of a process is closed: what the call's steps are told, and what they come to

abbrev pub closed : {B : Type 0} → ProcessOf B → ℕ → ProcessOf B
closed p handle = record p { handles = set p.handles (handle / 4) None }

module _ {i : Inside} {t : Tables} {pid : ℕ} {x : Option Process} {rs : List (RegionOf (Unit {0}))} (k : Held i t pid x rs) (handle : ℕ) (there : (p : ProcessOf (Unit {0})) → process_of t pid ≡ Some p → is_some (handle_section t p handle) ≡ true) {hs : Numbered ℕ} (lent : hs ≡ process_handles x) where
  abbrev after_close : ProcessOf (Unit {0})
  after_close = closed k.process handle

  h : HasHandle t k.process handle
  h = has_handle t k.process handle (there k.process k.lives)

  closed_entry : (c : CountedSection) × (numbered i.directory.entries h.number ≡ Some c)
  closed_entry = has_entry i.directory.entries t.sections h.number h.section (ap (λ (t : Tables). t.sections) k.view) h.lives

  less : (n : ℕ) → handles_in n (Some after_close) + cond (h.number == n) 1 0 ≡ handles_in n (Some k.process)
  less n = closed_count k.process.handles (handle / 4) n h.number h.there

  one_closed : handles_in h.number (Some after_close) + 1 ≡ handles_in h.number (Some k.process)
  one_closed = omega (arith, less h.number, ap {B = ℕ} (λ b. cond b 1 0) ((unsigned_Decides h.number h.number).1 refl))

  some_held : 1 ≤ closed_entry.0.handles
  some_held = omega (arith, (k.kept.counted h.number closed_entry.0 closed_entry.1).handles, handles_put t pid h.number k.process None k.lives, one_closed)

  lent_held : held hs handle ≡ Some h.number
  lent_held = ap (λ hs. held hs handle) (lent ∙ handles_by x k.process k.shown) ∙ h.is_held

  pub close_held : is_some (held hs handle) ≡ true
  close_held = ap is_some lent_held

  number_is : (n : ℕ) → held hs handle ≡ Some n → h.number ≡ n
  number_is n is_held = same_found (held hs handle) h.number n lent_held is_held

  pub close_counted : (n : ℕ) → held hs handle ≡ Some n → IsSomeAnd (numbered i.directory.entries n) (λ c. 1 ≤ c.handles)
  close_counted n is_held =
      subst (λ (o : Option CountedSection). IsSomeAnd o (λ c. 1 ≤ c.handles)) (sym (ap (numbered i.directory.entries) (sym (number_is n is_held)) ∙ closed_entry.1)) some_held

  same_charge : charge (set_process t pid (Some after_close)) ≡ charge t
  same_charge = charge-same_regions t pid k.process (set k.process.handles (handle / 4) None) k.lives

  sound : WellFormed (settle (set_process t pid (Some after_close)))
  sound =
      let u = set_process t pid (Some after_close) in
      sound_by t (settle u) (Then u (settle u) (Then t u Nothing (HandleGoes pid k.process (handle / 4) k.lives)) (Settles (λ old new fewer. tt))) (omega (arith, charge-settle u, same_charge, k.kept.sound.charged)) k.kept.sound

  close_one : OneLess t pid k.process after_close h.number closed_entry.0 (one_handle_less closed_entry.0) i.directory.entries i.commit
  close_one =
      record {
        lives = k.lives;
        kept = k.kept;
        sections = ap (λ (t : Tables). t.sections) k.view;
        entry = closed_entry.1;
        others = λ n other. (omega (arith, less n, ap {B = ℕ} (λ b. cond b 1 0) (not_true (h.number == n) (λ e. other (sym ((unsigned_Decides h.number n).0 e))))), refl);
        same_section = refl;
        handles = omega (arith, some_held, one_closed);
        seen = refl;
        sub = λ i r at. (i, at);
        sound = sound;
      }

  pub close_step : {dir : DirectoryOf} {result : Option Area} {c : Key → Option Page} {s : StoreOf} (handles : HandlesOf) (n : ℕ) → handles.entries ≡ set hs (handle / 4) None → held hs handle ≡ Some n → LosesReference one_handle_less n i.directory dir result
      → FitsTables t c s → Step i t pid after_close (with_handles x handles) dir result i.commit c c s s (handle / 4 + 1)
  close_step {dir} {result} {c} {s} handles n shut is_held loses fits =
      let lost = subst (λ (n : ℕ). LosesReference one_handle_less n i.directory dir result) (sym (number_is n is_held)) loses in
      record {
        p = k.process;
        m = h.number;
        old = closed_entry.0;
        now = one_handle_less closed_entry.0;
        view = k.view;
        low = k.low;
        one = close_one;
        shown = handled x handles (λ hs. set hs (handle / 4) None) (shut ∙ ap (λ hs. set hs (handle / 4) None) lent) k.process k.shown;
        dir_is = lost.dropped closed_entry.0 closed_entry.1;
        told = lost.ended closed_entry.0 closed_entry.1;
        charged = k.kept.charged ∙ sym same_charge;
        limited = refl;
        less = λ key some. refl;
        rest = refl;
        fits = nothing_lost t pid k.process (Some after_close) k.lives refl same_charge (omega (arith, paging-set_process t pid k.process (Some after_close) k.lives)) c s s refl (λ n. fits.opened n ∙ sym (lives_as t pid k.process (Some after_close) k.lives refl n)) refl refl refl fits;
        ranked = closed_rank h.number (handle / 4) k.process h.there;
        early = omega arith;
      }

  -- by whatever name the process has
  pub close_named : (p : ProcessOf (Unit {0})) → process_of t pid ≡ Some p → settle (set_process t pid (Some after_close)) ≡ settle (set_process t pid (Some (closed p handle)))
  close_named p lives = λ j. settle (set_process t pid (Some (closed (same_process k p lives j) handle)))

-- ---- lists

pub removed_from : {B : Type 0} (rs : List (RegionOf B)) (i j : ℕ) (r : RegionOf B) → slice_get (remove rs i) j ≡ Some r → (k : ℕ) × (slice_get rs k ≡ Some r)
removed_from [] zero j r at = cc
removed_from [] (suc i) j r at = cc
removed_from (x ∷ rs) zero j r at = (suc j, at)
removed_from (x ∷ rs) (suc i) zero r at = (0, at)
removed_from (x ∷ rs) (suc i) (suc j) r at = let k = removed_from rs i j r at in (suc k.0, k.1)

-- ---- the pages of a region

module _ (t : Tables) (pid : Pid) (p : ProcessOf (Unit {0})) (i : ℕ) (r : RegionOf (Unit {0})) (range : Range) (lives : process_of t pid.0 ≡ Some p) (at : slice_get p.regions i ≡ Some r) (pages : pages_of r ≡ range) (sound : WellFormed t) where
  some : 1 ≤ range.count
  some = some_pages t pid.0 p i r range lives sound at pages

  pub all_around : is_some (region_around p.regions range) ≡ true
  all_around = is_around t pid.0 p i r range lives sound at (whole_inside r range pages) some

  -- what the commit charge has of a view
  pub marked_charge : (v : View) → r.kind ≡ kind.View v → marked_in p.regions range ≡ region_charge r
  marked_charge v is =
      ap (λ o. count_by (λ (row : RowOf (Unit {0})). row.marked) (rows_of_range range o)) (around_is t pid.0 p i r range lives sound at (whole_inside r range pages) some)
      ∙ ap (λ (range : Range). count_by (λ (row : RowOf (Unit {0})). row.marked) (in_range range r)) (sym pages) ∙ ap (count_by (λ (row : RowOf (Unit {0})). row.marked)) (whole_range r)
      ∙ ap (λ (k : Kind). count_by (is_charged k) r.rows) (sym is)

  pub charge_removed : charge (set_regions t pid.0 p (remove p.regions i)) + region_charge r ≡ charge t
  charge_removed = charge-remove_region t pid.0 p i r lives at

  module _ (c : Key → Option Page) (s : StoreOf) (f : FitsTables t c s) where
    pub ends_within : end_of range ≤ end_of_user_pages
    ends_within = ends t pid p c s lives sound f i r range at (whole_inside r range pages)

    pub can_go : s.kind ≡ line_kind.Unbind pid → CanRelease true pid range p.regions c s
    can_go unbinding = can_release t pid p c s lives sound f i r range at (whole_inside r range pages) true (λ stays. cc) unbinding

-- ---- A view of a process is unmapped: what the call's steps are told, and what they come to

abbrev pub unmapped : {B : Type 0} → ProcessOf B → ℕ → ProcessOf B
unmapped p i = record p { regions = remove p.regions i }

-- the view that was asked for
pub record HasView (t : Tables) (p : ProcessOf (Unit {0})) (addr : ℕ) (range : Range) (view : View) : Type 0 where
  pub found : Found (RegionOf (Unit {0}))
  pub is_found : view_at p.regions addr ≡ Some found
  pub at : slice_get p.regions found.place ≡ Some found.thing
  pub pages : pages_of found.thing ≡ range
  pub is : found.thing.kind ≡ kind.View view
  pub view_fits : ViewFits t view (length found.thing.rows)

has_view : (t : Tables) (pid : ℕ) (p : ProcessOf (Unit {0})) (addr : ℕ) (range : Range) (view : View) → WellFormed t → process_of t pid ≡ Some p → option_map found_info (view_at p.regions addr) ≡ Some (record { pages = range; kind = kind.View view }) → HasView t p addr range view
has_view t pid p addr range view sound lives e = by_found (view_at p.regions addr) refl e
  where
    by_found : (o : Option (Found (RegionOf (Unit {0})))) → view_at p.regions addr ≡ o → option_map found_info o ≡ Some (record { pages = range; kind = kind.View view }) → HasView t p addr range view
    by_found None f e = cc
    by_found (Some r) f e =
        let same : ◌≡◌ {A = RegionInfo} (found_info r) (record { pages = range; kind = kind.View view }) = cc in
        let at = (found_stands _ p.regions r f).there in
        let is : r.thing.kind ≡ kind.View view = ap (λ (i : RegionInfo). i.kind) same in
        record {
          found = r;
          is_found = f;
          at = at;
          pages = ap (λ (i : RegionInfo). i.pages) same;
          is = is;
          view_fits = each-at _ p.regions r.place r.thing (sound.references.processes pid p lives).views at view is;
        }

module _ {i : Inside} {t : Tables} {x : Option Process} {rs : List (RegionOf (Unit {0}))} (pid : Pid) (k : Held i t pid.0 x rs) (addr : ℕ) {range : Range} {view : View} (there : (p : ProcessOf (Unit {0})) → process_of t pid.0 ≡ Some p → option_map found_info (view_at p.regions addr) ≡ Some (record { pages = range; kind = kind.View view })) where
  pub v : HasView t k.process addr range view
  v = has_view t pid.0 k.process addr range view k.kept.sound k.lives (there k.process k.lives)

  e : (c : CountedSection) × (numbered i.directory.entries view.section.0 ≡ Some c)
  e = has_entry i.directory.entries t.sections view.section.0 v.view_fits.section (ap (λ (t : Tables). t.sections) k.view) v.view_fits.lives

  abbrev q : ProcessOf (Unit {0})
  q = unmapped k.process v.found.place

  views_less : (n : ℕ) → views_in n (Some q) + cond (view.section.0 == n) 1 0 ≡ views_in n (Some k.process)
  views_less n = omega (arith, removed_views k.process.regions v.found.place n v.found.thing v.at, ap {B = ℕ} (λ (k : Kind). cond (is_view_of n k) 1 0) v.is)

  one : views_in view.section.0 (Some q) + 1 ≡ views_in view.section.0 (Some k.process)
  one = omega (arith, views_less view.section.0, ap {B = ℕ} (λ b. cond b 1 0) ((unsigned_Decides view.section.0 view.section.0).1 refl))

  some_of : 1 ≤ e.0.views
  some_of = omega (arith, (k.kept.counted view.section.0 e.0 e.1).views, views_put t pid.0 view.section.0 k.process None k.lives, one)

  unmap_sound : WellFormed (settle (set_process t pid.0 (Some q)))
  unmap_sound =
      let u = set_process t pid.0 (Some q) in
      let less = charge_removed t pid k.process v.found.place v.found.thing range k.lives v.at v.pages k.kept.sound in
      sound_by t (settle u) (Then u (settle u) (Then t u Nothing (Regions pid.0 k.process (remove k.process.regions v.found.place) k.lives (RegionGoes v.found.place v.found.thing v.at (λ shared x here first. refl) tt))) (Settles (λ old new fewer. tt)))
      (omega (arith, charge-settle u, less, k.kept.sound.charged)) k.kept.sound

  unmap_one : OneLess t pid.0 k.process q view.section.0 e.0 (one_view_less e.0) i.directory.entries i.commit
  unmap_one =
      record {
        lives = k.lives;
        kept = k.kept;
        sections = ap (λ (t : Tables). t.sections) k.view;
        entry = e.1;
        others = λ n other. (refl, omega (arith, views_less n, ap {B = ℕ} (λ b. cond b 1 0) (not_true (view.section.0 == n) (λ e. other (sym ((unsigned_Decides view.section.0 n).0 e))))));
        same_section = refl;
        handles = refl;
        seen = omega (arith, some_of, one);
        sub = λ j r at. removed_from k.process.regions v.found.place j r at;
        sound = unmap_sound;
      }

  lent_view : view_at rs addr ≡ Some v.found
  lent_view = ap (λ rs. view_at rs addr) k.same ∙ v.is_found

  pub unmap_there : is_some (view_at rs addr) ≡ true
  unmap_there = ap is_some lent_view

  pub unmap_around : is_some (region_around rs range) ≡ true
  unmap_around = ap (λ rs. is_some (region_around rs range)) k.same ∙ all_around t pid k.process v.found.place v.found.thing range k.lives v.at v.pages k.kept.sound

  pub unmap_counted : IsSomeAnd (numbered i.directory.entries view.section.0) (λ c. 1 ≤ c.views)
  unmap_counted = subst (λ (o : Option CountedSection). IsSomeAnd o (λ c. 1 ≤ c.views)) (sym e.1) some_of

  pub unmap_some : 1 ≤ range.count
  unmap_some = some t pid k.process v.found.place v.found.thing range k.lives v.at v.pages k.kept.sound

  -- it was the last reference of the process
  unmap_rank : views_in view.section.0 (Some q) ≡ 0 → section_rank view.section.0 (Some k.process) ≡ page_rank (end_of range) - 1
  unmap_rank views =
      removed_rank view.section.0 v.found.place k.process v.found.thing v.at
      (ap (is_view_of view.section.0) v.is ∙ (unsigned_Decides view.section.0 view.section.0).1 refl) views
      ∙ ap (λ (pages : Range). page_rank (end_of pages) - 1) v.pages

  -- by whatever names the process and the region have
  pub unmap_named : (p : ProcessOf (Unit {0})) (r : Found (RegionOf (Unit {0}))) → process_of t pid.0 ≡ Some p → view_at p.regions addr ≡ Some r → settle (set_process t pid.0 (Some q)) ≡ settle (set_process t pid.0 (Some (unmapped p r.place)))
  unmap_named p r lives found =
      let same = same_process k p lives in
      let place = same_found (view_at k.process.regions addr) v.found r v.is_found (ap (λ (p : ProcessOf (Unit {0})). view_at p.regions addr) same ∙ found) in
      λ j. settle (set_process t pid.0 (Some (unmapped (same j) (place j).place)))

  module _ {c : Key → Option Page} {s : StoreOf} (fits : FitsTables t c s) where
    pub unmap_end : end_of range ≤ end_of_user_pages
    unmap_end = ends_within t pid k.process v.found.place v.found.thing range k.lives v.at v.pages k.kept.sound c s fits

    pub unmap_can : s.kind ≡ line_kind.Unbind pid → CanRelease true pid range rs c s
    unmap_can unbinding =
        subst (λ rs. CanRelease true pid range rs c s) (sym k.same) (can_go t pid k.process v.found.place v.found.thing range k.lives v.at v.pages k.kept.sound c s fits unbinding)

    module _ {marked : ℕ} (counts : marked ≡ marked_in rs range) where
      charged_now : charge (set_process t pid.0 (Some q)) + marked ≡ charge t
      charged_now =
          omega (
            arith,
            counts,
            ap (λ rs. marked_in rs range) k.same,
            marked_charge t pid k.process v.found.place v.found.thing range k.lives v.at v.pages k.kept.sound view v.is,
            charge_removed t pid k.process v.found.place v.found.thing range k.lives v.at v.pages k.kept.sound,
          )

      pub unmap_charged : marked ≤ i.commit.charge
      unmap_charged = omega (arith, charged_now, k.kept.charged)

      pub unmap_step : {dir : DirectoryOf} {result : Option Area} {commit : CommitOf} {d : Key → Option Page} {z : StoreOf} (space : RegionsOf) → ((r : Found (RegionOf (Unit {0}))) → view_at rs addr ≡ Some r → space.regions ≡ remove rs r.place)
          → GivenUp true pid range (passing (is_page_live pid c) range.first range.count) c d s z → commit ≡ record i.commit { charge = i.commit.charge - marked }
          → LosesReference one_view_less view.section.0 i.directory dir result
          → Step i t pid.0 q (with_space x space) dir result commit c d s z (page_rank (end_of range) - 1)
      unmap_step {dir} {result} {commit} {d} {z} space removed gone refunded lost =
          let done = region_gone t pid k.process range c d s z k.lives k.kept.sound fits v.found.place v.found.thing v.at v.pages gone in
          record {
            p = k.process;
            m = view.section.0;
            old = e.0;
            now = one_view_less e.0;
            view = k.view;
            low = k.low;
            one = unmap_one;
            shown = spaced x space (λ rs. remove k.process.regions v.found.place) (removed v.found lent_view ∙ ap (λ rs. remove rs v.found.place) k.same) k.process k.shown;
            dir_is = lost.dropped e.0 e.1;
            told = lost.ended e.0 e.1;
            charged = omega (arith, ap (λ (k : CommitOf). k.charge) refunded, k.kept.charged, charged_now);
            limited = ap (λ (k : CommitOf). k.limit) refunded;
            less = given_less gone;
            rest = done.rest;
            fits = done.fits;
            ranked = λ handles. unmap_rank;
            early = omega arith;
          }
