-- The moves of calls that end pages, joined, and the steps of the end of a process.
use Rattle.std.specs.Prelude.{position, remove, ◌==◌, ◌/◌, ◌%◌, option_and_then, IfSome}
use Rattle.std.proofs.Common.{inl, inr, ◌≢◌, ◌^◌, option_map, slice_get, ◌≡◌, ℕ, ◌+◌, ◌≤◌, ◌<◌, Bool, true, false, List, [], ◌∷◌, Option, Some, None, refl, sym, ap, ◌∙◌, subst, arith, ◌-◌, cond, length, set, is_some, nat_lt, ◌&&◌, suc, ◌*◌, sum_by, count_by, not, zero, nat_le, ◌||◌}
use Rattle.std.specs.Cmp.{unsigned_Decides}
use Rattle.std.specs.List.{position_or_len}
use Rattle.std.proofs.lemmas.Bool.{ltb-true, ltb-false, cases_lt, le-leb, leb-true, leb-false}
use Rattle.std.proofs.lemmas.List.{get_or_past, set-set, get_or-set_same, get_or-set_other}
use Rattle.std.proofs.lemmas.List.Sums.{sum_by-cons, sum_by-set, passes_at_first, fails_before_first}
use Rattle.mm_types.specs.{Pid, Range, holds_page, end_of, end_of_user_pages, address_of, Key, Kind, View, lies_within, first_user_page, Place}
use Rattle.mm_types.specs.declared.views.Kind.TheVariants as kind
use Rattle.mm_types.proofs.{both, not_true, get_within, none_of, some_found, same_found, some_map, same_or_not, same_tests, and_false, spread}
use Rattle.mm_types.proofs.{or_left, or_right, by_either, get_set_same}
use Rattle.std.proofs.lemmas.List.Edits.{length-remove}
use Rattle.mm_world.specs.{RegionOf, ProcessOf, pages_of, Page, Numbered, SectionOf, numbered, process_of, Found, first_where, one_later, is_private}
use Rattle.mm_world.specs.{set_process, section_of, Tables, IsSpace, LaidOut, charge, region_charge, is_view_of, settle, handle_section, is_handle_to}
use Rattle.mm_world.specs.{view_at, private_at, region_around, own_page, region_with, set_regions, Committed, committed_at, key_of, reserved_row}
use Rattle.mm_world.specs.{change_rows}
use Rattle.mm_world.specs.WellFormed.{WellFormed}
use Rattle.mm_world.proofs.{charge-set_process, ProcessGoes, and-true}
use Rattle.mm_store.specs.Behind.{Behind}
use Rattle.mm_store.specs.{AreAmong, place_at, Turn, Turns, page_rank, PassesIn, StoreOf, rearranged, changed_in, own_key, leaving}
use Rattle.mm_move_rules.specs.{changed}
use Rattle.mm_store.specs.Housekeeping.{Ends}
use Rattle.mm_store.specs.Leaving.{Leaving}
use Rattle.mm_store.proofs.{ends_then, ends_meet, ends_wider}
use Rattle.mm_commit_charge.specs.{CommitOf}
use Rattle.mm_sections.specs.{CountedSection, held, handle_at}
use Rattle.mm_address_spaces.specs.{info_of, found_info, RegionInfo, RegionsOf, owned_in}
use Rattle.mm_object_tables.specs.{Fewer, Less, Toward, HasNoHandle, IsRankFor, IsTidy, handles_to, views_of, NobodyKeeps, AreKeptTables, FitsTables}
use Rattle.mm_object_tables.specs.{Settled, store_beside, owned_among, own_at, is_owned_at, without_keys, without_paging, CanRelease, GivenUp, low_half}
use Rattle.mm_object_tables.specs.{high_half, is_key_in, AreUnbound, is_page_live, passing, Process, with_space, is_reserved, is_uncommitted}
use Rattle.mm_object_tables.proofs.EndingSettles.{process_same, at_each, less_then, beside_then, handles_put, views_put, holds_count, views_count, settle_same, tidy_settled, ends_same, key_is}
use Rattle.mm_object_tables.proofs.Rows.{regions_in, paging-set_process, within, holds, holds_not, Inside, holds_too, passing_owned, region_key, reserved_is, own_rows, same_pages, has_own, in_range, private_charge, regions_of}
use Rattle.mm_object_tables.proofs.Keeping.{keepers_less, sound_edit, Held, shown_with, still_kept, regions_by, sound_after}
use Rattle.mm_object_tables.proofs.EndingSteps.{Landed, landed_by, nothing_lost, unmapped, closed}
use Rattle.std.proofs.Math.Path.{fun_ext}
use Rattle.mm_types.specs.declared.numbers.Key.TheVariants as key
use Rattle.mm_object_tables.proofs.PageByPage.{owned_passing, owned_same, given_two, by_key, bound_out, own, here}
use Rattle.mm_object_tables.proofs.Settled.{around, found_there, Done, ends, settled_as, uncommitted_is, IsAround, decommit_done, can_release, Begins, release_done, is_around, begins, whole_inside, pages_found, some_pages, whole_owned}
use Rattle.mm_object_tables.specs.declared.tables.Tables.TheInside as the_inside
use Rattle.mm_types.specs.declared.moves.LineKind.TheVariants as line_kind
use Rattle.mm_object_tables.proofs.Regional.{decommit_charge, release_charge}

-- ---- the pages of a range, one after another

-- all these pages of the process are held
abbrev pub AllHeld : Leaving → Pid → Range → Type 0
AllHeld held pid range = (page : ℕ) → holds_page range page ≡ true → held.places (place_at pid page) ≡ true

pub page_then : (u : Bool) (held : Leaving) (first i : ℕ) (s y z : StoreOf) (b c d : Behind) → PassesIn u (Turns (Ends held (page_rank first) (page_rank (first + i)))) s y b c → PassesIn u (Turns (Ends held (page_rank (first + i)) (page_rank (first + (i + 1))))) y z c d → PassesIn u (Turns (Ends held (page_rank first) (page_rank (first + (i + 1))))) s z b d
page_then u held first i s y z b c d p q = ends_then u held (page_rank first) (page_rank (first + i)) (page_rank (first + (i + 1))) s y z b c d (omega arith) (omega arith) p q

-- those of the whole range
pub range_passes : (u : Bool) (held : Leaving) (from to : ℕ) (pid : Pid) (range : Range) (n : ℕ) (s z : StoreOf) (b c : Behind) → AreAmong held from to pid range → n ≡ range.count → PassesIn u (Turns (Ends held (page_rank range.first) (page_rank (range.first + n)))) s z b c → PassesIn u (Turns (Ends held from to)) s z b c
range_passes u held from to pid range n s z b c among all p =
    ends_wider u held (page_rank range.first) (page_rank (range.first + n)) from to s z b c among.first (omega (arith, all, among.last)) p

-- and an area ends right behind them
pub range_then : (u : Bool) (held : Leaving) (from to : ℕ) (pid : Pid) (range : Range) (s y z : StoreOf) (b c d : Behind) → 1 ≤ range.count → AreAmong held from to pid range
    → ((from to : ℕ) → AreAmong held from to pid range → PassesIn u (Turns (Ends held from to)) s y b c)
    → PassesIn u (Turns (Ends held (page_rank (end_of range) - 1) to)) y z c d → PassesIn u (Turns (Ends held from to)) s z b d
range_then u held from to pid range s y z b c d some among p q =
    let rank = page_rank (end_of range) - 1 in
    let low : from ≤ rank = omega (arith, some, among.first) in
    let high : rank < to = omega (arith, some, among.last) in
    ends_meet u held from rank to s y z b c d low high
    (p from (rank + 1) (record { each = among.each; first = among.first; last = omega (arith, some) })) q

-- ---- the regions of a process, one after another

-- the page that the regions begin with
abbrev pub first_page : List (RegionOf (Unit {0})) → ℕ
first_page [] = end_of_user_pages
first_page (r ∷ rs) = r.base

laid_first : (from : ℕ) (rs : List (RegionOf (Unit {0}))) → LaidOut from rs → from ≤ first_page rs
laid_first from [] h = h
laid_first from (r ∷ rs) h = h.0.later

pub lowest_then : (u : Bool) (held : Leaving) (pid : Pid) (rs ss : List (RegionOf (Unit {0}))) (info : RegionInfo) (s y z : StoreOf) (b c d : Behind) → IsSpace rs → Some info ≡ option_map info_of (slice_get rs 0) → ss ≡ remove rs 0 → ((page : ℕ) → held.places (place_at pid page) ≡ true) → PassesIn u (Turns (Ends held (page_rank 0) (page_rank (first_page rs)))) s y b c → ((from to : ℕ) → AreAmong held from to pid info.pages → PassesIn u (Turns (Ends held from to)) y z c d) → PassesIn u (Turns (Ends held (page_rank 0) (page_rank (first_page ss)))) s z b d
lowest_then u held pid [] ss info s y z b c d space at left all p q = cc
lowest_then u held pid (r ∷ rs) ss info s y z b c d space at left all p q =
    let same : ◌≡◌ {A = RegionInfo} info (info_of r) = cc in
    let pages : info.pages ≡ pages_of r = ap (λ (i : RegionInfo). i.pages) same in
    let low : end_of (pages_of r) ≤ first_page rs = laid_first (end_of (pages_of r)) rs space.laid_out.1 in
    subst (λ (rs : List (RegionOf (Unit {0}))). PassesIn u (Turns (Ends held (page_rank 0) (page_rank (first_page rs)))) s z b d) (sym left)
    (ends_then u held (page_rank 0) (page_rank r.base) (page_rank (first_page rs)) s y z b c d (omega arith) (omega (arith, low)) p
    (q (page_rank r.base) (page_rank (first_page rs)) (subst (λ (range : Range). AreAmong held (page_rank r.base) (page_rank (first_page rs)) pid range) (sym pages) (record { each = λ page e. all page; first = omega arith; last = omega (arith, low) }))))

-- the same of the regions that a process has in tables
pub regions_then : (u : Bool) (held : Leaving) (pid : Pid) (t v : Tables) (p q : ProcessOf (Unit {0})) (info : RegionInfo) (s y z : StoreOf) (b c d : Behind) → process_of t pid.0 ≡ Some p → process_of v pid.0 ≡ Some q → IsSpace p.regions → Some info ≡ option_map info_of (slice_get p.regions 0) → Fewer p q → ((page : ℕ) → held.places (place_at pid page) ≡ true) → PassesIn u (Turns (Ends held (page_rank 0) (page_rank (first_page (regions_in t pid.0))))) s y b c → ((from to : ℕ) → AreAmong held from to pid info.pages → PassesIn u (Turns (Ends held from to)) y z c d) → PassesIn u (Turns (Ends held (page_rank 0) (page_rank (first_page (regions_in v pid.0))))) s z b d
regions_then u held pid t v p q info s y z b c d lives now space at fewer all past next =
    subst (λ (rs : List (RegionOf (Unit {0}))). PassesIn u (Turns (Ends held (page_rank 0) (page_rank (first_page rs)))) s z b d) (sym (ap regions_of now))
    (lowest_then u held pid p.regions q.regions info s y z b c d space at fewer.left all
    (subst (λ (rs : List (RegionOf (Unit {0}))). PassesIn u (Turns (Ends held (page_rank 0) (page_rank (first_page rs)))) s y b c) (ap regions_of lives) past) next)

pub regions_end : (u : Bool) (held : Leaving) (t : Tables) (pid : ℕ) (p : ProcessOf (Unit {0})) (s z : StoreOf) (b c : Behind) → process_of t pid ≡ Some p → p.regions ≡ [] → PassesIn u (Turns (Ends held (page_rank 0) (page_rank (first_page (regions_in t pid))))) s z b c → PassesIn u (Turns (Ends held (page_rank 0) (page_rank end_of_user_pages))) s z b c
regions_end u held t pid p s z b c lives none past =
    subst (λ (rs : List (RegionOf (Unit {0}))). PassesIn u (Turns (Ends held (page_rank 0) (page_rank (first_page rs)))) s z b c) (ap regions_of lives ∙ none) past

-- handles are closed, regions given up, and the process closed
pub exit_then : (u : Bool) (held : Leaving) (n : ℕ) (s x y z : StoreOf) (b c d e : Behind) → page_rank 0 ≤ n → PassesIn u (Turns (Ends held 1 (page_rank 0))) s x b c → PassesIn u (Turns (Ends held (page_rank 0) n)) x y c d → ((turn : Turn) → PassesIn u (Turns turn) y z d e) → PassesIn u (Turns (Ends held 1 n)) s z b e
exit_then u held n s x y z b c d e h p q r =
    ends_then u held 1 n n s y z b d e (omega (arith, h)) (omega arith)
    (ends_then u held 1 (page_rank 0) n s x y b c d (omega arith) h p q) (r (Ends held n n))

-- ---- the lowest region of a process

pub record HasLowest (p : ProcessOf (Unit {0})) (range : Range) (k : Kind) : Type 0 where
  pub region : RegionOf (Unit {0})
  pub at : slice_get p.regions 0 ≡ Some region
  pub pages : pages_of region ≡ range
  pub is : region.kind ≡ k

pub has_lowest : (p : ProcessOf (Unit {0})) (range : Range) (k : Kind) → option_map info_of (slice_get p.regions 0) ≡ Some (record { pages = range; kind = k }) → HasLowest p range k
has_lowest p range k e = by_region (slice_get p.regions 0) refl e
  where
    by_region : (o : Option (RegionOf (Unit {0}))) → slice_get p.regions 0 ≡ o → option_map info_of o ≡ Some (record { pages = range; kind = k }) → HasLowest p range k
    by_region None at e = cc
    by_region (Some r) at e =
        let same : ◌≡◌ {A = RegionInfo} (info_of r) (record { pages = range; kind = k }) = cc in
        record { region = r; at = at; pages = ap (λ (i : RegionInfo). i.pages) same; is = ap (λ (i : RegionInfo). i.kind) same }

lowest_passes : (test : RegionOf (Unit {0}) → Bool) (rs : List (RegionOf (Unit {0}))) (r : RegionOf (Unit {0})) → slice_get rs 0 ≡ Some r → test r ≡ true → first_where test rs ≡ Some (record { place = 0; thing = r })
lowest_passes test [] r at passes = cc
lowest_passes test (x ∷ rs) r at passes =
    let same : x ≡ r = cc in
    ap (λ b. cond b (Some (record { place = 0; thing = x })) (option_map one_later (first_where test rs))) (ap test same ∙ passes) ∙ (λ i. Some (record { place = 0; thing = same i }))

its_address : {p : ProcessOf (Unit {0})} {range : Range} {k : Kind} (lowest : HasLowest p range k) (first : ℕ) → first ≡ range.first → (address_of lowest.region.base == first * 4096) ≡ true
its_address lowest first is =
    let base : lowest.region.base ≡ first = ap (λ (range : Range). range.first) lowest.pages ∙ sym is in
    (unsigned_Decides (address_of lowest.region.base) (first * 4096)).1 (ap address_of base)

-- it is found at its address, a private one
pub private_lowest : (p : ProcessOf (Unit {0})) (range : Range) (first : ℕ) (lowest : HasLowest p range kind.Private) → first ≡ range.first → private_at p.regions (first * 4096) ≡ Some (record { place = 0; thing = lowest.region })
private_lowest p range first lowest is =
    lowest_passes (λ r. is_private r.kind && (address_of r.base == first * 4096)) p.regions lowest.region lowest.at
    (both (is_private lowest.region.kind) (address_of lowest.region.base == first * 4096) (ap is_private lowest.is) (its_address lowest first is))

-- ---- steps towards the end

pub toward_then : {pid : ℕ} {t u v : Tables} {c d e : Key → Option Page} {s z y : StoreOf} → Toward pid t u c d s z → Toward pid u v d e z y → Toward pid t v c e s y
toward_then {c = c} {d = d} {e = e} {s = s} {z = z} {y = y} a b =
    record { same = b.same ∙ a.same; fits = b.fits; less = less_then c d e a.less b.less; rest = beside_then s z y a.rest b.rest; ranks = λ rank h. b.ranks rank (a.ranks rank h) }

-- no thread comes to keep an access
pub toward_nobody : {pid : ℕ} {t u : Tables} {c d : Key → Option Page} {s z : StoreOf} → Toward pid t u c d s z → NobodyKeeps pid t → NobodyKeeps pid u
toward_nobody a nobody tid k e = nobody tid k (ap (λ (w : Tables). numbered w.kept tid) (sym a.same) ∙ e)

pub toward_same : (pid : ℕ) (t : Tables) (c : Key → Option Page) (s : StoreOf) → FitsTables t c s → Toward pid t t c c s s
toward_same pid t c s fits = record { same = refl; fits = fits; less = λ k some. refl; rest = refl; ranks = λ rank h. h }

pub toward_settled : (pid : ℕ) (t : Tables) (q : Option (ProcessOf (Unit {0}))) {v : Tables} {c d : Key → Option Page} {s z : StoreOf} → v ≡ settle (set_process t pid q) → Settled v c d s z → Less c d → ((rank : ℕ → ℕ) → IsRankFor rank pid t → IsRankFor rank pid v) → Toward pid t v c d s z
toward_settled pid t q is settled less ranks =
    record { same = ap (λ (w : Tables). settle (set_process w pid None)) is ∙ ends_same t pid q; fits = settled.fits; less = less; rest = settled.rest; ranks = ranks }

pub toward_set : (pid : ℕ) (t : Tables) (q : Option (ProcessOf (Unit {0}))) {v : Tables} {c d : Key → Option Page} {s z : StoreOf} → v ≡ set_process t pid q → Settled v c d s z → Less c d → ((rank : ℕ → ℕ) → IsRankFor rank pid t → IsRankFor rank pid v) → Toward pid t v c d s z
toward_set pid t q is settled less ranks =
    record { same = ap (λ (w : Tables). settle (set_process w pid None)) is ∙ ap (λ (ps : List (Option (ProcessOf (Unit {0})))). settle (record t { processes = ps })) (set-set t.processes pid q None); fits = settled.fits; less = less; rest = settled.rest; ranks = ranks }

-- the process after a step
pub after_settled : (t v : Tables) (pid : ℕ) (p q : ProcessOf (Unit {0})) → process_of t pid ≡ Some p → v ≡ settle (set_process t pid (Some q)) → process_of v pid ≡ Some q
after_settled t v pid p q lives is = ap (λ (w : Tables). process_of w pid) is ∙ process_same t pid p (Some q) lives

pub after_set : (t v : Tables) (pid : ℕ) (p q : ProcessOf (Unit {0})) → process_of t pid ≡ Some p → v ≡ set_process t pid (Some q) → process_of v pid ≡ Some q
after_set t v pid p q lives is = ap (λ (w : Tables). process_of w pid) is ∙ process_same t pid p (Some q) lives

-- ---- handles

held_at : (hs : Numbered ℕ) (index : ℕ) → held hs (4 * index) ≡ numbered hs index
held_at hs index =
    let whole : 4 * index % 4 ≡ 0 = omega arith in
    let part : 4 * index / 4 ≡ index = omega arith in
    ap (λ b. cond b (numbered hs (4 * index / 4)) None) ((unsigned_Decides (4 * index % 4) 0).1 whole) ∙ ap (numbered hs) part

-- what is told of the lowest handle is its place, and that it is open
pub lowest_at : (hs : Numbered ℕ) (handle : ℕ) → option_map handle_at (position (is_some {T = ℕ}) hs) ≡ Some handle → (i : ℕ) × (handle ≡ 4 * i) × (i < length hs) × (is_some (numbered hs i) ≡ true) × (i ≡ position_or_len (is_some {T = ℕ}) hs)
lowest_at hs handle told =
    let at = position_or_len (is_some {T = ℕ}) hs in
    elim (nat_lt at (length hs)) as (λ b. nat_lt at (length hs) ≡ b → option_map handle_at (cond b (Some at) None) ≡ Some handle → (i : ℕ) × (handle ≡ 4 * i) × (i < length hs) × (is_some (numbered hs i) ≡ true) × (i ≡ position_or_len (is_some {T = ℕ}) hs)) [
      | true ↦ λ e f. (
          let inside = ltb-true at (length hs) e in
          let same : 4 * at ≡ handle = cc in
          (at, sym same, inside, passes_at_first (is_some {T = ℕ}) hs None inside, refl))
      | false ↦ λ e f. cc
    ] refl told

pub no_lowest : (hs : Numbered ℕ) → option_map handle_at (position (is_some {T = ℕ}) hs) ≡ None → (k : ℕ) → numbered hs k ≡ None
no_lowest hs told k =
    let at = position_or_len (is_some {T = ℕ}) hs in
    elim (nat_lt at (length hs)) as (λ b. nat_lt at (length hs) ≡ b → option_map handle_at (cond b (Some at) None) ≡ None → numbered hs k ≡ None) [
      | true ↦ λ e f. cc
      | false ↦ λ e f. (
          let past = ltb-false at (length hs) e in
          elim (nat_lt k (length hs)) as (λ b. nat_lt k (length hs) ≡ b → numbered hs k ≡ None) [
            | true ↦ λ inside. (let lt = ltb-true k (length hs) inside in none_of (numbered hs k) (fails_before_first (is_some {T = ℕ}) hs k None (omega (arith, past, lt))))
            | false ↦ λ beyond. get_or_past hs k None (ltb-false k (length hs) beyond)
          ] refl)
    ] refl told

-- none below it is open
pub below_lowest : (hs : Numbered ℕ) (handle : ℕ) → option_map handle_at (position (is_some {T = ℕ}) hs) ≡ Some handle → (j : ℕ) → j < handle / 4 → numbered hs j ≡ None
below_lowest hs handle told j less =
    let at = lowest_at hs handle told in
    none_of (numbered hs j) (fails_before_first (is_some {T = ℕ}) hs j None (omega (arith, less, at.1, at.4)))

-- the handles below this are closed
abbrev pub NoneBelow : ℕ → ℕ → Tables → Type 0
NoneBelow k pid t = (p : ProcessOf (Unit {0})) → process_of t pid ≡ Some p → (j : ℕ) → j < k → numbered p.handles j ≡ None

-- and so are those up to the next
pub record NextClosed (pid k handle : ℕ) (v : Tables) : Type 0 where
  pub more : k ≤ handle / 4
  pub few : handle / 4 + 1 ≤ 2 ^ 30
  pub none : NoneBelow (handle / 4 + 1) pid v

pub next_closed : (t v : Tables) (pid : ℕ) (p : ProcessOf (Unit {0})) (handle k : ℕ) → process_of t pid ≡ Some p → v ≡ settle (set_process t pid (Some (closed p handle))) → option_map handle_at (position (is_some {T = ℕ}) p.handles) ≡ Some handle → handle < 2 ^ 32 → NoneBelow k pid t → NextClosed pid k handle v
next_closed t v pid p handle k lives is told small none =
    let at = lowest_at p.handles handle told in
    let part : handle / 4 ≡ at.0 = omega (arith, at.1) in
    record {
      more = elim (cases_lt at.0 k) [
        | inl less ↦ absurd (let bad : false ≡ true = sym (ap is_some (none p lives at.0 less)) ∙ at.3 in cc)
        | inr more ↦ omega (arith, part, more)
      ];
      few = omega (arith, small);
      none = λ q now j less.
          let same = same_found (process_of v pid) (closed p handle) q (after_settled t v pid p (closed p handle) lives is) now in
          subst (λ (q : ProcessOf (Unit {0})). numbered q.handles j ≡ None) same (elim (cases_lt j (handle / 4)) [
            | inl low ↦
                (let other : j ≢ handle / 4 = λ e. absurd (omega (arith, e, low)) in
                get_or-set_other p.handles (handle / 4) j None None other ∙ below_lowest p.handles handle told j low)
            | inr high ↦
                (let here : j ≡ handle / 4 = omega (arith, less, high) in
                let inside : handle / 4 < length p.handles = omega (arith, part, at.2) in
                ap (numbered (set p.handles (handle / 4) None)) here ∙ get_or-set_same p.handles (handle / 4) None None inside)
          ]);
    }

-- the section of a handle lives
at_handle : (t : Tables) (pid : ℕ) (p : ProcessOf (Unit {0})) (index : ℕ) → WellFormed t → process_of t pid ≡ Some p → is_some (numbered p.handles index) ≡ true → is_some (handle_section t p (4 * index)) ≡ true
at_handle t pid p index sound lives some =
    let n = some_found (numbered p.handles index) some in
    ap (λ (o : Option ℕ). is_some (option_and_then (λ n. option_map (λ (s : SectionOf). let f : Found SectionOf = record { place = n; thing = s } in f) (section_of t n)) o)) (held_at p.handles index ∙ n.1)
    ∙ some_map (λ (s : SectionOf). let f : Found SectionOf = record { place = n.0; thing = s } in f) (section_of t n.0)
    ∙ (sound.references.processes pid p lives).handles index n.0 n.1

pub section_there : (t : Tables) (pid : ℕ) (p : ProcessOf (Unit {0})) (handle : ℕ) → WellFormed t → process_of t pid ≡ Some p → option_map handle_at (position (is_some {T = ℕ}) p.handles) ≡ Some handle → is_some (handle_section t p handle) ≡ true
section_there t pid p handle sound lives told =
    let at = lowest_at p.handles handle told in
    ap (λ (n : ℕ). is_some (handle_section t p n)) at.1 ∙ at_handle t pid p at.0 sound lives at.3

-- one handle less is open
abbrev pub open_handles : Option (ProcessOf (Unit {0})) → ℕ
open_handles None = 0
open_handles (Some p) = count_by is_some p.handles

pub handles_fewer : (t v : Tables) (pid : ℕ) (p : ProcessOf (Unit {0})) (handle : ℕ) → process_of t pid ≡ Some p → process_of v pid ≡ Some (closed p handle) → option_map handle_at (position (is_some {T = ℕ}) p.handles) ≡ Some handle → open_handles (process_of v pid) < open_handles (process_of t pid)
handles_fewer t v pid p handle lives now told =
    let at = lowest_at p.handles handle told in
    let part : handle / 4 ≡ at.0 = omega (arith, at.1) in
    let one : (o : Option ℕ) → ℕ = λ o. cond (is_some o) 1 0 in
    let less = sum_by-set one p.handles at.0 None None at.2 in
    let set_is : count_by is_some (set p.handles (handle / 4) None) ≡ sum_by one (set p.handles at.0 None) = ap (λ (n : ℕ). sum_by one (set p.handles n None)) part in
    let counted : one (numbered p.handles at.0) ≡ 1 = ap (λ b. cond b 1 0) at.3 in
    omega (arith, less, counted, set_is, ap open_handles lives, ap open_handles now)

-- ---- regions

-- what a step is told in which the lowest region goes
pub record Dropped (pid : ℕ) (t v : Tables) (c d : Key → Option Page) (s z : StoreOf) : Type 0 where
  pub toward : Toward pid t v c d s z
  pub lives : is_some (process_of v pid) ≡ true
  pub fewer : (p q : ProcessOf (Unit {0})) → process_of t pid ≡ Some p → process_of v pid ≡ Some q → Fewer p q

pub dropped : (pid : ℕ) (t v : Tables) (p : ProcessOf (Unit {0})) (r : RegionOf (Unit {0})) {c d : Key → Option Page} {s z : StoreOf} → process_of t pid ≡ Some p → slice_get p.regions 0 ≡ Some r → process_of v pid ≡ Some (unmapped p 0) → Toward pid t v c d s z → Dropped pid t v c d s z
dropped pid t v p r lives at now toward =
    let fewer : Fewer p (unmapped p 0) = record { left = refl; count = length-remove p.regions 0 (get_within p.regions 0 r at); same = refl } in
    record {
      toward = toward;
      lives = ap is_some now;
      fewer = λ o q was is. subst (λ (o : ProcessOf (Unit {0})). Fewer o q) (same_found (process_of t pid) p o lives was) (subst (Fewer p) (same_found (process_of v pid) (unmapped p 0) q now is) fewer);
    }

-- the lowest region, a view, is found at its address
pub view_lowest : (p : ProcessOf (Unit {0})) (range : Range) (view : View) (first : ℕ) (lowest : HasLowest p range (kind.View view)) → first ≡ range.first → view_at p.regions (first * 4096) ≡ Some (record { place = 0; thing = lowest.region })
view_lowest p range view first lowest is =
    lowest_passes (λ r. not (is_private r.kind) && (address_of r.base == first * 4096)) p.regions lowest.region lowest.at
    (both (not (is_private lowest.region.kind)) (address_of lowest.region.base == first * 4096) (ap (λ (k : Kind). not (is_private k)) lowest.is) (its_address lowest first is))

pub no_region : (rs : List (RegionOf (Unit {0}))) → option_map info_of (slice_get rs 0) ≡ None → rs ≡ []
no_region [] e = refl
no_region (r ∷ rs) e = cc

-- ---- the end

no_handle : (hs : Numbered ℕ) (n : ℕ) → ((k : ℕ) → numbered hs k ≡ None) → count_by (is_handle_to n) hs ≡ 0
no_handle [] n none = refl
no_handle (x ∷ hs) n none =
    omega (arith, sum_by-cons (λ o. cond (is_handle_to n o) 1 0) x hs, ap {B = ℕ} (λ o. cond (is_handle_to n o) 1 0) (none 0), no_handle hs n (λ k. none (suc k)))

module _ (t : Tables) (pid : ℕ) (p : ProcessOf (Unit {0})) (lives : process_of t pid ≡ Some p) (none : HasNoHandle p) (empty : p.regions ≡ []) (nobody : NobodyKeeps pid t) where
  handles_none : (n : ℕ) → handles_to (set_process t pid None) n ≡ handles_to t n
  handles_none n = omega (arith, handles_put t pid n p None lives, no_handle p.handles n none)

  views_none : (n : ℕ) → views_of (set_process t pid None) n ≡ views_of t n
  views_none n =
      omega (arith, views_put t pid n p None lives, ap (λ (rs : List (RegionOf (Unit {0}))). count_by (λ (r : RegionOf (Unit {0})). is_view_of n r.kind) rs) empty)

  charge_none : charge (set_process t pid None) ≡ charge t
  charge_none = omega (arith, charge-set_process t pid p None lives, ap (λ (rs : List (RegionOf (Unit {0}))). sum_by region_charge rs) empty)

  settled_none : IsTidy t → settle (set_process t pid None) ≡ set_process t pid None
  settled_none tidy =
      let now = set_process t pid None in
      settle_same t now.processes tidy.settled (λ n. (
        holds_count now n ∙ ap (nat_lt 0) (handles_none n) ∙ sym (holds_count t n),
        views_count now n ∙ ap (nat_lt 0) (views_none n) ∙ sym (views_count t n),
      ))

  sound_none : IsTidy t → WellFormed t → WellFormed (set_process t pid None)
  sound_none tidy sound = sound_edit t (set_process t pid None) (ProcessGoes pid p lives (λ x here. refl) tt) (omega (arith, charge_none, sound.charged)) sound

  kept_none : (entries : Numbered CountedSection) (commit : CommitOf) → AreKeptTables t entries commit → AreKeptTables (set_process t pid None) entries commit
  kept_none entries commit kept =
      record {
        sound = sound_none kept.tidy kept.sound;
        tidy = subst (λ (w : Tables). IsTidy w) (settled_none kept.tidy) (tidy_settled t (set_process t pid None).processes kept.tidy (keepers_less t pid nobody kept.tidy.keepers));
        counted = λ n c e. let was = kept.counted n c e in record { handles = was.handles ∙ sym (handles_none n); views = was.views ∙ sym (views_none n) };
        charged = kept.charged ∙ sym charge_none;
        limited = kept.limited;
      }

  fits_none : (c : Key → Option Page) (s : StoreOf) → FitsTables t c s → FitsTables (set_process t pid None) c (record s { is_open = changed ◌==◌ s.is_open pid false })
  fits_none c s f =
      nothing_lost t pid p None lives (sym empty) charge_none (omega (arith, paging-set_process t pid p None lives, ap (λ (rs : List (RegionOf (Unit {0}))). sum_by (λ (r : RegionOf (Unit {0})). count_by (λ row. is_some row.own) r.rows) rs) empty)) c s (record s { is_open = changed ◌==◌ s.is_open pid false }) refl (λ n.
      ap (cond (n == pid) false) (f.opened n)
      ∙ at_each t pid p None lives (λ n o x. cond (n == pid) false (is_some o) ≡ is_some x) (ap (λ b. cond b false true) ((unsigned_Decides pid pid).1 refl))
      (λ n o other. ap (λ b. cond b false (is_some o)) (not_true (n == pid) (λ e. other ((unsigned_Decides n pid).0 e)))) n)
      refl refl refl f

  pub process_landed : {made : Tables} {entries : Numbered CountedSection} {commit : CommitOf} {c d : Key → Option Page} {s z : StoreOf} → made ≡ set_process t pid None → AreKeptTables t entries commit → FitsTables t c s → d ≡ c → z ≡ record s { is_open = changed ◌==◌ s.is_open pid false } → Landed (settle (set_process t pid None)) made entries commit c d s z
  process_landed {made} {entries} {commit} {c} {d} {s} {z} is kept f same after =
      let still = sym (settled_none kept.tidy) in
      let now : FitsTables (set_process t pid None) d z =
      subst (λ (z : StoreOf). FitsTables (set_process t pid None) d z) (sym after) (subst (λ (x : Key → Option Page). FitsTables (set_process t pid None) x (record s { is_open = changed ◌==◌ s.is_open pid false })) (sym same) (fits_none c s f)) in
      landed_by (settle (set_process t pid None)) made entries commit c d s z (is ∙ still) (subst (λ (w : Tables). AreKeptTables w entries commit) still (kept_none entries commit kept))
      (subst (λ (w : Tables). FitsTables w d z) still now) (λ key some. ap (λ (x : Key → Option Page). x key) same) (after ∙ ap (store_beside s) (sym after))

laid_low : (from : ℕ) (rs : List (RegionOf (Unit {0}))) → LaidOut from rs → from ≤ end_of_user_pages
laid_low from [] h = h
laid_low from (r ∷ rs) h = omega (arith, h.0.later, laid_low (end_of (pages_of r)) rs h.1)

pub lowest_within : (rs : List (RegionOf (Unit {0}))) (result : Option RegionInfo) → IsSpace rs → result ≡ option_map info_of (slice_get rs 0) → IfSome result (λ info. end_of info.pages ≤ end_of_user_pages)
lowest_within rs result space e = subst (λ (o : Option RegionInfo). IfSome o (λ info. end_of info.pages ≤ end_of_user_pages)) (sym e) (by_region rs space)
  where
    by_region : (rs : List (RegionOf (Unit {0}))) → IsSpace rs → IfSome (option_map info_of (slice_get rs 0)) (λ info. end_of info.pages ≤ end_of_user_pages)
    by_region [] space = tt
    by_region (r ∷ rs) space = laid_low (end_of (pages_of r)) rs space.laid_out.1

pub view_info : (p : ProcessOf (Unit {0})) (range : Range) (view : View) (first : ℕ) (lowest : HasLowest p range (kind.View view)) → first ≡ range.first → option_map found_info (view_at p.regions (first * 4096)) ≡ Some (record { pages = range; kind = kind.View view })
view_info p range view first lowest is = ap (option_map found_info) (view_lowest p range view first lowest is) ∙ (λ i. Some (record { pages = lowest.pages i; kind = lowest.is i }))

-- a process has fewer regions, in tables too
pub regions_fewer : (t v : Tables) (pid : ℕ) (p q : ProcessOf (Unit {0})) → process_of t pid ≡ Some p → process_of v pid ≡ Some q → Fewer p q → length (regions_in v pid) < length (regions_in t pid)
regions_fewer t v pid p q lives now fewer =
    omega (arith, ap (λ (o : Option (ProcessOf (Unit {0}))). length (regions_of o)) lives, ap (λ (o : Option (ProcessOf (Unit {0}))). length (regions_of o)) now, fewer.count)

-- ---- pages of a region are given up in runs: where none has a key at once, else by halves

-- how many pages of a range have a key by their regions
abbrev owned : List (RegionOf (Unit {0})) → Range → ℕ
owned rs range = owned_among (is_owned_at rs range.first) range.count

-- ---- no page has a key

none_owned : (f : ℕ → Bool) (n : ℕ) → owned_among f n ≡ 0 → (i : ℕ) → i < n → f i ≡ false
none_owned f zero e i few = absurd (omega (arith, few))
none_owned f (suc n) e i few =
    elim (same_or_not i n) [
      | inl same ↦ ap f same ∙ not_true (f n) (λ t. omega (arith, e, ap {B = ℕ} (λ b. cond b 1 0) t))
      | inr other ↦ none_owned f n (omega (arith, e)) i (omega (arith, few, other))
    ]

-- a function that has this value at the keys of the range already
keys_stay : {V : Type 0} (pid : Pid) (range : Range) (f : Key → V) (x : V) → ((i : ℕ) → i < range.count → f (own_at pid range.first i) ≡ x) → (k : Key) → f k ≡ cond (is_key_in pid range k) x (f k)
keys_stay pid range f x h (key.Shared area index) = refl
keys_stay pid range f x h (key.Private p v) = by_test ((p.0 == pid.0) && holds_page range v.0) refl
  where
    by_test : (b : Bool) → ((p.0 == pid.0) && holds_page range v.0) ≡ b → f (key.Private p v) ≡ cond b x (f (key.Private p v))
    by_test false e = refl
    by_test true e =
        let both = and-true (p.0 == pid.0) (holds_page range v.0) e in
        let w = within range v.0 both.1 in
        let same : p.0 ≡ pid.0 = (unsigned_Decides p.0 pid.0).0 both.0 in
        let at : v.0 ≡ range.first + (v.0 - range.first) = omega (arith, w.low) in
        (λ i. f (key.Private (record { 0 = same i }) (record { 0 = at i }))) ∙ h (v.0 - range.first) (omega (arith, w.low, w.high))

module _ {goes : Bool} (pid : Pid) (range : Range) (rs : List (RegionOf (Unit {0}))) {c : Key → Option Page} {s : StoreOf} (can : CanRelease goes pid range rs c s) (none : owned_among (is_owned_at rs range.first) range.count ≡ 0) where
  dead : (i : ℕ) → i < range.count → is_owned_at rs range.first i ≡ false
  dead = none_owned (is_owned_at rs range.first) range.count none

  contents_stay : c ≡ without_keys (is_key_in pid range) c
  contents_stay = fun_ext (keys_stay pid range c None (λ i few. none_of (c (own_at pid range.first i)) (can.live i few ∙ dead i few)))

  paging_stays : s.paging ≡ without_paging (is_key_in pid range) s.paging
  paging_stays = fun_ext (keys_stay pid range s.paging false (λ j few. can.paging j few ∙ dead j few))

  count : s.paging_keys ≡ s.paging_keys - owned rs range
  count = omega (arith, none)

  pub given_at_once : {d : Key → Option Page} {z : StoreOf} → d ≡ c → z ≡ record s { bound = changed_in pid range s.bound false; names = changed_in pid range s.names None; report = rearranged s.report z.report } → GivenUp true pid range (owned_among (is_owned_at rs range.first) range.count) c d s z
  given_at_once {z = z} same after =
      record {
        contents = same ∙ contents_stay;
        store = after ∙ (λ i. record s { bound = changed_in pid range s.bound false; names = changed_in pid range s.names None; paging = paging_stays i; paging_keys = count i; report = rearranged s.report z.report });
      }

  pub given_nothing : goes ≡ false → GivenUp false pid range (owned_among (is_owned_at rs range.first) range.count) c c s s
  given_nothing stays =
      record {
        contents = contents_stay;
        store = λ i. record s {
          names = fun_ext (λ q. keys_stay pid range (by_key s.names) None (λ j few. can.named stays j few (dead j few)) (own_key q)) i;
          paging = paging_stays i;
          paging_keys = count i;
          report = rearranged s.report s.report;
        };
      }

  pub dead_at_once : (page : ℕ) → range.first ≤ page → page < range.first + range.count → c (own pid page) ≡ None
  dead_at_once page low high =
      let at : range.first + (page - range.first) ≡ page = omega (arith, low) in
      let few : page - range.first < range.count = omega (arith, low, high) in
      none_of (c (own pid page)) (ap (λ (page : ℕ). is_some (c (own pid page))) (sym at) ∙ can.live (page - range.first) few ∙ dead (page - range.first) few)

-- ---- parts of a range

pub around_part : (rs : List (RegionOf (Unit {0}))) {range part : Range} → is_some (region_around rs range) ≡ true → Inside part range → is_some (region_around rs part) ≡ true
around_part rs {range = range} {part = part} there inner =
    let r = some_found (region_around rs range) there in
    let a = around rs range r.0 r.1 in
    found_there (λ (r : RegionOf (Unit {0})). lies_within part (pages_of r)) rs r.0.place r.0.thing a.at
    (both (nat_le r.0.thing.base part.first) (nat_le (end_of part) (end_of (pages_of r.0.thing)))
    (le-leb _ _ (omega (arith, a.inside.low, inner.low))) (le-leb _ _ (omega (arith, a.inside.high, inner.high))))

pub can_part : {goes : Bool} {pid : Pid} {range part : Range} {rs : List (RegionOf (Unit {0}))} {c : Key → Option Page} {s : StoreOf} → CanRelease goes pid range rs c s → Inside part range → CanRelease goes pid part rs c s
can_part {pid = pid} {range = range} {part = part} {rs = rs} {c = c} {s = s} can inner =
    record {
      live = λ i few. subst (λ (page : ℕ). is_some (c (own pid page)) ≡ is_some (own_page rs page)) (at i) (can.live (part.first - range.first + i) (small i few));
      paging = λ i few. subst (λ (page : ℕ). s.paging (own pid page) ≡ is_some (own_page rs page)) (at i) (can.paging (part.first - range.first + i) (small i few));
      bound = λ too page e. can.bound too page (holds_too part range page inner e);
      named = λ stays i few. subst (λ (page : ℕ). is_some (own_page rs page) ≡ false → s.names (place_at pid page) ≡ None) (at i) (can.named stays (part.first - range.first + i) (small i few));
      unbinding = can.unbinding;
    }
  where
    at : (i : ℕ) → range.first + (part.first - range.first + i) ≡ part.first + i
    at i = omega (arith, inner.low)

    small : (i : ℕ) → i < part.count → part.first - range.first + i < range.count
    small i few = omega (arith, inner.low, inner.high, few)

-- a page behind the range is none of its pages
out_of : (pid : Pid) (first : Range) (page : ℕ) → end_of first ≤ page → is_key_in pid first (own pid page) ≡ false
out_of pid first page from = ap (λ b. (pid.0 == pid.0) && b) (holds_not first page (λ w. absurd (omega (arith, w.high, from)))) ∙ and_false (pid.0 == pid.0)

-- the part behind one that was given up
pub can_after : {goes : Bool} {pid : Pid} {first second : Range} {n : ℕ} {rs : List (RegionOf (Unit {0}))} {c d : Key → Option Page} {s z : StoreOf} → end_of first ≤ second.first → CanRelease goes pid second rs c s → GivenUp goes pid first n c d s z → CanRelease goes pid second rs d z
can_after {goes = goes} {pid = pid} {first = first} {second = second} {c = c} {s = s} behind can a =
    record {
      live = λ i few. ap (λ (f : Key → Option Page). is_some (f (own_at pid second.first i))) a.contents ∙ ap (λ b. is_some (cond b None (c (own_at pid second.first i)))) (key i) ∙ can.live i few;
      paging = λ i few. ap (λ (x : StoreOf). x.paging (own_at pid second.first i)) a.store ∙ ap (λ b. cond b false (s.paging (own_at pid second.first i))) (key i) ∙ can.paging i few;
      bound = λ too page e.
          ap (λ (x : StoreOf). x.bound (place_at pid page)) a.store
          ∙ bound_out goes pid first s.bound (place_at pid page) (out_of pid first page (let w = within second page e in omega (arith, w.low, behind))) ∙ can.bound too page e;
      named = λ stays i few dead.
          ap (λ (x : StoreOf). x.names (place_at pid (second.first + i))) a.store ∙ ap (λ b. cond b None (s.names (place_at pid (second.first + i)))) (key i) ∙ can.named stays i few dead;
      unbinding = ap (λ (x : StoreOf). x.kind) a.store ∙ can.unbinding;
    }
  where
    key : (i : ℕ) → is_key_in pid first (own_at pid second.first i) ≡ false
    key i = out_of pid first (second.first + i) (omega (arith, behind))

-- ---- how many pages have a key

pub owned_is : (rs : List (RegionOf (Unit {0}))) (range : Range) → IsSpace rs → is_some (region_around rs range) ≡ true → owned_in rs range ≡ owned_among (is_owned_at rs range.first) range.count
owned_is rs range space there =
    let r = some_found (region_around rs range) there in
    let a = around rs range r.0 r.1 in
    a.owned ∙ sym (passing_owned first_user_page r.0.place rs r.0.thing range range.count space.laid_out a.at a.inside (omega arith))
    ∙ sym (owned_passing (λ page. is_some (own_page rs page)) range.first range.count)

owned_split : (f : ℕ → Bool) (a b : ℕ) → owned_among f (a + b) ≡ owned_among f a + owned_among (λ i. f (a + i)) b
owned_split f a zero = let same : a + 0 ≡ a = omega arith in ap (owned_among f) same ∙ (let same : owned_among f a ≡ owned_among f a + 0 = omega arith in same)
owned_split f a (suc b) =
    let same : a + suc b ≡ suc (a + b) = omega arith in
    ap (owned_among f) same ∙ (let sum : owned_among f (suc (a + b)) ≡ owned_among f a + owned_among (λ i. f (a + i)) (suc b) = omega (arith, owned_split f a b) in sum)

-- ---- one half and then the other

pub record Halves (range low high : Range) : Type 0 where
  pub first : low.first ≡ range.first
  pub second : high.first ≡ range.first + low.count
  pub count : low.count + high.count ≡ range.count

pub halves : (range low high : Range) → low ≡ low_half range → high ≡ high_half range → Halves range low high
halves range low high l h =
    let first = ap (λ (r : Range). r.first) l in
    let few = ap (λ (r : Range). r.count) l in
    let second = ap (λ (r : Range). r.first) h in
    let rest = ap (λ (r : Range). r.count) h in
    record { first = first; second = omega (arith, second, few); count = omega (arith, few, rest) }

module _ {range low high : Range} (h : Halves range low high) where
  pub low_in : Inside low range
  low_in = record { low = omega (arith, h.first); high = omega (arith, h.first, h.count) }

  pub high_in : Inside high range
  high_in = record { low = omega (arith, h.second); high = omega (arith, h.second, h.count) }

  -- the second is behind the first
  pub apart : end_of low ≤ high.first
  apart = omega (arith, h.first, h.second)

  owned_halves : (rs : List (RegionOf (Unit {0}))) → owned rs range ≡ owned rs low + owned rs high
  owned_halves rs =
      let f = is_owned_at rs range.first in
      let whole : owned rs range ≡ owned_among f (low.count + high.count) = ap (owned_among f) (sym h.count) in
      let front : owned_among f low.count ≡ owned rs low = ap (λ (n : ℕ). owned_among (is_owned_at rs n) low.count) (sym h.first) in
      let behind : owned_among (λ i. f (low.count + i)) high.count ≡ owned rs high =
      owned_same (λ i. f (low.count + i)) (is_owned_at rs high.first) high.count (λ i few. ap (λ (page : ℕ). is_some (own_page rs page)) (let same : range.first + (low.count + i) ≡ high.first + i = omega (arith, h.second) in same)) in
      omega (arith, whole, front, behind, owned_split f low.count high.count)

  pub counted : (rs : List (RegionOf (Unit {0}))) → IsSpace rs → is_some (region_around rs range) ≡ true → owned_in rs range ≡ owned_in rs low + owned_in rs high
  counted rs space there =
      let a = owned_is rs range space there in
      let b = owned_is rs low space (around_part rs there low_in) in
      let c = owned_is rs high space (around_part rs there high_in) in
      omega (arith, a, b, c, owned_halves rs)

  holds_halves : (v : ℕ) → holds_page range v ≡ (holds_page high v || holds_page low v)
  holds_halves v =
      same_tests _ _
      (λ e. let w = within range v e in by_side w.low w.high (nat_le high.first v) refl)
      (λ e. by_either (holds_page high v) (holds_page low v) e (holds_page range v ≡ true) (holds_too high range v high_in) (holds_too low range v low_in))
    where
      by_side : range.first ≤ v → v < end_of range → (b : Bool) → nat_le high.first v ≡ b → (holds_page high v || holds_page low v) ≡ true
      by_side from to true e = or_left (holds_page high v) (holds_page low v) (holds high v (leb-true _ _ e) (omega (arith, to, h.second, h.count)))
      by_side from to false e = or_right (holds_page high v) (holds_page low v) (holds low v (omega (arith, from, h.first)) (omega (arith, leb-false _ _ e, h.first, h.second)))

  key_halves : (pid : Pid) (k : Key) → is_key_in pid range k ≡ (is_key_in pid high k || is_key_in pid low k)
  key_halves pid (key.Private p v) = ap (λ b. (p.0 == pid.0) && b) (holds_halves v.0) ∙ spread (p.0 == pid.0) (holds_page high v.0) (holds_page low v.0)
  key_halves pid (key.Shared area index) = refl

  pub given_halves : (goes : Bool) {pid : Pid} {c d e : Key → Option Page} {s z y : StoreOf} (rs : List (RegionOf (Unit {0}))) → GivenUp goes pid low (owned_among (is_owned_at rs low.first) low.count) c d s z → GivenUp goes pid high (owned_among (is_owned_at rs high.first) high.count) d e z y → GivenUp goes pid range (owned_among (is_owned_at rs range.first) range.count) c e s y
  given_halves goes {pid = pid} rs a b = given_two goes (key_halves pid) (sym (owned_halves rs)) a b

  pub halves_pass : (u : Bool) (held : Leaving) (from to : ℕ) (pid : Pid) (s y z : StoreOf) (b c d : Behind) → AreAmong held from to pid range
      → ((held : Leaving) (from to : ℕ) → AreAmong held from to pid low → PassesIn u (Turns (Ends held from to)) s y b c)
      → ((held : Leaving) (from to : ℕ) → AreAmong held from to pid high → PassesIn u (Turns (Ends held from to)) y z c d)
      → PassesIn u (Turns (Ends held from to)) s z b d
  halves_pass u held from to pid s y z b c d among p q =
      let mid = page_rank high.first in
      ends_then u held from mid to s y z b c d (omega (arith, among.first, h.second)) (omega (arith, among.last, h.second, h.count))
      (p held from mid (record { each = λ page e. among.each page (holds_too low range page low_in e); first = omega (arith, among.first, h.first); last = omega (arith, apart) }))
      (q held mid to (record { each = λ page e. among.each page (holds_too high range page high_in e); first = omega arith; last = omega (arith, among.last, h.second, h.count) }))

-- ---- places without a committed row, and pages of a private region that are decommitted or released

-- a place in no region
unreserved : (t : Tables) (place : Place) → is_reserved t place ≡ false → is_uncommitted t place ≡ true
unreserved t place e =
    ap (λ (o : Option Key). not (is_some o)) (key_is t place
    ∙ ap (option_and_then (λ (r : Found (RegionOf (Unit {0}))). region_key t place.pid.0 place.vpn.0 r.thing)) (none_of (region_with (regions_in t place.pid.0) place.vpn.0) (sym (reserved_is t place) ∙ e)))

-- a place of a process that does not live
pub ended : (t : Tables) (pid : Pid) (page : ℕ) → process_of t pid.0 ≡ None → is_uncommitted t (place_at pid page) ≡ true
ended t pid page e = ap (λ (o : Option (ProcessOf (Unit {0}))). not (is_some (option_and_then (λ (p : ProcessOf (Unit {0})). option_map (λ (c : Committed (Unit {0})). key_of pid.0 page c.home) (committed_at t p.regions page)) o))) e

pub all_ended : (t v : Tables) (pid : Pid) (p : ProcessOf (Unit {0})) → process_of t pid.0 ≡ Some p → v ≡ settle (set_process t pid.0 None) → (page : ℕ) → is_uncommitted v (place_at pid page) ≡ true
all_ended t v pid p lives is page = ended v pid page (ap (λ (w : Tables). process_of w pid.0) is ∙ process_same t pid.0 p None lives)

-- a place of the process itself
pub its_own : (pid : Pid) (places : Place → Bool) (page : ℕ) → places (place_at pid page) ≡ true → ((pid.0 == pid.0) && places (place_at pid page)) ≡ true
its_own pid places page e = both (pid.0 == pid.0) (places (place_at pid page)) ((unsigned_Decides pid.0 pid.0).1 refl) e

-- places that are bound no more
pub among_unbound : (o t : Tables) (c : Key → Option Page) (z : StoreOf) (pid : Pid) (range : Range) → FitsTables t c z → AreUnbound pid range z → AreAmong (leaving o pid.0 (is_uncommitted t)) 1 (page_rank end_of_user_pages) pid range
among_unbound o t c z pid range fits unbound =
    record {
      each = λ page e. its_own pid (is_uncommitted t) page (unreserved t (place_at pid page) (sym (fits.bound (place_at pid page)) ∙ unbound.each page e));
      first = omega arith;
      last = omega (arith, unbound.end);
    }

pub given_unbound : {pid : Pid} {range : Range} {n : ℕ} {c d : Key → Option Page} {s z : StoreOf} → end_of range ≤ end_of_user_pages → GivenUp true pid range n c d s z → AreUnbound pid range z
given_unbound {pid} {range} {s = s} end a =
    record { each = λ page e. ap (λ (x : StoreOf). x.bound (place_at pid page)) a.store ∙ ap (λ b. cond b false (s.bound (place_at pid page))) (here pid range page e); end = end }

-- ---- pages of a private region are given up, `n` of them with bytes: what the call's next steps are told, and what they come to

pub record Freed (i : the_inside.Inside) (t : Tables) (pid : Pid) (p : ProcessOf (Unit {0})) (space : RegionsOf) (ss : List (RegionOf (Unit {0}))) (n : ℕ) (c d : Key → Option Page) (s z : StoreOf) : Type 0 where
  pub total : ℕ
  pub done : Done t pid p ss total c d s z
  pub became : space.regions ≡ ss
  pub counted : n + total ≡ charge t

module _ {i : the_inside.Inside} {t : Tables} {o : Option Process} {rs ss : List (RegionOf (Unit {0}))} {space : RegionsOf} {n : ℕ} {c d : Key → Option Page} {s z : StoreOf} (pid : Pid) (h : Held i t pid.0 o rs) (f : Freed i t pid h.process space ss n c d s z) where
  pub freed_charged : n ≤ i.commit.charge
  freed_charged = omega (arith, f.counted, h.kept.charged)

  pub freed_kept : (commit : CommitOf) → commit ≡ record i.commit { charge = i.commit.charge - n } → AreKeptTables (shown_with i (set i.processes.items (pid.0 - 1) (with_space o space))) i.directory.entries commit
  freed_kept commit refunded =
      still_kept h space ss commit f.total f.became f.done.stands f.done.charged (omega (arith, f.counted, h.kept.sound.charged))
      (omega (arith, ap (λ (k : CommitOf). k.charge) refunded, h.kept.charged, f.counted)) (ap (λ (k : CommitOf). k.limit) refunded)

  pub freed_is : shown_with i (set i.processes.items (pid.0 - 1) (with_space o space)) ≡ set_regions t pid.0 h.process ss
  freed_is = h.changed space h.process ss f.became h.lives

  pub freed_settled : Settled (shown_with i (set i.processes.items (pid.0 - 1) (with_space o space))) c d s z
  freed_settled = settled_as freed_is f.done.settled

-- by whatever names the process and its region have
pub freed_named : {i : the_inside.Inside} {t : Tables} {pid : ℕ} {o : Option Process} {rs : List (RegionOf (Unit {0}))} (h : Held i t pid o rs) (space : RegionsOf) (pick : List (RegionOf (Unit {0})) → Option (Found (RegionOf (Unit {0})))) (put : List (RegionOf (Unit {0})) → Found (RegionOf (Unit {0})) → List (RegionOf (Unit {0})))
    → ((r : Found (RegionOf (Unit {0}))) → pick rs ≡ Some r → space.regions ≡ put rs r) → (q : ProcessOf (Unit {0})) (r : Found (RegionOf (Unit {0}))) → process_of t pid ≡ Some q → pick q.regions ≡ Some r → shown_with i (set i.processes.items (pid - 1) (with_space o space)) ≡ set_regions t pid q (put q.regions r)
freed_named h space pick put changed q r lives found =
    let regions = regions_by h q lives in
    h.changed space q (put q.regions r) (changed r (ap pick regions ∙ found) ∙ ap (λ rs. put rs r) regions) lives

-- ---- pages of a private region are decommitted

module _ {i : the_inside.Inside} {t : Tables} {o : Option Process} {rs : List (RegionOf (Unit {0}))} (pid : Pid) (h : Held i t pid.0 o rs) (range : Range) (inside : (p : ProcessOf (Unit {0})) → process_of t pid.0 ≡ Some p → is_some (region_around p.regions range) ≡ true) (private : (p : ProcessOf (Unit {0})) (r : Found (RegionOf (Unit {0}))) → process_of t pid.0 ≡ Some p → region_around p.regions range ≡ Some r → is_private r.thing.kind ≡ true) {c : Key → Option Page} {s : StoreOf} (fits : FitsTables t c s) where
  pub found : (f : Found (RegionOf (Unit {0}))) × (region_around h.process.regions range ≡ Some f)
  found = some_found (region_around h.process.regions range) (inside h.process h.lives)

  placed : IsAround h.process.regions range found.0
  placed = around h.process.regions range found.0 found.1

  of_own : is_private found.0.thing.kind ≡ true
  of_own = private h.process found.0 h.lives found.1

  abbrev pub emptied_rows : List (RegionOf (Unit {0}))
  emptied_rows = set h.process.regions found.0.place (change_rows (λ row. reserved_row) range found.0.thing)

  pub decommit_end : end_of range ≤ end_of_user_pages
  decommit_end = ends t pid h.process c s h.lives h.kept.sound fits found.0.place found.0.thing range placed.at placed.inside

  pub decommit_can : s.kind ≡ line_kind.Unbind pid → CanRelease false pid range rs c s
  decommit_can unbinding =
      subst (λ rs. CanRelease false pid range rs c s) (sym h.same) (can_release t pid h.process c s h.lives h.kept.sound fits found.0.place found.0.thing range placed.at placed.inside false (λ stays. of_own) unbinding)

  pub decommitted : {n : ℕ} {space : RegionsOf} {d : Key → Option Page} {z : StoreOf} → n ≡ owned_in rs range
      → ((r : Found (RegionOf (Unit {0}))) → region_around rs range ≡ Some r → space.regions ≡ set rs r.place (change_rows (λ row. reserved_row) range r.thing))
      → GivenUp false pid range (passing (is_page_live pid c) range.first range.count) c d s z → Freed i t pid h.process space emptied_rows n c d s z
  decommitted {n} {space} {d} {z} owned changed a =
      let few = decommit_charge t pid.0 h.process found.0.place found.0.thing range h.lives h.kept.sound placed.at placed.inside of_own in
      let some = owned ∙ ap (λ rs. owned_in rs range) h.same ∙ placed.owned in
      record {
        total = charge t - count_by has_own (in_range range found.0.thing);
        done = decommit_done t pid h.process range c d s z h.lives h.kept.sound fits found.0.place found.0.thing placed.at placed.inside of_own a;
        became = changed found.0 (ap (λ rs. region_around rs range) h.same ∙ found.1) ∙ ap (λ rs. set rs found.0.place (change_rows (λ row. reserved_row) range found.0.thing)) h.same;
        counted = omega (arith, some, few);
      }

  pub decommit_among : {n m : ℕ} {space : RegionsOf} {d : Key → Option Page} {z : StoreOf} → Freed i t pid h.process space emptied_rows n c d s z → GivenUp false pid range m c d s z → AreAmong (leaving t pid.0 (is_uncommitted (shown_with i (set i.processes.items (pid.0 - 1) (with_space o space))))) 1 (page_rank end_of_user_pages) pid range
  decommit_among {n} {space = space} {d = d} {z = z} f a =
      let row = change_rows (λ row. reserved_row) range found.0.thing in
      let q : ProcessOf (Unit {0}) = record h.process { regions = emptied_rows } in
      let u = set_regions t pid.0 h.process emptied_rows in
      let now : process_of u pid.0 ≡ Some q = process_same t pid.0 h.process (Some q) h.lives in
      let sound : WellFormed u = sound_after t pid.0 h.process emptied_rows h.lives f.done.stands h.kept.sound (omega (arith, f.done.charged, f.counted, h.kept.sound.charged)) in
      let there : slice_get emptied_rows found.0.place ≡ Some row = get_set_same h.process.regions found.0.place row (get_within h.process.regions found.0.place found.0.thing placed.at) in
      let same = same_pages (λ row. reserved_row) range found.0.thing in
      let low : row.base ≤ range.first = placed.inside.low in
      let within : Inside range (pages_of row) = record { low = low; high = omega (arith, placed.inside.high, same.rows) } in
      subst (λ (w : Tables). AreAmong (leaving t pid.0 (is_uncommitted w)) 1 (page_rank end_of_user_pages) pid range) (sym (freed_is pid h f)) (record {
        each = λ page e. its_own pid (is_uncommitted u) page
            (ap (λ (o : Option Key). not (is_some o))
            (uncommitted_is u pid q d z now sound f.done.settled.fits found.0.place row range there within of_own page e
            (ap (λ (f : Key → Option Page). is_page_live pid f page) a.contents ∙ ap (λ b. is_some (cond b None (c (own pid page)))) (here pid range page e))));
        first = omega arith;
        last = omega (arith, ends u pid q d z now sound f.done.settled.fits found.0.place row range there within);
      })

-- ---- a private region is released

module _ {i : the_inside.Inside} {t : Tables} {o : Option Process} {rs : List (RegionOf (Unit {0}))} (pid : Pid) (h : Held i t pid.0 o rs) (addr : ℕ) (range : Range) (there : (p : ProcessOf (Unit {0})) → process_of t pid.0 ≡ Some p → option_map (λ (r : Found (RegionOf (Unit {0}))). pages_of r.thing) (private_at p.regions addr) ≡ Some range) {c : Key → Option Page} {s : StoreOf} (fits : FitsTables t c s) where
  pub begun : (f : Found (RegionOf (Unit {0}))) × ((private_at h.process.regions addr ≡ Some f) × (pages_of f.thing ≡ range))
  begun = pages_found (private_at h.process.regions addr) range (there h.process h.lives)

  starts : Begins h.process.regions begun.0
  starts = begins h.process.regions addr begun.0 begun.1.0

  whole : Inside range (pages_of begun.0.thing)
  whole = whole_inside begun.0.thing range begun.1.1

  abbrev pub without_it : List (RegionOf (Unit {0}))
  without_it = remove h.process.regions begun.0.place

  pub release_end : end_of range ≤ end_of_user_pages
  release_end = ends t pid h.process c s h.lives h.kept.sound fits begun.0.place begun.0.thing range starts.at whole

  pub release_inside : is_some (region_around rs range) ≡ true
  release_inside =
      ap (λ rs. is_some (region_around rs range)) h.same
      ∙ is_around t pid.0 h.process begun.0.place begun.0.thing range h.lives h.kept.sound starts.at whole (some_pages t pid.0 h.process begun.0.place begun.0.thing range h.lives h.kept.sound starts.at begun.1.1)

  pub release_there : is_some (private_at rs addr) ≡ true
  release_there = ap (λ rs. is_some (private_at rs addr)) h.same ∙ ap is_some begun.1.0

  pub release_can : s.kind ≡ line_kind.Unbind pid → CanRelease true pid range rs c s
  release_can unbinding =
      subst (λ rs. CanRelease true pid range rs c s) (sym h.same) (can_release t pid h.process c s h.lives h.kept.sound fits begun.0.place begun.0.thing range starts.at whole true (λ stays. starts.private) unbinding)

  pub release_freed : {n : ℕ} {space : RegionsOf} {d : Key → Option Page} {z : StoreOf} → n ≡ owned_in rs range
      → ((r : Found (RegionOf (Unit {0}))) → private_at rs addr ≡ Some r → space.regions ≡ remove rs r.place)
      → GivenUp true pid range (passing (is_page_live pid c) range.first range.count) c d s z → Freed i t pid h.process space without_it n c d s z
  release_freed {n} {space} {d} {z} owned changed a =
      let some = owned ∙ ap (λ rs. owned_in rs range) h.same ∙ whole_owned t pid.0 h.process begun.0.place begun.0.thing range h.lives h.kept.sound starts.at begun.1.1 in
      let few = release_charge t pid.0 h.process begun.0.place begun.0.thing h.lives h.kept.sound starts.at in
      record {
        total = charge t - own_rows begun.0.thing;
        done = release_done t pid h.process range c d s z h.lives h.kept.sound fits begun.0.place begun.0.thing starts.at begun.1.1 starts.private a;
        became = changed begun.0 (ap (λ rs. private_at rs addr) h.same ∙ begun.1.0) ∙ ap (λ rs. remove rs begun.0.place) h.same;
        counted = omega (arith, some, few, private_charge begun.0.thing starts.private);
      }

  pub release_among : {n m : ℕ} {space : RegionsOf} {d : Key → Option Page} {z : StoreOf} → Freed i t pid h.process space without_it n c d s z → GivenUp true pid range m c d s z → AreAmong (leaving t pid.0 (is_uncommitted (shown_with i (set i.processes.items (pid.0 - 1) (with_space o space))))) 1 (page_rank end_of_user_pages) pid range
  release_among {n} {space = space} {d = d} {z = z} f a =
      subst (λ (w : Tables). AreAmong (leaving t pid.0 (is_uncommitted w)) 1 (page_rank end_of_user_pages) pid range) (sym (freed_is pid h f))
      (among_unbound t (set_regions t pid.0 h.process without_it) d z pid range f.done.settled.fits (given_unbound release_end a))
