-- After a call each live page holds what it held before, and a page that comes to be is zero.
use Rattle.std.proofs.Common.{◌≡◌, ℕ, zero, suc, ◌+◌, ◌-◌, Bool, true, false, Option, Some, None, List, [], ◌∷◌, ◌++◌, ◌⊎◌, inl, inr, refl, sym, ◌∙◌, ap, cond, set, replicate, slice_get, is_some, ◌||◌, unwrap_or, subst, arith, length, ◌&&◌, nat_le, option_map}
use Rattle.std.specs.Prelude.{option_and_then, remove, ◌==◌}
use Rattle.std.specs.List.{list_any}
use Rattle.std.proofs.lemmas.Option.{get_or_from_slice_get}
use Rattle.mm_types.specs.{Kind, Range, holds_page, meets, Answer, Code, Key, ViewAccess, granule_range_of, pages_for, page_of, is_granule_address}
use Rattle.mm_types.specs.{lowest_gap, first_user_page, Text, reserve_type}
use Rattle.mm_world.specs.{WorldOf, ProcessOf, RegionOf, RowOf, AreaOf, SectionOf, Numbered, numbered, pages_of, change_range, ranges_of, process_of}
use Rattle.mm_world.specs.{no_area, shared_page, row_at, reserved_row, commit, protected, change_rows, own_page, settled_areas, uses, watch}
use Rattle.mm_world.specs.{reset_watch, StackOf, end_stacks, set_stack, Found, first_where, set_process, set_regions, set_region, set_area, area_at}
use Rattle.mm_world.specs.{add_region, placed, OutcomeOf, done, refused, change_flags, alloc, reserve, commit_in, commit_shared, private_region}
use Rattle.mm_world.specs.{new_row, free, decommit, protect, query, create, create_file, open_section, close, handle_or, new_section, settle}
use Rattle.mm_world.specs.{settled_sections, paging_area, is_reserve, map_view, unmap, flush, view_region, first_protection, is_copy, with_handle}
use Rattle.mm_world.specs.{new_process, exit, take_fail, grow, no_regions, stack, made, stack_region, content_of, Spaces}
use Rattle.mm_world.proofs.Finding.{numbered_there, put_at, push_at, found_stands}
use Rattle.mm_world.proofs.Regions.{has_free, added_keeps, removed_keeps, set_keeps, placed_is, IsPlaced}
use Rattle.std.proofs.lemmas.Bool.{leb-true}
use Rattle.std.proofs.lemmas.List.{length-replicate}
use Rattle.mm_world.proofs.Tables.{Holds, met, tables}
use Rattle.mm_world.proofs.RowsFit.{length-change_range}
use Rattle.mm_world.proofs.Spaces.{wanted_granule}
use Rattle.mm_world.proofs.LineEdits.{stack_length}
use Rattle.mm_types.specs.declared.views.Kind.TheVariants as kind
use Rattle.mm_types.specs.declared.answers.Answer.TheVariants as answer
use Rattle.mm_types.specs.declared.numbers.Key.TheVariants as key

module _ {B : Type 0} where
  -- ---- the bytes of a page, region by region

  abbrev pub own_in : RegionOf B → ℕ → Option B
  own_in r page = option_and_then (λ row. row.own) (row_at r page)

  pub own_free : (page : ℕ) (new : RegionOf B) (rs : List (RegionOf B)) → list_any (meets (pages_of new)) (ranges_of rs) ≡ false → holds_page (pages_of new) page ≡ true → own_page rs page ≡ None
  own_free page new rs = has_free (λ r. own_in r page) new rs page

  -- ---- a region's rows are changed

  -- what the page holds now is what it held, or `fresh` where it held nothing
  pub record Kept (fresh : B) (old new : Option B) : Type 0 where
    pub kept : (x : B) → new ≡ Some x → x ≡ unwrap_or old fresh

  pub kept_same : (fresh : B) (o : Option B) → Kept fresh o o
  kept_same fresh o = record { kept = λ x e. sym (ap (λ (o : Option B). unwrap_or o fresh) e) }

-- what a changed range has at a place
pub record Got {A : Type 0} (change : A → A) (xs : List A) (k : ℕ) (y : A) : Type 0 where
  pub old : A
  pub there : slice_get xs k ≡ Some old
  pub is : (y ≡ old) ⊎ (y ≡ change old)

got_same : {A : Type 0} (change : A → A) (xs : List A) (k : ℕ) (y : A) → slice_get xs k ≡ Some y → Got change xs k y
got_same change xs k y e = record { old = y; there = e; is = inl refl }

got_later : {A : Type 0} (change : A → A) (x : A) (xs : List A) (k : ℕ) (y : A) → Got change xs k y → Got change (x ∷ xs) (suc k) y
got_later change x xs k y g = record { old = g.old; there = g.there; is = g.is }

pub got_change : {A : Type 0} (change : A → A) (first count : ℕ) (xs : List A) (k : ℕ) (y : A) → slice_get (change_range change first count xs) k ≡ Some y → Got change xs k y
got_change change zero zero xs k y e = got_same change xs k y e
got_change change zero (suc count) [] k y e = cc
got_change change zero (suc count) (x ∷ xs) zero y e = record { old = x; there = refl; is = inr (let same : change x ≡ y = cc in sym same) }
got_change change zero (suc count) (x ∷ xs) (suc k) y e = got_later change x xs k y (got_change change zero count xs k y e)
got_change change (suc first) zero [] k y e = cc
got_change change (suc first) (suc count) [] k y e = cc
got_change change (suc first) count (x ∷ xs) zero y e = got_same change (x ∷ xs) zero y e
got_change change (suc first) count (x ∷ xs) (suc k) y e = got_later change x xs k y (got_change change first count xs k y e)

module _ {B : Type 0} where
  -- ---- rows of a range

  abbrev pub RowKept : B → (RowOf B → RowOf B) → Type 0
  RowKept fresh change = (row : RowOf B) → Kept fresh row.own (change row).own

  by_got : (fresh : B) (change : RowOf B → RowOf B) (rows : List (RowOf B)) (k : ℕ) (row : RowOf B) (x : B) → RowKept fresh change → Got change rows k row → row.own ≡ Some x → x ≡ unwrap_or (option_and_then (λ (row : RowOf B). row.own) (slice_get rows k)) fresh
  by_got fresh change rows k row x keeps g own =
      let at : option_and_then (λ (row : RowOf B). row.own) (slice_get rows k) ≡ g.old.own = ap (λ o. option_and_then (λ (row : RowOf B). row.own) o) g.there in
      elim g.is [
        | inl same ↦ (kept_same fresh g.old.own).kept x (ap (λ (row : RowOf B). row.own) (sym same) ∙ own) ∙ ap (λ (o : Option B). unwrap_or o fresh) (sym at)
        | inr same ↦ (keeps g.old).kept x (ap (λ (row : RowOf B). row.own) (sym same) ∙ own) ∙ ap (λ (o : Option B). unwrap_or o fresh) (sym at)
      ]

  by_row : (fresh : B) (change : RowOf B → RowOf B) (rows new : List (RowOf B)) (k : ℕ) (row : Option (RowOf B)) (x : B) → RowKept fresh change → ((row : RowOf B) → slice_get new k ≡ Some row → Got change rows k row) → slice_get new k ≡ row → option_and_then (λ (row : RowOf B). row.own) row ≡ Some x → x ≡ unwrap_or (option_and_then (λ (row : RowOf B). row.own) (slice_get rows k)) fresh
  by_row fresh change rows new k None x keeps got at e = cc
  by_row fresh change rows new k (Some row) x keeps got at e = by_got fresh change rows k row x keeps (got row at) e

  pub rows_kept : (fresh : B) (change : RowOf B → RowOf B) (range : Range) (r : RegionOf B) (page : ℕ) → RowKept fresh change → Kept fresh (own_in r page) (own_in (change_rows change range r) page)
  rows_kept fresh change range r page keeps =
      record {
        kept = λ x e.
            by_row fresh change r.rows (change_range change (range.first - r.base) range.count r.rows) (page - r.base) _ x keeps
            (λ row at. got_change change (range.first - r.base) range.count r.rows (page - r.base) row at) refl e;
      }

  pub commit_kept : (fresh : B) (prot : ℕ) → RowKept fresh (commit fresh prot)
  commit_kept fresh prot row = record { kept = λ x e. let same : unwrap_or row.own fresh ≡ x = cc in sym same }

  pub cleared_kept : (fresh : B) → RowKept fresh (λ row. reserved_row)
  cleared_kept fresh row = record { kept = λ x e. cc }

  pub protected_kept : (fresh : B) (k : Kind) (prot : ℕ) → RowKept fresh (protected k prot)
  protected_kept fresh kind.Private prot row = kept_same fresh row.own
  protected_kept fresh (kind.View v) prot row = kept_same fresh row.own

  -- ---- worlds

  abbrev pub own_of : Option (ProcessOf B) → ℕ → Option B
  own_of p page = option_and_then (λ (p : ProcessOf B). own_page p.regions page) p

  -- each live page holds what it held, or `fresh` where it was not live
  pub record PagesKept (fresh : B) (w v : WorldOf B) : Type 0 where
    pub own : (pid page : ℕ) → Kept fresh (own_of (process_of w pid) page) (own_of (process_of v pid) page)
    pub shared : (area i : ℕ) → Kept fresh (shared_page w area i) (shared_page v area i)

  -- ---- areas

  abbrev pub page_in : List (AreaOf B) → ℕ → ℕ → Option B
  page_in areas area i = numbered (unwrap_or (slice_get areas area) no_area).pages i

  pub shared_settled : (fresh : B) (ss : Numbered SectionOf) (n : ℕ) (areas : List (AreaOf B)) (area i : ℕ) → Kept fresh (page_in areas area i) (page_in (settled_areas ss n areas) area i)
  shared_settled fresh ss n [] area i = record { kept = λ x e. cc }
  shared_settled fresh ss n (a ∷ rest) zero i = elim (is_some a.file_block || list_any (uses n) ss) as (λ b. Kept fresh (numbered a.pages i) (numbered (cond b a no_area).pages i)) [
    | true ↦ kept_same fresh (numbered a.pages i)
    | false ↦ record { kept = λ x e. cc }
  ]
  shared_settled fresh ss n (a ∷ rest) (suc area) i = shared_settled fresh ss (n + 1) rest area i

  pub all_fresh : (fresh : B) (count i : ℕ) (o : Option B) (x : B) → Kept fresh None o → numbered (replicate count o) i ≡ Some x → x ≡ fresh
  all_fresh fresh zero i o x k e = cc
  all_fresh fresh (suc count) zero o x k e = k.kept x e
  all_fresh fresh (suc count) (suc i) o x k e = all_fresh fresh count i o x k e

  pub shared_pushed : (fresh : B) (areas : List (AreaOf B)) (a : AreaOf B) (area i : ℕ) → ((x : B) → numbered a.pages i ≡ Some x → x ≡ fresh) → Kept fresh (page_in areas area i) (page_in (areas ++ a ∷ []) area i)
  shared_pushed fresh [] a zero i new = record { kept = λ x e. new x e }
  shared_pushed fresh [] a (suc area) i new = record { kept = λ x e. cc }
  shared_pushed fresh (b ∷ areas) a zero i new = kept_same fresh (numbered b.pages i)
  shared_pushed fresh (b ∷ areas) a (suc area) i new = shared_pushed fresh areas a area i new

  pub committed_page : (fresh : B) (first count i : ℕ) (pages : List (Option B)) → Kept fresh (numbered pages i) (numbered (change_range (λ page. Some (unwrap_or page fresh)) first count pages) i)
  committed_page fresh first count i pages =
      record {
        kept = λ x e.
            let g = got_change (λ (page : Option B). Some (unwrap_or page fresh)) first count pages i (Some x) (numbered_there (change_range (λ page. Some (unwrap_or page fresh)) first count pages) i x e) in
            let at : numbered pages i ≡ g.old = get_or_from_slice_get pages i g.old None g.there in
            elim g.is [
              | inl same ↦ (kept_same fresh g.old).kept x (sym same) ∙ ap (λ (o : Option B). unwrap_or o fresh) (sym at)
              | inr same ↦ (let y : x ≡ unwrap_or g.old fresh = cc in y) ∙ ap (λ (o : Option B). unwrap_or o fresh) (sym at)
            ];
      }

  pub shared_put : (fresh : B) (areas : List (AreaOf B)) (at area i : ℕ) (a : AreaOf B) → Kept fresh (numbered (unwrap_or (slice_get areas at) no_area).pages i) (numbered a.pages i) → Kept fresh (page_in areas area i) (page_in (set areas at a) area i)
  shared_put fresh [] at area i a k = record { kept = λ x e. cc }
  shared_put fresh (b ∷ areas) zero zero i a k = k
  shared_put fresh (b ∷ areas) zero (suc area) i a k = kept_same fresh (page_in areas area i)
  shared_put fresh (b ∷ areas) (suc at) zero i a k = kept_same fresh (numbered b.pages i)
  shared_put fresh (b ∷ areas) (suc at) (suc area) i a k = shared_put fresh areas at area i a k

-- ---- the same of each call

replicated : {A : Type 0} (n k : ℕ) (x y : A) → slice_get (replicate n x) k ≡ Some y → y ≡ x
replicated zero k x y e = cc
replicated (suc n) zero x y e = let same : x ≡ y = cc in sym same
replicated (suc n) (suc k) x y e = replicated n k x y e

module _ {B : Type 0} (fresh : B) where
  pub record KeepsPages (w : WorldOf B) (o : OutcomeOf B) : Type 0 where
    pub kept : Spaces w → PagesKept fresh w o.world

  pub pages_same : (w : WorldOf B) → PagesKept fresh w w
  pages_same w = record { own = λ pid page. kept_same fresh (own_of (process_of w pid) page); shared = λ area i. kept_same fresh (shared_page w area i) }

  pub by_same : (w : WorldOf B) (a : Answer) → Holds (KeepsPages w) (done a w)
  by_same w a = record { it = record { kept = λ h. pages_same w } }

  pub by_refusal : (w : WorldOf B) (why : Code) → Holds (KeepsPages w) (refused w why)
  by_refusal w why = record { it = record { kept = λ h. pages_same w } }

  pub by_put : (w : WorldOf B) (pid : ℕ) (p : ProcessOf B) (q : Option (ProcessOf B)) (a : Answer) → process_of w pid ≡ Some p → (Spaces w → (page : ℕ) → Kept fresh (own_page p.regions page) (own_of q page)) → Holds (KeepsPages w) (done a (set_process w pid q))
  by_put w pid p q a lives keeps =
      record { it = record { kept = λ h. record { own = λ j page. put_at (λ o n. Kept fresh (own_of o page) (own_of n page)) w.processes pid j p q lives (λ same. keeps h page) (λ other. kept_same fresh (own_of (process_of w j) page)); shared = λ area i. kept_same fresh (shared_page w area i) } } }

  -- processes stay, and areas keep their pages
  by_shared : (w v u : WorldOf B) (a : Answer) → Holds (KeepsPages w) (done a v) → u.processes ≡ v.processes → (Spaces w → (area i : ℕ) → Kept fresh (shared_page w area i) (shared_page u area i)) → Holds (KeepsPages w) (done a u)
  by_shared w v u a h same shared =
      record { it = record { kept = λ spaces. record { own = λ j page. subst (λ (ps : Numbered (ProcessOf B)). Kept fresh (own_of (process_of w j) page) (own_of (numbered ps j) page)) (sym same) ((h.it.kept spaces).own j page); shared = shared spaces } } }

  same_areas : (w v : WorldOf B) → v.areas ≡ w.areas → (area i : ℕ) → Kept fresh (shared_page w area i) (shared_page v area i)
  same_areas w v same area i = subst (λ (areas : List (AreaOf B)). Kept fresh (shared_page w area i) (page_in areas area i)) (sym same) (kept_same fresh (shared_page w area i))

  -- the end of sections
  by_settled : (w v : WorldOf B) (a : Answer) → v.areas ≡ w.areas → Holds (KeepsPages w) (done a v) → Holds (KeepsPages w) (done a (settle v))
  by_settled w v a same h =
      by_shared w v (settle v) a h refl (λ spaces area i.
      subst (λ (areas : List (AreaOf B)). Kept fresh (page_in areas area i) (shared_page (settle v) area i)) same
      (shared_settled fresh (settled_sections v.processes 0 v.sections) 0 v.areas area i))

  -- ---- a region more

  own_in_rows : (r : RegionOf B) (page : ℕ) (row : Option (RowOf B)) (x : B) → row_at r page ≡ row → ((row : RowOf B) → row_at r page ≡ Some row → row.own ≡ Some x → x ≡ fresh) → option_and_then (λ (row : RowOf B). row.own) row ≡ Some x → x ≡ fresh
  own_in_rows r page None x at new e = cc
  own_in_rows r page (Some row) x at new e = new row at e

  by_added : (w : WorldOf B) (pid : ℕ) (p : ProcessOf B) (new : RegionOf B) (range : Range) (a : Answer) → process_of w pid ≡ Some p → IsPlaced (ranges_of p.regions) range → pages_of new ≡ range → ((page : ℕ) (x : B) (row : RowOf B) → row_at new page ≡ Some row → row.own ≡ Some x → x ≡ fresh) → Holds (KeepsPages w) (done a (set_regions w pid p (add_region new p.regions)))
  by_added w pid p new range a lives free same zero' =
      by_put w pid p (Some (record p { regions = add_region new p.regions })) a lives (λ h page.
      added_keeps (λ (r : RegionOf B). own_in r page) (Kept fresh) (kept_same fresh) new p.regions _ page (subst (λ range. list_any (meets range) (ranges_of p.regions) ≡ false) (sym same) free.free)
      (record { kept = λ x e. own_in_rows new page (row_at new page) x refl (λ row at own. zero' page x row at own) e }))

  -- ---- rows changed

  by_changed : (w : WorldOf B) (pid : ℕ) (p : ProcessOf B) (r : Found (RegionOf B)) (test : RegionOf B → Bool) (change : RowOf B → RowOf B) (range : Range) (a : Answer) → process_of w pid ≡ Some p → first_where test p.regions ≡ Some r → RowKept fresh change → Holds (KeepsPages w) (done a (set_region w pid p r.place (change_rows change range r.thing)))
  by_changed w pid p r test change range a lives found keeps =
      let new = change_rows change range r.thing in
      by_put w pid p (Some (record p { regions = set p.regions r.place new })) a lives (λ h page.
      set_keeps (λ (r : RegionOf B). own_in r page) (Kept fresh) (kept_same fresh) first_user_page r.place page p.regions r.thing new (h pid p lives).laid_out (found_stands test p.regions r found).there
      (record { base = refl; rows = length-change_range change (range.first - r.thing.base) range.count r.thing.rows }) (rows_kept fresh change range r.thing page keeps))

  by_committed : (w : WorldOf B) (pid : ℕ) (p : ProcessOf B) (r : Found (RegionOf B)) (test : RegionOf B → Bool) (prot : ℕ) (range : Range) (a : Answer) → process_of w pid ≡ Some p → first_where test p.regions ≡ Some r → Holds (KeepsPages w) (done a (set_region w pid p r.place (change_rows (commit fresh prot) range r.thing)))
  by_committed w pid p r test prot range a lives found = by_changed w pid p r test (commit fresh prot) range a lives found (commit_kept fresh prot)

  by_protected : (w : WorldOf B) (pid : ℕ) (p : ProcessOf B) (r : Found (RegionOf B)) (test : RegionOf B → Bool) (k : Kind) (prot : ℕ) (range : Range) (a : Answer) → process_of w pid ≡ Some p → first_where test p.regions ≡ Some r → Holds (KeepsPages w) (done a (set_region w pid p r.place (change_rows (protected k prot) range r.thing)))
  by_protected w pid p r test k prot range a lives found = by_changed w pid p r test (protected k prot) range a lives found (protected_kept fresh k prot)

  by_cleared : (w : WorldOf B) (pid : ℕ) (p : ProcessOf B) (r : Found (RegionOf B)) (test : RegionOf B → Bool) (range : Range) → process_of w pid ≡ Some p → first_where test p.regions ≡ Some r → Holds (KeepsPages w) (decommit w pid p r range)
  by_cleared w pid p r test range lives found = by_changed w pid p r test (λ row. reserved_row) range answer.Ok lives found (cleared_kept fresh)

  by_removed : (w : WorldOf B) (pid : ℕ) (p : ProcessOf B) (r : Found (RegionOf B)) (test : RegionOf B → Bool) (a : Answer) → process_of w pid ≡ Some p → first_where test p.regions ≡ Some r → Holds (KeepsPages w) (done a (set_regions w pid p (remove p.regions r.place)))
  by_removed w pid p r test a lives found =
      by_put w pid p (Some (record p { regions = remove p.regions r.place })) a lives (λ h page.
      removed_keeps (λ (r : RegionOf B). own_in r page) (Kept fresh) (kept_same fresh) first_user_page r.place page r.thing p.regions (h pid p lives).laid_out (found_stands test p.regions r found).there (λ o. record { kept = λ x e. cc }))

  -- stacks stand beside the pages
  pub by_beside : (w v : WorldOf B) (stacks : Numbered StackOf) (a : Answer) → Holds (KeepsPages w) (done a v) → Holds (KeepsPages w) (done a (record v { stacks = stacks }))
  by_beside w v stacks a h = by_shared w v (record v { stacks = stacks }) a h refl (λ spaces. (h.it.kept spaces).shared)

  by_release : (w : WorldOf B) (pid : ℕ) (p : ProcessOf B) (r : Found (RegionOf B)) (test : RegionOf B → Bool) (ends : StackOf → Bool) (a : Answer) → process_of w pid ≡ Some p → first_where test p.regions ≡ Some r → Holds (KeepsPages w) (done a (end_stacks (set_regions w pid p (remove p.regions r.place)) ends))
  by_release w pid p r test ends a lives found = by_beside w (set_regions w pid p (remove p.regions r.place)) _ a (by_removed w pid p r test a lives found)

  pub by_flags : (w : WorldOf B) (pid : ℕ) (p : ProcessOf B) (r : Found (RegionOf B)) (flags : List Bool → List Bool) (a : Answer) (test : RegionOf B → Bool) → process_of w pid ≡ Some p → first_where test p.regions ≡ Some r → Holds (KeepsPages w) (done a (set_region w pid p r.place (change_flags flags r.thing)))
  by_flags w pid p r flags a test lives found =
      by_put w pid p (Some (record p { regions = set p.regions r.place (change_flags flags r.thing) })) a lives (λ h page.
      set_keeps (λ (r : RegionOf B). own_in r page) (Kept fresh) (kept_same fresh) first_user_page r.place page p.regions r.thing (change_flags flags r.thing) (h pid p lives).laid_out (found_stands test p.regions r found).there
      (record { base = refl; rows = refl }) (kept_same fresh (own_in r.thing page)))

  by_handles : (w : WorldOf B) (pid : ℕ) (p : ProcessOf B) (handles : Numbered ℕ) (a : Answer) → process_of w pid ≡ Some p → Holds (KeepsPages w) (done a (set_process w pid (Some (record p { handles = handles }))))
  by_handles w pid p handles a lives = by_put w pid p (Some (record p { handles = handles })) a lives (λ h page. kept_same fresh (own_page p.regions page))

  at_handle_or : (w : WorldOf B) (pid : ℕ) (p : ProcessOf B) (found : Option ℕ) (made : OutcomeOf B) → process_of w pid ≡ Some p → Holds (KeepsPages w) made → Holds (KeepsPages w) (handle_or w pid p found made)
  at_handle_or w pid p None made lives h = h
  at_handle_or w pid p (Some number) made lives h = by_handles w pid p (p.handles ++ Some number ∷ []) _ lives

module _ {B : Type 0} (fill : ℕ → B) where
  -- ---- alloc

  new_row_fresh : (type prot : ℕ) (row : RowOf B) (x : B) → row ≡ new_row fill type prot → row.own ≡ Some x → x ≡ fill 0
  new_row_fresh type prot row x is own = by_type (type == reserve_type) (ap (λ (row : RowOf B). row.own) (sym is) ∙ own)
    where
      by_type : (b : Bool) → (cond b reserved_row (commit (fill 0) prot reserved_row)).own ≡ Some x → x ≡ fill 0
      by_type true e = cc
      by_type false e = let same : fill 0 ≡ x = cc in sym same

  by_reserve : (w : WorldOf B) (pid : ℕ) (p : ProcessOf B) (addr size : ℕ) (watched : Bool) (type prot : ℕ) (range : Range) (a : Answer) → process_of w pid ≡ Some p → placed (ranges_of p.regions) addr (granule_range_of addr size) (pages_for size) ≡ Some range → Holds (KeepsPages (fill 0) w) (done a (set_regions w pid p (add_region (private_region fill watched type prot range) p.regions)))
  by_reserve w pid p addr size watched type prot range a lives found =
      let at = placed_is (ranges_of p.regions) addr (granule_range_of addr size) (pages_for size) range (omega arith) found in
      by_added (fill 0) w pid p (private_region fill watched type prot range) range a lives at.placed (λ i. record { first = range.first; count = length-replicate range.count (new_row fill type prot) i })
      (λ page x row at_row own. new_row_fresh type prot row x (replicated range.count (page - range.first) (new_row fill type prot) row at_row) own)

  in_reserve : (w : WorldOf B) (pid : ℕ) (p : ProcessOf B) (addr size : ℕ) (watched : Bool) (type prot : ℕ) → process_of w pid ≡ Some p → Holds (KeepsPages (fill 0) w) (reserve fill w pid p addr size watched type prot)
  in_reserve w pid p addr size watched type prot lives = search (tables, by_refusal, by_reserve) depth 12

  in_commit : (w : WorldOf B) (pid : ℕ) (p : ProcessOf B) (r : Found (RegionOf B)) (test : RegionOf B → Bool) (k : Kind) (range : Range) (prot : ℕ) → process_of w pid ≡ Some p → first_where test p.regions ≡ Some r → Holds (KeepsPages (fill 0) w) (commit_in fill w pid p r k range prot)
  in_commit w pid p r test kind.Private range prot lives found = search (tables, by_refusal, by_committed) depth 12
  in_commit w pid p r test (kind.View v) range prot lives found = search (tables, by_refusal, by_view) depth 12
    where
      by_view : (a : Answer) (k : Kind) (at first count : ℕ) → Holds (KeepsPages (fill 0) w) (done a (set_area (set_region w pid p r.place (change_rows (protected k prot) range r.thing)) at (commit_shared fill first count (area_at w at))))
      by_view a k at first count =
          by_shared (fill 0) w (set_region w pid p r.place (change_rows (protected k prot) range r.thing)) _ a (by_protected (fill 0) w pid p r test k prot range a lives found) refl
          (λ spaces area i. shared_put (fill 0) w.areas at area i (commit_shared fill first count (area_at w at)) (committed_page (fill 0) first count i (area_at w at).pages))

  pub in_alloc : (w : WorldOf B) (pid addr size type prot : ℕ) → Holds (KeepsPages (fill 0) w) (alloc fill w pid addr size type prot)
  in_alloc w pid addr size type prot = search (tables, by_refusal, in_reserve, in_commit) depth 14

  -- ---- create

  paging_fresh : (flags size i : ℕ) (x : B) → numbered (paging_area fill flags size).pages i ≡ Some x → x ≡ fill 0
  paging_fresh flags size i x e = all_fresh (fill 0) (pages_for size) i _ x (by_flag (is_reserve flags)) e
    where
      by_flag : (b : Bool) → Kept (fill 0) None (cond b None (Some (fill 0)))
      by_flag true = record { kept = λ x e. cc }
      by_flag false = record { kept = λ x e. let same : fill 0 ≡ x = cc in sym same }

  by_section : (w : WorldOf B) (pid : ℕ) (p : ProcessOf B) (s : SectionOf) (flags size : ℕ) → process_of w pid ≡ Some p → Holds (KeepsPages (fill 0) w) (new_section (record w { areas = w.areas ++ paging_area fill flags size ∷ [] }) pid p s)
  by_section w pid p s flags size lives =
      by_shared (fill 0) w (with_handle w pid p (length w.sections)) _ _ (by_handles (fill 0) w pid p (p.handles ++ Some (length w.sections) ∷ []) _ lives) refl
      (λ spaces area i. shared_pushed (fill 0) w.areas (paging_area fill flags size) area i (paging_fresh flags size i))

  pub in_create : (w : WorldOf B) (pid size flags : ℕ) (name : Option Text) → Holds (KeepsPages (fill 0) w) (create fill w pid size flags name)
  in_create w pid size flags name = search (tables, by_refusal, at_handle_or, by_section) depth 14

-- ---- the other calls

module _ {B : Type 0} (fresh : B) where
  pub in_free : (w : WorldOf B) (pid addr size type : ℕ) → Holds (KeepsPages fresh w) (free w pid addr size type)
  in_free w pid addr size type = search (tables, by_refusal, by_release, by_cleared) depth 14

  pub in_watch : (w : WorldOf B) (pid : ℕ) (unwrites : Bool) (addr size count : ℕ) → Holds (KeepsPages fresh w) (watch w pid unwrites addr size count)
  in_watch w pid unwrites addr size count = search (tables, by_refusal, by_same, by_flags) depth 12

  pub in_reset_watch : (w : WorldOf B) (pid addr size : ℕ) → Holds (KeepsPages fresh w) (reset_watch w pid addr size)
  in_reset_watch w pid addr size = search (tables, by_refusal, by_flags) depth 12

  pub in_protect : (w : WorldOf B) (pid addr size prot : ℕ) → Holds (KeepsPages fresh w) (protect w pid addr size prot)
  in_protect w pid addr size prot = search (tables, by_refusal, by_protected) depth 16

  by_file_section : (w : WorldOf B) (pid : ℕ) (p : ProcessOf B) (s : SectionOf) → process_of w pid ≡ Some p → Holds (KeepsPages fresh w) (new_section w pid p s)
  by_file_section w pid p s lives =
      by_shared fresh w (with_handle w pid p (length w.sections)) _ _ (by_handles fresh w pid p (p.handles ++ Some (length w.sections) ∷ []) _ lives) refl (λ spaces area i. kept_same fresh (shared_page w area i))

  pub in_create_file : (w : WorldOf B) (pid : ℕ) (file : Text) (flags : ℕ) (name : Option Text) → Holds (KeepsPages fresh w) (create_file w pid file flags name)
  in_create_file w pid file flags name = search (tables, by_refusal, at_handle_or, by_file_section) depth 14

  pub in_open : (w : WorldOf B) (pid : ℕ) (name : Text) → Holds (KeepsPages fresh w) (open_section w pid name)
  in_open w pid name = search (tables, by_refusal, by_handles) depth 12

  pub in_close : (w : WorldOf B) (pid handle : ℕ) → Holds (KeepsPages fresh w) (close w pid handle)
  in_close w pid handle = search (tables, by_refusal, by_settled, by_handles) depth 12

  by_view : (w : WorldOf B) (pid : ℕ) (p : ProcessOf B) (s : Found SectionOf) (access : ViewAccess) (first addr count : ℕ) (range : Range) (a : Answer) → process_of w pid ≡ Some p → is_granule_address addr ≡ true → placed (ranges_of p.regions) addr (record { first = page_of addr; count = count }) count ≡ Some range → Holds (KeepsPages fresh w) (done a (set_regions w pid p (add_region (view_region s access first range) p.regions)))
  by_view w pid p s access first addr count range a lives granule found =
      let wanted : Range = record { first = page_of addr; count = count } in
      let at = placed_is (ranges_of p.regions) addr wanted count range (wanted_granule addr granule) found in
      by_added fresh w pid p (view_region s access first range) range a lives at.placed (λ i. record { first = range.first; count = length-replicate range.count (first_row access) i })
      (λ page x row at_row own. let is = replicated range.count (page - range.first) (first_row access) row at_row in not_own row x (ap (λ (row : RowOf B). row.own) is) own)
    where
      first_row : ViewAccess → RowOf B
      first_row access = record { prot = first_protection access; guard = false; marked = is_copy access; own = None }

      not_own : (row : RowOf B) (x : B) → row.own ≡ None → row.own ≡ Some x → x ≡ fresh
      not_own row x none own = let bad : None ≡ Some x = sym none ∙ own in cc

  pub in_map : (w : WorldOf B) (pid handle access offset len addr : ℕ) → Holds (KeepsPages fresh w) (map_view w pid handle access offset len addr)
  in_map w pid handle access offset len addr = search (tables, by_refusal, by_view, and-right) depth 20
    where
      and-right : (a b : Bool) → (a && b) ≡ true → b ≡ true
      and-right true b e = e
      and-right false b e = cc

  pub in_unmap : (w : WorldOf B) (pid addr : ℕ) → Holds (KeepsPages fresh w) (unmap w pid addr)
  in_unmap w pid addr = search (tables, by_refusal, by_settled, by_removed) depth 12

  by_exit : (w v : WorldOf B) (pid : ℕ) (p : ProcessOf B) (a : Answer) → process_of w pid ≡ Some p → v.processes ≡ w.processes → v.areas ≡ w.areas → Holds (KeepsPages fresh w) (done a (settle (set_process v pid None)))
  by_exit w v pid p a lives same areas =
      by_settled fresh w (set_process v pid None) a areas
      (by_shared fresh w (set_process w pid None) (set_process v pid None) a (by_put fresh w pid p None a lives (λ h page. record { kept = λ x e. cc })) (ap (λ (ps : Numbered (ProcessOf B)). set ps pid None) same) (λ spaces. same_areas fresh w (set_process v pid None) areas))

  pub in_exit : (w : WorldOf B) (pid : ℕ) → Holds (KeepsPages fresh w) (exit w pid)
  in_exit w pid = search (tables, by_refusal, by_exit) depth 12

  by_new : (w : WorldOf B) (a : Answer) → Holds (KeepsPages fresh w) (done a (record w { processes = w.processes ++ Some no_regions ∷ [] }))
  by_new w a =
      met (record {
        kept = λ h. record { own = λ j page. push_at (λ o n. Kept fresh (own_of o page) (own_of n page)) w.processes j (Some no_regions) (record { kept = λ x e. cc }) (λ o. kept_same fresh (own_of o page)); shared = λ area i. kept_same fresh (shared_page w area i) };
      })

  pub in_new_process : (w : WorldOf B) → Holds (KeepsPages fresh w) (new_process w)
  in_new_process w = search (tables, by_same, by_new) depth 12

  -- ---- by keys

  pub by_key : (w v : WorldOf B) (k : Key) → PagesKept fresh w v → Kept fresh (content_of w k) (content_of v k)
  by_key w v (key.Private pid page) h = h.own pid.0 page.0
  by_key w v (key.Shared area i) h = h.shared area.0 i

  -- ---- calls that change no page

  by_rest : (w v : WorldOf B) (a : Answer) → v.processes ≡ w.processes → v.areas ≡ w.areas → Holds (KeepsPages fresh w) (done a v)
  by_rest w v a processes areas = by_shared fresh w w v a (by_same fresh w a) processes (λ spaces. same_areas fresh w v areas)

  pub in_query : (w : WorldOf B) (pid addr : ℕ) → Holds (KeepsPages fresh w) (query w pid addr)
  in_query w pid addr = search (tables, by_refusal, by_same) depth 12

  pub in_flush : (w : WorldOf B) (pid addr size : ℕ) → Holds (KeepsPages fresh w) (flush w pid addr size)
  in_flush w pid addr size = search (tables, by_refusal, by_same) depth 12

  pub in_take_fail : (w : WorldOf B) → Holds (KeepsPages fresh w) (take_fail w)
  in_take_fail w = search (tables, by_rest) depth 12

  pub in_grow : (w : WorldOf B) (n : ℕ) → Holds (KeepsPages fresh w) (grow w n)
  in_grow w n = search (tables, by_rest) depth 12

module _ {B : Type 0} (fill : ℕ → B) where
  -- ---- stacks

  stack_row : (r c k : ℕ) (row : RowOf B) (x : B) → slice_get (replicate (r - (c + 1)) reserved_row ++ commit (fill 0) 0x104 reserved_row ∷ replicate c (commit (fill 0) 0x04 reserved_row)) k ≡ Some row → row.own ≡ Some x → x ≡ fill 0
  stack_row r c k row x at own = below (r - (c + 1)) k at
    where
      above : (n k : ℕ) → slice_get (replicate n (commit (fill 0) 0x04 reserved_row)) k ≡ Some row → x ≡ fill 0
      above n k e = let is = ap (λ (row : RowOf B). row.own) (replicated n k (commit (fill 0) 0x04 reserved_row) row e) in let same : Some x ≡ Some (fill 0) = sym own ∙ is in cc

      below : (n k : ℕ) → slice_get (replicate n reserved_row ++ commit (fill 0) 0x104 reserved_row ∷ replicate c (commit (fill 0) 0x04 reserved_row)) k ≡ Some row → x ≡ fill 0
      below zero zero e = let same : commit (fill 0) 0x104 reserved_row ≡ row = cc in let is : Some (fill 0) ≡ Some x = ap (λ (row : RowOf B). row.own) same ∙ own in cc
      below zero (suc k) e = above c k e
      below (suc n) zero e = let same : reserved_row ≡ row = cc in let is : None ≡ Some x = ap (λ (row : RowOf B). row.own) same ∙ own in cc
      below (suc n) (suc k) e = below n k e

  by_stack : (w : WorldOf B) (tid pid : ℕ) (p : ProcessOf B) (s : StackOf) (r c base : ℕ) (a : Answer) → process_of w pid ≡ Some p → nat_le (c + 2) r ≡ true → lowest_gap (ranges_of p.regions) r ≡ Some base → Holds (KeepsPages (fill 0) w) (done a (set_stack (set_regions w pid p (add_region (stack_region fill base r c) p.regions)) tid s))
  by_stack w tid pid p s r c base a lives fits found =
      let range : Range = record { first = base; count = r } in
      let at = placed_is (ranges_of p.regions) 0 (record { first = 0; count = r }) r range refl (ap (λ g. option_map (λ first. let range : Range = record { first = first; count = r } in range) g) found) in
      by_beside (fill 0) w (set_regions w pid p (add_region (stack_region fill base r c) p.regions)) _ a (by_added (fill 0) w pid p (stack_region fill base r c) range a lives at.placed
      (λ i. record { first = base; count = stack_length fill base r c (leb-true (c + 2) r fits) i })
      (λ page x row at_row own. stack_row r c (page - base) row x at_row own))

  in_made : (w : WorldOf B) (tid pid : ℕ) (p : ProcessOf B) (r c : ℕ) → process_of w pid ≡ Some p → Holds (KeepsPages (fill 0) w) (made fill w tid pid p r c)
  in_made w tid pid p r c lives = search (tables, by_refusal, by_stack) depth 12

  pub in_stack : (w : WorldOf B) (tid pid reserve commit : ℕ) → Holds (KeepsPages (fill 0) w) (stack fill w tid pid reserve commit)
  in_stack w tid pid reserve commit = search (tables, by_refusal, by_same, in_made) depth 12
