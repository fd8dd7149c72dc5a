-- No handle, view or section comes to refer to what is not there.
use Rattle.std.proofs.Common.{◌≡◌, ℕ, zero, suc, ◌+◌, ◌≤◌, ◌<◌, Bool, true, false, Option, Some, None, List, [], ◌∷◌, ◌++◌, ◌⊎◌, inl, inr, refl, sym, ◌∙◌, ap, subst, cond, arith, length, slice_get, set, is_some, ◌||◌, unwrap_or}
use Rattle.std.specs.Prelude.{◌==◌}
use Rattle.std.specs.List.{list_any}
use Rattle.std.proofs.lemmas.List.{length-append, length-set}
use Rattle.mm_types.specs.{Answer, View, Event, MachineOf, IsMachine, Text}
use Rattle.mm_types.proofs.{or_right, same_number, some_found}
use Rattle.mm_world.specs.{WorldOf, ProcessOf, RegionOf, AreaOf, SectionOf, FileOf, Numbered, numbered, process_of, set_process, set_area, area_at}
use Rattle.mm_world.specs.{no_area, section_of, OutcomeOf, settle, settled_section, settled_sections, settled_area, settled_areas, holds, views}
use Rattle.mm_world.specs.{is_handle_to, is_view_of, uses, no_regions, Each, ViewFits, RegionRefers, ProcessRefers, References, most_processes}
use Rattle.mm_world.specs.{NumbersFit, Page, new_file, step, first_world, Spaces, IsSpace, KeepsLimit, Reached, First, Next}
use Rattle.mm_world.proofs.Tables.{Holds}
use Rattle.mm_world.proofs.Edits.{Terms, RegionEdit, RegionComes, RegionGoes, RegionChanges, Edit, Rest, Regions, HandleComes, HandleGoes, SectionComes, AreaComes, AreaChanges, FileComes, Settles, ProcessComes, ProcessGoes, Edits, fold, Falls, Edited}
use Rattle.mm_world.proofs.Finding.{numbered_inside, numbered_there, push_at}
use Rattle.mm_world.proofs.RowsFit.{each-weaker, each-append, each-insert, each-remove, each-set, each-at}
use Rattle.mm_world.proofs.Spaces.{after_set, after_push, spaces_kept}
use Rattle.std.proofs.lemmas.Bool.{leb-true}
use Rattle.mm_world.specs.World.{World}
use Rattle.mm_world.specs.Report.{Report}
use Rattle.mm_world.specs.WellFormed.{WellFormed}
use Rattle.mm_types.specs.declared.views.Kind.TheVariants as kind
use Rattle.mm_world.proofs.LineEdits as edits
use Rattle.mm_world.proofs.Charges as charges
use Rattle.mm_world.proofs.Limit as limits
use Rattle.mm_world.proofs.CallEdits as calls

-- ---- searches

any-at : {A : Type 0} (test : A → Bool) (xs : List A) (i : ℕ) (x : A) → slice_get xs i ≡ Some x → test x ≡ true → list_any test xs ≡ true
any-at test [] i x there passes = cc
any-at test (y ∷ xs) zero x there passes = let same : y ≡ x = cc in ap (λ b. b || list_any test xs) (ap test same ∙ passes)
any-at test (y ∷ xs) (suc i) x there passes = or_right (test y) (list_any test xs) (any-at test xs i x there passes)

any-numbered : {A : Type 0} (test : Option A → Bool) (xs : Numbered A) (i : ℕ) (x : A) → numbered xs i ≡ Some x → test (Some x) ≡ true → list_any test xs ≡ true
any-numbered test xs i x there passes = any-at test xs i (Some x) (numbered_there xs i x there) passes

still : (hs : Numbered ℕ) (place i n : ℕ) → numbered (set hs place None) i ≡ Some n → numbered hs i ≡ Some n
still (h ∷ hs) zero zero n e = cc
still (h ∷ hs) (suc place) (suc i) n e = still hs place i n e
still _ _ _ n e = e

module _ {B : Type 0} where
  -- ---- a world in which more is there

  -- each section of the one is in the other, with its area, and no area is shorter
  pub record Grows (w v : WorldOf B) : Type 0 where
    pub sections : (n : ℕ) (s : SectionOf) → section_of w n ≡ Some s → (t : SectionOf) × (section_of v n ≡ Some t) × (t.area ≡ s.area)
    pub pages : (area : ℕ) → length (area_at w area).pages ≤ length (area_at v area).pages

  view_grows : (w v : WorldOf B) (x : View) (count : ℕ) → Grows w v → ViewFits w x count → ViewFits v x count
  view_grows w v x count g h =
      let t = g.sections x.section.0 h.section h.lives in
      record { section = t.0; lives = t.1; same_area = t.2 ∙ h.same_area; within = omega (arith, h.within, g.pages x.area.0) }

  regions_grow : (w v : WorldOf B) (rs : List (RegionOf B)) → Grows w v → Each (RegionRefers w) rs → Each (RegionRefers v) rs
  regions_grow w v [] g h = tt
  regions_grow w v (r ∷ rs) g h = ((λ x is. view_grows w v x (length r.rows) g (h.0 x is)), regions_grow w v rs g h.1)

  process_grows : (w v : WorldOf B) (p : ProcessOf B) → Grows w v → ProcessRefers w p → ProcessRefers v p
  process_grows w v p g h =
      record {
        views = regions_grow w v p.regions g h.views;
        handles = λ place n e.
            let s = some_found (section_of w n) (h.handles place n e) in
            ap is_some (g.sections n s.0 s.1).1;
      }

  put_refers : (w : WorldOf B) (pid : ℕ) (p : ProcessOf B) (q : Option (ProcessOf B)) → process_of w pid ≡ Some p → ((r : ProcessOf B) → q ≡ Some r → ProcessRefers w p → ProcessRefers w r) → References w → References (set_process w pid q)
  put_refers w pid p q lives keeps h =
      record {
        processes = λ j r e.
            process_grows w (set_process w pid q) r (record { sections = λ n s e. (s, e, refl); pages = λ area. omega arith })
            (elim (after_set w.processes pid j q r (numbered_inside w.processes pid p lives) e) [
              | inl is ↦ keeps r is.0 (h.processes pid p lives)
              | inr other ↦ h.processes j r other
            ]);
        sections = h.sections;
        files = h.files;
      }

  -- ---- regions and handles

  same_refers : (w : WorldOf B) (r new : RegionOf B) → new.kind ≡ r.kind → length new.rows ≡ length r.rows → RegionRefers w r → RegionRefers w new
  same_refers w r new kinds rows h v is = subst (λ (n : ℕ). ViewFits w v n) (sym rows) (h v (sym kinds ∙ is))

  regions_refer : (t : Terms) (w : WorldOf B) (pid : ℕ) (rs new : List (RegionOf B)) → RegionEdit t w pid rs new → Each (RegionRefers w) rs → Each (RegionRefers w) new
  regions_refer t w pid rs _ (RegionComes new h) k = each-insert (RegionRefers w) rs _ new k h.refers
  regions_refer t w pid rs _ (RegionGoes i r there gone charged) k = each-remove (RegionRefers w) rs i k
  regions_refer t w pid rs _ (RegionChanges i r new there like) k =
      each-set (RegionRefers w) rs i new k (same_refers w r new like.kind like.count (each-at (RegionRefers w) rs i r k there))

  handle_refers : (w : WorldOf B) (p : ProcessOf B) (number : ℕ) → is_some (section_of w number) ≡ true → ProcessRefers w p → ProcessRefers w (record p { handles = p.handles ++ Some number ∷ [] })
  handle_refers w p number lives h =
      record {
        views = h.views;
        handles = λ place n e.
            elim (after_push p.handles (Some number) place n e) [
              | inl is ↦ (let same : number ≡ n = cc in ap (λ (n : ℕ). is_some (section_of w n)) (sym same) ∙ lives)
              | inr there ↦ h.handles place n there
            ];
      }

  -- ---- areas are changed, not shortened

  set_length : (areas : List (AreaOf B)) (at area : ℕ) (a : AreaOf B) → length a.pages ≡ length (unwrap_or (slice_get areas at) no_area).pages → length (unwrap_or (slice_get (set areas at a) area) no_area).pages ≡ length (unwrap_or (slice_get areas area) no_area).pages
  set_length (b ∷ areas) zero zero a e = e
  set_length (b ∷ areas) (suc at) (suc area) a e = set_length areas at area a e
  set_length _ _ _ a e = cc

  area_grows : (v : WorldOf B) (at : ℕ) (a : AreaOf B) → length a.pages ≡ length (area_at v at).pages → References v → References (set_area v at a)
  area_grows v at a e h =
      let g : Grows v (set_area v at a) =
      record { sections = λ n s e. (s, e, refl); pages = λ area. omega (arith, set_length v.areas at area a e) } in
      record {
        processes = λ pid p lives. process_grows v (set_area v at a) p g (h.processes pid p lives);
        sections = λ n s k. omega (arith, h.sections n s k, length-set v.areas at a);
        files = subst (λ (n : ℕ). Each (λ (f : FileOf). f.area < n) v.files) (sym (length-set v.areas at a)) h.files;
      }

  longer : (areas : List (AreaOf B)) (a : AreaOf B) (area : ℕ) → length (unwrap_or (slice_get areas area) no_area).pages ≤ length (unwrap_or (slice_get (areas ++ a ∷ []) area) no_area).pages
  longer (b ∷ areas) a (suc area) = longer areas a area
  longer _ a _ = omega arith

  -- ---- the end of sections

  at_section : (ps : Numbered (ProcessOf B)) (k n : ℕ) (ss : Numbered SectionOf) → numbered (settled_sections ps k ss) n ≡ settled_section ps (k + n) (numbered ss n)
  at_section ps k n [] = refl
  at_section ps k zero (s ∷ ss) = ap (λ (n : ℕ). settled_section ps n s) (let same : k ≡ k + 0 = omega arith in same)
  at_section ps k (suc n) (s ∷ ss) = at_section ps (k + 1) n ss ∙ ap (λ (m : ℕ). settled_section ps m (numbered ss n)) (let same : k + 1 + n ≡ k + suc n = omega arith in same)

  at_here : (ps : Numbered (ProcessOf B)) (n : ℕ) (ss : Numbered SectionOf) → numbered (settled_sections ps 0 ss) n ≡ settled_section ps n (numbered ss n)
  at_here ps n ss = at_section ps 0 n ss ∙ ap (λ (m : ℕ). settled_section ps m (numbered ss n)) (let same : 0 + n ≡ n = omega arith in same)

  at_area : (ss : Numbered SectionOf) (k m : ℕ) (areas : List (AreaOf B)) → unwrap_or (slice_get (settled_areas ss k areas) m) no_area ≡ settled_area ss (k + m) (unwrap_or (slice_get areas m) no_area)
  at_area ss k m [] = elim (is_some (no_area {B = B}).file_block || list_any (uses (k + m)) ss) as (λ b. no_area {B = B} ≡ cond b (no_area {B = B}) (no_area {B = B})) [ true ↦ refl | false ↦ refl ]
  at_area ss k zero (a ∷ rest) = ap (λ (n : ℕ). settled_area ss n a) (let same : k ≡ k + 0 = omega arith in same)
  at_area ss k (suc m) (a ∷ rest) = at_area ss (k + 1) m rest ∙ ap (λ (n : ℕ). settled_area ss n (unwrap_or (slice_get rest m) no_area)) (let same : k + 1 + m ≡ k + suc m = omega arith in same)

  length-settled : (ss : Numbered SectionOf) (k : ℕ) (areas : List (AreaOf B)) → length (settled_areas ss k areas) ≡ length areas
  length-settled ss k [] = refl
  length-settled ss k (a ∷ rest) = ap suc (length-settled ss (k + 1) rest)

  -- a section that a handle or a view refers to stays, with its area
  stays : (ps : Numbered (ProcessOf B)) (n : ℕ) (s : SectionOf) → (list_any (holds n) ps ≡ true) ⊎ (list_any (views n) ps ≡ true) → (t : SectionOf) × (settled_section ps n (Some s) ≡ Some t) × (t.area ≡ s.area)
  stays ps n s used = by_tests (list_any (holds n) ps) (list_any (views n) ps) used
    where
      by_tests : (b c : Bool) → (b ≡ true) ⊎ (c ≡ true) → (t : SectionOf) × (cond b (Some s) (cond c (Some (record s { name = None })) None) ≡ Some t) × (t.area ≡ s.area)
      by_tests true c u = (s, refl, refl)
      by_tests false true u = (record s { name = None }, refl, refl)
      by_tests false false (inl e) = cc
      by_tests false false (inr e) = cc

  stayed : (ps : Numbered (ProcessOf B)) (n : ℕ) (s : Option SectionOf) (t : SectionOf) → settled_section ps n s ≡ Some t → (x : SectionOf) × (s ≡ Some x) × (t.area ≡ x.area)
  stayed ps n None t e = cc
  stayed ps n (Some s) t e = by_tests (list_any (holds n) ps) (list_any (views n) ps) e
    where
      by_tests : (b c : Bool) → cond b (Some s) (cond c (Some (record s { name = None })) None) ≡ Some t → (x : SectionOf) × (Some s ≡ Some x) × (t.area ≡ x.area)
      by_tests true c e = (s, refl, (let same : s ≡ t = cc in ap (λ (s : SectionOf). s.area) (sym same)))
      by_tests false true e = (s, refl, (let same : record s { name = None } ≡ t = cc in ap (λ (s : SectionOf). s.area) (sym same)))
      by_tests false false e = cc

  settle_refers : (v : WorldOf B) → References v → References (settle v)
  settle_refers v h =
      record {
        processes = λ pid p lives.
            let k = h.processes pid p lives in
            record {
              views = settled_regions pid p lives p.regions (λ i r there. (i, there)) k.views;
              handles = λ place n e.
                  let s = some_found (section_of v n) (k.handles place n e) in
                  let held : list_any (holds n) v.processes ≡ true = any-numbered (holds n) v.processes pid p lives (any-numbered (is_handle_to n) p.handles place n e (same_number n)) in
                  ap is_some (at_here v.processes n v.sections ∙ ap (settled_section v.processes n) s.1 ∙ (stays v.processes n s.0 (inl held)).1);
            };
        sections = λ n t e.
            let was = stayed v.processes n (section_of v n) t (sym (at_here v.processes n v.sections) ∙ e) in
            omega (arith, h.sections n was.0 was.1, was.2, length-settled (settled_sections v.processes 0 v.sections) 0 v.areas);
        files = subst (λ (n : ℕ). Each (λ (f : FileOf). f.area < n) v.files) (sym (length-settled (settled_sections v.processes 0 v.sections) 0 v.areas)) h.files;
      }
    where
      new : Numbered SectionOf
      new = settled_sections v.processes 0 v.sections

      settled_view : (pid i : ℕ) (p : ProcessOf B) (r : RegionOf B) (x : View) (count : ℕ) → process_of v pid ≡ Some p → slice_get p.regions i ≡ Some r → r.kind ≡ kind.View x → ViewFits v x count → ViewFits (settle v) x count
      settled_view pid i p r x count lives there is fits =
          let n = x.section.0 in
          let seen : list_any (views n) v.processes ≡ true =
          any-numbered (views n) v.processes pid p lives (any-at (λ (r : RegionOf B). is_view_of n r.kind) p.regions i r there (ap (is_view_of n) is ∙ same_number n)) in
          let t = stays v.processes n fits.section (inr seen) in
          let stands : numbered new n ≡ Some t.0 =
          at_here v.processes n v.sections ∙ ap (settled_section v.processes n) fits.lives ∙ t.1 in
          let used : list_any (uses x.area.0) new ≡ true = any-numbered (uses x.area.0) new n t.0 stands (ap (λ (m : ℕ). m == x.area.0) (t.2 ∙ fits.same_area) ∙ same_number x.area.0) in
          let area : area_at (settle v) x.area.0 ≡ area_at v x.area.0 =
          at_area new 0 x.area.0 v.areas ∙ ap (λ (m : ℕ). settled_area new m (area_at v x.area.0)) (let same : 0 + x.area.0 ≡ x.area.0 = omega arith in same)
          ∙ (ap (λ b. cond b (area_at v x.area.0) no_area) (or_right (is_some (area_at v x.area.0).file_block) (list_any (uses x.area.0) new) used)) in
          record {
            section = t.0;
            lives = stands;
            same_area = t.2 ∙ fits.same_area;
            within = omega (arith, fits.within, ap (λ (a : AreaOf B). length a.pages) area);
          }

      settled_regions : (pid : ℕ) (p : ProcessOf B) → process_of v pid ≡ Some p → (rs : List (RegionOf B)) → ((i : ℕ) (r : RegionOf B) → slice_get rs i ≡ Some r → (j : ℕ) × (slice_get p.regions j ≡ Some r)) → Each (RegionRefers v) rs → Each (RegionRefers (settle v)) rs
      settled_regions pid p lives [] at k = tt
      settled_regions pid p lives (r ∷ rs) at k = (
        (λ x is. let here = at 0 r refl in settled_view pid here.0 p r x (length r.rows) lives here.1 is (k.0 x is)),
        settled_regions pid p lives rs (λ i y there. at (suc i) y there) k.1,
      )

  -- ---- each edit

  beside_refers : (w v : WorldOf B) → v.processes ≡ w.processes → v.sections ≡ w.sections → v.areas ≡ w.areas → v.files ≡ w.files → References w → References v
  beside_refers w v processes sections areas files h =
      let u : WorldOf B = record v { processes = w.processes; sections = w.sections; areas = w.areas; files = w.files } in
      let g : Grows w u = record { sections = λ n s e. (s, e, refl); pages = λ area. omega arith } in
      let kept : References u = record { processes = λ pid p lives. process_grows w u p g (h.processes pid p lives); sections = h.sections; files = h.files } in
      subst References (λ i. record v { processes = sym processes i; sections = sym sections i; areas = sym areas i; files = sym files i }) kept

  no_process_refers : (w : WorldOf B) → References w → References (record w { processes = w.processes ++ Some no_regions ∷ [] })
  no_process_refers w h =
      let v : WorldOf B = record w { processes = w.processes ++ Some no_regions ∷ [] } in
      let g : Grows w v = record { sections = λ n s e. (s, e, refl); pages = λ area. omega arith } in
      record {
        processes = λ j q e.
            elim (after_push w.processes (Some no_regions) j q e) [
              | inl is ↦ (let same : no_regions ≡ q = cc in subst (λ q. ProcessRefers v q) same (record { views = tt; handles = none }))
              | inr there ↦ process_grows w v q g (h.processes j q there)
            ];
        sections = h.sections;
        files = h.files;
      }
    where
      none : (place n : ℕ) → numbered (no_regions {B = B}).handles place ≡ Some n → is_some (section_of (record w { processes = w.processes ++ Some no_regions ∷ [] }) n) ≡ true
      none zero n e = cc
      none (suc place) n e = cc

  -- a process changes what it refers to
  put_process : (w : WorldOf B) (pid : ℕ) (p q : ProcessOf B) → process_of w pid ≡ Some p → (ProcessRefers w p → ProcessRefers w q) → References w → References (set_process w pid (Some q))
  put_process w pid p q lives keeps h = put_refers w pid p (Some q) lives (λ r is k. let same : q ≡ r = cc in subst (λ r. ProcessRefers w r) same (keeps k)) h

module _ {B : Type 0} (t : Terms) where
  each : (w v : WorldOf B) → Edit t w v → References w → References v
  each w _ (Rest v b) h = beside_refers w v b.processes b.sections b.areas b.files h
  each w _ (Regions pid p rs lives e) h =
      put_process w pid p (record p { regions = rs }) lives (λ k. record { views = regions_refer t w pid p.regions rs e k.views; handles = k.handles }) h
  each w _ (HandleComes pid p number lives there) h = put_process w pid p _ lives (handle_refers w p number there) h
  each w _ (HandleGoes pid p i lives) h =
      put_process w pid p (record p { handles = set p.handles i None }) lives (λ k. record { views = k.views; handles = λ j n e. k.handles j n (still p.handles i j n e) }) h
  each w _ (SectionComes s inside) h =
      let v : WorldOf B = record w { sections = w.sections ++ Some s ∷ [] } in
      let g : Grows w v = record { sections = λ n t e. (t, push_at (λ o p. o ≡ Some t → p ≡ Some t) w.sections n (Some s) (λ e. cc) (λ o e. e) e, refl); pages = λ area. omega arith } in
      record {
        processes = λ j q e. process_grows w v q g (h.processes j q e);
        sections = λ n t e.
            elim (after_push w.sections (Some s) n t e) [
              | inl is ↦ (let same : s ≡ t = cc in subst (λ (t : SectionOf). t.area < length w.areas) same (inside h))
              | inr there ↦ h.sections n t there
            ];
        files = h.files;
      }
  each w _ (AreaComes a charged) h =
      let v : WorldOf B = record w { areas = w.areas ++ a ∷ [] } in
      let more : length w.areas < length v.areas = omega (arith, length-append w.areas (a ∷ [])) in
      let g : Grows w v = record { sections = λ n s e. (s, e, refl); pages = λ area. longer w.areas a area } in
      record {
        processes = λ j q e. process_grows w v q g (h.processes j q e);
        sections = λ n s e. omega (arith, h.sections n s e, more);
        files = each-weaker _ _ w.files (λ f low. omega (arith, low, more)) h.files;
      }
  each w _ (AreaChanges at a same charged) h = area_grows w at a same h
  each w _ (FileComes f inside) h =
      record {
        processes = λ j q e. process_grows w (record w { files = w.files ++ f ∷ [] }) q (record { sections = λ n s e. (s, e, refl); pages = λ area. omega arith }) (h.processes j q e);
        sections = h.sections;
        files = each-append (λ (f : FileOf). f.area < length w.areas) w.files (f ∷ []) h.files (inside, tt);
      }
  each w _ (Settles falls) h = settle_refers w h
  each w _ (ProcessComes room) h = no_process_refers w h
  each w _ (ProcessGoes pid p lives gone charged) h = put_refers w pid p None lives (λ r is k. cc) h

  pub references_kept : (w v : WorldOf B) → Edits t w v → References w → References v
  references_kept = fold t References each

-- ---- the numbers that lines count stay in their ranges

module _ {B : Type 0} where
  -- a process that lives is not process 0
  none_at_zero : (ps : Numbered (ProcessOf B)) (pid : ℕ) (p : ProcessOf B) (q : Option (ProcessOf B)) → numbered ps pid ≡ Some p → slice_get ps 0 ≡ Some None → slice_get (set ps pid q) 0 ≡ Some None
  none_at_zero (x ∷ ps) zero p q lives none = let bad : Some x ≡ Some None = none in cc
  none_at_zero _ _ p q lives none = none

  none_after_push : (ps : Numbered (ProcessOf B)) (q : Option (ProcessOf B)) → slice_get ps 0 ≡ Some None → slice_get (ps ++ q ∷ []) 0 ≡ Some None
  none_after_push [] q none = cc
  none_after_push (x ∷ ps) q none = none

  put : (w : WorldOf B) (pid : ℕ) (p : ProcessOf B) (q : Option (ProcessOf B)) → process_of w pid ≡ Some p → NumbersFit w → NumbersFit (set_process w pid q)
  put w pid p q lives h =
      let few : length (set w.processes pid q) ≤ most_processes + 1 = omega (arith, h.processes, length-set w.processes pid q) in
      assumption (few, none_at_zero w.processes pid p q lives h.no_process)

module _ {B : Type 0} (t : Terms) where
  each_number : (w v : WorldOf B) → Edit t w v → NumbersFit w → NumbersFit v
  each_number w _ (Rest v b) h =
      record {
        processes = omega (arith, h.processes, ap (λ (ps : Numbered (ProcessOf B)). length ps) b.processes);
        no_process = ap (λ (ps : Numbered (ProcessOf B)). slice_get ps 0) b.processes ∙ h.no_process;
        kept = b.threads ∙ h.kept;
        fails = b.fails h.fails;
        blocks = b.blocks h.blocks;
        slots = b.slots h.slots;
      }
  each_number w _ (Regions pid p rs lives e) h = put w pid p (Some (record p { regions = rs })) lives h
  each_number w _ (HandleComes pid p number lives there) h = put w pid p _ lives h
  each_number w _ (HandleGoes pid p i lives) h = put w pid p _ lives h
  each_number w _ (ProcessGoes pid p lives gone charged) h = put w pid p None lives h
  each_number w _ (ProcessComes room) h =
      let few : length (w.processes ++ Some no_regions ∷ []) ≤ most_processes + 1 = omega (arith, length-append w.processes (Some no_regions ∷ []), leb-true (length w.processes) most_processes room) in
      assumption (few, none_after_push w.processes (Some no_regions) h.no_process)
  each_number w v e h = record { processes = h.processes; no_process = h.no_process; kept = h.kept; fails = h.fails; blocks = h.blocks; slots = h.slots }

  pub numbers_kept : (w v : WorldOf B) → Edits t w v → NumbersFit w → NumbersFit v
  numbers_kept = fold t NumbersFit each_number

-- ---- each call and each line keeps a well-formed world well formed

abbrev falling : Answer → Terms
falling a = record { ends = λ x. true; plain = false; kept = false; stacks = false; charge = Falls }

module _ {B : Type 0} where
  together : (t : Answer → Terms) (w : WorldOf B) (o : OutcomeOf B) → Edits (t o.answer) w o.world → Holds (KeepsLimit w) o → WellFormed w → WellFormed o.world
  together t w o es l h =
      record { numbers = numbers_kept (t o.answer) w o.world es h.numbers; spaces = spaces_kept (t o.answer) w o.world es h.spaces; references = references_kept (t o.answer) w o.world es h.references; charged = l.it.kept h.charged }

  -- ---- a call that adds no charge

  by_edits : (w : WorldOf B) (o : OutcomeOf B) → Holds (Edited falling w) o → WellFormed w → WellFormed o.world
  by_edits w o h = together falling w o h.it.edits (charges.by_edits falling w o refl h.it.edits)

  pub new_file_keeps : (fill : ℕ → B) (w : WorldOf B) (name : Text) (pages byte : ℕ) → WellFormed w → WellFormed (new_file fill w name pages byte).world
  new_file_keeps fill w name pages byte = by_edits w _ (calls.in_new_file falling fill w name pages byte)

-- ---- lines

pub line_keeps : (w : World) (e : Event) (before after : Report) → WellFormed w → WellFormed (step w e before after).world
line_keeps w e before after = together (edits.line_terms e) w (step w e before after) (edits.in_step w e before after).edits (limits.in_step w e before after)

pub first_spaces : (m : MachineOf) (pid : ℕ) (p : ProcessOf Page) → process_of (first_world m) pid ≡ Some p → IsSpace p.regions
first_spaces m zero p e = cc
first_spaces m (suc pid) p e = cc

no_processes : (m : MachineOf) (pid : ℕ) (p : ProcessOf Page) → process_of (first_world m) pid ≡ Some p → ProcessRefers (first_world m) p
no_processes m zero p e = cc
no_processes m (suc pid) p e = cc

pub spaces_keep : (w : World) (e : Event) (before after : Report) → Spaces w → Spaces (step w e before after).world
spaces_keep w e before after = spaces_kept (edits.line_terms e (step w e before after).answer) w _ (edits.in_step w e before after).edits

pub first_is : (m : MachineOf) → IsMachine m → WellFormed {B = Page} (first_world m)
first_is m h =
    record {
      numbers = record { processes = omega arith; no_process = refl; kept = refl; fails = omega arith; blocks = omega arith; slots = h.most_slots };
      spaces = first_spaces m;
      references = record { processes = no_processes m; sections = λ n s e. cc; files = tt };
      charged = omega arith;
    }

pub reached_is : (m : MachineOf) (w : World) → IsMachine m → Reached m w → WellFormed w
reached_is m w h First = first_is m h
reached_is m w h (Next t e before after r) = line_keeps t e before after (reached_is m t h r)
