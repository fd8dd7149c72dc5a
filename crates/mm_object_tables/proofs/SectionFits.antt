-- A handle, a section or an area more: references are counted, and the store fits.
use Rattle.std.proofs.Common.{◌≡◌, ◌≢◌, ◌⊎◌, inl, inr, ℕ, zero, suc, ◌+◌, ◌*◌, ◌≤◌, ◌<◌, ◌^◌, Bool, true, false, Option, Some, None, List, [], ◌∷◌, ◌++◌, refl, sym, ◌∙◌, ap, subst, cond, arith, length, get_or, set, is_some, option_map, sum_by, count_by, unwrap_or, ◌&&◌, not, ◌-◌, slice_get, replicate, nat_lt}
use Rattle.std.specs.Prelude.{◌==◌, option_and_then, IfSome}
use Rattle.std.proofs.lemmas.List.{length-set, map_push, length-replicate, get_or-replicate, length-append}
use Rattle.std.proofs.lemmas.List.Sums.{sum_by_push, sum_by-cons, count_by-le-length}
use Rattle.mm_types.specs.{Kind, View, Area, Key, Place}
use Rattle.mm_types.specs.declared.views.Kind.TheVariants as kind
use Rattle.mm_types.specs.declared.numbers.Key.TheVariants as key
use Rattle.mm_types.proofs.{same_or_not, push_other, push_at, none_at_end, some_found, differ, none_of, same_tests, and_true, none_below}
use Rattle.mm_world.specs.{ProcessOf, RegionOf, SectionOf, FileOf, Numbered, numbered, Page, RowOf, AreaOf, process_of, section_of, Found}
use Rattle.mm_world.specs.{region_with, area_at, shared_page, Tables, with_handle, is_handle_to, is_view_of, Each, ViewFits, RegionRefers, NumbersFit}
use Rattle.mm_world.specs.{References, most_processes, charge, Home, InSection, Committed, committed_at, committed_in, home_in, key_of, content_of}
use Rattle.mm_world.specs.{own_page, row_at, filled, limit, area_charge, new_section}
use Rattle.mm_world.proofs.{numbered_inside, sum_by-put, numbered_there, found_stands, committed_is, HomeCases, IsOwn, IsShared, home_cases, less}
use Rattle.mm_world.proofs.{HandleComes, AreaComes}
use Rattle.mm_store.specs.{StoreOf}
use Rattle.mm_sections.specs.{CountedSection, section_in, sections_of, new_entry, one_handle_more, DirectoryOf, page_if}
use Rattle.mm_object_tables.specs.{key_in, handles_in, views_in, handles_to, views_of, IsFew, tables_with, shown_processes, shown_accesses, IsCounted}
use Rattle.mm_object_tables.specs.{FitsTables, is_reserved, key_at, is_paging, open_pages, file_block_in, owned_keys, paging_count, CarriesPages, Settled}
use Rattle.mm_object_tables.specs.{store_beside, AreKeptTables, is_page_of, Opens}
use Rattle.mm_object_tables.specs.declared.tables.Tables.TheInside.{Inside}
use Rattle.mm_object_tables.proofs.Lists.{none_replicated, same_number, same_some, one_if, area_in, area_at_end, area_before, no_area_past, if_some, any_more}
use Rattle.mm_object_tables.proofs.Rows.{regions_in, reserved_is, content_is, key_in_same, key_at_is, at_added, settled_same}
use Rattle.mm_object_tables.proofs.Keeping.{with_section, with_areas, with_handle_charge, Settles, settles_of, section_settles, Rest, rest_of, tidy_by, handle_rest, section_rest, MayList, area_rest, area_settles, put_tidy, sound_edit, new_section_well, with_area, with_area_charge}
use Rattle.mm_sections.proofs.{length_sections}
use Rattle.std.proofs.lemmas.Bool.{le-leb}
use Rattle.std.proofs.lemmas.List.Folds.{sum_by-replicate}
use Rattle.mm_world.specs.WellFormed.{WellFormed}
use Rattle.mm_commit_charge.specs.{CommitOf}
use Rattle.mm_object_tables.proofs.Settled.{settled_as}

-- ---- the tables as they are kept, and with these parts

abbrev pub now : Inside → List (Option (ProcessOf (Unit {0}))) → Numbered CountedSection → List (AreaOf (Unit {0})) → List FileOf → ℕ → Tables
now i ps es areas files used = tables_with i.machine ps es areas files used i.fails_taken (shown_accesses i.kept) i.stacks

abbrev pub as_kept : Inside → Tables
as_kept i = now i (shown_processes i.processes.items) i.directory.entries i.areas.items i.directory.files i.blocks_used

-- ---- a handle more

module _ (w : Tables) (pid : ℕ) (p : ProcessOf (Unit {0})) (number : ℕ) (lives : process_of w pid ≡ Some p) where
  handles_more : (n : ℕ) (b : Bool) → (number == n) ≡ b → handles_to (with_handle w pid p number) n ≡ handles_to w n + cond b 1 0
  handles_more n b e =
      let q : ProcessOf (Unit {0}) = record p { handles = p.handles ++ Some number ∷ [] } in
      let total = sum_by-put (handles_in n) w.processes pid (Some p) (Some q) (numbered_there w.processes pid p lives) in
      let one : count_by (is_handle_to n) (p.handles ++ Some number ∷ []) ≡ count_by (is_handle_to n) p.handles + cond b 1 0 =
      sum_by_push (λ (x : Option ℕ). cond (is_handle_to n x) 1 0) p.handles (Some number) ∙ ap (λ b. count_by (is_handle_to n) p.handles + cond b 1 0) e in
      omega (arith, total, one)

  views_same : (n : ℕ) → views_of (with_handle w pid p number) n ≡ views_of w n
  views_same n =
      let q : ProcessOf (Unit {0}) = record p { handles = p.handles ++ Some number ∷ [] } in
      omega (arith, sum_by-put (views_in n) w.processes pid (Some p) (Some q) (numbered_there w.processes pid p lives))

-- ---- counts stay within their range

pub sum_few : {A : Type 0} (f : Option A → ℕ) (most : ℕ) (xs : List (Option A)) → ((i : ℕ) → f (get_or xs i None) ≤ most) → sum_by f xs ≤ length xs * most
sum_few f most [] h = omega arith
sum_few f most (x ∷ xs) h =
    let here = h 0 in
    let rest = sum_few f most xs (λ i. h (suc i)) in
    omega (arith, sum_by-cons f x xs, here, rest)

pub handles_few : (w : Tables) → IsFew w → NumbersFit w → (number : ℕ) → handles_to w number < 2 ^ 60
handles_few w few numbers number =
    let total = sum_few (handles_in number) (2 ^ 28) w.processes (λ pid. by_process pid (numbered w.processes pid) refl) in
    let most : length w.processes * 2 ^ 28 ≤ (most_processes + 1) * 2 ^ 28 = omega (arith, numbers.processes) in
    omega (arith, total, most)
  where
    by_process : (pid : ℕ) (o : Option (ProcessOf (Unit {0}))) → numbered w.processes pid ≡ o → handles_in number o ≤ 2 ^ 28
    by_process pid None e = omega arith
    by_process pid (Some p) e = omega (arith, count_by-le-length (is_handle_to number) p.handles, few.handles pid p e)

-- ---- entries

-- a change that leaves each section as it is
pub sections_set : (f : CountedSection → CountedSection) → ((c : CountedSection) → (f c).section ≡ c.section) → (entries : Numbered CountedSection) (i : ℕ) → sections_of (set entries i (option_map f (numbered entries i))) ≡ sections_of entries
sections_set f same [] i = refl
sections_set f same (e ∷ es) zero = ap (λ s. s ∷ sections_of es) (by_entry e)
  where
    by_entry : (e : Option CountedSection) → option_map section_in (option_map f e) ≡ option_map section_in e
    by_entry None = refl
    by_entry (Some c) = ap (λ (s : SectionOf). Some s) (same c)
sections_set f same (e ∷ es) (suc i) = ap (λ ss. option_map section_in e ∷ ss) (sections_set f same es i)

pub sections_kept : (entries new : Numbered CountedSection) (i : ℕ) → new ≡ set entries i (option_map one_handle_more (numbered entries i)) → sections_of new ≡ sections_of entries
sections_kept entries new i e = ap sections_of e ∙ sections_set one_handle_more (λ c. refl) entries i

pub sections_more : (entries new : Numbered CountedSection) (c : CountedSection) → new ≡ entries ++ Some c ∷ [] → sections_of new ≡ sections_of entries ++ Some c.section ∷ []
sections_more entries new c e = ap sections_of e ∙ map_push (option_map section_in) entries (Some c)

-- ---- counted

abbrev pub Counts : Tables → Numbered CountedSection → Type 0
Counts w entries = (number : ℕ) (c : CountedSection) → numbered entries number ≡ Some c → IsCounted w number c

-- what stands in a list with one thing set
set_or : {A : Type 0} (xs : List (Option A)) (i j : ℕ) (x : Option A) (y : A) → get_or (set xs i x) j None ≡ Some y → ((j ≡ i) × (x ≡ Some y)) ⊎ ((j ≢ i) × (get_or xs j None ≡ Some y))
set_or [] i j x y e = cc
set_or (z ∷ xs) zero zero x y e = inl (refl, e)
set_or (z ∷ xs) (suc i) (suc j) x y e =
    elim (set_or xs i j x y e) [
      | inl is ↦ inl (ap suc is.0, is.1)
      | inr is ↦ inr ((λ same. is.0 (omega (arith, same))), is.1)
    ]
set_or (z ∷ xs) _ _ x y e = inr ((λ same. absurd (omega (arith, same))), e)

-- one entry counts what its section has now, and the others what they had
pub counts_set : (w v : Tables) (number : ℕ) (f : CountedSection → CountedSection) (entries new : Numbered CountedSection) → new ≡ set entries number (option_map f (numbered entries number)) → ((c : CountedSection) → IsCounted w number c → IsCounted v number (f c)) → ((n : ℕ) (c : CountedSection) → n ≢ number → IsCounted w n c → IsCounted v n c) → Counts w entries → Counts v new
counts_set w v number f entries new e here other h n c at =
    elim (set_or entries number n (option_map f (numbered entries number)) c (ap (λ (es : Numbered CountedSection). numbered es n) (sym e) ∙ at)) [
      | inl is ↦ subst (λ (k : ℕ). IsCounted v k c) (sym is.0) (by_entry (numbered entries number) refl c is.1)
      | inr is ↦ other n c is.0 (h n c is.1)
    ]
  where
    by_entry : (o : Option CountedSection) → numbered entries number ≡ o → (c : CountedSection) → option_map f o ≡ Some c → IsCounted v number c
    by_entry None at c got = cc
    by_entry (Some d) at c got = subst (λ (c : CountedSection). IsCounted v number c) (same_some (f d) c got) (here d (h number d at))

pub handle_counts : (w : Tables) (pid : ℕ) (p : ProcessOf (Unit {0})) (number : ℕ) (entries new : Numbered CountedSection) → process_of w pid ≡ Some p → new ≡ set entries number (option_map one_handle_more (numbered entries number)) → Counts w entries → Counts (with_handle w pid p number) new
handle_counts w pid p number entries new lives e h =
    counts_set w (with_handle w pid p number) number one_handle_more entries new e
    (λ c k. record {
      handles = omega (arith, k.handles, handles_more w pid p number lives number true (same_number number number refl));
      views = k.views ∙ sym (views_same w pid p number lives number);
    })
    (λ n c other k. record {
      handles = omega (arith, k.handles, handles_more w pid p number lives n false (differ number n (λ same. other (sym same))));
      views = k.views ∙ sym (views_same w pid p number lives n);
    })
    h

-- ---- a new section

none_handled : (w : Tables) (number : ℕ) → References w → section_of w number ≡ None → (pid : ℕ) → handles_in number (numbered w.processes pid) ≡ 0
none_handled w number refers none pid = by_process (numbered w.processes pid) refl
  where
    none_of_these : (hs : Numbered ℕ) → ((place n : ℕ) → numbered hs place ≡ Some n → is_some (section_of w n) ≡ true) → count_by (is_handle_to number) hs ≡ 0
    none_of_these [] h = refl
    none_of_these (x ∷ hs) h =
        omega (arith, sum_by-cons (λ (x : Option ℕ). cond (is_handle_to number x) 1 0) x hs, none_of_these hs (λ place n e. h (suc place) n e), here x refl)
      where
        here : (o : Option ℕ) → x ≡ o → one_if (is_handle_to number o) ≡ 0
        here None e = refl
        here (Some n) e = ap one_if (differ n number (λ same.
            let bad : false ≡ true = ap is_some (sym none) ∙ ap (λ (k : ℕ). is_some (section_of w k)) (sym same) ∙ h 0 n e in
            cc))

    by_process : (o : Option (ProcessOf (Unit {0}))) → numbered w.processes pid ≡ o → handles_in number o ≡ 0
    by_process None e = refl
    by_process (Some p) e = none_of_these p.handles (refers.processes pid p e).handles

none_viewed : (w : Tables) (number : ℕ) → References w → section_of w number ≡ None → (pid : ℕ) → views_in number (numbered w.processes pid) ≡ 0
none_viewed w number refers none pid = by_process (numbered w.processes pid) refl
  where
    in_kind : (k : Kind) (count : ℕ) → ((v : View) → k ≡ kind.View v → ViewFits w v count) → one_if (is_view_of number k) ≡ 0
    in_kind kind.Private count h = refl
    in_kind (kind.View v) count h =
        ap one_if (differ v.section.0 number (λ same.
        let f = h v refl in
        let bad : None ≡ Some f.section = sym none ∙ ap (section_of w) (sym same) ∙ f.lives in
        cc))

    in_regions : (rs : List (RegionOf (Unit {0}))) → Each (RegionRefers w) rs → count_by (λ (r : RegionOf (Unit {0})). is_view_of number r.kind) rs ≡ 0
    in_regions [] h = refl
    in_regions (r ∷ rs) h =
        omega (arith, sum_by-cons (λ (r : RegionOf (Unit {0})). cond (is_view_of number r.kind) 1 0) r rs, in_kind r.kind (length r.rows) h.0, in_regions rs h.1)

    by_process : (o : Option (ProcessOf (Unit {0}))) → numbered w.processes pid ≡ o → views_in number o ≡ 0
    by_process None e = refl
    by_process (Some p) e = in_regions p.regions (refers.processes pid p e).views

sum_none : {A : Type 0} (f : Option A → ℕ) (xs : List (Option A)) → ((i : ℕ) → f (get_or xs i None) ≡ 0) → sum_by f xs ≡ 0
sum_none f xs h = omega (arith, sum_few f 0 xs (λ i. omega (arith, h i)))

-- one handle more to the section that was made last
set_last : (entries : Numbered CountedSection) (c : CountedSection) → set (entries ++ Some c ∷ []) (length entries) (option_map one_handle_more (numbered (entries ++ Some c ∷ []) (length entries))) ≡ entries ++ Some (one_handle_more c) ∷ []
set_last [] c = refl
set_last (e ∷ es) c = ap (λ rest. e ∷ rest) (set_last es c)

pub handled_last : (entries new : Numbered CountedSection) (c : CountedSection) (number : ℕ) → new ≡ entries ++ Some c ∷ [] → number ≡ length entries → set new number (option_map one_handle_more (numbered new number)) ≡ entries ++ Some (one_handle_more c) ∷ []
handled_last entries new c number e at = (λ i. set (e i) (at i) (option_map one_handle_more (numbered (e i) (at i)))) ∙ set_last entries c

pub section_counts : (w : Tables) (pid : ℕ) (p : ProcessOf (Unit {0})) (s : SectionOf) (entries new : Numbered CountedSection) → process_of w pid ≡ Some p → References w → w.sections ≡ sections_of entries → new ≡ entries ++ Some (one_handle_more (new_entry s.prot s.name s.area)) ∷ [] → Counts w entries → Counts (with_handle (with_section w s) pid p (length w.sections)) new
section_counts w pid p s entries new lives refers listed e h =
    let number = length w.sections in
    let fresh : CountedSection = new_entry s.prot s.name s.area in
    let count : length w.sections ≡ length entries = ap (λ (ss : Numbered SectionOf). length ss) listed ∙ length_sections entries in
    let none = none_at_end w.sections number refl in
    let handles : handles_to w number ≡ 0 = sum_none (handles_in number) w.processes (none_handled w number refers none) in
    let views : views_of w number ≡ 0 = sum_none (views_in number) w.processes (none_viewed w number refers none) in
    handle_counts (with_section w s) pid p number (entries ++ Some fresh ∷ []) new lives
    (e ∙ sym (handled_last entries (entries ++ Some fresh ∷ []) fresh number refl count)) (λ n c at.
    elim (same_or_not n number) [
      | inl same ↦
          subst (λ (c : CountedSection). IsCounted (with_section w s) n c) (same_some fresh c (sym (push_at entries (Some fresh) n (same ∙ count)) ∙ at)) (record {
            handles = sym (ap (λ (k : ℕ). handles_to w k) same ∙ handles);
            views = sym (ap (λ (k : ℕ). views_of w k) same ∙ views);
          })
      | inr other ↦
          let old = h n c (sym (push_other entries (Some fresh) n (λ k. other (k ∙ sym count))) ∙ at) in
          record { handles = old.handles; views = old.views }
    ])

-- ---- A store stays that of the tables where processes have the same regions; sections and files are not its business

abbrev pub with_processes : Tables → List (Option (ProcessOf (Unit {0}))) → Numbered SectionOf → List FileOf → Tables
with_processes w ps sections files = record w { processes = ps; sections = sections; files = files }

-- a store with what goes by open processes and files from another
abbrev pub with_open_of : StoreOf → StoreOf → StoreOf
with_open_of s z = record s { is_open = z.is_open; last_pid = z.last_pid; file_blocks = z.file_blocks; report = z.report; file_device = z.file_device }

module _ (w : Tables) (ps : List (Option (ProcessOf (Unit {0})))) (sections : Numbered SectionOf) (files : List FileOf) (same : (q : ℕ) → regions_in (with_processes w ps sections files) q ≡ regions_in w q) where
  reserved_same : (place : Place) → is_reserved (with_processes w ps sections files) place ≡ is_reserved w place
  reserved_same place =
      reserved_is (with_processes w ps sections files) place ∙ ap (λ rs. is_some (region_with rs place.vpn.0)) (same place.pid.0) ∙ sym (reserved_is w place)

  live_same : (k : Key) → is_some (content_of (with_processes w ps sections files) k) ≡ is_some (content_of w k)
  live_same (key.Private q n) =
      ap is_some (content_is (with_processes w ps sections files) q.0 n.0) ∙ ap (λ rs. is_some (own_page rs n.0)) (same q.0) ∙ sym (ap is_some (content_is w q.0 n.0))
  live_same (key.Shared area i) = refl

  paging_same : (k : Key) → is_paging (with_processes w ps sections files) k ≡ is_paging w k
  paging_same (key.Private q n) = ap (λ b. b && true) (live_same (key.Private q n))
  paging_same (key.Shared area i) = refl

  block_same : (k : Key) → file_block_in (with_processes w ps sections files) k ≡ file_block_in w k
  block_same (key.Private q n) = refl
  block_same (key.Shared area i) = refl

  key_same : (place : Place) → key_at (with_processes w ps sections files) place ≡ key_at w place
  key_same place =
      key_at_is (with_processes w ps sections files) place ∙ ap (λ rs. key_in (with_processes w ps sections files) place.pid.0 rs place.vpn.0) (same place.pid.0)
      ∙ key_in_same (with_processes w ps sections files) w place.pid.0 (regions_in w place.pid.0) place.vpn.0 refl ∙ sym (key_at_is w place)

  pub fits_processes : (c : Key → Option Page) (s z : StoreOf) → z ≡ with_open_of s z → ((q : ℕ) → z.is_open q ≡ is_some (numbered ps q)) → z.last_pid + 1 ≡ length ps → length z.file_blocks ≡ length s.file_blocks → length z.file_device.named ≡ length s.file_device.named → paging_count (with_processes w ps sections files) ≡ paging_count w → charge (with_processes w ps sections files) ≡ charge w → FitsTables w c s → FitsTables (with_processes w ps sections files) c z
  fits_processes c s z rest opened count stored named counted charged f =
      record {
        machine = ap (λ (x : StoreOf). x.machine) rest ∙ f.machine;
        opened = opened;
        last_pid = count;
        areas = λ area. ap (λ (x : StoreOf). x.areas area) rest ∙ f.areas area;
        bound = λ place. ap (λ (x : StoreOf). x.bound place) rest ∙ f.bound place ∙ sym (reserved_same place);
        live = λ k. f.live k ∙ sym (live_same k);
        paging = λ k. ap (λ (x : StoreOf). x.paging k) rest ∙ f.paging k ∙ sym (paging_same k);
        counted = ap (λ (x : StoreOf). x.paging_keys) rest ∙ f.counted ∙ sym counted;
        room = omega (arith, f.room, ap (λ (x : StoreOf). x.room) rest, charged);
        named = λ place k e. key_same place ∙ f.named place k (sym (ap (λ (x : StoreOf). x.names place) rest) ∙ e);
        blocks = λ k. ap (λ (x : StoreOf). x.block_of k) rest ∙ f.blocks k ∙ sym (block_same k);
        used = ap (λ (x : StoreOf). x.blocks_used) rest ∙ f.used;
        stored = stored ∙ f.stored;
        named_paging = omega (arith, f.named_paging, ap (λ (x : StoreOf). length x.paging_device.named) rest);
        named_file = omega (arith, f.named_file, named);
      }

-- what is read of a thing stays where one is set, or more, of which the same is read
read_set : {A V : Type 0} (read : Option A → V) (xs : List (Option A)) (i j : ℕ) (x : Option A) → read x ≡ read (get_or xs i None) → read (get_or (set xs i x) j None) ≡ read (get_or xs j None)
read_set read (y ∷ xs) zero zero x e = e
read_set read (y ∷ xs) (suc i) (suc j) x e = read_set read xs i j x e
read_set read _ _ _ x e = refl

pub read_push : {A V : Type 0} (read : Option A → V) (xs : List (Option A)) (x : Option A) (j : ℕ) → read x ≡ read None → read (get_or (xs ++ x ∷ []) j None) ≡ read (get_or xs j None)
read_push read [] x zero e = e
read_push read (y ∷ xs) x (suc j) e = read_push read xs x j e
read_push read _ x _ e = refl

pub fits_handle : (w : Tables) (pid : ℕ) (p : ProcessOf (Unit {0})) (number : ℕ) (sections : Numbered SectionOf) → process_of w pid ≡ Some p → (c : Key → Option Page) (s : StoreOf) → FitsTables w c s → FitsTables (record (with_handle w pid p number) { sections = sections }) c s
fits_handle w pid p number sections lives c s f =
    let q : Option (ProcessOf (Unit {0})) = Some (record p { handles = p.handles ++ Some number ∷ [] }) in
    let spaces : Option (ProcessOf (Unit {0})) → List (RegionOf (Unit {0})) = λ o. unwrap_or (option_map (λ (p : ProcessOf (Unit {0})). p.regions) o) [] in
    fits_processes w (set w.processes pid q) sections w.files (λ j. read_set spaces w.processes pid j q (ap spaces (sym lives))) c s s refl
    (λ j. f.opened j ∙ sym (read_set is_some w.processes pid j q (ap is_some (sym lives)))) (f.last_pid ∙ sym (length-set w.processes pid q)) refl refl
    (omega (arith, sum_by-put owned_keys w.processes pid (Some p) q (numbered_there w.processes pid p lives))) (with_handle_charge w pid p number lives) f

-- ---- the key of a committed row, where committed pages that views have stay

home_stays : (w v : Tables) (i : ℕ) (k : Kind) (own : Option (Unit {0})) (home : Home (Unit {0})) → ((x : View) → k ≡ kind.View x → is_some (shared_page w x.area.0 (x.first + i)) ≡ true → is_some (shared_page v x.area.0 (x.first + i)) ≡ true) → HomeCases w i k own home → home_in v i k own ≡ Some home
home_stays w v i k own home h (IsOwn bytes at_own at_home) = ap (home_in v i k) at_own ∙ ap (λ (x : Home (Unit {0})). Some x) (sym at_home)
home_stays w v i k own home h (IsShared x page at_kind at_own at_page at_home) =
    let there = some_found (shared_page v x.area.0 (x.first + i)) (h x at_kind (ap is_some at_page)) in
    (λ j. home_in v i (at_kind j) (at_own j))
    ∙ ap (λ (o : Option (Unit {0})). option_map (λ (page : Unit {0}). InSection x.area.0 (x.first + i)) o) there.1
    ∙ ap (λ (x : Home (Unit {0})). Some x) (sym at_home)

-- the pages of an area that a view of a process has
abbrev pub PagesStay : Tables → Tables → Type 0
PagesStay w v =
    (q j : ℕ) (p : ProcessOf (Unit {0})) (r : RegionOf (Unit {0})) (x : View) (i : ℕ) → process_of w q ≡ Some p → slice_get p.regions j ≡ Some r → r.kind ≡ kind.View x
    → is_some (shared_page w x.area.0 i) ≡ true → is_some (shared_page v x.area.0 i) ≡ true

committed_stays : (w v : Tables) → PagesStay w v → (q : ℕ) (p : ProcessOf (Unit {0})) (page : ℕ) (c : Committed (Unit {0})) → process_of w q ≡ Some p → committed_at w p.regions page ≡ Some c → committed_at v p.regions page ≡ Some c
committed_stays w v h q p page c lives e =
    let is = committed_is w p.regions page c e in
    let i = page - c.region.thing.base in
    let home = home_stays w v i c.region.thing.kind c.row.own c.home (λ x at_kind. h q c.region.place p c.region.thing x (x.first + i) lives (found_stands _ p.regions c.region is.region).there at_kind)
    (home_cases w i c.region.thing.kind c.row.own c.home is.home_there) in
    ap (λ (r : Option (Found (RegionOf (Unit {0})))). option_and_then (λ (r : Found (RegionOf (Unit {0}))). committed_in v r (page - r.thing.base) (row_at r.thing page)) r) is.region
    ∙ ap (λ (row : Option (RowOf (Unit {0}))). committed_in v c.region i row) is.row_there
    ∙ ap (λ (o : Option (Home (Unit {0}))). option_map (λ (home : Home (Unit {0})). let made : Committed (Unit {0}) = record { region = c.region; row = c.row; home = home } in made) o) home

pub key_stays : (w : Tables) (areas : List (AreaOf (Unit {0}))) (used : ℕ) → PagesStay w (with_areas w areas used) → (place : Place) (k : Key) → key_at w place ≡ Some k → key_at (with_areas w areas used) place ≡ Some k
key_stays w areas used h place k e = by_process (process_of w place.pid.0) refl e
  where
    of_row : Option (Committed (Unit {0})) → Option Key
    of_row o = option_map (λ (c : Committed (Unit {0})). key_of place.pid.0 place.vpn.0 c.home) o

    by_row : (p : ProcessOf (Unit {0})) → process_of w place.pid.0 ≡ Some p → (o : Option (Committed (Unit {0}))) → committed_at w p.regions place.vpn.0 ≡ o → of_row o ≡ Some k → of_row (committed_at (with_areas w areas used) p.regions place.vpn.0) ≡ Some k
    by_row p lives None at e = cc
    by_row p lives (Some c) at e = ap of_row (committed_stays w (with_areas w areas used) h place.pid.0 p place.vpn.0 c lives at) ∙ e

    by_process : (o : Option (ProcessOf (Unit {0}))) → process_of w place.pid.0 ≡ o → option_and_then (λ (p : ProcessOf (Unit {0})). of_row (committed_at w p.regions place.vpn.0)) o ≡ Some k → option_and_then (λ (p : ProcessOf (Unit {0})). of_row (committed_at (with_areas w areas used) p.regions place.vpn.0)) o ≡ Some k
    by_process None lives e = cc
    by_process (Some p) lives e = by_row p lives (committed_at w p.regions place.vpn.0) refl e

-- ---- one area is another

-- a key of another area, or a private one
abbrev pub IsOld : ℕ → Key → Type 0
IsOld at (key.Private pid page) = Unit {0}
IsOld at (key.Shared area i) = area.0 ≢ at

-- a store with all that goes by areas and files from another
abbrev pub with_area_of : StoreOf → StoreOf → StoreOf
with_area_of s z =
    record s {
      areas = z.areas;
      paging = z.paging;
      paging_keys = z.paging_keys;
      room = z.room;
      block_of = z.block_of;
      blocks_used = z.blocks_used;
      file_blocks = z.file_blocks;
      report = z.report;
      file_device = z.file_device;
    }

-- the area `at` is `a` now, what the store shows of it, and that the rest is as before
pub record Grown (w : Tables) (areas : List (AreaOf (Unit {0}))) (at : ℕ) (a : AreaOf (Unit {0})) (used : ℕ) (c d : Key → Option Page) (s z : StoreOf) : Type 0 where
  pub here : area_in areas at ≡ a
  pub before : (q : ℕ) → q ≢ at → area_in areas q ≡ area_at w q
  pub stays : PagesStay w (with_areas w areas used)
  pub live_new : (area : Area) (i : ℕ) → area.0 ≡ at → is_some (d (key.Shared area i)) ≡ is_some (numbered a.pages i)
  pub live_old : (k : Key) → IsOld at k → is_some (d k) ≡ is_some (c k)
  pub paging_new : (area : Area) (i : ℕ) → area.0 ≡ at → z.paging (key.Shared area i) ≡ (is_some (numbered a.pages i) && not (is_some a.file_block))
  pub paging_old : (k : Key) → IsOld at k → z.paging k ≡ s.paging k
  pub block_new : (area : Area) (i : ℕ) → area.0 ≡ at → z.block_of (key.Shared area i) ≡ cond (is_some (numbered a.pages i)) (option_map (λ (first : ℕ). first + i) a.file_block) None
  pub block_old : (k : Key) → IsOld at k → z.block_of k ≡ s.block_of k
  pub areas_new : z.areas at ≡ cond (length a.pages == 0) None (Some (length a.pages))
  pub areas_old : (q : ℕ) → q ≢ at → z.areas q ≡ s.areas q
  pub counted : z.paging_keys ≡ paging_count (with_areas w areas used)
  pub room : charge (with_areas w areas used) ≤ z.room
  pub blocks_used : z.blocks_used ≡ used
  pub rest : z ≡ with_area_of s z
  pub stored : length z.file_blocks ≡ length s.file_blocks
  pub named_file : length z.file_device.named ≡ length s.file_device.named

-- committed pages of the area stay, if it was there
pub pages_stay : (w : Tables) (areas : List (AreaOf (Unit {0}))) (at : ℕ) (a : AreaOf (Unit {0})) (used : ℕ) → area_in areas at ≡ a → ((q : ℕ) → q ≢ at → area_in areas q ≡ area_at w q) → ((i : ℕ) → is_some (shared_page w at i) ≡ true → is_some (numbered a.pages i) ≡ true) → PagesStay w (with_areas w areas used)
pages_stay w areas at a used here before stays q j p r x i lives there is e =
    elim (same_or_not x.area.0 at) [
      | inl same ↦
          ap (λ (k : ℕ). is_some (numbered (area_in areas k).pages i)) same ∙ ap (λ (b : AreaOf (Unit {0})). is_some (numbered b.pages i)) here
          ∙ stays i (ap (λ (k : ℕ). is_some (shared_page w k i)) (sym same) ∙ e)
      | inr other ↦ ap (λ (b : AreaOf (Unit {0})). is_some (numbered b.pages i)) (before x.area.0 other) ∙ e
    ]

-- an area that is not there yet has no page
pub pages_before : (w : Tables) (a : AreaOf (Unit {0})) (used : ℕ) → PagesStay w (with_areas w (w.areas ++ a ∷ []) used)
pages_before w a used =
    pages_stay w (w.areas ++ a ∷ []) (length w.areas) a used (area_at_end w.areas a (length w.areas) refl) (area_before w.areas a) (λ i e.
    let bad : false ≡ true = sym (ap (λ (a : AreaOf (Unit {0})). is_some (numbered a.pages i)) (no_area_past w.areas (length w.areas) (omega arith))) ∙ e in
    cc)

-- a key of no file has no block
pub no_block : (b : Bool) (i : ℕ) (o : Option ℕ) → o ≡ None → cond b (option_map (λ (first : ℕ). first + i) o) None ≡ None
no_block true i o e = ap (option_map (λ (first : ℕ). first + i)) e
no_block false i o e = refl

pub opened_some : (n : ℕ) → 1 ≤ n → Some n ≡ cond (n == 0) None (Some n)
opened_some n h = sym (ap (λ b. cond b None (Some n)) (differ n 0 (λ e. absurd (omega (arith, e, h)))))

module _ (w : Tables) (areas : List (AreaOf (Unit {0}))) (at : ℕ) (a : AreaOf (Unit {0})) (used : ℕ) (c d : Key → Option Page) (s z : StoreOf) (g : Grown w areas at a used c d s z) where
  by_area : (P : AreaOf (Unit {0}) → Type 0) (q : ℕ) → (q ≡ at → P a) → (q ≢ at → P (area_at w q)) → P (area_in areas q)
  by_area P q new old =
      elim (same_or_not q at) [
        | inl same ↦ subst P (sym (ap (λ (k : ℕ). area_in areas k) same ∙ g.here)) (new same)
        | inr other ↦ subst P (sym (g.before q other)) (old other)
      ]

  live_at : FitsTables w c s → (k : Key) → is_some (d k) ≡ is_some (content_of (with_areas w areas used) k)
  live_at f (key.Private pid page) = g.live_old (key.Private pid page) tt ∙ f.live (key.Private pid page)
  live_at f (key.Shared area i) =
      by_area (λ b. is_some (d (key.Shared area i)) ≡ is_some (numbered b.pages i)) area.0 (g.live_new area i)
      (λ other. g.live_old (key.Shared area i) other ∙ f.live (key.Shared area i))

  paging_at : FitsTables w c s → (k : Key) → z.paging k ≡ is_paging (with_areas w areas used) k
  paging_at f (key.Private pid page) = g.paging_old (key.Private pid page) tt ∙ f.paging (key.Private pid page)
  paging_at f (key.Shared area i) =
      by_area (λ b. z.paging (key.Shared area i) ≡ (is_some (numbered b.pages i) && not (is_some b.file_block))) area.0 (g.paging_new area i)
      (λ other. g.paging_old (key.Shared area i) other ∙ f.paging (key.Shared area i))

  block_at : FitsTables w c s → (k : Key) → z.block_of k ≡ file_block_in (with_areas w areas used) k
  block_at f (key.Private pid page) = g.block_old (key.Private pid page) tt ∙ f.blocks (key.Private pid page)
  block_at f (key.Shared area i) =
      by_area (λ b. z.block_of (key.Shared area i) ≡ cond (is_some (numbered b.pages i)) (option_map (λ (first : ℕ). first + i) b.file_block) None) area.0 (g.block_new area i)
      (λ other. g.block_old (key.Shared area i) other ∙ f.blocks (key.Shared area i))

  area_open : FitsTables w c s → (q : ℕ) → z.areas q ≡ open_pages (with_areas w areas used) q
  area_open f q =
      by_area (λ b. z.areas q ≡ cond (length b.pages == 0) None (Some (length b.pages))) q
      (λ same. ap (λ (k : ℕ). z.areas k) same ∙ g.areas_new) (λ other. g.areas_old q other ∙ f.areas q)

  pub fits_area : FitsTables w c s → FitsTables (with_areas w areas used) d z
  fits_area f =
      record {
        machine = ap (λ (x : StoreOf). x.machine) g.rest ∙ f.machine;
        opened = λ q. ap (λ (x : StoreOf). x.is_open q) g.rest ∙ f.opened q;
        last_pid = ap (λ (x : StoreOf). x.last_pid + 1) g.rest ∙ f.last_pid;
        areas = area_open f;
        bound = λ place. ap (λ (x : StoreOf). x.bound place) g.rest ∙ f.bound place;
        live = live_at f;
        paging = paging_at f;
        counted = g.counted;
        room = g.room;
        named = λ place k e. key_stays w areas used g.stays place k (f.named place k (sym (ap (λ (x : StoreOf). x.names place) g.rest) ∙ e));
        blocks = block_at f;
        used = g.blocks_used;
        stored = g.stored ∙ f.stored;
        named_paging = omega (arith, f.named_paging, ap (λ (x : StoreOf). length x.paging_device.named) g.rest);
        named_file = omega (arith, f.named_file, g.named_file);
      }

-- ---- a handle or a section is made: what tables keep, and what the store holds of its area

pub kept_as : (t after : Tables) (entries : Numbered CountedSection) (commit : CommitOf) → after ≡ t → AreKeptTables t entries commit → AreKeptTables after entries commit
kept_as t after entries commit same h = subst (λ (t : Tables). AreKeptTables t entries commit) (sym same) h

-- ---- only room was had

module _ (i : Inside) {ps : List (Option (ProcessOf (Unit {0})))} {es : Numbered CountedSection} {areas : List (AreaOf (Unit {0}))} {files : List FileOf} (a : ps ≡ shown_processes i.processes.items) (b : es ≡ i.directory.entries) (c : areas ≡ i.areas.items) (d : files ≡ i.directory.files) where
  pub same_tables : {t : Tables} → as_kept i ≡ t → now i ps es areas files i.blocks_used ≡ t
  same_tables view = (λ j. now i (a j) (b j) (c j) (d j) i.blocks_used) ∙ view

  pub same_kept : AreKeptTables (as_kept i) i.directory.entries i.commit → AreKeptTables (now i ps es areas files i.blocks_used) es i.commit
  same_kept k =
      subst (λ (es : Numbered CountedSection). AreKeptTables (now i ps es areas files i.blocks_used) es i.commit) (sym b)
      (kept_as (as_kept i) (now i ps i.directory.entries areas files i.blocks_used) i.directory.entries i.commit (λ j. now i (a j) i.directory.entries (c j) (d j) i.blocks_used) k)

-- ---- a handle

pub handle_few : (i : Inside) {t : Tables} (number : ℕ) → as_kept i ≡ t → AreKeptTables (as_kept i) i.directory.entries i.commit → IsFew t → IfSome (numbered i.directory.entries number) (λ c. c.handles < 2 ^ 60)
handle_few i number view k few =
    let here = subst (λ (t : Tables). IsFew t) (sym view) few in
    if_some (numbered i.directory.entries number) (λ c. c.handles < 2 ^ 60)
    (λ c e. omega (arith, (k.counted number c e).handles, handles_few (as_kept i) here k.sound.numbers number))

-- room was had, a reference was counted in the directory, and the process was given its handle
module _ (i : Inside) {t : Tables} (pid number : ℕ) {ps : List (Option (ProcessOf (Unit {0})))} {d : DirectoryOf} (view : as_kept i ≡ t) (given : (p : ProcessOf (Unit {0})) → numbered (shown_processes i.processes.items) pid ≡ Some p → ps ≡ set (shown_processes i.processes.items) pid (Some (record p { handles = p.handles ++ Some number ∷ [] }))) (counted : d ≡ record (i.directory) { entries = set i.directory.entries number (option_map one_handle_more (numbered i.directory.entries number)) }) (p : ProcessOf (Unit {0})) (alive : process_of t pid ≡ Some p) where
  lives : numbered (shown_processes i.processes.items) pid ≡ Some p
  lives = ap (λ (t : Tables). process_of t pid) view ∙ alive

  entries : d.entries ≡ set i.directory.entries number (option_map one_handle_more (numbered i.directory.entries number))
  entries = ap (λ (d : DirectoryOf). d.entries) counted

  handle_is : now i ps d.entries i.areas.items d.files i.blocks_used ≡ with_handle (as_kept i) pid p number
  handle_is =
      λ j. record (as_kept i) { processes = given p lives j; sections = sections_kept i.directory.entries d.entries number entries j; files = ap (λ (d : DirectoryOf). d.files) counted j }

  pub handle_kept : is_some (section_of t number) ≡ true → AreKeptTables (as_kept i) i.directory.entries i.commit → AreKeptTables (now i ps d.entries i.areas.items d.files i.blocks_used) d.entries i.commit
  handle_kept known k =
      let w = as_kept i in
      let there = ap (λ (t : Tables). is_some (section_of t number)) view ∙ known in
      kept_as (with_handle w pid p number) (now i ps d.entries i.areas.items d.files i.blocks_used) d.entries i.commit handle_is (record {
        sound = sound_edit w (with_handle w pid p number) (HandleComes pid p number lives there) (omega (arith, k.sound.charged, with_handle_charge w pid p number lives)) k.sound;
        tidy = put_tidy w pid p (record p { handles = p.handles ++ Some number ∷ [] }) lives (λ n. any_more (is_handle_to n) p.handles (Some number)) (λ n h. h) k.tidy;
        counted = (handle_counts w pid p number i.directory.entries d.entries lives entries k.counted);
        charged = k.charged ∙ sym (with_handle_charge w pid p number lives);
        limited = k.limited;
      })

  pub handle_now : now i ps d.entries i.areas.items d.files i.blocks_used ≡ with_handle t pid p number
  handle_now = handle_is ∙ ap (λ (t : Tables). with_handle t pid p number) view

  pub handle_settled : (c : Key → Option Page) (s : StoreOf) → FitsTables t c s → Settled (now i ps d.entries i.areas.items d.files i.blocks_used) c c s s
  handle_settled c s f =
      let w = as_kept i in
      settled_as handle_is (settled_same (with_handle w pid p number) c s (fits_handle w pid p number w.sections lives c s (subst (λ (t : Tables). FitsTables t c s) (sym view) f)))

-- ---- a section with a handle

section_kept : (w : Tables) (pid : ℕ) (p : ProcessOf (Unit {0})) (s : SectionOf) (entries new : Numbered CountedSection) (commit : CommitOf) → process_of w pid ≡ Some p → s.area < length w.areas → w.sections ≡ sections_of entries → new ≡ entries ++ Some (one_handle_more (new_entry s.prot s.name s.area)) ∷ [] → WellFormed w → Settles s.area w → Rest w → MayList w s → Counts w entries → commit.charge ≡ charge w → commit.limit ≡ limit w → AreKeptTables (new_section w pid p s).world new commit
section_kept w pid p s entries new commit lives inside listed e well settles rest may counts charged limited =
    let v = with_handle (with_section w s) pid p (length w.sections) in
    record {
      sound = new_section_well w pid p s lives inside well;
      tidy = tidy_by v (section_settles w pid p s lives settles) (handle_rest (with_section w s) pid p (length w.sections) (section_rest w s may rest));
      counted = (section_counts w pid p s entries new lives well.references listed e counts);
      charged = charged ∙ sym (with_handle_charge (with_section w s) pid p (length w.sections) lives);
      limited = limited;
    }

-- a section was listed with a handle to it: what becomes of the processes and the directory
pub record ListsSection (i : Inside) (t : Tables) (pid : ℕ) (s : SectionOf) (ps : List (Option (ProcessOf (Unit {0})))) (es : Numbered CountedSection) (files : List FileOf) : Type 0 where
  pub view : as_kept i ≡ t
  pub made : (p : ProcessOf (Unit {0})) → numbered (shown_processes i.processes.items) pid ≡ Some p → ps ≡ set (shown_processes i.processes.items) pid (Some (record p { handles = p.handles ++ Some (length i.directory.entries) ∷ [] }))
  pub entries : es ≡ i.directory.entries ++ Some (one_handle_more (new_entry s.prot s.name s.area)) ∷ []
  pub files_are : files ≡ i.directory.files

-- after room was had
pub lists : (i : Inside) {t : Tables} (pid : ℕ) (s : SectionOf) {ps : List (Option (ProcessOf (Unit {0})))} {old es : Numbered CountedSection} {kept files : List FileOf} → as_kept i ≡ t → old ≡ i.directory.entries → kept ≡ i.directory.files → ((p : ProcessOf (Unit {0})) → numbered (shown_processes i.processes.items) pid ≡ Some p → ps ≡ set (shown_processes i.processes.items) pid (Some (record p { handles = p.handles ++ Some (length old) ∷ [] }))) → es ≡ old ++ Some (one_handle_more (new_entry s.prot s.name s.area)) ∷ [] → files ≡ kept → ListsSection i t pid s ps es files
lists i pid s view grown_entries grown_files given entries files =
    record {
      view = view;
      made = λ p here.
          given p here ∙ (λ j. set (shown_processes i.processes.items) pid (Some (record p { handles = p.handles ++ Some (length (grown_entries j)) ∷ [] })));
      entries = entries ∙ ap (λ es. es ++ Some (one_handle_more (new_entry s.prot s.name s.area)) ∷ []) grown_entries;
      files_are = files ∙ grown_files;
    }

area_inside : (w : Tables) (area first : ℕ) → (area_at w area).file_block ≡ Some first → area < length w.areas
area_inside w area first e = by_list w.areas area e
  where
    by_list : (areas : List (AreaOf (Unit {0}))) (area : ℕ) → (unwrap_or (slice_get areas area) (record { file_block = None; pages = [] })).file_block ≡ Some first → area < length areas
    by_list [] area e = cc
    by_list (a ∷ rest) zero e = omega arith
    by_list (a ∷ rest) (suc area) e = omega (arith, by_list rest area e)

module _ {i : Inside} {t : Tables} {pid : ℕ} {s : SectionOf} {ps : List (Option (ProcessOf (Unit {0})))} {es : Numbered CountedSection} {files : List FileOf} (l : ListsSection i t pid s ps es files) (p : ProcessOf (Unit {0})) (alive : process_of t pid ≡ Some p) where
  here : numbered (shown_processes i.processes.items) pid ≡ Some p
  here = ap (λ (t : Tables). process_of t pid) l.view ∙ alive

  section_is : {areas later : List (AreaOf (Unit {0}))} → areas ≡ later → now i ps es areas files i.blocks_used ≡ (new_section (record (as_kept i) { areas = later }) pid p s).world
  section_is e =
      let made : ps ≡ set (shown_processes i.processes.items) pid (Some (record p { handles = p.handles ++ Some (length (sections_of i.directory.entries)) ∷ [] })) =
      l.made p here ∙ (λ j. set (shown_processes i.processes.items) pid (Some (record p { handles = p.handles ++ Some (sym (length_sections i.directory.entries) j) ∷ [] }))) in
      λ j. record (as_kept i) {
        processes = made j;
        sections = sections_more i.directory.entries es (one_handle_more (new_entry s.prot s.name s.area)) l.entries j;
        areas = e j;
        files = l.files_are j;
      }

  -- ---- of a file

  pub file_section_kept : is_some (area_at t s.area).file_block ≡ true → AreKeptTables (as_kept i) i.directory.entries i.commit → AreKeptTables (now i ps es i.areas.items files i.blocks_used) es i.commit
  file_section_kept known k =
      let w = as_kept i in
      let first = some_found (area_at w s.area).file_block (ap (λ (t : Tables). is_some (area_at t s.area).file_block) l.view ∙ known) in
      kept_as (new_section w pid p s).world (now i ps es i.areas.items files i.blocks_used) es i.commit (section_is refl)
      (section_kept w pid p s i.directory.entries es i.commit here (area_inside w s.area first.0 first.1) refl l.entries k.sound (settles_of s.area w k.tidy.settled) (rest_of w k.tidy)
      (record {
        alone = λ none n r at same. (let bad : Some first.0 ≡ None = sym first.1 ∙ none in cc);
        some = (k.tidy.files s.area first.0 first.1).some;
      }) k.counted k.charged k.limited)

  pub file_section_now : now i ps es i.areas.items files i.blocks_used ≡ (new_section t pid p s).world
  file_section_now = section_is refl ∙ ap (λ (t : Tables). (new_section t pid p s).world) l.view

  pub file_section_settled : (c : Key → Option Page) (z : StoreOf) → FitsTables t c z → Settled (now i ps es i.areas.items files i.blocks_used) c c z z
  file_section_settled c z f =
      let w = as_kept i in
      settled_as (section_is refl) (settled_same (new_section w pid p s).world c z
      (fits_handle w pid p (length w.sections) (w.sections ++ Some s ∷ []) here c z (subst (λ (t : Tables). FitsTables t c z) (sym l.view) f)))

-- ---- A page-file section with its area: what the store holds of it, and what the tables keep

abbrev pub paging_pages : ℕ → Bool → AreaOf (Unit {0})
paging_pages pages committed = record { file_block = None; pages = replicate pages (page_if committed) }

abbrev pub committed_pages : ℕ → Bool → ℕ
committed_pages pages committed = cond committed pages 0

-- ---- a replicated page

pub replicated : {A : Type 0} (n i : ℕ) (x : A) → is_some (numbered (replicate n (Some x)) i) ≡ nat_lt i n
replicated n i x =
    same_tests _ _ (λ e. let p = some_found (numbered (replicate n (Some x)) i) e in le-leb _ _ (omega (arith, numbered_inside (replicate n (Some x)) i p.0 p.1, length-replicate n (Some x))))
    (λ e. ap is_some (get_or-replicate n i (Some x) None (less _ _ e)))

pub page_there : (pages : ℕ) (committed : Bool) (i : ℕ) → is_some (numbered (paging_pages pages committed).pages i) ≡ nat_lt i (committed_pages pages committed)
page_there pages true i = replicated pages i tt
page_there pages false i = ap is_some (none_replicated pages i) ∙ sym (none_below i)

pub paging_charge : (pages : ℕ) (committed : Bool) → area_charge (paging_pages pages committed) ≡ committed_pages pages committed
paging_charge pages true = omega (arith, sum_by-replicate (λ (page : Option (Unit {0})). cond (is_some page && true) 1 0) pages (Some tt))
paging_charge pages false = omega (arith, sum_by-replicate (λ (page : Option (Unit {0})). cond (is_some page && true) 1 0) pages None)

-- ---- the area is new

pub area_free : (t : Tables) (c : Key → Option Page) (s : StoreOf) (number : ℕ) → FitsTables t c s → number ≡ length t.areas → s.areas number ≡ None
area_free t c s number f e = f.areas number ∙ ap (λ (a : AreaOf (Unit {0})). cond (length a.pages == 0) None (Some (length a.pages))) (no_area_past t.areas number (omega (arith, e)))

pub key_free : (t : Tables) (c : Key → Option Page) (s : StoreOf) (area : Area) (i : ℕ) → FitsTables t c s → area.0 ≡ length t.areas → c (key.Shared area i) ≡ None
key_free t c s area i f e =
    none_of (c (key.Shared area i)) (f.live (key.Shared area i) ∙ ap (λ (a : AreaOf (Unit {0})). is_some (numbered a.pages i)) (no_area_past t.areas area.0 (omega (arith, e))))

pub free_key : (t : Tables) (c : Key → Option Page) (s : StoreOf) (b : Area) (i : ℕ) → FitsTables t c s → b.0 ≡ length t.areas → (s.paging (key.Shared b i) ≡ false) × (s.block_of (key.Shared b i) ≡ None)
free_key t c s b i f e =
    let none = no_area_past t.areas b.0 (omega (arith, e)) in (
      f.paging (key.Shared b i) ∙ ap (λ (a : AreaOf (Unit {0})). is_some (numbered a.pages i) && not (is_some a.file_block)) none,
      f.blocks (key.Shared b i) ∙ ap (λ (a : AreaOf (Unit {0})). cond (is_some (numbered a.pages i)) (option_map (λ (first : ℕ). first + i) a.file_block) None) none,
    )

-- ---- the store after it was opened and filled

or_none : (b : Bool) → cond b true false ≡ b
or_none true = refl
or_none false = refl

pub some_if : (b : Bool) (x : Page) (y : Option Page) → y ≡ None → is_some (cond b (Some x) y) ≡ b
some_if true x y e = refl
some_if false x y e = ap is_some e

module _ (t : Tables) (area : Area) (pages : ℕ) (committed : Bool) (c d : Key → Option Page) (s z : StoreOf) (at : area.0 ≡ length t.areas) (f : FitsTables t c s) (o : Opens area pages (committed_pages pages committed) c d s z) where
  page_new : (b : Area) (i : ℕ) → b.0 ≡ length t.areas → is_page_of area (committed_pages pages committed) (key.Shared b i) ≡ is_some (numbered (paging_pages pages committed).pages i)
  page_new b i e = ap (λ x. x && nat_lt i (committed_pages pages committed)) (same_number b.0 area.0 (e ∙ sym at)) ∙ sym (page_there pages committed i)

  page_old : (k : Key) → IsOld (length t.areas) k → is_page_of area (committed_pages pages committed) k ≡ false
  page_old (key.Private pid page) h = refl
  page_old (key.Shared b i) h = ap (λ x. x && nat_lt i (committed_pages pages committed)) (differ b.0 area.0 (λ e. h (e ∙ at)))

  opened_grown : 1 ≤ pages → charge t + committed_pages pages committed ≤ z.room → Grown t (t.areas ++ paging_pages pages committed ∷ []) (length t.areas) (paging_pages pages committed) t.blocks_used c d s z
  opened_grown some room =
      let a = paging_pages pages committed in
      let count : length a.pages ≡ pages = length-replicate pages (page_if committed) in
      record {
        here = area_at_end t.areas a (length t.areas) refl;
        before = area_before t.areas a;
        stays = pages_before t a t.blocks_used;
        live_new = λ b i e.
            ap (λ (d : Key → Option Page). is_some (d (key.Shared b i))) o.contents
            ∙ some_if (is_page_of area (committed_pages pages committed) (key.Shared b i)) (unwrap_or (c (key.Shared b i)) (filled 0)) (c (key.Shared b i)) (key_free t c s b i f e) ∙ page_new b i e;
        live_old = λ k h. ap (λ (d : Key → Option Page). is_some (d k)) o.contents ∙ ap (λ b. is_some (cond b (Some (unwrap_or (c k) (filled 0))) (c k))) (page_old k h);
        paging_new = λ b i e.
            ap (λ (x : StoreOf). x.paging (key.Shared b i)) o.store
            ∙ ap (λ x. cond (is_page_of area (committed_pages pages committed) (key.Shared b i)) true x) (free_key t c s b i f e).0
            ∙ or_none (is_page_of area (committed_pages pages committed) (key.Shared b i)) ∙ page_new b i e ∙ sym (and_true (is_some (numbered a.pages i)));
        paging_old = λ k h. ap (λ (x : StoreOf). x.paging k) o.store ∙ ap (λ b. cond b true (s.paging k)) (page_old k h);
        block_new = λ b i e.
            ap (λ (x : StoreOf). x.block_of (key.Shared b i)) o.store ∙ (free_key t c s b i f e).1 ∙ sym (no_block (is_some (numbered a.pages i)) i None refl);
        block_old = λ k h. ap (λ (x : StoreOf). x.block_of k) o.store;
        areas_new =
            ap (λ (x : StoreOf). x.areas (length t.areas)) o.store
            ∙ ap (λ b. cond b (Some pages) (s.areas (length t.areas))) (same_number (length t.areas) area.0 (sym at)) ∙ ap (λ (k : ℕ). Some k) (sym count)
            ∙ opened_some (length a.pages) (omega (arith, count, some));
        areas_old = λ q h. ap (λ (x : StoreOf). x.areas q) o.store ∙ ap (λ b. cond b (Some pages) (s.areas q)) (differ q area.0 (λ e. h (e ∙ at)));
        counted = omega (arith, ap (λ (x : StoreOf). x.paging_keys) o.store, f.counted, paging_charge pages committed, sum_by_push area_charge t.areas a);
        room = omega (arith, room, paging_charge pages committed, with_area_charge t a);
        blocks_used = ap (λ (x : StoreOf). x.blocks_used) o.store ∙ f.used;
        rest = o.store ∙ ap (with_area_of s) (sym o.store);
        stored = ap (λ (x : StoreOf). length x.file_blocks) o.store;
        named_file = ap (λ (x : StoreOf). length x.file_device.named) o.store;
      }

  opened_carries : CarriesPages c d
  opened_carries = subst (λ (d : Key → Option Page). CarriesPages c d) (sym o.contents) (record { at = λ k. at_added (is_page_of area (committed_pages pages committed) k) (c k) })

-- ---- what the tables keep

module _ {i : Inside} {t : Tables} {pid : ℕ} {s : SectionOf} {ps : List (Option (ProcessOf (Unit {0})))} {es : Numbered CountedSection} {files : List FileOf} (l : ListsSection i t pid s ps es files) (p : ProcessOf (Unit {0})) (alive : process_of t pid ≡ Some p) (pages : ℕ) (committed : Bool) {areas : List (AreaOf (Unit {0}))} (at : s.area ≡ length i.areas.items) (some : 1 ≤ pages) (made : areas ≡ i.areas.items ++ paging_pages pages committed ∷ []) where
  may_list : References (as_kept i) → MayList (with_area (as_kept i) (paging_pages pages committed)) s
  may_list refers =
      record {
        alone = λ none n r e same. absurd (omega (arith, refers.sections n r e, same, at));
        some = omega (arith, ap (λ (a : AreaOf (Unit {0})). length a.pages) (area_at_end i.areas.items (paging_pages pages committed) s.area at), length-replicate pages (page_if committed), some);
      }

  pub paging_kept : (n : ℕ) (new : CommitOf) → charge t + committed_pages pages committed ≤ limit t → n ≡ committed_pages pages committed → new ≡ record (i.commit) { charge = i.commit.charge + n } → AreKeptTables (as_kept i) i.directory.entries i.commit → AreKeptTables (now i ps es areas files i.blocks_used) es new
  paging_kept n new room charged taken k =
      let x = as_kept i in
      let a = paging_pages pages committed in
      let count : area_charge a ≡ committed_pages pages committed = paging_charge pages committed in
      kept_as (new_section (with_area x a) pid p s).world (now i ps es areas files i.blocks_used) es new (section_is l p alive made)
      (section_kept (with_area x a) pid p s i.directory.entries es new (here l p alive) (omega (arith, at, length-append i.areas.items (a ∷ []))) refl l.entries
      (sound_edit x (with_area x a) (AreaComes a tt) (omega (arith, room, ap (λ (t : Tables). charge t) l.view, ap (λ (t : Tables). limit t) l.view, count, with_area_charge x a)) k.sound)
      (subst (λ (n : ℕ). Settles n (with_area x a)) (sym at) (area_settles x a i.blocks_used k.tidy.settled))
      (area_rest x a i.blocks_used k.sound.references (record { later = omega arith; file = λ first e. cc }) (rest_of x k.tidy))
      (may_list k.sound.references)
      (λ n c there. let old = k.counted n c there in record { handles = old.handles; views = old.views })
      (omega (arith, ap (λ (c : CommitOf). c.charge) taken, charged, k.charged, with_area_charge x a, count))
      (ap (λ (c : CommitOf). c.limit) taken ∙ k.limited))

  pub paging_now : now i ps es areas files i.blocks_used ≡ (new_section (record t { areas = t.areas ++ paging_pages pages committed ∷ [] }) pid p (record s { area = length t.areas })).world
  paging_now =
      section_is l p alive made
      ∙ ap (λ (k : ℕ). (new_section (record (as_kept i) { areas = i.areas.items ++ paging_pages pages committed ∷ [] }) pid p (record s { area = k })).world) at
      ∙ ap (λ (t : Tables). (new_section (record t { areas = t.areas ++ paging_pages pages committed ∷ [] }) pid p (record s { area = length t.areas })).world) l.view

  pub paging_settled : (area : Area) (n : ℕ) (c d : Key → Option Page) (st z : StoreOf) → area.0 ≡ s.area → FitsTables t c st → n ≡ committed_pages pages committed → Opens area pages n c d st z → charge (as_kept i) + committed_pages pages committed ≤ z.room → Settled (now i ps es areas files i.blocks_used) c d st z
  paging_settled area n c d st z same fits count opened room =
      let x = as_kept i in
      let a = paging_pages pages committed in
      let f = subst (λ (t : Tables). FitsTables t c st) (sym l.view) fits in
      let o = subst (λ (n : ℕ). Opens area pages n c d st z) count opened in
      settled_as (section_is l p alive made) (record {
        fits = fits_handle (with_area x a) pid p (length x.sections) (x.sections ++ Some s ∷ []) (here l p alive) d z
            (fits_area x (i.areas.items ++ a ∷ []) (length i.areas.items) a i.blocks_used c d st z (opened_grown x area pages committed c d st z (same ∙ at) f o some room) f);
        carries = opened_carries x area pages committed c d st z (same ∙ at) f o;
        rest = o.store ∙ ap (store_beside st) (sym o.store);
      })
