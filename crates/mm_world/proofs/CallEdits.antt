-- Each call is a list of edits.
use Rattle.std.proofs.Common.{◌≡◌, ℕ, ◌+◌, ◌-◌, ◌/◌, ◌%◌, ◌≤◌, Bool, true, false, Option, Some, None, List, [], ◌∷◌, ◌++◌, inl, inr, refl, sym, ◌∙◌, ap, subst, arith, length, set, map, is_some, ◌&&◌, not, nat_le, nat_lt, unwrap_or, replicate, cond, option_map, ◌<◌}
use Rattle.std.specs.Prelude.{remove, find, ◌==◌, option_and_then}
use Rattle.std.proofs.lemmas.Bool.{leb-true, not-true}
use Rattle.std.proofs.lemmas.List.{length-replicate, length-append, length-map}
use Rattle.std.proofs.lemmas.List.Quantifiers.{position-Some}
use Rattle.mm_types.specs.{Answer, Code, Kind, View, ViewAccess, Range, page_of, address_of, pages_for, granule_range_of, lies_within}
use Rattle.mm_types.specs.{is_granule_address, release_type, base_of, Text}
use Rattle.mm_types.specs.declared.answers.Answer.TheVariants as answer
use Rattle.mm_types.specs.declared.codes.Code.TheVariants as code
use Rattle.mm_types.specs.declared.views.Kind.TheVariants as kind
use Rattle.mm_types.proofs.{parts}
use Rattle.mm_world.specs.{StackOf, WorldOf, ProcessOf, RegionOf, RowOf, AreaOf, SectionOf, FileOf, Numbered, numbered, pages_of, change_range}
use Rattle.mm_world.specs.{end_stacks, Found, first_where, process_of, set_process, set_regions, set_region, set_area, area_at, section_of}
use Rattle.mm_world.specs.{section_named, is_named, add_region, ranges_of, placed, region_around, is_private, OutcomeOf, done, refused, mark_written}
use Rattle.mm_world.specs.{change_flags, is_one_of, private_protections, reserved_row, commit, protected, change_rows, every_page, accepts}
use Rattle.mm_world.specs.{is_committed_at, region_charge, process_charge, area_charge, alloc, is_watched_type, reserve, commit_in, commit_shared}
use Rattle.mm_world.specs.{private_region, are_alloc_parameters, free, decommit, private_at, private_around, is_stack_at, protect, query, create}
use Rattle.mm_world.specs.{create_file, open_section, close, handle_or, named_or, handle_section, with_handle, new_section, settle, file_named}
use Rattle.mm_world.specs.{map_view, unmap, flush, view_region, view_at, new_process, exit, new_file, take_fail, grow, no_regions, most_processes}
use Rattle.mm_world.specs.{most_fails, most_slots, kept_of_others, with_slots, unwritten, watch, reset_watch, PagesOf, Leaves, is_success, is_alarm}
use Rattle.mm_world.specs.{is_limit_code, is_limit_refusal, is_told, Each, RowFits, RowsFit, ViewFits, References}
use Rattle.mm_world.specs.Alloc.{commit_pages}
use Rattle.mm_world.proofs.Tables.{Holds, met, tables}
use Rattle.mm_world.proofs.Finding.{private_kind, found_stands}
use Rattle.mm_world.proofs.RowsFit.{each-replicate, new_view_fits, rows_protected, view_rows_protected, rows_committed, rows_cleared, length-change_range}
use Rattle.mm_world.proofs.Regions.{flags_stay, flags_changed, no_flags, less, IsPlaced, placed_is}
use Rattle.mm_world.proofs.FlagRanges.{same_page as equals}
use Rattle.mm_world.proofs.Charges.{stays_charged, decommit_less, not_charged}
use Rattle.mm_world.proofs.Spaces.{base_allowed, some_bytes, some_pages, begins_before, private_flags, new_row_fits, length-unwritten, wanted_granule, count_some}
use Rattle.mm_world.proofs.Edits.{Terms, Moves, Falls, Charged, Edits, RegionEdit, RegionComes, RegionGoes, RegionChanges, Edit, Rest, Regions, HandleComes, HandleGoes, SectionComes, AreaComes, AreaChanges, FileComes, Settles, ProcessComes, ProcessGoes, Nothing, Then, Edited, is_call_success}

-- flags that change are flags still
pub still_watched : (change : List Bool → List Bool) (o : Option (List Bool)) → is_some (option_map change o) ≡ is_some o
still_watched change None = refl
still_watched change (Some flags) = refl

pushed_last : {X : Type 0} (xs : Numbered X) (x : X) → numbered (xs ++ Some x ∷ []) (length xs) ≡ Some x
pushed_last [] x = refl
pushed_last (y ∷ xs) x = pushed_last xs x

find-each : {X : Type 0} (P : X → Type 0) (test : X → Bool) (xs : List X) (x : X) → Each P xs → find test xs ≡ Some x → P x
find-each P test [] x h e = cc
find-each P test (y ∷ xs) x h e = by_test (test y) (find-each P test xs x h.1) e
  where
    by_test : (b : Bool) → (find test xs ≡ Some x → P x) → cond b (Some y) (find test xs) ≡ Some x → P x
    by_test true later e = subst P (let same : y ≡ x = cc in same) h.0
    by_test false later e = later e

module _ {B : Type 0} where
  -- ---- sections that live

  named_lives : (w : WorldOf B) (name : Text) (n : ℕ) → section_named w name ≡ Some n → is_some (section_of w n) ≡ true
  named_lives w name n e = by_section (section_of w n) (position-Some (is_named name) w.sections n None e).1
    where
      by_section : (s : Option SectionOf) → is_named name s ≡ true → is_some s ≡ true
      by_section None e = cc
      by_section (Some s) e = refl

  maybe_named_lives : (w : WorldOf B) (name : Option Text) (n : ℕ) → option_and_then (section_named w) name ≡ Some n → is_some (section_of w n) ≡ true
  maybe_named_lives w None n e = cc
  maybe_named_lives w (Some name) n e = named_lives w name n e

  handle_lives : (w : WorldOf B) (p : ProcessOf B) (handle : ℕ) (s : Found SectionOf) → handle_section w p handle ≡ Some s → section_of w s.place ≡ Some s.thing
  handle_lives w p handle s e = by_number (cond (handle % 4 == 0) (numbered p.handles (handle / 4)) None) e
    where
      made : ℕ → Option SectionOf → Option (Found SectionOf)
      made n o = option_map (λ t. record { place = n; thing = t }) o

      by_section : (n : ℕ) (o : Option SectionOf) → section_of w n ≡ o → made n o ≡ Some s → section_of w s.place ≡ Some s.thing
      by_section n None at e = cc
      by_section n (Some t) at e =
          let found : Found SectionOf = record { place = n; thing = t } in
          let same : found ≡ s = cc in
          ap (λ (f : Found SectionOf). section_of w f.place) (sym same) ∙ at ∙ ap (λ (f : Found SectionOf). Some f.thing) same

      by_number : (o : Option ℕ) → option_and_then (λ n. made n (section_of w n)) o ≡ Some s → section_of w s.place ≡ Some s.thing
      by_number None e = cc
      by_number (Some n) e = by_section n (section_of w n) refl e

calm : (a : Answer) → is_call_success a ≡ true → is_alarm a ≡ false
calm (answer.Raised status) e = cc
calm _ e = refl

succeeds : (a : Answer) → is_call_success a ≡ true → is_limit_refusal a ≡ false
succeeds (answer.Error why) e = cc
succeeds _ e = refl

pub leaves_same : {B : Type 0} (w : WorldOf B) (a : Answer) → is_alarm a ≡ false → Leaves w (done a w)
leaves_same w a quiet = record { alarm = λ e. (let bad : true ≡ false = sym e ∙ quiet in cc); same = λ e f. refl }

-- a charge that may rise does not just fall
rising : (c : Moves) → Charged c 0 1 → c ≡ Falls → ⊥
rising Falls h e = omega (arith, h)
rising _ h e = cc

module _ {B : Type 0} (t : Answer → Terms) where
  pub by_same : (w : WorldOf B) (a : Answer) → is_alarm a ≡ false → is_limit_refusal a ≡ false → is_told a ≡ false → Holds (Edited t w) (done a w)
  by_same w a quiet granted untold = record { it = record { edits = Nothing; leaves = leaves_same w a quiet; granted = λ e. granted; untold = untold } }

  pub by_refusal : (w : WorldOf B) (why : Code) → is_limit_code why ≡ false → Holds (Edited t w) (refused w why)
  by_refusal w why other = by_same w (answer.Error why) refl other refl

  -- only a line that may add to the charge is refused for the limit
  pub by_limit : (w : WorldOf B) → ((a : Answer) (old new : ℕ) → Charged (t a).charge old new) → Holds (Edited t w) (refused w code.CommitmentLimit)
  by_limit w rises =
      let a = answer.Error code.CommitmentLimit in
      record { it = record { edits = Nothing; leaves = leaves_same w a refl; granted = λ e. absurd (rising (t a).charge (rises a 0 1) e); untold = refl } }

  pub success : (w v : WorldOf B) (a : Answer) → is_call_success a ≡ true → Edits (t a) w v → Holds (Edited t w) (done a v)
  success w v a ok es =
      met (record {
        edits = es;
        leaves = record { alarm = λ e. (let bad : true ≡ false = sym e ∙ calm a ok in cc); same = λ e f. (let bad : true ≡ false = sym (parts (is_success a) (not (is_told a)) ok).0 ∙ e in cc) };
        granted = λ e. succeeds a ok;
        untold = not-true (is_told a) (parts (is_success a) (not (is_told a)) ok).1;
      })

  then_edit : (w v u : WorldOf B) (a : Answer) → is_call_success a ≡ true → Edit (t a) v u → Holds (Edited t w) (done a v) → Holds (Edited t w) (done a u)
  then_edit w v u a ok e h = success w u a ok (Then v u h.it.edits e)

  one_edit : (w v : WorldOf B) (a : Answer) → is_call_success a ≡ true → Edit (t a) w v → Holds (Edited t w) (done a v)
  one_edit w v a ok e = success w v a ok (Then w v Nothing e)

  pub by_region : (w : WorldOf B) (pid : ℕ) (p : ProcessOf B) (rs : List (RegionOf B)) (a : Answer) → is_call_success a ≡ true → process_of w pid ≡ Some p → RegionEdit (t a) w pid p.regions rs → Holds (Edited t w) (done a (set_regions w pid p rs))
  by_region w pid p rs a ok lives e = one_edit w _ a ok (Regions pid p rs lives e)

  then_settled : (w v : WorldOf B) (a : Answer) → is_call_success a ≡ true → ((old new : ℕ) → new ≤ old → Charged (t a).charge old new) → Holds (Edited t w) (done a v) → Holds (Edited t w) (done a (settle v))
  then_settled w v a ok falls h = then_edit w v (settle v) a ok (Settles falls) h

  pub then_stacks : (w v : WorldOf B) (stacks : Numbered StackOf) (a : Answer) → is_call_success a ≡ true → ((t a).stacks ≡ true → stacks ≡ v.stacks) → Holds (Edited t w) (done a v) → Holds (Edited t w) (done a (record v { stacks = stacks }))
  then_stacks w v stacks a ok same h =
      then_edit w v (record v { stacks = stacks }) a ok
      (Rest (record v { stacks = stacks }) (record { processes = refl; sections = refl; areas = refl; files = refl; threads = refl; fails = λ n. n; blocks = λ n. n; slots = λ n. n; kept = λ k. refl; stacks = same; limit = omega arith })) h

  -- ---- rows

  pub by_change : (w : WorldOf B) (pid : ℕ) (p : ProcessOf B) (r : Found (RegionOf B)) (test : RegionOf B → Bool) (change : RowOf B → RowOf B) (range : Range) (a : Answer) → is_call_success a ≡ true → process_of w pid ≡ Some p → first_where test p.regions ≡ Some r → (RowsFit r.thing → RowsFit (change_rows change range r.thing)) → Charged (t a).charge (region_charge r.thing) (region_charge (change_rows change range r.thing)) → Holds (Edited t w) (done a (set_region w pid p r.place (change_rows change range r.thing)))
  by_change w pid p r test change range a ok lives found fit charged =
      let new = change_rows change range r.thing in
      let count = length-change_range change (range.first - r.thing.base) range.count r.thing.rows in
      by_region w pid p (set p.regions r.place new) a ok lives (RegionChanges r.place r.thing new (found_stands test p.regions r found).there
      (record { base = refl; kind = refl; count = count; rows = fit; flags = flags_stay r.thing new refl count refl; watched = refl; plain = λ e. refl; charged = charged }))

  pub by_flags : (w : WorldOf B) (pid : ℕ) (p : ProcessOf B) (r : Found (RegionOf B)) (flags : List Bool → List Bool) (a : Answer) (test : RegionOf B → Bool) → is_call_success a ≡ true → (t a).plain ≡ false → process_of w pid ≡ Some p → first_where test p.regions ≡ Some r → ((ws : List Bool) → length (flags ws) ≡ length ws) → Holds (Edited t w) (done a (set_region w pid p r.place (change_flags flags r.thing)))
  by_flags w pid p r flags a test ok loose lives found long =
      let new = change_flags flags r.thing in
      by_region w pid p (set p.regions r.place new) a ok lives (RegionChanges r.place r.thing new (found_stands test p.regions r found).there
      (record { base = refl; kind = refl; count = refl; rows = λ h. h; flags = flags_changed flags r.thing long; watched = still_watched flags r.thing.watched; plain = λ e. cc; charged = stays_charged (t a).charge (region_charge r.thing) (region_charge new) refl }))

  -- ---- alloc

  by_reserve : (fill : ℕ → B) (w : WorldOf B) (pid : ℕ) (p : ProcessOf B) (addr size : ℕ) (watched : Bool) (type prot : ℕ) (range : Range) (a : Answer) → is_call_success a ≡ true → ((t a).plain ≡ true → watched ≡ false) → ((a : Answer) (old new : ℕ) → Charged (t a).charge old new) → process_of w pid ≡ Some p → are_alloc_parameters size type prot ≡ true → placed (ranges_of p.regions) addr (granule_range_of addr size) (pages_for size) ≡ Some range → Holds (Edited t w) (done a (set_regions w pid p (add_region (private_region fill watched type prot range) p.regions)))
  by_reserve fill w pid p addr size watched type prot range a ok plain rises lives params found =
      let at = placed_is (ranges_of p.regions) addr (granule_range_of addr size) (pages_for size) range (omega arith) found in
      let new = private_region fill watched type prot range in
      let count : length new.rows ≡ range.count = length-replicate range.count _ in
      let some = some_pages addr size (ranges_of p.regions) range (some_bytes size type prot params) at in
      by_region w pid p (add_region new p.regions) a ok lives (RegionComes new
      (record {
        placed = subst (λ range. IsPlaced (ranges_of p.regions) range) (λ i. record { first = range.first; count = sym count i }) at.placed;
        some = omega (arith, count, some);
        flags = private_flags fill watched type prot range;
        rows = each-replicate (RowFits kind.Private) range.count _ (new_row_fits fill type prot (base_allowed size type prot params));
        refers = λ v is. cc;
        plain = λ e. ap (λ b. cond b (Some (replicate range.count false)) None) (plain e);
        charged = rises a 0 (region_charge new);
      }))

  in_reserve : (fill : ℕ → B) (w : WorldOf B) (pid : ℕ) (p : ProcessOf B) (addr size : ℕ) (watched : Bool) (type prot : ℕ) → ((a : Answer) → (t a).plain ≡ true → watched ≡ false) → ((a : Answer) (old new : ℕ) → Charged (t a).charge old new) → process_of w pid ≡ Some p → are_alloc_parameters size type prot ≡ true → Holds (Edited t w) (reserve fill w pid p addr size watched type prot)
  in_reserve fill w pid p addr size watched type prot plain rises lives params = search (tables, by_refusal, by_limit, by_reserve, plain) depth 12

  in_commit : (fill : ℕ → B) (w : WorldOf B) (pid : ℕ) (p : ProcessOf B) (r : Found (RegionOf B)) (k : Kind) (range : Range) (prot : ℕ) → ((a : Answer) (old new : ℕ) → Charged (t a).charge old new) → process_of w pid ≡ Some p → is_one_of private_protections (base_of prot) ≡ true → region_around p.regions range ≡ Some r → r.thing.kind ≡ k → Holds (Edited t w) (commit_in fill w pid p r k range prot)
  in_commit fill w pid p r kind.Private range prot rises lives allowed found is = search (tables, by_refusal, by_limit, rows) depth 12
    where
      rows : (a : Answer) → is_call_success a ≡ true → Holds (Edited t w) (done a (set_region w pid p r.place (change_rows (commit (fill 0) prot) range r.thing)))
      rows a ok = by_change w pid p r _ (commit (fill 0) prot) range a ok lives found (λ h. rows_committed (fill 0) r.thing prot range is h (begins_before range r.thing (found_stands _ p.regions r found).passes) allowed) (rises a _ _)
  in_commit fill w pid p r (kind.View v) range prot rises lives allowed found is = search (tables, by_refusal, by_limit, by_view) depth 12
    where
      by_view : (a : Answer) (at first count : ℕ) → is_call_success a ≡ true → every_page (accepts r.thing prot) range ≡ true → Holds (Edited t w) (done a (set_area (set_region w pid p r.place (change_rows (protected r.thing.kind prot) range r.thing)) at (commit_shared fill first count (area_at w at))))
      by_view a at first count ok takes =
          then_edit w _ _ a ok (AreaChanges at (commit_shared fill first count (area_at w at)) (length-change_range (λ (page : Option B). Some (unwrap_or page (fill 0))) first count (area_at w at).pages) (rises a _ _))
          (by_change w pid p r _ (protected r.thing.kind prot) range a ok lives found (λ h. view_rows_protected r.thing v prot range is h (begins_before range r.thing (found_stands _ p.regions r found).passes) takes) (rises a _ _))

  in_commit_pages : (fill : ℕ → B) (w : WorldOf B) (pid : ℕ) (p : ProcessOf B) (range : Range) (size type prot : ℕ) → ((a : Answer) (old new : ℕ) → Charged (t a).charge old new) → process_of w pid ≡ Some p → are_alloc_parameters size type prot ≡ true → Holds (Edited t w) (commit_pages fill w pid p range prot)
  in_commit_pages fill w pid p range size type prot rises lives params = search (tables, by_refusal, by_found) depth 12
    where
      by_found : (r : Found (RegionOf B)) → region_around p.regions range ≡ Some r → Holds (Edited t w) (commit_in fill w pid p r r.thing.kind range prot)
      by_found r found = in_commit fill w pid p r r.thing.kind range prot rises lives (base_allowed size type prot params) found refl

  pub in_alloc : (fill : ℕ → B) (w : WorldOf B) (pid addr size type prot : ℕ) → ((a : Answer) → (t a).plain ≡ true → is_watched_type type ≡ false) → ((a : Answer) (old new : ℕ) → Charged (t a).charge old new) → Holds (Edited t w) (alloc fill w pid addr size type prot)
  in_alloc fill w pid addr size type prot plain rises = search (tables, by_refusal, in_reserve, in_commit_pages, plain) depth 12

  -- ---- free

  by_release : (w : WorldOf B) (pid : ℕ) (p : ProcessOf B) (addr : ℕ) (r : Found (RegionOf B)) → (t answer.Ok).stacks ≡ false → ((x : PagesOf) → x.pid ≡ pid → address_of x.range.first ≡ addr → (t answer.Ok).ends x ≡ true) → ((old new : ℕ) → new ≤ old → Charged (t answer.Ok).charge old new) → process_of w pid ≡ Some p → private_at p.regions addr ≡ Some r → Holds (Edited t w) (done answer.Ok (end_stacks (set_regions w pid p (remove p.regions r.place)) (is_stack_at pid addr)))
  by_release w pid p addr r loose gone falls lives found =
      let stands = found_stands _ p.regions r found in
      let at : address_of r.thing.base ≡ addr = equals (address_of r.thing.base) addr (parts (is_private r.thing.kind) (address_of r.thing.base == addr) stands.passes).1 in
      then_stacks w _ _ answer.Ok refl (λ e. cc) (by_region w pid p (remove p.regions r.place) answer.Ok refl lives (RegionGoes r.place r.thing stands.there (λ is x here first. gone x here (ap address_of first ∙ at)) (falls (region_charge r.thing) 0 (omega arith))))

  by_whole : (w : WorldOf B) (pid : ℕ) (p : ProcessOf B) (addr : ℕ) (r : Found (RegionOf B)) → ((old new : ℕ) → new ≤ old → Charged (t answer.Ok).charge old new) → process_of w pid ≡ Some p → private_at p.regions addr ≡ Some r → Holds (Edited t w) (decommit w pid p r (pages_of r.thing))
  by_whole w pid p addr r falls lives found =
      let is = private_kind r.thing.kind (parts (is_private r.thing.kind) (address_of r.thing.base == addr) (found_stands _ p.regions r found).passes).0 in
      by_change w pid p r _ (λ row. reserved_row) (pages_of r.thing) answer.Ok refl lives found (λ h. rows_cleared r.thing (pages_of r.thing) is h (omega arith)) (falls _ _ (decommit_less r.thing (pages_of r.thing)))

  by_part : (w : WorldOf B) (pid : ℕ) (p : ProcessOf B) (range : Range) (r : Found (RegionOf B)) → ((old new : ℕ) → new ≤ old → Charged (t answer.Ok).charge old new) → process_of w pid ≡ Some p → private_around p.regions range ≡ Some r → Holds (Edited t w) (decommit w pid p r range)
  by_part w pid p range r falls lives found =
      let passes = parts (is_private r.thing.kind) (lies_within range (pages_of r.thing)) (found_stands _ p.regions r found).passes in
      by_change w pid p r _ (λ row. reserved_row) range answer.Ok refl lives found
      (λ h. rows_cleared r.thing range (private_kind r.thing.kind passes.0) h (begins_before range r.thing passes.1)) (falls _ _ (decommit_less r.thing range))

  pub in_free : (w : WorldOf B) (pid addr size type : ℕ) → (t answer.Ok).stacks ≡ false → ((type == release_type) ≡ true → (x : PagesOf) → x.pid ≡ pid → address_of x.range.first ≡ addr → (t answer.Ok).ends x ≡ true) → ((old new : ℕ) → new ≤ old → Charged (t answer.Ok).charge old new) → Holds (Edited t w) (free w pid addr size type)
  in_free w pid addr size type loose gone falls = search (tables, by_refusal, released, by_whole, by_part) depth 14
    where
      released : (p : ProcessOf B) (r : Found (RegionOf B)) → (type == release_type) ≡ true → process_of w pid ≡ Some p → private_at p.regions addr ≡ Some r → Holds (Edited t w) (done answer.Ok (end_stacks (set_regions w pid p (remove p.regions r.place)) (is_stack_at pid addr)))
      released p r is lives found = by_release w pid p addr r loose (gone is) falls lives found

  -- ---- watched regions

  pub in_watch : (w : WorldOf B) (pid : ℕ) (unwrites : Bool) (addr size count : ℕ) → ((a : Answer) → (t a).plain ≡ false) → Holds (Edited t w) (watch w pid unwrites addr size count)
  in_watch w pid unwrites addr size count loose = search (tables, by_refusal, by_same, by_unwritten) depth 12
    where
      by_unwritten : (p : ProcessOf B) (r : Found (RegionOf B)) (base : ℕ) (pages : List ℕ) (a : Answer) (test : RegionOf B → Bool) → is_call_success a ≡ true → process_of w pid ≡ Some p → first_where test p.regions ≡ Some r → Holds (Edited t w) (done a (set_region w pid p r.place (change_flags (unwritten base pages) r.thing)))
      by_unwritten p r base pages a test ok lives found = by_flags w pid p r (unwritten base pages) a test ok (loose a) lives found (length-unwritten base pages)

  pub in_reset_watch : (w : WorldOf B) (pid addr size : ℕ) → ((a : Answer) → (t a).plain ≡ false) → Holds (Edited t w) (reset_watch w pid addr size)
  in_reset_watch w pid addr size loose = search (tables, by_refusal, by_reset) depth 12
    where
      by_reset : (p : ProcessOf B) (r : Found (RegionOf B)) (b : Bool) (range : Range) (a : Answer) (test : RegionOf B → Bool) → is_call_success a ≡ true → process_of w pid ≡ Some p → first_where test p.regions ≡ Some r → Holds (Edited t w) (done a (set_region w pid p r.place (mark_written b range r.thing)))
      by_reset p r b range a test ok lives found =
          by_flags w pid p r (change_range (λ was. b) (range.first - r.thing.base) range.count) a test ok (loose a) lives found (length-change_range (λ was. b) (range.first - r.thing.base) range.count)

  -- ---- protect, query and flush

  by_protect : (w : WorldOf B) (pid : ℕ) (p : ProcessOf B) (r : Found (RegionOf B)) (range : Range) (prot : ℕ) (a : Answer) → is_call_success a ≡ true → ((a : Answer) (old new : ℕ) → Charged (t a).charge old new) → process_of w pid ≡ Some p → region_around p.regions range ≡ Some r → every_page (is_committed_at w r.thing) range ≡ true → every_page (accepts r.thing prot) range ≡ true → Holds (Edited t w) (done a (set_region w pid p r.place (change_rows (protected r.thing.kind prot) range r.thing)))
  by_protect w pid p r range prot a ok rises lives found there takes =
      by_change w pid p r _ (protected r.thing.kind prot) range a ok lives found (λ h. rows_protected w r.thing prot range h (begins_before range r.thing (found_stands _ p.regions r found).passes) there takes) (rises a _ _)

  pub in_protect : (w : WorldOf B) (pid addr size prot : ℕ) → ((a : Answer) (old new : ℕ) → Charged (t a).charge old new) → Holds (Edited t w) (protect w pid addr size prot)
  in_protect w pid addr size prot rises = search (tables, by_refusal, by_limit, by_protect) depth 16

  pub in_query : (w : WorldOf B) (pid addr : ℕ) → Holds (Edited t w) (query w pid addr)
  in_query w pid addr = search (tables, by_refusal, by_same) depth 12

  pub in_flush : (w : WorldOf B) (pid addr size : ℕ) → Holds (Edited t w) (flush w pid addr size)
  in_flush w pid addr size = search (tables, by_refusal, by_same) depth 12

  -- ---- sections and views

  by_handle : (w : WorldOf B) (pid : ℕ) (p : ProcessOf B) (number : ℕ) (a : Answer) → is_call_success a ≡ true → process_of w pid ≡ Some p → is_some (section_of w number) ≡ true → Holds (Edited t w) (done a (with_handle w pid p number))
  by_handle w pid p number a ok lives there = one_edit w _ a ok (HandleComes pid p number lives there)

  in_named_or : (w : WorldOf B) (pid : ℕ) (p : ProcessOf B) (name : Option Text) (made : OutcomeOf B) → process_of w pid ≡ Some p → Holds (Edited t w) made → Holds (Edited t w) (named_or w pid p name made)
  in_named_or w pid p name made lives h = by_found (option_and_then (section_named w) name) refl
    where
      by_found : (o : Option ℕ) → option_and_then (section_named w) name ≡ o → Holds (Edited t w) (handle_or w pid p o made)
      by_found None e = h
      by_found (Some n) e = by_handle w pid p n _ refl lives (maybe_named_lives w name n e)

  -- a section more in a world that edits made, and a handle to it
  then_section : (w v : WorldOf B) (pid : ℕ) (p : ProcessOf B) (s : SectionOf) (a : Answer) → is_call_success a ≡ true → process_of v pid ≡ Some p → (References v → s.area < length v.areas) → Holds (Edited t w) (done a v) → Holds (Edited t w) (done a (new_section v pid p s).world)
  then_section w v pid p s a ok lives inside h =
      let u : WorldOf B = record v { sections = v.sections ++ Some s ∷ [] } in
      then_edit w u (new_section v pid p s).world a ok (HandleComes pid p (length v.sections) lives (ap is_some (pushed_last v.sections s))) (then_edit w v u a ok (SectionComes s inside) h)

  pub in_create : (fill : ℕ → B) (w : WorldOf B) (pid size flags : ℕ) (name : Option Text) → ((a : Answer) (old new : ℕ) → Charged (t a).charge old new) → Holds (Edited t w) (create fill w pid size flags name)
  in_create fill w pid size flags name rises = search (tables, by_refusal, by_limit, in_named_or, by_section) depth 14
    where
      by_section : (p : ProcessOf B) (a : AreaOf B) (prot : ℕ) (name : Option Text) → process_of w pid ≡ Some p → Holds (Edited t w) (new_section (record w { areas = w.areas ++ a ∷ [] }) pid p (record { prot = prot; name = name; area = length w.areas }))
      by_section p a prot name lives =
          let v : WorldOf B = record w { areas = w.areas ++ a ∷ [] } in
          then_section w v pid p (record { prot = prot; name = name; area = length w.areas }) _ refl lives (λ h. omega (arith, length-append w.areas (a ∷ []))) (one_edit w v _ refl (AreaComes a (rises _ _ _)))

  pub in_create_file : (w : WorldOf B) (pid : ℕ) (file : Text) (flags : ℕ) (name : Option Text) → Holds (Edited t w) (create_file w pid file flags name)
  in_create_file w pid file flags name = search (tables, by_refusal, in_named_or, by_section) depth 14
    where
      by_section : (p : ProcessOf B) (f : FileOf) (prot : ℕ) (name : Option Text) → process_of w pid ≡ Some p → file_named w file ≡ Some f → Holds (Edited t w) (new_section w pid p (record { prot = prot; name = name; area = f.area }))
      by_section p f prot name lives found =
          then_section w w pid p (record { prot = prot; name = name; area = f.area }) _ refl lives (λ h. find-each (λ (f : FileOf). f.area < length w.areas) _ w.files f h.files found) (by_same w _ refl refl refl)

  pub in_open : (w : WorldOf B) (pid : ℕ) (name : Text) → Holds (Edited t w) (open_section w pid name)
  in_open w pid name = search (tables, by_refusal, by_handle, named_lives) depth 12

  pub in_close : (w : WorldOf B) (pid handle : ℕ) → ((old new : ℕ) → new ≤ old → Charged (t answer.Ok).charge old new) → Holds (Edited t w) (close w pid handle)
  in_close w pid handle falls = search (tables, by_refusal, then_settled, by_closed) depth 12
    where
      by_closed : (p : ProcessOf B) (place : ℕ) (a : Answer) → is_call_success a ≡ true → process_of w pid ≡ Some p → Holds (Edited t w) (done a (set_process w pid (Some (record p { handles = set p.handles place None }))))
      by_closed p place a ok lives = one_edit w _ a ok (HandleGoes pid p place lives)

  by_view : (w : WorldOf B) (pid : ℕ) (p : ProcessOf B) (handle : ℕ) (s : Found SectionOf) (access : ViewAccess) (first addr count : ℕ) (range : Range) (a : Answer) → is_call_success a ≡ true → ((a : Answer) (old new : ℕ) → Charged (t a).charge old new) → process_of w pid ≡ Some p → handle_section w p handle ≡ Some s → is_granule_address addr ≡ true → 1 ≤ count → nat_le (first + count) (length (area_at w s.thing.area).pages) ≡ true → placed (ranges_of p.regions) addr (record { first = page_of addr; count = count }) count ≡ Some range → Holds (Edited t w) (done a (set_regions w pid p (add_region (view_region s access first range) p.regions)))
  by_view w pid p handle s access first addr count range a ok rises lives found granule some within at =
      let wanted : Range = record { first = page_of addr; count = count } in
      let placed_at = placed_is (ranges_of p.regions) addr wanted count range (wanted_granule addr granule) at in
      let size : range.count ≡ count = elim placed_at.size [ inl e ↦ e | inr e ↦ e ] in
      let new : RegionOf B = view_region s access first range in
      let rows : length new.rows ≡ range.count = length-replicate range.count _ in
      by_region w pid p (add_region new p.regions) a ok lives (RegionComes new
      (record {
        placed = subst (λ range. IsPlaced (ranges_of p.regions) range) (λ i. record { first = range.first; count = sym rows i }) placed_at.placed;
        some = omega (arith, rows, size, some);
        flags = no_flags new refl;
        rows = each-replicate (RowFits new.kind) range.count _ (new_view_fits access);
        refers = λ v is.
            let here : View = record { section = record { 0 = s.place }; area = record { 0 = s.thing.area }; first = first; access = access } in
            let same : here ≡ v = cc in
            subst (λ v. ViewFits w v (length new.rows)) same
            (record { section = s.thing; lives = handle_lives w p handle s found; same_area = refl; within = omega (arith, leb-true _ _ within, size, rows) });
        plain = λ e. refl;
        charged = rises a 0 (region_charge new);
      }))

  pub in_map : (w : WorldOf B) (pid handle access offset len addr : ℕ) → ((a : Answer) (old new : ℕ) → Charged (t a).charge old new) → Holds (Edited t w) (map_view w pid handle access offset len addr)
  in_map w pid handle access offset len addr rises = search (tables, by_refusal, by_limit, by_view, and-right, and-left, count_some) depth 20
    where
      and-right : (a b : Bool) → (a && b) ≡ true → b ≡ true
      and-right a b e = (parts a b e).1

      and-left : (a b : Bool) → (a && b) ≡ true → a ≡ true
      and-left a b e = (parts a b e).0

  pub in_unmap : (w : WorldOf B) (pid addr : ℕ) → ((old new : ℕ) → new ≤ old → Charged (t answer.Ok).charge old new) → Holds (Edited t w) (unmap w pid addr)
  in_unmap w pid addr falls = search (tables, by_refusal, then_settled, by_unmapped) depth 12
    where
      by_unmapped : (p : ProcessOf B) (r : Found (RegionOf B)) → process_of w pid ≡ Some p → view_at p.regions addr ≡ Some r → Holds (Edited t w) (done answer.Ok (set_regions w pid p (remove p.regions r.place)))
      by_unmapped p r lives found =
          let stands = found_stands _ p.regions r found in
          let shared = (parts (not (is_private r.thing.kind)) (address_of r.thing.base == addr) stands.passes).0 in
          by_region w pid p (remove p.regions r.place) answer.Ok refl lives (RegionGoes r.place r.thing stands.there (λ is x here first. let bad : not true ≡ true = ap not (sym is) ∙ shared in cc) (falls (region_charge r.thing) 0 (omega arith)))

  -- ---- processes, files and what is counted

  pub in_exit : (w : WorldOf B) (pid : ℕ) → (t answer.Ok).kept ≡ false → (t answer.Ok).stacks ≡ false → ((x : PagesOf) → x.pid ≡ pid → (t answer.Ok).ends x ≡ true) → ((old new : ℕ) → new ≤ old → Charged (t answer.Ok).charge old new) → Holds (Edited t w) (exit w pid)
  in_exit w pid kept stacks gone falls = search (tables, by_refusal, exited) depth 12
    where
      exited : (p : ProcessOf B) (ended : Numbered StackOf) → process_of w pid ≡ Some p → Holds (Edited t w) (done answer.Ok (settle (set_process (record w { kept = map (kept_of_others pid) w.kept; stacks = ended }) pid None)))
      exited p ended lives =
          let v : WorldOf B = record w { kept = map (kept_of_others pid) w.kept; stacks = ended } in
          then_settled w _ answer.Ok refl falls (then_edit w v _ answer.Ok refl (ProcessGoes pid p lives gone (falls (process_charge (Some p)) 0 (omega arith))) (one_edit w v answer.Ok refl
          (Rest v (record { processes = refl; sections = refl; areas = refl; files = refl; threads = length-map w.kept (kept_of_others pid); fails = λ n. n; blocks = λ n. n; slots = λ n. n; kept = λ e. cc; stacks = λ e. cc; limit = omega arith }))))

  pub in_new_process : (w : WorldOf B) → Holds (Edited t w) (new_process w)
  in_new_process w = search (tables, by_same, by_new) depth 12
    where
      by_new : (a : Answer) → is_call_success a ≡ true → nat_le (length w.processes) most_processes ≡ true → Holds (Edited t w) (done a (record w { processes = w.processes ++ Some no_regions ∷ [] }))
      by_new a ok room = one_edit w _ a ok (ProcessComes room)

  pub in_new_file : (fill : ℕ → B) (w : WorldOf B) (name : Text) (pages byte : ℕ) → Holds (Edited t w) (new_file fill w name pages byte)
  in_new_file fill w name pages byte = search (tables, by_refusal, by_same, by_file) depth 12
    where
      by_file : (a : Answer) (pages : List (Option B)) (block used : ℕ) → is_call_success a ≡ true → nat_le used w.machine.blocks ≡ true → Holds (Edited t w) (done a (record w { files = w.files ++ record { name = name; area = length w.areas } ∷ []; areas = w.areas ++ record { file_block = Some block; pages = pages } ∷ []; blocks_used = used }))
      by_file a pages block used ok room =
          let x : AreaOf B = record { file_block = Some block; pages = pages } in
          let v : WorldOf B = record w { areas = w.areas ++ x ∷ [] } in
          let u : WorldOf B = record v { files = v.files ++ record { name = name; area = length w.areas } ∷ [] } in
          let o : WorldOf B = record u { blocks_used = used } in
          then_edit w u o a ok (Rest o (record { processes = refl; sections = refl; areas = refl; files = refl; threads = refl; fails = λ n. n; blocks = λ n. leb-true _ _ room; slots = λ n. n; kept = λ e. refl; stacks = λ e. refl; limit = omega arith }))
          (then_edit w v u a ok (FileComes (record { name = name; area = length w.areas }) (omega (arith, length-append w.areas (x ∷ [])))) (one_edit w v a ok (AreaComes x (stays_charged (t a).charge 0 (area_charge x) (not_charged x block refl)))))

  pub in_take_fail : (w : WorldOf B) → Holds (Edited t w) (take_fail w)
  in_take_fail w = search (tables, by_same, by_count) depth 12
    where
      by_count : (a : Answer) → is_call_success a ≡ true → nat_lt w.fails_taken most_fails ≡ true → Holds (Edited t w) (done a (record w { fails_taken = w.fails_taken + 1 }))
      by_count a ok room =
          let v : WorldOf B = record w { fails_taken = w.fails_taken + 1 } in
          one_edit w v a ok (Rest v (record { processes = refl; sections = refl; areas = refl; files = refl; threads = refl; fails = λ n. omega (arith, less w.fails_taken most_fails room); blocks = λ n. n; slots = λ n. n; kept = λ e. refl; stacks = λ e. refl; limit = omega arith }))

  pub in_grow : (w : WorldOf B) (n : ℕ) → Holds (Edited t w) (grow w n)
  in_grow w n = search (tables, by_same, by_slots) depth 12
    where
      by_slots : (a : Answer) → is_call_success a ≡ true → nat_le (w.machine.slots + n) most_slots ≡ true → Holds (Edited t w) (done a (record w { machine = with_slots w.machine n }))
      by_slots a ok room =
          let v : WorldOf B = record w { machine = with_slots w.machine n } in
          one_edit w v a ok (Rest v (record { processes = refl; sections = refl; areas = refl; files = refl; threads = refl; fails = λ n. n; blocks = λ n. n; slots = λ n. leb-true _ _ room; kept = λ e. refl; stacks = λ e. refl; limit = omega arith }))
