-- An `alloc` of a watched region gives its pages flags, none of which is set; no other page's flag changes.
use Rattle.std.proofs.Common.{◌≡◌, ◌≢◌, ℕ, suc, ◌+◌, ◌-◌, Bool, true, false, Option, Some, None, List, refl, sym, ◌∙◌, ap, subst, cond, arith, set, slice_get, replicate, option_map, count_by, ◌&&◌, ◌||◌}
use Rattle.std.specs.Prelude.{◌==◌, nat_lt, option_and_then, insert}
use Rattle.std.specs.List.{list_any}
use Rattle.std.proofs.lemmas.List.{length-replicate}
use Rattle.mm_types.proofs.{all_three, and_false, by_either, not_true, or_true}
use Rattle.mm_types.specs.{Answer, Code, Pid, reserve_type, reserve_and_commit_type, watch_type, Range, page_of, pages_for, address_of}
use Rattle.mm_types.specs.{granule_range_of, holds_page, meets, is_free, lowest_gap, AccessSpec, Event, Tid}
use Rattle.mm_world.specs.{ProcessOf, RegionOf, Page, numbered, filled, pages_of, process_of, set_regions, add_region, ranges_of, placed, done}
use Rattle.mm_world.specs.{refused, alloc, reserve, new_row, private_region, is_watched_type, plain_type, is_reserving, are_alloc_parameters}
use Rattle.mm_world.specs.{reserved_range, line_begins, flag_in, flag_at, flag_of, FlagTold, Begun, Told, KeptOf, WriteOf, access, address_in}
use Rattle.mm_world.specs.{attempt_in, step, world_told, begin, resume, kept_by, keep, is_ok, access_writes, kept_writes, line_wrote, written_after}
use Rattle.mm_world.specs.{Spaces}
use Rattle.mm_world.specs.World.{World}
use Rattle.mm_world.proofs.Tables.{Holds, met, tables, at_find, at_need, at_if}
use Rattle.mm_world.proofs.Finding.{put_at}
use Rattle.mm_world.proofs.Regions.{placed_is, has_added}
use Rattle.mm_world.proofs.FlagRanges.{same_page, page_of-address_of, equal}
use Rattle.mm_world.proofs.FlagsWatched.{TellsFlags, tells_kept, in_watch, in_reset_watch}
use Rattle.mm_world.specs.Report.{Report}
use Rattle.mm_world.proofs.Determined.{may_tell, decided}
use Rattle.mm_world.proofs.FlagsKept.{KeepsFlags}
use Rattle.mm_world.proofs.FlagsWritten.{WritesFlags, in_access}
use Rattle.mm_world.proofs.LineEdits.{is_write}
use Rattle.mm_types.specs.declared.answers.Answer.TheVariants as answer
use Rattle.mm_types.specs.declared.codes.Code.TheVariants as code
use Rattle.mm_types.specs.declared.events.Event.TheVariants as line
use Rattle.mm_world.proofs.FlagsKept as calls
use Rattle.mm_world.proofs.CallEdits as call_edits
use Rattle.mm_types.specs.declared.codes.Raise.TheVariants as raise
use Rattle.mm_types.specs.declared.events.AccessSpec.TheVariants as spec
use Rattle.mm_world.proofs.LineEdits as edits
use Rattle.mm_world.proofs.FlagsWritten as writes

got_replicate : (n i : ℕ) (x y : Bool) → slice_get (replicate n x) i ≡ Some y → y ≡ x
got_replicate (suc n) (suc i) x y e = got_replicate n i x y e
got_replicate _ _ x y e = cc

-- ---- what the answer tells of the pages

reserved_is : (taken : List Range) (addr size : ℕ) (range : Range) → placed taken addr (granule_range_of addr size) (pages_for size) ≡ Some range → reserved_range addr size (address_of range.first) ≡ range
reserved_is taken addr size range found = by_addr (addr == 0) found
  where
    at_gap : (g : Option ℕ) → option_map (λ first. let range : Range = record { first = first; count = pages_for size } in range) g ≡ Some range → (let there : Range = record { first = page_of (address_of range.first); count = pages_for size } in there) ≡ range
    at_gap None e = cc
    at_gap (Some n) e =
        let made : Range = record { first = n; count = pages_for size } in
        let same : made ≡ range = cc in
        subst (λ (range : Range). (let there : Range = record { first = page_of (address_of range.first); count = pages_for size } in there) ≡ range) same
        (λ i. record { first = page_of-address_of n i; count = pages_for size })

    at_wanted : (t : Bool) → cond t (Some (granule_range_of addr size)) None ≡ Some range → granule_range_of addr size ≡ range
    at_wanted true e = cc
    at_wanted false e = cc

    by_addr : (t : Bool) → cond t (option_map (λ first. let range : Range = record { first = first; count = pages_for size } in range) (lowest_gap taken (pages_for size))) (cond (is_free taken (granule_range_of addr size)) (Some (granule_range_of addr size)) None) ≡ Some range → cond t (let there : Range = record { first = page_of (address_of range.first); count = pages_for size } in there) (granule_range_of addr size) ≡ range
    by_addr true e = at_gap (lowest_gap taken (pages_for size)) e
    by_addr false e = at_wanted (is_free taken (granule_range_of addr size)) e

not_begun : (j q : ℕ) (pid : Pid) (addr size type prot : ℕ) (a : Answer) → is_watched_type type ≡ false → line_begins j q (line.Alloc pid addr size type prot) a ≡ false
not_begun j q pid addr size type prot (answer.At base) plain =
    ap (λ (t : Bool). (pid.0 == j) && (t && holds_page (reserved_range addr size base) q)) plain ∙ and_false (pid.0 == j)
not_begun j q pid addr size type prot _ plain = refl

-- the flags of a process whose regions changed, and of the others
abbrev flags_of_process : Option (ProcessOf Page) → ℕ → Option Bool
flags_of_process o page = option_and_then (λ (p : ProcessOf Page). flag_at p.regions page) o

-- the flags after: of pages of the new region, of others of its process, of other processes
begun_told : (w : World) (pid : Pid) (addr size type prot : ℕ) (range : Range) (j q : ℕ) (b : Bool) (t : Bool) → holds_page range q ≡ t → j ≡ pid.0 → is_watched_type type ≡ true → reserved_range addr size (address_of range.first) ≡ range → (t ≡ true → b ≡ false) → (t ≡ false → flag_of w j q ≡ Some b) → FlagTold w (line.Alloc pid addr size type prot) (answer.At (address_of range.first)) j q b
begun_told w pid addr size type prot range j q b true held process watched reserved here other =
    Begun (all_three (pid.0 == j) (is_watched_type type) (holds_page (reserved_range addr size (address_of range.first)) q) (equal pid.0 j (sym process)) watched (ap (λ (r : Range). holds_page r q) reserved ∙ held)) (here refl)
begun_told w pid addr size type prot range j q b false held process watched reserved here other =
    let out : line_begins j q (line.Alloc pid addr size type prot) (answer.At (address_of range.first)) ≡ false =
    ap (λ (t : Bool). (pid.0 == j) && (is_watched_type type && t)) (ap (λ (r : Range). holds_page r q) reserved ∙ held)
    ∙ ap (λ (t : Bool). (pid.0 == j) && t) (and_false (is_watched_type type)) ∙ and_false (pid.0 == j) in
    Told b (other refl) out (sym (ap (λ (t : Bool). cond t false b) out))

elsewhere_told : (w : World) (pid : Pid) (addr size type prot : ℕ) (base j q : ℕ) (b : Bool) → j ≢ pid.0 → flag_of w j q ≡ Some b → FlagTold w (line.Alloc pid addr size type prot) (answer.At base) j q b
elsewhere_told w pid addr size type prot base j q b other before =
    let out : line_begins j q (line.Alloc pid addr size type prot) (answer.At base) ≡ false =
    ap (λ (t : Bool). t && (is_watched_type type && holds_page (reserved_range addr size base) q)) (not_true (pid.0 == j) (λ e. other (sym (same_page pid.0 j e)))) in
    Told b before out (sym (ap (λ (t : Bool). cond t false b) out))

flag_new : (watched : Bool) (type prot : ℕ) (range : Range) (q : ℕ) (b : Bool) → watched ≡ true → flag_in (private_region filled watched type prot range) q ≡ Some b → b ≡ false
flag_new true type prot range q b is e = got_replicate range.count (q - range.first) false b e
flag_new false type prot range q b is e = cc

by_begun : (w : World) (pid : Pid) (addr size type prot : ℕ) (p : ProcessOf Page) (range : Range) → process_of w pid.0 ≡ Some p → is_watched_type type ≡ true → placed (ranges_of p.regions) addr (granule_range_of addr size) (pages_for size) ≡ Some range → Holds (TellsFlags w (line.Alloc pid addr size type prot)) (done (answer.At (address_of range.first)) (set_regions w pid.0 p (add_region (private_region filled (is_watched_type type) (plain_type type) prot range) p.regions)))
by_begun w pid addr size type prot p range lives watched found = met (record {
  told = λ spaces j q b e. by_process j q b e;
})
  where
    new : RegionOf Page
    new = private_region filled (is_watched_type type) (plain_type type) prot range

    pages : pages_of new ≡ range
    pages = λ i. record { first = range.first; count = length-replicate range.count (new_row filled (plain_type type) prot) i }

    free : list_any (meets (pages_of new)) (ranges_of p.regions) ≡ false
    free =
        ap (λ (r : Range). list_any (meets r) (ranges_of p.regions)) pages
        ∙ (placed_is (ranges_of p.regions) addr (granule_range_of addr size) (pages_for size) range (omega arith) found).placed.free

    k : ℕ
    k = count_by (λ r. nat_lt r.base new.base) p.regions

    q' : ProcessOf Page
    q' = record p { regions = insert p.regions k new }

    flag_is : (q : ℕ) (t : Bool) → holds_page range q ≡ t → flag_at (insert p.regions k new) q ≡ cond t (flag_in new q) (flag_at p.regions q)
    flag_is q t held =
        has_added (λ r. flag_in r q) new p.regions k q free
        ∙ ap (λ (b : Bool). cond b (flag_in new q) (flag_at p.regions q)) (ap (λ (r : Range). holds_page r q) pages ∙ held)

    in_process : (j q : ℕ) (b : Bool) → j ≡ pid.0 → flag_of w j q ≡ flag_at p.regions q → flag_at (insert p.regions k new) q ≡ Some b → FlagTold w (line.Alloc pid addr size type prot) (answer.At (address_of range.first)) j q b
    in_process j q b process was now =
        begun_told w pid addr size type prot range j q b (holds_page range q) refl process watched (reserved_is (ranges_of p.regions) addr size range found)
        (λ held. flag_new (is_watched_type type) (plain_type type) prot range q b watched (sym (flag_is q true held) ∙ now))
        (λ out. was ∙ sym (flag_is q false out) ∙ now)

    by_process : (j q : ℕ) (b : Bool) → flags_of_process (numbered (set w.processes pid.0 (Some q')) j) q ≡ Some b → FlagTold w (line.Alloc pid addr size type prot) (answer.At (address_of range.first)) j q b
    by_process j q b =
        put_at (λ o n. flag_of w j q ≡ flags_of_process o q → flags_of_process n q ≡ Some b → FlagTold w (line.Alloc pid addr size type prot) (answer.At (address_of range.first)) j q b) w.processes pid.0 j p (Some q') lives
        (in_process j q b) (λ other was now. elsewhere_told w pid addr size type prot (address_of range.first) j q b other (was ∙ now)) refl

-- ---- the call

refused_told : (w : World) (pid : Pid) (addr size type prot : ℕ) (why : Code) → Holds (TellsFlags w (line.Alloc pid addr size type prot)) (refused w why)
refused_told w pid addr size type prot why =
    record { it = tells_kept w _ _ (calls.by_refusal w why) (λ j q. refl) (λ j q keeps was. refl) }

in_reserve : (w : World) (pid : Pid) (addr size type prot : ℕ) (p : ProcessOf Page) → process_of w pid.0 ≡ Some p → is_watched_type type ≡ true → Holds (TellsFlags w (line.Alloc pid addr size type prot)) (reserve filled w pid.0 p addr size (is_watched_type type) (plain_type type) prot)
in_reserve w pid addr size type prot p lives watched = search (tables, refused_told, by_begun) depth 12

-- a type with the flag always reserves
reserves : (addr type : ℕ) → is_watched_type type ≡ true → is_reserving addr (plain_type type) ≡ true
reserves addr type e =
    by_either ((watch_type + reserve_type) == type) (((watch_type + reserve_and_commit_type) == type) || false) e (is_reserving addr (plain_type type) ≡ true)
    (λ first. of_type (watch_type + reserve_type) (same_page _ _ first) (or_true (addr == 0)))
    (λ later. by_either ((watch_type + reserve_and_commit_type) == type) false later (is_reserving addr (plain_type type) ≡ true)
    (λ second. of_type (watch_type + reserve_and_commit_type) (same_page _ _ second) (or_true (addr == 0)))
    (λ never. cc))
  where
    of_type : (t : ℕ) → t ≡ type → is_reserving addr (plain_type t) ≡ true → is_reserving addr (plain_type type) ≡ true
    of_type t same h = subst (λ (n : ℕ). is_reserving addr (plain_type n) ≡ true) same h

in_watched : (w : World) (pid : Pid) (addr size type prot : ℕ) → is_watched_type type ≡ true → Holds (TellsFlags w (line.Alloc pid addr size type prot)) (alloc filled w pid.0 addr size type prot)
in_watched w pid addr size type prot watched =
    at_find w code.InvalidHandle (process_of w pid.0) _ (refused_told w pid addr size type prot code.InvalidHandle) (λ p lives.
    at_need w code.InvalidParameter (are_alloc_parameters size (plain_type type) prot) _ (refused_told w pid addr size type prot code.InvalidParameter) (λ fit.
    at_if (is_reserving addr (plain_type type)) _ _
    (λ yes. in_reserve w pid addr size type prot p lives watched)
    (λ no. absurd (let bad : true ≡ false = sym (reserves addr type watched) ∙ no in cc))))

pub in_alloc : (w : World) (pid : Pid) (addr size type prot : ℕ) → TellsFlags w (line.Alloc pid addr size type prot) (alloc filled w pid.0 addr size type prot)
in_alloc w pid addr size type prot = by_type (is_watched_type type) refl
  where
    by_type : (t : Bool) → is_watched_type type ≡ t → TellsFlags w (line.Alloc pid addr size type prot) (alloc filled w pid.0 addr size type prot)
    by_type true watched = (in_watched w pid addr size type prot watched).it
    by_type false plain =
        let o = alloc filled w pid.0 addr size type prot in
        tells_kept w _ o (calls.by_edits calls.plain_terms w o refl (call_edits.in_alloc calls.plain_terms filled w pid.0 addr size type prot (λ a e. plain) (λ a n m. tt)).it.edits)
        (λ j q. not_begun j q pid addr size type prot o.answer plain)
        (λ j q keeps was. ap (λ (t : Bool). cond t false was) (not_begun j q pid addr size type prot o.answer plain))

-- ---- each line changes the flags of watched regions as it and its answer tell, and `watch` gives the pages that are flagged

-- ---- lines that write

-- whether the page is the one that an access is to
abbrev is_at : ℕ → ℕ → ℕ → ℕ → Bool
is_at by page j q = (by == j) && (page == q)

wrote_write : (j q : ℕ) (keeps : ℕ → Bool) (pid : Pid) (addr : ℕ) (bytes : List ℕ) (a : Answer) → ((is_ok a && true) && is_at pid.0 (page_of addr) j q) ≡ line_wrote j q keeps (line.Write pid addr bytes) a
wrote_write j q keeps pid addr bytes answer.Ok = refl
wrote_write j q keeps pid addr bytes _ = refl

in_write : (w : World) (pid : Pid) (addr : ℕ) (bytes : List ℕ) → TellsFlags w (line.Write pid addr bytes) (access w pid.0 addr (WriteOf bytes))
in_write w pid addr bytes = record {
  told = λ spaces j q b e.
      let o = access w pid.0 addr (WriteOf bytes) in
      let h = (in_access w pid.0 addr (WriteOf bytes)).it.told spaces j q b e in
      Told h.was h.before refl
      (h.now ∙ ap (λ (t : Bool). cond t true h.was) (wrote_write j q (λ tid. kept_writes j q (kept_by w tid)) pid addr bytes o.answer));
}

begins_access : (w : World) (tid pid : ℕ) (what : AccessSpec) → Holds (WritesFlags w pid (page_of (address_in what)) (attempt_in what)) (begin w tid pid what)
begins_access w tid pid what = search (tables, busy, writes.by_refusal, in_access) depth 12
  where
    busy : Holds (WritesFlags w pid (page_of (address_in what)) (attempt_in what)) (done answer.Busy w)
    busy = writes.by_same w pid (page_of (address_in what)) (attempt_in what) answer.Busy refl

writes_spec : (j q by : ℕ) (what : AccessSpec) → ((true && is_write (attempt_in what)) && is_at by (page_of (address_in what)) j q) ≡ access_writes j q by what
writes_spec j q by (spec.Read addr len) = refl
writes_spec j q by (spec.Write addr bytes) = refl

wrote_begin : (j q : ℕ) (keeps : ℕ → Bool) (tid : Tid) (pid : Pid) (what : AccessSpec) (a : Answer) → ((is_ok a && is_write (attempt_in what)) && is_at pid.0 (page_of (address_in what)) j q) ≡ line_wrote j q keeps (line.Begin tid pid what) a
wrote_begin j q keeps tid pid what answer.Ok = writes_spec j q pid.0 what
wrote_begin j q keeps tid pid what _ = refl

in_begin : (w : World) (tid : Tid) (pid : Pid) (what : AccessSpec) → TellsFlags w (line.Begin tid pid what) (begin w tid.0 pid.0 what)
in_begin w tid pid what = record {
  told = λ spaces j q b e.
      let o = begin w tid.0 pid.0 what in
      let h = (begins_access w tid.0 pid.0 what).it.told spaces j q b e in
      Told h.was h.before refl
      (h.now ∙ ap (λ (t : Bool). cond t true h.was) (wrote_begin j q (λ tid. kept_writes j q (kept_by w tid)) tid pid what o.answer));
}

wrote_resume : (j q : ℕ) (w : World) (tid : Tid) (k : KeptOf) (a : Answer) → kept_by w tid.0 ≡ Some k → ((is_ok a && is_write (attempt_in k.access)) && is_at k.pid (page_of (address_in k.access)) j q) ≡ line_wrote j q (λ tid. kept_writes j q (kept_by w tid)) (line.Resume tid) a
wrote_resume j q w tid k answer.Ok kept = writes_spec j q k.pid k.access ∙ ap (kept_writes j q) (sym kept)
wrote_resume j q w tid k _ kept = refl

in_resume : (w : World) (tid : Tid) (kept : Option KeptOf) → kept_by w tid.0 ≡ kept → TellsFlags w (line.Resume tid) (resume w tid.0 kept)
in_resume w tid None is = tells_kept w _ _ (calls.by_same w answer.Nothing) (λ j q. refl) (λ j q keeps was. refl)
in_resume w tid (Some k) is = record {
  told = λ spaces j q b e.
      let o = access w k.pid (address_in k.access) (attempt_in k.access) in
      let h = (in_access w k.pid (address_in k.access) (attempt_in k.access)).it.told spaces j q b e in
      Told h.was h.before refl (h.now ∙ ap (λ (t : Bool). cond t true h.was) (wrote_resume j q w tid k o.answer is));
}

-- ---- what the store tells in place of that is no `ok`

-- a line of a thread that waits, or whose access failed
told_quiet : (w v : World) (e : Event) (a : Answer) → v.processes ≡ w.processes → ((pid page : ℕ) → line_begins pid page e a ≡ false) → ((pid page : ℕ) (keeps : ℕ → Bool) (was : Bool) → written_after pid page keeps was e a ≡ was) → TellsFlags w e (done a v)
told_quiet w v e a same none quiet = tells_kept w e (done a v) (calls.by_rest w v a same) none quiet

told_write : (w : World) (pid : Pid) (addr : ℕ) (bytes : List ℕ) (a : Answer) → may_tell (line.Write pid addr bytes) a ≡ true → TellsFlags w (line.Write pid addr bytes) (done a w)
told_write w pid addr bytes (answer.Raised raise.InPageError) t = told_quiet w w _ _ refl (λ j q. refl) (λ j q keeps was. refl)
told_write w pid addr bytes _ t = cc

told_begin : (w : World) (tid : Tid) (pid : Pid) (what : AccessSpec) (a : Answer) → may_tell (line.Begin tid pid what) a ≡ true → TellsFlags w (line.Begin tid pid what) (done a (world_told w (line.Begin tid pid what) a))
told_begin w tid pid what (answer.Pending why) t = told_quiet w _ _ _ refl (λ j q. refl) (λ j q keeps was. refl)
told_begin w tid pid what _ t = cc

told_resume : (w : World) (tid : Tid) (a : Answer) → may_tell (line.Resume tid) a ≡ true → TellsFlags w (line.Resume tid) (done a (world_told w (line.Resume tid) a))
told_resume w tid (answer.Raised raise.InPageError) t = told_quiet w (keep w tid.0 None) _ _ refl (λ j q. refl) (λ j q keeps was. refl)
told_resume w tid (answer.Pending why) t = told_quiet w w _ _ refl (λ j q. refl) (λ j q keeps was. refl)
told_resume w tid _ t = cc

-- ---- lines

in_step : (w : World) (e : Event) (before after : Report) → TellsFlags w e (step w e before after)
in_step w (line.Alloc pid addr size type prot) before after = in_alloc w pid addr size type prot
in_step w (line.Write pid addr bytes) before after = decided (TellsFlags w) w (line.Write pid addr bytes) before after (in_write w pid addr bytes) (λ a h. told_write w pid addr bytes a h.tells)
in_step w (line.Begin tid pid what) before after = decided (TellsFlags w) w (line.Begin tid pid what) before after (in_begin w tid pid what) (λ a h. told_begin w tid pid what a h.tells)
in_step w (line.Resume tid) before after = decided (TellsFlags w) w (line.Resume tid) before after (in_resume w tid (kept_by w tid.0) refl) (λ a h. told_resume w tid a h.tells)
in_step w (line.Watch pid unwrites addr size count) before after = (in_watch w pid unwrites addr size count).it
in_step w (line.ResetWatch pid addr size) before after = (in_reset_watch w pid addr size).it
in_step w e before after = tells_kept w e (step w e before after) (calls.by_edits (edits.line_terms e) w (step w e before after) refl (edits.in_step w e before after).edits) (λ j q. refl) (λ j q keeps was. refl)

-- after each line a page is written as the line and its answer tell
pub flags_told : (w : World) (e : Event) (before after : Report) (pid page : ℕ) (b : Bool) → Spaces w → flag_of (step w e before after).world pid page ≡ Some b → FlagTold w e (step w e before after).answer pid page b
flags_told w e before after pid page b spaces at = (in_step w e before after).told spaces pid page b at
