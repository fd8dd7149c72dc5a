-- What accesses do to the flags of watched regions: a write that is answered `ok` makes its page written.
use Rattle.std.proofs.Common.{◌≡◌, ◌≢◌, ℕ, ◌-◌, ◌≤◌, Bool, true, false, Option, Some, None, List, refl, sym, ◌∙◌, ap, subst, cond, arith, length, slice_get, option_map, ◌&&◌}
use Rattle.std.specs.Prelude.{◌==◌, nat_lt, option_and_then}
use Rattle.std.specs.Option.{IfSome}
use Rattle.std.proofs.lemmas.List.{length-set}
use Rattle.mm_types.specs.{Answer, Code, View, page_of, holds_page, first_user_page}
use Rattle.mm_types.specs.declared.answers.Answer.TheVariants as answer
use Rattle.mm_types.specs.declared.views.Kind.TheVariants as kind
use Rattle.mm_types.proofs.{parts}
use Rattle.mm_world.specs.{ProcessOf, RegionOf, RowOf, Page, pages_of, shared_page, change_range, process_of, set_region, is_private, InSection}
use Rattle.mm_world.specs.{Committed, committed_at, with_row, guard_off, OutcomeOf, done, refused, one_page, mark_written, Attempt, ReadOf, WriteOf}
use Rattle.mm_world.specs.{Execute, access, access_at, perform, write_to, written, is_ok, flag_in, flag_at, flag_of, FlagsFit, Spaces}
use Rattle.mm_world.specs.World.{World}
use Rattle.mm_world.proofs.Tables.{Holds, met, tables}
use Rattle.mm_world.proofs.Finding.{Stands, found_stands, IsCommitted, committed_is, HomeCases, IsOwn, IsShared, home_cases}
use Rattle.mm_world.proofs.Ranges.{within}
use Rattle.mm_world.proofs.Regions.{laid_at, less, not_less}
use Rattle.mm_world.proofs.FlagRanges.{got_before, got_within, got_behind, same_page, equal}
use Rattle.mm_world.proofs.FlagsKept as calls
use Rattle.mm_world.proofs.FlagsKept.{KeepsFlags, plain_terms, by_edits, FlagChanged, InRegion, Elsewhere, flag_changed}
use Rattle.mm_world.proofs.LineEdits as edits
use Rattle.mm_world.proofs.LineEdits.{is_write}

-- the flag of a page, where one page was written if this holds
pub record AsWritten (w : World) (pid page : ℕ) (wrote : Bool) (j q : ℕ) (b : Bool) : Type 0 where
  pub was : Bool
  pub before : flag_of w j q ≡ Some was
  pub now : b ≡ cond (wrote && ((pid == j) && (page == q))) true was

pub record WritesFlags (w : World) (pid page : ℕ) (what : Attempt) (o : OutcomeOf Page) : Type 0 where
  pub told : Spaces w → (j q : ℕ) (b : Bool) → flag_of o.world j q ≡ Some b → AsWritten w pid page (is_ok o.answer && is_write what) j q b

module _ (w : World) (pid page : ℕ) (what : Attempt) where
  unwritten_by : (v : World) (a : Answer) → (is_ok a && is_write what) ≡ false → Holds (KeepsFlags w) (done a v) → Holds (WritesFlags w pid page what) (done a v)
  unwritten_by v a none h = met (record {
    told = λ spaces j q b e. record {
      was = b;
      before = h.it.kept spaces j q b e;
      now = sym (ap (λ (t : Bool). cond (t && ((pid == j) && (page == q))) true b) none);
    };
  })

  pub by_same : (a : Answer) → (is_ok a && is_write what) ≡ false → Holds (WritesFlags w pid page what) (done a w)
  by_same a none = unwritten_by w a none (calls.by_same w a)

  pub by_refusal : (why : Code) → Holds (WritesFlags w pid page what) (refused w why)
  by_refusal why = by_same (answer.Error why) refl

  by_guard : (p : ProcessOf Page) (c : Committed Page) (a : Answer) → (is_ok a && is_write what) ≡ false → process_of w pid ≡ Some p → committed_at w p.regions page ≡ Some c → Holds (WritesFlags w pid page what) (done a (guard_off w pid p c page))
  by_guard p c a none lives committed = unwritten_by (guard_off w pid p c page) a none (by_edits plain_terms w (done a (guard_off w pid p c page)) refl (edits.guard_edits (plain_terms a) w pid p c page lives committed))

-- a page outside of the region that was written
outside : (pid page j q : ℕ) (r : RegionOf Page) (b : Bool) → holds_page (pages_of r) page ≡ true → (j ≡ pid → holds_page (pages_of r) q ≡ false) → b ≡ cond ((pid == j) && (page == q)) true b
outside pid page j q r b held out = by_test ((pid == j) && (page == q)) refl
  where
    by_test : (t : Bool) → ((pid == j) && (page == q)) ≡ t → b ≡ cond t true b
    by_test true e =
        let h = parts (pid == j) (page == q) e in
        let bad : true ≡ false = sym held ∙ ap (λ (n : ℕ). holds_page (pages_of r) n) (same_page page q h.1) ∙ out (sym (same_page pid j h.0)) in cc
    by_test false e = refl

-- ---- a write to own bytes marks its page

module _ (w : World) (pid page : ℕ) (j q : ℕ) (b : Bool) where
  abbrev marked_flag : ℕ → List Bool → Option Bool
  marked_flag base fs = slice_get (change_range (λ was. true) (page - base) 1 fs) (q - base)

  at_page : (base : ℕ) (fs : List Bool) (o : Option Bool) → page ≡ q → j ≡ pid → flag_of w j q ≡ o → option_map (λ was. true) o ≡ Some b → AsWritten w pid page true j q b
  at_page base fs None same process before now = cc
  at_page base fs (Some was) same process before now = record {
    was = was;
    before = before;
    now =
        let yes : b ≡ true = cc in
        yes ∙ sym (ap (λ (t : Bool). cond (t && (page == q)) true was) (equal pid j (sym process)) ∙ ap (λ (t : Bool). cond t true was) (equal page q same));
  }

  off_page : (base : ℕ) (fs : List Bool) → (page == q) ≡ false → base ≤ page → base ≤ q → flag_of w j q ≡ slice_get fs (q - base) → marked_flag base fs ≡ Some b → AsWritten w pid page true j q b
  off_page base fs other from low before now = record {
    was = b;
    before = before ∙ sym (by_side (nat_lt (q - base) (page - base)) refl) ∙ now;
    now = by_pid (pid == j);
  }
    where
      differ : page ≢ q
      differ same = let bad : true ≡ false = sym (equal page q same) ∙ other in cc

      by_side : (t : Bool) → nat_lt (q - base) (page - base) ≡ t → marked_flag base fs ≡ slice_get fs (q - base)
      by_side true t = got_before (λ was. true) (page - base) 1 fs (q - base) (less (q - base) (page - base) t)
      by_side false t =
          got_behind (λ was. true) (page - base) 1 fs (q - base) (omega (arith, not_less (q - base) (page - base) t, differ, low, from))

      by_pid : (t : Bool) → b ≡ cond (t && (page == q)) true b
      by_pid true = sym (ap (λ (t : Bool). cond t true b) other)
      by_pid false = refl

  in_flags : (base : ℕ) (fs : List Bool) (t : Bool) → (page == q) ≡ t → j ≡ pid → base ≤ page → base ≤ q → flag_of w j q ≡ slice_get fs (q - base) → marked_flag base fs ≡ Some b → AsWritten w pid page true j q b
  in_flags base fs true same process from low before now =
      let is = same_page page q same in
      at_page base fs (slice_get fs (q - base)) is process before
      (sym (got_within (λ was. true) (page - base) 1 fs (q - base) (omega (arith, is)) (omega (arith, is))) ∙ now)
  in_flags base fs false other process from low before now = off_page base fs other from low before now

  in_region : (base : ℕ) (o : Option (List Bool)) → j ≡ pid → base ≤ page → base ≤ q → flag_of w j q ≡ option_and_then (λ fs. slice_get fs (q - base)) o → option_and_then (λ fs. slice_get fs (q - base)) (option_map (change_range (λ was. true) (page - base) 1) o) ≡ Some b → AsWritten w pid page true j q b
  in_region base None process from low before now = cc
  in_region base (Some fs) process from low before now = in_flags base fs (page == q) refl process from low before now

by_mark : (w : World) (pid : ℕ) (p : ProcessOf Page) (c : Committed Page) (page : ℕ) (row : RowOf Page) (bytes : List ℕ) → process_of w pid ≡ Some p → IsCommitted w p.regions page c → Holds (WritesFlags w pid page (WriteOf bytes)) (done answer.Ok (set_region w pid p c.region.place (mark_written true (one_page page) (with_row page row c.region.thing))))
by_mark w pid p c page row bytes lives h = met (record {
  told = λ spaces j q b e. by_change j q b (flag_changed w after pid p c.region.place r new lives stands.there (record { base = refl; rows = length-set r.rows (page - r.base) row }) refl spaces j q b e);
})
  where
    r : RegionOf Page
    r = c.region.thing

    new : RegionOf Page
    new = mark_written true (one_page page) (with_row page row r)

    after : World
    after = set_region w pid p c.region.place new

    stands : Stands (λ r. holds_page (pages_of r) page) p.regions c.region
    stands = found_stands (λ r. holds_page (pages_of r) page) p.regions c.region h.region

    by_change : (j q : ℕ) (b : Bool) → FlagChanged w pid r new j q b → AsWritten w pid page true j q b
    by_change j q b (InRegion process held before now) =
        in_region w pid page j q b r.base r.watched process (within (pages_of r) page stands.passes).low (within (pages_of r) q held).low before now
    by_change j q b (Elsewhere out before) = record { was = b; before = before; now = outside pid page j q r b stands.passes out }

-- ---- a page of a view has no flag

none_of_view : (r : RegionOf Page) (v : View) → r.kind ≡ kind.View v → FlagsFit r → r.watched ≡ None
none_of_view r v is fit = by_watched r.watched fit
  where
    by_watched : (o : Option (List Bool)) → IfSome o (λ fs. (length fs ≡ length r.rows) × (is_private r.kind ≡ true)) → o ≡ None
    by_watched None fit = refl
    by_watched (Some fs) fit = let bad : true ≡ false = sym fit.1 ∙ ap is_private is in cc

view_unflagged : (w : World) (pid : ℕ) (p : ProcessOf Page) (c : Committed Page) (page : ℕ) (v : View) → Spaces w → process_of w pid ≡ Some p → IsCommitted w p.regions page c → c.region.thing.kind ≡ kind.View v → flag_of w pid page ≡ None
view_unflagged w pid p c page v spaces lives h is =
    let r = c.region.thing in
    let stands = found_stands _ p.regions c.region h.region in
    let fits = laid_at first_user_page p.regions c.region.place r (spaces pid p lives).laid_out stands.there in
    ap (λ o. option_and_then (λ (p : ProcessOf Page). flag_at p.regions page) o) lives
    ∙ ap (λ o. option_and_then (λ r. flag_in r.thing page) o) h.region
    ∙ ap (λ o. option_and_then (λ fs. slice_get fs (page - r.base)) o) (none_of_view r v is fits.flags)

by_view : (w v : World) (pid : ℕ) (p : ProcessOf Page) (c : Committed Page) (page : ℕ) (of : View) (bytes : List ℕ) → process_of w pid ≡ Some p → IsCommitted w p.regions page c → c.region.thing.kind ≡ kind.View of → Holds (KeepsFlags w) (done answer.Ok v) → Holds (WritesFlags w pid page (WriteOf bytes)) (done answer.Ok v)
by_view w v pid p c page of bytes lives h is keeps = met (record {
  told = λ spaces j q b e.
      let before = keeps.it.kept spaces j q b e in
      record { was = b; before = before; now = by_test j q b (view_unflagged w pid p c page of spaces lives h is) before ((pid == j) && (page == q)) refl };
})
  where
    by_test : (j q : ℕ) (b : Bool) → flag_of w pid page ≡ None → flag_of w j q ≡ Some b → (t : Bool) → ((pid == j) && (page == q)) ≡ t → b ≡ cond t true b
    by_test j q b none before true e =
        let s = parts (pid == j) (page == q) e in
        let bad : None ≡ Some b = sym none ∙ ap (λ (n : ℕ). flag_of w n page) (same_page pid j s.0) ∙ ap (λ (n : ℕ). flag_of w j n) (same_page page q s.1) ∙ before in cc
    by_test j q b none before false e = refl

-- ---- accesses

in_section : (w : World) (pid : ℕ) (p : ProcessOf Page) (c : Committed Page) (page offset : ℕ) (bytes : List ℕ) (v : View) (area i : ℕ) (old : Page) → process_of w pid ≡ Some p → committed_at w p.regions page ≡ Some c → c.region.thing.kind ≡ kind.View v → shared_page w area i ≡ Some old → Holds (WritesFlags w pid page (WriteOf bytes)) (done answer.Ok (write_to w pid p c page offset bytes (InSection area i)))
in_section w pid p c page offset bytes v area i old lives committed is there =
    by_view w _ pid p c page v bytes lives (committed_is w p.regions page c committed) is (by_edits plain_terms w _ refl (edits.in_section (plain_terms answer.Ok) w pid p c page offset bytes v area i old lives committed is there))

in_home : (w : World) (pid : ℕ) (p : ProcessOf Page) (c : Committed Page) (page offset : ℕ) (bytes : List ℕ) (i : ℕ) → process_of w pid ≡ Some p → committed_at w p.regions page ≡ Some c → HomeCases w i c.region.thing.kind c.row.own c.home → Holds (WritesFlags w pid page (WriteOf bytes)) (done answer.Ok (write_to w pid p c page offset bytes c.home))
in_home w pid p c page offset bytes i lives committed (IsOwn old own at_home) =
    subst (λ home. Holds (WritesFlags w pid page (WriteOf bytes)) (done answer.Ok (write_to w pid p c page offset bytes home))) (sym at_home)
    (by_mark w pid p c page (record c.row { own = Some (written old offset bytes) }) bytes lives (committed_is w p.regions page c committed))
in_home w pid p c page offset bytes i lives committed (IsShared v old is none there at_home) =
    subst (λ home. Holds (WritesFlags w pid page (WriteOf bytes)) (done answer.Ok (write_to w pid p c page offset bytes home))) (sym at_home)
    (in_section w pid p c page offset bytes v _ _ old lives committed is there)

in_perform : (w : World) (pid : ℕ) (p : ProcessOf Page) (c : Committed Page) (page offset : ℕ) (what : Attempt) → process_of w pid ≡ Some p → committed_at w p.regions page ≡ Some c → Holds (WritesFlags w pid page what) (perform w pid p c page offset what)
in_perform w pid p c page offset (ReadOf len) lives committed = by_same w pid page (ReadOf len) _ refl
in_perform w pid p c page offset (WriteOf bytes) lives committed =
    let h = committed_is w p.regions page c committed in
    in_home w pid p c page offset bytes _ lives committed (home_cases w (page - c.region.thing.base) c.region.thing.kind c.row.own c.home h.home_there)
in_perform w pid p c page offset Execute lives committed = by_same w pid page Execute _ refl

in_access_at : (w : World) (pid : ℕ) (p : ProcessOf Page) (page offset : ℕ) (what : Attempt) (c : Option (Committed Page)) → process_of w pid ≡ Some p → committed_at w p.regions page ≡ c → Holds (WritesFlags w pid page what) (access_at w pid p page offset what c)
in_access_at w pid p page offset what None lives committed = by_same w pid page what _ refl
in_access_at w pid p page offset what (Some c) lives committed = search (tables, by_same, by_guard, in_perform) depth 12

pub in_access : (w : World) (pid addr : ℕ) (what : Attempt) → Holds (WritesFlags w pid (page_of addr) what) (access w pid addr what)
in_access w pid addr what = search (tables, by_refusal, in_access_at) depth 12
