use Rattle.std.proofs.Common.{◌≡◌, ◌≤◌, ◌-◌, ◌∙◌, sym, ap, subst, arith, length, None, Some, cond}
use Rattle.std.specs.Prelude.{◌==◌, option_map}
use Rattle.mm_types.specs.{Range, lies_within, page_of, range_of}
use Rattle.mm_store.specs.{Flushes, PassesIn}
use Rattle.mm_calls.proofs.Flushing.{flushes_none}
use Rattle.mm_calls.proofs.Flushing.{no_process, no_view, flushed_are, flushed_count_is}
use Rattle.mm_world.specs.{ProcessOf, RegionOf, pages_of, process_of, is_private, area_at, view_around, flushed_view}
use Rattle.mm_address_spaces.specs.{RegionInfo, found_info}
use Rattle.mm_calls.proofs.{FindsView, finds_view, told_view, told_none, flushed_within}
use Rattle.mm_calls.proofs.files.flush_view.Given as given
use Rattle.mm_calls.proofs.files.flush_view.Goals as goal
use Rattle.mm_calls.proofs.files.flush_view.Goals.{After-view_of-view}
use Rattle.mm_types.proofs.{some_found}

-- the view that was found, of a process that lives
record Told (g : given.Over) (c : After-view_of-view g) : Type 0 where
  process : ProcessOf (Unit {0})
  lives : process_of c.args.t.now c.args.pid.0 ≡ Some process
  view : FindsView c.args.t.now process.regions c.meant_range-meant.result c.in-Some.region c.view_of-view.result

told : (g : given.Over) (c : After-view_of-view g) → Told g c
told g c =
    let p = some_found (process_of c.args.t.now c.args.pid.0) (sym c.has.ensures ∙ c.if-not-has.false) in
    record {
      process = p.0;
      lives = p.1;
      view = finds_view c.args.t.now c.args.pid.0 p.0 c.meant_range-meant.result c.in-Some.region c.view_of-view.result p.1 c.sound.ensures.sound
          (ap (λ rs. option_map found_info (view_around rs c.meant_range-meant.result)) (sym (c.space.ensures p.0 p.1)) ∙ sym c.view_around.ensures.found ∙ c.in-Some.is)
          (sym (ap (λ (i : RegionInfo). i.kind) c.region.view_is) ∙ c.view_of-view.ensures.view);
    }

pub view_of-view-requires : goal.view_of-view-requires
view_of-view-requires g c =
    let range : Range = c.meant_range-meant.result in
    record {
      view = ap (λ (i : RegionInfo). is_private i.kind) c.region.view_is
          ∙ told_view (λ (r : RegionOf (Unit {0})). lies_within range (pages_of r)) c.space.result.now.regions c.in-Some.region (sym c.view_around.ensures.found ∙ c.in-Some.is);
    }

pub overflow_sub-before : goal.overflow_sub-before
overflow_sub-before g c =
    let v = (told g (goal.at.overflow_sub-before g c).After-view_of-view).view in
    omega (arith, v.low, ap (λ (i : RegionInfo). i.pages.first) c.region.view_is, ap (λ (r : Range). r.first) c.meant.view_is)

pub overflow_sub-region-inside : goal.overflow_sub-region-inside
overflow_sub-region-inside g c =
    let v = (told g (goal.at.overflow_sub-region-inside g c).After-view_of-view).view in
    omega (
      arith,
      v.low,
      v.high,
      ap (λ (i : RegionInfo). i.pages.first) c.region.view_is,
      ap (λ (i : RegionInfo). i.pages.count) c.region.view_is,
      ap (λ (r : Range). r.first) c.meant.view_is,
    )

pub flush_view_pages-requires-clause-area : goal.flush_view_pages-requires-clause-area
flush_view_pages-requires-clause-area g c = (told g (goal.at.flush_view_pages-requires-clause-area g c).After-view_of-view).view.made

pub flush_view_pages-requires-clause-within : goal.flush_view_pages-requires-clause-within
flush_view_pages-requires-clause-within g c =
    let v = (told g (goal.at.flush_view_pages-requires-clause-within g c).After-view_of-view).view in
    let first = ap (λ (i : RegionInfo). i.pages.first) c.region.view_is in
    let count = ap (λ (i : RegionInfo). i.pages.count) c.region.view_is in
    let meant = ap (λ (r : Range). r.first) c.meant.view_is in
    let many = ap (λ (r : Range). r.count) c.meant.view_is in
    let before = c.meant.inside.first - c.region.inside.0.0.first in
    omega (
      arith,
      c.flushed_count-count.ensures,
      flushed_within (c.args.size == 0) c.view_of-view.result.first before c.region.inside.0.0.count c.meant.inside.count (length (area_at c.args.t.now c.view_of-view.result.area.0).pages)
          (omega (arith, v.low, v.high, first, count, meant)) (omega (arith, v.low, v.high, first, count, meant, many)) (omega (arith, v.within, count)),
    )

pub returns-then-not-has-clause-passes : goal.returns-then-not-has-clause-passes
returns-then-not-has-clause-passes g c =
    let s = g.G.PageStore.store c.args.g.now in
    let b = g.G.PageStore.behind c.args.g.now in
    subst (λ ks. PassesIn g.G.PageStore.unpaged (Flushes ks) s s b b) (no_process c.args.t.now c.args.pid.0 c.args.addr c.args.size (sym c.has.ensures ∙ c.if-not-has.true)) (flushes_none g.G.PageStore.unpaged s b)

pub returns-in-None-clause-passes : goal.returns-in-None-clause-passes
returns-in-None-clause-passes g c =
    let t = c.args.t.now in
    let s = g.G.PageStore.store c.args.g.now in
    let b = g.G.PageStore.behind c.args.g.now in
    let range : Range = c.meant_range-meant.result in
    let p = some_found (process_of t c.args.pid.0) (sym c.has.ensures ∙ c.if-not-has.false) in
    let none : flushed_view p.0.regions c.args.addr c.args.size ≡ None =
    ap (view_around p.0.regions) (sym c.meant_range-meant.ensures)
    ∙ told_none (view_around p.0.regions range) (ap (λ rs. option_map found_info (view_around rs range)) (sym (c.space.ensures p.0 p.1)) ∙ sym c.view_around.ensures.found ∙ c.in-None.is) in
    subst (λ ks. PassesIn g.G.PageStore.unpaged (Flushes ks) s s b b) (no_view t c.args.pid.0 p.0 c.args.addr c.args.size p.1 none) (flushes_none g.G.PageStore.unpaged s b)

pub returns-clause-passes : goal.returns-clause-passes
returns-clause-passes g c =
    let t = c.args.t.now in
    let addr = c.args.addr in
    let size = c.args.size in
    let range : Range = c.meant_range-meant.result in
    let p = told g (goal.at.returns-clause-passes g c).After-view_of-view in
    let v = p.view in
    let first = ap (λ (i : RegionInfo). i.pages.first) c.region.view_is in
    let rows = ap (λ (i : RegionInfo). i.pages.count) c.region.view_is in
    let meant = ap (λ (r : Range). r.first) c.meant.view_is in
    let many = ap (λ (r : Range). r.count) c.meant.view_is in
    let asked : range ≡ range_of addr (cond (size == 0) 1 size) = c.meant_range-meant.ensures in
    let begins : range.first ≡ page_of addr = ap (λ (r : Range). r.first) asked in
    let base : v.region.thing.base ≡ c.in-Some.region.pages.first = ap (λ (q : Range). q.first) v.pages in
    let length : length v.region.thing.rows ≡ c.in-Some.region.pages.count = ap (λ (q : Range). q.count) v.pages in
    let before = c.meant.inside.first - c.region.inside.0.0.first in
    let found : flushed_view p.process.regions addr size ≡ Some v.region = ap (view_around p.process.regions) (sym asked) ∙ v.found in
    let low : v.region.thing.base ≤ page_of addr = omega (arith, v.low, begins, base) in
    let at : before ≡ page_of addr - v.region.thing.base = omega (arith, meant, begins, first, base) in
    let count = flushed_count_is v.region.thing addr size before c.region.inside.0.0.first c.region.inside.0.0.count c.meant.inside.count
    (omega (arith, first, base)) (omega (arith, rows, length)) (omega (arith, meant, begins)) (omega (arith, first, base, low)) (many ∙ ap (λ (r : Range). r.count) asked) in
    subst (λ ks. PassesIn g.G.PageStore.unpaged (Flushes ks) (g.G.PageStore.store c.args.g.now) (g.G.PageStore.store c.flush_view_pages.new.g) (g.G.PageStore.behind c.args.g.now) (g.G.PageStore.behind c.flush_view_pages.new.g))
    (flushed_are t c.args.pid.0 p.process addr size v.region c.view_of-view.result before c.flushed_count-count.result p.lives found v.kind low at (c.flushed_count-count.ensures ∙ count)) c.flush_view_pages.ensures.passes
