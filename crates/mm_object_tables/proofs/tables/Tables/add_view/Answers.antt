use Rattle.std.proofs.Common.{◌-◌, ap, sym, subst, arith, ◌∙◌, is_some, set}
use Rattle.mm_world.specs.{Tables, add_region, charge, process_of}
use Rattle.mm_types.specs.{limit_of}
use Rattle.mm_object_tables.specs.{shown_processes, AreKeptTables, IsNewPlace, region_of_view, with_space}
use Rattle.mm_object_tables.proofs.{Held, held_by, kept_same, changed_in, out_of_memory, as_kept, AddsView, unbound, few_views, view_done, view_kept}
use Rattle.mm_object_tables.proofs.{view_settled, lives_there, has_entry}
use Rattle.mm_object_tables.proofs.Keeping.{same_tables}
use Rattle.mm_types.proofs.{some_found}
use Rattle.mm_object_tables.proofs.tables.Tables.add_view.Given as given
use Rattle.mm_object_tables.proofs.tables.Tables.add_view.Goals as goal
use Rattle.mm_object_tables.proofs.tables.Tables.add_view.Goals.{After-space_of-space, After-take}

held : (g : given.Over) (c : After-space_of-space g) → Held c.self.inside c.args.self.now c.args.pid.0 c.index_mut.result.now c.space_of-space.result.now.regions
held g c = held_by c.self.inside c.args.self.now c.self.view_is c.self.invariant c.args.pid.0 c.index_mut.result.now c.requires.ready.lives c.index_mut.ensures.value c.space_of-space.ensures.value

-- what has become of the processes and the directory
adds : (g : given.Over) (c : After-take g) → AddsView c.self.inside c.args.self.now c.args.pid c.args.range c.args.view c.add_view.new.self (shown_processes (set c.self.inside.processes.items (c.args.pid.0 - 1) (with_space c.index_mut.result.now c.make_view.new.space)))
adds g c =
    let alive = ap (λ (t : Tables). is_some (process_of t c.args.pid.0)) c.self.view_is ∙ c.requires.ready.lives in
    record {
      view = c.self.view_is;
      counted = c.add_view.ensures;
      made = changed_in c.self.inside.processes.items c.args.pid.0 c.index_mut.result.now alive c.index_mut.ensures.value c.make_view.new.space (add_region (region_of_view c.args.view c.args.range))
          (c.in_ok-make_view.ensures.regions ∙ ap (add_region (region_of_view c.args.view c.args.range)) c.space_of-space.ensures.value);
      free = λ p lives. (c.requires.new p lives).free;
    }

pub space_of-space-requires : goal.space_of-space-requires
space_of-space-requires g c = record { lives = lives_there c.self.inside c.args.self.now c.self.view_is c.args.pid.0 c.index_mut.result.now c.requires.ready.lives c.index_mut.ensures.value }

pub make_view-requires : goal.make_view-requires
make_view-requires g c =
    let h = held g (goal.at.make_view-requires g c).After-space_of-space in
    let new = c.requires.new h.process h.lives in
    record {
      new = subst (λ rs. IsNewPlace rs c.args.range) (sym h.same) new;
      bind = record {
        within = omega (arith, c.now.ensures.charge, h.kept.charged, c.marked_pages-charged.ensures.charged, c.requires.room, ap limit_of c.requires.ready.fits.machine);
        opened = c.requires.ready.fits.opened c.args.pid.0 ∙ c.requires.ready.lives;
        unbound = unbound c.args.self.now c.args.pid h.process c.args.range c.args.view h.lives new.free (g.G.PageStore.contents c.args.g.now) (g.G.PageStore.store c.args.g.now)
            h.kept.sound c.requires.ready.fits c.requires.ready.kind_is;
      };
    }

pub invariant_of-self : goal.invariant_of-self
invariant_of-self g c = kept_same (held g (goal.at.invariant_of-self g c).After-space_of-space) c.make_view.new.space c.in_err-make_view.ensures.kept

pub returns-in_err-make_view-clause-settles : goal.returns-in_err-make_view-clause-settles
returns-in_err-make_view-clause-settles g c =
    out_of_memory g.G.PageStore c.from_residual.result c.requires.ready.fits
    (same_tables (held g (goal.at.returns-in_err-make_view-clause-settles g c).After-space_of-space) c.make_view.new.space c.in_err-make_view.ensures.kept)
    (record { contents = c.make_view.ensures.idles.contents; store = c.in_err-make_view.ensures.err.store; later = c.in_err-make_view.ensures.err.later })

pub add_view-requires-clause-lives : goal.add_view-requires-clause-lives
add_view-requires-clause-lives g c =
    ap is_some (has_entry c.self.inside.directory.entries c.args.self.now.sections c.args.view.section.0 c.requires.section.section (ap (λ (t : Tables). t.sections) c.self.view_is) c.requires.section.lives).1

pub add_view-requires-clause-few : goal.add_view-requires-clause-few
add_view-requires-clause-few g c =
    few_views (as_kept c.self.inside) c.self.inside.directory.entries c.self.inside.commit c.args.view.section.0 c.self.invariant

pub invariant_of-self-2 : goal.invariant_of-self-2
invariant_of-self-2 g c =
    let p = some_found (process_of c.args.self.now c.args.pid.0) c.requires.ready.lives in
    view_kept (adds g c) p.0 p.1 c.marked_pages-charged.result c.take.new.commit (c.requires.new p.0 p.1).granule c.marked_pages-charged.ensures.some c.requires.section c.requires.room
    c.marked_pages-charged.ensures.charged c.take.ensures (subst (λ (t : Tables). AreKeptTables t c.self.inside.directory.entries c.self.inside.commit) c.self.view_is c.self.invariant)

pub returns-clause-ok : goal.returns-clause-ok
returns-clause-ok g c p s lives place at = view_done (adds g c) p lives s c.requires.section place at

pub returns-clause-settles : goal.returns-clause-settles
returns-clause-settles g c =
    let p = some_found (process_of c.args.self.now c.args.pid.0) c.requires.ready.lives in
    let charged = c.self.invariant.charged ∙ ap (λ (t : Tables). charge t) c.self.view_is in
    record {
      err = tt;
      settled = view_settled (adds g c) p.0 p.1 (g.G.PageStore.contents c.args.g.now) (g.G.PageStore.contents c.make_view.new.g) (g.G.PageStore.store c.args.g.now) (g.G.PageStore.store c.make_view.new.g)
          c.requires.ready.fits c.make_view.ensures.idles.contents c.in_ok-make_view.ensures.binds.bound
          (omega (arith, c.in_ok-make_view.ensures.binds.room, c.now.ensures.charge, charged, c.marked_pages-charged.ensures.charged));
    }
