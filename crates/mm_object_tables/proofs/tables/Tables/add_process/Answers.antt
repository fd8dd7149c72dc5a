use Rattle.std.proofs.Common.{◌≤◌, ◌∙◌, sym, ap, subst, arith, length, is_some}
use Rattle.mm_world.specs.{Tables, most_processes}
use Rattle.mm_object_tables.specs.{FitsTables, AreKeptTables}
use Rattle.mm_object_tables.proofs.{more, shown_as, more_kept, more_fits, shown_with}
use Rattle.mm_types.proofs.{none_at_end, on_err}
use Rattle.mm_object_tables.proofs.tables.Tables.add_process.Goals as goal

pub push_process-requires-clause-new : goal.push_process-requires-clause-new
push_process-requires-clause-new g c =
    c.requires.starts.fits.opened c.args.pid.0 ∙ ap is_some (none_at_end c.args.self.now.processes c.args.pid.0 c.requires.next)

pub invariant_of-self : goal.invariant_of-self
invariant_of-self g c =
    subst (λ items. AreKeptTables (shown_with c.self.inside items) c.self.inside.directory.entries c.self.inside.commit) (sym c.in_err-push_process.ensures.same) c.self.invariant

pub invariant_of-self-2 : goal.invariant_of-self-2
invariant_of-self-2 g c =
    let i = c.self.inside in
    let t = shown_with i i.processes.items in
    let few : length t.processes ≤ most_processes = omega (arith, ap (λ (t : Tables). length t.processes) c.self.view_is, c.requires.few) in
    subst (λ ps. AreKeptTables (shown_as i ps) i.directory.entries i.commit) (sym c.in_ok-push_process.ensures.added) (more_kept t i.directory.entries i.commit c.self.invariant few)

pub returns-in_err-push_process-clause-kept : goal.returns-in_err-push_process-clause-kept
returns-in_err-push_process-clause-kept g c =
    on_err c.from_residual.result (ap (λ items. shown_with c.self.inside items) c.in_err-push_process.ensures.same ∙ c.self.view_is, c.in_err-push_process.ensures.kept)

pub returns-clause-ok : goal.returns-clause-ok
returns-clause-ok g c = ap (λ ps. shown_as c.self.inside ps) c.in_ok-push_process.ensures.added ∙ ap more c.self.view_is

pub returns-clause-fits : goal.returns-clause-fits
returns-clause-fits g c =
    let now = ap (λ ps. shown_as c.self.inside ps) c.in_ok-push_process.ensures.added ∙ ap more c.self.view_is in
    subst (λ (t : Tables). FitsTables t (g.G.PageStore.contents c.push_process.new.g) (g.G.PageStore.store c.push_process.new.g)) (sym now)
    (more_fits c.args.self.now (g.G.PageStore.contents c.args.g.now) (g.G.PageStore.contents c.push_process.new.g) (g.G.PageStore.store c.args.g.now) (g.G.PageStore.store c.push_process.new.g) c.args.pid.0
    c.requires.next c.requires.starts.fits c.in_ok-push_process.ensures.store c.requires.starts.last_pid c.push_process.ensures.idles.contents)
