use Rattle.std.proofs.Common.{◌∷◌, refl, sym, ap, ◌∙◌, subst, rules}
use Rattle.mm_types.specs.{IsMachine}
use Rattle.mm_types.specs.declared.events.Event.TheVariants as line
use Rattle.mm_dispatch.specs.{world, world_behind, scene}
use Rattle.mm_pager.specs.Store as paged
use Rattle.mm_run.specs.{AccountsMoves, BatchRan, MachineIsMade, NotBegun, Outset, Running, StartsFrom, left_behind}
use Rattle.mm_run.proofs.{is_new, is_made, log_left_at}
use Rattle.mm_parts.proofs.{first_legal}
use Rattle.mm_run.proofs.bulk.decide_over.Goals as goal
use Rattle.mm_run.proofs.bulk.decide_over.Given as given
use Rattle.mm_run.proofs.bulk.decide_over.Goals.{After-finish-2}

-- a store over a state that starts has no request, and nothing beside its tables
pub over-requires : goal.over-requires
over-requires g c = let shows = c.requires.starts.starts.noted.shows in record { own = ap (λ z. z.own) shows; aside = ap (λ z. z.aside) shows; unused = λ b. ap (λ z. z.life.added b) shows; calm = λ is. ap (λ z. z.told.search_writes) shows }

pub new-world-requires : goal.new-world-requires
new-world-requires g c = record { new = is_new c.args.machine _ _ c.requires.starts.starts _ _ c.over.ensures.contents c.over.ensures.store }

-- the world over it is the machine's
made : (g : given.Over) (c : After-finish-2 g) (o : Outset) → StartsFrom c.args.machine o (g.T.StateCalls.shown c.args.state) → MachineIsMade c.args.machine o (scene c.new-world.result)
made g c o h =
    let m = c.args.machine in
    let whole : IsMachine m = search rules in
    let first = c.new-world.result in
    let pages = c.new-world.ensures.pages in
    is_made m o _ h (first_legal m whole) (world first) (paged.store first.pages) (paged.paged_behind first.pages) c.new-world.ensures.world (ap (λ x. paged.store x) pages ∙ c.over.ensures.store) (ap (λ x. paged.paged_behind x) pages ∙ c.over.ensures.behind) (c.new-world.ensures.agrees refl)

pub returns-clause-came : goal.returns-clause-came
returns-clause-came g c = λ o h.
    let last = c.decide_events-decided.new.world in
    subst (λ z. BatchRan (NotBegun o) (line.Machine c.args.machine ∷ c.args.events.now) c.decide_events-decided.result (left_behind (g.T.StateCalls.shown z))) (sym (c.finish-2.ensures.state ∙ ap (λ x. x.state) c.finish.ensures)) (record {
      end = Running (scene last);
      finished = c.decide_events-decided.ensures.came o (made g (goal.at.returns-clause-came g c).After-finish-2 o h);
      leaves = (log_left_at (world_behind last).log _ refl refl refl, record { log_is = refl; blocks_are = refl; faults_are = refl }, record { log_is = refl; blocks_are = refl; faults_are = refl });
    })

pub returns-clause-faults : goal.returns-clause-faults
returns-clause-faults g c = λ o h.
    subst (λ z. AccountsMoves c.decide_events-decided.result ⊥ o.log.faults (g.T.StateCalls.shown z).log.faults) (sym (c.finish-2.ensures.state ∙ ap (λ x. x.state) c.finish.ensures)) (c.decide_events-decided.ensures.faults o (made g (goal.at.returns-clause-faults g c).After-finish-2 o h) h.unfailed)
