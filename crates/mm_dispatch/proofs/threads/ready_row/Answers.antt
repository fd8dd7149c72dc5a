use Rattle.std.proofs.Common.{◌≡◌, Some, refl, ap, sym, ◌∙◌, subst}
use Rattle.mm_types.specs.declared.answers.Answer.TheVariants as answer
use Rattle.mm_types.specs.{Why, Place, page_of, MachineOf}
use Rattle.mm_world.specs.{Tables, pending}
use Rattle.mm_store.specs.{Aim, Starts, place_at, need_for, waits_at_once, IsReady}
use Rattle.mm_store.specs.declared.outcomes.Start.TheVariants as start
use Rattle.mm_line_moves.specs.{is_write_attempt}
use Rattle.mm_object_tables.specs.{key_bytes}
use Rattle.mm_dispatch.specs.{aim_for, row_need, KeepsOver, PassesOver}
use Rattle.mm_dispatch.proofs.{can-go-on, in_thread, turns-refused, turns-failed, turns-waiting, keeps_start}
use Rattle.mm_dispatch.proofs.threads.ready_row.Given as given
use Rattle.mm_dispatch.proofs.threads.ready_row.Goals as goal
use Rattle.mm_dispatch.proofs.threads.ready_row.Goals.{After-start}

-- what the store was asked for is what the access needs
needs : (g : given.Over) (c : After-start g) → need_for c.needed.result c.in-Ok.row.key c.place_of.result ≡ row_need c.args.wanted c.in-Ok.row (place_at c.args.pid (page_of c.args.addr))
needs g c = c.needed.ensures.told c.place_of.result ∙ ap (λ (q : Place). row_need c.args.wanted c.in-Ok.row q) c.place_of.ensures

keeps : (g : given.Over) (c : After-start g) → KeepsOver g.G.PageStore c.args.t.now c.start.new.self
keeps g c =
    let p = g.G.PageStore in
    let x = c.args.g.now in
    let y = c.start.new.self in
    keeps_start c.args.t.now (p.contents x) (p.contents y) (p.store x) (p.store y) c.start.ensures.contents c.start.ensures.done.store
    c.place_of.result (place_at c.args.pid (page_of c.args.addr)) c.in-Ok.row.key c.place_of.ensures c.requires.can.keeps c.in-Ok.ensures.at c.start.ensures.done.names

pub returns-in-Err-clause-turned : goal.returns-in-Err-clause-turned
returns-in-Err-clause-turned g c = λ what is.
    turns-refused g.G.PageStore what c.args.tid.0 c.args.pid c.args.addr c.args.failed c.args.t.now c.args.g.now c.admit.new.t (c.admit.ensures.keeps _ _ c.requires.can.keeps) (answer.Raised c.in-Err.why)
    (c.in-Err.ensures.refused (key_bytes (g.G.PageStore.contents c.args.g.now)) what is)

pub returns-then-failed-clause-turned : goal.returns-then-failed-clause-turned
returns-then-failed-clause-turned g c = λ what is.
    turns-failed g.G.PageStore what c.args.tid.0 c.args.pid c.args.addr c.args.failed c.args.t.now c.args.g.now c.admit.new.t (c.admit.ensures.keeps _ _ c.requires.can.keeps) c.args.wanted c.in-Ok.row is
    c.in-Ok.ensures.admitted c.in-Ok.ensures.unchanged c.if-failed.true

pub returns-in-Pending-clause-turned : goal.returns-in-Pending-clause-turned
returns-in-Pending-clause-turned g c = λ what is.
    let after = (goal.at.returns-in-Pending-clause-turned g c).After-start in
    let p = g.G.PageStore in
    let x = c.args.g.now in
    let y = c.start.new.self in
    let asked = c.in-Pending.ensures in
    let why = c.in-Pending.why in
    let keeps-after = subst (λ (t : Tables). KeepsOver p t y) (sym c.in-Ok.ensures.unchanged) (keeps g after) in
    turns-waiting p what c.args.tid.0 c.args.pid c.args.addr c.args.failed c.args.t.now x c.args.wanted c.in-Ok.row is c.admit.new.t c.in-Ok.ensures.unchanged y c.in-Ok.ensures.admitted keeps-after
    c.start.ensures.contents c.start.ensures.done.store why c.if-failed.false
    ((λ i. pending (sym c.requires.can.keeps.fits.machine i).depth (sym (needs g after) i) (p.store x).report (p.store y).report) ∙ asked.done.pending why refl)
    (λ reads. asked.done.awaited (ap (λ (x : Why). start.Pending x) reads)) (λ never. let bad = asked.done.unpaged never in cc) c.start.ensures.loans
    (subst (λ (a : Aim). PassesOver p (Starts a c.args.tid.0 (start.Pending why)) x y) (λ i. aim_for p (c.place_of.ensures i) (needs g after i) (is_write_attempt what) x) (asked.passes (is_write_attempt what)))

pub returns-in-Ready-clause-ready : goal.returns-in-Ready-clause-ready
returns-in-Ready-clause-ready g c =
    let after = (goal.at.returns-in-Ready-clause-ready g c).After-start in
    let p = g.G.PageStore in
    let x = c.args.g.now in
    let y = c.start.new.self in
    let asked = c.in-Ready.ensures in
    let at = place_at c.args.pid (page_of c.args.addr) in
    let ready : IsReady (p.store y) at (row_need c.args.wanted c.in-Ok.row at) = asked.done.ready refl ∙ (λ i. Some (record { place = c.place_of.ensures i; need = needs g after i })) in
    record {
      can = can-go-on p _ c.args.t.now c.admit.new.t _ _ _ _ x y c.in-Ok.ensures.unchanged c.requires.can c.sound.ensures.sound.spaces c.in-Ok.ensures.admitted c.in-Ok.ensures.at c.start.ensures.done.store (keeps g after) ready;
      admitted = c.in-Ok.ensures.admitted;
      same = c.in-Ok.ensures.unchanged;
      fine = c.if-failed.false;
      contents = c.start.ensures.contents;
      store = c.start.ensures.done.store;
      ready = ready;
      at_once = ap (λ (m : MachineOf). waits_at_once m.depth c.in-Ok.row.key (p.store x).report) (sym c.requires.can.keeps.fits.machine) ∙ asked.done.at_once refl;
      thread = in_thread p.unpaged (p.contents x) (p.store x) (p.behind x) c.args.pid c.sound-2.ensures.stands c.requires.can.form;
      passes = λ writes. subst (λ (a : Aim). PassesOver p (Starts a c.args.tid.0 start.Ready) x y) (λ i. aim_for p (c.place_of.ensures i) (needs g after i) writes x) (asked.passes writes);
      loans = c.start.ensures.loans;
    }
