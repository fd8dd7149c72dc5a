use Rattle.mm_object_tables.specs.{key_bytes}
use Rattle.mm_dispatch.proofs.{is_ok_with, at-ok, at-err, decides, breaks}
use Rattle.mm_dispatch.proofs.worlds.World.step.Goals as goal

pub returns-clause-decided : goal.returns-clause-decided
returns-clause-decided g c =
    let d = c.decide-result in
    let w = c.args.self.now in
    let p = g.G.PageStore in
    at-ok d.result (λ x q.
    decides p.unpaged c.args.line w.tables (p.contents w.pages) (p.store w.pages) (p.behind w.pages)
    d.new.t (p.contents d.new.g) (p.store d.new.g) (p.behind d.new.g)
    c.args.event.now d.new.answer c.requires.few (w.fits c.requires.ready)
    (assumption (c.requires, c.sound.ensures, c.sound-2.ensures, c.sound-3.ensures))
    (rw q at d.ensures.done).decided (rw q at d.ensures.waits) (λ paging. rw q at (d.ensures.beside paging)) (rw q at d.ensures.done).marked)

pub returns-clause-broke : goal.returns-clause-broke
returns-clause-broke g c =
    let d = c.decide-result in
    let w = c.args.self.now in
    let p = g.G.PageStore in
    at-err d.result (λ x q.
    breaks p.unpaged c.args.line w.tables (p.contents w.pages) (p.store w.pages) (p.behind w.pages)
    d.new.t (p.contents d.new.g) (p.store d.new.g) (p.behind d.new.g) c.args.event.now
    (assumption (c.requires, c.sound.ensures, c.sound-2.ensures, c.sound-3.ensures))
    (rw q at d.ensures.broke).idle (rw q at d.ensures.broke).halted)

pub returns-clause-no_memory : goal.returns-clause-no_memory
returns-clause-no_memory g c =
    let w = c.args.self.now in
    is_ok_with w.tables (key_bytes (g.G.PageStore.contents w.pages)) c.args.event.now c.decide-result.result c.decide-result.ensures.no_memory
