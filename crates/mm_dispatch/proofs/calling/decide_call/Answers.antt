use Rattle.std.proofs.Common.{rules, refl, ◌∙◌, ap, sym}
use Rattle.mm_types.specs.declared.answers.Answer.TheVariants as answer
use Rattle.mm_types.specs.declared.events.Event.TheVariants as event
use Rattle.mm_types.specs.declared.moves.LineKind.TheVariants as kind
use Rattle.mm_types.specs.{Counts}
use Rattle.mm_world.specs.{blank, done, world_with}
use Rattle.mm_world.proofs.{alloc_across, close_across, create_across, create_file_across, map_across, open_across, probe_across, protect_across}
use Rattle.mm_world.proofs.{query_across, reset_watch_across, stack_across, watch_across}
use Rattle.mm_store.specs.{Makes, MakesStack, guard_told}
use Rattle.mm_object_tables.specs.{key_bytes}
use Rattle.mm_dispatch.specs.{world_over}
use Rattle.mm_dispatch.proofs.{answered, charge-with, closes-call, decided-same, if-err, looked, looks-call, makes-keys, makes-none, makes-turns}
use Rattle.mm_dispatch.proofs.{marked_alone, none, quiet-same, served-quiet, stack_makes, takes-looking, told-line, in_alloc, in_close, in_create}
use Rattle.mm_dispatch.proofs.{in_create_file, in_map, in_open, in_probe, in_protect, in_query, in_reset_watch, in_stack, in_watch}
use Rattle.mm_dispatch.proofs.calling.decide_call.Goals as goal

pub returns-in-Alloc : goal.returns-in-Alloc
returns-in-Alloc g c =
    let a = c.in-Alloc in
    makes-keys g.G.PageStore a.is (search rules) c.requires.can.next c.begin_call.ensures (alloc_across _ _ c.begin_call.ensures.sound.spaces a.pid.0 a.addr a.size a.form a.prot) (in_alloc blank _ a.pid.0 a.addr a.size a.form a.prot)
    c.valloc.result c.valloc.ensures.done c.valloc.ensures.broke c.valloc.ensures.no_memory (λ a ms h. h) c.valloc.ensures.makes

pub returns-in-Protect : goal.returns-in-Protect
returns-in-Protect g c =
    let a = c.in-Protect in
    makes-none g.G.PageStore a.is (search rules) c.requires.can.next c.begin_call.ensures (protect_across _ _ c.begin_call.ensures.sound.spaces a.pid.0 a.addr a.size a.prot) (in_protect _ a.pid.0 a.addr a.size a.prot)
    c.protect.result c.protect.ensures.done c.protect.ensures.broke c.protect.ensures.no_memory (λ a ms h. h) c.protect.ensures.idles

pub returns-in-Query : goal.returns-in-Query
returns-in-Query g c =
    let a = c.in-Query in
    looks-call g.G.PageStore a.is (search rules) c.requires.can.next c.begin_call.ensures (query_across _ _ c.begin_call.ensures.sound.spaces a.pid.0 a.addr) (in_query _ a.pid.0 a.addr) refl
    (looked g.G.PageStore a.is (search rules) c.requires.can.next c.begin_call.ensures (query_across _ _ c.begin_call.ensures.sound.spaces a.pid.0 a.addr) (in_query _ a.pid.0 a.addr) c.query.ensures c.begin_call.ensures.keeps.fits)

pub returns-in-Charge : goal.returns-in-Charge
returns-in-Charge g c =
    let p = g.G.PageStore in
    let call = c.begin_call.ensures in
    let x = c.begin_call.new.g in
    let t = c.args.t.now in
    let old = p.contents c.args.g.now in
    let told = c.charge-charge in
    let a = answer.Charge told.result.0 told.result.1 in
    answered p c.in-Charge.is (record {
      decided = decided-same p c.requires.can.next call.starts event.Charge a (quiet-same (p.store x) (p.store x) refl) refl refl
          (λ i. done (answer.Charge ((charge-with t (key_bytes old) ∙ sym told.ensures.charge) i) (sym told.ensures.limit i)) (world_with t (key_bytes old)))
          (λ f. f) tt tt call.keeps.fits;
      marked = marked_alone c.args.line kind.Call event.Charge (world_over p t c.args.g.now) a (world_over p t x) p.unpaged (p.store c.args.g.now) (p.store x) (p.behind c.args.g.now) (p.behind x) (record { ages = λ ms. refl; waits = λ ws l. refl }) refl call.starts.passes;
    }) tt (λ paged. (tt, tt)) call.starts.loans

pub returns-in-Create : goal.returns-in-Create
returns-in-Create g c =
    let a = c.in-Create in
    makes-keys g.G.PageStore a.is (search rules) c.requires.can.next c.begin_call.ensures (create_across _ _ c.begin_call.ensures.sound.spaces a.pid.0 a.size a.flags a.name) (in_create blank _ a.pid.0 a.size a.flags a.name)
    c.create.result c.create.ensures.done c.create.ensures.broke c.create.ensures.no_memory (λ a ms h. h) c.create.ensures.makes

pub returns-in-CreateFile : goal.returns-in-CreateFile
returns-in-CreateFile g c =
    let a = c.in-CreateFile in
    takes-looking g.G.PageStore a.is (search rules) c.requires.can.next c.begin_call.ensures (create_file_across _ _ c.begin_call.ensures.sound.spaces a.pid.0 a.file a.flags a.name) (in_create_file _ a.pid.0 a.file a.flags a.name)
    c.create_file.result c.create_file.ensures.ok c.create_file.ensures.err c.create_file.ensures.no_memory c.create_file.ensures.settled (λ a. refl)

pub returns-in-Open : goal.returns-in-Open
returns-in-Open g c =
    let a = c.in-Open in
    takes-looking g.G.PageStore a.is (search rules) c.requires.can.next c.begin_call.ensures (open_across _ _ c.begin_call.ensures.sound.spaces a.pid.0 a.name) (in_open _ a.pid.0 a.name)
    c.open_section.result c.open_section.ensures.ok c.open_section.ensures.err c.open_section.ensures.no_memory c.open_section.ensures.settled (λ a. refl)

pub returns-in-Close : goal.returns-in-Close
returns-in-Close g c =
    let a = c.in-Close in
    closes-call g.G.PageStore a.pid a.is (search rules) c.requires.can.next c.begin_call.ensures (close_across _ _ c.begin_call.ensures.sound.spaces a.pid.0 a.handle) (in_close _ a.pid.0 a.handle) (λ ms h. h) c.close.ensures.done (c.close.ensures.passes none) c.close.ensures.loans

pub returns-in-Map : goal.returns-in-Map
returns-in-Map g c =
    let a = c.in-Map in
    makes-none g.G.PageStore a.is (search rules) c.requires.can.next c.begin_call.ensures (map_across _ _ c.begin_call.ensures.sound.spaces a.pid.0 a.handle a.access a.offset a.size a.addr) (in_map _ a.pid.0 a.handle a.access a.offset a.size a.addr)
    c.map.result c.map.ensures.done c.map.ensures.broke c.map.ensures.no_memory (λ a ms h. h) c.map.ensures.idles

pub returns-in-Counts : goal.returns-in-Counts
returns-in-Counts g c =
    let p = g.G.PageStore in
    let call = c.begin_call.ensures in
    let x = c.begin_call.new.g in
    let t = c.args.t.now in
    let a = answer.Counts c.counts.result in
    answered p c.in-Counts.is (record {
      decided = told-line p x c.requires.can.next call.starts refl event.Counts a refl (ap (λ (n : Counts). done (answer.Counts n) (world_over p t c.args.g.now)) (sym c.counts.ensures)) refl
          (served-quiet (p.store x) (p.store x) (quiet-same (p.store x) (p.store x) refl)) (λ f. absurd f) tt tt call.keeps.fits;
      marked = marked_alone c.args.line kind.Call event.Counts (world_over p t c.args.g.now) a (world_over p t x) p.unpaged (p.store c.args.g.now) (p.store x) (p.behind c.args.g.now) (p.behind x) (record { ages = λ ms. refl; waits = λ ws l. refl }) refl call.starts.passes;
    }) tt (λ paged. (tt, tt)) call.starts.loans

pub returns-in-Stack : goal.returns-in-Stack
returns-in-Stack g c =
    let a = c.in-Stack in
    let made = c.stack.ensures in
    makes-turns g.G.PageStore a.is (search rules) c.requires.can.next c.begin_call.ensures (stack_across _ _ c.begin_call.ensures.sound.spaces a.tid.0 a.pid.0 a.reserve a.commit) (in_stack blank _ a.tid.0 a.pid.0 a.reserve a.commit) c.stack.result made.done made.broke made.no_memory
    (λ a. MakesStack (guard_told a)) (λ a. stack_makes (guard_told a)) (λ a ms h. h) made.passes (if-err c.stack.result made.idle (λ idle. idle Makes)) made.loans

pub returns-in-Probe : goal.returns-in-Probe
returns-in-Probe g c =
    let a = c.in-Probe in
    makes-keys g.G.PageStore a.is (search rules) c.requires.can.next c.begin_call.ensures (probe_across _ _ c.begin_call.ensures.sound.spaces a.tid.0 a.addr) (in_probe blank _ a.tid.0 a.addr)
    c.probe.result c.probe.ensures.done c.probe.ensures.broke c.probe.ensures.no_memory (λ a ms h. h) c.probe.ensures.makes

pub returns-in-Watch : goal.returns-in-Watch
returns-in-Watch g c =
    let a = c.in-Watch in
    looks-call g.G.PageStore a.is (search rules) c.requires.can.next c.begin_call.ensures (watch_across _ _ c.begin_call.ensures.sound.spaces a.pid.0 a.unwrites a.addr a.size a.count) (in_watch _ a.pid.0 a.unwrites a.addr a.size a.count) refl
    (record { called = c.watch.ensures.called _ _ c.begin_call.ensures.keeps.fits; fits = c.watch.ensures.fits _ _ c.begin_call.ensures.keeps.fits; beside = refl })

pub returns-in-ResetWatch : goal.returns-in-ResetWatch
returns-in-ResetWatch g c =
    let a = c.in-ResetWatch in
    looks-call g.G.PageStore a.is (search rules) c.requires.can.next c.begin_call.ensures (reset_watch_across _ _ c.begin_call.ensures.sound.spaces a.pid.0 a.addr a.size) (in_reset_watch _ a.pid.0 a.addr a.size) refl
    (record { called = c.reset_watch.ensures.called _ _ c.begin_call.ensures.keeps.fits; fits = c.reset_watch.ensures.fits _ _ c.begin_call.ensures.keeps.fits; beside = refl })
