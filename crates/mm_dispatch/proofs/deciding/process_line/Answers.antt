use Rattle.std.proofs.Common.{◌∙◌, rules, refl, sym, ap, subst, Option, ◌≡◌, true, false, length}
use Rattle.std.proofs.lemmas.Bool.{leb-true}
use Rattle.mm_types.specs.declared.answers.Answer.TheVariants as answer
use Rattle.mm_types.specs.declared.events.Event.TheVariants as event
use Rattle.mm_types.specs.{Key, LineKind, Pid}
use Rattle.mm_world.specs.{Page, new_process, most_processes, world_with}
use Rattle.mm_object_tables.specs.{Called, key_bytes}
use Rattle.mm_world.proofs.{new_process_across}
use Rattle.mm_dispatch.proofs.{quiet-beside, quiet-same, in_new_process, decided-call, begins-line, bytes-kept, none-if, full-process, next-pid, if-ok, if-err}
use Rattle.mm_dispatch.proofs.{marked_alone, marked_still, halted_makes, process_kind, idle-still}
use Rattle.mm_types.specs.declared.moves.LineKind.TheVariants as kind
use Rattle.mm_dispatch.specs.{MarkedAs}
use Rattle.mm_store.specs.{Makes}
use Rattle.mm_dispatch.proofs.deciding.process_line.Goals as goal

pub returns-in-None : goal.returns-in-None
returns-in-None g c =
    let t = c.args.t.now in
    let old = g.G.PageStore.contents c.args.g.now in
    let new = g.G.PageStore.contents c.begin_call.new.g in
    let m = g.G.PageStore.store c.begin_call.new.g in
    let fits = c.begin_call.ensures.keeps.fits in
    record {
      done = record {
        decided = decided-call g.G.PageStore.unpaged (event.Process c.args.min c.args.max) c.args.line t old _ m answer.Full t new m
            (new_process t) c.requires.next.keeps c.requires.next.line_is c.begin_call.ensures.starts.begins (quiet-same _ _ refl)
            (new_process_across t (key_bytes old) c.sound.ensures.sound.spaces) (in_new_process t) refl tt tt
            (subst (λ (old : Key → Option Page). Called (new_process t) t old answer.Full t new) c.begin_call.ensures.starts.contents
            (record { outcome = full-process t (none-if _ _ c.next_pid.result c.in-None.is c.next_pid.ensures); bytes = bytes-kept t t new fits.live fits.live })) fits;
        marked = marked_alone c.args.line kind.Call (event.Process c.args.min c.args.max) (world_with c.args.t.now (key_bytes (g.G.PageStore.contents c.args.g.now))) answer.Full (world_with c.args.t.now (key_bytes (g.G.PageStore.contents c.begin_call.new.g))) g.G.PageStore.unpaged
            (g.G.PageStore.store c.args.g.now) (g.G.PageStore.store c.begin_call.new.g) (g.G.PageStore.behind c.args.g.now) (g.G.PageStore.behind c.begin_call.new.g)
            (record { ages = λ ms. refl; waits = λ ws l. refl }) refl c.begin_call.ensures.starts.passes;
      };
      broke = tt;
      no_memory = λ none. refl;
      loans = c.begin_call.ensures.starts.loans;
    }

pub new_process-requires : goal.new_process-requires
new_process-requires g c =
    let next = next-pid c.args.t.now c.in-Some.pid c.next_pid.result c.in-Some.is c.next_pid.ensures in
    record {
      few = leb-true (length c.args.t.now.processes) most_processes next.room;
      next = ap (λ (p : Pid). p.0) next.same;
      starts = record { kind_is = search rules; fits = search rules; last_pid = search rules };
    }

pub returns : goal.returns
returns g c =
    let t = c.args.t.now in
    let old = g.G.PageStore.contents c.args.g.now in
    let call = c.new_process in
    let next = next-pid t c.in-Some.pid c.next_pid.result c.in-Some.is c.next_pid.ensures in
    let new = g.G.PageStore.contents call.new.g in
    record {
      done = if-ok call.result call.ensures.done (λ a h. record {
        decided = decided-call g.G.PageStore.unpaged (event.Process c.args.min c.args.max) c.args.line t old _ (g.G.PageStore.store c.line.new.self) a call.new.t new (g.G.PageStore.store call.new.g)
            (new_process t) c.requires.next.keeps c.requires.next.line_is (begins-line _ _ _ _ c.line.ensures.store) (quiet-beside _ _ h.beside)
            (new_process_across t (key_bytes old) c.sound.ensures.sound.spaces) (in_new_process t) refl tt tt
            (subst (λ (old : Key → Option Page). Called (new_process t) t old a call.new.t new) c.line.ensures.contents h.called) h.fits;
        marked = subst (λ (k : LineKind). g.G.PageStore.unpaged ≡ false → MarkedAs k (event.Process c.args.min c.args.max) c.args.line (world_with c.args.t.now (key_bytes (g.G.PageStore.contents c.args.g.now))) (g.G.PageStore.store c.args.g.now) (g.G.PageStore.behind c.args.g.now) a (world_with call.new.t (key_bytes (g.G.PageStore.contents call.new.g))) (g.G.PageStore.store call.new.g) (g.G.PageStore.behind call.new.g))
            (process_kind c.args.t.now (g.G.PageStore.contents c.line.new.self) (g.G.PageStore.contents call.new.g) c.in-Some.pid next a call.new.t c.args.min c.args.max h.called)
            (marked_still c.args.line (kind.Process c.in-Some.pid c.args.min c.args.max) (event.Process c.args.min c.args.max) (world_with c.args.t.now (key_bytes (g.G.PageStore.contents c.args.g.now))) a (world_with call.new.t (key_bytes (g.G.PageStore.contents call.new.g))) g.G.PageStore.unpaged
            (g.G.PageStore.store c.args.g.now) (g.G.PageStore.store c.line.new.self) (g.G.PageStore.store call.new.g) (g.G.PageStore.behind c.args.g.now) (g.G.PageStore.behind c.line.new.self) (g.G.PageStore.behind call.new.g)
            (record { ages = λ ms. refl; waits = λ ws l. refl }) (λ ms h. h) c.line.ensures.passes call.ensures.idles.passes);
      });
      broke = if-err c.new_process.result c.new_process.ensures.broke (λ h. record {
        idle = idle-still (begins-line _ _ _ _ c.line.ensures.store) c.line.ensures.contents h.store h.tables h.contents;
        halted = halted_makes (world_with t (key_bytes old)) (event.Process c.args.min c.args.max) c.args.line (kind.Process c.in-Some.pid c.args.min c.args.max) (answer.NewProcess c.in-Some.pid) refl g.G.PageStore.unpaged (g.G.PageStore.store c.args.g.now) (g.G.PageStore.store c.line.new.self) (g.G.PageStore.store c.new_process.new.g) (g.G.PageStore.behind c.args.g.now) (g.G.PageStore.behind c.line.new.self) (g.G.PageStore.behind c.new_process.new.g) c.line.ensures.passes (c.new_process.ensures.idles.passes Makes);
      });
      no_memory = λ full. let bad : true ≡ false = sym next.room ∙ full in cc;
      loans = call.ensures.idles.loans ∙ c.line.ensures.loans;
    }
