use Rattle.std.proofs.Common.{rules, refl, sym, subst, ap, inr, ◌∙◌, ◌+◌, ◌&&◌, nat_lt, Option}
use Rattle.mm_types.specs.declared.answers.Answer.TheVariants as answer
use Rattle.mm_types.specs.declared.events.Event.TheVariants as event
use Rattle.mm_types.specs.declared.moves.LineKind.TheVariants as kind
use Rattle.mm_types.specs.declared.moves.Move.TheVariants as move
use Rattle.mm_types.specs.{Key}
use Rattle.mm_world.specs.{Page, BytesAfterFile, blank, exit, flush, is_ok, new_file, world_with}
use Rattle.mm_world.proofs.{exit_across, free_across, unmap_across}
use Rattle.mm_store.specs.{StoreOf}
use Rattle.mm_object_tables.specs.{Called, key_bytes}
use Rattle.mm_dispatch.proofs.{answered, made, made-beside, releases-call, in_free, in_unmap, answers-line, halts-line, if-ok, if-err, beside-grow}
use Rattle.mm_dispatch.proofs.{grow-line, halted_grow, idle-grown, marked_grow, beside-file, file-stepped, halted_notes, idle-still, in_new_file}
use Rattle.mm_dispatch.proofs.{marked_file, decided-served, faulted-answer, faulted-made, one-later, in_flush, flush-stepped, flushed-line, marked_flush}
use Rattle.mm_dispatch.proofs.{quiet-beside, in_exit, decided-call, keeps-forgot, decided-forgot, ends-waits, marked_exit}
use Rattle.mm_dispatch.proofs.deciding.decide_other.Goals as goal

pub returns-in-Process : goal.returns-in-Process
returns-in-Process g c = made g.G.PageStore c.in-Process.is c.process_line.ensures (λ a. tt) (λ a paged. (tt, tt))

pub returns-in-Grow : goal.returns-in-Grow
returns-in-Grow g c =
    let call = c.grow_paging in
    let t = c.args.t.now in
    let old = g.G.PageStore.contents c.args.g.now in
    let new = g.G.PageStore.contents call.new.g in
    let s = g.G.PageStore.store c.args.g.now in
    let z = g.G.PageStore.store call.new.g in
    made-beside g.G.PageStore c.in-Grow.is (record {
      done = answers-line g.G.PageStore (event.Grow c.in-Grow.slots) c.args.line c.args.t.now c.args.g.now call.result call.new.t call.new.g
          (if-ok call.result call.ensures.done (λ a h.
          grow-line g.G.PageStore.unpaged c.in-Grow.slots c.args.line t old s a call.new.t new z c.requires.can.next.keeps c.requires.can.next.line_is h.told h.contents h.fits h.rest h.report h.line_is h.cause h.faults))
          (marked_grow c.args.line c.in-Grow.slots (world_with c.args.t.now (key_bytes (g.G.PageStore.contents c.args.g.now))) (world_with call.new.t (key_bytes (g.G.PageStore.contents call.new.g))) (g.G.PageStore.store c.args.g.now) (g.G.PageStore.store call.new.g) (g.G.PageStore.behind c.args.g.now) (g.G.PageStore.behind call.new.g) g.G.PageStore.unpaged call.result call.ensures.notes);
      broke = halts-line g.G.PageStore (event.Grow c.in-Grow.slots) c.args.line c.args.t.now c.args.g.now call.result call.new.t call.new.g
          (if-err call.result call.ensures.broke (λ h. idle-grown h.contents h.store h.tables))
          (halted_grow c.args.line c.in-Grow.slots (world_with c.args.t.now (key_bytes (g.G.PageStore.contents c.args.g.now))) (world_with call.new.t (key_bytes (g.G.PageStore.contents call.new.g))) (g.G.PageStore.store c.args.g.now) (g.G.PageStore.store call.new.g) (g.G.PageStore.behind c.args.g.now) (g.G.PageStore.behind call.new.g) g.G.PageStore.unpaged call.result call.ensures.notes);
      no_memory = call.ensures.no_memory;
      loans = call.ensures.loans;
    }) (λ a. tt) (λ paged.
    beside-grow (world_with c.args.t.now (key_bytes (g.G.PageStore.contents c.args.g.now))) c.args.t.now.blocks_used c.in-Grow.slots c.args.line g.G.PageStore.unpaged
    (g.G.PageStore.store c.args.g.now) (g.G.PageStore.store call.new.g) (g.G.PageStore.behind c.args.g.now) (g.G.PageStore.behind call.new.g) paged call.result
    (if-ok call.result call.ensures.done (λ a h. h.rest)) (if-ok call.result call.ensures.done (λ a h. h.grew)) (if-ok call.result call.ensures.done (λ a h. h.unasked)) call.ensures.notes)

pub returns-in-File : goal.returns-in-File
returns-in-File g c =
    let t = c.args.t.now in
    let u = g.G.PageStore.unpaged in
    let old = g.G.PageStore.contents c.args.g.now in
    let s = g.G.PageStore.store c.args.g.now in
    let m = g.G.PageStore.store c.begin_call.new.g in
    let call = c.new_file in
    let new = g.G.PageStore.contents call.new.g in
    let z = g.G.PageStore.store call.new.g in
    let after = call.new.t in
    let name = c.in-File.name in
    let e = event.File name c.in-File.pages c.in-File.byte in
    let q = new_file blank t name c.in-File.pages c.in-File.byte in
    let makes = (in_new_file blank t name c.in-File.pages c.in-File.byte).it in
    let b = is_ok q.answer && nat_lt 0 z.report.file_writes.failed in
    made-beside g.G.PageStore c.in-File.is (record {
      done = if-ok call.result call.ensures.done (λ a h. record {
        decided = decided-served u e c.args.line t old s m a after new z c.requires.can.next.line_is c.begin_call.ensures.starts.begins (ap (λ (s : StoreOf). s.line) h.beside) h.served
            (file-stepped u c.args.line t old new s m z c.begin_call.ensures.sound.spaces c.requires.can.next.keeps.fits.live a after name c.in-File.pages c.in-File.byte h.told
            (subst (λ (x : Key → Option Page). BytesAfterFile c.in-File.byte t (key_bytes x) after (key_bytes new)) c.begin_call.ensures.starts.contents h.bytes))
            (λ f. inr (h.blamed (faulted-answer u e c.args.line t old s m a after new z b q makes.fine h.told f))) tt tt
            (faulted-made u e c.args.line t old s m a after new z b q (s.line + 1) (one-later t s.line c.requires.can.next.keeps.few) (makes.made s.line c.requires.can.next.keeps.few) h.told) h.fits;
        marked = marked_file c.args.line (event.File c.in-File.name c.in-File.pages c.in-File.byte) (world_with c.args.t.now (key_bytes (g.G.PageStore.contents c.args.g.now))) a (world_with call.new.t (key_bytes (g.G.PageStore.contents call.new.g))) g.G.PageStore.unpaged (g.G.PageStore.store c.args.g.now) (g.G.PageStore.store c.begin_call.new.g) (g.G.PageStore.store call.new.g) (g.G.PageStore.behind c.args.g.now) (g.G.PageStore.behind c.begin_call.new.g) (g.G.PageStore.behind call.new.g)
            (record { ages = λ ms. refl; waits = λ ws l. refl }) (λ ms h. h) c.begin_call.ensures.starts.passes call.ensures.notes;
      });
      broke = if-err call.result call.ensures.broke (λ h. record {
        idle = idle-still c.begin_call.ensures.starts.begins c.begin_call.ensures.starts.contents h.store h.tables h.contents;
        halted = halted_notes (world_with t (key_bytes old)) e c.args.line kind.Call answer.Ok refl g.G.PageStore.unpaged (g.G.PageStore.store c.args.g.now) (g.G.PageStore.store c.begin_call.new.g) (g.G.PageStore.store call.new.g) (g.G.PageStore.behind c.args.g.now) (g.G.PageStore.behind c.begin_call.new.g) (g.G.PageStore.behind call.new.g) c.begin_call.ensures.starts.passes call.ensures.notes;
      });
      no_memory = call.ensures.no_memory;
      loans = call.ensures.loans ∙ c.begin_call.ensures.starts.loans;
    }) (λ a. tt) (λ paged.
    if-ok call.result call.ensures.done (λ a h.
    beside-file (world_with c.args.t.now (key_bytes (g.G.PageStore.contents c.args.g.now))) c.in-File.name c.in-File.pages c.in-File.byte c.args.line a (move.At c.args.line kind.Call) g.G.PageStore.unpaged
    (g.G.PageStore.store c.args.g.now) (g.G.PageStore.store c.begin_call.new.g) (g.G.PageStore.store call.new.g) (g.G.PageStore.behind c.args.g.now) (g.G.PageStore.behind c.begin_call.new.g) (g.G.PageStore.behind call.new.g) paged
    c.begin_call.ensures.starts.begins h.beside (h.file paged) c.begin_call.ensures.starts.passes call.ensures.notes))

pub begin_release-requires : goal.begin_release-requires
begin_release-requires g c =
    let rest = c.forget_waits.ensures.forgot.rest in
    record {
      next = record {
        keeps = keeps-forgot c.args.t.now _ _ _ _ c.requires.can.next.keeps c.forget_waits.ensures.contents rest;
        line_is = c.requires.can.next.line_is ∙ ap (λ (s : StoreOf). s.line + 1) (sym rest);
      };
    }

pub returns-in-Exit : goal.returns-in-Exit
returns-in-Exit g c =
    let u = g.G.PageStore.unpaged in
    let t = c.args.t.now in
    let s = g.G.PageStore.store c.args.g.now in
    let y = g.G.PageStore.store c.forget_waits.new.g in
    let old = g.G.PageStore.contents c.args.g.now in
    let mid = g.G.PageStore.contents c.forget_waits.new.g in
    let call = c.end_process in
    let new = g.G.PageStore.contents call.new.g in
    let rest = c.forget_waits.ensures.forgot.rest in
    let keeps = keeps-forgot t old mid s y c.requires.can.next.keeps c.forget_waits.ensures.contents rest in
    answered g.G.PageStore c.in-Exit.is (record {
      decided = decided-forgot u c.in-Exit.pid c.args.line t old mid s y call.result call.new.t new (g.G.PageStore.store call.new.g) c.forget_waits.ensures.contents rest
          (decided-call u (event.Exit c.in-Exit.pid) c.args.line t mid y (g.G.PageStore.store c.begin_release.new.g) call.result call.new.t new (g.G.PageStore.store call.new.g)
          (exit t c.in-Exit.pid.0) keeps (c.requires.can.next.line_is ∙ ap (λ (s : StoreOf). s.line + 1) (sym rest)) c.begin_release.ensures.starts.begins (quiet-beside _ _ call.ensures.done.beside)
          (exit_across t (key_bytes mid) c.begin_release.ensures.sound.spaces c.in-Exit.pid.0) (in_exit t c.in-Exit.pid.0) refl tt tt
          (subst (λ (old : Key → Option Page). Called (exit t c.in-Exit.pid.0) t old call.result call.new.t new) c.begin_release.ensures.starts.contents call.ensures.done.called) call.ensures.done.fits);
      marked = marked_exit c.args.t.now (g.G.PageStore.contents c.args.g.now) (g.G.PageStore.contents c.forget_waits.new.g) c.end_process.new.t (g.G.PageStore.contents c.end_process.new.g) c.args.line c.in-Exit.pid c.end_process.result c.begin_release.ensures.sound.numbers.kept g.G.PageStore.unpaged
          (g.G.PageStore.store c.args.g.now) (g.G.PageStore.store c.forget_waits.new.g) (g.G.PageStore.store c.begin_release.new.g) (g.G.PageStore.store c.end_process.new.g) (g.G.PageStore.behind c.args.g.now) (g.G.PageStore.behind c.forget_waits.new.g) (g.G.PageStore.behind c.begin_release.new.g) (g.G.PageStore.behind c.end_process.new.g)
          c.forget_waits.ensures.passes c.forget_waits.ensures.forgot.rest c.begin_release.ensures.starts.passes c.end_process.ensures.loses.passes;
    })
    (ends-waits c.args.t.now c.in-Exit.pid c.end_process.result (g.G.PageStore.store c.args.g.now) (g.G.PageStore.store c.forget_waits.new.g) (g.G.PageStore.store c.begin_release.new.g) (g.G.PageStore.store c.end_process.new.g)
    c.begin_release.ensures.sound.numbers.kept c.forget_waits.ensures.forgot
    (ap (λ r. r.wait) c.begin_release.ensures.starts.begins.report_is)
    (ap (λ (s : StoreOf). s.report.wait) c.end_process.ensures.done.beside))
    (λ paged. (tt, tt)) (call.ensures.loses.loans ∙ c.begin_release.ensures.starts.loans ∙ c.forget_waits.ensures.loans)

pub returns-in-Flush : goal.returns-in-Flush
returns-in-Flush g c =
    let t = c.args.t.now in
    let u = g.G.PageStore.unpaged in
    let old = g.G.PageStore.contents c.args.g.now in
    let s = g.G.PageStore.store c.args.g.now in
    let m = g.G.PageStore.store c.begin_call-in-Flush.new.g in
    let call = c.flush_view in
    let new = g.G.PageStore.contents call.new.g in
    let z = g.G.PageStore.store call.new.g in
    let a = call.result in
    let e = event.Flush c.in-Flush.pid c.in-Flush.addr c.in-Flush.size in
    let q = flush t c.in-Flush.pid.0 c.in-Flush.addr c.in-Flush.size in
    let b = is_ok q.answer && nat_lt 0 z.report.file_writes.failed in
    answered g.G.PageStore c.in-Flush.is (record {
      decided = decided-served u e c.args.line t old s m a t new z c.requires.can.next.line_is c.begin_call-in-Flush.ensures.starts.begins (ap (λ (s : StoreOf). s.line) call.ensures.done.beside) call.ensures.done.served
          (flush-stepped u c.args.line t old new s m z c.begin_call-in-Flush.ensures.sound.spaces c.requires.can.next.keeps.fits.live a t c.in-Flush.pid c.in-Flush.addr c.in-Flush.size call.ensures.outcome refl (call.ensures.done.contents ∙ c.begin_call-in-Flush.ensures.starts.contents))
          (λ f. inr (call.ensures.done.blamed (faulted-answer u e c.args.line t old s m a t new z b q (in_flush t c.in-Flush.pid.0 c.in-Flush.addr c.in-Flush.size).it.fine call.ensures.outcome f))) tt
          (flushed-line t new c.begin_call-in-Flush.ensures.sound c.begin_call-in-Flush.ensures.tidy call.ensures.done.fits.live z.file_blocks c.in-Flush.pid c.in-Flush.addr c.in-Flush.size a call.ensures.holds)
          (one-later t s.line c.requires.can.next.keeps.few) call.ensures.done.fits;
      marked = marked_flush c.args.t.now (g.G.PageStore.contents c.args.g.now) (g.G.PageStore.contents call.new.g) c.args.line c.in-Flush.pid c.in-Flush.addr c.in-Flush.size call.result g.G.PageStore.unpaged
          (g.G.PageStore.store c.args.g.now) (g.G.PageStore.store c.begin_call-in-Flush.new.g) (g.G.PageStore.store call.new.g) (g.G.PageStore.behind c.args.g.now) (g.G.PageStore.behind c.begin_call-in-Flush.new.g) (g.G.PageStore.behind call.new.g) c.begin_call-in-Flush.ensures.starts.passes call.ensures.passes;
    }) tt (λ paged. (tt, tt)) (call.ensures.done.loans ∙ c.begin_call-in-Flush.ensures.starts.loans)

pub returns-in-Begin : goal.returns-in-Begin
returns-in-Begin g c = answered g.G.PageStore c.in-Begin.is c.begin_line.ensures.done tt (λ paged. (tt, tt)) c.begin_line.ensures.loans

pub returns-in-Resume : goal.returns-in-Resume
returns-in-Resume g c = answered g.G.PageStore c.in-Resume.is c.resume_line.ensures.done c.resume_line.ensures.waits (λ paged. (tt, tt)) c.resume_line.ensures.loans

pub returns-in-Free : goal.returns-in-Free
returns-in-Free g c =
    let a = c.in-Free in
    let release = c.begin_release-in-Free.ensures in
    releases-call g.G.PageStore a.pid a.is (search rules) c.requires.can.next release (free_across _ _ release.sound.spaces a.pid.0 a.addr a.size a.form) (in_free _ a.pid.0 a.addr a.size a.form) (λ k ms h. h) c.vfree.ensures.done c.vfree.ensures.loses

pub returns-in-Unmap : goal.returns-in-Unmap
returns-in-Unmap g c =
    let a = c.in-Unmap in
    let release = c.begin_release-in-Unmap.ensures in
    releases-call g.G.PageStore a.pid a.is (search rules) c.requires.can.next release (unmap_across _ _ release.sound.spaces a.pid.0 a.addr) (in_unmap _ a.pid.0 a.addr) (λ k ms h. h) c.unmap.ensures.done c.unmap.ensures.loses
