use Rattle.std.proofs.Common.{rules, ◌≡◌, ◌<◌, ◌+◌, refl, sym, ◌∙◌, ap, subst, arith, Option}
use Rattle.mm_types.specs.declared.answers.Answer.TheVariants as answer
use Rattle.mm_types.specs.declared.codes.Code.TheVariants as code
use Rattle.mm_types.specs.declared.events.Event.TheVariants as event
use Rattle.mm_types.specs.declared.moves.LineKind.TheVariants as kind
use Rattle.mm_types.specs.declared.moves.Move.TheVariants as move
use Rattle.mm_types.specs.{Key}
use Rattle.mm_move_rules.specs.{clearings, writes_begun}
use Rattle.mm_world.specs.{Page, Tables, world_with, OutcomeOf, done, take_fail}
use Rattle.mm_world.proofs.{take_fail_across}
use Rattle.mm_store.specs.Behind.{Behind}
use Rattle.mm_store.specs.declared.outcomes.Done.TheVariants as ended
use Rattle.mm_line_moves.specs.{with_line}
use Rattle.mm_object_tables.specs.{FitsTables, Called, key_bytes, MadeAtMost}
use Rattle.mm_dispatch.specs.{AnswersLine, world_over}
use Rattle.mm_dispatch.proofs.{answered, quiet-same, quiet-rearranged, decided-same, fits-same, fits-rearranged, gone-by, lives-by, store-gone}
use Rattle.mm_dispatch.proofs.{store-lives, marked_no_trim, marked_trim, marked_no_age, marked_age, marked_exactly, clearings_keep, written_keep, io-none}
use Rattle.mm_dispatch.proofs.{io-ok, io-failed, stepped-plain, called-across, bytes-kept, keeps-made, in_take_fail, fail-taken, names-calls, beside-fail}
use Rattle.mm_dispatch.proofs.{marked_fail}
use Rattle.mm_dispatch.proofs.paging_lines.paging_line.Goals as goal

pub returns-then-not-begin_on : goal.returns-then-not-begin_on
returns-then-not-begin_on g c =
    let m = g.G.PageStore.store c.begin_on.new.g in
    answered g.G.PageStore c.in-Trim.is (record {
      decided = decided-same g.G.PageStore c.requires.can.next c.begin_on.ensures.starts (event.Trim c.in-Trim.pid c.in-Trim.n) (answer.Error code.InvalidHandle) (quiet-same m m refl) refl refl
          (store-gone c.args.t.now (key_bytes (g.G.PageStore.contents c.args.g.now)) c.in-Trim.pid.0 (gone-by c.args.t.now c.in-Trim.pid.0 (sym c.begin_on.ensures.lives ∙ c.if-not-begin_on.true))) (λ f. f) tt tt (c.begin_on.ensures.starts.keeps c.args.t.now c.requires.can.next.keeps).fits;
      marked = marked_no_trim c.args.t.now (g.G.PageStore.contents c.args.g.now) (g.G.PageStore.contents c.begin_on.new.g) c.args.line c.in-Trim.pid g.G.PageStore.unpaged (g.G.PageStore.store c.args.g.now) (g.G.PageStore.store c.begin_on.new.g) (g.G.PageStore.store c.begin_on.new.g) (g.G.PageStore.behind c.args.g.now) (g.G.PageStore.behind c.begin_on.new.g) (g.G.PageStore.behind c.begin_on.new.g) c.begin_on.result c.begin_on.ensures.lives c.in-Trim.n (answer.Error code.InvalidHandle) c.if-not-begin_on.true c.begin_on.ensures.starts.passes;
    }) tt (λ paged. (tt, tt)) c.begin_on.ensures.starts.loans

pub returns-else-not-begin_on : goal.returns-else-not-begin_on
returns-else-not-begin_on g c =
    let m = g.G.PageStore.store c.begin_on.new.g in
    let z = g.G.PageStore.store c.trim.new.self in
    answered g.G.PageStore c.in-Trim.is (record {
      decided = decided-same g.G.PageStore c.requires.can.next c.begin_on.ensures.starts (event.Trim c.in-Trim.pid c.in-Trim.n) answer.Ok (quiet-rearranged m z c.trim.ensures.store) c.trim.ensures.contents refl
          (store-lives c.args.t.now (key_bytes (g.G.PageStore.contents c.args.g.now)) c.in-Trim.pid.0 (lives-by c.args.t.now c.in-Trim.pid.0 (sym c.begin_on.ensures.lives ∙ c.if-not-begin_on.false)))
          (λ f. f) tt tt (fits-rearranged c.args.t.now _ m _ z (c.begin_on.ensures.starts.keeps c.args.t.now c.requires.can.next.keeps).fits c.trim.ensures.contents c.trim.ensures.store);
      marked = marked_trim c.args.t.now (g.G.PageStore.contents c.args.g.now) (g.G.PageStore.contents c.trim.new.self) c.args.line c.in-Trim.pid g.G.PageStore.unpaged (g.G.PageStore.store c.args.g.now) (g.G.PageStore.store c.begin_on.new.g) (g.G.PageStore.store c.trim.new.self) (g.G.PageStore.behind c.args.g.now) (g.G.PageStore.behind c.begin_on.new.g) (g.G.PageStore.behind c.trim.new.self) c.begin_on.result c.begin_on.ensures.lives c.in-Trim.n answer.Ok c.if-not-begin_on.false c.begin_on.ensures.starts.passes c.trim.ensures.passes;
    }) tt (λ paged. (tt, tt)) (c.trim.ensures.loans ∙ c.begin_on.ensures.starts.loans)

pub returns-then-not-has : goal.returns-then-not-has
returns-then-not-has g c =
    let m = g.G.PageStore.store c.begin_call.new.g in
    answered g.G.PageStore c.in-Age.is (record {
      decided = decided-same g.G.PageStore c.requires.can.next c.begin_call.ensures.starts (event.Age c.in-Age.pid) (answer.Error code.InvalidHandle) (quiet-same m m refl) refl refl
          (store-gone c.args.t.now (key_bytes (g.G.PageStore.contents c.args.g.now)) c.in-Age.pid.0 (gone-by c.args.t.now c.in-Age.pid.0 (sym c.has.ensures ∙ c.if-not-has.true))) (λ f. f) tt tt c.begin_call.ensures.keeps.fits;
      marked = marked_no_age c.args.t.now (g.G.PageStore.contents c.args.g.now) (g.G.PageStore.contents c.begin_call.new.g) c.args.line c.in-Age.pid g.G.PageStore.unpaged (g.G.PageStore.store c.args.g.now) (g.G.PageStore.store c.begin_call.new.g) (g.G.PageStore.store c.begin_call.new.g) (g.G.PageStore.behind c.args.g.now) (g.G.PageStore.behind c.begin_call.new.g) (g.G.PageStore.behind c.begin_call.new.g) c.has.result c.has.ensures (answer.Error code.InvalidHandle) c.if-not-has.true c.begin_call.ensures.starts.passes;
    }) tt (λ paged. (tt, tt)) c.begin_call.ensures.starts.loans

pub returns-else-not-has : goal.returns-else-not-has
returns-else-not-has g c =
    let m = g.G.PageStore.store c.begin_call.new.g in
    let z = g.G.PageStore.store c.age.new.self in
    answered g.G.PageStore c.in-Age.is (record {
      decided = decided-same g.G.PageStore c.requires.can.next c.begin_call.ensures.starts (event.Age c.in-Age.pid) answer.Ok (quiet-same m z c.age.ensures.store) c.age.ensures.contents refl
          (store-lives c.args.t.now (key_bytes (g.G.PageStore.contents c.args.g.now)) c.in-Age.pid.0 (lives-by c.args.t.now c.in-Age.pid.0 (sym c.has.ensures ∙ c.if-not-has.false)))
          (λ f. f) tt tt (fits-same c.args.t.now _ m _ z c.begin_call.ensures.keeps.fits c.age.ensures.contents c.age.ensures.store);
      marked = marked_age c.args.t.now (g.G.PageStore.contents c.args.g.now) (g.G.PageStore.contents c.age.new.self) c.args.line c.in-Age.pid g.G.PageStore.unpaged (g.G.PageStore.store c.args.g.now) (g.G.PageStore.store c.begin_call.new.g) (g.G.PageStore.store c.age.new.self) (g.G.PageStore.behind c.args.g.now) (g.G.PageStore.behind c.begin_call.new.g) (g.G.PageStore.behind c.age.new.self) c.has.result c.has.ensures answer.Ok c.if-not-has.false c.begin_call.ensures.starts.passes c.age.ensures.passes;
    }) tt (λ paged. (tt, tt)) (c.age.ensures.loans ∙ c.begin_call.ensures.starts.loans)

pub returns-in-Zeroer : goal.returns-in-Zeroer
returns-in-Zeroer g c =
    let m = g.G.PageStore.store c.begin.new.g in
    let z = g.G.PageStore.store c.zero.new.self in
    answered g.G.PageStore c.in-Zeroer.is (record {
      decided = decided-same g.G.PageStore c.requires.can.next c.begin.ensures.starts (event.Zeroer c.in-Zeroer.count) answer.Ok (quiet-rearranged m z c.zero.ensures.store) c.zero.ensures.contents refl refl
          (λ f. f) tt tt (fits-rearranged c.args.t.now _ m _ z (c.begin.ensures.starts.keeps c.args.t.now c.requires.can.next.keeps).fits c.zero.ensures.contents c.zero.ensures.store);
      marked = marked_exactly c.args.line kind.Zeroer (event.Zeroer c.in-Zeroer.count) (world_with c.args.t.now (key_bytes (g.G.PageStore.contents c.args.g.now))) answer.Ok (world_with c.args.t.now (key_bytes (g.G.PageStore.contents c.zero.new.self))) g.G.PageStore.unpaged
          (g.G.PageStore.store c.args.g.now) (g.G.PageStore.store c.begin.new.g) (g.G.PageStore.store c.zero.new.self) (g.G.PageStore.behind c.args.g.now) (g.G.PageStore.behind c.begin.new.g) (g.G.PageStore.behind c.zero.new.self)
          (record { ages = λ ms. refl; waits = λ ws l. refl }) (λ (x : Behind). clearings c.in-Zeroer.count x.life) (λ log. clearings_keep c.in-Zeroer.count (with_line (move.At c.args.line kind.Zeroer) (g.G.PageStore.behind c.args.g.now)).life) (λ ms log h. h) c.begin.ensures.starts.passes c.zero.ensures.passes;
    }) tt (λ paged. (tt, tt)) (c.zero.ensures.loans ∙ c.begin.ensures.starts.loans)

pub returns-in-Writer : goal.returns-in-Writer
returns-in-Writer g c =
    let m = g.G.PageStore.store c.begin-in-Writer.new.g in
    let z = g.G.PageStore.store c.write_out.new.self in
    answered g.G.PageStore c.in-Writer.is (record {
      decided = decided-same g.G.PageStore c.requires.can.next c.begin-in-Writer.ensures.starts (event.Writer c.in-Writer.count) answer.Ok (quiet-rearranged m z c.write_out.ensures.store) c.write_out.ensures.contents refl refl
          (λ f. f) tt tt (fits-rearranged c.args.t.now _ m _ z (c.begin-in-Writer.ensures.starts.keeps c.args.t.now c.requires.can.next.keeps).fits c.write_out.ensures.contents c.write_out.ensures.store);
      marked = marked_exactly c.args.line kind.Writer (event.Writer c.in-Writer.count) (world_with c.args.t.now (key_bytes (g.G.PageStore.contents c.args.g.now))) answer.Ok (world_with c.args.t.now (key_bytes (g.G.PageStore.contents c.write_out.new.self))) g.G.PageStore.unpaged
          (g.G.PageStore.store c.args.g.now) (g.G.PageStore.store c.begin-in-Writer.new.g) (g.G.PageStore.store c.write_out.new.self) (g.G.PageStore.behind c.args.g.now) (g.G.PageStore.behind c.begin-in-Writer.new.g) (g.G.PageStore.behind c.write_out.new.self)
          (record { ages = λ ms. refl; waits = λ ws l. refl }) (λ (x : Behind). writes_begun c.in-Writer.count x.life x.life.frames.modified) (λ log. let l = (with_line (move.At c.args.line kind.Writer) (g.G.PageStore.behind c.args.g.now)).life in written_keep c.in-Writer.count l l.frames.modified) (λ ms log h. h) c.begin-in-Writer.ensures.starts.passes c.write_out.ensures.passes;
    }) tt (λ paged. (tt, tt)) (c.write_out.ensures.loans ∙ c.begin-in-Writer.ensures.starts.loans)

pub returns-in-None : goal.returns-in-None
returns-in-None g c =
    let call = c.complete.ensures in
    answered g.G.PageStore c.in-Io.is
    (io-none g.G.PageStore c.complete.new.self c.requires.can.next c.begin-in-Io.ensures.starts call.contents refl c.in-Io.index call.done.served call.done.stored call.done.store (call.done.none c.in-None.is).0 c.in-None.ensures.passes) tt (λ paged. (tt, tt)) (call.loans ∙ c.begin-in-Io.ensures.starts.loans)

pub returns-in-Ok : goal.returns-in-Ok
returns-in-Ok g c =
    let call = c.complete.ensures in
    answered g.G.PageStore c.in-Io.is
    (io-ok g.G.PageStore c.complete.new.self c.requires.can.next c.begin-in-Io.ensures.starts call.contents refl c.in-Io.index call.done.served call.done.stored call.done.store
    (λ few. let bad : ended.Ok ≡ ended.None = sym c.in-Ok.is ∙ call.done.some few in cc) (call.done.ok c.in-Ok.is) c.in-Ok.ensures.passes) tt (λ paged. (tt, tt)) (call.loans ∙ c.begin-in-Io.ensures.starts.loans)

pub returns-in-Failed : goal.returns-in-Failed
returns-in-Failed g c =
    let call = c.complete.ensures in
    answered g.G.PageStore c.in-Io.is
    (io-failed g.G.PageStore c.complete.new.self c.requires.can.next c.begin-in-Io.ensures.starts call.contents refl c.in-Io.index call.done.served call.done.stored call.done.store
    (λ few. let bad : ended.Failed ≡ ended.None = sym c.in-Failed.is ∙ call.done.some few in cc) (call.done.failed c.in-Failed.is) (call.done.blamed c.in-Failed.is) c.in-Failed.ensures.passes) tt (λ paged. (tt, tt)) (call.loans ∙ c.begin-in-Io.ensures.starts.loans)

pub returns-else-fails_taken-ge-MOST_FAILS : goal.returns-else-fails_taken-ge-MOST_FAILS
returns-else-fails_taken-ge-MOST_FAILS g c =
    let p = g.G.PageStore in
    let t = c.args.t.now in
    let u = p.unpaged in
    let old = p.contents c.args.g.now in
    let s = p.store c.args.g.now in
    let m = p.store c.begin_call-in-Fail.new.g in
    let new = p.contents c.fail.new.self in
    let z = p.store c.fail.new.self in
    let after = c.take_fail.new.self in
    let e = event.Fail c.in-Fail.device c.in-Fail.direction c.in-Fail.nth c.in-Fail.count in
    let starts = c.begin_call-in-Fail.ensures.starts in
    let named = names-calls u c.in-Fail.direction c.in-Fail.nth c.in-Fail.count c.args.line s m z starts.begins c.in-Fail.device c.fail.ensures.files c.fail.ensures.paging in
    let contents : new ≡ old = c.fail.ensures.contents ∙ starts.contents in
    let room : t.fails_taken < 64 = omega (arith, c.fails_taken.ensures, c.if-fails_taken-ge-MOST_FAILS.false) in
    let line_is = named.line_is ∙ starts.begins.line_is in
    let fits = c.take_fail.ensures.fits old m z (subst (λ (x : Key → Option Page). FitsTables t x m) starts.contents c.begin_call-in-Fail.ensures.keeps.fits) named.is in
    let outcome : take_fail t ≡ done answer.Ok after = fail-taken t room ∙ ap (λ (v : Tables). done answer.Ok v) (sym c.take_fail.ensures.taken) in
    let called : Called (take_fail t) t old answer.Ok after old = record { outcome = outcome; bytes = bytes-kept t after old c.requires.can.next.keeps.fits.live fits.live } in
    let step = called-across (take_fail t) _ t old answer.Ok after old (take_fail_across t (key_bytes old) c.begin_call-in-Fail.ensures.sound.spaces) called
    ∙ ap (λ (x : Key → Option Page). done answer.Ok (world_with after (key_bytes x))) (sym contents) in
    let made : MadeAtMost (s.line + 1) after = subst (λ (v : Tables). MadeAtMost (s.line + 1) v) (ap (λ (o : OutcomeOf (Unit {0})). o.world) outcome) ((in_take_fail t).it.made s.line c.requires.can.next.keeps.few) in
    answered p c.in-Fail.is (record {
      decided = record {
        stepped = stepped-plain u (world_with t (key_bytes old)) e s.report z.report answer.Ok (world_with after (key_bytes new)) refl step;
        devices = named.devices;
        flushed = tt;
        keeps = keeps-made u e c.args.line t old s m answer.Ok after new z c.requires.can.next.line_is line_is made (subst (λ (x : Key → Option Page). FitsTables after x z) (sym contents) fits);
        line_is = line_is;
      };
      marked = marked_fail c.args.line e (world_over p t c.args.g.now) answer.Ok (world_over p after c.fail.new.self) u s m z (p.behind c.args.g.now) (p.behind c.begin_call-in-Fail.new.g) (p.behind c.fail.new.self)
          (record { ages = λ ms. refl; waits = λ ws l. refl }) refl c.fail.ensures.behind starts.passes;
    }) tt (λ paged. beside-fail p t c.in-Fail.device c.in-Fail.direction c.in-Fail.nth c.in-Fail.count answer.Ok starts c.fail.new.self paged named.blocks c.fail.ensures.behind) (c.fail.ensures.loans ∙ starts.loans)

pub returns-then-fails_taken-ge-MOST_FAILS : goal.returns-then-fails_taken-ge-MOST_FAILS
returns-then-fails_taken-ge-MOST_FAILS g c =
    let p = g.G.PageStore in
    let t = c.args.t.now in
    let x = c.begin_call-in-Fail.new.g in
    let full : AnswersLine p (event.Fail c.in-Fail.device c.in-Fail.direction c.in-Fail.nth c.in-Fail.count) c.args.line t c.args.g.now answer.Full t x = record {
      decided = search rules;
      marked = marked_fail c.args.line (event.Fail c.in-Fail.device c.in-Fail.direction c.in-Fail.nth c.in-Fail.count) (world_over p t c.args.g.now) answer.Full (world_over p t x) p.unpaged (p.store c.args.g.now) (p.store x) (p.store x) (p.behind c.args.g.now) (p.behind x) (p.behind x)
          (record { ages = λ ms. refl; waits = λ ws l. refl }) refl refl c.begin_call-in-Fail.ensures.starts.passes;
    } in
    answered p c.in-Fail.is full tt (λ paged. beside-fail p t c.in-Fail.device c.in-Fail.direction c.in-Fail.nth c.in-Fail.count answer.Full c.begin_call-in-Fail.ensures.starts x paged refl refl) c.begin_call-in-Fail.ensures.starts.loans
