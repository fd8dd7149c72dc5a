use Rattle.std.proofs.Common.{rules, ◌≡◌, ◌≤◌, ◌-◌, ◌∙◌, sym, ap, arith, is_some}
use Rattle.std.specs.Prelude.{IsOk}
use Rattle.mm_types.specs.{address_of, range_of}
use Rattle.mm_world.specs.Alloc.{commit_pages}
use Rattle.mm_world.specs.{blank, process_of, committed_at, guard_off, StackOf}
use Rattle.mm_object_tables.specs.{FitsTables}
use Rattle.mm_object_tables.proofs.{roomier_fits}
use Rattle.mm_store.proofs.{idle_before}
use Rattle.mm_store.specs.{Makes}
use Rattle.mm_calls.proofs.{past_first, room_there, grown_is}
use Rattle.mm_calls.proofs.probes.grow.Goals as goal
use Rattle.mm_types.proofs.{some_found, on_err}

pub take_guard_off-requires-clause-committed : goal.take_guard_off-requires-clause-committed
take_guard_off-requires-clause-committed g c p lives =
    let t = c.args.t.now in
    let ns : c.stack.inside.pid.0 ≡ c.args.stack.now.pid = ap (λ (s : StackOf). s.pid) c.stack.view_is in
    let ms : c.stack.inside.guard_page ≡ c.args.stack.now.guard_page = ap (λ (s : StackOf). s.guard_page) c.stack.view_is in
    ap (λ n. is_some (committed_at t p.regions n)) ms ∙ c.requires.committed p (sym (ap (λ n. process_of t n) ns) ∙ lives)

pub commit-requires-clause-ready : goal.commit-requires-clause-ready
commit-requires-clause-ready g c =
    let t = c.args.t.now in
    let pid = c.stack.inside.pid.0 in
    let new = g.G.PageStore.contents c.reserve.new.self in
    let z = g.G.PageStore.store c.reserve.new.self in
    let before : FitsTables t new z =
    roomier_fits t (g.G.PageStore.contents c.args.g.now) new (g.G.PageStore.store c.args.g.now) z c.requires.ready.fits c.reserve.ensures.contents c.reserve.ensures.store c.reserve.ensures.later in
    let fits = c.take_guard_off.ensures.fits new z before in
    record {
      fits = fits;
      kind_is = search rules;
      lives = sym (fits.opened pid) ∙ before.opened pid ∙ ap (λ (s : StackOf). is_some (process_of t s.pid)) c.stack.view_is ∙ c.requires.ready.lives;
    }

pub unreachable-requires : goal.unreachable-requires
unreachable-requires g c =
    let t = c.args.t.now in
    let s : StackOf = c.args.stack.now in
    let ns : c.stack.inside.pid.0 ≡ s.pid = ap (λ (s : StackOf). s.pid) c.stack.view_is in
    let ms : c.stack.inside.guard_page ≡ s.guard_page = ap (λ (s : StackOf). s.guard_page) c.stack.view_is in
    let p = some_found (process_of t s.pid) c.requires.ready.lives in
    let k = some_found (committed_at t p.0.regions s.guard_page) (c.requires.committed p.0 p.1) in
    let v = c.take_guard_off.new.self in
    let off : v ≡ guard_off t s.pid p.0 k.0 s.guard_page =
    c.take_guard_off.ensures.off p.0 k.0 (ap (λ n. process_of t n) ns ∙ p.1) (ap (λ n. committed_at t p.0.regions n) ms ∙ k.1) ∙ (λ i. guard_off t (ns i) p.0 k.0 (ms i)) in
    let next : c.of-next.result ≡ range_of (address_of (s.guard_page - 1)) 1 = c.of-next.ensures ∙ (λ i. range_of (address_of (ms i - 1)) 1) in
    let ok : IsOk c.commit.result =
    c.commit.ensures.enough (room_there t s.pid s.guard_page p.0 k.0 p.1 k.1 v off c.of-next.result next c.total_with_one-total.result (g.G.PageStore.store c.reserve.new.self).room
    c.total_with_one-total.ensures.total c.in_ok-reserve.ensures.ok) in
    search rules

pub returns-clause-ok : goal.returns-clause-ok
returns-clause-ok g c p k lives there =
    let t = c.args.t.now in
    let s : StackOf = c.args.stack.now in
    let ns : c.stack.inside.pid.0 ≡ s.pid = ap (λ (s : StackOf). s.pid) c.stack.view_is in
    let ms : c.stack.inside.guard_page ≡ s.guard_page = ap (λ (s : StackOf). s.guard_page) c.stack.view_is in
    let v = c.take_guard_off.new.self in
    let off : v ≡ guard_off t s.pid p k s.guard_page =
    c.take_guard_off.ensures.off p k (ap (λ n. process_of t n) ns ∙ lives) (ap (λ n. committed_at t p.regions n) ms ∙ there) ∙ (λ i. guard_off t (ns i) p k (ms i)) in
    let next : c.of-next.result ≡ range_of (address_of (s.guard_page - 1)) 1 = c.of-next.ensures ∙ (λ i. range_of (address_of (ms i - 1)) 1) in
    let first : 16 ≤ s.guard_page = past_first t s.pid s.guard_page p k lives there c.sound.ensures.sound in
    grown_is t s.pid s.guard_page p k lives there v off c.of-next.result next c.commit.new.t _ (omega (arith, first))
    (λ q now. (λ i. commit_pages blank v (sym ns i) q c.of-next.result 0x104) ∙ c.in-Ok.ensures.done.outcome q (ap (λ n. process_of v n) ns ∙ now))

pub returns-in_err-reserve-clause-makes : goal.returns-in_err-reserve-clause-makes
returns-in_err-reserve-clause-makes g c = record {
  passes = c.reserve.ensures.passes Makes;
  idle = on_err c.from_residual.result c.reserve.ensures.passes;
  loans = c.reserve.ensures.loans;
}

pub returns-clause-makes : goal.returns-clause-makes
returns-clause-makes g c = record {
  passes = idle_before g.G.PageStore.unpaged Makes (g.G.PageStore.store c.args.g.now) (g.G.PageStore.store c.reserve.new.self) (g.G.PageStore.store c.commit.new.g) (g.G.PageStore.behind c.args.g.now) (g.G.PageStore.behind c.reserve.new.self) (g.G.PageStore.behind c.commit.new.g) c.reserve.ensures.passes c.commit.ensures.makes.passes;
  idle = tt;
  loans = c.commit.ensures.makes.loans ∙ c.reserve.ensures.loans;
}
