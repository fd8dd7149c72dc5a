use Rattle.std.proofs.Common.{◌+◌, ◌<◌, ◌^◌, ℕ, Option, refl, sym, subst, arith, ◌∙◌, ap, is_some, Some}
use Rattle.std.specs.Prelude.{◌/◌, IfSome}
use Rattle.mm_store.specs.Housekeeping.{Ends}
use Rattle.mm_store.specs.{page_rank}
use Rattle.mm_store.proofs.{turns_same, ends_then, ends_wider}
use Rattle.mm_types.proofs.{some_found}
use Rattle.mm_world.specs.{process_of}
use Rattle.mm_object_tables.proofs.{closed, section_there, toward_same, toward_settled, toward_then, after_settled, handles_fewer, no_lowest, below_lowest}
use Rattle.mm_object_tables.proofs.{next_closed, for_settled, ranked_closed}
use Rattle.mm_object_tables.proofs.tables.Tables.close_handles.Goals as goal

pub close_handle-requires-clause-there : goal.close_handle-requires-clause-there
close_handle-requires-clause-there g c p lives =
    section_there c.loop-handle.self c.args.pid.0 p c.in-Some.handle c.lowest_handle.ensures.sound lives (sym (c.lowest_handle.ensures.found p lives) ∙ c.in-Some.is)

pub loop-handle-init : goal.loop-handle-init
loop-handle-init g c = record {
  toward = toward_same c.args.pid.0 c.args.self.now (g.G.PageStore.contents c.args.g.now) (g.G.PageStore.store c.args.g.now) c.requires.ready.fits;
  lives = c.requires.ready.lives;
  closed = (0, omega arith, (λ p lives j h. absurd (omega (arith, h))), (λ held for. turns_same g.G.PageStore.unpaged (Ends held 1 1) (g.G.PageStore.store c.args.g.now) (g.G.PageStore.behind c.args.g.now)));
  loans = refl;
}

pub loop-handle-preserved : goal.loop-handle-preserved
loop-handle-preserved g c =
    let t = c.loop-handle.self in
    let before = c.loop-handle.invariant in
    let p = some_found (process_of t c.args.pid.0) before.lives in
    let q = closed p.0 c.in-Some.handle in
    let is = c.close_handle.ensures.closed p.0 p.1 in
    let told = sym (c.lowest_handle.ensures.found p.0 p.1) ∙ c.in-Some.is in
    let low = below_lowest p.0.handles c.in-Some.handle told in
    let next = next_closed t c.close_handle.new.self c.args.pid.0 p.0 c.in-Some.handle before.closed.0 p.1 is told
    (subst (λ (o : Option ℕ). IfSome o (λ handle. handle < 2 ^ 32)) c.in-Some.is c.lowest_handle.ensures.within) before.closed.2 in
    record {
      toward = toward_then before.toward (toward_settled c.args.pid.0 t (Some q) is c.close_handle.ensures.shrinks.settled c.close_handle.ensures.shrinks.less
          (λ rank. for_settled rank c.args.pid.0 t c.close_handle.new.self p.0 q p.1 is (ranked_closed p.0 (c.in-Some.handle / 4) low)));
      lives = ap is_some (after_settled t c.close_handle.new.self c.args.pid.0 p.0 q p.1 is);
      closed = (
        c.in-Some.handle / 4 + 1,
        next.few,
        next.none,
        (λ held for.
            ends_then g.G.PageStore.unpaged held 1 (before.closed.0 + 1) (c.in-Some.handle / 4 + 1 + 1) (g.G.PageStore.store c.args.g.now) (g.G.PageStore.store c.loop-handle.g) (g.G.PageStore.store c.close_handle.new.g) (g.G.PageStore.behind c.args.g.now) (g.G.PageStore.behind c.loop-handle.g) (g.G.PageStore.behind c.close_handle.new.g)
            (omega arith) (omega (arith, next.more)) (before.closed.3 held for)
            (c.close_handle.ensures.passes held (before.closed.0 + 1) (c.in-Some.handle / 4 + 1 + 1) (before.toward.ranks held.rank for) (omega (arith, next.more)) (omega arith))),
      );
      loans = c.close_handle.ensures.shrinks.loans ∙ before.loans;
    }

pub loop-handle-smaller : goal.loop-handle-smaller
loop-handle-smaller g c =
    let t = c.loop-handle.self in
    let p = some_found (process_of t c.args.pid.0) c.loop-handle.invariant.lives in
    handles_fewer t c.close_handle.new.self c.args.pid.0 p.0 c.in-Some.handle p.1
    (after_settled t c.close_handle.new.self c.args.pid.0 p.0 (closed p.0 c.in-Some.handle) p.1 (c.close_handle.ensures.closed p.0 p.1))
    (sym (c.lowest_handle.ensures.found p.0 p.1) ∙ c.in-Some.is)

pub returns-clause-closed : goal.returns-clause-closed
returns-clause-closed g c p lives = no_lowest p.handles (sym (c.lowest_handle.ensures.found p lives) ∙ c.in_default.is)

pub returns-clause-passes : goal.returns-clause-passes
returns-clause-passes g c held for =
    let k = c.loop-handle.invariant.closed in
    ends_wider g.G.PageStore.unpaged held 1 (k.0 + 1) 1 (page_rank 0) (g.G.PageStore.store c.args.g.now) (g.G.PageStore.store c.loop-handle.g) (g.G.PageStore.behind c.args.g.now) (g.G.PageStore.behind c.loop-handle.g)
    (omega arith) (omega (arith, k.1)) (k.3 held for)
