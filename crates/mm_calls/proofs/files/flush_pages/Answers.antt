use Rattle.std.proofs.Common.{rules, ◌∙◌, refl, arith}
use Rattle.mm_calls.proofs.Flushing.{loop_none, loop_more, loop_all, loop_ended}
use Rattle.mm_calls.proofs.Flushing.{flushed_none, flushed_more, blamed_since}
use Rattle.mm_calls.proofs.files.flush_pages.Goals as goal
use Rattle.mm_types.proofs.{on_err}
use Rattle.mm_store.proofs.{served_then}

pub loop-i-init : goal.loop-i-init
loop-i-init g c =
    record {
      flushed = flushed_none (g.G.PageStore.contents c.args.g.now) (g.G.PageStore.store c.args.g.now) c.args.area.0 c.args.first;
      passes = loop_none g.G.PageStore.unpaged c.args.area.0 c.args.first (g.G.PageStore.store c.args.g.now) (g.G.PageStore.behind c.args.g.now);
      loans = refl;
    }

pub returns-in_err-flush-clause-flushes : goal.returns-in_err-flush-clause-flushes
returns-in_err-flush-clause-flushes g c = record {
  store = search rules;
  served = served_then (g.G.PageStore.store c.args.g.now) (g.G.PageStore.store c.loop-i.g) (g.G.PageStore.store c.flush.new.self) c.loop-i.invariant.flushed.served c.in_err-flush.ensures.done.wrote.served;
  stored = search rules;
  contents = search rules;
  loans = search rules;
}

pub returns-in_err-flush-clause-broke : goal.returns-in_err-flush-clause-broke
returns-in_err-flush-clause-broke g c =
    on_err c.from_residual.result
    (record {
      failed = search rules;
      blamed = blamed_since (g.G.PageStore.store c.args.g.now) (g.G.PageStore.store c.loop-i.g) (g.G.PageStore.store c.flush.new.self) c.loop-i.invariant.flushed.served c.in_err-flush.ensures.done.wrote.blamed;
    })

pub loop-i-preserved : goal.loop-i-preserved
loop-i-preserved g c =
    let e = c.in_ok-flush.ensures in
    record {
      flushed = flushed_more (g.G.PageStore.contents c.args.g.now) (g.G.PageStore.contents c.loop-i.g) (g.G.PageStore.contents c.flush.new.self) (g.G.PageStore.store c.args.g.now) (g.G.PageStore.store c.loop-i.g) (g.G.PageStore.store c.flush.new.self)
          c.args.area.0 c.args.first c.loop-i.i c.args.count c.args.block.0 c.loop-i.invariant.flushed c.requires.blocks c.loop-i-test.true
          (record { store = e.done.store; contents = e.contents; holds = e.done.ok; others = e.done.others; served = e.done.wrote.served; stored = e.done.wrote.stored; quiet = e.done.wrote.quiet });
      passes = loop_more g.G.PageStore.unpaged c.args.area.0 c.args.first c.loop-i.i (g.G.PageStore.store c.args.g.now) (g.G.PageStore.store c.loop-i.g) (g.G.PageStore.store c.flush.new.self)
          (g.G.PageStore.behind c.args.g.now) (g.G.PageStore.behind c.loop-i.g) (g.G.PageStore.behind c.flush.new.self) c.loop-i.invariant.passes e.passes;
      loans = e.loans ∙ c.loop-i.invariant.loans;
    }

pub returns-in_err-flush-clause-passes : goal.returns-in_err-flush-clause-passes
returns-in_err-flush-clause-passes g c =
    loop_ended g.G.PageStore.unpaged c.args.area.0 c.args.first c.loop-i.i c.args.count (g.G.PageStore.store c.args.g.now) (g.G.PageStore.store c.loop-i.g) (g.G.PageStore.store c.flush.new.self)
    (g.G.PageStore.behind c.args.g.now) (g.G.PageStore.behind c.loop-i.g) (g.G.PageStore.behind c.flush.new.self) c.loop-i-test.true c.loop-i.invariant.passes c.in_err-flush.ensures.passes

pub returns-clause-passes : goal.returns-clause-passes
returns-clause-passes g c =
    loop_all g.G.PageStore.unpaged c.args.area.0 c.args.first c.loop-i.i c.args.count (g.G.PageStore.store c.args.g.now) (g.G.PageStore.store c.loop-i.g) (g.G.PageStore.behind c.args.g.now) (g.G.PageStore.behind c.loop-i.g)
    (omega (arith, c.loop-i-test.false, c.loop-i.auto.i-end)) c.loop-i.invariant.passes
