use Rattle.std.proofs.Common.{◌∙◌}
use Rattle.mm_store.proofs.{any_turn, idle_then}
use Rattle.mm_calls.proofs.stacks.reserve_region.Goals as goal

pub returns-in_err-reserve-2-clause-idles : goal.returns-in_err-reserve-2-clause-idles
returns-in_err-reserve-2-clause-idles g c = record {
  passes = λ turn.
      idle_then g.G.PageStore.unpaged turn (g.G.PageStore.store c.args.g.now) (g.G.PageStore.store c.reserve.new.self) (g.G.PageStore.store c.reserve-2.new.g)
      (g.G.PageStore.behind c.args.g.now) (g.G.PageStore.behind c.reserve.new.self) (g.G.PageStore.behind c.reserve-2.new.g) c.reserve.ensures.passes c.in_err-reserve-2.ensures.makes.idle;
  loans = c.reserve-2.ensures.makes.loans ∙ c.reserve.ensures.loans;
}

pub returns-clause-idles : goal.returns-clause-idles
returns-clause-idles g c = record {
  passes = λ turn.
      idle_then g.G.PageStore.unpaged turn (g.G.PageStore.store c.args.g.now) (g.G.PageStore.store c.reserve.new.self) (g.G.PageStore.store c.reserve-2.new.g)
      (g.G.PageStore.behind c.args.g.now) (g.G.PageStore.behind c.reserve.new.self) (g.G.PageStore.behind c.reserve-2.new.g) c.reserve.ensures.passes
      (λ turn. any_turn g.G.PageStore.unpaged turn (g.G.PageStore.store c.reserve.new.self) (g.G.PageStore.store c.reserve-2.new.g) (g.G.PageStore.behind c.reserve.new.self) (g.G.PageStore.behind c.reserve-2.new.g)
      (c.reserve-2.ensures.makes.passes 0 0 (λ commits. cc)));
  loans = c.reserve-2.ensures.makes.loans ∙ c.reserve.ensures.loans;
}
