use Rattle.std.proofs.Common.{◌≡◌, ◌∙◌, ◌+◌, ◌^◌, ℕ, subst, arith}
use Rattle.mm_object_tables.specs.{Shares}
use Rattle.mm_store.proofs.{makes_then, makes_wider}
use Rattle.mm_object_tables.proofs.{can_next, shares_then}
use Rattle.mm_object_tables.proofs.views.share_range.Goals as goal

pub share_page-requires-clause-can : goal.share_page-requires-clause-can
share_page-requires-clause-can g c =
    can_next c.args.area c.args.first c.loop-i.i c.args.pages.now (g.G.PageStore.contents c.args.g.now) (g.G.PageStore.contents c.loop-i.g) (g.G.PageStore.store c.args.g.now) (g.G.PageStore.store c.loop-i.g)
    c.loop-i.invariant.shares c.args.count c.requires.can (omega (arith, c.loop-i-test.true))

pub loop-i-preserved : goal.loop-i-preserved
loop-i-preserved g c =
    record {
      shares = shares_then c.args.area c.args.first c.loop-i.i c.args.pages.now (g.G.PageStore.contents c.args.g.now) (g.G.PageStore.contents c.loop-i.g) (g.G.PageStore.store c.args.g.now) (g.G.PageStore.store c.loop-i.g)
          c.loop-i.invariant.shares (g.G.PageStore.contents c.share_page.new.g) (g.G.PageStore.store c.share_page.new.g) (omega (arith, c.requires.can.inside, c.loop-i-test.true)) c.share_page.ensures.shares;
      passes = makes_then g.G.PageStore.unpaged c.args.first (c.args.first + c.loop-i.i) (c.args.first + (c.loop-i.i + 1)) (g.G.PageStore.store c.args.g.now) (g.G.PageStore.store c.loop-i.g) (g.G.PageStore.store c.share_page.new.g)
          (g.G.PageStore.behind c.args.g.now) (g.G.PageStore.behind c.loop-i.g) (g.G.PageStore.behind c.share_page.new.g) (omega arith) (omega arith) c.loop-i.invariant.passes
          (c.share_page.ensures.passes (c.args.first + c.loop-i.i) (c.args.first + (c.loop-i.i + 1)) (omega arith) (omega arith));
      loans = c.share_page.ensures.loans ∙ c.loop-i.invariant.loans;
    }

pub returns : goal.returns
returns g c =
    let count : c.loop-i.i ≡ c.args.count = omega (arith, c.loop-i-test.false, c.loop-i.auto.i-end) in
    record {
      shares = subst (λ (k : ℕ). Shares c.args.area c.args.first k c.args.pages.now (g.G.PageStore.contents c.args.g.now) (g.G.PageStore.contents c.loop-i.g) (g.G.PageStore.store c.args.g.now) (g.G.PageStore.store c.loop-i.g)) count c.loop-i.invariant.shares;
      passes = makes_wider g.G.PageStore.unpaged c.args.first (c.args.first + c.loop-i.i) 0 (2 ^ 32) (g.G.PageStore.store c.args.g.now) (g.G.PageStore.store c.loop-i.g)
          (g.G.PageStore.behind c.args.g.now) (g.G.PageStore.behind c.loop-i.g) (omega arith) (omega (arith, c.requires.end, c.loop-i.auto.i-end)) c.loop-i.invariant.passes;
      loans = c.loop-i.invariant.loans;
    }
