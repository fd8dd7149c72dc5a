use Rattle.std.proofs.Common.{◌∙◌}
use Rattle.mm_object_tables.proofs.Lines.{can_fill}
use Rattle.mm_object_tables.proofs.{idle_then, pages_idle, pages_then}
use Rattle.mm_object_tables.proofs.sections.open_paging_area.Goals as goal

pub returns-in_err-reserve-clause-makes : goal.returns-in_err-reserve-clause-makes
returns-in_err-reserve-clause-makes g c = pages_idle g.G.PageStore c.from_residual.result c.reserve.ensures.passes c.reserve.ensures.loans

pub fill_area-requires : goal.fill_area-requires
fill_area-requires g c =
    record {
      can = can_fill c.args.area c.args.pages c.args.n c.args.total (g.G.PageStore.contents c.args.g.now) (g.G.PageStore.contents c.open_area.new.self) (g.G.PageStore.store c.args.g.now) (g.G.PageStore.store c.reserve.new.self) (g.G.PageStore.store c.open_area.new.self)
          (c.in_ok-open_area.ensures.contents ∙ c.in_ok-reserve.ensures.contents) c.in_ok-reserve.ensures.store c.in_ok-reserve.ensures.ok c.in_ok-open_area.ensures.ok c.requires.new.dead c.requires.new.within c.requires.keys c.requires.kind;
    }

pub returns-in_err-open_area-clause-makes : goal.returns-in_err-open_area-clause-makes
returns-in_err-open_area-clause-makes g c =
    pages_idle g.G.PageStore c.from_residual-in_err-open_area.result (idle_then g.G.PageStore c.args.g.now c.reserve.new.self c.open_area.new.self c.reserve.ensures.passes c.open_area.ensures.passes) (c.open_area.ensures.loans ∙ c.reserve.ensures.loans)

pub returns-clause-makes : goal.returns-clause-makes
returns-clause-makes g c =
    pages_then g.G.PageStore c.open_area.new.self (idle_then g.G.PageStore c.args.g.now c.reserve.new.self c.open_area.new.self c.reserve.ensures.passes c.open_area.ensures.passes) (c.open_area.ensures.loans ∙ c.reserve.ensures.loans)
    c.fill_area.ensures.passes c.fill_area.ensures.loans
