use Rattle.std.proofs.Common.{◌≡◌, ◌+◌, suc, sym, ap, ◌∙◌, arith}
use Rattle.mm_world.specs.{every_page_from}
use Rattle.mm_address_spaces.specs.{is_area_page}
use Rattle.mm_address_spaces.proofs.{every_more, every_fails}
use Rattle.mm_address_spaces.proofs.queries.are_pages_committed.Goals as goal

pub returns-then-not-is_page_committed : goal.returns-then-not-is_page_committed
returns-then-not-is_page_committed c =
    sym (every_fails (is_area_page c.args.pages.now c.args.view) c.args.first c.args.count c.loop-i.i (omega arith)
    (sym c.is_page_committed.ensures ∙ c.if-not-is_page_committed.true))

pub loop-i-preserved : goal.loop-i-preserved
loop-i-preserved c =
    let q = is_area_page c.args.pages.now c.args.view in
    let next : suc c.loop-i.i ≡ c.loop-i.i + 1 = omega arith in
    ap (λ n. every_page_from q c.args.first n) (sym next)
    ∙ every_more q c.args.first c.loop-i.i c.loop-i.invariant (sym c.is_page_committed.ensures ∙ c.if-not-is_page_committed.false)
