use Rattle.mm_page_lists.proofs.{apart, closed, shows, fresh}
use Rattle.mm_page_lists.proofs.lists.Lists.new.Goals as goal

pub invariant_of-result : goal.invariant_of-result
invariant_of-result c =
    let o = fresh _ _ _ _ _ _ c.args.n c.args.k c.ranges.n.fits c.in_ok-zeros.ensures c.in_ok-zeros-2.ensures c.in_ok-zeros-3.ensures c.in_ok-zeros-4.ensures c.in_ok-zeros-5.ensures c.in_ok-zeros-6.ensures in
    closed _ _ _ _ _ _ _ o.stands

pub returns-clause-empty : goal.returns-clause-empty
returns-clause-empty c =
    let o = fresh _ _ _ _ _ _ c.args.n c.args.k c.ranges.n.fits c.in_ok-zeros.ensures c.in_ok-zeros-2.ensures c.in_ok-zeros-3.ensures c.in_ok-zeros-4.ensures c.in_ok-zeros-5.ensures c.in_ok-zeros-6.ensures in
    shows _ _ _ _ _ _ _ o

pub returns-clause-apart : goal.returns-clause-apart
returns-clause-apart c =
    let o = fresh _ _ _ _ _ _ c.args.n c.args.k c.ranges.n.fits c.in_ok-zeros.ensures c.in_ok-zeros-2.ensures c.in_ok-zeros-3.ensures c.in_ok-zeros-4.ensures c.in_ok-zeros-5.ensures c.in_ok-zeros-6.ensures in
    rw (shows _ _ _ _ _ _ _ o) (apart _ _ _ _ _ _ _ o)
