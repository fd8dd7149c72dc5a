use Rattle.mm_calls.proofs.{stays_idle}
use Rattle.mm_calls.proofs.views.map_handle.Goals as goal

pub returns-in-None-clause-idles : goal.returns-in-None-clause-idles
returns-in-None-clause-idles g c = stays_idle g.G.PageStore c.args.g.now

pub returns-then-not-may_view-clause-idles : goal.returns-then-not-may_view-clause-idles
returns-then-not-may_view-clause-idles g c = stays_idle g.G.PageStore c.args.g.now

pub returns-then-not-is_granule_address-clause-idles : goal.returns-then-not-is_granule_address-clause-idles
returns-then-not-is_granule_address-clause-idles g c = stays_idle g.G.PageStore c.args.g.now

pub returns-in-None-viewed_pages-clause-idles : goal.returns-in-None-viewed_pages-clause-idles
returns-in-None-viewed_pages-clause-idles g c = stays_idle g.G.PageStore c.args.g.now
