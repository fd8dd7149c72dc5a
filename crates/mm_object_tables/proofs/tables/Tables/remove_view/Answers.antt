use Rattle.mm_types.specs.{end_of_user_pages}
use Rattle.mm_store.specs.{leaving, page_rank}
use Rattle.mm_object_tables.specs.{is_uncommitted}
use Rattle.mm_object_tables.proofs.{for_own, among_unbound}
use Rattle.mm_object_tables.proofs.tables.Tables.remove_view.Goals as goal

pub returns-clause-passes : goal.returns-clause-passes
returns-clause-passes g c =
    let t = c.args.self.now in
    c.unmap_view.ensures.passes (leaving t c.args.pid.0 (is_uncommitted c.unmap_view.new.self)) 1 (page_rank end_of_user_pages)
    (for_own t c.args.pid.0 c.sound.ensures.tidy)
    (among_unbound t c.unmap_view.new.self _ _ c.args.pid c.args.range c.unmap_view.ensures.shrinks.settled.fits c.unmap_view.ensures.unbound)
