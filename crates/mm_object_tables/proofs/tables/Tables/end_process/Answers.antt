use Rattle.std.proofs.Common.{None, ◌∙◌, ap, sym, subst, arith}
use Rattle.mm_world.specs.{Tables, set_process, end_stacks, settle}
use Rattle.std.specs.Prelude.{◌==◌}
use Rattle.mm_store.specs.{StoreOf, leaving, goes_with, page_rank}
use Rattle.mm_object_tables.proofs.{nobody_beside, less_then, beside_then, carries_less, toward_then, toward_nobody, exit_then, for_own, its_own}
use Rattle.mm_types.specs.{end_of_user_pages}
use Rattle.mm_object_tables.specs.{IsRankFor}
use Rattle.mm_object_tables.proofs.tables.Tables.end_process.Goals as goal

pub drop_regions-requires-clause-ready : goal.drop_regions-requires-clause-ready
drop_regions-requires-clause-ready g c = record {
  fits = c.close_handles.ensures.nears.toward.fits;
  kind_is = ap (λ (x : StoreOf). x.kind) c.close_handles.ensures.nears.toward.rest ∙ c.requires.ready.kind_is;
  lives = c.close_handles.ensures.nears.lives;
}

pub close_process-requires-clause-nobody : goal.close_process-requires-clause-nobody
close_process-requires-clause-nobody g c = toward_nobody (toward_then c.close_handles.ensures.nears.toward c.drop_regions.ensures.nears.toward) (nobody_beside _ _ (λ s. s.pid == c.args.pid.0) c.args.pid.0 c.end_stacks_in.ensures.ended c.drop_kept.ensures.nobody)

pub returns-clause-ended : goal.returns-clause-ended
returns-clause-ended g c =
    c.close_process.ensures.ended ∙ (toward_then c.close_handles.ensures.nears.toward c.drop_regions.ensures.nears.toward).same
    ∙ ap (λ (w : Tables). settle (set_process w c.args.pid.0 None)) (c.end_stacks_in.ensures.ended ∙ ap (λ (w : Tables). end_stacks w (λ s. s.pid == c.args.pid.0)) c.drop_kept.ensures.dropped)

pub returns-clause-settled : goal.returns-clause-settled
returns-clause-settled g c =
    let steps = toward_then c.close_handles.ensures.nears.toward c.drop_regions.ensures.nears.toward in
    record {
      fits = c.close_process.ensures.shrinks.settled.fits;
      carries = carries_less (g.G.PageStore.contents c.args.g.now) (g.G.PageStore.contents c.close_process.new.g) (less_then (g.G.PageStore.contents c.args.g.now) (g.G.PageStore.contents c.drop_regions.new.g) (g.G.PageStore.contents c.close_process.new.g) steps.less c.close_process.ensures.shrinks.less);
      rest = beside_then (g.G.PageStore.store c.args.g.now) (g.G.PageStore.store c.drop_regions.new.g) (g.G.PageStore.store c.close_process.new.g) steps.rest c.close_process.ensures.shrinks.settled.rest;
    }

pub returns-clause-passes : goal.returns-clause-passes
returns-clause-passes g c places all =
    let t = c.args.self.now in
    let held = leaving t c.args.pid.0 places in
    let ended = c.end_stacks_in.ensures.ended ∙ ap (λ (w : Tables). end_stacks w (λ s. s.pid == c.args.pid.0)) c.drop_kept.ensures.dropped in
    let own = subst (λ (w : Tables). IsRankFor (goes_with t c.args.pid.0) c.args.pid.0 w) (sym ended) (for_own t c.args.pid.0 c.sound.ensures.tidy) in
    exit_then g.G.PageStore.unpaged held (page_rank end_of_user_pages) (g.G.PageStore.store c.args.g.now) (g.G.PageStore.store c.close_handles.new.g) (g.G.PageStore.store c.drop_regions.new.g) (g.G.PageStore.store c.close_process.new.g)
    (g.G.PageStore.behind c.args.g.now) (g.G.PageStore.behind c.close_handles.new.g) (g.G.PageStore.behind c.drop_regions.new.g) (g.G.PageStore.behind c.close_process.new.g)
    (omega arith) (c.close_handles.ensures.passes held own)
    (c.drop_regions.ensures.passes held (c.close_handles.ensures.nears.toward.ranks (goes_with t c.args.pid.0) own) (λ page. its_own c.args.pid places page (all page)))
    c.close_process.ensures.passes
