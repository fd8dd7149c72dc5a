use Rattle.std.proofs.Common.{rules, ◌≡◌, ◌+◌, ◌∙◌, sym, ap, subst, cond, is_some, false, Some, []}
use Rattle.mm_store.specs.{Flushes, PassesIn}
use Rattle.mm_calls.specs.{keys_from}
use Rattle.mm_calls.proofs.Flushing.{flushes_none}
use Rattle.mm_world.specs.{AreaOf, area_at}
use Rattle.mm_calls.proofs.Flushing.{in_blocks, answers_flushed, block_told, block_none}
use Rattle.mm_calls.proofs.files.flush_view_pages.Given as given
use Rattle.mm_calls.proofs.files.flush_view_pages.Goals as goal
use Rattle.mm_calls.proofs.files.flush_view_pages.Goals.{After-flush_pages}

pub flush_pages-requires-clause-blocks : goal.flush_pages-requires-clause-blocks
flush_pages-requires-clause-blocks g c =
    let t = c.args.t.now in
    let v = c.args.view in
    let file : (area_at t v.area.0).file_block ≡ Some c.in-Some.block.0 =
    ap (λ (a : AreaOf (Unit {0})). a.file_block) (sym c.area-area.ensures) ∙ block_told c.area-area.result.now.file_block c.in-Some.block (sym c.first_block.ensures ∙ c.in-Some.is) in
    in_blocks t (g.G.PageStore.contents c.args.g.now) (g.G.PageStore.store c.args.g.now) v.area.0 (v.first + c.args.before) c.args.count c.in-Some.block.0 c.requires.begins.fits c.sound.ensures.tidy file c.requires.within

pub returns-in-Ok-clause-done : goal.returns-in-Ok-clause-done
returns-in-Ok-clause-done g c = answers_flushed g.G.PageStore c.requires.begins.fits c.flush_pages.ensures.flushes _ (search rules)

pub returns-in-Err-clause-done : goal.returns-in-Err-clause-done
returns-in-Err-clause-done g c = answers_flushed g.G.PageStore c.requires.begins.fits c.flush_pages.ensures.flushes _ (search rules)

pub returns-in-None-clause-passes : goal.returns-in-None-clause-passes
returns-in-None-clause-passes g c =
    let v = c.args.view in
    let s = g.G.PageStore.store c.args.g.now in
    let b = g.G.PageStore.behind c.args.g.now in
    let none : is_some (area_at c.args.t.now v.area.0).file_block ≡ false =
    ap (λ (a : AreaOf (Unit {0})). is_some a.file_block) (sym c.area-area.ensures) ∙ block_none c.area-area.result.now.file_block (sym c.first_block.ensures ∙ c.in-None.is) in
    subst (λ x. PassesIn g.G.PageStore.unpaged (Flushes (cond x (keys_from v.area.0 (v.first + c.args.before) c.args.count) [])) s s b b) (sym none) (flushes_none g.G.PageStore.unpaged s b)

passes : (g : given.Over) (c : After-flush_pages g) → PassesIn g.G.PageStore.unpaged (Flushes (cond (is_some (area_at c.args.t.now c.args.view.area.0).file_block) (keys_from c.args.view.area.0 (c.args.view.first + c.args.before) c.args.count) []))
    (g.G.PageStore.store c.args.g.now) (g.G.PageStore.store c.flush_pages.new.g) (g.G.PageStore.behind c.args.g.now) (g.G.PageStore.behind c.flush_pages.new.g)
passes g c =
    let file = ap (λ (a : AreaOf (Unit {0})). a.file_block) (sym c.area-area.ensures) ∙ block_told c.area-area.result.now.file_block c.in-Some.block (sym c.first_block.ensures ∙ c.in-Some.is) in
    subst (λ x. PassesIn g.G.PageStore.unpaged (Flushes (cond x (keys_from c.args.view.area.0 (c.args.view.first + c.args.before) c.args.count) [])) (g.G.PageStore.store c.args.g.now) (g.G.PageStore.store c.flush_pages.new.g) (g.G.PageStore.behind c.args.g.now) (g.G.PageStore.behind c.flush_pages.new.g))
    (sym (ap is_some file)) c.flush_pages.ensures.passes

pub returns-in-Ok-clause-passes : goal.returns-in-Ok-clause-passes
returns-in-Ok-clause-passes g c = passes g (goal.at.returns-in-Ok-clause-passes g c).After-flush_pages

pub returns-in-Err-clause-passes : goal.returns-in-Err-clause-passes
returns-in-Err-clause-passes g c = passes g (goal.at.returns-in-Err-clause-passes g c).After-flush_pages
