use Rattle.std.proofs.Common.{sym, ◌∙◌, ap, ℕ}
use Rattle.mm_store.specs.{StoreOf}
use Rattle.mm_world.specs.{Numbered, numbered, process_of}
use Rattle.mm_types.proofs.{some_found}
use Rattle.mm_object_tables.proofs.{toward_then, no_region, regions_fewer, regions_then, regions_end}
use Rattle.mm_object_tables.proofs.tables.Tables.drop_regions.Goals as goal

pub drop_lowest-requires-clause-ready : goal.drop_lowest-requires-clause-ready
drop_lowest-requires-clause-ready g c = record {
  fits = c.loop-info.invariant.toward.fits;
  kind_is = ap (λ (x : StoreOf). x.kind) c.loop-info.invariant.toward.rest ∙ c.requires.ready.kind_is;
  lives = c.loop-info.invariant.lives;
}

pub loop-info-preserved : goal.loop-info-preserved
loop-info-preserved g c =
    let p = some_found (process_of c.loop-info.self c.args.pid.0) c.loop-info.invariant.lives in
    record {
      toward = toward_then c.loop-info.invariant.toward c.drop_lowest.ensures.nears.toward;
      lives = c.drop_lowest.ensures.nears.lives;
      closed = λ q now k. ap (λ (hs : Numbered ℕ). numbered hs k) (c.drop_lowest.ensures.fewer p.0 q p.1 now).same ∙ c.loop-info.invariant.closed p.0 p.1 k;
      passes = λ held for all.
          let q = some_found (process_of c.drop_lowest.new.self c.args.pid.0) c.drop_lowest.ensures.nears.lives in
          regions_then g.G.PageStore.unpaged held c.args.pid c.loop-info.self c.drop_lowest.new.self p.0 q.0 c.in-Some.info (g.G.PageStore.store c.args.g.now) (g.G.PageStore.store c.loop-info.g) (g.G.PageStore.store c.drop_lowest.new.g) (g.G.PageStore.behind c.args.g.now) (g.G.PageStore.behind c.loop-info.g) (g.G.PageStore.behind c.drop_lowest.new.g)
          p.1 q.1 (c.lowest.ensures.sound.spaces c.args.pid.0 p.0 p.1) (sym c.in-Some.is ∙ c.lowest.ensures.found p.0 p.1) (c.drop_lowest.ensures.fewer p.0 q.0 p.1 q.1) all (c.loop-info.invariant.passes held for all)
          (λ from to among. c.drop_lowest.ensures.passes held from to (c.loop-info.invariant.toward.ranks held.rank for) among);
      loans = c.drop_lowest.ensures.nears.loans ∙ c.loop-info.invariant.loans;
    }

pub loop-info-smaller : goal.loop-info-smaller
loop-info-smaller g c =
    let p = some_found (process_of c.loop-info.self c.args.pid.0) c.loop-info.invariant.lives in
    let q = some_found (process_of c.drop_lowest.new.self c.args.pid.0) c.drop_lowest.ensures.nears.lives in
    regions_fewer c.loop-info.self c.drop_lowest.new.self c.args.pid.0 p.0 q.0 p.1 q.1 (c.drop_lowest.ensures.fewer p.0 q.0 p.1 q.1)

pub returns-clause-empty : goal.returns-clause-empty
returns-clause-empty g c p lives = no_region p.regions (sym (c.lowest.ensures.found p lives) ∙ c.in_default.is)

pub returns-clause-passes : goal.returns-clause-passes
returns-clause-passes g c held for all =
    let p = some_found (process_of c.loop-info.self c.args.pid.0) c.loop-info.invariant.lives in
    regions_end g.G.PageStore.unpaged held c.loop-info.self c.args.pid.0 p.0 (g.G.PageStore.store c.args.g.now) (g.G.PageStore.store c.loop-info.g) (g.G.PageStore.behind c.args.g.now) (g.G.PageStore.behind c.loop-info.g)
    p.1 (no_region p.0.regions (sym (c.lowest.ensures.found p.0 p.1) ∙ c.in_default.is)) (c.loop-info.invariant.passes held for all)
