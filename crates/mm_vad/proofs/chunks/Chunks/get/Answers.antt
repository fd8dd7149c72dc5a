use Rattle.std.proofs.Common.{arith}
use Rattle.mm_vad.specs.declared.chunks.Chunk.TheVariants as chunk
use Rattle.mm_vad.proofs.{rows_seen, inside, rows_read, place_read, equal_read, each_read}
use Rattle.mm_vad.proofs.chunks.Chunks.get.Goals as goal

pub index-requires : goal.index-requires
index-requires c =
    let s = c.self.inside in
    omega (arith, s.chunks.ok.0, inside s.chunks.items s.places.items c.args.self.now.rows c.args.index (rows_seen c.self.view_is) c.requires.there)

pub index-requires-in-Each : goal.index-requires-in-Each
index-requires-in-Each c =
    let s = c.self.inside in
    omega (arith, s.places.ok.0, c.self.invariant.below c.args.index c.in-Each.place (place_read s.chunks.items s.places.items c.args.self.now.rows c.args.index _ (chunk.Each c.in-Each.place) (rows_seen c.self.view_is) c.requires.there c.index.ensures c.in-Each.is))

pub returns-in-Equal : goal.returns-in-Equal
returns-in-Equal c =
    let s = c.self.inside in
    equal_read _ 512 c.args.at c.in-Equal.row
    (rows_read s.chunks.items s.places.items c.args.self.now.rows c.args.index _ (chunk.Equal c.in-Equal.row c.in-Equal.field-1) (rows_seen c.self.view_is) c.requires.there c.index.ensures c.in-Equal.is)
    c.requires.inside

pub returns-in-Each : goal.returns-in-Each
returns-in-Each c =
    let s = c.self.inside in
    each_read s.places.items _ c.index-in-Each.result.now c.in-Each.place c.args.at _
    (rows_read s.chunks.items s.places.items c.args.self.now.rows c.args.index _ (chunk.Each c.in-Each.place) (rows_seen c.self.view_is) c.requires.there c.index.ensures c.in-Each.is)
    (c.self.invariant.below c.args.index c.in-Each.place (place_read s.chunks.items s.places.items c.args.self.now.rows c.args.index _ (chunk.Each c.in-Each.place) (rows_seen c.self.view_is) c.requires.there c.index.ensures c.in-Each.is))
    c.index-in-Each.ensures
    (omega (arith, c.requires.inside, c.requires.whole))
