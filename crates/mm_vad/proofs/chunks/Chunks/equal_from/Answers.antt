use Rattle.std.proofs.Common.{List, [], sym, ◌∙◌, subst, arith}
use Rattle.std.proofs.lemmas.List.{get_or_read}
use Rattle.mm_vad.specs.{Row, StartsRun}
use Rattle.mm_vad.specs.declared.chunks.Chunk.TheVariants as chunk
use Rattle.mm_vad.proofs.{rows_seen, inside, rows_read, place_read, equal_part}
use Rattle.mm_vad.proofs.chunks.Chunks.equal_from.Goals as goal

pub index-requires : goal.index-requires
index-requires c =
    let s = c.self.inside in
    omega (arith, s.chunks.ok.0, inside s.chunks.items s.places.items c.args.self.now.rows c.args.index (rows_seen c.self.view_is) c.requires.there)

pub index-requires-in-Each : goal.index-requires-in-Each
index-requires-in-Each c =
    let s = c.self.inside in
    omega (arith, s.places.ok.0, c.self.invariant.below c.args.index c.in-Each.place (place_read s.chunks.items s.places.items c.args.self.now.rows c.args.index _ (chunk.Each c.in-Each.place) (rows_seen c.self.view_is) c.requires.there c.index.ensures c.in-Each.is))

pub returns-in-Equal : goal.returns-in-Equal
returns-in-Equal c =
    let s = c.self.inside in
    record {
      some = c.requires.asked;
      within = omega arith;
      equal = equal_part _ 512 c.args.at c.args.most c.in-Equal.row
          (rows_read s.chunks.items s.places.items c.args.self.now.rows c.args.index _ (chunk.Equal c.in-Equal.row c.in-Equal.field-1) (rows_seen c.self.view_is) c.requires.there c.index.ensures c.in-Equal.is)
          c.requires.inside;
    }

pub returns-in-Each : goal.returns-in-Each
returns-in-Each c =
    let s = c.self.inside in
    let low = c.self.invariant.below c.args.index c.in-Each.place (place_read s.chunks.items s.places.items c.args.self.now.rows c.args.index _ (chunk.Each c.in-Each.place) (rows_seen c.self.view_is) c.requires.there c.index.ensures c.in-Each.is) in
    let rows = rows_read s.chunks.items s.places.items c.args.self.now.rows c.args.index _ (chunk.Each c.in-Each.place) (rows_seen c.self.view_is) c.requires.there c.index.ensures c.in-Each.is in
    subst (λ (rs : List Row). StartsRun rs c.args.at c.args.most c.equal_in.result.0 c.equal_in.result.1) (get_or_read s.places.items c.in-Each.place _ low c.index-in-Each.ensures [] ∙ sym rows) c.equal_in.ensures
