use Rattle.std.proofs.Common.{◌≡◌, ◌<◌, ℕ, [], List, Option, Some, None, get_or, set, replicate, refl, sym, ap, ◌∙◌, subst, arith, length-set, rules}
use Rattle.std.specs.Prelude.{min, vec_capacity, IfSome}
use Rattle.std.proofs.lemmas.List.{get_or_read, set-get_or}
use Rattle.mm_vad.specs.{Row, chunks_of, AreWritten, place_after, places_after, filled_rows, place_of_chunk}
use Rattle.mm_vad.specs.declared.chunks.Chunk.TheVariants as chunk
use Rattle.mm_vad.proofs.{rows_seen, rows_same, chunks_become, inside, stands, rows_read, place_read, room_left, written_out, chunk_written}
use Rattle.mm_vad.proofs.{places_kept, owned_same, chunk_filled, equal_part, equal_unless_other, filled_same, filled_whole}
use Rattle.mm_vad.proofs.Chunked.{rows_written}
use Rattle.mm_vad.proofs.chunks.Chunks.fill.Goals as goal

if_placed : (place : Option ℕ) (n : ℕ) → ((k : ℕ) → place ≡ Some k → k < n) → IfSome place (λ k. k < n)
if_placed None n low = search rules
if_placed (Some k) n low = low k refl

pub index-chunk-requires : goal.index-chunk-requires
index-chunk-requires c =
    let s = c.self.inside in
    omega (arith, s.chunks.ok.0, inside s.chunks.items s.places.items c.args.self.now.rows c.args.index (rows_seen c.self.view_is) c.requires.there)

pub index_mut-requires-in-Each : goal.index_mut-requires-in-Each
index_mut-requires-in-Each c =
    let s = c.self.inside in
    omega (arith, s.places.ok.0, c.self.invariant.below c.args.index c.in-Each.place (place_read s.chunks.items s.places.items c.args.self.now.rows c.args.index _ (chunk.Each c.in-Each.place) (rows_seen c.self.view_is) c.requires.there c.index-chunk.ensures c.in-Each.is))

pub write_out-place-requires-clause-there : goal.write_out-place-requires-clause-there
write_out-place-requires-clause-there c =
    let s = c.self.inside in
    let e = place_read s.chunks.items s.places.items c.args.self.now.rows c.args.index _ (chunk.Equal c.in-Equal.before c.in-Equal.place) (rows_seen c.self.view_is) c.requires.there c.index-chunk.ensures c.in-Equal.is in
    if_placed c.in-Equal.place _ (λ k f. omega (arith, s.places.ok.0, c.self.invariant.below c.args.index k (e ∙ f)))

pub write_out-place-requires-clause-room : goal.write_out-place-requires-clause-room
write_out-place-requires-clause-room c none =
    let s = c.self.inside in
    let there = inside s.chunks.items s.places.items c.args.self.now.rows c.args.index (rows_seen c.self.view_is) c.requires.there in
    let e = place_read s.chunks.items s.places.items c.args.self.now.rows c.args.index _ (chunk.Equal c.in-Equal.before c.in-Equal.place) (rows_seen c.self.view_is) c.requires.there c.index-chunk.ensures c.in-Equal.is in
    omega (arith, s.places.ok.0, room_left s.chunks.items s.places.items _ c.args.index c.self.invariant there (e ∙ none))

pub index_mut-requires-then-ne : goal.index_mut-requires-then-ne
index_mut-requires-then-ne c =
    let s = c.self.inside in
    omega (arith, s.chunks.ok.0, inside s.chunks.items s.places.items c.args.self.now.rows c.args.index (rows_seen c.self.view_is) c.requires.there)

pub invariant_of-self-then-ne : goal.invariant_of-self-then-ne
invariant_of-self-then-ne c =
    let s = c.self.inside in
    let new = c.write_out-place.new.places in
    let rows = filled_rows (replicate 512 c.in-Equal.before) c.args.at c.args.n c.args.row in
    let there = inside s.chunks.items s.places.items c.args.self.now.rows c.args.index (rows_seen c.self.view_is) c.requires.there in
    let e = place_read s.chunks.items s.places.items c.args.self.now.rows c.args.index _ (chunk.Equal c.in-Equal.before c.in-Equal.place) (rows_seen c.self.view_is) c.requires.there c.index-chunk.ensures c.in-Equal.is in
    subst (λ (k : ℕ). AreWritten (set s.chunks.items c.args.index (chunk.Each k)) new.items (vec_capacity new)) (sym c.write_out-place.ensures.place)
    (subst (λ (ps : List (List Row)). AreWritten (set s.chunks.items c.args.index (chunk.Each (place_after s.places.items c.in-Equal.place))) ps (vec_capacity new)) (sym c.write_out-place.ensures.items)
    (written_out s.chunks.items s.places.items _ (vec_capacity new) c.args.index c.in-Equal.place rows c.self.invariant there e (omega (arith, c.write_out-place.ensures.capacity))))

pub returns-in-Each : goal.returns-in-Each
returns-in-Each c =
    let s = c.self.inside in
    let there = inside s.chunks.items s.places.items c.args.self.now.rows c.args.index (rows_seen c.self.view_is) c.requires.there in
    let e = place_read s.chunks.items s.places.items c.args.self.now.rows c.args.index _ (chunk.Each c.in-Each.place) (rows_seen c.self.view_is) c.requires.there c.index-chunk.ensures c.in-Each.is in
    chunks_become _ c.args.self.now _ _ _ c.self.view_is
    (ap (λ (rs : List Row). chunks_of s.chunks.items (set s.places.items c.in-Each.place rs)) c.fill_in.ensures
    ∙ rows_written s.chunks.items s.places.items _ c.args.index c.in-Each.place (λ (rs : List Row). filled_rows rs c.args.at c.args.n c.args.row) _ c.self.invariant there
    (stands s.chunks.items c.args.index _ (chunk.Each c.in-Each.place) c.index-chunk.ensures c.in-Each.is)
    (get_or_read s.places.items c.in-Each.place _ (c.self.invariant.below c.args.index c.in-Each.place e) c.index_mut-in-Each.ensures.value [])
    ∙ ap (λ (cs : List (List Row)). set cs c.args.index (filled_rows (get_or cs c.args.index []) c.args.at c.args.n c.args.row)) (rows_seen c.self.view_is))
    refl

pub returns-then-ne : goal.returns-then-ne
returns-then-ne c =
    let s = c.self.inside in
    let rows = filled_rows (replicate 512 c.in-Equal.before) c.args.at c.args.n c.args.row in
    let there = inside s.chunks.items s.places.items c.args.self.now.rows c.args.index (rows_seen c.self.view_is) c.requires.there in
    let e = place_read s.chunks.items s.places.items c.args.self.now.rows c.args.index _ (chunk.Equal c.in-Equal.before c.in-Equal.place) (rows_seen c.self.view_is) c.requires.there c.index-chunk.ensures c.in-Equal.is in
    let was = rows_read s.chunks.items s.places.items c.args.self.now.rows c.args.index _ (chunk.Equal c.in-Equal.before c.in-Equal.place) (rows_seen c.self.view_is) c.requires.there c.index-chunk.ensures c.in-Equal.is in
    chunks_become _ c.args.self.now _ _ _ c.self.view_is
    (ap (λ (ps : List (List Row)). chunks_of (set s.chunks.items c.args.index (chunk.Each c.write_out-place.result)) ps) c.write_out-place.ensures.items
    ∙ ap (λ (k : ℕ). chunks_of (set s.chunks.items c.args.index (chunk.Each k)) (places_after s.places.items c.in-Equal.place rows)) c.write_out-place.ensures.place
    ∙ chunk_written s.chunks.items s.places.items _ c.args.index c.in-Equal.place rows c.self.invariant there e
    ∙ ap (λ (cs : List (List Row)). set cs c.args.index rows) (rows_seen c.self.view_is)
    ∙ ap (λ (rs : List Row). set c.args.self.now.rows c.args.index (filled_rows rs c.args.at c.args.n c.args.row)) (sym was))
    (ap (min (vec_capacity s.chunks)) c.write_out-place.ensures.capacity)

pub returns-else-ne : goal.returns-else-ne
returns-else-ne c =
    let s = c.self.inside in
    let old = get_or c.args.self.now.rows c.args.index [] in
    let same : c.in-Equal.before ≡ c.args.row = equal_unless_other c.in-Equal.before c.args.row (sym c.ne.ensures ∙ c.if-ne.false) in
    let was = rows_read s.chunks.items s.places.items c.args.self.now.rows c.args.index _ (chunk.Equal c.in-Equal.before c.in-Equal.place) (rows_seen c.self.view_is) c.requires.there c.index-chunk.ensures c.in-Equal.is in
    let equal = equal_part old 512 c.args.at c.args.n c.in-Equal.before was c.requires.inside ∙ ap (λ (r : Row). replicate c.args.n r) same in
    rows_same c.args.self.now _ _
    (sym (set-get_or c.args.self.now.rows c.args.index [])
    ∙ ap (λ (rs : List Row). set c.args.self.now.rows c.args.index rs) (filled_same old c.args.at c.args.n c.args.n c.args.row (omega (arith, c.requires.inside, c.requires.whole)) (omega arith) equal))

-- where all of the chunk is filled
pub index_mut-requires : goal.index_mut-requires
index_mut-requires c =
    let s = c.self.inside in
    omega (arith, s.chunks.ok.0, inside s.chunks.items s.places.items c.args.self.now.rows c.args.index (rows_seen c.self.view_is) c.requires.there)

pub invariant_of-self : goal.invariant_of-self
invariant_of-self c =
    let s = c.self.inside in
    let new = chunk.Equal c.args.row c.own_place.result in
    let e : place_of_chunk s.chunks.items c.args.index ≡ c.own_place.result =
    place_read s.chunks.items s.places.items c.args.self.now.rows c.args.index c.index-chunk.result.now c.index-chunk.result.now (rows_seen c.self.view_is) c.requires.there c.index-chunk.ensures refl ∙ sym c.own_place.ensures in
    places_kept s.chunks.items (set s.chunks.items c.args.index new) s.places.items s.places.items _ _ c.self.invariant
    (owned_same s.chunks.items c.args.index new e) (length-set s.chunks.items c.args.index new) refl (omega arith)

pub returns-then-n-eq-CHUNK : goal.returns-then-n-eq-CHUNK
returns-then-n-eq-CHUNK c =
    let s = c.self.inside in
    chunks_become _ c.args.self.now _ _ _ c.self.view_is
    (chunk_filled s.chunks.items s.places.items c.args.index c.args.row c.own_place.result (inside s.chunks.items s.places.items c.args.self.now.rows c.args.index (rows_seen c.self.view_is) c.requires.there)
    ∙ ap (λ (cs : List (List Row)). set cs c.args.index (replicate 512 c.args.row)) (rows_seen c.self.view_is)
    ∙ ap (λ (rs : List Row). set c.args.self.now.rows c.args.index rs)
    (filled_whole (get_or c.args.self.now.rows c.args.index []) 512 c.args.at c.args.n c.args.row c.requires.whole c.if-n-eq-CHUNK.true (omega (arith, c.requires.inside, c.if-n-eq-CHUNK.true))))
    refl
