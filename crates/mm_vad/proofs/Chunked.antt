-- What rows in chunks hold, as chunks are filled and written out.
use Rattle.std.proofs.Common.{◌≡◌, ◌≢◌, ◌⊎◌, ℕ, zero, suc, ◌+◌, ◌^◌, ◌<◌, ◌≤◌, false, List, [], ◌∷◌, ◌++◌, length, get_or, set, replicate, Option, Some, None, refl, sym, ap, ◌∙◌, subst, inl, inr, arith, length-set, length-append, get_or-set_same, get_or-set_other}
use Rattle.std.proofs.Math.Seq.{get_or-append_seam}
use Rattle.std.proofs.lemmas.List.{ext_get_or, length-map, length-replicate, get_or_append_left, get_or_read, get_or-replicate, get_or-map, map-set, set-get_or}
use Rattle.mm_vad.specs.{Row, Chunk, ChunksOf, rows_in, chunks_of, own_place, owned, place_of_chunk, unplaced, AreWritten, place_after, places_after}
use Rattle.mm_vad.specs.declared.chunks.Chunk.TheVariants as chunk
use Rattle.std.specs.Prelude.{slice_get}
use Rattle.std.proofs.lemmas.Option.{slice_get-get_or}
use Rattle.mm_types.proofs.{same_or_not}

pub length-chunks : (chunks : List Chunk) (places : List (List Row)) → length (chunks_of chunks places) ≡ length chunks
unfolding chunks_of
length-chunks chunks places = length-map chunks (rows_in places)

length-owned : (chunks : List Chunk) → length (owned chunks) ≡ length chunks
unfolding owned
length-owned chunks = length-map chunks own_place

owned-set : (chunks : List Chunk) (i : ℕ) (c : Chunk) → owned (set chunks i c) ≡ set (owned chunks) i (own_place c)
unfolding owned
owned-set chunks i c = map-set own_place chunks i c

-- the rows and the place of the chunk that stands there
pub chunk_rows : (chunks : List Chunk) (places : List (List Row)) (i : ℕ) (c : Chunk) → i < length chunks → get_or chunks i c ≡ c → get_or (chunks_of chunks places) i [] ≡ rows_in places c
unfolding chunks_of
chunk_rows chunks places i c h e = get_or-map (rows_in places) chunks i c [] h ∙ ap (rows_in places) e

pub chunk_place : (chunks : List Chunk) (i : ℕ) (c : Chunk) → i < length chunks → get_or chunks i c ≡ c → place_of_chunk chunks i ≡ own_place c
unfolding owned
chunk_place chunks i c h e = get_or-map own_place chunks i c None h ∙ ap own_place e

unplaced-nones : (n : ℕ) → unplaced (replicate n None) ≡ n
unplaced-nones zero = refl
unplaced-nones (suc n) = omega (arith, unplaced-nones n)

unplaced-set : (owners : List (Option ℕ)) (i k : ℕ) → i < length owners → get_or owners i None ≡ None → unplaced (set owners i (Some k)) + 1 ≡ unplaced owners
unplaced-set [] i k h e = absurd (omega arith)
unplaced-set (None ∷ owners) zero k h e = refl
unplaced-set (Some j ∷ owners) zero k h e = cc
unplaced-set (None ∷ owners) (suc i) k h e = omega (arith, unplaced-set owners i k (omega arith) e)
unplaced-set (Some j ∷ owners) (suc i) k h e = unplaced-set owners i k (omega arith) e

-- there is room for a chunk that has no place
pub room_left : (chunks : List Chunk) (places : List (List Row)) (room i : ℕ) → AreWritten chunks places room → i < length chunks → place_of_chunk chunks i ≡ None → length places < room
room_left chunks places room i s h e = omega (arith, s.counted, s.roomy, unplaced-set (owned chunks) i 0 (omega (arith, h, length-owned chunks)) e)

-- chunk i changed, and the others show what they did
pub chunk_changed : (chunks : List Chunk) (places places' : List (List Row)) (i : ℕ) (c : Chunk) (rows : List Row) → i < length chunks → rows_in places' c ≡ rows → ((j : ℕ) (d : Chunk) → j ≢ i → j < length chunks → get_or chunks j d ≡ d → rows_in places' d ≡ rows_in places d) → chunks_of (set chunks i c) places' ≡ set (chunks_of chunks places) i rows
chunk_changed chunks places places' i c rows there here others =
    ext_get_or [] (chunks_of (set chunks i c) places') (set (chunks_of chunks places) i rows)
    (length-chunks (set chunks i c) places' ∙ length-set chunks i c ∙ sym (length-set (chunks_of chunks places) i rows ∙ length-chunks chunks places))
    (λ j h.
    let low : j < length chunks = omega (arith, h, length-chunks (set chunks i c) places', length-set chunks i c) in
    elim (same_or_not j i) [
      | inl e ↦
          let new : get_or (chunks_of (set chunks i c) places') i [] ≡ rows_in places' c =
          chunk_rows (set chunks i c) places' i c (omega (arith, there, length-set chunks i c)) (get_or-set_same chunks i c c there) in
          let old : get_or (set (chunks_of chunks places) i rows) i [] ≡ rows = get_or-set_same (chunks_of chunks places) i rows [] (omega (arith, there, length-chunks chunks places)) in
          ap (λ (q : ℕ). get_or (chunks_of (set chunks i c) places') q []) e ∙ new ∙ here ∙ sym old ∙ sym (ap (λ (q : ℕ). get_or (set (chunks_of chunks places) i rows) q []) e)
      | inr far ↦
          let d : Chunk = get_or chunks j c in
          let is : get_or chunks j d ≡ d = stands chunks j c low in
          let new : get_or (chunks_of (set chunks i c) places') j [] ≡ rows_in places' d =
          chunk_rows (set chunks i c) places' j d (omega (arith, low, length-set chunks i c)) (get_or-set_other chunks i j c d far ∙ is) in
          new ∙ others j d far low is ∙ sym (chunk_rows chunks places j d low is) ∙ sym (get_or-set_other (chunks_of chunks places) i j rows [] far)
    ])
  where
    stands : (chunks : List Chunk) (j : ℕ) (c : Chunk) → j < length chunks → get_or chunks j (get_or chunks j c) ≡ get_or chunks j c
    stands [] j c h = absurd (omega arith)
    stands (x ∷ xs) zero c h = refl
    stands (x ∷ xs) (suc j) c h = stands xs j c (omega arith)

-- all rows of a chunk are equal to one
pub chunk_filled : (chunks : List Chunk) (places : List (List Row)) (i : ℕ) (row : Row) (place : Option ℕ) → i < length chunks → chunks_of (set chunks i (chunk.Equal row place)) places ≡ set (chunks_of chunks places) i (replicate 512 row)
chunk_filled chunks places i row place there = chunk_changed chunks places places i (chunk.Equal row place) (replicate 512 row) there refl (λ j d far low is. refl)

-- a place was written that is not this chunk's
rows_in_other : (places : List (List Row)) (place : Option ℕ) (rows : List Row) (d : Chunk) → ((k : ℕ) → own_place d ≡ Some k → k < length places) → own_place d ≢ Some (place_after places place) → rows_in (places_after places place rows) d ≡ rows_in places d
rows_in_other places place rows (chunk.Equal row p) low far = refl
rows_in_other places None rows (chunk.Each k) low far = get_or_append_left places (rows ∷ []) [] k (low k refl)
rows_in_other places (Some m) rows (chunk.Each k) low far = get_or-set_other places m k rows [] (λ e. far (ap (λ (q : ℕ). Some q) e))

rows_in_here : (places : List (List Row)) (place : Option ℕ) (rows : List Row) → ((k : ℕ) → place ≡ Some k → k < length places) → rows_in (places_after places place rows) (chunk.Each (place_after places place)) ≡ rows
rows_in_here places None rows low = get_or-append_seam places rows [] []
rows_in_here places (Some k) rows low = get_or-set_same places k rows [] (low k refl)

-- no other chunk has the place that a chunk is written out to
place_is_free : (chunks : List Chunk) (places : List (List Row)) (room i j : ℕ) (place : Option ℕ) → AreWritten chunks places room → place_of_chunk chunks i ≡ place → j ≢ i → place_of_chunk chunks j ≢ Some (place_after places place)
place_is_free chunks places room i j None s e far f = let h = s.below j (length places) f in absurd (omega arith)
place_is_free chunks places room i j (Some k) s e far f = far (s.apart j i k f e)

-- a chunk's rows were written out
module _ (chunks : List Chunk) (places : List (List Row)) (room i : ℕ) (place : Option ℕ) (rows : List Row) (s : AreWritten chunks places room) (there : i < length chunks) (e : place_of_chunk chunks i ≡ place) where
  pub chunk_written : chunks_of (set chunks i (chunk.Each (place_after places place))) (places_after places place rows) ≡ set (chunks_of chunks places) i rows
  chunk_written =
      chunk_changed chunks places (places_after places place rows) i (chunk.Each (place_after places place)) rows there
      (rows_in_here places place rows (λ k f. s.below i k (e ∙ f)))
      (λ j d far low is. rows_in_other places place rows d
      (λ k f. s.below j k (chunk_place chunks j d low is ∙ f))
      (λ f. place_is_free chunks places room i j place s e far (chunk_place chunks j d low is ∙ f)))

-- the chunks' places stay, and what is written there may change
pub places_kept : (chunks chunks' : List Chunk) (places places' : List (List Row)) (room room' : ℕ) → AreWritten chunks places room → owned chunks' ≡ owned chunks → length chunks' ≡ length chunks → length places' ≡ length places → room ≤ room' → AreWritten chunks' places' room'
places_kept chunks chunks' places places' room room' s same long longer wide =
    let at : (i : ℕ) → place_of_chunk chunks' i ≡ place_of_chunk chunks i = λ i. ap (λ (os : List (Option ℕ)). get_or os i None) same in
    record {
      below = λ i k f. omega (arith, s.below i k (sym (at i) ∙ f), longer);
      apart = λ i j k f g. s.apart i j k (sym (at i) ∙ f) (sym (at j) ∙ g);
      counted = omega (arith, s.counted, ap unplaced same, long, longer);
      roomy = omega (arith, s.roomy, long, wide);
      few = omega (arith, s.few, long);
    }

-- a chunk that keeps its place
pub owned_same : (chunks : List Chunk) (i : ℕ) (c : Chunk) → place_of_chunk chunks i ≡ own_place c → owned (set chunks i c) ≡ owned chunks
owned_same chunks i c e = owned-set chunks i c ∙ ap (λ (p : Option ℕ). set (owned chunks) i p) (sym e) ∙ set-get_or (owned chunks) i None

-- a chunk that had none takes the next
module _ (chunks : List Chunk) (places : List (List Row)) (room i : ℕ) (rows : List Row) (s : AreWritten chunks places room) (there : i < length chunks) (e : place_of_chunk chunks i ≡ None) where
  place_now : (j k : ℕ) → place_of_chunk (set chunks i (chunk.Each (length places))) j ≡ Some k → ((j ≡ i) × (k ≡ length places)) ⊎ (place_of_chunk chunks j ≡ Some k)
  place_now j k f =
      let changed : place_of_chunk (set chunks i (chunk.Each (length places))) j ≡ get_or (set (owned chunks) i (Some (length places))) j None = ap (λ (os : List (Option ℕ)). get_or os j None) (owned-set chunks i (chunk.Each (length places))) in
      elim (same_or_not j i) [
        | inl same ↦
            let here : get_or (set (owned chunks) i (Some (length places))) j None ≡ Some (length places) =
            ap (λ (q : ℕ). get_or (set (owned chunks) i (Some (length places))) q None) same ∙ get_or-set_same (owned chunks) i (Some (length places)) None (omega (arith, there, length-owned chunks)) in
            let both : Some (length places) ≡ Some k = sym here ∙ sym changed ∙ f in
            inl (same, cc)
        | inr d ↦ inr (sym (get_or-set_other (owned chunks) i j (Some (length places)) None d) ∙ sym changed ∙ f)
      ]

  one_more : length (places ++ rows ∷ []) ≡ length places + 1
  one_more = omega (arith, length-append places (rows ∷ []))

  pub place_taken : (room' : ℕ) → room ≤ room' → AreWritten (set chunks i (chunk.Each (length places))) (places ++ rows ∷ []) room'
  place_taken room' wide = record {
    below = λ j k f. elim (place_now j k f) [
      | inl new ↦ omega (arith, new.1, one_more)
      | inr old ↦ omega (arith, s.below j k old, one_more)
    ];
    apart = λ j l k f g. elim (place_now j k f) [
      | inl new ↦ elim (place_now l k g) [
        | inl new' ↦ new.0 ∙ sym new'.0
        | inr old' ↦ absurd (omega (arith, new.1, s.below l k old'))
      ]
      | inr old ↦ elim (place_now l k g) [
        | inl new' ↦ absurd (omega (arith, new'.1, s.below j k old))
        | inr old' ↦ s.apart j l k old old'
      ]
    ];
    counted = omega (arith, s.counted, one_more, ap unplaced (owned-set chunks i (chunk.Each (length places))), unplaced-set (owned chunks) i (length places) (omega (arith, there, length-owned chunks)) e, length-set chunks i (chunk.Each (length places)));
    roomy = omega (arith, s.roomy, wide, length-set chunks i (chunk.Each (length places)));
    few = omega (arith, s.few, length-set chunks i (chunk.Each (length places)));
  }

pub written_out : (chunks : List Chunk) (places : List (List Row)) (room room' i : ℕ) (place : Option ℕ) (rows : List Row) → AreWritten chunks places room → i < length chunks → place_of_chunk chunks i ≡ place → room ≤ room' → AreWritten (set chunks i (chunk.Each (place_after places place))) (places_after places place rows) room'
written_out chunks places room room' i None rows s there e wide = place_taken chunks places room i rows s there e room' wide
written_out chunks places room room' i (Some k) rows s there e wide =
    places_kept chunks (set chunks i (chunk.Each k)) places (set places k rows) room room' s (owned_same chunks i (chunk.Each k) e) (length-set chunks i (chunk.Each k)) (length-set places k rows) wide

-- new chunks
owned-equal : (n : ℕ) (row : Row) → owned (replicate n (chunk.Equal row None)) ≡ replicate n None
unfolding owned
owned-equal zero row = refl
owned-equal (suc n) row = ap (λ (os : List (Option ℕ)). None ∷ os) (owned-equal n row)

past_or_within : (n i : ℕ) (p : Option ℕ) → get_or (replicate n p) i p ≡ p
past_or_within zero i p = refl
past_or_within (suc n) zero p = refl
past_or_within (suc n) (suc i) p = past_or_within n i p

pub new_chunks : (n room : ℕ) (row : Row) → n ≤ room → n < 2 ^ 32 → AreWritten (replicate n (chunk.Equal row None)) [] room
new_chunks n room row wide few =
    let none : (i k : ℕ) → place_of_chunk (replicate n (chunk.Equal row None)) i ≢ Some k =
    λ i k f. (let bad : None ≡ Some k = sym (past_or_within n i None) ∙ sym (ap (λ (os : List (Option ℕ)). get_or os i None) (owned-equal n row)) ∙ f in cc) in
    record {
      below = λ i k f. absurd (none i k f);
      apart = λ i j k f g. absurd (none i k f);
      counted = omega (arith, ap unplaced (owned-equal n row), unplaced-nones n, length-replicate n (chunk.Equal row None));
      roomy = omega (arith, wide, length-replicate n (chunk.Equal row None));
      few = omega (arith, few, length-replicate n (chunk.Equal row None));
    }

pub new_rows : (n : ℕ) (row : Row) (places : List (List Row)) → chunks_of (replicate n (chunk.Equal row None)) places ≡ replicate n (replicate 512 row)
unfolding chunks_of
new_rows zero row places = refl
new_rows (suc n) row places = ap (λ (cs : List (List Row)). replicate 512 row ∷ cs) (new_rows n row places)

pub chunks_made : (chunks : List Chunk) (places : List (List Row)) (n room : ℕ) (row : Row) → chunks ≡ replicate n (chunk.Equal row None) → places ≡ [] → n ≤ room → n < 2 ^ 32 → AreWritten chunks places room
chunks_made chunks places n room row e f wide few =
    subst (λ (cs : List Chunk). AreWritten cs places room) (sym e) (subst (λ (ps : List (List Row)). AreWritten (replicate n (chunk.Equal row None)) ps room) (sym f) (new_chunks n room row wide few))

-- no chunks are none of any row
any_row : Row
any_row = record { prot = record { 0 = 0 }; committed = false; guard = false; copied = false; marked = false }

pub no_chunks : (chunks : List Chunk) (places : List (List Row)) (room : ℕ) → chunks ≡ [] → places ≡ [] → AreWritten chunks places room
no_chunks chunks places room e f = chunks_made chunks places 0 room any_row e f (omega arith) (omega arith)

pub rows_made : (chunks : List Chunk) (places : List (List Row)) (n : ℕ) (row : Row) → chunks ≡ replicate n (chunk.Equal row None) → chunks_of chunks places ≡ replicate n (replicate 512 row)
rows_made chunks places n row e = ap (λ (cs : List Chunk). chunks_of cs places) e ∙ new_rows n row places

-- chunks as they are seen, and once their rows changed
pub rows_seen : {seen now : ChunksOf} → seen ≡ now → seen.rows ≡ now.rows
rows_seen e = ap (λ (v : ChunksOf). v.rows) e

pub room_seen : {seen now : ChunksOf} → seen ≡ now → seen.room ≡ now.room
room_seen e = ap (λ (v : ChunksOf). v.room) e

seen_as : List (List Row) → ℕ → ChunksOf
seen_as rows room = record { rows = rows; room = room }

pub chunks_become : (seen now : ChunksOf) (rows rows' : List (List Row)) (room : ℕ) → seen ≡ now → rows ≡ rows' → room ≡ seen.room → record { rows = rows; room = room } ≡ record now { rows = rows' }
unfolding seen_as
chunks_become seen now rows rows' room e f g =
    ap (λ (rs : List (List Row)). seen_as rs room) f ∙ ap (seen_as rows') (g ∙ room_seen e)

with_rows : ChunksOf → List (List Row) → ChunksOf
with_rows v rows = record v { rows = rows }

pub rows_same : (v : ChunksOf) (rows rows' : List (List Row)) → rows ≡ rows' → record v { rows = rows } ≡ record v { rows = rows' }
unfolding with_rows
rows_same v rows rows' e = ap (with_rows v) e

-- a chunk as it is read
pub inside : (chunks : List Chunk) (places shown : List (List Row)) (i : ℕ) → chunks_of chunks places ≡ shown → i < length shown → i < length chunks
inside chunks places shown i e h = omega (arith, h, length-chunks chunks places, ap length e)

pub stands : (chunks : List Chunk) (i : ℕ) (x c : Chunk) → x ≡ get_or chunks i x → x ≡ c → get_or chunks i c ≡ c
stands chunks i x c read is = subst (λ (d : Chunk). get_or chunks i d ≡ d) is (sym read)

pub rows_read : (chunks : List Chunk) (places shown : List (List Row)) (i : ℕ) (x c : Chunk) → chunks_of chunks places ≡ shown → i < length shown → x ≡ get_or chunks i x → x ≡ c → get_or shown i [] ≡ rows_in places c
rows_read chunks places shown i x c e h read is =
    ap (λ (cs : List (List Row)). get_or cs i []) (sym e) ∙ chunk_rows chunks places i c (inside chunks places shown i e h) (stands chunks i x c read is)

pub place_read : (chunks : List Chunk) (places shown : List (List Row)) (i : ℕ) (x c : Chunk) → chunks_of chunks places ≡ shown → i < length shown → x ≡ get_or chunks i x → x ≡ c → place_of_chunk chunks i ≡ own_place c
place_read chunks places shown i x c e h read is = chunk_place chunks i c (inside chunks places shown i e h) (stands chunks i x c read is)

pub equal_read : (rows : List Row) (long at : ℕ) (row : Row) → rows ≡ replicate long row → at < long → slice_get rows at ≡ Some row
equal_read rows long at row e h =
    ap (λ (rs : List Row). slice_get rs at) e
    ∙ slice_get-get_or (replicate long row) at row (omega (arith, h, length-replicate long row))
    ∙ ap (λ (r : Row). Some r) (get_or-replicate long at row row h)

pub each_read : (places : List (List Row)) (rows x : List Row) (k at : ℕ) (d : Row) → rows ≡ get_or places k [] → k < length places → x ≡ get_or places k x → at < length rows → slice_get rows at ≡ Some (get_or x at d)
each_read places rows x k at d e there read h =
    let is : rows ≡ x = e ∙ sym (get_or_read places k x there read []) in
    ap (λ (rs : List Row). slice_get rs at) is ∙ slice_get-get_or x at d (omega (arith, h, ap length is))

-- rows of a chunk that was written out are changed
pub rows_written : (chunks : List Chunk) (places : List (List Row)) (room i k : ℕ) (change : List Row → List Row) (x : List Row) → AreWritten chunks places room → i < length chunks → get_or chunks i (chunk.Each k) ≡ chunk.Each k → x ≡ get_or places k [] → chunks_of chunks (set places k (change x)) ≡ set (chunks_of chunks places) i (change (get_or (chunks_of chunks places) i []))
rows_written chunks places room i k change x s there e read =
    let whole : set chunks i (chunk.Each k) ≡ chunks = ap (λ (c : Chunk). set chunks i c) (sym e) ∙ set-get_or chunks i (chunk.Each k) in
    let rows : get_or (chunks_of chunks places) i [] ≡ x = chunk_rows chunks places i (chunk.Each k) there e ∙ sym read in
    ap (λ (cs : List Chunk). chunks_of cs (set places k (change x))) (sym whole)
    ∙ chunk_written chunks places room i (Some k) (change x) s there (chunk_place chunks i (chunk.Each k) there e)
    ∙ ap (λ (rs : List Row). set (chunks_of chunks places) i (change rs)) (sym rows)
