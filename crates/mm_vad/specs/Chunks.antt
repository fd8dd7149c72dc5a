-- How rows stand in chunks: a chunk's rows are equal, or written out at a place of its own.
use Rattle.std.specs.Prelude.{◌≡◌, ◌≤◌, ◌<◌, ℕ, ◌+◌, ◌/◌, ◌%◌, ◌^◌, List, [], ◌∷◌, ◌++◌, length, map, take, drop, replicate, slice_set, slice_index_or, min, vec_capacity, Option, Some, None}
use Rattle.std.specs.List.{All}
use Rattle.std.specs.Global.{Vec}
use Rattle.mm_vad.specs.declared.pages.Row.{Row}
use Rattle.mm_vad.specs.declared.chunks.Chunk.{Chunk}
use Rattle.mm_vad.specs.declared.chunks.Chunk.TheVariants as chunk

-- the rows of a chunk, where those that are written out stand at these places
abbrev pub rows_in : List (List Row) → Chunk → List Row
rows_in places (chunk.Equal row place) = replicate 512 row
rows_in places (chunk.Each k) = slice_index_or places k []

unfoldable pub chunks_of : List Chunk → List (List Row) → List (List Row)
chunks_of chunks places = map (rows_in places) chunks

-- the rows of all chunks, and how many chunks there is room for
pub record ChunksOf : Type 0 where
  pub rows : List (List Row)
  pub room : ℕ

abbrev pub chunks_seen : Vec Chunk → Vec (List Row) → ChunksOf
chunks_seen chunks places = record {
  rows = chunks_of chunks.items places.items;
  room = min (vec_capacity chunks) (vec_capacity places);
}

-- the place that is the chunk's own
abbrev pub own_place : Chunk → Option ℕ
own_place (chunk.Equal row place) = place
own_place (chunk.Each k) = Some k

unfoldable pub owned : List Chunk → List (Option ℕ)
owned chunks = map own_place chunks

abbrev pub place_of_chunk : List Chunk → ℕ → Option ℕ
place_of_chunk chunks i = slice_index_or (owned chunks) i None

-- how many have no place
abbrev pub unplaced : List (Option ℕ) → ℕ
unplaced [] = 0
unplaced (None ∷ places) = unplaced places + 1
unplaced (Some k ∷ places) = unplaced places

-- each place is one chunk's own, and there is room for each chunk that has none yet
pub record AreWritten (chunks : List Chunk) (places : List (List Row)) (room : ℕ) : Type 0 where
  pub below : (i k : ℕ) → place_of_chunk chunks i ≡ Some k → k < length places
  pub apart : (i j k : ℕ) → place_of_chunk chunks i ≡ Some k → place_of_chunk chunks j ≡ Some k →
      i ≡ j
  pub counted : length places + unplaced (owned chunks) ≡ length chunks
  pub roomy : length chunks ≤ room
  pub few : length chunks < 2 ^ 32

-- the place of a chunk once it is written out, the next where it had none
abbrev pub place_after : List (List Row) → Option ℕ → ℕ
place_after places None = length places
place_after places (Some k) = k

abbrev pub places_after : List (List Row) → Option ℕ → List Row → List (List Row)
places_after places None rows = places ++ rows ∷ []
places_after places (Some k) rows = slice_set places k rows

-- whole chunks, and the rows behind them
abbrev pub rows_joined : List (List Row) → List Row → List Row
rows_joined [] rest = rest
rows_joined (rows ∷ chunks) rest = rows ++ rows_joined chunks rest

pub record AreRows (chunks : List (List Row)) (rest : List Row) : Type 0 where
  pub whole : All (λ rows. length rows ≡ 512) chunks
  pub few : length (rows_joined chunks rest) < 2 ^ 32

-- there is room for all of n rows, in chunks and behind the last whole one
pub record HaveRoom (n chunks rows : ℕ) : Type 0 where
  pub within : n / 512 ≤ chunks
  pub behind : n % 512 ≤ rows

abbrev pub AreInRoom : ℕ → ChunksOf → Vec Row → Type 0
AreInRoom n chunks rest =
    AreRows chunks.rows rest.items × HaveRoom n chunks.room (vec_capacity rest)

-- rows that are written out, and how many there is room for
pub record WrittenOf : Type 0 where
  pub rows : List Row
  pub room : ℕ

-- all rows of a region: equal to one, or written out
abbrev pub rows_of : Option Row → WrittenOf → List Row
rows_of (Some row) written = replicate written.room row
rows_of None written = written.rows

-- where they are not one row, all are written out
abbrev pub AreAll : Option Row → WrittenOf → Type 0
AreAll (Some row) written = Unit {0}
AreAll None written = length written.rows ≡ written.room

-- the rows with n of them, from the first on, equal to this one
abbrev pub filled_rows : List Row → ℕ → ℕ → Row → List Row
filled_rows rows first n row = take first rows ++ replicate n row ++ drop (first + n) rows

-- so many rows from the first on became this one: at least one, and at most n
pub record FilledSome (old new : List Row) (first n : ℕ) (row : Row) (many : ℕ) : Type 0 where
  pub some : 0 < many
  pub within : many ≤ n
  pub fits : first + many < 2 ^ 32
  pub after : new ≡ filled_rows old first many row

-- row i and so many rows from it on are equal to this one: at least one, and at most so many
pub record StartsRun (rows : List Row) (i most : ℕ) (row : Row) (n : ℕ) : Type 0 where
  pub some : 0 < n
  pub within : n ≤ most
  pub equal : take n (drop i rows) ≡ replicate n row
