-- What blocks hold, of which only those that were written take memory.
use Rattle.std.proofs.Common.{◌≡◌, ℕ, zero, suc, ◌<◌, List, ◌∷◌, ◌++◌, length, get_or, set, map, replicate, Option, Some, None, refl, sym, ap, ◌∙◌, arith}
use Rattle.std.proofs.Math.ListN.{get_or-map}
use Rattle.std.proofs.lemmas.List.{length-map, map-append, map-set}
use Rattle.std.proofs.lemmas.Option.{slice_get-get_or}
use Rattle.std.specs.Prelude.{slice_get, Box}
use Rattle.std.specs.declared.alloc.Global.{Global}
use Rattle.mm_devices.specs.{empty_block, block_bytes}

-- a block as it is read
pub block_read : (blocks : List (Option (Box (List ℕ) Global))) (seen : List (List ℕ)) (i : ℕ) (b : Option (Box (List ℕ) Global)) → map block_bytes blocks ≡ seen → i < length blocks → get_or blocks i None ≡ b → slice_get seen i ≡ Some (block_bytes b)
block_read blocks seen i b is there e =
    ap (λ (bs : List (List ℕ)). slice_get bs i) (sym is)
    ∙ slice_get-get_or (map block_bytes blocks) i empty_block (omega (arith, there, length-map blocks block_bytes))
    ∙ ap (λ (x : List ℕ). Some x) (get_or-map block_bytes blocks i None ∙ ap block_bytes e)

-- a block was written
pub block_put : (blocks : List (Option (Box (List ℕ) Global))) (seen : List (List ℕ)) (i : ℕ) (b : Box (List ℕ) Global) (x : List ℕ) → map block_bytes blocks ≡ seen → b.value ≡ x → map block_bytes (set blocks i (Some b)) ≡ set seen i x
block_put blocks seen i b x is e = map-set block_bytes blocks i (Some b) ∙ ap (λ (bs : List (List ℕ)). set bs i b.value) is ∙ ap (λ (y : List ℕ). set seen i y) e

map-nones : (n : ℕ) → map block_bytes (replicate n None) ≡ replicate n empty_block
map-nones zero = refl
map-nones (suc n) = ap (λ (xs : List (List ℕ)). empty_block ∷ xs) (map-nones n)

-- blocks were added
pub blocks_added : (blocks : List (Option (Box (List ℕ) Global))) (seen : List (List ℕ)) (n : ℕ) → map block_bytes blocks ≡ seen → map block_bytes (blocks ++ replicate n None) ≡ seen ++ replicate n empty_block
blocks_added blocks seen n is =
    map-append block_bytes blocks (replicate n None)
    ∙ ap (λ (xs : List (List ℕ)). map block_bytes blocks ++ xs) (map-nones n)
    ∙ ap (λ (xs : List (List ℕ)). xs ++ replicate n empty_block) is
