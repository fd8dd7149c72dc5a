use Rattle.std.proofs.Common.{◌≡◌, ◌≢◌, ℕ, zero, suc, ◌+◌, ◌<◌, List, [], ◌∷◌, length, Option, Some, None, refl, sym, ap, ◌∙◌, inl, inr, arith}
use Rattle.std.specs.Prelude.{slice_get, slice_set, true, false, cond, ◌==◌}
use Rattle.std.specs.Cmp.{unsigned_tied, unsigned_Decides, nat_cmp_total}
use Rattle.std.specs.Ordering.{nat_cmp}
use Rattle.std.specs.FinMap as finite
use Rattle.std.specs.FinMap.{FinMap, find}
use Rattle.mm_types.proofs.Finite.{same, get-insert, get-remove}
use Rattle.mm_types.proofs.Cells.{get_set_same, get_set_other, same_or_not}
use Rattle.mm_types.specs.{put_if, pairs_from, table, found}

pub differ : (q j : ℕ) → q ≢ j → (q == j) ≡ false
differ q j h = elim (q == j) as (λ b. (q == j) ≡ b → (q == j) ≡ false) [ true ↦ λ e. absurd (h ((unsigned_Decides q j).0 e)) | false ↦ λ e. e ] refl

put_other : {X : Type 0} (q j : ℕ) (o : Option X) (es : List (ℕ × X)) → q ≢ j → find nat_cmp q (put_if j o es) ≡ find nat_cmp q es
put_other q j None es h = refl
put_other q j (Some x) es h = ap (λ t. cond t (Some x) (find nat_cmp q es)) (unsigned_tied q j ∙ differ q j h)

put_same : {X : Type 0} (q j : ℕ) (o : Option X) (es : List (ℕ × X)) → q ≡ j → find nat_cmp q es ≡ None → find nat_cmp q (put_if j o es) ≡ o
put_same q j None es h n = n
put_same q j (Some x) es h n = ap (λ t. cond t (Some x) (find nat_cmp q es)) (unsigned_tied q j ∙ (unsigned_Decides q j).1 h)

module _ {W X : Type 0} (g : W → Option X) where
  before : (ws : List W) (j q : ℕ) → q < j → find nat_cmp q (pairs_from g j ws) ≡ None
  before [] j q h = refl
  before (w ∷ ws) j q h = put_other q j (g w) _ (omega arith) ∙ before ws (j + 1) q (omega arith)

  find_pairs : (ws : List W) (j i q : ℕ) → q ≡ j + i → find nat_cmp q (pairs_from g j ws) ≡ found g (slice_get ws i)
  find_pairs [] j i q e = refl
  find_pairs (w ∷ ws) j zero q e = put_same q j (g w) _ (omega arith) (before ws (j + 1) q (omega arith))
  find_pairs (w ∷ ws) j (suc i) q e = put_other q j (g w) _ (omega arith) ∙ find_pairs ws (j + 1) i q (omega arith)

  pub get_table : (ws : List W) (q : ℕ) → finite.get (table g ws) q ≡ found g (slice_get ws q)
  unfolding table
  get_table ws q = finite.get-from_entries nat_cmp_total (pairs_from g 0 ws) q ∙ find_pairs ws 0 q q (omega arith)

-- a map that differs from a table at one key
pub is_insert : {X : Type 0} (m n : FinMap nat_cmp X) (k : ℕ) (x : X) → finite.get n k ≡ Some x → ((q : ℕ) → q ≢ k → finite.get n q ≡ finite.get m q) → n ≡ finite.insert m k x
is_insert m n k x at others = same _ _ (λ q. elim (same_or_not q k) [
  | inl e ↦ ap (finite.get n) e ∙ at ∙ sym (get-insert m k x q ∙ ap (λ b. cond b (Some x) (finite.get m q)) ((unsigned_Decides q k).1 e))
  | inr d ↦ others q d ∙ sym (get-insert m k x q ∙ ap (λ b. cond b (Some x) (finite.get m q)) (differ q k d))
])

pub is_remove : {X : Type 0} (m n : FinMap nat_cmp X) (k : ℕ) → finite.get n k ≡ None → ((q : ℕ) → q ≢ k → finite.get n q ≡ finite.get m q) → n ≡ finite.remove m k
is_remove m n k at others = same _ _ (λ q. elim (same_or_not q k) [
  | inl e ↦ ap (finite.get n) e ∙ at ∙ sym (get-remove m k q ∙ ap (λ b. cond b None (finite.get m q)) ((unsigned_Decides q k).1 e))
  | inr d ↦ others q d ∙ sym (get-remove m k q ∙ ap (λ b. cond b None (finite.get m q)) (differ q k d))
])

-- one word of a table is set
module _ {W X : Type 0} (g : W → Option X) (ws : List W) (k : ℕ) (w : W) (range : k < length ws) where
  at_word : finite.get (table g (slice_set ws k w)) k ≡ g w
  at_word = get_table g (slice_set ws k w) k ∙ ap (found g) (get_set_same ws k w range)

  others : (q : ℕ) → q ≢ k → finite.get (table g (slice_set ws k w)) q ≡ finite.get (table g ws) q
  others q n = get_table g (slice_set ws k w) q ∙ ap (found g) (get_set_other ws k q w n) ∙ sym (get_table g ws q)

  pub table_insert : (x : X) → g w ≡ Some x → table g (slice_set ws k w) ≡ finite.insert (table g ws) k x
  table_insert x e = is_insert _ _ k x (at_word ∙ e) others

  pub table_remove : g w ≡ None → table g (slice_set ws k w) ≡ finite.remove (table g ws) k
  table_remove e = is_remove _ _ k (at_word ∙ e) others

-- two readings of two tables that agree at each key
pub tables_agree : {W X : Type 0} (g h : W → Option X) (us ws : List W) → ((q : ℕ) → found g (slice_get us q) ≡ found h (slice_get ws q)) → table g us ≡ table h ws
tables_agree g h us ws e = same _ _ (λ q. get_table g us q ∙ e q ∙ sym (get_table h ws q))
