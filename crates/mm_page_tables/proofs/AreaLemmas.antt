-- The words of areas as a finite map, out of a table.
use Rattle.std.proofs.Common.{◌≡◌, ℕ, zero, suc, ◌<◌, List, [], ◌∷◌, ◌++◌, length, get_or, Option, Some, None, refl, sym, ap, ◌∙◌, true, false}
use Rattle.std.proofs.lemmas.Option.{slice_get_past, slice_get_read}
use Rattle.std.specs.Prelude.{slice_get, IsSome, is_some, unwrap_or}
use Rattle.mm_page_tables.specs.{AreaWords, proto_word, area_words}
use Rattle.mm_page_tables.proofs.LeafLemmas.{below_by}
use Rattle.std.specs.Option.{option_and_then}
use Rattle.std.specs.Ordering.{nat_cmp}
use Rattle.std.specs.FinMap as finite
use Rattle.std.specs.FinMap.{FinMap}
use Rattle.mm_types.specs.{table, found}
use Rattle.mm_types.proofs.{get_table, tables_agree, same}

module _ {W X : Type 0} (g : W → Option X) where
  pub table_none : table g [] ≡ finite.empty
  table_none = same (table g []) finite.empty (λ q. get_table g [] q ∙ sym (finite.get-empty nat_cmp q))

  -- a key of the table is an index of it
  pub within : (ws : List W) (m : FinMap nat_cmp X) (q : ℕ) → table g ws ≡ m → IsSome (finite.get m q) → q < length ws
  within ws m q view some = below_by q (length ws) (finite.get m q) (λ far. ap (λ (k : FinMap nat_cmp X). finite.get k q) (sym view) ∙ get_table g ws q ∙ ap (found g) (slice_get_past ws q far)) some

  found_push : (ws : List W) (w : W) (q : ℕ) → g w ≡ None → found g (slice_get (ws ++ w ∷ []) q) ≡ found g (slice_get ws q)
  found_push [] w zero none = none
  found_push [] w (suc q) none = refl
  found_push (v ∷ ws) w zero none = refl
  found_push (v ∷ ws) w (suc q) none = found_push ws w q none

  -- a word that stands for nothing is put at the end
  pub table_push : (ws : List W) (w : W) → g w ≡ None → table g (ws ++ w ∷ []) ≡ table g ws
  table_push ws w none = tables_agree g g (ws ++ w ∷ []) ws (λ q. found_push ws w q none)

  -- what a word of the table stands for
  pub at_index : (ws : List W) (m : FinMap nat_cmp X) (q : ℕ) (w : W) → table g ws ≡ m → q < length ws → w ≡ get_or ws q w → finite.get m q ≡ g w
  at_index ws m q w view range is =
      ap (λ (k : FinMap nat_cmp X). finite.get k q) (sym view) ∙ get_table g ws q ∙ ap (found g) (slice_get_read ws (length ws) q w refl range is)

some_before : (o : Option (List ℕ)) (i : ℕ) → IsSome (option_and_then (λ words. slice_get words i) o) → IsSome o
some_before None i some = some
some_before (Some words) i some = refl

-- an area with a word is open
pub open_of_word : (m : AreaWords) (a i : ℕ) → IsSome (proto_word m a i) → IsSome (finite.get m a)
open_of_word m a i some = some_before (finite.get m a) i some

pub word_is : (m : AreaWords) (a i : ℕ) (words : List ℕ) → finite.get m a ≡ Some words → proto_word m a i ≡ slice_get words i
word_is m a i words is = ap (option_and_then (λ (ws : List ℕ). slice_get ws i)) is

pub word_within : (m : AreaWords) (a i : ℕ) (words : List ℕ) → finite.get m a ≡ Some words → IsSome (proto_word m a i) → i < length words
word_within m a i words is some = below_by i (length words) (proto_word m a i) (λ far. word_is m a i words is ∙ slice_get_past words i far) some

pub no_word : (m : AreaWords) (a i : ℕ) → finite.get m a ≡ None → IsSome (proto_word m a i) → ⊥
no_word m a i is some =
    let bad : false ≡ true = sym (ap is_some is) ∙ open_of_word m a i some in
    cc

pub words_are : (m : AreaWords) (a : ℕ) (words : List ℕ) → finite.get m a ≡ Some words → area_words m a ≡ words
words_are m a words is = ap (λ (o : Option (List ℕ)). unwrap_or o []) is
