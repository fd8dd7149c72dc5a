-- A row that is found, counted and put back.
use Rattle.std.proofs.Common.{◌≡◌, ℕ, cond, List, [], ◌∷◌, Option, Some, None, refl, sym, ap, ◌∙◌}
use Rattle.std.specs.Prelude.{unwrap_or}
use Rattle.std.specs.Cmp.{IsTotalOrder}
use Rattle.std.specs.declared.cmp.Ordering.{Ordering}
use Rattle.std.specs.declared.cmp.Ordering.TheVariants.{Less, Equal, Greater}
use Rattle.std.specs.Ordering.{is_eq, match_ordering}
use Rattle.std.specs.List.Sorted.{IsStrictlySortedBy}
use Rattle.std.specs.BTreeMap.{insert_entry, is_at}
use Rattle.std.specs.Map.{keys_of, lookup}
use Rattle.std.proofs.lemmas.Map.{lookup-none}
use Rattle.std.proofs.lemmas.Map.Entries.{none_below_head}
use Rattle.mm_reports.specs.{Table, one_in_column, none_counted, counted, counts_at}

module _ {K : Type 0} {R : K → K → Ordering} (total : IsTotalOrder R) where
  tail_sorted : (e : K × List ℕ) (es : Table K) → IsStrictlySortedBy R (keys_of (e ∷ es)) → IsStrictlySortedBy R (keys_of es)
  unfolding IsStrictlySortedBy
  tail_sorted e es s = s.1

  pub put_back : (t : Table K) → IsStrictlySortedBy R (keys_of t) → (k : K) (column : ℕ)
      → insert_entry R t k (one_in_column (counts_at R t k) column) ≡ counted R t k column
  put_back [] sorted k column = refl
  put_back (e ∷ es) sorted k column = pick (put_back es (tail_sorted e es sorted) k column) (R k e.0) refl
    where
      pick : insert_entry R es k (one_in_column (counts_at R es k) column) ≡ counted R es k column → (o : Ordering) → R k e.0 ≡ o
          → insert_entry R (e ∷ es) k (one_in_column (counts_at R (e ∷ es) k) column) ≡ counted R (e ∷ es) k column
      pick again Less is =
          let none : lookup (is_at (R k)) (e ∷ es) ≡ None = lookup-none (is_at (R k)) (e ∷ es) (none_below_head total k e es sorted is) in
          ap (λ (o : Option (List ℕ)). insert_entry R (e ∷ es) k (one_in_column (unwrap_or o none_counted) column)) none
          ∙ ap (λ (o : Ordering). match_ordering o ((k, one_in_column none_counted column) ∷ e ∷ es) ((e.0, one_in_column none_counted column) ∷ es) (e ∷ insert_entry R es k (one_in_column none_counted column))) is
          ∙ sym (ap (λ (o : Ordering). match_ordering o ((k, one_in_column none_counted column) ∷ e ∷ es) ((e.0, one_in_column e.1 column) ∷ es) (e ∷ counted R es k column)) is)
      pick again Equal is =
          ap (λ (o : Ordering). insert_entry R (e ∷ es) k (one_in_column (unwrap_or (cond (is_eq o) (Some e.1) (lookup (is_at (R k)) es)) none_counted) column)) is
          ∙ ap (λ (o : Ordering). match_ordering o ((k, one_in_column e.1 column) ∷ e ∷ es) ((e.0, one_in_column e.1 column) ∷ es) (e ∷ insert_entry R es k (one_in_column e.1 column))) is
          ∙ sym (ap (λ (o : Ordering). match_ordering o ((k, one_in_column none_counted column) ∷ e ∷ es) ((e.0, one_in_column e.1 column) ∷ es) (e ∷ counted R es k column)) is)
      pick again Greater is =
          ap (λ (o : Ordering). insert_entry R (e ∷ es) k (one_in_column (unwrap_or (cond (is_eq o) (Some e.1) (lookup (is_at (R k)) es)) none_counted) column)) is
          ∙ ap (λ (o : Ordering). match_ordering o ((k, one_in_column (counts_at R es k) column) ∷ e ∷ es) ((e.0, one_in_column (counts_at R es k) column) ∷ es) (e ∷ insert_entry R es k (one_in_column (counts_at R es k) column))) is
          ∙ ap (λ (rest : Table K). e ∷ rest) again
          ∙ sym (ap (λ (o : Ordering). match_ordering o ((k, one_in_column none_counted column) ∷ e ∷ es) ((e.0, one_in_column e.1 column) ∷ es) (e ∷ counted R es k column)) is)
