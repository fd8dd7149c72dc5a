-- Rows that are written one after another.
use Rattle.std.proofs.Common.{◌≡◌, ℕ, ◌+◌, ◌≤◌, List, [], ◌++◌, length, drop, Some, None, sym, ap, ◌∙◌, arith, append_assoc}
use Rattle.std.specs.Prelude.{flat_map, slice_get}
use Rattle.std.proofs.lemmas.List.{append-nil, drop_all}
use Rattle.mm_types.specs.{Text}
use Rattle.mm_show.proofs.Following.{drop_at, none_at}

module _ (row : Text → Text) (out : Text) (lines : List Text) (i : ℕ) where
  pub rows_more : (line : Text) → Some line ≡ slice_get lines i
      → (out ++ row line) ++ flat_map row (drop (i + 1) lines) ≡ out ++ flat_map row (drop i lines)
  rows_more line e =
      append_assoc out (row line) (flat_map row (drop (i + 1) lines)) ∙ ap (λ (ls : List Text). out ++ flat_map row ls) (sym (drop_at lines i line e))

  pub rows_none : None ≡ slice_get lines i → out ++ flat_map row (drop i lines) ≡ out
  rows_none e = ap (λ (ls : List Text). out ++ flat_map row ls) (none_at lines i e) ∙ append-nil out

  pub rows_ended : length lines ≤ i → out ++ flat_map row (drop i lines) ≡ out
  rows_ended over = ap (λ (ls : List Text). out ++ flat_map row ls) (drop_all i lines over) ∙ append-nil out

pub ruleset rowed = (rows_more, rows_none, rows_ended)

pub nothing_behind : (place : ℕ) (bytes : Text) → length bytes ≤ place → [] ≡ drop (place + 1) bytes
nothing_behind place bytes over = sym (drop_all (place + 1) bytes (omega (arith, over)))
