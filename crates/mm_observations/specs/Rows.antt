-- The row of observations that a text is.
-- web/README.md, "Packed observations".
use Rattle.std.specs.Prelude.{ℕ, zero, suc, nat_le, bytes_eq, codes, if◌then◌else◌, List, [], ◌∷◌}
use Rattle.std.specs.Prelude.{length, Option, Some, None, option_map}
use Rattle.std.specs.List.{slice_index_or}
use Rattle.mm_types.specs.{Text}
use Rattle.mm_text.specs.{number_of, words_of}
use Rattle.mm_text.specs.Word.{Word}
use Rattle.mm_observations.specs.declared.rows.Row.{Row}
use Rattle.mm_observations.specs.declared.rows.Seen.{Seen}
use Rattle.mm_observations.specs.declared.rows.Seen.TheVariants as seen

abbrev pub number_before : Option ℕ → Option (List ℕ) → Option (List ℕ)
number_before None ns = None
number_before (Some n) ns = option_map (λ xs. n ∷ xs) ns

-- so many numbers, a word each, and no word behind them
abbrev pub row_numbers : ℕ → List Word → Option (List ℕ)
row_numbers zero [] = Some []
row_numbers zero (w ∷ ws) = None
row_numbers (suc n) [] = None
row_numbers (suc n) (w ∷ ws) = number_before (number_of w.text) (row_numbers n ws)

abbrev pub seen_charge : List ℕ → Seen
seen_charge ns = seen.Charge (slice_index_or ns 0 0) (slice_index_or ns 1 0)

-- of the process first
abbrev pub seen_region : List ℕ → Seen
seen_region ns =
    seen.Region (slice_index_or ns 0 0) (record {
      base = slice_index_or ns 1 0;
      size = slice_index_or ns 2 0;
      state = slice_index_or ns 3 0;
      kind = slice_index_or ns 4 0;
      prot = slice_index_or ns 5 0;
      alloc_base = slice_index_or ns 6 0;
      alloc_prot = slice_index_or ns 7 0;
    })

-- what the words behind this one are
abbrev pub seen_in : Text → List Word → Option Seen
seen_in word ws =
    if bytes_eq word (codes "charge") then option_map seen_charge (row_numbers 2 ws)
    else if bytes_eq word (codes "region") then option_map seen_region (row_numbers 8 ws)
    else None

-- this was seen after this line
abbrev pub row_of : Option ℕ → Option Seen → Option Row
row_of None s = None
row_of (Some line) s = option_map (λ x. record { line = line; seen = x }) s

abbrev pub row_in : List Word → Option Row
row_in (line ∷ word ∷ ws) = row_of (number_of line.text) (seen_in word.text ws)
row_in _ = None

-- a row has at most 256 bytes: with numbers of ten digits it has 105
abbrev pub parse_row : Text → Option Row
parse_row text = if nat_le (length text) 256 then row_in (words_of text) else None
