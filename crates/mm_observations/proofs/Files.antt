-- A file that is packed row by row.
use Rattle.std.proofs.Common.{◌≡◌, ◌≢◌, ℕ, ◌+◌, ◌≤◌, ◌<◌, Bool, cond, List, [], ◌∷◌, ◌++◌, length, drop, get_or, Some, None, Result, Ok, Err, refl, sym, ap, ◌∙◌, subst, arith, append_assoc}
use Rattle.std.specs.Prelude.{slice_range}
use Rattle.std.proofs.lemmas.List.{drop_more, drop_all}
use Rattle.std.proofs.lemmas.List.Edits.{between_more, between_none, length-between}
use Rattle.std.proofs.lemmas.Bool.{eq-eqb, ne_eqb}
use Rattle.mm_types.specs.{Text}
use Rattle.mm_script.specs.{without_return}
use Rattle.mm_observations.specs.{good_row, row_data, after_row, packed_behind, if_row, open_row, packed_from, file_rows_from, RefusesFile, packs_on, Before, Row}
use Rattle.mm_observations.specs.{PackFault}
use Rattle.mm_observations.specs.Packs.{Packs}
use Rattle.mm_observations.specs.declared.run_lines.RunLines.{RunLines}
use Rattle.mm_observations.specs.declared.tables.Packing.{Packing}

-- ---- a row

behind_more : (a b : Text) (r : Result Text ℕ) → packed_behind a (packed_behind b r) ≡ packed_behind (a ++ b) r
behind_more a b (Ok t) = ap (λ s. Ok s) (sym (append_assoc a b t))
behind_more a b (Err n) = refl

abbrev next_of : RunLines → Before → ℕ → List Text → Row → Result Text ℕ
next_of run b n rows row = packed_behind (row_data b row) (packed_from run (after_row b row) (n + 1) rows)

pub row_refused : (run : RunLines) (old : Packing) (n : ℕ) (t : Text) → good_row run old.before.line t ≡ None → (rows : List Text) → packs_on run old n (t ∷ rows) ≡ Err n
row_refused run old n t h rows = ap (λ r. packed_behind old.text.items (if_row n r (next_of run old.before n rows))) h

pub row_packed : (run : RunLines) (old new : Packing) (n : ℕ) (t : Text) (row : Row) → good_row run old.before.line t ≡ Some row
    → new.text.items ≡ old.text.items ++ row_data old.before row → new.before ≡ after_row old.before row → (rows : List Text) → packs_on run old n (t ∷ rows) ≡ packs_on run new (n + 1) rows
row_packed run old new n t row h text after rows =
    ap (λ r. packed_behind old.text.items (if_row n r (next_of run old.before n rows))) h
    ∙ behind_more old.text.items (row_data old.before row) (packed_from run (after_row old.before row) (n + 1) rows)
    ∙ ap (λ b. packed_behind (old.text.items ++ row_data old.before row) (packed_from run b (n + 1) rows)) (sym after)
    ∙ ap (λ s. packed_behind s (packed_from run new.before (n + 1) rows)) (sym text)

pub ruleset rows_packed = (row_refused, row_packed)

-- ---- the rows of a file

abbrev pick : Bool → List Text → List Text → List Text
pick b ended longer = cond b ended longer

module _ (bytes : Text) (start at : ℕ) (order : start ≤ at) (within : at < length bytes) where
  row_longer : get_or bytes at 0 ≢ 10 → file_rows_from (slice_range bytes start at) (drop at bytes) ≡ file_rows_from (slice_range bytes start (at + 1)) (drop (at + 1) bytes)
  row_longer other =
      let row : Text = slice_range bytes start at in
      let rest : Text = drop (at + 1) bytes in
      ap (λ r. file_rows_from row r) (drop_more bytes at 0 within)
      ∙ ap (λ b. pick b (without_return row ∷ file_rows_from [] rest) (file_rows_from (row ++ get_or bytes at 0 ∷ []) rest)) (ne_eqb (get_or bytes at 0) 10 other)
      ∙ ap (λ t. file_rows_from t rest) (sym (between_more bytes start at 0 order within))

  row_ended : get_or bytes at 0 ≡ 10 → file_rows_from (slice_range bytes start at) (drop at bytes) ≡ without_return (slice_range bytes start at) ∷ file_rows_from (slice_range bytes (at + 1) (at + 1)) (drop (at + 1) bytes)
  row_ended same =
      let row : Text = slice_range bytes start at in
      let rest : Text = drop (at + 1) bytes in
      ap (λ r. file_rows_from row r) (drop_more bytes at 0 within)
      ∙ ap (λ b. pick b (without_return row ∷ file_rows_from [] rest) (file_rows_from (row ++ get_or bytes at 0 ∷ []) rest)) (eq-eqb (get_or bytes at 0) 10 same)
      ∙ ap (λ t. without_return row ∷ file_rows_from t rest) (sym (between_none bytes (at + 1)))

-- what is packed in the end, from here on
abbrev pub from_here : RunLines → Packing → ℕ → Text → ℕ → ℕ → Result Text ℕ
from_here run p n bytes start at = packs_on run p n (file_rows_from (slice_range bytes start at) (drop at bytes))

pub from_same : (run : RunLines) (bytes : Text) (at : ℕ) (p q : Packing) (n m : ℕ) (s t : ℕ) → p ≡ q → n ≡ m → s ≡ t → from_here run q m bytes t at ≡ from_here run p n bytes s at
from_same run bytes at p q n m s t same number start =
    ap (λ r. from_here run r m bytes t at) (sym same)
    ∙ (ap (λ (k : ℕ). from_here run p k bytes t at) (sym number) ∙ ap (λ (k : ℕ). from_here run p n bytes k at) (sym start))

module _ (run : RunLines) (bytes : Text) (start at n : ℕ) (p : Packing) (order : start ≤ at) where
  module _ (within : at < length bytes) where
    pub file_longer : get_or bytes at 0 ≢ 10 → from_here run p n bytes start at ≡ from_here run p n bytes start (at + 1)
    file_longer other = ap (λ rows. packs_on run p n rows) (row_longer bytes start at order within other)

    pub file_more : (q : Packing) → get_or bytes at 0 ≡ 10 → Packs run p n (without_return (slice_range bytes start at)) (Ok tt) q → from_here run p n bytes start at ≡ from_here run q (n + 1) bytes (at + 1) (at + 1)
    file_more q same packs =
        ap (λ rows. packs_on run p n rows) (row_ended bytes start at order within same)
        ∙ packs (file_rows_from (slice_range bytes (at + 1) (at + 1)) (drop (at + 1) bytes))

    pub file_refused : (q : Packing) (f : PackFault) → get_or bytes at 0 ≡ 10 → Packs run p n (without_return (slice_range bytes start at)) (Err f) q → RefusesFile (from_here run p n bytes start at) f
    file_refused q f same packs =
        subst (λ r. RefusesFile r f) (sym (ap (λ rows. packs_on run p n rows) (row_ended bytes start at order within same)))
        (packs (file_rows_from (slice_range bytes (at + 1) (at + 1)) (drop (at + 1) bytes)))

  module _ (over : length bytes ≤ at) (most : at ≤ length bytes) where
    left : from_here run p n bytes start at ≡ packs_on run p n (open_row (slice_range bytes start at))
    left = ap (λ r. packs_on run p n (file_rows_from (slice_range bytes start at) r)) (drop_all at bytes over)

    -- a row without a line feed
    pub file_open : start < length bytes → from_here run p n bytes start at ≡ Err n
    file_open some = left ∙ opened (slice_range bytes start at) (omega (arith, length-between bytes start at most))
      where
        opened : (row : Text) → 0 < length row → packs_on run p n (open_row row) ≡ Err n
        opened [] h = absurd (omega arith)
        opened (c ∷ cs) h = refl

    pub file_ended : length bytes ≤ start → (text : Text) → text ≡ p.text.items ++ 10 ∷ [] → from_here run p n bytes start at ≡ Ok text
    file_ended none text e =
        let same : start ≡ at = omega arith in
        left ∙ ap (λ (s : ℕ). packs_on run p n (open_row (slice_range bytes s at))) same
        ∙ ap (λ row. packs_on run p n (open_row row)) (between_none bytes at)
        ∙ ap (λ t. Ok t) (sym e)

pub ruleset files_packed = (file_longer, file_more, file_refused, file_open, file_ended)
