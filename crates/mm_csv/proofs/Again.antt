-- A text by the rule of csv is read again as the rows that were written.
use Rattle.std.proofs.Common.{◌≡◌, ℕ, Bool, true, false, List, [], ◌∷◌, ◌++◌, refl, sym, ap, ◌∙◌, append_assoc}
use Rattle.std.specs.Prelude.{◌==◌, ◌||◌, if◌then◌else◌}
use Rattle.std.proofs.lemmas.Bool.{eqb-true}
use Rattle.mm_types.specs.{Text}
use Rattle.mm_types.proofs.{append_nil}
use Rattle.mm_csv.specs.{csv_field, csv_text, doubled, fields_behind, is_quoted, is_special, AreSome, csv_rows_from, csv_rows_of, First, Plain, Quoted}
use Rattle.mm_csv.specs.{Closing}

neither : (a b : Bool) → (a || b) ≡ false → (a ≡ false) × (b ≡ false)
neither true b e = absurd (cc)
neither false b e = (refl, e)

-- ---- between quotes

-- one quote more of a field
quote_more : (field cs : Text) (c : ℕ) → c ≡ 34 → ((field ++ []) ++ 34 ∷ []) ++ cs ≡ field ++ c ∷ cs
quote_more field cs c e = ap (λ t. (t ++ 34 ∷ []) ++ cs) (append_nil field) ∙ append_assoc field (34 ∷ []) cs ∙ ap (λ (x : ℕ). field ++ x ∷ cs) (sym e)

quoted : (f : Text) (row : List Text) (field rest : Text) → csv_rows_from Quoted row field (doubled f ++ 34 ∷ rest) ≡ csv_rows_from Closing row (field ++ f) rest
quoted [] row field rest = refl
quoted (c ∷ cs) row field rest = pick (λ (g : Text). quoted cs row g rest) (c == 34) refl
  where
    pick : ((g : Text) → csv_rows_from Quoted row g (doubled cs ++ 34 ∷ rest) ≡ csv_rows_from Closing row (g ++ cs) rest) → (b : Bool) → (c == 34) ≡ b
        → csv_rows_from Quoted row field ((if b then 34 ∷ 34 ∷ doubled cs else c ∷ doubled cs) ++ 34 ∷ rest) ≡ csv_rows_from Closing row (field ++ c ∷ cs) rest
    pick more true e =
        more ((field ++ []) ++ 34 ∷ []) ∙ ap (λ t. csv_rows_from Closing row t rest) (quote_more field cs c (eqb-true c 34 e))
    pick more false e =
        ap (λ b. if b then csv_rows_from Closing row (field ++ []) (doubled cs ++ 34 ∷ rest) else csv_rows_from Quoted row (field ++ c ∷ []) (doubled cs ++ 34 ∷ rest)) e
        ∙ more (field ++ c ∷ []) ∙ ap (λ t. csv_rows_from Closing row t rest) (append_assoc field (c ∷ []) cs)

-- ---- without quotes

-- a byte that is none of the four
module _ (c : ℕ) (row : List Text) (field rest : Text) (plain : is_special c ≡ false) where
  no_return : ((c == 44 || c == 34) || c == 13) ≡ false
  no_return = (neither ((c == 44 || c == 34) || c == 13) (c == 10) plain).0

  no_feed : (c == 10) ≡ false
  no_feed = (neither ((c == 44 || c == 34) || c == 13) (c == 10) plain).1

  no_comma : (c == 44) ≡ false
  no_comma = (neither (c == 44) (c == 34) (neither (c == 44 || c == 34) (c == 13) no_return).0).0

  no_quote : (c == 34) ≡ false
  no_quote = (neither (c == 44) (c == 34) (neither (c == 44 || c == 34) (c == 13) no_return).0).1

  kept : (if c == 44 then csv_rows_from First (row ++ field ∷ []) [] rest else (if c == 10 then (row ++ field ∷ []) ∷ csv_rows_from First [] [] rest else csv_rows_from Plain row (field ++ c ∷ []) rest))
      ≡ csv_rows_from Plain row (field ++ c ∷ []) rest
  kept = ap (λ b. if b then csv_rows_from First (row ++ field ∷ []) [] rest else (if c == 10 then (row ++ field ∷ []) ∷ csv_rows_from First [] [] rest else csv_rows_from Plain row (field ++ c ∷ []) rest)) no_comma
      ∙ ap (λ b. if b then (row ++ field ∷ []) ∷ csv_rows_from First [] [] rest else csv_rows_from Plain row (field ++ c ∷ []) rest) no_feed

  in_plain : csv_rows_from Plain row field (c ∷ rest) ≡ csv_rows_from Plain row (field ++ c ∷ []) rest
  in_plain = ap (λ b. if b then csv_rows_from Plain row (field ++ 34 ∷ []) rest
      else (if c == 44 then csv_rows_from First (row ++ field ∷ []) [] rest else (if c == 10 then (row ++ field ∷ []) ∷ csv_rows_from First [] [] rest else csv_rows_from Plain row (field ++ c ∷ []) rest))) no_quote ∙ kept

  in_first : csv_rows_from First row field (c ∷ rest) ≡ csv_rows_from Plain row (field ++ c ∷ []) rest
  in_first = ap (λ b. if b then csv_rows_from Quoted row (field ++ []) rest
      else (if c == 44 then csv_rows_from First (row ++ field ∷ []) [] rest else (if c == 10 then (row ++ field ∷ []) ∷ csv_rows_from First [] [] rest else csv_rows_from Plain row (field ++ c ∷ []) rest))) no_quote ∙ kept

plain : (f : Text) (row : List Text) (field rest : Text) → is_quoted f ≡ false → csv_rows_from Plain row field (f ++ rest) ≡ csv_rows_from Plain row (field ++ f) rest
plain [] row field rest e = ap (λ t. csv_rows_from Plain row t rest) (sym (append_nil field))
plain (c ∷ cs) row field rest e =
    let parts : (is_special c ≡ false) × (is_quoted cs ≡ false) = neither (is_special c) (is_quoted cs) e in
    in_plain c row field (cs ++ rest) parts.0 ∙ plain cs row (field ++ c ∷ []) rest parts.1 ∙ ap (λ t. csv_rows_from Plain row t rest) (append_assoc field (c ∷ []) cs)

-- ---- a field, and what ends it

comma : (f : Text) (row : List Text) (rest : Text) → csv_rows_from First row [] (csv_field f ++ 44 ∷ rest) ≡ csv_rows_from First (row ++ f ∷ []) [] rest
comma f row rest = pick (is_quoted f) refl
  where
    bare : (g : Text) → is_quoted g ≡ false → csv_rows_from First row [] (g ++ 44 ∷ rest) ≡ csv_rows_from First (row ++ g ∷ []) [] rest
    bare [] e = refl
    bare (c ∷ cs) e =
        let parts : (is_special c ≡ false) × (is_quoted cs ≡ false) = neither (is_special c) (is_quoted cs) e in
        in_first c row [] (cs ++ 44 ∷ rest) parts.0 ∙ plain cs row (c ∷ []) (44 ∷ rest) parts.1

    pick : (b : Bool) → is_quoted f ≡ b → csv_rows_from First row [] ((if b then 34 ∷ (doubled f ++ 34 ∷ []) else f) ++ 44 ∷ rest) ≡ csv_rows_from First (row ++ f ∷ []) [] rest
    pick true e = ap (λ t. csv_rows_from Quoted row [] t) (append_assoc (doubled f) (34 ∷ []) (44 ∷ rest)) ∙ quoted f row [] (44 ∷ rest)
    pick false e = bare f e

feed : (f : Text) (row : List Text) (rest : Text) → csv_rows_from First row [] (csv_field f ++ 10 ∷ rest) ≡ (row ++ f ∷ []) ∷ csv_rows_from First [] [] rest
feed f row rest = pick (is_quoted f) refl
  where
    bare : (g : Text) → is_quoted g ≡ false → csv_rows_from First row [] (g ++ 10 ∷ rest) ≡ (row ++ g ∷ []) ∷ csv_rows_from First [] [] rest
    bare [] e = refl
    bare (c ∷ cs) e =
        let parts : (is_special c ≡ false) × (is_quoted cs ≡ false) = neither (is_special c) (is_quoted cs) e in
        in_first c row [] (cs ++ 10 ∷ rest) parts.0 ∙ plain cs row (c ∷ []) (10 ∷ rest) parts.1

    pick : (b : Bool) → is_quoted f ≡ b → csv_rows_from First row [] ((if b then 34 ∷ (doubled f ++ 34 ∷ []) else f) ++ 10 ∷ rest) ≡ (row ++ f ∷ []) ∷ csv_rows_from First [] [] rest
    pick true e = ap (λ t. csv_rows_from Quoted row [] t) (append_assoc (doubled f) (34 ∷ []) (10 ∷ rest)) ∙ quoted f row [] (10 ∷ rest)
    pick false e = bare f e

-- ---- a row, and a text

row_again : (f : Text) (fs row : List Text) (rest : Text) → csv_rows_from First row [] ((csv_field f ++ fields_behind fs) ++ rest) ≡ (row ++ f ∷ fs) ∷ csv_rows_from First [] [] rest
row_again f [] row rest = ap (λ t. csv_rows_from First row [] t) (append_assoc (csv_field f) (10 ∷ []) rest) ∙ feed f row rest
row_again f (g ∷ gs) row rest =
    ap (λ t. csv_rows_from First row [] t) (append_assoc (csv_field f) (44 ∷ (csv_field g ++ fields_behind gs)) rest)
    ∙ comma f row ((csv_field g ++ fields_behind gs) ++ rest) ∙ row_again g gs (row ++ f ∷ []) rest
    ∙ ap (λ (r : List Text). r ∷ csv_rows_from First [] [] rest) (append_assoc row (f ∷ []) (g ∷ gs))

pub read_again : (rows : List (List Text)) → AreSome rows → csv_rows_of (csv_text rows) ≡ rows
read_again [] some = refl
read_again ([] ∷ rows) some = absurd some
read_again ((f ∷ fs) ∷ rows) some = row_again f fs [] (csv_text rows) ∙ ap (λ (rs : List (List Text)). (f ∷ fs) ∷ rs) (read_again rows some)
