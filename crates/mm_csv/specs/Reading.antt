-- The rows that a text by the rule of csv holds, read byte by byte.
-- Profile, "What a log shows".
use Rattle.std.specs.Prelude.{Bool, true, false, ◌==◌, if◌then◌else◌, List, [], ◌∷◌, ◌++◌}
use Rattle.mm_types.specs.{Text}

-- where the next byte stands: first in a field, in a field without quotes, between quotes, or right
-- behind a quote that ends the field or is the first of two
pub data Place : Type 0 where
  First : Place
  Plain : Place
  Quoted : Place
  Closing : Place

-- where the byte behind a quote stands
abbrev pub behind_quote : Place → Place
behind_quote First = Quoted
behind_quote Plain = Plain
behind_quote Quoted = Closing
behind_quote Closing = Quoted

-- what a quote adds to the field
abbrev pub quote_in : Place → Text
quote_in First = []
quote_in Plain = 34 ∷ []
quote_in Quoted = []
quote_in Closing = 34 ∷ []

abbrev pub is_within : Place → Bool
is_within Quoted = true
is_within _ = false

-- the rows that come, where these fields of the row were read, and these bytes of the next field;
-- what stands behind the last line feed is no row
abbrev pub csv_rows_from : Place → List Text → Text → Text → List (List Text)
csv_rows_from place row field [] = []
csv_rows_from place row field (c ∷ cs) =
    if c == 34 then csv_rows_from (behind_quote place) row (field ++ quote_in place) cs
    else if is_within place then csv_rows_from Quoted row (field ++ c ∷ []) cs
    else if c == 44 then csv_rows_from First (row ++ field ∷ []) [] cs
    else if c == 10 then (row ++ field ∷ []) ∷ csv_rows_from First [] [] cs
    else csv_rows_from Plain row (field ++ c ∷ []) cs

abbrev pub csv_rows_of : Text → List (List Text)
csv_rows_of text = csv_rows_from First [] [] text

-- each row has a field
abbrev pub AreSome : List (List Text) → Type 0
AreSome [] = Unit {0}
AreSome ([] ∷ rows) = ⊥
AreSome ((f ∷ fs) ∷ rows) = AreSome rows
