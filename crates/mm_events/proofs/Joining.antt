-- A row that is written in four parts.
use Rattle.std.proofs.Common.{◌≡◌, List, [], ◌∷◌, ◌++◌, ap, ◌∙◌, append_assoc}
use Rattle.mm_types.specs.{Text}
use Rattle.mm_csv.specs.{csv_field, csv_next, csv_nexts, csv_row, fields_behind}
use Rattle.mm_csv.proofs.{nexts_before}

pub row_joined : (text text1 text2 text3 text4 line kind class reason : Text) (page frame : List Text)
    → text1 ≡ text ++ (csv_field line ++ (csv_next kind ++ csv_next class)) → text2 ≡ text1 ++ csv_nexts page → text3 ≡ text2 ++ csv_nexts frame
    → text4 ≡ text3 ++ (csv_next reason ++ 10 ∷ []) → text4 ≡ text ++ csv_row (line ∷ kind ∷ class ∷ (page ++ (frame ++ reason ∷ [])))
row_joined text text1 text2 text3 text4 line kind class reason page frame e1 e2 e3 e4 =
    let a : Text = csv_field line ++ (csv_next kind ++ csv_next class) in
    let p : Text = csv_nexts page in
    let f : Text = csv_nexts frame in
    let r : Text = csv_next reason ++ 10 ∷ [] in
    let behind : Text = fields_behind (frame ++ reason ∷ []) in
    let whole : Text = fields_behind (page ++ (frame ++ reason ∷ [])) in
    e4 ∙ ap (λ t. t ++ r) (e3 ∙ ap (λ t. t ++ f) (e2 ∙ ap (λ t. t ++ p) e1))
    ∙ append_assoc ((text ++ a) ++ p) f r ∙ ap (λ t. ((text ++ a) ++ p) ++ t) (nexts_before frame (reason ∷ []))
    ∙ append_assoc (text ++ a) p behind ∙ ap (λ t. (text ++ a) ++ t) (nexts_before page (frame ++ reason ∷ []))
    ∙ append_assoc text a whole
    ∙ ap (λ t. text ++ t) (append_assoc (csv_field line) (csv_next kind ++ csv_next class) whole ∙ ap (λ t. csv_field line ++ t) (append_assoc (csv_next kind) (csv_next class) whole))
