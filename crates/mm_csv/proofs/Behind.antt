-- Fields in front of others.
use Rattle.std.proofs.Common.{◌≡◌, List, [], ◌∷◌, ◌++◌, refl, ap, ◌∙◌, append_assoc}
use Rattle.mm_types.specs.{Text}
use Rattle.mm_csv.specs.{csv_next, csv_nexts, fields_behind}

pub nexts_before : (fs gs : List Text) → csv_nexts fs ++ fields_behind gs ≡ fields_behind (fs ++ gs)
nexts_before [] gs = refl
nexts_before (f ∷ fs) gs = append_assoc (csv_next f) (csv_nexts fs) (fields_behind gs) ∙ ap (λ t. csv_next f ++ t) (nexts_before fs gs)
