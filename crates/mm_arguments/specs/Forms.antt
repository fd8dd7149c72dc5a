-- What the words of a program say: one of its forms, with its values.
use Rattle.std.specs.Prelude.{◌≡◌, ◌≢◌, ◌⊎◌, ◌≤◌, ◌==◌, Bool, false, List, [], ◌∷◌}
use Rattle.std.specs.Prelude.{length, map}
use Rattle.std.specs.List.{list_any}
use Rattle.std.specs.Borrow.{Bor}
use Rattle.mm_types.specs.{Text}
use Rattle.mm_arguments.specs.declared.forms.Form.{Form}
use Rattle.mm_arguments.specs.declared.forms.Said.{Said}

-- the word begins with `-`
abbrev pub is_dashed : Text → Bool
is_dashed [] = false
is_dashed (x ∷ xs) = x == 45

abbrev pub texts : List (Bor Text) → List Text
texts = map (λ s. s.now)

-- The words are the form's name and these values, as many as it may have, and no word begins with
-- `-`.
pub record IsNamed (f : Form) (words values : List Text) : Type 0 where
  pub words_are : words ≡ f.name.now ∷ values
  pub least : f.least ≤ length values
  pub most : length values ≤ f.most
  pub plain : list_any is_dashed words ≡ false

-- the words are the form of this name among these, with these values
abbrev pub Says : List Form → List Text → Said → Type 0
Says [] words said = ⊥
Says (f ∷ fs) words said =
    ((said.name.now ≡ f.name.now) × IsNamed f words (texts said.values.items))
    ⊎ Says fs words said

-- the words are none of these forms
abbrev pub SaysNone : List Form → List Text → Type 0
SaysNone [] words = Unit {0}
SaysNone (f ∷ fs) words =
    ((values : List Text) → IsNamed f words values → ⊥) × SaysNone fs words

-- none of these forms has this name
abbrev pub NoneHas : Text → List Form → Type 0
NoneHas name [] = Unit {0}
NoneHas name (f ∷ fs) = (name ≢ f.name.now) × NoneHas name fs

-- the names differ, and each form may have some number of values
abbrev pub AreForms : List Form → Type 0
AreForms [] = Unit {0}
AreForms (f ∷ fs) = (f.least ≤ f.most) × NoneHas f.name.now fs × AreForms fs
