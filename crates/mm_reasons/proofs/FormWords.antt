-- Words that are read as a form, or as none.
use Rattle.std.proofs.Common.{◌≡◌, ◌==◌, ◌∙◌, ap, sym, refl, Bool, true, false, if◌then◌else◌, List, [], ◌∷◌, length, map, Some, None, codes, arith}
use Rattle.std.specs.List.{list_any}
use Rattle.std.specs.Str.{bytes_eq}
use Rattle.std.proofs.lemmas.Slice.Eq.{bytes_eq-Decides}
use Rattle.mm_types.specs.{Text}
use Rattle.mm_arguments.specs.{Form, IsNamed, SaysNone, is_dashed}
use Rattle.mm_reasons.specs.declared.forms.Form.TheVariants as form
use Rattle.mm_reasons.specs.{form_named, names_form}

-- The forms `lines` and `talk`, without values.
pub record AreForms (f g : Form) : Type 0 where
  pub lines : f.name.now ≡ codes "lines"
  pub lines_least : f.least ≡ 0
  pub talk : g.name.now ≡ codes "talk"
  pub talk_least : g.least ≡ 0

-- a name alone is its form
named : (f : Form) (w name : Text) → f.name.now ≡ name → f.least ≡ 0 → list_any is_dashed (name ∷ []) ≡ false → w ≡ name
    → IsNamed f (w ∷ []) []
named f w name called least plain is = record {
  words_are = ap (λ (t : Text). t ∷ []) (is ∙ sym called);
  least = omega arith;
  most = omega arith;
  plain = ap (λ (t : Text). list_any is_dashed (t ∷ [])) is ∙ plain;
}

-- a word that is the name of neither form names none
other_word : (f g : Form) (w : Text) → SaysNone (f ∷ g ∷ []) (w ∷ []) → AreForms f g → form_named w ≡ None
other_word f g w none are = go (bytes_eq w (codes "lines")) refl (bytes_eq w (codes "talk")) refl
  where
    go : (b : Bool) → bytes_eq w (codes "lines") ≡ b → (c : Bool) → bytes_eq w (codes "talk") ≡ c
        → (if b then Some form.Lines else if c then Some form.Talk else None) ≡ None
    go true e c d = absurd (none.0 [] (named f w (codes "lines") are.lines are.lines_least refl ((bytes_eq-Decides w (codes "lines")).0 e)))
    go false e true d = absurd (none.1.0 [] (named g w (codes "talk") are.talk are.talk_least refl ((bytes_eq-Decides w (codes "talk")).0 d)))
    go false e false d = refl

-- some words, of which none is a form
pub is_none : {A : Type 0} (h : A → Text) (f g : Form) (xs : List A) → (length xs == 0) ≡ false
    → SaysNone (f ∷ g ∷ []) (map h xs) → AreForms f g → None ≡ names_form (map h xs)
is_none h f g [] some none are = let bad : true ≡ false = some in cc
is_none h f g (x ∷ []) some none are = sym (other_word f g (h x) none are)
is_none h f g (x ∷ y ∷ xs) some none are = refl
