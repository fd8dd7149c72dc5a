-- What is printed of an event is a line for it.
use Rattle.std.proofs.Common.{◌≡◌, ◌^◌, List, [], ◌∷◌, ◌++◌, Bool, true, map, Some, None, refl, sym, ap, ◌∙◌, subst, inl, arith}
use Rattle.std.specs.Prelude.{nat_lt}
use Rattle.std.specs.List.{AllByRecursion, list_all}
use Rattle.std.proofs.lemmas.Bool.{ltb-true, and_parts}
use Rattle.mm_types.specs.{Text, Event}
use Rattle.mm_types.specs.declared.events.AccessSpec.TheVariants as spec
use Rattle.mm_types.specs.declared.devices.Device.TheVariants as device
use Rattle.mm_types.specs.declared.devices.Direction.TheVariants as direction
use Rattle.mm_types.specs.declared.events.Event.TheVariants as line
use Rattle.mm_text.proofs.{number_of-decimal, number_of-hex_short, bytes_of-byte_pairs}
use Rattle.mm_script.specs.{Exactly, Decimal, Hex, Bytes, Named, NamedOrDash, Spells, EachSpells, fields_of, IsText, IsLine, print, spaced_words}
use Rattle.mm_script.specs.{printed, IsInRange, IsWellFormed, text_of, shape_of}
use Rattle.mm_script.specs.Field.{Field}
use Rattle.mm_script.proofs.Shapes.{fields_for}
use Rattle.mm_script.proofs.EachForm.{fields_made, form_of}

-- no range goes past 2 ^ 32
abbrev is_low : Field → Bool
is_low (Decimal least most n) = nat_lt most (2 ^ 32)
is_low _ = true

fields_low : (e : Event) → list_all is_low (fields_of e) ≡ true
fields_low (line.Begin tid pid (spec.Read addr len)) = refl
fields_low (line.Fail device.Paging direction.Read k n) = refl
fields_low (line.Fail device.File direction.Read k n) = refl
fields_low e = refl

print_spells : (f : Field) → is_low f ≡ true → IsInRange f → Spells (print f) f
print_spells (Exactly text) low h = refl
print_spells (Decimal least most n) low h = (number_of-decimal n (omega (arith, ltb-true most (2 ^ 32) low)), h.0, h.1)
print_spells (Hex n) low h = number_of-hex_short n h
print_spells (Bytes bytes) low h = bytes_of-byte_pairs bytes h.0 h.1 h.2
print_spells (Named name) low h = h
print_spells (NamedOrDash None) low h = refl
print_spells (NamedOrDash (Some name)) low h = h

prints_spell : (fs : List Field) → list_all is_low fs ≡ true → AllByRecursion IsInRange fs → EachSpells (map print fs) fs
prints_spell [] low h = tt
prints_spell (f ∷ fs) low h =
    let p = and_parts (is_low f) (list_all is_low fs) low in
    (print_spells f p.0 h.0, prints_spell fs p.1 h.1)

abbrev IsPrinted : List Field → Type 0
IsPrinted fs = IsText (spaced_words (map print fs)) (map print fs)

printed_text : (e : Event) → IsPrinted (fields_of e)
printed_text e =
    let form = form_of e in
    let fields : fields_of e ≡ Exactly (text_of form.keyword) ∷ fields_for (shape_of form.keyword) form.values = ap fields_of (sym form.made) ∙ fields_made form.keyword form.values in
    subst IsPrinted (sym fields) (inl refl)

pub printed_line : (e : Event) → IsWellFormed e → IsLine (printed e) e
printed_line e h = record {
  words = map print (fields_of e);
  whole = printed_text e;
  spelled = prints_spell (fields_of e) (fields_low e) h.fields;
  joined = h.joined;
}

pub printed_again : (old new : Text) (e : Event) → new ≡ old ++ printed e → old ≡ [] → IsWellFormed e → IsLine new e
printed_again old new e written empty h = subst (λ (t : Text). IsLine t e) (sym (written ∙ ap (λ t. t ++ printed e) empty)) (printed_line e h)
