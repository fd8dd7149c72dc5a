-- What calls leave of the blocks of a device.
use Rattle.std.proofs.Common.{◌≡◌, ℕ, Bool, true, false, List, [], ◌∷◌, ◌++◌, length, refl, sym, ap, ◌∙◌, length-set}
use Rattle.std.specs.Prelude.{◌||◌, ◌==◌, slice_get, slice_set}
use Rattle.std.specs.List.{list_any}
use Rattle.std.specs.Cmp.{unsigned_Decides}
use Rattle.mm_types.specs.declared.devices.Direction.TheVariants as way
use Rattle.mm_types.proofs.{get_set_other}
use Rattle.mm_devices.specs.{DeviceCall, wrote_block, KeepsOthers}

any_append : {A : Type 0} (t : A → Bool) (xs ys : List A) → list_any t (xs ++ ys) ≡ (list_any t xs || list_any t ys)
any_append t [] ys = refl
any_append t (x ∷ xs) ys = ap (λ b. t x || b) (any_append t xs ys) ∙ sym (assoc (t x) (list_any t xs) (list_any t ys))
  where
    assoc : (a b c : Bool) → ((a || b) || c) ≡ (a || (b || c))
    assoc true b c = refl
    assoc false b c = refl

neither : (a b : Bool) → (a || b) ≡ false → (a ≡ false) × (b ≡ false)
neither true b h = let bad : true ≡ false = h in absurd (cc)
neither false b h = (refl, h)

pub keeps_same : (cs : List DeviceCall) (a b : List (List ℕ)) → b ≡ a → KeepsOthers cs a b
keeps_same cs a b e = record {
  count = ap length e;
  others = λ i q. ap (λ (xs : List (List ℕ)). slice_get xs i) e;
}

pub keeps_then : (cs ds : List DeviceCall) (a b c : List (List ℕ)) → KeepsOthers cs a b → KeepsOthers ds b c → KeepsOthers (cs ++ ds) a c
keeps_then cs ds a b c p q = record {
  count = q.count ∙ p.count;
  others = λ i h.
      let two = neither (list_any (wrote_block i) cs) (list_any (wrote_block i) ds) (sym (any_append (wrote_block i) cs ds) ∙ h) in
      q.others i two.1 ∙ p.others i two.0;
}

-- a write of a block, where it succeeded
pub keeps_written : (block : ℕ) (a : List (List ℕ)) (page : List ℕ) → KeepsOthers (record { direction = way.Write; block = block; succeeded = true } ∷ []) a (slice_set a block page)
keeps_written block a page = record {
  count = length-set a block page;
  others = λ i h. get_set_other a block i page (λ (e : i ≡ block).
      let two = neither (block == i) false h in
      let here : (block == i) ≡ true = (unsigned_Decides block i).1 (sym e) in
      let bad : true ≡ false = sym here ∙ two.0 in cc);
}
