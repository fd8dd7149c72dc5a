-- Words that say nothing ask nothing.
use Rattle.std.proofs.Common.{◌≡◌, ◌∙◌, ap, sym, refl, false, List, [], ◌∷◌, codes, arith}
use Rattle.std.specs.List.{list_any}
use Rattle.mm_types.specs.{Text, Key}
use Rattle.mm_types.specs.declared.numbers.Key.TheVariants.{Private, Shared}
use Rattle.mm_arguments.specs.{Form, SaysNone, is_dashed}
use Rattle.mm_move_rules.specs.{key_onto}
use Rattle.mm_log_check.specs.{Asked, Asks}
use Rattle.mm_log_check.specs.declared.endings.Asked.TheVariants as asked

-- no spelling of a key begins with `-`
plain_key : (k : Key) → list_any is_dashed (codes "where" ∷ key_onto k [] ∷ []) ≡ false
plain_key (Private pid vpn) = refl
plain_key (Shared area index) = refl

-- The form `check`, and the form `where` with one value.
pub record AreAsked (f g : Form) : Type 0 where
  pub check : f.name.now ≡ codes "check"
  pub check_least : f.least ≡ 0
  pub key : g.name.now ≡ codes "where"
  pub key_least : g.least ≡ 1
  pub key_most : g.most ≡ 1

pub asks_none : (f g : Form) (ws : List Text) → SaysNone (f ∷ g ∷ []) ws → AreAsked f g → (a : Asked) → Asks ws a → ⊥
asks_none f g ws none are asked.Check e = none.0 [] (record {
  words_are = e ∙ ap (λ (t : Text). t ∷ []) (sym are.check);
  least = let l = are.check_least in omega arith;
  most = omega arith;
  plain = ap (list_any is_dashed) e;
})
asks_none f g ws none are (asked.Where k) h = none.1.0 (key_onto k [] ∷ []) (record {
  words_are = h.1 ∙ ap (λ (t : Text). t ∷ key_onto k [] ∷ []) (sym are.key);
  least = let l = are.key_least in omega arith;
  most = let l = are.key_most in omega arith;
  plain = ap (list_any is_dashed) h.1 ∙ plain_key k;
})
