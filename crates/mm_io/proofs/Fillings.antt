-- One reading after another.
use Rattle.std.proofs.Common.{◌≡◌, ℕ, List, [], ◌∷◌, ◌++◌, length, sym, ap, ◌∙◌, Option, append_assoc, arith, length-append}
use Rattle.mm_types.proofs.{append_nil, took_none, took_then}
use Rattle.mm_io.specs.{FitsLine, Filled, HasRead}
use Rattle.mm_io.proofs.Feeds.{Recent, recent_next}

pub filled_none : (a : Option (List ℕ)) (xs : List ℕ) → Filled a a xs xs
filled_none a xs = record { taken = []; took = took_none a; behind = sym (append_nil xs) }

pub filled_then : (a b c : Option (List ℕ)) (x y z : List ℕ) → Filled a b x y → Filled b c y z → Filled a c x z
filled_then a b c x y z u v = record {
  taken = u.taken ++ v.taken;
  took = took_then a b c _ _ u.took v.took;
  behind = v.behind ∙ ap (λ xs. xs ++ v.taken) u.behind ∙ append_assoc x u.taken v.taken;
}

pub recent_after : (a b : Option (List ℕ)) (x y : List ℕ) (n : ℕ) → FitsLine x → Filled a b x y → HasRead a b x y n → Recent y
recent_after a b x y n line f r = recent_next x f.taken y n line f.behind r.count r.few

still : (x y taken : List ℕ) → y ≡ x ++ taken → length y ≡ length x → y ≡ x
still x y [] e l = e ∙ append_nil x
still x y (b ∷ taken) e l = absurd (omega (arith, ap length e, length-append x (b ∷ taken)))

pub filled_still : (a b : Option (List ℕ)) (x y : List ℕ) (n : ℕ) → n ≡ 0 → Filled a b x y → HasRead a b x y n → y ≡ x
filled_still a b x y n e f r = still x y f.taken f.behind (omega (arith, e, r.count))

pub ruleset filling = (filled_none, filled_then)
