-- Truth values: what every layer asks of `&&`, `||`, `not` and `cond`.
use Rattle.std.proofs.Common.{◌≡◌, ◌≤◌, ◌⊎◌, inl, inr, Bool, true, false, refl, sym, cond, arith}
use Rattle.std.specs.Prelude.{IsTrue, not, ◌&&◌, ◌||◌}

pub not_true : (b : Bool) → (b ≡ true → ⊥) → b ≡ false
not_true true h = absurd (h refl)
not_true false h = refl

pub not_false : (b : Bool) → not b ≡ false → b ≡ true
not_false true e = refl
not_false false e = cc

pub same_tests : (a b : Bool) → (a ≡ true → b ≡ true) → (b ≡ true → a ≡ true) → a ≡ b
same_tests true b f g = sym (f refl)
same_tests false true f g = g refl
same_tests false false f g = refl

-- ---- and

pub both : (a b : Bool) → a ≡ true → b ≡ true → (a && b) ≡ true
both true b e f = f
both false b e f = cc

pub all_three : (a b c : Bool) → a ≡ true → b ≡ true → c ≡ true → (a && (b && c)) ≡ true
all_three true b c p q r = both b c q r
all_three false b c p q r = cc

pub parts : (a b : Bool) → (a && b) ≡ true → (a ≡ true) × (b ≡ true)
parts true b e = (refl, e)
parts false b e = cc

pub and_true : (b : Bool) → (b && true) ≡ b
and_true true = refl
and_true false = refl

pub and_false : (b : Bool) → (b && false) ≡ false
and_false true = refl
and_false false = refl

pub spread : (a b c : Bool) → (a && (b || c)) ≡ ((a && b) || (a && c))
spread true b c = refl
spread false b c = refl

pub not_then : (a b : Bool) → (a ≡ true → b ≡ true) → b ≡ false → a ≡ false
not_then true b h e = let t = h refl in cc
not_then false b h e = refl

pub untried_not : (c t : Bool) → (c ≡ true → t ≡ true) → (c && not t) ≡ false
untried_not true true h = refl
untried_not true false h = let bad : false ≡ true = h refl in cc
untried_not false t h = refl

pub not_left : (a b c : Bool) → IsTrue (not a && b && c) → a ≡ false
not_left true b c h = cc
not_left false b c h = refl

pub not_third : (p q a b c : Bool) → IsTrue (p && q && not a && b && c) → a ≡ false
not_third p q a b c h = grind (arith, h)

-- ---- or

pub or_left : (a b : Bool) → a ≡ true → (a || b) ≡ true
or_left true b e = refl
or_left false b e = cc

pub or_right : (a b : Bool) → b ≡ true → (a || b) ≡ true
or_right true b e = refl
or_right false b e = e

pub or_true : (b : Bool) → (b || true) ≡ true
or_true true = refl
or_true false = refl

pub or_false : (b : Bool) → (b || false) ≡ b
or_false true = refl
or_false false = refl

pub either : (a b : Bool) → (a || b) ≡ true → (a ≡ true) ⊎ (b ≡ true)
either true b e = inl refl
either false b e = inr e

pub by_either : (a b : Bool) → (a || b) ≡ true → (P : Type 0) → (a ≡ true → P) → (b ≡ true → P) → P
by_either true b e P f g = f refl
by_either false b e P f g = g e

pub or_both : (a b c : Bool) → (b ≡ true → c ≡ true) → (a || b) ≡ true → (a || c) ≡ true
or_both true b c f e = refl
or_both false b c f e = f e

-- ---- by a truth value

pub cond_twice : {V : Type 0} (a b : Bool) (x y : V) → cond a x (cond b x y) ≡ cond (a || b) x y
cond_twice true b x y = refl
cond_twice false b x y = refl

pub one_at_most : (b : Bool) → cond b 1 0 ≤ 1
one_at_most true = omega arith
one_at_most false = omega arith

pub one_only_if : (b : Bool) → 1 ≤ cond b 1 0 → b ≡ true
one_only_if true h = refl
one_only_if false h = absurd (omega (arith, h))
