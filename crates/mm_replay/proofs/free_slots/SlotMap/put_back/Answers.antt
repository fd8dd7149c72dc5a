use Rattle.std.proofs.Common.{◌≡◌, ◌≤◌, ◌∙◌, ℕ, List, Bool, true, false, Option, Some, ap, subst, sym}
use Rattle.std.specs.Prelude.{slice_get, slice_set}
use Rattle.mm_replay.specs.{AreApartFrom}
use Rattle.mm_replay.proofs.{given_first, lowest_taken, given_behind, given_before}
use Rattle.mm_replay.proofs.free_slots.SlotMap.put_back.Goals as goal

taken_in : (xs ys : List Bool) (k : ℕ) → ys ≡ xs → slice_get ys k ≡ Some false → slice_get xs k ≡ Some false
taken_in xs ys k e at = ap (λ (zs : List Bool). slice_get zs k) (sym e) ∙ at

one_value : (a b : ℕ) → Some a ≡ Some b → a ≡ b
one_value a b e = cc

pub invariant_of-self : goal.invariant_of-self
invariant_of-self c =
    let i = c.self.inside in
    let apart = subst (λ (o : Option ℕ). AreApartFrom i.free.items o i.others.free) c.in-Some-lowest.is c.self.invariant in
    let made = given_behind i.free.items i.others.free c.in-Some.slot c.in-Some-lowest.lowest apart (taken_in i.free.items c.deref.result.now c.in-Some.slot c.deref.ensures.value (c.is_taken.ensures.taken c.if-is_taken.true)) c.if-lowest-slot.true in
    subst (λ (xs : List Bool). AreApartFrom xs i.lowest c.put_back.new.self.free) (sym c.set_at.ensures)
    (subst (λ (o : Option ℕ). AreApartFrom (slice_set i.free.items c.in-Some.slot true) o c.put_back.new.self.free) (sym c.in-Some-lowest.is)
    (subst (λ (ys : List Bool). AreApartFrom (slice_set i.free.items c.in-Some.slot true) (Some c.in-Some-lowest.lowest) ys) (sym c.put_back.ensures) made))

pub put_back-requires-in-Some-2 : goal.put_back-requires-in-Some-2
put_back-requires-in-Some-2 c =
    let i = c.self.inside in
    let apart = subst (λ (o : Option ℕ). AreApartFrom i.free.items o i.others.free) c.in-Some-2.is c.self.invariant in
    lowest_taken i.free.items i.others.free c.in-Some.slot c.in-Some-2.lowest apart (taken_in i.free.items c.deref.result.now c.in-Some.slot c.deref.ensures.value (c.is_taken.ensures.taken c.if-is_taken.true))

pub invariant_of-self-in-Some-2 : goal.invariant_of-self-in-Some-2
invariant_of-self-in-Some-2 c =
    let i = c.self.inside in
    let apart = subst (λ (o : Option ℕ). AreApartFrom i.free.items o i.others.free) c.in-Some-2.is c.self.invariant in
    let low : c.in-Some.slot ≤ c.in-Some-2.lowest = subst (λ (n : ℕ). c.in-Some.slot ≤ n) (one_value c.in-Some-lowest.lowest c.in-Some-2.lowest (sym c.in-Some-lowest.is ∙ c.in-Some-2.is)) c.if-lowest-slot.false in
    let made = given_before i.free.items i.others.free c.in-Some.slot c.in-Some-2.lowest apart (taken_in i.free.items c.deref.result.now c.in-Some.slot c.deref.ensures.value (c.is_taken.ensures.taken c.if-is_taken.true)) low in
    subst (λ (xs : List Bool). AreApartFrom xs (Some c.in-Some.slot) c.put_back-in-Some-2.new.self.free) (sym c.set_at.ensures)
    (subst (λ (ys : List Bool). AreApartFrom (slice_set i.free.items c.in-Some.slot true) (Some c.in-Some.slot) ys) (sym c.put_back-in-Some-2.ensures) made)

pub invariant_of-self-in-None : goal.invariant_of-self-in-None
invariant_of-self-in-None c =
    let i = c.self.inside in
    let apart = subst (λ (o : Option ℕ). AreApartFrom i.free.items o i.others.free) c.in-None.is c.self.invariant in
    subst (λ (xs : List Bool). AreApartFrom xs (Some c.in-Some.slot) i.others.free) (sym c.set_at.ensures)
    (given_first i.free.items i.others.free c.in-Some.slot apart (taken_in i.free.items c.deref.result.now c.in-Some.slot c.deref.ensures.value (c.is_taken.ensures.taken c.if-is_taken.true)))
