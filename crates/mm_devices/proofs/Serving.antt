-- The calls that a store made of a device, one list behind another.
use Rattle.std.proofs.Common.{◌≡◌, ◌≤◌, ◌<◌, inl, inr, ℕ, zero, suc, ◌-◌, Bool, true, false, List, [], ◌∷◌, ◌++◌, length, refl, sym, ap, ◌∙◌, arith}
use Rattle.std.proofs.lemmas.List.{length-map}
use Rattle.std.specs.Prelude.{map, ◌||◌, ◌&&◌, ◌==◌, not, if◌then◌else◌}
use Rattle.std.specs.List.{list_any}
use Rattle.mm_types.proofs.{rose_then, rose_later}
use Rattle.mm_types.specs.{Direction}
use Rattle.mm_devices.specs.{NamedCalls, same_direction, is_due, is_next_named, one_further, after_call, DeviceOf, Call, logged_call, Serves, AllServed}
use Rattle.mm_devices.specs.{left_to_fail, CallFailed, IsLater}

pub all_served_then : (cs ds : List Call) (a b c : DeviceOf) → AllServed cs a b → AllServed ds b c → AllServed (cs ++ ds) a c
all_served_then [] ds a b c p q = rw (sym p) q
all_served_then (x ∷ cs) ds a b c p q = (p.0, (p.1.0, all_served_then cs ds p.0 b c p.1.1 q))

pub all_served_one : (x : Call) (a b : DeviceOf) → Serves x a b → AllServed (x ∷ []) a b
all_served_one x a b p = (b, (p, refl))

pub map-logged : (xs ys : List Call) → map logged_call (xs ++ ys) ≡ map logged_call xs ++ map logged_call ys
map-logged [] ys = refl
map-logged (x ∷ xs) ys = ap (λ t. logged_call x ∷ t) (map-logged xs ys)

pub named_as_before : (cs : List Call) (a b : DeviceOf) → AllServed cs a b → length b.named ≡ length a.named
named_as_before [] a b h = ap (λ (d : DeviceOf). length d.named) h
named_as_before (x ∷ xs) a b h =
    named_as_before xs h.0 b h.1.1 ∙ ap (λ (n : List NamedCalls). length n) h.1.0.after ∙ length-map a.named (one_further x.way)

-- ---- how many named calls are left to fail

-- of one that is named, by the tests of what becomes of it
abbrev further_if : Bool → Bool → NamedCalls → NamedCalls
further_if same now c = if same then (if now then record c { fails = c.fails - 1 } else record c { passes = c.passes - 1 }) else c

left_if : (same now : Bool) (c : NamedCalls) → (further_if same now c).fails ≤ c.fails
left_if true true c = omega arith
left_if true false c = omega arith
left_if false now c = omega arith

one_less : (n : ℕ) → (n == 0) ≡ false → n - 1 < n
one_less zero e = let bad : true ≡ false = e in cc
one_less (suc n) e = omega arith

due_if : (same now none : Bool) (c : NamedCalls) → (c.fails == 0) ≡ none → (same && now && not none) ≡ true → (further_if same now c).fails < c.fails
due_if true true false c e h = one_less c.fails e
due_if true true true c e h = let bad : false ≡ true = h in cc
due_if true false none c e h = let bad : false ≡ true = h in cc
due_if false now none c e h = let bad : false ≡ true = h in cc

left_after : (d : Direction) (cs : List NamedCalls) → left_to_fail (after_call d cs) ≤ left_to_fail cs
left_after d [] = omega arith
left_after d (c ∷ cs) = omega (arith, left_if (same_direction d c.direction) (c.passes == 0) c, left_after d cs)

named_less : (d : Direction) (cs : List NamedCalls) → is_next_named d cs ≡ true → left_to_fail (after_call d cs) < left_to_fail cs
named_less d [] h = let bad : false ≡ true = h in cc
named_less d (c ∷ cs) h = by (is_due d c) refl h (named_less d cs)
  where
    by : (due : Bool) → is_due d c ≡ due → (due || is_next_named d cs) ≡ true → (is_next_named d cs ≡ true → left_to_fail (after_call d cs) < left_to_fail cs) → left_to_fail (after_call d (c ∷ cs)) < left_to_fail (c ∷ cs)
    by true e q more = omega (arith, due_if (same_direction d c.direction) (c.passes == 0) (c.fails == 0) c refl e, left_after d cs)
    by false e q more = omega (arith, left_if (same_direction d c.direction) (c.passes == 0) c, more q)

-- ---- counts, as calls are made

pub later_same : (a b : DeviceOf) → b ≡ a → IsLater a b
later_same a b e = record {
  faults = omega (arith, ap (λ (d : DeviceOf). d.faults) e);
  left = omega (arith, ap (λ (d : DeviceOf). left_to_fail d.named) e);
}

pub later_then : (a b c : DeviceOf) → IsLater a b → IsLater b c → IsLater a c
later_then a b c p q = record {
  faults = omega (arith, p.faults, q.faults);
  left = omega (arith, p.left, q.left);
}

pub serves_later : (x : Call) (a b : DeviceOf) → Serves x a b → IsLater a b
serves_later x a b h = record {
  faults = h.later;
  left = omega (arith, left_after x.way a.named, ap left_to_fail h.after);
}

pub all_served_later : (cs : List Call) (a b : DeviceOf) → AllServed cs a b → IsLater a b
all_served_later [] a b h = later_same a b h
all_served_later (x ∷ xs) a b h = later_then a h.0 b (serves_later x a h.0 h.1.0) (all_served_later xs h.0 b h.1.1)

pub failed_then : (a b c : DeviceOf) → CallFailed a b → IsLater b c → CallFailed a c
failed_then a b c (inl r) q = inl (rose_then a.faults b.faults c.faults r q.faults)
failed_then a b c (inr m) q = inr (omega (arith, m, q.left))

pub failed_later : (a b c : DeviceOf) → IsLater a b → CallFailed b c → CallFailed a c
failed_later a b c p (inl r) = inl (rose_later a.faults b.faults c.faults p.faults r)
failed_later a b c p (inr m) = inr (omega (arith, m, p.left))

-- a call that did not succeed failed: by its name, or of itself
pub serves_failed : (x : Call) (a b : DeviceOf) → Serves x a b → x.succeeded ≡ false → CallFailed a b
serves_failed x a b h lost = by x.named refl
  where
    by : (n : Bool) → x.named ≡ n → CallFailed a b
    by true e = inr (omega (arith, named_less x.way a.named (h.is_one ∙ e), ap left_to_fail h.after))
    by false e = inl (h.rose (λ i. not (e i) && not (lost i)))

-- so did one of these
pub all_served_failed : (cs : List Call) (a b : DeviceOf) → AllServed cs a b → list_any (λ c. not c.succeeded) cs ≡ true → CallFailed a b
all_served_failed [] a b h some = let bad : false ≡ true = some in cc
all_served_failed (x ∷ xs) a b h some = by x.succeeded refl some (all_served_failed xs h.0 b h.1.1)
  where
    by : (ok : Bool) → x.succeeded ≡ ok → (not ok || list_any (λ c. not c.succeeded) xs) ≡ true → (list_any (λ c. not c.succeeded) xs ≡ true → CallFailed h.0 b) → CallFailed a b
    by false e q more = failed_then a h.0 b (serves_failed x a h.0 h.1.0 e) (all_served_later xs h.0 b h.1.1)
    by true e q more = failed_later a h.0 b (serves_later x a h.0 h.1.0) (more q)
