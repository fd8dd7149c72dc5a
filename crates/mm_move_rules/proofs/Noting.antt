-- How logs that grow compose.
use Rattle.std.proofs.Common.{◌≡◌, ℕ, List, [], ◌++◌, Option, Some, None, refl, sym, ap, ◌∙◌, inl, inr, arith, append_assoc}
use Rattle.std.specs.Prelude.{Bool, true, false}
use Rattle.mm_types.proofs.{not_then, append_nil, appended_none, appended_then, rose_then, rose_later}
use Rattle.mm_move_rules.specs.{Log, Front, LogGrew, IsFrontOf, GaveOn, Grew}

front_then : (a b c s t : List ℕ) (p q r : Bool) → (p ≡ true → q ≡ true) → (q ≡ true → r ≡ true) → Front a b s p q → Front b c t q r → Front a c (s ++ t) p r
front_then a b c s t p false r pq qr u v =
    let e : s ≡ u.front = u.whole ∙ ap (λ xs. u.front ++ xs) (u.all refl) ∙ append_nil u.front in
    record {
      front = u.front ++ v.front;
      behind = v.behind;
      whole = ap (λ xs. xs ++ t) e ∙ ap (λ xs. u.front ++ xs) v.whole ∙ sym (append_assoc u.front v.front v.behind);
      written = v.written ∙ ap (λ xs. xs ++ v.front) u.written ∙ append_assoc a u.front v.front;
      all = v.all;
      none = λ h. let bad = pq h in cc;
    }
front_then a b c s t p true r pq qr u v =
    record {
      front = u.front;
      behind = u.behind ++ t;
      whole = ap (λ xs. xs ++ t) u.whole ∙ append_assoc u.front u.behind t;
      written = v.written ∙ ap (λ xs. b ++ xs) (v.none refl) ∙ append_nil b ∙ u.written;
      all = λ h. let bad = qr refl in cc;
      none = u.none;
    }

told_then : (a b c : Option (List ℕ)) (s t : List ℕ) (p q r : Bool) → (p ≡ true → q ≡ true) → (q ≡ true → r ≡ true) → LogGrew a b s p q → LogGrew b c t q r → LogGrew a c (s ++ t) p r
told_then None None None s t p q r pq qr u v = tt
told_then (Some a) (Some b) (Some c) s t p q r pq qr u v = front_then a b c s t p q r pq qr u v
told_then _ _ _ s t p q r pq qr u v = absurd (omega arith)

front_of_same : (a : Option (List ℕ)) → IsFrontOf a a
front_of_same a = ([], appended_none a)

pub front_of_then : (a b c : Option (List ℕ)) → IsFrontOf a b → IsFrontOf b c → IsFrontOf a c
front_of_then a b c p q = (p.0 ++ q.0, appended_then a b c p.0 q.0 p.1 q.1)

pub gave_nothing : (a : Log) → GaveOn a a
gave_nothing a = record { grows = front_of_same a.given; front = λ h. h }

pub gave_then : (a b c : Log) → GaveOn a b → GaveOn b c → GaveOn a c
gave_then a b c u v = record {
  grows = front_of_then a.given b.given c.given u.grows v.grows;
  front = λ h. v.front (u.front h);
}

-- one text, and then another
pub grew_then : (a b c : Log) (s t : List ℕ) → Grew a b s → Grew b c t → Grew a c (s ++ t)
grew_then a b c s t u v =
    record {
      later = omega (arith, u.later, v.later);
      stays = λ h. v.stays (u.stays h);
      cause = λ h. elim (v.cause h) [
        | inl q ↦ elim (u.cause q) [ inl p ↦ inl p | inr p ↦ inr (rose_then a.faults b.faults c.faults p v.later) ]
        | inr q ↦ inr (rose_later a.faults b.faults c.faults u.later q)
      ];
      same = λ h. v.same h ∙ u.same (not_then b.failed c.failed v.stays h);
      told = told_then a.bytes b.bytes c.bytes s t a.failed b.failed c.failed u.stays v.stays u.told v.told;
      gave = gave_then a b c u.gave v.gave;
    }

told_none : (a : Option (List ℕ)) (p : Bool) → LogGrew a a [] p p
told_none None p = tt
told_none (Some a) p = record { front = []; behind = []; whole = refl; written = sym (append_nil a); all = λ h. refl; none = λ h. refl }

pub grew_nothing : (a : Log) → Grew a a []
grew_nothing a = record { later = omega arith; stays = λ h. h; cause = λ h. inl h; same = λ h. refl; told = told_none a.bytes a.failed; gave = gave_nothing a }
