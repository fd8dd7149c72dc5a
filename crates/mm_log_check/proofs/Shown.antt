-- A text is written, or a front of it.
use Rattle.std.proofs.Common.{◌≡◌, ℕ, ◌<◌, true, false, [], ◌∷◌, length, Option, refl, subst, inl, inr, arith}
use Rattle.mm_types.specs.{Text, Appended}
use Rattle.mm_types.proofs.{appended_none}
use Rattle.mm_io.specs.{Wrote}
use Rattle.mm_log_check.specs.{Shows}

pub shows_none : (a : Option Text) (text : Text) (status : ℕ) → length text ≡ 0 → Shows a a text status status
shows_none a [] status e = inl (refl, appended_none a)
shows_none a (c ∷ cs) status e = absurd (omega arith)

pub shows_all : (a b : Option Text) (text : Text) (status : ℕ) → Wrote a b text false → Shows a b text status status
shows_all a b text status w = inl (refl, subst (λ (t : Text). Appended a b t) (w.all refl) w.written)

pub shows_torn : (a b : Option Text) (text : Text) (status : ℕ) → 0 < length text → Wrote a b text true → Shows a b text status 5
shows_torn a b text status some w = inr (refl, record { some = some; front = w.front; behind = w.rest; whole = w.whole; written = w.written })

pub ruleset shown = (shows_none, shows_all, shows_torn)
