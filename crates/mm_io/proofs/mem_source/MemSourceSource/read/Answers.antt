use Rattle.std.proofs.Common.{◌≡◌, ℕ, ◌+◌, ◌-◌, List, ◌++◌, length, take, drop, refl, sym, ap, ◌∙◌, arith, rules}
use Rattle.std.proofs.Math.Seq.{take-length}
use Rattle.std.proofs.lemmas.Bool.{false≢true}
use Rattle.std.proofs.lemmas.List.{drop-drop, drop_all, length-drop, take-append-drop}
use Rattle.mm_io.proofs.mem_source.MemSourceSource.read.Goals as goal

front : (xs buf : List ℕ) (at n : ℕ) → take n buf ≡ take n (take (length xs - at) (drop at xs)) → drop at xs ≡ take n buf ++ drop (at + n) xs
front xs buf at n e =
    let all : take (length xs - at) (drop at xs) ≡ drop at xs = ap (λ k. take k (drop at xs)) (sym (length-drop at xs)) ∙ take-length (drop at xs) in
    sym (ap (λ ys. ys ++ drop (at + n) xs) (e ∙ ap (take n) all) ∙ ap (λ ys. take n (drop at xs) ++ ys) (sym (drop-drop n at xs)) ∙ take-append-drop n (drop at xs))

pub returns-then-is_to_fail-clause-bytes : goal.returns-then-is_to_fail-clause-bytes
returns-then-is_to_fail-clause-bytes c = refl

pub returns-then-is_to_fail-clause-fails : goal.returns-then-is_to_fail-clause-fails
returns-then-is_to_fail-clause-fails c =
    let due = rw (c.deref.ensures.value, c.saturating_add-self.ensures) at c.is_to_fail.ensures in
    (λ _. due.0 c.if-is_to_fail.true, λ _. refl)

pub returns-then-is_to_fail-clause-cause : goal.returns-then-is_to_fail-clause-cause
returns-then-is_to_fail-clause-cause c = record { later = omega arith; failed = omega arith; same = tt }

pub returns-clause-bytes : goal.returns-clause-bytes
returns-clause-bytes c =
    let s = c.args.self.now in
    let value = c.deref-2.ensures.value in
    record {
      within = omega arith;
      bytes = front s.bytes.items c.copy_front.new.buf s.at c.min-n.result (rw value at c.copy_front.ensures);
      end = λ some e. drop_all s.at s.bytes.items (omega (arith, ap length value));
    }

pub returns-clause-idle : goal.returns-clause-idle
returns-clause-idle c =
    let last : c.from-self.result ≡ 1 - c.min-n.result = search rules in
    omega arith

pub returns-clause-fails : goal.returns-clause-fails
returns-clause-fails c =
    let due = rw (c.deref.ensures.value, c.saturating_add-self.ensures) at c.is_to_fail.ensures in
    (λ e. absurd (false≢true e), λ h. sym c.if-is_to_fail.false ∙ due.1 h)

pub returns-clause-cause : goal.returns-clause-cause
returns-clause-cause c = record { later = omega arith; failed = tt; same = refl }
