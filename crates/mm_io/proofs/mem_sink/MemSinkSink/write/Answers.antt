use Rattle.std.proofs.Common.{◌++◌, [], inl, inr, refl, sym, ap, ◌∙◌, arith, Some}
use Rattle.std.proofs.Math.Seq.{take-length}
use Rattle.std.proofs.lemmas.Bool.{false≢true}
use Rattle.mm_types.proofs.{appended_none}
use Rattle.mm_io.proofs.mem_sink.MemSinkSink.write.Goals.{then-buf-self-via-then-buf-self, then-buf-self-via-else-buf-self+then-is_to_fail}
use Rattle.mm_io.proofs.mem_sink.MemSinkSink.write.Goals as goal

pub returns-then-buf-self-clause-given : goal.returns-then-buf-self-clause-given
returns-then-buf-self-clause-given c = record { grows = ([], appended_none (Some c.args.self.now.bytes.items)); front = λ h. h }

pub returns-then-buf-self-clause-fails : goal.returns-then-buf-self-clause-fails
returns-then-buf-self-clause-fails c = (
  λ _. elim c.then-buf-self.branch [
    | then-buf-self-via-then-buf-self w ↦ inr w.if-buf-self.true
    | then-buf-self-via-else-buf-self+then-is_to_fail w ↦
        let due = rw (w.deref.ensures.value, c.saturating_add-self.ensures) at w.is_to_fail.ensures in inl (due.0 w.if-is_to_fail.true)
  ],
  λ _. refl,
)

pub returns-then-buf-self-clause-cause : goal.returns-then-buf-self-clause-cause
returns-then-buf-self-clause-cause c = record { later = omega arith; failed = omega arith; same = tt }

pub returns-clause-bytes : goal.returns-clause-bytes
returns-clause-bytes c =
    let buf = c.args.buf.now in
    record {
      within = omega arith;
      some = λ h. h;
      bytes = c.in-Ok.ensures.items ∙ ap (λ xs. c.args.self.now.bytes.items ++ xs) (sym (take-length buf));
    }

pub returns-clause-given : goal.returns-clause-given
returns-clause-given c = record {
  grows = (c.args.buf.now, c.in-Ok.ensures.items);
  front = λ _. ([], appended_none (Some c.extend_from_slice.new.self.items));
}

pub returns-clause-fails : goal.returns-clause-fails
returns-clause-fails c =
    let due = rw (c.deref.ensures.value, c.saturating_add-self.ensures) at c.is_to_fail.ensures in
    (λ e. absurd (false≢true e), λ h. elim h [ inl d ↦ sym c.if-is_to_fail.false ∙ due.1 d | inr l ↦ absurd (omega arith) ])

pub returns-clause-cause : goal.returns-clause-cause
returns-clause-cause c = record { later = omega arith; failed = tt; same = refl }
