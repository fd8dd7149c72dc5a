use Rattle.std.proofs.Common.{◌<◌, length, replicate, ap, sym, subst, ◌∙◌, ◌+◌, arith, None, ℕ, List, Option}
use Rattle.mm_ram.proofs.{Emptied, as_long, emptied_all, emptied_next, emptied_same, filled_at, empty_at}
use Rattle.mm_ram.proofs.ram.empty.Goals as goal
use Rattle.mm_ram.proofs.ram.empty.Goals.{then-has_bytes, else-has_bytes}

pub read-requires : goal.read-requires
read-requires c =
    let filled = filled_at c.args.cells.now.slots c.args.contents.now c.requires.filled c.loop-i.i (sym c.has_bytes.ensures ∙ c.if-has_bytes.true) in
    (c.loop-i.invariant.at, (filled.0, c.loop-i.invariant.emptied.kept c.loop-i.i (omega arith) ∙ filled.1))

pub loop-i-preserved : goal.loop-i-preserved
loop-i-preserved c =
    let e = c.loop-i.invariant.emptied in
    let old = c.args.cells.now.slots in
    let low : c.loop-i.i < length old = omega (arith, c.loop-i-test.true, as_long old c.args.contents.now c.requires.filled) in
    elim c.if-has_bytes.branch [
      | then-has_bytes w ↦ record {
        at = c.loop-i.invariant.at ∙ sym (ap (λ q. q.at) w.cells-is ∙ w.read.ensures.slots.0);
        emptied = subst (λ (q : List (Option (List ℕ))). Emptied old q (c.loop-i.i + 1)) (sym (ap (λ q. q.slots) w.cells-is ∙ w.read.ensures.slots.1)) (emptied_next old c.loop-i.cells.slots c.loop-i.i e low);
      }
      | else-has_bytes w ↦ record {
        at = c.loop-i.invariant.at ∙ sym (ap (λ q. q.at) w.cells-is);
        emptied = subst (λ (q : List (Option (List ℕ))). Emptied old q (c.loop-i.i + 1)) (sym (ap (λ q. q.slots) w.cells-is)) (emptied_same old c.loop-i.cells.slots c.loop-i.i e (empty_at old c.args.contents.now c.requires.filled c.loop-i.i (sym c.has_bytes.ensures ∙ w.if-has_bytes.false)));
      }
    ]

pub returns-clause-slots : goal.returns-clause-slots
returns-clause-slots c =
    let long = as_long c.args.cells.now.slots c.args.contents.now c.requires.filled in
    emptied_all c.args.cells.now.slots c.loop-i.cells.slots c.loop-i.i c.loop-i.invariant.emptied (omega (arith, long))
    ∙ ap (λ n. replicate n None) (sym long)
