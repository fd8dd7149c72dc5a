use Rattle.std.proofs.Common.{refl, inl, arith}
use Rattle.mm_line_moves.proofs.worked.failed_read_is_last.Goals as goal

pub returns-clause-never : goal.returns-clause-never
returns-clause-never = λ c r after z m. let bad = m.read.1 in cc

pub returns-clause-moves : goal.returns-clause-moves
returns-clause-moves = λ c. record {
  each = ((refl, refl), ((refl, refl, refl, λ e. inl refl), ((refl, refl), ((refl, refl), tt))));
  one_read = omega arith;
  few_writes = omega arith;
}
