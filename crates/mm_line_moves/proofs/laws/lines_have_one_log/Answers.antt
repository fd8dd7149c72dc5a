use Rattle.mm_line_moves.proofs.{one_log}
use Rattle.mm_line_moves.proofs.laws.lines_have_one_log.Goals as goal

pub returns : goal.returns
returns = λ c w v e a b o d f xs ys s alike p q k. one_log w v a b o d f xs ys e s alike p q k
