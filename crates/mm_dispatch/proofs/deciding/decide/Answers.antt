use Rattle.mm_dispatch.proofs.{answered}
use Rattle.mm_dispatch.proofs.deciding.decide.Goals as goal

pub returns-in-Read : goal.returns-in-Read
returns-in-Read g c = answered g.G.PageStore c.in-Read.is c.read_line.ensures.done tt (λ paged. (tt, tt)) c.read_line.ensures.loans

pub returns-in-Write : goal.returns-in-Write
returns-in-Write g c = answered g.G.PageStore c.in-Write.is c.write_line.ensures.done tt (λ paged. (tt, tt)) c.write_line.ensures.loans

pub returns-in-Exec : goal.returns-in-Exec
returns-in-Exec g c = answered g.G.PageStore c.in-Exec.is c.exec_line.ensures.done tt (λ paged. (tt, tt)) c.exec_line.ensures.loans
