use Rattle.std.proofs.Common.{ℕ, Option, subst}
use Rattle.std.specs.Prelude.{is_some}
use Rattle.mm_working_sets.specs.{IsNextFrom}
use Rattle.mm_page_tables.proofs.{own_ages}
use Rattle.mm_page_tables.proofs.tables.Words.next_from.Goals as goal

pub returns : goal.returns
returns c =
    let same = own_ages c.args.self.now.processes.items c.index_of-at.result c.index.result.now c.index.result.now c.index_of-at.ensures.within c.index.ensures c.args.pid c.index_of-at.ensures.next in
    subst (λ (f : ℕ → Option ℕ). IsNextFrom (λ v. is_some (f v)) c.args.from.0 c.next_from.result) same c.next_from.ensures
