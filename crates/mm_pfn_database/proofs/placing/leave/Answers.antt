use Rattle.std.proofs.Common.{sym, ap, List, ℕ}
use Rattle.mm_page_lists.proofs.{without_none}
use Rattle.mm_pfn_database.proofs.placing.leave.Goals as goal

pub returns-else-listed : goal.returns-else-listed
returns-else-listed c = record {
  apart = c.requires.apart;
  left = ap (λ (ls : List (List ℕ)). record c.args.lists.now { lists = ls }) (sym (without_none c.args.f c.args.lists.now.lists (c.requires.on_none c.if-listed.false)));
}
