use Rattle.std.proofs.Common.{List, ℕ, ap, ◌∙◌}
use Rattle.std.specs.BTreeMap.{insert_entry}
use Rattle.mm_reports.specs.{one_in_column}
use Rattle.mm_reports.proofs.{put_back}
use Rattle.mm_reports.proofs.counters.count.Goals as goal

pub returns : goal.returns
returns g c =
    c.in_ok-insert.ensures.entries
    ∙ ap (λ (v : List ℕ). insert_entry g.K.Ord.cmp c.args.table.now.entries c.args.key v) (c.in_ok-add_one.ensures ∙ ap (λ (xs : List ℕ). one_in_column xs c.args.column) c.counts_at-counts.ensures)
    ∙ put_back g.met.K.Ord.total c.args.table.now.entries c.insert.ensures.was_ordered c.args.key c.args.column
