use Rattle.std.proofs.Common.{◌++◌, ap, ◌∙◌}
use Rattle.std.specs.Prelude.{codes, flat_map}
use Rattle.mm_types.specs.{Counts}
use Rattle.mm_move_rules.specs.{counts_of}
use Rattle.mm_replay.specs.Standing.{life}
use Rattle.mm_reports.specs.{all_uses, sum_row, totals, use_head, use_row}
use Rattle.mm_reports.proofs.{three}
use Rattle.mm_reports.proofs.tables.put_table.Goals as goal

pub returns : goal.returns
returns c =
    let l = life c.args.life.now in
    let total = codes "Total                   " in
    three c.args.text.now.items c.put_head.new.text.items c.put_use_rows.new.text.items c.put_totals.new.text.items use_head (flat_map (use_row l) all_uses) (sum_row total (totals (counts_of l)))
    c.in_ok-put_head.ensures c.in_ok-put_use_rows.ensures
    (c.in_ok-put_totals.ensures ∙ ap (λ (k : Counts). c.put_use_rows.new.text.items ++ sum_row total (totals k)) c.counts.ensures.value)
