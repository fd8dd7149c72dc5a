use Rattle.std.proofs.Common.{ℕ, List, ◌∷◌, [], ◌++◌, ap, ◌∙◌}
use Rattle.std.specs.Prelude.{codes}
use Rattle.mm_move_rules.specs.{ResidentSet, numbered}
use Rattle.mm_replay.specs.Standing.{life}
use Rattle.mm_reports.specs.{use_table, slots_row, requests_row, set_rows}
use Rattle.mm_reports.proofs.{five}
use Rattle.mm_reports.proofs.tables.put_use.Goals as goal

pub returns : goal.returns
returns c =
    let l = life c.args.life.now in
    let front = codes "use of page frames after line " in
    five c.args.text.now.items c.put_numbered.new.text.items c.put_table.new.text.items c.put_slots.new.text.items c.put_requests.new.text.items c.put_sets.new.text.items
    (numbered front l.line (10 ∷ [])) (use_table l) (slots_row l) (requests_row l) (set_rows 1 l.sets)
    (c.in_ok-put_numbered.ensures ∙ ap (λ (k : ℕ). c.args.text.now.items ++ numbered front k (10 ∷ [])) (c.from.ensures ∙ c.line.ensures))
    c.in_ok-put_table.ensures c.in_ok-put_slots.ensures c.in_ok-put_requests.ensures
    (c.in_ok-put_sets.ensures ∙ ap (λ (ss : List ResidentSet). c.put_requests.new.text.items ++ set_rows 1 ss) c.sets.ensures)
