use Rattle.std.proofs.Common.{ℕ, List, ◌∷◌, [], ◌++◌, ap, ◌∙◌}
use Rattle.std.specs.Prelude.{codes}
use Rattle.mm_move_rules.specs.{ResidentSet, numbered}
use Rattle.mm_replay.specs.Standing.{life}
use Rattle.mm_reports.specs.{list_rows, frame_lines, process_lines, slots_line}
use Rattle.mm_reports.proofs.{five}
use Rattle.mm_reports.proofs.states.put_state.Goals as goal

pub returns : goal.returns
returns c =
    let l = life c.args.life.now in
    let front = codes "after line " in
    five c.args.text.now.items c.put_numbered.new.text.items c.put_lists.new.text.items c.put_frames.new.text.items c.put_processes.new.text.items c.put_slots.new.text.items
    (numbered front l.line (10 ∷ [])) (list_rows l) (frame_lines l.frames l.machine.frames) (process_lines c.args.pages.now.keys 1 l.sets) (slots_line l)
    (c.in_ok-put_numbered.ensures ∙ ap (λ (k : ℕ). c.args.text.now.items ++ numbered front k (10 ∷ [])) (c.from.ensures ∙ c.line.ensures))
    c.in_ok-put_lists.ensures c.in_ok-put_frames.ensures
    (c.in_ok-put_processes.ensures ∙ ap (λ (ss : List ResidentSet). c.put_frames.new.text.items ++ process_lines c.args.pages.now.keys 1 ss) c.sets.ensures)
    c.in_ok-put_slots.ensures
