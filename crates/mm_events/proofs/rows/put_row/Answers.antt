use Rattle.mm_types.specs.{decimal}
use Rattle.mm_replay.specs.Standing.{life}
use Rattle.mm_events.specs.{class_text, frame_columns, kind_word, page_columns, reason_column}
use Rattle.mm_events.proofs.{row_joined}
use Rattle.mm_events.proofs.rows.put_row.Goals as goal

pub returns : goal.returns
returns c =
    let x = c.args.x.now in
    row_joined c.args.text.now.items c.put_front.new.text.items c.put_page.new.text.items c.put_frame.new.text.items c.put_back.new.text.items
    (decimal x.line) (kind_word x.kind) (class_text c.args.class) (reason_column c.args.class x.facts x.reason) (page_columns x.facts x.kind) (frame_columns x.facts x.was (life c.args.after.now))
    c.in_ok-put_front.ensures c.in_ok-put_page.ensures c.in_ok-put_frame.ensures c.in_ok-put_back.ensures
