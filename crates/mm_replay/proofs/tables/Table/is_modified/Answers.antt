use Rattle.std.proofs.Common.{◌∙◌, ap}
use Rattle.mm_move_rules.specs.{FrameTable, is_on}
use Rattle.mm_replay.specs.{is_changed_page}
use Rattle.mm_replay.proofs.{modified_here}
use Rattle.mm_replay.proofs.tables.Table.is_modified.Goals as goal

pub returns : goal.returns
returns c =
    let s = c.self.inside.listing in
    c.is_changed_page.ensures ∙ ap is_changed_page c.record.ensures ∙ modified_here s.records.items s.lists c.args.f c.self.invariant
    ∙ ap (λ (d : FrameTable). is_on c.args.f d.modified) c.self.view_is
