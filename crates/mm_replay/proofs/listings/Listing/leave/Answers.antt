use Rattle.std.proofs.Common.{◌∙◌, ap, subst, sym}
use Rattle.mm_move_rules.specs.{is_idle}
use Rattle.mm_page_lists.specs.{ListsOf}
use Rattle.mm_replay.specs.{AreLists, Off, table_from_lists}
use Rattle.mm_replay.proofs.{off_left, busy_off, table_left, table_stays}
use Rattle.mm_replay.proofs.listings.Listing.leave.Goals as goal

pub returns-then-is_idle-clause-off : goal.returns-then-is_idle-clause-off
returns-then-is_idle-clause-off c =
    let s = c.args.self.now in
    subst (λ (v : ListsOf). Off s.records.items v c.args.f) (sym c.unlink.ensures.closed)
    (off_left s.records.items s.lists c.args.f c.requires.kept c.requires.owned (subst (AreLists 4) c.unlink.ensures.closed c.unlink.ensures.kept))

pub returns-then-is_idle-clause-table : goal.returns-then-is_idle-clause-table
returns-then-is_idle-clause-table c =
    let s = c.args.self.now in
    ap (λ (v : ListsOf). table_from_lists s.records.items v) c.unlink.ensures.closed ∙ table_left s.records.items s.lists c.args.f c.requires.kept c.requires.owned

pub returns-else-is_idle-clause-off : goal.returns-else-is_idle-clause-off
returns-else-is_idle-clause-off c =
    let s = c.args.self.now in
    busy_off s.records.items s.lists c.args.f c.requires.kept (ap is_idle (sym c.record.ensures) ∙ sym c.is_idle.ensures ∙ c.if-is_idle.false)

pub returns-else-is_idle-clause-table : goal.returns-else-is_idle-clause-table
returns-else-is_idle-clause-table c =
    let s = c.args.self.now in
    table_stays s.records.items s.lists c.args.f
    (busy_off s.records.items s.lists c.args.f c.requires.kept (ap is_idle (sym c.record.ensures) ∙ sym c.is_idle.ensures ∙ c.if-is_idle.false))
