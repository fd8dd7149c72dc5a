use Rattle.std.proofs.Common.{ap, arith, length}
use Rattle.std.proofs.lemmas.List.Sums.{length-filter, count_by-le-length}
use Rattle.mm_move_rules.specs.{record_at}
use Rattle.mm_page_lists.specs.{ListsOf, list_at}
use Rattle.mm_pfn_database.specs.{FramesOf, has_block, modified_with_block}
use Rattle.mm_pfn_database.proofs.frames.Frames.modified_with_block.Goals as goal

pub returns-clause-most : goal.returns-clause-most
returns-clause-most c =
    let d = c.args.self.now.table in
    let is = length-filter (λ f. has_block (record_at d f).backing) d.modified in
    let most = count_by-le-length (λ f. has_block (record_at d f).backing) d.modified in
    let same = ap (λ (w : ListsOf). length (list_at w.lists 0)) c.self.invariant.backed.same in
    let shown = ap (λ (w : FramesOf). length (modified_with_block w.table)) c.self.view_is in
    omega (arith, c.len.ensures.count, same, shown, is, most)
