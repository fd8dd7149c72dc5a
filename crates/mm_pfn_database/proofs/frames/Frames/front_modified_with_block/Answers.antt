use Rattle.std.proofs.Common.{◌≡◌, true, sym, ap, ◌∙◌, subst}
use Rattle.mm_move_rules.specs.{record_at}
use Rattle.mm_page_lists.specs.{ListsOf, number_at}
use Rattle.mm_pfn_database.specs.{FramesOf, has_block, IsAtRest}
use Rattle.mm_pfn_database.proofs.{with_block_found}
use Rattle.mm_pfn_database.proofs.frames.Frames.front_modified_with_block.Goals as goal

pub returns-clause-rests : goal.returns-clause-rests
returns-clause-rests c =
    let f = c.in_ok-front.field-0 in
    subst (λ (w : FramesOf). IsAtRest true (record_at w.table f)) c.self.view_is
    (with_block_found c.self.invariant.placed c.self.invariant.backed f 0 (sym (c.in_ok-front.ensures.first ∙ ap (λ (w : ListsOf). number_at w.lists 0 0) c.self.invariant.backed.same))).1.0

pub returns-clause-block : goal.returns-clause-block
returns-clause-block c =
    let f = c.in_ok-front.field-0 in
    subst (λ (w : FramesOf). has_block (record_at w.table f).backing ≡ true) c.self.view_is
    (with_block_found c.self.invariant.placed c.self.invariant.backed f 0 (sym (c.in_ok-front.ensures.first ∙ ap (λ (w : ListsOf). number_at w.lists 0 0) c.self.invariant.backed.same))).1.1
