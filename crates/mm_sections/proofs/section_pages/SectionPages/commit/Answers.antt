use Rattle.std.proofs.Common.{◌+◌, ◌-◌, ap, ◌∙◌, sym, List, Bool, map, arith}
use Rattle.std.specs.Prelude.{option_map}
use Rattle.mm_world.specs.{AreaOf, commit_shared, blank}
use Rattle.mm_sections.specs.{page_if, block_number}
use Rattle.mm_sections.proofs.{committed_area, refilled_whole}
use Rattle.mm_sections.proofs.section_pages.SectionPages.commit.Goals as goal

pub returns : goal.returns
returns c =
    let s = c.self.inside in
    let first = c.args.first in
    let count = c.args.count in
    let k = first + count - first in
    let old = c.deref_mut.result.now in
    let area : List Bool → AreaOf (Unit {0}) = λ xs. record { file_block = option_map block_number s.first_block; pages = map page_if xs } in
    ap area (refilled_whole s.committed.len first k s.committed.items old c.fill.new.self (sym s.committed.ok.0) c.deref_mut.ensures.value (c.fill.ensures.after (λ y e. e)))
    ∙ committed_area (option_map block_number s.first_block) old c.fill.new.self first count k (omega arith) (c.fill.ensures.after (λ y e. e))
    ∙ ap (λ (xs : List Bool). commit_shared blank first count (area xs)) c.deref_mut.ensures.value
    ∙ ap (commit_shared blank first count) c.self.view_is
