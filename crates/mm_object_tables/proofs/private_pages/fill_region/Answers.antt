use Rattle.std.proofs.Common.{◌≡◌, ◌∙◌, ◌+◌, sym, ap, arith, cond, not}
use Rattle.mm_types.specs.{Range}
use Rattle.mm_store.specs.{StoreOf}
use Rattle.mm_object_tables.specs.{new_pages, is_page_dead}
use Rattle.mm_object_tables.proofs.{passing_all, holds}
use Rattle.mm_types.proofs.{differ}
use Rattle.mm_object_tables.proofs.private_pages.fill_region.Goals as goal

pub add_pages-requires-clause-known : goal.add_pages-requires-clause-known
add_pages-requires-clause-known g c i few =
    let range : Range = c.args.range in
    let at = holds range (range.first + i) (omega arith) (omega (arith, few)) in
    sym ((c.requires.can (differ c.args.kind 0x2000 c.if-kind-ne-RESERVE_TYPE.true)).live (range.first + i) at) ∙ c.requires.dead (range.first + i) at

pub returns-then-kind-ne-RESERVE_TYPE-clause-counted :
    goal.returns-then-kind-ne-RESERVE_TYPE-clause-counted
returns-then-kind-ne-RESERVE_TYPE-clause-counted g c =
    let range : Range = c.args.range in
    let pages : new_pages c.args.kind range ≡ range.count = ap (λ b. cond b 0 range.count) (differ c.args.kind 0x2000 c.if-kind-ne-RESERVE_TYPE.true) in
    omega (
      arith,
      ap (λ (x : StoreOf). x.paging_keys) c.add_pages.ensures.adds.store,
      pages,
      passing_all (is_page_dead c.args.pid (g.G.PageStore.contents c.args.g.now)) range.first range.count (λ j few.
          ap not (c.requires.dead (range.first + j) (holds range (range.first + j) (omega arith) (omega (arith, few))))),
    )
