use Rattle.std.proofs.Common.{◌≡◌, ◌∙◌, ap, sym, Some}
use Rattle.mm_move_rules.specs.{ResidentSet}
use Rattle.mm_page_tables.specs.{resident_of}
use Rattle.mm_page_tables.proofs.{set_at_index}
use Rattle.mm_page_tables.proofs.tables.Words.resident.Goals as goal

pub returns : goal.returns
returns c =
    let same : resident_of c.index.result.now ≡ record { min = c.min.result; max = c.max.result; resident = c.len.result } = (λ i. record { min = sym c.min.ensures i; max = sym c.max.ensures i; resident = sym c.len.ensures.value i }) in
    set_at_index c.args.self.now.processes.items c.index_of.result c.index.result.now c.index.result.now c.index_of.ensures.within c.index.ensures c.args.pid c.index_of.ensures.next
    ∙ ap (λ (s : ResidentSet). Some s) same
