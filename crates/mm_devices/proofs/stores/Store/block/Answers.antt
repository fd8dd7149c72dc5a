use Rattle.std.proofs.Common.{◌<◌, length, ap, sym, ◌∙◌, arith, List, ℕ, Some, None}
use Rattle.std.proofs.lemmas.List.{get_or_read, length-map}
use Rattle.mm_devices.specs.{block_bytes}
use Rattle.mm_devices.proofs.{block_read}
use Rattle.mm_devices.proofs.stores.Store.block.Goals as goal

pub index-requires : goal.index-requires
index-requires c =
    let s = c.self.inside in
    omega (arith, c.requires, s.blocks.ok.0, length-map s.blocks.items block_bytes, ap length c.self.view_is)

pub returns-in-Some : goal.returns-in-Some
returns-in-Some c =
    let s = c.self.inside in
    let there : c.args.i < length s.blocks.items = omega (arith, c.requires, length-map s.blocks.items block_bytes, ap length c.self.view_is) in
    block_read s.blocks.items c.args.self.now c.args.i _ c.self.view_is there (sym (get_or_read s.blocks.items c.args.i _ there c.index.ensures None) ∙ c.in-Some.is)
    ∙ ap (λ (x : List ℕ). Some x) (sym c.deref.ensures)

pub returns-in-None : goal.returns-in-None
returns-in-None c =
    let s = c.self.inside in
    let there : c.args.i < length s.blocks.items = omega (arith, c.requires, length-map s.blocks.items block_bytes, ap length c.self.view_is) in
    block_read s.blocks.items c.args.self.now c.args.i _ c.self.view_is there (sym (get_or_read s.blocks.items c.args.i _ there c.index.ensures None) ∙ c.in-None.is)
