use Rattle.std.proofs.Common.{◌≡◌, ◌<◌, length, set, map, ap, sym, ◌∙◌, arith, refl, List, ℕ, None}
use Rattle.std.proofs.lemmas.List.{get_or_read, length-map, set-get_or}
use Rattle.std.specs.Prelude.{Option, Box}
use Rattle.std.specs.Box.{with_value}
use Rattle.std.specs.declared.alloc.Global.{Global}
use Rattle.mm_types.proofs.{on_err}
use Rattle.mm_devices.specs.{block_bytes}
use Rattle.mm_devices.proofs.{block_put, block_read}
use Rattle.mm_devices.proofs.stores.Store.put.Goals as goal

pub index_mut-requires : goal.index_mut-requires
index_mut-requires c =
    let s = c.self.inside in
    omega (arith, c.requires, s.blocks.ok.0, length-map s.blocks.items block_bytes, ap length c.self.view_is)

pub returns-in-Some-clause-ok : goal.returns-in-Some-clause-ok
returns-in-Some-clause-ok c =
    let s = c.self.inside in
    block_put s.blocks.items c.args.self.now c.args.i (with_value c.in-Some.held c.args.bytes.now) c.args.bytes.now c.self.view_is refl

pub returns-in_err-new-clause-unwritten : goal.returns-in_err-new-clause-unwritten
returns-in_err-new-clause-unwritten c =
    let s = c.self.inside in
    let there : c.args.i < length s.blocks.items = omega (arith, c.requires, length-map s.blocks.items block_bytes, ap length c.self.view_is) in
    on_err c.from_residual.result
    (block_read s.blocks.items c.args.self.now c.args.i None c.self.view_is there (sym (get_or_read s.blocks.items c.args.i _ there c.index_mut.ensures.value None) ∙ c.in_default.is))

pub returns-clause-ok : goal.returns-clause-ok
returns-clause-ok c =
    let s = c.self.inside in
    let there : c.args.i < length s.blocks.items = omega (arith, c.requires, length-map s.blocks.items block_bytes, ap length c.self.view_is) in
    let same : set s.blocks.items c.args.i c.index_mut.result.now ≡ s.blocks.items = ap (λ (b : Option (Box (List ℕ) Global)). set s.blocks.items c.args.i b) (get_or_read s.blocks.items c.args.i _ there c.index_mut.ensures.value None) ∙ set-get_or s.blocks.items c.args.i None in
    block_put (set s.blocks.items c.args.i c.index_mut.result.now) c.args.self.now c.args.i c.in_ok-new.field-0 c.args.bytes.now
    (ap (λ (bs : List (Option (Box (List ℕ) Global))). map block_bytes bs) same ∙ c.self.view_is) c.in_ok-new.ensures.ok
