use Rattle.std.proofs.Common.{◌≡◌, ◌∙◌, ◌++◌, ap, List, Option, ℕ, map, replicate, None}
use Rattle.std.specs.Prelude.{Box}
use Rattle.std.specs.declared.alloc.Global.{Global}
use Rattle.mm_devices.specs.{block_bytes}
use Rattle.mm_devices.proofs.{blocks_added}
use Rattle.mm_devices.proofs.stores.Store.add.Goals as goal

pub returns-clause-ok : goal.returns-clause-ok
returns-clause-ok c =
    let s = c.self.inside in
    let grown : c.push_unwritten.new.blocks.items ≡ s.blocks.items ++ replicate c.args.n None = c.push_unwritten.ensures ∙ ap (λ (bs : List (Option (Box (List ℕ) Global))). bs ++ replicate c.args.n None) c.reserve.ensures.items in
    ap (λ (bs : List (Option (Box (List ℕ) Global))). map block_bytes bs) grown
    ∙ blocks_added s.blocks.items c.args.self.now c.args.n c.self.view_is
