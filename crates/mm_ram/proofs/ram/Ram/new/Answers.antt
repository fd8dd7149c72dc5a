use Rattle.std.proofs.Common.{◌≡◌, ◌∙◌, List, Option, replicate, None, ap, ℕ}
use Rattle.mm_ram.specs.{Contents, shown}
use Rattle.mm_ram.specs.declared.contents.Contents.TheVariants as contains
use Rattle.mm_ram.proofs.{ram_new, none_shown}
use Rattle.mm_ram.proofs.ram.Ram.new.Goals as goal

pub invariant_of-result : goal.invariant_of-result
invariant_of-result c =
    let a = c.in_ok-base.ensures in
    ram_new _ _ _ _ _ _ _ _ c.args.frames a.0 a.1 a.2 a.3 a.4 c.in_ok-contents.ensures

pub returns : goal.returns
returns c =
    let k : c.in_ok-contents.contents.items ≡ replicate c.args.frames contains.Unwritten = c.in_ok-contents.ensures in
    let p : c.in_ok-base.cells.slots ≡ replicate c.args.frames None = c.in_ok-base.ensures.1 in
    ap (λ (q : List Contents). shown q c.in_ok-base.cells.slots) k ∙ ap (λ (q : List (Option (List ℕ))). shown (replicate c.args.frames contains.Unwritten) q) p ∙ none_shown c.args.frames
