use Rattle.std.proofs.Common.{arith, sym, ◌∙◌}
use Rattle.mm_ram.specs.{zero_page}
use Rattle.mm_ram.proofs.{seen, contents_low, some_low, contents_read, own_filled, own_is, zeros_are}
use Rattle.mm_ram.proofs.ram.Ram.page.Goals as goal

pub index-requires : goal.index-requires
index-requires c =
    let s = seen c.self.invariant c.self.view_is in
    omega (arith, contents_low s c.args.f.0 (some_low s c.args.f.0 c.requires), c.self.inside.contents.ok.0)

pub get-requires : goal.get-requires
get-requires c =
    let s = seen c.self.invariant c.self.view_is in
    let is = sym (contents_read s c.args.f.0 (some_low s c.args.f.0 c.requires) c.index.result.now c.index.ensures) ∙ c.in-Bytes.is in
    (sym c.self.invariant.at, own_filled s c.args.f.0 is)

pub returns-in-Bytes : goal.returns-in-Bytes
returns-in-Bytes c =
    let s = seen c.self.invariant c.self.view_is in
    let is = sym (contents_read s c.args.f.0 (some_low s c.args.f.0 c.requires) c.index.result.now c.index.ensures) ∙ c.in-Bytes.is in
    sym (own_is s c.args.f.0 is c.get.result.now c.get.ensures)

pub returns-in_default : goal.returns-in_default
unfolding zero_page
returns-in_default c =
    let s = seen c.self.invariant c.self.view_is in
    let is = contents_read s c.args.f.0 (some_low s c.args.f.0 c.requires) c.index.result.now c.index.ensures in
    sym (zeros_are s c.args.f.0 c.requires (λ e. c.in_default.not-Bytes (is ∙ e)))
