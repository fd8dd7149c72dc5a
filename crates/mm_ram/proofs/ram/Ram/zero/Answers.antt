use Rattle.std.proofs.Common.{arith, ap, ◌∙◌}
use Rattle.mm_ram.specs.{zeroed}
use Rattle.mm_ram.proofs.{seen, contents_low, contents_read, seen_zeroed, ram_zeroed}
use Rattle.mm_ram.proofs.ram.Ram.zero.Goals as goal

pub index-requires : goal.index-requires
index-requires c = omega (arith, contents_low (seen c.self.invariant c.self.view_is) c.args.f.0 c.requires, c.self.inside.contents.ok.0)

pub index_mut-requires : goal.index_mut-requires
index_mut-requires c = omega (arith, contents_low (seen c.self.invariant c.self.view_is) c.args.f.0 c.requires, c.self.inside.contents.ok.0)

pub invariant_of-self : goal.invariant_of-self
invariant_of-self c =
    let is = c.zeroed.ensures ∙ ap zeroed (contents_read (seen c.self.invariant c.self.view_is) c.args.f.0 c.requires c.index.result.now c.index.ensures) in
    rw is (ram_zeroed c.self.invariant c.args.f.0)

pub returns : goal.returns
returns c = rw c.zeroed.ensures (seen_zeroed (seen c.self.invariant c.self.view_is) c.args.f.0 c.index.result.now)
