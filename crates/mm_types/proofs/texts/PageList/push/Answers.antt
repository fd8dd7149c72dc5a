use Rattle.std.proofs.Common.{arith, ap, length, length-take}
use Rattle.mm_types.proofs.{padded_push}
use Rattle.mm_types.proofs.texts.PageList.push.Goals as goal

pub invariant_of-self : goal.invariant_of-self
invariant_of-self c =
    let n = c.self.inside.len in
    padded_push 16 n c.args.address c.self.inside.addresses c.self.invariant (omega (arith, length-take n c.self.inside.addresses, c.self.invariant.within, c.self.invariant.whole, c.requires, ap length c.self.view_is))
