use Rattle.std.proofs.Common.{arith}
use Rattle.mm_parts.specs.{joined_parts}
use Rattle.mm_parts.proofs.{known}
use Rattle.mm_parts.proofs.parts.Parts.look.Goals as goal

pub look-requires : goal.look-requires
look-requires c =
    let size = (known (joined_parts c.args.self.now) c.args.self.now.kept).framed in
    let low = c.requires in
    omega (arith, size, low)
