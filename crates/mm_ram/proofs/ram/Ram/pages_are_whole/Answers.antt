use Rattle.mm_ram.proofs.{seen, seen_whole}
use Rattle.mm_ram.proofs.ram.Ram.pages_are_whole.Goals as goal

pub returns : goal.returns
returns c = λ f page e. seen_whole (seen c.self.invariant c.self.view_is) c.self.invariant.kept.whole f page e
