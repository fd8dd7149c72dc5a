use Rattle.mm_ram.proofs.{seen, frame_low, seen_filled, ram_put}
use Rattle.mm_ram.proofs.ram.Ram.fill.Goals as goal

pub put_page-requires-clause-there : goal.put_page-requires-clause-there
put_page-requires-clause-there c = frame_low (seen c.self.invariant c.self.view_is) c.args.f.0 c.requires

pub invariant_of-self : goal.invariant_of-self
invariant_of-self c =
    let there = frame_low (seen c.self.invariant c.self.view_is) c.args.f.0 c.requires in
    let e = c.put_page.ensures in
    let n = c.put_page.new in
    ram_put c.self.invariant c.args.f.0 c.args.bytes.now there c.told-bytes n.cells.at n.cells.slots n.contents.items e.at e.slots e.contents

pub returns : goal.returns
returns c =
    let e = c.put_page.ensures in
    seen_filled (seen c.self.invariant c.self.view_is) c.args.f.0 c.args.bytes.now c.put_page.new.cells.slots c.put_page.new.contents.items e.slots e.contents
