use Rattle.std.proofs.Common.{◌<◌, ℕ, List, Option, Some, length, set, arith, refl, sym, ap, ◌∙◌}
use Rattle.mm_ram.specs.declared.contents.Contents.TheVariants as contains
use Rattle.mm_ram.proofs.{seen, frame_low, seen_filled, ram_over, ram_put}
use Rattle.mm_ram.proofs.ram.Ram.fill_from.Goals as goal

pub fill_place-requires-clause-low : goal.fill_place-requires-clause-low
fill_place-requires-clause-low g c = frame_low (seen c.self.invariant c.self.view_is) c.args.f.0 c.requires.frame

pub invariant_of-self-2 : goal.invariant_of-self-2
invariant_of-self-2 g c =
    let f = c.args.f.0 in
    let n = c.fill_place.new in
    let e = c.fill_place.ensures in
    let low = frame_low (seen c.self.invariant c.self.view_is) f c.requires.frame in
    let there : f < length n.cells.slots = omega (arith, low, e.long) in
    let r = ram_over c.self.invariant n.cells.at n.cells.slots n.contents.items e.at e.long e.kept in
    ram_put r f c.read_page.new.page there c.read_page.ensures.whole n.cells.at (set n.cells.slots f (Some c.read_page.new.page)) (set n.contents.items f contains.Bytes) refl refl refl

pub returns-clause-ok : goal.returns-clause-ok
returns-clause-ok g c =
    let f = c.args.f.0 in
    let n = c.fill_place.new in
    let e = c.fill_place.ensures in
    let r = ram_over c.self.invariant n.cells.at n.cells.slots n.contents.items e.at e.long e.kept in
    seen_filled (seen r (e.same ∙ c.self.view_is)) f c.read_page.new.page (set n.cells.slots f (Some c.read_page.new.page)) (set n.contents.items f contains.Bytes) refl refl
    ∙ ap (λ (o : Option (List ℕ)). set c.args.self.now f o) (sym c.in_ok-read_page.ensures.ok)
