use Rattle.std.proofs.Common.{◌<◌, length, arith, sym, ap, ◌∙◌}
use Rattle.mm_ram.specs.declared.contents.Contents.TheVariants as contains
use Rattle.std.proofs.lemmas.List.{get_or_read}
use Rattle.mm_ram.specs.{has_bytes}
use Rattle.mm_ram.proofs.{as_long, filled_at, empty_at}
use Rattle.mm_ram.proofs.ram.put_page.Goals as goal

pub get_mut-requires : goal.get_mut-requires
get_mut-requires c =
    let places = c.args.cells.now.slots in
    let contents = c.args.contents.now.items in
    let low : c.args.i < length contents = omega (arith, c.requires.there, as_long places contents c.requires.filled) in
    let has = ap has_bytes (sym (get_or_read contents c.args.i c.index.result.now low c.index.ensures contains.Unwritten)) ∙ sym c.has_bytes.ensures ∙ c.if-has_bytes.true in
    (c.requires.at, filled_at places contents c.requires.filled c.args.i has)

pub write-requires : goal.write-requires
write-requires c =
    let places = c.args.cells.now.slots in
    let contents = c.args.contents.now.items in
    let low : c.args.i < length contents = omega (arith, c.requires.there, as_long places contents c.requires.filled) in
    let has = ap has_bytes (sym (get_or_read contents c.args.i c.index.result.now low c.index.ensures contains.Unwritten)) ∙ sym c.has_bytes.ensures ∙ c.if-has_bytes.false in
    (c.requires.at, c.requires.there, empty_at places contents c.requires.filled c.args.i has)
