use Rattle.std.proofs.Common.{◌≡◌, ap, ◌∙◌, replicate, rules, List, Option, Bool, true, Some, map}
use Rattle.mm_world.specs.{AreaOf}
use Rattle.mm_world.proofs.{map-replicate}
use Rattle.mm_sections.specs.{page_if}
use Rattle.mm_sections.proofs.section_pages.SectionPages.of_file.Goals as goal

pub returns : goal.returns
returns c =
    let made : c.in_ok-vec.field-0.items ≡ replicate c.args.pages true = search rules in
    let area : List (Option (Unit {0})) → AreaOf (Unit {0}) = λ pages. record { file_block = Some c.args.first.0; pages = pages } in
    ap (λ (xs : List Bool). area (map page_if xs)) made ∙ ap area (map-replicate page_if c.args.pages true)
