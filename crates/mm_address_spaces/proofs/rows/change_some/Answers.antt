use Rattle.std.proofs.Common.{◌≡◌, ◌-◌, Some, None, sym, ap, ◌∙◌, subst, arith, length, take, drop, replicate}
use Rattle.mm_types.proofs.{some_found}
use Rattle.mm_vad.specs.{Region, SpaceOf}
use Rattle.mm_vad.proofs.{row_there, rows_whole}
use Rattle.mm_world.specs.{region_with}
use Rattle.mm_address_spaces.specs.{shown_row, shown_regions, changed_row}
use Rattle.mm_address_spaces.proofs.{here, run_changed, in_region}
use Rattle.mm_address_spaces.proofs.rows.change_some.Goals as goal

pub unreachable-requires : goal.unreachable-requires
unreachable-requires c =
    let gs = c.args.space.now.regions in
    let r = some_found (region_with (shown_regions gs) c.args.page) c.requires.there in
    let h = here gs c.args.page r.0 c.find.ensures.sound.whole r.1 in
    let bad : None ≡ Some h.region = c.in_default.ensures.found ∙ h.found in
    cc

pub overflow_sub-index : goal.overflow_sub-index
overflow_sub-index c = (row_there c.args.space.now.regions c.args.page c.in-Some.region.now c.in-Some.ensures.sound.whole (sym c.in-Some.ensures.found)).0

pub overflow_sub-region : goal.overflow_sub-region
overflow_sub-region c =
    let gs = c.args.space.now.regions in
    let g = c.in-Some.region.now in
    let whole : length g.rows ≡ g.pages = rows_whole gs c.args.page g c.in-Some.ensures.sound.whole (sym c.in-Some.ensures.found) in
    omega (arith, whole, (row_there gs c.args.page g c.in-Some.ensures.sound.whole (sym c.in-Some.ensures.found)).1)

pub equal_from-n-requires : goal.equal_from-n-requires
equal_from-n-requires c =
    let gs = c.args.space.now.regions in
    let g = c.in-Some.region.now in
    let whole : length g.rows ≡ g.pages = rows_whole gs c.args.page g c.in-Some.ensures.sound.whole (sym c.in-Some.ensures.found) in
    let row = row_there gs c.args.page g c.in-Some.ensures.sound.whole (sym c.in-Some.ensures.found) in
    record {
      inside = omega (arith, whole, c.min-most.ensures, row.1);
      asked = omega (arith, whole, c.min-most.ensures, c.requires.some, row.1);
    }

pub fill_rows-requires : goal.fill_rows-requires
fill_rows-requires c =
    let gs = c.args.space.now.regions in
    let g = c.in-Some.region.now in
    let n = c.equal_from-n.result.1 in
    let whole : length g.rows ≡ g.pages = rows_whole gs c.args.page g c.in-Some.ensures.sound.whole (sym c.in-Some.ensures.found) in
    in_region gs c.args.page n n g c.in-Some.ensures.sound (sym c.in-Some.ensures.found) (omega arith)
    (omega (arith, whole, c.min-most.ensures, c.equal_from-n.ensures.within, (row_there gs c.args.page g c.in-Some.ensures.sound.whole (sym c.in-Some.ensures.found)).1))

pub returns-clause-after : goal.returns-clause-after
returns-clause-after c = λ r e.
    let gs = c.args.space.now.regions in
    let n = c.equal_from-n.result.1 in
    let old = c.equal_from-n.result.0 in
    let h = here gs c.args.page r c.in-Some.ensures.sound.whole e in
    let both : Some h.region ≡ Some c.in-Some.region.now = sym h.found ∙ sym c.in-Some.ensures.found in
    let same : h.region ≡ c.in-Some.region.now = cc in
    ap (λ (s : SpaceOf). shown_regions s.regions) c.fill_rows.ensures.after
    ∙ run_changed gs c.args.page n n r h c.args.change old c.of-row.result (omega arith)
    (subst (λ (g : Region). take n (drop (c.args.page - g.base.0) g.rows) ≡ replicate n old) (sym same) c.equal_from-n.ensures.equal)
    (subst (λ (g : Region). shown_row g.kind c.of-row.result ≡ changed_row c.args.change g.kind (shown_row g.kind old)) (sym same) c.of-row.ensures)
