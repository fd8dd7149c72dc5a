use Rattle.std.proofs.Common.{◌≡◌, ap, ◌∙◌, sym, subst, length, None, arith}
use Rattle.std.specs.Prelude.{position, IfSome}
use Rattle.mm_world.specs.{is_named}
use Rattle.mm_sections.specs.{DirectoryOf, sections_of, found_by}
use Rattle.mm_sections.proofs.{tables, added_index, length_tables}
use Rattle.mm_sections.proofs.directories.Directory.add_section.Goals as goal

pub invariant_of-self : goal.invariant_of-self
invariant_of-self c =
    let s = c.self.inside in
    let room = c.self.invariant.2 in
    let count : length (tables s.sections.items) ≡ length c.args.self.now.entries = ap (λ (v : DirectoryOf). length v.entries) c.self.view_is in
    let fresh : IfSome c.args.name (λ name. position (is_named name) (sections_of (tables s.sections.items)) ≡ None) =
    subst (λ (v : DirectoryOf). IfSome c.args.name (λ name. position (is_named name) (sections_of v.entries) ≡ None)) (sym c.self.view_is) c.requires.unnamed in
    let pushed = c.in-Ok.ensures in (
      omega (arith, pushed.lower_bound, length_tables s.sections.items, count, c.requires.few),
      added_index (found_by s.names) (found_by c.remember.new.names) s.sections.items c.push.new.self.items _ c.made.result pushed.items (c.made.ensures.made ∙ sym count) fresh c.remember.ensures.found c.self.invariant.1,
      record { first = omega (arith, room.first, pushed.len, pushed.capacity); second = omega (arith, room.second, c.remember.ensures.room); third = omega (arith, room.third) },
    )
