use Rattle.std.proofs.Common.{ap, ◌∙◌, sym, is_some, is_none, arith}
use Rattle.std.specs.Prelude.{map, option_and_then}
use Rattle.std.proofs.lemmas.List.{length-set}
use Rattle.mm_world.specs.{numbered}
use Rattle.mm_sections.specs.{DirectoryOf, section_settled, file_of, found_by}
use Rattle.mm_sections.proofs.{Changes, within, shown_then, changed_directory, settled_index, ended_is}
use Rattle.mm_sections.proofs.directories.Directory.settle.Goals as goal

changes : (c : goal.After-forget) → Changes c.self.inside.sections.items c.args.id.0 c.index_mut-section.result.now c.settle-name.new.section (option_and_then section_settled)
changes c = record {
  inside = within c.self.inside.sections.items c.args.id.0 (ap (λ (v : DirectoryOf). is_some (numbered v.entries c.args.id.0)) c.self.view_is ∙ c.requires.lives);
  was = c.index_mut-section.ensures.value;
  is = c.settle-name.ensures.settled;
}

pub invariant_of-self : goal.invariant_of-self
invariant_of-self c =
    let s = c.self.inside in
    let room = c.self.invariant.2 in (
      omega (arith, c.self.invariant.0, length-set s.sections.items c.args.id.0 c.settle-name.new.section),
      settled_index (found_by s.names) (found_by c.forget.new.names) s.sections.items c.args.id.0 _ _ (changes c) c.settle-name.result c.settle-name.ensures.name c.forget.ensures.found c.self.invariant.1,
      record { first = room.first; second = omega (arith, room.second, c.forget.ensures.room); third = room.third },
    )

pub returns-clause-settled : goal.returns-clause-settled
returns-clause-settled c = changed_directory _ _ _ _ _ (changes c) (map file_of c.self.inside.files.entries) c.self.inside.room _ c.self.view_is

pub returns-clause-ended : goal.returns-clause-ended
returns-clause-ended c =
    ended_is c.settle-name.new.section c.is_none-ended.result c.is_none-ended.ensures
    ∙ ap is_none (sym (shown_then c.self.inside.sections.items c.args.id.0 c.settle-name.new.section (changes c).inside))
