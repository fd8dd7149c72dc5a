use Rattle.std.proofs.Common.{ap, ◌∙◌, is_some, arith}
use Rattle.std.specs.Prelude.{option_map, map}
use Rattle.std.proofs.lemmas.List.{length-set}
use Rattle.mm_world.specs.{numbered}
use Rattle.mm_sections.specs.{DirectoryOf, recounted, file_of, found_by}
use Rattle.mm_sections.proofs.{Changes, within, some_of, there, changed_directory, counted_index, same_section}
use Rattle.mm_sections.proofs.directories.Directory.recount.Goals as goal

changes : (c : goal.After-self-1) → Changes c.self.inside.sections.items c.args.id.0 c.index_mut.result.now c.recount.new.section (option_map (recounted c.args.change))
changes c = record {
  inside = within c.self.inside.sections.items c.args.id.0 (ap (λ (v : DirectoryOf). is_some (numbered v.entries c.args.id.0)) c.self.view_is ∙ some_of _ _ c.requires.counts);
  was = c.index_mut.ensures.value;
  is = c.recount.ensures;
}

pub recount-requires : goal.recount-requires
recount-requires c = record { counts = there c.self.inside.sections.items c.args.id.0 _ _ _ c.index_mut.ensures.value c.self.view_is c.requires.counts }

pub invariant_of-self : goal.invariant_of-self
invariant_of-self c =
    let s = c.self.inside in (
      omega (arith, c.self.invariant.0, length-set s.sections.items c.args.id.0 c.recount.new.section),
      counted_index (found_by s.names) s.sections.items c.args.id.0 _ _ _ (same_section c.args.change) (changes c) c.self.invariant.1,
      c.self.invariant.2,
    )

pub returns : goal.returns
returns c = changed_directory _ _ _ _ _ (changes c) (map file_of c.self.inside.files.entries) c.self.inside.room _ c.self.view_is
