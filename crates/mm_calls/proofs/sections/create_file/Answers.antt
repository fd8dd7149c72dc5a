use Rattle.std.proofs.Common.{◌∙◌, sym}
use Rattle.mm_calls.proofs.Named.{maybe_lives, file_told}
use Rattle.mm_calls.proofs.sections.create_file.Goals as goal

pub add_existing-requires-clause-section : goal.add_existing-requires-clause-section
add_existing-requires-clause-section c = maybe_lives c.args.t.now c.args.name c.in-Some-section_with.id (sym c.section_with.ensures ∙ c.in-Some-section_with.is)

pub add_file_section-requires-clause-file : goal.add_file_section-requires-clause-file
add_file_section-requires-clause-file c = file_told c.args.t.now c.args.file.now c.in-Some.area c.sound.ensures.tidy (sym c.file_named.ensures ∙ c.in-Some.is)
