use Rattle.std.proofs.Common.{◌∙◌, sym}
use Rattle.mm_calls.proofs.Named.{told_lives}
use Rattle.mm_calls.proofs.sections.open_section.Goals as goal

pub add_handle-requires-clause-section : goal.add_handle-requires-clause-section
add_handle-requires-clause-section c = told_lives c.args.t.now c.args.name.now c.in-Some.id (sym c.section_named.ensures ∙ c.in-Some.is)
