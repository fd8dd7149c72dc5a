use Rattle.std.proofs.Common.{◌∙◌, ◌++◌, ◌∷◌, [], ℕ, Some, ap}
use Rattle.mm_sections.specs.{DirectoryOf, new_entry}
use Rattle.mm_object_tables.proofs.{handled_last}
use Rattle.mm_object_tables.proofs.sections.list_section.Goals as goal

pub returns-clause-entries : goal.returns-clause-entries
returns-clause-entries c =
    ap (λ (d : DirectoryOf). d.entries) c.add_handle.ensures
    ∙ handled_last c.args.directory.now.entries c.add_section-id.new.self.entries (new_entry c.args.prot.0 c.args.name c.args.area.0) c.add_section-id.result.0
    (ap (λ (d : DirectoryOf). d.entries) c.add_section-id.ensures.added) c.add_section-id.ensures.number

pub returns-clause-given : goal.returns-clause-given
returns-clause-given c = c.add.ensures.added ∙ ap (λ (n : ℕ). c.args.handles.now.entries ++ Some n ∷ []) c.add_section-id.ensures.number
