use Rattle.std.proofs.Common.{◌≡◌, ◌-◌, ap, ◌∙◌, List, map, ◌++◌, ◌∷◌, [], None}
use Rattle.std.specs.Prelude.{find, bytes_eq}
use Rattle.mm_types.specs.{Text}
use Rattle.mm_world.specs.{FileOf}
use Rattle.mm_sections.specs.{DirectoryOf, file_of}
use Rattle.mm_sections.proofs.{added_file, tables}
use Rattle.mm_sections.proofs.directories.Directory.add_file.Goals as goal

pub returns-clause-added : goal.returns-clause-added
returns-clause-added c =
    let s = c.self.inside in
    let unnamed : find (λ f. bytes_eq f.name c.new.result.name) (map file_of s.files.entries) ≡ None =
    ap (λ (t : Text). find (λ f. bytes_eq f.name t) (map file_of s.files.entries)) c.new.ensures
    ∙ ap (λ (v : DirectoryOf). find (λ f. bytes_eq f.name c.args.name) v.files) c.self.view_is ∙ c.requires.unnamed in
    let files = added_file s.files c.insert.new.self c.new.result c.args.area c.in-Ok.ensures.entries unnamed in
    ap (λ (fs : List FileOf). record { entries = tables s.sections.items; files = fs; spare = s.room - 1 }) files
    ∙ ap (λ (t : Text). record { entries = tables s.sections.items; files = map file_of s.files.entries ++ record { name = t; area = c.args.area.0 } ∷ []; spare = s.room - 1 }) c.new.ensures
    ∙ ap (λ (v : DirectoryOf). record { entries = v.entries; files = v.files ++ record { name = c.args.name; area = c.args.area.0 } ∷ []; spare = s.room - 1 }) c.self.view_is
