use Rattle.std.proofs.Common.{ap, ◌∙◌, sym}
use Rattle.std.specs.Prelude.{find, option_map, bytes_eq}
use Rattle.std.specs.HashMap.{get_by}
use Rattle.mm_types.specs.{Text}
use Rattle.mm_sections.specs.{DirectoryOf, area_of, name_key, same_name}
use Rattle.mm_sections.proofs.{found_file}
use Rattle.mm_sections.proofs.directories.Directory.file.Goals as goal

pub returns : goal.returns
returns c =
    let s = c.self.inside in
    c.copied.ensures ∙ c.get.ensures.value
    ∙ ap (λ (t : Text). get_by (same_name (name_key t)) s.files) c.new.ensures
    ∙ sym (found_file c.args.name.now s.files.entries)
    ∙ ap (λ (v : DirectoryOf). option_map area_of (find (λ f. bytes_eq f.name c.args.name.now) v.files)) c.self.view_is
