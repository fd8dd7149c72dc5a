use Rattle.std.proofs.Common.{ap, ◌∙◌}
use Rattle.std.specs.Prelude.{position, option_map}
use Rattle.std.specs.HashMap.{get_by}
use Rattle.mm_types.specs.{Text}
use Rattle.mm_world.specs.{is_named}
use Rattle.mm_sections.specs.{DirectoryOf, sections_of, id_of, name_key, same_name}
use Rattle.mm_sections.proofs.{named_number, tables}
use Rattle.mm_sections.proofs.directories.Directory.named.Goals as goal

pub returns : goal.returns
returns c =
    let s = c.self.inside in
    c.copied.ensures ∙ c.get.ensures.value
    ∙ ap (λ (t : Text). get_by (same_name (name_key t)) s.names) c.new.ensures
    ∙ named_number s.names (sections_of (tables s.sections.items)) c.args.name.now c.self.invariant.1
    ∙ ap (λ (v : DirectoryOf). option_map id_of (position (is_named c.args.name.now) (sections_of v.entries))) c.self.view_is
