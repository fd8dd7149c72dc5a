use Rattle.std.proofs.Common.{ap, ◌∙◌, option_map}
use Rattle.std.specs.Prelude.{nat_eq}
use Rattle.indexmap.specs.IndexMap.{get}
use Rattle.mm_sections.specs.{HandlesOf, held, section_number}
use Rattle.mm_sections.proofs.{held_is}
use Rattle.mm_sections.proofs.handles.Handles.section.Goals as goal

pub returns : goal.returns
returns c =
    let s = c.self.inside in
    ap (option_map section_number) (c.copied.ensures ∙ c.get.ensures.value)
    ∙ held_is (get nat_eq s.sections) s.lowest s.next c.self.invariant c.args.handle
    ∙ ap (λ (h : HandlesOf). held h.entries c.args.handle) c.self.view_is
