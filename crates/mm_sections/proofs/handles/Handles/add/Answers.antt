use Rattle.std.proofs.Common.{◌≡◌, ap, ◌∙◌, sym, length, ◌++◌, ◌∷◌, [], Some, arith}
use Rattle.std.specs.Prelude.{nat_eq}
use Rattle.indexmap.specs.IndexMap.{get}
use Rattle.mm_sections.specs.{HandlesOf}
use Rattle.mm_sections.proofs.{length_shown, shown_more, open_more}
use Rattle.mm_sections.proofs.handles.Handles.add.Goals as goal

pub invariant_of-self : goal.invariant_of-self
invariant_of-self c =
    let s = c.self.inside in
    let count : length c.args.self.now.entries ≡ s.next = sym (ap (λ (h : HandlesOf). length h.entries) c.self.view_is) ∙ length_shown (get nat_eq s.sections) s.next in
    open_more (get nat_eq s.sections) s.lowest s.next c.self.invariant (get nat_eq c.insert.new.self) c.args.id c.in-Ok.ensures.updates.0 (omega (arith, c.requires.few, count))

pub returns-clause-handle : goal.returns-clause-handle
returns-clause-handle c =
    let s = c.self.inside in
    let count : length c.args.self.now.entries ≡ s.next = sym (ap (λ (h : HandlesOf). length h.entries) c.self.view_is) ∙ length_shown (get nat_eq s.sections) s.next in
    omega (arith, count)

pub returns-clause-added : goal.returns-clause-added
returns-clause-added c =
    let s = c.self.inside in
    shown_more (get nat_eq s.sections) s.lowest s.next c.self.invariant (get nat_eq c.insert.new.self) c.args.id c.in-Ok.ensures.updates.0
    ∙ ap (λ (h : HandlesOf). h.entries ++ Some c.args.id.0 ∷ []) c.self.view_is
