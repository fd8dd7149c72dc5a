use Rattle.std.proofs.Common.{◌≡◌, ◌/◌, ap, ◌∙◌, true, is_some, None}
use Rattle.std.specs.Prelude.{nat_eq, slice_set}
use Rattle.indexmap.specs.IndexMap.{get}
use Rattle.mm_sections.specs.{HandlesOf, held}
use Rattle.mm_sections.proofs.{shown, shown_less, open_less}
use Rattle.mm_sections.proofs.handles.Handles.close.Goals as goal

pub invariant_of-self : goal.invariant_of-self
invariant_of-self c =
    let s = c.self.inside in
    let find = get nat_eq s.sections in
    let there : is_some (held (shown find s.next) c.args.handle) ≡ true = ap (λ (h : HandlesOf). is_some (held h.entries c.args.handle)) c.self.view_is ∙ c.requires in
    open_less find s.lowest s.next c.self.invariant (get nat_eq c.swap_remove.new.self) c.args.handle c.swap_remove.ensures.updates.0 there
    c.first_open.result c.first_open.ensures.from c.first_open.ensures.end c.first_open.ensures.before c.first_open.ensures.found

pub returns-clause-closed : goal.returns-clause-closed
returns-clause-closed c =
    let s = c.self.inside in
    let find = get nat_eq s.sections in
    let there : is_some (held (shown find s.next) c.args.handle) ≡ true = ap (λ (h : HandlesOf). is_some (held h.entries c.args.handle)) c.self.view_is ∙ c.requires in
    shown_less find s.lowest s.next c.self.invariant (get nat_eq c.swap_remove.new.self) c.args.handle c.swap_remove.ensures.updates.0 there
    ∙ ap (λ (h : HandlesOf). slice_set h.entries (c.args.handle / 4) None) c.self.view_is
