use Rattle.std.proofs.Common.{◌*◌, ap, ◌∙◌, sym, cond, Some, None, is_some, ℕ}
use Rattle.std.specs.Prelude.{nat_eq, option_map, position}
use Rattle.indexmap.specs.IndexMap.{get}
use Rattle.mm_sections.specs.{HandlesOf, handle_at}
use Rattle.std.proofs.lemmas.Bool.{lt-ltb, le-ltb}
use Rattle.mm_sections.proofs.{lowest_is}
use Rattle.mm_sections.proofs.handles.Handles.lowest.Goals as goal

pub returns-then-self : goal.returns-then-self
returns-then-self c =
    let s = c.self.inside in
    ap (λ b. cond b (Some (4 * s.lowest)) None) (sym (lt-ltb s.lowest s.next c.if-self.true))
    ∙ sym (lowest_is (get nat_eq s.sections) s.lowest s.next c.self.invariant)
    ∙ ap (λ (h : HandlesOf). option_map handle_at (position (is_some {T = ℕ}) h.entries)) c.self.view_is

pub returns-else-self : goal.returns-else-self
returns-else-self c =
    let s = c.self.inside in
    ap (λ b. cond b (Some (4 * s.lowest)) None) (sym (le-ltb s.lowest s.next c.if-self.false))
    ∙ sym (lowest_is (get nat_eq s.sections) s.lowest s.next c.self.invariant)
    ∙ ap (λ (h : HandlesOf). option_map handle_at (position (is_some {T = ℕ}) h.entries)) c.self.view_is
