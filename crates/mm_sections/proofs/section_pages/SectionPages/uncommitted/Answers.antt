use Rattle.std.proofs.Common.{◌≡◌, ℕ, ◌+◌, ◌-◌, ap, ◌∙◌, List, Bool, not, take, drop, arith}
use Rattle.std.specs.Prelude.{count_by}
use Rattle.mm_world.specs.{AreaOf}
use Rattle.mm_sections.specs.{uncommitted_in}
use Rattle.mm_sections.proofs.{uncommitted-map}
use Rattle.mm_sections.proofs.section_pages.SectionPages.uncommitted.Goals as goal

pub returns : goal.returns
returns c =
    let first = c.args.first in
    let count = c.args.count in
    let count_is : first + count - first ≡ count = omega arith in
    c.uncommitted_among.ensures
    ∙ ap (λ (xs : List Bool). count_by not (take (first + count - first) (drop first xs))) c.deref.ensures.value
    ∙ ap (λ (n : ℕ). count_by not (take n (drop first c.self.inside.committed.items))) count_is
    ∙ uncommitted-map first count c.self.inside.committed.items
    ∙ ap (λ (a : AreaOf (Unit {0})). uncommitted_in a first count) c.self.view_is
