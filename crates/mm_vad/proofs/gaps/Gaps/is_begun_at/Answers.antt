use Rattle.std.proofs.Common.{ap, sym, ◌∙◌}
use Rattle.std.specs.Prelude.{find, nat_le}
use Rattle.mm_types.specs.{first_user_page}
use Rattle.mm_vad.proofs.{begins_at, begun_is, mapped_none, mapped_begins_at}
use Rattle.mm_vad.proofs.gaps.Gaps.is_begun_at.Goals as goal

pub returns-in-None : goal.returns-in-None
returns-in-None c =
    let found = find (λ r. nat_le c.args.first.0 r.first) c.args.self.now.ranges in
    let none = mapped_none found (sym c.first_from.ensures.found ∙ c.in-None.is) in
    sym (begun_is c.args.first.0 first_user_page c.args.self.now.ranges c.first_from.ensures.apart ∙ ap (begins_at c.args.first.0) none)

pub returns-in-Some : goal.returns-in-Some
returns-in-Some c =
    let found = find (λ r. nat_le c.args.first.0 r.first) c.args.self.now.ranges in
    let is = mapped_begins_at c.args.first.0 found c.in-Some.next c.in-Some.field-0-1 (sym c.first_from.ensures.found ∙ c.in-Some.is) in
    sym (begun_is c.args.first.0 first_user_page c.args.self.now.ranges c.first_from.ensures.apart ∙ is)
