use Rattle.std.proofs.Common.{◌+◌, ap, sym, ◌∙◌, not, arith}
use Rattle.std.specs.Prelude.{is_some, find, nat_le}
use Rattle.std.proofs.lemmas.Bool.{and_right}
use Rattle.mm_types.specs.{first_user_page, holds_page, are_user_pages}
use Rattle.mm_vad.specs.{range_at}
use Rattle.mm_vad.proofs.{begins_from, met_at, met_is, is_free-from, not_not, mapped_none, mapped_some, mapped_begins_from}
use Rattle.mm_vad.proofs.gaps.Gaps.is_free.Goals as goal
use Rattle.mm_types.proofs.{none_of}

pub returns-then-is_some : goal.returns-then-is_some
returns-then-is_some c =
    let held = find (λ r. holds_page r c.args.first.0) c.args.self.now.ranges in
    let some = sym (mapped_some held) ∙ ap is_some (sym c.at.ensures.found) ∙ sym c.is_some.ensures ∙ c.if-is_some.true in
    let met = met_at c.args.first.0 c.args.n c.args.self.now.ranges c.requires some in
    sym (and_right (are_user_pages (range_at c.args.first.0 c.args.n)) _ (ap not met))

pub returns-in-None : goal.returns-in-None
returns-in-None c =
    let first = c.args.first.0 in
    let taken = c.args.self.now.ranges in
    let held = find (λ r. holds_page r first) taken in
    let none = none_of held (sym (mapped_some held) ∙ ap is_some (sym c.at.ensures.found) ∙ sym c.is_some.ensures ∙ c.if-is_some.false) in
    let next = mapped_none (find (λ r. nat_le first r.first) taken) (sym c.first_from.ensures.found ∙ c.in-None.is) in
    let met = met_is first c.args.n first_user_page taken c.requires c.at.ensures.apart none ∙ ap (λ o. not (begins_from (first + c.args.n) o)) next in
    sym (is_free-from taken first c.args.n _ c.if-first-lt-FIRST_USER_PAGE.false (omega arith) met)

pub returns-in-Some : goal.returns-in-Some
returns-in-Some c =
    let first = c.args.first.0 in
    let taken = c.args.self.now.ranges in
    let held = find (λ r. holds_page r first) taken in
    let none = none_of held (sym (mapped_some held) ∙ ap is_some (sym c.at.ensures.found) ∙ sym c.is_some.ensures ∙ c.if-is_some.false) in
    let next = mapped_begins_from (first + c.args.n) (find (λ r. nat_le first r.first) taken) c.in-Some.next c.in-Some.field-0-1 (sym c.first_from.ensures.found ∙ c.in-Some.is) in
    let met = met_is first c.args.n first_user_page taken c.requires c.at.ensures.apart none ∙ ap not next in
    sym (is_free-from taken first c.args.n _ c.if-first-lt-FIRST_USER_PAGE.false (omega arith) met ∙ not_not (nat_le (first + c.args.n) c.in-Some.next.0))
