use Rattle.std.proofs.Common.{◌≡◌, ℕ, List, length, replicate, ap, ◌∙◌, subst, arith}
use Rattle.std.proofs.lemmas.List.{length-replicate}
use Rattle.mm_vad.specs.{Row, FilledSome, rows_joined}
use Rattle.mm_vad.proofs.{room_written, joined-equal, equal-rows}
use Rattle.mm_vad.proofs.written.WrittenRows.write_out.Goals as goal
use Rattle.mm_vad.proofs.written.WrittenRows.write_out.Goals.{After-refill}

pub invariant_of-self : goal.invariant_of-self
invariant_of-self c =
    let s = c.self.inside in (
      equal-rows s.room c.args.before c.renew.new.self.rows c.refill.new.list.items (omega arith) c.renew.ensures.rows c.refill.ensures.items,
      record { within = omega (arith, c.self.invariant.1.within, c.renew.ensures.room); behind = omega (arith, c.self.invariant.1.behind, c.refill.ensures.capacity) },
    )

-- all are equal before some are filled
renewed : (c : After-refill) → rows_joined c.renew.new.self.rows c.refill.new.list.items ≡ replicate c.self.inside.room c.args.before
renewed c = joined-equal c.self.inside.room c.args.before c.renew.new.self.rows c.refill.new.list.items c.renew.ensures.rows c.refill.ensures.items

pub fill_some-requires-clause-inside : goal.fill_some-requires-clause-inside
fill_some-requires-clause-inside c =
    let all = renewed (goal.at.fill_some-requires-clause-inside c).After-refill in
    omega (arith, c.requires.inside, room_written c.self.view_is, ap length all, length-replicate c.self.inside.room c.args.before)

pub returns-clause-filled : goal.returns-clause-filled
returns-clause-filled c =
    subst (λ (rs : List Row). FilledSome rs c.fill_some.new.self.rows c.args.first c.args.n c.args.row c.fill_some.result)
    (renewed (goal.at.returns-clause-filled c).After-refill ∙ ap (λ (n : ℕ). replicate n c.args.before) (room_written c.self.view_is)) c.fill_some.ensures.filled

pub returns-clause-room : goal.returns-clause-room
returns-clause-room c = c.fill_some.ensures.room ∙ room_written c.self.view_is
