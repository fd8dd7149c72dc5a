use Rattle.std.proofs.Common.{sym, ap, ◌∙◌}
use Rattle.mm_types.specs.{Record}
use Rattle.mm_pager.proofs.{changed_none, start_legal, changed_written}
use Rattle.mm_pager.proofs.flushing.write_changed.Goals as goal

pub returns-then-not-changed-clause-wrote : goal.returns-then-not-changed-clause-wrote
returns-then-not-changed-clause-wrote g c b e =
    changed_none b c.args.f (g.T.StateCalls.shown c.args.state.now) e (sym (ap (λ (r : Record). r.changed) c.look-changed.ensures) ∙ c.if-not-changed.true)

pub start_write-requires-clause-legal : goal.start_write-requires-clause-legal
start_write-requires-clause-legal g c =
    start_legal (g.T.StateCalls.shown c.args.state.now) c.args.f (g.met.T.StateCalls.holds c.args.state.now) c.requires.filed c.requires.kind c.requires.still (sym (ap (λ (r : Record). r.changed) c.look-changed.ensures) ∙ c.if-not-changed.false)

pub returns-clause-wrote : goal.returns-clause-wrote
returns-clause-wrote g c b e = changed_written b c.args.f c.start_write.result c.end_write.result (g.T.StateCalls.shown c.args.state.now) (g.T.StateCalls.shown c.start_write.new.self) (g.T.StateCalls.shown c.end_write.new.self) (g.met.T.StateCalls.holds c.args.state.now) (g.met.T.StateCalls.holds c.start_write.new.self) (g.met.T.StateCalls.holds c.end_write.new.self) c.requires.filed e c.requires.own c.requires.kind (sym (ap (λ (r : Record). r.changed) c.look-changed.ensures) ∙ c.if-not-changed.false)
    c.start_write.ensures.to c.start_write.ensures.made c.start_write.ensures.rest c.end_write.ensures.made c.end_write.ensures.rest c.end_write.ensures.wrote
