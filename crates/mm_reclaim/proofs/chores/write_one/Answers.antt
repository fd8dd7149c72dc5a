use Rattle.std.proofs.Common.{Option, option_map, sym, ap, ◌∙◌}
use Rattle.mm_types.specs.{Frame}
use Rattle.mm_reclaim.proofs.{writes}
use Rattle.mm_reclaim.proofs.chores.write_one.Goals as goal

pub returns-in-Some-clause-writes : goal.returns-in-Some-clause-writes
returns-in-Some-clause-writes g c = writes (g.T.StateCalls.shown c.args.state.now) (g.T.StateCalls.shown c.start_write-to.new.self) c.in-Some.f c.start_write-to.result (g.met.T.StateCalls.holds c.args.state.now) (sym c.has_depth.ensures ∙ c.if-not-has_depth.false)
    (sym (sym (ap (λ (o : Option Frame). option_map (λ f. f.0) o) c.in-Some.is) ∙ c.first_writable.ensures)) c.start_write-to.ensures.to c.start_write-to.ensures.made c.requires.kind c.start_write-to.ensures.rest
