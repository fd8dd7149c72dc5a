use Rattle.std.proofs.Common.{Option, option_map, refl, sym, ap, ◌∙◌}
use Rattle.mm_types.specs.{Frame}
use Rattle.mm_reclaim.proofs.{walk_begins, walk_ends, some_front, writable_here, walk_found, walk_goes_on}
use Rattle.mm_reclaim.proofs.searching.walk.Goals as goal

pub loop-i-init : goal.loop-i-init
loop-i-init g c = record {
  walks = walk_begins c.args.pinned (g.T.StateCalls.shown c.args.state.now) c.writable_count-n.result c.requires.begun c.requires.pinned c.requires.short c.writable_count-n.ensures;
  loans = refl;
}

pub unreachable-requires : goal.unreachable-requires
unreachable-requires g c = some_front c.args.pinned (g.T.StateCalls.shown c.args.state.now) (g.T.StateCalls.shown c.loop-i.state) c.writable_count-n.result c.loop-i.i (g.met.T.StateCalls.holds c.args.state.now) c.loop-i.invariant.walks c.loop-i-test.true
    (sym (ap (λ (o : Option Frame). option_map (λ f. f.0) o) c.in-None.is) ∙ c.first_writable.ensures)

pub write_frame-requires-clause-writable : goal.write_frame-requires-clause-writable
write_frame-requires-clause-writable g c = writable_here c.args.pinned (g.T.StateCalls.shown c.args.state.now) (g.T.StateCalls.shown c.loop-i.state) c.writable_count-n.result c.loop-i.i (g.met.T.StateCalls.holds c.args.state.now) c.loop-i.invariant.walks c.loop-i-test.true
    c.in-Some.f (sym (ap (λ (o : Option Frame). option_map (λ f. f.0) o) c.in-Some.is) ∙ c.first_writable.ensures)

pub returns-then-write_frame-clause-found : goal.returns-then-write_frame-clause-found
returns-then-write_frame-clause-found g c = walk_found c.args.pinned (g.T.StateCalls.shown c.args.state.now) (g.T.StateCalls.shown c.loop-i.state) c.writable_count-n.result c.loop-i.i (g.met.T.StateCalls.holds c.args.state.now) c.loop-i.invariant.walks c.loop-i-test.true
    c.in-Some.f (sym (ap (λ (o : Option Frame). option_map (λ f. f.0) o) c.in-Some.is) ∙ c.first_writable.ensures) (g.met.T.StateCalls.holds c.loop-i.state) (g.T.StateCalls.shown c.write_frame.new.state) c.if-write_frame.ensures.tries

pub loop-i-preserved : goal.loop-i-preserved
loop-i-preserved g c = record {
  walks = walk_goes_on c.args.pinned (g.T.StateCalls.shown c.args.state.now) (g.T.StateCalls.shown c.loop-i.state) c.writable_count-n.result c.loop-i.i (g.met.T.StateCalls.holds c.args.state.now) c.loop-i.invariant.walks c.loop-i-test.true
      c.in-Some.f (sym (ap (λ (o : Option Frame). option_map (λ f. f.0) o) c.in-Some.is) ∙ c.first_writable.ensures) (g.met.T.StateCalls.holds c.loop-i.state) (g.T.StateCalls.shown c.write_frame.new.state) c.if-write_frame.ensures.tries;
  loans = c.write_frame.ensures.loans ∙ c.loop-i.invariant.loans;
}

pub returns-clause-rest : goal.returns-clause-rest
returns-clause-rest g c = walk_ends c.args.pinned (g.T.StateCalls.shown c.args.state.now) (g.T.StateCalls.shown c.loop-i.state) c.writable_count-n.result c.loop-i.i c.requires.begun c.requires.short c.loop-i-test.false c.loop-i.invariant.walks
