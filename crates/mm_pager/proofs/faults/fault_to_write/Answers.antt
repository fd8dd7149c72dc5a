use Rattle.std.proofs.Common.{rules, Option, Some, unwrap_or, sym, ap, ◌∙◌}
use Rattle.mm_types.specs.{Key}
use Rattle.mm_move_rules.specs.{is_touch}
use Rattle.mm_pager.specs.{IsFresh}
use Rattle.mm_pager.proofs.{went_then, went_soil}
use Rattle.mm_pager.proofs.faults.fault_to_write.Goals as goal

pub set_dirty-requires-clause-touch : goal.set_dirty-requires-clause-touch
set_dirty-requires-clause-touch g c = ap is_touch (c.in_ok-f.ensures.ok.placed.kind ∙ c.requires.may.access)

pub returns-clause-ok : goal.returns-clause-ok
returns-clause-ok g c = record {
  went = λ a e w own b. went_then a IsFresh 1 0 (g.T.StateCalls.shown c.args.state.now) (g.T.StateCalls.shown c.fault.new.state) (g.T.StateCalls.shown c.set_dirty.new.state) (c.in_ok-f.ensures.ok.went a e b)
      (went_soil a c.in_ok-f.f _ _ w (ap (g.T.StateCalls.shown c.fault.new.state).life.valid e ∙ c.in_ok-f.ensures.ok.placed.valid)
      ((g.met.T.StateCalls.holds c.fault.new.state).owner c.args.key c.in_ok-f.f c.in_ok-f.ensures.ok.placed.frame.stands ∙ ap (λ (k : Key). Some k) (sym b.needs) ∙ ap (λ (o : Option Key). Some (unwrap_or o a.need.key)) (sym own)) c.set_dirty.ensures.soils);
  calm = search rules;
  framed = search rules;
  valid = search rules;
  soiled = search rules;
  names = search rules;
  same = search rules;
}
