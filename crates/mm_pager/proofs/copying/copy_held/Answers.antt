use Rattle.std.proofs.Common.{true, Some, ap, ◌∙◌}
use Rattle.std.specs.Prelude.{is_some}
use Rattle.mm_move_rules.specs.{key_of_place, record_at, is_read, touches}
use Rattle.mm_pager.proofs.{touches_touch, held_given, copied_from, copied_to, some_of, other_frame, went_held, made_copied, may_copy, shows_held, search_left}
use Rattle.mm_pager.proofs.copying.copy_held.Goals as goal

pub assign_copy-own-requires-clause-may : goal.assign_copy-own-requires-clause-may
assign_copy-own-requires-clause-may g c = may_copy c.args.from c.args.f c.args.place (g.T.StateCalls.shown c.args.state.now) (g.T.StateCalls.shown c.find.new.state) (g.met.T.StateCalls.holds c.find.new.state) c.requires.may c.in_ok-find.ensures.ok

pub put_copy-requires-clause-shows : goal.put_copy-requires-clause-shows
put_copy-requires-clause-shows g c = shows_held c.args.from c.args.f c.args.place (g.T.StateCalls.shown c.assign_copy-own.new.state) (g.met.T.StateCalls.holds c.assign_copy-own.new.state) c.requires.may.shared (held_given c.args.from c.args.f c.assign_copy-own.result c.args.place (g.T.StateCalls.shown c.args.state.now) (g.T.StateCalls.shown c.find.new.state) (g.T.StateCalls.shown c.assign_copy-own.new.state) c.requires.may c.in_ok-find.ensures.ok c.assign_copy-own.ensures.gave)

pub copy-requires-clause-from_owned : goal.copy-requires-clause-from_owned
copy-requires-clause-from_owned g c = some_of (record_at (g.T.StateCalls.shown c.put_copy.new.state).life.frames c.args.f.0).owner c.args.from (copied_from c.args.from c.args.f c.assign_copy-own.result c.args.place (g.T.StateCalls.shown c.args.state.now) (g.T.StateCalls.shown c.find.new.state) (g.T.StateCalls.shown c.assign_copy-own.new.state) (g.T.StateCalls.shown c.put_copy.new.state) (g.met.T.StateCalls.holds c.assign_copy-own.new.state) (g.met.T.StateCalls.holds c.put_copy.new.state) c.requires.may c.in_ok-find.ensures.ok c.assign_copy-own.ensures.gave c.put_copy.ensures.put)

pub copy-requires-clause-other : goal.copy-requires-clause-other
copy-requires-clause-other g c = other_frame c.args.from c.args.place c.args.f c.assign_copy-own.result (g.T.StateCalls.shown c.put_copy.new.state) c.requires.may.shared (copied_from c.args.from c.args.f c.assign_copy-own.result c.args.place (g.T.StateCalls.shown c.args.state.now) (g.T.StateCalls.shown c.find.new.state) (g.T.StateCalls.shown c.assign_copy-own.new.state) (g.T.StateCalls.shown c.put_copy.new.state) (g.met.T.StateCalls.holds c.assign_copy-own.new.state) (g.met.T.StateCalls.holds c.put_copy.new.state) c.requires.may c.in_ok-find.ensures.ok c.assign_copy-own.ensures.gave c.put_copy.ensures.put) (copied_to c.assign_copy-own.result c.args.place (g.T.StateCalls.shown c.find.new.state) (g.T.StateCalls.shown c.assign_copy-own.new.state) (g.T.StateCalls.shown c.put_copy.new.state) (g.met.T.StateCalls.holds c.put_copy.new.state) c.assign_copy-own.ensures.gave c.put_copy.ensures.put)

pub assign_copy-own-requires-clause-touch : goal.assign_copy-own-requires-clause-touch
assign_copy-own-requires-clause-touch g c = ap (touches c.args.place.pid.0) (search_left (Some c.args.f) true (g.T.StateCalls.shown c.args.state.now) (g.T.StateCalls.shown c.find.new.state) c.in_ok-find.ensures.ok).life.kind ∙ c.requires.touch

pub put_copy-requires-clause-touch : goal.put_copy-requires-clause-touch
put_copy-requires-clause-touch g c = ap (touches c.args.place.pid.0) (c.assign_copy-own.ensures.gave.life.kind ∙ (search_left (Some c.args.f) true (g.T.StateCalls.shown c.args.state.now) (g.T.StateCalls.shown c.find.new.state) c.in_ok-find.ensures.ok).life.kind) ∙ c.requires.touch

pub copy-requires-clause-from_calm : goal.copy-requires-clause-from_calm
copy-requires-clause-from_calm g c = ap is_read (c.put_copy.ensures.put.quiet c.args.f.0) ∙ (g.met.T.StateCalls.holds c.assign_copy-own.new.state).unread c.args.place c.args.f (held_given c.args.from c.args.f c.assign_copy-own.result c.args.place (g.T.StateCalls.shown c.args.state.now) (g.T.StateCalls.shown c.find.new.state) (g.T.StateCalls.shown c.assign_copy-own.new.state) c.requires.may c.in_ok-find.ensures.ok c.assign_copy-own.ensures.gave).valid

pub returns-clause-went : goal.returns-clause-went
returns-clause-went g c a p = went_held a c.args.place c.args.f (g.T.StateCalls.shown c.args.state.now) (g.T.StateCalls.shown c.find.new.state) (g.T.StateCalls.shown c.assign_copy-own.new.state) (g.T.StateCalls.shown c.put_copy.new.state) (g.T.StateCalls.shown c.copy.new.self) (record { touch = touches_touch c.args.place.pid.0 _ c.requires.touch; access = c.requires.access }) p c.in_ok-find.ensures.ok (c.assign_copy-own.ensures.gave.took a p.at p.copy (ap is_some ((search_left (Some c.args.f) true (g.T.StateCalls.shown c.args.state.now) (g.T.StateCalls.shown c.find.new.state) c.in_ok-find.ensures.ok).valid c.args.place p.valid))) (c.put_copy.ensures.put.went a p.at p.copy) c.copy.ensures.rest

pub returns-clause-copied : goal.returns-clause-copied
returns-clause-copied g c = made_copied c.args.from c.args.place c.args.f c.assign_copy-own.result (g.T.StateCalls.shown c.args.state.now) (g.T.StateCalls.shown c.find.new.state) (g.T.StateCalls.shown c.assign_copy-own.new.state) (g.T.StateCalls.shown c.put_copy.new.state) (g.T.StateCalls.shown c.copy.new.self) (record {
  may = c.requires.may;
  found = c.in_ok-find.ensures.ok;
  gave = c.assign_copy-own.ensures.gave;
  holds = g.met.T.StateCalls.holds c.assign_copy-own.new.state;
  put = c.put_copy.ensures.put;
  left = g.met.T.StateCalls.holds c.put_copy.new.state;
  bytes = c.copy.ensures.copied c.args.from (key_of_place c.args.place)
      (copied_from c.args.from c.args.f c.assign_copy-own.result c.args.place (g.T.StateCalls.shown c.args.state.now) (g.T.StateCalls.shown c.find.new.state) (g.T.StateCalls.shown c.assign_copy-own.new.state) (g.T.StateCalls.shown c.put_copy.new.state) (g.met.T.StateCalls.holds c.assign_copy-own.new.state) (g.met.T.StateCalls.holds c.put_copy.new.state) c.requires.may c.in_ok-find.ensures.ok c.assign_copy-own.ensures.gave c.put_copy.ensures.put)
      (copied_to c.assign_copy-own.result c.args.place (g.T.StateCalls.shown c.find.new.state) (g.T.StateCalls.shown c.assign_copy-own.new.state) (g.T.StateCalls.shown c.put_copy.new.state) (g.met.T.StateCalls.holds c.put_copy.new.state) c.assign_copy-own.ensures.gave c.put_copy.ensures.put);
  rest = c.copy.ensures.rest;
})

pub find-requires-clause-shares : goal.find-requires-clause-shares
find-requires-clause-shares g c f e = (g.met.T.StateCalls.holds c.args.state.now).shared c.args.place f (c.requires.may.held.valid ∙ e)

pub put_copy-requires-clause-bound : goal.put_copy-requires-clause-bound
put_copy-requires-clause-bound g c = (g.met.T.StateCalls.holds c.assign_copy-own.new.state).bound c.args.place c.args.f (held_given c.args.from c.args.f c.assign_copy-own.result c.args.place (g.T.StateCalls.shown c.args.state.now) (g.T.StateCalls.shown c.find.new.state) (g.T.StateCalls.shown c.assign_copy-own.new.state) c.requires.may c.in_ok-find.ensures.ok c.assign_copy-own.ensures.gave).valid

pub copy-requires-clause-to_owned : goal.copy-requires-clause-to_owned
copy-requires-clause-to_owned g c = some_of (record_at (g.T.StateCalls.shown c.put_copy.new.state).life.frames c.assign_copy-own.result.0).owner (key_of_place c.args.place) (copied_to c.assign_copy-own.result c.args.place (g.T.StateCalls.shown c.find.new.state) (g.T.StateCalls.shown c.assign_copy-own.new.state) (g.T.StateCalls.shown c.put_copy.new.state) (g.met.T.StateCalls.holds c.put_copy.new.state) c.assign_copy-own.ensures.gave c.put_copy.ensures.put)
