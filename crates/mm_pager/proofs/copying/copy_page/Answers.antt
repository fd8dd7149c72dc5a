use Rattle.std.proofs.Common.{rules, ap, ◌∙◌}
use Rattle.mm_move_rules.specs.{touches}
use Rattle.mm_state_calls.specs.{StateOf}
use Rattle.mm_pager.proofs.{touches_touch, room_then, readied_life, still_dead, page_access, fails_to_hold, ok_copies, err_copies}
use Rattle.mm_pager.proofs.copying.copy_page.Goals as goal

pub copy_held-requires-clause-access : goal.copy_held-requires-clause-access
copy_held-requires-clause-access g c = page_access c.args.from c.in_ok-f.f c.args.place _ _ c.in_ok-f.ensures.readied c.requires.needs.access c.requires.needs.frame

pub copy_held-requires-clause-touch : goal.copy_held-requires-clause-touch
copy_held-requires-clause-touch g c = ap (touches c.args.place.pid.0) (readied_life c.args.from _ c.args.place _ _ c.in_ok-f.ensures.readied).kind ∙ c.requires.touch

pub copy_held-requires-clause-may : goal.copy_held-requires-clause-may
copy_held-requires-clause-may g c = record {
  shared = c.requires.may.shared;
  held = c.in_ok-f.ensures.readied.held;
  dead = still_dead c.args.from _ c.args.place _ _ c.in_ok-f.ensures.readied c.requires.may.dead;
  room = room_then _ _ (readied_life c.args.from _ c.args.place _ _ c.in_ok-f.ensures.readied) c.requires.room;
  own = ap (λ (s : StateOf). s.own) c.in_ok-f.ensures.readied.same ∙ c.requires.may.own;
  aside = ap (λ (s : StateOf). s.aside) c.in_ok-f.ensures.readied.same ∙ c.requires.may.aside;
}

pub returns-clause-ok : goal.returns-clause-ok
returns-clause-ok g c = ok_copies _ c.args.from _ c.args.place _ _ c.in_ok-f.ensures.readied (g.met.T.StateCalls.holds c.hold_shared.new.state) c.requires.may.dead _ c.copy_held.ensures.went c.copy_held.ensures.copied

pub returns-clause-err : goal.returns-clause-err
returns-clause-err g c = err_copies _ c.args.from _ c.args.place _ _ c.in_ok-f.ensures.readied
    (record {
      touch = touches_touch c.args.place.pid.0 _ (ap (touches c.args.place.pid.0) (readied_life c.args.from _ c.args.place _ _ c.in_ok-f.ensures.readied).kind ∙ c.requires.touch);
      access = page_access c.args.from c.in_ok-f.f c.args.place _ _ c.in_ok-f.ensures.readied c.requires.needs.access c.requires.needs.frame;
    }) (g.met.T.StateCalls.holds c.hold_shared.new.state) c.requires.may.dead _ c.copy_held.ensures.err

pub returns-in_err-f-clause-err : goal.returns-in_err-f-clause-err
returns-in_err-f-clause-err g c = let lost = fails_to_hold c.args.from c.args.place c.in_err-f.field-0.0 (g.T.StateCalls.shown c.args.state.now) (g.T.StateCalls.shown c.hold_shared.new.state) c.in_err-f.ensures.free c.requires.may.dead c.in_err-f.ensures.err in search (rules, lost)
