use Rattle.std.proofs.Common.{rules, refl}
use Rattle.mm_move_rules.specs.{is_zero}
use Rattle.mm_pager.proofs.{access_touches, brings_given, fails_to_find, found_access, found_stands, zero_unframed}
use Rattle.mm_pager.proofs.faults.bring_zero.Goals as goal

pub assign-requires : goal.assign-requires
assign-requires g c =
    let s = g.T.StateCalls.shown c.args.state.now in
    let t = g.T.StateCalls.shown c.find.new.state in
    let p = c.in_ok-find.ensures.ok in
    record { touch = access_touches t.life.kind (found_access s t p c.requires.access); zero = found_stands is_zero c.args.key s t p c.requires.zero; some = p.got refl }

pub returns-clause-ok : goal.returns-clause-ok
returns-clause-ok g c = brings_given c.args.key c.assign.result (g.T.StateCalls.shown c.args.state.now) (g.T.StateCalls.shown c.find.new.state) (g.T.StateCalls.shown c.assign.new.state) c.requires.access (zero_unframed _ c.requires.zero) c.in_ok-find.ensures.ok c.assign.ensures.gave

pub returns-in_err-find-clause-err : goal.returns-in_err-find-clause-err
returns-in_err-find-clause-err g c = let lost = fails_to_find c.args.key c.in_err-find.field-0.0 (g.T.StateCalls.shown c.args.state.now) (g.T.StateCalls.shown c.find.new.state) c.requires.access (zero_unframed _ c.requires.zero) c.in_err-find.ensures.err in search (rules, lost)
