use Rattle.std.proofs.Common.{◌≡◌, true, rules, refl, ap, ◌∙◌}
use Rattle.std.specs.Prelude.{◌&&◌, ◌||◌}
use Rattle.mm_types.proofs.{or_true}
use Rattle.mm_move_rules.specs.{FrameLife, is_access, is_io, is_stored, is_thread, has_depth}
use Rattle.mm_state_calls.specs.{StateOf}
use Rattle.mm_pager.proofs.{access_touches, brings_read, fails_to_find, found_access, found_stands, freed_ready, read_legal, reading_fails}
use Rattle.mm_pager.proofs.{stored_unframed}
use Rattle.mm_pager.proofs.faults.bring_stored.Goals as goal

pub free_frame-requires : goal.free_frame-requires
free_frame-requires g c =
    let t = g.T.StateCalls.shown c.find.new.state in
    let p = c.in_ok-find.ensures.ok in
    record { touch = access_touches t.life.kind (found_access (g.T.StateCalls.shown c.args.state.now) t p c.requires.may.access); some = p.got refl }

pub start_read-f-requires : goal.start_read-f-requires
start_read-f-requires g c =
    let s = g.T.StateCalls.shown c.args.state.now in
    let t = g.T.StateCalls.shown c.find.new.state in
    let y = g.T.StateCalls.shown c.free_frame.new.state in
    let p = c.in_ok-find.ensures.ok in
    let r = freed_ready t y (g.met.T.StateCalls.holds c.find.new.state) c.free_frame.ensures.frees in
    let access : is_access y.life.kind ≡ true = ap is_access r.life.kind ∙ found_access s t p c.requires.may.access in
    record {
      legal = read_legal c.args.key y.life c.free_frame.ensures.some (r.stands is_stored c.args.key (λ f. refl) (found_stands is_stored c.args.key s t p c.requires.may.stored)) (λ i. access i || (is_thread y.life.kind && has_depth y.life));
      room = λ e. ap (λ (x : StateOf). x.own) r.rest ∙ ap (λ (x : StateOf). x.own) p.same ∙ c.requires.may.own;
    }

pub end_read-requires : goal.end_read-requires
end_read-requires g c =
    let s = g.T.StateCalls.shown c.args.state.now in
    let t = g.T.StateCalls.shown c.find.new.state in
    let m = g.T.StateCalls.shown c.start_read-f.new.self in
    let r = freed_ready t (g.T.StateCalls.shown c.free_frame.new.state) (g.met.T.StateCalls.holds c.find.new.state) c.free_frame.ensures.frees in
    let access : is_access m.life.kind ≡ true = ap (λ (l : FrameLife). is_access l.kind) c.start_read-f.ensures.made.life ∙ ap is_access r.life.kind ∙ found_access s t c.in_ok-find.ensures.ok c.requires.may.access in
    record { legal = (λ i. c.start_read-f.ensures.reading i && (is_io m.life.kind || access i)) ∙ or_true (is_io m.life.kind) }

pub returns-then-end_read-clause-ok : goal.returns-then-end_read-clause-ok
returns-then-end_read-clause-ok g c = brings_read c.args.key c.start_read-f.result (g.T.StateCalls.shown c.args.state.now) (g.T.StateCalls.shown c.find.new.state) (g.T.StateCalls.shown c.free_frame.new.state) (g.T.StateCalls.shown c.start_read-f.new.self) (g.T.StateCalls.shown c.end_read.new.self) c.requires.may.access c.requires.may.stored c.in_ok-find.ensures.ok (g.met.T.StateCalls.holds c.find.new.state) c.free_frame.ensures.frees c.start_read-f.ensures.frame (g.met.T.StateCalls.holds c.start_read-f.new.self) c.start_read-f.ensures.made c.requires.may.own c.start_read-f.ensures.rest c.end_read.ensures.rest c.if-end_read.ensures.made (c.if-end_read.ensures.quiet refl)

pub returns-else-end_read-clause-err : goal.returns-else-end_read-clause-err
returns-else-end_read-clause-err g c = reading_fails c.args.key c.start_read-f.result (g.T.StateCalls.shown c.args.state.now) (g.T.StateCalls.shown c.find.new.state) (g.T.StateCalls.shown c.free_frame.new.state) (g.T.StateCalls.shown c.start_read-f.new.self) (g.T.StateCalls.shown c.end_read.new.self) c.requires.may.access c.requires.may.stored c.in_ok-find.ensures.ok (g.met.T.StateCalls.holds c.find.new.state) c.free_frame.ensures.frees c.start_read-f.ensures.frame (g.met.T.StateCalls.holds c.start_read-f.new.self) c.start_read-f.ensures.made c.requires.may.own c.start_read-f.ensures.rest c.end_read.ensures.rest c.if-end_read.ensures.made

pub returns-in_err-find-clause-err : goal.returns-in_err-find-clause-err
returns-in_err-find-clause-err g c = let lost = fails_to_find c.args.key c.in_err-find.field-0.0 (g.T.StateCalls.shown c.args.state.now) (g.T.StateCalls.shown c.find.new.state) c.requires.may.access (stored_unframed _ c.requires.may.stored) c.in_err-find.ensures.err in search (rules, lost)
