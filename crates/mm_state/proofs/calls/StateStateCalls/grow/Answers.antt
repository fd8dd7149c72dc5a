use Rattle.std.proofs.Common.{refl, sym, ap, ◌∙◌, subst}
use Rattle.mm_types.specs.declared.moves.LineKind.TheVariants as kind
use Rattle.mm_types.specs.declared.moves.Move.TheVariants as move
use Rattle.mm_parts.specs.{parts_after, PartsOf, waits_of}
use Rattle.mm_parts.specs.PartsShown as parts_of
use Rattle.mm_frame_laws.proofs.{carries_at, carries_at_plain}
use Rattle.mm_devices.specs.{device_with}
use Rattle.mm_state.specs.{IsTallied}
use Rattle.mm_state.proofs.{begins_by, call_legal, carried_on, rest_called, tallied_none, whole_grown, whole_on}
use Rattle.mm_state.proofs.calls.StateStateCalls.grow.Goals as goal

pub invariant_of-self-in-Ok : goal.invariant_of-self-in-Ok
invariant_of-self-in-Ok g c =
    let s = c.args.self.now in
    let e = c.grow.ensures.made ∙ ap (λ (x : PartsOf). parts_after x (move.At c.args.line (kind.Grow c.args.n))) c.reserve.ensures.shown in
    let now = carried_on _ _ _ _ _ _ _ e c.in-Ok.ensures.ok refl (carries_at _ s.parts.kept.reached _ _ _ s.located c.args.line (kind.Grow c.args.n) s.parts.kept.line.begun c.requires.legal) in
    record { located = now.located; tallied = subst IsTallied (sym c.none-self.ensures) tallied_none; slots_whole = whole_grown _ _ c.args.n c.in-Ok.ensures.ok s.slots_whole; blocks_whole = s.blocks_whole }

pub invariant_of-self-in-Err-Failed : goal.invariant_of-self-in-Err-Failed
invariant_of-self-in-Err-Failed g c =
    let s = c.args.self.now in
    let u = parts_of.shown_parts s.parts in
    let e = c.at.ensures.made ∙ ap (λ (x : PartsOf). parts_after x (move.At c.args.line kind.Call)) c.reserve.ensures.shown in
    let now = carried_on _ _ _ _ _ _ _ e c.in-Err-Failed.ensures.err refl (carries_at_plain u.life s.parts.kept.reached u.bytes _ _ s.located c.args.line kind.Call s.parts.kept.line.begun refl (call_legal u.life c.args.line c.args.n c.requires.legal)) in
    record { located = now.located; tallied = subst IsTallied (sym c.none-self-in-Err-Failed.ensures) tallied_none; slots_whole = whole_on _ _ c.in-Err-Failed.ensures.err s.slots_whole; blocks_whole = s.blocks_whole }

pub returns-in-Ok-clause-grown : goal.returns-in-Ok-clause-grown
returns-in-Ok-clause-grown g c =
    let s = c.args.self.now in
    let e = c.grow.ensures.made ∙ ap (λ (x : PartsOf). parts_after x (move.At c.args.line (kind.Grow c.args.n))) c.reserve.ensures.shown in
    rest_called _ _ _ _ _ _ _ _ _ _ _ _ e (λ i. device_with (c.in-Ok.ensures.log i) (c.in-Ok.ensures.named i) (c.in-Ok.ensures.cause.stays i)) c.in-Ok.ensures.ok refl
    (carries_at _ s.parts.kept.reached _ _ _ s.located c.args.line (kind.Grow c.args.n) s.parts.kept.line.begun c.requires.legal)

pub returns-in-Err-Failed-clause-kept : goal.returns-in-Err-Failed-clause-kept
returns-in-Err-Failed-clause-kept g c =
    let s = c.args.self.now in
    let u = parts_of.shown_parts s.parts in
    let e = c.at.ensures.made ∙ ap (λ (x : PartsOf). parts_after x (move.At c.args.line kind.Call)) c.reserve.ensures.shown in
    λ failed. rest_called _ _ _ _ _ _ _ _ _ _ _ _ e (λ i. device_with (c.in-Err-Failed.ensures.log i) (c.in-Err-Failed.ensures.named i) (g.P.Inject.faults c.extend.new.self)) c.in-Err-Failed.ensures.err refl
    (carries_at_plain u.life s.parts.kept.reached u.bytes _ _ s.located c.args.line kind.Call s.parts.kept.line.begun refl (call_legal u.life c.args.line c.args.n c.requires.legal))

pub returns-in-Ok-clause-ok : goal.returns-in-Ok-clause-ok
returns-in-Ok-clause-ok g c =
    let e = c.grow.ensures.made ∙ ap (λ (x : PartsOf). parts_after x (move.At c.args.line (kind.Grow c.args.n))) c.reserve.ensures.shown in
    begins_by (move.At c.args.line (kind.Grow c.args.n)) _ _ c.requires.legal c.note.ensures.in_range c.note.ensures.grew
    (ap (λ (x : PartsOf). x.life) e) (ap (λ (x : PartsOf). x.ages) e) (ap (λ (x : PartsOf). waits_of x.waits) e) c.none-self.ensures

pub returns-in-Err-Failed-clause-failed : goal.returns-in-Err-Failed-clause-failed
returns-in-Err-Failed-clause-failed g c =
    let u = parts_of.shown_parts c.args.self.now.parts in
    let e = c.at.ensures.made ∙ ap (λ (x : PartsOf). parts_after x (move.At c.args.line kind.Call)) c.reserve.ensures.shown in
    λ failed. begins_by (move.At c.args.line kind.Call) _ _ (call_legal u.life c.args.line c.args.n c.requires.legal) c.note-in-Err-Failed.ensures.in_range c.note-in-Err-Failed.ensures.grew
    (ap (λ (x : PartsOf). x.life) e) (ap (λ (x : PartsOf). x.ages) e) (ap (λ (x : PartsOf). waits_of x.waits) e) c.none-self-in-Err-Failed.ensures
