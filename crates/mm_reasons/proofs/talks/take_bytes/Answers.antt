use Rattle.std.proofs.Common.{rules, ◌≡◌, ◌+◌, [], ◌∷◌, ◌++◌, List, ℕ, take, drop, ap, sym, subst, ◌∙◌, arith}
use Rattle.std.proofs.lemmas.List.{take_more, take_all, take-append-drop}
use Rattle.mm_reasons.specs.{Hears}
use Rattle.mm_reasons.proofs.{blamed_later, halts_before, halts_then, hears_then, hears_none, well_then}
use Rattle.mm_reasons.proofs.talks.take_bytes.Goals as goal

pub returns-in-Err-clause-blame : goal.returns-in-Err-clause-blame
returns-in-Err-clause-blame g c =
    let out = g.O.Sink.faults in
    let err = g.E.Sink.faults in
    blamed_later c.in-Err.ending (out c.args.out.now) (out c.loop-byte.out) (out c.take_byte.new.out)
    (err c.args.err.now) (err c.loop-byte.err) (err c.take_byte.new.err)
    c.loop-byte.invariant.later c.loop-byte.invariant.err_later c.in-Err.ensures.blame

pub returns-in-Err-clause-out_well : goal.returns-in-Err-clause-out_well
returns-in-Err-clause-out_well g c = λ n. well_then _ _ _ c.loop-byte.invariant.out_well (c.in-Err.ensures.out_well n)

pub returns-in-Err-clause-err_well : goal.returns-in-Err-clause-err_well
returns-in-Err-clause-err_well g c = λ n. well_then _ _ _ c.loop-byte.invariant.err_well (c.in-Err.ensures.err_well n)

pub loop-byte-init : goal.loop-byte-init
loop-byte-init g c =
    record {
      heard = hears_none _ _ _ c.requires;
      later = omega arith;
      err_later = omega arith;
      out_well = search rules;
      err_well = search rules;
    }

pub loop-byte-preserved : goal.loop-byte-preserved
loop-byte-preserved g c =
    let taken = g.O.Sink.taken in
    let l = c.loop-byte in
    let i = c.loop-byte.invariant in
    let more = take_more c.args.bytes.now l.byte-index 0 (omega arith) in
    record {
      heard = subst (λ (x : List ℕ). Hears c.args.explainer.now c.args.line.now.items c.take_byte.new.explainer c.take_byte.new.line.items x (taken c.args.out.now) (taken c.take_byte.new.out))
          (sym more) (hears_then i.heard c.in-Ok.ensures.said);
      later = omega (arith, c.take_byte.ensures.later, i.later);
      err_later = omega (arith, c.take_byte.ensures.err_later, i.err_later);
      out_well = well_then _ _ _ i.out_well (c.in-Ok.ensures.out_well (λ e. cc));
      err_well = well_then _ _ _ i.err_well (c.in-Ok.ensures.err_well (λ e. cc));
    }

pub returns-in-Err-clause-said : goal.returns-in-Err-clause-said
returns-in-Err-clause-said g c =
    let taken = g.O.Sink.taken in
    let l = c.loop-byte in
    let bytes = c.args.bytes.now in
    let more = take_more bytes l.byte-index 0 (omega arith) in
    halts_before c.in-Err.ending c.args.explainer.now c.args.line.now.items _ (drop (l.byte-index + 1) bytes) bytes (taken c.args.out.now) (taken c.take_byte.new.out)
    (ap (λ (x : List ℕ). x ++ drop (l.byte-index + 1) bytes) (sym more) ∙ take-append-drop (l.byte-index + 1) bytes)
    (halts_then c.in-Err.ending _ (taken c.take_byte.new.out) l.invariant.heard c.in-Err.ensures.said)

pub returns-clause-said : goal.returns-clause-said
returns-clause-said g c =
    let taken = g.O.Sink.taken in
    let l = c.loop-byte in
    subst (λ (x : List ℕ). Hears c.args.explainer.now c.args.line.now.items l.explainer l.line.items x (taken c.args.out.now) (taken l.out))
    (take_all l.byte-index c.args.bytes.now (omega arith)) l.invariant.heard
