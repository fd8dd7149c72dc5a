use Rattle.std.proofs.Common.{◌≡◌, ℕ, [], ◌∷◌, rules, ap, sym, subst, ◌∙◌}
use Rattle.mm_reasons.specs.{HaltsTalk, Hears, line_without_mark}
use Rattle.mm_reasons.proofs.{halts_in_line, hears_kept, hears_line, no_feed}
use Rattle.mm_reasons.proofs.talks.take_byte.Goals as goal

pub returns-in-Err-clause-said : goal.returns-in-Err-clause-said
returns-in-Err-clause-said g c =
    let h = c.args.explainer.now in
    let line = c.args.line.now.items in
    let took = g.O.Sink.taken c.args.out.now in
    let took' = g.O.Sink.taken c.take_line.new.out in
    subst (λ (b : ℕ). HaltsTalk c.in-Err.ending h line (b ∷ []) took took') (sym c.if-byte-eq10.true)
    (halts_in_line c.in-Err.ending h line c.whole_line-whole.result.now took took'
    (c.whole_line-whole.ensures ∙ ap (line_without_mark h) c.as_slice.ensures.value) c.in-Err.ensures.said)

pub returns-then-byte-eq10-clause-said : goal.returns-then-byte-eq10-clause-said
returns-then-byte-eq10-clause-said g c =
    let h = c.args.explainer.now in
    let line = c.args.line.now.items in
    let took = g.O.Sink.taken c.args.out.now in
    let took' = g.O.Sink.taken c.take_line.new.out in
    let empty : c.clear.new.self.items ≡ [] = search rules in
    subst (λ (b : ℕ). Hears h line c.take_line.new.explainer c.clear.new.self.items (b ∷ []) took took') (sym c.if-byte-eq10.true)
    (hears_line h c.take_line.new.explainer line c.whole_line-whole.result.now c.clear.new.self.items took took'
    (c.whole_line-whole.ensures ∙ ap (line_without_mark h) c.as_slice.ensures.value) empty c.in-Ok.ensures.said c.in-Ok.ensures.heard c.requires)

pub returns-in-Ok-keep_byte-clause-said : goal.returns-in-Ok-keep_byte-clause-said
returns-in-Ok-keep_byte-clause-said g c =
    hears_kept c.args.explainer.now c.args.line.now.items c.keep_byte.new.line.items c.args.byte (g.O.Sink.taken c.args.out.now)
    (no_feed c.args.byte c.if-byte-eq10.false) c.in-Ok-keep_byte.ensures c.requires
