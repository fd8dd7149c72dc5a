use Rattle.std.proofs.Common.{ℕ, ◌∙◌, ap, sym, subst}
use Rattle.mm_replay.specs.Standing.{life}
use Rattle.mm_log_walk.specs.{beside, is_broken, end_closing, Closing, HaltsTelling}
use Rattle.mm_log_walk.proofs.{begun_pour, begun_take, halts_stop, misfit_halts, tells_more}
use Rattle.mm_log_walk.proofs.replays.next.Goals as goal

pub returns-in-Err-clause-told : goal.returns-in-Err-clause-told
returns-in-Err-clause-told g c = λ left took rest s.
    let a = c.args in
    let b = beside a.script.now a.answers.now in
    let left' = g.S.Source.left c.take_next.new.source in
    let took' = g.O.Sink.taken a.out.now in
    let rest' = g.T.Teller.rest a.teller.now in
    let l = life a.life.now in
    subst (λ (z : Closing). HaltsTelling (is_broken z) left left' took took' b rest z rest' l a.text.now.items) (sym (◌∙◌ {b = end_closing a.answers.now c.line.result c.in-Err.e} c.end_closing.ensures (ap (λ (n : ℕ). end_closing a.answers.now n c.in-Err.e) c.line.ensures)))
    (halts_stop left (g.S.Source.left a.source.now) left' took took' b a.reader.now rest rest' l a.text.now.items _
    s (c.in-Err.ensures.read left s.moves s.reading))

pub returns-in-Some-clause-told : goal.returns-in-Some-clause-told
returns-in-Some-clause-told g c = λ left took rest s.
    let a = c.args in
    misfit_halts left (g.S.Source.left a.source.now) (g.S.Source.left c.take_next.new.source) took (g.O.Sink.taken a.out.now) (beside a.script.now a.answers.now) a.reader.now c.take_next.new.self rest (g.T.Teller.rest a.teller.now) (life a.life.now) a.text.now.items _ _
    s (c.in-Ok.ensures.read left s.moves s.reading) c.in-Some.ensures

pub returns-in-Err-take-clause-told : goal.returns-in-Err-take-clause-told
returns-in-Err-take-clause-told g c = λ left took rest s.
    let a = c.args in
    begun_take left (g.S.Source.left a.source.now) (g.S.Source.left c.take_next.new.source) took (g.O.Sink.taken a.out.now) (beside a.script.now a.answers.now) a.reader.now c.take_next.new.self rest (g.T.Teller.rest a.teller.now) (life a.life.now) a.text.now.items _
    s (c.in-Ok.ensures.read left s.moves s.reading) c.in-None.ensures

pub returns-in-Err-pour-clause-told : goal.returns-in-Err-pour-clause-told
returns-in-Err-pour-clause-told g c = λ left took rest s.
    let a = c.args in
    begun_pour left (g.S.Source.left a.source.now) (g.S.Source.left c.take_next.new.source) took (g.O.Sink.taken a.out.now) (g.O.Sink.taken c.pour.new.out) (beside a.script.now a.answers.now) a.reader.now c.take_next.new.self rest (g.T.Teller.rest a.teller.now) (life a.life.now) a.text.now.items _ (g.T.Teller.rest c.take.new.teller) (life c.take.new.life) c.take.new.text.items
    s (c.in-Ok.ensures.read left s.moves s.reading) c.in-None.ensures c.in-Ok-take.ensures.told c.in-Err-pour.ensures.cut

pub returns-in-Ok-pour-clause-told : goal.returns-in-Ok-pour-clause-told
returns-in-Ok-pour-clause-told g c = λ left took rest s.
    let a = c.args in
    tells_more left (g.S.Source.left a.source.now) (g.S.Source.left c.take_next.new.source) took (g.O.Sink.taken a.out.now) (g.O.Sink.taken c.pour.new.out) (beside a.script.now a.answers.now) a.reader.now c.take_next.new.self rest (g.T.Teller.rest a.teller.now) (life a.life.now) a.text.now.items _ (g.T.Teller.rest c.take.new.teller) (life c.take.new.life) c.take.new.text.items c.pour.new.text.items
    s (c.in-Ok.ensures.read left s.moves s.reading) c.in-None.ensures c.in-Ok-take.ensures.after c.in-Ok-take.ensures.told c.in-Ok-pour.ensures.poured
