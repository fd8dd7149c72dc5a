use Rattle.std.proofs.Common.{Bool, sym, ◌∙◌, subst, inl}
use Rattle.mm_types.specs.declared.moves.LineKind.TheVariants as kind
use Rattle.mm_object_tables.specs.{key_bytes}
use Rattle.mm_dispatch.specs.{StartsOn}
use Rattle.mm_dispatch.proofs.{no_process, line-refused, can-access, is-begun, gone-by}
use Rattle.mm_dispatch.proofs.access_lines.enter.Goals as goal

pub returns-then-not-begin_on-clause-refused : goal.returns-then-not-begin_on-clause-refused
returns-then-not-begin_on-clause-refused g c = λ what is.
    let t = c.args.t.now in
    let on = c.begin_on.ensures in
    line-refused g.G.PageStore c.args.pid c.args.addr what on (on.starts.keeps t c.requires.next.keeps)
    (no_process t (key_bytes (g.G.PageStore.contents c.begin_on.new.g)) c.args.pid.0 c.args.addr what (gone-by t c.args.pid.0 (sym on.lives ∙ c.if-not-begin_on.true)))

pub returns-in-Err-clause-refused : goal.returns-in-Err-clause-refused
returns-in-Err-clause-refused g c = λ what is.
    let on = c.begin_on.ensures in
    line-refused g.G.PageStore c.args.pid c.args.addr what on (c.admit.ensures.keeps _ _ (on.starts.keeps c.args.t.now c.requires.next.keeps))
    (c.in-Err.ensures.refused (key_bytes (g.G.PageStore.contents c.begin_on.new.g)) what is)

pub returns-in-Ok-clause-entered : goal.returns-in-Ok-clause-entered
returns-in-Ok-clause-entered g c =
    let t = c.args.t.now in
    let m = c.begin_on.new.g in
    let on = c.begin_on.ensures in
    let row = c.in-Ok.ensures in
    let lived = c.if-not-begin_on.false in
    record {
      can = λ need. can-access g.G.PageStore _ t c.admit.new.t _ _ _ need m row.unchanged (on.starts.keeps t c.requires.next.keeps)
          c.sound.ensures.sound.spaces row.admitted row.at (inl (on.form lived)) (is-begun on.starts.begins);
      same = row.unchanged;
      on = subst (λ (b : Bool). StartsOn g.G.PageStore c.args.line t c.args.pid (kind.Access c.args.pid) b c.args.g.now m) lived on;
    }
