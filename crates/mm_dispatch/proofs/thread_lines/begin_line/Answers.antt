use Rattle.std.proofs.Common.{◌∙◌, sym, ap, is_some, true, false, refl}
use Rattle.mm_world.specs.{Tables, process_of, kept_by}
use Rattle.mm_object_tables.specs.{key_bytes, kept_of}
use Rattle.mm_dispatch.specs.{BeginsThread}
use Rattle.mm_dispatch.proofs.{begin-alone, begin-kept, begin-refuses, begin-makes, begin-awaits, kept_told, tables_same}
use Rattle.mm_dispatch.proofs.thread_lines.begin_line.Given as given
use Rattle.mm_dispatch.proofs.thread_lines.begin_line.Goals as goal
use Rattle.mm_dispatch.proofs.thread_lines.begin_line.Goals.{After-has, After-begin_on}

busy : (g : given.Over) (c : After-has g) → BeginsThread g.G.PageStore c.args.line c.args.tid c.args.pid true c.has.result c.args.t.now c.args.g.now c.begin.new.g
busy g c = record {
  busy_is = sym c.if-is_some.true ∙ c.is_some.ensures ∙ sym (kept_told kept_of c.kept.result (kept_by c.args.t.now c.args.tid.0) c.kept.ensures.kept);
  lives = c.has.ensures;
  keeps = c.begin.ensures.starts.keeps c.args.t.now c.requires.next.keeps;
  starts = c.begin.ensures.starts;
}

free : (g : given.Over) (c : After-begin_on g) → BeginsThread g.G.PageStore c.args.line c.args.tid c.args.pid false c.begin_on.result c.args.t.now c.args.g.now c.begin_on.new.g
free g c = record {
  busy_is = sym c.if-is_some.false ∙ c.is_some.ensures ∙ sym (kept_told kept_of c.kept.result (kept_by c.args.t.now c.args.tid.0) c.kept.ensures.kept);
  lives = c.begin_on.ensures.lives;
  keeps = c.begin_on.ensures.starts.keeps c.args.t.now c.requires.next.keeps;
  starts = c.begin_on.ensures.starts;
}

pub returns-then-has-clause-done : goal.returns-then-has-clause-done
returns-then-has-clause-done g c = begin-kept g.G.PageStore c.args.what.now (busy g (goal.at.returns-then-has-clause-done g c).After-has) c.if-has.true refl

pub returns-then-is_some-clause-done : goal.returns-then-is_some-clause-done
returns-then-is_some-clause-done g c = begin-alone g.G.PageStore c.args.what.now (busy g (goal.at.returns-then-is_some-clause-done g c).After-has) c.if-has.false

pub returns-then-not-begin_on-clause-done : goal.returns-then-not-begin_on-clause-done
returns-then-not-begin_on-clause-done g c = begin-alone g.G.PageStore c.args.what.now (free g (goal.at.returns-then-not-begin_on-clause-done g c).After-begin_on) c.if-not-begin_on.true

pub keep-requires-clause-lives : goal.keep-requires-clause-lives
keep-requires-clause-lives g c =
    let same = tables_same c.access_on.new.t c.args.t.now (key_bytes (g.G.PageStore.contents c.access_on.new.g)) (key_bytes (g.G.PageStore.contents c.begin_on.new.g)) c.in-Waiting.ensures.turned.2 in
    ap (λ (t : Tables). is_some (process_of t c.args.pid.0)) same ∙ sym c.begin_on.ensures.lives ∙ c.if-not-begin_on.false

pub returns-in-Refused-clause-done : goal.returns-in-Refused-clause-done
returns-in-Refused-clause-done g c =
    begin-refuses g.G.PageStore c.args.what.now (free g (goal.at.returns-in-Refused-clause-done g c).After-begin_on) c.if-not-begin_on.false refl c.access_on.new.g c.in-Refused.answer c.access_on.new.t c.in-Refused.ensures

pub returns-in-Made-clause-done : goal.returns-in-Made-clause-done
returns-in-Made-clause-done g c =
    begin-makes g.G.PageStore c.args.what.now (free g (goal.at.returns-in-Made-clause-done g c).After-begin_on) c.if-not-begin_on.false refl c.access_on.new.g c.in-Made.answer c.access_on.new.t c.in-Made.ensures

pub returns-in-Waiting-clause-done : goal.returns-in-Waiting-clause-done
returns-in-Waiting-clause-done g c =
    begin-awaits g.G.PageStore c.args.what.now (free g (goal.at.returns-in-Waiting-clause-done g c).After-begin_on) c.if-not-begin_on.false refl c.access_on.new.g c.in-Waiting.why c.access_on.new.t c.keep.new.self c.in-Waiting.ensures c.keep.ensures.kept
    (c.keep.ensures.fits _ _ c.in-Waiting.ensures.keeps.fits)
