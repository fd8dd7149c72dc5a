use Rattle.std.proofs.Common.{refl, sym}
use Rattle.mm_object_tables.specs.{kept_of}
use Rattle.mm_dispatch.proofs.{resume-none, resume-awaits, resume-makes, resume-refuses, resume-fails, rest_forgot}
use Rattle.mm_dispatch.proofs.thread_lines.resume_line.Goals as goal

pub access_on-requires-clause-lives : goal.access_on-requires-clause-lives
access_on-requires-clause-lives g c = c.in-Some.ensures.lives (kept_of c.in-Some.kept) (sym c.in-Some.ensures.kept)

pub returns-in-None-clause-done : goal.returns-in-None-clause-done
returns-in-None-clause-done g c =
    let p = g.G.PageStore in
    let starts = c.begin.ensures.starts in
    let z = c.forget.new.self in
    resume-none p c.args.tid c.args.t.now starts refl z (starts.keeps c.args.t.now c.requires.next.keeps)
    (sym c.in-None.ensures.kept) c.forget.ensures.contents (rest_forgot (p.store c.begin.new.g) (p.store z) _ c.forget.ensures.store) c.forget.ensures.passes

pub returns-in-Waiting-clause-done : goal.returns-in-Waiting-clause-done
returns-in-Waiting-clause-done g c =
    resume-awaits g.G.PageStore c.args.tid c.args.t.now c.begin-2.ensures.starts (kept_of c.in-Some.kept) (sym c.in-Some.ensures.kept) refl c.has_failed-failed.result c.has_failed-failed.ensures
    c.in-Waiting.why c.access_on.new.t c.access_on.new.g c.in-Waiting.ensures

pub returns-in-Made-clause-done : goal.returns-in-Made-clause-done
returns-in-Made-clause-done g c =
    resume-makes g.G.PageStore c.args.tid c.args.t.now c.begin-2.ensures.starts (kept_of c.in-Some.kept) (sym c.in-Some.ensures.kept) refl c.has_failed-failed.result c.has_failed-failed.ensures
    c.access_on.new.t c.access_on.new.g c.end_access.new.t c.end_access.new.g c.end_access.ensures c.in-Made.answer c.in-Made.ensures

pub returns-in-Refused-clause-done : goal.returns-in-Refused-clause-done
returns-in-Refused-clause-done g c =
    resume-refuses g.G.PageStore c.args.tid c.args.t.now c.begin-2.ensures.starts (kept_of c.in-Some.kept) (sym c.in-Some.ensures.kept) refl c.has_failed-failed.result c.has_failed-failed.ensures
    c.access_on.new.t c.access_on.new.g c.end_access-in-Refused.new.t c.end_access-in-Refused.new.g c.end_access-in-Refused.ensures c.in-Refused.answer c.in-Refused.ensures

pub returns-in-Failed-clause-done : goal.returns-in-Failed-clause-done
returns-in-Failed-clause-done g c =
    resume-fails g.G.PageStore c.args.tid c.args.t.now c.begin-2.ensures.starts (kept_of c.in-Some.kept) (sym c.in-Some.ensures.kept) refl c.has_failed-failed.result c.has_failed-failed.ensures
    c.access_on.new.t c.access_on.new.g c.end_access-in-Failed.new.t c.end_access-in-Failed.new.g c.end_access-in-Failed.ensures (λ never. c.requires.idle never c.args.tid.0) c.in-Failed.ensures
