use Rattle.std.proofs.Common.{◌≡◌, ℕ, suc, ◌+◌, ◌-◌, ◌<◌, ◌++◌, sym, ap, ◌∙◌, arith}
use Rattle.mm_replay.specs.Standing.{life}
use Rattle.mm_reports.specs.{runs_from}
use Rattle.mm_reports.proofs.{one_left}
use Rattle.mm_reports.proofs.frames.put_frames.Goals as goal

pub loop-f-preserved : goal.loop-f-preserved
loop-f-preserved c =
    let d = (life c.args.life.now).frames in
    let run = c.loop-f.run in
    let f = c.loop-f.f in
    let n = c.frames-count.result in (
      omega (arith, c.in_ok-take.ensures.last),
      c.in_ok-take.ensures.rows (n - (f + 1))
          ∙ ap (λ (k : ℕ). c.loop-f.text.items ++ runs_from d run.first run.last run.words.items k) (sym (one_left f n c.loop-f-test.true))
          ∙ c.loop-f.invariant.1,
    )
