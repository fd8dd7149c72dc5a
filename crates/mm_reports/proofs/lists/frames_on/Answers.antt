use Rattle.std.proofs.Common.{◌+◌, ◌++◌, drop, ap, sym, ◌∙◌, arith}
use Rattle.mm_replay.specs.{frames_on}
use Rattle.mm_replay.specs.Standing.{life}
use Rattle.mm_reports.proofs.{one_more, read_out, read_all, next_there}
use Rattle.mm_reports.proofs.lists.frames_on.Goals as goal

pub returns-in-None : goal.returns-in-None
returns-in-None c = read_out c.loop-n.frames.items (frames_on (life c.args.life.now).frames c.args.list) c.loop-n.n c.loop-n.invariant.rest (sym c.loop-n.invariant.next ∙ c.in-None.is)

pub loop-n-preserved : goal.loop-n-preserved
loop-n-preserved c = record {
  rest =
      ap (λ xs. xs ++ drop (c.loop-n.n + 1) (frames_on (life c.args.life.now).frames c.args.list)) c.in_ok-push-in-Some.ensures.items
      ∙ one_more c.loop-n.frames.items (frames_on (life c.args.life.now).frames c.args.list) c.loop-n.n c.in-Some.frame c.loop-n.invariant.rest (sym c.loop-n.invariant.next ∙ c.in-Some.is);
  next = next_there (life c.args.life.now).frames c.args.list c.loop-n.n c.in-Some.frame c.next_on_list-next.result (sym c.loop-n.invariant.next ∙ c.in-Some.is) c.next_on_list-next.ensures;
}

pub returns : goal.returns
returns c = read_all c.loop-n.frames.items (frames_on (life c.args.life.now).frames c.args.list) c.loop-n.n c.loop-n.invariant.rest (omega (arith, c.loop-n-test.false, c.list_len-n-end.ensures))
