use Rattle.std.proofs.Common.{◌+◌, ◌++◌, drop, ap, sym, ◌∙◌, arith}
use Rattle.mm_replay.specs.Standing.{life}
use Rattle.mm_reports.proofs.{one_more, read_out, read_all, next_begun}
use Rattle.mm_reports.proofs.lists.requests.Goals as goal

pub returns-in-None : goal.returns-in-None
returns-in-None c = read_out c.loop-n.frames.items (life c.args.life.now).flight c.loop-n.n c.loop-n.invariant.rest (sym c.loop-n.invariant.next ∙ c.in-None.is)

pub loop-n-preserved : goal.loop-n-preserved
loop-n-preserved c = record {
  rest =
      ap (λ xs. xs ++ drop (c.loop-n.n + 1) (life c.args.life.now).flight) c.in_ok-push-in-Some.ensures.items
      ∙ one_more c.loop-n.frames.items (life c.args.life.now).flight c.loop-n.n c.in-Some.frame c.loop-n.invariant.rest (sym c.loop-n.invariant.next ∙ c.in-Some.is);
  next = next_begun (life c.args.life.now).flight c.loop-n.n c.in-Some.frame c.next_request-next.result (sym c.loop-n.invariant.next ∙ c.in-Some.is) c.next_request-next.ensures;
}

pub returns : goal.returns
returns c = read_all c.loop-n.frames.items (life c.args.life.now).flight c.loop-n.n c.loop-n.invariant.rest (omega (arith, c.loop-n-test.false, c.requests-n-end.ensures))
