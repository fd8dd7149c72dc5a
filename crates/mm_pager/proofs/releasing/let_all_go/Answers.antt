use Rattle.std.proofs.Common.{ap, ◌∙◌, refl, arith, ◌<◌, ◌≤◌}
use Rattle.mm_state_calls.specs.{StateOf}
use Rattle.mm_store.specs.{place_at, page_rank}
use Rattle.mm_pager.proofs.{lets_none, lets_then, lets_wider, thins_none, thins_then, gone_more, may_still, in_pages}
use Rattle.mm_pager.proofs.releasing.let_all_go.Goals as goal

pub loop-from-init : goal.loop-from-init
loop-from-init g c = record {
  low = omega arith;
  within = omega arith;
  went = λ held start to a. lets_none (g.T.StateCalls.shown c.args.state.now) held start (page_rank c.args.first.0);
  thins = thins_none (g.T.StateCalls.shown c.args.state.now);
  gone = λ page l h. absurd (omega (arith, l, h));
  loans = refl;
}

pub let_next_go-from-requires-clause-open : goal.let_next_go-from-requires-clause-open
let_next_go-from-requires-clause-open g c = ap (λ (x : StateOf). x.is_open c.args.pid.0) c.loop-from.invariant.thins.same ∙ c.requires.open

pub let_next_go-from-requires-clause-may : goal.let_next_go-from-requires-clause-may
let_next_go-from-requires-clause-may g c page l h =
    let low : c.args.first.0 ≤ page = omega (arith, l, c.loop-from.invariant.low) in
    may_still (place_at c.args.pid page) (g.T.StateCalls.shown c.args.state.now) (g.T.StateCalls.shown c.loop-from.state) c.loop-from.invariant.thins (c.requires.may page low h)

pub loop-from-preserved : goal.loop-from-preserved
loop-from-preserved g c =
    let s = g.T.StateCalls.shown c.args.state.now in
    let y = g.T.StateCalls.shown c.loop-from.state in
    let z = g.T.StateCalls.shown c.let_next_go-from.new.state in
    let gone = c.let_next_go-from.ensures.gone in
    let before = c.loop-from.invariant in
    record {
      low = omega (arith, before.low, gone.more);
      within = gone.within;
      went = λ held start to a.
          let first = a.first in
          let below : start ≤ page_rank c.loop-from.from = omega (arith, first, before.low) in
          let more : page_rank c.loop-from.from ≤ page_rank c.let_next_go-from.result = omega (arith, gone.more) in
          lets_then s y z held start (page_rank c.loop-from.from) (page_rank c.let_next_go-from.result) below more (before.went held start to a)
          (gone.went held (λ page l h. a.each page (in_pages c.args.first.0 c.args.n page (omega (arith, l, before.low)) h)));
      thins = thins_then s y z before.thins gone.thins;
      gone = gone_more c.args.pid c.args.first.0 c.loop-from.from c.let_next_go-from.result y z gone.thins before.gone gone.invalid;
      loans = c.let_next_go-from.ensures.loans ∙ before.loans;
    }

pub returns-clause-went : goal.returns-clause-went
returns-clause-went g c held start to a =
    let last = a.last in
    let below : page_rank c.loop-from.from ≤ to = omega (arith, last, c.loop-from.invariant.within) in
    lets_wider (g.T.StateCalls.shown c.args.state.now) (g.T.StateCalls.shown c.loop-from.state) held start (page_rank c.loop-from.from) to below (c.loop-from.invariant.went held start to a)

pub returns-clause-thins : goal.returns-clause-thins
returns-clause-thins g c = c.loop-from.invariant.thins

pub returns-clause-invalid : goal.returns-clause-invalid
returns-clause-invalid g c page l h =
    let below : page < c.loop-from.from = omega (arith, h, c.loop-from-test.false) in
    c.loop-from.invariant.gone page l below

pub returns-clause-loans : goal.returns-clause-loans
returns-clause-loans g c = c.loop-from.invariant.loans
