use Rattle.std.proofs.Common.{ap}
use Rattle.mm_state_calls.specs.{StateOf}
use Rattle.mm_pager.specs.{own_in, paged_state}
use Rattle.mm_pager.proofs.{completes, ended_store, ended_none, ended_some, ended_ok, ended_blames, ended_served, ended_passes, ended_kept}
use Rattle.mm_pager.proofs.{stored_same}
use Rattle.mm_pager.proofs.calls.PagerPageStore.complete.Goals as goal

pub returns : goal.returns
returns g c =
    let s = paged_state c.args.self.now in
    let z = g.T.StateCalls.shown c.complete_request.new.state in
    let o = own_in c.args.self.now in
    let i = c.args.i in
    let r = c.complete_request.result in
    let ends = c.complete_request.ensures.ends in
    let h = g.met.T.StateCalls.holds c.args.self.now.state in
    let done = completes i r s z ends in
    record {
      contents = ap (λ (x : StateOf). x.contents) done.1.same;
      done = record {
        store = ended_store done.0 s z o done.1 h (g.met.T.StateCalls.holds c.complete_request.new.state);
        none = ended_none i r s z o ends;
        some = ended_some i r s z c.requires.some ends;
        ok = ended_ok i r s z o ends;
        failed = λ q. (ended_blames i r s z h ends q).failed;
        blamed = λ q. (ended_blames i r s z h ends q).fault;
        served = ended_served done.0 s z o done.1;
        stored = stored_same s z done.1.life h (g.met.T.StateCalls.holds c.complete_request.new.state);
      };
      passes = ended_passes i r s z o ends;
      loans = c.complete_request.ensures.loans;
    }

pub invariant_of-self : goal.invariant_of-self
invariant_of-self g c =
    let s = paged_state c.args.self.now in
    let z = g.T.StateCalls.shown c.complete_request.new.state in
    let done = completes c.args.i c.complete_request.result s z c.complete_request.ensures.ends in
    record { kept = ended_kept done.0 s z (own_in c.args.self.now) done.1 c.args.self.now.kept c.requires.kind }
