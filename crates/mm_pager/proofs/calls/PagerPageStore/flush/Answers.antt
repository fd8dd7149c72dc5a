use Rattle.std.proofs.Common.{ap}
use Rattle.std.specs.Prelude.{is_ok}
use Rattle.mm_state_calls.specs.{StateOf}
use Rattle.mm_pager.specs.{own_in, paged_state}
use Rattle.mm_pager.proofs.{flushing_of, its_bytes, its_others, flushed_store, flushed_served, stored_same, flushed_passes, flushed_kept, on_ok_if}
use Rattle.mm_pager.proofs.{on_err_if}
use Rattle.mm_pager.proofs.calls.PagerPageStore.flush.Goals as goal

pub invariant_of-self : goal.invariant_of-self
invariant_of-self g c =
    let s = paged_state c.args.self.now in
    let z = g.T.StateCalls.shown c.flush_page.new.state in
    let ok = is_ok c.flush_page.result in
    let flushing = flushing_of c.args.key ok s z c.requires.live c.flush_page.ensures.flushed in
    record { kept = flushed_kept c.args.key flushing.block ok s z (own_in c.args.self.now) c.args.self.now.kept c.requires.kind flushing.page }

pub returns : goal.returns
returns g c =
    let s = paged_state c.args.self.now in
    let z = g.T.StateCalls.shown c.flush_page.new.state in
    let h = g.met.T.StateCalls.holds c.args.self.now.state in
    let w = g.met.T.StateCalls.holds c.flush_page.new.state in
    let o = own_in c.args.self.now in
    let k = c.args.key in
    let r = c.flush_page.result in
    let ok = is_ok r in
    let flushing = flushing_of k ok s z c.requires.live c.flush_page.ensures.flushed in
    let page = flushing.page in
    record {
      done = record {
        store = flushed_store k flushing.block ok s z o h w page;
        ok = on_ok_if r (λ e. its_bytes k ok s z w flushing e);
        others = its_others k ok s z flushing;
        wrote = record {
          served = flushed_served k flushing.block ok s z o page;
          stored = stored_same s z page.writes.life h w;
          quiet = on_ok_if r page.writes.device.quiet;
          failed = on_err_if r page.writes.device.failed;
          blamed = on_err_if r page.writes.device.blamed;
        };
      };
      contents = ap (λ (x : StateOf). x.contents) page.writes.same;
      passes = flushed_passes k flushing.block ok s z o page;
      loans = c.flush_page.ensures.loans;
    }
