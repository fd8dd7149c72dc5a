use Rattle.std.proofs.Common.{◌≡◌, ◌<◌, length, drop, sym, ap, ◌∙◌, arith}
use Rattle.std.specs.List.{prefix_len}
use Rattle.std.proofs.lemmas.List.Sums.{prefix_len-drop_yes, prefix_len-drop_no, prefix_len-drop_all}
use Rattle.mm_world.specs.{same_state}
use Rattle.mm_address_spaces.specs.{states_in, state_told}
use Rattle.mm_address_spaces.proofs.{seen, seen_there, run_at, length_in}
use Rattle.mm_address_spaces.proofs.queries.run_in_view.Goals as goal
use Rattle.mm_address_spaces.proofs.queries.run_in_view.Goals.{then-loop-end-test+else-is_like, else-loop-end-test}

pub loop-end-preserved : goal.loop-end-preserved
loop-end-preserved c =
    let rows = c.args.rows.now in
    let ss = states_in c.args.pages.now c.args.view rows in
    let first = state_told c.state_in_view-first.result in
    let end = c.loop-end.end in
    let inside : end < length rows = omega arith in
    let step = prefix_len-drop_yes (same_state first) ss end first (omega (arith, inside, length_in c.args.pages.now c.args.view rows)) (ap (same_state first) (seen_there c.args.pages.now c.args.view rows end c.state_in_view.result first inside c.state_in_view.ensures) ∙ sym c.is_like.ensures ∙ c.if-is_like.true) in
    (omega arith, omega arith, omega (arith, step, c.loop-end.invariant.2))

pub returns-clause-run : goal.returns-clause-run
returns-clause-run c =
    let rows = c.args.rows.now in
    let ss = states_in c.args.pages.now c.args.view rows in
    let first = state_told c.state_in_view-first.result in
    let end = c.loop-end.end in
    let size = length_in c.args.pages.now c.args.view rows in
    let run = run_at c.args.index ss first (seen c.args.pages.now c.args.view rows c.args.index c.state_in_view-first.result c.requires.inside c.state_in_view-first.ensures) in
    let left : prefix_len (same_state first) (drop end ss) ≡ 0 = elim c.loop-end-test.branch [
      | then-loop-end-test+else-is_like w ↦ (
          let inside : end < length rows = omega arith in
          prefix_len-drop_no (same_state first) ss end first (omega (arith, inside, size)) (ap (same_state first) (seen_there c.args.pages.now c.args.view rows end w.state_in_view.result first inside w.state_in_view.ensures) ∙ sym w.is_like.ensures ∙ w.if-is_like.false))
      | else-loop-end-test w ↦ prefix_len-drop_all (same_state first) ss end (omega (arith, size))
    ] in
    omega (arith, run, left, c.loop-end.invariant.2)
