use Rattle.std.proofs.Common.{◌+◌, ◌-◌, ◌<◌, arith}
use Rattle.mm_types.specs.{end_of_user_pages}
use Rattle.mm_vad.specs.{range_at}
use Rattle.mm_address_spaces.proofs.{changing_none, changing_more, some_now, user_page}
use Rattle.mm_address_spaces.proofs.rows.change_rows.Goals as goal

pub loop-done-init : goal.loop-done-init
loop-done-init c = (omega arith, omega arith, changing_none c.args.change (range_at c.args.first c.args.count) c.args.space.now c.requires.sound)

pub change_some-done-requires-clause-there : goal.change_some-done-requires-clause-there
change_some-done-requires-clause-there c = some_now c.args.change (range_at c.args.first c.args.count) c.loop-done.done c.loop-done.done c.args.space.now c.loop-done.space c.requires.inside c.loop-done.invariant.2 (omega arith)

pub loop-done-preserved : goal.loop-done-preserved
loop-done-preserved c =
    let n = c.change_some-done.result in
    let last = some_now c.args.change (range_at c.args.first c.args.count) c.loop-done.done (c.loop-done.done + n - 1) c.args.space.now c.loop-done.space c.requires.inside c.loop-done.invariant.2 (omega (arith, c.change_some-done.ensures.some, c.change_some-done.ensures.within)) in
    let user : c.args.first + (c.loop-done.done + n - 1) < end_of_user_pages = user_page c.loop-done.space.regions (c.args.first + (c.loop-done.done + n - 1)) c.loop-done.invariant.2.kept last in (
      omega (arith, c.change_some-done.ensures.within),
      omega (arith, user),
      changing_more c.args.change (range_at c.args.first c.args.count) c.loop-done.done n c.args.space.now c.loop-done.space c.change_some-done.new.space c.loop-done.invariant.2 c.change_some-done.ensures.some (omega (arith, c.change_some-done.ensures.within)) c.change_some-done.ensures.after c.change_some-done.ensures.spare c.change_some-done.ensures.kept,
    )
