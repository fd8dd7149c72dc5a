use Rattle.std.proofs.Common.{◌<◌, length, ap, arith}
use Rattle.mm_move_rules.specs.{is_active, is_in_transition}
use Rattle.mm_pfn_database.proofs.{counted}
use Rattle.mm_pfn_database.proofs.records.Records.set.Goals as goal

pub overflow_add-self : goal.overflow_add-self
overflow_add-self c =
    let low : c.args.f < length c.self.inside.records.items = omega (arith, c.requires, ap length c.self.view_is) in
    omega (arith, counted is_active c.self.inside.records.items c.args.f c.args.r c.index.result.now _ _ _ low c.index.ensures c.self.invariant.0 c.active_in.ensures c.active_in-2.ensures c.self.invariant.2)

pub overflow_add-self-2 : goal.overflow_add-self-2
overflow_add-self-2 c =
    let low : c.args.f < length c.self.inside.records.items = omega (arith, c.requires, ap length c.self.view_is) in
    omega (arith, counted is_in_transition c.self.inside.records.items c.args.f c.args.r c.index.result.now _ _ _ low c.index.ensures c.self.invariant.1 c.transition_in.ensures c.transition_in-2.ensures c.self.invariant.2)
