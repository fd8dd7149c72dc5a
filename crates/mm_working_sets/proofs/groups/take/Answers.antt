use Rattle.std.proofs.Common.{false, sym, ◌∙◌, arith}
use Rattle.mm_working_sets.proofs.{puts_page, in_read, set_within}
use Rattle.mm_working_sets.proofs.groups.take.Goals as goal

pub index_mut-requires : goal.index_mut-requires
index_mut-requires c = omega (arith, c.args.sets.now.ok.0, set_within c.args.sets.now.items c.args.set c.args.page c.requires)

pub remove-requires : goal.remove-requires
remove-requires c =
    let sets = c.args.sets.now.items in
    sym (in_read sets c.index_mut.result.now c.args.set c.args.page (set_within sets c.args.set c.args.page c.requires) c.index_mut.ensures.value) ∙ c.requires

pub returns : goal.returns
returns c =
    let sets = c.args.sets.now.items in
    puts_page false sets c.index_mut.result.now c.remove.new.self c.args.set c.args.page (set_within sets c.args.set c.args.page c.requires) c.index_mut.ensures.value c.remove.ensures
