use Rattle.std.proofs.Common.{◌∙◌}
use Rattle.mm_working_sets.specs.{ages_by_group}
use Rattle.mm_working_sets.proofs.{young_insert, still_kept, renewed, ages_insert, nine_sets, some_group}
use Rattle.mm_working_sets.proofs.groups.AgeGroups.renew.Goals as goal

pub group_of-group-requires-clause-whole : goal.group_of-group-requires-clause-whole
group_of-group-requires-clause-whole c = nine_sets c.args.self.now.newest c.args.self.now.sets.items c.args.self.now.kept c.args.page c.requires.held

pub group_of-group-requires-clause-held : goal.group_of-group-requires-clause-held
group_of-group-requires-clause-held c = some_group c.args.self.now.newest c.args.self.now.sets.items c.args.self.now.kept.grouped c.args.page c.requires.held

pub invariant_of-self : goal.invariant_of-self
invariant_of-self c =
    let s = c.args.self.now in
    let old = s.sets.items in
    let new = c.put.new.sets.items in
    let now = renewed s.newest c.args.page old c.take.new.sets.items new s.kept.turning s.kept.grouped c.group_of-group.result c.group_of-group.ensures c.take.ensures c.put.ensures in
    record {
      kept = still_kept s.newest old new _ s.kept.turning s.kept.whole (c.put.ensures.count ∙ c.take.ensures.count) now;
      young = young_insert s.most (ages_by_group s.newest old) (ages_by_group s.newest new) s.young c.args.page (ages_insert s.newest c.args.page old new s.kept.grouped now);
    }

pub returns-clause-ages : goal.returns-clause-ages
returns-clause-ages c =
    let s = c.args.self.now in
    let old = s.sets.items in
    ages_insert s.newest c.args.page old c.put.new.sets.items s.kept.grouped
    (renewed s.newest c.args.page old c.take.new.sets.items c.put.new.sets.items s.kept.turning s.kept.grouped c.group_of-group.result c.group_of-group.ensures c.take.ensures c.put.ensures)
