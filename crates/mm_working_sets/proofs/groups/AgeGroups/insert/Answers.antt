use Rattle.std.proofs.Common.{◌∙◌}
use Rattle.mm_working_sets.specs.{ages_by_group}
use Rattle.mm_working_sets.proofs.{still_kept, added, ages_insert, no_group, young_insert}
use Rattle.mm_working_sets.proofs.groups.AgeGroups.insert.Goals as goal

pub invariant_of-self : goal.invariant_of-self
invariant_of-self c =
    let s = c.args.self.now in
    let old = s.sets.items in
    let new = c.put-2.new.sets.items in
    let is = s.kept.grouped in
    let now = added s.newest c.args.page old c.put.new.sets.items new s.kept.turning is c.requires.user (no_group s.newest old is c.args.page c.requires.absent) c.put.ensures c.put-2.ensures in
    record {
      kept = still_kept s.newest old new _ s.kept.turning s.kept.whole (c.put-2.ensures.count ∙ c.put.ensures.count) now;
      young = young_insert s.most (ages_by_group s.newest old) (ages_by_group s.newest new) s.young c.args.page (ages_insert s.newest c.args.page old new is now);
    }

pub returns-clause-ages : goal.returns-clause-ages
returns-clause-ages c =
    let s = c.args.self.now in
    let old = s.sets.items in
    let is = s.kept.grouped in
    ages_insert s.newest c.args.page old c.put-2.new.sets.items is
    (added s.newest c.args.page old c.put.new.sets.items c.put-2.new.sets.items s.kept.turning is c.requires.user (no_group s.newest old is c.args.page c.requires.absent) c.put.ensures c.put-2.ensures)
