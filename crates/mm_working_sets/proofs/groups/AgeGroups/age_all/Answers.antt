use Rattle.std.proofs.Common.{arith}
use Rattle.mm_working_sets.specs.{ages_by_group}
use Rattle.mm_working_sets.proofs.{still_kept, older_grouped, older_ages, young_older}
use Rattle.mm_working_sets.proofs.groups.AgeGroups.age_all.Goals as goal

pub overflow_add-self : goal.overflow_add-self
overflow_add-self c = omega (arith, c.args.self.now.young.known)

pub invariant_of-self : goal.invariant_of-self
invariant_of-self c =
    let s = c.args.self.now in
    let old = s.sets.items in
    let new = c.join.new.sets.items in
    let next = c.next_newest-newest in
    record {
      kept = still_kept next.result old new _ next.ensures.turning s.kept.whole c.join.ensures.count
          (older_grouped s.newest s.kept.turning old new s.kept.grouped next.result next.ensures.is c.join.ensures);
      young = young_older s.most (ages_by_group s.newest old) (ages_by_group next.result new) s.young _ c.min-self.ensures
          (older_ages s.newest s.kept.turning old new s.kept.grouped next.result next.ensures.is c.join.ensures);
    }

pub returns-clause-ages : goal.returns-clause-ages
returns-clause-ages c =
    let s = c.args.self.now in
    older_ages s.newest s.kept.turning s.sets.items c.join.new.sets.items s.kept.grouped c.next_newest-newest.result c.next_newest-newest.ensures.is c.join.ensures
