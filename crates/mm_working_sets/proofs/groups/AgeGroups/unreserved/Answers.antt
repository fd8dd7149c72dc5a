use Rattle.std.proofs.Common.{length, ap, arith}
use Rattle.mm_working_sets.specs.{ages_by_group}
use Rattle.mm_working_sets.proofs.{young_empty, no_kept, empty_sets, empty_ages}
use Rattle.mm_working_sets.proofs.groups.AgeGroups.unreserved.Goals as goal

pub invariant_of-result : goal.invariant_of-result
invariant_of-result c =
    let sets = c.new.result.items in
    record {
      kept = no_kept 0 sets (omega arith) (λ some. absurd (omega (arith, some, ap length c.new.ensures.items))) (empty_sets sets (ap length c.new.ensures.items));
      young = young_empty (ages_by_group 0 sets) (empty_ages 0 sets (empty_sets sets (ap length c.new.ensures.items)));
    }

pub returns : goal.returns
returns c = empty_ages 0 c.new.result.items (empty_sets c.new.result.items (ap length c.new.ensures.items))
