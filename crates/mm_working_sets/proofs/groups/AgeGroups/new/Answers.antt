use Rattle.std.proofs.Common.{◌≡◌, List, ℕ, length, ap, ◌∙◌, arith}
use Rattle.mm_working_sets.specs.{is_in, ages_by_group}
use Rattle.mm_working_sets.proofs.{young_empty, no_kept, empty_sets, empty_ages, none_pushed}
use Rattle.mm_working_sets.proofs.groups.AgeGroups.new.Goals as goal

pub loop-init : goal.loop-init
loop-init c = record {
  count = omega (arith, c.in_ok-sets.ensures.len);
  room = omega (arith, c.in_ok-sets.ensures.capacity);
  none = empty_sets c.in_ok-sets.sets.items (ap length c.in_ok-sets.ensures.items);
}

pub loop-preserved : goal.loop-preserved
loop-preserved c = record {
  count = omega (arith, c.push_reserved.ensures.len, c.loop.invariant.count);
  room = omega (arith, c.push_reserved.ensures.capacity, c.loop.invariant.room);
  none = λ g v.
      ap (λ (sets : List (List ℕ)). is_in sets g v) c.push_reserved.ensures.items
      ∙ none_pushed c.loop.sets.items c.in_ok-new.field-0 c.loop.invariant.none c.in_ok-new.ensures g v;
}

pub invariant_of-result : goal.invariant_of-result
invariant_of-result c =
    let sets = c.loop.sets in
    let nine : length sets.items ≡ 9 = omega (arith, sets.ok.0, c.loop.invariant.count, c.loop-test.false, c.loop.auto.counter-end) in
    record {
      kept = no_kept 0 sets.items (omega arith) (λ some. nine) c.loop.invariant.none;
      young = young_empty (ages_by_group 0 sets.items) (empty_ages 0 sets.items c.loop.invariant.none);
    }

pub returns-clause-ages : goal.returns-clause-ages
returns-clause-ages c = empty_ages 0 c.loop.sets.items c.loop.invariant.none
