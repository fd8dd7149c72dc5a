use Rattle.std.proofs.Common.{◌-◌, ℕ, ap, ◌∙◌, subst, arith}
use Rattle.mm_bits.specs.{NoneFrom}
use Rattle.mm_working_sets.specs.{turned, is_in}
use Rattle.mm_working_sets.proofs.{turned_back, lowest_in_set, none_in_set, oldest_is, none_younger}
use Rattle.mm_working_sets.proofs.groups.oldest_below.Goals as goal

pub returns-in-Some : goal.returns-in-Some
returns-in-Some c =
    let sets = c.args.sets.now.items in
    let newest = c.args.newest in
    let age = c.loop-age.age - 1 in
    let group = c.turned.result in
    oldest_is newest c.requires.turning sets c.requires.grouped 0 group age c.turned.ensures.known (ap (turned newest) c.turned.ensures.is ∙ turned_back newest c.requires.turning age)
    c.args.limit c.loop-age.age c.in-Some.page.0 (omega (arith, c.loop-age-test.true)) c.loop-age.invariant.within c.loop-age.invariant.none
    (lowest_in_set sets c.index.result.now group 0 (omega (arith, c.requires.whole, c.turned.ensures.known)) c.index.ensures c.in-Some.page.0 c.in-Some.ensures.is)

pub loop-age-preserved : goal.loop-age-preserved
loop-age-preserved c =
    let sets = c.args.sets.now.items in
    let newest = c.args.newest in
    let age = c.loop-age.age - 1 in
    record {
      within = omega (arith, c.loop-age.invariant.within);
      none = none_younger newest c.requires.turning sets c.requires.grouped c.args.limit c.loop-age.age age (omega (arith, c.loop-age-test.true)) c.loop-age.invariant.none
          (subst (λ (k : ℕ). NoneFrom (is_in sets k) 0) c.turned.ensures.is
          (none_in_set sets c.index.result.now c.turned.result 0 (omega (arith, c.requires.whole, c.turned.ensures.known)) c.index.ensures c.in_default.ensures.is));
    }
