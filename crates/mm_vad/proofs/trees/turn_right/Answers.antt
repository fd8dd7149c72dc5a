use Rattle.std.proofs.Common.{◌∷◌, ◌∙◌, length, ap, arith, length-append}
use Rattle.mm_vad.specs.{taken_range, range_in}
use Rattle.mm_vad.proofs.{right_once, right_twice}
use Rattle.mm_vad.proofs.trees.turn_right.Goals as goal

pub fork-requires-clause-few : goal.fork-requires-clause-few
fork-requires-clause-few c = omega (arith, c.requires.few, ap length c.in-Some.ensures.fork.ranges, length-append c.in-Some.outer.ranges (range_in c.in-Some.top.value ∷ c.in-Some.inner.ranges))

pub fork-requires-2-clause-few : goal.fork-requires-2-clause-few
fork-requires-2-clause-few c = omega (arith, c.requires.few, ap length c.in-Some.ensures.fork.ranges, length-append c.in-Some.outer.ranges (range_in c.in-Some.top.value ∷ c.in-Some.inner.ranges), ap length c.in-Some-apart.ensures.fork.ranges, length-append c.in-Some-apart.below.ranges (range_in c.in-Some-apart.middle.value ∷ c.in-Some-apart.above.ranges))

pub fork-requires-3-clause-few : goal.fork-requires-3-clause-few
fork-requires-3-clause-few c = omega (arith, c.requires.few, ap length c.in-Some.ensures.fork.ranges, length-append c.in-Some.outer.ranges (range_in c.in-Some.top.value ∷ c.in-Some.inner.ranges), ap length c.in-Some-apart.ensures.fork.ranges, length-append c.in-Some-apart.below.ranges (range_in c.in-Some-apart.middle.value ∷ c.in-Some-apart.above.ranges))

pub returns-then-span : goal.returns-then-span
returns-then-span c =
    let put = c.replace-between.ensures in
    right_once c.in-Some.ensures.fork c.fork.ensures (ap taken_range put.after) (ap taken_range put.value ∙ ap range_in c.deref_mut.ensures.value) c.requires.two_higher (omega (arith, c.span.ensures.is.height_is, c.span-2.ensures.is.height_is, c.if-span.true)) c.in-Some.ensures.within

pub returns : goal.returns
returns c =
    let put = c.replace-between-2.ensures in
    right_twice c.in-Some.ensures.fork c.in-Some-apart.ensures.fork c.fork-2.ensures c.fork-3.ensures (ap taken_range put.after) (ap taken_range put.value ∙ ap range_in c.deref_mut-2.ensures.value) c.requires.two_higher (omega (arith, c.span.ensures.is.height_is, c.span-2.ensures.is.height_is, c.if-span.false)) c.in-Some-apart.ensures.within
