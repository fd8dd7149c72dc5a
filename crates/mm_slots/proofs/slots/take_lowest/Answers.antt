use Rattle.std.proofs.Common.{◌+◌, false, refl, arith}
use Rattle.mm_bits.specs.{have_bit}
use Rattle.mm_slots.proofs.{lowest_back, lowest_fresh, free_changed, low_changed, fresh_taken}
use Rattle.mm_slots.proofs.slots.take_lowest.Goals as goal

pub returns-in-Some-clause-lowest : goal.returns-in-Some-clause-lowest
returns-in-Some-clause-lowest c = (lowest_back (have_bit c.args.back.now.words) c.args.fresh.now c.in-Some.slot c.requires.low c.in-Some.ensures.is).1

pub returns-in-Some-clause-taken : goal.returns-in-Some-clause-taken
returns-in-Some-clause-taken c =
    let before = (lowest_back (have_bit c.args.back.now.words) c.args.fresh.now c.in-Some.slot c.requires.low c.in-Some.ensures.is).0 in
    free_changed (have_bit c.args.back.now.words) (have_bit c.remove.new.self.words) c.args.fresh.now c.in-Some.slot false before c.remove.ensures.puts

pub returns-in-Some-clause-low : goal.returns-in-Some-clause-low
returns-in-Some-clause-low c =
    let before = (lowest_back (have_bit c.args.back.now.words) c.args.fresh.now c.in-Some.slot c.requires.low c.in-Some.ensures.is).0 in
    low_changed (have_bit c.args.back.now.words) (have_bit c.remove.new.self.words) c.args.fresh.now c.in-Some.slot false before c.remove.ensures.puts c.requires.low

pub overflow_add-fresh : goal.overflow_add-fresh
overflow_add-fresh c =
    let lowest = lowest_fresh (have_bit c.args.back.now.words) c.args.fresh.now c.in-None.ensures.is in
    omega (arith, lowest.least c.requires.some.0 c.requires.some.1 (omega arith), c.requires.some.2)

pub returns-in-None-clause-lowest : goal.returns-in-None-clause-lowest
returns-in-None-clause-lowest c = lowest_fresh (have_bit c.args.back.now.words) c.args.fresh.now c.in-None.ensures.is

pub returns-in-None-clause-taken : goal.returns-in-None-clause-taken
returns-in-None-clause-taken c = fresh_taken (have_bit c.args.back.now.words) c.args.fresh.now (c.args.fresh.now + 1) refl c.requires.low

pub returns-in-None-clause-low : goal.returns-in-None-clause-low
returns-in-None-clause-low c = λ i h. c.requires.low i (omega (arith, h))
