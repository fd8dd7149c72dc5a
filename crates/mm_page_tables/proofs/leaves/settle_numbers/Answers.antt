use Rattle.std.proofs.Common.{◌≡◌, ◌-◌, ◌++◌, Bool, length, take, drop, sym, subst, refl, arith}
use Rattle.std.specs.Prelude.{slice_index}
use Rattle.mm_page_tables.specs.{Changed, number_when}
use Rattle.mm_page_tables.proofs.{cleared_numbers, filled_slice}
use Rattle.mm_page_tables.proofs.leaves.settle_numbers.Goals as goal

pub returns-then-not-on-clause-settled : goal.returns-then-not-on-clause-settled
returns-then-not-on-clause-settled c =
    let old = c.args.numbers.now.items in
    let was = c.deref_mut.result.now in
    let long : length old ≡ c.args.numbers.now.len = sym c.args.numbers.now.ok.0 in
    let at = c.min.result in
    let many = c.min-end.result - at in
    let ws = take at was ++ (c.fill.new.self ++ drop many (drop at was)) in
    let new = take c.args.numbers.now.len (ws ++ drop (length ws) old) in
    subst (λ (b : Bool). Changed (number_when b) (slice_index old) (slice_index new) c.args.from c.args.to) (sym c.if-not-on.true)
    (cleared_numbers old new at c.min-end.result c.args.from c.args.to (omega (arith, c.min-end.ensures, c.len.ensures, long)) (omega (arith, c.min.ensures))
    (filled_slice c.args.numbers.now.len at many 0 old was c.fill.new.self long c.deref_mut.ensures.value (omega (arith, c.min.ensures, c.min-end.ensures, c.len.ensures, long)) (c.fill.ensures.after (λ y e. e))))

pub returns-else-not-on-clause-settled : goal.returns-else-not-on-clause-settled
returns-else-not-on-clause-settled c =
    subst (λ (b : Bool). Changed (number_when b) (slice_index c.args.numbers.now.items) (slice_index c.args.numbers.now.items) c.args.from c.args.to) (sym c.if-not-on.false)
    (record { within = λ i l u. refl; below = λ i u. refl; above = λ i l. refl })
