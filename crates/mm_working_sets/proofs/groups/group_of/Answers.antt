use Rattle.std.proofs.Common.{sym, ap, ◌∙◌, inl, inr, arith}
use Rattle.std.proofs.lemmas.Bool.{cases_lt}
use Rattle.mm_working_sets.specs.{is_in}
use Rattle.mm_working_sets.proofs.{in_read, group_of_set}
use Rattle.mm_working_sets.proofs.groups.group_of.Goals as goal

pub returns-then-has : goal.returns-then-has
returns-then-has c =
    let sets = c.args.sets.now.items in
    group_of_set sets c.requires.grouped c.args.page c.args.guess c.requires.known
    (in_read sets c.index.result.now c.args.guess c.args.page (omega (arith, c.requires.whole, c.requires.known)) c.index.ensures ∙ sym c.has.ensures ∙ c.if-has.true)

pub returns-then-has-2 : goal.returns-then-has-2
returns-then-has-2 c =
    let sets = c.args.sets.now.items in
    group_of_set sets c.requires.grouped c.args.page c.loop-group.group c.loop-group.invariant.low
    (in_read sets c.index-in-loop-group.result.now c.loop-group.group c.args.page (omega (arith, c.requires.whole, c.loop-group.invariant.low)) c.index-in-loop-group.ensures
    ∙ sym c.has-in-loop-group.ensures ∙ c.if-has-2.true)

pub loop-group-preserved : goal.loop-group-preserved
loop-group-preserved c =
    let sets = c.args.sets.now.items in
    let group = c.loop-group.group in
    record {
      none = λ g l. elim (cases_lt g group) [
        | inl below ↦ c.loop-group.invariant.none g below
        | inr here ↦
            ap (λ k. is_in sets k c.args.page) (omega (arith, l, here))
            ∙ in_read sets c.index-in-loop-group.result.now group c.args.page (omega (arith, c.requires.whole, c.loop-group.invariant.low)) c.index-in-loop-group.ensures
            ∙ sym c.has-in-loop-group.ensures ∙ c.if-has-2.false
      ];
      low = omega (arith, c.loop-group-test.true);
    }
