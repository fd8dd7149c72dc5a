use Rattle.std.proofs.Common.{◌≡◌, sym, ◌∙◌, length, arith}
use Rattle.std.specs.Prelude.{is_some}
use Rattle.std.specs.FinMap as finite
use Rattle.mm_bits.specs.{have_bit}
use Rattle.mm_working_sets.specs.{ages_by_group}
use Rattle.mm_working_sets.proofs.{none_held, in_all, in_read, next_same}
use Rattle.mm_working_sets.proofs.groups.AgeGroups.next_from.Goals as goal

pub returns-then-len-eq0 : goal.returns-then-len-eq0
returns-then-len-eq0 c = λ w held low. none_held c.args.self.now.newest c.args.self.now.sets.items c.args.self.now.kept.grouped (omega (arith, c.if-len-eq0.true, c.len.ensures, c.args.self.now.sets.ok.0)) w held

pub returns : goal.returns
returns c =
    let s = c.args.self.now in
    let sets = s.sets.items in
    let nine : length sets ≡ 9 = s.kept.whole (omega (arith, c.if-len-eq0.false, c.len.ensures, s.sets.ok.0)) in
    next_same (have_bit c.index.result.now) (λ v. is_some (finite.get (ages_by_group s.newest sets) v)) c.args.from c.next.result
    (λ w. sym (in_all s.newest sets s.kept.grouped w) ∙ in_read sets c.index.result.now 8 w (omega (arith, nine)) c.index.ensures)
    c.next.ensures.is
