use Rattle.std.proofs.Common.{ℕ, ◌≡◌, ◌+◌, ◌<◌, Some, ◌∙◌, arith}
use Rattle.mm_working_sets.specs.{age_in}
use Rattle.mm_working_sets.proofs.{get-ages, no_page, first_of_all}
use Rattle.mm_working_sets.proofs.groups.AgeGroups.oldest.Goals as goal

pub returns-then-len-eq0 : goal.returns-then-len-eq0
returns-then-len-eq0 c = λ w b held below. no_page c.args.self.now.newest c.args.self.now.sets.items c.args.self.now.kept.grouped (omega (arith, c.if-len-eq0.true, c.len.ensures, c.args.self.now.sets.ok.0)) w b held

pub overflow_add-self : goal.overflow_add-self
overflow_add-self c = omega (arith, c.args.self.now.young.known)

pub returns : goal.returns
returns c =
    let s = c.args.self.now in
    let low : (w b : ℕ) → age_in s.newest s.sets.items w ≡ Some b → b < s.most + 1 = λ w b held. omega (arith, s.young.young w b (get-ages s.newest s.sets.items s.kept.grouped w ∙ held)) in
    first_of_all (age_in s.newest s.sets.items) (s.most + 1) (omega (arith, s.young.known)) low c.oldest_below.result c.oldest_below.ensures
