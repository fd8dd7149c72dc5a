use Rattle.std.proofs.Common.{◌≡◌, ◌≤◌, ℕ, List, true, subst}
use Rattle.mm_bits.specs.{have_bit, IsLowestFrom}
use Rattle.mm_bits.proofs.{none_next}
use Rattle.mm_working_sets.proofs.page_sets.PageSet.next.Goals as goal

pub returns-in-Some-clause-is : goal.returns-in-Some-clause-is
returns-in-Some-clause-is c = subst (λ (ws : List ℕ). IsLowestFrom (have_bit ws) c.args.from c.in-Some.page) c.self.view_is c.in-Some.ensures.is

pub returns-in-None-clause-is : goal.returns-in-None-clause-is
returns-in-None-clause-is c = subst (λ (ws : List ℕ). (w : ℕ) → have_bit ws w ≡ true → c.args.from ≤ w → ⊥) c.self.view_is (none_next (have_bit c.self.inside.pages.words) c.args.from c.in-None.ensures.is)
