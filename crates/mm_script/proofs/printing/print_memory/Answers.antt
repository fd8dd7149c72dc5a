use Rattle.std.proofs.Common.{◌≡◌, ◌++◌, subst, sym}
use Rattle.mm_types.specs.{Event}
use Rattle.mm_script.specs.{IfTrue, printed, is_memory}
use Rattle.mm_script.proofs.printing.print_memory.Goals as goal

pub returns-in-ResetWatch : goal.returns-in-ResetWatch
returns-in-ResetWatch c = subst (λ (x : Event). IfTrue (is_memory x) (c.put_line-in-ResetWatch.new.out ≡ c.args.out.now ++ printed x)) (sym c.in-ResetWatch.is) c.put_line-in-ResetWatch.ensures
