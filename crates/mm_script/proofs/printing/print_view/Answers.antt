use Rattle.std.proofs.Common.{◌≡◌, ◌++◌, subst, sym}
use Rattle.mm_types.specs.{Event}
use Rattle.mm_script.specs.{IfTrue, printed, is_view}
use Rattle.mm_script.proofs.printing.print_view.Goals as goal

pub returns-in-CreateFile : goal.returns-in-CreateFile
returns-in-CreateFile c = subst (λ (x : Event). IfTrue (is_view x) (c.put_line-in-CreateFile.new.out ≡ c.args.out.now ++ printed x)) (sym c.in-CreateFile.is) c.put_line-in-CreateFile.ensures
