use Rattle.std.proofs.Common.{◌∙◌, ap, subst, cond}
use Rattle.mm_types.specs.declared.moves.LineKind.TheVariants as kind
use Rattle.mm_types.specs.{LineKind}
use Rattle.mm_dispatch.specs.{StartsLine}
use Rattle.mm_dispatch.proofs.beginning.begin_on.Goals as goal

pub returns : goal.returns
returns g c =
    let is = c.kind_if.ensures.is in
    record {
      lives = c.has-lives.ensures;
      starts = subst (λ (k : LineKind). StartsLine g.G.PageStore c.args.line k c.args.g.now c.begin.new.g) is c.begin.ensures.starts;
      form = λ on. c.begin.ensures.form ∙ is ∙ ap (λ b. cond b c.args.form kind.Call) on;
    }
