use Rattle.std.proofs.Common.{◌∙◌, Bool, cond, subst}
use Rattle.mm_types.specs.declared.moves.LineKind.TheVariants as kind
use Rattle.mm_dispatch.specs.{StartsLine}
use Rattle.mm_dispatch.proofs.beginning.begin_release.Goals as goal

pub returns : goal.returns
returns g c =
    let on = c.begin_on.ensures in
    record {
      sound = c.sound.ensures.sound;
      starts = subst (λ (b : Bool). StartsLine g.G.PageStore c.args.line (cond b (kind.Unbind c.args.pid) kind.Call) c.args.g.now c.begin_on.new.g) on.lives on.starts;
      keeps = on.starts.keeps c.args.t.now c.requires.next.keeps;
      form = λ h. on.form (on.lives ∙ h);
    }
