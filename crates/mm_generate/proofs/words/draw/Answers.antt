use Rattle.std.proofs.Common.{ℕ, ◌%◌, ap, ◌∙◌}
use Rattle.rand_pcg.specs.Lcg.{Lcg}
use Rattle.mm_generate.proofs.{first_output}
use Rattle.mm_generate.proofs.words.draw.Goals as goal

pub returns-clause-drawn : goal.returns-clause-drawn
returns-clause-drawn c =
    ap (λ (p : ℕ × Lcg). p.0 % c.args.n) c.next_word.ensures
    ∙ ap (λ (w : ℕ). w % c.args.n) (first_output c.args.words.now)
