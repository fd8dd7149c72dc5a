use Rattle.std.proofs.Common.{◌++◌, ◌∷◌, [], ◌/◌, ◌%◌, ap, ◌∙◌, arith, take}
use Rattle.mm_types.specs.{Text, glyph}
use Rattle.mm_log_writer.proofs.{front_told}
use Rattle.mm_log_writer.proofs.Fronts.{reaches_number}
use Rattle.mm_log_writer.proofs.spellings.put_many.Goals as goal

pub returns-else-n-lt10000000-clause-text : goal.returns-else-n-lt10000000-clause-text
returns-else-n-lt10000000-clause-text c =
    let n = c.args.n in
    let front : Text = take c.args.at c.args.out.now in
    let second : Text = glyph (n / 10000 % 100 / 10) ∷ glyph (n / 10000 % 100 % 10) ∷ [] in
    let third : Text = glyph (n / 100 % 100 / 10) ∷ glyph (n / 100 % 100 % 10) ∷ [] in
    let last : Text = glyph (n % 100 / 10) ∷ glyph (n % 100 % 10) ∷ [] in
    c.put_pair-else-n-lt10000000.ensures.text
    ∙ ap (λ (t : Text). t ++ last) (
    c.put_pair-last.ensures.text
    ∙ ap (λ (t : Text). t ++ third) (
    c.put_pair-second.ensures.text
    ∙ ap (λ (t : Text). t ++ second) c.put_short-third.ensures.text
    ∙ front_told (n / 10000) (n / 1000000) front (omega arith) (omega arith) (omega arith)
    )
    ∙ front_told (n / 100) (n / 10000) front (omega arith) (omega arith) (omega arith)
    )
    ∙ front_told n (n / 100) front (omega arith) (omega arith) (omega arith)

pub returns-else-n-lt10000000-clause-few : goal.returns-else-n-lt10000000-clause-few
returns-else-n-lt10000000-clause-few c =
    reaches_number c.args.out.now c.put_pair-else-n-lt10000000.new.out c.args.at c.put_pair-else-n-lt10000000.result c.args.n (omega arith) (omega arith) (omega arith) (returns-else-n-lt10000000-clause-text c)
