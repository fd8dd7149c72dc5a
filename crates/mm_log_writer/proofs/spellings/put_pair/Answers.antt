use Rattle.std.proofs.Common.{ℕ, ◌++◌, ◌∷◌, [], ◌/◌, ap, ◌∙◌, append_assoc, take}
use Rattle.mm_types.specs.{Text, glyph}
use Rattle.mm_log_writer.proofs.Table.{pair_entry}
use Rattle.mm_log_writer.proofs.spellings.put_pair.Goals as goal

pub returns-clause-text : goal.returns-clause-text
returns-clause-text c =
    let front : Text = take c.args.at c.args.out.now in
    let digits = pair_entry c.args.n c.requires.few in
    c.put_byte.ensures.text
    ∙ ap (λ (t : Text). t ++ c.few_byte-2.result ∷ []) c.put_byte-next.ensures.text
    ∙ append_assoc front (c.few_byte.result ∷ []) (c.few_byte-2.result ∷ [])
    ∙ ap (λ (b : ℕ). front ++ b ∷ c.few_byte-2.result ∷ []) (c.few_byte.ensures ∙ digits.0)
    ∙ ap (λ (b : ℕ). front ++ glyph (c.args.n / 10) ∷ b ∷ []) (c.few_byte-2.ensures ∙ digits.1)
