use Rattle.std.proofs.Common.{◌≡◌, ℕ, ◌+◌, ◌-◌, ◌++◌, ◌∷◌, [], ap, ◌∙◌, arith, get_or, take}
use Rattle.mm_types.specs.{Text}
use Rattle.mm_log_writer.specs.{few_entry}
use Rattle.mm_log_writer.proofs.Fronts.{shorter, three}
use Rattle.mm_log_writer.proofs.Table.{entry_text, entry_count}
use Rattle.mm_log_writer.proofs.spellings.put_few.Goals as goal

pub returns-clause-text : goal.returns-clause-text
returns-clause-text c =
    let old : Text = c.args.out.now in
    let new : Text = c.put_byte.new.out in
    let n = c.args.n in
    let front : Text = take c.args.at old in
    let digit : ℕ → ℕ = λ (i : ℕ). get_or (few_entry n) i 0 in
    let count : ℕ = digit 3 - 48 in
    let digits : Text = digit 0 ∷ digit 1 ∷ digit 2 ∷ [] in
    let said : c.few_byte-4.result ≡ digit 3 = c.few_byte-4.ensures in
    let bounds = entry_count n in
    let written : take (c.args.at + 3) new ≡ front ++ digits =
    ap (λ (k : ℕ). take k new) (omega arith)
    ∙ c.put_byte.ensures.text
    ∙ ap (λ (t : Text). t ++ c.few_byte-3.result ∷ []) (c.put_byte-third.ensures.text ∙ ap (λ (t : Text). t ++ c.few_byte-2.result ∷ []) c.put_byte-second.ensures.text)
    ∙ three front c.few_byte.result c.few_byte-2.result c.few_byte-3.result
    ∙ ap (λ (b : ℕ). front ++ b ∷ c.few_byte-2.result ∷ c.few_byte-3.result ∷ []) c.few_byte.ensures
    ∙ ap (λ (b : ℕ). front ++ digit 0 ∷ b ∷ c.few_byte-3.result ∷ []) c.few_byte-2.ensures
    ∙ ap (λ (b : ℕ). front ++ digit 0 ∷ digit 1 ∷ b ∷ []) c.few_byte-3.ensures in
    ap (λ (k : ℕ). take k new) (omega (arith, said, bounds.0, bounds.1))
    ∙ shorter old new digits c.args.at 3 count (omega arith) written (omega (arith, bounds.1))
    ∙ ap (λ (t : Text). front ++ t) (entry_text n c.requires.few)
