use Rattle.std.proofs.Common.{◌-◌, ◌++◌, ℕ, List, ap, ◌∙◌, replicate, vec_len}
use Rattle.mm_page_tables.specs.{bit_numbers}
use Rattle.mm_page_tables.proofs.{shown_zero}
use Rattle.mm_page_tables.proofs.leaves.Leaf.unreserved.Goals as goal

pub returns : goal.returns
returns c =
    let made = c.in_ok-numbers.numbers in
    shown_zero c.extend.new.words.items
    (c.in_ok-extend.ensures.ok
    ∙ ap (λ (ns : List ℕ). ns ++ replicate (bit_numbers - vec_len made) 0) c.in_ok-numbers.ensures.items
    ∙ ap (λ (n : ℕ). replicate {A = ℕ} (bit_numbers - n) 0) c.in_ok-numbers.ensures.len)
