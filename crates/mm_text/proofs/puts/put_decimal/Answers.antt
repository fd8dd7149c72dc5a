use Rattle.std.proofs.Common.{◌++◌, length, ap, ◌∙◌, arith}
use Rattle.mm_text.proofs.{printed_decimal}
use Rattle.mm_text.proofs.puts.put_decimal.Goals as goal

pub push_slice-requires : goal.push_slice-requires
push_slice-requires c =
    omega (arith, ap length (c.as_bytes.ensures.value ∙ c.format.ensures.text ∙ printed_decimal c.args.n (omega arith)), c.requires)

pub returns : goal.returns
returns c =
    c.push_slice.ensures
    ∙ ap (λ t. c.args.out.now ++ t) (c.as_bytes.ensures.value ∙ c.format.ensures.text ∙ printed_decimal c.args.n (omega arith))
