use Rattle.std.proofs.Common.{◌≡◌, ℕ, [], ap, ◌∙◌, arith}
use Rattle.std.specs.Prelude.{take}
use Rattle.std.proofs.lemmas.List.{length-take-le}
use Rattle.mm_log_writer.proofs.Counted.{begun}
use Rattle.mm_log_writer.proofs.at_lines.begin.Goals as goal

pub returns : goal.returns
returns c =
    let text = c.put_numbered-end.new.out in
    let end = c.put_numbered-end.result in
    let put = c.put_numbered-end.ensures.put in
    let reach : 13 ≡ c.put_bytes.result = omega (arith, put.few, c.put_bytes.ensures.end, length-take-le end text (omega (arith, put.few))) in
    begun text c.args.room.now c.put_bytes.new.out end c.args.n (omega arith) (omega arith) (omega (arith, put.few)) (omega (arith, put.few)) (put.text [])
    (ap (λ (k : ℕ). take k c.put_bytes.new.out) reach ∙ c.put_bytes.ensures.text)
