use Rattle.std.proofs.Common.{rules, ◌≡◌, sym, ◌∙◌, arith}
use Rattle.mm_replay.specs.{mapped, near_of, under}
use Rattle.mm_replay.proofs.{chosen, mapped_at}
use Rattle.mm_replay.proofs.pairs.Pairs.get.Goals as goal

pub returns-in-Some : goal.returns-in-Some
returns-in-Some g c =
    let s = c.args.self.now in
    sym (chosen (near_of s) (mapped s.far) c.args.a c.args.b (sym c.near_value.ensures ∙ c.in-Some.is))

pub returns-in-None : goal.returns-in-None
returns-in-None g c =
    let s = c.args.self.now in
    let at : c.copied.result ≡ under s.far c.one_number.result = search rules in
    at ∙ sym (chosen (near_of s) (mapped s.far) c.args.a c.args.b (sym c.near_value.ensures ∙ c.in-None.is) ∙ mapped_at s.far c.args.a c.args.b c.one_number.result (omega arith) c.one_number.ensures)
