use Rattle.std.proofs.Common.{◌≡◌, ℕ, ◌++◌, subst, OnOk, codes}
use Rattle.mm_types.specs.{decimal}
use Rattle.mm_replay.specs.Standing.{life}
use Rattle.mm_sentences.specs.{counted_words}
use Rattle.mm_sentences.proofs.reasons.put_depth_is.Goals as goal

pub returns : goal.returns
returns c =
    subst (λ (n : ℕ). OnOk c.put_two.result (c.put_two.new.text.items ≡ c.args.text.now.items
    ++ (decimal n ++ counted_words (codes " requests are in flight, and the depth is ") (life c.args.life.now).machine.depth))) c.requests.ensures
    (subst (λ (d : ℕ). OnOk c.put_two.result (c.put_two.new.text.items ≡ c.args.text.now.items
    ++ (decimal c.requests.result ++ counted_words (codes " requests are in flight, and the depth is ") d))) c.depth.ensures c.put_two.ensures)
