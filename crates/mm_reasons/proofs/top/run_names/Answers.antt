use Rattle.std.proofs.Common.{map, string_bytes}
use Rattle.mm_reasons.specs.{names_form}
use Rattle.mm_reasons.proofs.{out_of_memory}
use Rattle.mm_reasons.proofs.top.run_names.Goals as goal

pub returns-in-Err-clause-ran : goal.returns-in-Err-clause-ran
returns-in-Err-clause-ran g c =
    out_of_memory (names_form (map string_bytes c.args.words.now)) (g.S.Source.left c.args.source.now)
    (g.O.Sink.taken c.args.out.now)
