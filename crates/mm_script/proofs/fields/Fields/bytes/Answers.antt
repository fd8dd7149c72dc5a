use Rattle.mm_script.specs.{read, ByteWord}
use Rattle.mm_script.proofs.{given_or}
use Rattle.mm_script.proofs.fields.Fields.bytes.Goals as goal

pub returns-clause-value : goal.returns-clause-value
unfolding read
returns-clause-value c =
    given_or (read ByteWord) c.args.self.now c.next.new.self c.in_ok-word.word.now c.bytes.result c.fault.result c.ok_or.result c.in_ok-word.ensures.word c.bytes.ensures c.fault.ensures c.ok_or.ensures.value
