use Rattle.std.proofs.Common.{refl}
use Rattle.mm_text.proofs.{hex_some}
use Rattle.mm_text.proofs.spans.digits_at.Goals as goal

pub returns-then-begins_hex : goal.returns-then-begins_hex
returns-then-begins_hex c = hex_some c.args.line.now c.args.from c.run.result (c.if-begins_hex.ensures refl) c.run.ensures
