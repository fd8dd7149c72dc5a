-- Texts one after another.
use Rattle.std.proofs.Common.{append_assoc, length-append}
use Rattle.mm_types.proofs.{append_nil}
use Rattle.mm_text.proofs.{length-decimal}

pub ruleset joined = (append_assoc, append_nil, length-append, length-decimal)
