use Rattle.std.proofs.Common.{◌≡◌, [], drop}
use Rattle.mm_names.specs.{written_lines_from, unread, with_lines}
use Rattle.mm_names.proofs.scripts.read_lines.Given as goal

abbrev pub invariant-loop-byte : goal.invariant-loop-byte
invariant-loop-byte l =
    with_lines unread (written_lines_from [] l.text)
    ≡ with_lines l.script (written_lines_from l.line.items (drop l.byte-index l.text))
