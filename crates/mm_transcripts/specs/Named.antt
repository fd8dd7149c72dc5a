-- A failure with its name, as the definitions have it.
use Rattle.mm_types.specs.{Text}
use Rattle.mm_transcripts.specs.declared.failures.Failure.{Failure}

abbrev pub failure_row : Failure → Text × Text
failure_row f = (f.0.now, f.1.now)
