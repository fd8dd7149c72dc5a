use Rattle.std.proofs.Common.{length}
use Rattle.mm_show.proofs.rows.+put_digits.Given as goal

abbrev pub decreases-put_digits : goal.decreases-put_digits
decreases-put_digits l = length l.digits.now
