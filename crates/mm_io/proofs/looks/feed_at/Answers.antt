use Rattle.mm_io.proofs.{feed_found}
use Rattle.mm_io.proofs.looks.feed_at.Goals as goal

pub returns : goal.returns
returns c = feed_found c.args.bytes.now c.memchr.result c.memchr.ensures
