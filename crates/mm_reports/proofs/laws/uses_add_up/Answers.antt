use Rattle.std.proofs.Common.{ap, sym, ◌∙◌}
use Rattle.mm_replay.specs.Standing.{life}
use Rattle.mm_move_laws.specs.{counted_frames}
use Rattle.mm_reports.proofs.{add_up}
use Rattle.mm_reports.proofs.laws.uses_add_up.Goals as goal

pub returns : goal.returns
returns c = add_up (life c.args.life.now) (ap counted_frames (sym c.counts-known.ensures.value) ∙ c.counts-known.ensures.sum)
