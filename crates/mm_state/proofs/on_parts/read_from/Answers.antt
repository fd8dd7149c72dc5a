use Rattle.mm_parts.specs.PartsShown as parts_of
use Rattle.mm_state.proofs.{is_reading}
use Rattle.mm_state.proofs.on_parts.read_from.Goals as goal

pub fill_from-requires-clause-reading : goal.fill_from-requires-clause-reading
fill_from-requires-clause-reading g c = is_reading (parts_of.shown_parts c.args.parts.now).life c.args.f c.requires.legal
