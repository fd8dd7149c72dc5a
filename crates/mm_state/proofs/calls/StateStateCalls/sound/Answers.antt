use Rattle.mm_parts.specs.PartsShown as parts_of
use Rattle.mm_state.proofs.{page_whole}
use Rattle.mm_state.proofs.calls.StateStateCalls.sound.Goals as goal

pub returns-clause-whole : goal.returns-clause-whole
returns-clause-whole g c =
    let s = c.args.self.now in
    let u = parts_of.shown_parts s.parts in
    page_whole u.life u.bytes _ _ c.bytes_hold.ensures.whole s.slots_whole s.blocks_whole
