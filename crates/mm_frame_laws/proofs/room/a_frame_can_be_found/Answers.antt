use Rattle.std.proofs.Common.{◌≡◌, true, false, sym, ◌∙◌}
use Rattle.mm_frame_laws.proofs.Counting.{room}
use Rattle.mm_frame_laws.proofs.{either}
use Rattle.mm_frame_laws.proofs.room.a_frame_can_be_found.Goals as goal

pub returns : goal.returns
returns c = record {
  may_go = λ l s machine few short pinned unwritable. room l s pinned short machine few unwritable;
  either = λ l s machine few short pinned. either l s pinned short machine few;
  never = λ l s machine few short pinned unwritable stays.
      let h = room l s pinned short machine few unwritable in
      let bad : true ≡ false = sym h.1 ∙ stays h.0 in cc;
}
