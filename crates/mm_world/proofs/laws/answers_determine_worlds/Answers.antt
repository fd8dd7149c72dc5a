use Rattle.std.proofs.Common.{◌≡◌, sym, ap, cond}
use Rattle.mm_world.specs.{unpaged, world_after, world_told}
use Rattle.mm_world.proofs.{decided, in_unpaged}
use Rattle.mm_world.proofs.laws.answers_determine_worlds.Goals as goal

-- unpaged address spaces answer nothing that only the store can tell, so an answer shows who gave it
pub returns : goal.returns
returns c = λ w e before after.
    decided (λ e o. o.world ≡ world_after w e o.answer) w e before after
    (ap (λ b. cond b (world_told w e (unpaged w e).answer) (unpaged w e).world) (sym (in_unpaged w e).untold)) (λ a h. sym h.same)
