use Rattle.mm_world.specs.{step}
use Rattle.mm_world.proofs.{region_stays, line_terms, in_step}
use Rattle.mm_world.proofs.laws.private_regions_stay.Goals as goal

pub returns : goal.returns
returns c = λ w e before after pages lasts.
    region_stays (line_terms e (step w e before after).answer) pages lasts w (step w e before after).world (in_step w e before after).edits
