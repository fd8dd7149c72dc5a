use Rattle.mm_pfn_database.proofs.{one_place, shown}
use Rattle.mm_pfn_database.proofs.frames.Frames.every_frame_has_one_place.Goals as goal

pub returns-clause-placed : goal.returns-clause-placed
returns-clause-placed c = shown c.self.invariant c.self.view_is

pub returns-clause-one : goal.returns-clause-one
returns-clause-one c = one_place (shown c.self.invariant c.self.view_is)
