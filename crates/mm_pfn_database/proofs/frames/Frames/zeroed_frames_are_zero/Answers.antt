use Rattle.std.proofs.Common.{refl}
use Rattle.mm_pfn_database.proofs.{zeroed_zero, on_place, hand_zero, shown}
use Rattle.mm_pfn_database.proofs.frames.Frames.zeroed_frames_are_zero.Goals as goal

pub returns-clause-zeroed : goal.returns-clause-zeroed
returns-clause-zeroed c = λ k f. zeroed_zero (shown c.self.invariant c.self.view_is) f k

pub returns-clause-on_zeroed : goal.returns-clause-on_zeroed
returns-clause-on_zeroed c = λ f e.
    let k = on_place f c.args.self.now.table.zeroed e in
    zeroed_zero (shown c.self.invariant c.self.view_is) f k.0 k.1

pub returns-clause-blank : goal.returns-clause-blank
returns-clause-blank c = λ f e. hand_zero c.args.self.now (shown c.self.invariant c.self.view_is) {f = f} refl e refl refl
