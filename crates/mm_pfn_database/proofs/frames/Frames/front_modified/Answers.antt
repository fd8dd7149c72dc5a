use Rattle.std.proofs.Common.{true, sym, ap, ◌∙◌}
use Rattle.std.specs.Prelude.{slice_get}
use Rattle.mm_pfn_database.specs.{FramesOf}
use Rattle.mm_pfn_database.proofs.{listed_rests, shown}
use Rattle.mm_pfn_database.proofs.frames.Frames.front_modified.Goals as goal

pub returns-clause-rests : goal.returns-clause-rests
returns-clause-rests c =
    listed_rests (shown c.self.invariant c.self.view_is) c.in_ok-front.field-0 true 0
    (sym (c.in_ok-front.ensures.first ∙ ap (λ (w : FramesOf). slice_get w.table.modified 0) c.self.view_is))
