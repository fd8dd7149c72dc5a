use Rattle.std.proofs.Common.{ap, ◌∙◌}
use Rattle.std.specs.Prelude.{◌&&◌}
use Rattle.mm_types.specs.{Record}
use Rattle.mm_move_rules.specs.{is_idle, record_at}
use Rattle.mm_pfn_database.specs.{FramesOf}
use Rattle.mm_pfn_database.proofs.{modified_is, shown}
use Rattle.mm_pfn_database.proofs.frames.Frames.is_modified.Goals as goal

pub returns : goal.returns
returns c =
    c.is_modified.ensures
    ∙ ap (λ (r : Record). is_idle r && r.changed) (c.get.ensures ∙ ap (λ (w : FramesOf). record_at w.table c.args.f.0) c.self.view_is)
    ∙ modified_is (shown c.self.invariant c.self.view_is) c.args.f.0
