use Rattle.std.proofs.Common.{refl, ◌∙◌}
use Rattle.mm_pfn_database.specs.declared.standing.Standing.TheVariants.{Free}
use Rattle.mm_move_rules.specs.{blank}
use Rattle.mm_ram.specs.{page_at}
use Rattle.mm_pfn_database.proofs.{as_empty, used_low, busy_off, now_free}
use Rattle.mm_pfn_database.proofs.frames.Frames.free.Goals as goal

pub stand-requires : goal.stand-requires
stand-requires c = λ a. record {
  there = used_low a c.args.f.0 c.requires;
  holds = as_empty Free blank (page_at c.args.self.now.bytes c.args.f.0) (λ e. cc) refl (λ e. cc);
}

pub returns-clause-freed : goal.returns-clause-freed
returns-clause-freed c = c.stand.ensures.stood ∙ now_free c.args.self.now c.stand.ensures.placed c.args.f.0 c.requires

pub returns-clause-busy : goal.returns-clause-busy
returns-clause-busy c = λ e. busy_off c.args.self.now c.stand.ensures.placed c.args.f.0 c.requires e
