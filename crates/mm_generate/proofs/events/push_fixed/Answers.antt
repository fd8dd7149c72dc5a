use Rattle.std.proofs.Common.{append_assoc}
use Rattle.mm_generate.proofs.events.push_fixed.Goals as goal

pub returns-clause-fixed : goal.returns-clause-fixed
returns-clause-fixed c =
    simp (
      c.push-9.ensures.items,
      c.push-8.ensures.items,
      c.push-7.ensures.items,
      c.push-6.ensures.items,
      c.push-5.ensures.items,
      c.push-4.ensures.items,
      c.push-3.ensures.items,
      c.push-2.ensures.items,
      c.push.ensures.items,
      c.push_memory.ensures.fixed,
      c.map_whole.ensures,
      c.map_whole-2.ensures,
      c.map_whole-3.ensures,
      c.new.ensures,
      c.name.ensures,
      c.name-2.ensures,
      c.name-3.ensures,
      append_assoc,
    )
