use Rattle.std.proofs.Common.{◌≡◌}
use Rattle.mm_move_rules.specs.{numbers_from}
use Rattle.mm_page_lists.specs.{AreApart}
use Rattle.mm_pfn_database.specs.{free_only}
use Rattle.mm_pfn_database.proofs.frames.push_all.Given as goal

abbrev pub invariant-loop-f : goal.invariant-loop-f
invariant-loop-f l = (l.lists ≡ record { numbers = l.n; lists = free_only (numbers_from 0 l.f) }) × AreApart l.lists
