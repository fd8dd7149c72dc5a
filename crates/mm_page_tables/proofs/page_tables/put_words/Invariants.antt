use Rattle.std.proofs.Common.{◌-◌, ◌≤◌}
use Rattle.mm_page_tables.specs.{word_when, HavePlaces}
use Rattle.mm_page_tables.specs.Directory.{Changes}
use Rattle.mm_page_tables.proofs.page_tables.put_words.Given as goal

abbrev pub invariant-loop-page : goal.invariant-loop-page
invariant-loop-page l = record {
  low : l.first ≤ l.page;
  high : l.page ≤ l.end;
  changes : Changes (word_when l.on) l.fn.leaves.items l.leaves.items l.first l.page;
  places : HavePlaces l.leaves.items l.page l.end;
}

abbrev pub decreases-loop-page : goal.decreases-loop-page
decreases-loop-page l = l.end - l.page
