use Rattle.std.proofs.Common.{◌≡◌, ◌-◌, ◌≤◌, length}
use Rattle.mm_page_tables.specs.{PlacesMore, HavePlaces}
use Rattle.mm_page_tables.proofs.page_tables.place_leaves.Given as goal

abbrev pub invariant-loop-page : goal.invariant-loop-page
invariant-loop-page l = record {
  low : l.first ≤ l.page;
  high : l.page ≤ l.end;
  placed : PlacesMore l.fn.leaves.items l.leaves.items;
  places : HavePlaces l.leaves.items l.first l.page;
  count : length l.leaves.items ≡ length l.fn.leaves.items;
}

abbrev pub decreases-loop-page : goal.decreases-loop-page
decreases-loop-page l = l.end - l.page
