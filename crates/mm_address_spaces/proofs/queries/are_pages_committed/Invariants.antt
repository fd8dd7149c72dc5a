use Rattle.std.proofs.Common.{◌≡◌, true}
use Rattle.mm_world.specs.{every_page_from}
use Rattle.mm_address_spaces.specs.{is_area_page}
use Rattle.mm_address_spaces.proofs.queries.are_pages_committed.Given as goal

abbrev pub invariant-loop-i : goal.invariant-loop-i
invariant-loop-i l = every_page_from (is_area_page l.pages l.view) l.first l.i ≡ true
