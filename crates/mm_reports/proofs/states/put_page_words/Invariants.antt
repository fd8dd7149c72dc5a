use Rattle.std.proofs.Common.{◌≡◌, ◌++◌}
use Rattle.std.specs.Prelude.{flat_map}
use Rattle.mm_reports.specs.{page_word}
use Rattle.mm_reports.proofs.states.put_page_words.Given as goal

abbrev pub invariant-loop-page : goal.invariant-loop-page
invariant-loop-page l = l.text.items ++ flat_map (page_word l.pid) l.page-iterator ≡ l.fn.text.items ++ flat_map (page_word l.pid) l.pages.keys
