use Rattle.std.proofs.Common.{◌≡◌, ℕ, ◌≤◌, ◌-◌, [], length, drop}
use Rattle.std.specs.Prelude.{slice_range}
use Rattle.mm_types.specs.{Text}
use Rattle.mm_text.specs.{words_from}
use Rattle.mm_text.proofs.spans.end_of_word.Given as goal

-- the word that begins at a place has no space up to another
abbrev pub so_far : (from to : ℕ) → Text → Type 0
so_far from to line = record {
  order : from ≤ to;
  within : to ≤ length line;
  word : words_from from [] (drop from line) ≡ words_from from (slice_range line from to) (drop to line);
}

abbrev pub invariant-fours : goal.invariant-fours
invariant-fours l = so_far l.from l.to l.line

abbrev pub decreases-fours : goal.decreases-fours
decreases-fours l = length l.line - l.to

abbrev pub invariant-last : goal.invariant-last
invariant-last l = so_far l.from l.to l.line

abbrev pub decreases-last : goal.decreases-last
decreases-last l = length l.line - l.to
