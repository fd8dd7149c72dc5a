-- What stands behind the first of some bytes.
use Rattle.std.proofs.Common.{◌≡◌, ℕ, ◌+◌, ◌≤◌, [], length, sym, arith}
use Rattle.std.proofs.lemmas.List.{drop_all}
use Rattle.mm_types.specs.{Text}
use Rattle.mm_reports.specs.{before, after_byte}

pub behind_none : (byte : ℕ) (word : Text) → length word ≤ length (before byte word) → [] ≡ after_byte byte word
behind_none byte word over = sym (drop_all (length (before byte word) + 1) word (omega (arith, over)))

pub ruleset rest_behind = (behind_none)
