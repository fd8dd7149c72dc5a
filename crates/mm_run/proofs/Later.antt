-- How a line after the first is read.
use Rattle.std.proofs.Common.{◌≡◌, ◌<◌, ℕ, zero, suc, refl, sym, ◌∙◌, arith}
use Rattle.std.proofs.lemmas.Bool.{lt-ltb}
use Rattle.mm_types.specs.{Text, Event}
use Rattle.mm_run.specs.{reading_of, IsMisplaced}

-- All later lines are read alike.
pub later_reading : (n : ℕ) (text : Text) → 0 < n → reading_of n text ≡ reading_of 1 text
later_reading zero text some = absurd (omega arith)
later_reading (suc n) text some = refl

-- A line that is misplaced as the second is misplaced as any later one.
pub later_misplaced : (n : ℕ) (e : Event) → 0 < n → IsMisplaced 1 e → IsMisplaced n e
later_misplaced n e some is = is ∙ sym (lt-ltb 0 n some)
