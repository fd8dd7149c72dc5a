-- The table is held against the entries of the numbers below 1,000, by computing.
use Rattle.std.proofs.Common.{◌≡◌, ℕ, ◌+◌, ◌*◌, ◌<◌, List, get_or, refl, ap, arith, ◌∙◌}
use Rattle.mm_log_writer.specs.{few_entry}
use Rattle.mm_log_writer.specs.declared.spellings.TheConstants.{FEW}
use Rattle.mm_log_writer.proofs.Table.{entries, entry_at}
use Rattle.mm_log_writer.proofs.spellings.few_byte.Goals as goal

byte_at : (table : List ℕ) (n i : ℕ) → table ≡ entries 0 1000 → n < 1000 → i < 4 → get_or table (4 * n + i) 0 ≡ get_or (few_entry n) i 0
byte_at table n i same low within = ap (λ (t : List ℕ). get_or t (4 * n + i) 0) same ∙ entry_at 0 1000 n i low within ∙ ap (λ (m : ℕ). get_or (few_entry m) i 0) first where
  first : 0 + n ≡ n
  first = omega arith

pub returns : goal.returns
unfolding entries
returns c = byte_at FEW c.args.n c.args.i refl c.requires.few c.requires.within
