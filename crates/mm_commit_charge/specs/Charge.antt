-- Commit charge beside the commit limit.
-- Profile, "Machine, addresses, limits".
use Rattle.std.specs.Prelude.{ℕ}

-- how many pages are charged, and how many can be
pub record CommitOf : Type 0 where
  pub charge : ℕ
  pub limit : ℕ
