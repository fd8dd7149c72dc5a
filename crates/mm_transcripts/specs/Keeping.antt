-- How ages are kept: the `age` lines of each process are counted, and each valid page has the
-- count at its last touch.
use Rattle.std.specs.Prelude.{◌≡◌, ℕ, ◌+◌, ◌-◌, ◌≤◌, Bool, ◌==◌, min, if◌then◌else◌, Option, Some}
use Rattle.std.specs.Prelude.{option_map}
use Rattle.mm_types.specs.{Tid, Place}

abbrev pub same_thread : Tid → Tid → Bool
same_thread t u = t.0 == u.0

-- one more `age` line of a process
abbrev pub one_age_more : ℕ → (ℕ → ℕ) → ℕ → ℕ
one_age_more k counts n = if n == k then counts n + 1 else counts n

abbrev pub age_by : ℕ → ℕ → ℕ
age_by count stamp = min 7 (count - stamp)

abbrev pub age_by_stamp : (ℕ → ℕ) → (Place → Option ℕ) → Place → Option ℕ
age_by_stamp counts stamps p = option_map (age_by (counts p.pid.0)) (stamps p)

-- no page was touched after more `age` lines than there were
pub record AreTouchedBefore (counts : ℕ → ℕ) (stamps : Place → Option ℕ) : Type 0 where
  pub earlier : (p : Place) (stamp : ℕ) → stamps p ≡ Some stamp → stamp ≤ counts p.pid.0
