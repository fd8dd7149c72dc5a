-- The working set of a process as a map from pages to ages, and the places of the process.
-- Profile, "Which frame moves, and when".
use Rattle.std.specs.Prelude.{◌≡◌, ℕ, true, is_some, Option, Some, option_map}
use Rattle.std.specs.Ordering.{nat_cmp}
use Rattle.std.specs.FinMap as finite
use Rattle.std.specs.FinMap.{FinMap}
use Rattle.mm_types.specs.{Pid, Place}
use Rattle.mm_move_rules.specs.{FrameLife, Ages}

-- the working set has the valid pages of the process, each with its age, and no others
pub record SetShows (l : FrameLife) (ages : Ages) (pid : Pid) (set : FinMap nat_cmp ℕ) :
    Type 0 where
  pub at : (p : Place) → p.pid.0 ≡ pid.0 →
      finite.get set p.vpn.0 ≡ option_map (λ _. ages p) (l.valid p)

abbrev pub place_of_page : Pid → ℕ → Place
place_of_page pid v = record { pid = pid; vpn = record { 0 = v } }

-- the page of a place, if one is given
abbrev pub page_of_place : Option Place → Option ℕ
page_of_place after = option_map (λ p. p.vpn.0) after

-- a place that is given is of this process, and valid
abbrev pub IsInSet : FrameLife → Pid → Option Place → Type 0
IsInSet l pid after = (p : Place) → after ≡ Some p → (p.pid.0 ≡ pid.0) ×
    (is_some (l.valid p) ≡ true)
