-- The order in which pages go that a line takes away.
-- Profile, "Which frame moves, and when".
use Rattle.std.specs.Prelude.{ℕ, zero, suc, ◌+◌, ◌*◌, ◌-◌, ◌^◌, Bool, false, ◌&&◌, ◌==◌, if◌then◌else◌, List, [], ◌∷◌, Option, Some, None, option_map, unwrap_or, position}
use Rattle.mm_types.specs.{Place, end_of}
use Rattle.mm_world.specs.{Numbered, RegionOf, ProcessOf, WorldOf, pages_of, process_of, is_handle_to, is_view_of, uses}

-- the pages that go: those of places among these, and of each area where it has its rank
pub record Leaving : Type 0 where
  pub places : Place → Bool
  pub rank : ℕ → ℕ

abbrev pub nothing : Leaving
nothing = record { places = λ p. false; rank = λ area. 0 }

-- the rank of a page; there is one between those of a page and the next, and some before them all
abbrev pub page_rank : ℕ → ℕ
page_rank page = 2 ^ 32 + 2 * page

-- ---- with what the pages of a section go

abbrev pub or_else : ℕ → ℕ → ℕ
or_else zero m = m
or_else (suc n) m = suc n

-- the rank of the last thing that passes the test, where the first has this place; 0 where none
-- does
abbrev pub last_rank : {A : Type 0} → (A → Bool) → (ℕ → A → ℕ) → ℕ → List A → ℕ
last_rank test rank place [] = 0
last_rank test rank place (x ∷ xs) =
    or_else (last_rank test rank (place + 1) xs) (if test x then rank place x else 0)

-- with a handle, before all pages
abbrev pub handle_rank : ℕ → Numbered ℕ → ℕ
handle_rank number handles = last_rank (is_handle_to number) (λ place h. place + 1) 0 handles

module _ {B : Type 0} where
  -- with a view, right behind its pages
  abbrev pub rank_behind : RegionOf B → ℕ
  rank_behind r = page_rank (end_of (pages_of r)) - 1

  abbrev pub view_rank : ℕ → List (RegionOf B) → ℕ
  view_rank number regions =
      last_rank (λ r. is_view_of number r.kind) (λ place r. rank_behind r) 0 regions

  -- a process gives up a section with its last view of it or, without one, with its last handle to
  -- it; 0 where it has neither
  abbrev pub section_rank : ℕ → Option (ProcessOf B) → ℕ
  section_rank number None = 0
  section_rank number (Some p) =
      or_else (view_rank number p.regions) (handle_rank number p.handles)

  -- an area goes with its section
  abbrev pub goes_with : WorldOf B → ℕ → ℕ → ℕ
  goes_with w pid area =
      unwrap_or
      (option_map (λ n. section_rank n (process_of w pid)) (position (uses area) w.sections))
      0

  -- what a process gives up: places of its own among these, and areas
  abbrev pub leaving : WorldOf B → ℕ → (Place → Bool) → Leaving
  leaving w pid places =
      record { places = λ p. (p.pid.0 == pid) && places p; rank = goes_with w pid }
