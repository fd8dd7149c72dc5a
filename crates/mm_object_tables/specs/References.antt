-- How many handles and views refer to a section, and how much was made.
use Rattle.std.specs.Prelude.{◌≡◌, ◌≤◌, ℕ, ◌+◌, ◌-◌, ◌^◌, ◌≢◌, is_some, true, length, count_by, sum_by, Option, Some, None}
use Rattle.mm_world.specs.{ProcessOf, SectionOf, KeptOf, WorldOf, numbered, process_of, section_of, area_at, is_handle_to, is_view_of, settle, Each}

module _ {B : Type 0} where
  -- ---- references

  abbrev pub handles_in : ℕ → Option (ProcessOf B) → ℕ
  handles_in number None = 0
  handles_in number (Some p) = count_by (is_handle_to number) p.handles

  abbrev pub views_in : ℕ → Option (ProcessOf B) → ℕ
  views_in number None = 0
  views_in number (Some p) = count_by (λ r. is_view_of number r.kind) p.regions

  -- how many handles of all processes refer to the section, and how many views do
  abbrev pub handles_to : WorldOf B → ℕ → ℕ
  handles_to w number = sum_by (handles_in number) w.processes

  abbrev pub views_of : WorldOf B → ℕ → ℕ
  views_of w number = sum_by (views_in number) w.processes

  -- ---- what holds of worlds that lines reach, beside that they are well formed

  -- a file's area has a page, all its pages are committed, and they have blocks
  pub record FileFits (w : WorldOf B) (area first : ℕ) : Type 0 where
    pub blocks : first + length (area_at w area).pages ≤ w.blocks_used
    pub some : 1 ≤ length (area_at w area).pages
    pub committed : count_by is_some (area_at w area).pages ≡ length (area_at w area).pages

  abbrev pub KeepersLive : WorldOf B → Type 0
  KeepersLive w = (tid : ℕ) (k : KeptOf) → numbered w.kept tid ≡ Some k →
      is_some (process_of w k.pid) ≡ true

  -- no thread keeps an access of this process
  abbrev pub NobodyKeeps : ℕ → WorldOf B → Type 0
  NobodyKeeps pid w = (tid : ℕ) (k : KeptOf) → numbered w.kept tid ≡ Some k → k.pid ≢ pid

  pub record IsTidy (w : WorldOf B) : Type 0 where
    -- a section lives while a handle or a view refers to it, its name while a handle does, its
    -- area's pages while it does
    pub settled : settle w ≡ w
    -- a page-file section has its area alone
    pub own_area : (n m : ℕ) (s r : SectionOf) → section_of w n ≡ Some s → section_of w m ≡ Some r →
        s.area ≡ r.area → (area_at w s.area).file_block ≡ None → n ≡ m
    pub some : (n : ℕ) (s : SectionOf) → section_of w n ≡ Some s →
        1 ≤ length (area_at w s.area).pages
    pub files : (area first : ℕ) → (area_at w area).file_block ≡ Some first → FileFits w area first
    pub file_areas : Each (λ f. is_some (area_at w f.area).file_block ≡ true) w.files
    -- whoever keeps an access is a thread of a living process
    pub keepers : KeepersLive w

  -- ---- how much was made

  pub record MadeAtMost (n : ℕ) (w : WorldOf B) : Type 0 where
    pub sections : length w.sections ≤ n
    pub areas : length w.areas ≤ n
    pub handles : (pid : ℕ) (p : ProcessOf B) → process_of w pid ≡ Some p → length p.handles ≤ n + 1

  -- numbers are left for one more of each
  abbrev pub IsFew : WorldOf B → Type 0
  IsFew w = MadeAtMost (2 ^ 28 - 2) w
