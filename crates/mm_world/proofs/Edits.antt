-- Edits of a world's tables. A call is a list of them, so a property that lines keep is proved once for each edit.
use Rattle.std.proofs.Common.{◌≡◌, ℕ, ◌≤◌, ◌<◌, Bool, true, false, Some, None, List, [], ◌∷◌, ◌++◌, length, set, slice_get, is_some, nat_le, ◌&&◌, not}
use Rattle.std.specs.Prelude.{remove}
use Rattle.mm_types.specs.{Answer}
use Rattle.mm_world.specs.{WorldOf, ProcessOf, RegionOf, AreaOf, SectionOf, FileOf, pages_of, process_of, set_process, set_regions, set_area, area_at}
use Rattle.mm_world.specs.{section_of, add_region, ranges_of, is_private, OutcomeOf, limit, region_charge, process_charge, area_charge, with_handle}
use Rattle.mm_world.specs.{settle, no_regions, most_processes, most_fails, most_slots, PagesOf, Leaves, is_success, is_limit_refusal, is_told}
use Rattle.mm_world.specs.{FlagsFit, RowsFit, RegionRefers, References}
use Rattle.mm_world.proofs.Regions.{IsPlaced}

-- what edits may do to the charge
pub data Moves : Type 0 where
  Rises : Moves
  Falls : Moves
  Stays : Moves

abbrev pub Charged : Moves → ℕ → ℕ → Type 0
Charged Rises old new = Unit {0}
Charged Falls old new = new ≤ old
Charged Stays old new = new ≡ old

-- what edits may do
pub record Terms : Type 0 where
  pub ends : PagesOf → Bool  -- whether a private region may go
  pub plain : Bool  -- no page's flag changes
  pub kept : Bool  -- threads keep what they kept
  pub stacks : Bool  -- and their stacks
  pub charge : Moves

-- all of it
abbrev pub any_terms : Answer → Terms
any_terms a = record { ends = λ x. true; plain = false; kept = false; stacks = false; charge = Rises }

module _ {B : Type 0} (t : Terms) where
  -- a region that a process gets
  pub record NewRegion (w : WorldOf B) (rs : List (RegionOf B)) (new : RegionOf B) : Type 0 where
    pub placed : IsPlaced (ranges_of rs) (pages_of new)
    pub some : 1 ≤ length new.rows
    pub flags : FlagsFit new
    pub rows : RowsFit new
    pub refers : RegionRefers w new
    pub plain : t.plain ≡ true → new.watched ≡ None
    pub charged : Charged t.charge 0 (region_charge new)

  -- a region in the place of one with the same pages
  pub record Alike (r new : RegionOf B) : Type 0 where
    pub base : new.base ≡ r.base
    pub kind : new.kind ≡ r.kind
    pub count : length new.rows ≡ length r.rows
    pub rows : RowsFit r → RowsFit new
    pub flags : FlagsFit r → FlagsFit new
    pub watched : is_some new.watched ≡ is_some r.watched
    pub plain : t.plain ≡ true → new.watched ≡ r.watched
    pub charged : Charged t.charge (region_charge r) (region_charge new)

  -- the regions of a process
  pub data RegionEdit (w : WorldOf B) (pid : ℕ) (rs : List (RegionOf B)) : List (RegionOf B) → Type 0 where
    RegionComes : (new : RegionOf B) → NewRegion w rs new → RegionEdit w pid rs (add_region new rs)
    RegionGoes : (i : ℕ) (r : RegionOf B) → slice_get rs i ≡ Some r → (is_private r.kind ≡ true → (x : PagesOf) → x.pid ≡ pid → x.range.first ≡ r.base → t.ends x ≡ true) → Charged t.charge (region_charge r) 0 → RegionEdit w pid rs (remove rs i)
    RegionChanges : (i : ℕ) (r new : RegionOf B) → slice_get rs i ≡ Some r → Alike r new → RegionEdit w pid rs (set rs i new)

  -- what stands beside processes, sections, areas and files
  pub record Beside (w v : WorldOf B) : Type 0 where
    pub processes : v.processes ≡ w.processes
    pub sections : v.sections ≡ w.sections
    pub areas : v.areas ≡ w.areas
    pub files : v.files ≡ w.files
    pub threads : length v.kept ≡ length w.kept
    pub fails : w.fails_taken ≤ most_fails → v.fails_taken ≤ most_fails
    pub blocks : w.blocks_used ≤ w.machine.blocks → v.blocks_used ≤ v.machine.blocks
    pub slots : w.machine.slots ≤ most_slots → v.machine.slots ≤ most_slots
    pub kept : t.kept ≡ true → v.kept ≡ w.kept
    pub stacks : t.stacks ≡ true → v.stacks ≡ w.stacks
    pub limit : limit w ≤ limit v

  pub data Edit (w : WorldOf B) : WorldOf B → Type 0 where
    Rest : (v : WorldOf B) → Beside w v → Edit w v
    Regions : (pid : ℕ) (p : ProcessOf B) (rs : List (RegionOf B)) → process_of w pid ≡ Some p → RegionEdit w pid p.regions rs → Edit w (set_regions w pid p rs)
    HandleComes : (pid : ℕ) (p : ProcessOf B) (number : ℕ) → process_of w pid ≡ Some p → is_some (section_of w number) ≡ true → Edit w (with_handle w pid p number)
    HandleGoes : (pid : ℕ) (p : ProcessOf B) (i : ℕ) → process_of w pid ≡ Some p → Edit w (set_process w pid (Some (record p { handles = set p.handles i None })))
    SectionComes : (s : SectionOf) → (References w → s.area < length w.areas) → Edit w (record w { sections = w.sections ++ Some s ∷ [] })
    AreaComes : (a : AreaOf B) → Charged t.charge 0 (area_charge a) → Edit w (record w { areas = w.areas ++ a ∷ [] })
    AreaChanges : (at : ℕ) (a : AreaOf B) → length a.pages ≡ length (area_at w at).pages → Charged t.charge (area_charge (area_at w at)) (area_charge a) → Edit w (set_area w at a)
    FileComes : (f : FileOf) → f.area < length w.areas → Edit w (record w { files = w.files ++ f ∷ [] })
    Settles : ((old new : ℕ) → new ≤ old → Charged t.charge old new) → Edit w (settle w)
    ProcessComes : nat_le (length w.processes) most_processes ≡ true → Edit w (record w { processes = w.processes ++ Some no_regions ∷ [] })
    ProcessGoes : (pid : ℕ) (p : ProcessOf B) → process_of w pid ≡ Some p → ((x : PagesOf) → x.pid ≡ pid → t.ends x ≡ true) → Charged t.charge (process_charge (Some p)) 0 → Edit w (set_process w pid None)

  pub data Edits (w : WorldOf B) : WorldOf B → Type 0 where
    Nothing : Edits w w
    Then : (v u : WorldOf B) → Edits w v → Edit v u → Edits w u

  -- what each edit keeps, all keep
  pub fold : (P : WorldOf B → Type 0) → ((v u : WorldOf B) → Edit v u → P v → P u) → (w v : WorldOf B) → Edits w v → P w → P v
  fold P each w v Nothing h = h
  fold P each w v (Then u v' es e) h = each u v e (fold P each w u es h)

  pub joined : (w v u : WorldOf B) → Edits w v → Edits v u → Edits w u
  joined w v u es Nothing = es
  joined w v u es (Then x y later e) = Then x u (joined w v x es later) e

-- a success that no store tells
abbrev pub is_call_success : Answer → Bool
is_call_success a = is_success a && not (is_told a)

-- the call with this outcome is a list of edits, none where it is no success, but for a guard that an alarm turned off
pub record Edited {B : Type 0} (t : Answer → Terms) (w : WorldOf B) (o : OutcomeOf B) : Type 0 where
  pub edits : Edits (t o.answer) w o.world
  pub leaves : Leaves w o
  pub granted : (t o.answer).charge ≡ Falls → is_limit_refusal o.answer ≡ false
  pub untold : is_told o.answer ≡ false
