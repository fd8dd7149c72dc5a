-- What is left of a call once its first tests were passed.
-- Profile, "Calls".
use Rattle.std.specs.Prelude.{ℕ, true, false, zero, suc, [], ◌∷◌, ◌++◌, map, is_some, unwrap_or, option_map, option_and_then, ◌-◌, ◌+◌, ◌≡◌, ◌≤◌, ◌<◌, ◌&&◌, ◌==◌, nat_lt, nat_le, if◌then◌else◌, Option, Some, None, slice_get, List, length}
use Rattle.mm_types.specs.{Answer, Key, Kind, View, ViewAccess, Range, page_of, range_of, pages_for, address_of, is_granule_address, Text}
use Rattle.mm_types.specs.declared.answers.Answer.TheVariants as answer
use Rattle.mm_types.specs.declared.codes.Code.TheVariants as code
use Rattle.mm_types.specs.declared.views.Kind.TheVariants as kind
use Rattle.mm_store.specs.{WritesFile, StoreOf}
use Rattle.mm_world.specs.{Page, ProcessOf, RegionOf, SectionOf, Found, process_of, add_region, ranges_of, set_regions, area_at, placed, Tables}
use Rattle.mm_world.specs.{blank, shared_key, OutcomeOf, done, need, find_or, within_limit, new_section, paging_area, section_prot, may_view}
use Rattle.mm_world.specs.{view_region, flushed_view, flushed_range, pages_of, private_at, private_around}
use Rattle.mm_move_rules.specs.{numbers_from}

-- the pages of a view of a section of `total` pages, from the page `first` on; length 0 means to
-- the section's end
abbrev pub viewed : ℕ → ℕ → ℕ → ℕ
viewed total first size = if size == 0 then total - first else pages_for size

abbrev pub are_viewed : ℕ → ℕ → ℕ → Option ℕ
are_viewed total first size =
    let count = viewed total first size in if nat_lt first total &&
    nat_le (first + count) total then Some count else None

-- `free`: the pages that it means, where they lie in a private region as it asks
abbrev pub freed_pages : List (RegionOf (Unit {0})) → ℕ → ℕ → Option Range
freed_pages regions addr size =
    if size == 0 then option_map (λ r. pages_of r.thing) (private_at regions addr)
    else option_map (λ r. range_of addr size) (private_around regions (range_of addr size))

-- `create`: no section has the name, and one is made
abbrev pub make_section :
    Tables → ℕ → ProcessOf (Unit {0}) → ℕ → ℕ → Option Text → OutcomeOf (Unit {0})
make_section t pid p size flags name =
    within_limit t (
    new_section (record t { areas = t.areas ++ paging_area blank flags size ∷ [] }) pid p
    (record { prot = section_prot flags; name = name; area = length t.areas }))

-- `map`: a view of `count` pages of a section is placed
abbrev pub place_view : Tables → ℕ → ProcessOf (Unit {0}) → Found SectionOf → ViewAccess → ℕ → ℕ →
    ℕ → OutcomeOf (Unit {0})
place_view t pid p s view first count addr =
    find_or t code.InvalidAddress (placed (ranges_of p.regions) addr (record {
      first = page_of addr;
      count = count;
    }) count) (λ range.
    within_limit t (done (answer.At (address_of range.first))
    (set_regions t pid p (add_region (view_region s view first range) p.regions))))

-- `map`: a section was found
abbrev pub map_section : Tables → ℕ → ProcessOf (Unit {0}) → Found SectionOf → ViewAccess → ℕ → ℕ →
    ℕ → OutcomeOf (Unit {0})
map_section t pid p s view offset size addr =
    let total = length (area_at t s.thing.area).pages in
    let first = page_of offset in
    let count = viewed total first size in
    need t code.AccessDenied (may_view view s.thing.prot) (
    need t code.Misaligned (is_granule_address offset && is_granule_address addr) (
    need t code.InvalidAddress (nat_lt first total && nat_le (first + count) total) (
    place_view t pid p s view first count addr)))

-- `file`: the blocks of its pages were written in rising order, all of them, or up to the first
-- write that failed; where it was refused, nothing was
abbrev pub NewFileMade : ℕ → ℕ → Answer → StoreOf → StoreOf → Type 0
NewFileMade first pages answer.Ok s z = WritesFile first pages true s z
NewFileMade first pages answer.Fault s z = WritesFile first pages false s z
NewFileMade first pages _ s z = z ≡ s

-- the keys of `count` pages of an area, from the index `first` on
abbrev pub keys_from : ℕ → ℕ → ℕ → List Key
keys_from area first zero = []
keys_from area first (suc count) = shared_key area first ∷ keys_from area (first + 1) count

-- `flush`: the keys that the range means, in rising order, where the view's section is a file
abbrev pub file_keys : Tables → View → ℕ → Range → List Key
file_keys t v base range =
    if is_some (area_at t v.area.0).file_block
    then map (λ page. shared_key v.area.0 (v.first + (page - base)))
    (numbers_from range.first range.count)
    else []

abbrev pub keys_of_region : Tables → ℕ → ℕ → Kind → RegionOf (Unit {0}) → List Key
keys_of_region t addr size kind.Private r = []
keys_of_region t addr size (kind.View v) r = file_keys t v r.base (flushed_range r addr size)

abbrev pub keys_of_flush : Tables → ℕ → ℕ → ℕ → List Key
keys_of_flush t pid addr size =
    unwrap_or
    (option_and_then
    (λ p. option_map (λ r. keys_of_region t addr size r.thing.kind r.thing)
    (flushed_view p.regions addr size)) (process_of t pid))
    []

-- `flush`: the blocks of some pages of a file hold their bytes
abbrev pub AreHeld : (Key → Option ℕ) → (Key → Option Page) → List Page → ℕ → ℕ → ℕ → Type 0
AreHeld block_of contents blocks area first count =
    (index block : ℕ) → first ≤ index → index < first + count →
    block_of (shared_key area index) ≡ Some block →
    slice_get blocks block ≡ contents (shared_key area index)

-- some pages of a file, which have blocks in a row
pub record InBlocks (block_of : Key → Option ℕ) (area first count block : ℕ) : Type 0 where
  pub at : (index : ℕ) → first ≤ index → index < first + count →
      block_of (shared_key area index) ≡ Some (block + index)
