-- A store with the private keys of a range of pages added or removed.
use Rattle.std.specs.Prelude.{◌≡◌, ◌≤◌, ℕ, zero, suc, ◌+◌, ◌-◌, ◌/◌, Bool, true, false, not, ◌&&◌, ◌==◌, if◌then◌else◌, is_some, Option, Some, None, unwrap_or, List}
use Rattle.mm_types.specs.{Key, Pid, Range, holds_page}
use Rattle.mm_types.specs.declared.numbers.Key.TheVariants as key
use Rattle.mm_types.specs.declared.moves.LineKind.TheVariants as kind
use Rattle.mm_world.specs.{Page, RegionOf, filled, own_page}
use Rattle.mm_store.specs.{StoreOf, own_key, AllBound, place_at, rearranged}

-- a private key of one of the pages of a process
abbrev pub is_key_in : Pid → Range → Key → Bool
is_key_in pid range (key.Private p v) = (p.0 == pid.0) && holds_page range v.0
is_key_in pid range (key.Shared area index) = false

-- keys that are held are live: what was not reads as zero
abbrev pub with_live : (Key → Bool) → (Key → Option Page) → Key → Option Page
with_live held c k = if held k then Some (unwrap_or (c k) (filled 0)) else c k

abbrev pub with_flags : (Key → Bool) → (Key → Bool) → Key → Bool
with_flags held f k = if held k then true else f k

-- a store after the keys that are held came to be, `n` of them, `z` for its report alone
pub record Come (held : Key → Bool) (n : ℕ) (c d : Key → Option Page) (s z : StoreOf) : Type 0 where
  pub contents : d ≡ with_live held c
  pub store : z ≡ record s {
    paging = with_flags held s.paging;
    paging_keys = s.paging_keys + n;
    report = rearranged s.report z.report;
  }

-- these pages of a process have a key
abbrev pub with_range_keys : Pid → Range → (Key → Option Page) → Key → Option Page
with_range_keys pid range contents = with_live (is_key_in pid range) contents

-- these pages of a process have none
abbrev pub removed : Pid → Range → (Key → Option Page) → Key → Option Page
removed pid range contents k = if is_key_in pid range k then None else contents k

-- of a function of keys, the value at these pages of a process set
abbrev pub flags_set_in : Pid → Range → (Key → Bool) → Bool → Key → Bool
flags_set_in pid range flags b k = if is_key_in pid range k then b else flags k

-- how many of `count` numbers from `first` on pass the test
abbrev pub passing : (ℕ → Bool) → ℕ → ℕ → ℕ
passing test first zero = 0
passing test first (suc count) = passing test first count + (if test (first + count) then 1 else 0)

-- a page of a process has a key
abbrev pub is_page_live : Pid → (Key → Option Page) → ℕ → Bool
is_page_live pid contents page = is_some (contents (key.Private pid (record { 0 = page })))

abbrev pub is_page_dead : Pid → (Key → Option Page) → ℕ → Bool
is_page_dead pid contents page = not (is_page_live pid contents page)

-- keys can be added where these pages of a process, which regions have, hold none
pub record CanAdd (pid : Pid) (range : Range) (regions : List (RegionOf (Unit {0})))
    (c : Key → Option Page) (s : StoreOf) : Type 0 where
  pub live : (page : ℕ) → holds_page range page ≡ true →
      is_page_live pid c page ≡ is_some (own_page regions page)
  pub bound : AllBound s pid range true
  pub named : (page : ℕ) → holds_page range page ≡ true → is_page_live pid c page ≡ false →
      s.names (place_at pid page) ≡ None
  pub paging : (page : ℕ) → holds_page range page ≡ true →
      s.paging (own_key (place_at pid page)) ≡ is_page_live pid c page
  pub room : s.paging_keys + passing (is_page_dead pid c) range.first range.count ≤ s.room
  pub called : s.kind ≡ kind.Call

-- these pages stand from one number to before another
abbrev pub StandsFrom : ℕ → ℕ → Range → Type 0
StandsFrom from to range = (from ≤ range.first) × (range.first + range.count ≤ to)

-- one page
abbrev pub one_page_range : ℕ → Range
one_page_range page = record { first = page; count = 1 }

-- the first `n` pages of a range
abbrev pub first_pages : Range → ℕ → Range
first_pages range n = record { first = range.first; count = n }

-- its first half, and the other
abbrev pub low_half : Range → Range
low_half range = record { first = range.first; count = range.count / 2 }

abbrev pub high_half : Range → Range
high_half range = record {
  first = range.first + range.count / 2;
  count = range.count - range.count / 2;
}

-- what adding keys comes to
abbrev pub Adds : Pid → Range → (Key → Option Page) → (Key → Option Page) → StoreOf → StoreOf →
    Type 0
Adds pid range c d s z =
    Come (is_key_in pid range) (passing (is_page_dead pid c) range.first range.count) c d s z
