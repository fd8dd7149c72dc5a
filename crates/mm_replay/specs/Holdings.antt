-- What the tables of the running check mean.
use Rattle.std.specs.Prelude.{◌≡◌, Bool, false, Option, Some, None}
use Rattle.mm_types.specs.{Frame, Key, Place, Held}
use Rattle.mm_types.specs.declared.numbers.Key.TheVariants.{Private, Shared}
use Rattle.mm_types.specs.declared.frames.Held.TheVariants as held
use Rattle.mm_move_rules.specs.{changed, same_key}
use Rattle.mm_replay.specs.declared.pairs.Pairs.{Pairs}
use Rattle.mm_replay.specs.declared.holdings.Alive.{Alive}
use Rattle.mm_replay.specs.declared.holdings.Keys.{Keys}
use Rattle.mm_replay.specs.declared.holdings.Places.{Places}
use Rattle.mm_replay.specs.Pairs.{found_pair}

abbrev pub held_of : Option Alive → Held
held_of None = held.Dead
held_of (Some a) = a.held

abbrev pub alive_paging : Option Alive → Bool
alive_paging None = false
alive_paging (Some a) = a.paging

abbrev pub no_keys : Key → Held
no_keys _ = held.Dead

abbrev pub no_paging : Key → Bool
no_paging _ = false

abbrev pub no_places : Place → Option Frame
no_places _ = None

-- what is known of a key, from a table of private pages and one of shared ones
unfoldable pub alive_at : Pairs Alive → Pairs Alive → Key → Option Alive
alive_at pages indices (Private p v) = found_pair pages p.0 v.0
alive_at pages indices (Shared a i) = found_pair indices a.0 i

abbrev pub alive_in : Keys → Key → Option Alive
alive_in keys k = alive_at keys.pages keys.indices k

-- of one key it is x that is known from now on, of all others what was
abbrev pub Written : (Key → Option Alive) → (Key → Option Alive) → Key → Option Alive → Type 0
Written old new k x = (q : Key) → new q ≡ changed same_key old k x q

abbrev pub Stays : (Key → Option Alive) → (Key → Option Alive) → Type 0
Stays old new = (q : Key) → new q ≡ old q

abbrev pub stands_in : Keys → Key → Held
stands_in keys k = held_of (alive_in keys k)

abbrev pub paging_in : Keys → Key → Bool
paging_in keys k = alive_paging (alive_in keys k)

abbrev pub frames_in : Places → Place → Option Frame
frames_in places p = found_pair places.frames p.pid.0 p.vpn.0
