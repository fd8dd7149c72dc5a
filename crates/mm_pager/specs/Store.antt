-- What the store shows.
use Rattle.std.specs.Prelude.{ℕ, List, Option}
use Rattle.mm_types.specs.{Loans, Key}
use Rattle.mm_store.specs.Behind.{Behind}
use Rattle.mm_store.specs.{StoreOf}
use Rattle.mm_state_calls.specs.{Ghosts as StateCallsGhosts, StateOf}
use Rattle.mm_pager.specs.declared.pager.Pager.{Pager}
use Rattle.mm_pager.specs.Shown.{OwnOf, own_of, store_of, behind_of}

module _ {T : Type 0} {t : StateCallsGhosts T} where
  abbrev pub paged_state : Pager T t → StateOf
  paged_state s = t.shown s.state

  abbrev pub own_in : Pager T t → OwnOf
  own_in s = own_of s.extended s.ready s.blocks_used

  abbrev pub contents : Pager T t → Key → Option (List ℕ)
  contents s = (t.shown s.state).contents

  abbrev pub store : Pager T t → StoreOf
  store s = store_of (t.shown s.state) (own_of s.extended s.ready s.blocks_used)

  abbrev pub paged_behind : Pager T t → Behind
  paged_behind s = behind_of (t.shown s.state)

  abbrev pub loans : Pager T t → Loans
  loans s = t.loans s.state
