-- Calls that make pages or none, one after another.
use Rattle.std.proofs.Common.{◌≡◌, ◌∙◌, Bool, true, false, [], refl, ℕ}
use Rattle.std.specs.Prelude.{Result, Ok, OnErr}
use Rattle.mm_move_rules.proofs.{grew_nothing}
use Rattle.mm_types.specs.{NoMemory}
use Rattle.mm_types.proofs.{on_err}
use Rattle.mm_store.specs.{NotesIn, Turn, Turns, Makes as Making, Ghosts as PageStoreGhosts}
use Rattle.mm_store.specs.Behind.{Behind}
use Rattle.mm_store.proofs.Passed as passed
use Rattle.mm_object_tables.specs.{PassesAs, MakesPages, MakesWithin}

module _ {G : Type 0} (p : PageStoreGhosts G) where
  -- two calls of which each is of any turn are so together
  pub idle_then : (g h k : G) → ((turn : Turn) → PassesAs p turn g h) → ((turn : Turn) → PassesAs p turn h k) → (turn : Turn) → PassesAs p turn g k
  idle_then g h k a b turn = passed.idle_then p.unpaged turn (p.store g) (p.store h) (p.store k) (p.behind g) (p.behind h) (p.behind k) a b

  -- no call
  pub idle : (g : G) (turn : Turn) → PassesAs p turn g g
  idle g turn = passed.turns_same p.unpaged turn (p.store g) (p.behind g)

  -- memory ran out before a page came to be
  pub pages_idle : {T : Type 0} (result : Result T NoMemory) {g h : G} → ((turn : Turn) → PassesAs p turn g h) → p.loans h ≡ p.loans g → MakesPages p result g h
  pages_idle result idle loans = record { passes = idle Making; idle = on_err result idle; loans = loans }

  -- pages come to be after a call that makes none
  pub pages_then : {T : Type 0} {x : T} {g k : G} (h : G) → ((turn : Turn) → PassesAs p turn g h) → p.loans h ≡ p.loans g → PassesAs p Making h k → p.loans k ≡ p.loans h → MakesPages p (Ok x) g k
  pages_then {g = g} {k = k} h idle lent passes loans =
      record { passes = passed.idle_before p.unpaged Making (p.store g) (p.store h) (p.store k) (p.behind g) (p.behind h) (p.behind k) idle passes; idle = tt; loans = loans ∙ lent }

  -- what a call answers that made pages is handed on otherwise
  pub pages_as : {T U : Type 0} {r : Result T NoMemory} (q : Result U NoMemory) {g h : G} → OnErr q ((turn : Turn) → PassesAs p turn g h) → MakesPages p r g h → MakesPages p q g h
  pages_as q idle m = record { passes = m.passes; idle = idle; loans = m.loans }

-- a line that calls devices otherwise, without a call
pub notes_nothing : (u : Bool) (t : Turn) (b : Behind) → NotesIn u (Turns t) b b
notes_nothing true t b = refl
notes_nothing false t b = record {
  moves = [];
  in_range = tt;
  grew = grew_nothing b.log;
  replays = refl;
  that = record { turned = passed.turned_none t b.life; moved = record { waits = refl; ages = refl }; slots = refl };
}

-- a call that makes pages, where what it answers is handed on otherwise
pub makes_as : {G : Type 0} (p : PageStoreGhosts G) {Stand : ℕ → ℕ → Type 0} {T U : Type 0} {r : Result T NoMemory} (q : Result U NoMemory) {g h : G} → OnErr q ((turn : Turn) → PassesAs p turn g h) → MakesWithin p Stand r g h → MakesWithin p Stand q g h
makes_as p q idle m = record { later = m.later; passes = m.passes; idle = idle; loans = m.loans }
