-- What parts, log, tallies and devices show together, and what a new state shows.
use Rattle.std.specs.Prelude.{◌≡◌, ℕ, List, [], ◌∷◌, None}
use Rattle.mm_types.specs.{MachineOf}
use Rattle.mm_move_rules.specs.{contents_of, Log, Grew, AreMoves, spelled_moves}
use Rattle.mm_devices.specs.{DeviceOf}
use Rattle.mm_store.specs.{none_told}
use Rattle.mm_store.specs.Told.{Told}
use Rattle.mm_parts.specs.{PartsOf, waits_of, first_parts, first_move}
use Rattle.mm_state_calls.specs.{StateOf}

abbrev pub joined_state : PartsOf → Log → Told → DeviceOf → DeviceOf → List (List ℕ) →
    List (List ℕ) →
    StateOf
joined_state s log told paging files slots blocks = record {
  life = s.life;
  log = log;
  told = told;
  contents = contents_of s.life s.bytes slots blocks;
  ages = s.ages;
  waits = waits_of s.waits;
  is_open = s.is_open;
  bound = s.bound;
  areas = s.areas;
  names = s.names;
  aside = s.aside;
  own = s.own;
  paging = paging;
  files = files;
  slots = slots;
  blocks = blocks;
}

-- the first line of this machine was made and noted after this log, over these devices: nothing
-- lives yet
pub record MachineStarts (m : MachineOf) (log : Log) (paging files : DeviceOf)
    (slots blocks : List (List ℕ)) (z : StateOf) : Type 0 where
  pub in_range : AreMoves (first_move m ∷ [])
  pub grew : Grew log z.log (spelled_moves (first_move m ∷ []))
  pub shows : z ≡
      record (joined_state (first_parts m) z.log none_told paging files slots blocks) {
        contents = λ _.
            None;
      }
