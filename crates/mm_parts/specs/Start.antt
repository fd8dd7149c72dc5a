-- The parts of a machine at rest, after its first line.
use Rattle.std.specs.Prelude.{ℕ, ◌+◌, true, false, [], replicate, None}
use Rattle.mm_types.specs.{MachineOf, LineKind, Move}
use Rattle.mm_types.specs.declared.moves.LineKind.TheVariants as kind
use Rattle.mm_types.specs.declared.moves.Move.TheVariants as move
use Rattle.mm_move_rules.specs.{free_table, unstarted, after_move}
use Rattle.mm_requests.specs.declared.flights.Waiting.TheVariants as waiting
use Rattle.mm_page_tables.specs.{no_words, no_ages}
use Rattle.mm_parts.specs.Shown.{JoinedParts, PartsOf}

abbrev pub first_kind : MachineOf → LineKind
first_kind m = kind.Machine m.frames m.slots m.depth m.blocks

abbrev pub first_move : MachineOf → Move
first_move m = move.At 1 (first_kind m)

-- the first move was made: all frames are free, no key lives, no process and no area is there, and
-- nobody waits
abbrev pub first_parts : MachineOf → PartsOf
first_parts m = record {
  life = after_move unstarted (first_move m);
  bytes = replicate m.frames None;
  ages = λ _. 0;
  waits = replicate 256 waiting.Nothing;
  own = None;
  aside = None;
  is_open = λ _. false;
  bound = λ _. false;
  areas = λ _. None;
  names = λ _. None;
}

abbrev pub started_parts : MachineOf → JoinedParts
started_parts m = record {
  line = record {
    machine = m;
    line = 1;
    kind = first_kind m;
    paging_keys = 0;
    added = replicate m.blocks false;
  };
  table = free_table m.frames;
  bytes = replicate m.frames None;
  free = replicate m.slots true;
  words = no_words;
  ages = no_ages;
  flight = record { depth = m.depth; frames = []; waits = replicate 256 waiting.Nothing };
  own = None;
}

-- a machine with further slots
abbrev pub machine_grown : MachineOf → ℕ → MachineOf
machine_grown m n = record m { slots = m.slots + n }
