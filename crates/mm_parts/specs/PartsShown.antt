-- What `Parts` shows.
use Rattle.std.specs.Prelude.{ℕ, List, Option}
use Rattle.mm_types.specs.{Place}
use Rattle.mm_page_tables.specs.Shown as tables
use Rattle.mm_page_tables.specs.{WordsOf}
use Rattle.mm_parts.specs.declared.parts.Parts.{Parts}
use Rattle.mm_parts.specs.Shown.{JoinedParts, PartsOf, shown_of}

abbrev pub joined_parts : Parts → JoinedParts
joined_parts s = record {
  line = record {
    machine = s.machine;
    line = s.line;
    kind = s.kind;
    paging_keys = s.paging_keys;
    added = s.added.items;
  };
  table = s.frames.table;
  bytes = s.frames.bytes;
  free = s.slots.free;
  words = tables.words s.words;
  ages = tables.place_ages s.words;
  flight = s.flight;
  own = s.own;
}

abbrev pub shown_parts : Parts → PartsOf
shown_parts s = shown_of (joined_parts s)

-- the entries of places and keys
abbrev pub parts_words : Parts → WordsOf
parts_words s = tables.words s.words

-- how many slots can be added without memory
abbrev pub spare_slots : Parts → ℕ
spare_slots s = s.slots.spare

-- the age of each valid place, none of any other
abbrev pub parts_ages : Parts → Place → Option ℕ
parts_ages s = tables.place_ages s.words

-- the requests in flight, without the line's own
abbrev pub parts_flight : Parts → List ℕ
parts_flight s = s.flight.frames
