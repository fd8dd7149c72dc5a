-- The events of a generated script: eleven fixed ones, and so many drawn ones.
-- Profile, "A run".
use Rattle.std.specs.Prelude.{◌≡◌, ℕ, zero, suc, ◌+◌, ◌*◌, ◌%◌, nat_le, ◌==◌, if◌then◌else◌, List, [], ◌∷◌, ◌++◌, Some, None, codes}
use Rattle.mm_types.specs.{Event, page_size, reserve_and_commit_type, readwrite}
use Rattle.mm_types.specs.declared.events.Event.TheVariants as line
use Rattle.rand_pcg.specs.Lcg.{Lcg, advance}
use Rattle.rand_pcg.specs.Pcg.{multiplier_64}
use Rattle.mm_generate.specs.Outputs.{outputs, seeded, outputs_from}

-- two processes on a small machine, that share a section and the pages of a file
abbrev pub fixed_events : List Event
fixed_events =
    line.Machine (record { frames = 64; slots = 256; depth = 4; blocks = 32 })
    ∷ line.Process 8 48
    ∷ line.Process 8 48
    ∷ line.File (codes "data") 32 1
    ∷ line.Alloc (record { 0 = 1 }) 0x0 0x80000 reserve_and_commit_type readwrite
    ∷ line.Create (record { 0 = 1 }) 0x20000 0x4 (Some (codes "pool"))
    ∷ line.Open (record { 0 = 2 }) (codes "pool")
    ∷ line.Map (record { 0 = 1 }) 4 0x2 0x0 0x0 0x0
    ∷ line.Map (record { 0 = 2 }) 4 0x2 0x0 0x0 0x0
    ∷ line.CreateFile (record { 0 = 2 }) (codes "data") 0x4 None
    ∷ line.Map (record { 0 = 2 }) 8 0x1 0x0 0x0 0x0 ∷ []

-- ---- drawn events

-- the address of the page drawn by a word, one of so many from 0x10000 on
abbrev pub address_drawn : ℕ → ℕ → ℕ
address_drawn word pages = 0x10000 + page_size * (word % pages)

-- a write of one byte, its page and its byte each drawn by a word
abbrev pub write_drawn : ℕ → ℕ → ℕ → ℕ → Event
write_drawn pid pages page byte = line.Write (record {
  0 = pid;
}) (address_drawn page pages) (byte % 256 ∷ [])

-- a read of one byte
abbrev pub read_drawn : ℕ → ℕ → ℕ → Event
read_drawn pid pages page = line.Read (record { 0 = pid }) (address_drawn page pages) 1

-- an event, and how many outputs it was drawn by
pub record Drawn : Type 0 where
  pub event : Event
  pub taken : ℕ

abbrev pub drawn_by : Event → ℕ → Drawn
drawn_by event taken = record { event = event; taken = taken }

-- the event of this kind, 0 to 7, that these outputs draw; the first of them drew the kind
abbrev pub drawn_of_kind : ℕ → (ℕ → ℕ) → Drawn
drawn_of_kind kind words =
    if nat_le kind 1 then drawn_by (write_drawn 1 160 (words 1) (words 2)) 3 else (
    if kind == 2 then drawn_by (read_drawn 1 160 (words 1)) 2 else (
    if kind == 3 then drawn_by (write_drawn 2 64 (words 1) (words 2)) 3 else (
    if kind == 4 then drawn_by (read_drawn 2 64 (words 1)) 2 else (
    if kind == 5 then drawn_by (line.Trim (record { 0 = 1 + words 1 % 2 }) 8) 2 else (
    if kind == 6 then drawn_by (line.Writer 4) 1 else
    drawn_by (line.Io 1) 1)))))

abbrev pub drawn : (ℕ → ℕ) → Drawn
drawn words = drawn_of_kind (words 0 % 8) words

-- a generator draws this event, and what it is then
pub record Draws (g : Lcg) (e : Event) (later : Lcg) : Type 0 where
  pub event : e ≡ (drawn (outputs g)).event
  pub after : later ≡ advance 64 multiplier_64 (drawn (outputs g)).taken g

-- so many events, each drawn by the outputs after those of the one before
unfoldable pub drawn_events : ℕ → (ℕ → ℕ) → List Event
drawn_events zero words = []
drawn_events (suc count) words =
    let first = drawn words in
    first.event ∷ drawn_events count (outputs_from first.taken words)

-- the events of a seed and a count
abbrev pub script_of : ℕ → ℕ → List Event
script_of seed count = fixed_events ++ drawn_events count (outputs (seeded seed))
