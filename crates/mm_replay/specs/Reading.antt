-- A reader of a move's text: each reading gives a value and the text after its spelling, which
-- stood in front. Profile, "Logs of moves".
use Rattle.std.specs.Prelude.{ℕ, ◌+◌, ◌-◌, ◌*◌, ◌^◌, Bool, ◌==◌, ◌&&◌, nat_le, nat_lt, if◌then◌else◌, [], ◌∷◌, codes, Option, Some, None}
use Rattle.mm_types.specs.{Text, Pid, Vpn, Area, Frame, Slot, Block, Key, Place, LineKind, Move}
use Rattle.mm_types.specs.declared.numbers.Key.TheVariants.{Private, Shared}
use Rattle.mm_types.specs.declared.moves.LineKind.TheVariants as kind
use Rattle.mm_types.specs.declared.moves.Stored.TheVariants as stored
use Rattle.mm_types.specs.declared.moves.Move.TheVariants as move

abbrev pub pid : ℕ → Pid
pid n = record { 0 = n }

abbrev pub vpn : ℕ → Vpn
vpn n = record { 0 = n }

abbrev pub area : ℕ → Area
area n = record { 0 = n }

abbrev pub frame : ℕ → Frame
frame n = record { 0 = n }

abbrev pub slot : ℕ → Slot
slot n = record { 0 = n }

abbrev pub block : ℕ → Block
block n = record { 0 = n }

abbrev pub place : Pid → ℕ → Place
place p v = record { pid = p; vpn = vpn v }

-- ---- what a reader gives: a value, and the text after it

abbrev pub reading : {A X : Type 0} → Option (A × Text) → (A → Text → Option X) → Option X
reading None go = None
reading (Some p) go = go p.0 p.1

abbrev pub past : {X : Type 0} → Option Text → (Text → Option X) → Option X
past None go = None
past (Some text) go = go text

abbrev pub past_or : {X : Type 0} → Option Text → (Text → Option X) → Option X → Option X
past_or None go other = other
past_or (Some text) go other = go text

-- what stands after a word, where the text begins with it
abbrev pub strip : Text → Text → Option Text
strip [] text = Some text
strip (w ∷ ws) [] = None
strip (w ∷ ws) (c ∷ cs) = let behind = strip ws cs in if c == w then behind else None

-- ---- numbers

abbrev pub is_digit : ℕ → Bool
is_digit c = nat_le 0x30 c && nat_le c 0x39

-- the digits from the front on, added to those before
abbrev pub number_from : ℕ → Text → ℕ × Text
number_from sum [] = (sum, [])
number_from sum (c ∷ cs) = let more = number_from (10 * sum + (c - 0x30)) cs in if is_digit c then
    more else (sum, c ∷ cs)

abbrev pub below : ℕ → ℕ × Text → Option (ℕ × Text)
below limit p = if nat_lt p.0 limit then Some p else None

-- a number that begins with this digit: no zero stands in front of another digit
abbrev pub led_by : ℕ → Text → Option (ℕ × Text)
led_by c cs = let more = below (2 ^ 32) (number_from (c - 0x30) cs) in if nat_lt 0x30 c then
    more else Some (0, cs)

abbrev pub read_number : Text → Option (ℕ × Text)
read_number [] = None
read_number (c ∷ cs) = let found = led_by c cs in if is_digit c then found else None

abbrev pub small : ℕ → Text → Option (Pid × Text)
small n text = if nat_lt n 256 then Some (pid n, text) else None

abbrev pub read_pid : Text → Option (Pid × Text)
read_pid text = reading (read_number text) small

abbrev pub number_behind : Text → Text → Option (ℕ × Text)
number_behind word text = past (strip word text) read_number

-- ---- parts of a move

abbrev pub read_place : Text → Option (Place × Text)
read_place text =
    reading (read_pid text)
    (λ p behind. reading (number_behind (codes ".") behind) (λ v last. Some (place p v, last)))

abbrev pub read_private : Text → Option (Key × Text)
read_private text =
    reading (read_pid text)
    (λ p behind.
    reading (number_behind (codes ".") behind) (λ v last. Some (Private p (vpn v), last)))

abbrev pub read_shared : Text → Option (Key × Text)
read_shared text =
    reading (read_number text)
    (λ a behind.
    reading (number_behind (codes ".") behind) (λ i last. Some (Shared (area a) i, last)))

abbrev pub read_key : Text → Option (Key × Text)
read_key text =
    past_or (strip (codes "p") text) read_private (past (strip (codes "s") text) read_shared)

abbrev pub read_frame : Text → Option (Frame × Text)
read_frame text = reading (read_number text) (λ n behind. Some (frame n, behind))

-- ---- kinds of lines

abbrev pub read_machine : Text → Option (LineKind × Text)
read_machine text =
    reading (read_number text)
    (λ frames t.
    reading (number_behind (codes " ") t)
    (λ slots u. reading (number_behind (codes " ") u) (λ depth v.
    reading (number_behind (codes " ") v)
    (λ blocks last. Some (kind.Machine frames slots depth blocks, last)))))

abbrev pub read_process : Text → Option (LineKind × Text)
read_process text =
    reading (read_pid text)
    (λ p t. reading (number_behind (codes " ") t)
    (λ min u. reading (number_behind (codes " ") u) (λ max last.
    Some (kind.Process p min max, last))))

abbrev pub read_unbind : Text → Option (LineKind × Text)
read_unbind text = reading (read_pid text) (λ p behind. Some (kind.Unbind p, behind))

abbrev pub read_access : Text → Option (LineKind × Text)
read_access text = reading (read_pid text) (λ p behind. Some (kind.Access p, behind))

abbrev pub read_thread : Text → Option (LineKind × Text)
read_thread text = reading (read_pid text) (λ p behind. Some (kind.Thread p, behind))

abbrev pub read_trim : Text → Option (LineKind × Text)
read_trim text = reading (read_pid text) (λ p behind. Some (kind.Trim p, behind))

abbrev pub read_grow : Text → Option (LineKind × Text)
read_grow text = reading (read_number text) (λ n behind. Some (kind.Grow n, behind))

-- the kinds that name no process
abbrev pub read_plain_kind : Text → Option (LineKind × Text)
read_plain_kind text =
    past_or (strip (codes "call") text) (λ t. Some (kind.Call, t))
    (past_or (strip (codes "writer") text) (λ t. Some (kind.Writer, t))
    (past_or (strip (codes "zeroer") text) (λ t. Some (kind.Zeroer, t))
    (past_or (strip (codes "io") text) (λ t. Some (kind.Io, t))
    (past_or (strip (codes "machine ") text) read_machine
    (past (strip (codes "grow ") text) read_grow)))))

abbrev pub read_kind : Text → Option (LineKind × Text)
read_kind text =
    past_or (strip (codes "access ") text) read_access
    (past_or (strip (codes "thread ") text) read_thread
    (past_or (strip (codes "unbind ") text) read_unbind
    (past_or (strip (codes "trim ") text) read_trim
    (past_or (strip (codes "process ") text) read_process
    (read_plain_kind text)))))

-- ---- moves, from what stands after their first word

abbrev pub kind_behind : ℕ → Text → Option (Move × Text)
kind_behind n text =
    past (strip (codes " ") text)
    (λ behind. reading (read_kind behind) (λ k last. Some (move.At n k, last)))

abbrev pub read_at : Text → Option (Move × Text)
read_at text = reading (read_number text) kind_behind

abbrev pub home_behind : Key → Text → Option (Move × Text)
home_behind k text =
    past_or (strip (codes " zero") text) (λ last. Some (move.Add k None, last))
    (reading (number_behind (codes " block ") text)
    (λ b last. Some (move.Add k (Some (block b)), last)))

abbrev pub read_add : Text → Option (Move × Text)
read_add text = reading (read_key text) home_behind

abbrev pub read_drop : Text → Option (Move × Text)
read_drop text = reading (read_key text) (λ k last. Some (move.Drop k, last))

abbrev pub key_behind : Text → Option (Key × Text)
key_behind text = past (strip (codes " ") text) read_key

abbrev pub read_give : Text → Option (Move × Text)
read_give text =
    reading (read_frame text)
    (λ f behind. reading (key_behind behind) (λ k last. Some (move.Give f k, last)))

abbrev pub read_read : Text → Option (Move × Text)
read_read text =
    reading (read_frame text)
    (λ f behind. reading (key_behind behind) (λ k last. Some (move.Read f k, last)))

abbrev pub place_behind : Text → Option (Place × Text)
place_behind text = past (strip (codes " ") text) read_place

abbrev pub read_map : Text → Option (Move × Text)
read_map text =
    reading (read_frame text)
    (λ f behind. reading (place_behind behind) (λ p last. Some (move.Map f p, last)))

abbrev pub read_unmap : Text → Option (Move × Text)
read_unmap text = reading (read_place text) (λ p last. Some (move.Unmap p, last))

abbrev pub stored_behind : Frame → Text → Option (Move × Text)
stored_behind f text =
    past_or (strip (codes " slot ") text)
    (λ behind. reading (read_number behind)
    (λ s last. Some (move.Write f (stored.Slot (slot s)), last)))
    (reading (number_behind (codes " block ") text)
    (λ b last. Some (move.Write f (stored.Block (block b)), last)))

abbrev pub read_write : Text → Option (Move × Text)
read_write text = reading (read_frame text) stored_behind

abbrev pub read_clear : Text → Option (Move × Text)
read_clear text = reading (read_frame text) (λ f last. Some (move.Clear f, last))

abbrev pub read_steal : Text → Option (Move × Text)
read_steal text = reading (read_frame text) (λ f last. Some (move.Steal f, last))

abbrev pub read_got : Text → Option (Move × Text)
read_got text = reading (read_frame text) (λ f last. Some (move.Got f, last))

abbrev pub read_bad : Text → Option (Move × Text)
read_bad text = reading (read_frame text) (λ f last. Some (move.Bad f, last))

abbrev pub read_soil : Text → Option (Move × Text)
read_soil text = reading (read_frame text) (λ f last. Some (move.Soil f, last))

abbrev pub read_wrote : Text → Option (Move × Text)
read_wrote text = reading (read_frame text) (λ f last. Some (move.Wrote f, last))

abbrev pub read_lost : Text → Option (Move × Text)
read_lost text = reading (read_frame text) (λ f last. Some (move.Lost f, last))

-- the ends of requests, and `soil`
abbrev pub read_end : Text → Option (Move × Text)
read_end text =
    past_or (strip (codes "wrote ") text) read_wrote
    (past_or (strip (codes "got ") text) read_got
    (past_or (strip (codes "soil ") text) read_soil
    (past_or (strip (codes "lost ") text) read_lost
    (past (strip (codes "bad ") text) read_bad))))

-- frames that are found
abbrev pub read_taking : Text → Option (Move × Text)
read_taking text =
    past_or (strip (codes "give ") text) read_give
    (past_or (strip (codes "clear ") text) read_clear
    (past_or (strip (codes "read ") text) read_read
    (past_or (strip (codes "steal ") text) read_steal
    (past_or (strip (codes "write ") text) read_write
    (read_end text)))))

abbrev pub read_text : Text → Option (Move × Text)
read_text text =
    past_or (strip (codes "at ") text) read_at
    (past_or (strip (codes "map ") text) read_map
    (past_or (strip (codes "unmap ") text) read_unmap
    (past_or (strip (codes "add ") text) read_add
    (past_or (strip (codes "drop ") text) read_drop
    (read_taking text)))))
