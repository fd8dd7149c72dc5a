-- What a line notes: its `at` and the moves after it, before what its store keeps at all times is
-- put beside them. Profile, "Logs of moves".
use Rattle.std.specs.Prelude.{◌≡◌, ◌⊎◌, ℕ, Bool, true, false, List, [], ◌∷◌, Option, if◌then◌else◌, nat_lt, ◌==◌, ◌&&◌}
use Rattle.mm_types.specs.{Answer, Event, LineKind, Move, Key}
use Rattle.mm_types.specs.declared.moves.LineKind.TheVariants as kind
use Rattle.mm_types.specs.declared.moves.Move.TheVariants as move
use Rattle.mm_move_rules.specs.{Grew, AreMoves, spelled_moves, Replays, Waiting, Idle, waits_through}
use Rattle.mm_world.specs.{Page, kept_by, Tables, world_with}
use Rattle.mm_world.specs.World.{World}
use Rattle.mm_world.specs.Report.{Report}
use Rattle.mm_store.specs.{StoreOf, told_of, told_through, Makes, AllTurn}
use Rattle.mm_move_rules.specs.{changed}
use Rattle.mm_store.specs.Behind.{Behind}
use Rattle.mm_line_moves.specs.{kind_of_line, Does, Traffic, asks_beside, with_line, ages_of_line, waits_of_line}
use Rattle.mm_object_tables.specs.{key_bytes}
use Rattle.mm_dispatch.specs.Forgetting.{is_of_process}

-- ---- keys come to be, or go

-- a move that takes no key away, and begins no line
abbrev pub keeps_keys : Move → Bool
keeps_keys (move.At n k) = false
keeps_keys (move.Drop k) = false
keeps_keys _ = true

-- a move that takes a page away
abbrev pub takes_away : Move → Bool
takes_away (move.Unmap p) = true
takes_away (move.Drop k) = true
takes_away _ = false

abbrev pub EachMove : (Move → Bool) → List Move → Type 0
EachMove test [] = Unit {0}
EachMove test (m ∷ ms) = (test m ≡ true) × EachMove test ms

-- in no line keys both come to be and go
abbrev pub IsOneWay : List Move → Type 0
IsOneWay ms = EachMove keeps_keys ms ⊎ EachMove takes_away ms

-- ---- a line

-- a line's first move, and after it moves of which this holds. Of a line whose calls of devices are
-- no moves nothing is told of devices
pub record LineWent (beside : Bool) (first : Move) (That : List Move → Type 0) (s z : StoreOf)
    (b c : Behind) : Type 0 where
  pub moves : List Move
  pub in_range : AreMoves (first ∷ moves)
  pub grew : Grew b.log c.log (spelled_moves (first ∷ moves))
  pub replays : Replays (first ∷ moves) b.life c.life
  pub that : That moves
  pub told : beside ≡ false →
      told_of z.report ≡ told_through b.life (first ∷ moves) (told_of s.report)
  pub traffic : beside ≡ false →
      Traffic b.life (first ∷ moves) s.paging_device z.paging_device s.file_device z.file_device
      b.slots c.slots s.file_blocks z.file_blocks

-- what the moves of a line are, by the worlds before and after it, where its `at` has this number
-- and kind
pub record TellsLine (n : ℕ) (k : LineKind) (e : Event) (w : World) (a : Answer) (v : World)
    (after : Report) (b : Behind) (moves : List Move) (c : Behind) : Type 0 where
  pub one_way : IsOneWay moves
  pub does : Does w e a v after (with_line (move.At n k) b) moves c
  pub ages : c.ages ≡ ages_of_line w e a b moves
  pub waits : c.waits ≡ waits_of_line w e a b (waits_through moves b.waits) c.life

-- a line was noted, with an `at` of this kind
abbrev pub MarkedAs : LineKind → Event → ℕ → World → StoreOf → Behind → Answer → World → StoreOf →
    Behind → Type 0
MarkedAs k e n w s b a v z c =
    LineWent (asks_beside e) (move.At n k) (λ ms. TellsLine n k e w a v z.report b ms c) s z b c

abbrev pub Marked : Event → ℕ → World → StoreOf → Behind → Answer → World → StoreOf → Behind →
    Type 0
Marked e n w s b a v z c = MarkedAs (kind_of_line w e a) e n w s b a v z c

-- of a store that pages: a decided line was noted, from tables, bytes and store to those that there
-- are now
abbrev pub MarkedIn : Bool → Event → ℕ → Tables → (Key → Option Page) → StoreOf → Behind → Answer →
    Tables → (Key → Option Page) → StoreOf → Behind → Type 0
MarkedIn unpaged e n t old s b a after new z c =
    unpaged ≡ false →
    Marked e n (world_with t (key_bytes old)) s b a (world_with after (key_bytes new)) z c

-- ---- a line that ran out of memory

-- the kind of a line after the first one
abbrev pub is_later : LineKind → Bool
is_later (kind.Machine frames slots depth blocks) = false
is_later _ = true

-- no move, or an `at` of the line's number, of a kind that some answer to it gives, and after it
-- keys that came to be
abbrev pub IsCutLine : World → Event → ℕ → List Move → Type 0
IsCutLine w e n piece = (piece ≡ []) ⊎
    ((a : Answer) ×
    ((moves : List Move) ×
    ((piece ≡ move.At n (kind_of_line w e a) ∷ moves) × AllTurn Makes moves)))

pub record Halted (w : World) (e : Event) (n : ℕ) (b c : Behind) : Type 0 where
  pub piece : List Move
  pub in_range : AreMoves piece
  pub grew : Grew b.log c.log (spelled_moves piece)
  pub replays : Replays piece b.life c.life
  pub slots : c.slots ≡ b.slots
  pub cut : IsCutLine w e n piece

abbrev pub HaltedIn : Bool → World → Event → ℕ → Behind → Behind → Type 0
HaltedIn unpaged w e n b c = unpaged ≡ false → Halted w e n b c

-- ---- waits that are forgotten

-- what the threads wait for, where those below a number whose access is of the process wait for
-- nothing
abbrev pub idle_left : Tables → ℕ → ℕ → (ℕ → Waiting) → ℕ → Waiting
idle_left t pid end waits tid = if nat_lt tid end &&
    is_of_process pid (kept_by t tid) then Idle else
    waits tid

-- one thread's wait is forgotten, if its access is of the process
abbrev pub idle_but : Tables → ℕ → ℕ → (ℕ → Waiting) → ℕ → Waiting
idle_but t pid tid waits = if is_of_process pid (kept_by t tid) then changed ◌==◌ waits tid Idle
    else waits

abbrev pub IdlesBut : Tables → ℕ → ℕ → Behind → Behind → Type 0
IdlesBut t pid tid b c = c ≡ record b { waits = idle_but t pid tid b.waits }

-- no move is made for that, and all else stays
pub record Idles (t : Tables) (pid end : ℕ) (b c : Behind) : Type 0 where
  pub waits : (tid : ℕ) → c.waits tid ≡ idle_left t pid end b.waits tid
  pub same : c ≡ record b { waits = c.waits }

abbrev pub IdlesIn : Bool → Tables → ℕ → ℕ → Behind → Behind → Type 0
IdlesIn unpaged t pid end b c = unpaged ≡ false → Idles t pid end b c
