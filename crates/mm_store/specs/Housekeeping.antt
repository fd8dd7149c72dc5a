-- The moves that the other calls of a store make.
-- Profile, "Which frame moves, and when".
use Rattle.std.specs.Prelude.{◌≡◌, ◌≤◌, ◌<◌, ℕ, Option, None, ◌-◌, Bool, true, false, not, List, [], ◌∷◌, ◌+◌, ◌^◌, ◌++◌, length, min, replicate, slice_get, Some, Result, Ok, Err}
use Rattle.mm_types.specs.declared.moves.LineKind.TheVariants as kind
use Rattle.mm_types.specs.{GrowFault, Answer, page_of, end_of_user_pages, Move, Key, Pid, Place}
use Rattle.mm_types.specs.declared.faults.GrowFault.TheVariants as grow_fault
use Rattle.mm_types.specs.declared.answers.Answer.TheVariants as answer
use Rattle.mm_world.specs.{filled}
use Rattle.mm_store.specs.declared.outcomes.Done.{Done}
use Rattle.mm_store.specs.declared.outcomes.Done.TheVariants as done
use Rattle.mm_types.specs.declared.moves.Move.TheVariants as move
use Rattle.mm_types.specs.declared.numbers.Key.TheVariants as key
use Rattle.mm_move_rules.specs.{record_at, after_move, FrameLife, set_of, is_live, Through, waits_through, ages_through, TrimMove, spare_of, all_aged}
use Rattle.mm_move_rules.specs.{frame_of, clearings, writes_begun, ending}
use Rattle.mm_store.specs.Behind.{Behind}
use Rattle.mm_store.specs.Leaving.{Leaving, page_rank}
use Rattle.mm_store.specs.Accesses.{walk_from}
use Rattle.mm_store.specs.Flushing.{FlushedAt, ends_lost, Flushing}

-- ages and waits are as these moves make them
pub record ByMoves (b : Behind) (moves : List Move) (c : Behind) : Type 0 where
  pub waits : c.waits ≡ waits_through moves b.waits
  pub ages : c.ages ≡ ages_through moves b.ages

-- ---- calls that make pages and calls that end them

-- pages come to be, from the first number to before the last; or those of a new stack with this
-- guard page do; or these go, from the first rank to before the last
pub data Turn : Type 0 where
  MakesFrom : ℕ → ℕ → Turn
  MakesStack : ℕ → Turn
  Ends : Leaving → ℕ → ℕ → Turn

-- whatever the number: pages and indices are below 2^32
abbrev pub Makes : Turn
Makes = MakesFrom 0 (2 ^ 32)

-- whatever the rank: none of a page or of an area that goes is 0
abbrev pub Goes : Leaving → Turn
Goes held = Ends held 1 (page_rank end_of_user_pages)

abbrev pub is_add : Move → Bool
is_add (move.Add k b) = true
is_add _ = false

abbrev pub is_turn : Turn → Move → Bool
is_turn (MakesFrom from to) m = is_add m
is_turn (MakesStack guard) m = is_add m
is_turn (Ends held from to) (move.Unmap p) = held.places p
is_turn (Ends held from to) (move.Drop (key.Private pid vpn)) = held.places (record {
  pid = pid;
  vpn = vpn;
})
is_turn (Ends held from to) (move.Drop (key.Shared area index)) = true
is_turn (Ends held from to) _ = false

abbrev pub AllTurn : Turn → List Move → Type 0
AllTurn t [] = Unit {0}
AllTurn t (m ∷ ms) = (is_turn t m ≡ true) × AllTurn t ms

-- ---- the order in which pages come to be

-- of a private key its page, of a shared one its index
abbrev pub key_number : Key → ℕ
key_number (key.Private pid vpn) = vpn.0
key_number (key.Shared area index) = index

abbrev pub with_some : Option ℕ → List ℕ → List ℕ
with_some None numbers = numbers
with_some (Some number) numbers = number ∷ numbers

abbrev pub number_made : Move → Option ℕ
number_made (move.Add k b) = Some (key_number k)
number_made _ = None

abbrev pub numbers_made : List Move → List ℕ
numbers_made [] = []
numbers_made (m ∷ ms) = with_some (number_made m) (numbers_made ms)

-- each greater than the one before, from one number to before another
abbrev pub Climbs : ℕ → ℕ → List ℕ → Type 0
Climbs from to [] = Unit {0}
Climbs from to (n ∷ ns) = (from ≤ n) × (n < to) × Climbs (n + 1) to ns

-- the guard page that a `stack` line answers
abbrev pub guard_told : Answer → ℕ
guard_told (answer.Stack base size guard) = page_of guard
guard_told _ = 0

-- of a new stack with this guard page: its pages above that, and then the guard page
pub record IsStack (guard : ℕ) (ns : List ℕ) : Type 0 where
  pub pages : List ℕ
  pub last : List ℕ
  pub whole : ns ≡ pages ++ last
  pub above : Climbs (guard + 1) (2 ^ 32) pages
  pub below : Climbs guard (guard + 1) last

-- ---- the order in which pages go

-- of a place and of a private key its page's rank, of a key of an area the area's
abbrev pub rank_gone : (ℕ → ℕ) → Move → Option ℕ
rank_gone rank (move.Unmap p) = Some (page_rank p.vpn.0)
rank_gone rank (move.Drop (key.Private pid vpn)) = Some (page_rank vpn.0)
rank_gone rank (move.Drop (key.Shared area index)) = Some (rank area.0)
rank_gone rank _ = None

abbrev pub ranks_gone : (ℕ → ℕ) → List Move → List ℕ
ranks_gone rank [] = []
ranks_gone rank (m ∷ ms) = with_some (rank_gone rank m) (ranks_gone rank ms)

-- in rising order, the same rank perhaps again (of a page's place, then its key; of the keys of an
-- area), from one rank to before another
abbrev pub Rises : ℕ → ℕ → List ℕ → Type 0
Rises from to [] = Unit {0}
Rises from to (rank ∷ ranks) = (from ≤ rank) × (rank < to) × Rises rank to ranks

-- where a private key goes, its place is valid no more; where a key of an area goes, none below it
-- lives
abbrev pub DropsLowest : FrameLife → Move → Type 0
DropsLowest l (move.Drop (key.Private pid vpn)) = l.valid (record { pid = pid; vpn = vpn }) ≡ None
DropsLowest l (move.Drop (key.Shared area index)) = (i : ℕ) → i < index →
    is_live l (key.Shared area i) ≡ false
DropsLowest l _ = Unit {0}

-- each page goes with its place before its key, and of each area the lowest key that lives goes
-- first
abbrev pub LowestFirst : FrameLife → List Move → Type 0
LowestFirst l [] = Unit {0}
LowestFirst l (m ∷ ms) = DropsLowest l m × LowestFirst (after_move l m) ms

-- ---- such calls

abbrev pub IsInOrder : Turn → List Move → Type 0
IsInOrder (MakesFrom from to) ms = Climbs from to (numbers_made ms)
IsInOrder (MakesStack guard) ms = IsStack guard (numbers_made ms)
IsInOrder (Ends held from to) ms = Rises from to (ranks_gone held.rank ms)

pub record Turned (t : Turn) (l : FrameLife) (moves : List Move) : Type 0 where
  pub all : AllTurn t moves
  pub order : IsInOrder t moves
  pub lowest : LowestFirst l moves

pub record Turns (t : Turn) (b : Behind) (moves : List Move) (c : Behind) : Type 0 where
  pub turned : Turned t b.life moves
  pub moved : ByMoves b moves c
  pub slots : c.slots ≡ b.slots

-- ---- lines

pub record OneMove (m : Move) (b : Behind) (moves : List Move) (c : Behind) : Type 0 where
  pub one : moves ≡ m ∷ []
  pub moved : ByMoves b moves c
  pub slots : c.slots ≡ b.slots

pub record NoMove (b : Behind) (moves : List Move) (c : Behind) : Type 0 where
  pub none : moves ≡ []
  pub same : c ≡ b

-- ---- `trim`, `age`, `zero`

pub record Trims (pid : Pid) (n : ℕ) (b : Behind) (moves : List Move) (c : Behind) : Type 0 where
  pub each : Through (TrimMove pid) (walk_from b) moves
  pub count : length moves ≡ min n (spare_of (set_of b.life pid.0))
  pub moved : ByMoves b moves c
  pub slots : c.slots ≡ b.slots

pub record Exactly (ms : List Move) (b : Behind) (moves : List Move) (c : Behind) : Type 0 where
  pub are : moves ≡ ms
  pub moved : ByMoves b moves c
  pub slots : c.slots ≡ b.slots

abbrev pub Clears : ℕ → Behind → List Move → Behind → Type 0
Clears n b moves c = Exactly (clearings n b.life) b moves c

pub record AgesAll (pid : Pid) (b : Behind) (moves : List Move) (c : Behind) : Type 0 where
  pub none : moves ≡ []
  pub same : c ≡ record b { ages = all_aged pid b.life b.ages }

-- ---- `write_out`

abbrev pub WritesOut : ℕ → Behind → List Move → Behind → Type 0
WritesOut n b moves c = Exactly (writes_begun n b.life b.life.frames.modified) b moves c

-- ---- `complete`

-- the i-th oldest request, counted from 1, ended
pub record Completes (i : ℕ) (ok : Bool) (b : Behind) (moves : List Move) (c : Behind) :
    Type 0 where
  pub frame : ℕ
  pub found : slice_get b.life.flight (i - 1) ≡ Some frame
  pub one : moves ≡ ending (record_at b.life.frames frame) (frame_of frame) ok ∷ []
  pub moved : ByMoves b moves c

abbrev pub CompletesAs : ℕ → Done → Behind → List Move → Behind → Type 0
CompletesAs i done.None b moves c = (length b.life.flight < i) × NoMove b moves c
CompletesAs i done.Ok b moves c = Completes i true b moves c
CompletesAs i done.Failed b moves c = Completes i false b moves c

-- ---- `grow`

-- the paging file has so many more slots, which hold zeros
pub record Grows (line n : ℕ) (b : Behind) (moves : List Move) (c : Behind) : Type 0 where
  pub one : moves ≡ move.At line (kind.Grow n) ∷ []
  pub moved : ByMoves b moves c
  pub slots : c.slots ≡ b.slots ++ replicate n (filled 0)

abbrev pub GrowsAs : {T : Type 0} → ℕ → ℕ → Result T GrowFault → Behind → List Move → Behind →
    Type 0
GrowsAs line n (Ok v) b moves c = Grows line n b moves c
GrowsAs line n (Err grow_fault.Failed) b moves c = OneMove (move.At line kind.Call) b moves c
GrowsAs line n (Err grow_fault.Memory) b moves c = NoMove b moves c

-- ---- `flush`

-- of one page: where it failed, its last write was lost
pub record FlushesPage (k : Key) (ok : Bool) (b : Behind) (moves : List Move) (c : Behind) :
    Type 0 where
  pub page : FlushedAt b.life (b.life.stands k) moves
  pub ends : ends_lost moves ≡ not ok
  pub moved : ByMoves b moves c
  pub slots : c.slots ≡ b.slots

pub record Flushes (keys : List Key) (b : Behind) (moves : List Move) (c : Behind) : Type 0 where
  pub pages : Flushing b.life keys moves
  pub moved : ByMoves b moves c
  pub slots : c.slots ≡ b.slots
