-- What a search has come to.
-- Profile, "Which frame moves, and when".
use Rattle.std.specs.Prelude.{◌≡◌, ◌≤◌, ◌<◌, ◌+◌, ℕ, Bool, true, false, List, length, count_by, filter, Option, Some, None}
use Rattle.mm_types.specs.{Frame, Stored, Move}
use Rattle.mm_types.specs.declared.moves.Move.TheVariants as move
use Rattle.mm_move_rules.specs.{record_at, is_on, FrameLife, is_access, is_short, can_be_written, Through, walked_all, is_wrote_move, is_read_move}
use Rattle.mm_move_rules.specs.{SearchMove}
use Rattle.mm_move_laws.specs.{ReachedByMoves}
use Rattle.mm_frame_laws.specs.{lost_in, Walking, Emptying}
use Rattle.mm_parts.specs.{write_end}
use Rattle.mm_state_calls.specs.{StateOf, Made, moved_with_call, SomeFault, DoesMoves, walk_of, IsFlightOf}

-- a plain access is under way, without a request of its own, and at most depth requests are in
-- flight
pub record IsUnderWay (s : StateOf) : Type 0 where
  pub access : is_access s.life.kind ≡ true
  pub few : length s.life.flight ≤ s.life.machine.depth
  pub done : s.own ≡ None

-- one write of a frame, well or not
pub record Tries (f : Frame) (ok : Bool) (s z : StateOf) : Type 0 where
  pub home : Stored
  pub mid : StateOf
  pub begins : Made (move.Write f home) s mid
  pub ends : Made (write_end ok f) mid z
  pub same : z ≡ moved_with_call s z
  pub fault : ok ≡ false → SomeFault s z

-- a modified frame that cannot be written, or one write of it
pub data Tried (f : Frame) (ok : Bool) (s z : StateOf) : Type 0 where
  Over : can_be_written s.life f.0 ≡ false → ok ≡ false → z ≡ s → Tried f ok s z
  Wrote : can_be_written s.life f.0 ≡ true → Tries f ok s z → Tried f ok s z

-- A search that has made these moves and has no frame yet: they are a search's, each failed write
-- is told, and at most depth requests are in flight, those from before.
pub record Seeks (pin : Option Frame) (s z : StateOf) (moves : List Move) : Type 0 where
  pub does : DoesMoves moves s z
  pub each : (flight : List ℕ) → IsFlightOf flight pin s.life →
      Through (SearchMove pin flight) (walk_of s) moves
  pub tried : (g : ℕ) → is_on g (walked_all (walk_of s) moves).tried ≡ lost_in moves g
  pub wrote : count_by is_wrote_move moves ≡ 0
  pub reads : count_by is_read_move moves ≡ 0
  pub fails : (g : ℕ) → lost_in moves g ≡ true → 0 < z.told.search_writes.failed
  pub fault : (g : ℕ) → lost_in moves g ≡ true → SomeFault s z
  pub none : z.told.search_writes.succeeded ≡ s.told.search_writes.succeeded
  pub read : z.told.last_failed_read ≡ s.told.last_failed_read
  pub same : z ≡ moved_with_call s z
  pub begun : IsUnderWay z
  pub pinned : (f : Frame) → pin ≡ Some f → 1 ≤ (record_at z.life.frames f.0).shares
  pub short : is_short z.life ≡ true
  pub flight : z.life.flight ≡ s.life.flight

-- the modified frames that can be written, in the order of the modified list
abbrev pub writable_modified : FrameLife → List ℕ
writable_modified l = filter (can_be_written l) l.frames.modified

-- in the walk over the modified list, with i of the n frames that can be written already tried
pub record WalkedTo (l m : FrameLife) (moves : List Move) (n i : ℕ) : Type 0 where
  pub passed : List ℕ
  pub left : List ℕ
  pub lost : List ℕ
  pub walking : Walking l m passed left lost moves
  pub only : (g : ℕ) → lost_in moves g ≡ true → is_on g lost ≡ true
  pub count : length (filter (can_be_written l) left) + i ≡ n

-- once the walk is over
pub record SoughtTo (l m : FrameLife) (moves : List Move) : Type 0 where
  pub emptying : Emptying l m moves
  pub listed : (g : ℕ) → lost_in moves g ≡ true → is_on g m.frames.modified ≡ true

pub record Walks (pin : Option Frame) (s z : StateOf) (n i : ℕ) : Type 0 where
  pub moves : List Move
  pub seeks : Seeks pin s z moves
  pub to : ReachedByMoves s.life → WalkedTo s.life z.life moves n i

pub record Seeking (pin : Option Frame) (s z : StateOf) : Type 0 where
  pub moves : List Move
  pub seeks : Seeks pin s z moves
  pub to : ReachedByMoves s.life → SoughtTo s.life z.life moves
