-- What the parts keep, over plain lists and maps.
use Rattle.std.specs.Prelude.{◌≡◌, ◌≤◌, ◌<◌, ◌^◌, ℕ, true, length, Option, Some, is_some, slice_get}
use Rattle.mm_types.specs.{end_of_user_pages, IsMachine, Frame, Place, LineKind}
use Rattle.mm_move_rules.specs.{ResidentSet, FrameTable, record_at, is_read, set_in, is_touch}
use Rattle.mm_move_laws.specs.{ReachedByMoves}
use Rattle.mm_requests.specs.{FlightOf, is_requested}
use Rattle.mm_requests.specs.declared.flights.Waiting.TheVariants as waiting
use Rattle.mm_page_tables.specs.{WordsOf}
use Rattle.mm_parts.specs.Shown.{JoinedParts, LineOf, life_in, is_own_line}
use Rattle.mm_parts.specs.Words.{WordsKept}

-- a thread waits for reads that are in flight alone
abbrev pub AreWaits : FrameTable → FlightOf → Type 0
AreWaits d q = (t : ℕ) (f : Frame) → slice_get q.waits t ≡ Some (waiting.For f) →
    (is_requested f.0 q.frames ≡ true) × (is_read (record_at d f.0).request ≡ true)

-- the numbers are in range, and a line has begun
pub record LineKept (n : LineOf) : Type 0 where
  pub machine : IsMachine n.machine
  pub begun : 1 ≤ n.line
  pub blocks : length n.added ≡ n.machine.blocks

-- what is kept within one line alone: its own request, and the key beside the tables
pub record WithinLine (k : LineKind) (own : Option Frame) (w : WordsOf) : Type 0 where
  pub requesting : is_some own ≡ true → is_own_line k ≡ true
  pub copying : is_some w.aside ≡ true → is_touch k ≡ true

-- areas have numbers that a word has room for, working sets are of these sizes, and user pages
-- alone are bound
pub record RangesKept (w : WordsOf) : Type 0 where
  pub areas : (a : ℕ) → is_some (w.sizes a) ≡ true → a < 2 ^ 28
  pub sets : (pid : ℕ) (s : ResidentSet) → set_in w.sets pid ≡ Some s → (1 ≤ s.max) ×
      (s.max ≤ 65536)
  pub user : (p : Place) → w.bound p ≡ true → p.vpn.0 < end_of_user_pages

pub record PartsKept (t : JoinedParts) : Type 0 where
  -- the state that they show was reached by legal moves
  pub reached : ∥ ReachedByMoves (life_in t) ∥₁
  pub line : LineKept t.line
  pub words : WordsKept t.table t.words
  pub within : WithinLine t.line.kind t.own t.words
  pub ranges : RangesKept t.words
  pub depth : t.flight.depth ≡ t.line.machine.depth
  pub waits : AreWaits t.table t.flight
