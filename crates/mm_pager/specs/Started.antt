-- How an access of a thread begins: what became of its page, and what it waits for.
-- Profile, "Accesses".
use Rattle.std.specs.Prelude.{◌≡◌, ◌⊎◌, Bool, true, false, Option, Some, None, is_some}
use Rattle.mm_types.specs.{Why, Frame, Key, Place}
use Rattle.mm_types.specs.declared.answers.Why.TheVariants as why
use Rattle.mm_types.specs.declared.frames.Held.TheVariants as held
use Rattle.mm_move_rules.specs.{record_at, is_read, is_stored, has_depth, changed, same_place, is_short}
use Rattle.mm_store.specs.{Aim, need_for, waits_at_once, is_framed, Ready, Need, Start}
use Rattle.mm_store.specs.declared.outcomes.Need.TheVariants as need
use Rattle.mm_store.specs.declared.outcomes.Start.TheVariants as start
use Rattle.mm_state_calls.specs.{StateOf, moved_with_call}
use Rattle.mm_pager.specs.Pieces.{Went, IsUncopied, Reaches}
use Rattle.mm_pager.specs.Shown.{OwnOf, report_of}

-- why it waits whatever frames there are, by its answer
abbrev pub reason_at_once : Start → Option Why
reason_at_once start.Ready = None
reason_at_once (start.Pending why.Read) = Some why.Read
reason_at_once (start.Pending why.Full) = Some why.Full
reason_at_once (start.Pending why.Frame) = None

abbrev pub needs_copy : Need → Bool
needs_copy need.Touch = false
needs_copy need.Copy = true

-- a read of the page is in flight
abbrev pub IsBeingRead : Key → StateOf → Type 0
IsBeingRead k s = (f : Frame) × (s.life.stands k ≡ held.Frame f) ×
    (is_read (record_at s.life.frames f.0).request ≡ true)

-- no read of it can begin
pub record IsFull (k : Key) (place : Place) (s : StateOf) : Type 0 where
  pub free : s.life.valid place ≡ None
  pub stored : is_stored (s.life.stands k) ≡ true
  pub full : has_depth s.life ≡ false

-- a frame is wanted: for the page, or for a copy of it, once it is valid
abbrev pub WantsFrame : Need → Key → Place → StateOf → Type 0
WantsFrame n k place s =
    ((is_framed (s.life.stands k) ≡ false) × (s.life.valid place ≡ None)) ⊎
    ((needs_copy n ≡ true) × (is_some (s.life.valid place) ≡ true))

-- what the access did, whatever it answers
pub record AccessCame (k : Key) (place : Place) (s z : StateOf) : Type 0 where
  pub went : (a : Aim) → Reaches a k place s → IsUncopied a s → Went a 1 s z
  pub names : (z.names ≡ s.names) ⊎ (z.names ≡ changed same_place s.names place (Some k))
  pub slots : z.slots ≡ s.slots
  pub blocks : z.blocks ≡ s.blocks
  pub same : z ≡ record (moved_with_call s z) { names = z.names }

-- the access has begun so far as its moves go, and this is its answer
pub record AccessBegun (n : Need) (k : Key) (place : Place) (result : Start) (s z : StateOf) :
    Type 0 where
  pub came : AccessCame k place s z
  -- its page is valid at its place, and for a copy there is a frame
  pub valid : result ≡ start.Ready → is_some (z.life.valid place) ≡ true
  pub room : result ≡ start.Ready → needs_copy n ≡ true → is_short z.life ≡ false
  -- why it waits
  pub at_once : (o : OwnOf) →
      waits_at_once s.life.machine.depth k (report_of s o) ≡ reason_at_once result
  pub reading : result ≡ start.Pending why.Read → IsBeingRead k z
  pub unmapped : result ≡ start.Pending why.Read → z.life.valid place ≡ None
  pub full : result ≡ start.Pending why.Full → IsFull k place z
  pub short : result ≡ start.Pending why.Frame → is_short z.life ≡ true
  pub wanting : result ≡ start.Pending why.Frame → WantsFrame n k place z

-- what is ready then
abbrev pub ready_after : Start → Need → Key → Place → Option Ready
ready_after start.Ready n k place = Some (record { place = place; need = need_for n k place })
ready_after (start.Pending w) n k place = None

-- an answer, once a frame for the copy was looked for where the page is had
abbrev pub answered : Need → Start → Bool → Start
answered need.Copy start.Ready true = start.Pending why.Frame
answered n r short = r
