-- What the readers tell: fronts of lists, and what each thread waits for in the words of walks.
use Rattle.std.specs.Prelude.{ℕ, Bool, true, false, List, [], ◌∷◌, Option, Some, None, slice_get}
use Rattle.mm_types.specs.{Frame, Key}
use Rattle.mm_types.specs.declared.numbers.Key.TheVariants.{Private, Shared}
use Rattle.mm_requests.specs.{Waiting}
use Rattle.mm_requests.specs.declared.flights.Waiting.TheVariants as waiting
use Rattle.mm_move_rules.specs.{Waiting as Walked, Idle, ForFrame, Ended}

-- the first of a list of frames, if it has one
abbrev pub first_frame : List ℕ → Option Frame
first_frame [] = None
first_frame (x ∷ xs) = Some (record { 0 = x })

abbrev pub is_private_owner : Option Key → Bool
is_private_owner None = false
is_private_owner (Some (Private p v)) = true
is_private_owner (Some (Shared a i)) = false

-- A frame that the entry of a key is valid for is that of the key itself, by the frame's owner: the
-- place of a private key may be valid for a shared page.
abbrev pub is_own_page : Key → Option Key → Bool
is_own_page (Private p v) owner = is_private_owner owner
is_own_page (Shared a i) owner = true

-- ---- waits

-- what a thread waits for, as walks through moves have it
abbrev pub wait_as_walked : Waiting → Walked
wait_as_walked waiting.Nothing = Idle
wait_as_walked (waiting.For f) = ForFrame f.0
wait_as_walked waiting.Done = Ended true
wait_as_walked waiting.Failed = Ended false

abbrev pub walked_or : Option Waiting → Walked
walked_or None = Idle
walked_or (Some x) = wait_as_walked x

abbrev pub waits_of : List Waiting → ℕ → Walked
waits_of waits t = walked_or (slice_get waits t)
