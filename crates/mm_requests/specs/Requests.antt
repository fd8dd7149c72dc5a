-- The requests in flight, and what the threads wait for.
use Rattle.std.specs.Prelude.{◌≡◌, ℕ, zero, suc, ◌+◌, ◌≤◌, ◌<◌, ◌^◌, Bool, true, false, not, ◌==◌, if◌then◌else◌, List, [], ◌∷◌, filter, Option, Some, None, option_map, slice_get}
use Rattle.std.specs.List.{list_any, position}
use Rattle.mm_types.specs.{Frame, Wait}
use Rattle.mm_types.specs.declared.answers.Wait.TheVariants as wait
use Rattle.mm_requests.specs.declared.flights.Waiting.{Waiting}
use Rattle.mm_requests.specs.declared.flights.Waiting.TheVariants as waiting

-- at most so many requests; the frames with a request, oldest first; what each of the 256 threads
-- waits for
pub record FlightOf : Type 0 where
  pub depth : ℕ
  pub frames : List ℕ
  pub waits : List Waiting

abbrev pub frame_number : Frame → ℕ
frame_number f = f.0

-- the frame has a request
abbrev pub is_requested : ℕ → List ℕ → Bool
is_requested f frames = list_any (λ x. x == f) frames

-- the others, in their order
abbrev pub without : ℕ → List ℕ → List ℕ
without f frames = filter (λ x. not (x == f)) frames

-- the frame of the i-th oldest request, counted from 1
abbrev pub nth_oldest : ℕ → List ℕ → Option ℕ
nth_oldest zero frames = None
nth_oldest (suc i) frames = slice_get frames i

-- how old the frame's request is: 1 is the oldest
abbrev pub place_in : ℕ → List ℕ → Option ℕ
place_in f frames = option_map (λ i. i + 1) (position (λ x. x == f) frames)

-- what a thread waits for once the request of frame f has ended, well or not
abbrev pub ended : ℕ → Bool → Waiting → Waiting
ended f ok waiting.Nothing = waiting.Nothing
ended f ok (waiting.For g) = if g.0 == f then (if ok then waiting.Done else waiting.Failed) else
    waiting.For g
ended f ok waiting.Done = waiting.Done
ended f ok waiting.Failed = waiting.Failed

abbrev pub wait_shown : Waiting → Wait
wait_shown waiting.Nothing = wait.None
wait_shown (waiting.For g) = wait.InFlight
wait_shown waiting.Done = wait.Done
wait_shown waiting.Failed = wait.Failed

-- the thread waits for a request in flight
abbrev pub is_for : Waiting → Bool
is_for waiting.Nothing = false
is_for (waiting.For g) = true
is_for waiting.Done = false
is_for waiting.Failed = false

-- no thread from this number on waits for a request in flight
abbrev pub NoneWaitsFrom : ℕ → List Waiting → Type 0
NoneWaitsFrom n waits = (t : ℕ) (w : Waiting) → n ≤ t → slice_get waits t ≡ Some w →
    is_for w ≡ false

-- room for `depth` frames, `frames` of which are in flight, and a wait for each thread
pub record HasRoom (depth frames room threads : ℕ) : Type 0 where
  pub fits : depth < 2 ^ 32
  pub within : frames ≤ depth
  pub enough : depth ≤ room
  pub all : threads ≡ 256

-- no frame is in the list twice
abbrev pub AreDistinct : List ℕ → Type 0
AreDistinct [] = Unit {0}
AreDistinct (f ∷ fs) = (is_requested f fs ≡ false) × AreDistinct fs

-- each thread that waits waits for a frame in flight
abbrev pub AreAwaited : List ℕ → List Waiting → Type 0
AreAwaited frames waits = (t : ℕ) (f : Frame) → slice_get waits t ≡ Some (waiting.For f) →
    is_requested f.0 frames ≡ true

-- what the type keeps
pub record IsKept (frames : List ℕ) (waits : List Waiting) : Type 0 where
  pub distinct : AreDistinct frames
  pub awaited : AreAwaited frames waits

-- no frame has two requests, and no thread waits for a frame that has none
pub record HoldsRequests (v : FlightOf) : Type 0 where
  pub distinct : (i j f : ℕ) → slice_get v.frames i ≡ Some f → slice_get v.frames j ≡ Some f → i ≡ j
  pub awaited : AreAwaited v.frames v.waits
