-- Reading a line from left to right: its event, or its first fault.
-- Profile, "Script".
use Rattle.std.specs.Prelude.{◌≡◌, ℕ, ◌+◌, if◌then◌else◌, List, [], ◌∷◌, length, Option, Some, None, Result, Ok, Err}
use Rattle.mm_types.specs.{Text, Direction, Event}
use Rattle.mm_types.specs.declared.devices.Direction.TheVariants as direction
use Rattle.mm_types.specs.declared.events.AccessSpec.TheVariants as spec
use Rattle.mm_types.specs.declared.events.Event.TheVariants as line
use Rattle.mm_text.specs.{words_of}
use Rattle.mm_text.specs.Word.{Word}
use Rattle.mm_script.specs.declared.faults.LineFault.{LineFault}
use Rattle.mm_script.specs.declared.keywords.Keyword.{Keyword}
use Rattle.mm_script.specs.declared.keywords.Keyword.TheVariants as keyword
use Rattle.mm_script.specs.Grammar.{are_joined}
use Rattle.mm_script.specs.Keywords.{keyword_of}
use Rattle.mm_script.specs.Shape.{DirectionWord, Value, read, Shape, End, Then, ReadOrWrite, shape_of}
use Rattle.mm_script.specs.Place.{without_return, fault_at, joint_fault}

infixl 10 ◌>>=◌
abbrev pub ◌>>=◌ : {A B : Type 0} → Result A LineFault → (A → Result B LineFault) →
    Result B LineFault
(Ok x) >>= f = f x
(Err e) >>= f = Err e

-- The words of a line that are left: the first has this number, the one before it began at `last`,
-- the line ends at `end`.
pub record Rest : Type 0 where
  pub left : List Word
  pub end : ℕ
  pub number : ℕ
  pub last : ℕ

-- what is left after a word
abbrev pub rest_behind : Rest → Word → List Word → Rest
rest_behind rest w ws = record {
  left = ws;
  end = rest.end;
  number = rest.number + 1;
  last = w.from;
}

abbrev pub word_read : {A : Type 0} → Option A → Rest → Word → List Word →
    Result (A × Rest) LineFault
word_read None rest w ws = Err (fault_at w.from rest.number)
word_read (Some x) rest w ws = Ok (x, rest_behind rest w ws)

abbrev pub first_read : {A : Type 0} → (Text → Option A) → Rest → List Word →
    Result (A × Rest) LineFault
first_read reads rest [] = Err (fault_at rest.end rest.number)
first_read reads rest (w ∷ ws) = word_read (reads w.text) rest w ws

-- The next word, read so; the fault stands at it, or after the line's end where no word is left.
unfoldable pub word_as : {A : Type 0} → (Text → Option A) → Rest → Result (A × Rest) LineFault
word_as reads rest = first_read reads rest rest.left

abbrev pub ends_at : Rest → List Word → Result (Unit {0}) LineFault
ends_at rest [] = Ok tt
ends_at rest (w ∷ ws) = Err (fault_at w.from rest.number)

-- no word is left, or the fault stands at the next
unfoldable pub ended_words : Rest → Result (Unit {0}) LineFault
ended_words rest = ends_at rest rest.left

-- a function of the values of words
abbrev pub MakesFromValues : Shape → Type 0 → Type 0
MakesFromValues End A = A
MakesFromValues (Then k s) A = Value k → MakesFromValues s A
MakesFromValues (ReadOrWrite s t) A = MakesFromValues s A × MakesFromValues t A

abbrev pub by_direction : {A : Type 0} → Direction → A → A → A
by_direction direction.Read x y = x
by_direction direction.Write x y = y

-- the words of a shape, and the event that is made of their values
abbrev pub event_in : Keyword → (s : Shape) → MakesFromValues s Event → Rest →
    Result Event LineFault
event_in k End event rest =
    ended_words rest >>= λ _. if are_joined event then Ok event else
    Err (joint_fault k rest.last rest.number)
event_in k (Then kind s) make rest = word_as (read kind) rest >>= λ x. event_in k s (make x.0) x.1
event_in k (ReadOrWrite s t) make rest =
    word_as (read DirectionWord) rest >>= λ x.
    by_direction x.0 (event_in k s make.0 x.1) (event_in k t make.1 x.1)

-- the event of the values that stand after a keyword
abbrev pub make_of : (k : Keyword) → MakesFromValues (shape_of k) Event
make_of keyword.Machine = λ frames slots depth blocks. line.Machine (record {
  frames = frames;
  slots = slots;
  depth = depth;
  blocks = blocks;
})
make_of keyword.Process = λ min max. line.Process min max
make_of keyword.Exit = λ pid. line.Exit pid
make_of keyword.File = λ name pages byte. line.File name pages byte
make_of keyword.Alloc = λ pid addr size kind prot. line.Alloc pid addr size kind prot
make_of keyword.Free = λ pid addr size kind. line.Free pid addr size kind
make_of keyword.Protect = λ pid addr size prot. line.Protect pid addr size prot
make_of keyword.Query = λ pid addr. line.Query pid addr
make_of keyword.Create = λ pid size flags name. line.Create pid size flags name
make_of keyword.CreateFile = λ pid file flags name. line.CreateFile pid file flags name
make_of keyword.Open = λ pid name. line.Open pid name
make_of keyword.Close = λ pid handle. line.Close pid handle
make_of keyword.Map = λ pid handle access offset len addr.
    line.Map pid handle access offset len addr
make_of keyword.Unmap = λ pid addr. line.Unmap pid addr
make_of keyword.Flush = λ pid addr size. line.Flush pid addr size
make_of keyword.Read = λ pid addr len. line.Read pid addr len
make_of keyword.Write = λ pid addr bytes. line.Write pid addr bytes
make_of keyword.Exec = λ pid addr. line.Exec pid addr
make_of keyword.Begin = λ tid pid. (
  λ addr len. line.Begin tid pid (spec.Read addr len),
  λ addr bytes.
      line.Begin tid pid (spec.Write addr bytes),
)
make_of keyword.Resume = λ tid. line.Resume tid
make_of keyword.Io = λ i. line.Io i
make_of keyword.Trim = λ pid n. line.Trim pid n
make_of keyword.Age = λ pid. line.Age pid
make_of keyword.Writer = λ n. line.Writer n
make_of keyword.Zeroer = λ n. line.Zeroer n
make_of keyword.Fail = λ device direction k n. line.Fail device direction k n
make_of keyword.Charge = line.Charge
make_of keyword.Counts = line.Counts
make_of keyword.Grow = λ n. line.Grow n
make_of keyword.Watch = λ pid flag addr size count. line.Watch pid flag addr size count
make_of keyword.ResetWatch = λ pid addr size. line.ResetWatch pid addr size
make_of keyword.Stack = λ tid pid reserve commit. line.Stack tid pid reserve commit
make_of keyword.Probe = λ tid addr. line.Probe tid addr

-- the event of the words after a keyword
unfoldable pub line_of : Keyword → Rest → Result Event LineFault
line_of k rest = event_in k (shape_of k) (make_of k) rest

abbrev pub whole_line : Text → Rest
whole_line text = record { left = words_of text; end = length text; number = 1; last = 0 }

-- the event of a line without its line feed, or the line's first fault
unfoldable pub parse : Text → Result Event LineFault
parse text = word_as keyword_of (whole_line (without_return text)) >>= λ x. line_of x.0 x.1

-- What a function returned is what reading gives, and what is left is what reading leaves.
abbrev pub Gives : {A : Type 0} → Result A LineFault → Rest → Result (A × Rest) LineFault → Type 0
Gives (Ok x) new read = read ≡ Ok (x, new)
Gives (Err f) new read = read ≡ Err f

-- What a function returned, and what it left where an event is wanted, is what reading gives: the
-- event, or the fault, with the place as it was.
abbrev pub IsPut : Result (Unit {0}) LineFault → (old new : Event) → Result Event LineFault → Type 0
IsPut (Ok _) old new read = read ≡ Ok new
IsPut (Err f) old new read = (read ≡ Err f) × (new ≡ old)
