-- What stands at the front of some bytes.
-- Profile, "Script".
use Rattle.std.specs.Prelude.{◌≡◌, ℕ, suc, ◌<◌, ◌≤◌, List, ◌∷◌, ◌++◌, length, take, drop, Option, Some, None}
use Rattle.mm_io.specs.Lines.{NoFeed, FitsLine}
use Rattle.mm_io.specs.declared.looks.Look.{Look}
use Rattle.mm_io.specs.declared.looks.Look.TheVariants.{Line, Long, Open}

pub record IsFeedAt (bytes : List ℕ) (n : ℕ) : Type 0 where
  pub within : n < length bytes
  pub whole : bytes ≡ take n bytes ++ 10 ∷ drop (suc n) bytes
  pub first : NoFeed (take n bytes)

abbrev pub FeedAt : List ℕ → Option ℕ → Type 0
FeedAt bytes (Some n) = IsFeedAt bytes n
FeedAt bytes None = NoFeed bytes

-- A line of n bytes and its line feed stand in front.
pub record HasLine (bytes : List ℕ) (n : ℕ) : Type 0 where
  pub feed : IsFeedAt bytes n
  pub short : n ≤ 256

-- More bytes than a line may have stand in front.
pub record IsLong (bytes : List ℕ) : Type 0 where
  pub front : List ℕ
  pub more : List ℕ
  pub whole : bytes ≡ front ++ more
  pub many : length front ≡ 257
  pub no_feed : NoFeed front

abbrev pub Looks : Look → List ℕ → Type 0
Looks (Line n) bytes = HasLine bytes n
Looks Long bytes = IsLong bytes
Looks Open bytes = FitsLine bytes
