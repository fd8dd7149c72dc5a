-- How a source's bytes come to be held.
-- Profile, "Script".
use Rattle.std.specs.Prelude.{◌≡◌, ℕ, ◌+◌, ◌<◌, ◌≤◌, List, [], ◌++◌, length, Option, Result, Ok, Err, Bool, true, false}
use Rattle.mm_types.specs.declared.Failed.{Failed}
use Rattle.mm_types.specs.{Took, IsEnd}
use Rattle.mm_io.specs.Lines.{FitsLine}
use Rattle.mm_io.specs.Looking.{HasLine, IsLong}
use Rattle.mm_io.specs.declared.buffers.Found.{Found}
use Rattle.mm_io.specs.declared.buffers.Found.TheVariants as found

-- These bytes were taken, and are held after the others.
pub record Filled (left left' : Option (List ℕ)) (held held' : List ℕ) : Type 0 where
  pub taken : List ℕ
  pub took : Took left left' taken
  pub behind : held' ≡ held ++ taken

-- One read: 0 bytes at the end.
pub record HasRead (left left' : Option (List ℕ)) (held held' : List ℕ) (n : ℕ) : Type 0 where
  pub count : length held' ≡ length held + n
  pub few : n ≤ 4096
  pub end : n ≡ 0 → IsEnd left'

abbrev pub ReadOnce : Option (List ℕ) → Option (List ℕ) → List ℕ → List ℕ → Result ℕ Failed → Type 0
ReadOnce left left' held held' (Ok n) = HasRead left left' held held' n
ReadOnce left left' held held' (Err e) = held' ≡ held

-- What was found in front of the bytes held, with fewer than 4,096 bytes after what shows it.
abbrev pub Finds : Result Found Failed → Option (List ℕ) → List ℕ → Type 0
Finds (Ok (found.Line n)) left held = HasLine held n × (length held < n + 1 + 4096)
Finds (Ok found.Long) left held = IsLong held × (length held < 257 + 4096)
Finds (Ok found.End) left held = FitsLine held × IsEnd left
Finds (Err e) left held = FitsLine held

abbrev pub FindsMore : Result Bool Failed → Option (List ℕ) → List ℕ → Type 0
FindsMore (Ok true) left held = (0 < length held) × (length held < 1 + 4096)
FindsMore (Ok false) left held = (held ≡ []) × IsEnd left
FindsMore (Err e) left held = held ≡ []

-- One where the last read gave no byte.
abbrev pub spare_found : Result Found Failed → ℕ
spare_found (Ok (found.Line n)) = 0
spare_found (Ok found.Long) = 0
spare_found (Ok found.End) = 1
spare_found (Err e) = 1

abbrev pub spare_more : Result Bool Failed → ℕ
spare_more (Ok true) = 0
spare_more (Ok false) = 1
spare_more (Err e) = 1
