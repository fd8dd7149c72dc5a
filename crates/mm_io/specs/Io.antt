-- What one read, one write and one flush do.
-- Profile, "A run".
use Rattle.std.specs.Prelude.{◌≡◌, ℕ, ◌+◌, ◌-◌, ◌<◌, ◌≤◌, List, ◌++◌, length, take, Option, Some, None, Result, Ok, Err, MatchResult, OnOk, OnErr, Bool, false}
use Rattle.mm_types.specs.declared.faults.Failed.{Failed}
use Rattle.mm_types.specs.{Took, IsEnd, Appended, Rose}

-- A count of faults never falls: it rose where the call failed, and is as it was where it did not.
pub record CountsFaults {T E : Type 0} (before now : ℕ) (result : Result T E) : Type 0 where
  pub later : before ≤ now
  pub failed : OnErr result (Rose before now)
  pub same : OnOk result (now ≡ before)

-- ---- a read

-- The first n bytes of those left stand in the buffer; none where nothing is left.
pub record ReadsFront (before after : Option (List ℕ)) (buf : List ℕ) (n : ℕ) : Type 0 where
  pub within : n ≤ length buf
  pub bytes : Took before after (take n buf)
  pub end : 0 < length buf → n ≡ 0 → IsEnd before

abbrev pub Reads : Option (List ℕ) → Option (List ℕ) → List ℕ → Result ℕ Failed → Type 0
Reads before after buf r = MatchResult r (λ n. ReadsFront before after buf n) (λ _. after ≡ before)

-- One for a read that gave no byte.
abbrev pub spare_read : Result ℕ Failed → ℕ
spare_read (Ok n) = 1 - n
spare_read (Err e) = 1

-- ---- a write and a flush

-- The first n bytes of the piece were taken, some where there are any.
pub record TakesFront (before after : Option (List ℕ)) (buf : List ℕ) (n : ℕ) : Type 0 where
  pub within : n ≤ length buf
  pub some : 0 < length buf → 0 < n
  pub bytes : Appended before after (take n buf)

abbrev pub Takes : Option (List ℕ) → Option (List ℕ) → List ℕ → Result ℕ Failed → Type 0
Takes before after buf r = MatchResult r (λ n. TakesFront before after buf n) (λ _. after ≡ before)

-- Not all of the text was taken, where the bytes are told.
abbrev pub IsCut : Option (List ℕ) → Option (List ℕ) → List ℕ → Type 0
IsCut None None text = Unit {0}
IsCut None (Some b) text = ⊥
IsCut (Some a) None text = ⊥
IsCut (Some a) (Some b) text = length b < length a + length text

-- The one are the first bytes of the other, where told.
abbrev pub IsFrontOf : Option (List ℕ) → Option (List ℕ) → Type 0
IsFrontOf front whole = (rest : List ℕ) × Appended front whole rest

-- What was given on only grows, and stays a front of what was taken.
pub record GivesOn (given given' taken taken' : Option (List ℕ)) : Type 0 where
  pub grows : IsFrontOf given given'
  pub front : IsFrontOf given taken → IsFrontOf given' taken'

-- Of this text a front was written, and where nothing failed all of it.
pub record Wrote (before after : Option (List ℕ)) (text : List ℕ) (failed : Bool) : Type 0 where
  pub front : List ℕ
  pub rest : List ℕ
  pub whole : text ≡ front ++ rest
  pub written : Appended before after front
  pub all : failed ≡ false → front ≡ text
