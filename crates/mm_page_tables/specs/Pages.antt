-- What a page table means: the word of each reserved page.
use Rattle.std.specs.Prelude.{◌≡◌, ℕ, ◌+◌, Option, Some, None, unwrap_or, if◌then◌else◌, IsSome, ◌≤◌, ◌<◌}
use Rattle.std.specs.Ordering.{nat_cmp}
use Rattle.std.specs.FinMap as finite
use Rattle.std.specs.FinMap.{FinMap}
use Rattle.mm_types.specs.{Range, holds_page}

abbrev pub Words : Type 0
Words = FinMap nat_cmp ℕ

abbrev pub pages : ℕ → ℕ → Range
pages first count = record { first = first; count = count }

-- the word at a page of the range: the one that is there, else 0
abbrev pub reserved_word : Option ℕ → Option ℕ
reserved_word word = Some (unwrap_or word 0)

-- in the new table the range is reserved too: its pages that had no word have 0
abbrev pub Reserves : Words → Words → Range → Type 0
Reserves old new r =
    (page : ℕ) →
    finite.get new page ≡
    (if holds_page r page then reserved_word (finite.get old page) else finite.get old page)

-- in the new table no page of the range is reserved
abbrev pub Releases : Words → Words → Range → Type 0
Releases old new r =
    (page : ℕ) → finite.get new page ≡ (if holds_page r page then None else finite.get old page)

-- each page of the range is reserved
abbrev pub AreReserved : Words → Range → Type 0
AreReserved words r = (page : ℕ) → r.first ≤ page → page < r.first + r.count →
    IsSome (finite.get words page)
