-- The frames of a machine in one block of memory, beside its contents, which say what each shows
-- and whether its place has bytes.
use Rattle.std.specs.Prelude.{◌≡◌, ℕ, Bool, true, false, List, [], ◌∷◌, length, map, Option, Some, None}
use Rattle.mm_ram.specs.declared.contents.Contents.{Contents}
use Rattle.mm_ram.specs.declared.contents.Contents.TheVariants as contains
use Rattle.mm_ram.specs.Ram.{page_at, zero_page}
use Rattle.mm_types.specs.{page_size}

abbrev pub is_filled : Option (List ℕ) → Bool
is_filled None = false
is_filled (Some page) = true

-- a frame of these contents has bytes in its place
abbrev pub has_bytes : Contents → Bool
has_bytes contains.Unwritten = false
has_bytes contains.Zeros = false
has_bytes contains.ZerosOver = true
has_bytes contains.Bytes = true
has_bytes contains.Hidden = true

-- the contents once the frame shows zeros and its place is as before
abbrev pub zeroed : Contents → Contents
zeroed contains.Unwritten = contains.Zeros
zeroed contains.Zeros = contains.Zeros
zeroed contains.ZerosOver = contains.ZerosOver
zeroed contains.Bytes = contains.ZerosOver
zeroed contains.Hidden = contains.ZerosOver

-- the contents once an empty place has bytes and the frame shows the same
abbrev pub backed : Contents → Contents
backed contains.Unwritten = contains.Hidden
backed contains.Zeros = contains.ZerosOver
backed contains.ZerosOver = contains.ZerosOver
backed contains.Bytes = contains.Bytes
backed contains.Hidden = contains.Hidden

-- what a frame of these contents shows over its place
abbrev pub shows : Contents → Option (List ℕ) → Option (List ℕ)
shows contains.Unwritten place = None
shows contains.Zeros place = Some zero_page
shows contains.ZerosOver place = Some zero_page
shows contains.Bytes place = place
shows contains.Hidden place = None

-- what the frames show, one by one
abbrev pub shown : List Contents → List (Option (List ℕ)) → List (Option (List ℕ))
shown [] places = []
shown (k ∷ contents) [] = []
shown (k ∷ contents) (place ∷ places) = shows k place ∷ shown contents places

-- the places that have bytes are those that the contents say, and each page has its length
pub record ArePlaces (places : List (Option (List ℕ))) (contents : List Contents) : Type 0 where
  pub filled : map has_bytes contents ≡ map is_filled places
  pub whole : (f : ℕ) (page : List ℕ) → page_at places f ≡ Some page → length page ≡ page_size

-- what is known of the fields: where the block begins, the right to give it back, and the places
pub record IsRam {P A : Type 0} (base begins deed_begins : P) (held : ℕ) (owner alloc : A)
    (places : List (Option (List ℕ))) (contents : List Contents) : Type 0 where
  pub at : begins ≡ base
  pub deed_at : deed_begins ≡ base
  pub deed_len : held ≡ length places
  pub deed_alloc : owner ≡ alloc
  pub kept : ArePlaces places contents
