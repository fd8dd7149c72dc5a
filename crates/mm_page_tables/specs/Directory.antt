-- A page table as its leaves, each with the words of `leaf_pages` pages in a row.
use Rattle.std.specs.Prelude.{◌≡◌, ℕ, zero, suc, ◌+◌, ◌*◌, ◌/◌, ◌%◌, ◌<◌, ◌≤◌, List, [], ◌∷◌, length, Option, slice_index_or, slice_set}
use Rattle.mm_types.specs.{table}
use Rattle.mm_page_tables.specs.Pages.{Words}
use Rattle.mm_page_tables.specs.LeafWords.{leaf_pages, leaf_word, Changed}

abbrev pub LeavesOf : Type 0
LeavesOf = List (List (Option ℕ))

abbrev pub leaf_of : LeavesOf → ℕ → List (Option ℕ)
leaf_of leaves page = slice_index_or leaves (page / leaf_pages) []

-- the word at a page, if it is reserved
abbrev pub word_in : LeavesOf → ℕ → Option ℕ
word_in leaves page = leaf_word (leaf_of leaves page) (page % leaf_pages)

-- the numbers from `start` on
unfoldable pub numbers_from : ℕ → ℕ → List ℕ
numbers_from start zero = []
numbers_from start (suc count) = start ∷ numbers_from (start + 1) count

-- a directory has words for the pages below this one
abbrev pub end_of_pages : ℕ
end_of_pages = 524288

-- with so many leaves at most
abbrev pub most_leaves : ℕ
most_leaves = end_of_pages / leaf_pages

unfoldable pub directory_words : LeavesOf → Words
directory_words leaves = table (word_in leaves) (numbers_from 0 end_of_pages)

-- a leaf is there with room for all its words, or not at all
abbrev pub IsWholeLeaf : List (Option ℕ) → Type 0
IsWholeLeaf leaf = 0 < length leaf → length leaf ≡ leaf_pages

-- there are at most `most_leaves` leaves, and each that is there has room for all its words
pub record IsDirectory (leaves : LeavesOf) : Type 0 where
  pub few : length leaves ≤ most_leaves
  pub full : (i : ℕ) → IsWholeLeaf (slice_index_or leaves i [])

-- the page has a place in its leaf
abbrev pub IsInLeaf : LeavesOf → ℕ → Type 0
IsInLeaf leaves page = page % leaf_pages < length (leaf_of leaves page)

abbrev pub with_leaf : LeavesOf → ℕ → List (Option ℕ) → LeavesOf
with_leaf leaves page leaf = slice_set leaves (page / leaf_pages) leaf

-- one word is put in or taken away
abbrev pub with_leaf_word : LeavesOf → ℕ → Option ℕ → LeavesOf
with_leaf_word leaves page word =
    with_leaf leaves page (slice_set (leaf_of leaves page) (page % leaf_pages) word)

abbrev pub SameWords : LeavesOf → LeavesOf → Type 0
SameWords old new = (page : ℕ) → word_in new page ≡ word_in old page

abbrev pub KeepsPlaces : LeavesOf → LeavesOf → Type 0
KeepsPlaces old new = (page : ℕ) → IsInLeaf old page → IsInLeaf new page

-- the words of the pages from `first` on and below `end` are changed by f, and all else stays
pub record Changes (f : Option ℕ → Option ℕ) (old new : LeavesOf) (first end : ℕ) : Type 0 where
  pub words : Changed f (word_in old) (word_in new) first end
  pub directory : IsDirectory new

-- some pages, the last of them in the leaf of the first
pub record IsPart (first end : ℕ) : Type 0 where
  pub some : first < end
  pub same_leaf : end ≤ leaf_pages * (first / leaf_pages + 1)

-- each page from `first` on and below `end` has a place
abbrev pub HavePlaces : LeavesOf → ℕ → ℕ → Type 0
HavePlaces leaves first end = (page : ℕ) → first ≤ page → page < end → IsInLeaf leaves page

-- every word stays, and so does every place
pub record PlacesMore (old new : LeavesOf) : Type 0 where
  pub words : SameWords old new
  pub directory : IsDirectory new
  pub places : KeepsPlaces old new
  pub count : length old ≤ length new
