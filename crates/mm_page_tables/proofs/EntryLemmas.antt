-- For users: the entry of an entry's word is that entry, and the word of a word's entry is that word.
use Rattle.std.proofs.Common.{◌≡◌, ℕ, ◌+◌, ◌*◌, ◌<◌, ◌^◌, false, cond, refl, sym, ap, ◌∙◌, arith, None}
use Rattle.std.proofs.lemmas.Bool.Decides.{nat_tests}
use Rattle.mm_page_tables.specs.{IsEntry, entry_word, tag_of, first_number, second_number, is_no_entry, tag_in, first_in, second_in, Entry, by_parts}
use Rattle.mm_page_tables.specs.{entry_in, set_place, bare, is_valid_entry}
use Rattle.std.specs.Prelude.{is_some}
use Rattle.mm_page_tables.specs.declared.layout.Entry.TheVariants as entry

tag_again : (t f s : ℕ) → t < 16 → tag_in (t + 16 * f + 2 ^ 32 * s) ≡ t
tag_again t f s h = omega arith

first_again : (t f s : ℕ) → t < 16 → f < 2 ^ 28 → first_in (t + 16 * f + 2 ^ 32 * s) ≡ f
first_again t f s h g = omega arith

second_again : (t f s : ℕ) → t < 16 → f < 2 ^ 28 → second_in (t + 16 * f + 2 ^ 32 * s) ≡ s
second_again t f s h g = omega arith

small_tag : (e : Entry) → tag_of e < 7
small_tag entry.Empty = omega arith
small_tag _ = omega arith

by_its_parts : (e : Entry) → by_parts (tag_of e) (first_number e) (second_number e) ≡ e
by_its_parts entry.Empty = refl
by_its_parts _ = refl

parts_again : (e : Entry) → IsEntry e → by_parts (tag_in (entry_word e)) (first_in (entry_word e)) (second_in (entry_word e)) ≡ e
parts_again e h =
    let t : tag_of e < 16 = omega (arith, small_tag e) in
    ap (λ n. by_parts n (first_in (entry_word e)) (second_in (entry_word e))) (tag_again (tag_of e) (first_number e) (second_number e) t)
    ∙ ap (λ n. by_parts (tag_of e) n (second_in (entry_word e))) (first_again (tag_of e) (first_number e) (second_number e) t h.first)
    ∙ ap (λ n. by_parts (tag_of e) (first_number e) n) (second_again (tag_of e) (first_number e) (second_number e) t h.first)
    ∙ by_its_parts e

-- a word that some entry has
pub read_some : (word : ℕ) (e : Entry) → is_no_entry word ≡ false → IsEntry e → entry_word e ≡ word → e ≡ entry_in word
unfolding entry_in
read_some word e nay is same =
    sym (ap (λ b. cond b entry.Empty (by_parts (tag_in word) (first_in word) (second_in word))) nay
    ∙ ap (λ w. by_parts (tag_in w) (first_in w) (second_in w)) (sym same) ∙ parts_again e is)

is_entry_word : (e : Entry) → IsEntry e → is_no_entry (entry_word e) ≡ false
is_entry_word entry.Empty h = refl
is_entry_word entry.Zero h = refl
is_entry_word _ h = let f = h.first in grind (arith, nat_tests)

pub entry_again : (e : Entry) → IsEntry e → entry_in (entry_word e) ≡ e
entry_again e h = sym (read_some (entry_word e) e (is_entry_word e h) h refl)

-- reserved words of a page table and of a new area
pub zero_is_empty : entry_in 0 ≡ entry.Empty
unfolding entry_in
zero_is_empty = refl

-- ---- what an entry says, told without its place in a working set

pub bare_plain : (e : Entry) → is_valid_entry e ≡ false → bare e ≡ e
bare_plain (entry.Valid f n) h = cc
bare_plain _ h = refl

-- exactly the valid entries name a place in a working set
pub valid_place : (e : Entry) → is_some (set_place e) ≡ is_valid_entry (bare e)
valid_place entry.Empty = refl
valid_place _ = refl

pub no_set_place : (e : Entry) → is_valid_entry (bare e) ≡ false → set_place e ≡ None
no_set_place (entry.Valid f n) h = cc
no_set_place _ h = refl

pub plain_place : (e : Entry) → is_valid_entry e ≡ false → set_place e ≡ None
plain_place e h = no_set_place e (ap is_valid_entry (bare_plain e h) ∙ h)
