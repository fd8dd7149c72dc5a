-- The entry that a word says, for every word: `Empty` for one that no entry has.
use Rattle.std.specs.Prelude.{ℕ, ◌==◌, if◌then◌else◌, Option, Some, None}
use Rattle.mm_page_tables.specs.Layout.{is_no_entry, tag_in, first_in, second_in}
use Rattle.mm_page_tables.specs.declared.layout.Entry.{Entry}
use Rattle.mm_page_tables.specs.declared.layout.Entry.TheVariants as entry

-- the entry with this tag and these two numbers
abbrev pub by_parts : ℕ → ℕ → ℕ → Entry
by_parts tag first second =
    if tag == 1 then entry.Zero
    else if tag == 2 then entry.Paged (record { 0 = first })
    else if tag == 3 then entry.InFile (record { 0 = first })
    else if tag == 4 then entry.Transition (record { 0 = first })
    else if tag == 5 then entry.Valid (record { 0 = first }) second
    else if tag == 6 then entry.Proto (record { 0 = first }) second
    else entry.Empty

unfoldable pub entry_in : ℕ → Entry
entry_in word = if is_no_entry word then entry.Empty else
    by_parts (tag_in word) (first_in word) (second_in word)

-- where there is no word there is no page
abbrev pub entry_or : Option ℕ → Entry
entry_or None = entry.Empty
entry_or (Some word) = entry_in word
