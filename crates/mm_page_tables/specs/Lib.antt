pub mod Words
pub mod Processes
pub mod Changes
pub mod Tables
pub mod Shown
pub mod Oldest
pub mod Prototypes
pub mod Pages
pub mod LeafWords
pub mod Directory
pub mod Layout
pub mod Entries
pub use Words.{WordsOf, aside_or, bare, changed_at, changed_in, has_word, is_aside, is_there}
pub use Words.{is_valid_entry, keeps_places, key_entry, made_invalid, made_valid, own_word}
pub use Words.{place_from, valid_frame, with_aside, with_entry, with_own, without_aside}
pub use Processes.{IsKeptProcess, place_in_set, set_place}
pub use Changes.{EntryBecomes, KeepsPages, ProcessBegins, Rebinds, age_of, at_of, bound_of}
pub use Changes.{resident_by_numbers, resident_of, resident_set}
pub use Tables.{AsideBound, age_of_place, at_in, bound_in, is_open_in, process_in, read_or}
pub use Shown.{bare_aside, no_ages, no_words, proto_in, shown_words, size_in, words}
pub use Oldest.{GoesBehind, IsOldestOf, NoneBehind, ages_in}
pub use Prototypes.{AreaWords, area_words, proto_word, words_in}
pub use Pages.{AreReserved, Releases, Reserves, pages, reserved_word}
pub use LeafWords.{Changed, IsLeaf, bit_numbers, leaf_numbers, leaf_pages, leaf_word, number_when}
pub use LeafWords.{place_count, stored_word, word_when}
unfoldable pub use LeafWords.{shown_leaf}
pub use Directory.{HavePlaces, IsDirectory, IsInLeaf, IsWholeLeaf, LeavesOf, PlacesMore, SameWords}
pub use Directory.{end_of_pages, leaf_of, most_leaves, with_leaf, with_leaf_word, word_in}
unfoldable pub use Directory.{directory_words, numbers_from}
pub use Layout.{IsEntry, entry_word, first_in, first_number, is_no_entry, second_in, second_number}
pub use Layout.{tag_in, tag_of}
pub use Entries.{by_parts, entry_or}
unfoldable pub use Entries.{entry_in}
pub use declared.aside.Aside.{Aside}
pub use declared.layout.Entry.{Entry}
pub use declared.processes.Process.{Process}
