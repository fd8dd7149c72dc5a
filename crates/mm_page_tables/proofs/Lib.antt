pub mod KeptProcesses
pub mod TableChanges
pub mod SetLaws
pub mod AreaLemmas
pub mod LeafLemmas
pub mod EntryLemmas
pub use KeptProcesses.{after_bind, ages_less, ages_more, ages_touched, becomes, begin_kept}
pub use KeptProcesses.{bind_kept, close_kept, less_kept, more_kept, no_age, none_resident}
pub use KeptProcesses.{older_kept, place_of_valid, removed_page, reserved_of_bound, resident_less}
pub use KeptProcesses.{resident_more, set_held, set_kept, touched_kept, unbind_kept, user_bound}
pub use KeptProcesses.{valid_bound}
pub use TableChanges.{ages_changed, ages_kept, aside_bind, aside_kept, bound_there, closed_shown}
pub use TableChanges.{entry_words, err_then, new_shown, no_entries, ok_then, older_ages, open_there}
pub use TableChanges.{opened_shown, opened_words, own_ages, place_reads, proto_shown, proto_there}
pub use TableChanges.{pushed_ages, pushed_aside, pushed_words, rebound_words, same_bound}
pub use TableChanges.{same_entries, set_at_index, sets_move, sets_stay, still_words, valid_there}
pub use SetLaws.{aged, begun, bound_open, young}
pub use AreaLemmas.{at_index, open_of_word, table_none, table_push, word_within, words_are}
pub use LeafLemmas.{all_places, all_put, bit_there, cleared_numbers, filled, filled_above}
pub use LeafLemmas.{filled_below, filled_slice, filled_within, get-words_of, most_places}
pub use LeafLemmas.{place_of_some, placed, placed_leaf, placed_low, placed_map, places_shown}
pub use LeafLemmas.{put_leaf, put_places, release_map, reserve_map, reserved_end, set_leaf}
pub use LeafLemmas.{shown_none, shown_set, shown_zero, some_numbers, worded, words_of-none}
pub use LeafLemmas.{words_of-with_word}
pub use EntryLemmas.{bare_plain}
