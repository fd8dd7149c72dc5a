pub mod RingLemmas
pub mod GroupLemmas
pub mod OrderLemmas
pub mod UserLemmas
pub mod MapLemmas
pub mod YoungLemmas
pub mod SetLemmas
pub use RingLemmas.{turned_back}
pub use GroupLemmas.{added, ages_insert, ages_remove, empty_ages, empty_sets, get-ages}
pub use GroupLemmas.{group_of_set, in_all, in_read, joins_all, joins_empty, joins_more}
pub use GroupLemmas.{lowest_in_set, nine_sets, no_group, no_kept, none_held, none_in_set}
pub use GroupLemmas.{none_pushed, older_ages, older_grouped, puts_page, removed, renewed}
pub use GroupLemmas.{set_within, some_group, still_kept}
pub use OrderLemmas.{answers_first, answers_next, next_found, next_later, next_same, no_page}
pub use OrderLemmas.{none_younger, oldest_is}
pub use YoungLemmas.{first_of_all, young_empty, young_insert, young_older, young_remove}
pub use SetLemmas.{empty_keeps, get-places, in_use, insert_keeps, insert_vacant, insert_view, made}
pub use SetLemmas.{no_places, no_room, older_keeps, remove_held, remove_keeps, remove_page_at}
pub use SetLemmas.{remove_view, same_maps, touch_keeps, used_already}
