pub mod Indexes
pub mod Lists
pub mod Opened
pub use Lists.{Changes, added_file, added_index, changed_directory, committed_area, counted_index}
pub use Lists.{dropped, ended_is, found_file, length_sections, length_tables, named_number}
pub use Lists.{refilled_whole, same_section, settled_index, shown_then, some_of, tables, there}
pub use Lists.{uncommitted-map, within}
pub use Opened.{held_is, length_shown, lowest_is, open_less, open_more, shown, shown_less}
pub use Opened.{shown_more}
