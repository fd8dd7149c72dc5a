pub mod Handles
pub mod Pages
pub mod Directories
pub mod Names
pub use Handles.{AreOpen, HandlesOf, handle_at, held, section_by_handle, section_number}
pub use Pages.{block_number, number_of_block, page_if, uncommitted_in}
pub use Directories.{CountedSection, DirectoryOf, area_of, id_of, new_entry, one_handle_less}
pub use Directories.{one_handle_more, one_view_less, one_view_more, recounted, section_in}
pub use Directories.{section_settled, sections_of}
pub use Names.{IsNameIndex, counted_section, file_of, found_by, name_key, name_lost, same_name}
pub use Names.{with_name, without_name}
pub use declared.entries.Entry.{Entry}
pub use declared.entries.ReferenceChange.{ReferenceChange}
pub use declared.name_keys.NameKey.{NameKey}
