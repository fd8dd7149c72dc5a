pub mod Lists
pub mod Links
pub use Lists.{AreApart, IsOnNone, IsOnOne, ListsOf, list_at, number_at, with_list, without}
pub use Links.{Linked, LinksStand}
unfoldable pub use Links.{rows, walk}
