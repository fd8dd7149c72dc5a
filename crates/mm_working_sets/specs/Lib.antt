pub mod Ages
pub mod InOrder
pub mod Ring
pub mod AgeGroups
pub mod Held
pub use Ages.{AgesBy, EachAtOnePlace, GoesAfter, GoesBefore, IsOldestInSet, NoneFollowsInSet}
pub use Ages.{WorkingSetOf, older}
pub use InOrder.{IsNextFrom}
pub use Ring.{next_newest, turned}
pub use AgeGroups.{AreGrouped, GoesFirst, IsBelow, IsFirstOf, IsGrouped, Joins, NoAgeWithin}
pub use AgeGroups.{NoneOlder, PutsPage, age_in, is_group, retired_to}
unfoldable pub use AgeGroups.{ages_by_group, group_below, group_in, is_in, numbers_below}
pub use Held.{IsWorkingSet, KnowsUses, ages_of, last_round, maps, places_of, room_of}
