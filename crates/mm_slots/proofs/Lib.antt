pub mod FlagLemmas
pub use FlagLemmas.{before, count_changed, counted_some, flags_all, free_changed, free_fresh}
pub use FlagLemmas.{fresh_taken, length-flags, low_changed, lowest_back, lowest_fresh, lowest_slot}
pub use FlagLemmas.{more_fits, new_slots, shown_changed, shown_grown, slot_given, slot_taken}
pub use FlagLemmas.{slots_grown, slots_reserved, some_free}
