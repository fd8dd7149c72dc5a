-- What a `watch` leaves of the tables, once its region was found.
-- Profile, "Calls".
use Rattle.std.specs.Prelude.{ℕ, Bool, if◌then◌else◌}
use Rattle.mm_types.specs.{Range}
use Rattle.mm_world.specs.{RegionOf, ProcessOf, WorldOf, Found, set_region, change_flags, written_in, unwritten}

abbrev pub after_watch : {B : Type 0} → WorldOf B → ℕ → ProcessOf B → Found (RegionOf B) → Bool →
    Range → ℕ → WorldOf B
after_watch w pid p r unwrites range count =
    if unwrites
    then set_region w pid p r.place
    (change_flags (unwritten r.thing.base (written_in r.thing range count)) r.thing)
    else w
