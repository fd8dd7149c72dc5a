-- Where an `alloc` takes memory.
-- Profile, "Calls".
use Rattle.std.specs.Prelude.{ℕ, Bool, nat_lt, if◌then◌else◌}
use Rattle.mm_world.specs.{WorldOf, alloc, is_reserving, plain_type, charge, is_success}

-- a region comes to be, or pages are committed that were not, which are charged; of pages that are
-- committed already, and where it is refused, an `alloc` makes nothing
abbrev pub allocates_anew : {B : Type 0} → (ℕ → B) → WorldOf B → ℕ → ℕ → ℕ → ℕ → ℕ → Bool
allocates_anew fill w pid addr size type prot =
    let o = alloc fill w pid addr size type prot in
    if is_reserving addr (plain_type type) then is_success o.answer
    else nat_lt (charge w) (charge o.world)
