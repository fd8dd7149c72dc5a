-- Keys and places as they are told.
use Rattle.std.specs.Prelude.{ℕ, ◌*◌, ◌^◌, Bool, true, false, nat_lt, if◌then◌else◌, [], ◌++◌}
use Rattle.std.specs.Prelude.{codes}
use Rattle.mm_types.specs.{Text, Key, Place, LineKind}
use Rattle.mm_text.specs.{hex_short}
use Rattle.mm_move_rules.specs.{key_onto, place_onto, kind_onto}

-- `p1.17`, `s0.3`
abbrev pub key_text : Key → Text
key_text k = key_onto k []

-- what a line is to the frames, as logs spell it: `access 1`
abbrev pub kind_text : LineKind → Text
kind_text k = kind_onto k []

-- the address of a page of user space
abbrev pub address_text : ℕ → Text
address_text vpn = codes " (" ++ (hex_short (vpn * 4096) ++ codes ")")

-- an address, where there is such a page
abbrev pub addressed : ℕ → Text
addressed vpn = if nat_lt vpn (2 ^ 20) then address_text vpn else []

-- `1.17`, or with its address `1.17 (0x11000)`
abbrev pub place_text : Bool → Place → Text
place_text false place = place_onto place []
place_text true place = place_onto place [] ++ addressed place.vpn.0
