-- Where a key stands, what backs its frame, and whether it lives.
use Rattle.std.proofs.Common.{◌≡◌, true, false, refl, ap}
use Rattle.std.specs.Prelude.{not}
use Rattle.mm_types.specs.{Backing, Held}
use Rattle.mm_types.specs.declared.frames.Backing.TheVariants as backing
use Rattle.mm_types.specs.declared.frames.Held.TheVariants as held
use Rattle.mm_move_rules.specs.{is_dead, is_zero, is_stored, home_at}

pub home_lives : (b : Backing) → is_dead (home_at b) ≡ false
home_lives backing.None = refl
home_lives _ = refl

pub zero_live : (h : Held) → is_zero h ≡ true → not (is_dead h) ≡ true
zero_live held.Zero e = refl
zero_live _ e = cc

pub stored_lives : (h : Held) → is_stored h ≡ true → is_dead h ≡ false
stored_lives (held.Slot s) e = refl
stored_lives _ e = cc

pub stored_live : (h : Held) → is_stored h ≡ true → not (is_dead h) ≡ true
stored_live h e = ap not (stored_lives h e)
