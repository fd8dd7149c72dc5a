-- A line of a world over a store that pages is decided as a run tells it.
use Rattle.std.proofs.Common.{◌≡◌, Option, Some, None, refl, sym, ap, ◌∙◌}
use Rattle.std.specs.Prelude.{is_some, unwrap_or}
use Rattle.mm_types.specs.{Key}
use Rattle.mm_move_rules.specs.{is_live}
use Rattle.mm_world.specs.{Page, filled, content_of, Tables, world_with}
use Rattle.mm_world.proofs.{holds_bytes}
use Rattle.mm_store.specs.{StoreOf, PagingStands}
use Rattle.mm_store.specs.Behind.{Behind}
use Rattle.mm_line_moves.specs.{DevicesHold}
use Rattle.mm_object_tables.specs.{key_bytes}

one_content : (o p : Option Page) → is_some p ≡ is_some o → ((x : Page) → o ≡ Some x → x ≡ unwrap_or p (filled 0)) → o ≡ p
one_content None None e h = refl
one_content None (Some y) e h = cc
one_content (Some x) None e h = cc
one_content (Some x) (Some y) e h = ap Some (h x refl)

-- what a store keeps at all times of its devices, it keeps of the world over it
pub devices_hold : (t : Tables) (c : Key → Option Page) (s : StoreOf) (b : Behind) → PagingStands c s b → ((k : Key) → is_live b.life k ≡ is_some (content_of (world_with t (key_bytes c)) k)) → DevicesHold (world_with t (key_bytes c)) b.life b.slots s.file_blocks
devices_hold t c s b h keys = λ k on.
    one_content (content_of (world_with t (key_bytes c)) k) (c k) (sym (h.live k) ∙ keys k) (holds_bytes (key_bytes c) t k) ∙ h.stored k on
