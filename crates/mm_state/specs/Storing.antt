-- A key that is in no frame, or unchanged in one, has the bytes that stand on a device.
use Rattle.std.proofs.Common.{◌≡◌, Bool, true, false, Some, refl, ap, ◌∙◌}
use Rattle.std.specs.Prelude.{is_some, if◌then◌else◌}
use Rattle.mm_types.specs.{Frame, Key, Backing, Held}
use Rattle.mm_types.specs.declared.frames.Backing.TheVariants as backing
use Rattle.mm_types.specs.declared.frames.Held.TheVariants as held
use Rattle.mm_move_rules.specs.{record_at, is_read, FrameLife, home_at, FrameBytes, BlockBytes, zero_page, bytes_at, located, contents_of, BytesLocated}
use Rattle.mm_move_laws.specs.{ReachedByMoves}
use Rattle.mm_world.specs.{filled}
use Rattle.mm_store.specs.Standing as pages
use Rattle.mm_move_laws.proofs.Facts.{facts_of}

zero_filled : Some zero_page ≡ Some (filled 0)
unfolding filled
zero_filled = refl

on_device : (ram : FrameBytes) (slots blocks : BlockBytes) (b : Backing) →
    pages.is_on_device (pages.in_backing b) ≡ true →
    bytes_at ram slots blocks (home_at b) ≡ pages.bytes_on_devices slots blocks (pages.in_backing b)
on_device ram slots blocks backing.None h = cc
on_device ram slots blocks (backing.Slot s) h = refl
on_device ram slots blocks (backing.Block c) h = refl

module _ (l : FrameLife) (reached : ∥ ReachedByMoves l ∥₁)
    (ram : FrameBytes) (slots blocks : BlockBytes)
    (kept : BytesLocated l ram slots blocks) where
  in_frame : (f : Frame) (k : Key) → (record_at l.frames f.0).owner ≡ Some k → (c r : Bool) →
      (record_at l.frames f.0).changed ≡ c → is_read (record_at l.frames f.0).request ≡ r
      → pages.is_on_device (if c then held.Dead else
      pages.in_backing (record_at l.frames f.0).backing) ≡ true
      → bytes_at ram slots blocks (if r then home_at (record_at l.frames f.0).backing else
      held.Frame f) ≡ pages.bytes_on_devices slots blocks (if c then held.Dead else
      pages.in_backing (record_at l.frames f.0).backing)
  in_frame f k owner true r e q on = cc
  in_frame f k owner false true e q on =
      on_device ram slots blocks (record_at l.frames f.0).backing on
  in_frame f k owner false false e q on =
      kept.clean f.0 (ap is_some owner) e q
      ∙ on_device ram slots blocks (record_at l.frames f.0).backing on

  pub stored_bytes : (k : Key) → pages.is_on_device (pages.stored_of l (l.stands k)) ≡ true →
      contents_of l ram slots blocks k ≡
      pages.bytes_on_devices slots blocks (pages.stored_of l (l.stands k))
  stored_bytes k on = by (l.stands k) refl on
    where
      by : (h : Held) → l.stands k ≡ h → pages.is_on_device (pages.stored_of l h) ≡ true →
          bytes_at ram slots blocks (located l h) ≡
          pages.bytes_on_devices slots blocks (pages.stored_of l h)
      by (held.Frame f) e on =
          in_frame f k ((facts_of l reached).owner k f e) (record_at l.frames f.0).changed
          (is_read (record_at l.frames f.0).request) refl refl on
      by (held.Slot s) e on = refl
      by (held.Block b) e on = refl
      by held.Zero e on = zero_filled
      by held.Dead e on = cc
