-- What is true of each record by itself.
-- Profile, "Logs of moves".
use Rattle.std.specs.Prelude.{◌≡◌, Bool, true, false, ◌||◌, nat_lt, is_some, None}
use Rattle.mm_types.specs.{Record, Backing}
use Rattle.mm_types.specs.declared.frames.Backing.TheVariants as backing
use Rattle.mm_move_rules.specs.{blank, has_request, is_read, is_write, slot_of}
use Rattle.mm_move_laws.specs.FileBlocks.{block_of}

-- a frame that holds a page, or did when its request began
abbrev pub is_kept : Record → Bool
is_kept r = is_some r.owner || has_request r.request

abbrev pub is_backed : Backing → Bool
is_backed backing.None = false
is_backed (backing.Slot s) = true
is_backed (backing.Block b) = true

pub record Fit (r : Record) : Type 0 where
  -- a frame that is not kept has nothing
  pub bare : is_kept r ≡ false → r ≡ blank
  -- a page that is valid somewhere lives
  pub shown : nat_lt 0 r.shares ≡ true → is_some r.owner ≡ true
  pub reading : is_read r.request ≡ true → (r.shares ≡ 0) × (r.changed ≡ false)
  -- a changed page that is not being written has no slot
  pub dirty : r.changed ≡ true → has_request r.request ≡ false → slot_of r.backing ≡ None
  pub writing : is_write r.request ≡ true → (r.changed ≡ true) × (is_backed r.backing ≡ true)
  -- a page that is not changed is on a device
  pub clean : is_kept r ≡ true → r.changed ≡ false → is_backed r.backing ≡ true
  -- a frame whose page lives no more is on no block: no file page is dropped
  pub ownerless : is_some r.owner ≡ false → block_of r.backing ≡ None
