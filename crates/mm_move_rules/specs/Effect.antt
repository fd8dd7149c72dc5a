-- What a move does. Each effect is total; what it gives where the move is not legal means nothing.
-- Profile, "Logs of moves".
use Rattle.std.specs.Prelude.{ℕ, ◌+◌, ◌-◌, Bool, true, false, ◌==◌, List, [], ◌∷◌, ◌++◌, replicate, Option, Some, None, slice_set}
use Rattle.mm_types.specs.{Frame, Block, Key, Place, Backing, Held, LineKind, Stored, Move}
use Rattle.mm_types.specs.declared.frames.Backing.TheVariants as backing
use Rattle.mm_types.specs.declared.frames.Held.TheVariants as held
use Rattle.mm_types.specs.declared.moves.LineKind.TheVariants as kind
use Rattle.mm_types.specs.declared.moves.Stored.TheVariants as stored
use Rattle.mm_types.specs.declared.moves.Move.TheVariants as move
use Rattle.mm_move_rules.specs.Frames.{record_at, slot_of, without, slot_after_soil, slot_after_drop, slot_after_read, slot_after_wrote, slot_after_lost, after_clear, after_steal, after_give, after_read, after_got, after_bad, after_map, after_unmap, after_soil, after_write, after_wrote, after_lost, after_drop}
use Rattle.mm_move_rules.specs.Life.{FrameLife, changed, same_key, same_place, with_resident, life_at}

-- a slot, if any, is free again
abbrev pub freed : List Bool → Option ℕ → List Bool
freed slots None = slots
freed slots (Some s) = slice_set slots s true

-- the home that a backing is
abbrev pub home_at : Backing → Held
home_at backing.None = held.Zero
home_at (backing.Slot s) = held.Slot s
home_at (backing.Block b) = held.Block b

-- the backing that a home is
abbrev pub backing_of : Held → Backing
backing_of (held.Frame f) = backing.None
backing_of (held.Slot s) = backing.Slot s
backing_of (held.Block b) = backing.Block b
backing_of held.Zero = backing.None
backing_of held.Dead = backing.None

-- the slot that a home is
abbrev pub slot_at : Held → Option ℕ
slot_at h = slot_of (backing_of h)

abbrev pub stood : FrameLife → Key → Held → Key → Held
stood l k h = changed same_key l.stands k h

-- an owner, if any, has the backing as home
abbrev pub homed : FrameLife → Option Key → Backing → Key → Held
homed l None home = l.stands
homed l (Some k) home = stood l k (home_at home)

-- ---- `at`

abbrev pub after_at : FrameLife → ℕ → LineKind → FrameLife
after_at l n (kind.Machine frames slots depth blocks) =
    life_at (record {
      frames = frames;
      slots = slots;
      depth = depth;
      blocks = blocks;
    }) n (kind.Machine frames slots depth blocks)
after_at l n (kind.Process pid min max) =
    record l {
      line = n;
      kind = kind.Process pid min max;
      sets = l.sets ++ record { min = min; max = max; resident = 0 } ∷ [];
    }
after_at l n (kind.Unbind pid) = record l { line = n; kind = kind.Unbind pid }
after_at l n (kind.Access pid) = record l { line = n; kind = kind.Access pid }
after_at l n (kind.Thread pid) = record l { line = n; kind = kind.Thread pid }
after_at l n (kind.Trim pid) = record l { line = n; kind = kind.Trim pid }
after_at l n kind.Writer = record l { line = n; kind = kind.Writer }
after_at l n kind.Zeroer = record l { line = n; kind = kind.Zeroer }
after_at l n kind.Io = record l { line = n; kind = kind.Io }
after_at l n kind.Call = record l { line = n; kind = kind.Call }
after_at l n (kind.Grow count) =
    record l {
      line = n;
      kind = kind.Grow count;
      machine = record l.machine { slots = l.machine.slots + count };
      free_slots = l.free_slots ++ replicate count true;
    }

-- ---- `add` and `drop`

abbrev pub after_add : FrameLife → Key → Option Block → FrameLife
after_add l k None = record l {
  stands = stood l k held.Zero;
  paging = changed same_key l.paging k true;
  paging_keys = l.paging_keys + 1;
}
after_add l k (Some b) = record l {
  stands = stood l k (held.Block b);
  added = changed ◌==◌ l.added b.0 true;
}

-- the key is not live; its slot, as home or as backing of an idle frame, is free
abbrev pub unlisted : FrameLife → Key → FrameLife
unlisted l k = record l {
  stands = stood l k held.Dead;
  paging = changed same_key l.paging k false;
  paging_keys = l.paging_keys - 1;
}

abbrev pub dropped_at : Held → FrameLife → Key → FrameLife
dropped_at (held.Frame f) l k =
    record (unlisted l k) {
      frames = after_drop l.frames f.0;
      free_slots = freed l.free_slots (slot_after_drop (record_at l.frames f.0));
    }
dropped_at (held.Slot s) l k = record (unlisted l k) { free_slots = freed l.free_slots (Some s.0) }
dropped_at (held.Block b) l k = unlisted l k
dropped_at held.Zero l k = unlisted l k
dropped_at held.Dead l k = unlisted l k

-- ---- frames

abbrev pub after_unmap_at : Option Frame → FrameLife → Place → FrameLife
after_unmap_at None l place = l
after_unmap_at (Some f) l place =
    record l {
      frames = after_unmap l.frames f.0;
      valid = changed same_place l.valid place None;
      sets = with_resident l.sets place.pid.0 (λ n. n - 1);
    }

abbrev pub after_write_to : FrameLife → ℕ → Stored → FrameLife
after_write_to l f (stored.Slot s) =
    record l {
      frames = after_write l.frames f (backing.Slot s);
      free_slots = slice_set l.free_slots s.0 false;
      flight = l.flight ++ f ∷ [];
    }
after_write_to l f (stored.Block b) = record l {
  frames = after_write l.frames f (backing.Block b);
  flight = l.flight ++ f ∷ [];
}

abbrev pub after_move : FrameLife → Move → FrameLife
after_move l (move.At n k) = after_at l n k
after_move l (move.Add k b) = after_add l k b
after_move l (move.Drop k) = dropped_at (l.stands k) l k
after_move l (move.Clear f) = record l { frames = after_clear l.frames f.0 }
after_move l (move.Steal f) =
    let r = record_at l.frames f.0 in
    record l { frames = after_steal l.frames f.0; stands = homed l r.owner r.backing }
after_move l (move.Give f k) = record l {
  frames = after_give l.frames f.0 k;
  stands = stood l k (held.Frame f);
}
after_move l (move.Read f k) =
    record l {
      frames = after_read l.frames f.0 k (backing_of (l.stands k));
      stands = stood l k (held.Frame f);
      flight = l.flight ++ f.0 ∷ [];
    }
after_move l (move.Got f) =
    record l {
      frames = after_got l.frames f.0;
      free_slots = freed l.free_slots (slot_after_read (record_at l.frames f.0));
      flight = without f.0 l.flight;
    }
after_move l (move.Bad f) =
    let r = record_at l.frames f.0 in
    record l {
      frames = after_bad l.frames f.0;
      free_slots = freed l.free_slots (slot_after_read r);
      stands = homed l r.owner r.backing;
      flight = without f.0 l.flight;
    }
after_move l (move.Map f place) =
    record l {
      frames = after_map l.frames f.0;
      valid = changed same_place l.valid place (Some f);
      sets = with_resident l.sets place.pid.0 (λ n. n + 1);
    }
after_move l (move.Unmap place) = after_unmap_at (l.valid place) l place
after_move l (move.Soil f) =
    record l {
      frames = after_soil l.frames f.0;
      free_slots = freed l.free_slots (slot_after_soil (record_at l.frames f.0));
    }
after_move l (move.Write f s) = after_write_to l f.0 s
after_move l (move.Wrote f) =
    record l {
      frames = after_wrote l.frames f.0;
      free_slots = freed l.free_slots (slot_after_wrote (record_at l.frames f.0));
      flight = without f.0 l.flight;
    }
after_move l (move.Lost f) =
    record l {
      frames = after_lost l.frames f.0;
      free_slots = freed l.free_slots (slot_after_lost (record_at l.frames f.0));
      flight = without f.0 l.flight;
    }
