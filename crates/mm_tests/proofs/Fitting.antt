-- A store keeps what it keeps, and fits the tables as before, where bytes of pages alone changed.
use Rattle.std.proofs.Common.{◌≡◌, ◌≤◌, ℕ, sym, ap, ◌∙◌, subst}
use Rattle.mm_world.specs.{Tables}
use Rattle.mm_object_tables.specs.{FitsTables}
use Rattle.mm_state_calls.specs.{StateOf}
use Rattle.mm_pager.specs.{OwnOf, StoreKept, store_of}
use Rattle.mm_tests.specs.{BytesChanged}

-- the state with other bytes and devices
abbrev with_bytes : StateOf → StateOf → StateOf
with_bytes s z = record s {
  contents = z.contents;
  paging = z.paging;
  files = z.files;
  slots = z.slots;
  blocks = z.blocks;
}

pub still_kept : (s z : StateOf) (o : OwnOf) → BytesChanged s z → StoreKept s o → StoreKept z o
still_kept s z o h k =
    let there : StoreKept (with_bytes s z) o = record { own = k.own; aside = k.aside; ready = k.ready; touching = k.touching; room = k.room; fresh = k.fresh; calm = k.calm } in
    subst (λ (x : StateOf). StoreKept x o) (sym h.rest) there

pub still_fits : (t : Tables) (s z : StateOf) (o : OwnOf) → BytesChanged s z → FitsTables t s.contents (store_of s o) → FitsTables t z.contents (store_of z o)
still_fits t s z o b h =
    let there : FitsTables t z.contents (store_of (with_bytes s z) o) = record {
      machine = h.machine;
      opened = h.opened;
      last_pid = h.last_pid;
      areas = h.areas;
      bound = h.bound;
      live = λ k. b.live k ∙ h.live k;
      paging = h.paging;
      counted = h.counted;
      room = h.room;
      named = h.named;
      blocks = h.blocks;
      used = h.used;
      stored = b.stored ∙ h.stored;
      named_paging = subst (λ (n : ℕ). n ≤ t.fails_taken) (sym b.paging) h.named_paging;
      named_file = subst (λ (n : ℕ). n ≤ t.fails_taken) (sym b.files) h.named_file;
    } in
    subst (λ (x : StateOf). FitsTables t z.contents (store_of x o)) (sym b.rest) there

pub same_line : (s z : StateOf) (o : OwnOf) → BytesChanged s z → (store_of z o).line ≡ (store_of s o).line
same_line s z o b = ap (λ (x : StateOf). x.life.line) b.rest
