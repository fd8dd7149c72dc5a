-- A write that succeeded: what it leaves of the bytes of keys.
use Rattle.std.proofs.Common.{◌≡◌, ◌≢◌, ◌⊎◌, ℕ, ◌<◌, Bool, true, false, List, Option, Some, None, refl, sym, ap, ◌∙◌, inl, inr, arith, length, length-set, zero, suc, ◌+◌, ◌≤◌, [], ◌∷◌, ◌++◌, subst, length-append, replicate}
use Rattle.std.specs.Prelude.{◌||◌, is_some, if◌then◌else◌, ◌==◌, ◌&&◌, nat_le, slice_get, slice_set}
use Rattle.std.proofs.lemmas.Bool.{and_parts, eqb-true, leb-true, or_right}
use Rattle.mm_types.proofs.{same_or_not, get_set_same, get_set_other, append_nil}
use Rattle.mm_types.specs.{Frame, Key, Record, Backing, Held, LineKind, MachineOf}
use Rattle.mm_move_rules.specs.{FrameTable, blank, record_at, is_read, is_write, is_again, is_on, slot_of, without_slot, write_done, after_wrote, FrameLife}
use Rattle.mm_move_rules.specs.{IsLegal, is_io, is_access, is_call, after_move, home_at, slot_at, FrameBytes, BlockBytes, frame_page, bytes_at, held_in}
use Rattle.mm_move_rules.specs.{located, contents_of, BytesLocated, is_legal_kind, zero_page, has_request, unstarted}
use Rattle.mm_move_laws.specs.{is_backed, block_of, block_in, block_held, ReachedByMoves}
use Rattle.mm_move_laws.proofs.{same_key-true, write_has, some_owner, facts_of, three_parts}
use Rattle.mm_frame_laws.specs.{Carries, slots_written, blocks_written, slots_grown}
use Rattle.mm_move_laws.proofs.Facts.{Facts}
use Rattle.mm_frame_laws.proofs.Moving.{others_set, here_set, records_ended, zeroed_ended, asked_low, calm_in}
use Rattle.mm_move_rules.proofs.{write_not_read, read_has, located_at_start}
use Rattle.std.proofs.lemmas.List.{length-replicate}
pub use Rattle.mm_frame_laws.proofs.Moving.{carries_map, carries_unmap, carries_soil, carries_write, carries_lost}
pub use Rattle.mm_frame_laws.proofs.KeyMoves.{carries_clear, carries_got, carries_written, carries_give, carries_read, carries_steal, carries_bad, carries_add_zero, carries_add_block, carries_drop}
use Rattle.mm_types.specs.declared.frames.Backing.TheVariants as backing
use Rattle.mm_types.specs.declared.frames.Request.TheVariants as request
use Rattle.mm_types.specs.declared.frames.Held.TheVariants as held
use Rattle.mm_types.specs.declared.moves.Move.TheVariants as move
use Rattle.mm_types.specs.declared.moves.LineKind.TheVariants as kind

abbrev slot_held : Held → Option ℕ
slot_held (held.Slot s) = Some s.0
slot_held _ = None

abbrev block_here : Held → Option ℕ
block_here (held.Block b) = Some b.0
block_here _ = None

-- what stands elsewhere is not written over
bytes_elsewhere : (ram : FrameBytes) (slots blocks : BlockBytes) (b : Backing) (page : List ℕ) (h : Held)
    → ((s : ℕ) → slot_of b ≡ Some s → slot_held h ≢ Some s) → ((c : ℕ) → block_of b ≡ Some c → block_here h ≢ Some c)
    → bytes_at ram (slots_written b page slots) (blocks_written b page blocks) h ≡ bytes_at ram slots blocks h
bytes_elsewhere ram slots blocks (backing.Slot t) page (held.Slot s) x y = get_set_other slots t.0 s.0 page (λ e. x t.0 refl (ap Some e))
bytes_elsewhere ram slots blocks (backing.Block t) page (held.Block c) x y = get_set_other blocks t.0 c.0 page (λ e. y t.0 refl (ap Some e))
bytes_elsewhere ram slots blocks _ page _ x y = refl

-- and what is written stands there
bytes_there : (ram : FrameBytes) (slots blocks : BlockBytes) (b : Backing) (page : List ℕ) → is_backed b ≡ true
    → ((s : ℕ) → slot_of b ≡ Some s → s < length slots) → ((c : ℕ) → block_of b ≡ Some c → c < length blocks)
    → bytes_at ram (slots_written b page slots) (blocks_written b page blocks) (home_at b) ≡ Some page
bytes_there ram slots blocks backing.None page i x y = cc
bytes_there ram slots blocks (backing.Slot s) page i x y = get_set_same slots s.0 page (x s.0 refl)
bytes_there ram slots blocks (backing.Block c) page i x y = get_set_same blocks c.0 page (y c.0 refl)

slot_home : (b : Backing) → slot_held (home_at b) ≡ slot_of b
slot_home backing.None = refl
slot_home _ = refl

block_home : (b : Backing) → block_here (home_at b) ≡ block_of b
block_home backing.None = refl
block_home _ = refl

module _ (l : FrameLife) (facts : Facts l) (f : Frame) (ram : FrameBytes) (slots blocks : BlockBytes) (page : List ℕ) (legal : IsLegal (move.Wrote f) l) where
  abbrev d : FrameTable
  d = l.frames

  abbrev r : Record
  r = record_at l.frames f.0

  abbrev b : Backing
  b = (record_at l.frames f.0).backing

  pub writing : is_write (record_at l.frames f.0).request ≡ true
  writing = (and_parts (is_write r.request) (is_io l.kind || is_access l.kind || is_call l.kind) legal).0

  -- a frame whose page is no more is on no block
  orphan : is_some (record_at l.frames f.0).owner ≡ false → block_of (record_at l.frames f.0).backing ≡ None
  orphan = (facts.standing f.0).fit.ownerless

  others_wrote : (g : ℕ) → g ≢ f.0 → record_at (after_wrote l.frames f.0) g ≡ record_at l.frames g
  others_wrote = others_set l.frames (after_wrote l.frames f.0) f.0 (if is_some r.owner then write_done r else blank) (records_ended (is_some r.owner) (write_done r) l.frames f.0)

  here_wrote : record_at (after_wrote l.frames f.0) f.0 ≡ (if is_some (record_at l.frames f.0).owner then write_done (record_at l.frames f.0) else blank)
  here_wrote = here_set l.frames (after_wrote l.frames f.0) f.0 (if is_some r.owner then write_done r else blank) (records_ended (is_some r.owner) (write_done r) l.frames f.0) (asked_low l.frames f.0 (write_has r.request writing))

  -- the key of the frame, where the frame is backed by a block
  owner_block : (c : ℕ) → block_of b ≡ Some c → (k : Key) → block_held l k ≡ Some c → l.stands k ≡ held.Frame f
  owner_block c e k h = at (record_at l.frames f.0).owner refl
    where
      at : (o : Option Key) → (record_at l.frames f.0).owner ≡ o → l.stands k ≡ held.Frame f
      at None g = let bad : Some c ≡ None = sym e ∙ orphan (ap is_some g) in cc
      at (Some j) g =
          let there = facts.owned f.0 j g in
          let held_j : block_held l j ≡ Some c = ap (λ (x : Held). block_in l.frames x) there ∙ e in
          ap l.stands (sym (same_key-true j k (facts.block_apart j k c held_j h))) ∙ there

  -- where another frame is backed, and where a key without a frame stands, is elsewhere
  other_backing : (g : Frame) (k : Key) → (record_at l.frames g.0).owner ≡ Some k → g.0 ≢ f.0
      → bytes_at ram (slots_written b page slots) (blocks_written b page blocks) (home_at (record_at l.frames g.0).backing) ≡ bytes_at ram slots blocks (home_at (record_at l.frames g.0).backing)
  other_backing g k o n = bytes_elsewhere ram slots blocks b page (home_at (record_at l.frames g.0).backing)
      (λ s e h. n (facts.slot_apart g.0 f.0 s (sym (slot_home (record_at l.frames g.0).backing) ∙ h) e))
      (λ c e h.
      let there = facts.owned g.0 k o in
      let mine : l.stands k ≡ held.Frame f = owner_block c e k (ap (λ (x : Held). block_in l.frames x) there ∙ sym (block_home (record_at l.frames g.0).backing) ∙ h) in
      let both : held.Frame (record { 0 = g.0 }) ≡ held.Frame f = sym there ∙ mine in
      n (let same : record { 0 = g.0 } ≡ f = cc in ap (λ (z : Frame). z.0) same))

  quiet_after : (o : Bool) → is_read (if o then write_done (record_at l.frames f.0) else blank).request ≡ false
  quiet_after false = refl
  quiet_after true = by (is_again (record_at l.frames f.0).request)
    where
      by : (a : Bool) → is_read (if a then record r { request = request.None; backing = without_slot r.backing } else record r { request = request.None; changed = false }).request ≡ false
      by true = refl
      by false = refl

  pub contents_wrote : (q : Key) → contents_of (after_move l (move.Wrote f)) ram (slots_written b page slots) (blocks_written b page blocks) q ≡ contents_of l ram slots blocks q
  contents_wrote q = by (l.stands q) refl
    where
      frame_case : (g : Frame) → l.stands q ≡ held.Frame g → ((g.0 ≡ f.0) ⊎ (g.0 ≢ f.0)) → bytes_at ram (slots_written b page slots) (blocks_written b page blocks) (held_in g (record_at (after_wrote l.frames f.0) g.0)) ≡ bytes_at ram slots blocks (held_in g (record_at l.frames g.0))
      frame_case g e (inl s) =
          ap (λ (x : Record). bytes_at ram (slots_written b page slots) (blocks_written b page blocks) (held_in g x)) (ap (λ (x : ℕ). record_at (after_wrote l.frames f.0) x) s ∙ here_wrote)
          ∙ ap (λ c. bytes_at ram (slots_written b page slots) (blocks_written b page blocks) (if c then home_at (if is_some r.owner then write_done r else blank).backing else held.Frame g)) (quiet_after (is_some r.owner))
          ∙ sym (ap (λ (x : ℕ). bytes_at ram slots blocks (held_in g (record_at l.frames x))) s ∙ ap (λ c. bytes_at ram slots blocks (if c then home_at r.backing else held.Frame g)) (write_not_read (record_at l.frames f.0).request writing))
      frame_case g e (inr n) =
          ap (λ (x : Record). bytes_at ram (slots_written b page slots) (blocks_written b page blocks) (held_in g x)) (others_wrote g.0 n) ∙ reading (is_read (record_at l.frames g.0).request)
        where
          reading : (c : Bool) → bytes_at ram (slots_written b page slots) (blocks_written b page blocks) (if c then home_at (record_at l.frames g.0).backing else held.Frame g) ≡ bytes_at ram slots blocks (if c then home_at (record_at l.frames g.0).backing else held.Frame g)
          reading false = refl
          reading true = other_backing g q (facts.owner q g e) n

      by : (h : Held) → l.stands q ≡ h → bytes_at ram (slots_written b page slots) (blocks_written b page blocks) (located (after_move l (move.Wrote f)) h) ≡ bytes_at ram slots blocks (located l h)
      by (held.Frame g) e = frame_case g e (same_or_not g.0 f.0)
      by (held.Slot s) e = bytes_elsewhere ram slots blocks b page (held.Slot s)
          (λ t g h. facts.home_apart f.0 q t g (ap slot_at e ∙ h)) (λ c g h. cc)
      by (held.Block c) e = bytes_elsewhere ram slots blocks b page (held.Block c)
          (λ t g h. cc)
          (λ x g h. let mine : l.stands q ≡ held.Frame f = owner_block x g q (ap (λ (y : Held). block_in l.frames y) e ∙ h) in let bad : held.Frame f ≡ held.Block c = sym mine ∙ e in cc)
      by x e = bytes_elsewhere ram slots blocks b page x (λ t g h. cc) (λ c g h. cc)

  -- ---- and what is located

  length_slots : (x : Backing) → length (slots_written x page slots) ≡ length slots
  length_slots (backing.Slot s) = length-set slots s.0 page
  length_slots _ = refl

  length_blocks : (x : Backing) → length (blocks_written x page blocks) ≡ length blocks
  length_blocks (backing.Block c) = length-set blocks c.0 page
  length_blocks _ = refl

  pub block_low : (c : ℕ) → block_of b ≡ Some c → c < l.machine.blocks
  block_low c e = at (record_at l.frames f.0).owner refl
    where
      at : (o : Option Key) → (record_at l.frames f.0).owner ≡ o → c < l.machine.blocks
      at None g = let bad : Some c ≡ None = sym e ∙ orphan (ap is_some g) in cc
      at (Some j) g = facts.block_low j c (ap (λ (x : Held). block_in l.frames x) (facts.owned f.0 j g) ∙ e)

  -- the record of the frame is clean then only where it was not changed again, and it is backed as before
  clean_after : (o a : Bool) → is_some (if o then (if a then record r { request = request.None; backing = without_slot r.backing } else record r { request = request.None; changed = false }) else blank).owner ≡ true
      → (if o then (if a then record r { request = request.None; backing = without_slot r.backing } else record r { request = request.None; changed = false }) else blank).changed ≡ false
      → (if o then (if a then record r { request = request.None; backing = without_slot r.backing } else record r { request = request.None; changed = false }) else blank).backing ≡ b
  clean_after true true o c = let was = ((facts.standing f.0).fit.writing writing).0 in let bad : true ≡ false = sym was ∙ c in cc
  clean_after _ _ o c = cc

  pub located_wrote : BytesLocated l ram slots blocks → frame_page ram f.0 ≡ Some page → BytesLocated (after_move l (move.Wrote f)) ram (slots_written b page slots) (blocks_written b page blocks)
  located_wrote kept content = record {
    clean = λ g o c n. at g o c n (same_or_not g f.0);
    zeroed = λ g on. kept.zeroed g (sym (ap (is_on g) (zeroed_ended (is_some r.owner) (write_done r) d f.0)) ∙ on);
    live = λ q. ap is_some (contents_wrote q) ∙ kept.live q;
    frame_room = kept.frame_room;
    room = length_slots b ∙ kept.room;
    file_room = length_blocks b ∙ kept.file_room;
  }
    where
      at : (g : ℕ) → is_some (record_at (after_wrote l.frames f.0) g).owner ≡ true → (record_at (after_wrote l.frames f.0) g).changed ≡ false → is_read (record_at (after_wrote l.frames f.0) g).request ≡ false → ((g ≡ f.0) ⊎ (g ≢ f.0))
          → frame_page ram g ≡ bytes_at ram (slots_written b page slots) (blocks_written b page blocks) (home_at (record_at (after_wrote l.frames f.0) g).backing)
      at g o c n (inl s) =
          let now : record_at (after_wrote l.frames f.0) g ≡ (if is_some r.owner then write_done r else blank) = ap (λ (x : ℕ). record_at (after_wrote l.frames f.0) x) s ∙ here_wrote in
          let same : (if is_some r.owner then write_done r else blank).backing ≡ b =
          clean_after (is_some r.owner) (is_again r.request) (sym (ap (λ (x : Record). is_some x.owner) now) ∙ o) (sym (ap (λ (x : Record). x.changed) now) ∙ c) in
          ap (frame_page ram) s ∙ content
          ∙ sym (ap (λ (x : Record). bytes_at ram (slots_written b page slots) (blocks_written b page blocks) (home_at x.backing)) now
          ∙ ap (λ (x : Backing). bytes_at ram (slots_written b page slots) (blocks_written b page blocks) (home_at x)) same
          ∙ bytes_there ram slots blocks b page ((facts.standing f.0).fit.writing writing).1
          (λ t e. let low = facts.slot_low f.0 t e in omega (arith, low, kept.room))
          (λ t e. let low = block_low t e in omega (arith, low, kept.file_room)))
      at g o c n (inr m) =
          let was : record_at (after_wrote l.frames f.0) g ≡ record_at l.frames g = others_wrote g m in
          kept.clean g (sym (ap (λ (x : Record). is_some x.owner) was) ∙ o) (sym (ap (λ (x : Record). x.changed) was) ∙ c) (sym (ap (λ (x : Record). is_read x.request) was) ∙ n)
          ∙ sym (ap (λ (x : Record). bytes_at ram (slots_written b page slots) (blocks_written b page blocks) (home_at x.backing)) was
          ∙ owned (record_at l.frames g).owner refl (sym (ap (λ (x : Record). is_some x.owner) was) ∙ o))
        where
          owned : (k : Option Key) → (record_at l.frames g).owner ≡ k → is_some (record_at l.frames g).owner ≡ true
              → bytes_at ram (slots_written b page slots) (blocks_written b page blocks) (home_at (record_at l.frames g).backing) ≡ bytes_at ram slots blocks (home_at (record_at l.frames g).backing)
          owned None e i = let bad : false ≡ true = sym (ap is_some e) ∙ i in cc
          owned (Some k) e i = other_backing (record { 0 = g }) k e m

  pub wrote_carries : BytesLocated l ram slots blocks → frame_page ram f.0 ≡ Some page → Carries (after_move l (move.Wrote f)) ram (slots_written b page slots) (blocks_written b page blocks) (contents_of l ram slots blocks)
  wrote_carries kept content = record { located = located_wrote kept content; bytes = λ i. λ q. contents_wrote q i }

-- ---- lines, and a block that no key ever had

-- ---- a line that changes no frame, no key and no slot

-- the same frames, keys and machine
pub line_carries : (l m : FrameLife) (ram : FrameBytes) (slots blocks : BlockBytes) → BytesLocated l ram slots blocks → m.frames ≡ l.frames → m.stands ≡ l.stands → m.machine ≡ l.machine
    → Carries m ram slots blocks (contents_of l ram slots blocks)
line_carries l m ram slots blocks kept frames stands machine =
    let same : record l { frames = m.frames; stands = m.stands; machine = m.machine } ≡ l = λ i. record l { frames = frames i; stands = stands i; machine = machine i } in
    let P : FrameLife → Type 0 = λ x. Carries x ram slots blocks (contents_of l ram slots blocks) in
    to (subst P (sym same) (record { located = kept; bytes = refl }))
  where
    to : Carries (record l { frames = m.frames; stands = m.stands; machine = m.machine }) ram slots blocks (contents_of l ram slots blocks) → Carries m ram slots blocks (contents_of l ram slots blocks)
    to c = assumption

-- ---- further slots

there_stays : (xs ys : BlockBytes) (i : ℕ) → i < length xs → slice_get (xs ++ ys) i ≡ slice_get xs i
there_stays [] ys i h = absurd (omega arith)
there_stays (x ∷ xs) ys zero h = refl
there_stays (x ∷ xs) ys (suc i) h = there_stays xs ys i (omega arith)

module _ (l : FrameLife) (reached : ∥ ReachedByMoves l ∥₁) (ram : FrameBytes) (slots blocks : BlockBytes) (kept : BytesLocated l ram slots blocks) where
  facts : Facts l
  facts = facts_of l reached

  plain_by : (n : ℕ) (k : LineKind) → 1 ≤ l.line → slots_grown k ≡ 0 → is_legal_kind l k ≡ true → Carries (after_move l (move.At n k)) ram slots blocks (contents_of l ram slots blocks)
  plain_by n (kind.Machine f s d b) begun g h = let e = eqb-true l.line 0 (and_parts (l.line == 0) _ h).0 in absurd (omega (arith, e, begun))
  plain_by n (kind.Grow c) begun g h =
      absurd (omega (arith, leb-true 1 c (three_parts _ _ _ h).1, g))
  plain_by n kd begun g h = line_carries l (after_move l (move.At n kd)) ram slots blocks kept refl refl refl

  kind_legal : (n : ℕ) (k : LineKind) → IsLegal (move.At n k) l → is_legal_kind l k ≡ true
  kind_legal n k legal = (and_parts ((n == l.line + 1) && nat_le (length l.flight) l.machine.depth) (is_legal_kind l k) legal).1

  pub carries_at_plain : (n : ℕ) (k : LineKind) → 1 ≤ l.line → slots_grown k ≡ 0 → IsLegal (move.At n k) l → Carries (after_move l (move.At n k)) ram slots blocks (contents_of l ram slots blocks)
  carries_at_plain n k begun same legal = plain_by n k begun same (kind_legal n k legal)

  -- what stands in a slot stands in one that is there
  home_stays : (ys : BlockBytes) (b : Backing) → ((s : ℕ) → slot_of b ≡ Some s → s < length slots) → bytes_at ram (slots ++ ys) blocks (home_at b) ≡ bytes_at ram slots blocks (home_at b)
  home_stays ys (backing.Slot s) low = there_stays slots ys s.0 (low s.0 refl)
  home_stays ys _ low = refl

  backed_low : (f s : ℕ) → slot_of (record_at l.frames f).backing ≡ Some s → s < length slots
  backed_low f s e = let low = facts.slot_low f s e in let size = kept.room in omega (arith, low, size)

  stays : (ys : BlockBytes) (q : Key) (h : Held) → l.stands q ≡ h → bytes_at ram (slots ++ ys) blocks (located l h) ≡ bytes_at ram slots blocks (located l h)
  stays ys q (held.Frame g) e = by (is_read (record_at l.frames g.0).request)
    where
      by : (b : Bool) → bytes_at ram (slots ++ ys) blocks (if b then home_at (record_at l.frames g.0).backing else held.Frame g) ≡ bytes_at ram slots blocks (if b then home_at (record_at l.frames g.0).backing else held.Frame g)
      by true = home_stays ys (record_at l.frames g.0).backing (backed_low g.0)
      by false = refl
  stays ys q (held.Slot s) e = let low = facts.home_low q s.0 (ap slot_at e) in let size = kept.room in there_stays slots ys s.0 (omega (arith, low, size))
  stays ys q _ e = refl

  pub carries_at : (n : ℕ) (k : LineKind) → 1 ≤ l.line → IsLegal (move.At n k) l → Carries (after_move l (move.At n k)) ram (slots ++ replicate (slots_grown k) zero_page) blocks (contents_of l ram slots blocks)
  carries_at n k begun legal = by k (kind_legal n k legal)
    where
      none : (k : LineKind) → slots_grown k ≡ 0 → is_legal_kind l k ≡ true → Carries (after_move l (move.At n k)) ram (slots ++ replicate (slots_grown k) zero_page) blocks (contents_of l ram slots blocks)
      none k e h = subst (λ (x : BlockBytes). Carries (after_move l (move.At n k)) ram x blocks (contents_of l ram slots blocks)) (sym (ap (λ (c : ℕ). slots ++ replicate c zero_page) e ∙ append_nil slots)) (plain_by n k begun e h)

      by : (k : LineKind) → is_legal_kind l k ≡ true → Carries (after_move l (move.At n k)) ram (slots ++ replicate (slots_grown k) zero_page) blocks (contents_of l ram slots blocks)
      by (kind.Grow c) h =
          let ys = replicate c zero_page in
          record {
            located = record {
              clean = λ g o d r. kept.clean g o d r ∙ sym (home_stays ys (record_at l.frames g).backing (backed_low g));
              zeroed = kept.zeroed;
              live = λ q. ap is_some (stays ys q (l.stands q) refl) ∙ kept.live q;
              frame_room = kept.frame_room;
              room = omega (arith, length-replicate c zero_page, length-append slots ys, kept.room);
              file_room = kept.file_room;
            };
            bytes = λ i. λ q. stays ys q (l.stands q) refl i;
          }
      by kd h = none kd refl h

  -- ---- a block that no key ever had

  home_apart : (b : ℕ) (page : List ℕ) (home : Backing) → block_of home ≢ Some b → bytes_at ram slots (slice_set blocks b page) (home_at home) ≡ bytes_at ram slots blocks (home_at home)
  home_apart b page (backing.Block c) other = get_set_other blocks b c.0 page (λ e. other (ap Some e))
  home_apart b page _ other = refl

  unused : (b : ℕ) → l.added b ≡ false → (q : Key) → block_held l q ≢ Some b
  unused b new q e = let bad : true ≡ false = sym (facts.block_added q b e) ∙ new in cc

  apart : (b : ℕ) (page : List ℕ) → l.added b ≡ false → (q : Key) (h : Held) → l.stands q ≡ h → bytes_at ram slots (slice_set blocks b page) (located l h) ≡ bytes_at ram slots blocks (located l h)
  apart b page new q (held.Frame g) e = by (is_read (record_at l.frames g.0).request)
    where
      by : (c : Bool) → bytes_at ram slots (slice_set blocks b page) (if c then home_at (record_at l.frames g.0).backing else held.Frame g) ≡ bytes_at ram slots blocks (if c then home_at (record_at l.frames g.0).backing else held.Frame g)
      by true = home_apart b page (record_at l.frames g.0).backing (λ x. unused b new q (ap (block_in l.frames) e ∙ x))
      by false = refl
  apart b page new q (held.Block c) e = get_set_other blocks b c.0 page (λ x. unused b new q (ap (block_in l.frames) e ∙ ap Some x))
  apart b page new q _ e = refl

  pub carries_block : (b : ℕ) (page : List ℕ) → l.added b ≡ false → Carries l ram slots (slice_set blocks b page) (contents_of l ram slots blocks)
  carries_block b page new = record {
    located = record {
      clean = λ g o d r.
          let owner = some_owner (record_at l.frames g) o in
          kept.clean g o d r ∙ sym (home_apart b page (record_at l.frames g).backing (λ x. unused b new owner.0 (ap (block_in l.frames) (facts.owned g owner.0 owner.1) ∙ x)));
      zeroed = kept.zeroed;
      live = λ q. ap is_some (apart b page new q (l.stands q) refl) ∙ kept.live q;
      frame_room = kept.frame_room;
      room = kept.room;
      file_room = length-set blocks b page ∙ kept.file_room;
    };
    bytes = λ i. λ q. apart b page new q (l.stands q) refl i;
  }

-- ---- what each move leaves of the bytes of keys

module _ (l : FrameLife) (reached : ∥ ReachedByMoves l ∥₁) (ram : FrameBytes) (slots blocks : BlockBytes) (kept : BytesLocated l ram slots blocks) where
  pub carries_wrote : (f : Frame) (page : List ℕ) → IsLegal (move.Wrote f) l → frame_page ram f.0 ≡ Some page
      → Carries (after_move l (move.Wrote f)) ram (slots_written (record_at l.frames f.0).backing page slots) (blocks_written (record_at l.frames f.0).backing page blocks) (contents_of l ram slots blocks)
  carries_wrote f page legal there = wrote_carries l (facts_of l reached) f ram slots blocks page legal kept there

  pub read_backed : (f : Frame) → is_read (record_at l.frames f.0).request ≡ true → is_backed (record_at l.frames f.0).backing ≡ true
  read_backed f h =
      let fit = ((facts_of l reached).standing f.0).fit in
      fit.clean (or_right (is_some (record_at l.frames f.0).owner) (has_request (record_at l.frames f.0).request) (read_has (record_at l.frames f.0).request h)) (fit.reading h).1

  pub write_backed : (f : Frame) → is_write (record_at l.frames f.0).request ≡ true → is_backed (record_at l.frames f.0).backing ≡ true
  write_backed f h = (((facts_of l reached).standing f.0).fit.writing h).1

  pub slot_there : (f : Frame) (s : ℕ) → slot_of (record_at l.frames f.0).backing ≡ Some s → s < length slots
  slot_there f s e = let low = (facts_of l reached).slot_low f.0 s e in let size = kept.room in omega (arith, low, size)

  pub block_there : (f : Frame) (b : ℕ) → block_of (record_at l.frames f.0).backing ≡ Some b → b < length blocks
  block_there f b e = by (record_at l.frames f.0).owner refl
    where
      by : (o : Option Key) → (record_at l.frames f.0).owner ≡ o → b < length blocks
      by None none = let bad : Some b ≡ None = sym e ∙ ((facts_of l reached).standing f.0).fit.ownerless (ap is_some none) in cc
      by (Some k) owner =
          omega (arith, (facts_of l reached).block_low k b (ap (block_in l.frames) ((facts_of l reached).owned f.0 k owner) ∙ e), kept.file_room)

  pub page_of_key : (f : Frame) (k : Key) → (record_at l.frames f.0).owner ≡ Some k → is_read (record_at l.frames f.0).request ≡ false
      → contents_of l ram slots blocks k ≡ frame_page ram f.0
  page_of_key f k owner calm =
      ap (λ (h : Held). bytes_at ram slots blocks (located l h)) ((facts_of l reached).owned f.0 k owner) ∙ calm_in ram slots blocks f (record_at l.frames f.0) calm

pub carries_start : (m : MachineOf) (slots blocks : BlockBytes) → length slots ≡ m.slots → length blocks ≡ m.blocks
    → Carries (after_move unstarted (move.At 1 (kind.Machine m.frames m.slots m.depth m.blocks))) (replicate m.frames None) slots blocks (λ _. None)
carries_start m slots blocks a b = record {
  located = located_at_start m 1 (kind.Machine m.frames m.slots m.depth m.blocks) (replicate m.frames None) slots blocks (length-replicate m.frames None) a b;
  bytes = refl;
}
