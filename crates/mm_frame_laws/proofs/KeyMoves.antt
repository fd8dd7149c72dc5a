-- The moves that change one key's place: give, read, steal, bad, drop, add.
use Rattle.std.proofs.Common.{◌≡◌, ◌≢◌, ℕ, ◌<◌, Bool, true, false, List, Option, Some, None, refl, sym, ap, ◌∙◌, arith, length, ◌⊎◌, inl, inr, length-set, get_or-set_same, get_or-set_other}
use Rattle.std.specs.Prelude.{◌||◌, not, is_some, if◌then◌else◌, slice_get, slice_set, ◌&&◌}
use Rattle.std.proofs.lemmas.Bool.{and_parts, ltb-true, or_left}
use Rattle.mm_types.specs.{MachineOf, Block, Frame, Key, Record, Backing, Held, Request}
use Rattle.mm_move_rules.specs.{FrameTable, blank, record_at, is_read, is_on, is_empty, rest, has_request, given, being_read, disowned, taken_for_read}
use Rattle.mm_move_rules.specs.{to_free, off_lists, with_record, FrameLife, changed, same_key, is_dead, IsLegal, is_stored, is_access, is_io, after_move}
use Rattle.mm_move_rules.specs.{home_at, backing_of, homed, dropped_at, FrameBytes, BlockBytes, zero_page, frame_page, bytes_at, held_in, located}
use Rattle.mm_move_rules.specs.{contents_of, BytesLocated, is_first, read_done, is_live, is_zeroer, is_touch}
use Rattle.mm_move_laws.proofs.{zero_is, stored_backed, changes_give, fresh_read, changes_read, changes_steal, some_owner, read_has, facts_of, four_parts}
use Rattle.mm_move_laws.proofs.{three_parts, key_or_not}
use Rattle.mm_move_laws.specs.{Sight, sight, ReachedByMoves}
use Rattle.mm_frame_laws.specs.{Carries, IsSoiled, is_calm}
use Rattle.mm_move_laws.proofs.Facts.{Facts}
use Rattle.mm_frame_laws.proofs.Moving.{calm_in, read_in, one_moves, clean_by, same_live, same_contents, alone_set, others_set, here_set, carries_kept, owned_low, asked_low, first_on, rest_on, push_on, home_bytes, elsewhere, records_ended, zeroed_ended}
use Rattle.mm_move_rules.proofs.{home_lives, stored_lives, calm}
use Rattle.mm_types.proofs.{is_there, same_or_not}
use Rattle.mm_ram.specs.{with_page}
use Rattle.mm_types.specs.declared.frames.Backing.TheVariants as backing
use Rattle.mm_types.specs.declared.frames.Held.TheVariants as held
use Rattle.mm_types.specs.declared.moves.Move.TheVariants as move
use Rattle.mm_types.specs.declared.frames.Request.TheVariants as request

-- one frame has this record now, and one key stands there
pub record Moves (l m : FrameLife) (f : ℕ) (r : Record) (k : Key) (h : Held) : Type 0 where
  pub others : (g : ℕ) → g ≢ f → record_at m.frames g ≡ record_at l.frames g
  pub here : record_at m.frames f ≡ r
  -- what is zeroed was zeroed
  pub zeroed_was : (g : ℕ) → is_on g m.frames.zeroed ≡ true → is_on g l.frames.zeroed ≡ true
  pub stands_as : m.stands ≡ changed same_key l.stands k h
  pub machine_as : m.machine ≡ l.machine
  -- no other key stands in the frame
  pub only : (q : Key) (g : Frame) → l.stands q ≡ held.Frame g → g.0 ≡ f → q ≡ k

module _ (l m : FrameLife) (ram : FrameBytes) (slots blocks : BlockBytes) (kept : BytesLocated l ram slots blocks) (f : ℕ) (r : Record) (k : Key) (h : Held) (a : Moves l m f r k h)
    (clean : is_some r.owner ≡ true → r.changed ≡ false → is_read r.request ≡ false → frame_page ram f ≡ bytes_at ram slots blocks (home_at r.backing)) where
  bytes_moved : (q : Key) → contents_of m ram slots blocks q ≡ changed same_key (contents_of l ram slots blocks) k (bytes_at ram slots blocks (located m h)) q
  bytes_moved q =
      ap (λ (s : Key → Held). bytes_at ram slots blocks (located m (s q))) a.stands_as
      ∙ one_moves l m ram ram slots blocks f a.others (λ g n. refl) k h a.only q

  located_moved : (live : (q : Key) → is_some (changed same_key (contents_of l ram slots blocks) k (bytes_at ram slots blocks (located m h)) q) ≡ not (is_dead (changed same_key l.stands k h q))) → BytesLocated m ram slots blocks
  located_moved live = record {
    clean = clean_by l m ram ram slots blocks f a.others (λ g n. refl) kept (λ o c n.
        clean (sym (ap (λ (x : Record). is_some x.owner) a.here) ∙ o) (sym (ap (λ (x : Record). x.changed) a.here) ∙ c) (sym (ap (λ (x : Record). is_read x.request) a.here) ∙ n)
        ∙ sym (ap (λ (x : Record). bytes_at ram slots blocks (home_at x.backing)) a.here));
    zeroed = λ g on. kept.zeroed g (a.zeroed_was g on);
    live = λ q. ap is_some (bytes_moved q) ∙ live q ∙ sym (ap (λ (s : Key → Held). not (is_dead (s q))) a.stands_as);
    frame_room = kept.frame_room ∙ sym (ap (λ (x : MachineOf). x.frames) a.machine_as);
    room = kept.room ∙ sym (ap (λ (x : MachineOf). x.slots) a.machine_as);
    file_room = kept.file_room ∙ sym (ap (λ (x : MachineOf). x.blocks) a.machine_as);
  }

  -- the key has these bytes from now on, or none where it is dead
  pub carries_change : (v : Option (List ℕ)) → bytes_at ram slots blocks (located m h) ≡ v → is_some v ≡ not (is_dead h) → Carries m ram slots blocks (changed same_key (contents_of l ram slots blocks) k v)
  carries_change v is lives = record {
    located = located_moved (λ q. by q (same_key q k));
    bytes = λ i. λ q. (bytes_moved q ∙ ap (λ (x : Option (List ℕ)). changed same_key (contents_of l ram slots blocks) k x q) is) i;
  }
    where
      by : (q : Key) (b : Bool) → is_some (if b then bytes_at ram slots blocks (located m h) else contents_of l ram slots blocks q) ≡ not (is_dead (if b then h else l.stands q))
      by q true = ap is_some is ∙ lives
      by q false = kept.live q

  -- the key has the bytes that it had
  pub carries_same : bytes_at ram slots blocks (located m h) ≡ contents_of l ram slots blocks k → is_dead (l.stands k) ≡ is_dead h → Carries m ram slots blocks (contents_of l ram slots blocks)
  carries_same is lives = record {
    located = located_moved (λ q. ap is_some (same_contents (contents_of l ram slots blocks) k _ is q) ∙ kept.live q ∙ sym (ap not (same_live l k h q lives)));
    bytes = λ i. λ q. (bytes_moved q ∙ same_contents (contents_of l ram slots blocks) k _ is q) i;
  }

-- ---- homes

located_home : (m : FrameLife) (b : Backing) → located m (home_at b) ≡ home_at b
located_home m backing.None = refl
located_home m _ = refl

stored_home : (l : FrameLife) (h : Held) → is_stored h ≡ true → home_at (backing_of h) ≡ located l h
stored_home l (held.Slot s) e = refl
stored_home l _ e = cc

module _ (l : FrameLife) (reached : ∥ ReachedByMoves l ∥₁) (ram : FrameBytes) (slots blocks : BlockBytes) (kept : BytesLocated l ram slots blocks) where
  facts : Facts l
  facts = facts_of l reached

  -- a frame that nobody owns is no key's
  nobody : (f : ℕ) (k : Key) → (record_at l.frames f).owner ≡ None → (q : Key) (g : Frame) → l.stands q ≡ held.Frame g → g.0 ≡ f → q ≡ k
  nobody f k none q g at e = let bad : Some q ≡ None = sym (facts.owner q g at) ∙ ap (λ (x : ℕ). (record_at l.frames x).owner) e ∙ none in cc

  one_owner : (f : ℕ) (k : Key) → (record_at l.frames f).owner ≡ Some k → (q : Key) (g : Frame) → l.stands q ≡ held.Frame g → g.0 ≡ f → q ≡ k
  one_owner f k owner q g at e = let both : Some q ≡ Some k = sym (facts.owner q g at) ∙ ap (λ (x : ℕ). (record_at l.frames x).owner) e ∙ owner in cc

  -- a move that changes one frame
  moved_by : (m : FrameLife) (q : List ℕ) (f : ℕ) (r : Record) (k : Key) (h : Held) → ((g : ℕ) → g ≢ f → sight m.frames q g ≡ sight l.frames l.flight g) → record_at m.frames f ≡ r → ((g : ℕ) → is_on g m.frames.zeroed ≡ true → is_on g l.frames.zeroed ≡ true)
      → m.stands ≡ changed same_key l.stands k h → m.machine ≡ l.machine → ((x : Key) (g : Frame) → l.stands x ≡ held.Frame g → g.0 ≡ f → x ≡ k) → Moves l m f r k h
  moved_by m q f r k h elsewhere here zeroed stands machine only = assumption (λ (g : ℕ) (n : g ≢ f). ap (λ (s : Sight). s.what) (elsewhere g n))

  moved_set : (m : FrameLife) (f : ℕ) (r : Record) (k : Key) (h : Held) → m.frames.records ≡ slice_set l.frames.records f r → f < length l.frames.records → ((g : ℕ) → is_on g m.frames.zeroed ≡ true → is_on g l.frames.zeroed ≡ true)
      → m.stands ≡ changed same_key l.stands k h → m.machine ≡ l.machine → ((x : Key) (g : Frame) → l.stands x ≡ held.Frame g → g.0 ≡ f → x ≡ k) → Moves l m f r k h
  moved_set m f r k h records low zeroed stands machine only = assumption (others_set l.frames m.frames f r records, here_set l.frames m.frames f r records low)

  -- ---- give

  pub carries_give : (f : Frame) (k : Key) → IsLegal (move.Give f k) l → Carries (after_move l (move.Give f k)) ram slots blocks (contents_of l ram slots blocks)
  carries_give f k legal =
      let parts = three_parts _ _ _ legal in
      let on = first_on f.0 l.frames.zeroed parts.0 in
      let bare = facts.zeroed f.0 on in
      let c = changes_give l.frames l.flight f.0 facts.standing k parts.0 in
      let m = after_move l (move.Give f k) in
      let at = zero_is (l.stands k) parts.1 in
      carries_same l m ram slots blocks kept f.0 (given k) k (held.Frame f)
      (moved_by m _ f.0 (given k) k (held.Frame f) c.elsewhere c.here (λ g h. rest_on g l.frames.zeroed h) refl refl (nobody f.0 k (ap (λ (x : Record). x.owner) bare)))
      (λ o d n. cc)
      (calm_in ram slots blocks f (record_at m.frames f.0) (ap (λ (x : Record). is_read x.request) c.here) ∙ kept.zeroed f.0 on ∙ sym (ap (λ (h : Held). bytes_at ram slots blocks (located l h)) at))
      (ap is_dead at)

  -- ---- read

  taken_zeroed : (d : FrameTable) (g : ℕ) → is_on g (taken_for_read d).zeroed ≡ true → is_on g d.zeroed ≡ true
  taken_zeroed d g = by (is_empty d.free)
    where
      by : (b : Bool) → is_on g (if b then record d { zeroed = rest d.zeroed } else record d { free = rest d.free }).zeroed ≡ true → is_on g d.zeroed ≡ true
      by true h = rest_on g d.zeroed h
      by false h = h

  pub carries_read : (f : Frame) (k : Key) → IsLegal (move.Read f k) l → Carries (after_move l (move.Read f k)) ram slots blocks (contents_of l ram slots blocks)
  carries_read f k legal =
      let parts = three_parts _ _ _ legal in
      let home = backing_of (l.stands k) in
      let fresh = fresh_read l.frames l.flight f.0 facts.standing parts.0 in
      let c = changes_read l.frames l.flight f.0 facts.standing k home (stored_backed (l.stands k) parts.1) parts.0 in
      let m = after_move l (move.Read f k) in
      carries_same l m ram slots blocks kept f.0 (being_read k home) k (held.Frame f)
      (moved_by m _ f.0 (being_read k home) k (held.Frame f) c.elsewhere c.here (taken_zeroed l.frames) refl refl (nobody f.0 k (ap (λ (x : Record). x.owner) fresh.bare)))
      (λ o d n. cc)
      (ap (λ (x : Record). bytes_at ram slots blocks (held_in f x)) c.here ∙ ap (bytes_at ram slots blocks) (stored_home l (l.stands k) parts.1))
      (stored_lives (l.stands k) parts.1)

  -- ---- steal

  pub carries_steal : (f : Frame) → IsLegal (move.Steal f) l → Carries (after_move l (move.Steal f)) ram slots blocks (contents_of l ram slots blocks)
  carries_steal f legal =
      let r = record_at l.frames f.0 in
      let head = (four_parts _ _ _ _ legal).0 in
      let is = facts.standby f.0 (first_on f.0 l.frames.standby head) in
      let owner = some_owner r is.owned in
      let k = owner.0 in
      let c = changes_steal l.frames l.flight f.0 facts.standing head in
      let m = after_move l (move.Steal f) in
      let at = facts.owned f.0 k owner.1 in
      let calm = calm r.request is.quiet in
      carries_same l m ram slots blocks kept f.0 blank k (home_at r.backing)
      (moved_by m _ f.0 blank k (home_at r.backing) c.elsewhere c.here (λ g h. h) (ap (λ (o : Option Key). homed l o r.backing) owner.1) refl (one_owner f.0 k owner.1))
      (λ o d n. cc)
      (ap (bytes_at ram slots blocks) (located_home m r.backing) ∙ sym (kept.clean f.0 is.owned is.unchanged calm)
      ∙ sym (ap (λ (h : Held). bytes_at ram slots blocks (located l h)) at ∙ calm_in ram slots blocks f r calm))
      (ap is_dead at ∙ sym (home_lives r.backing))

  -- ---- bad

  pub carries_bad : (f : Frame) → IsLegal (move.Bad f) l → Carries (after_move l (move.Bad f)) ram slots blocks (contents_of l ram slots blocks)
  carries_bad f legal = by (record_at l.frames f.0).owner refl
    where
      r : Record
      r = record_at l.frames f.0

      reading : is_read (record_at l.frames f.0).request ≡ true
      reading = (and_parts (is_read (record_at l.frames f.0).request) (is_io l.kind || is_access l.kind) legal).0

      low : f.0 < length l.frames.records
      low = asked_low l.frames f.0 (read_has (record_at l.frames f.0).request reading)

      by : (o : Option Key) → (record_at l.frames f.0).owner ≡ o → Carries (after_move l (move.Bad f)) ram slots blocks (contents_of l ram slots blocks)
      by None none =
          carries_kept l (after_move l (move.Bad f)) ram ram slots blocks kept f.0 blank
          (alone_set l (after_move l (move.Bad f)) f.0 blank refl low refl (ap (λ (o : Option Key). homed l o (record_at l.frames f.0).backing) none) refl)
          (λ g n. refl) refl
          (λ q g at e. let bad : Some q ≡ None = sym (facts.owner q g at) ∙ ap (λ (x : ℕ). (record_at l.frames x).owner) e ∙ none in cc)
          (λ g on. refl) (λ o c n. cc)
      by (Some k) owner =
          let home = (record_at l.frames f.0).backing in
          let m = after_move l (move.Bad f) in
          let at = facts.owned f.0 k owner in
          carries_same l m ram slots blocks kept f.0 blank k (home_at home)
          (moved_set m f.0 blank k (home_at home) refl low (λ g h. h) (ap (λ (o : Option Key). homed l o home) owner) refl (one_owner f.0 k owner))
          (λ o d n. cc)
          (ap (bytes_at ram slots blocks) (located_home m home) ∙ sym (ap (λ (h : Held). bytes_at ram slots blocks (located l h)) at ∙ read_in ram slots blocks f (record_at l.frames f.0) reading))
          (ap is_dead at ∙ sym (home_lives home))

  -- ---- keys that come and go

  -- no frame changes
  unframed : (m : FrameLife) (k : Key) (h : Held) → m.frames ≡ l.frames → m.stands ≡ changed same_key l.stands k h → m.machine ≡ l.machine → Moves l m l.machine.frames (record_at l.frames l.machine.frames) k h
  unframed m k h frames stands machine = record {
    others = λ g n. ap (λ (d : FrameTable). record_at d g) frames;
    here = ap (λ (d : FrameTable). record_at d l.machine.frames) frames;
    zeroed_was = λ g on. sym (ap (λ (d : FrameTable). is_on g d.zeroed) frames) ∙ on;
    stands_as = stands;
    machine_as = machine;
    only = λ q g at e. let low = facts.there q g at in absurd (omega (arith, low, e));
  }

  comes : (m : FrameLife) (k : Key) (h : Held) (v : Option (List ℕ)) → m.frames ≡ l.frames → m.stands ≡ changed same_key l.stands k h → m.machine ≡ l.machine
      → bytes_at ram slots blocks (located m h) ≡ v → is_some v ≡ not (is_dead h) → Carries m ram slots blocks (changed same_key (contents_of l ram slots blocks) k v)
  comes m k h v frames stands machine is lives =
      carries_change l m ram slots blocks kept l.machine.frames (record_at l.frames l.machine.frames) k h (unframed m k h frames stands machine) (λ o c n. kept.clean l.machine.frames o c n) v is lives

  pub carries_add_zero : (k : Key) → IsLegal (move.Add k None) l → Carries (after_move l (move.Add k None)) ram slots blocks (changed same_key (contents_of l ram slots blocks) k (Some zero_page))
  carries_add_zero k legal = comes (after_move l (move.Add k None)) k held.Zero (Some zero_page) refl refl refl refl refl

  pub carries_add_block : (k : Key) (b : Block) → IsLegal (move.Add k (Some b)) l → Carries (after_move l (move.Add k (Some b))) ram slots blocks (changed same_key (contents_of l ram slots blocks) k (slice_get blocks b.0))
  carries_add_block k b legal =
      let low = ltb-true b.0 l.machine.blocks (and_parts _ _ (and_parts _ _ legal).0).1 in
      comes (after_move l (move.Add k (Some b))) k (held.Block b) (slice_get blocks b.0) refl refl refl refl (is_there blocks b.0 (omega (arith, low, kept.file_room)))

  gone : (d : FrameTable) (f : ℕ) (b : Bool) → (if b then with_record d f (disowned (record_at d f)) else to_free (off_lists d f) f).records ≡ slice_set d.records f (if b then disowned (record_at d f) else blank)
  gone d f true = refl
  gone d f false = refl

  gone_zeroed : (d : FrameTable) (f : ℕ) (b : Bool) → (if b then with_record d f (disowned (record_at d f)) else to_free (off_lists d f) f).zeroed ≡ d.zeroed
  gone_zeroed d f true = refl
  gone_zeroed d f false = refl

  unowned : (r : Record) (b : Bool) → is_some (if b then disowned r else blank).owner ≡ false
  unowned r true = refl
  unowned r false = refl

  pub carries_drop : (k : Key) → IsLegal (move.Drop k) l → Carries (after_move l (move.Drop k)) ram slots blocks (changed same_key (contents_of l ram slots blocks) k None)
  carries_drop k legal = by (l.stands k) refl
    where
      by : (h : Held) → l.stands k ≡ h → Carries (dropped_at h l k) ram slots blocks (changed same_key (contents_of l ram slots blocks) k None)
      by (held.Frame f) at =
          let r = record_at l.frames f.0 in
          let b = has_request r.request in
          let new = if b then disowned r else blank in
          let m = dropped_at (held.Frame f) l k in
          let owner = facts.owner k f at in
          let low = owned_low l.frames f.0 (ap is_some owner) in
          carries_change l m ram slots blocks kept f.0 new k held.Dead
          (moved_set m f.0 new k held.Dead (gone l.frames f.0 b) low (λ g h. sym (ap (is_on g) (gone_zeroed l.frames f.0 b)) ∙ h) refl refl (one_owner f.0 k owner))
          (λ o d n. let bad : false ≡ true = sym (unowned r b) ∙ o in cc) None refl refl
      by h at = comes (dropped_at h l k) k held.Dead None refl refl refl refl refl

-- ---- the bytes of one frame change: clear, got, and a page that is written at hand

pub page_here : (ram : FrameBytes) (f : ℕ) (page : List ℕ) → f < length ram → frame_page (with_page ram f page) f ≡ Some page
page_here ram f page low = get_or-set_same ram f (Some page) None low

pub page_else : (ram : FrameBytes) (f : ℕ) (page : List ℕ) (g : ℕ) → g ≢ f → frame_page (with_page ram f page) g ≡ frame_page ram g
page_else ram f page g n = get_or-set_other ram f g (Some page) None n

pub calm_is : (q : Request) → is_calm q ≡ true → is_read q ≡ false
calm_is request.Read e = cc
calm_is _ e = cc

module _ (l : FrameLife) (reached : ∥ ReachedByMoves l ∥₁) (ram : FrameBytes) (slots blocks : BlockBytes) (kept : BytesLocated l ram slots blocks) where
  known : Facts l
  known = facts_of l reached

  -- ---- clear

  pub carries_clear : (f : Frame) → IsLegal (move.Clear f) l → Carries (after_move l (move.Clear f)) (with_page ram f.0 zero_page) slots blocks (contents_of l ram slots blocks)
  carries_clear f legal = record {
    located = record {
      clean = clean_by l m ram ram' slots blocks f.0 (λ g n. refl) (page_else ram f.0 zero_page) kept (λ o c n. let bad : false ≡ true = sym (ap (λ (x : Record). is_some x.owner) bare) ∙ o in cc);
      zeroed = λ g on. elim (push_on g f.0 l.frames.zeroed on) [ inl e ↦ ap (frame_page ram') e ∙ here | inr was ↦ at g was (same_or_not g f.0) ];
      live = λ k. ap is_some (bytes k) ∙ kept.live k;
      frame_room = length-set ram f.0 (Some zero_page) ∙ kept.frame_room;
      room = kept.room;
      file_room = kept.file_room;
    };
    bytes = λ i. λ k. bytes k i;
  }
    where
      ram' : FrameBytes
      ram' = with_page ram f.0 zero_page

      m : FrameLife
      m = after_move l (move.Clear f)

      first : is_first f.0 l.frames.free ≡ true
      first = (and_parts (is_first f.0 l.frames.free) (is_zeroer l.kind || (is_touch l.kind && is_empty l.frames.zeroed)) legal).0

      bare : record_at l.frames f.0 ≡ blank
      bare = known.free f.0 (first_on f.0 l.frames.free first)

      here : frame_page (with_page ram f.0 zero_page) f.0 ≡ Some zero_page
      here =
          let low = (fresh_read l.frames l.flight f.0 known.standing (or_left (is_first f.0 l.frames.free) (is_empty l.frames.free && is_first f.0 l.frames.zeroed) first)).low in
          page_here ram f.0 zero_page (omega (arith, low, known.framed, kept.frame_room))

      at : (g : ℕ) → is_on g l.frames.zeroed ≡ true → ((g ≡ f.0) ⊎ (g ≢ f.0)) → frame_page (with_page ram f.0 zero_page) g ≡ Some zero_page
      at g was (inl e) = ap (frame_page (with_page ram f.0 zero_page)) e ∙ here
      at g was (inr n) = page_else ram f.0 zero_page g n ∙ kept.zeroed g was

      bytes : (k : Key) → contents_of (after_move l (move.Clear f)) (with_page ram f.0 zero_page) slots blocks k ≡ contents_of l ram slots blocks k
      bytes k = elsewhere l (after_move l (move.Clear f)) ram (with_page ram f.0 zero_page) slots blocks f.0 (λ g n. refl) (page_else ram f.0 zero_page) (l.stands k) (λ g e same.
          let bad : Some k ≡ None = sym (known.owner k g e) ∙ ap (λ (x : ℕ). (record_at l.frames x).owner) same ∙ ap (λ (x : Record). x.owner) bare in cc)

  -- ---- got

  pub carries_got : (f : Frame) (page : List ℕ) → IsLegal (move.Got f) l → bytes_at ram slots blocks (home_at (record_at l.frames f.0).backing) ≡ Some page
      → Carries (after_move l (move.Got f)) (with_page ram f.0 page) slots blocks (contents_of l ram slots blocks)
  carries_got f page legal there =
      let r = record_at l.frames f.0 in
      let o = is_some r.owner in
      let new = if o then read_done r else blank in
      let reading = (and_parts (is_read r.request) (is_io l.kind || is_access l.kind) legal).0 in
      let low = asked_low l.frames f.0 (read_has r.request reading) in
      let here = page_here ram f.0 page (omega (arith, low, known.framed, kept.frame_room)) in
      carries_kept l (after_move l (move.Got f)) ram (with_page ram f.0 page) slots blocks kept f.0 new
      (alone_set l (after_move l (move.Got f)) f.0 new (records_ended o (read_done r) l.frames f.0) low (zeroed_ended o (read_done r) l.frames f.0) refl refl)
      (page_else ram f.0 page) (length-set ram f.0 (Some page))
      (λ q g at e. calm_in (with_page ram f.0 page) slots blocks g new (quiet r o) ∙ ap (frame_page (with_page ram f.0 page)) e ∙ here ∙ sym (read_in ram slots blocks g r reading ∙ there))
      (λ g on. page_else ram f.0 page g (λ e. let bad : true ≡ false = sym reading ∙ ap (λ (x : ℕ). is_read (record_at l.frames x).request) (sym e) ∙ ap (λ (x : Record). is_read x.request) (known.zeroed g on) in cc))
      (λ i c n. here ∙ sym (home_bytes ram (with_page ram f.0 page) slots blocks new.backing ∙ ap (λ (x : Backing). bytes_at ram slots blocks (home_at x)) (same r o i) ∙ there))
    where
      quiet : (r : Record) (b : Bool) → is_read (if b then read_done r else blank).request ≡ false
      quiet r true = refl
      quiet r false = refl

      same : (r : Record) (b : Bool) → is_some (if b then read_done r else blank).owner ≡ true → (if b then read_done r else blank).backing ≡ r.backing
      same r true i = refl
      same r false i = cc

  -- ---- a page at hand is written

  pub carries_written : (f : Frame) (k : Key) (page : List ℕ) → (record_at l.frames f.0).owner ≡ Some k → IsSoiled (record_at l.frames f.0)
      → Carries l (with_page ram f.0 page) slots blocks (changed same_key (contents_of l ram slots blocks) k (Some page))
  carries_written f k page owner soiled = record {
    located = record {
      clean = clean_by l l ram ram' slots blocks f.0 (λ g n. refl) (page_else ram f.0 page) kept (λ o c n. let bad : true ≡ false = sym soiled.changed ∙ c in cc);
      zeroed = λ g on. page_else ram f.0 page g (λ e.
          let bad : Some k ≡ None = sym owner ∙ ap (λ (x : ℕ). (record_at l.frames x).owner) (sym e) ∙ ap (λ (x : Record). x.owner) (known.zeroed g on) in cc) ∙ kept.zeroed g on;
      live = λ q. ap is_some (bytes q) ∙ lives q (key_or_not q k);
      frame_room = length-set ram f.0 (Some page) ∙ kept.frame_room;
      room = kept.room;
      file_room = kept.file_room;
    };
    bytes = λ i. λ q. bytes q i;
  }
    where
      ram' : FrameBytes
      ram' = with_page ram f.0 page

      at : l.stands k ≡ held.Frame f
      at = known.owned f.0 k owner

      here : frame_page (with_page ram f.0 page) f.0 ≡ Some page
      here = let low = owned_low l.frames f.0 (ap is_some owner) in let a = known.framed in let b = kept.frame_room in page_here ram f.0 page (omega (arith, low, a, b))

      by : (q : Key) → ((q ≡ k) × (same_key q k ≡ true)) ⊎ ((q ≢ k) × (same_key q k ≡ false)) → contents_of l (with_page ram f.0 page) slots blocks q ≡ (if same_key q k then Some page else contents_of l ram slots blocks q)
      by q (inl s) =
          ap (λ (x : Key). bytes_at (with_page ram f.0 page) slots blocks (located l (l.stands x))) s.0 ∙ ap (λ (h : Held). bytes_at (with_page ram f.0 page) slots blocks (located l h)) at
          ∙ calm_in (with_page ram f.0 page) slots blocks f (record_at l.frames f.0) (calm_is (record_at l.frames f.0).request soiled.calm) ∙ here
          ∙ sym (ap (λ (b : Bool). if b then Some page else contents_of l ram slots blocks q) s.1)
      by q (inr t) =
          elsewhere l l ram (with_page ram f.0 page) slots blocks f.0 (λ g n. refl) (page_else ram f.0 page) (l.stands q) (λ g e same.
          let both : Some q ≡ Some k = sym (known.owner q g e) ∙ ap (λ (x : ℕ). (record_at l.frames x).owner) same ∙ owner in t.0 cc)
          ∙ sym (ap (λ (b : Bool). if b then Some page else contents_of l ram slots blocks q) t.1)

      bytes : (q : Key) → contents_of l (with_page ram f.0 page) slots blocks q ≡ changed same_key (contents_of l ram slots blocks) k (Some page) q
      bytes q = by q (key_or_not q k)

      lives : (q : Key) → ((q ≡ k) × (same_key q k ≡ true)) ⊎ ((q ≢ k) × (same_key q k ≡ false)) → is_some (if same_key q k then Some page else contents_of l ram slots blocks q) ≡ is_live l q
      lives q (inl s) = ap (λ (b : Bool). is_some (if b then Some page else contents_of l ram slots blocks q)) s.1 ∙ sym (ap (λ (x : Key). not (is_dead (l.stands x))) s.0 ∙ ap (λ (h : Held). not (is_dead h)) at)
      lives q (inr t) = ap (λ (b : Bool). is_some (if b then Some page else contents_of l ram slots blocks q)) t.1 ∙ kept.live q
