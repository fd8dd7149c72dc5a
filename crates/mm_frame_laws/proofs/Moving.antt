-- What stands on a list of frames.
use Rattle.std.proofs.Common.{◌≡◌, ◌⊎◌, ℕ, Bool, true, false, List, [], ◌∷◌, ◌++◌, refl, sym, inl, inr, ◌≢◌, ap, ◌∙◌, ◌<◌, length, get_or-set_same, get_or-set_other, ◌≤◌, Option, Some, None, arith}
use Rattle.std.specs.Prelude.{◌==◌, ◌||◌, is_some, if◌then◌else◌, not, slice_set, slice_index_or, option_map, unwrap_or}
use Rattle.std.proofs.lemmas.Bool.{eqb-true, or_right, or_left, and_parts, not-true, lt-ltb, ltb-true}
use Rattle.mm_move_rules.specs.{is_on, is_first, rest, record_at, is_read, FrameLife, changed, same_key, is_dead, home_at, FrameBytes, BlockBytes}
use Rattle.mm_move_rules.specs.{frame_page, bytes_at, held_in, located, contents_of, BytesLocated, FrameTable, blank, is_idle, with_record, settled}
use Rattle.mm_move_rules.specs.{settled_by, to_free, is_write, has_request, shared, unshared, soiled, being_written, write_lost, without_slot, IsLegal}
use Rattle.mm_move_rules.specs.{fits_place, is_access, is_call, is_io, may_unmap, after_move, after_unmap_at}
use Rattle.mm_types.proofs.{same_or_not, not_true}
use Rattle.mm_types.specs.{Frame, Key, Record, Backing, Held, MachineOf, Place, Request, Stored}
use Rattle.mm_move_laws.proofs.{key_or_not, write_has, kept_inside, owner_passes, facts_of, five_parts, four_parts, three_parts}
use Rattle.mm_frame_laws.specs.{Carries}
use Rattle.mm_move_rules.proofs.{records_settled, write_not_read, calm}
use Rattle.mm_move_laws.proofs.Facts.{Facts}
use Rattle.mm_move_laws.specs.{ReachedByMoves}
use Rattle.mm_types.specs.declared.frames.Backing.TheVariants as backing
use Rattle.mm_types.specs.declared.frames.Held.TheVariants as held
use Rattle.mm_types.specs.declared.frames.Request.TheVariants as request
use Rattle.mm_types.specs.declared.moves.Move.TheVariants as move
use Rattle.mm_types.specs.declared.moves.Stored.TheVariants as stored

pub first_on : (f : ℕ) (xs : List ℕ) → is_first f xs ≡ true → is_on f xs ≡ true
first_on f [] h = cc
first_on f (x ∷ xs) h = or_left (x == f) (is_on f xs) h

pub rest_on : (f : ℕ) (xs : List ℕ) → is_on f (rest xs) ≡ true → is_on f xs ≡ true
rest_on f [] h = h
rest_on f (x ∷ xs) h = or_right (x == f) (is_on f xs) h

pub push_on : (g f : ℕ) (xs : List ℕ) → is_on g (xs ++ f ∷ []) ≡ true → (g ≡ f) ⊎ (is_on g xs ≡ true)
push_on g f [] h = by (f == g) refl h
  where
    by : (b : Bool) → (f == g) ≡ b → (b || false) ≡ true → (g ≡ f) ⊎ (is_on g [] ≡ true)
    by true e h = inl (sym (eqb-true f g e))
    by false e h = cc
push_on g f (x ∷ xs) h = by (x == g) refl h (push_on g f xs)
  where
    by : (b : Bool) → (x == g) ≡ b → (b || is_on g (xs ++ f ∷ [])) ≡ true → (is_on g (xs ++ f ∷ []) ≡ true → (g ≡ f) ⊎ (is_on g xs ≡ true)) → (g ≡ f) ⊎ (is_on g (x ∷ xs) ≡ true)
    by true e h more = inr (or_left (x == g) (is_on g xs) e)
    by false e h more = elim (more h) [ inl same ↦ inl same | inr on ↦ inr (or_right (x == g) (is_on g xs) on) ]

-- ---- one frame changes, its record or its bytes, and at most one key's place: what that leaves of the bytes of keys

-- a home is on a device, or zero
pub home_bytes : (ram ram' : FrameBytes) (slots blocks : BlockBytes) (b : Backing) → bytes_at ram' slots blocks (home_at b) ≡ bytes_at ram slots blocks (home_at b)
home_bytes ram ram' slots blocks backing.None = refl
home_bytes ram ram' slots blocks _ = refl

in_frame : (ram ram' : FrameBytes) (slots blocks : BlockBytes) (b : Bool) (home : Backing) (g : Frame) → frame_page ram' g.0 ≡ frame_page ram g.0
    → bytes_at ram' slots blocks (if b then home_at home else held.Frame g) ≡ bytes_at ram slots blocks (if b then home_at home else held.Frame g)
in_frame ram ram' slots blocks true home g e = home_bytes ram ram' slots blocks home
in_frame ram ram' slots blocks false home g e = e

-- a frame that is not being read has its own bytes
pub calm_in : (ram : FrameBytes) (slots blocks : BlockBytes) (g : Frame) (r : Record) → is_read r.request ≡ false → bytes_at ram slots blocks (held_in g r) ≡ frame_page ram g.0
calm_in ram slots blocks g r calm = ap (λ b. bytes_at ram slots blocks (if b then home_at r.backing else held.Frame g)) calm

-- and one that is being read those of its backing
pub read_in : (ram : FrameBytes) (slots blocks : BlockBytes) (g : Frame) (r : Record) → is_read r.request ≡ true → bytes_at ram slots blocks (held_in g r) ≡ bytes_at ram slots blocks (home_at r.backing)
read_in ram slots blocks g r read = ap (λ b. bytes_at ram slots blocks (if b then home_at r.backing else held.Frame g)) read

module _ (l m : FrameLife) (ram ram' : FrameBytes) (slots blocks : BlockBytes) (f : ℕ)
    (others : (g : ℕ) → g ≢ f → record_at m.frames g ≡ record_at l.frames g) (pages : (g : ℕ) → g ≢ f → frame_page ram' g ≡ frame_page ram g) where
  -- what stands elsewhere has the bytes that it had
  pub elsewhere : (h : Held) → ((g : Frame) → h ≡ held.Frame g → g.0 ≢ f) → bytes_at ram' slots blocks (located m h) ≡ bytes_at ram slots blocks (located l h)
  elsewhere (held.Frame g) other =
      let n = other g refl in
      ap (λ r. bytes_at ram' slots blocks (held_in g r)) (others g.0 n) ∙ in_frame ram ram' slots blocks (is_read (record_at l.frames g.0).request) (record_at l.frames g.0).backing g (pages g.0 n)
  elsewhere _ other = cc

  -- no key's place changes, and what stands in the frame has the bytes that it had
  pub still : (h : Held) → ((g : Frame) → h ≡ held.Frame g → g.0 ≡ f → bytes_at ram' slots blocks (held_in g (record_at m.frames f)) ≡ bytes_at ram slots blocks (held_in g (record_at l.frames f)))
      → bytes_at ram' slots blocks (located m h) ≡ bytes_at ram slots blocks (located l h)
  still (held.Frame g) own = elim (same_or_not g.0 f) [
    | inl e ↦ ap (λ (x : ℕ). bytes_at ram' slots blocks (held_in g (record_at m.frames x))) e ∙ own g refl e ∙ sym (ap (λ (x : ℕ). bytes_at ram slots blocks (held_in g (record_at l.frames x))) e)
    | inr n ↦ elsewhere (held.Frame g) (λ x e y. let same : g ≡ x = cc in n (ap (λ (z : Frame). z.0) same ∙ y))
  ]
  still _ own = refl

  -- one key's place changes, and no other stands in the frame
  pub one_moves : (k : Key) (h : Held) → ((q : Key) (g : Frame) → l.stands q ≡ held.Frame g → g.0 ≡ f → q ≡ k)
      → (q : Key) → bytes_at ram' slots blocks (located m (changed same_key l.stands k h q)) ≡ changed same_key (contents_of l ram slots blocks) k (bytes_at ram' slots blocks (located m h)) q
  one_moves k h alone q = elim (key_or_not q k) as (λ _. bytes_at ram' slots blocks (located m (if same_key q k then h else l.stands q)) ≡ (if same_key q k then bytes_at ram' slots blocks (located m h) else contents_of l ram slots blocks q)) [
    | inl s ↦ ap (λ b. bytes_at ram' slots blocks (located m (if b then h else l.stands q))) s.1 ∙ sym (ap (λ (b : Bool). if b then bytes_at ram' slots blocks (located m h) else contents_of l ram slots blocks q) s.1)
    | inr t ↦ ap (λ b. bytes_at ram' slots blocks (located m (if b then h else l.stands q))) t.1
        ∙ elsewhere (l.stands q) (λ g at e. t.0 (alone q g at e))
        ∙ sym (ap (λ (b : Bool). if b then bytes_at ram' slots blocks (located m h) else contents_of l ram slots blocks q) t.1)
  ]

  -- the frames that are clean
  pub clean_by : BytesLocated l ram slots blocks
      → (is_some (record_at m.frames f).owner ≡ true → (record_at m.frames f).changed ≡ false → is_read (record_at m.frames f).request ≡ false → frame_page ram' f ≡ bytes_at ram' slots blocks (home_at (record_at m.frames f).backing))
      → (g : ℕ) → is_some (record_at m.frames g).owner ≡ true → (record_at m.frames g).changed ≡ false → is_read (record_at m.frames g).request ≡ false → frame_page ram' g ≡ bytes_at ram' slots blocks (home_at (record_at m.frames g).backing)
  clean_by kept here g o c n = elim (same_or_not g f) [
    | inl e ↦
        ap (frame_page ram') e
        ∙ here (ap (λ (x : ℕ). is_some (record_at m.frames x).owner) (sym e) ∙ o) (ap (λ (x : ℕ). (record_at m.frames x).changed) (sym e) ∙ c) (ap (λ (x : ℕ). is_read (record_at m.frames x).request) (sym e) ∙ n)
        ∙ sym (ap (λ (x : ℕ). bytes_at ram' slots blocks (home_at (record_at m.frames x).backing)) e)
    | inr x ↦
        let was = others g x in
        pages g x
        ∙ kept.clean g (sym (ap (λ (r : Record). is_some r.owner) was) ∙ o) (sym (ap (λ (r : Record). r.changed) was) ∙ c) (sym (ap (λ (r : Record). is_read r.request) was) ∙ n)
        ∙ sym (ap (λ (r : Record). bytes_at ram slots blocks (home_at r.backing)) was)
        ∙ sym (home_bytes ram ram' slots blocks (record_at m.frames g).backing)
  ]

-- a key that has what it had lives as it did
pub same_live : (l : FrameLife) (k : Key) (h : Held) → (q : Key) → is_dead (l.stands k) ≡ is_dead h → is_dead (changed same_key l.stands k h q) ≡ is_dead (l.stands q)
same_live l k h q e = elim (key_or_not q k) as (λ _. is_dead (if same_key q k then h else l.stands q) ≡ is_dead (l.stands q)) [
  | inl s ↦ ap (λ (b : Bool). is_dead (if b then h else l.stands q)) s.1 ∙ sym e ∙ sym (ap (λ (x : Key). is_dead (l.stands x)) s.0)
  | inr t ↦ ap (λ (b : Bool). is_dead (if b then h else l.stands q)) t.1
]

pub same_contents : {V : Type 0} (c : Key → V) (k : Key) (v : V) → v ≡ c k → (q : Key) → changed same_key c k v q ≡ c q
same_contents c k v e q = elim (key_or_not q k) as (λ _. (if same_key q k then v else c q) ≡ c q) [
  | inl s ↦ ap (λ b. if b then v else c q) s.1 ∙ e ∙ sym (ap c s.0)
  | inr t ↦ ap (λ b. if b then v else c q) t.1
]

-- ---- one frame has another record, and no key another place

-- ---- tables

pub others_set : (d d' : FrameTable) (f : ℕ) (r : Record) → d'.records ≡ slice_set d.records f r → (g : ℕ) → g ≢ f → record_at d' g ≡ record_at d g
others_set d d' f r e g n = ap (λ (xs : List Record). slice_index_or xs g blank) e ∙ get_or-set_other d.records f g r blank n

pub here_set : (d d' : FrameTable) (f : ℕ) (r : Record) → d'.records ≡ slice_set d.records f r → f < length d.records → record_at d' f ≡ r
here_set d d' f r e low = ap (λ (xs : List Record). slice_index_or xs f blank) e ∙ get_or-set_same d.records f r blank low

zeroed_settled : (r : Record) (d : FrameTable) (f : ℕ) → (settled_by r d f).zeroed ≡ d.zeroed
zeroed_settled r d f = by (is_idle r) r.changed
  where
    by : (i c : Bool) → (if i then (if c then record d { modified = d.modified ++ f ∷ [] } else record d { standby = d.standby ++ f ∷ [] }) else d).zeroed ≡ d.zeroed
    by true true = refl
    by _ _ = cc

-- a request ends: the frame settles, or is free
pub records_ended : (b : Bool) (r : Record) (d : FrameTable) (f : ℕ) → (if b then settled (with_record d f r) f else to_free d f).records ≡ slice_set d.records f (if b then r else blank)
records_ended true r d f = records_settled (record_at (with_record d f r) f) (with_record d f r) f
records_ended false r d f = refl

pub zeroed_ended : (b : Bool) (r : Record) (d : FrameTable) (f : ℕ) → (if b then settled (with_record d f r) f else to_free d f).zeroed ≡ d.zeroed
zeroed_ended true r d f = zeroed_settled (record_at (with_record d f r) f) (with_record d f r) f
zeroed_ended false r d f = refl

-- ---- bytes

-- one frame has this record now, and nothing else that bytes are about has changed
pub record Alone (l m : FrameLife) (f : ℕ) (r : Record) : Type 0 where
  pub others : (g : ℕ) → g ≢ f → record_at m.frames g ≡ record_at l.frames g
  pub here : record_at m.frames f ≡ r
  pub zeroed_as : m.frames.zeroed ≡ l.frames.zeroed
  pub stands_as : m.stands ≡ l.stands
  pub machine_as : m.machine ≡ l.machine

pub alone_set : (l m : FrameLife) (f : ℕ) (r : Record) → m.frames.records ≡ slice_set l.frames.records f r → f < length l.frames.records → m.frames.zeroed ≡ l.frames.zeroed → m.stands ≡ l.stands → m.machine ≡ l.machine → Alone l m f r
alone_set l m f r e low zeroed stands machine = record {
  others = others_set l.frames m.frames f r e;
  here = here_set l.frames m.frames f r e low;
  zeroed_as = zeroed;
  stands_as = stands;
  machine_as = machine;
}

-- the keys that stand in the frame have the bytes that they had
module _ (l m : FrameLife) (ram ram' : FrameBytes) (slots blocks : BlockBytes) (kept : BytesLocated l ram slots blocks) (f : ℕ) (r : Record) (a : Alone l m f r)
    (pages : (g : ℕ) → g ≢ f → frame_page ram' g ≡ frame_page ram g) (size : length ram' ≡ length ram)
    (own : (q : Key) (g : Frame) → l.stands q ≡ held.Frame g → g.0 ≡ f → bytes_at ram' slots blocks (held_in g r) ≡ bytes_at ram slots blocks (held_in g (record_at l.frames f)))
    (fresh : (g : ℕ) → is_on g l.frames.zeroed ≡ true → frame_page ram' g ≡ frame_page ram g)
    (clean : is_some r.owner ≡ true → r.changed ≡ false → is_read r.request ≡ false → frame_page ram' f ≡ bytes_at ram' slots blocks (home_at r.backing)) where
  bytes_kept : (q : Key) → contents_of m ram' slots blocks q ≡ contents_of l ram slots blocks q
  bytes_kept q =
      ap (λ (s : Key → Held). bytes_at ram' slots blocks (located m (s q))) a.stands_as
      ∙ still l m ram ram' slots blocks f a.others pages (l.stands q) (λ g at e. ap (λ (x : Record). bytes_at ram' slots blocks (held_in g x)) a.here ∙ own q g at e)

  pub carries_kept : Carries m ram' slots blocks (contents_of l ram slots blocks)
  carries_kept = record {
    located = record {
      clean = clean_by l m ram ram' slots blocks f a.others pages kept (λ o c n.
          clean (sym (ap (λ (x : Record). is_some x.owner) a.here) ∙ o) (sym (ap (λ (x : Record). x.changed) a.here) ∙ c) (sym (ap (λ (x : Record). is_read x.request) a.here) ∙ n)
          ∙ sym (ap (λ (x : Record). bytes_at ram' slots blocks (home_at x.backing)) a.here));
      zeroed = λ g on. let was = sym (ap (is_on g) a.zeroed_as) ∙ on in fresh g was ∙ kept.zeroed g was;
      live = λ k. ap is_some (bytes_kept k) ∙ kept.live k ∙ sym (ap (λ (s : Key → Held). not (is_dead (s k))) a.stands_as);
      frame_room = size ∙ kept.frame_room ∙ sym (ap (λ (x : MachineOf). x.frames) a.machine_as);
      room = kept.room ∙ sym (ap (λ (x : MachineOf). x.slots) a.machine_as);
      file_room = kept.file_room ∙ sym (ap (λ (x : MachineOf). x.blocks) a.machine_as);
    };
    bytes = λ i. λ k. bytes_kept k i;
  }

-- no bytes change, and the frame is not being read
pub carries_alone : (l m : FrameLife) (ram : FrameBytes) (slots blocks : BlockBytes) → BytesLocated l ram slots blocks → (f : ℕ) (r : Record) → Alone l m f r
    → is_read (record_at l.frames f).request ≡ false → is_read r.request ≡ false
    → (is_some r.owner ≡ true → r.changed ≡ false → frame_page ram f ≡ bytes_at ram slots blocks (home_at r.backing)) → Carries m ram slots blocks (contents_of l ram slots blocks)
carries_alone l m ram slots blocks kept f r a was now clean =
    carries_kept l m ram ram slots blocks kept f r a (λ g n. refl) refl
    (λ q g at e. calm_in ram slots blocks g r now ∙ sym (calm_in ram slots blocks g (record_at l.frames f) was))
    (λ g on. refl) (λ o c n. clean o c)

-- ---- the moves that change the record of a frame, and no key's place: map, unmap, soil, write, lost

pub owned_low : (d : FrameTable) (f : ℕ) → is_some (record_at d f).owner ≡ true → f < length d.records
owned_low d f o = kept_inside d f (or_left (is_some (record_at d f).owner) (has_request (record_at d f).request) o)

pub asked_low : (d : FrameTable) (f : ℕ) → has_request (record_at d f).request ≡ true → f < length d.records
asked_low d f h = kept_inside d f (or_right (is_some (record_at d f).owner) (has_request (record_at d f).request) h)

-- a page that is valid somewhere is not being read
pub shown_calm : (l : FrameLife) → Facts l → (f : ℕ) → 1 ≤ (record_at l.frames f).shares → is_read (record_at l.frames f).request ≡ false
shown_calm l facts f some = not_true (is_read (record_at l.frames f).request) (λ e. omega (arith, some, ((facts.standing f).fit.reading e).0))

module _ (l : FrameLife) (reached : ∥ ReachedByMoves l ∥₁) (ram : FrameBytes) (slots blocks : BlockBytes) (kept : BytesLocated l ram slots blocks) where
  facts : Facts l
  facts = facts_of l reached

  -- ---- map

  pub carries_map : (f : Frame) (p : Place) → IsLegal (move.Map f p) l → Carries (after_move l (move.Map f p)) ram slots blocks (contents_of l ram slots blocks)
  carries_map f p legal =
      let r = record_at l.frames f.0 in
      let front = five_parts _ _ _ _ _ legal in
      let calm : is_read r.request ≡ false = not-true (is_read r.request) front.1 in
      let low = owned_low l.frames f.0 (ap is_some (owner_passes (fits_place p) r front.0).is) in
      carries_alone l (after_move l (move.Map f p)) ram slots blocks kept f.0 (shared r)
      (alone_set l (after_move l (move.Map f p)) f.0 (shared r) refl low refl refl refl)
      calm calm (λ o c. kept.clean f.0 o c calm)

  -- ---- unmap

  pub carries_unmap : (p : Place) → IsLegal (move.Unmap p) l → Carries (after_move l (move.Unmap p)) ram slots blocks (contents_of l ram slots blocks)
  carries_unmap p legal = by (l.valid p) refl legal
    where
      by : (o : Option Frame) → l.valid p ≡ o → unwrap_or (option_map (λ f. may_unmap l p (record_at l.frames f.0)) o) false ≡ true → Carries (after_unmap_at o l p) ram slots blocks (contents_of l ram slots blocks)
      by None e h = cc
      by (Some f) e h =
          let r = record_at l.frames f.0 in
          let some = facts.shares p f e in
          let calm = shown_calm l facts f.0 some in
          let low = owned_low l.frames f.0 ((facts.standing f.0).fit.shown (lt-ltb 0 r.shares (omega (arith, some)))) in
          let is = records_ended true (unshared r) l.frames f.0 in
          carries_alone l (after_unmap_at (Some f) l p) ram slots blocks kept f.0 (unshared r)
          (alone_set l (after_unmap_at (Some f) l p) f.0 (unshared r) is low (zeroed_ended true (unshared r) l.frames f.0) refl refl)
          calm calm (λ o c. kept.clean f.0 o c calm)

  -- ---- soil

  asked_calm : (q : Request) → has_request q ≡ true → is_read q ≡ false → is_write q ≡ true
  asked_calm request.Write h c = refl
  asked_calm _ h c = cc

  pub carries_soil : (f : Frame) → IsLegal (move.Soil f) l → Carries (after_move l (move.Soil f)) ram slots blocks (contents_of l ram slots blocks)
  carries_soil f legal =
      let r = record_at l.frames f.0 in
      let some = ltb-true 0 r.shares (three_parts _ _ _ legal).0 in
      let calm = shown_calm l facts f.0 (omega (arith, some)) in
      let low = owned_low l.frames f.0 ((facts.standing f.0).fit.shown (lt-ltb 0 r.shares some)) in
      carries_alone l (after_move l (move.Soil f)) ram slots blocks kept f.0 (soiled r)
      (alone_set l (after_move l (move.Soil f)) f.0 (soiled r) refl low refl refl refl)
      calm (quiet r calm (has_request r.request) refl) (λ o c. let bad : true ≡ false = sym (dirty f (has_request r.request) refl calm) ∙ c in cc)
    where
      quiet : (r : Record) → is_read r.request ≡ false → (b : Bool) → has_request r.request ≡ b
          → is_read (if b then record r { request = request.WriteAgain } else record r { changed = true; backing = without_slot r.backing }).request ≡ false
      quiet r calm true e = refl
      quiet r calm false e = calm

      dirty : (f : Frame) (b : Bool) → has_request (record_at l.frames f.0).request ≡ b → is_read (record_at l.frames f.0).request ≡ false
          → (if b then record (record_at l.frames f.0) { request = request.WriteAgain } else record (record_at l.frames f.0) { changed = true; backing = without_slot (record_at l.frames f.0).backing }).changed ≡ true
      dirty f true e calm = ((facts.standing f.0).fit.writing (asked_calm (record_at l.frames f.0).request e calm)).0
      dirty f false e calm = refl

  -- ---- write

  begun : (f : Frame) (home : Backing) (m : FrameLife) → is_some (record_at l.frames f.0).owner ≡ true → (record_at l.frames f.0).changed ≡ true → has_request (record_at l.frames f.0).request ≡ false
      → Alone l m f.0 (being_written home (record_at l.frames f.0)) → Carries m ram slots blocks (contents_of l ram slots blocks)
  begun f home m owned dirty idle a =
      carries_alone l m ram slots blocks kept f.0 (being_written home (record_at l.frames f.0)) a (calm (record_at l.frames f.0).request idle) refl (λ o c. let bad : true ≡ false = sym dirty ∙ c in cc)

  pub carries_write : (f : Frame) (s : Stored) → IsLegal (move.Write f s) l → Carries (after_move l (move.Write f s)) ram slots blocks (contents_of l ram slots blocks)
  carries_write f (stored.Slot s) legal =
      let is = facts.modified f.0 (four_parts _ _ _ _ legal).0 in
      let new = being_written (backing.Slot s) (record_at l.frames f.0) in
      begun f (backing.Slot s) (after_move l (move.Write f (stored.Slot s))) is.owned is.changed is.quiet
      (alone_set l (after_move l (move.Write f (stored.Slot s))) f.0 new refl (owned_low l.frames f.0 is.owned) refl refl refl)
  carries_write f (stored.Block b) legal =
      let r = record_at l.frames f.0 in
      let parts = five_parts _ _ _ _ _ legal in
      let new = being_written (backing.Block b) r in
      begun f (backing.Block b) (after_move l (move.Write f (stored.Block b))) parts.1 parts.0 (not-true (has_request r.request) parts.2)
      (alone_set l (after_move l (move.Write f (stored.Block b))) f.0 new refl (owned_low l.frames f.0 parts.1) refl refl refl)

  -- ---- lost

  pub carries_lost : (f : Frame) → IsLegal (move.Lost f) l → Carries (after_move l (move.Lost f)) ram slots blocks (contents_of l ram slots blocks)
  carries_lost f legal =
      let r = record_at l.frames f.0 in
      let writing = (and_parts (is_write r.request) (is_io l.kind || is_access l.kind || is_call l.kind) legal).0 in
      let new = if is_some r.owner then write_lost r else blank in
      let low = asked_low l.frames f.0 (write_has r.request writing) in
      let is = records_ended (is_some r.owner) (write_lost r) l.frames f.0 in
      carries_alone l (after_move l (move.Lost f)) ram slots blocks kept f.0 new
      (alone_set l (after_move l (move.Lost f)) f.0 new is low (zeroed_ended (is_some r.owner) (write_lost r) l.frames f.0) refl refl)
      (write_not_read r.request writing) (quiet r (is_some r.owner)) (λ o c. let bad : true ≡ false = sym (dirty r ((facts.standing f.0).fit.writing writing).0 (is_some r.owner) o) ∙ c in cc)
    where
      quiet : (r : Record) (b : Bool) → is_read (if b then write_lost r else blank).request ≡ false
      quiet r true = refl
      quiet r false = refl

      dirty : (r : Record) → r.changed ≡ true → (b : Bool) → is_some (if b then write_lost r else blank).owner ≡ true → (if b then write_lost r else blank).changed ≡ true
      dirty r was true o = was
      dirty r was false o = cc
