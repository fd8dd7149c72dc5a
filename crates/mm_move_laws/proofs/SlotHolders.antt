-- Slots and what holds them.
use Rattle.std.proofs.Common.{◌≡◌, ◌≢◌, ◌⊎◌, ℕ, ◌<◌, Bool, true, false, cond, not, List, length, Option, Some, None, refl, sym, ap, ◌∙◌, inl, inr}
use Rattle.std.specs.Prelude.{◌==◌, is_some, slice_get, slice_set}
use Rattle.mm_types.proofs.Cells.{same_or_not, get_set_same, get_set_other, get_within}
use Rattle.mm_types.proofs.Tables.{differ}
use Rattle.std.specs.Cmp.{unsigned_Decides}
use Rattle.mm_types.specs.{Key, Record, Held}
use Rattle.mm_move_rules.specs.{FrameTable, record_at, slot_of, same_key, changed, slot_at, freed}
use Rattle.mm_move_laws.specs.{Holder, Home, Behind, holding, Sight, SlotsHeld}
use Rattle.mm_move_laws.proofs.Taking.{Changes}
use Rattle.mm_move_laws.proofs.Owners.{key_or_not, changed_here, changed_else}

pub holder_or_not : (g h : Holder) → (g ≡ h) ⊎ (g ≢ h)
holder_or_not (Home k) (Home q) = elim (key_or_not k q) [ inl e ↦ inl (ap Home e.0) | inr e ↦ inr (λ s. e.0 (let same : k ≡ q = cc in same)) ]
holder_or_not (Behind f) (Behind g) = elim (same_or_not f g) [ inl e ↦ inl (ap Behind e) | inr e ↦ inr (λ s. e (let same : f ≡ g = cc in same)) ]
holder_or_not _ _ = inr (λ s. cc)

pub slots_same : (free : List Bool) (held held' : Holder → Option ℕ) → ((h : Holder) → held' h ≡ held h) → SlotsHeld free held → SlotsHeld free held'
slots_same free held held' same s = record {
  holder = s.holder;
  found = λ h n e. s.found h n (sym (same h) ∙ e);
  held = λ n h e. same h ∙ s.held n h e;
  taken = s.taken;
  past = s.past;
}

-- what a number is sent to, changed at one
abbrev sent : (ℕ → Option Holder) → ℕ → Option Holder → ℕ → Option Holder
sent f s o n = cond (n == s) o (f n)

sent_here : (f : ℕ → Option Holder) (s n : ℕ) (o : Option Holder) → n ≡ s → sent f s o n ≡ o
sent_here f s n o e = ap (λ b. cond b o (f n)) ((unsigned_Decides n s).1 e)

sent_else : (f : ℕ → Option Holder) (s n : ℕ) (o : Option Holder) → n ≢ s → sent f s o n ≡ f n
sent_else f s n o e = ap (λ b. cond b o (f n)) (differ n s e)

module _ (free : List Bool) (held : Holder → Option ℕ) (m : SlotsHeld free held) (s : ℕ) where
  -- a slot with a holder has no other
  apart_from : (h g : Holder) (n : ℕ) → held h ≡ Some s → g ≢ h → held g ≡ Some n → n ≢ s
  apart_from h g n had d old z =
      let both : Some g ≡ Some h = sym (m.found g n old) ∙ ap m.holder z ∙ m.found h s had in
      d (let same : g ≡ h = cc in same)

  -- a slot with a holder is there
  pub held_low : (h : Holder) → held h ≡ Some s → s < length free
  held_low h had = at (slice_get free s) refl
    where
      at : (x : Option Bool) → slice_get free s ≡ x → s < length free
      at None g = let bad : None ≡ Some h = sym (m.past s g) ∙ m.found h s had in cc
      at (Some b) g = get_within free s b g

-- one slot has another holder, or none, and is free or not as the holder says
module _ (free free' : List Bool) (held held' : Holder → Option ℕ) (m : SlotsHeld free held) (s : ℕ) (o : Option Holder) where
  handed :
      ((h : Holder) (n : ℕ) → held' h ≡ Some n → ((n ≡ s) × (o ≡ Some h)) ⊎ ((n ≢ s) × (held h ≡ Some n)))
      → ((h : Holder) → o ≡ Some h → held' h ≡ Some s)
      → ((h : Holder) (n : ℕ) → n ≢ s → held h ≡ Some n → held' h ≡ Some n)
      → ((b : Bool) → slice_get free' s ≡ Some b → is_some o ≡ not b)
      → (slice_get free' s ≡ None → o ≡ None)
      → ((n : ℕ) → n ≢ s → slice_get free' n ≡ slice_get free n)
      → SlotsHeld free' held'
  handed found here others taken past rest = record {
    holder = sent m.holder s o;
    found = λ h n e. elim (found h n e) [
      | inl z ↦ sent_here m.holder s n o z.0 ∙ z.1
      | inr z ↦ sent_else m.holder s n o z.0 ∙ m.found h n z.1
    ];
    held = λ n h e. elim (same_or_not n s) [
      | inl z ↦ here h (sym (sent_here m.holder s n o z) ∙ e) ∙ ap (λ (k : ℕ). Some k) (sym z)
      | inr d ↦ others h n d (m.held n h (sym (sent_else m.holder s n o d) ∙ e))
    ];
    taken = λ n b e. elim (same_or_not n s) [
      | inl z ↦ ap is_some (sent_here m.holder s n o z) ∙ taken b (ap (slice_get free') (sym z) ∙ e)
      | inr d ↦ ap is_some (sent_else m.holder s n o d) ∙ m.taken n b (sym (rest n d) ∙ e)
    ];
    past = λ n e. elim (same_or_not n s) [
      | inl z ↦ sent_here m.holder s n o z ∙ past (ap (slice_get free') (sym z) ∙ e)
      | inr d ↦ sent_else m.holder s n o d ∙ m.past n (sym (rest n d) ∙ e)
    ];
  }

-- a holder gives up its slot
release : (free : List Bool) (held held' : Holder → Option ℕ) (h : Holder) (s : ℕ) → held h ≡ Some s → held' h ≡ None → ((g : Holder) → g ≢ h → held' g ≡ held g) → SlotsHeld free held → SlotsHeld (slice_set free s true) held'
release free held held' h s had none others m = handed free (slice_set free s true) held held' m s None
    (λ g n e. elim (holder_or_not g h) [
      | inl z ↦ let bad : None ≡ Some n = sym none ∙ (ap held' (sym z) ∙ e) in cc
      | inr d ↦ let old = sym (others g d) ∙ e in inr (apart_from free held m s h g n had d old, old)
    ])
    (λ g e. cc)
    (λ g n d was. others g (λ z. d (let both : Some n ≡ Some s = sym was ∙ (ap held z ∙ had) in let same : n ≡ s = cc in same)) ∙ was)
    (λ b e. let now : Some true ≡ Some b = sym set ∙ e in let is : true ≡ b = cc in ap not is)
    (λ e. refl)
    (λ n d. get_set_other free s n true d)
  where
    set : slice_get (slice_set free s true) s ≡ Some true
    set = get_set_same free s true (held_low free held m s h had)

-- a holder without a slot takes a free one
pub slots_take : (free : List Bool) (held held' : Holder → Option ℕ) (h : Holder) (s : ℕ) → slice_get free s ≡ Some true → held h ≡ None → held' h ≡ Some s → ((g : Holder) → g ≢ h → held' g ≡ held g) → SlotsHeld free held → SlotsHeld (slice_set free s false) held'
slots_take free held held' h s unused had now others m = handed free (slice_set free s false) held held' m s (Some h)
    (λ g n e. elim (holder_or_not g h) [
      | inl z ↦ let both : Some s ≡ Some n = sym now ∙ (ap held' (sym z) ∙ e) in let same : n ≡ s = cc in inl (same, ap Some (sym z))
      | inr d ↦
          let old = sym (others g d) ∙ e in
          inr (λ z. let bad : true ≡ false = sym (ap is_some (m.found g n old)) ∙ (ap (λ k. is_some (m.holder k)) z ∙ m.taken s true unused) in cc, old)
    ])
    (λ g e. let same : h ≡ g = cc in ap held' (sym same) ∙ now)
    (λ g n d was. others g (λ z. let bad : None ≡ Some n = sym had ∙ (ap held (sym z) ∙ was) in cc) ∙ was)
    (λ b e. let set_is : Some false ≡ Some b = sym set ∙ e in let is : false ≡ b = cc in ap not is)
    (λ e. let bad : Some false ≡ None = sym set ∙ e in cc)
    (λ n d. get_set_other free s n false d)
  where
    set : slice_get (slice_set free s false) s ≡ Some false
    set = get_set_same free s false (get_within free s true unused)

-- the slot of a holder, if any, is free
pub slots_freed : (free : List Bool) (held held' : Holder → Option ℕ) (h : Holder) (o : Option ℕ) → held h ≡ o → held' h ≡ None → ((g : Holder) → g ≢ h → held' g ≡ held g) → SlotsHeld free held → SlotsHeld (freed free o) held'
slots_freed free held held' h None had none others m = slots_same free held held' (λ g. elim (holder_or_not g h) [
  | inl z ↦ ap held' z ∙ (none ∙ (sym had ∙ ap held (sym z)))
  | inr d ↦ others g d
]) m
slots_freed free held held' h (Some s) had none others m = release free held held' h s had none others m

-- the slot of a holder, if any, goes to another
pub slots_hand : (free : List Bool) (held held' : Holder → Option ℕ) (a h : Holder) (o : Option ℕ) → a ≢ h → held a ≡ o → held h ≡ None → held' a ≡ None → held' h ≡ o → ((g : Holder) → g ≢ a → g ≢ h → held' g ≡ held g) → SlotsHeld free held → SlotsHeld free held'
slots_hand free held held' a h None apart had was none now others m = slots_same free held held' (λ g. elim (holder_or_not g h) [
  | inl z ↦ ap held' z ∙ (now ∙ (sym was ∙ ap held (sym z)))
  | inr d ↦ elim (holder_or_not g a) [
    | inl z ↦ ap held' z ∙ (none ∙ (sym had ∙ ap held (sym z)))
    | inr c ↦ others g c d
  ]
]) m
slots_hand free held held' a h (Some s) apart had was none now others m = handed free free held held' m s (Some h)
    (λ g n e. elim (holder_or_not g h) [
      | inl z ↦ let both : Some s ≡ Some n = sym now ∙ (ap held' (sym z) ∙ e) in let same : n ≡ s = cc in inl (same, ap Some (sym z))
      | inr d ↦ elim (holder_or_not g a) [
        | inl z ↦ let bad : None ≡ Some n = sym none ∙ (ap held' (sym z) ∙ e) in cc
        | inr c ↦ let old = sym (others g c d) ∙ e in inr (apart_from free held m s a g n had c old, old)
      ]
    ])
    (λ g e. let same : h ≡ g = cc in ap held' (sym same) ∙ now)
    (λ g n d it. others g
    (λ z. d (let both : Some n ≡ Some s = sym it ∙ (ap held z ∙ had) in let same : n ≡ s = cc in same))
    (λ z. let bad : None ≡ Some n = sym was ∙ (ap held (sym z) ∙ it) in cc) ∙ it)
    (λ b e. sym (ap is_some (m.found a s had)) ∙ m.taken s b e)
    (λ e. let bad : Some a ≡ None = sym (m.found a s had) ∙ m.past s e in cc)
    (λ n d. refl)

-- ---- slots and one frame that changes

module _ (d d' : FrameTable) (q q' : List ℕ) (f : ℕ) (r : Record) (c : Changes d d' q q' f r) where
  backing_else : (g : ℕ) → g ≢ f → slot_of (record_at d' g).backing ≡ slot_of (record_at d g).backing
  backing_else g n = ap (λ (s : Sight). slot_of s.what.backing) (c.elsewhere g n)

  backing_here : slot_of (record_at d' f).backing ≡ slot_of r.backing
  backing_here = ap (λ (s : Record). slot_of s.backing) c.here

  pub frame_only : (stands : Key → Held) (h : Holder) → h ≢ Behind f → holding d' stands h ≡ holding d stands h
  frame_only stands (Home k) n = refl
  frame_only stands (Behind g) n = backing_else g (λ e. n (ap Behind e))

  pub frame_and_key : (stands : Key → Held) (k : Key) (v : Held) (h : Holder) → h ≢ Behind f → h ≢ Home k → holding d' (changed same_key stands k v) h ≡ holding d stands h
  frame_and_key stands k v (Home x) n m = ap slot_at (changed_else stands k x v (λ e. m (ap Home e)))
  frame_and_key stands k v (Behind g) n m = backing_else g (λ e. n (ap Behind e))

  -- the frame's slot stays, if it has one
  pub slots_still : (free : List Bool) (stands : Key → Held) → slot_of r.backing ≡ slot_of (record_at d f).backing → SlotsHeld free (holding d stands) → SlotsHeld free (holding d' stands)
  slots_still free stands e m = slots_same free (holding d stands) (holding d' stands) (λ h. elim (holder_or_not h (Behind f)) [
    | inl z ↦ ap (holding d' stands) z ∙ (backing_here ∙ (e ∙ ap (holding d stands) (sym z)))
    | inr n ↦ frame_only stands h n
  ]) m

  -- the same, and a key stands elsewhere
  pub slots_moved : (free : List Bool) (stands : Key → Held) (k : Key) (v : Held) → slot_of r.backing ≡ slot_of (record_at d f).backing → slot_at v ≡ slot_at (stands k) → SlotsHeld free (holding d stands) → SlotsHeld free (holding d' (changed same_key stands k v))
  slots_moved free stands k v e s m = slots_same free (holding d stands) (holding d' (changed same_key stands k v)) (λ h. elim (holder_or_not h (Behind f)) [
    | inl z ↦ ap (holding d' (changed same_key stands k v)) z ∙ (backing_here ∙ (e ∙ ap (holding d stands) (sym z)))
    | inr n ↦ elim (holder_or_not h (Home k)) [
      | inl z ↦ ap (holding d' (changed same_key stands k v)) z ∙ (ap slot_at (changed_here stands k v) ∙ (s ∙ ap (holding d stands) (sym z)))
      | inr w ↦ frame_and_key stands k v h n w
    ]
  ]) m

  -- the frame's slot, if it has one, is free
  pub slots_given_up : (free : List Bool) (stands : Key → Held) → slot_of r.backing ≡ None → SlotsHeld free (holding d stands) → SlotsHeld (freed free (slot_of (record_at d f).backing)) (holding d' stands)
  slots_given_up free stands e m = slots_freed free (holding d stands) (holding d' stands) (Behind f) _ refl (backing_here ∙ e) (frame_only stands) m

  -- the same, and a key without a slot stands elsewhere
  pub slots_dropped : (free : List Bool) (stands : Key → Held) (k : Key) (v : Held) → slot_of r.backing ≡ None → slot_at v ≡ slot_at (stands k) → SlotsHeld free (holding d stands) → SlotsHeld (freed free (slot_of (record_at d f).backing)) (holding d' (changed same_key stands k v))
  slots_dropped free stands k v e s m = slots_freed free (holding d stands) (holding d' (changed same_key stands k v)) (Behind f) _ refl (backing_here ∙ e) (λ h n. elim (holder_or_not h (Home k)) [
    | inl z ↦ ap (holding d' (changed same_key stands k v)) z ∙ (ap slot_at (changed_here stands k v) ∙ (s ∙ ap (holding d stands) (sym z)))
    | inr w ↦ frame_and_key stands k v h n w
  ]) m

  -- the frame's backing becomes a key's home
  pub slots_sent_home : (free : List Bool) (stands : Key → Held) (k : Key) (v : Held) → slot_of r.backing ≡ None → slot_at (stands k) ≡ None → slot_at v ≡ slot_of (record_at d f).backing → SlotsHeld free (holding d stands) → SlotsHeld free (holding d' (changed same_key stands k v))
  slots_sent_home free stands k v e w s m = slots_hand free (holding d stands) (holding d' (changed same_key stands k v)) (Behind f) (Home k) _ (λ z. cc) refl w (backing_here ∙ e) (ap slot_at (changed_here stands k v) ∙ s) (frame_and_key stands k v) m

  -- a key's home becomes the frame's backing
  pub slots_brought : (free : List Bool) (stands : Key → Held) (k : Key) (v : Held) → slot_of (record_at d f).backing ≡ None → slot_at v ≡ None → slot_of r.backing ≡ slot_at (stands k) → SlotsHeld free (holding d stands) → SlotsHeld free (holding d' (changed same_key stands k v))
  slots_brought free stands k v e w s m = slots_hand free (holding d stands) (holding d' (changed same_key stands k v)) (Home k) (Behind f) _ (λ z. cc) refl e (ap slot_at (changed_here stands k v) ∙ w) (backing_here ∙ s) (λ h n z. frame_and_key stands k v h z n) m

  -- the frame takes a free slot
  pub slots_taken : (free : List Bool) (stands : Key → Held) (s : ℕ) → slice_get free s ≡ Some true → slot_of (record_at d f).backing ≡ None → slot_of r.backing ≡ Some s → SlotsHeld free (holding d stands) → SlotsHeld (slice_set free s false) (holding d' stands)
  slots_taken free stands s unused e now m = slots_take free (holding d stands) (holding d' stands) (Behind f) s unused e (backing_here ∙ now) (frame_only stands) m

-- ---- slots and a key that stands elsewhere

module _ (d : FrameTable) (free : List Bool) (stands : Key → Held) (k : Key) (v : Held) where
  key_only : (h : Holder) → h ≢ Home k → holding d (changed same_key stands k v) h ≡ holding d stands h
  key_only (Home x) n = ap slot_at (changed_else stands k x v (λ e. n (ap Home e)))
  key_only (Behind g) n = refl

  pub slots_rehomed : slot_at v ≡ slot_at (stands k) → SlotsHeld free (holding d stands) → SlotsHeld free (holding d (changed same_key stands k v))
  slots_rehomed s m = slots_same free (holding d stands) (holding d (changed same_key stands k v)) (λ h. elim (holder_or_not h (Home k)) [
    | inl z ↦ ap (holding d (changed same_key stands k v)) z ∙ (ap slot_at (changed_here stands k v) ∙ (s ∙ ap (holding d stands) (sym z)))
    | inr w ↦ key_only h w
  ]) m

  pub slots_homeless : slot_at v ≡ None → SlotsHeld free (holding d stands) → SlotsHeld (freed free (slot_at (stands k))) (holding d (changed same_key stands k v))
  slots_homeless e m = slots_freed free (holding d stands) (holding d (changed same_key stands k v)) (Home k) _ refl (ap slot_at (changed_here stands k v) ∙ e) key_only m
