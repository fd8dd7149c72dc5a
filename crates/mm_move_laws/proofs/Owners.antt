-- Frames and the keys that they hold.
use Rattle.std.proofs.Common.{◌≡◌, ◌≢◌, ◌⊎◌, ℕ, Bool, true, false, cond, List, length, Option, Some, None, refl, sym, ap, ◌∙◌, subst, inl, inr, ◌+◌, ◌-◌, not, ◌∷◌, arith}
use Rattle.std.specs.Prelude.{filter}
use Rattle.mm_types.proofs.Cells.{same_or_not}
use Rattle.std.proofs.lemmas.List.{get_or_past}
use Rattle.mm_types.specs.{Key, Record, Held, Frame, Backing}
use Rattle.mm_move_rules.specs.{FrameTable, blank, same_key, changed, record_at, without_slot, is_dead, home_at}
use Rattle.mm_move_laws.specs.{Sight, frame, owner_at, Owned, one_if, tally, is_home_for, is_backing_for, block_of, Paged, Homed}
pub use Rattle.mm_move_rules.proofs.Keys.{same_key-true, same_key-self}
use Rattle.mm_move_laws.proofs.Taking.{Changes}
use Rattle.mm_move_laws.proofs.Tallies.{tally-without, length-left}
use Rattle.mm_types.specs.declared.frames.Held.TheVariants as held
use Rattle.mm_types.specs.declared.frames.Backing.TheVariants as backing

-- ---- keys

pub key_or_not : (k q : Key) → ((k ≡ q) × (same_key k q ≡ true)) ⊎ ((k ≢ q) × (same_key k q ≡ false))
key_or_not k q = elim (same_key k q) as (λ b. same_key k q ≡ b → ((k ≡ q) × (b ≡ true)) ⊎ ((k ≢ q) × (b ≡ false))) [
  | true ↦ λ e. inl (same_key-true k q e, refl)
  | false ↦ λ e. inr (λ s. let t : same_key k q ≡ true = ap (λ (x : Key). same_key k x) (sym s) ∙ same_key-self k in cc, refl)
] refl

pub changed_here : {V : Type 0} (f : Key → V) (k : Key) (v : V) → changed same_key f k v k ≡ v
changed_here f k v = ap (λ b. cond b v (f k)) (same_key-self k)

pub changed_else : {V : Type 0} (f : Key → V) (k q : Key) (v : V) → q ≢ k → changed same_key f k v q ≡ f q
changed_else f k q v n = elim (key_or_not q k) [
  | inl e ↦ absurd (n e.0)
  | inr e ↦ ap (λ b. cond b v (f q)) e.1
]

-- ---- owners

abbrev pub is_frame_of : Held → Bool
is_frame_of (held.Frame f) = true
is_frame_of _ = false

-- the frame has the key, which stands in it; or it has none, and the key stands in no frame
abbrev Together : Option Key → Held → ℕ → Key → Type 0
Together o h f k = ((o ≡ None) × (is_frame_of h ≡ false)) ⊎ ((o ≡ Some k) × (h ≡ held.Frame (frame f)))

-- one frame and one key change
module _ (d d' : FrameTable) (stands stands' : Key → Held) (f : ℕ) (k : Key) (was : Together (owner_at d f) (stands k) f k) where
  only_frame : (g : ℕ) → stands k ≡ held.Frame (frame g) → g ≡ f
  only_frame g e = elim was [
    | inl out ↦ let bad : false ≡ true = sym out.1 ∙ ap is_frame_of e in cc
    | inr here ↦ let both : held.Frame (frame f) ≡ held.Frame (frame g) = sym here.1 ∙ e in let there : frame f ≡ frame g = cc in sym (ap (λ (x : Frame). x.0) there)
  ]

  only_key : (x : Key) → owner_at d f ≡ Some x → x ≡ k
  only_key x e = elim was [
    | inl out ↦ let bad : None ≡ Some x = sym out.0 ∙ e in cc
    | inr here ↦ let both : Some x ≡ Some k = sym e ∙ here.0 in cc
  ]

  owned_moved : ((g : ℕ) → g ≢ f → owner_at d' g ≡ owner_at d g) → ((x : Key) → x ≢ k → stands' x ≡ stands x) → Together (owner_at d' f) (stands' k) f k → Owned d stands → Owned d' stands'
  owned_moved others keys now o = record {
    owned = λ g x h. elim (same_or_not g f) [
      | inl s ↦ elim now [
        | inl out ↦ let bad : None ≡ Some x = sym out.0 ∙ (ap (owner_at d') (sym s) ∙ h) in cc
        | inr here ↦
            let both : Some k ≡ Some x = sym here.0 ∙ (ap (owner_at d') (sym s) ∙ h) in
            let same : k ≡ x = cc in
            ap stands' (sym same) ∙ (here.1 ∙ ap (λ (n : ℕ). held.Frame (frame n)) (sym s))
      ]
      | inr n ↦
          let old = o.owned g x (sym (others g n) ∙ h) in
          keys x (λ s. n (only_frame g (ap stands (sym s) ∙ old))) ∙ old
    ];
    owner = λ x g h. elim (key_or_not x k) [
      | inl s ↦ elim now [
        | inl out ↦ let bad : false ≡ true = sym out.1 ∙ ap is_frame_of (ap stands' (sym s.0) ∙ h) in cc
        | inr here ↦
            let at : held.Frame (frame f) ≡ held.Frame g = sym here.1 ∙ (ap stands' (sym s.0) ∙ h) in
            let there : f ≡ g.0 = cc in
            ap (owner_at d') (sym there) ∙ (here.0 ∙ ap (λ (y : Key). Some y) (sym s.0))
      ]
      | inr n ↦
          let old = o.owner x g (sym (keys x n.0) ∙ h) in
          others g.0 (λ s. n.0 (only_key x (ap (owner_at d) (sym s) ∙ old))) ∙ old
    ];
  }

module _ (d d' : FrameTable) (q q' : List ℕ) (f : ℕ) (r : Record) (c : Changes d d' q q' f r) (stands : Key → Held) (o : Owned d stands) where
  owner_else : (g : ℕ) → g ≢ f → owner_at d' g ≡ owner_at d g
  owner_else g n = ap (λ (s : Sight). s.what.owner) (c.elsewhere g n)

  owner_here : owner_at d' f ≡ r.owner
  owner_here = ap (λ (s : Record). s.owner) c.here

  -- the owner stays
  pub owned_same : r.owner ≡ owner_at d f → Owned d' stands
  owned_same e =
      let all : (g : ℕ) → owner_at d' g ≡ owner_at d g = λ g. elim (same_or_not g f) [
        | inl s ↦ subst (λ (k : ℕ). owner_at d' k ≡ owner_at d k) (sym s) (owner_here ∙ e)
        | inr n ↦ owner_else g n
      ] in
      record { owned = λ g k h. o.owned g k (sym (all g) ∙ h); owner = λ k g h. all g.0 ∙ o.owner k g h }

  -- a key that stands elsewhere comes into a frame without an owner
  pub owned_bind : (k : Key) → r.owner ≡ Some k → owner_at d f ≡ None → is_frame_of (stands k) ≡ false → Owned d' (changed same_key stands k (held.Frame (frame f)))
  owned_bind k e none out = owned_moved d d' stands (changed same_key stands k (held.Frame (frame f))) f k (inl (none, out)) owner_else (λ x n. changed_else stands k x _ n) (inr (owner_here ∙ e, changed_here stands k _)) o

  -- a key leaves its frame
  pub owned_leave : (k : Key) (h : Held) → r.owner ≡ None → owner_at d f ≡ Some k → is_frame_of h ≡ false → Owned d' (changed same_key stands k h)
  owned_leave k h e was out = owned_moved d d' stands (changed same_key stands k h) f k (inr (was, o.owned f k was)) owner_else (λ x n. changed_else stands k x _ n) (inl (owner_here ∙ e, ap is_frame_of (changed_here stands k h) ∙ out)) o

-- a key without a frame stands elsewhere
pub owned_rehomed : (d : FrameTable) (stands : Key → Held) (k : Key) (h : Held) → is_frame_of (stands k) ≡ false → is_frame_of h ≡ false → Owned d stands → Owned d (changed same_key stands k h)
owned_rehomed d stands k h was out o =
    let none = ap (λ (r : Record). r.owner) (get_or_past d.records (length d.records) blank (omega arith)) in
    owned_moved d d stands (changed same_key stands k h) (length d.records) k (inl (none, was)) (λ g n. refl) (λ x n. changed_else stands k x _ n) (inl (none, ap is_frame_of (changed_here stands k h) ∙ out)) o

-- ---- the page-file keys, and on which device the bytes of a key stand

-- ---- how many page-file keys there are

pub paged_add : (paging : Key → Bool) (count : ℕ) (k : Key) → paging k ≡ false → Paged paging count → Paged (changed same_key paging k true) (count + 1)
paged_add paging count k out p = record {
  keys = k ∷ p.keys;
  once = λ q. elim (key_or_not q k) [
    | inl z ↦
        let now : one_if (changed same_key paging k true q) ≡ 1 = ap one_if (ap (changed same_key paging k true) z.0 ∙ changed_here paging k true) in
        omega (arith, ap one_if z.1, p.once q ∙ ap one_if (ap paging z.0 ∙ out), now)
    | inr z ↦ omega (arith, ap one_if z.1, p.once q, ap one_if (changed_else paging k q true z.0))
  ];
  long = let h = p.long in omega (arith, h);
}

pub paged_drop : (paging : Key → Bool) (count : ℕ) (k : Key) → paging k ≡ true → Paged paging count → Paged (changed same_key paging k false) (count - 1)
paged_drop paging count k there p =
    record {
      keys = filter (λ q. not (same_key k q)) p.keys;
      once = λ q. elim (key_or_not q k) [
        | inl z ↦
            let none : tally (same_key q) (filter (λ x. not (same_key k x)) p.keys) ≡ tally (same_key k) (filter (λ x. not (same_key k x)) p.keys) = ap (λ (y : Key). tally (same_key y) (filter (λ x. not (same_key k x)) p.keys)) z.0 in
            let now : one_if (changed same_key paging k false q) ≡ 0 = ap one_if (ap (changed same_key paging k false) z.0 ∙ changed_here paging k false) in
            omega (arith, tally-without (same_key k) (same_key k) true p.keys (λ x e. e), none, now)
        | inr z ↦
            let was = p.once q in
            let now : one_if (changed same_key paging k false q) ≡ one_if (paging q) = ap one_if (changed_else paging k q false z.0) in
            omega (arith, tally-without (same_key k) (same_key q) false p.keys (λ y e. ap (same_key q) (sym (same_key-true k y e)) ∙ z.1), was, now)
      ];
      long = let h = p.long in let left = length-left (same_key k) p.keys in omega (arith, h, left, p.once k ∙ ap one_if there);
    }

-- ---- on which device

-- one frame changes
pub homed_frame : (d d' : FrameTable) (q q' : List ℕ) (f : ℕ) (r : Record) → Changes d d' q q' f r → (paging : Key → Bool) (stands : Key → Held) → ((k : Key) → r.owner ≡ Some k → is_backing_for (paging k) r.backing ≡ true) → Homed paging d stands → Homed paging d' stands
homed_frame d d' q q' f r c paging stands h m = record {
  home = m.home;
  backing = λ g k e. elim (same_or_not g f) [
    | inl z ↦
        let here : r.owner ≡ Some k = sym (ap (λ (x : Record). x.owner) c.here) ∙ (ap (λ (n : ℕ). owner_at d' n) (sym z) ∙ e) in
        ap (λ (n : ℕ). is_backing_for (paging k) (record_at d' n).backing) z ∙ (ap (λ (x : Record). is_backing_for (paging k) x.backing) c.here ∙ h k here)
    | inr n ↦
        ap (λ (s : Sight). is_backing_for (paging k) s.what.backing) (c.elsewhere g n) ∙ m.backing g k (sym (ap (λ (s : Sight). s.what.owner) (c.elsewhere g n)) ∙ e)
  ];
}

-- one key stands elsewhere
pub homed_key : (paging : Key → Bool) (d : FrameTable) (stands : Key → Held) (k : Key) (v : Held) → is_home_for (paging k) v ≡ true → Homed paging d stands → Homed paging d (changed same_key stands k v)
homed_key paging d stands k v h m = record {
  home = λ q. elim (key_or_not q k) [
    | inl z ↦ ap (λ (x : Key). is_home_for (paging x) (changed same_key stands k v x)) z.0 ∙ (ap (is_home_for (paging k)) (changed_here stands k v) ∙ h)
    | inr z ↦ ap (is_home_for (paging q)) (changed_else stands k q v z.0) ∙ m.home q
  ];
  backing = m.backing;
}

-- a key becomes or is no more a page-file key, and stands elsewhere, in no frame
pub homed_flag : (paging : Key → Bool) (d : FrameTable) (stands : Key → Held) (k : Key) (b : Bool) (v : Held) → is_home_for b v ≡ true → ((f : ℕ) → owner_at d f ≢ Some k) → Homed paging d stands → Homed (changed same_key paging k b) d (changed same_key stands k v)
homed_flag paging d stands k b v h none m = record {
  home = λ q. elim (key_or_not q k) [
    | inl z ↦
        ap (λ (x : Key). is_home_for (changed same_key paging k b x) (changed same_key stands k v x)) z.0
        ∙ (ap (λ (c : Bool). is_home_for c (changed same_key stands k v k)) (changed_here paging k b) ∙ (ap (is_home_for b) (changed_here stands k v) ∙ h))
    | inr z ↦
        ap (λ (c : Bool). is_home_for c (changed same_key stands k v q)) (changed_else paging k q b z.0)
        ∙ (ap (is_home_for (paging q)) (changed_else stands k q v z.0) ∙ m.home q)
  ];
  backing = λ f q e.
      ap (λ (c : Bool). is_backing_for c (record_at d f).backing) (changed_else paging k q b (λ z. none f (e ∙ ap (λ (x : Key). Some x) z))) ∙ m.backing f q e;
}

-- a dead key is no page-file key
pub dead_not_paging : (b : Bool) (h : Held) → is_dead h ≡ true → is_home_for b h ≡ true → b ≡ false
dead_not_paging true held.Dead e i = sym i
dead_not_paging _ _ e i = cc

pub backing_is_home : (b : Bool) (x : Backing) → is_backing_for b x ≡ true → is_home_for b (home_at x) ≡ true
backing_is_home b backing.None e = e
backing_is_home b _ e = e

pub backing_kept : (b : Bool) (x : Backing) → is_backing_for b x ≡ true → is_backing_for b (without_slot x) ≡ true
backing_kept b backing.None e = e
backing_kept b _ e = e

-- a page-file page is on no block
pub paged_unblocked : (b : Bool) (x : Backing) → b ≡ true → is_backing_for b x ≡ true → block_of x ≡ None
paged_unblocked b (backing.Block c) p e = let bad : false ≡ true = sym (ap not p) ∙ e in cc
paged_unblocked b _ p e = refl
