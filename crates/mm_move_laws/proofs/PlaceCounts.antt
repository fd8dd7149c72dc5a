-- Working sets, one a process, in turn.
use Rattle.std.proofs.Common.{◌≡◌, ◌≢◌, ◌⊎◌, ℕ, zero, suc, List, [], ◌∷◌, ◌++◌, Option, Some, None, refl, ap, ◌∙◌, inl, inr, ◌+◌, ◌-◌, ◌<◌, ◌≤◌, true, false, cond, not, sym, subst, arith}
use Rattle.std.specs.Prelude.{slice_get, ◌==◌, is_some, filter, unwrap_or, option_map}
use Rattle.mm_types.proofs.Cells.{get_set_same, get_set_other, get_within, same_or_not}
use Rattle.mm_move_rules.specs.{ResidentSet, set_in, with_resident, resident_by, FrameTable, record_at, same_place, changed, fits_place}
use Rattle.mm_move_laws.specs.{residents, one_if, tally, is_of, Sight, Shown}
use Rattle.mm_move_rules.specs.{is_frame}
use Rattle.std.specs.Cmp.{unsigned_Decides}
use Rattle.std.proofs.lemmas.Bool.{eqb-true, eq-eqb, and_parts, and_from}
use Rattle.mm_types.proofs.Tables.{differ}
use Rattle.mm_types.specs.{Frame, Key, Place, Record}
use Rattle.mm_move_laws.proofs.Tallies.{tally-but, tally-without, tally-more}
use Rattle.mm_move_laws.proofs.Taking.{Changes}

abbrev pub resized : ResidentSet → (ℕ → ℕ) → ResidentSet
resized s change = record s { resident = change s.resident }

pub set_here : (sets : List ResidentSet) (pid : ℕ) (change : ℕ → ℕ) (s : ResidentSet) → set_in sets pid ≡ Some s → set_in (with_resident sets pid change) pid ≡ Some (resized s change)
set_here sets zero change s e = cc
set_here sets (suc k) change s e =
    ap (λ (o : Option ResidentSet). slice_get (resident_by o sets k change) k) e ∙ get_set_same sets k (resized s change) (get_within sets k s e)

pub set_else : (sets : List ResidentSet) (pid q : ℕ) (change : ℕ → ℕ) → q ≢ pid → set_in (with_resident sets pid change) q ≡ set_in sets q
set_else sets (suc k) (suc j) change n = at (slice_get sets k)
  where
    at : (o : Option ResidentSet) → slice_get (resident_by o sets k change) j ≡ slice_get sets j
    at None = refl
    at (Some s) = get_set_other sets k j (resized s change) (λ e. n (ap suc e))
set_else sets _ _ change n = cc

-- one process more
at_end : (sets : List ResidentSet) (new : ResidentSet) (k : ℕ) → new.resident ≡ 0 → residents (slice_get (sets ++ new ∷ []) k) ≡ residents (slice_get sets k)
at_end [] new zero e = e
at_end (s ∷ sets) new (suc k) e = at_end sets new k e
at_end _ new _ e = cc

pub residents_more : (sets : List ResidentSet) (new : ResidentSet) (pid : ℕ) → new.resident ≡ 0 → residents (set_in (sets ++ new ∷ []) pid) ≡ residents (set_in sets pid)
residents_more sets new zero e = refl
residents_more sets new (suc k) e = at_end sets new k e

got_at_end : (sets : List ResidentSet) (new s : ResidentSet) (k : ℕ) → slice_get (sets ++ new ∷ []) k ≡ Some s → (slice_get sets k ≡ Some s) ⊎ (new ≡ s)
got_at_end [] new s zero e = inr (let same : new ≡ s = cc in same)
got_at_end (t ∷ sets) new s (suc k) e = got_at_end sets new s k e
got_at_end _ new s _ e = inl e

pub set_more : (sets : List ResidentSet) (new s : ResidentSet) (pid : ℕ) → set_in (sets ++ new ∷ []) pid ≡ Some s → (set_in sets pid ≡ Some s) ⊎ (new ≡ s)
set_more sets new s zero e = inl e
set_more sets new s (suc k) e = got_at_end sets new s k e

-- ---- valid places, and the shares of frames

-- ---- places

pub same_place-true : (p q : Place) → same_place p q ≡ true → p ≡ q
same_place-true p q e =
    let h = and_parts (p.pid.0 == q.pid.0) (p.vpn.0 == q.vpn.0) e in
    let a : p.pid.0 ≡ q.pid.0 = eqb-true p.pid.0 q.pid.0 h.0 in
    let b : p.vpn.0 ≡ q.vpn.0 = eqb-true p.vpn.0 q.vpn.0 h.1 in
    λ i. record { pid = record { 0 = a i }; vpn = record { 0 = b i } }

pub same_place-self : (p : Place) → same_place p p ≡ true
same_place-self p = and_from (p.pid.0 == p.pid.0) (p.vpn.0 == p.vpn.0) (eq-eqb p.pid.0 p.pid.0 refl) (eq-eqb p.vpn.0 p.vpn.0 refl)

pub place_or_not : (p q : Place) → ((p ≡ q) × (same_place p q ≡ true)) ⊎ ((p ≢ q) × (same_place p q ≡ false))
place_or_not p q = elim (same_place p q) as (λ b. same_place p q ≡ b → ((p ≡ q) × (b ≡ true)) ⊎ ((p ≢ q) × (b ≡ false))) [
  | true ↦ λ e. inl (same_place-true p q e, refl)
  | false ↦ λ e. inr (λ s. let t : same_place p q ≡ true = ap (λ (x : Place). same_place p x) (sym s) ∙ same_place-self p in cc, refl)
] refl

place_differs : (p q : Place) → p ≢ q → same_place p q ≡ false
place_differs p q n = elim (place_or_not p q) [ inl e ↦ absurd (n e.0) | inr e ↦ e.1 ]

pub place_here : {V : Type 0} (f : Place → V) (p : Place) (v : V) → changed same_place f p v p ≡ v
place_here f p v = ap (λ b. cond b v (f p)) (same_place-self p)

place_else : {V : Type 0} (f : Place → V) (p q : Place) (v : V) → q ≢ p → changed same_place f p v q ≡ f q
place_else f p q v n = ap (λ b. cond b v (f q)) (place_differs q p n)

-- ---- what is kept of them

-- numbers that change at one place
at_one : (change : ℕ → ℕ → ℕ) → ((n : ℕ) → n ≡ change 0 n) → (f : ℕ) (old new : ℕ → ℕ) → new f ≡ change 1 (old f) → ((g : ℕ) → g ≢ f → new g ≡ old g) → (g : ℕ) → new g ≡ change (one_if (f == g)) (old g)
at_one change none f old new here else g = elim (same_or_not g f) [
  | inl z ↦ subst (λ (k : ℕ). new k ≡ change (one_if (f == k)) (old k)) (sym z) (here ∙ ap (λ b. change (one_if b) (old f)) (sym ((unsigned_Decides f f).1 refl)))
  | inr n ↦ else g n ∙ none (old g) ∙ ap (λ b. change (one_if b) (old g)) (sym (differ f g (λ z. n (sym z))))
]

-- a valid place's frame has shares
pub has_shares : (valid : Place → Option Frame) (d : FrameTable) (sets : List ResidentSet) → Shown valid d sets → (p : Place) (f : Frame) → valid p ≡ Some f → 1 ≤ (record_at d f.0).shares
has_shares valid d sets s p f e =
    let more = tally-more (same_place p) (λ x. is_frame f.0 (valid x)) s.places (λ x h.
    let same : p ≡ x = same_place-true p x h in
    ap (λ (y : Place). is_frame f.0 (valid y)) (sym same) ∙ (ap (is_frame f.0) e ∙ (unsigned_Decides f.0 f.0).1 refl)) in
    omega (arith, s.once p ∙ ap (λ o. one_if (is_some o)) e, more, s.shares f.0)

module _ (d d' : FrameTable) (q q' : List ℕ) (f : ℕ) (r : Record) (c : Changes d d' q q' f r) (valid : Place → Option Frame) (sets : List ResidentSet) (s : Shown valid d sets) where
  shares_else : (g : ℕ) → g ≢ f → (record_at d' g).shares ≡ (record_at d g).shares
  shares_else g n = ap (λ (x : Sight). x.what.shares) (c.elsewhere g n)

  owner_else : (g : ℕ) → g ≢ f → (record_at d' g).owner ≡ (record_at d g).owner
  owner_else g n = ap (λ (x : Sight). x.what.owner) (c.elsewhere g n)

  shares_here : (record_at d' f).shares ≡ r.shares
  shares_here = ap (λ (x : Record). x.shares) c.here

  owner_here : (record_at d' f).owner ≡ r.owner
  owner_here = ap (λ (x : Record). x.owner) c.here

  owner_as : r.owner ≡ (record_at d f).owner → (g : ℕ) → (record_at d' g).owner ≡ (record_at d g).owner
  owner_as same g = elim (same_or_not g f) [
    | inl z ↦ ap (λ (m : ℕ). (record_at d' m).owner) z ∙ (owner_here ∙ (same ∙ ap (λ (m : ℕ). (record_at d m).owner) (sym z)))
    | inr n ↦ owner_else g n
  ]

  -- the shares stay, and the owner where there are any
  pub shown_same : r.shares ≡ (record_at d f).shares → (r.owner ≡ (record_at d f).owner) ⊎ ((record_at d f).shares ≡ 0) → Shown valid d' sets
  shown_same e o = record {
    places = s.places;
    once = s.once;
    shares = λ g. s.shares g ∙ elim (same_or_not g f) [
      | inl z ↦ ap (λ (k : ℕ). (record_at d k).shares) z ∙ (sym e ∙ (sym shares_here ∙ ap (λ (k : ℕ). (record_at d' k).shares) (sym z)))
      | inr n ↦ sym (shares_else g n)
    ];
    resident = s.resident;
    fits = λ p g k v w. elim (same_or_not g.0 f) [
      | inl z ↦ elim o [
        | inl same ↦ s.fits p g k v (ap (λ (m : ℕ). (record_at d m).owner) z ∙ (sym same ∙ (sym owner_here ∙ (ap (λ (m : ℕ). (record_at d' m).owner) (sym z) ∙ w))))
        | inr none ↦
            absurd (omega (arith, has_shares valid d sets s p g v, none, ap (λ (m : ℕ). (record_at d m).shares) z))
      ]
      | inr n ↦ s.fits p g k v (sym (owner_else g.0 n) ∙ w)
    ];
    below = s.below;
  }

  -- a place becomes valid
  module _ (p : Place) (set : ResidentSet) (out : valid p ≡ None) (known : set_in sets p.pid.0 ≡ Some set) (room : set.resident < set.max)
      (grown : r.shares ≡ (record_at d f).shares + 1) (owner : r.owner ≡ (record_at d f).owner) (fit : (k : Key) → r.owner ≡ Some k → fits_place p k ≡ true) where
    abbrev valid_now : Place → Option Frame
    valid_now = changed same_place valid p (Some (record { 0 = f }))

    abbrev sets_now : List ResidentSet
    sets_now = with_resident sets p.pid.0 (λ n. n + 1)

    absent : tally (same_place p) s.places ≡ 0
    absent = s.once p ∙ ap (λ o. one_if (is_some o)) out

    counted : (g : ℕ) → tally (λ x. is_frame g (valid_now x)) s.places ≡ tally (λ x. is_frame g (valid x)) s.places
    counted g = tally-but (same_place p) (λ x. is_frame g (valid_now x)) (λ x. is_frame g (valid x)) s.places absent
        (λ x n. ap (is_frame g) (place_else valid p x _ (λ z. let t : same_place p x ≡ true = ap (same_place p) z ∙ same_place-self p in cc)))

    shares_now : (g : ℕ) → (record_at d' g).shares ≡ one_if (f == g) + (record_at d g).shares
    shares_now g = at_one (λ n m. n + m) (λ n. omega arith) f (λ m. (record_at d m).shares) (λ m. (record_at d' m).shares) (shares_here ∙ grown ∙ omega arith) shares_else g

    resident_now : (pid : ℕ) → residents (set_in sets_now pid) ≡ one_if (p.pid.0 == pid) + residents (set_in sets pid)
    resident_now pid = at_one (λ n m. n + m) (λ n. omega arith) p.pid.0 (λ m. residents (set_in sets m)) (λ m. residents (set_in sets_now m))
        (let was = ap residents known in let now = ap residents (set_here sets p.pid.0 (λ n. n + 1) set known) in omega (arith, was, now))
        (λ q n. ap residents (set_else sets p.pid.0 q (λ n. n + 1) n)) pid

    pub shown_map : Shown valid_now d' sets_now
    shown_map = record {
      places = p ∷ s.places;
      once = λ x. elim (place_or_not x p) [
        | inl z ↦
            let now : one_if (is_some (valid_now x)) ≡ 1 = ap (λ (y : Place). one_if (is_some (valid_now y))) z.0 ∙ ap (λ o. one_if (is_some o)) (place_here valid p _) in
            omega (arith, ap one_if z.1, ap (λ (y : Place). tally (same_place y) s.places) z.0 ∙ absent, now)
        | inr z ↦
            let now : one_if (is_some (valid_now x)) ≡ one_if (is_some (valid x)) = ap (λ o. one_if (is_some o)) (place_else valid p x _ z.0) in
            omega (arith, ap one_if z.1, s.once x, now)
      ];
      shares = λ g.
          omega (arith, ap (λ o. one_if (is_frame g o)) (place_here valid p (Some (record { 0 = f }))), counted g, s.shares g, shares_now g);
      resident = λ pid. omega (arith, s.resident pid, resident_now pid);
      fits = λ x g k v w. elim (place_or_not x p) [
        | inl z ↦
            let both : Some (record { 0 = f }) ≡ Some g = sym (place_here valid p _) ∙ (ap valid_now (sym z.0) ∙ v) in
            let same : f ≡ g.0 = ap (λ (o : Option Frame). unwrap_or (option_map (λ (x : Frame). x.0) o) 0) both in
            ap (λ (y : Place). fits_place y k) z.0 ∙ fit k (owner ∙ (ap (λ (m : ℕ). (record_at d m).owner) same ∙ (sym (owner_as owner g.0) ∙ w)))
        | inr z ↦ s.fits x g k (sym (place_else valid p x _ z.0) ∙ v) (sym (owner_as owner g.0) ∙ w)
      ];
      below = λ pid t e. elim (same_or_not pid p.pid.0) [
        | inl z ↦
            let both : Some (resized set (λ n. n + 1)) ≡ Some t = sym (set_here sets p.pid.0 (λ n. n + 1) set known) ∙ (ap (set_in sets_now) (sym z) ∙ e) in
            let same : resized set (λ n. n + 1) ≡ t = cc in
            subst (λ (x : ResidentSet). x.resident ≤ x.max) same (omega (arith, room))
        | inr n ↦ s.below pid t (sym (set_else sets p.pid.0 pid (λ n. n + 1) n) ∙ e)
      ];
    }

  -- a place is valid no more
  module _ (p : Place) (there : valid p ≡ Some (record { 0 = f })) (shrunk : r.shares ≡ (record_at d f).shares - 1) (owner : r.owner ≡ (record_at d f).owner) where
    abbrev valid_left : Place → Option Frame
    valid_left = changed same_place valid p None

    abbrev sets_left : List ResidentSet
    sets_left = with_resident sets p.pid.0 (λ n. n - 1)

    abbrev left : List Place
    left = filter (λ x. not (same_place p x)) s.places

    present : tally (same_place p) s.places ≡ 1
    present = s.once p ∙ ap (λ o. one_if (is_some o)) there

    gone : tally (same_place p) left ≡ 0
    gone = let h = tally-without (same_place p) (same_place p) true s.places (λ x e. e) in omega (arith, h)

    left_for : (g : ℕ) → tally (λ x. is_frame g (valid_left x)) left + one_if (f == g) ≡ (record_at d g).shares
    left_for g =
        let agree = tally-but (same_place p) (λ x. is_frame g (valid_left x)) (λ x. is_frame g (valid x)) left gone
        (λ x n. ap (is_frame g) (place_else valid p x _ (λ z. let t : same_place p x ≡ true = ap (same_place p) z ∙ same_place-self p in cc))) in
        let less = tally-without (same_place p) (λ x. is_frame g (valid x)) (f == g) s.places
        (λ x e. ap (λ (y : Place). is_frame g (valid y)) (sym (same_place-true p x e)) ∙ ap (is_frame g) there) in
        omega (arith, agree, less, ap (λ n. cond (f == g) n 0) present, s.shares g)

    left_in : (pid : ℕ) → tally (is_of pid) left + one_if (p.pid.0 == pid) ≡ residents (set_in sets pid)
    left_in pid =
        let less = tally-without (same_place p) (is_of pid) (p.pid.0 == pid) s.places (λ x e. ap (λ (y : Place). is_of pid y) (sym (same_place-true p x e))) in
        omega (arith, less, ap (λ n. cond (p.pid.0 == pid) n 0) present, s.resident pid)

    shares_less : (g : ℕ) → (record_at d' g).shares ≡ (record_at d g).shares - one_if (f == g)
    shares_less g = at_one (λ n m. m - n) (λ n. omega arith) f (λ m. (record_at d m).shares) (λ m. (record_at d' m).shares) (shares_here ∙ shrunk) shares_else g

    -- the process has a working set
    known_set : (o : Option ResidentSet) → 1 ≤ residents o → (t : ResidentSet) × (o ≡ Some t)
    known_set None h = absurd (omega arith)
    known_set (Some t) h = (t, refl)

    set_left : (t : ResidentSet) × (set_in sets p.pid.0 ≡ Some t)
    set_left =
        known_set (set_in sets p.pid.0) (omega (arith, ap one_if ((unsigned_Decides p.pid.0 p.pid.0).1 refl), left_in p.pid.0))

    resident_left : (pid : ℕ) → residents (set_in sets_left pid) ≡ residents (set_in sets pid) - one_if (p.pid.0 == pid)
    resident_left pid = at_one (λ n m. m - n) (λ n. omega arith) p.pid.0 (λ m. residents (set_in sets m)) (λ m. residents (set_in sets_left m))
        (let was = ap residents set_left.1 in let now = ap residents (set_here sets p.pid.0 (λ n. n - 1) set_left.0 set_left.1) in omega (arith, was, now))
        (λ q n. ap residents (set_else sets p.pid.0 q (λ n. n - 1) n)) pid

    pub shown_unmap : Shown valid_left d' sets_left
    shown_unmap = record {
      places = left;
      once = λ x. elim (place_or_not x p) [
        | inl z ↦
            let now : one_if (is_some (valid_left x)) ≡ 0 = ap (λ (y : Place). one_if (is_some (valid_left y))) z.0 ∙ ap (λ o. one_if (is_some o)) (place_here valid p _) in
            omega (arith, ap (λ (y : Place). tally (same_place y) left) z.0 ∙ gone, now)
        | inr z ↦
            let less = tally-without (same_place p) (same_place x) false s.places (λ y e. ap (same_place x) (sym (same_place-true p y e)) ∙ z.1) in
            let now : one_if (is_some (valid_left x)) ≡ one_if (is_some (valid x)) = ap (λ o. one_if (is_some o)) (place_else valid p x _ z.0) in
            omega (arith, less, s.once x, now)
      ];
      shares = λ g. omega (arith, left_for g, shares_less g);
      resident = λ pid. omega (arith, left_in pid, resident_left pid);
      fits = λ x g k v w. elim (place_or_not x p) [
        | inl z ↦ let bad : None ≡ Some g = sym (place_here valid p _) ∙ (ap valid_left (sym z.0) ∙ v) in cc
        | inr z ↦ s.fits x g k (sym (place_else valid p x _ z.0) ∙ v) (sym (owner_as owner g.0) ∙ w)
      ];
      below = λ pid t e. elim (same_or_not pid p.pid.0) [
        | inl z ↦
            let both : Some (resized set_left.0 (λ n. n - 1)) ≡ Some t = sym (set_here sets p.pid.0 (λ n. n - 1) set_left.0 set_left.1) ∙ (ap (set_in sets_left) (sym z) ∙ e) in
            let same : resized set_left.0 (λ n. n - 1) ≡ t = cc in
            subst (λ (x : ResidentSet). x.resident ≤ x.max) same (omega (arith, s.below p.pid.0 set_left.0 set_left.1))
        | inr n ↦ s.below pid t (sym (set_else sets p.pid.0 pid (λ n. n - 1) n) ∙ e)
      ];
    }

-- a process more
pub shown_process : (valid : Place → Option Frame) (d : FrameTable) (sets : List ResidentSet) (new : ResidentSet) → new.resident ≡ 0 → Shown valid d sets → Shown valid d (sets ++ new ∷ [])
shown_process valid d sets new e s = record {
  places = s.places;
  once = s.once;
  shares = s.shares;
  resident = λ pid. s.resident pid ∙ sym (residents_more sets new pid e);
  fits = s.fits;
  below = λ pid t h. elim (set_more sets new t pid h) [
    | inl old ↦ s.below pid t old
    | inr same ↦ subst (λ (x : ResidentSet). x.resident ≤ x.max) same (omega (arith, e))
  ];
}
