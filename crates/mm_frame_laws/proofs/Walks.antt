-- The walk over the modified list, and the unmaps after it.
use Rattle.std.proofs.Common.{◌≡◌, ◌≢◌, ◌⊎◌, ℕ, Bool, true, false, cond, not, List, [], ◌∷◌, ◌++◌, Option, refl, sym, ap, ◌∙◌, subst, inl, inr, append_assoc, arith, ◌+◌, ◌≤◌, length, Some, None}
use Rattle.std.specs.Prelude.{◌==◌, ◌&&◌, ◌||◌, option_map, unwrap_or}
use Rattle.std.specs.List.{list_any}
use Rattle.std.specs.Cmp.{unsigned_Decides}
use Rattle.std.proofs.lemmas.Bool.{or_left, or_right, or_cases, eqb-true}
use Rattle.std.proofs.lemmas.List.{append-nil}
pub use Rattle.std.proofs.lemmas.List.Folds.{list_any-append as any_append}
use Rattle.mm_types.proofs.{same_or_not, untried_not, not_true}
pub use Rattle.mm_types.proofs.Booleans.{or_false as or_none}
use Rattle.mm_types.specs.{IsMachine, Frame, Key, Place, Stored, Move, MachineOf}
use Rattle.mm_move_rules.specs.{record_at, is_on, without, FrameLife, IsLegal, is_short, owner_is, can_be_written, may_go, is_access, after_move, Replays}
use Rattle.mm_move_rules.specs.{Ages, IsVictim}
use Rattle.mm_move_laws.specs.{one_if, times, at_end_if, valid_places}
use Rattle.mm_move_laws.specs.Sound.{Sound}
use Rattle.mm_frame_laws.specs.{NoneMayGo, Writable, IsWithinDepth, is_last, SameWriters, Unmapped, after_failed, list_in_search, is_lost_of, lost_in}
use Rattle.mm_frame_laws.specs.{failed_write, AllWritesFailed, MissedBut, with_modified, Walking, Emptying, put_last, first_passing, is_untried}
use Rattle.mm_frame_laws.specs.{next_try, written_by, open_write, IsUnmap, AreSteps, InOrder, InWalk}
use Rattle.mm_frame_laws.proofs.Counting.{room}
use Rattle.mm_move_laws.proofs.{tally-append, without_none, without_append, without_self, modified_frame, keeps, kept_along, times_on, has_shares}
use Rattle.mm_frame_laws.proofs.Writing.{failed, unmapped, unmap_legal, lost_legal}
use Rattle.mm_move_rules.proofs.{replays_then}
use Rattle.mm_types.specs.declared.moves.Move.TheVariants as move

-- ---- the list in the walk

pub walk_lost : (passed left lost : List ℕ) (f : ℕ) → times f (list_in_search passed (f ∷ left) lost) ≡ 1 → without f (list_in_search passed (f ∷ left) lost) ++ f ∷ [] ≡ list_in_search passed left (lost ++ f ∷ [])
walk_lost passed left lost f once =
    let a = tally-append (λ x. x == f) passed (f ∷ (left ++ lost)) in
    let one : one_if (f == f) ≡ 1 = ap one_if ((unsigned_Decides f f).1 refl) in
    let p : without f passed ≡ passed = without_none f passed (omega (arith, once, a, one)) in
    let q : without f (left ++ lost) ≡ left ++ lost = without_none f (left ++ lost) (omega (arith, once, a, one)) in
    let e : without f (list_in_search passed (f ∷ left) lost) ≡ passed ++ (left ++ lost) =
    without_append f passed (f ∷ (left ++ lost)) ∙ (ap (λ (ys : List ℕ). without f passed ++ ys) (without_self f (left ++ lost) ∙ q) ∙ ap (λ (ys : List ℕ). ys ++ (left ++ lost)) p) in
    ap (λ (ys : List ℕ). ys ++ f ∷ []) e ∙ (append_assoc passed (left ++ lost) (f ∷ []) ∙ ap (λ (ys : List ℕ). passed ++ ys) (append_assoc left lost (f ∷ [])))

-- ---- lists and moves

pub on_append : (g : ℕ) (xs ys : List ℕ) → is_on g (xs ++ ys) ≡ is_on g xs || is_on g ys
on_append g xs ys = any_append (λ x. x == g) xs ys

pub on_push : (g f : ℕ) (xs : List ℕ) → is_on g (xs ++ f ∷ []) ≡ true → (is_on g xs ≡ true) ⊎ (g ≡ f)
on_push g f xs e = elim (or_cases (is_on g xs) (is_on g (f ∷ [])) (sym (on_append g xs (f ∷ [])) ∙ e)) [ inl h ↦ inl h | inr h ↦ inr ((sym (eqb-true f g (sym (or_none (f == g)) ∙ h)))) ]

pub on_last : (f : ℕ) (xs : List ℕ) → is_on f (xs ++ f ∷ []) ≡ true
on_last f xs = on_append f xs (f ∷ []) ∙ or_right (is_on f xs) ((f == f) || false) (or_left (f == f) false ((unsigned_Decides f f).1 refl))

on_without : (g f : ℕ) (xs : List ℕ) → is_on g (without f xs) ≡ true → is_on g xs ≡ true
on_without g f [] e = cc
on_without g f (x ∷ xs) e = at (x == f) e (on_without g f xs)
  where
    at : (b : Bool) → is_on g (cond (not b) (x ∷ without f xs) (without f xs)) ≡ true → (is_on g (without f xs) ≡ true → is_on g xs ≡ true) → ((x == g) || is_on g xs) ≡ true
    at true h k = or_right (x == g) (is_on g xs) (k h)
    at false h k = elim (or_cases (x == g) (is_on g (without f xs)) h) [ inl a ↦ or_left (x == g) (is_on g xs) a | inr a ↦ or_right (x == g) (is_on g xs) (k a) ]

pub on_left : (g f : ℕ) (xs : List ℕ) → g ≢ f → is_on g xs ≡ true → is_on g (without f xs) ≡ true
on_left g f [] n e = cc
on_left g f (x ∷ xs) n e = at (x == f) refl e (on_left g f xs n)
  where
    at : (b : Bool) → (x == f) ≡ b → ((x == g) || is_on g xs) ≡ true → (is_on g xs ≡ true → is_on g (without f xs) ≡ true) → is_on g (cond (not b) (x ∷ without f xs) (without f xs)) ≡ true
    at true h i k = elim (or_cases (x == g) (is_on g xs) i) [
      | inl a ↦ absurd (n (sym (eqb-true x g a) ∙ eqb-true x f h))
      | inr a ↦ k a
    ]
    at false h i k = elim (or_cases (x == g) (is_on g xs) i) [
      | inl a ↦ or_left (x == g) (is_on g (without f xs)) a
      | inr a ↦ or_right (x == g) (is_on g (without f xs)) (k a)
    ]

pub lost_still : (moves more : List Move) (g : ℕ) → lost_in moves g ≡ true → lost_in (moves ++ more) g ≡ true
lost_still moves more g e = any_append (λ m. is_lost_of g m) moves more ∙ or_left (lost_in moves g) (lost_in more g) e

pub lost_now : (moves : List Move) (f : Frame) (home : Stored) → lost_in (moves ++ failed_write f home) f.0 ≡ true
lost_now moves f home = any_append (λ m. is_lost_of f.0 m) moves (failed_write f home) ∙ or_right (lost_in moves f.0) (lost_in (failed_write f home) f.0)
    (or_left (f.0 == f.0) false ((unsigned_Decides f.0 f.0).1 refl))

-- ---- the walk

pub walk_begins : (l : FrameLife) → Walking l l [] l.frames.modified [] []
walk_begins l = record {
  now = λ i. with_modified l (sym (append-nil l.frames.modified) i);
  over = λ g e. cc;
  tried = λ g e. cc;
}

-- which frames can be written does not hang on the list
pub writes_same : (start l : FrameLife) (xs : List ℕ) → l ≡ with_modified start xs → (g : ℕ) → can_be_written l g ≡ can_be_written start g
writes_same start l xs e g = ap (λ (k : FrameLife). can_be_written k g) e

-- the next frames cannot be written
pub walk_passes_all : (start l : FrameLife) (passed more left lost : List ℕ) (moves : List Move) → Walking start l passed (more ++ left) lost moves → ((g : ℕ) → is_on g more ≡ true → can_be_written l g ≡ false) → Walking start l (passed ++ more) left lost moves
walk_passes_all start l passed more left lost moves w bars = record {
  now = w.now ∙ (λ i. with_modified start (list i));
  over = λ g e. elim (or_cases (is_on g passed) (is_on g more) (sym (on_append g passed more) ∙ e)) [
    | inl h ↦ w.over g h
    | inr h ↦ sym (writes_same start l (list_in_search passed (more ++ left) lost) w.now g) ∙ bars g h
  ];
  tried = w.tried;
}
  where
    list : list_in_search passed (more ++ left) lost ≡ list_in_search (passed ++ more) left lost
    list = ap (λ (xs : List ℕ). passed ++ xs) (append_assoc more left lost) ∙ sym (append_assoc passed more (left ++ lost))

module _ (start l : FrameLife) (passed left lost : List ℕ) (moves : List Move) (f : Frame) (w : Walking start l passed (f.0 ∷ left) lost moves) where
  -- the next frame is on the list
  pub walk_on : is_on f.0 l.frames.modified ≡ true
  walk_on =
      ap (λ (k : FrameLife). is_on f.0 k.frames.modified) w.now
      ∙ (on_append f.0 passed (f.0 ∷ (left ++ lost)) ∙ or_right (is_on f.0 passed) (is_on f.0 (f.0 ∷ (left ++ lost))) (or_left (f.0 == f.0) (is_on f.0 (left ++ lost)) ((unsigned_Decides f.0 f.0).1 refl)))

  -- it cannot be written
  pub walk_passes : can_be_written l f.0 ≡ false → Walking start l (passed ++ f.0 ∷ []) left lost moves
  walk_passes bars = record {
    now = w.now ∙ (λ i. with_modified start (sym ((append_assoc passed (f.0 ∷ []) (left ++ lost))) i));
    over = λ g e. elim (on_push g f.0 passed e) [
      | inl h ↦ w.over g h
      | inr h ↦ ap (can_be_written start) h ∙ (sym (writes_same start l (list_in_search passed (f.0 ∷ left) lost) w.now f.0) ∙ bars)
    ];
    tried = w.tried;
  }

  -- its write failed
  pub walk_fails : Sound l → (home : Stored) → IsLegal (move.Write f home) l → Walking start (after_failed l f home) passed left (lost ++ f.0 ∷ []) (moves ++ failed_write f home)
  walk_fails s home legal =
      let list : l.frames.modified ≡ list_in_search passed (f.0 ∷ left) lost = ap (λ (k : FrameLife). k.frames.modified) w.now in
      let once = sym (ap (λ (xs : List ℕ). times f.0 xs) list) ∙ (modified_frame l s f.0 walk_on).once in
      let moved : without f.0 l.frames.modified ++ f.0 ∷ [] ≡ list_in_search passed left (lost ++ f.0 ∷ []) = ap (λ (xs : List ℕ). without f.0 xs ++ f.0 ∷ []) list ∙ walk_lost passed left lost f.0 once in
      record {
        now = failed l s f walk_on home legal ∙ ((λ i. with_modified l (moved i)) ∙ (λ i. with_modified (w.now i) (list_in_search passed left (lost ++ f.0 ∷ []))));
        over = w.over;
        tried = λ g e. elim (on_push g f.0 lost e) [
          | inl h ↦ lost_still moves (failed_write f home) g (w.tried g h)
          | inr h ↦ ap (lost_in (moves ++ failed_write f home)) h ∙ lost_now moves f home
        ];
      }

-- after the walk each modified frame that can be written was tried
pub walk_ends : (start l : FrameLife) (passed lost : List ℕ) (moves : List Move) → Walking start l passed [] lost moves → AllWritesFailed l moves
walk_ends start l passed lost moves w = λ g on can.
    let listed = sym (on_append g passed lost) ∙ (sym (ap (λ (k : FrameLife). is_on g k.frames.modified) w.now) ∙ on) in
    elim (or_cases (is_on g passed) (is_on g lost) listed) [
      | inl h ↦ let bad : true ≡ false = sym can ∙ (writes_same start l (list_in_search passed [] lost) w.now g ∙ w.over g h) in cc
      | inr h ↦ w.tried g h
    ]

-- ---- unmaps

pub writers_same : (l m : FrameLife) → SameWriters l m → (g : ℕ) → can_be_written m g ≡ can_be_written l g
writers_same l m w g =
    ap (λ (o : Option Key). unwrap_or (option_map (λ k. not (m.paging k)) o) false || list_any (λ b. b) m.free_slots) (w.owners g)
    ∙ (ap (λ (p : Key → Bool). unwrap_or (option_map (λ k. not (p k)) (record_at l.frames g).owner) false || list_any (λ b. b) m.free_slots) w.paging
    ∙ ap (λ (bs : List Bool). can_or l g bs) w.free_slots)
  where
    can_or : FrameLife → ℕ → List Bool → Bool
    can_or l g bs = owner_is (λ k. not (l.paging k)) (record_at l.frames g) || list_any (λ b. b) bs

module _ (l m : FrameLife) (place : Place) (f : ℕ) (u : Unmapped l m place f) where
  on_joined : (b : Bool) (xs : List ℕ) (g : ℕ) → g ≢ f → is_on g (at_end_if b f xs) ≡ true → is_on g xs ≡ true
  on_joined true xs g n e = elim (on_push g f xs e) [ inl h ↦ h | inr h ↦ absurd (n h) ]
  on_joined false xs g n e = e

  -- all but the frame of the place were tried as before
  pub unmap_but : (moves more : List Move) → AllWritesFailed l moves → MissedBut f m (moves ++ more)
  unmap_but moves more h = λ g n on can.
      let was = on_joined (is_last (record_at l.frames f) && (record_at l.frames f).changed) l.frames.modified g n (sym (ap (is_on g) u.lists.modified) ∙ on) in
      lost_still moves more g (h g was (sym (writers_same l m u.writers g) ∙ can))

-- the frame is not modified, or cannot be written
pub but_none : (f : ℕ) (m : FrameLife) (moves : List Move) → MissedBut f m moves → (is_on f m.frames.modified ≡ true → can_be_written m f ≡ false) → AllWritesFailed m moves
but_none f m moves h bars = λ g on can. elim (same_or_not g f) [
  | inl e ↦
      let bad : true ≡ false = sym can ∙ (ap (can_be_written m) e ∙ bars (sym (ap (λ (k : ℕ). is_on k m.frames.modified) e) ∙ on)) in cc
  | inr n ↦ h g n on can
]

-- its write failed
pub but_failed : (f : Frame) (m : FrameLife) (s : Sound m) (moves : List Move) → is_on f.0 m.frames.modified ≡ true → MissedBut f.0 m moves → (home : Stored) → IsLegal (move.Write f home) m → AllWritesFailed (after_failed m f home) (moves ++ failed_write f home)
but_failed f m s moves on h home legal =
    subst (λ (k : FrameLife). AllWritesFailed k (moves ++ failed_write f home)) (sym (failed m s f on home legal)) (λ g i can. elim (same_or_not g f.0) [
      | inl e ↦ ap (lost_in (moves ++ failed_write f home)) e ∙ lost_now moves f home
      | inr n ↦ elim (on_push g f.0 (without f.0 m.frames.modified) i) [
        | inl a ↦ lost_still moves (failed_write f home) g (h g n (on_without g f.0 m.frames.modified a) can)
        | inr a ↦ absurd (n a)
      ]
    ])

-- ---- the end

-- a frame on a list that passes, or none does
search_on : (test : ℕ → Bool) (xs : List ℕ) → ((x : ℕ) × ((is_on x xs ≡ true) × (test x ≡ true))) ⊎ ((x : ℕ) → is_on x xs ≡ true → test x ≡ false)
search_on test [] = inr (λ x e. cc)
search_on test (y ∷ xs) = elim (test y) as (λ b. test y ≡ b → ((x : ℕ) × ((((y == x) || is_on x xs) ≡ true) × (test x ≡ true))) ⊎ ((x : ℕ) → ((y == x) || is_on x xs) ≡ true → test x ≡ false)) [
  | true ↦ λ e. inl (y, (or_left (y == y) (is_on y xs) ((unsigned_Decides y y).1 refl), e))
  | false ↦ λ e. elim (search_on test xs) [
    | inl h ↦ inl (h.0, (or_right (y == h.0) (is_on h.0 xs) h.1.0, h.1.1))
    | inr h ↦ inr (λ x i. elim (or_cases (y == x) (is_on x xs) i) [
      | inl a ↦ ap test (sym (eqb-true y x a)) ∙ e
      | inr a ↦ h x a
    ])
  ]
] refl

module _ (l : FrameLife) (s : Sound l) (pinned : Option Frame) (short : is_short l ≡ true) (machine : IsMachine l.machine) (few : IsWithinDepth l) where
  -- a frame can be written, or a place may go
  pub either : ((f : ℕ) × Writable l f) ⊎ ((place : Place) × (may_go l pinned place ≡ true))
  either = elim (search_on (can_be_written l) l.frames.modified) [
    | inl h ↦ inl (h.0, record { modified = h.1.0; can = h.1.1 })
    | inr h ↦ inr (room l s pinned short machine few h)
  ]

  -- a search that ends without a frame had a write that failed
  pub ends_with_lost : (moves : List Move) → AllWritesFailed l moves → NoneMayGo l pinned → (f : ℕ) × (lost_in moves f ≡ true)
  ends_with_lost moves missed none = elim either [
    | inl h ↦ (h.0, missed h.0 h.1.modified h.1.can)
    | inr h ↦ (let bad : true ≡ false = sym h.1 ∙ none h.0 in cc)
  ]

-- ---- the turns of a search: a place is unmapped, and its frame written where it can be

-- after the walk
pub walk_then : (start l : FrameLife) (passed lost : List ℕ) (moves : List Move) → Walking start l passed [] lost moves → Replays moves start l → IsMachine l.machine → is_access l.kind ≡ true → is_short l ≡ true → IsWithinDepth l → Emptying start l moves
walk_then start l passed lost moves w r machine access short few = assumption (walk_ends start l passed lost moves w)

module _ (start l : FrameLife) (begun : Sound start) (moves : List Move) (e : Emptying start l moves) where
  sound : Sound l
  sound = kept_along moves start l begun e.replays

  module _ (place : Place) (f : Frame) (there : l.valid place ≡ Some f) where
    abbrev m : FrameLife
    m = after_move l (move.Unmap place)

    u : Unmapped l m place f.0
    u = unmapped l sound place f there

    legal : IsLegal (move.Unmap place) l
    legal = unmap_legal l place f e.access e.short there

    sound_now : Sound m
    sound_now = keeps (move.Unmap place) l sound legal

    access_now : is_access m.kind ≡ true
    access_now = ap is_access u.kind ∙ e.access

    few_now : IsWithinDepth m
    few_now = omega (arith, ap (λ (q : List ℕ). length q) u.flight, ap (λ (k : MachineOf). k.depth) u.machine, e.few)

    -- no frame came of it, and its own is not modified or cannot be written
    pub turn_kept : is_short m ≡ true → (is_on f.0 m.frames.modified ≡ true → can_be_written m f.0 ≡ false) → Emptying start m (moves ++ move.Unmap place ∷ [])
    turn_kept short bars = record {
      replays = replays_then moves (move.Unmap place ∷ []) start l m e.replays (legal, refl);
      machine = subst IsMachine (sym u.machine) e.machine;
      access = access_now;
      short = short;
      few = few_now;
      missed = but_none f.0 m (moves ++ move.Unmap place ∷ []) (unmap_but l m place f.0 u moves (move.Unmap place ∷ []) e.missed) bars;
    }

    -- its write failed
    pub turn_failed : is_short m ≡ true → is_on f.0 m.frames.modified ≡ true → (home : Stored) → IsLegal (move.Write f home) m → Emptying start (after_failed m f home) (moves ++ move.Unmap place ∷ failed_write f home)
    turn_failed short on home writes =
        let same = failed m sound_now f on home writes in
        record {
          replays = replays_then moves (move.Unmap place ∷ failed_write f home) start l (after_failed m f home) e.replays (legal, (writes, (lost_legal m sound_now f on home access_now, refl)));
          machine = subst (λ (k : FrameLife). IsMachine k.machine) (sym same) (subst IsMachine (sym u.machine) e.machine);
          access = ap (λ (k : FrameLife). is_access k.kind) same ∙ access_now;
          short = ap (λ (k : FrameLife). is_short k) same ∙ short;
          few = subst (λ (k : FrameLife). length k.flight ≤ k.machine.depth) (sym same) few_now;
          missed = subst (λ (xs : List Move). AllWritesFailed (after_failed m f home) xs) (append_assoc moves (move.Unmap place ∷ []) (failed_write f home))
              (but_failed f m sound_now (moves ++ move.Unmap place ∷ []) on (unmap_but l m place f.0 u moves (move.Unmap place ∷ []) e.missed) home writes);
        }

    -- fewer places are valid after each turn
    pub turn_fewer : valid_places m + 1 ≡ valid_places l
    turn_fewer = u.fewer

    pub turn_failed_fewer : is_on f.0 m.frames.modified ≡ true → (home : Stored) → IsLegal (move.Write f home) m → valid_places (after_failed m f home) + 1 ≡ valid_places l
    turn_failed_fewer on home writes = ap (λ (k : FrameLife). valid_places k + 1) (failed m sound_now f on home writes) ∙ u.fewer

  -- where no place may go a write failed
  pub turns_end : (pinned : Option Frame) → NoneMayGo l pinned → (f : ℕ) × (lost_in moves f ≡ true)
  turns_end pinned none = ends_with_lost l sound pinned e.short e.machine e.few moves e.missed none

-- ---- a search makes its moves in its order

-- ---- the first that passes

pub passes_first : (test : ℕ → Bool) (xs rest : List ℕ) (f : ℕ) → ((x : ℕ) → is_on x xs ≡ true → test x ≡ false) → test f ≡ true → first_passing test (xs ++ (f ∷ rest)) ≡ Some f
passes_first test [] rest f none here = ap (λ b. cond b (Some f) (first_passing test rest)) here
passes_first test (x ∷ xs) rest f none here =
    ap (λ b. cond b (Some x) (first_passing test (xs ++ (f ∷ rest)))) (none x (or_left (x == x) (is_on x xs) ((unsigned_Decides x x).1 refl)))
    ∙ passes_first test xs rest f (λ y h. none y (or_right (x == y) (is_on y xs) h)) here

pub passes_none : (test : ℕ → Bool) (xs : List ℕ) → ((x : ℕ) → is_on x xs ≡ true → test x ≡ false) → first_passing test xs ≡ None
passes_none test [] none = refl
passes_none test (x ∷ xs) none =
    ap (λ b. cond b (Some x) (first_passing test xs)) (none x (or_left (x == x) (is_on x xs) ((unsigned_Decides x x).1 refl))) ∙ passes_none test xs (λ y h. none y (or_right (x == y) (is_on y xs) h))

-- ---- moves in a row

pub steps_then : (l m : FrameLife) (ages : Ages) (pinned : Option Frame) (made xs ys : List Move) → AreSteps l ages pinned made xs → Replays xs l m → AreSteps m ages pinned (made ++ xs) ys → AreSteps l ages pinned made (xs ++ ys)
steps_then l m ages pinned made [] ys a r b = subst (λ (k : FrameLife). AreSteps k ages pinned made ys) r (subst (λ (zs : List Move). AreSteps m ages pinned zs ys) (append-nil made) b)
steps_then l m ages pinned made (x ∷ xs) ys a r b =
    (a.0, steps_then (after_move l x) m ages pinned (made ++ x ∷ []) xs ys a.1 r.1 (subst (λ (zs : List Move). AreSteps m ages pinned zs ys) (sym (append_assoc made (x ∷ []) xs)) b))

-- the last move
open_push : (made : List Move) (x : Move) → open_write (made ++ x ∷ []) ≡ written_by x
open_push (y ∷ z ∷ rest) x = open_push (z ∷ rest) x
open_push _ x = refl

open_failed : (made : List Move) (f : Frame) (home : Stored) → open_write (made ++ failed_write f home) ≡ None
open_failed made f home = ap open_write (sym (append_assoc made (move.Write f home ∷ []) (move.Lost f ∷ []))) ∙ open_push (made ++ move.Write f home ∷ []) (move.Lost f)

-- failed writes among more moves
pub lost_more : (moves : List Move) (f : Frame) (home : Stored) (g : ℕ) → lost_in (moves ++ failed_write f home) g ≡ true → (lost_in moves g ≡ true) ⊎ (g ≡ f.0)
lost_more moves f home g h = at (lost_in moves g) refl (sym (any_append (λ m. is_lost_of g m) moves (failed_write f home)) ∙ h)
  where
    at : (b : Bool) → lost_in moves g ≡ b → (b || lost_in (failed_write f home) g) ≡ true → (lost_in moves g ≡ true) ⊎ (g ≡ f.0)
    at true e k = inl e
    at false e k = inr (sym ((unsigned_Decides f.0 g).0 (sym (or_none (f.0 == g)) ∙ k)))

pub not_lost : (moves : List Move) (place : Place) (g : ℕ) → lost_in (moves ++ move.Unmap place ∷ []) g ≡ lost_in moves g
not_lost moves place g = any_append (λ m. is_lost_of g m) moves (move.Unmap place ∷ []) ∙ or_none (lost_in moves g)

-- ---- the walk

pub walk_in : (l : FrameLife) (ages : Ages) (pinned : Option Frame) → InWalk l ages pinned [] []
walk_in l ages pinned = record { steps = tt; closed = refl; only = λ g h. h }

module _ (start l : FrameLife) (ages : Ages) (pinned : Option Frame) (passed left lost : List ℕ) (moves : List Move) (f : Frame) (w : Walking start l passed (f.0 ∷ left) lost moves) (o : InWalk start ages pinned lost moves) (s : Sound l) (r : Replays moves start l) (can : can_be_written l f.0 ≡ true) where
  -- it was not tried
  fresh : lost_in moves f.0 ≡ false
  fresh = not_true (lost_in moves f.0) (λ h.
      let list : l.frames.modified ≡ list_in_search passed (f.0 ∷ left) lost = ap (λ (k : FrameLife). k.frames.modified) w.now in
      let once = sym (ap (λ (xs : List ℕ). times f.0 xs) list) ∙ (modified_frame l s f.0 (walk_on start l passed left lost moves f w)).once in
      let one : one_if (f.0 == f.0) ≡ 1 = ap one_if ((unsigned_Decides f.0 f.0).1 refl) in
      let more = times_on f.0 lost (o.only f.0 h) in
      absurd (omega (arith, once, tally-append (λ x. x == f.0) passed (f.0 ∷ (left ++ lost)), tally-append (λ x. x == f.0) left lost, one, more)))

  tries : next_try l moves ≡ Some f.0
  tries =
      ap (λ (xs : List ℕ). first_passing (is_untried l moves) xs) (ap (λ (k : FrameLife). k.frames.modified) w.now)
      ∙ passes_first (is_untried l moves) passed (left ++ lost) f.0
      (λ x h. ap (λ b. b && not (lost_in moves x)) (writes_same start l (list_in_search passed (f.0 ∷ left) lost) w.now x ∙ w.over x h))
      (ap (λ b. b && not (lost_in moves f.0)) can ∙ ap not fresh)

  -- its write failed
  pub walk_failed_in : (home : Stored) → InWalk start ages pinned (lost ++ f.0 ∷ []) (moves ++ failed_write f home)
  walk_failed_in home = record {
    steps = steps_then start l ages pinned [] moves (failed_write f home) o.steps r (record { closed = o.closed; next = tries }, (open_push moves (move.Write f home), tt));
    closed = open_failed moves f home;
    only = λ g h. elim (lost_more moves f home g h) [
      | inl a ↦ on_append g lost (f.0 ∷ []) ∙ or_left (is_on g lost) (is_on g (f.0 ∷ [])) (o.only g a)
      | inr a ↦ ap (λ (k : ℕ). is_on k (lost ++ f.0 ∷ [])) a ∙ on_last f.0 lost
    ];
  }

  -- it was written
  pub walk_wrote_in : (home : Stored) → AreSteps start ages pinned [] (moves ++ move.Write f home ∷ move.Wrote f ∷ [])
  walk_wrote_in home = steps_then start l ages pinned [] moves (move.Write f home ∷ move.Wrote f ∷ []) o.steps r (record { closed = o.closed; next = tries }, (open_push moves (move.Write f home), tt))

pub walk_ends_in : (start l : FrameLife) (ages : Ages) (pinned : Option Frame) (passed lost : List ℕ) (moves : List Move) → Walking start l passed [] lost moves → InWalk start ages pinned lost moves → InOrder start l ages pinned moves
walk_ends_in start l ages pinned passed lost moves w o = record {
  steps = o.steps;
  closed = o.closed;
  listed = λ g h. ap (λ (k : FrameLife). is_on g k.frames.modified) w.now ∙ (on_append g passed lost ∙ or_right (is_on g passed) (is_on g lost) (o.only g h));
}

-- ---- the unmaps

module _ (start l : FrameLife) (ages : Ages) (pinned : Option Frame) (moves : List Move) (begun : Sound start) (e : Emptying start l moves) (o : InOrder start l ages pinned moves) (place : Place) (f : Frame) (there : l.valid place ≡ Some f) (victim : IsVictim l ages pinned place) where
  sound_left : Sound l
  sound_left = kept_along moves start l begun e.replays

  abbrev later : FrameLife
  later = after_move l (move.Unmap place)

  gone : Unmapped l later place f.0
  gone = unmapped l sound_left place f there

  none_left : next_try l moves ≡ None
  none_left = passes_none (is_untried l moves) l.frames.modified (λ x h. untried_not (can_be_written l x) (lost_in moves x) (e.missed x h))

  unmaps : IsUnmap l ages pinned moves place
  unmaps = record { closed = o.closed; none = none_left; victim = victim }

  -- the place's frame is not on the list
  off_list : is_on f.0 l.frames.modified ≡ false
  off_list = not_true (is_on f.0 l.frames.modified) (λ h.
      absurd (omega (arith, (modified_frame l sound_left f.0 h).unshared, has_shares l.valid l.frames l.sets sound_left.shown place f there)))

  stays_on : (g : ℕ) → is_on g l.frames.modified ≡ true → is_on g later.frames.modified ≡ true
  stays_on g h = ap (is_on g) gone.lists.modified ∙ at (is_last (record_at l.frames f.0) && (record_at l.frames f.0).changed)
    where
      at : (b : Bool) → is_on g (at_end_if b f.0 l.frames.modified) ≡ true
      at true = on_append g l.frames.modified (f.0 ∷ []) ∙ or_left (is_on g l.frames.modified) (is_on g (f.0 ∷ [])) h
      at false = h

  pub turn_in : InOrder start later ages pinned (moves ++ move.Unmap place ∷ [])
  turn_in = record {
    steps = steps_then start l ages pinned [] moves (move.Unmap place ∷ []) o.steps e.replays (unmaps, tt);
    closed = open_push moves (move.Unmap place);
    listed = λ g h. stays_on g (o.listed g (sym (not_lost moves place g) ∙ h));
  }

  module _ (on : is_on f.0 later.frames.modified ≡ true) (can : can_be_written later f.0 ≡ true) where
    list_now : later.frames.modified ≡ l.frames.modified ++ f.0 ∷ []
    list_now = gone.lists.modified ∙ at (is_last (record_at l.frames f.0) && (record_at l.frames f.0).changed) (sym (ap (is_on f.0) gone.lists.modified) ∙ on)
      where
        at : (b : Bool) → is_on f.0 (at_end_if b f.0 l.frames.modified) ≡ true → at_end_if b f.0 l.frames.modified ≡ l.frames.modified ++ f.0 ∷ []
        at true h = refl
        at false h = let bad : true ≡ false = sym h ∙ off_list in cc

    fresh_now : lost_in (moves ++ move.Unmap place ∷ []) f.0 ≡ false
    fresh_now = not_lost moves place f.0 ∙ not_true (lost_in moves f.0) (λ h. let bad : true ≡ false = sym (o.listed f.0 h) ∙ off_list in cc)

    tries_now : next_try later (moves ++ move.Unmap place ∷ []) ≡ Some f.0
    tries_now =
        ap (λ (xs : List ℕ). first_passing (is_untried later (moves ++ move.Unmap place ∷ [])) xs) list_now
        ∙ passes_first (is_untried later (moves ++ move.Unmap place ∷ [])) l.frames.modified [] f.0
        (λ x h. untried_not (can_be_written later x) (lost_in (moves ++ move.Unmap place ∷ []) x) (λ c. lost_still moves (move.Unmap place ∷ []) x (e.missed x h (sym (writers_same l later gone.writers x) ∙ c))))
        (ap (λ b. b && not (lost_in (moves ++ move.Unmap place ∷ []) f.0)) can ∙ ap not fresh_now)

    pub turn_wrote_in : (home : Stored) → AreSteps start ages pinned [] (moves ++ move.Unmap place ∷ move.Write f home ∷ move.Wrote f ∷ [])
    turn_wrote_in home = steps_then start l ages pinned [] moves (move.Unmap place ∷ move.Write f home ∷ move.Wrote f ∷ []) o.steps e.replays (unmaps, (record { closed = open_push moves (move.Unmap place); next = tries_now }, (open_push (moves ++ move.Unmap place ∷ []) (move.Write f home), tt)))

    pub turn_failed_in : Sound later → (home : Stored) → IsLegal (move.Write f home) later → InOrder start (after_failed later f home) ages pinned (moves ++ move.Unmap place ∷ failed_write f home)
    turn_failed_in sound_m home legal = record {
      steps = steps_then start l ages pinned [] moves (move.Unmap place ∷ failed_write f home) o.steps e.replays (unmaps, (record { closed = open_push moves (move.Unmap place); next = tries_now }, (open_push (moves ++ move.Unmap place ∷ []) (move.Write f home), tt)));
      closed = sym (ap open_write (append_assoc moves (move.Unmap place ∷ []) (failed_write f home))) ∙ open_failed (moves ++ move.Unmap place ∷ []) f home;
      listed = λ g h. ap (λ (k : FrameLife). is_on g k.frames.modified) (failed later sound_m f on home legal) ∙ last g (lost_more (moves ++ move.Unmap place ∷ []) f home g (ap (λ (xs : List Move). lost_in xs g) (append_assoc moves (move.Unmap place ∷ []) (failed_write f home)) ∙ h));
    }
      where
        last : (g : ℕ) → (lost_in (moves ++ move.Unmap place ∷ []) g ≡ true) ⊎ (g ≡ f.0) → is_on g (put_last later f.0).frames.modified ≡ true
        last g (inl h) =
            let was = o.listed g (sym (not_lost moves place g) ∙ h) in
            on_append g (without f.0 later.frames.modified) (f.0 ∷ []) ∙ or_left (is_on g (without f.0 later.frames.modified)) (is_on g (f.0 ∷ []))
            (on_left g f.0 later.frames.modified (λ z. let bad : true ≡ false = sym was ∙ (ap (λ (k : ℕ). is_on k l.frames.modified) z ∙ off_list) in cc) (stays_on g was))
        last g (inr h) = ap (λ (k : ℕ). is_on k (put_last later f.0).frames.modified) h ∙ on_last f.0 (without f.0 later.frames.modified)
