-- A search in its two phases: the walk over the modified list, and the turns.
use Rattle.std.proofs.Common.{◌≡◌, ◌⊎◌, ℕ, ◌+◌, ◌<◌, ◌≤◌, Bool, true, false, List, [], ◌∷◌, ◌++◌, length, Some, None, refl, sym, ap, ◌∙◌, subst, inl, inr, append_assoc, arith, ◌≢◌, Option}
use Rattle.std.specs.Prelude.{◌==◌, ◌&&◌, not, filter, slice_get}
use Rattle.std.specs.Cmp.{unsigned_Decides}
use Rattle.std.proofs.lemmas.Bool.{or_left, or_right}
use Rattle.mm_types.specs.{IsMachine, Frame, Place, Stored, Move, MachineOf, Record}
use Rattle.mm_types.specs.declared.moves.Move.TheVariants as move
use Rattle.mm_move_rules.specs.{record_at, is_on, without, FrameLife, IsLegal, is_access, is_thread, is_short, after_move, Replays, can_be_written}
use Rattle.mm_move_rules.specs.{after_unmap_at, walked_all, IsVictim, may_go, is_unpinned, is_frame}
use Rattle.mm_move_laws.specs.{one_if, times, at_end_if, ReachedByMoves, valid_places}
use Rattle.mm_move_laws.specs.Sound.{Sound}
use Rattle.mm_move_laws.proofs.{tally-append, times_on, reached_sound, kept_along, in_range, has_shares, modified_frame, reached_along, reached_next}
use Rattle.mm_frame_laws.specs.{IsWithinDepth, list_in_search, is_last, Unmapped, after_failed, put_last, failed_write, lost_in, Walking}
use Rattle.mm_frame_laws.specs.{first_passing, is_untried, next_try, NoneMayGo, Writable}
use Rattle.mm_frame_laws.proofs.{unmapped, failed, walk_begins as none_walked, walk_on, walk_passes_all, walk_fails, writes_same, writers_same}
use Rattle.mm_frame_laws.proofs.{on_append, on_last, on_left, lost_still, walk_then, turn_kept, turn_failed, passes_first, passes_none, lost_more}
use Rattle.mm_frame_laws.proofs.{not_lost, unmap_legal, turns_end}
use Rattle.mm_types.proofs.{append_nil, untried_not, not_true}
use Rattle.mm_reclaim.specs.{writable_modified, WalkedTo, SoughtTo, IsUnderWay, Tries, Over, Wrote, Seeks, AfterUnmap, Freed, Unchanged, Changed}
use Rattle.mm_reclaim.specs.{TookVictim, Walks}
use Rattle.mm_reclaim.proofs.Writing.{FirstOf, first_of, front_behind, none_passes}
use Rattle.std.proofs.Math.Logic.{∥∥₁_elim, ∥∥₁_map}
use Rattle.std.proofs.Props.{props}
use Rattle.mm_state_calls.specs.{StateOf, Made, moved, StateHolds, Searched, walk_of}
use Rattle.mm_reclaim.specs.Seeking.{Seeking}
use Rattle.mm_reclaim.proofs.Trying.{Target, Stays, begun_then, moved_called, seeks_unmapped, unmapped_found, starves, target_of, failed_on, wrote_on, two_life}
use Rattle.std.proofs.Math.Bool.{Bool-set}
use Rattle.mm_state_calls.proofs.{does_nothing}

-- ---- A search in its two phases, over the replay alone: the walk over the modified list, and the turns

-- ---- the walk

pub walk_start : (l : FrameLife) (n : ℕ) → n ≡ length (writable_modified l) → WalkedTo l l [] n 0
walk_start l n e = record {
  passed = [];
  left = l.frames.modified;
  lost = [];
  walking = none_walked l;
  only = λ g h. cc;
  count = omega (arith, e);
}

pub walk_done : (start l : FrameLife) (moves : List Move) (n i : ℕ) → n ≤ i → ReachedByMoves start → Replays moves start l → is_access start.kind ≡ true → is_short start ≡ true → IsWithinDepth start
    → WalkedTo start l moves n i → SoughtTo start l moves
walk_done start l moves n i end r replays access short few w =
    let range = in_range start r in
    let bars = none_passes (can_be_written start) w.left (let a = w.count in omega (arith, a, end)) in
    let same = w.walking.now in
    let walk : Walking start l (w.passed ++ w.left) [] w.lost moves = walk_passes_all start l w.passed w.left [] w.lost moves
    (subst (λ (xs : List ℕ). Walking start l w.passed xs w.lost moves) (sym (append_nil w.left)) w.walking)
    (λ g h. writes_same start l (list_in_search w.passed w.left w.lost) same g ∙ bars g h) in
    record {
      emptying = walk_then start l (w.passed ++ w.left) w.lost moves walk replays
          (subst (λ (k : FrameLife). IsMachine k.machine) (sym same) (range.machine (range.begun (or_left (is_access start.kind) (is_thread start.kind) access))))
          (ap (λ (k : FrameLife). is_access k.kind) same ∙ access)
          (ap (λ (k : FrameLife). is_short k) same ∙ short)
          (subst (λ (k : FrameLife). IsWithinDepth k) (sym same) few);
      listed = λ g h. ap (λ (k : FrameLife). is_on g k.frames.modified) same
          ∙ (on_append g w.passed (w.left ++ w.lost) ∙ or_right (is_on g w.passed) (is_on g (w.left ++ w.lost))
          (on_append g w.left w.lost ∙ or_right (is_on g w.left) (is_on g w.lost) (w.only g h)));
    }

module _ (start l : FrameLife) (moves : List Move) (n i : ℕ) (w : WalkedTo start l moves n i) (r : ReachedByMoves start) (replays : Replays moves start l) (low : i < n) where
  sound : Sound l
  sound = kept_along moves start l (reached_sound start r) replays

  -- which frames can be written stays in the walk
  same_test : (g : ℕ) → can_be_written l g ≡ can_be_written start g
  same_test g = writes_same start l (list_in_search w.passed w.left w.lost) w.walking.now g

  next : FirstOf (can_be_written start) w.left
  next = first_of (can_be_written start) w.left (let a = w.count in omega (arith, a, low))

  front_is : slice_get (writable_modified l) 0 ≡ Some next.first
  front_is =
      ap (λ (k : FrameLife). slice_get (filter (can_be_written k) k.frames.modified) 0) w.walking.now
      ∙ ap (λ (xs : List ℕ). slice_get xs 0) (front_behind (can_be_written start) w.passed (w.left ++ w.lost) w.walking.over)
      ∙ next.front w.lost

  pub not_none : None ≡ slice_get (writable_modified l) 0 → ⊥
  not_none e = let bad : None ≡ Some next.first = e ∙ front_is in cc

  module _ (f : Frame) (is_front : Some f.0 ≡ slice_get (writable_modified l) 0) where
    same_frame : next.first ≡ f.0
    same_frame = let both : Some next.first ≡ Some f.0 = sym front_is ∙ sym is_front in cc

    abbrev before : List ℕ
    before = w.passed ++ next.more

    walking : Walking start l before (f.0 ∷ next.behind) w.lost moves
    walking = walk_passes_all start l w.passed next.more (f.0 ∷ next.behind) w.lost moves
        (subst (λ (xs : List ℕ). Walking start l w.passed xs w.lost moves) (next.is ∙ ap (λ (x : ℕ). next.more ++ (x ∷ next.behind)) same_frame) w.walking)
        (λ g h. same_test g ∙ next.none g h)

    list : l.frames.modified ≡ list_in_search before (f.0 ∷ next.behind) w.lost
    list = ap (λ (k : FrameLife). k.frames.modified) walking.now

    pub on_list : is_on f.0 l.frames.modified ≡ true
    on_list = walk_on start l before next.behind w.lost moves f walking

    pub can : can_be_written l f.0 ≡ true
    can = same_test f.0 ∙ ap (can_be_written start) (sym same_frame) ∙ next.passes

    -- it was not tried, and is the next
    fresh : lost_in moves f.0 ≡ false
    fresh = not_true (lost_in moves f.0) (λ h.
        let on = w.only f.0 h in
        let once = sym (ap (λ (xs : List ℕ). times f.0 xs) list) ∙ (modified_frame l sound f.0 on_list).once in
        let a = tally-append (λ x. x == f.0) before (f.0 ∷ (next.behind ++ w.lost)) in
        let b = tally-append (λ x. x == f.0) next.behind w.lost in
        let one : one_if (f.0 == f.0) ≡ 1 = ap one_if ((unsigned_Decides f.0 f.0).1 refl) in
        let more = times_on f.0 w.lost on in
        absurd (omega (arith, once, a, b, one, more)))

    pub tries : next_try l moves ≡ Some f.0
    tries =
        ap (λ (xs : List ℕ). first_passing (is_untried l moves) xs) list
        ∙ passes_first (is_untried l moves) before (next.behind ++ w.lost) f.0
        (λ x h. ap (λ b. b && not (lost_in moves x)) (same_test x ∙ walking.over x h))
        (ap (λ b. b && not (lost_in moves f.0)) can ∙ ap not fresh)

    pub walk_lost : (home : Stored) (m : FrameLife) → IsLegal (move.Write f home) l → m ≡ after_failed l f home → WalkedTo start m (moves ++ failed_write f home) n (i + 1)
    walk_lost home m legal same = record {
      passed = before;
      left = next.behind;
      lost = w.lost ++ f.0 ∷ [];
      walking = subst (λ (k : FrameLife). Walking start k before next.behind (w.lost ++ f.0 ∷ []) (moves ++ failed_write f home)) (sym same) (walk_fails start l before next.behind w.lost moves f walking sound home legal);
      only = λ g h. elim (lost_more moves f home g h) [
        | inl a ↦ on_append g w.lost (f.0 ∷ []) ∙ or_left (is_on g w.lost) (is_on g (f.0 ∷ [])) (w.only g a)
        | inr a ↦ ap (λ (k : ℕ). is_on k (w.lost ++ f.0 ∷ [])) a ∙ on_last f.0 w.lost
      ];
      count = let a = w.count in let b = next.fewer in omega (arith, a, b);
    }

-- ---- the turns

module _ (start l : FrameLife) (moves : List Move) (begun : Sound start) (o : SoughtTo start l moves) where
  sound_turn : Sound l
  sound_turn = kept_along moves start l begun o.emptying.replays

  pub none_left : next_try l moves ≡ None
  none_left = passes_none (is_untried l moves) l.frames.modified (λ x h. untried_not (can_be_written l x) (lost_in moves x) (o.emptying.missed x h))

  module _ (place : Place) (f : Frame) (there : l.valid place ≡ Some f) where
    abbrev m : FrameLife
    m = after_move l (move.Unmap place)

    u : Unmapped l m place f.0
    u = unmapped l sound_turn place f there

    off_list : is_on f.0 l.frames.modified ≡ false
    off_list = not_true (is_on f.0 l.frames.modified) (λ h.
        let none = (modified_frame l sound_turn f.0 h).unshared in
        let some = has_shares l.valid l.frames l.sets sound_turn.shown place f there in
        absurd (omega (arith, none, some)))

    stays_on : (g : ℕ) → is_on g l.frames.modified ≡ true → is_on g m.frames.modified ≡ true
    stays_on g h = ap (is_on g) u.lists.modified ∙ at (is_last (record_at l.frames f.0) && (record_at l.frames f.0).changed)
      where
        at : (b : Bool) → is_on g (at_end_if b f.0 l.frames.modified) ≡ true
        at true = on_append g l.frames.modified (f.0 ∷ []) ∙ or_left (is_on g l.frames.modified) (is_on g (f.0 ∷ [])) h
        at false = h

    -- no frame came of it, and its own is not modified or cannot be written
    pub turn_over : is_short m ≡ true → (is_on f.0 m.frames.modified ≡ true → can_be_written m f.0 ≡ false) → SoughtTo start m (moves ++ move.Unmap place ∷ [])
    turn_over short bars = record {
      emptying = turn_kept start l begun moves o.emptying place f there short bars;
      listed = λ g h. stays_on g (o.listed g (sym (not_lost moves place g) ∙ h));
    }

    module _ (on : is_on f.0 m.frames.modified ≡ true) where
      list_now : m.frames.modified ≡ l.frames.modified ++ f.0 ∷ []
      list_now = u.lists.modified ∙ at (is_last (record_at l.frames f.0) && (record_at l.frames f.0).changed) (sym (ap (is_on f.0) u.lists.modified) ∙ on)
        where
          at : (b : Bool) → is_on f.0 (at_end_if b f.0 l.frames.modified) ≡ true → at_end_if b f.0 l.frames.modified ≡ l.frames.modified ++ f.0 ∷ []
          at true h = refl
          at false h = let bad : true ≡ false = sym h ∙ off_list in cc

      fresh_now : lost_in (moves ++ move.Unmap place ∷ []) f.0 ≡ false
      fresh_now = not_lost moves place f.0 ∙ not_true (lost_in moves f.0) (λ h. let bad : true ≡ false = sym (o.listed f.0 h) ∙ off_list in cc)

      pub tries_now : can_be_written m f.0 ≡ true → next_try m (moves ++ move.Unmap place ∷ []) ≡ Some f.0
      tries_now can =
          ap (λ (xs : List ℕ). first_passing (is_untried m (moves ++ move.Unmap place ∷ [])) xs) list_now
          ∙ passes_first (is_untried m (moves ++ move.Unmap place ∷ [])) l.frames.modified [] f.0
          (λ x h. untried_not (can_be_written m x) (lost_in (moves ++ move.Unmap place ∷ []) x) (λ c. lost_still moves (move.Unmap place ∷ []) x (o.emptying.missed x h (sym (writers_same l m u.writers x) ∙ c))))
          (ap (λ b. b && not (lost_in (moves ++ move.Unmap place ∷ []) f.0)) can ∙ ap not fresh_now)

      pub turn_lost : Sound m → is_short m ≡ true → (home : Stored) → IsLegal (move.Write f home) m → SoughtTo start (after_failed m f home) (moves ++ move.Unmap place ∷ failed_write f home)
      turn_lost sound_m short home legal = record {
        emptying = turn_failed start l begun moves o.emptying place f there short on home legal;
        listed = λ g h. ap (λ (k : FrameLife). is_on g k.frames.modified) (failed m sound_m f on home legal) ∙ last g (lost_more (moves ++ move.Unmap place ∷ []) f home g (ap (λ (xs : List Move). lost_in xs g) (append_assoc moves (move.Unmap place ∷ []) (failed_write f home)) ∙ h));
      }
        where
          last : (g : ℕ) → (lost_in (moves ++ move.Unmap place ∷ []) g ≡ true) ⊎ (g ≡ f.0) → is_on g (put_last m f.0).frames.modified ≡ true
          last g (inl h) =
              let was = o.listed g (sym (not_lost moves place g) ∙ h) in
              on_append g (without f.0 m.frames.modified) (f.0 ∷ []) ∙ or_left (is_on g (without f.0 m.frames.modified)) (is_on g (f.0 ∷ []))
              (on_left g f.0 m.frames.modified (λ z. let bad : true ≡ false = sym was ∙ (ap (λ (k : ℕ). is_on k l.frames.modified) z ∙ off_list) in cc) (stays_on g was))
          last g (inr h) = ap (λ (k : ℕ). is_on k (put_last m f.0).frames.modified) h ∙ on_last f.0 (without f.0 m.frames.modified)

-- ---- A turn of a search: a page goes, and its frame is written where it can be

pub may_unmap : (s : StateOf) (place : Place) (f : Frame) → IsUnderWay s → is_short s.life ≡ true → s.life.valid place ≡ Some f → IsLegal (move.Unmap place) s.life
may_unmap s place f begun short there = unmap_legal s.life place f begun.access short there

pub goes_some : (l : FrameLife) (pinned : Option Frame) (place : Place) → may_go l pinned place ≡ true → l.valid place ≡ None → ⊥
goes_some l pinned place goes none = let bad : false ≡ true = sym (ap (is_unpinned pinned) none) ∙ goes in cc

-- a page that may go is of a bound place
pub goes_bound : (s : StateOf) → StateHolds s → (pinned : Option Frame) (place : Place) → may_go s.life pinned place ≡ true → s.bound place ≡ true
goes_bound s h pinned place goes = at (s.life.valid place) refl
  where
    at : (o : Option Frame) → s.life.valid place ≡ o → s.bound place ≡ true
    at None e = absurd (goes_some s.life pinned place goes e)
    at (Some f) e = h.bound place f e

-- ---- what an unmap leaves

module _ (s m : StateOf) (place : Place) (f : Frame) (there : s.life.valid place ≡ Some f) (made : Made (move.Unmap place) s m) where
  life_is : m.life ≡ after_unmap_at (Some f) s.life place
  life_is = made.life ∙ ap (λ (o : Option Frame). after_unmap_at o s.life place) there

  stays : Stays s m
  stays = record {
    kind = ap (λ (l : FrameLife). l.kind) life_is;
    machine = ap (λ (l : FrameLife). l.machine) life_is;
    flight = ap (λ (l : FrameLife). l.flight) life_is;
  }

  pub begun_after : IsUnderWay s → m ≡ moved s m → IsUnderWay m
  begun_after begun rest = begun_then s m begun stays.kind stays.flight stays.machine (moved_called s m rest)

  pub low_after : StateHolds s → f.0 < m.life.machine.frames
  low_after h = subst (λ (k : MachineOf). f.0 < k.frames) (sym stays.machine) (h.low place f there)

  module _ (h : StateHolds s) where
    unmapped_here : ReachedByMoves s.life → Unmapped s.life m.life place f.0
    unmapped_here r = subst (λ (l : FrameLife). Unmapped s.life l place f.0) (sym made.life) (unmapped s.life (reached_sound s.life r) place f there)

    pub reached_after : ∥ ReachedByMoves m.life ∥₁
    reached_after = ∥∥₁_map h.reached (λ r. subst ReachedByMoves (sym made.life) (reached_next (move.Unmap place) s.life r made.legal))

    -- the pinned frame loses no share
    pub pinned_after : (pin : Option Frame) → may_go s.life pin place ≡ true → ((g : Frame) → pin ≡ Some g → 1 ≤ (record_at s.life.frames g.0).shares) → (g : Frame) → pin ≡ Some g → 1 ≤ (record_at m.life.frames g.0).shares
    pinned_after pin goes was g e = ∥∥₁_elim h.reached (hlevel props)
        (λ r. subst (λ (t : Record). 1 ≤ t.shares) (sym ((unmapped_here r).others g.0 other)) (was g e))
      where
        unpinned : not (g.0 == f.0) ≡ true
        unpinned = sym (ap (λ (o : Option Frame). not (is_frame f.0 o)) e) ∙ (sym (ap (is_unpinned pin) there) ∙ goes)

        other : g.0 ≢ f.0
        other same = let bad : false ≡ true = sym (ap not ((unsigned_Decides g.0 f.0).1 same)) ∙ unpinned in cc

    fewer_after : valid_places m.life + 1 ≡ valid_places s.life
    fewer_after = ∥∥₁_elim h.reached (hlevel props) (λ r. (unmapped_here r).fewer)

-- ---- one turn

module _ (s z : StateOf) (place : Place) (f : Frame) (h : StateHolds s) (there : s.life.valid place ≡ Some f) where
  -- one place fewer is valid
  pub turn_fewer : TookVictim place f false s z → valid_places z.life + 1 ≡ valid_places s.life
  turn_fewer t = at t.after
    where
      fewer : valid_places t.mid.life + 1 ≡ valid_places s.life
      fewer = fewer_after s t.mid place f there t.unmaps h

      at : AfterUnmap f false t.mid z → valid_places z.life + 1 ≡ valid_places s.life
      at (Freed long got same) = cc
      at (Unchanged short off miss same) = ap (λ (k : StateOf). valid_places k.life + 1) same ∙ fewer
      at (Changed short on (Over bars miss same)) = ap (λ (k : StateOf). valid_places k.life + 1) same ∙ fewer
      at (Changed short on (Wrote can w)) = ∥∥₁_elim (reached_after s t.mid place f there t.unmaps h) (hlevel props)
          (λ r. ap (λ (k : FrameLife). valid_places k + 1) (two_life f t.mid z w ∙ failed t.mid.life (reached_sound t.mid.life r) f on w.home w.begins.legal) ∙ fewer)

-- a turn of a search that has made these moves
module _ (pin : Option Frame) (s z y : StateOf) (place : Place) (f : Frame) (start : StateHolds s) (h : StateHolds z) (k : Seeking pin s z) (victim : IsVictim z.life z.ages pin place) (there : z.life.valid place ≡ Some f) where
  none_to_try : next_try z.life k.moves ≡ None
  none_to_try = ∥∥₁_elim start.reached (hlevel props) (λ r. none_left s.life z.life k.moves (reached_sound s.life r) (k.to r))

  module _ (m : StateOf) (made : Made (move.Unmap place) z m) (rest : m ≡ moved z m) where
    abbrev more : List Move
    more = k.moves ++ move.Unmap place ∷ []

    pinned_now : (g : Frame) → pin ≡ Some g → 1 ≤ (record_at m.life.frames g.0).shares
    pinned_now = pinned_after z m place f there made h pin victim.oldest.goes k.seeks.pinned

    seeks_now : is_short m.life ≡ true → Seeks pin s m more
    seeks_now short = seeks_unmapped pin s z m k.moves k.seeks place made rest victim none_to_try (stays z m place f there made) pinned_now short

    -- its frame was not written
    kept : is_short m.life ≡ true → (is_on f.0 m.life.frames.modified ≡ true → can_be_written m.life f.0 ≡ false) → Seeking pin s m
    kept short bars = record {
      moves = more;
      seeks = seeks_now short;
      to = λ r. subst (λ (l : FrameLife). SoughtTo s.life l more) (sym made.life)
          (turn_over s.life z.life k.moves (reached_sound s.life r) (k.to r) place f there (sym (ap (λ (l : FrameLife). is_short l) made.life) ∙ short)
          (λ on. sym (ap (λ (l : FrameLife). can_be_written l f.0) made.life) ∙ bars (ap (λ (l : FrameLife). is_on f.0 l.frames.modified) made.life ∙ on)));
    }

    target : is_short m.life ≡ true → is_on f.0 m.life.frames.modified ≡ true → can_be_written m.life f.0 ≡ true → Target pin m more f
    target short on can = target_of pin m more f (reached_after z m place f there made h) on
        (∥∥₁_elim start.reached (hlevel props) (λ r.
        ap (λ (l : FrameLife). next_try l more) made.life
        ∙ tries_now s.life z.life k.moves (reached_sound s.life r) (k.to r) place f there (sym (ap (λ (l : FrameLife). is_on f.0 l.frames.modified) made.life) ∙ on) (sym (ap (λ (l : FrameLife). can_be_written l f.0) made.life) ∙ can)))
        pinned_now

    -- its write failed
    missed : is_short m.life ≡ true → is_on f.0 m.life.frames.modified ≡ true → can_be_written m.life f.0 ≡ true → Tries f false m y → Seeking pin s y
    missed short on can t = record {
      moves = more ++ failed_write f t.home;
      seeks = failed_on pin s m y more (seeks_now short) f (reached_after z m place f there made h) (target short on can) t;
      to = λ r. subst (λ (l : FrameLife). SoughtTo s.life l (more ++ failed_write f t.home)) (sym (two_life f m y t ∙ ap (λ (l : FrameLife). after_failed l f t.home) made.life))
          (subst (λ (xs : List Move). SoughtTo s.life (after_failed (after_move z.life (move.Unmap place)) f t.home) xs) (sym (append_assoc k.moves (move.Unmap place ∷ []) (failed_write f t.home)))
          (turn_lost s.life z.life k.moves (reached_sound s.life r) (k.to r) place f there
          (sym (ap (λ (l : FrameLife). is_on f.0 l.frames.modified) made.life) ∙ on)
          (reached_sound (after_move z.life (move.Unmap place)) (reached_next (move.Unmap place) z.life (reached_along k.moves s.life z.life r k.seeks.does.replays) made.legal))
          (sym (ap (λ (l : FrameLife). is_short l) made.life) ∙ short) t.home (subst (λ (l : FrameLife). IsLegal (move.Write f t.home) l) made.life t.begins.legal)));
    }

    on_false : AfterUnmap f false m y → Seeking pin s y
    on_false (Freed long got same) = cc
    on_false (Unchanged short off miss same) = subst (λ (t : StateOf). Seeking pin s t) (sym same) (kept short (λ on. let bad : true ≡ false = sym on ∙ off in cc))
    on_false (Changed short on (Over bars miss same)) = subst (λ (t : StateOf). Seeking pin s t) (sym same) (kept short (λ o. bars))
    on_false (Changed short on (Wrote can t)) = missed short on can t

    on_true : AfterUnmap f true m y → Searched pin true s y
    on_true (Freed long got same) = subst (λ (t : StateOf). Searched pin true s t) (sym same) (unmapped_found pin s z m k.moves k.seeks place made rest victim none_to_try long)
    on_true (Unchanged short off miss same) = cc
    on_true (Changed short on (Over bars miss same)) = cc
    on_true (Changed short on (Wrote can t)) = wrote_on pin s m y more (seeks_now short) f (reached_after z m place f there made h) (target short on can) t

  -- no frame came of it, and one did
  pub turn_on : TookVictim place f false z y → Seeking pin s y
  turn_on t = on_false t.mid t.unmaps t.rest t.after

  pub turn_found : TookVictim place f true z y → Searched pin true s y
  turn_found t = on_true t.mid t.unmaps t.rest t.after

-- ---- the end

-- where no page may go, a write of this search failed
module _ (pin : Option Frame) (s z : StateOf) (start : StateHolds s) (k : Seeking pin s z) (none : NoneMayGo z.life pin) where
  abbrev tried : List ℕ
  tried = (walked_all (walk_of s) k.moves).tried

  not_empty : tried ≡ [] → ⊥
  not_empty e = ∥∥₁_elim start.reached (hlevel props) (λ r.
      let t = turns_end s.life z.life (reached_sound s.life r) k.moves (k.to r).emptying pin none in
      let bad : true ≡ false = sym t.1 ∙ (sym (k.seeks.tried t.0) ∙ ap (is_on t.0) e) in
      cc)

  some_lost : (xs : List ℕ) → tried ≡ xs → (g : ℕ) × (lost_in k.moves g ≡ true)
  some_lost [] e = absurd (not_empty e)
  some_lost (x ∷ xs) e = (x, sym (k.seeks.tried x) ∙ (ap (is_on x) e ∙ or_left (x == x) (is_on x xs) ((unsigned_Decides x x).1 refl)))

  left : next_try z.life k.moves ≡ None
  left = ∥∥₁_elim start.reached (hlevel props) (λ r. none_left s.life z.life k.moves (reached_sound s.life r) (k.to r))

  pub search_starves : Searched pin false s z
  search_starves =
      let lost = some_lost tried refl in
      starves pin s z k.moves k.seeks left none (k.seeks.fails lost.0 lost.1) (k.seeks.fault lost.0 lost.1)

-- ---- the walk over the modified list: how it begins, what each frame adds, and what it comes to

-- a search that has made no move
seeks_begins : (pin : Option Frame) (s : StateOf) → IsUnderWay s → ((f : Frame) → pin ≡ Some f → 1 ≤ (record_at s.life.frames f.0).shares) → is_short s.life ≡ true → Seeks pin s s []
seeks_begins pin s begun pinned short = record {
  does = does_nothing s;
  each = λ flight of. tt;
  tried = λ g. refl;
  wrote = refl;
  reads = refl;
  fails = λ g e. cc;
  fault = λ g e. cc;
  none = refl;
  read = refl;
  same = refl;
  begun = begun;
  pinned = pinned;
  short = short;
  flight = refl;
}

pub walk_begins : (pin : Option Frame) (s : StateOf) (n : ℕ) → IsUnderWay s → ((f : Frame) → pin ≡ Some f → 1 ≤ (record_at s.life.frames f.0).shares) → is_short s.life ≡ true
    → n ≡ length (writable_modified s.life) → Walks pin s s n 0
walk_begins pin s n begun pinned short count = record {
  moves = [];
  seeks = seeks_begins pin s begun pinned short;
  to = λ r. walk_start s.life n count;
}

-- no modified frame is left
pub walk_ends : (pin : Option Frame) (s z : StateOf) (n i : ℕ) → IsUnderWay s → is_short s.life ≡ true → n ≤ i → Walks pin s z n i → Seeking pin s z
walk_ends pin s z n i begun short end w = record {
  moves = w.moves;
  seeks = w.seeks;
  to = λ r. walk_done s.life z.life w.moves n i end r w.seeks.does.replays begun.access short begun.few (w.to r);
}

module _ (pin : Option Frame) (s z : StateOf) (n i : ℕ) (start : StateHolds s) (w : Walks pin s z n i) (low : i < n) where
  -- there is one while the walk goes on
  pub some_front : None ≡ slice_get (writable_modified z.life) 0 → ⊥
  some_front e = ∥∥₁_elim start.reached (hlevel props) (λ r. not_none s.life z.life w.moves n i (w.to r) r w.seeks.does.replays low e)

  module _ (f : Frame) (is_front : Some f.0 ≡ slice_get (writable_modified z.life) 0) where
    modified_here : is_on f.0 z.life.frames.modified ≡ true
    modified_here = ∥∥₁_elim start.reached (Bool-set _ _) (λ r. on_list s.life z.life w.moves n i (w.to r) r w.seeks.does.replays low f is_front)

    pub writable_here : Writable z.life f.0
    writable_here = record {
      modified = modified_here;
      can = ∥∥₁_elim start.reached (Bool-set _ _) (λ r. can s.life z.life w.moves n i (w.to r) r w.seeks.does.replays low f is_front);
    }

    module _ (here : StateHolds z) (y : StateOf) where
      front_target : Target pin z w.moves f
      front_target = target_of pin z w.moves f here.reached modified_here
          (∥∥₁_elim start.reached (hlevel props) (λ r. tries s.life z.life w.moves n i (w.to r) r w.seeks.does.replays low f is_front))
          w.seeks.pinned

      -- its write succeeded, and failed
      pub walk_found : Tries f true z y → Searched pin true s y
      walk_found t = wrote_on pin s z y w.moves w.seeks f here.reached front_target t

      pub walk_goes_on : Tries f false z y → Walks pin s y n (i + 1)
      walk_goes_on t = record {
        moves = w.moves ++ failed_write f t.home;
        seeks = failed_on pin s z y w.moves w.seeks f here.reached front_target t;
        to = λ r. walk_lost s.life z.life w.moves n i (w.to r) r w.seeks.does.replays low f is_front t.home y.life t.begins.legal (two_life f z y t);
      }
