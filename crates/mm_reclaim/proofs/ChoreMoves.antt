-- Chores: free frames are cleared, and the oldest places of a process unmapped.
use Rattle.std.proofs.Common.{◌≡◌, ℕ, suc, ◌+◌, ◌-◌, ◌<◌, ◌≤◌, true, false, List, [], ◌∷◌, ◌++◌, refl, sym, ap, ◌∙◌, subst, append_assoc, arith, zero, Bool, Option, Some, None, length-append}
use Rattle.std.proofs.lemmas.List.{append-nil}
use Rattle.mm_types.specs.{Move, Frame, Place, Record, Pid, Vpn}
use Rattle.mm_move_rules.specs.{FrameLife, is_empty, is_first, rest, IsLegal, is_zeroer, is_touch, frame_of, clearings, set_of, is_above_min, Ages, may_go}
use Rattle.mm_move_rules.specs.{IsOldest, IsVictim, ResidentSet, record_at, same_place, trims, may_unmap, after_move, after_unmap_at, TrimMove, spare_of}
use Rattle.mm_move_rules.specs.{Walk, Through, walked, walked_all}
use Rattle.mm_state_calls.specs.{StateOf, moved, DoesMoves, Made, StateHolds, walk_of}
use Rattle.mm_state_calls.proofs.{does_nothing, does_then, does_one, walked_here}
use Rattle.mm_reclaim.specs.{Rounds, RoundsTo, NoneIn, TrimsOne, UnmapsOldest, Trimmed, TrimsTo}
use Rattle.std.specs.Prelude.{◌&&◌, ◌||◌, map, take, MatchOption, is_some, not, ◌==◌, option_map, unwrap_or}
use Rattle.std.specs.Cmp.{unsigned_Decides}
use Rattle.std.proofs.lemmas.Bool.{and_from, or_left, ltb-true, ltb-false}
use Rattle.mm_types.specs.declared.moves.LineKind.TheVariants as kind
use Rattle.mm_types.specs.declared.moves.Move.TheVariants as move
use Rattle.mm_parts.specs.{front}
use Rattle.std.proofs.Math.Logic.{∥∥₁_elim}
use Rattle.std.proofs.Props.{props}
use Rattle.mm_page_tables.specs.{place_from}
use Rattle.mm_move_laws.proofs.{reached_sound, in_range, same_place-self}
use Rattle.mm_frame_laws.specs.{NoneMayGo, BestBelow, takes_over, IsNextPage, NoPageFollows}
use Rattle.mm_frame_laws.proofs.{best_kept, best_victim, best_none, best_begins, best_same, best_now, goes_valid, next_oldest, all_go, sized}
use Rattle.mm_move_laws.specs.{is_of, residents, one_if, tally}
use Rattle.mm_move_laws.specs.Sound.{Sound}
use Rattle.mm_types.proofs.{one_only_if}

-- ---- the moves of a chore, one after another

-- what a move can change, changed twice
pub moved_then : (s y z : StateOf) → y ≡ moved s y → z ≡ moved y z → z ≡ moved s z
moved_then s y z p q = q ∙ ap (λ (x : StateOf). moved x z) p

module _ (chore : ℕ → FrameLife → List Move) (n : ℕ) where
  pub chain_none : (s : StateOf) → RoundsTo chore n 0 s s
  chain_none s = record {
    moves = [];
    does = does_nothing s;
    whole = ap (λ (k : ℕ). chore k s.life) (all_left n);
    kind = refl;
    same = refl;
  }
    where
      all_left : (k : ℕ) → k ≡ k - 0
      all_left k = omega arith

  -- one of those left
  one_of : (i : ℕ) → i < n → n - i ≡ suc (n - (i + 1))
  one_of i low = omega (arith, low)

  pub chain_more : (i : ℕ) (s y z : StateOf) → i < n → RoundsTo chore n i s y → Rounds chore true y z → RoundsTo chore n (i + 1) s z
  chain_more i s y z low p r = record {
    moves = p.moves ++ r.first ∷ [];
    does = does_then p.moves (r.first ∷ []) s y z p.does (does_one r.first y z r.made);
    whole = p.whole ∙ ap (λ (xs : List Move). p.moves ++ xs) (ap (λ (k : ℕ). chore k y.life) (one_of i low) ∙ r.left (n - (i + 1))) ∙ sym (append_assoc p.moves (r.first ∷ []) (chore (n - (i + 1)) z.life));
    kind = r.kind ∙ p.kind;
    same = moved_then s y z p.same r.same;
  }

  -- none is left: these were all
  ends : (i : ℕ) (s z : StateOf) → RoundsTo chore n i s z → chore (n - i) z.life ≡ [] → DoesMoves (chore n s.life) s z
  ends i s z p e = subst (λ (xs : List Move). DoesMoves xs s z) (sym (p.whole ∙ ap (λ (xs : List Move). p.moves ++ xs) e ∙ append-nil p.moves)) p.does

  pub record Over (s z : StateOf) : Type 0 where
    pub does : DoesMoves (chore n s.life) s z
    pub same : z ≡ moved s z

  pub chain_over : (i : ℕ) (s y z : StateOf) → RoundsTo chore n i s y → Rounds chore false y z → Over s z
  chain_over i s y z p r = subst (λ (x : StateOf). Over s x) (sym r.1) (record { does = ends i s y p (r.0 (n - i)); same = p.same })

  pub chain_all : (i : ℕ) (s z : StateOf) → ((l : FrameLife) → chore 0 l ≡ []) → n ≤ i → RoundsTo chore n i s z → Over s z
  chain_all i s z none high p = record { does = ends i s z p (ap (λ (k : ℕ). chore k z.life) past ∙ none z.life); same = p.same }
    where
      past : n - i ≡ 0
      past = omega (arith, high)

-- ---- free frames are cleared, from the front of their list

front_first : (xs : List ℕ) → is_empty xs ≡ false → is_first (front xs).0 xs ≡ true
front_first [] e = cc
front_first (x ∷ xs) e = (unsigned_Decides x x).1 refl

pub clear_legal : (l : FrameLife) → l.kind ≡ kind.Zeroer → is_empty l.frames.free ≡ false → IsLegal (move.Clear (front l.frames.free)) l
clear_legal l k e =
    and_from (is_first (front l.frames.free).0 l.frames.free) (is_zeroer l.kind || (is_touch l.kind && is_empty l.frames.zeroed))
    (front_first l.frames.free e) (or_left (is_zeroer l.kind) (is_touch l.kind && is_empty l.frames.zeroed) (ap is_zeroer k))

one_cleared : (free : List ℕ) (n : ℕ) → is_empty free ≡ false → map (λ f. move.Clear (frame_of f)) (take (suc n) free) ≡ move.Clear (front free) ∷ map (λ f. move.Clear (frame_of f)) (take n (rest free))
one_cleared [] n e = cc
one_cleared (x ∷ xs) n e = refl

none_cleared : (free : List ℕ) (n : ℕ) → is_empty free ≡ true → map (λ f. move.Clear (frame_of f)) (take n free) ≡ []
none_cleared [] zero e = refl
none_cleared [] (suc n) e = refl
none_cleared (x ∷ xs) n e = cc

pub clears : (s z : StateOf) → is_empty s.life.frames.free ≡ false → Made (move.Clear (front s.life.frames.free)) s z → z ≡ moved s z → Rounds clearings true s z
clears s z e m same = record {
  first = move.Clear (front s.life.frames.free);
  made = m;
  left = λ n. one_cleared s.life.frames.free n e ∙ ap (λ (l : FrameLife). move.Clear (front s.life.frames.free) ∷ clearings n l) (sym m.life);
  kind = ap (λ (l : FrameLife). l.kind) m.life;
  same = same;
}

pub clears_none : (s : StateOf) → is_empty s.life.frames.free ≡ true → Rounds clearings false s s
clears_none s e = (λ n. none_cleared s.life.frames.free n e, refl)

-- ---- the best so far, as the code keeps it

-- a page that may go is of an open process
pub goes_open : (s : StateOf) → StateHolds s → (pinned : Option Frame) (q : Place) → may_go s.life pinned q ≡ true → s.is_open q.pid.0 ≡ true
goes_open s h pinned q g = h.open_process q (at (s.life.valid q) refl (goes_valid s.life s.ages pinned q g))
  where
    at : (o : Option Frame) → s.life.valid q ≡ o → is_some o ≡ true → s.bound q ≡ true
    at None e i = cc
    at (Some f) e i = h.bound q f e

-- so none of a process that is not open may go
pub closed_stays : (s : StateOf) → StateHolds s → (pinned : Option Frame) (pid : ℕ) → s.is_open pid ≡ false → NoneIn s.life pinned pid
closed_stays s h pinned pid closed q e = at (may_go s.life pinned q) refl
  where
    at : (b : Bool) → may_go s.life pinned q ≡ b → b ≡ false
    at false g = refl
    at true g = let bad : true ≡ false = sym (goes_open s h pinned q g) ∙ (ap s.is_open e ∙ closed) in cc

pub best_stays : (l : FrameLife) (ages : Ages) (pinned : Option Frame) (n : ℕ) (o : Option Place) → BestBelow l ages pinned n o → takes_over l n o ≡ false → BestBelow l ages pinned (n + 1) o
best_stays l ages pinned n None b h = cc
best_stays l ages pinned n (Some v) b h = best_kept l ages pinned n v (place_from (record { 0 = n }) (record { 0 = 0 })) b refl h

-- where no process takes over the best stays to the end
best_on : (l : FrameLife) (ages : Ages) (pinned : Option Frame) (o : Option Place) → ((m : ℕ) → takes_over l m o ≡ false) → (n k : ℕ) → BestBelow l ages pinned n o → BestBelow l ages pinned (k + n) o
best_on l ages pinned o never n zero b =
    let e : n ≡ zero + n = omega arith in
    subst (λ m. BestBelow l ages pinned m o) e b
best_on l ages pinned o never n (suc k) b =
    let e : k + n + 1 ≡ suc k + n = omega arith in
    subst (λ m. BestBelow l ages pinned m o) e (best_stays l ages pinned (k + n) o (best_on l ages pinned o never n k b) (never (k + n)))

-- a process above its minimum gives way to none
pub settled : (l : FrameLife) (v : Place) (n : ℕ) → is_above_min (set_of l v.pid.0) ≡ true → takes_over l n (Some v) ≡ false
settled l v n above = at (is_above_min (set_of l n)) (is_above_min (set_of l v.pid.0)) above
  where
    at : (a b : Bool) → b ≡ true → (a && not b) ≡ false
    at true true e = refl
    at false true e = refl
    at true false e = cc
    at false false e = refl

-- an open process has a working set
pub has_set : (s : StateOf) → StateHolds s → (pid : ℕ) → s.is_open pid ≡ true → is_some (set_of s.life pid) ≡ true
has_set s h pid lives = ap is_some (h.sets pid lives).found

pub closed_same : (s : StateOf) → StateHolds s → (pinned : Option Frame) (pid : ℕ) (o : Option Place) → s.is_open pid ≡ false → BestBelow s.life s.ages pinned pid o → BestBelow s.life s.ages pinned (pid + 1) o
closed_same s h pinned pid o closed b = best_same s.life s.ages pinned pid o b (closed_stays s h pinned pid closed)

pub none_same : (s : StateOf) (pinned : Option Frame) (pid : ℕ) (o : Option Place) → NoneIn s.life pinned pid → BestBelow s.life s.ages pinned pid o → BestBelow s.life s.ages pinned (pid + 1) o
none_same s pinned pid o none b = best_same s.life s.ages pinned pid o b none

pub best_taken : (l : FrameLife) (ages : Ages) (pinned : Option Frame) (n : ℕ) (o : Option Place) (w : Place) → BestBelow l ages pinned n o → w.pid.0 ≡ n → IsOldest l ages pinned w → takes_over l n o ≡ true → BestBelow l ages pinned (n + 1) (Some w)
best_taken l ages pinned n o w b e oldest takes = best_now l ages pinned n o w b e oldest takes

none_prop : (l : FrameLife) (pinned : Option Frame) → IsProp (NoneMayGo l pinned)
none_prop l pinned = hlevel props

victim_prop : (l : FrameLife) (ages : Ages) (pinned : Option Frame) (v : Place) → IsProp (IsVictim l ages pinned v)
victim_prop l ages pinned v = hlevel props

pub begins : (s : StateOf) → StateHolds s → (pinned : Option Frame) → BestBelow s.life s.ages pinned 1 None
begins s h pinned q low = at (may_go s.life pinned q) refl
  where
    at : (b : Bool) → may_go s.life pinned q ≡ b → b ≡ false
    at false g = refl
    at true g = ∥∥₁_elim h.reached (bool_prop true false) (λ r. sym g ∙ best_begins s.life (reached_sound s.life r) s.ages pinned q low)
      where
        bool_prop : (a b : Bool) → IsProp (a ≡ b)
        bool_prop a b = hlevel props

pub best_answer : (s : StateOf) → StateHolds s → (pinned : Option Frame) (n : ℕ) (o : Option Place) → 64 < n → BestBelow s.life s.ages pinned n o → MatchOption o (NoneMayGo s.life pinned) (λ v. IsVictim s.life s.ages pinned v)
best_answer s h pinned n None k b = ∥∥₁_elim h.reached (none_prop s.life pinned) (λ r. let few = (in_range s.life r).sets in best_none s.life (reached_sound s.life r) s.ages pinned n (omega (arith, few, k)) b)
best_answer s h pinned n (Some v) k b = ∥∥₁_elim h.reached (victim_prop s.life s.ages pinned v) (λ r. let few = (in_range s.life r).sets in best_victim s.life (reached_sound s.life r) s.ages pinned n v (omega (arith, few, k)) b)

pub settled_answer : (s : StateOf) → StateHolds s → (pinned : Option Frame) (n : ℕ) (o : Option Place) → ((m : ℕ) → takes_over s.life m o ≡ false) → BestBelow s.life s.ages pinned n o → MatchOption o (NoneMayGo s.life pinned) (λ v. IsVictim s.life s.ages pinned v)
settled_answer s h pinned n o never b =
    let past : 64 < 65 + n = omega arith in
    best_answer s h pinned (65 + n) o past (best_on s.life s.ages pinned o never n 65 b)

-- ---- the oldest places of a process are unmapped, down to the minimum of its working set

-- ---- one place

second_of : (a b c d e : Bool) → b ≡ true → (a || b || c || d || e) ≡ true
second_of true b c d e h = refl
second_of false true c d e h = refl
second_of false false c d e h = cc

pub trim_legal : (l : FrameLife) (pid : Pid) (v : Vpn) → l.kind ≡ kind.Trim pid → is_above_min (set_of l pid.0) ≡ true → is_some (l.valid (place_from pid v)) ≡ true → IsLegal (move.Unmap (place_from pid v)) l
trim_legal l pid v k above = at (l.valid (place_from pid v))
  where
    may : (r : Record) → may_unmap l (place_from pid v) r ≡ true
    may r = second_of _ (trims pid.0 l.kind && is_above_min (set_of l pid.0)) _ _ _ (and_from (trims pid.0 l.kind) (is_above_min (set_of l pid.0)) (ap (trims pid.0) k ∙ (unsigned_Decides pid.0 pid.0).1 refl) above)

    at : (o : Option Frame) → is_some o ≡ true → unwrap_or (option_map (λ f. may_unmap l (place_from pid v) (record_at l.frames f.0)) o) false ≡ true
    at None h = cc
    at (Some f) h = may (record_at l.frames f.0)

pub unmaps : (pid : Pid) (v : Vpn) (s z : StateOf) → is_above_min (set_of s.life pid.0) ≡ true → IsNextPage s.life s.ages None (place_from pid v) → Made (move.Unmap (place_from pid v)) s z → z ≡ moved s z → TrimsOne pid true s z
unmaps pid v s z above next m same = record {
  place = place_from pid v;
  its = refl;
  above = above;
  oldest = next_oldest s.life s.ages None None (place_from pid v) (λ q e g. tt) next (all_go s.life (place_from pid v) ∙ next.valid);
  made = m;
  same = same;
}

-- a process above its minimum has a page
some_resident : (o : Option ResidentSet) → is_above_min o ≡ true → 1 ≤ residents o
some_resident None h = cc
some_resident (Some set) h = let a = ltb-true set.min set.resident h in omega (arith, a)

-- in a list of valid places, each once, none is of a process without any
none_of : (pid : ℕ) (valid : Place → Option Frame) (places : List Place) → ((p : Place) → tally (same_place p) places ≤ one_if (is_some (valid p))) → ((q : Place) → q.pid.0 ≡ pid → is_some (valid q) ≡ true → ⊥) → tally (is_of pid) places ≡ 0
none_of pid valid [] once none = refl
none_of pid valid (x ∷ xs) once none = at (x.pid.0 == pid) refl (none_of pid valid xs fewer none)
  where
    here : is_some (valid x) ≡ true
    here = let one : one_if (same_place x x) ≡ 1 = ap one_if (same_place-self x) in let most = once x in one_only_if (is_some (valid x)) (omega (arith, one, most))

    fewer : (p : Place) → tally (same_place p) xs ≤ one_if (is_some (valid p))
    fewer p = let most = once p in omega (arith, most)

    at : (b : Bool) → (x.pid.0 == pid) ≡ b → tally (is_of pid) xs ≡ 0 → one_if b + tally (is_of pid) xs ≡ 0
    at true e rest = absurd (none x ((unsigned_Decides x.pid.0 pid).0 e) here)
    at false e rest = omega (arith, rest)

pub some_page : (s : StateOf) (pid : Pid) → StateHolds s → is_above_min (set_of s.life pid.0) ≡ true → NoPageFollows s.life s.ages pid.0 None → ⊥
some_page s pid h above none = ∥∥₁_elim h.reached (hlevel props) (λ r. by (reached_sound s.life r))
  where
    by : Sound s.life → ⊥
    by sound =
        let some = some_resident (set_of s.life pid.0) above in
        let counted = sound.shown.resident pid.0 in
        let nowhere = none_of pid.0 s.life.valid sound.shown.places (λ p. let once = sound.shown.once p in omega (arith, once)) (λ q e v. none q e v tt) in
        absurd (omega (arith, some, counted, nowhere))

-- ---- a round

spare_more : (o p : Option ResidentSet) → is_above_min o ≡ true → ((set : ResidentSet) → o ≡ Some set → p ≡ Some (record set { resident = set.resident - 1 })) → spare_of o ≡ 1 + spare_of p
spare_more None p h sized = cc
spare_more (Some set) p h sized = let above = ltb-true set.min set.resident h in let less = ap spare_of (sized set refl) in omega (arith, above, less)

valid_of : (l : FrameLife) (ages : Ages) (place : Place) → IsOldest l ages None place → (f : Frame) × (l.valid place ≡ Some f)
valid_of l ages place o = at (l.valid place) refl (sym (all_go l place) ∙ o.goes)
  where
    at : (v : Option Frame) → l.valid place ≡ v → is_some v ≡ true → (f : Frame) × (l.valid place ≡ Some f)
    at None e h = cc
    at (Some f) e h = (f, e)

spare_less : (pid : Pid) (y z : StateOf) (u : UnmapsOldest pid y z) → spare_of (set_of y.life pid.0) ≡ 1 + spare_of (set_of z.life pid.0)
spare_less pid y z u =
    let there = valid_of y.life y.ages u.place u.oldest in
    let n : u.place.pid.0 ≡ pid.0 = ap (λ (p : Pid). p.0) u.its in
    spare_more (set_of y.life pid.0) (set_of z.life pid.0) u.above (λ set e.
    ap (λ (l : FrameLife). set_of l pid.0) u.made.life
    ∙ subst (λ (k : ℕ). set_of (after_move y.life (move.Unmap u.place)) k ≡ Some (record set { resident = set.resident - 1 })) n
    (sized y.life u.place there.0 set there.1 (ap (set_of y.life) n ∙ e)))

kind_unmapped : (l : FrameLife) (place : Place) → (after_move l (move.Unmap place)).kind ≡ l.kind
kind_unmapped l place = at (l.valid place)
  where
    at : (o : Option Frame) → (after_unmap_at o l place).kind ≡ l.kind
    at None = refl
    at (Some f) = refl

-- a trim's move says nothing of those after it
alone : (pid : Pid) (w : Walk) (x : Move) (ms ns : List Move) → TrimMove pid w x ms → TrimMove pid w x ns
alone pid w (move.Unmap p) ms ns h = h
alone pid w x ms ns h = absurd h

through_more : (pid : Pid) (ms : List Move) (w : Walk) (x : Move) → Through (TrimMove pid) w ms → TrimMove pid (walked_all w ms) x [] → Through (TrimMove pid) w (ms ++ x ∷ [])
through_more pid [] w x t h = (h, tt)
through_more pid (m ∷ ms) w x t h = (alone pid w m ms (ms ++ x ∷ []) t.0, through_more pid ms (walked w m) x t.1 h)

-- where the walk has come to, the place is the oldest
oldest_here : (pid : Pid) (ms : List Move) (s y z : StateOf) → DoesMoves ms s y → (u : UnmapsOldest pid y z) → TrimMove pid (walked_all (walk_of s) ms) (move.Unmap u.place) []
oldest_here pid ms s y z d u =
    subst (λ (w : Walk). (u.place.pid ≡ pid) × (is_above_min (set_of w.life pid.0) ≡ true) × IsOldest w.life w.ages None u.place) (sym (walked_here ms s y d)) (u.its, u.above, u.oldest)

-- ---- all rounds

pub trims_none : (pid : Pid) (s : StateOf) → TrimsTo pid 0 s s
trims_none pid s = record { moves = []; does = does_nothing s; each = tt; count = refl; spare = none_yet (spare_of (set_of s.life pid.0)); kind = refl; same = refl }
  where
    none_yet : (n : ℕ) → n ≡ 0 + n
    none_yet n = omega arith

pub trims_more : (pid : Pid) (i : ℕ) (s y z : StateOf) → TrimsTo pid i s y → TrimsOne pid true y z → TrimsTo pid (i + 1) s z
trims_more pid i s y z p u = record {
  moves = p.moves ++ move.Unmap u.place ∷ [];
  does = does_then p.moves (move.Unmap u.place ∷ []) s y z p.does (does_one (move.Unmap u.place) y z u.made);
  each = through_more pid p.moves (walk_of s) (move.Unmap u.place) p.each (oldest_here pid p.moves s y z p.does u);
  count = length-append p.moves (move.Unmap u.place ∷ []) ∙ ap (λ (n : ℕ). n + 1) p.count;
  spare = let was = p.spare in let less = spare_less pid y z u in omega (arith, was, less);
  kind = ap (λ (l : FrameLife). l.kind) u.made.life ∙ kind_unmapped y.life u.place ∙ p.kind;
  same = moved_then s y z p.same u.same;
}

-- a process at its minimum has none to spare
none_spare : (o : Option ResidentSet) → is_above_min o ≡ false → spare_of o ≡ 0
none_spare None h = refl
none_spare (Some set) h = let low = ltb-false set.min set.resident h in omega (arith, low)

pub trims_over : (pid : Pid) (n i : ℕ) (s y z : StateOf) → i ≤ n → TrimsTo pid i s y → TrimsOne pid false y z → Trimmed pid n s z
trims_over pid n i s y z few p h = subst (λ (x : StateOf). Trimmed pid n s x) (sym h.1) (record {
  moves = p.moves;
  does = p.does;
  each = p.each;
  count = let count = p.count in let spare = p.spare in let none = none_spare (set_of y.life pid.0) h.0 in omega (arith, few, count, spare, none);
  same = p.same;
})

pub trims_all : (pid : Pid) (n i : ℕ) (s z : StateOf) → i ≤ n → n ≤ i → TrimsTo pid i s z → Trimmed pid n s z
trims_all pid n i s z few high p = record {
  moves = p.moves;
  does = p.does;
  each = p.each;
  count = let count = p.count in let spare = p.spare in omega (arith, few, high, count, spare);
  same = p.same;
}
