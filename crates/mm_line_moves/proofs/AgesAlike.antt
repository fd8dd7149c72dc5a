-- Ages matter where pages are valid: with others elsewhere a line makes the same moves, and behind
-- them valid pages are as old again.
use Rattle.std.proofs.Common.{◌≡◌, ℕ, Bool, true, false, cond, List, [], ◌∷◌, Option, Some, None, refl, sym, ap, ◌∙◌, subst}
use Rattle.std.specs.Prelude.{is_some, ◌==◌, ◌&&◌}
use Rattle.mm_types.specs.{Answer, Block, Event, Frame, Held, LineKind, Move, Pid, Place, Stored}
use Rattle.mm_types.specs.declared.answers.Answer.TheVariants as answer
use Rattle.mm_types.specs.declared.events.Event.TheVariants as line
use Rattle.mm_types.specs.declared.frames.Held.TheVariants as held
use Rattle.mm_types.specs.declared.moves.LineKind.TheVariants as kind
use Rattle.mm_types.specs.declared.moves.Move.TheVariants as move
use Rattle.mm_types.specs.declared.moves.Stored.TheVariants as stored
use Rattle.mm_move_rules.specs.{Ages, FrameLife, IsOldest, IsVictim, Replays, Starved, Through, TrimMove, Walk, after_at, after_move, after_unmap_at, after_write_to, aged, ages_after, ages_through, dropped_at}
use Rattle.mm_move_rules.specs.{goes_before, is_unpinned, is_valid, may_go, same_place, walked, walked_all}
use Rattle.mm_move_rules.proofs.{replays_one}
use Rattle.mm_world.specs.World.{World}
use Rattle.mm_world.specs.Report.{Report}
use Rattle.mm_store.specs.Behind.{Behind}
use Rattle.mm_store.specs.{AccessMove, Aim, ByCopy, Completes, FromFull, InShortage, PageGoes, walk_from}
use Rattle.mm_line_moves.specs.{AccessesBy, AgedAlike, Completing, Did, Does, StandsAlike, Trimming, ages_of_line, aim_of, is_access_served, lives, place_had}

-- ---- which page goes

goes_valid : (l : FrameLife) (pin : Option Frame) (p : Place) → may_go l pin p ≡ true → is_valid l p ≡ true
goes_valid l pin p h = by (l.valid p) h
  where
    by : (o : Option Frame) → is_unpinned pin o ≡ true → is_some o ≡ true
    by None g = cc
    by (Some f) g = refl

oldest_aged : (l : FrameLife) (x y : Ages) (pin : Option Frame) (p : Place) → AgedAlike l x y → IsOldest l y pin p → IsOldest l x pin p
oldest_aged l x y pin p h o = record {
  goes = o.goes;
  first = λ q e g.
      ap (λ (n : ℕ). goes_before (record { page = q.vpn.0; age = n }) (record { page = p.vpn.0; age = x p })) (sym (h q (goes_valid l pin q g)))
      ∙ ap (λ (n : ℕ). goes_before (record { page = q.vpn.0; age = y q }) (record { page = p.vpn.0; age = n })) (sym (h p (goes_valid l pin p o.goes))) ∙ o.first q e g;
}

victim_aged : (l : FrameLife) (x y : Ages) (pin : Option Frame) (p : Place) → AgedAlike l x y → IsVictim l y pin p → IsVictim l x pin p
victim_aged l x y pin p h v = record { oldest = oldest_aged l x y pin p h v.oldest; process = v.process }

-- ---- moves

abbrev with_ages : Walk → Ages → Walk
with_ages w x = record { life = w.life; ages = x; tried = w.tried }

goes_aged : (a : Aim) (w : Walk) (x : Ages) (p : Place) (rest : List Move) → AgedAlike w.life x w.ages → PageGoes a w p rest → PageGoes a (with_ages w x) p rest
goes_aged a w x p rest h (ByCopy e copied shows next) = ByCopy e copied shows next
goes_aged a w x p rest h (FromFull e none full old next) = FromFull e none full (oldest_aged w.life x w.ages None p h old) next
goes_aged a w x p rest h (InShortage acc short none victim) = InShortage acc short none (victim_aged w.life x w.ages (w.life.valid a.place) p h victim)

access_aged : (a : Aim) (w : Walk) (x : Ages) (m : Move) (rest : List Move) → AgedAlike w.life x w.ages → AccessMove a w m rest → AccessMove a (with_ages w x) m rest
access_aged a w x (move.Unmap p) rest h g = goes_aged a w x p rest h g
access_aged a w x (move.Add k None) rest h g = g
access_aged a w x (move.Add k (Some b)) rest h g = g
access_aged a w x _ rest h g = g

trim_aged : (pid : Pid) (w : Walk) (x : Ages) (m : Move) (rest : List Move) → AgedAlike w.life x w.ages → TrimMove pid w m rest → TrimMove pid (with_ages w x) m rest
trim_aged pid w x (move.Unmap p) rest h g = (g.0, g.1, oldest_aged w.life x w.ages None p h g.2)
trim_aged pid w x _ rest h g = g

-- what is valid after an `at` was so before it
pub at_valid : (l : FrameLife) (n : ℕ) (k : LineKind) (p : Place) → is_valid (after_at l n k) p ≡ true → is_valid l p ≡ true
at_valid l n (kind.Machine frames slots depth blocks) p v = cc
at_valid l n _ p v = v

-- a move leaves ages that agree where pages are valid after it
move_alike : (l : FrameLife) (x y : Ages) (m : Move) → AgedAlike l x y → AgedAlike (after_move l m) (ages_after m x) (ages_after m y)
move_alike l x y (move.At n k) h p v = h p (at_valid l n k p v)
move_alike l x y (move.Add k None) h p v = h p v
move_alike l x y (move.Add k (Some b)) h p v = h p v
move_alike l x y (move.Drop k) h p v = by (l.stands k) v
  where
    by : (at : Held) → is_valid (dropped_at at l k) p ≡ true → y p ≡ x p
    by (held.Frame f) g = h p g
    by (held.Slot s) g = h p g
    by (held.Block b) g = h p g
    by held.Zero g = h p g
    by held.Dead g = h p g
move_alike l x y (move.Write f s) h p v = by s v
  where
    by : (s : Stored) → is_valid (after_write_to l f.0 s) p ≡ true → y p ≡ x p
    by (stored.Slot n) g = h p g
    by (stored.Block b) g = h p g
move_alike l x y (move.Map f place) h p v = by (same_place p place) v
  where
    by : (b : Bool) → is_some (cond b (Some f) (l.valid p)) ≡ true → cond b 0 (y p) ≡ cond b 0 (x p)
    by true g = refl
    by false g = h p g
move_alike l x y (move.Unmap place) h p v = by (l.valid place) (same_place p place) refl v
  where
    by : (o : Option Frame) (b : Bool) → same_place p place ≡ b → is_valid (after_unmap_at o l place) p ≡ true → cond b 0 (y p) ≡ cond b 0 (x p)
    by None true e g = refl
    by None false e g = h p g
    by (Some f) true e g = refl
    by (Some f) false e g = h p (sym (ap (λ (b : Bool). is_some (cond b None (l.valid p))) e) ∙ g)
move_alike l x y _ h p v = h p v

module _ (P : Walk → Move → List Move → Type 0) (other : (w : Walk) (x : Ages) (m : Move) (rest : List Move) → AgedAlike w.life x w.ages → P w m rest → P (with_ages w x) m rest) where
  through_aged : (ms : List Move) (w : Walk) (x : Ages) → AgedAlike w.life x w.ages → Through P w ms → Through P (with_ages w x) ms
  through_aged [] w x h t = tt
  through_aged (m ∷ ms) w x h t = (other w x m ms h t.0, through_aged ms (walked w m) (ages_after m x) (move_alike w.life x w.ages m h) t.1)

starved_aged : (ms : List Move) (w : Walk) (x : Ages) (pin : Option Frame) → Starved pin (walked_all w ms) → Starved pin (walked_all (with_ages w x) ms)
starved_aged [] w x pin s = record { tried = s.tried; only = s.only }
starved_aged (m ∷ ms) w x pin s = starved_aged ms (walked w m) (ages_after m x) pin s

-- ---- a line

module _ (o d : Behind) (ms : List Move) (x : Ages) (alike : AgedAlike o.life x o.ages) where
  abbrev o2 : Behind
  o2 = record o { ages = x }

  abbrev d2 : Behind
  d2 = record d { ages = ages_through ms x }

  reached_aged : (plain : Bool) (aim : Option Aim) (r : Answer) (after : Report) → AccessesBy plain aim r after o ms d → AccessesBy plain aim r after o2 ms d2
  reached_aged plain None r after h = h
  reached_aged plain (Some a) r after h = record {
    made = record { each = through_aged (AccessMove a) (access_aged a) ms (walk_from o) x alike h.made.each; one_read = h.made.one_read; few_writes = h.made.few_writes };
    read = h.read;
    still = h.still;
    answers = h.answers;
    at_once = h.at_once;
    served = h.served;
    held_up = h.held_up;
    awaited = h.awaited;
    short = h.short;
    starved = λ e f g. starved_aged ms (walk_from o) x (d.life.valid a.place) (h.starved e f g);
  }

  trims_aged : (there : Bool) (pid : Pid) (n : ℕ) → Trimming there pid n o ms d → Trimming there pid n o2 ms d2
  trims_aged true pid n h = record {
    each = through_aged (TrimMove pid) (trim_aged pid) ms (walk_from o) x alike h.each;
    count = h.count;
    moved = record { waits = h.moved.waits; ages = refl };
    slots = h.slots;
  }
  trims_aged false pid n h = h

  completes_aged : (i : ℕ) (ok : Bool) → Completes i ok o ms d → Completes i ok o2 ms d2
  completes_aged i ok h = record { frame = h.frame; found = h.found; one = h.one; moved = record { waits = h.moved.waits; ages = refl } }

  ended_aged : (i : ℕ) (a : Answer) → Completing i a o ms d → Completing i a o2 ms d2
  ended_aged i answer.Ok h = completes_aged i true h
  ended_aged i answer.Fault h = completes_aged i false h
  ended_aged i _ h = h

  does_aged : (w v : World) (e : Event) (a : Answer) (r : Report) → Does w e a v r o ms d → Does w e a v r o2 ms d2
  does_aged w v (line.Read pid addr len) a r h = reached_aged true (aim_of w o.life (line.Read pid addr len)) a r h
  does_aged w v (line.Write pid addr bytes) a r h = reached_aged true (aim_of w o.life (line.Write pid addr bytes)) a r h
  does_aged w v (line.Exec pid addr) a r h = reached_aged true (aim_of w o.life (line.Exec pid addr)) a r h
  does_aged w v (line.Begin tid pid what) a r h = reached_aged false (aim_of w o.life (line.Begin tid pid what)) a r h
  does_aged w v (line.Resume tid) a r h = reached_aged false (aim_of w o.life (line.Resume tid)) a r h
  does_aged w v (line.Trim pid n) a r h = trims_aged (lives w pid) pid n h
  does_aged w v (line.Io i) a r h = ended_aged i a h
  does_aged w v _ a r h = h

-- what a line did, it does with other ages where no page is valid
pub did_aged : (w v : World) (e : Event) (a : Answer) (o d : Behind) (ms : List Move) (x : Ages) → AgedAlike o.life x o.ages → Did w e a v o ms d → Did w e a v (record o { ages = x }) ms (record d { ages = ages_through ms x })
did_aged w v e a o d ms x alike h = record {
  report = h.report;
  began = h.began;
  does = does_aged o d ms x alike w v e a h.report h.does;
  agrees = record {
    keys = h.agrees.keys;
    places = h.agrees.places;
    counts = h.agrees.counts;
    whereabouts = h.agrees.whereabouts;
    waits = h.agrees.waits;
    machine = h.agrees.machine;
    slots = h.agrees.slots;
    blocks = h.agrees.blocks;
  };
  replays = h.replays;
}

-- ---- what a line leaves

through_alike : (ms : List Move) (l m : FrameLife) (x y : Ages) → AgedAlike l x y → Replays ms l m → AgedAlike m (ages_through ms x) (ages_through ms y)
through_alike [] l m x y h r = subst (λ (k : FrameLife). AgedAlike k x y) (sym r) h
through_alike (n ∷ ms) l m x y h r = through_alike ms (after_move l n) m (ages_after n x) (ages_after n y) (move_alike l x y n h) r.1

had_alike : (aim : Option Aim) (a : Answer) (l : FrameLife) (x y : Ages) → AgedAlike l x y → AgedAlike l (place_had aim a x) (place_had aim a y)
had_alike None a l x y h p v = h p v
had_alike (Some aim) a l x y h p v = by (is_access_served a) (same_place p aim.place)
  where
    by : (s b : Bool) → cond s (cond b 0 (y p)) (y p) ≡ cond s (cond b 0 (x p)) (x p)
    by true true = refl
    by true false = h p v
    by false b = h p v

module _ (w v : World) (a : Answer) (r : Report) (b o z c : Behind) (n : ℕ) (k : LineKind) (ms : List Move) where
  old_alike : (pid : Pid) → AgedAlike b.life b.ages o.ages → ms ≡ [] → Replays (move.At n k ∷ ms) b.life c.life → AgedAlike c.life (ages_of_line w (line.Age pid) a b ms) (ages_of_line w (line.Age pid) a (record o { life = b.life }) ms)
  old_alike pid h none m p valid = by (lives w pid) ((p.pid.0 == pid.0) && is_valid b.life p) (h p before)
    where
      life : c.life ≡ after_at b.life n k
      life = (subst (λ (us : List Move). Replays us (after_at b.life n k) c.life) none m.1)

      before : is_valid b.life p ≡ true
      before = at_valid b.life n k p (ap (λ (l : FrameLife). is_valid l p) (sym life) ∙ valid)

      by : (lives old : Bool) → o.ages p ≡ b.ages p → cond lives (cond old (aged (o.ages p)) (o.ages p)) (o.ages p) ≡ cond lives (cond old (aged (b.ages p)) (b.ages p)) (b.ages p)
      by true true e = ap aged e
      by true false e = e
      by false old e = e

  line_alike : (e : Event) → AgedAlike b.life b.ages o.ages → Does w e a v r z ms c → Replays (move.At n k ∷ ms) b.life c.life → AgedAlike c.life (ages_of_line w e a b ms) (ages_of_line w e a (record o { life = b.life }) ms)
  line_alike (line.Age pid) h none m = old_alike pid h none m
  line_alike e h none m =
      had_alike (aim_of w b.life e) a c.life (ages_through ms b.ages) (ages_through ms o.ages)
      (through_alike ms (after_at b.life n k) c.life b.ages o.ages (λ p valid. h p (at_valid b.life n k p valid)) m.1)

-- two runs of a line that make the same moves stand alike behind it
pub stays_alike : (w v : World) (e : Event) (a : Answer) (r : Report) (b o z c d : Behind) (n : ℕ) (k : LineKind) (ms : List Move) → StandsAlike b o → Does w e a v r z ms c → Replays (move.At n k ∷ ms) b.life c.life → Replays (move.At n k ∷ ms) o.life d.life
    → c.ages ≡ ages_of_line w e a b ms → d.ages ≡ ages_of_line w e a o ms → StandsAlike c d
stays_alike w v e a r b o z c d n k ms alike does m q first second =
    let same : o ≡ record o { life = b.life } = (λ i. record { log = o.log; life = alike.life i; ages = o.ages; waits = o.waits; slots = o.slots }) in
    let here = line_alike w v a r b o z c n k ms e alike.ages does m in
    record {
      life = replays_one (move.At n k ∷ ms) b.life d.life c.life (subst (λ (l : FrameLife). Replays (move.At n k ∷ ms) l d.life) alike.life q) m;
      ages = λ p valid. ap (λ (x : Ages). x p) (second ∙ ap (λ (u : Behind). ages_of_line w e a u ms) same) ∙ here p valid ∙ ap (λ (x : Ages). x p) (sym first);
    }
