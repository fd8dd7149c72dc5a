-- Each script has one log: the same lines, answered alike, leave two runs with the same world and with frames that live alike.
use Rattle.std.proofs.Common.{◌≡◌, ℕ, suc, ◌+◌, Bool, true, false, cond, Option, Some, None, List, [], ◌∷◌, ◌++◌, refl, sym, ap, ◌∙◌, subst}
use Rattle.std.proofs.lemmas.List.Concat.{flat_map-cons}
use Rattle.std.specs.Prelude.{is_some, not}
use Rattle.mm_types.specs.{Answer, Event, Held, Key, LineKind, MachineOf, Move, Place}
use Rattle.mm_types.specs.declared.answers.Answer.TheVariants as answer
use Rattle.mm_types.specs.declared.events.Event.TheVariants as line
use Rattle.mm_types.specs.declared.moves.LineKind.TheVariants as kind
use Rattle.mm_types.specs.declared.moves.Move.TheVariants as move
use Rattle.mm_move_rules.specs.{FrameLife, Replays, after_at, is_dead, is_live, is_valid, unstarted}
use Rattle.mm_move_laws.proofs.{keeps, paging_lives}
use Rattle.mm_world.specs.{KeptOf, OutcomeOf, Page, content_of, first_world, kept_by, step, unpaged, world_after, world_told}
use Rattle.mm_world.specs.World.{World}
use Rattle.mm_world.specs.Report.{Report}
use Rattle.mm_world.proofs.{decided, in_unpaged}
use Rattle.mm_line_moves.specs.{AnsweredAlike, Did, StandsAlike, StandsAlways, StandsBefore, ages_of_line, first_move, kept_kind, kind_of_growth, kind_of_line, lives, made_process, with_line}
use Rattle.mm_line_moves.proofs.{at_valid, one_log, stays_alike}
use Rattle.mm_dispatch.specs.{Scene}
use Rattle.mm_run.specs.{AreAnswered, DecidedLine, DecidesLine, Follows, GoesAlike, IsAnsweredAlike, IsDecided, MachineBegins, NotBegun, Outset, Running, RunsAlike, Stage, StageNotes, log_of, moves_of, with_flush}
use Rattle.mm_run.proofs.StagesStand.{KeepsStage, Stands, decided_keeps, keeps_follows}

-- ---- a line behind its `at`

stands_before : (e : Event) (w : World) (l : FrameLife) → StandsAlways w l → StandsBefore e w l
stands_before (line.Exit pid) w l h = h
stands_before (line.Free pid addr size type) w l h = h
stands_before (line.Unmap pid addr) w l h = h
stands_before (line.Close pid handle) w l h = h
stands_before (line.Read pid addr len) w l h = h
stands_before (line.Write pid addr bytes) w l h = h
stands_before (line.Exec pid addr) w l h = h
stands_before (line.Begin tid pid what) w l h = h
stands_before (line.Resume tid) w l h = h
stands_before _ w l h = tt

-- no line but the first names a machine
abbrev IsLater : LineKind → Type 0
IsLater (kind.Machine frames slots depth blocks) = ⊥
IsLater _ = Unit {0}

later_if : (b : Bool) (k : LineKind) → IsLater k → IsLater (cond b k kind.Call)
later_if true k h = h
later_if false k h = tt

later_begun : (b c : Bool) (k : LineKind) → IsLater k → IsLater (cond b kind.Call (cond c k kind.Call))
later_begun true c k h = tt
later_begun false c k h = later_if c k h

later_made : (a : Answer) (min max : ℕ) → IsLater (made_process a min max)
later_made (answer.NewProcess pid) min max = tt
later_made _ min max = tt

later_grown : (a : Answer) (n : ℕ) → IsLater (kind_of_growth a n)
later_grown (answer.Limit m) n = tt
later_grown _ n = tt

later_kept : (o : Option KeptOf) → IsLater (kept_kind o)
later_kept None = tt
later_kept (Some k) = tt

later_line : (w : World) (e : Event) (a : Answer) → IsLater (kind_of_line w e a)
later_line w (line.Process min max) a = later_made a min max
later_line w (line.Exit pid) a = later_if (lives w pid) (kind.Unbind pid) tt
later_line w (line.Free pid addr size type) a = later_if (lives w pid) (kind.Unbind pid) tt
later_line w (line.Unmap pid addr) a = later_if (lives w pid) (kind.Unbind pid) tt
later_line w (line.Read pid addr len) a = later_if (lives w pid) (kind.Access pid) tt
later_line w (line.Write pid addr bytes) a = later_if (lives w pid) (kind.Access pid) tt
later_line w (line.Exec pid addr) a = later_if (lives w pid) (kind.Access pid) tt
later_line w (line.Begin tid pid what) a = later_begun (is_some (kept_by w tid.0)) (lives w pid) (kind.Thread pid) tt
later_line w (line.Resume tid) a = later_kept (kept_by w tid.0)
later_line w (line.Trim pid n) a = later_if (lives w pid) (kind.Trim pid) tt
later_line w (line.Grow n) a = later_grown a n
later_line w _ a = tt

-- such a line leaves the keys where they stand
at_stands : (l : FrameLife) (n : ℕ) (k : LineKind) → IsLater k → (after_at l n k).stands ≡ l.stands
at_stands l n (kind.Machine frames slots depth blocks) h = absurd h
at_stands l n _ h = refl

-- an `at` tells of no device
behind_at : (e : Event) (n : ℕ) (k : LineKind) (xs ys : List Move) → AnsweredAlike e (move.At n k ∷ xs) (move.At n k ∷ ys) → AnsweredAlike e xs ys
behind_at (line.Flush pid addr size) n k xs ys h = h
behind_at (line.Read pid addr len) n k xs ys h = h
behind_at (line.Write pid addr bytes) n k xs ys h = h
behind_at (line.Exec pid addr) n k xs ys h = h
behind_at (line.Begin tid pid what) n k xs ys h = h
behind_at (line.Resume tid) n k xs ys h = h
behind_at _ n k xs ys h = tt

kind_at : (l : FrameLife) (n : ℕ) (k : LineKind) → (after_at l n k).kind ≡ k
kind_at l n (kind.Machine frames slots depth blocks) = refl
kind_at l n _ = refl

abbrev at_of : Scene → Event → Answer → Move
at_of s e a = move.At (s.behind.life.line + 1) (kind_of_line s.world e a)

-- what a line did behind its `at`
record DidBehind (s z : Scene) (e : Event) (a : Answer) (moves : List Move) : Type 0 where
  pub rest : List Move
  pub begins : moves ≡ at_of s e a ∷ rest
  pub stands : StandsBefore e s.world (with_line (at_of s e a) s.behind).life
  pub did : Did s.world e a z.world (with_line (at_of s e a) s.behind) rest z.behind
  pub replays : Replays (at_of s e a ∷ rest) s.behind.life z.behind.life
  pub ages : z.behind.ages ≡ ages_of_line s.world e a s.behind rest

did_behind : (s z : Scene) (e : Event) (a : Answer) (moves : List Move) → DecidesLine s e a moves z → StageNotes (Running s) moves (Running z) → Stands s → DidBehind s z e a moves
did_behind s z e a moves d n h =
    let line = d.told.line refl in
    let replays = subst (λ (xs : List Move). Replays xs s.behind.life z.behind.life) line.begins n.replays in
    let sound = keeps (at_of s e a) s.behind.life h.sound replays.0 in
    let keys : (k : Key) → is_live (with_line (at_of s e a) s.behind).life k ≡ is_some (content_of s.world k) =
    λ k. ap (λ (f : Key → Held). not (is_dead (f k))) (at_stands s.behind.life (s.behind.life.line + 1) (kind_of_line s.world e a) (later_line s.world e a)) ∙ h.keys k in
    record {
      rest = line.moves;
      begins = line.begins;
      stands = stands_before e s.world _ (record { spaces = h.spaces; few = h.handles; live = paging_lives (with_line (at_of s e a) s.behind).life sound; sound = sound; keys = keys });
      did = record {
        report = z.report;
        began = kind_at s.behind.life (s.behind.life.line + 1) (kind_of_line s.world e a);
        does = line.does;
        agrees = line.agrees;
        replays = replays.1;
      };
      replays = replays;
      ages = line.ages;
    }

-- ---- two runs that stand alike

-- the same world, and stores behind which frames live alike
record StandTogether (s u : Scene) : Type 0 where
  pub world : u.world ≡ s.world
  pub behind : StandsAlike s.behind u.behind

abbrev Together : Stage → Stage → Type 0
Together (NotBegun o) (NotBegun q) = Unit {0}
Together (Running s) (Running u) = StandTogether s u
Together _ _ = ⊥

together_with_itself : (s : Stage) → Together s s
together_with_itself (NotBegun o) = tt
together_with_itself (Running s) = record { world = refl; behind = record { life = refl; ages = λ p valid. refl } }

-- a flush of the moves changes neither
together_with : (f g : Option (List ℕ)) (m n : ℕ) (s u : Stage) → Together s u → Together (with_flush f m s) (with_flush g n u)
together_with f g m n (NotBegun o) (NotBegun q) t = tt
together_with f g m n (Running s) (Running u) t = record { world = t.world; behind = record { life = t.behind.life; ages = t.behind.ages } }
together_with f g m n (NotBegun o) (Running u) t = absurd t
together_with f g m n (Running s) (NotBegun q) t = absurd t

together_follows : (s u x y : Stage) → Follows s x → Follows u y → Together s u → Together x y
together_follows s u x y f g t =
    subst (λ (z : Stage). Together z y) (sym f.same)
    (subst (λ (z : Stage). Together (with_flush (log_of x).given (log_of x).faults s) z) (sym g.same)
    (together_with (log_of x).given (log_of y).given (log_of x).faults (log_of y).faults s u t))

-- the second scene, said with the world and the life of frames of the first
abbrev as_first : Scene → Scene → Scene
as_first s u = record u { world = s.world; behind = record (u.behind) { life = s.behind.life } }

is_as_first : (s u : Scene) → StandTogether s u → u ≡ as_first s u
is_as_first s u t =
    (λ i. record {
      world = t.world i;
      report = u.report;
      paging = u.paging;
      files = u.files;
      blocks = u.blocks;
      behind = record { log = u.behind.log; life = t.behind.life i; ages = u.behind.ages; waits = u.behind.waits; slots = u.behind.slots };
    })

stands_as_first : (s u : Scene) → Stands s → Stands (as_first s u)
stands_as_first s u h = record { sound = h.sound; spaces = h.spaces; handles = h.handles; keys = h.keys }

-- ---- a line in both

-- the world before it and its answer give the world after it
world_of : (w v : World) (e : Event) (a : Answer) (before after : Report) → step w e before after ≡ record { answer = a; world = v } → v ≡ world_after w e a
world_of w v e a before after h =
    let determined : (step w e before after).world ≡ world_after w e (step w e before after).answer =
    decided (λ e o. o.world ≡ world_after w e o.answer) w e before after
    (ap (λ b. cond b (world_told w e (unpaged w e).answer) (unpaged w e).world) (sym (in_unpaged w e).untold)) (λ a h. sym h.same) in
    sym (ap (λ (o : OutcomeOf Page). o.world) h) ∙ determined ∙ ap (λ (o : OutcomeOf Page). world_after w e o.answer) h

-- it makes the same moves, and leaves both alike
record GoesOn (x y : Stage) (xs ys : List Move) : Type 0 where
  pub one : ys ≡ xs
  pub together : Together x y

module _ (s u z y : Scene) (e : Event) (a : Answer) (xs ys : List Move) (ages : StandsAlike s.behind (as_first s u).behind) where
  line_goes : DidBehind s z e a xs → DidBehind (as_first s u) y e a ys → y.world ≡ z.world → AnsweredAlike e xs ys → GoesOn (Running z) (Running y) xs ys
  line_goes p q same k =
      let n = s.behind.life.line + 1 in
      let its = kind_of_line s.world e a in
      let b = with_line (at_of s e a) s.behind in
      let o = with_line (at_of s e a) (as_first s u).behind in
      let did : Did s.world e a z.world o q.rest y.behind = subst (λ (w : World). Did s.world e a w o q.rest y.behind) same q.did in
      let alike = behind_at e n its p.rest q.rest (subst (λ (us : List Move). AnsweredAlike e (at_of s e a ∷ p.rest) us) q.begins (subst (λ (us : List Move). AnsweredAlike e us ys) p.begins k)) in
      let stand : StandsAlike b o = record { life = refl; ages = λ p valid. ages.ages p (at_valid s.behind.life n its p valid) } in
      let one : q.rest ≡ p.rest = one_log s.world z.world a b o z.behind y.behind p.rest q.rest e p.stands stand p.did did alike in
      record {
        one = q.begins ∙ (ap (λ (us : List Move). at_of s e a ∷ us) one ∙ sym p.begins);
        together = record {
          world = same;
          behind = stays_alike s.world z.world e a p.did.report s.behind (as_first s u).behind b z.behind y.behind n its p.rest ages p.did.does p.replays
              (subst (λ (us : List Move). Replays (at_of s e a ∷ us) s.behind.life y.behind.life) one q.replays) p.ages
              (subst (λ (us : List Move). y.behind.ages ≡ ages_of_line s.world e a (as_first s u).behind us) one q.ages);
        };
      }

later_goes : (s u z y : Scene) (e : Event) (a : Answer) (xs ys : List Move) → DecidesLine s e a xs z → StageNotes (Running s) xs (Running z) → DecidesLine u e a ys y → StageNotes (Running u) ys (Running y) → Stands s → StandTogether s u → AnsweredAlike e xs ys → GoesOn (Running z) (Running y) xs ys
later_goes s u z y e a xs ys p m q n h t k =
    let same = is_as_first s u t in
    let q' : DecidesLine (as_first s u) e a ys y = subst (λ (v : Scene). DecidesLine v e a ys y) same q in
    let n' : StageNotes (Running (as_first s u)) ys (Running y) = subst (λ (v : Scene). StageNotes (Running v) ys (Running y)) same n in
    let world : y.world ≡ z.world = world_of s.world y.world e a u.report y.report q'.answered ∙ sym (world_of s.world z.world e a s.report z.report p.answered) in
    line_goes s u z y e a xs ys (record { life = refl; ages = t.behind.ages })
    (did_behind s z e a xs p m h) (did_behind (as_first s u) y e a ys q' n' (stands_as_first s u h)) world k

abbrev machine_or : MachineOf → Event → MachineOf
machine_or m (line.Machine n) = n
machine_or m _ = m

-- no page is valid in a machine that has begun
none_valid : (m : MachineOf) (l : FrameLife) (p : Place) → Replays (first_move m ∷ []) unstarted l → is_valid l p ≡ true → ⊥
none_valid m l p r valid = let bad : false ≡ true = ap (λ (k : FrameLife). is_valid k p) (sym r.1) ∙ valid in cc

first_goes : (o q : Outset) (z y : Scene) (e : Event) (a : Answer) (xs ys : List Move) → MachineBegins o e a xs z → StageNotes (NotBegun o) xs (Running z) → MachineBegins q e a ys y → StageNotes (NotBegun q) ys (Running y) → GoesOn (Running z) (Running y) xs ys
first_goes o q z y e a xs ys p m r n =
    let same : r.machine ≡ p.machine = ap (machine_or p.machine) (sym r.names ∙ p.names) in
    let one : ys ≡ xs = r.one ∙ (ap (λ (k : MachineOf). first_move k ∷ []) same ∙ sym p.one) in
    let first : Replays (first_move p.machine ∷ []) unstarted z.behind.life = subst (λ (us : List Move). Replays us unstarted z.behind.life) p.one m.replays in
    let second : Replays (first_move p.machine ∷ []) unstarted y.behind.life = subst (λ (us : List Move). Replays us unstarted y.behind.life) (one ∙ p.one) n.replays in
    record {
      one = one;
      together = record {
        world = r.first.world ∙ (ap (λ (k : MachineOf). first_world k) same ∙ sym p.first.world);
        behind = record { life = second.1 ∙ sym first.1; ages = λ place valid. absurd (none_valid p.machine z.behind.life place first valid) };
      };
    }

goes_on : (old mid x y : Stage) (e : Event) (a : Answer) (xs ys : List Move) → IsDecided old e a xs x → IsDecided mid e a ys y → KeepsStage old → Together old mid → AnsweredAlike e xs ys → GoesOn x y xs ys
goes_on (NotBegun o) (NotBegun v) (Running z) (Running y) e a xs ys p q h t k = first_goes o v z y e a xs ys p.step p.notes q.step q.notes
goes_on (Running s) (Running u) (Running z) (Running y) e a xs ys p q h t k = later_goes s u z y e a xs ys p.step.1 p.notes q.step.1 q.notes h t k
goes_on (NotBegun o) (NotBegun v) (NotBegun z) y e a xs ys p q h t k = absurd p.step
goes_on (NotBegun o) (NotBegun v) (Running z) (NotBegun y) e a xs ys p q h t k = absurd q.step
goes_on (Running s) (Running u) (NotBegun z) y e a xs ys p q h t k = absurd p.step
goes_on (Running s) (Running u) (Running z) (NotBegun y) e a xs ys p q h t k = absurd q.step
goes_on (NotBegun o) (Running u) x y e a xs ys p q h t k = absurd t
goes_on (Running s) (NotBegun v) x y e a xs ys p q h t k = absurd t

-- the same line, answered alike, in two runs that stand alike
answered_goes : (l m : DecidedLine) → IsDecided l.before l.event l.answer l.moves l.after → IsDecided m.before m.event m.answer m.moves m.after → KeepsStage l.before → Together l.before m.before → IsAnsweredAlike l m → GoesOn l.after m.after l.moves m.moves
answered_goes l m p q h t g =
    let same : IsDecided m.before l.event l.answer m.moves m.after =
    subst (λ (a : Answer). IsDecided m.before l.event a m.moves m.after) (sym g.answer)
    (subst (λ (e : Event). IsDecided m.before e m.answer m.moves m.after) (sym g.event) q) in
    goes_on l.before m.before l.after m.after l.event l.answer l.moves m.moves p same h t g.devices

-- ---- the last line of a run

record Last (l : DecidedLine) : Type 0 where
  pub keeps : KeepsStage l.before
  pub decided : IsDecided l.before l.event l.answer l.moves l.after

last_line : (n : ℕ) (old : Stage) (before : List DecidedLine) (l : DecidedLine) → AreAnswered n old (before ++ l ∷ []) → KeepsStage old → Last l
last_line n old [] l u h = record { keeps = keeps_follows old l.before u.0.follows h; decided = u.0.decided }
last_line n old (x ∷ xs) l u h =
    last_line (suc n) x.after xs l u.2 (decided_keeps x.before x.after x.event x.answer x.moves u.0.decided (keeps_follows old x.before u.0.follows h))

pub one_log_of_runs : (o q : Outset) (before others : List DecidedLine) (l m : DecidedLine) → AreAnswered 0 (NotBegun o) (before ++ l ∷ []) → AreAnswered 0 (NotBegun q) (others ++ m ∷ []) → GoesAlike l m → m.moves ≡ l.moves
one_log_of_runs o q before others l m u v g =
    let first = last_line 0 (NotBegun o) before l u tt in
    let second = last_line 0 (NotBegun q) others m v tt in
    (answered_goes l m first.decided second.decided first.keeps (subst (λ (s : Stage). Together l.before s) g.before (together_with_itself l.before)) g.alike).one

-- ---- whole runs

run_goes : (n k : ℕ) (old mid : Stage) (ls ms : List DecidedLine) → AreAnswered n old ls → AreAnswered k mid ms → KeepsStage old → Together old mid → RunsAlike ls ms → moves_of ms ≡ moves_of ls
run_goes n k old mid [] [] u v h t g = refl
run_goes n k old mid (l ∷ ls) (m ∷ ms) u v h t g =
    let here = keeps_follows old l.before u.0.follows h in
    let next = answered_goes l m u.0.decided v.0.decided here (together_follows old mid l.before m.before u.0.follows v.0.follows t) g.0 in
    let rest = run_goes (suc n) (suc k) l.after m.after ls ms u.2 v.2 (decided_keeps l.before l.after l.event l.answer l.moves u.0.decided here) next.together g.1 in
    flat_map-cons (λ (x : DecidedLine). x.moves) m ms ∙ (λ i. next.one i ++ rest i) ∙ sym (flat_map-cons (λ (x : DecidedLine). x.moves) l ls)
run_goes n k old mid [] (m ∷ ms) u v h t g = absurd g
run_goes n k old mid (l ∷ ls) [] u v h t g = absurd g

pub one_log_of_scripts : (o q : Outset) (lines others : List DecidedLine) → AreAnswered 0 (NotBegun o) lines → AreAnswered 0 (NotBegun q) others → RunsAlike lines others → moves_of others ≡ moves_of lines
one_log_of_scripts o q lines others u v g = run_goes 0 0 (NotBegun o) (NotBegun q) lines others u v tt tt g
