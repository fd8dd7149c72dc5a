-- Unless a count of faults rose, an answer tells of a failure only behind a call that a `fail` line named.
use Rattle.std.proofs.Common.{◌≡◌, ◌⊎◌, ◌≤◌, ℕ, true, false, List, [], ◌∷◌, Option, Some, None, refl, sym, ap, ◌∙◌, subst, inl, inr, arith}
use Rattle.mm_types.specs.{Rose, Text, Answer, Event, Move}
use Rattle.mm_types.proofs.{rose_then, rose_later}
use Rattle.mm_move_rules.specs.{unstarted, Replays, wait_of}
use Rattle.mm_move_laws.specs.Sound.{Sound}
use Rattle.mm_move_laws.proofs.{kept_along, replay_sound}
use Rattle.mm_devices.specs.{DeviceOf}
use Rattle.mm_world.specs.{wait_failed}
use Rattle.mm_dispatch.specs.{IsFailure, OneFailed, HasFailed, resumed_thread, Scene}
use Rattle.mm_run.specs.{Ending, Outset, Stage, NotBegun, Running, Follows, MachineBegins, DecidesLine, IsDecided, DecidedLine, AreAnswered}
use Rattle.mm_run.specs.{last_stage, MadeNamed, AreFaultless, Left, StageLeaves, ClosesRun, BreaksAt, SomeRose, begun_at, AreDecided, ClosesEvents}
use Rattle.mm_run.specs.declared.endings.Ending.TheVariants as ending
use Rattle.mm_run.proofs.Events.{decided_of, closed_of}
use Rattle.mm_run.proofs.Lost.{is_lost, lost_line}

-- ---- counts of faults

-- a device's count rose since the outset
abbrev pub RoseTo : Outset → Scene → Type 0
RoseTo o s = Rose o.paging s.paging.faults ⊎ Rose o.files s.files.faults

-- the counts of a later scene
record Later (s z : Scene) : Type 0 where
  pub paging : s.paging.faults ≤ z.paging.faults
  pub files : s.files.faults ≤ z.files.faults

abbrev LaterAt : Scene → Stage → Type 0
LaterAt s (NotBegun f) = ⊥
LaterAt s (Running z) = Later s z

later_same : (s z : Scene) → z.paging ≡ s.paging → z.files ≡ s.files → Later s z
later_same s z p f =
    let sp = ap (λ (x : DeviceOf). x.faults) p in let sf = ap (λ (x : DeviceOf). x.faults) f in
    record { paging = omega arith; files = omega arith }

later_on : (s m z : Scene) → Later s m → Later m z → Later s z
later_on s m z u v =
    let a = u.paging in let b = v.paging in let c = u.files in let d = v.files in
    record { paging = omega arith; files = omega arith }

later_at : (s m : Scene) (z : Stage) → Later s m → LaterAt m z → LaterAt s z
later_at s m (NotBegun f) u v = v
later_at s m (Running z) u v = later_on s m z u v

rose_on : (o : Outset) (s z : Scene) → Later s z → RoseTo o s → RoseTo o z
rose_on o s z l (inl r) = inl (rose_then o.paging s.paging.faults z.paging.faults r l.paging)
rose_on o s z l (inr r) = inr (rose_then o.files s.files.faults z.files.faults r l.files)

abbrev RoseAt : Outset → Stage → Type 0
RoseAt o (NotBegun f) = ⊥
RoseAt o (Running z) = RoseTo o z

rose_at : (o : Outset) (s : Scene) (z : Stage) → LaterAt s z → RoseTo o s → RoseAt o z
rose_at o s (NotBegun f) l r = l
rose_at o s (Running z) l r = rose_on o s z l r

-- ---- between two lines

abbrev scene_in : Scene → Stage → Scene
scene_in s (NotBegun o) = s
scene_in s (Running z) = z

follows_later : (s : Scene) (z : Stage) → Follows (Running s) z → LaterAt s z
follows_later s (NotBegun f) h = absurd (let bad = h.same in cc)
follows_later s (Running z) h =
    later_same s z (ap (λ (x : Stage). (scene_in s x).paging) h.same) (ap (λ (x : Stage). (scene_in s x).files) h.same)

decides_later : (m n : Scene) (e : Event) (a : Answer) (ms : List Move) → DecidesLine m e a ms n → Later m n
decides_later m n e a ms d = record { paging = d.told.paging_later; files = d.told.files_later }

decided_later : (s : Scene) (before after : Stage) (e : Event) (a : Answer) (ms : List Move) → Follows (Running s) before → IsDecided before e a ms after → LaterAt s after
decided_later s (NotBegun f) after e a ms h d = absurd (let bad = h.same in cc)
decided_later s (Running m) (NotBegun f) e a ms h d = absurd d.step
decided_later s (Running m) (Running n) e a ms h d = later_on s m n (follows_later s (Running m) h) (decides_later m n e a ms d.step.1)

later_from : (s : Scene) (m z : Stage) → LaterAt s m → ((n : Scene) → m ≡ Running n → LaterAt n z) → LaterAt s z
later_from s (NotBegun f) z u more = absurd u
later_from s (Running m) z u more = later_at s m z u (more m refl)

lines_later : (s : Scene) (lines : List DecidedLine) → AreDecided (Running s) lines → LaterAt s (last_stage (Running s) lines)
lines_later s [] u = later_same s s refl refl
lines_later s (l ∷ ls) u =
    later_from s l.after (last_stage l.after ls) (decided_later s l.before l.after l.event l.answer l.moves u.0.follows u.0.decided)
    (λ n at. subst (λ (x : Stage). LaterAt n (last_stage x ls)) (sym at) (lines_later n ls (subst (λ (x : Stage). AreDecided x ls) at u.2)))

-- ---- failures

-- no read that a thread waits for has failed but where a device's count rose
record Calm (o : Outset) (s : Scene) : Type 0 where
  pub paging_later : o.paging ≤ s.paging.faults
  pub files_later : o.files ≤ s.files.faults
  pub sound : Sound s.behind.life
  pub waits_are : (t : ℕ) → s.report.wait t ≡ wait_of (s.behind.waits t)
  pub lost : (t : ℕ) → is_lost (s.behind.waits t) ≡ true → RoseTo o s

-- where no call was named, a count rose
rose_from : (o : Outset) (s z : Scene) → Calm o s → (MadeNamed (Running s) (Running z) → ⊥) → OneFailed s.paging z.paging s.files z.files → RoseTo o z
rose_from o s z c free (inl (inl r)) = inl (rose_later o.paging s.paging.faults z.paging.faults c.paging_later r)
rose_from o s z c free (inl (inr m)) = absurd (free (inl m))
rose_from o s z c free (inr (inl r)) = inr (rose_later o.files s.files.faults z.files.faults c.files_later r)
rose_from o s z c free (inr (inr m)) = absurd (free (inr m))

module _ (o : Outset) (s z : Scene) (e : Event) (a : Answer) (ms : List Move) (d : DecidesLine s e a ms z) (replays : Replays ms s.behind.life z.behind.life) (calm : Calm o s) (free : MadeNamed (Running s) (Running z) → ⊥) where
  later : Later s z
  later = decides_later s z e a ms d

  calm_line : Calm o z
  calm_line =
      let p = later.paging in let f = later.files in let po = calm.paging_later in let fo = calm.files_later in
      record {
        paging_later = omega arith;
        files_later = omega arith;
        sound = kept_along ms s.behind.life z.behind.life calm.sound replays;
        waits_are = (d.told.line refl).agrees.waits;
        lost = λ t h. elim (lost_line s.world s.report s.behind s.paging s.files s.blocks e a ms z.world z.report z.behind z.paging z.files z.blocks (d.told.line refl) calm.sound replays t h) [
          | inl was ↦ rose_on o s z later (calm.lost t was)
          | inr failed ↦ rose_from o s z calm free failed
        ];
      }

  by_thread : (t : Option ℕ) → HasFailed t s.report → RoseTo o s
  by_thread None h = absurd h
  by_thread (Some t) h = calm.lost t (sym (ap wait_failed (calm.waits_are t)) ∙ h)

  fails_line : IsFailure a → RoseTo o z
  fails_line bad = elim (d.told.failed bad) [
    | inl before ↦ rose_on o s z later (by_thread (resumed_thread e) before)
    | inr failed ↦ rose_from o s z calm free failed
  ]

calm_follows : (o : Outset) (s z : Scene) → Follows (Running s) (Running z) → Calm o s → Calm o z
calm_follows o s z h c =
    let k = z.behind.log.faults in
    let given = z.behind.log.given in
    let calm : Calm o (record s { behind = record (s.behind) { log = record (s.behind.log) { given = given; faults = k } } }) = assumption c in
    subst (λ (x : Scene). Calm o x) (sym (ap (scene_in s) h.same)) calm

-- ---- the lines after the first, where no count rises up to this stage

module _ (o : Outset) (last : Stage) (never : RoseAt o last → ⊥) where
  quiet_by : (s : Scene) (l : DecidedLine) (ls : List DecidedLine) (before after : Stage) → Calm o s → Follows (Running s) before → IsDecided before l.event l.answer l.moves after
      → ((m : Scene) → after ≡ Running m → LaterAt m last) → (MadeNamed before after → ⊥)
      → ((m : Scene) → after ≡ Running m → Calm o m → AreFaultless ls) → (IsFailure l.answer → ⊥) × AreFaultless ls
  quiet_by s l ls (NotBegun f) after c h d to free more = absurd (let bad = h.same in cc)
  quiet_by s l ls (Running m) (NotBegun f) c h d to free more = absurd d.step
  quiet_by s l ls (Running m) (Running n) c h d to free more =
      let calm = calm_follows o s m h c in (
        (λ bad. never (rose_at o n last (to n refl) (fails_line o m n l.event l.answer l.moves d.step.1 d.notes.replays calm free bad))),
        more n refl (calm_line o m n l.event l.answer l.moves d.step.1 d.notes.replays calm free),
      )

  quiet : (s : Scene) (lines : List DecidedLine) → Calm o s → AreDecided (Running s) lines → last_stage (Running s) lines ≡ last → AreFaultless lines
  quiet s [] c u is = tt
  quiet s (l ∷ ls) c u is = λ free.
      let here : (m : Scene) → l.after ≡ Running m → AreDecided (Running m) ls = λ m at. subst (λ (x : Stage). AreDecided x ls) at u.2 in
      let end : (m : Scene) → l.after ≡ Running m → last_stage (Running m) ls ≡ last = λ m at. ap (λ (x : Stage). last_stage x ls) (sym at) ∙ is in
      let to : (m : Scene) → l.after ≡ Running m → LaterAt m last = λ m at. subst (LaterAt m) (end m at) (lines_later m ls (here m at)) in
      quiet_by s l ls l.before l.after c u.0.follows u.0.decided to free (λ m at calm. quiet m ls calm (here m at) (end m at))

-- ---- the first line

first_calm : (o : Outset) (e : Event) (a : Answer) (ms : List Move) (s : Scene) → MachineBegins o e a ms s → Replays ms unstarted s.behind.life → Calm o s
first_calm o e a ms s b r =
    let f = b.first in
    record {
      paging_later = f.paging.later;
      files_later = f.files.later;
      sound = replay_sound ms s.behind.life r;
      waits_are = λ t. (f.idle t).1 ∙ ap wait_of (sym (f.idle t).0);
      lost = λ t h. (let bad : false ≡ true = sym (ap is_lost (f.idle t).0) ∙ h in cc);
    }

-- ---- the end

breaks_later : (s : Scene) (e : Event) (before end : Stage) → Follows (Running s) before → BreaksAt e before end → LaterAt s end
breaks_later s e (NotBegun f) end h b = absurd b
breaks_later s e (Running m) (NotBegun f) h b = absurd b
breaks_later s e (Running m) (Running z) h b = later_on s m z (follows_later s (Running m) h) (later_same m z b.paging b.files)

closes_later : (s : Scene) (e : Ending) (end : Stage) → ClosesEvents e (Running s) end → LaterAt s end
closes_later s ending.NoMemory end (inl h) = follows_later s end h
closes_later s ending.NoMemory end (inr b) = breaks_later s b.0 b.1.before end b.1.follows b.1.breaks
closes_later s ending.MovesFault end (inl h) = follows_later s end h
closes_later s ending.MovesFault end (inr m) =
    subst (λ (x : Stage). LaterAt s x) (sym m.after) (decided_later s m.line.before m.line.after m.line.event m.line.answer m.line.moves m.next.follows m.next.decided)
closes_later s e end h = follows_later s end h

abbrev outset_in : Outset → Stage → Outset
outset_in o (NotBegun q) = q
outset_in o (Running s) = o

module _ (a b : Left) (e : Ending) (end : Stage) (leaves : StageLeaves end b) (calm : SomeRose a b → ⊥) where
  rose_left : (q : Outset) (y : Stage) → q.paging ≡ a.paging.faults → q.files ≡ a.files.faults → StageLeaves y b → RoseAt q y → SomeRose a b
  rose_left q (NotBegun f) p r l rose = absurd rose
  rose_left q (Running y) p r l (inl up) = inl (subst (λ (k : ℕ). Rose k b.paging.faults) p (subst (λ (k : ℕ). Rose q.paging k) l.1.faults_are up))
  rose_left q (Running y) p r l (inr up) = inr (subst (λ (k : ℕ). Rose k b.files.faults) r (subst (λ (k : ℕ). Rose q.files k) l.2.faults_are up))

  behind_first : (q : Outset) (s : Scene) (ls : List DecidedLine) (last : Stage) → last_stage (Running s) ls ≡ last → q.paging ≡ a.paging.faults → q.files ≡ a.files.faults
      → Calm q s → AreDecided (Running s) ls → LaterAt s last → ClosesEvents e last end → AreFaultless ls
  behind_first q s ls (NotBegun f) is p r c u ended closes = absurd ended
  behind_first q s ls (Running z) is p r c u ended closes =
      quiet q (Running z) (λ rose. calm (rose_left q end p r leaves (rose_at q z end (closes_later z e end closes) rose))) s ls c u is

  begun : (l : DecidedLine) (ls : List DecidedLine) (before after : Stage) → Follows (begun_at a) before → IsDecided before l.event l.answer l.moves after → AreDecided after ls → ClosesEvents e (last_stage after ls) end → AreFaultless (l ∷ ls)
  begun l ls (Running m) after h d u closes = absurd (let bad = h.same in cc)
  begun l ls (NotBegun q) (NotBegun f) h d u closes = absurd d.step
  begun l ls (NotBegun q) (Running s) h d u closes =
      let paging = ap (λ (x : Stage). (outset_in q x).paging) h.same in
      let files = ap (λ (x : Stage). (outset_in q x).files) h.same in
      λ free. (
        (λ bad. subst IsFailure d.step.answered bad),
        behind_first q s ls (last_stage (Running s) ls) refl paging files (first_calm q l.event l.answer l.moves s d.step d.notes.replays) u (lines_later s ls u) closes,
      )

  pub events_faultless : (lines : List DecidedLine) → AreDecided (begun_at a) lines → ClosesEvents e (last_stage (begun_at a) lines) end → AreFaultless lines
  events_faultless [] u closes = tt
  events_faultless (l ∷ ls) u closes = begun l ls l.before l.after u.0.follows u.0.decided u.2 closes

  pub faultless : (n : ℕ) (front : Text) (lines : List DecidedLine) → AreAnswered 0 (begun_at a) lines → ClosesRun e n front (last_stage (begun_at a) lines) end → AreFaultless lines
  faultless n front lines u closes = events_faultless lines (decided_of 0 (begun_at a) lines u) (closed_of e n front (last_stage (begun_at a) lines) end closes)
