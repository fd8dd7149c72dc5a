-- An access of a thread: begun by one call of the store, and made by another, or not.
use Rattle.std.proofs.Common.{◌≡◌, ◌≤◌, ℕ, List, ◌++◌, Bool, true, false, Option, Some, refl, sym, ap, ◌∙◌, subst, arith}
use Rattle.std.specs.Prelude.{count_by, ◌==◌, ◌&&◌}
use Rattle.mm_types.specs.{Answer, Why, Move, Key, Pid, Place, Access, page_of}
use Rattle.mm_types.proofs.{same_found}
use Rattle.mm_move_rules.specs.{FrameLife, is_thread, Replays, Waiting, Idle, Walk, walked_all, Through, waits_through, ages_through, is_read_move}
use Rattle.mm_move_rules.specs.{is_wrote_move, takes_frame}
use Rattle.mm_world.specs.{Page, BeingRead, Attempt, access, access_of, done, OutcomeOf, Tables, world_with, Need, pending, need_at, read_failed}
use Rattle.mm_world.specs.Report.{Report}
use Rattle.mm_store.specs.{StoreOf, PassesIn, StandsIn, Aim, AccessMove, ReadFails, Starts, walk_from, place_at, waits_at_once, IsReady, started}
use Rattle.mm_move_rules.specs.{changed}
use Rattle.mm_store.specs.{Ghosts as PageStoreGhosts}
use Rattle.mm_store.specs.Behind.{Behind}
use Rattle.mm_store.proofs.{passes_then, waits_then, ages_then, accesses_then, fails_then}
use Rattle.mm_line_moves.specs.{is_failed, place_had, is_write_attempt}
use Rattle.mm_dispatch.specs.{AnswersAccess, Answered, MadeBy, WaitsBy, Admits, Accessed, Refuses, AccessDone, ReadyFor, TurnsAccess, aim_for, row_need}
use Rattle.mm_dispatch.specs.{IsFailure, TurnedBy, KeepsOver, PassesOver, aim_over, world_over}
use Rattle.mm_dispatch.proofs.Begun.{passes_as, passes_still}
use Rattle.mm_dispatch.proofs.AccessForms.{count-then, idle_through, kind-through, restarted, thread-walk}
use Rattle.mm_dispatch.proofs.AccessLines.{fine_access}
use Rattle.mm_world.specs.World.{World}
use Rattle.mm_object_tables.specs.{CommittedRow, key_bytes}
use Rattle.mm_dispatch.proofs.AccessForms.{aim-needs, aim-needless}
use Rattle.mm_dispatch.proofs.Accesses.{needs-of, need-key}
use Rattle.mm_dispatch.proofs.Waiting.{served_started, went}
use Rattle.mm_types.specs.declared.answers.Answer.TheVariants as answer
use Rattle.mm_types.specs.declared.answers.Why.TheVariants as why_of
use Rattle.mm_types.specs.declared.codes.Raise.TheVariants as raise
use Rattle.mm_types.specs.declared.moves.LineKind.TheVariants as kind
use Rattle.mm_store.specs.declared.outcomes.Start.TheVariants as start
use Rattle.mm_dispatch.specs.declared.threads.Threaded.TheVariants as threaded

-- a store in a line of a thread
pub in_thread : (u : Bool) (c : Key → Option Page) (s : StoreOf) (b : Behind) (pid : Pid) → StandsIn u c s b → s.kind ≡ kind.Thread pid → u ≡ false → is_thread b.life.kind ≡ true
in_thread true c s b pid h k e = cc
in_thread false c s b pid h k e = ap is_thread (h.kind ∙ k)

-- ---- an access was ready, and is made

-- what an access answers that is made is no failure
fine_answer : (a : Answer) → (IsFailure a → ⊥) → is_failed a ≡ false
fine_answer (answer.Raised raise.InPageError) h = absurd (h tt)
fine_answer a h = refl

not_failed : (w : World) (pid addr : ℕ) (what : Attempt) (a : Answer) (v : World) → access w pid addr what ≡ done a v → is_failed a ≡ false
not_failed w pid addr what a v e = fine_answer a (λ f. (fine_access w pid addr what).it.fine (subst (λ (o : OutcomeOf Page). IsFailure o.answer) (sym e) f))

pub record Begun (a : Aim) (tid : ℕ) (b : Behind) (moves : List Move) (c : Behind) : Type 0 where
  pub starts : Starts a tid start.Ready b moves c
  pub thread : is_thread b.life.kind ≡ true

pub record Followed (aim : Option Aim) (Ready : Type 0) (r : Answer) (after : Report) (b : Behind) (moves : List Move) (c : Behind) : Type 0 where
  pub answered : Answered aim Ready r after b moves c
  pub replays : Replays moves b.life c.life

module _ (aim later : Option Aim) (a : Aim) (is : aim ≡ Some a) (l : FrameLife) (again : later ≡ Some (record a { start = l })) (tid : ℕ) (Ready : Type 0) (ready : Ready) (r : Answer) (fine : is_failed r ≡ false) (after : Report) where
  abbrev second : Aim
  second = record a { start = l }

  joined : (b c d : Behind) (xs ys : List Move) → Replays xs b.life c.life → Begun a tid b xs c → Followed later Ready r after c ys d → MadeBy aim tid r b (xs ++ ys) d
  joined b c d xs ys rep p q =
      let s = p.starts in
      let answers : AnswersAccess second r after c ys d = subst (λ (x : Aim). AnswersAccess x r after c ys d) (same_found later q.answered.aimed second q.answered.is again) q.answered.answers in
      let none : count_by is_read_move ys ≡ 0 = q.answered.calm ready in
      let thread : is_thread c.life.kind ≡ true = ap is_thread (kind-through a xs (walk_from b) c.life rep s.made.each) ∙ p.thread in
      let walk : walked_all (walk_from b) xs ≡ walk_from c = thread-walk a xs b c p.thread rep s.made.each s.ages in
      let later_moves : Through (AccessMove a) (walk_from c) ys = restarted second a.start ys (walk_from c) d.life thread none q.replays answers.made.each in
      let one : count_by is_read_move xs ≤ 1 = s.made.one_read in
      let first_few : count_by is_wrote_move xs ≤ count_by takes_frame xs = s.made.few_writes in
      let second_few : count_by is_wrote_move ys ≤ count_by takes_frame ys = answers.made.few_writes in
      let reads = count-then is_read_move xs ys in
      let wrote = count-then is_wrote_move xs ys in
      let takes = count-then takes_frame xs ys in
      record {
        aimed = a;
        is = is;
        made = record {
          each = accesses_then a xs ys (walk_from b) s.made.each (subst (λ (w : Walk). Through (AccessMove a) w ys) (sym walk) later_moves);
          one_read = omega (arith, reads, none, one);
          few_writes = omega (arith, wrote, takes, first_few, second_few);
        };
        read = fails_then false xs ys s.read (subst (λ (f : Bool). ReadFails (f && read_failed second.need after) ys) fine answers.read);
        fine = fine;
        answers = answers.answers;
        served = λ e. let at = answers.served e in record { valid = at.valid; soiled = at.soiled };
        ages =
            answers.ages
            ∙ ap (λ (f : Place → ℕ). place_had (Some a) r (ages_through ys f)) s.ages
            ∙ ap (λ (f : Place → ℕ). place_had (Some a) r f) (sym (ages_then xs ys b.ages));
        waits =
            answers.waits
            ∙ ap (waits_through ys) s.waits
            ∙ idle_through ys (waits_through xs b.waits) tid
            ∙ ap (λ (f : ℕ → Waiting). changed ◌==◌ f tid Idle) (sym (waits_then xs ys b.waits));
        settled = answers.settled;
      }

  pub started_made : (u : Bool) (s m z : StoreOf) (b c d : Behind) → (u ≡ false → is_thread b.life.kind ≡ true) → PassesIn u (Starts a tid start.Ready) s m b c → PassesIn u (Answered later Ready r after) m z c d → PassesIn u (MadeBy aim tid r) s z b d
  started_made true s m z b c d thread p q = q ∙ p
  started_made false s m z b c d thread p q =
      passes_then false (Begun a tid) (Followed later Ready r after) (MadeBy aim tid r) s m z b c d
      (record { join = joined })
      (passes_as false (Starts a tid start.Ready) (Begun a tid) s m b c (λ ms rep h. record { starts = h; thread = thread refl }) p)
      (passes_as false (Answered later Ready r after) (Followed later Ready r after) m z c d (λ ms rep h. record { answered = h; replays = rep }) q)

-- ---- it has to wait

pub started_waits : (u : Bool) (aim : Option Aim) (a : Aim) → aim ≡ Some a → (tid : ℕ) (why : Why) (s z : StoreOf) (b c : Behind) → (why ≡ why_of.Read → z.report.whereabouts a.need.key ≡ Some BeingRead) → PassesIn u (Starts a tid (start.Pending why)) s z b c → PassesIn u (WaitsBy aim tid why z.report) s z b c
started_waits u aim a is tid why s z b c awaited p =
    passes_as u (Starts a tid (start.Pending why)) (WaitsBy aim tid why z.report) s z b c (λ ms rep h. record { aimed = a; is = is; starts = h; awaited = awaited }) p

-- ---- by what its line's store and tables said of it

module _ {G : Type 0} (p : PageStoreGhosts G) (what : Attempt) (tid : ℕ) (pid : Pid) (addr : ℕ) (failed : Bool) (t : Tables) (g : G) where
  abbrev w : World
  w = world_over p t g

  abbrev place : Place
  place = place_at pid (page_of addr)

  -- ---- the store is not asked

  module _ (after : Tables) (keeps : KeepsOver p after g) where
    pub turns-refused : (a : Answer) → Refuses w pid.0 addr what a (world_over p after g) → TurnsAccess p what tid pid addr failed t g (threaded.Refused a) after g
    turns-refused a h = record {
      turned = (h, refl);
      keeps = keeps;
      rest = record { line = refl; unpaged = λ never why is. cc; loans = refl };
      passes = passes_still p.unpaged (TurnedBy (aim_over p t g pid addr what) tid (threaded.Refused a) (p.store g).report) (p.store g) (p.behind g) (record { none = aim-needless w (p.behind g).life pid addr what h.needless; still = record { none = refl; same = refl } });
    }

    pub turns-failed : (kind : Access) (row : CommittedRow) → access_of what ≡ kind → Admits t pid.0 addr kind row → after ≡ t → failed ≡ true → TurnsAccess p what tid pid addr failed t g threaded.Failed after g
    turns-failed kind row is h same fails =
        let needs = needs-of t (key_bytes (p.contents g)) pid addr what kind row is h in
        record {
          turned = (fails, record { need = row_need kind row place; needs = needs }, refl, ap (λ (t : Tables). world_over p t g) same);
          keeps = keeps;
          rest = record { line = refl; unpaged = λ never why is. cc; loans = refl };
          passes = passes_still p.unpaged (TurnedBy (aim_over p t g pid addr what) tid threaded.Failed (p.store g).report) (p.store g) (p.behind g) (record { aimed = _; is = aim-needs w (p.behind g).life pid addr what (row_need kind row place) needs; still = record { none = refl; same = refl } });
        }

  -- ---- it is asked

  module _ (kind : Access) (row : CommittedRow) (is : access_of what ≡ kind) (after : Tables) (same : after ≡ t) (h : G) where
    abbrev need : Need
    need = row_need kind row place

    module _ (admitted : Admits t pid.0 addr kind row) where
      needs : need_at w pid.0 addr what ≡ Some need
      needs = needs-of t (key_bytes (p.contents g)) pid addr what kind row is admitted

      aims : aim_over p t g pid addr what ≡ Some (aim_for p place need (is_write_attempt what) g)
      aims = aim-needs w (p.behind g).life pid addr what need needs

    pub turns-waiting : Admits t pid.0 addr kind row → KeepsOver p after h → p.contents h ≡ p.contents g → p.store h ≡ started (p.store g) (p.store h) → (why : Why) → failed ≡ false → pending t.machine.depth need (p.store g).report (p.store h).report ≡ Some why
        → (why ≡ why_of.Read → (p.store h).report.whereabouts row.key ≡ Some BeingRead) → (p.unpaged ≡ true → ⊥) → p.loans h ≡ p.loans g
        → PassesOver p (Starts (aim_for p place need (is_write_attempt what) g) tid (start.Pending why)) g h → TurnsAccess p what tid pid addr failed t g (threaded.Waiting why) after h
    turns-waiting admitted keeps contents begun why fine pends awaited paged loans passes = record {
      turned = (fine, record { need = need; needs = needs admitted; pends = pends; served = served_started (p.store g) (p.store h) begun }, (λ i. world_with (same i) (key_bytes (contents i))));
      keeps = keeps;
      rest = record { line = ap (λ (s : StoreOf). s.line) begun; unpaged = λ never x e. paged never; loans = loans };
      passes = started_waits p.unpaged (aim_over p t g pid addr what) (aim_for p place need (is_write_attempt what) g) (aims admitted) tid why (p.store g) (p.store h) (p.behind g) (p.behind h)
          (λ reads. ap (p.store h).report.whereabouts (need-key kind row place) ∙ awaited reads) passes;
    }

    pub turns-made : ReadyFor p kind tid pid addr row failed t g after h → (a : Answer) (end : Tables) (k : G) → AccessDone p what pid addr need after h a end k → p.loans k ≡ p.loans h → TurnsAccess p what tid pid addr failed t g (threaded.Made a) end k
    turns-made r a end k d loans =
        let again = aim-needs (world_over p after h) (p.behind h).life pid addr what need (needs-of after (key_bytes (p.contents h)) pid addr what kind row is r.can.admitted) in
        let accessed : Accessed p.unpaged w pid.0 addr what (p.store h) (p.store k) a (world_over p end k) =
        subst (λ (x : World). Accessed p.unpaged x pid.0 addr what (p.store h) (p.store k) a (world_over p end k)) (λ i. world_with (same i) (key_bytes (r.contents i))) d.accessed in
        let made = went p.unpaged t.machine.depth w pid.0 addr what need (p.store g) (p.store h) (p.store k) a (world_over p end k) (needs r.admitted)
        (ap (λ (key : Key). waits_at_once t.machine.depth key (p.store g).report) (need-key kind row place) ∙ r.at_once) r.store (d.had r.ready) accessed in
        record {
          turned = (r.fine, made);
          keeps = d.keeps;
          rest = record { line = d.line ∙ ap (λ (s : StoreOf). s.line) r.store; unpaged = λ never why is. cc; loans = loans ∙ r.loans };
          passes = started_made (aim_over p t g pid addr what) (aim_over p after h pid addr what) (aim_for p place need (is_write_attempt what) g) (aims r.admitted) (p.behind h).life again tid (IsReady (p.store h) place need) r.ready a (not_failed w pid.0 addr what a (world_over p end k) made.outcome) (p.store k).report
              p.unpaged (p.store g) (p.store h) (p.store k) (p.behind g) (p.behind h) (p.behind k) r.thread (r.passes (is_write_attempt what)) d.passes;
        }
