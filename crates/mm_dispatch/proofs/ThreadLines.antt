-- The lines `begin` and `resume`, by what the thread keeps and by how its access went.
use Rattle.std.proofs.Common.{◌≡◌, ◌⊎◌, inl, ℕ, Bool, true, false, Option, Some, None, refl, sym, ◌∙◌, ap, subst, cond, is_some}
use Rattle.std.specs.Prelude.{option_map, ◌&&◌, ◌==◌}
use Rattle.std.proofs.lemmas.Bool.{cond-false, cond_both}
use Rattle.mm_types.specs.{Answer, Why, AccessSpec, Event, Key, Pid, Tid, LineKind}
use Rattle.mm_world.specs.{Page, ProcessOf, KeptOf, Attempt, access, address_in, attempt_in, Need, pending, wait_failed, process_of, OutcomeOf, done}
use Rattle.mm_world.specs.{find_or, step, stepped, unpaged, told, need_at, kept_by, keep, waiting, resume, resume_told, Tables, world_with}
use Rattle.mm_world.specs.{process_with}
use Rattle.mm_world.specs.World.{World}
use Rattle.mm_world.specs.Report.{Report}
use Rattle.mm_dispatch.proofs.With.{process-with}
use Rattle.mm_store.specs.{StoreOf, Served, SomeFailed, Aim, Forgets, OneMove, Ghosts as PageStoreGhosts}
use Rattle.mm_move_rules.specs.{changed}
use Rattle.mm_object_tables.specs.{key_bytes}
use Rattle.mm_dispatch.specs.{IsFailure, Named, FlushServed, FailedBefore, Refuses, Waits, AccessMade, Permitted, Stepped, KeepsTables, LineBegins}
use Rattle.mm_dispatch.specs.{Decided, BeginsThread, EndsAccess, TurnsAccess, MadeBy, WaitsBy, RefusedBy, FailedBy, aim_in, waited, AnswersLine}
use Rattle.mm_dispatch.specs.{StartsLine, DecidedOver, FitsOver, KeepsOver, PassesOver, aim_over, world_over, Lined, Threaded}
use Rattle.mm_dispatch.proofs.Lines.{devices-told, served-quiet, quiet-same}
use Rattle.mm_dispatch.proofs.Lines.{stepped-plain}
use Rattle.mm_dispatch.proofs.AccessLines.{fine_access, kind-lives}
use Rattle.mm_dispatch.proofs.Rows.{Lives, gone-by, lives-by}
use Rattle.mm_move_rules.specs.{FrameLife, Waiting, Idle}
use Rattle.mm_store.proofs.{passes_then}
use Rattle.mm_line_moves.specs.{kind_of_line, aim_of, aim_at, aim_kept, kept_kind, awaited, is_pending_read, wait_of_begin}
use Rattle.mm_dispatch.proofs.AccessForms.{aim-needs, aim-needless}
use Rattle.mm_dispatch.proofs.LineForms.{access_answers, IsAccess, Waited, begun_still, failed_line, idle_line, made_joins, made_line, none_line}
use Rattle.mm_dispatch.proofs.LineForms.{waits_line}
use Rattle.mm_dispatch.proofs.Accesses.{no_process}
use Rattle.mm_dispatch.proofs.Waiting.{keeps-forgot, keeps_kept, none_failed, served_forgot, went_forgot}
use Rattle.mm_types.specs.declared.answers.Answer.TheVariants as answer
use Rattle.mm_types.specs.declared.codes.Code.TheVariants as code
use Rattle.mm_types.specs.declared.codes.Raise.TheVariants as raise
use Rattle.mm_types.specs.declared.events.Event.TheVariants as line
use Rattle.mm_types.specs.declared.answers.Wait.TheVariants as wait
use Rattle.mm_types.specs.declared.moves.LineKind.TheVariants as kind
use Rattle.mm_types.specs.declared.moves.Move.TheVariants as move
use Rattle.mm_dispatch.specs.declared.threads.Threaded.TheVariants as threaded

-- of two that are none, either
pub none_either : {A : Type 0} (b : Bool) (o : Option A) → o ≡ None → cond b None o ≡ None
none_either true o e = refl
none_either false o e = e

waits_none : (w : World) (o : Option Need) (before after : Report) → o ≡ None → waiting w o before after ≡ None
waits_none w None before after e = refl
waits_none w (Some n) before after e = cc

waits_by : (w : World) (o : Option Need) (n : Need) (why : Option Why) (before after : Report) → o ≡ Some n → pending w.machine.depth n before after ≡ why → waiting w o before after ≡ option_map answer.Pending why
waits_by w None n why before after e p = cc
waits_by w (Some k) n why before after e p =
    let same : k ≡ n = cc in
    ap (λ (n : Need). option_map answer.Pending (pending w.machine.depth n before after)) same ∙ ap (option_map answer.Pending) p

not-failed : (o : OutcomeOf Page) (a : Answer) (v : World) → (IsFailure o.answer → ⊥) → o ≡ done a v → IsFailure a → ⊥
not-failed o a v fine e f = fine (subst (λ (o : OutcomeOf Page). IsFailure o.answer) (sym e) f)

module _ (u : Bool) (n : ℕ) (t : Tables) (old mid : Key → Option Page) (s m : StoreOf) (same : mid ≡ old) (b : LineBegins n s m) where
  abbrev begun_world : World
  begun_world = world_with t (key_bytes mid)

  -- the reports before the line and once it has begun say the same of what has to wait
  began : (depth : ℕ) (need : Need) (z : StoreOf) (o : Option Why) → pending depth need m.report z.report ≡ o → pending depth need s.report z.report ≡ o
  began depth need z o p = subst (λ (r : Report). pending depth need r z.report ≡ o) b.report_is p

  thread-line : (beginning : Event) (a : Answer) (after : Tables) (new : Key → Option Page) (z : StoreOf) → KeepsTables after new z → z.line ≡ m.line → Stepped u begun_world beginning s.report z.report a (world_with after (key_bytes new)) → Served m z → (IsFailure a → FailedBefore beginning s.report ⊎ SomeFailed m z) → Named u beginning a s.paging_device z.paging_device s.file_device z.file_device → FlushServed (world_with after (key_bytes new)) z.file_blocks beginning a → Decided u beginning n t old s a after new z
  thread-line beginning a after new z keeps line_is step served failed named flushed =
      record {
        stepped = subst (λ (c : Key → Option Page). Stepped u (world_with t (key_bytes c)) beginning s.report z.report a (world_with after (key_bytes new))) same step;
        devices = devices-told u beginning n s m z a b served named failed;
        flushed = flushed;
        keeps = keeps;
        line_is = line_is ∙ b.line_is;
      }

  -- ---- `begin`

  module _ (tid : Tid) (pid : Pid) (what : AccessSpec) where
    abbrev beginning : Event
    beginning = line.Begin tid pid what

    abbrev later : ProcessOf Page → OutcomeOf Page
    later p = cond (is_some (kept_by begun_world tid.0)) (done answer.Busy begun_world) (access begun_world pid.0 (address_in what) (attempt_in what))

    begin-lives : Lives t pid.0 → unpaged begun_world beginning ≡ cond (is_some (kept_by begun_world tid.0)) (done answer.Busy begun_world) (access begun_world pid.0 (address_in what) (attempt_in what))
    begin-lives l = ap (λ p. find_or begun_world code.InvalidHandle p later) (process-with (key_bytes mid) t pid.0 ∙ ap (option_map (process_with (key_bytes mid) pid.0)) l.lives)

    begin-gone : process_of t pid.0 ≡ None → unpaged begun_world beginning ≡ done (answer.Error code.InvalidHandle) begun_world
    begin-gone gone = ap (λ p. find_or begun_world code.InvalidHandle p later) (process-with (key_bytes mid) t pid.0 ∙ ap (option_map (process_with (key_bytes mid) pid.0)) gone)

    tells-none : (z : StoreOf) → need_at begun_world pid.0 (address_in what) (attempt_in what) ≡ None → told begun_world beginning s.report z.report ≡ None
    tells-none z none = none_either (is_some (kept_by begun_world tid.0)) _ (waits_none begun_world (need_at begun_world pid.0 (address_in what) (attempt_in what)) s.report z.report none)

    busy-told : (z : StoreOf) (b : Bool) (o : Option Answer) → b ≡ true → cond b None o ≡ None
    busy-told z true o e = refl
    busy-told z false o e = cc

    pub begin-nobody : KeepsTables t mid m → Served m m → process_of t pid.0 ≡ None → Refuses begun_world pid.0 (address_in what) (attempt_in what) (answer.Error code.InvalidHandle) begun_world → Decided u beginning n t old s (answer.Error code.InvalidHandle) t mid m
    begin-nobody keeps served gone h =
        thread-line beginning (answer.Error code.InvalidHandle) t mid m keeps refl (stepped-plain u begun_world beginning s.report m.report _ begun_world (tells-none m h.needless) (begin-gone gone)) served (λ f. absurd f) tt tt

    pub begin-busy : KeepsTables t mid m → Served m m → Lives t pid.0 → is_some (kept_by t tid.0) ≡ true → Decided u beginning n t old s answer.Busy t mid m
    begin-busy keeps served l kept =
        thread-line beginning answer.Busy t mid m keeps refl
        (stepped-plain u begun_world beginning s.report m.report answer.Busy begun_world (busy-told m (is_some (kept_by t tid.0)) _ kept) (begin-lives l ∙ ap (λ b. cond b (done answer.Busy begun_world) (access begun_world pid.0 (address_in what) (attempt_in what))) kept))
        served (λ f. absurd f) tt tt

    module _ (l : Lives t pid.0) (free : is_some (kept_by t tid.0) ≡ false) (after : Tables) (new : Key → Option Page) (z : StoreOf) (keeps : KeepsTables after new z) (line_is : z.line ≡ m.line) where
      abbrev left : World
      left = world_with after (key_bytes new)

      accessed : unpaged begun_world beginning ≡ access begun_world pid.0 (address_in what) (attempt_in what)
      accessed = begin-lives l ∙ cond-false (is_some (kept_by t tid.0)) _ _ free

      tells : told begun_world beginning s.report z.report ≡ waiting begun_world (need_at begun_world pid.0 (address_in what) (attempt_in what)) s.report z.report
      tells = cond-false (is_some (kept_by t tid.0)) _ _ free

      pub begin-refused : (a : Answer) → Served m z → Refuses begun_world pid.0 (address_in what) (attempt_in what) a left → Decided u beginning n t old s a after new z
      begin-refused a served h =
          thread-line beginning a after new z keeps line_is (stepped-plain u begun_world beginning s.report z.report a left (tells-none z h.needless) (accessed ∙ h.outcome)) served
          (λ f. absurd (not-failed (access begun_world pid.0 (address_in what) (attempt_in what)) a left (fine_access begun_world pid.0 (address_in what) (attempt_in what)).it.fine h.outcome f)) tt tt

      pub begin-made : (a : Answer) → AccessMade begun_world.machine.depth begun_world pid.0 (address_in what) (attempt_in what) m z a left → Decided u beginning n t old s a after new z
      begin-made a h =
          thread-line beginning a after new z keeps line_is
          (stepped-plain u begun_world beginning s.report z.report a left (tells ∙ waits_by begun_world _ h.need None s.report z.report h.needs (began begun_world.machine.depth h.need z None h.ready)) (accessed ∙ h.outcome)) h.served
          (λ f. absurd (not-failed (access begun_world pid.0 (address_in what) (attempt_in what)) a left (fine_access begun_world pid.0 (address_in what) (attempt_in what)).it.fine h.outcome f)) tt tt

      pub begin-waits : (why : Why) → (u ≡ true → ⊥) → Waits begun_world.machine.depth begun_world pid.0 (address_in what) (attempt_in what) m z why → left ≡ keep begun_world tid.0 (Some (record { pid = pid.0; access = what })) → Decided u beginning n t old s (answer.Pending why) after new z
      begin-waits why paged h kept =
          thread-line beginning (answer.Pending why) after new z keeps line_is
          (record {
            decided = ap (stepped begun_world beginning) (tells ∙ waits_by begun_world _ h.need (Some why) s.report z.report h.needs (began begun_world.machine.depth h.need z (Some why) h.pends)) ∙ ap (λ (left : World). done (answer.Pending why) left) (sym kept);
            told = λ never plain fine. absurd (paged never);
          }) h.served (λ f. absurd f) tt tt

  -- ---- `resume`

  module _ (tid : Tid) where
    abbrev resuming : Event
    resuming = line.Resume tid

    pub resume-nothing : (new : Key → Option Page) (z : StoreOf) → KeepsTables t new z → z.line ≡ m.line → Served m z → new ≡ mid → kept_by t tid.0 ≡ None → Decided u resuming n t old s answer.Nothing t new z
    resume-nothing new z keeps line_is served kept_bytes none =
        thread-line resuming answer.Nothing t new z keeps line_is
        (stepped-plain u begun_world resuming s.report z.report answer.Nothing (world_with t (key_bytes new)) (ap (λ k. resume_told begun_world tid.0 k s.report z.report) none)
        (ap (resume begun_world tid.0) none ∙ ap (λ (c : Key → Option Page). done answer.Nothing (world_with t (key_bytes c))) (sym kept_bytes)))
        served (λ f. absurd f) tt tt

    module _ (k : KeptOf) (kept : kept_by t tid.0 ≡ Some k) (after : Tables) (new : Key → Option Page) (z : StoreOf) (keeps : KeepsTables after new z) (line_is : z.line ≡ m.line) where
      abbrev address : ℕ
      address = address_in k.access

      abbrev attempt : Attempt
      attempt = attempt_in k.access

      abbrev x : World
      x = world_with after (key_bytes new)

      is_resumed : unpaged begun_world resuming ≡ done (access begun_world k.pid address attempt).answer (keep (access begun_world k.pid address attempt).world tid.0 None)
      is_resumed = ap (resume begun_world tid.0) kept

      told-kept : told begun_world resuming s.report z.report ≡ resume_told begun_world tid.0 (Some k) s.report z.report
      told-kept = ap (λ k. resume_told begun_world tid.0 k s.report z.report) kept

      -- the wait stands as it did before the line
      was_waiting : (o : Bool) → wait_failed (m.report.wait tid.0) ≡ o → wait_failed (s.report.wait tid.0) ≡ o
      was_waiting o e = subst (λ (r : Report). wait_failed (r.wait tid.0) ≡ o) b.report_is e

      is_ended : (a : Answer) (y : World) → access begun_world k.pid address attempt ≡ done a y → x ≡ keep y tid.0 None → unpaged begun_world resuming ≡ done a x
      is_ended a y outcome is = is_resumed ∙ ap (λ (o : OutcomeOf Page). done o.answer (keep o.world tid.0 None)) outcome ∙ ap (λ (v : World). done a v) (sym is)

      by-need : (o : Option Need) (fails : Bool) (c : Option Answer) → wait_failed (s.report.wait tid.0) ≡ fails → need_at begun_world k.pid address attempt ≡ o → cond (is_some o && fails) (Some (answer.Raised raise.InPageError)) (waiting begun_world o s.report z.report) ≡ c → told begun_world resuming s.report z.report ≡ c
      by-need o fails c e g h = told-kept ∙ (λ i. cond (is_some (g i) && e i) (Some (answer.Raised raise.InPageError)) (waiting begun_world (g i) s.report z.report)) ∙ h

      pub resume-refused : (a : Answer) (y : World) → Served m z → Refuses begun_world k.pid address attempt a y → x ≡ keep y tid.0 None → Decided u resuming n t old s a after new z
      resume-refused a y served h is =
          thread-line resuming a after new z keeps line_is
          (stepped-plain u begun_world resuming s.report z.report a x (by-need None _ None refl h.needless refl) (is_ended a y h.outcome is)) served
          (λ g. absurd (not-failed (access begun_world k.pid address attempt) a y (fine_access begun_world k.pid address attempt).it.fine h.outcome g)) tt tt

      pub resume-made : (a : Answer) (y : World) → wait_failed (m.report.wait tid.0) ≡ false → AccessMade begun_world.machine.depth begun_world k.pid address attempt m z a y → x ≡ keep y tid.0 None → Decided u resuming n t old s a after new z
      resume-made a y fine h is =
          thread-line resuming a after new z keeps line_is
          (stepped-plain u begun_world resuming s.report z.report a x
          (by-need (Some h.need) false None (was_waiting false fine) h.needs (waits_by begun_world (Some h.need) h.need None s.report z.report refl (began begun_world.machine.depth h.need z None h.ready)))
          (is_ended a y h.outcome is)) h.served
          (λ g. absurd (not-failed (access begun_world k.pid address attempt) a y (fine_access begun_world k.pid address attempt).it.fine h.outcome g)) tt tt

      pub resume-failed : (u ≡ true → ⊥) → wait_failed (m.report.wait tid.0) ≡ true → Permitted begun_world k.pid address attempt → Served m z → x ≡ keep begun_world tid.0 None → Decided u resuming n t old s (answer.Raised raise.InPageError) after new z
      resume-failed paged fails h served is =
          thread-line resuming (answer.Raised raise.InPageError) after new z keeps line_is
          (record {
            decided = ap (stepped begun_world resuming) (by-need (Some h.need) true (Some (answer.Raised raise.InPageError)) (was_waiting true fails) h.needs refl) ∙ ap (λ (left : World). done (answer.Raised raise.InPageError) left) (sym is);
            told = λ never plain fine. absurd (paged never);
          }) served (λ g. inl (was_waiting true fails)) tt tt

      pub resume-waits : (why : Why) → (u ≡ true → ⊥) → wait_failed (m.report.wait tid.0) ≡ false → Waits begun_world.machine.depth begun_world k.pid address attempt m z why → x ≡ begun_world → Decided u resuming n t old s (answer.Pending why) after new z
      resume-waits why paged fine h is =
          thread-line resuming (answer.Pending why) after new z keeps line_is
          (record {
            decided =
                ap (stepped begun_world resuming)
                (by-need (Some h.need) false (Some (answer.Pending why)) (was_waiting false fine) h.needs (waits_by begun_world (Some h.need) h.need (Some why) s.report z.report refl (began begun_world.machine.depth h.need z (Some why) h.pends)))
                ∙ ap (λ (left : World). done (answer.Pending why) left) (sym is);
            told = λ never plain fine. absurd (paged never);
          }) h.served (λ g. absurd g) tt tt

-- ---- decided and noted

idle_either : (b : Bool) → cond b Idle Idle ≡ Idle
idle_either b = cond_both b Idle Idle (λ w. w ≡ Idle) (λ e. refl) (λ e. refl)

-- ---- `begin`

module _ {G : Type 0} (p : PageStoreGhosts G) {n : ℕ} {tid : Tid} {pid : Pid} {busy lived : Bool} {t : Tables} {g x : G} (what : AccessSpec) (begun : BeginsThread p n tid pid busy lived t g x) where
  abbrev w : World
  w = world_over p t g

  abbrev e : Event
  e = line.Begin tid pid what

  abbrev addr : ℕ
  addr = address_in what

  abbrev does : Attempt
  does = attempt_in what

  begins : (r : Answer) → PassesOver p (OneMove (move.At n (kind_of_line w e r))) g x
  begins r = subst (λ (k : LineKind). PassesOver p (OneMove (move.At n k)) g x) (λ i. cond (begun.busy_is i) kind.Call (kind-lives t (key_bytes (p.contents g)) pid (kind.Thread pid) lived begun.lives i)) begun.starts.passes

  answered : (r : Answer) (after : Tables) (y : G) → DecidedOver p e n t g r after y → PassesOver p (Lined w e n r (world_over p after y) (p.store y).report) g y → AnswersLine p e n t g r after y
  answered r after y decided passes = access_answers p false e e refl refl n t g r after y (λ b ms h. h) decided passes

  begin-none : (r : Answer) → ((l : FrameLife) → aim_of w l e ≡ None) → PassesOver p (Lined w e n r (world_over p t x) (p.store x).report) g x
  begin-none r needless =
      none_line p.unpaged false w e n r (world_over p t x) (p.store g) (p.store x) (p.behind g) (p.behind x) (λ b c h. h) (λ b. refl) needless
      (λ b f l. ap (λ (o : Option Aim). λ t. wait_of_begin o tid.0 r f l t) (needless b.life)) (begins r)

  -- no access is permitted, as after the line began
  needless : need_at (world_over p t x) pid.0 addr does ≡ None → (l : FrameLife) → aim_of w l e ≡ None
  needless none l =
      none_either (is_some (kept_by t tid.0)) (aim_at w l pid addr does)
      (aim-needless w l pid addr does (ap (λ (c : Key → Option Page). need_at (world_with t (key_bytes c)) pid.0 addr does) (sym begun.starts.contents) ∙ none))

  quiet : Served (p.store x) (p.store x)
  quiet = served-quiet (p.store x) (p.store x) (quiet-same (p.store x) (p.store x) refl)

  -- there is no process
  pub begin-alone : lived ≡ false → AnswersLine p e n t g (answer.Error code.InvalidHandle) t x
  begin-alone dead =
      let gone = gone-by t pid.0 (sym begun.lives ∙ dead) in
      let h = no_process t (key_bytes (p.contents x)) pid.0 addr does gone in
      answered (answer.Error code.InvalidHandle) t x
      (begin-nobody p.unpaged n t (p.contents g) (p.contents x) (p.store g) (p.store x) begun.starts.contents begun.starts.begins tid pid what begun.keeps quiet gone h)
      (begin-none (answer.Error code.InvalidHandle) (needless h.needless))

  module _ (on : lived ≡ true) where
    alive : Lives t pid.0
    alive = lives-by t pid.0 (sym begun.lives ∙ on)

    -- the thread keeps an access
    pub begin-kept : busy ≡ true → AnswersLine p e n t g answer.Busy t x
    begin-kept is =
        answered answer.Busy t x
        (begin-busy p.unpaged n t (p.contents g) (p.contents x) (p.store g) (p.store x) begun.starts.contents begun.starts.begins tid pid what begun.keeps quiet alive (sym begun.busy_is ∙ is))
        (begin-none answer.Busy (λ l. ap (λ k. cond k None (aim_at w l pid addr does)) (sym begun.busy_is ∙ is)))

    module _ (free : busy ≡ false) (y : G) where
      form : (r : Answer) (v : World) (after : Report) → IsAccess false w e r v after pid addr does
      form r v after = record { aim = λ l. ap (λ k. cond k None (aim_at w l pid addr does)) (sym begun.busy_is ∙ free); does = λ b ms c h. h; ages = λ b ms. refl }

      awaits : (r : Answer) → Waited w e r tid.0
      awaits r = record { some = λ a b f l is. ap (λ (o : Option Aim). λ t. wait_of_begin o tid.0 r f l t) is }

      aims : aim_over p t x pid addr does ≡ aim_in t (p.contents g) (p.behind x) pid addr does
      aims = ap (λ (c : Key → Option Page). aim_in t c (p.behind x) pid addr does) begun.starts.contents

      -- the access is refused by its row
      pub begin-refuses : (r : Answer) (after : Tables) → TurnsAccess p does tid.0 pid addr false t x (threaded.Refused r) after y → AnswersLine p e n t g r after y
      begin-refuses r after h =
          let none = needless h.turned.0.needless in
          answered r after y
          (begin-refused p.unpaged n t (p.contents g) (p.contents x) (p.store g) (p.store x) begun.starts.contents begun.starts.begins tid pid what alive (sym begun.busy_is ∙ free) after (p.contents y) (p.store y) h.keeps h.rest.line r
          (served-quiet (p.store x) (p.store y) (quiet-same (p.store x) (p.store y) h.turned.1)) h.turned.0)
          (none_line p.unpaged false w e n r (world_over p after y) (p.store g) (p.store y) (p.behind g) (p.behind y) (λ b c h. h) (λ b. refl) none
          (λ b f l. ap (λ (o : Option Aim). λ t. wait_of_begin o tid.0 r f l t) (none b.life))
          (begun_still p.unpaged (move.At n (kind_of_line w e r)) (RefusedBy (aim_over p t x pid addr does)) (p.store g) (p.store x) (p.store y) (p.behind g) (p.behind x) (p.behind y) (λ b ms c h. h.still) (begins r) h.passes))

      -- it is made
      pub begin-makes : (r : Answer) (after : Tables) → TurnsAccess p does tid.0 pid addr false t x (threaded.Made r) after y → AnswersLine p e n t g r after y
      begin-makes r after h =
          let v = world_over p after y in
          answered r after y
          (begin-made p.unpaged n t (p.contents g) (p.contents x) (p.store g) (p.store x) begun.starts.contents begun.starts.begins tid pid what alive (sym begun.busy_is ∙ free) after (p.contents y) (p.store y) h.keeps h.rest.line r h.turned.1)
          (made_line p.unpaged w e n v (p.store g) (p.store x) (p.store y) (p.behind g) (p.behind x) (p.behind y) r pid addr does tid.0 (form r v (p.store y).report) (awaits r) (begins r)
          (subst (λ (o : Option Aim). PassesOver p (MadeBy o tid.0 r) x y) aims h.passes))

      -- it has to wait, and the thread keeps it
      pub begin-awaits : (why : Why) (mid after : Tables) → TurnsAccess p does tid.0 pid addr false t x (threaded.Waiting why) mid y → after ≡ keep mid tid.0 (Some (record { pid = pid.0; access = what })) → FitsOver p after y → AnswersLine p e n t g (answer.Pending why) after y
      begin-awaits why mid after h kept fits =
          let r = answer.Pending why in
          let v = world_over p after y in
          answered r after y
          (begin-waits p.unpaged n t (p.contents g) (p.contents x) (p.store g) (p.store x) begun.starts.contents begun.starts.begins tid pid what alive (sym begun.busy_is ∙ free) after (p.contents y) (p.store y)
          (keeps_kept mid after (p.contents y) (p.store y) tid.0 _ h.keeps kept fits) h.rest.line why (λ never. h.rest.unpaged never why refl) h.turned.1
          (ap (λ (t : Tables). world_over p t y) kept ∙ ap (λ (w : World). keep w tid.0 (Some (record { pid = pid.0; access = what }))) h.turned.2))
          (waits_line p.unpaged w e n v (p.store g) (p.store x) (p.store y) (p.behind g) (p.behind x) (p.behind y) why pid addr does tid.0 (form r v (p.store y).report) (awaits r) (begins r)
          (subst (λ (o : Option Aim). PassesOver p (WaitsBy o tid.0 why (p.store y).report) x y) aims h.passes))

-- ---- `resume`

module _ {G : Type 0} (p : PageStoreGhosts G) {n : ℕ} (tid : Tid) (t : Tables) {form : LineKind} {g x : G} (starts : StartsLine p n form g x) where
  abbrev before : World
  before = world_over p t g

  abbrev f : Event
  f = line.Resume tid

  resumed : (r : Answer) (after : Tables) (z : G) → DecidedOver p f n t g r after z → PassesOver p (Lined before f n r (world_over p after z) (p.store z).report) g z → AnswersLine p f n t g r after z
  resumed r after z decided passes = access_answers p false f f refl refl n t g r after z (λ b ms h. h) decided passes

  -- a line with no access, after which the thread waits for nothing
  resume-still : (r : Answer) (v : World) (y z : G) → ((l : FrameLife) → aim_of before l f ≡ None) → PassesOver p (OneMove (move.At n (kind_of_line before f r))) g y → PassesOver p (Forgets tid.0) y z → PassesOver p (Lined before f n r v (p.store z).report) g z
  resume-still r v y z needless first forgot =
      idle_line p.unpaged before f n v (p.store g) (p.store y) (p.store z) (p.behind g) (p.behind y) (p.behind z) r tid.0 (λ b c h. h) (λ b. refl) needless
      (λ b g l.
      ap (λ (o : Option Aim). changed ◌==◌ g tid.0 (cond (is_pending_read r) (awaited o l) Idle)) (needless b.life)
      ∙ ap (λ (i : Waiting). changed ◌==◌ g tid.0 i) (idle_either (is_pending_read r))) first forgot

  -- the thread keeps nothing
  pub resume-none : form ≡ kind.Call → (z : G) → KeepsOver p t x → kept_by t tid.0 ≡ None → p.contents z ≡ p.contents x → p.store z ≡ waited (p.store x) (p.store z) → PassesOver p (Forgets tid.0) x z → AnswersLine p f n t g answer.Nothing t z
  resume-none is z keeps none contents rest forgot =
      resumed answer.Nothing t z
      (resume-nothing p.unpaged n t (p.contents g) (p.contents x) (p.store g) (p.store x) starts.contents starts.begins tid (p.contents z) (p.store z) (keeps-forgot t (p.contents x) (p.contents z) (p.store x) (p.store z) keeps contents rest)
      (ap (λ (s : StoreOf). s.line) rest) (served_forgot (p.store x) (p.store x) (p.store z) rest (served-quiet (p.store x) (p.store x) (quiet-same (p.store x) (p.store x) refl))) contents none)
      (resume-still answer.Nothing (world_over p t z) x z (λ l. ap (λ (k : Option KeptOf). aim_kept before l k) none)
      (subst (λ (k : LineKind). PassesOver p (OneMove (move.At n k)) g x) (is ∙ sym (ap kept_kind none)) starts.passes) forgot)

  module _ (k : KeptOf) (kept : kept_by t tid.0 ≡ Some k) (is : form ≡ kind.Thread (record { 0 = k.pid })) (failed : Bool) (fails : failed ≡ wait_failed ((p.store x).report.wait tid.0)) where
    abbrev owner : Pid
    owner = record { 0 = k.pid }

    abbrev at : ℕ
    at = address_in k.access

    abbrev tries : Attempt
    tries = attempt_in k.access

    begun : (r : Answer) → PassesOver p (OneMove (move.At n (kind_of_line before f r))) g x
    begun r = subst (λ (k : LineKind). PassesOver p (OneMove (move.At n k)) g x) (is ∙ sym (ap kept_kind kept)) starts.passes

    aimed : (l : FrameLife) → aim_of before l f ≡ aim_at before l owner at tries
    aimed l = ap (λ (k : Option KeptOf). aim_kept before l k) kept

    accesses_it : (r : Answer) (v : World) (after : Report) → IsAccess false before f r v after owner at tries
    accesses_it r v after = record { aim = aimed; does = λ b ms c h. h; ages = λ b ms. refl }

    waits : (r : Answer) → Waited before f r tid.0
    waits r = record { some = λ a b g l is. ap (λ (o : Option Aim). changed ◌==◌ g tid.0 (cond (is_pending_read r) (awaited o l) Idle)) is }

    same : aim_over p t x owner at tries ≡ aim_in t (p.contents g) (p.behind x) owner at tries
    same = ap (λ (c : Key → Option Page). aim_in t c (p.behind x) owner at tries) starts.contents

    needed : (o : Option Need) → need_at (world_over p t x) k.pid at tries ≡ o → need_at before k.pid at tries ≡ o
    needed o is = ap (λ (c : Key → Option Page). need_at (world_with t (key_bytes c)) k.pid at tries) (sym starts.contents) ∙ is

    -- the kept access has to wait still
    pub resume-awaits : (why : Why) (after : Tables) (y : G) → TurnsAccess p tries tid.0 owner at failed t x (threaded.Waiting why) after y → AnswersLine p f n t g (answer.Pending why) after y
    resume-awaits why after y h =
        let r = answer.Pending why in
        let v = world_over p after y in
        resumed r after y
        (resume-waits p.unpaged n t (p.contents g) (p.contents x) (p.store g) (p.store x) starts.contents starts.begins tid k kept after (p.contents y) (p.store y) h.keeps h.rest.line
        why (λ never. h.rest.unpaged never why refl) (sym fails ∙ h.turned.0) h.turned.1 h.turned.2)
        (waits_line p.unpaged before f n v (p.store g) (p.store x) (p.store y) (p.behind g) (p.behind x) (p.behind y) why owner at tries tid.0 (accesses_it r v (p.store y).report) (waits r) (begun r)
        (subst (λ (o : Option Aim). PassesOver p (WaitsBy o tid.0 why (p.store y).report) x y) same h.passes))

    module _ (mid : Tables) (y : G) (after : Tables) (z : G) (ends : EndsAccess p tid.0 mid y after z) where
      abbrev v : World
      v = world_over p after z

      line_is : (r : Threaded) → TurnsAccess p tries tid.0 owner at failed t x r mid y → (p.store z).line ≡ (p.store x).line
      line_is r h = ap (λ (s : StoreOf). s.line) ends.rest ∙ h.rest.line

      ended : v ≡ keep (world_over p mid y) tid.0 None
      ended = λ i. world_with (ends.ended i) (key_bytes (ends.contents i))

      stood : p.store y ≡ p.store x → Served (p.store x) (p.store z)
      stood same = served_forgot (p.store x) (p.store y) (p.store z) ends.rest (served-quiet (p.store x) (p.store y) (quiet-same (p.store x) (p.store y) same))

      -- it is made
      pub resume-makes : (r : Answer) → TurnsAccess p tries tid.0 owner at failed t x (threaded.Made r) mid y → AnswersLine p f n t g r after z
      resume-makes r h =
          resumed r after z
          (resume-made p.unpaged n t (p.contents g) (p.contents x) (p.store g) (p.store x) starts.contents starts.begins tid k kept after (p.contents z) (p.store z) ends.keeps (line_is (threaded.Made r) h)
          r (world_over p mid y) (sym fails ∙ h.turned.0) (went_forgot (p.store x) (p.store y) (p.store z) ends.rest t.machine.depth (world_over p t x) k.pid at tries r (world_over p mid y) h.turned.1) ended)
          (made_line p.unpaged before f n v (p.store g) (p.store x) (p.store z) (p.behind g) (p.behind x) (p.behind z) r owner at tries tid.0 (accesses_it r v (p.store z).report) (waits r) (begun r)
          (subst (λ (o : Option Aim). PassesOver p (MadeBy o tid.0 r) x z) same
          (passes_then p.unpaged (MadeBy (aim_over p t x owner at tries) tid.0 r) (Forgets tid.0) (MadeBy (aim_over p t x owner at tries) tid.0 r) (p.store x) (p.store y) (p.store z) (p.behind x) (p.behind y) (p.behind z) (made_joins (aim_over p t x owner at tries) tid.0 r) h.passes ends.passes)))

      -- it is refused
      pub resume-refuses : (r : Answer) → TurnsAccess p tries tid.0 owner at failed t x (threaded.Refused r) mid y → AnswersLine p f n t g r after z
      resume-refuses r h =
          let none = needed None h.turned.0.needless in
          resumed r after z
          (resume-refused p.unpaged n t (p.contents g) (p.contents x) (p.store g) (p.store x) starts.contents starts.begins tid k kept after (p.contents z) (p.store z) ends.keeps (line_is (threaded.Refused r) h)
          r (world_over p mid y) (stood h.turned.1) h.turned.0 ended)
          (resume-still r v y z (λ l. aimed l ∙ aim-needless before l owner at tries none)
          (begun_still p.unpaged (move.At n (kind_of_line before f r)) (RefusedBy (aim_over p t x owner at tries)) (p.store g) (p.store x) (p.store y) (p.behind g) (p.behind x) (p.behind y) (λ b ms c h. h.still) (begun r) h.passes) ends.passes)

      -- the read that its thread waited for has failed
      pub resume-fails : (p.unpaged ≡ true → (p.store g).report.wait tid.0 ≡ wait.None) → TurnsAccess p tries tid.0 owner at failed t x threaded.Failed mid y → AnswersLine p f n t g (answer.Raised raise.InPageError) after z
      resume-fails idle h =
          let r = answer.Raised raise.InPageError in
          let bad = sym fails ∙ h.turned.0 in
          let permitted = h.turned.1 in
          resumed r after z
          (resume-failed p.unpaged n t (p.contents g) (p.contents x) (p.store g) (p.store x) starts.contents starts.begins tid k kept after (p.contents z) (p.store z) ends.keeps (line_is threaded.Failed h)
          (λ never. none_failed (p.store g) (p.store x) tid.0 starts.begins.report_is (idle never) bad) bad permitted (stood h.turned.2) (ended ∙ ap (λ (w : World). keep w tid.0 None) h.turned.3))
          (failed_line p.unpaged before f n v (p.store g) (p.store y) (p.store z) (p.behind g) (p.behind y) (p.behind z) r owner at tries tid.0 (accesses_it r v (p.store z).report) (waits r) refl refl refl
          (λ l. ap is_some (aim-needs before l owner at tries permitted.need (needed (Some permitted.need) permitted.needs)))
          (begun_still p.unpaged (move.At n (kind_of_line before f r)) (FailedBy (aim_over p t x owner at tries)) (p.store g) (p.store x) (p.store y) (p.behind g) (p.behind x) (p.behind y) (λ b ms c h. h.still) (begun r) h.passes) ends.passes)
