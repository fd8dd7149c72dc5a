-- The lines `read`, `write` and `exec`: decided and noted, by what the tables have and by how the store answered.
use Rattle.std.proofs.Common.{◌≡◌, ℕ, Bool, true, false, Option, Some, None, refl, sym, ◌∙◌, ap, subst, cond, unwrap_or, List, rules, [], is_some}
use Rattle.std.specs.Prelude.{Result, Ok, Err, IsOk, OnOk, OnErr}
use Rattle.std.proofs.lemmas.Bool.{both_ways}
use Rattle.mm_types.proofs.{or_left, or_right}
use Rattle.mm_types.specs.{Answer, Code, Event, PageFault, Key, Move, Pid, page_of, LineKind}
use Rattle.mm_world.specs.{Page, ProcessOf, filled, Attempt, ReadOf, WriteOf, Execute, access, access_at, perform, Need, access_fails, read_failed}
use Rattle.mm_world.specs.{search_failed, same_key, Committed, OutcomeOf, done, refused, stepped, unpaged, told, failing, need_at, when, world_told}
use Rattle.mm_world.specs.{Tables, world_with, process_of}
use Rattle.mm_world.specs.World.{World}
use Rattle.mm_world.specs.Report.{Report}
use Rattle.mm_world.proofs.{Holds, tables}
use Rattle.mm_store.specs.{StoreOf, Served, SomeFailed, place_at, IsReady, Ghosts as PageStoreGhosts, Aim, OneMove}
use Rattle.mm_move_rules.specs.{changed}
use Rattle.mm_store.specs.Reports.{Ends}
use Rattle.mm_object_tables.specs.{key_bytes, MadeAtMost}
use Rattle.mm_dispatch.specs.{IsFailure, Named, FlushServed, Refuses, Accessed, Stepped, KeepsTables, LineBegins, Decided, AccessEnded, AccessDone}
use Rattle.mm_dispatch.specs.{aim_for, FitsOver, KeepsOver, aim_over, world_over, access_line, Answered, aim_in, AnswersLine, StartsLine, StartsOn, Lined}
use Rattle.mm_dispatch.specs.{DecidedOver, PassesOver}
use Rattle.mm_dispatch.proofs.Lines.{devices-served, served-quiet, quiet-same}
use Rattle.mm_dispatch.proofs.Lines.{stepped-plain, never-fails}
use Rattle.mm_store.specs.Behind.{Behind}
use Rattle.mm_line_moves.specs.{is_write_attempt, kind_of_line, if_lives, aim_of, Does, AccessesBy, waits_of_line, asks_beside}
use Rattle.mm_dispatch.proofs.AccessForms.{Gives, Tells, aim-needs, answered_had, answered_lost, aim-needless}
use Rattle.mm_dispatch.proofs.Readiness.{had_ready}
use Rattle.mm_move_rules.specs.{Waiting, FrameLife}
use Rattle.mm_devices.specs.{DeviceOf}
use Rattle.mm_dispatch.proofs.LineForms.{access_answers, IsAccess, plain_line, none_line}
use Rattle.mm_dispatch.proofs.Alike.{kind-with}
use Rattle.mm_types.specs.declared.answers.Answer.TheVariants as answer
use Rattle.mm_types.specs.declared.codes.Raise.TheVariants as raise
use Rattle.mm_types.specs.declared.faults.PageFault.TheVariants as fault
use Rattle.mm_types.specs.declared.moves.LineKind.TheVariants as kind
use Rattle.mm_types.specs.declared.moves.Move.TheVariants as move

-- ---- an access of unpaged memory tells no failed device

pub record Fine (o : OutcomeOf Page) : Type 0 where
  pub fine : IsFailure o.answer → ⊥

fine_refused : (begun_world : World) (why : Code) → Holds Fine (refused begun_world why)
fine_refused begun_world why = record { it = record { fine = λ f. f } }

fine_done : (a : Answer) (begun_world : World) → (IsFailure a → ⊥) → Holds Fine (done a begun_world)
fine_done a begun_world fine = record { it = record { fine = fine } }

fine_perform : (begun_world : World) (pid : ℕ) (p : ProcessOf Page) (c : Committed Page) (page offset : ℕ) (what : Attempt) → Holds Fine (perform begun_world pid p c page offset what)
fine_perform begun_world pid p c page offset (ReadOf len) = fine_done _ begun_world (λ f. f)
fine_perform begun_world pid p c page offset (WriteOf bytes) = fine_done answer.Ok _ (λ f. f)
fine_perform begun_world pid p c page offset Execute = fine_done answer.Ok begun_world (λ f. f)

fine_at : (begun_world : World) (pid : ℕ) (p : ProcessOf Page) (page offset : ℕ) (what : Attempt) (c : Option (Committed Page)) → Holds Fine (access_at begun_world pid p page offset what c)
fine_at begun_world pid p page offset what None = fine_done _ begun_world (λ f. f)
fine_at begun_world pid p page offset what (Some c) = search (tables, fine_done, fine_perform) depth 12

pub fine_access : (begun_world : World) (pid addr : ℕ) (what : Attempt) → Holds Fine (access begun_world pid addr what)
fine_access begun_world pid addr what = search (tables, fine_refused, fine_at) depth 12

-- ---- how a permitted access ended

fails : {T : Type 0} (n : Need) (later : Report) (result : Result T PageFault) (x : PageFault) → result ≡ Err x → Ends n later result → access_fails n later ≡ true
fails n later result fault.Read is ends = or_left (read_failed n later) (search_failed n later) (ends.read is)
fails n later result fault.NoFrame is ends = let h = ends.no_frame is in or_right (read_failed n later) (search_failed n later) h.1

module _ (u : Bool) (begun_world : World) (pid addr : ℕ) (what : Attempt) (m z : StoreOf) (n : Need) (needs : need_at begun_world pid addr what ≡ Some n) {T : Type 0} (result : Result T PageFault) (ends : Ends n z.report result) (served : Served m z) where
  pub accessed-had : (a : Answer) (v : World) (x : T) → result ≡ Ok x → access begun_world pid addr what ≡ done a v → Accessed u begun_world pid addr what m z a v
  accessed-had a v x is outcome =
      let fine : access_fails n z.report ≡ false = subst (λ r. OnOk r (access_fails n z.report ≡ false)) is ends.ok in
      record { need = n; needs = needs; had = λ e. outcome; lost = λ e. absurd (both_ways (access_fails n z.report) fine e); served = served }

  pub accessed-lost : (v : World) (x : PageFault) → result ≡ Err x → v ≡ begun_world → OnErr result (SomeFailed m z) → (u ≡ true → IsOk result) → Accessed u begun_world pid addr what m z (answer.Raised raise.InPageError) v
  accessed-lost v x is same blamed paged =
      let failed : access_fails n z.report ≡ true = fails n z.report result x is ends in
      record {
        need = n;
        needs = needs;
        had = λ e. absurd (both_ways (access_fails n z.report) e failed);
        lost = λ e. record { raised = refl; same = same; blamed = subst (λ r. OnErr r (SomeFailed m z)) is blamed; paged = never-fails u result x is paged };
        served = served;
      }

-- ---- the lines

module _ (u : Bool) (e : Event) (n : ℕ) (t : Tables) (old mid : Key → Option Page) (s m : StoreOf) (a : Answer) (after : Tables) (new : Key → Option Page) (z : StoreOf) (pid addr : ℕ) (what : Attempt) (same : mid ≡ old) (b : LineBegins n s m) where
  abbrev begun_world : World
  begun_world = world_with t (key_bytes mid)

  abbrev v : World
  v = world_with after (key_bytes new)

  module _ (keeps : KeepsTables after new z) (line_is : z.line ≡ m.line) (is_told : told begun_world e s.report z.report ≡ failing (need_at begun_world pid addr what) z.report) (is_unpaged : unpaged begun_world e ≡ access begun_world pid addr what) (named : Named u e a s.paging_device z.paging_device s.file_device z.file_device) (flushed : FlushServed v z.file_blocks e a) where
    decided-by : Stepped u begun_world e s.report z.report a v → Served m z → (IsFailure a → SomeFailed m z) → Decided u e n t old s a after new z
    decided-by step served failed =
        record {
          stepped = subst (λ (c : Key → Option Page). Stepped u (world_with t (key_bytes c)) e s.report z.report a v) same step;
          devices = devices-served u e n s m z a b served named failed;
          flushed = flushed;
          keeps = keeps;
          line_is = line_is ∙ b.line_is;
        }

    answers-fine : access begun_world pid addr what ≡ done a v → IsFailure a → ⊥
    answers-fine outcome f = (fine_access begun_world pid addr what).it.fine (subst (λ (o : OutcomeOf Page). IsFailure o.answer) (sym outcome) f)

    pub decided-refused : z ≡ m → Refuses begun_world pid addr what a v → Decided u e n t old s a after new z
    decided-refused is h =
        decided-by
        (stepped-plain u begun_world e s.report z.report a v (is_told ∙ ap (λ n. failing n z.report) h.needless) (is_unpaged ∙ h.outcome))
        (served-quiet m z (quiet-same m z is)) (λ f. absurd (answers-fine h.outcome f))

    module _ (raises : world_told begun_world e (answer.Raised raise.InPageError) ≡ begun_world) (h : Accessed u begun_world pid addr what m z a v) where
      by-test : (b : Bool) → access_fails h.need z.report ≡ b → Decided u e n t old s a after new z
      by-test false fine =
          decided-by
          (stepped-plain u begun_world e s.report z.report a v
          (is_told ∙ ap (λ n. failing n z.report) h.needs ∙ ap (λ b. when b (answer.Raised raise.InPageError)) fine)
          (is_unpaged ∙ h.had fine)) h.served (λ f. absurd (answers-fine (h.had fine) f))
      by-test true failed =
          let l = h.lost failed in
          decided-by (record {
            decided =
                ap (stepped begun_world e) (is_told ∙ ap (λ n. failing n z.report) h.needs ∙ ap (λ b. when b (answer.Raised raise.InPageError)) failed)
                ∙ ap (λ (v : World). done (answer.Raised raise.InPageError) v) (raises ∙ sym l.same)
                ∙ ap (λ (a : Answer). done a v) (sym l.raised);
            told = λ never plain fine. absurd (l.paged never);
          }) h.served (λ f. l.blamed)

      pub decided-access : Decided u e n t old s a after new z
      decided-access = by-test (access_fails h.need z.report) refl

-- ---- bytes, changed

module _ (c : Key → Option Page) (key : Key) where
  pub changed-others : (x : Page) (k : Key) → same_key k key ≡ false → key_bytes (changed same_key c key (Some x)) k ≡ key_bytes c k
  changed-others x k other = ap (λ b. unwrap_or (cond b (Some x) (c k)) (filled 0)) other

  pub changed-at : (x : Page) → same_key key key ≡ true → key_bytes (changed same_key c key (Some x)) key ≡ x
  changed-at x same = ap (λ b. unwrap_or (cond b (Some x) (c key)) (filled 0)) same

  pub twice-others : (y : Option Page) (x : Page) (k : Key) → same_key k key ≡ false → key_bytes (changed same_key (changed same_key c key y) key (Some x)) k ≡ key_bytes c k
  twice-others y x k other = ap (λ b. unwrap_or (cond b (Some x) (cond b y (c k))) (filled 0)) other

  pub twice-at : (y : Option Page) (x : Page) → same_key key key ≡ true → key_bytes (changed same_key (changed same_key c key y) key (Some x)) key ≡ x
  twice-at y x same = ap (λ b. unwrap_or (cond b (Some x) (cond b y (c key))) (filled 0)) same

-- ---- from what the call of the store came to

module _ {G : Type 0} (p : PageStoreGhosts G) (t : Tables) {after : Tables} {g h : G} (pid : Pid) (addr : ℕ) (what : Attempt) {T : Type 0} (result : Result T PageFault) where
  module _ (need : Need) (needs : need_at (world_over p t g) pid.0 addr what ≡ Some need) (ends : Ends need (p.store h).report result) {Moved : Behind → List Move → Behind → Type 0} (e : AccessEnded p Moved (place_at pid (page_of addr)) need result after g h) (tells : Tells (aim_for p (place_at pid (page_of addr)) need (is_write_attempt what) g) (IsReady (p.store g) (place_at pid (page_of addr)) need) result Moved) (v : Tables) (fits : FitsOver p v h) (few : MadeAtMost (p.store g).line v) where
    aims : aim_over p t g pid addr what ≡ Some (aim_for p (place_at pid (page_of addr)) need (is_write_attempt what) g)
    aims = aim-needs (world_over p t g) (p.behind g).life pid addr what need needs

    keeps : KeepsOver p v h
    keeps = record { fits = fits; few = subst (λ (n : ℕ). MadeAtMost n v) (sym e.line) few }

    pub access-had : (x : T) → result ≡ Ok x → (a : Answer) → Gives a → access (world_over p t g) pid.0 addr what ≡ done a (world_over p v h) → AccessDone p what pid addr need t g a v h
    access-had x is a gives outcome = record {
      accessed = accessed-had p.unpaged (world_over p t g) pid.0 addr what (p.store g) (p.store h) need needs result ends e.served a (world_over p v h) x is outcome;
      keeps = keeps;
      had = λ ready. had_ready need (p.store h).report result ends (e.was_ready ready);
      line = e.line;
      passes = answered_had p.unpaged (aim_over p t g pid addr what) (aim_for p (place_at pid (page_of addr)) need (is_write_attempt what) g) aims (IsReady (p.store g) (place_at pid (page_of addr)) need) result Moved tells (p.store g) (p.store h) (p.behind g) (p.behind h) x a is gives e.passes;
    }

    pub access-lost : (x : PageFault) → result ≡ Err x → world_over p v h ≡ world_over p t g → AccessDone p what pid addr need t g (answer.Raised raise.InPageError) v h
    access-lost x is same = record {
      accessed = accessed-lost p.unpaged (world_over p t g) pid.0 addr what (p.store g) (p.store h) need needs result ends e.served (world_over p v h) x is same e.blamed e.unpaged;
      keeps = keeps;
      had = λ ready. had_ready need (p.store h).report result ends (e.was_ready ready);
      line = e.line;
      passes = answered_lost p.unpaged (aim_over p t g pid addr what) (aim_for p (place_at pid (page_of addr)) need (is_write_attempt what) g) aims (IsReady (p.store g) (place_at pid (page_of addr)) need) result Moved tells (p.store g) (p.store h) (p.behind g) (p.behind h) x is ends e.passes;
    }

-- ---- decided and noted

-- ---- the kind of a line on a process

pub kind-lives : (t : Tables) (b : Key → Page) (pid : Pid) (k : LineKind) (lived : Bool) → lived ≡ is_some (process_of t pid.0) → cond lived k kind.Call ≡ if_lives (world_with t b) pid k
kind-lives t b pid k lived e = ap (λ l. cond l k kind.Call) e ∙ kind-with t b pid k

-- ---- a plain access

-- what the definitions say of its line
record IsPlain (pid : Pid) (addr : ℕ) (what : Attempt) : Type 0 where
  form : (w : World) (r : Answer) (v : World) (after : Report) → IsAccess true w (access_line pid addr what) r v after pid addr what
  accesses : (w : World) (r : Answer) (v : World) (after : Report) (b : Behind) (ms : List Move) (c : Behind) → Does w (access_line pid addr what) r v after b ms c → AccessesBy true (aim_of w b.life (access_line pid addr what)) r after b ms c
  kind_is : (w : World) (r : Answer) → kind_of_line w (access_line pid addr what) r ≡ if_lives w pid (kind.Access pid)
  waits : (w : World) (r : Answer) (b : Behind) (f : ℕ → Waiting) (l : FrameLife) → waits_of_line w (access_line pid addr what) r b f l ≡ f
  bare : asks_beside (access_line pid addr what) ≡ false
  told_is : (w : World) (before after : Report) → told w (access_line pid addr what) before after ≡ failing (need_at w pid.0 addr what) after
  unpaged_is : (w : World) → unpaged w (access_line pid addr what) ≡ access w pid.0 addr what
  named : (u : Bool) (a : Answer) (paging paging' files files' : DeviceOf) → Named u (access_line pid addr what) a paging paging' files files'
  flushed : (w : World) (blocks : List Page) (a : Answer) → FlushServed w blocks (access_line pid addr what) a
  raises : (w : World) → world_told w (access_line pid addr what) (answer.Raised raise.InPageError) ≡ w

is-plain : (pid : Pid) (addr : ℕ) (what : Attempt) → IsPlain pid addr what
is-plain pid addr (ReadOf len) = search rules
is-plain pid addr (WriteOf bytes) = search rules
is-plain pid addr Execute = search rules

module _ {G : Type 0} (p : PageStoreGhosts G) (pid : Pid) (addr : ℕ) (what : Attempt) {n : ℕ} {t : Tables} {g m : G} {lived : Bool} (on : StartsOn p n t pid (kind.Access pid) lived g m) where
  abbrev e : Event
  e = access_line pid addr what

  abbrev w : World
  w = world_over p t g

  starts : StartsLine p n (cond lived (kind.Access pid) kind.Call) g m
  starts = on.starts

  plain : IsPlain pid addr what
  plain = is-plain pid addr what

  begins : (r : Answer) → PassesOver p (OneMove (move.At n (kind_of_line w e r))) g m
  begins r = subst (λ (k : LineKind). PassesOver p (OneMove (move.At n k)) g m) (kind-lives t (key_bytes (p.contents g)) pid (kind.Access pid) lived on.lives ∙ sym (plain.kind_is w r)) starts.passes

  answered : (r : Answer) (after : Tables) (h : G) → DecidedOver p e n t g r after h → PassesOver p (Lined w e n r (world_over p after h) (p.store h).report) g h → AnswersLine p e n t g r after h
  answered r after h decided passes =
      access_answers p true e e refl plain.bare n t g r after h (λ b ms. plain.accesses w r (world_over p after h) (p.store h).report b ms (p.behind h)) decided passes

  -- the access is refused, or there is no process
  pub line-refused : {r : Answer} {after : Tables} → KeepsOver p after m → Refuses (world_over p t m) pid.0 addr what r (world_over p after m) → AnswersLine p e n t g r after m
  line-refused {r} {after} keeps h =
      let v = world_over p after m in
      let form = plain.form w r v (p.store m).report in
      let none : need_at w pid.0 addr what ≡ None = ap (λ (c : Key → Option Page). need_at (world_with t (key_bytes c)) pid.0 addr what) (sym starts.contents) ∙ h.needless in
      answered r after m
      (decided-refused p.unpaged e n t (p.contents g) (p.contents m) (p.store g) (p.store m) r after (p.contents m) (p.store m) pid.0 addr what starts.contents starts.begins keeps refl
      (plain.told_is (world_over p t m) _ _) (plain.unpaged_is (world_over p t m)) (plain.named _ r _ _ _ _) (plain.flushed v _ r) refl h)
      (none_line p.unpaged true w e n r v (p.store g) (p.store m) (p.behind g) (p.behind m) (λ b c. form.does b [] c) (λ b. form.ages b []) (λ l. form.aim l ∙ aim-needless w l pid addr what none) (plain.waits w r) (begins r))

  -- it is made, whether it fails or not
  pub line-made : {mid : Tables} → mid ≡ t → {need : Need} {r : Answer} {after : Tables} {h : G} → AccessDone p what pid addr need mid m r after h → AnswersLine p e n t g r after h
  line-made same {need} {r} {after} {h} d =
      let v = world_over p after h in
      answered r after h
      (decided-access p.unpaged e n t (p.contents g) (p.contents m) (p.store g) (p.store m) r after (p.contents h) (p.store h) pid.0 addr what starts.contents starts.begins d.keeps d.line
      (plain.told_is (world_over p t m) _ _) (plain.unpaged_is (world_over p t m)) (plain.named _ r _ _ _ _) (plain.flushed v _ r) (plain.raises (world_over p t m))
      (subst (λ (x : Tables). Accessed p.unpaged (world_over p x m) pid.0 addr what (p.store m) (p.store h) r v) same d.accessed))
      (plain_line p.unpaged w e n v (p.store g) (p.store m) (p.store h) (p.behind g) (p.behind m) (p.behind h) r pid addr what (plain.form w r v (p.store h).report) (plain.waits w r) (IsReady (p.store m) (place_at pid (page_of addr)) need) (begins r)
      (subst (λ (o : Option Aim). PassesOver p (Answered o (IsReady (p.store m) (place_at pid (page_of addr)) need) r (p.store h).report) m h) (λ i. aim_in (same i) (starts.contents i) (p.behind m) pid addr what) d.passes))
