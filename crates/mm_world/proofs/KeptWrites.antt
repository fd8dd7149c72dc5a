-- What threads keep changes by `begin`, `resume` and `exit` alone, as their answers tell; so do their stacks by `free` and `exit`, but for lines
-- of stacks.
use Rattle.std.proofs.Common.{◌≡◌, ℕ, suc, Bool, true, false, Option, Some, None, List, [], ◌∷◌, refl, sym, ◌∙◌, ap, cond, map, set}
use Rattle.std.specs.Prelude.{◌==◌, if◌then◌else◌, slice_set}
use Rattle.mm_types.specs.{Answer, Code, AccessSpec, Event, Pid, Tid, Place, release_type}
use Rattle.mm_types.specs.declared.answers.Answer.TheVariants as answer
use Rattle.mm_types.specs.declared.codes.Raise.TheVariants as raise
use Rattle.mm_types.specs.declared.events.AccessSpec.TheVariants as spec
use Rattle.mm_types.specs.declared.events.Event.TheVariants as line
use Rattle.mm_world.specs.{WorldOf, ProcessOf, KeptOf, StackOf, Page, Numbered, unless, OutcomeOf, done, refused, Committed, free, is_stack_at, exit}
use Rattle.mm_world.specs.{kept_of_others, Attempt, WriteOf, access, access_at, perform, address_in, attempt_in, step, world_told, begin, resume}
use Rattle.mm_world.specs.{kept_by, page_written, write_of, writes_of, unless_in, ends_none, writes_after}
use Rattle.mm_world.specs.World.{World}
use Rattle.mm_world.specs.Report.{Report}
use Rattle.mm_world.proofs.Determined.{may_tell, decided}
use Rattle.mm_world.proofs.Tables.{Holds, met, tables}
use Rattle.mm_world.proofs.Edits.{Rises, Terms, Edit, Rest, Edits, fold}
use Rattle.mm_world.proofs.LineEdits as edits
use Rattle.mm_world.proofs.LineEdits.{keeps_accesses, keeps_stacks}

-- ---- what edits leave of threads

-- edits that leave threads what they keep, and their stacks
abbrev pub same_threads : Answer → Terms
same_threads a = record { ends = λ x. true; plain = false; kept = true; stacks = true; charge = Rises }

module _ {B : Type 0} (t : Terms) where
  -- what both worlds have
  record Threads (w v : WorldOf B) : Type 0 where
    pub kept : t.kept ≡ true → v.kept ≡ w.kept
    pub stacks : t.stacks ≡ true → v.stacks ≡ w.stacks

  each : (o w v : WorldOf B) → Edit t w v → Threads o w → Threads o v
  each o w _ (Rest v b) h = record { kept = λ e. b.kept e ∙ h.kept e; stacks = λ e. b.stacks e ∙ h.stacks e }
  each o w v e h = record { kept = h.kept; stacks = h.stacks }

  threads : (w v : WorldOf B) → Edits t w v → Threads w v
  threads w v es = fold t (Threads w) (each w) w v es (record { kept = λ e. refl; stacks = λ e. refl })

module _ {B : Type 0} (t : Answer → Terms) (w : WorldOf B) (o : OutcomeOf B) where
  pub same_kept : (t o.answer).kept ≡ true → Edits (t o.answer) w o.world → o.world.kept ≡ w.kept
  same_kept e h = (threads (t o.answer) w o.world h).kept e

  pub same_stacks : (t o.answer).stacks ≡ true → Edits (t o.answer) w o.world → o.world.stacks ≡ w.stacks
  same_stacks e h = (threads (t o.answer) w o.world h).stacks e

-- ---- lists of what is kept

map_set : (ks : Numbered KeptOf) (i : ℕ) (k : Option KeptOf) → map write_of (set ks i k) ≡ set (map write_of ks) i (write_of k)
map_set (x ∷ ks) (suc i) k = ap (λ (xs : List (Option Place)). write_of x ∷ xs) (map_set ks i k)
map_set _ _ k = cc

by_process : (pid by : ℕ) (access : AccessSpec) → (b : Bool) → (by == pid) ≡ b → write_of (cond b None (Some (record { pid = by; access = access }))) ≡ unless_in pid (page_written by access)
by_process pid by (spec.Read addr len) true e = refl
by_process pid by (spec.Read addr len) false e = refl
by_process pid by (spec.Write addr bytes) b e = at b e
  where
    at : (b : Bool) → (by == pid) ≡ b → write_of (cond b None (Some (record { pid = by; access = spec.Write addr bytes }))) ≡ cond (by == pid) None (page_written by (spec.Write addr bytes))
    at true e = ap (λ b. cond b None (page_written by (spec.Write addr bytes))) (sym e)
    at false e = ap (λ b. cond b None (page_written by (spec.Write addr bytes))) (sym e)

one_other : (pid : ℕ) (k : Option KeptOf) → write_of (kept_of_others pid k) ≡ unless_in pid (write_of k)
one_other pid None = refl
one_other pid (Some k) = by_process pid k.pid k.access (k.pid == pid) refl

map_others : (pid : ℕ) (ks : Numbered KeptOf) → map write_of (map (kept_of_others pid) ks) ≡ map (unless_in pid) (map write_of ks)
map_others pid [] = refl
map_others pid (k ∷ ks) =
    ap (λ (x : Option Place). x ∷ map write_of (map (kept_of_others pid) ks)) (one_other pid k)
    ∙ ap (λ (xs : List (Option Place)). unless_in pid (write_of k) ∷ xs) (map_others pid ks)

-- ---- lines

abbrev pub is_stack_line : Event → Bool
is_stack_line (line.Stack tid pid reserve commit) = true
is_stack_line (line.Probe tid addr) = true
is_stack_line e = false

-- the stacks that a line leaves, by its answer
abbrev pub left_by : Event → Answer → Numbered StackOf → Numbered StackOf
left_by (line.Free pid addr size type) answer.Ok stacks = if type == release_type then map (unless (is_stack_at pid.0 addr)) stacks else stacks
left_by (line.Exit pid) answer.Ok stacks = map (unless (λ s. s.pid == pid.0)) stacks
left_by _ _ stacks = stacks

pub record TellsThreads (w : World) (e : Event) (o : OutcomeOf Page) : Type 0 where
  pub tells : writes_of o.world ≡ writes_after (writes_of w) e o.answer
  pub stacks : is_stack_line e ≡ false → o.world.stacks ≡ left_by e o.answer w.stacks

tells_same : (w : World) (e : Event) (o : OutcomeOf Page) → o.world.kept ≡ w.kept → (is_stack_line e ≡ false → o.world.stacks ≡ w.stacks) → ((a : Answer) → writes_after (writes_of w) e a ≡ writes_of w) → ((a : Answer) → left_by e a w.stacks ≡ w.stacks) → TellsThreads w e o
tells_same w e o kept stacks none left = record { tells = ap (map write_of) kept ∙ sym (none o.answer); stacks = λ other. stacks other ∙ sym (left o.answer) }

tells_kept : (w : World) (e : Event) (before after : Report) → keeps_accesses e ≡ true → (is_stack_line e ≡ false → keeps_stacks e ≡ true) → ((a : Answer) → writes_after (writes_of w) e a ≡ writes_of w) → ((a : Answer) → left_by e a w.stacks ≡ w.stacks) → TellsThreads w e (step w e before after)
tells_kept w e before after kept stacks none left =
    let h = (edits.in_step w e before after).edits in
    tells_same w e (step w e before after) (same_kept (edits.line_terms e) w (step w e before after) kept h) (λ other. same_stacks (edits.line_terms e) w (step w e before after) (stacks other) h) none left

in_exit : (w : World) (pid : Pid) → Holds (TellsThreads w (line.Exit pid)) (exit w pid.0)
in_exit w pid = search (tables, exit_refused, exit_done) depth 12
  where
    exit_refused : (why : Code) → Holds (TellsThreads w (line.Exit pid)) (refused w why)
    exit_refused why = record { it = record { tells = refl; stacks = λ other. refl } }

    exit_done : (v : World) → v.kept ≡ map (kept_of_others pid.0) w.kept → v.stacks ≡ map (unless (λ (s : StackOf). s.pid == pid.0)) w.stacks → Holds (TellsThreads w (line.Exit pid)) (done answer.Ok v)
    exit_done v kept stacks = record { it = record { tells = ap (map write_of) kept ∙ map_others pid.0 w.kept; stacks = λ other. stacks } }

in_free : (w : World) (pid : Pid) (addr size type : ℕ) → Holds (TellsThreads w (line.Free pid addr size type)) (free w pid.0 addr size type)
in_free w pid addr size type = search (tables, free_refused, free_released, free_kept) depth 14
  where
    free_refused : (why : Code) → Holds (TellsThreads w (line.Free pid addr size type)) (refused w why)
    free_refused why = record { it = record { tells = refl; stacks = λ other. refl } }

    free_done : (v : World) (b : Bool) → (type == release_type) ≡ b → v.kept ≡ w.kept → v.stacks ≡ cond b (map (unless (is_stack_at pid.0 addr)) w.stacks) w.stacks → Holds (TellsThreads w (line.Free pid addr size type)) (done answer.Ok v)
    free_done v b is kept stacks = met (record { tells = ap (map write_of) kept; stacks = λ other. stacks ∙ sym (ap (λ b. cond b (map (unless (is_stack_at pid.0 addr)) w.stacks) w.stacks) is) })

    free_released : (v : World) → (type == release_type) ≡ true → v.kept ≡ w.kept → v.stacks ≡ map (unless (is_stack_at pid.0 addr)) w.stacks → Holds (TellsThreads w (line.Free pid addr size type)) (done answer.Ok v)
    free_released v is kept stacks = free_done v true is kept stacks

    free_kept : (v : World) → (type == release_type) ≡ false → v.kept ≡ w.kept → v.stacks ≡ w.stacks → Holds (TellsThreads w (line.Free pid addr size type)) (done answer.Ok v)
    free_kept v is kept stacks = free_done v false is kept stacks

-- ---- accesses of threads

-- an access is answered so that its thread goes on
pub record GoesOn (o : OutcomeOf Page) : Type 0 where
  pub goes : ends_none o.answer ≡ false

goes_on : (w : World) (a : Answer) → ends_none a ≡ false → Holds GoesOn (done a w)
goes_on w a e = record { it = record { goes = e } }

going_refusal : (w : World) (why : Code) → Holds GoesOn (refused w why)
going_refusal w why = goes_on w _ refl

going_perform : (w : World) (pid : ℕ) (p : ProcessOf Page) (c : Committed Page) (page offset : ℕ) (what : Attempt) → Holds GoesOn (perform w pid p c page offset what)
going_perform w pid p c page offset (WriteOf bytes) = goes_on _ _ refl
going_perform w pid p c page offset _ = goes_on w _ refl

going_at : (w : World) (pid : ℕ) (p : ProcessOf Page) (page offset : ℕ) (what : Attempt) (c : Option (Committed Page)) → Holds GoesOn (access_at w pid p page offset what c)
going_at w pid p page offset what None = goes_on w _ refl
going_at w pid p page offset what (Some c) = search (tables, goes_on, going_perform) depth 12

going_access : (w : World) (pid addr : ℕ) (what : Attempt) → Holds GoesOn (access w pid addr what)
going_access w pid addr what = search (tables, going_refusal, going_at) depth 12

going_begin : (w : World) (tid pid : ℕ) (what : AccessSpec) → Holds GoesOn (begin w tid pid what)
going_begin w tid pid what = search (tables, going_refusal, goes_on, going_access) depth 12

after_begin : (writes : List (Option Place)) (tid : Tid) (pid : Pid) (what : AccessSpec) (a : Answer) → ends_none a ≡ false → writes_after writes (line.Begin tid pid what) a ≡ writes
after_begin writes tid pid what (answer.Pending why) e = cc
after_begin writes tid pid what _ e = refl

in_begin : (w : World) (tid : Tid) (pid : Pid) (what : AccessSpec) → TellsThreads w (line.Begin tid pid what) (begin w tid.0 pid.0 what)
in_begin w tid pid what =
    let o = begin w tid.0 pid.0 what in
    let h = (edits.in_begin same_threads w tid.0 pid.0 what refl).it.edits in
    record {
      tells = ap (map write_of) (same_kept same_threads w o refl h) ∙ sym (after_begin (writes_of w) tid pid what o.answer (going_begin w tid.0 pid.0 what).it.goes);
      stacks = λ other. same_stacks same_threads w o refl h;
    }

in_resume : (w : World) (tid : Tid) (kept : Option KeptOf) → TellsThreads w (line.Resume tid) (resume w tid.0 kept)
in_resume w tid None = record { tells = refl; stacks = λ other. refl }
in_resume w tid (Some k) =
    let o = access w k.pid (address_in k.access) (attempt_in k.access) in
    let h = (edits.in_access same_threads w k.pid (address_in k.access) (attempt_in k.access) (λ e. refl)).it.edits in
    record {
      tells =
          map_set o.world.kept tid.0 None
          ∙ ap (λ (ks : Numbered KeptOf). set (map write_of ks) tid.0 None) (same_kept same_threads w o refl h)
          ∙ sym ((ap (λ b. cond b (writes_of w) (slice_set (writes_of w) tid.0 None)) (going_access w k.pid (address_in k.access) (attempt_in k.access)).it.goes));
      stacks = λ other. same_stacks same_threads w o refl h;
    }

-- what the store tells of a `resume` is that its access failed, or waits
told_resume : (w : World) (tid : Tid) (a : Answer) → may_tell (line.Resume tid) a ≡ true → TellsThreads w (line.Resume tid) (done a (world_told w (line.Resume tid) a))
told_resume w tid (answer.Raised raise.InPageError) t = record { tells = map_set w.kept tid.0 None; stacks = λ other. refl }
told_resume w tid (answer.Pending why) t = record { tells = refl; stacks = λ other. refl }
told_resume w tid _ t = cc

told_begin : (w : World) (tid : Tid) (pid : Pid) (what : AccessSpec) (a : Answer) → TellsThreads w (line.Begin tid pid what) (done a (world_told w (line.Begin tid pid what) a))
told_begin w tid pid what (answer.Pending why) = record { tells = map_set w.kept tid.0 (Some (record { pid = pid.0; access = what })); stacks = λ other. refl }
told_begin w tid pid what a = record { tells = refl; stacks = λ other. refl }

pub in_step : (w : World) (e : Event) (before after : Report) → TellsThreads w e (step w e before after)
in_step w (line.Exit pid) before after = (in_exit w pid).it
in_step w (line.Free pid addr size type) before after = (in_free w pid addr size type).it
in_step w (line.Begin tid pid what) before after = decided (TellsThreads w) w (line.Begin tid pid what) before after (in_begin w tid pid what) (λ a h. told_begin w tid pid what a)
in_step w (line.Resume tid) before after = decided (TellsThreads w) w (line.Resume tid) before after (in_resume w tid (kept_by w tid.0)) (λ a h. told_resume w tid a h.tells)
in_step w (line.Stack tid pid reserve commit) before after = tells_kept w _ before after refl (λ other. cc) (λ a. refl) (λ a. refl)
in_step w (line.Probe tid addr) before after = tells_kept w _ before after refl (λ other. cc) (λ a. refl) (λ a. refl)
in_step w e before after = tells_kept w e before after refl (λ other. refl) (λ a. refl) (λ a. refl)

-- the writes that threads keep change as lines and their answers tell
pub kept_writes_follow : (w : World) (e : Event) (before after : Report) → writes_of (step w e before after).world ≡ writes_after (writes_of w) e (step w e before after).answer
kept_writes_follow w e before after = (in_step w e before after).tells
