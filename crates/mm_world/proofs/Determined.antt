-- What follows from an answer that the store told.
use Rattle.std.proofs.Common.{◌≡◌, ℕ, Bool, true, false, Option, Some, None, refl, sym, ◌∙◌, ap, cond, ltb, leb, ◌&&◌, ◌+◌, is_some, option_map}
use Rattle.mm_types.specs.{Answer, Why, Event, Tid}
use Rattle.mm_types.specs.declared.answers.Answer.TheVariants as answer
use Rattle.mm_types.specs.declared.codes.Raise.TheVariants as raise
use Rattle.mm_types.specs.declared.events.Event.TheVariants as line
use Rattle.mm_world.specs.{KeptOf, Page, filled, OutcomeOf, done, flush, new_file, most_slots, ReadOf, WriteOf, Execute, address_in, attempt_in}
use Rattle.mm_world.specs.{failed_calls, Need, access_fails, wait_failed, pending, unpaged, told, step, stepped, world_after, world_told, is_told}
use Rattle.mm_world.specs.{is_ok, kept_by, failing, waiting, when, resume_told, need_at, is_failed_extension, is_alarm, is_limit_refusal}
use Rattle.mm_world.specs.World.{World}
use Rattle.mm_world.specs.Report.{Report}

-- whether the store may tell this of an access that writes
abbrev pub may_tell : Event → Answer → Bool
may_tell (line.Write pid addr bytes) (answer.Raised raise.InPageError) = true
may_tell (line.Write pid addr bytes) _ = false
may_tell (line.Begin tid pid what) (answer.Pending why) = true
may_tell (line.Begin tid pid what) _ = false
may_tell (line.Resume tid) (answer.Raised raise.InPageError) = true
may_tell (line.Resume tid) (answer.Pending why) = true
may_tell (line.Resume tid) _ = false
may_tell _ _ = true

-- the world follows from an answer that the store told; the answer turns no guard off and refuses no commitment
pub record Follows (w : World) (e : Event) (a : Answer) : Type 0 where
  pub same : world_after w e a ≡ world_told w e a
  pub calm : is_alarm a ≡ false
  pub granted : is_limit_refusal a ≡ false
  pub tells : may_tell e a ≡ true

by_answer : (w : World) (e : Event) (a b : Answer) → is_told b ≡ true → is_alarm b ≡ false → is_limit_refusal b ≡ false → may_tell e b ≡ true → Some b ≡ Some a → Follows w e a
by_answer w e a b told' calm granted tells same =
    let is : b ≡ a = cc in
    record {
      same = ap (λ t. cond t (world_told w e a) (unpaged w e).world) (ap is_told (sym is) ∙ told');
      calm = ap is_alarm (sym is) ∙ calm;
      granted = ap is_limit_refusal (sym is) ∙ granted;
      tells = ap (may_tell e) (sym is) ∙ tells;
    }

by_when : (w : World) (e : Event) (a b : Answer) (t : Bool) → is_told b ≡ true → is_alarm b ≡ false → is_limit_refusal b ≡ false → may_tell e b ≡ true → when t b ≡ Some a → Follows w e a
by_when w e a b true told' calm granted tells is = by_answer w e a b told' calm granted tells is
by_when w e a b false told' calm granted tells is = cc

by_failing : (w : World) (e : Event) (a : Answer) (n : Option Need) (after : Report) → may_tell e (answer.Raised raise.InPageError) ≡ true → failing n after ≡ Some a → Follows w e a
by_failing w e a None after tells is = cc
by_failing w e a (Some n) after tells is = by_when w e a (answer.Raised raise.InPageError) (access_fails n after) refl refl refl tells is

by_why : (w : World) (e : Event) (a : Answer) (y : Option Why) → ((why : Why) → may_tell e (answer.Pending why) ≡ true) → option_map answer.Pending y ≡ Some a → Follows w e a
by_why w e a None tells is = cc
by_why w e a (Some y) tells is = by_answer w e a (answer.Pending y) refl refl refl (tells y) is

by_waiting : (w : World) (e : Event) (a : Answer) (n : Option Need) (before after : Report) → ((why : Why) → may_tell e (answer.Pending why) ≡ true) → waiting w n before after ≡ Some a → Follows w e a
by_waiting w e a None before after tells is = cc
by_waiting w e a (Some n) before after tells is = by_why w e a (pending w.machine.depth n before after) tells is

by_begin : (w : World) (e : Event) (a : Answer) (b : Bool) (o : Option Answer) → (o ≡ Some a → Follows w e a) → cond b None o ≡ Some a → Follows w e a
by_begin w e a true o h is = cc
by_begin w e a false o h is = h is

by_resume : (w : World) (e : Event) (a : Answer) (b : Bool) (o : Option Answer) → may_tell e (answer.Raised raise.InPageError) ≡ true → (o ≡ Some a → Follows w e a) → cond b (Some (answer.Raised raise.InPageError)) o ≡ Some a → Follows w e a
by_resume w e a true o tells h is = by_answer w e a _ refl refl refl tells is
by_resume w e a false o tells h is = h is

by_kept : (w : World) (tid : Tid) (a : Answer) (kept : Option KeptOf) (before after : Report) → resume_told w tid.0 kept before after ≡ Some a → Follows w (line.Resume tid) a
by_kept w tid a None before after is = cc
by_kept w tid a (Some k) before after is =
    let n = need_at w k.pid (address_in k.access) (attempt_in k.access) in
    by_resume w _ a (is_some n && wait_failed (before.wait tid.0)) (waiting w n before after) refl (λ is. by_waiting w _ a n before after (λ why. refl) is) is

by_io : (w : World) (i : ℕ) (a : Answer) (b c : Bool) → cond b (Some answer.Nothing) (when c answer.Fault) ≡ Some a → Follows w (line.Io i) a
by_io w i a true c is = let same : answer.Nothing ≡ a = cc in record { same = rw (← same) refl; calm = ap is_alarm (sym same); granted = ap is_limit_refusal (sym same); tells = refl }
by_io w i a false c is = by_when w (line.Io i) a answer.Fault c refl refl refl refl is

follows : (w : World) (e : Event) (before after : Report) (a : Answer) → told w e before after ≡ Some a → Follows w e a
follows w (line.File name pages byte) before after a t = by_when w _ a answer.Fault (is_ok (new_file filled w name pages byte).answer && ltb 0 after.file_writes.failed) refl refl refl refl t
follows w (line.Flush pid addr size) before after a t = by_when w _ a answer.Fault (is_ok (flush w pid.0 addr size).answer && ltb 0 after.file_writes.failed) refl refl refl refl t
follows w (line.Read pid addr len) before after a t = by_failing w _ a (need_at w pid.0 addr (ReadOf len)) after refl t
follows w (line.Write pid addr bytes) before after a t = by_failing w _ a (need_at w pid.0 addr (WriteOf bytes)) after refl t
follows w (line.Exec pid addr) before after a t = by_failing w _ a (need_at w pid.0 addr Execute) after refl t
follows w (line.Begin tid pid what) before after a t =
    let n = need_at w pid.0 (address_in what) (attempt_in what) in
    by_begin w _ a (is_some (kept_by w tid.0)) (waiting w n before after) (λ t. by_waiting w _ a n before after (λ why. refl) t) t
follows w (line.Resume tid) before after a t = by_kept w tid a (kept_by w tid.0) before after t
follows w (line.Io i) before after a t = by_io w i a (ltb before.counts.requests i) (ltb 0 (failed_calls after)) t
follows w (line.Grow n) before after a t = by_when w _ a answer.Fault (leb (w.machine.slots + n) most_slots && is_failed_extension after.extended) refl refl refl refl t
follows w line.Counts before after a t = by_answer w _ a (answer.Counts after.counts) refl refl refl refl t
follows w _ before after a t = cc

-- a line's step is what unpaged address spaces do, or what the store told
pub decided : (P : Event → OutcomeOf Page → Type 0) (w : World) (e : Event) (before after : Report) → P e (unpaged w e) → ((a : Answer) → Follows w e a → P e (done a (world_told w e a))) → P e (step w e before after)
decided P w e before after now later = by_told (told w e before after) refl
  where
    by_told : (t : Option Answer) → told w e before after ≡ t → P e (stepped w e t)
    by_told None is = now
    by_told (Some a) is = later a (follows w e before after a is)
