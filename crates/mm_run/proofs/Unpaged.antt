-- Where an answer is that of unpaged address spaces.
use Rattle.std.proofs.Common.{◌≡◌, ℕ, zero, suc, ◌+◌, ◌<◌, Bool, true, false, Option, Some, None, refl, sym, ap, ◌∙◌, arith}
use Rattle.std.specs.Prelude.{if◌then◌else◌, is_some, ◌&&◌, nat_le, nat_lt, option_map}
use Rattle.std.proofs.lemmas.Bool.{le-ltb}
use Rattle.mm_types.specs.{Answer, Why, Event}
use Rattle.mm_types.specs.declared.answers.Answer.TheVariants as answer
use Rattle.mm_types.specs.declared.codes.Raise.TheVariants as raise
use Rattle.mm_types.specs.declared.events.Event.TheVariants as line
use Rattle.mm_world.specs.{Page, KeptOf, filled, ReadOf, WriteOf, Execute, address_in, attempt_in, OutcomeOf, new_file, most_slots, flush, Need}
use Rattle.mm_world.specs.{access_fails, wait_failed, pending, step, stepped, unpaged, told, is_told, is_ok, when, failing, waiting, resume_told}
use Rattle.mm_world.specs.{kept_by, need_at, is_failed_extension}
use Rattle.mm_world.specs.World.{World}
use Rattle.mm_world.specs.Report.{Report}
use Rattle.mm_line_moves.proofs.{no_failure}
use Rattle.mm_dispatch.specs.{asks_frames}
use Rattle.mm_run.specs.{tells_paging, NoneFailed}

-- ---- what a store tells is a failed access, a pending one, a fault, or asked for by the line

when_is : (b : Bool) (a t : Answer) → when b a ≡ Some t → a ≡ t
when_is true a t e = cc
when_is false a t e = cc

when_told : (b : Bool) (a t : Answer) → is_told a ≡ true → when b a ≡ Some t → is_told t ≡ true
when_told b a t i e = ap is_told (sym (when_is b a t e)) ∙ i

failing_told : (o : Option Need) (after : Report) (t : Answer) → failing o after ≡ Some t → is_told t ≡ true
failing_told None after t e = cc
failing_told (Some n) after t e = when_told (access_fails n after) (answer.Raised raise.InPageError) t refl e

pending_told : (o : Option Why) (t : Answer) → option_map answer.Pending o ≡ Some t → is_told t ≡ true
pending_told None t e = cc
pending_told (Some why) t e = let is : answer.Pending why ≡ t = cc in ap is_told (sym is)

waiting_told : (w : World) (o : Option Need) (before after : Report) (t : Answer) → waiting w o before after ≡ Some t → is_told t ≡ true
waiting_told w None before after t e = cc
waiting_told w (Some n) before after t e = pending_told (pending w.machine.depth n before after) t e

else_told : (b : Bool) (o : Option Answer) (t : Answer) → (o ≡ Some t → is_told t ≡ true) → (if b then None else o) ≡ Some t → is_told t ≡ true
else_told true o t h e = cc
else_told false o t h e = h e

raised_told : (b : Bool) (o : Option Answer) (t : Answer) → (o ≡ Some t → is_told t ≡ true) → (if b then Some (answer.Raised raise.InPageError) else o) ≡ Some t → is_told t ≡ true
raised_told true o t h e = let is : answer.Raised raise.InPageError ≡ t = cc in ap is_told (sym is)
raised_told false o t h e = h e

resume_is_told : (w : World) (tid : ℕ) (o : Option KeptOf) (before after : Report) (t : Answer) → resume_told w tid o before after ≡ Some t → is_told t ≡ true
resume_is_told w tid None before after t e = cc
resume_is_told w tid (Some k) before after t e =
    let n = need_at w k.pid (address_in k.access) (attempt_in k.access) in
    raised_told (is_some n && wait_failed (before.wait tid)) (waiting w n before after) t (waiting_told w n before after t) e

module _ (w : World) (before after : Report) (t : Answer) where
  told_tells : (e : Event) → asks_frames e ≡ false → told w e before after ≡ Some t → is_told t ≡ true
  told_tells (line.File v0 v1 v2) q e = when_told (is_ok (new_file filled w v0 v1 v2).answer && nat_lt 0 after.file_writes.failed) answer.Fault t refl e
  told_tells (line.Flush v0 v1 v2) q e = when_told (is_ok (flush w v0.0 v1 v2).answer && nat_lt 0 after.file_writes.failed) answer.Fault t refl e
  told_tells (line.Read v0 v1 v2) q e = failing_told (need_at w v0.0 v1 (ReadOf v2)) after t e
  told_tells (line.Write v0 v1 v2) q e = failing_told (need_at w v0.0 v1 (WriteOf v2)) after t e
  told_tells (line.Exec v0 v1) q e = failing_told (need_at w v0.0 v1 Execute) after t e
  told_tells (line.Begin v0 v1 v2) q e =
      else_told (is_some (kept_by w v0.0)) (waiting w (need_at w v1.0 (address_in v2) (attempt_in v2)) before after) t
      (waiting_told w (need_at w v1.0 (address_in v2) (attempt_in v2)) before after t) e
  told_tells (line.Resume v0) q e = resume_is_told w v0.0 (kept_by w v0.0) before after t e
  told_tells (line.Io v0) q e = (let no_way : true ≡ false = q in cc)
  told_tells line.Counts q e = (let no_way : true ≡ false = q in cc)
  told_tells (line.Grow v0) q e = when_told (nat_le (w.machine.slots + v0) most_slots && is_failed_extension after.extended) answer.Fault t refl e
  told_tells x q e = cc

answer_was : (w v : World) (e : Event) (t a : Answer) → stepped w e (Some t) ≡ record { answer = a; world = v } → t ≡ a
answer_was w v e t a h = ap (λ (o : OutcomeOf Page). o.answer) h

untold : (w v : World) (e : Event) (a : Answer) (o : Option Answer) → ((t : Answer) → o ≡ Some t → is_told t ≡ true) → is_told a ≡ false → stepped w e o ≡ record { answer = a; world = v } → unpaged w e ≡ record { answer = a; world = v }
untold w v e a None tells n h = h
untold w v e a (Some t) tells n h = let clash : true ≡ false = sym (tells t refl) ∙ ap is_told (answer_was w v e t a h) ∙ n in cc

pub unpaged_answer : (w v : World) (e : Event) (a : Answer) (before after : Report) → step w e before after ≡ record { answer = a; world = v } → asks_frames e ≡ false → is_told a ≡ false → unpaged w e ≡ record { answer = a; world = v }
unpaged_answer w v e a before after h q n = untold w v e a (told w e before after) (λ t. told_tells w before after t e q) n h

-- ---- where no device call failed

when_none : (b c : Bool) (a : Answer) → c ≡ false → when (b && c) a ≡ None
when_none true true a e = cc
when_none true false a e = refl
when_none false c a e = refl

when_never : (b : Bool) (a : Answer) → b ≡ false → when b a ≡ None
when_never true a e = cc
when_never false a e = refl

module _ (w : World) (before after : Report) (none : NoneFailed after) (search : 0 < after.search_writes.failed → 0 < after.paging_writes.failed + after.file_writes.failed) (read : is_some after.last_failed_read ≡ true → 0 < after.paging_reads.failed + after.file_reads.failed) where
  no_write : nat_lt 0 after.file_writes.failed ≡ false
  no_write = let c = none.calls in le-ltb 0 after.file_writes.failed (omega arith)

  failing_none : (o : Option Need) → failing o after ≡ None
  failing_none None = refl
  failing_none (Some n) = when_never (access_fails n after) (answer.Raised raise.InPageError) (no_failure after search read none.calls n)

  told_none : (e : Event) → tells_paging e ≡ false → told w e before after ≡ None
  told_none (line.File v0 v1 v2) q = when_none (is_ok (new_file filled w v0 v1 v2).answer) (nat_lt 0 after.file_writes.failed) answer.Fault no_write
  told_none (line.Flush v0 v1 v2) q = when_none (is_ok (flush w v0.0 v1 v2).answer) (nat_lt 0 after.file_writes.failed) answer.Fault no_write
  told_none (line.Read v0 v1 v2) q = failing_none (need_at w v0.0 v1 (ReadOf v2))
  told_none (line.Write v0 v1 v2) q = failing_none (need_at w v0.0 v1 (WriteOf v2))
  told_none (line.Exec v0 v1) q = failing_none (need_at w v0.0 v1 Execute)
  told_none (line.Begin v0 v1 v2) q = (let no_way : true ≡ false = q in cc)
  told_none (line.Resume v0) q = (let no_way : true ≡ false = q in cc)
  told_none (line.Io v0) q = (let no_way : true ≡ false = q in cc)
  told_none line.Counts q = (let no_way : true ≡ false = q in cc)
  told_none (line.Grow v0) q = when_none (nat_le (w.machine.slots + v0) most_slots) (is_failed_extension after.extended) answer.Fault none.extended
  told_none e q = refl

  pub plain_answer : (v : World) (e : Event) (a : Answer) → step w e before after ≡ record { answer = a; world = v } → tells_paging e ≡ false → unpaged w e ≡ record { answer = a; world = v }
  plain_answer v e a h q = sym (ap (stepped w e) (told_none e q)) ∙ h
