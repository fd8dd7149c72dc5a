-- What a line of a world and its answer tell of watched regions.
use Rattle.std.proofs.Common.{◌≡◌, ℕ, zero, suc, ◌<◌, Option, Some, None, List, [], ◌∷◌, length, refl, sym, ap, ◌∙◌, subst, arith}
use Rattle.std.specs.Prelude.{Bool, map, slice_index_or}
use Rattle.mm_types.specs.{Answer, Event, Place, Tid, range_of}
use Rattle.mm_types.specs.declared.answers.Answer.TheVariants as answer
use Rattle.mm_types.specs.declared.events.Event.TheVariants as line
use Rattle.mm_world.specs.{KeptOf, Page, OutcomeOf, done, step, stepped, resume_told, resume, kept_by, Spaces, flag_of, FlagTold, write_of, writes_of}
use Rattle.mm_world.specs.{writes_after}
use Rattle.mm_world.specs.World.{World}
use Rattle.mm_world.specs.Report.{Report}
use Rattle.mm_world.proofs.{flags_told, watch_gives_flagged, kept_writes_follow}
use Rattle.mm_run.specs.{AnsweredLine, WriteMarks, write_marks_after, write_marks_over, no_write_marks, GivesWritten}
use Rattle.mm_run.proofs.WrittenPages.{Agrees, WentOn, agrees_on, gives}

-- a `resume` that was answered `ok` had an access
inside_of : (ks : List (Option KeptOf)) (i : ℕ) (k : KeptOf) (f : Option KeptOf → Option Place) → slice_index_or ks i None ≡ Some k → i < length (map f ks)
inside_of [] zero k f e = cc
inside_of [] (suc i) k f e = cc
inside_of (x ∷ ks) zero k f e = omega arith
inside_of (x ∷ ks) (suc i) k f e = let rest = inside_of ks i k f e in omega (arith, rest)

no_access : (w : World) (tid : Tid) (before after : Report) → kept_by w tid.0 ≡ None → step w (line.Resume tid) before after ≡ done answer.Nothing w
no_access w tid before after e =
    ap (stepped w (line.Resume tid)) (ap (λ (o : Option KeptOf). resume_told w tid.0 o before after) e)
    ∙ ap (λ (o : Option KeptOf). resume w tid.0 o) e

went_on : (w v : World) (e : Event) (a : Answer) (before after : Report) → step w e before after ≡ done a v → WentOn w e a
went_on w v (line.Resume tid) answer.Ok before after h = by_access (kept_by w tid.0) refl
  where
    by_access : (o : Option KeptOf) → kept_by w tid.0 ≡ o → tid.0 < length (writes_of w)
    by_access None e =
        let bad : answer.Nothing ≡ answer.Ok = ap (λ (o : OutcomeOf Page). o.answer) (sym (no_access w tid before after e) ∙ h) in
        cc
    by_access (Some k) e = inside_of w.kept tid.0 k write_of e
went_on w v e a before after h = tt

pub step_agrees : (m : ℕ → ℕ → WriteMarks) (w v : World) (e : Event) (a : Answer) (before after : Report) → step w e before after ≡ done a v → Spaces w → Agrees m w
    → Agrees (λ pid page. write_marks_after pid page (m pid page) (record { event = e; answer = a })) v
step_agrees m w v e a before after h fits agrees =
    agrees_on m w v e a agrees
    (subst (λ (o : OutcomeOf Page). writes_of o.world ≡ writes_after (writes_of w) e o.answer) h (kept_writes_follow w e before after))
    (went_on w v e a before after h)
    (subst (λ (o : OutcomeOf Page). (pid page : ℕ) (b : Bool) → flag_of o.world pid page ≡ Some b → FlagTold w e o.answer pid page b) h (λ pid page b flag. flags_told w e before after pid page b fits flag))

-- ---- what a `watch` gives

pub watch_gives : (lines : List AnsweredLine) (w v : World) (e : Event) (a : Answer) (before after : Report) → step w e before after ≡ done a v → Spaces w → Agrees (λ pid page. write_marks_over pid page no_write_marks lines) w → GivesWritten lines e a
watch_gives lines w v (line.Watch pid unwrites addr size count) (answer.Watched pages) before after h fits agrees =
    gives (λ pid page. write_marks_over pid page no_write_marks lines) w agrees pid.0 (range_of addr size) count pages
    (watch_gives_flagged w pid unwrites addr size count pages before after fits (ap (λ (o : OutcomeOf Page). o.answer) h))
watch_gives lines w v e a before after h fits agrees = tt
