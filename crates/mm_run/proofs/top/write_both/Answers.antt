use Rattle.std.specs.Prelude.{Result, Ok, Err, IsErrAnd}
use Rattle.std.proofs.Common.{Option}
use Rattle.mm_types.specs.{Text}
use Rattle.mm_run.specs.{TornText, ToldText}
use Rattle.mm_run.proofs.{wrote_whole, wrote_torn, torn_before, both_whole, torn_behind, flushed_either}
use Rattle.mm_run.proofs.top.write_both.Goals as goal

-- what was written before a call failed
torn_told : {T E : Type 0} (P : E → Type 0) (r : Result T E) (a b given : Option Text) (text : Text) → IsErrAnd r P → TornText a b text → ToldText r a b given text
torn_told P (Ok x) a b given text failed torn = absurd failed
torn_told P (Err e) a b given text failed torn = torn

pub returns-in_err-write_all-clause-told : goal.returns-in_err-write_all-clause-told
returns-in_err-write_all-clause-told g c =
    torn_told _ c.from_residual.result _ _ _ _ c.from_residual.ensures.1 (torn_before _ _ c.args.first.now c.args.second.now (wrote_torn _ _ _ _ c.in_err-write_all.ensures.wrote))

pub returns-in_err-write_all-2-clause-told : goal.returns-in_err-write_all-2-clause-told
returns-in_err-write_all-2-clause-told g c =
    torn_told _ c.from_residual-in_err-write_all-2.result _ _ _ _ c.from_residual-in_err-write_all-2.ensures.1
    (torn_behind _ _ _ c.args.first.now c.args.second.now (wrote_whole _ _ _ c.in_ok-write_all.ensures.wrote) _ c.in_err-write_all-2.ensures.wrote)

pub returns-clause-told : goal.returns-clause-told
returns-clause-told g c =
    flushed_either c.flush.result (g.O.Sink.taken c.args.out.now) (g.O.Sink.taken c.write_all-2.new.out) (g.O.Sink.taken c.flush.new.self) (g.O.Sink.given c.flush.new.self) _
    (both_whole _ _ _ c.args.first.now c.args.second.now (wrote_whole _ _ _ c.in_ok-write_all.ensures.wrote) c.in_ok-write_all-2.ensures.wrote)
    c.flush.ensures.taken c.flush.ensures.all
