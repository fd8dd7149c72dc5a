use Rattle.std.proofs.Common.{◌≡◌, Bool, sym, ap}
use Rattle.mm_move_rules.specs.{FrameLife}
use Rattle.mm_move_classes.specs.{Class}
use Rattle.mm_move_classes.specs.declared.classes.Class.TheVariants as class
use Rattle.mm_sentences.specs.declared.facts.Facts.{Facts}
use Rattle.mm_sentences.specs.{sentence_text}
use Rattle.mm_sentences.proofs.sentences.pieces_of.Goals as goal

-- the sentence of a known class, by computing, is that of the class
same : (of known : Class) → of ≡ known → (addressed : Bool) (x : Facts) (after : FrameLife)
    → sentence_text addressed known x after ≡ sentence_text addressed of x after
same of known e addressed x after = ap (λ (k : Class). sentence_text addressed k x after) (sym e)

pub returns-in-ZeroedOnDemand : goal.returns-in-ZeroedOnDemand
returns-in-ZeroedOnDemand c = same c.args.class class.ZeroedOnDemand c.in-ZeroedOnDemand.is

pub returns-in-StandbyRepurposed : goal.returns-in-StandbyRepurposed
returns-in-StandbyRepurposed c = same c.args.class class.StandbyRepurposed c.in-StandbyRepurposed.is

pub returns-in-PageInDone : goal.returns-in-PageInDone
returns-in-PageInDone c = same c.args.class class.PageInDone c.in-PageInDone.is

pub returns-in-PageInDoneDeleted : goal.returns-in-PageInDoneDeleted
returns-in-PageInDoneDeleted c = same c.args.class class.PageInDoneDeleted c.in-PageInDoneDeleted.is

pub returns-in-PageInFailed : goal.returns-in-PageInFailed
returns-in-PageInFailed c = same c.args.class class.PageInFailed c.in-PageInFailed.is

pub returns-in-Replaced : goal.returns-in-Replaced
returns-in-Replaced c = same c.args.class class.Replaced c.in-Replaced.is

pub returns-in-WriteByFlush : goal.returns-in-WriteByFlush
returns-in-WriteByFlush c = same c.args.class class.WriteByFlush c.in-WriteByFlush.is

pub returns-in-WriteDoneDeleted : goal.returns-in-WriteDoneDeleted
returns-in-WriteDoneDeleted c = same c.args.class class.WriteDoneDeleted c.in-WriteDoneDeleted.is
