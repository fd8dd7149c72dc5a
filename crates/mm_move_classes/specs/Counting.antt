-- How many moves of a log are of a class.
use Rattle.std.specs.Prelude.{◌≡◌, ℕ, ◌+◌, Bool, false, ◌==◌, List, count_by, Option, Some, None}
use Rattle.mm_move_rules.specs.{CountsOfLog}
use Rattle.mm_move_classes.specs.Words.{code_of}
use Rattle.mm_move_classes.specs.declared.classes.Class.{Class}
use Rattle.mm_move_classes.specs.declared.classes.Class.TheVariants as class

abbrev pub is_class : Class → Option Class → Bool
is_class c None = false
is_class c (Some d) = code_of d == code_of c

abbrev pub class_count : Class → List (Option Class) → ℕ
class_count c cs = count_by (is_class c) cs

-- the counts of a log are sums of numbers of its classes
pub record CountsAgree (cs : List (Option Class)) (n : CountsOfLog) : Type 0 where
  pub zero_fills :
      class_count class.DemandZeroFault cs + class_count class.FrameForCopy cs ≡ n.zero_fills
  pub hard_faults :
      class_count class.HardFaultFromPagingFile cs + class_count class.HardFaultFromFile cs
      ≡ n.hard_faults
  -- here the first use of a page that an earlier line read in is a soft fault
  pub soft_faults :
      class_count class.FirstUse cs + class_count class.SoftFaultFromStandby cs
      + class_count class.SoftFaultFromModified cs + class_count class.SoftFaultInTransition cs
      + class_count class.SoftFaultShared cs
      ≡ n.soft_faults
  pub steals : class_count class.StandbyRepurposed cs ≡ n.steals
  pub write_outs :
      class_count class.WriteDone cs + class_count class.WriteDoneChanged cs
      + class_count class.WriteDoneDeleted cs
      ≡ n.write_outs
