-- The classes by their codes.
use Rattle.std.proofs.Common.{◌≡◌, ℕ, cond, Option, Some, None, refl, sym, ap, ◌∙◌}
use Rattle.std.specs.Prelude.{◌==◌}
use Rattle.mm_move_classes.specs.{code_of, Class}
use Rattle.mm_move_classes.specs.declared.classes.Class.TheVariants as class

-- the class that has a code
pub class_with : ℕ → Option Class
class_with n =
    cond (n == 0x63) (Some class.DemandZeroAdded)
    (cond (n == 0x66) (Some class.FilePageAdded)
    (cond (n == 0x79) (Some class.CopyOnWriteFault)
    (cond (n == 0x64) (Some class.Deleted)
    (cond (n == 0x44) (Some class.DeletedInFlight)
    (cond (n == 0x7A) (Some class.ZeroedByThread)
    (cond (n == 0x5A) (Some class.ZeroedOnDemand)
    (cond (n == 0x73) (Some class.StandbyRepurposed)
    (cond (n == 0x67) (Some class.DemandZeroFault)
    (cond (n == 0x47) (Some class.FrameForCopy)
    (cond (n == 0x68) (Some class.HardFaultFromPagingFile)
    (cond (n == 0x48) (Some class.HardFaultFromFile)
    (cond (n == 0x6F) (Some class.PageInDone)
    (cond (n == 0x71) (Some class.CollidedFault)
    (cond (n == 0x4F) (Some class.PageInDoneDeleted)
    (cond (n == 0x62) (Some class.PageInFailed)
    (cond (n == 0x42) (Some class.PageInFailedDeleted)
    (cond (n == 0x6D) (Some class.MadeValid)
    (cond (n == 0x6E) (Some class.FirstUse)
    (cond (n == 0x31) (Some class.SoftFaultFromStandby)
    (cond (n == 0x32) (Some class.SoftFaultFromModified)
    (cond (n == 0x33) (Some class.SoftFaultInTransition)
    (cond (n == 0x34) (Some class.SoftFaultShared)
    (cond (n == 0x75) (Some class.PlaceEnds)
    (cond (n == 0x74) (Some class.Trimmed)
    (cond (n == 0x54) (Some class.TrimmedForWantOfFrames)
    (cond (n == 0x72) (Some class.Replaced)
    (cond (n == 0x70) (Some class.MakesWayForCopy)
    (cond (n == 0x77) (Some class.FirstWrite)
    (cond (n == 0x57) (Some class.FirstWriteInFlight)
    (cond (n == 0x65) (Some class.WriteByWriter)
    (cond (n == 0x45) (Some class.WriteForWantOfFrames)
    (cond (n == 0x46) (Some class.WriteByFlush)
    (cond (n == 0x6B) (Some class.WriteDone)
    (cond (n == 0x4B) (Some class.WriteDoneChanged)
    (cond (n == 0x6A) (Some class.WriteDoneDeleted)
    (cond (n == 0x6C) (Some class.WriteFailed)
    (cond (n == 0x4C) (Some class.WriteFailedDeleted)
    None)))))))))))))))))))))))))))))))))))))

with_code : (c : Class) → class_with (code_of c) ≡ Some c
unfolding class_with
with_code class.DemandZeroAdded = refl
with_code _ = refl

pub codes_tell : (a b : Class) → code_of a ≡ code_of b → a ≡ b
codes_tell a b e = let same : Some a ≡ Some b = sym (with_code a) ∙ ap class_with e ∙ with_code b in cc
