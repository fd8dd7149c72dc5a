-- The classes of worked logs.
use Rattle.std.specs.Prelude.{List, [], ◌∷◌, Option, Some, None}
use Rattle.mm_move_classes.specs.declared.classes.Class.{Class}
use Rattle.mm_move_classes.specs.declared.classes.Class.TheVariants as class

-- of a page rewritten while its write is in flight
abbrev pub rewritten_classes : List (Option Class)
rewritten_classes =
    None
    ∷ None
    ∷ None
    ∷ Some class.DemandZeroAdded
    ∷ None
    ∷ Some class.ZeroedOnDemand
    ∷ Some class.DemandZeroFault
    ∷ Some class.MadeValid
    ∷ None
    ∷ Some class.Trimmed
    ∷ None
    ∷ Some class.WriteByWriter
    ∷ None
    ∷ None
    ∷ Some class.SoftFaultInTransition
    ∷ Some class.FirstWriteInFlight
    ∷ None
    ∷ None
    ∷ Some class.Trimmed
    ∷ None
    ∷ Some class.WriteDoneChanged
    ∷ None
    ∷ None
    ∷ Some class.SoftFaultFromModified
    ∷ []

-- of the smallest working set, whose only page goes for the next
abbrev pub smallest_set_classes : List (Option Class)
smallest_set_classes =
    None
    ∷ None
    ∷ None
    ∷ Some class.DemandZeroAdded
    ∷ Some class.DemandZeroAdded
    ∷ None
    ∷ Some class.ZeroedOnDemand
    ∷ Some class.DemandZeroFault
    ∷ Some class.MadeValid
    ∷ None
    ∷ Some class.ZeroedOnDemand
    ∷ Some class.DemandZeroFault
    ∷ Some class.Replaced
    ∷ Some class.MadeValid
    ∷ []
