-- What a page is told of each class.
-- Profile, "What a log shows".
use Rattle.std.specs.Prelude.{List, [], ◌∷◌, ◌++◌, flat_map, codes, Option, Some, None}
use Rattle.mm_types.specs.{Text}
use Rattle.mm_move_classes.specs.{code_of, group_of, sentence_of, Class, Group}
use Rattle.mm_move_classes.specs.declared.classes.Class.TheVariants as class
use Rattle.mm_move_classes.specs.declared.classes.Group.TheVariants as group

-- the classes, in the order in which they are told
abbrev pub all_classes : List Class
all_classes =
    class.DemandZeroAdded ∷ class.FilePageAdded ∷ class.CopyOnWriteFault ∷ class.Deleted ∷
    class.DeletedInFlight ∷ class.ZeroedByThread ∷ class.ZeroedOnDemand ∷ class.StandbyRepurposed ∷
    class.DemandZeroFault ∷ class.FrameForCopy ∷ class.HardFaultFromPagingFile
    ∷ class.HardFaultFromFile ∷
    class.PageInDone ∷ class.CollidedFault ∷ class.PageInDoneDeleted ∷ class.PageInFailed ∷
    class.PageInFailedDeleted ∷ class.MadeValid ∷ class.FirstUse ∷ class.SoftFaultFromStandby ∷
    class.SoftFaultFromModified ∷ class.SoftFaultInTransition ∷ class.SoftFaultShared
    ∷ class.PlaceEnds ∷
    class.Trimmed ∷ class.TrimmedForWantOfFrames ∷ class.Replaced ∷ class.MakesWayForCopy ∷
    class.FirstWrite ∷ class.FirstWriteInFlight ∷ class.WriteByWriter ∷ class.WriteForWantOfFrames ∷
    class.WriteByFlush ∷ class.WriteDone ∷ class.WriteDoneChanged ∷ class.WriteDoneDeleted ∷
    class.WriteFailed ∷ class.WriteFailedDeleted ∷ []

-- the word that the moves of a class begin with; where more is written of them, another
abbrev pub move_word : Class → Text
move_word class.DemandZeroAdded = codes "add"
move_word class.FilePageAdded = codes "addfile"
move_word class.CopyOnWriteFault = codes "add"
move_word class.Deleted = codes "drop"
move_word class.DeletedInFlight = codes "drop"
move_word class.ZeroedByThread = codes "clear"
move_word class.ZeroedOnDemand = codes "clear"
move_word class.StandbyRepurposed = codes "steal"
move_word class.DemandZeroFault = codes "give"
move_word class.FrameForCopy = codes "give"
move_word class.HardFaultFromPagingFile = codes "read"
move_word class.HardFaultFromFile = codes "read"
move_word class.PageInDone = codes "got"
move_word class.CollidedFault = codes "got"
move_word class.PageInDoneDeleted = codes "got"
move_word class.PageInFailed = codes "bad"
move_word class.PageInFailedDeleted = codes "bad"
move_word class.MadeValid = codes "map"
move_word class.FirstUse = codes "map"
move_word class.SoftFaultFromStandby = codes "map"
move_word class.SoftFaultFromModified = codes "map"
move_word class.SoftFaultInTransition = codes "map"
move_word class.SoftFaultShared = codes "map"
move_word class.PlaceEnds = codes "unmap"
move_word class.Trimmed = codes "unmap"
move_word class.TrimmedForWantOfFrames = codes "unmap"
move_word class.Replaced = codes "unmap"
move_word class.MakesWayForCopy = codes "unmap"
move_word class.FirstWrite = codes "soil"
move_word class.FirstWriteInFlight = codes "soil"
move_word class.WriteByWriter = codes "write"
move_word class.WriteForWantOfFrames = codes "write"
move_word class.WriteByFlush = codes "write"
move_word class.WriteDone = codes "wrote"
move_word class.WriteDoneChanged = codes "wrote"
move_word class.WriteDoneDeleted = codes "wrote"
move_word class.WriteFailed = codes "lost"
move_word class.WriteFailedDeleted = codes "lost"

abbrev pub group_word : Option Group → Text
group_word None = codes "-"
group_word (Some group.Hard) = codes "hard"
group_word (Some group.Soft) = codes "soft"
group_word (Some group.DemandZero) = codes "zero"
group_word (Some group.Copy) = codes "copy"
group_word (Some group.Collided) = codes "collided"
group_word (Some group.Zeroing) = codes "zeroing"
group_word (Some group.Steal) = codes "steal"
group_word (Some group.Trim) = codes "trim"
group_word (Some group.Replace) = codes "replace"
group_word (Some group.Write) = codes "write"
group_word (Some group.Failed) = codes "failed"

-- its code, its move, its group and its sentence
abbrev pub class_words_row : Class → Text
class_words_row c =
    code_of c ∷ 32 ∷ (move_word c ++ 32 ∷ (group_word (group_of c) ++ 32 ∷ (sentence_of c ++ 10
    ∷ [])))

abbrev pub class_rows : Text
class_rows = flat_map class_words_row all_classes
