-- Why it happened, or by what, where the class does not say.
-- Profile, "What a log shows".
use Rattle.std.specs.Prelude.{[], ◌++◌, codes, Option, Some, None}
use Rattle.mm_types.specs.{Text, decimal, Block}
use Rattle.mm_move_classes.specs.{Class}
use Rattle.mm_move_classes.specs.declared.classes.Class.TheVariants as class
use Rattle.mm_sentences.specs.declared.facts.Facts.{Facts}
use Rattle.mm_sentences.specs.{home_text}
use Rattle.mm_transcripts.specs.{age_words, process_words, Reason}

-- the words of a class; behind them stands more of some
abbrev pub class_words : Class → Text
class_words class.DemandZeroAdded = codes "demand-zero"
class_words class.FilePageAdded = codes "file "
class_words class.CopyOnWriteFault = []
class_words class.Deleted = []
class_words class.DeletedInFlight = codes "its I/O is in flight"
class_words class.ZeroedByThread = codes "zero page thread"
class_words class.ZeroedOnDemand = codes "on demand"
class_words class.StandbyRepurposed = codes "now only in "
class_words class.DemandZeroFault = []
class_words class.FrameForCopy = []
class_words class.HardFaultFromPagingFile = codes "paging-file "
class_words class.HardFaultFromFile = codes "file "
class_words class.PageInDone = []
class_words class.CollidedFault = codes "begun by an earlier line"
class_words class.PageInDoneDeleted = codes "page deleted meanwhile"
class_words class.PageInFailed = []
class_words class.PageInFailedDeleted = codes "page deleted meanwhile"
class_words class.MadeValid = []
class_words class.FirstUse = codes "read in by an earlier line"
class_words class.SoftFaultFromStandby = codes "standby list"
class_words class.SoftFaultFromModified = codes "modified list"
class_words class.SoftFaultInTransition = codes "being written"
class_words class.SoftFaultShared = codes "valid elsewhere"
class_words class.PlaceEnds = codes "its place ends"
class_words class.Trimmed = codes "trim"
class_words class.TrimmedForWantOfFrames = codes "want of frames"
class_words class.Replaced = codes "working set is full"
class_words class.MakesWayForCopy = codes "makes way for the copy"
class_words class.FirstWrite = []
class_words class.FirstWriteInFlight = codes "while it is being written"
class_words class.WriteByWriter = codes "modified page writer, to "
class_words class.WriteForWantOfFrames = codes "want of frames, to "
class_words class.WriteByFlush = codes "flush, to "
class_words class.WriteDone = []
class_words class.WriteDoneChanged = codes "changed meanwhile"
class_words class.WriteDoneDeleted = codes "page deleted meanwhile"
class_words class.WriteFailed = []
class_words class.WriteFailedDeleted = codes "page deleted meanwhile"

-- the block of a file's page that comes to be
abbrev pub block_words : Option Block → Text
block_words None = []
block_words (Some b) = codes "block " ++ decimal b.0

-- how the page stood that left its working set, where that is known
abbrev pub replaced_words : Option Reason → Text
replaced_words None = []
replaced_words (Some r) = codes ", " ++ age_words r.age

abbrev pub trimmed_words : Option Reason → Text
trimmed_words None = []
trimmed_words (Some r) = codes ", " ++ (process_words r ++ age_words r.age)

-- behind the words: the slot or block, or how the page stood
abbrev pub behind_words : Class → Facts → Option Reason → Text
behind_words class.FilePageAdded x r = block_words x.block
behind_words class.StandbyRepurposed x r = home_text x.home
behind_words class.HardFaultFromPagingFile x r = home_text x.home
behind_words class.HardFaultFromFile x r = home_text x.home
behind_words class.WriteByWriter x r = home_text x.home
behind_words class.WriteForWantOfFrames x r = home_text x.home
behind_words class.WriteByFlush x r = home_text x.home
behind_words class.Replaced x r = replaced_words r
behind_words class.TrimmedForWantOfFrames x r = trimmed_words r
behind_words _ x r = []

abbrev pub reason_column : Class → Facts → Option Reason → Text
reason_column c x r = class_words c ++ behind_words c x r
