-- The words, the code and the group of each class.
use Rattle.std.specs.Prelude.{ℕ, Option, Some, None, codes}
use Rattle.mm_types.specs.{Text}
use Rattle.mm_move_classes.specs.declared.classes.Class.{Class}
use Rattle.mm_move_classes.specs.declared.classes.Class.TheVariants as class
use Rattle.mm_move_classes.specs.declared.classes.Group.{Group}
use Rattle.mm_move_classes.specs.declared.classes.Group.TheVariants as group

-- a letter or digit, by which the data of a page names the class
abbrev pub code_of : Class → ℕ
code_of class.DemandZeroAdded = 0x63  -- c
code_of class.FilePageAdded = 0x66  -- f
code_of class.CopyOnWriteFault = 0x79  -- y
code_of class.Deleted = 0x64  -- d
code_of class.DeletedInFlight = 0x44  -- D
code_of class.ZeroedByThread = 0x7A  -- z
code_of class.ZeroedOnDemand = 0x5A  -- Z
code_of class.StandbyRepurposed = 0x73  -- s
code_of class.DemandZeroFault = 0x67  -- g
code_of class.FrameForCopy = 0x47  -- G
code_of class.HardFaultFromPagingFile = 0x68  -- h
code_of class.HardFaultFromFile = 0x48  -- H
code_of class.PageInDone = 0x6F  -- o
code_of class.CollidedFault = 0x71  -- q
code_of class.PageInDoneDeleted = 0x4F  -- O
code_of class.PageInFailed = 0x62  -- b
code_of class.PageInFailedDeleted = 0x42  -- B
code_of class.MadeValid = 0x6D  -- m
code_of class.FirstUse = 0x6E  -- n
code_of class.SoftFaultFromStandby = 0x31  -- 1
code_of class.SoftFaultFromModified = 0x32  -- 2
code_of class.SoftFaultInTransition = 0x33  -- 3
code_of class.SoftFaultShared = 0x34  -- 4
code_of class.PlaceEnds = 0x75  -- u
code_of class.Trimmed = 0x74  -- t
code_of class.TrimmedForWantOfFrames = 0x54  -- T
code_of class.Replaced = 0x72  -- r
code_of class.MakesWayForCopy = 0x70  -- p
code_of class.FirstWrite = 0x77  -- w
code_of class.FirstWriteInFlight = 0x57  -- W
code_of class.WriteByWriter = 0x65  -- e
code_of class.WriteForWantOfFrames = 0x45  -- E
code_of class.WriteByFlush = 0x46  -- F
code_of class.WriteDone = 0x6B  -- k
code_of class.WriteDoneChanged = 0x4B  -- K
code_of class.WriteDoneDeleted = 0x6A  -- j
code_of class.WriteFailed = 0x6C  -- l
code_of class.WriteFailedDeleted = 0x4C  -- L

abbrev pub group_of : Class → Option Group
group_of class.DemandZeroAdded = None
group_of class.FilePageAdded = None
group_of class.CopyOnWriteFault = Some group.Copy
group_of class.Deleted = None
group_of class.DeletedInFlight = None
group_of class.ZeroedByThread = Some group.Zeroing
group_of class.ZeroedOnDemand = Some group.Zeroing
group_of class.StandbyRepurposed = Some group.Steal
group_of class.DemandZeroFault = Some group.DemandZero
group_of class.FrameForCopy = None
group_of class.HardFaultFromPagingFile = Some group.Hard
group_of class.HardFaultFromFile = Some group.Hard
group_of class.PageInDone = None
group_of class.CollidedFault = Some group.Collided
group_of class.PageInDoneDeleted = None
group_of class.PageInFailed = Some group.Failed
group_of class.PageInFailedDeleted = Some group.Failed
group_of class.MadeValid = None
group_of class.FirstUse = None
group_of class.SoftFaultFromStandby = Some group.Soft
group_of class.SoftFaultFromModified = Some group.Soft
group_of class.SoftFaultInTransition = Some group.Soft
group_of class.SoftFaultShared = Some group.Soft
group_of class.PlaceEnds = None
group_of class.Trimmed = Some group.Trim
group_of class.TrimmedForWantOfFrames = Some group.Trim
group_of class.Replaced = Some group.Replace
group_of class.MakesWayForCopy = None
group_of class.FirstWrite = None
group_of class.FirstWriteInFlight = None
group_of class.WriteByWriter = Some group.Write
group_of class.WriteForWantOfFrames = Some group.Write
group_of class.WriteByFlush = Some group.Write
group_of class.WriteDone = None
group_of class.WriteDoneChanged = None
group_of class.WriteDoneDeleted = None
group_of class.WriteFailed = Some group.Failed
group_of class.WriteFailedDeleted = Some group.Failed

-- A sentence with names in braces: {k} the page's key, {f} the frame, {p} the place, {i} the
-- process, {b} the block, {home} the slot or block, and three endings, {freed}, {unslot} and
-- {goes}.
abbrev pub sentence_of : Class → Text
sentence_of class.DemandZeroAdded = codes "page {k} comes to be, demand-zero: no frame yet"
sentence_of class.FilePageAdded = codes "file page {k} comes to be, its bytes in file block {b}"
sentence_of class.CopyOnWriteFault = codes "copy-on-write fault: page {k} becomes private"
sentence_of class.Deleted = codes "page {k} is deleted{freed}"
sentence_of class.DeletedInFlight =
    codes "page {k} is deleted; its I/O keeps frame {f} until it ends"
sentence_of class.ZeroedByThread = codes "zero page thread clears free frame {f}"
sentence_of class.ZeroedOnDemand = codes "free frame {f} is zeroed on demand"
sentence_of class.StandbyRepurposed =
    codes "standby frame {f} is repurposed: {k} is now only in {home}"
sentence_of class.DemandZeroFault = codes "demand-zero fault: {k} gets zeroed frame {f}"
sentence_of class.FrameForCopy = codes "zeroed frame {f} is taken for the copy {k}"
sentence_of class.HardFaultFromPagingFile =
    codes "hard fault: {k} is read from paging-file {home} into frame {f}"
sentence_of class.HardFaultFromFile =
    codes "hard fault: {k} is read from file {home} into frame {f}"
sentence_of class.PageInDone = codes "page-in of {k} into frame {f} is complete"
sentence_of class.CollidedFault =
    codes "collided fault: the page-in of {k} that was in flight completes in frame {f}"
sentence_of class.PageInDoneDeleted =
    codes "page-in into frame {f} is complete; its page was deleted, so the frame is free"
sentence_of class.PageInFailed = codes "page-in of {k} FAILED: frame {f} is free again"
sentence_of class.PageInFailedDeleted =
    codes "page-in into frame {f} FAILED; its page was deleted, so the frame is free"
sentence_of class.MadeValid = codes "{k} is valid at {p}: frame {f} is active"
sentence_of class.FirstUse =
    codes "{k}, read in by an earlier line, is valid at {p}: frame {f} is active"
sentence_of class.SoftFaultFromStandby =
    codes "soft fault: {k} is found on the standby list, frame {f}, and valid at {p}"
sentence_of class.SoftFaultFromModified =
    codes "soft fault: {k} is found on the modified list, frame {f}, and valid at {p}"
sentence_of class.SoftFaultInTransition =
    codes "soft fault: {k} is found in transition (being written), frame {f}, and valid at {p}"
sentence_of class.SoftFaultShared =
    codes "soft fault: {k} is active already, frame {f}, and now shared at {p}"
sentence_of class.PlaceEnds =
    codes "{p} ends: frame {f} leaves the working set of process {i}{goes}"
sentence_of class.Trimmed =
    codes "{p} is trimmed from the working set of process {i}: frame {f}{goes}"
sentence_of class.TrimmedForWantOfFrames =
    codes "{p} is trimmed from the working set of process {i} for want of frames: frame {f}{goes}"
sentence_of class.Replaced =
    codes "{p} is replaced: the working set of process {i} is full: frame {f}{goes}"
sentence_of class.MakesWayForCopy =
    codes "at {p} the shared page {k} makes way for the copy: frame {f}{goes}"
sentence_of class.FirstWrite = codes "first write to {k}: frame {f} is changed{unslot}"
sentence_of class.FirstWriteInFlight =
    codes "first write to {k} while it is being written: frame {f} will stay changed"
sentence_of class.WriteByWriter = codes "modified page writer writes {k}: frame {f} to {home}"
sentence_of class.WriteForWantOfFrames =
    codes "write-out for want of frames: {k}, frame {f} to {home}"
sentence_of class.WriteByFlush = codes "flush writes {k}: frame {f} to {home}"
sentence_of class.WriteDone = codes "write-out of {k} is complete: frame {f} is clean{goes}"
sentence_of class.WriteDoneChanged =
    codes "write-out of {k} is complete, but it was changed meanwhile: frame {f} stays changed{goes}"
sentence_of class.WriteDoneDeleted =
    codes "write-out of frame {f} is complete; its page was deleted, so the frame is free"
sentence_of class.WriteFailed = codes "write-out of {k} FAILED: frame {f} stays changed{goes}"
sentence_of class.WriteFailedDeleted =
    codes "write-out of frame {f} FAILED; its page was deleted, so the frame is free"
