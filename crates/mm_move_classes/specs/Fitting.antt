-- The word that a move begins with, and that of the moves of a class.
use Rattle.std.specs.Prelude.{Option, Some, None}
use Rattle.mm_types.specs.{Move}
use Rattle.mm_types.specs.declared.moves.Move.TheVariants as move
use Rattle.mm_move_classes.specs.declared.classes.Class.{Class}
use Rattle.mm_move_classes.specs.declared.classes.Class.TheVariants as class

pub data MoveWord : Type 0 where
  Add : MoveWord
  Drop : MoveWord
  Clear : MoveWord
  Steal : MoveWord
  Give : MoveWord
  Read : MoveWord
  Got : MoveWord
  Bad : MoveWord
  Map : MoveWord
  Unmap : MoveWord
  Soil : MoveWord
  Write : MoveWord
  Wrote : MoveWord
  Lost : MoveWord

-- `at` is no move of frames
abbrev pub word_of_move : Move → Option MoveWord
word_of_move (move.At n k) = None
word_of_move (move.Add k b) = Some Add
word_of_move (move.Drop k) = Some Drop
word_of_move (move.Clear f) = Some Clear
word_of_move (move.Steal f) = Some Steal
word_of_move (move.Give f k) = Some Give
word_of_move (move.Read f k) = Some Read
word_of_move (move.Got f) = Some Got
word_of_move (move.Bad f) = Some Bad
word_of_move (move.Map f p) = Some Map
word_of_move (move.Unmap p) = Some Unmap
word_of_move (move.Soil f) = Some Soil
word_of_move (move.Write f s) = Some Write
word_of_move (move.Wrote f) = Some Wrote
word_of_move (move.Lost f) = Some Lost

abbrev pub word_of : Class → MoveWord
word_of class.DemandZeroAdded = Add
word_of class.FilePageAdded = Add
word_of class.CopyOnWriteFault = Add
word_of class.Deleted = Drop
word_of class.DeletedInFlight = Drop
word_of class.ZeroedByThread = Clear
word_of class.ZeroedOnDemand = Clear
word_of class.StandbyRepurposed = Steal
word_of class.DemandZeroFault = Give
word_of class.FrameForCopy = Give
word_of class.HardFaultFromPagingFile = Read
word_of class.HardFaultFromFile = Read
word_of class.PageInDone = Got
word_of class.CollidedFault = Got
word_of class.PageInDoneDeleted = Got
word_of class.PageInFailed = Bad
word_of class.PageInFailedDeleted = Bad
word_of class.MadeValid = Map
word_of class.FirstUse = Map
word_of class.SoftFaultFromStandby = Map
word_of class.SoftFaultFromModified = Map
word_of class.SoftFaultInTransition = Map
word_of class.SoftFaultShared = Map
word_of class.PlaceEnds = Unmap
word_of class.Trimmed = Unmap
word_of class.TrimmedForWantOfFrames = Unmap
word_of class.Replaced = Unmap
word_of class.MakesWayForCopy = Unmap
word_of class.FirstWrite = Soil
word_of class.FirstWriteInFlight = Soil
word_of class.WriteByWriter = Write
word_of class.WriteForWantOfFrames = Write
word_of class.WriteByFlush = Write
word_of class.WriteDone = Wrote
word_of class.WriteDoneChanged = Wrote
word_of class.WriteDoneDeleted = Wrote
word_of class.WriteFailed = Lost
word_of class.WriteFailedDeleted = Lost
