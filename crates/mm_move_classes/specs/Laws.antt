-- What a class says of the state in which its move is legal.
-- Profile, "Logs of moves".
use Rattle.std.specs.Prelude.{◌≡◌, true, Option, Some}
use Rattle.mm_types.specs.{Block, Frame, Key, Place, Slot, Move}
use Rattle.mm_types.specs.declared.frames.Held.TheVariants as held
use Rattle.mm_types.specs.declared.moves.Move.TheVariants as move
use Rattle.mm_move_rules.specs.{is_on, FrameLife, set_of, IsLegal, is_at_max, is_short}
use Rattle.mm_move_classes.specs.Marks.{MarksOf}
use Rattle.mm_move_classes.specs.Classes.{class_of}
use Rattle.mm_move_classes.specs.declared.classes.Class.{Class}
use Rattle.mm_move_classes.specs.declared.classes.Class.TheVariants as class

-- the move is legal in this state, and of this class, with some marks and between some moves
pub record ToldAs (l : FrameLife) (m : Move) (c : Class) : Type 0 where
  pub legal : IsLegal m l
  pub marks : MarksOf
  pub before : Option Move
  pub after : Option Move
  pub class : class_of l marks before m after ≡ Some c

-- what the classes of reads, maps and unmaps say
pub record SaysTheState (l : FrameLife) : Type 0 where
  pub paging_file : (f : Frame) (k : Key) → ToldAs l (move.Read f k) class.HardFaultFromPagingFile
      → (s : Slot) × (l.stands k ≡ held.Slot s)
  pub file : (f : Frame) (k : Key) → ToldAs l (move.Read f k) class.HardFaultFromFile
      → (b : Block) × (l.stands k ≡ held.Block b)
  pub standby : (f : Frame) (p : Place) → ToldAs l (move.Map f p) class.SoftFaultFromStandby
      → is_on f.0 l.frames.standby ≡ true
  pub modified : (f : Frame) (p : Place) → ToldAs l (move.Map f p) class.SoftFaultFromModified
      → is_on f.0 l.frames.modified ≡ true
  pub replaced : (p : Place) → ToldAs l (move.Unmap p) class.Replaced
      → is_at_max (set_of l p.pid.0) ≡ true
  pub short : (p : Place) → ToldAs l (move.Unmap p) class.TrimmedForWantOfFrames
      → is_short l ≡ true
