-- Each class is of a move with its own word.
use Rattle.std.proofs.Common.{◌≡◌, ℕ, Bool, true, false, cond, Option, Some, None, refl, ap}
use Rattle.std.specs.Prelude.{◌&&◌, not, nat_lt, is_none, option_map}
use Rattle.mm_types.specs.{Block, Place, Record, Held, LineKind, Move}
use Rattle.mm_types.specs.declared.frames.Held.TheVariants as held
use Rattle.mm_types.specs.declared.moves.Move.TheVariants as move
use Rattle.mm_move_rules.specs.{record_at, is_on, has_request, is_again, is_access, is_touch, is_unbind, is_writer, is_zeroer, is_short, FrameLife}
use Rattle.mm_move_classes.specs.{MarksOf, class_of, class_of_add, class_of_read, class_of_soft, class_of_map, class_of_unmap, class_of_got}
use Rattle.mm_move_classes.specs.{class_of_write, class_of_wrote, is_busy, is_copy_on_write, is_trim, makes_way, makes_room, reads_into, Class, MoveWord, Add, Drop}
use Rattle.mm_move_classes.specs.{Clear, Give, Read, Got, Bad, Map, Unmap, Soil, Write, Wrote, Lost, word_of, word_of_move}
use Rattle.mm_move_classes.specs.declared.classes.Class.TheVariants as class

-- what is so of two classes is so of either
pub of_two : {A : Type 0} (f : Class → A) (a : A) (test : Bool) (x y : Class) → f x ≡ a → f y ≡ a → f (cond test x y) ≡ a
of_two f a true x y p q = p
of_two f a false x y p q = q

of_three : {A : Type 0} (f : Class → A) (a : A) (s t : Bool) (x y z : Class) → f x ≡ a → f y ≡ a → f z ≡ a → f (cond s x (cond t y z)) ≡ a
of_three f a s t x y z p q r = of_two f a s x (cond t y z) p (of_two f a t y z q r)

some_word : (c : Class) (w : MoveWord) → word_of c ≡ w → option_map word_of (Some c) ≡ Some w
some_word c w e = ap (λ (v : MoveWord). Some v) e

word_of_add : (k : LineKind) (b : Option Block) → word_of (class_of_add k b) ≡ Add
word_of_add k None = of_two word_of Add (is_touch k) class.CopyOnWriteFault class.DemandZeroAdded refl refl
word_of_add k (Some b) = refl

word_of_read : (h : Held) → word_of (class_of_read h) ≡ Read
word_of_read (held.Slot s) = refl
word_of_read h = refl

word_of_got : (k : LineKind) (r : Record) (own : Bool) → word_of (class_of_got k r own) ≡ Got
word_of_got k r own =
    of_three word_of Got (is_none r.owner) (is_access k && not own) class.PageInDoneDeleted class.CollidedFault class.PageInDone refl refl refl

-- a soft fault is no end of a fault that this line began
pub of_soft : {A : Type 0} (f : Class → A) (a : A) → f class.SoftFaultShared ≡ a → f class.SoftFaultInTransition ≡ a → f class.SoftFaultFromModified ≡ a
    → f class.SoftFaultFromStandby ≡ a → (l : FrameLife) (n : ℕ) (r : Record) → f (class_of_soft l n r) ≡ a
of_soft f a p q s t l n r =
    of_two f a (nat_lt 0 r.shares) class.SoftFaultShared _ p
    (of_three f a (has_request r.request) (is_on n l.frames.modified) class.SoftFaultInTransition class.SoftFaultFromModified class.SoftFaultFromStandby q s t)

word_of_map : (l : FrameLife) (v : MarksOf) (f : ℕ) → word_of (class_of_map l v f) ≡ Map
word_of_map l v f =
    of_three word_of Map (v.fresh f) (v.arrived f) class.MadeValid class.FirstUse (class_of_soft l f (record_at l.frames f)) refl refl
    (of_soft word_of Map refl refl refl refl l f (record_at l.frames f))

word_of_unmap : (l : FrameLife) (p : Place) (after : Option Move) → word_of (class_of_unmap l p after) ≡ Unmap
word_of_unmap l p after =
    of_two word_of Unmap (is_unbind l.kind) class.PlaceEnds _ refl
    (of_two word_of Unmap (is_trim l.kind) class.Trimmed _ refl
    (of_three word_of Unmap (makes_way l p) (is_access l.kind && is_short l && not (makes_room l p.pid.0 after)) class.MakesWayForCopy class.TrimmedForWantOfFrames class.Replaced refl refl refl))

word_of_write : (k : LineKind) → word_of (class_of_write k) ≡ Write
word_of_write k = of_three word_of Write (is_writer k) (is_access k) class.WriteByWriter class.WriteForWantOfFrames class.WriteByFlush refl refl refl

word_of_wrote : (r : Record) → word_of (class_of_wrote r) ≡ Wrote
word_of_wrote r = of_three word_of Wrote (is_none r.owner) (is_again r.request) class.WriteDoneDeleted class.WriteDoneChanged class.WriteDone refl refl refl

-- each move but `at` has a class, of its own word
pub word_fits : (l : FrameLife) (v : MarksOf) (before : Option Move) (m : Move) (after : Option Move) → option_map word_of (class_of l v before m after) ≡ word_of_move m
word_fits l v before (move.At n k) after = refl
word_fits l v before (move.Add k b) after = some_word (class_of_add l.kind b) Add (word_of_add l.kind b)
word_fits l v before (move.Drop k) after =
    some_word _ Drop (of_two word_of Drop (is_busy l (l.stands k)) class.DeletedInFlight class.Deleted refl refl)
word_fits l v before (move.Clear f) after =
    some_word _ Clear (of_two word_of Clear (is_zeroer l.kind) class.ZeroedByThread class.ZeroedOnDemand refl refl)
word_fits l v before (move.Steal f) after = refl
word_fits l v before (move.Give f k) after =
    some_word _ Give (of_two word_of Give (is_copy_on_write l k) class.FrameForCopy class.DemandZeroFault refl refl)
word_fits l v before (move.Read f k) after = some_word (class_of_read (l.stands k)) Read (word_of_read (l.stands k))
word_fits l v before (move.Got f) after =
    some_word _ Got (word_of_got l.kind (record_at l.frames f.0) (reads_into f.0 before))
word_fits l v before (move.Bad f) after =
    some_word _ Bad (of_two word_of Bad (is_none (record_at l.frames f.0).owner) class.PageInFailedDeleted class.PageInFailed refl refl)
word_fits l v before (move.Map f place) after = some_word (class_of_map l v f.0) Map (word_of_map l v f.0)
word_fits l v before (move.Unmap place) after = some_word (class_of_unmap l place after) Unmap (word_of_unmap l place after)
word_fits l v before (move.Soil f) after =
    some_word _ Soil (of_two word_of Soil (has_request (record_at l.frames f.0).request) class.FirstWriteInFlight class.FirstWrite refl refl)
word_fits l v before (move.Write f s) after = some_word (class_of_write l.kind) Write (word_of_write l.kind)
word_fits l v before (move.Wrote f) after = some_word _ Wrote (word_of_wrote (record_at l.frames f.0))
word_fits l v before (move.Lost f) after =
    some_word _ Lost (of_two word_of Lost (is_none (record_at l.frames f.0).owner) class.WriteFailedDeleted class.WriteFailed refl refl)
