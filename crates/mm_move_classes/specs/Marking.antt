-- The marks that the running count of them shows.
use Rattle.mm_move_classes.specs.declared.marks.Marks.{Marks}
use Rattle.mm_move_classes.specs.Marks.{MarksOf, marks_in}

abbrev pub marks_of : Marks → MarksOf
marks_of m = marks_in m.line m.frames.items
