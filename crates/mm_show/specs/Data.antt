-- The data of a log, from where one move's class is still open.
-- Profile, "What a log shows".
use Rattle.std.specs.Prelude.{List, [], ◌++◌, Option, Some, None}
use Rattle.mm_types.specs.{Text, Move}
use Rattle.mm_move_rules.specs.{FrameLife}
use Rattle.mm_move_classes.specs.{MarksOf, next_of, data_from, move_data}
use Rattle.mm_log_walk.specs.{class_then, move_of, Pending, Classed}

abbrev pub classed_data : Option Classed → Text
classed_data None = []
classed_data (Some c) = move_data c.class c.m

-- the data that is still to come
abbrev pub data_rest : MarksOf → Option Pending → FrameLife → List Move → Text
data_rest v p l ms = classed_data (class_then p (next_of ms)) ++ data_from l v (move_of p) ms
