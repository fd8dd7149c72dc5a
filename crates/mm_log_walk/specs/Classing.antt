-- A move whose class is told when the next one is known.
-- Profile, "What a log shows".
use Rattle.std.specs.Prelude.{Bool, false, if◌then◌else◌, List, [], ◌∷◌, ◌++◌, Option, Some}
use Rattle.std.specs.Prelude.{None}
use Rattle.std.specs.Prelude.{option_map}
use Rattle.mm_types.specs.{Move}
use Rattle.mm_types.specs.declared.moves.Move.TheVariants as move
use Rattle.mm_move_rules.specs.{FrameLife}
use Rattle.mm_move_classes.specs.{MarksOf, class_of, maps_into, next_of, classes_from, Class}
use Rattle.mm_log_walk.specs.declared.classifiers.Pending.{Pending}
use Rattle.mm_log_walk.specs.declared.classifiers.Classed.{Classed}

-- after an `unmap`, a `map` into the working set that it leaves
abbrev pub next_there : Move → Option Move
next_there (move.Unmap place) = Some (move.Map (record { 0 = 0 }) place)
next_there _ = None

abbrev pub is_made_room : Move → Option Move → Bool
is_made_room (move.Unmap place) next = maps_into place.pid.0 next
is_made_room _ next = false

abbrev pub pending_class : FrameLife → MarksOf → Option Move → Move → Pending
pending_class l v before m =
    record {
      m = m;
      alone = class_of l v before m None;
      making_room = class_of l v before m (next_there m);
    }

abbrev pub classed : Pending → Option Move → Classed
classed p next =
    record { m = p.m; class = if is_made_room p.m next then p.making_room else p.alone }

abbrev pub class_then : Option Pending → Option Move → Option Classed
class_then p next = option_map (λ x. classed x next) p

abbrev pub move_of : Option Pending → Option Move
move_of p = option_map (λ x. x.m) p

abbrev pub class_list : Option Classed → List (Option Class)
class_list None = []
class_list (Some c) = c.class ∷ []

-- the classes that are still to come
abbrev pub classes_rest : MarksOf → Option Pending → FrameLife → List Move → List (Option Class)
classes_rest v p l ms = class_list (class_then p (next_of ms)) ++ classes_from l v (move_of p) ms
