-- The page that is still to come.
-- Profile, "What a log shows".
use Rattle.std.specs.Prelude.{Bool, true, false, List, [], ◌++◌}
use Rattle.mm_types.specs.{Text, Move}
use Rattle.mm_move_rules.specs.{FrameLife}
use Rattle.mm_move_classes.specs.{marks_of}
use Rattle.mm_show.specs.Data.{data_rest}
use Rattle.mm_show.specs.declared.data.PageTeller.{PageTeller}

-- nothing where the log does not end well
abbrev pub page_rest : PageTeller → Bool → FrameLife → List Move → Text
page_rest t true l ms =
    t.front.items ++ (t.written.items
    ++ (data_rest (marks_of t.classifier.marks) t.classifier.pending l ms ++ t.behind.items))
page_rest t false l ms = []
