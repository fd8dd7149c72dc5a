-- The texts that a page is made with, but for what the log and the script give.
-- Profile, "What a log shows".
use Rattle.mm_types.specs.{Text}
use Rattle.mm_show.specs.Showing.{PageOf}
use Rattle.mm_show.specs.declared.pages.Named.{Named}
use Rattle.mm_show.specs.declared.pages.PageTexts.{PageTexts}

abbrev pub whole_page : PageTexts → Text → Text → PageOf
whole_page p name observations = record {
  up_to_classes = p.up_to_classes.now;
  up_to_moves = p.up_to_moves.now;
  up_to_script = p.up_to_script.now;
  up_to_answers = p.up_to_answers.now;
  up_to_name = p.up_to_name.now;
  up_to_observations = p.up_to_observations.now;
  up_to_end = p.up_to_end.now;
  name = name;
  observations = observations;
}

-- of what was read
abbrev pub page_read : PageTexts → Named → PageOf
page_read p named = whole_page p named.name.now named.observations.now
