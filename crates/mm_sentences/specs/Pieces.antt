-- A sentence as its words and names, one after another.
use Rattle.std.specs.Prelude.{Bool, [], ◌++◌}
use Rattle.mm_types.specs.{Text}
use Rattle.mm_move_rules.specs.{FrameLife}
use Rattle.mm_sentences.specs.declared.facts.Facts.{Facts}
use Rattle.mm_sentences.specs.declared.sentences.Name.{Name}
use Rattle.mm_sentences.specs.declared.sentences.Name.TheVariants as name
use Rattle.mm_sentences.specs.declared.sentences.Piece.{Piece}
use Rattle.mm_sentences.specs.Sentences.{page_text, frame_text, at_text, process_text, home_text}
use Rattle.mm_sentences.specs.Sentences.{goes_text, block_text, freed_text, unslot_text}

abbrev pub name_text : Bool → Facts → FrameLife → Name → Text
name_text addressed x after name.Page = page_text x.key
name_text addressed x after name.Frame = frame_text x.frame
name_text addressed x after name.Place = at_text addressed x.place
name_text addressed x after name.Process = process_text x.place
name_text addressed x after name.Block = block_text x.block
name_text addressed x after name.Home = home_text x.home
name_text addressed x after name.Freed = freed_text x.frame x.slot
name_text addressed x after name.Unslot = unslot_text x.slot
name_text addressed x after name.Goes = goes_text after x.place x.frame
name_text addressed x after name.End = []

abbrev pub piece_text : Bool → Facts → FrameLife → Piece → Text
piece_text addressed x after p = p.0.now ++ name_text addressed x after p.1
