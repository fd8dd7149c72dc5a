use Rattle.std.proofs.Common.{sym, ◌∙◌}
use Rattle.mm_script.specs.declared.keywords.Keyword.TheVariants as keyword
use Rattle.mm_script.proofs.{found_word, found_sorted}
use Rattle.mm_script.proofs.keywords.Keyword.of.Goals as goal

pub returns-then-is_read : goal.returns-then-is_read
returns-then-is_read c = found_word c.args.word.now keyword.Read (sym c.is_read.ensures ∙ c.if-is_read.true)

pub returns-then-is_write : goal.returns-then-is_write
returns-then-is_write c = found_word c.args.word.now keyword.Write (sym c.is_write.ensures ∙ c.if-is_write.true)

pub returns : goal.returns
returns c = found_sorted c.args.word.now c.by_length.result c.by_length.ensures
