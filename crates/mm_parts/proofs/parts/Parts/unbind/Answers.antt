use Rattle.mm_page_tables.specs.{place_from, pages}
use Rattle.mm_parts.specs.{joined_parts}
use Rattle.mm_parts.proofs.{unbind_step, givable, invalid_entry, no_place, words_step}
use Rattle.mm_parts.proofs.parts.Parts.unbind.Goals as goal

pub unbind-requires-clause-invalid : goal.unbind-requires-clause-invalid
unbind-requires-clause-invalid c = λ v low high. invalid_entry ((joined_parts c.args.self.now).words.at (place_from c.args.pid (record { 0 = v }))) (c.requires.invalid v low high)

pub unbind-requires-clause-none : goal.unbind-requires-clause-none
unbind-requires-clause-none c = no_place (joined_parts c.args.self.now).words.aside c.requires.alone

pub invariant_of-self : goal.invariant_of-self
invariant_of-self c = record { kept = (words_step (joined_parts c.args.self.now) (unbind_step (joined_parts c.args.self.now) c.args.self.now.kept c.args.pid.0 (pages c.args.first.0 c.args.n) (givable (joined_parts c.args.self.now) c.args.pid c.args.first.0 c.args.n c.requires.dead c.requires.invalid c.requires.alone)) c.unbind.ensures.words c.unbind.ensures.ages).kept }

pub returns : goal.returns
returns c = record { made = (words_step (joined_parts c.args.self.now) (unbind_step (joined_parts c.args.self.now) c.args.self.now.kept c.args.pid.0 (pages c.args.first.0 c.args.n) (givable (joined_parts c.args.self.now) c.args.pid c.args.first.0 c.args.n c.requires.dead c.requires.invalid c.requires.alone)) c.unbind.ensures.words c.unbind.ensures.ages).shown }
