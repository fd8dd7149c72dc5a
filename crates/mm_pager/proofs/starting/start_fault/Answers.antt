use Rattle.mm_pager.proofs.starting.start_fault.Goals as goal

pub returns-in_default : goal.returns-in_default
returns-in_default g c = record { begun = c.start_stored.ensures.begun c.args.place c.requires.free; loans = c.start_stored.ensures.loans }
