use Rattle.mm_script.proofs.{put}
use Rattle.mm_script.proofs.reading.parse_into.Goals as goal

pub returns-clause-ok : goal.returns-clause-ok
returns-clause-ok c = (put c.args.line.now c.put_event.result c.args.event.now c.put_event.new.event c.put_event.ensures).ok

pub returns-clause-well_formed : goal.returns-clause-well_formed
returns-clause-well_formed c = (put c.args.line.now c.put_event.result c.args.event.now c.put_event.new.event c.put_event.ensures).fits

pub returns-clause-only : goal.returns-clause-only
returns-clause-only c = (put c.args.line.now c.put_event.result c.args.event.now c.put_event.new.event c.put_event.ensures).only

pub returns-clause-fault : goal.returns-clause-fault
returns-clause-fault c = (put c.args.line.now c.put_event.result c.args.event.now c.put_event.new.event c.put_event.ensures).fault

pub returns-clause-none : goal.returns-clause-none
returns-clause-none c = (put c.args.line.now c.put_event.result c.args.event.now c.put_event.new.event c.put_event.ensures).none

pub returns-clause-same : goal.returns-clause-same
returns-clause-same c = (put c.args.line.now c.put_event.result c.args.event.now c.put_event.new.event c.put_event.ensures).same
