use Rattle.std.proofs.Common.{◌&&◌, ap, is_some, ◌∙◌}
use Rattle.std.specs.Prelude.{map, option_map}
use Rattle.mm_types.specs.{address_of, lies_within}
use Rattle.mm_world.specs.{pages_of, watched_around, written_in, unwritten}
use Rattle.mm_world.proofs.{length-unwritten}
use Rattle.mm_object_tables.proofs.{flagged, none_found, either_kept, either_fit, Held, held_by, regions_by, lives_there}
use Rattle.mm_object_tables.proofs.tables.Tables.take_written.Goals as goal
use Rattle.mm_object_tables.proofs.tables.Tables.take_written.Goals.{After-space_of}

held : (c : After-space_of) → Held c.self.inside c.args.self.now c.args.pid.0 c.index_mut.result.now c.space_of.result.now.regions
held c = held_by c.self.inside c.args.self.now c.self.view_is c.self.invariant c.args.pid.0 c.index_mut.result.now c.requires.lives c.index_mut.ensures.value c.space_of.ensures.value

pub space_of-requires : goal.space_of-requires
space_of-requires c = record { lives = lives_there c.self.inside c.args.self.now c.self.view_is c.args.pid.0 c.index_mut.result.now c.requires.lives c.index_mut.ensures.value }

pub invariant_of-self : goal.invariant_of-self
invariant_of-self c =
    either_kept {q = c.args.pid} (held (goal.at.invariant_of-self c).After-space_of) c.take_written.new.self (λ r. is_some r.watched && lies_within c.args.range (pages_of r))
    (λ r. unwritten r.base (written_in r c.args.range c.args.count)) (λ r. length-unwritten r.base (written_in r c.args.range c.args.count)) c.take_written.ensures.changed c.take_written.ensures.none

pub returns-clause-found : goal.returns-clause-found
returns-clause-found c p lives =
    c.take_written.ensures.found ∙ ap (λ rs. option_map (λ r. map address_of (written_in r.thing c.args.range c.args.count)) (watched_around rs c.args.range)) (regions_by (held (goal.at.returns-clause-found c).After-space_of) p lives)

pub returns-clause-taken : goal.returns-clause-taken
returns-clause-taken c p r lives found =
    flagged {q = c.args.pid} (held (goal.at.returns-clause-taken c).After-space_of) c.take_written.new.self (λ r. is_some r.watched && lies_within c.args.range (pages_of r))
    (λ r. unwritten r.base (written_in r c.args.range c.args.count)) (λ r. length-unwritten r.base (written_in r c.args.range c.args.count)) c.take_written.ensures.changed p r lives found

pub returns-clause-none : goal.returns-clause-none
returns-clause-none c p lives none =
    none_found {q = c.args.pid} (held (goal.at.returns-clause-none c).After-space_of) c.take_written.new.self (λ r. is_some r.watched && lies_within c.args.range (pages_of r))
    (λ r. unwritten r.base (written_in r c.args.range c.args.count)) (λ r. length-unwritten r.base (written_in r c.args.range c.args.count)) c.take_written.ensures.changed c.take_written.ensures.none p lives none

pub returns-clause-fits : goal.returns-clause-fits
returns-clause-fits c contents s f =
    either_fit {q = c.args.pid} (held (goal.at.returns-clause-fits c).After-space_of) c.take_written.new.self (λ r. is_some r.watched && lies_within c.args.range (pages_of r))
    (λ r. unwritten r.base (written_in r c.args.range c.args.count)) (λ r. length-unwritten r.base (written_in r c.args.range c.args.count)) c.take_written.ensures.changed c.take_written.ensures.none contents s f
