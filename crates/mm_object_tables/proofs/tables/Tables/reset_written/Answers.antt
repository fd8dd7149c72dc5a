use Rattle.std.proofs.Common.{◌&&◌, ◌-◌, false, ap, is_some, ◌∙◌}
use Rattle.mm_types.specs.{lies_within}
use Rattle.mm_world.specs.{pages_of, change_range, watched_around}
use Rattle.mm_world.proofs.{length-change_range}
use Rattle.mm_object_tables.proofs.{flagged, none_found, either_kept, either_fit, Held, held_by, regions_by, lives_there}
use Rattle.mm_object_tables.proofs.tables.Tables.reset_written.Goals as goal
use Rattle.mm_object_tables.proofs.tables.Tables.reset_written.Goals.{After-space_of}

held : (c : After-space_of) → Held c.self.inside c.args.self.now c.args.pid.0 c.index_mut.result.now c.space_of.result.now.regions
held c = held_by c.self.inside c.args.self.now c.self.view_is c.self.invariant c.args.pid.0 c.index_mut.result.now c.requires.lives c.index_mut.ensures.value c.space_of.ensures.value

pub space_of-requires : goal.space_of-requires
space_of-requires c = record { lives = lives_there c.self.inside c.args.self.now c.self.view_is c.args.pid.0 c.index_mut.result.now c.requires.lives c.index_mut.ensures.value }

pub invariant_of-self : goal.invariant_of-self
invariant_of-self c =
    either_kept {q = c.args.pid} (held (goal.at.invariant_of-self c).After-space_of) c.reset_written.new.self (λ r. is_some r.watched && lies_within c.args.range (pages_of r))
    (λ r. change_range (λ was. false) (c.args.range.first - r.base) c.args.range.count) (λ r. length-change_range (λ was. false) (c.args.range.first - r.base) c.args.range.count) c.reset_written.ensures.changed c.reset_written.ensures.none

pub returns-clause-found : goal.returns-clause-found
returns-clause-found c p lives =
    c.reset_written.ensures.found ∙ ap (λ rs. is_some (watched_around rs c.args.range)) (regions_by (held (goal.at.returns-clause-found c).After-space_of) p lives)

pub returns-clause-reset : goal.returns-clause-reset
returns-clause-reset c p r lives found =
    flagged {q = c.args.pid} (held (goal.at.returns-clause-reset c).After-space_of) c.reset_written.new.self (λ r. is_some r.watched && lies_within c.args.range (pages_of r))
    (λ r. change_range (λ was. false) (c.args.range.first - r.base) c.args.range.count) (λ r. length-change_range (λ was. false) (c.args.range.first - r.base) c.args.range.count) c.reset_written.ensures.changed p r lives found

pub returns-clause-none : goal.returns-clause-none
returns-clause-none c p lives none =
    none_found {q = c.args.pid} (held (goal.at.returns-clause-none c).After-space_of) c.reset_written.new.self (λ r. is_some r.watched && lies_within c.args.range (pages_of r))
    (λ r. change_range (λ was. false) (c.args.range.first - r.base) c.args.range.count) (λ r. length-change_range (λ was. false) (c.args.range.first - r.base) c.args.range.count) c.reset_written.ensures.changed c.reset_written.ensures.none p lives none

pub returns-clause-fits : goal.returns-clause-fits
returns-clause-fits c contents s f =
    either_fit {q = c.args.pid} (held (goal.at.returns-clause-fits c).After-space_of) c.reset_written.new.self (λ r. is_some r.watched && lies_within c.args.range (pages_of r))
    (λ r. change_range (λ was. false) (c.args.range.first - r.base) c.args.range.count) (λ r. length-change_range (λ was. false) (c.args.range.first - r.base) c.args.range.count) c.reset_written.ensures.changed c.reset_written.ensures.none contents s f
