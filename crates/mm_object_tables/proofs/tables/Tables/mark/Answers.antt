use Rattle.std.proofs.Common.{◌-◌, true, ◌∙◌, ap, is_some}
use Rattle.mm_types.proofs.{some_found}
use Rattle.mm_types.specs.{holds_page}
use Rattle.mm_world.specs.{pages_of, change_range, region_with, committed_at}
use Rattle.mm_world.proofs.{committed_is, length-change_range}
use Rattle.mm_object_tables.proofs.{flagged, flags_kept, flags_fit, Held, held_by, lives_there}
use Rattle.mm_object_tables.proofs.tables.Tables.mark.Goals as goal
use Rattle.mm_object_tables.proofs.tables.Tables.mark.Goals.{After-space_of}

held : (c : After-space_of) → Held c.self.inside c.args.self.now c.args.pid.0 c.index_mut.result.now c.space_of.result.now.regions
held c = held_by c.self.inside c.args.self.now c.self.view_is c.self.invariant c.args.pid.0 c.index_mut.result.now c.requires.lives c.index_mut.ensures.value c.space_of.ensures.value

pub space_of-requires : goal.space_of-requires
space_of-requires c = record { lives = lives_there c.self.inside c.args.self.now c.self.view_is c.args.pid.0 c.index_mut.result.now c.requires.lives c.index_mut.ensures.value }

pub mark-requires : goal.mark-requires
mark-requires c =
    let h = held (goal.at.mark-requires c).After-space_of in
    let k = some_found (committed_at c.args.self.now h.process.regions c.args.page) (c.requires.committed h.process h.lives) in
    let found = ap (λ rs. region_with rs c.args.page) h.same ∙ (committed_is c.args.self.now h.process.regions c.args.page k.0 k.1).region in
    record { there = ap is_some found }

pub invariant_of-self : goal.invariant_of-self
invariant_of-self c =
    let h = held (goal.at.invariant_of-self c).After-space_of in
    let k = some_found (committed_at c.args.self.now h.process.regions c.args.page) (c.requires.committed h.process h.lives) in
    flags_kept {q = c.args.pid} h c.mark.new.self (λ r. holds_page (pages_of r) c.args.page) (λ r. change_range (λ was. true) (c.args.page - r.base) 1)
    (λ r. length-change_range (λ was. true) (c.args.page - r.base) 1) c.mark.ensures.changed k.0.region (committed_is c.args.self.now h.process.regions c.args.page k.0 k.1).region

pub returns-clause-marked : goal.returns-clause-marked
returns-clause-marked c p k lives there =
    flagged {q = c.args.pid} (held (goal.at.returns-clause-marked c).After-space_of) c.mark.new.self (λ r. holds_page (pages_of r) c.args.page) (λ r. change_range (λ was. true) (c.args.page - r.base) 1)
    (λ r. length-change_range (λ was. true) (c.args.page - r.base) 1) c.mark.ensures.changed p k.region lives (committed_is c.args.self.now p.regions c.args.page k there).region

pub returns-clause-fits : goal.returns-clause-fits
returns-clause-fits c contents s f =
    let h = held (goal.at.returns-clause-fits c).After-space_of in
    let k = some_found (committed_at c.args.self.now h.process.regions c.args.page) (c.requires.committed h.process h.lives) in
    flags_fit {q = c.args.pid} h c.mark.new.self (λ r. holds_page (pages_of r) c.args.page) (λ r. change_range (λ was. true) (c.args.page - r.base) 1)
    (λ r. length-change_range (λ was. true) (c.args.page - r.base) 1) c.mark.ensures.changed k.0.region (committed_is c.args.self.now h.process.regions c.args.page k.0 k.1).region contents s f
