use Rattle.std.proofs.Common.{false, ◌∙◌, sym, ap, subst, is_some}
use Rattle.mm_types.proofs.{some_found}
use Rattle.mm_world.specs.{Tables, region_with, committed_at}
use Rattle.mm_world.proofs.{committed_is}
use Rattle.mm_object_tables.specs.{FitsTables}
use Rattle.mm_object_tables.proofs.{guard_stands, guard_charge, guard_moved, row_changed, row_kept, Held, held_by, lives_there}
use Rattle.mm_object_tables.proofs.tables.Tables.take_guard_off.Goals as goal
use Rattle.mm_object_tables.proofs.tables.Tables.take_guard_off.Goals.{After-space_of}

held : (c : After-space_of) → Held c.self.inside c.args.self.now c.args.pid.0 c.index_mut.result.now c.space_of.result.now.regions
held c = held_by c.self.inside c.args.self.now c.self.view_is c.self.invariant c.args.pid.0 c.index_mut.result.now c.requires.lives c.index_mut.ensures.value c.space_of.ensures.value

pub space_of-requires : goal.space_of-requires
space_of-requires c = record { lives = lives_there c.self.inside c.args.self.now c.self.view_is c.args.pid.0 c.index_mut.result.now c.requires.lives c.index_mut.ensures.value }

pub take_guard_off-requires : goal.take_guard_off-requires
take_guard_off-requires c =
    let h = held (goal.at.take_guard_off-requires c).After-space_of in
    let k = some_found (committed_at c.args.self.now h.process.regions c.args.page) (c.requires.committed h.process h.lives) in
    let found = ap (λ rs. region_with rs c.args.page) h.same ∙ (committed_is c.args.self.now h.process.regions c.args.page k.0 k.1).region in
    record { there = ap is_some found }

pub invariant_of-self : goal.invariant_of-self
invariant_of-self c =
    let h = held (goal.at.invariant_of-self c).After-space_of in
    let k = some_found (committed_at c.args.self.now h.process.regions c.args.page) (c.requires.committed h.process h.lives) in
    row_kept h c.take_guard_off.new.self c.args.page (λ row. record row { guard = false }) c.take_guard_off.ensures.changed k.0 k.1
    (guard_stands c.args.self.now c.args.pid h.process c.args.page k.0 h.lives k.1 h.kept.sound) (guard_charge c.args.self.now c.args.pid h.process c.args.page k.0 h.lives k.1 h.kept.sound)

pub returns-clause-off : goal.returns-clause-off
returns-clause-off c p k lives there =
    row_changed (held (goal.at.returns-clause-off c).After-space_of) c.take_guard_off.new.self c.args.page (λ row. record row { guard = false }) c.take_guard_off.ensures.changed p k lives there

pub returns-clause-fits : goal.returns-clause-fits
returns-clause-fits c contents s f =
    let h = held (goal.at.returns-clause-fits c).After-space_of in
    let k = some_found (committed_at c.args.self.now h.process.regions c.args.page) (c.requires.committed h.process h.lives) in
    subst (λ (t : Tables). FitsTables t contents s) (sym (row_changed h c.take_guard_off.new.self c.args.page (λ row. record row { guard = false }) c.take_guard_off.ensures.changed h.process k.0 h.lives k.1))
    (guard_moved c.args.self.now c.args.pid h.process c.args.page k.0 h.lives k.1 h.kept.sound contents s f)
