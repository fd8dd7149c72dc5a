use Rattle.std.proofs.Common.{Some, ◌∙◌, sym, ap, subst, is_some}
use Rattle.mm_world.specs.{Tables, same_key, region_with, committed_at, private_key}
use Rattle.mm_world.proofs.{committed_is}
use Rattle.mm_store.specs.{place_at}
use Rattle.mm_move_rules.specs.{changed}
use Rattle.mm_object_tables.specs.{FitsTables, CanCopy, copied}
use Rattle.mm_object_tables.proofs.{copy_stands, copy_charge, copy_moved, copy_marked, some_with, row_changed, row_kept, Held, held_by, lives_there}
use Rattle.mm_object_tables.proofs.tables.Tables.copy_page.Goals as goal
use Rattle.mm_object_tables.proofs.tables.Tables.copy_page.Goals.{After-space_of}

held : (c : After-space_of) → Held c.self.inside c.args.self.now c.args.pid.0 c.index_mut.result.now c.space_of.result.now.regions
held c = held_by c.self.inside c.args.self.now c.self.view_is c.self.invariant c.args.pid.0 c.index_mut.result.now c.requires.lives c.index_mut.ensures.value c.space_of.ensures.value

pub space_of-requires : goal.space_of-requires
space_of-requires c = record { lives = lives_there c.self.inside c.args.self.now c.self.view_is c.args.pid.0 c.index_mut.result.now c.requires.lives c.index_mut.ensures.value }

pub copy_page-requires : goal.copy_page-requires
copy_page-requires c =
    let h = held (goal.at.copy_page-requires c).After-space_of in
    let k = some_with (committed_at c.args.self.now h.process.regions c.args.page) (λ c. CanCopy c) (c.requires.marked h.process h.lives) in
    let there = ap (λ rs. region_with rs c.args.page) h.same ∙ (committed_is c.args.self.now h.process.regions c.args.page k.0 k.1.0).region in
    record {
      there = ap is_some there;
      marked = λ r row found at.
          copy_marked c.args.self.now c.args.pid h.process c.args.page k.0 h.lives k.1.0 h.kept.sound k.1.1 r row (ap (λ rs. region_with rs c.args.page) (sym h.same) ∙ found) at;
    }

pub invariant_of-self : goal.invariant_of-self
invariant_of-self c =
    let h = held (goal.at.invariant_of-self c).After-space_of in
    let k = some_with (committed_at c.args.self.now h.process.regions c.args.page) (λ c. CanCopy c) (c.requires.marked h.process h.lives) in
    row_kept h c.copy_page.new.self c.args.page (λ row. record row { own = Some tt; prot = 0x04 }) c.copy_page.ensures.changed k.0 k.1.0
    (copy_stands c.args.self.now c.args.pid h.process c.args.page k.0 h.lives k.1.0 h.kept.sound k.1.1) (copy_charge c.args.self.now c.args.pid h.process c.args.page k.0 h.lives k.1.0 h.kept.sound k.1.1)

pub returns-clause-copied : goal.returns-clause-copied
returns-clause-copied c p k lives there =
    row_changed (held (goal.at.returns-clause-copied c).After-space_of) c.copy_page.new.self c.args.page (λ row. record row { own = Some tt; prot = 0x04 }) c.copy_page.ensures.changed p k lives there

pub returns-clause-fits : goal.returns-clause-fits
returns-clause-fits c contents s bytes f =
    let h = held (goal.at.returns-clause-fits c).After-space_of in
    let k = some_with (committed_at c.args.self.now h.process.regions c.args.page) (λ c. CanCopy c) (c.requires.marked h.process h.lives) in
    subst (λ (t : Tables). FitsTables t (changed same_key contents (private_key c.args.pid.0 c.args.page) (Some bytes)) (copied (place_at c.args.pid c.args.page) s))
    (sym (row_changed h c.copy_page.new.self c.args.page (λ row. record row { own = Some tt; prot = 0x04 }) c.copy_page.ensures.changed h.process k.0 h.lives k.1.0))
    (copy_moved c.args.self.now c.args.pid h.process c.args.page k.0 h.lives k.1.0 h.kept.sound k.1.1 contents s bytes f)
