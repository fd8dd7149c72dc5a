use Rattle.std.proofs.Common.{◌∙◌, sym, ap, is_some, set}
use Rattle.mm_world.specs.{region_around, reserved_row, change_rows}
use Rattle.mm_object_tables.proofs.{frees, Held, held_by, decommit_end, decommit_can, decommitted, decommit_among, freed_charged, freed_kept, freed_settled}
use Rattle.mm_object_tables.proofs.{freed_named, lives_there}
use Rattle.mm_object_tables.proofs.tables.Tables.decommit.Given as given
use Rattle.mm_object_tables.proofs.tables.Tables.decommit.Goals as goal
use Rattle.mm_object_tables.proofs.tables.Tables.decommit.Goals.{After-space_of-space}

held : (g : given.Over) (c : After-space_of-space g) → Held c.self.inside c.args.self.now c.args.pid.0 c.index_mut.result.now c.space_of-space.result.now.regions
held g c = held_by c.self.inside c.args.self.now c.self.view_is c.self.invariant c.args.pid.0 c.index_mut.result.now c.requires.ready.lives c.index_mut.ensures.value c.space_of-space.ensures.value

pub space_of-space-requires : goal.space_of-space-requires
space_of-space-requires g c = record { lives = lives_there c.self.inside c.args.self.now c.self.view_is c.args.pid.0 c.index_mut.result.now c.requires.ready.lives c.index_mut.ensures.value }

pub release_pages-owned-requires : goal.release_pages-owned-requires
release_pages-owned-requires g c =
    let h = held g (goal.at.release_pages-owned-requires g c).After-space_of-space in
    record {
      end = decommit_end c.args.pid h c.args.range c.requires.inside c.requires.private c.requires.ready.fits;
      around = ap (λ rs. is_some (region_around rs c.args.range)) h.same ∙ c.requires.inside h.process h.lives;
      can = decommit_can c.args.pid h c.args.range c.requires.inside c.requires.private c.requires.ready.fits c.requires.ready.kind_is;
    }

pub decommit-requires : goal.decommit-requires
decommit-requires g c =
    let h = held g (goal.at.decommit-requires g c).After-space_of-space in
    record {
      inside = ap (λ rs. is_some (region_around rs c.args.range)) h.same ∙ c.requires.inside h.process h.lives;
      private = λ r found. c.requires.private h.process r h.lives (ap (λ rs. region_around rs c.args.range) (sym h.same) ∙ found);
    }

pub refund-requires : goal.refund-requires
refund-requires g c =
    let h = held g (goal.at.refund-requires g c).After-space_of-space in
    let f = decommitted c.args.pid h c.args.range c.requires.inside c.requires.private c.requires.ready.fits {space = c.decommit.new.self}
    c.release_pages-owned.ensures.owned c.decommit.ensures.changed c.release_pages-owned.ensures.gives_up.given_up in
    freed_charged c.args.pid h f

pub invariant_of-self : goal.invariant_of-self
invariant_of-self g c =
    let h = held g (goal.at.invariant_of-self g c).After-space_of-space in
    let f = decommitted c.args.pid h c.args.range c.requires.inside c.requires.private c.requires.ready.fits {space = c.decommit.new.self}
    c.release_pages-owned.ensures.owned c.decommit.ensures.changed c.release_pages-owned.ensures.gives_up.given_up in
    freed_kept c.args.pid h f c.refund.new.self c.refund.ensures

pub returns : goal.returns
returns g c =
    let h = held g (goal.at.returns g c).After-space_of-space in
    let f = decommitted c.args.pid h c.args.range c.requires.inside c.requires.private c.requires.ready.fits {space = c.decommit.new.self}
    c.release_pages-owned.ensures.owned c.decommit.ensures.changed c.release_pages-owned.ensures.gives_up.given_up in
    record {
      changed = freed_named h c.decommit.new.self (λ rs. region_around rs c.args.range) (λ rs r. set rs r.place (change_rows (λ row. reserved_row) c.args.range r.thing)) c.decommit.ensures.changed;
      frees = frees g.G.PageStore (freed_settled c.args.pid h f) (decommit_among c.args.pid h c.args.range c.requires.inside c.requires.private c.requires.ready.fits f c.release_pages-owned.ensures.gives_up.given_up) c.release_pages-owned.ensures.gives_up;
    }
