use Rattle.std.proofs.Common.{inl}
use Rattle.std.specs.Prelude.{remove}
use Rattle.mm_world.specs.{private_at}
use Rattle.mm_object_tables.proofs.{frees, given_less, Held, held_by, release_end, release_inside, release_can, release_freed, release_among, freed_charged}
use Rattle.mm_object_tables.proofs.{freed_kept, freed_settled, freed_named, lives_there, release_there}
use Rattle.mm_object_tables.proofs.tables.Tables.release_region.Given as given
use Rattle.mm_object_tables.proofs.tables.Tables.release_region.Goals as goal
use Rattle.mm_object_tables.proofs.tables.Tables.release_region.Goals.{After-space_of-space}

held : (g : given.Over) (c : After-space_of-space g) → Held c.self.inside c.args.self.now c.args.pid.0 c.index_mut.result.now c.space_of-space.result.now.regions
held g c = held_by c.self.inside c.args.self.now c.self.view_is c.self.invariant c.args.pid.0 c.index_mut.result.now c.requires.ready.lives c.index_mut.ensures.value c.space_of-space.ensures.value

pub space_of-space-requires : goal.space_of-space-requires
space_of-space-requires g c = record { lives = lives_there c.self.inside c.args.self.now c.self.view_is c.args.pid.0 c.index_mut.result.now c.requires.ready.lives c.index_mut.ensures.value }

pub release_pages-freed-requires : goal.release_pages-freed-requires
release_pages-freed-requires g c =
    let h = held g (goal.at.release_pages-freed-requires g c).After-space_of-space in
    record {
      end = release_end c.args.pid h c.args.addr c.args.range c.requires.there c.requires.ready.fits;
      around = release_inside c.args.pid h c.args.addr c.args.range c.requires.there c.requires.ready.fits;
      can = release_can c.args.pid h c.args.addr c.args.range c.requires.there c.requires.ready.fits c.requires.ready.kind_is;
    }

pub remove-requires : goal.remove-requires
remove-requires g c =
    let h = held g (goal.at.remove-requires g c).After-space_of-space in
    record { there = inl (release_there c.args.pid h c.args.addr c.args.range c.requires.there c.requires.ready.fits) }

pub refund-requires : goal.refund-requires
refund-requires g c =
    let h = held g (goal.at.refund-requires g c).After-space_of-space in
    let f = release_freed c.args.pid h c.args.addr c.args.range c.requires.there c.requires.ready.fits {space = c.remove.new.self}
    c.release_pages-freed.ensures.owned c.remove.ensures.private c.release_pages-freed.ensures.gives_up.given_up in
    freed_charged c.args.pid h f

pub invariant_of-self : goal.invariant_of-self
invariant_of-self g c =
    let h = held g (goal.at.invariant_of-self g c).After-space_of-space in
    let f = release_freed c.args.pid h c.args.addr c.args.range c.requires.there c.requires.ready.fits {space = c.remove.new.self}
    c.release_pages-freed.ensures.owned c.remove.ensures.private c.release_pages-freed.ensures.gives_up.given_up in
    freed_kept c.args.pid h f c.refund.new.self c.refund.ensures

pub returns : goal.returns
returns g c =
    let h = held g (goal.at.returns g c).After-space_of-space in
    let f = release_freed c.args.pid h c.args.addr c.args.range c.requires.there c.requires.ready.fits {space = c.remove.new.self}
    c.release_pages-freed.ensures.owned c.remove.ensures.private c.release_pages-freed.ensures.gives_up.given_up in
    record {
      changed = freed_named h c.remove.new.self (λ rs. private_at rs c.args.addr) (λ rs r. remove rs r.place) c.remove.ensures.private;
      less = given_less c.release_pages-freed.ensures.gives_up.given_up;
      frees = frees g.G.PageStore (freed_settled c.args.pid h f) (release_among c.args.pid h c.args.addr c.args.range c.requires.there c.requires.ready.fits f c.release_pages-freed.ensures.gives_up.given_up) c.release_pages-freed.ensures.gives_up;
    }
