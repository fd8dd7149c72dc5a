use Rattle.std.proofs.Common.{◌+◌, ◌^◌, ◌∙◌, sym, ap, subst, arith, not}
use Rattle.std.specs.Prelude.{nat_le}
use Rattle.std.specs.List.{list_any}
use Rattle.std.proofs.lemmas.Bool.{leb-true}
use Rattle.mm_types.proofs.{parts, on_err}
use Rattle.mm_types.specs.{Range, are_user_pages, first_user_page, end_of, end_of_user_pages, meets, limit_of}
use Rattle.mm_world.specs.{private_region, blank, ranges_of, add_region}
use Rattle.mm_commit_charge.specs.{CommitOf}
use Rattle.mm_object_tables.specs.{CanMake, IsNewRange, StandsFrom}
use Rattle.mm_object_tables.proofs.{out_of_memory, settled_as, reserve_done, can_make, Held, held_by, regions_by, still_kept, kept_same, makes_as}
use Rattle.mm_object_tables.proofs.{lives_there}
use Rattle.mm_object_tables.proofs.Keeping.{same_tables}
use Rattle.mm_object_tables.proofs.tables.Tables.reserve.Given as given
use Rattle.mm_object_tables.proofs.tables.Tables.reserve.Goals as goal
use Rattle.mm_object_tables.proofs.tables.Tables.reserve.Goals.{After-space_of-space}

held : (g : given.Over) (c : After-space_of-space g) → Held c.self.inside c.args.self.now c.args.pid.0 c.index_mut.result.now c.space_of-space.result.now.regions
held g c = held_by c.self.inside c.args.self.now c.self.view_is c.self.invariant c.args.pid.0 c.index_mut.result.now c.requires.ready.lives c.index_mut.ensures.value c.space_of-space.ensures.value

pub space_of-space-requires : goal.space_of-space-requires
space_of-space-requires g c = record { lives = lives_there c.self.inside c.args.self.now c.self.view_is c.args.pid.0 c.index_mut.result.now c.requires.ready.lives c.index_mut.ensures.value }

pub make_region-requires : goal.make_region-requires
make_region-requires g c =
    let h = held g (goal.at.make_region-requires g c).After-space_of-space in
    let total = c.now.result + c.new_pages-pages.result in
    let new = c.requires.new h.process h.lives in
    record {
      new = subst (λ rs. IsNewRange rs c.args.range) (sym h.same) new;
      prot = c.requires.prot;
      can = subst (λ rs. CanMake c.args.pid c.args.range c.args.kind total rs (g.G.PageStore.contents c.args.g.now) (g.G.PageStore.store c.args.g.now)) (sym h.same)
          (can_make c.args.self.now c.args.pid h.process _ _ h.lives h.kept.sound c.requires.ready.fits c.args.range c.args.kind total new.free
          (omega (arith, c.now.ensures.charge, h.kept.charged, c.new_pages-pages.ensures))
          (omega (arith, c.now.ensures.charge, h.kept.charged, c.new_pages-pages.ensures, ap limit_of c.requires.ready.fits.machine, c.requires.room)) c.requires.ready.kind_is);
    }

pub invariant_of-self : goal.invariant_of-self
invariant_of-self g c = kept_same (held g (goal.at.invariant_of-self g c).After-space_of-space) c.make_region.new.space c.in_err-make_region.ensures.kept

pub returns-in_err-make_region-clause-settles : goal.returns-in_err-make_region-clause-settles
returns-in_err-make_region-clause-settles g c =
    out_of_memory g.G.PageStore c.from_residual.result c.requires.ready.fits (same_tables (held g (goal.at.returns-in_err-make_region-clause-settles g c).After-space_of-space) c.make_region.new.space c.in_err-make_region.ensures.kept) c.in_err-make_region.ensures.err

pub invariant_of-self-2 : goal.invariant_of-self-2
invariant_of-self-2 g c =
    let h = held g (goal.at.invariant_of-self-2 g c).After-space_of-space in
    let done = reserve_done c.args.self.now c.args.pid h.process c.args.range _ _ _ _ h.lives h.kept.sound c.requires.ready.fits c.args.watched c.args.kind c.args.prot (c.requires.new h.process h.lives).free (c.requires.new h.process h.lives).granule (c.requires.new h.process h.lives).some c.requires.prot
    c.in_ok-make_region.ensures.adds.stored c.in_ok-make_region.ensures.adds.counted (omega (arith, c.now.ensures.charge, h.kept.charged, c.new_pages-pages.ensures, c.in_ok-make_region.ensures.adds.room)) in
    let became = c.in_ok-make_region.ensures.changed ∙ ap (add_region (private_region blank c.args.watched c.args.kind c.args.prot c.args.range)) h.same in
    still_kept h c.make_region.new.space _ c.take.new.commit _ became done.stands done.charged c.requires.room
    (omega (arith, ap (λ (k : CommitOf). k.charge) c.take.ensures, h.kept.charged, c.new_pages-pages.ensures)) (ap (λ (k : CommitOf). k.limit) c.take.ensures)

pub returns-clause-ok : goal.returns-clause-ok
returns-clause-ok g c q lives =
    let h = held g (goal.at.returns-clause-ok g c).After-space_of-space in
    h.changed c.make_region.new.space q (add_region (private_region blank c.args.watched c.args.kind c.args.prot c.args.range) q.regions)
    (c.in_ok-make_region.ensures.changed ∙ ap (add_region (private_region blank c.args.watched c.args.kind c.args.prot c.args.range)) (regions_by h q lives)) lives

pub returns-clause-settles : goal.returns-clause-settles
returns-clause-settles g c =
    let h = held g (goal.at.returns-clause-settles g c).After-space_of-space in
    let done = reserve_done c.args.self.now c.args.pid h.process c.args.range _ _ _ _ h.lives h.kept.sound c.requires.ready.fits c.args.watched c.args.kind c.args.prot (c.requires.new h.process h.lives).free (c.requires.new h.process h.lives).granule (c.requires.new h.process h.lives).some c.requires.prot
    c.in_ok-make_region.ensures.adds.stored c.in_ok-make_region.ensures.adds.counted (omega (arith, c.now.ensures.charge, h.kept.charged, c.new_pages-pages.ensures, c.in_ok-make_region.ensures.adds.room)) in
    record { err = tt; settled = settled_as (returns-clause-ok g c h.process h.lives) done.settled }

-- the pages are user pages
stands : (g : given.Over) (c : After-space_of-space g) → StandsFrom 0 (2 ^ 32) c.args.range
stands g c =
    let range : Range = c.args.range in
    let h = held g c in
    let user = (parts (are_user_pages range) (not (list_any (meets range) (ranges_of h.process.regions))) (c.requires.new h.process h.lives).free).0 in
    let end = leb-true (end_of range) end_of_user_pages (parts (nat_le first_user_page range.first) (nat_le (end_of range) end_of_user_pages) user).1 in
    (omega arith, omega (arith, end))

pub returns-in_err-make_region-clause-among : goal.returns-in_err-make_region-clause-among
returns-in_err-make_region-clause-among g c = stands g (goal.at.returns-in_err-make_region-clause-among g c).After-space_of-space

pub returns-clause-among : goal.returns-clause-among
returns-clause-among g c = stands g (goal.at.returns-clause-among g c).After-space_of-space

pub returns-in_err-make_region-clause-makes : goal.returns-in_err-make_region-clause-makes
returns-in_err-make_region-clause-makes g c = makes_as g.G.PageStore c.from_residual.result (on_err c.from_residual.result c.in_err-make_region.ensures.makes.idle) c.make_region.ensures.makes

pub returns-clause-makes : goal.returns-clause-makes
returns-clause-makes g c = makes_as g.G.PageStore _ tt c.make_region.ensures.makes
