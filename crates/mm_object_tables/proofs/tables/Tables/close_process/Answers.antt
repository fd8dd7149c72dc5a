use Rattle.std.proofs.Common.{Option, None, refl, option_map, ap}
use Rattle.mm_types.specs.{Key}
use Rattle.mm_world.specs.{Page}
use Rattle.mm_object_tables.specs.{shown_process}
use Rattle.mm_object_tables.proofs.{put_process, process_landed, held_by}
use Rattle.mm_object_tables.proofs.tables.Tables.close_process.Goals as goal

pub invariant_of-self : goal.invariant_of-self
invariant_of-self g c =
    let k = held_by c.self.inside c.args.self.now c.self.view_is c.self.invariant c.args.pid.0 c.index_mut.result.now c.requires.lives c.index_mut.ensures.value refl in
    (process_landed c.args.self.now c.args.pid.0 k.process k.lives (c.requires.closed k.process k.lives) (c.requires.empty k.process k.lives) c.requires.nobody (put_process k c.empty_place.new.process None (ap (option_map shown_process) c.empty_place.ensures)) k.kept c.requires.fits
    c.close_process.ensures.contents c.close_process.ensures.store).kept

pub returns-clause-ended : goal.returns-clause-ended
returns-clause-ended g c =
    let k = held_by c.self.inside c.args.self.now c.self.view_is c.self.invariant c.args.pid.0 c.index_mut.result.now c.requires.lives c.index_mut.ensures.value refl in
    (process_landed c.args.self.now c.args.pid.0 k.process k.lives (c.requires.closed k.process k.lives) (c.requires.empty k.process k.lives) c.requires.nobody (put_process k c.empty_place.new.process None (ap (option_map shown_process) c.empty_place.ensures)) k.kept c.requires.fits
    c.close_process.ensures.contents c.close_process.ensures.store).is

pub returns-clause-shrinks : goal.returns-clause-shrinks
returns-clause-shrinks g c =
    let k = held_by c.self.inside c.args.self.now c.self.view_is c.self.invariant c.args.pid.0 c.index_mut.result.now c.requires.lives c.index_mut.ensures.value refl in
    let e = process_landed c.args.self.now c.args.pid.0 k.process k.lives (c.requires.closed k.process k.lives) (c.requires.empty k.process k.lives) c.requires.nobody (put_process k c.empty_place.new.process None (ap (option_map shown_process) c.empty_place.ensures)) k.kept c.requires.fits
    c.close_process.ensures.contents c.close_process.ensures.store in
    record { settled = e.settled; less = λ k live. ap (λ (f : Key → Option Page). f k) c.close_process.ensures.contents; loans = c.close_process.ensures.loans }
