use Rattle.std.proofs.Common.{ap, arith}
use Rattle.mm_world.specs.{limit, Tables, process_of}
use Rattle.mm_calls.proofs.{joined, now_reserved, same_charge, lasts_reserve, stack_made}
use Rattle.mm_calls.proofs.stacks.make_region.Goals as goal
use Rattle.mm_types.proofs.{some_found}

pub reserve_region-requires-clause-new : goal.reserve_region-requires-clause-new
reserve_region-requires-clause-new g c p lives =
    let new = c.requires.new p lives in
    record { free = new.free; granule = new.granule; some = omega (arith, c.requires.tall.inside) }

pub commit_ends-requires-clause-reserved : goal.commit_ends-requires-clause-reserved
commit_ends-requires-clause-reserved g c =
    let p = some_found (process_of c.args.t.now c.args.pid.0) c.requires.ready.lives in
    now_reserved c.args.t.now c.args.pid.0 p.0 c.args.range p.1 (c.requires.new p.0 p.1).free c.reserve_region.new.t (c.in_ok-reserve_region.ensures.ok p.0 p.1)

pub commit_ends-requires-clause-room : goal.commit_ends-requires-clause-room
commit_ends-requires-clause-room g c =
    let p = some_found (process_of c.args.t.now c.args.pid.0) c.requires.ready.lives in
    let is = c.in_ok-reserve_region.ensures.ok p.0 p.1 in
    record {
      allowed = omega (arith, c.requires.limit, ap (λ (t : Tables). limit t) is, same_charge c.args.t.now c.args.pid.0 p.0 c.args.range p.1 (c.requires.new p.0 p.1).free c.reserve_region.new.t is);
      room = omega (arith, c.in_ok-reserve_region.ensures.room, same_charge c.args.t.now c.args.pid.0 p.0 c.args.range p.1 (c.requires.new p.0 p.1).free c.reserve_region.new.t is);
    }

pub returns-clause-ok : goal.returns-clause-ok
returns-clause-ok g c p lives =
    let t = c.args.t.now in
    let pid = c.args.pid.0 in
    let free = (c.requires.new p lives).free in
    let is = c.in_ok-reserve_region.ensures.ok p lives in
    stack_made t pid p c.args.range lives free c.args.top c.reserve_region.new.t c.commit_ends.new.t is
    (c.commit_ends.ensures.changed (now_reserved t pid p c.args.range lives free c.reserve_region.new.t is))

pub returns-clause-settles : goal.returns-clause-settles
returns-clause-settles g c =
    let t = c.args.t.now in
    let p = some_found (process_of t c.args.pid.0) c.requires.ready.lives in
    record {
      err = tt;
      settled = joined t c.reserve_region.new.t c.commit_ends.new.t _ _ _ _ _ _ c.requires.ready.fits
          (lasts_reserve t c.args.pid.0 p.0 c.args.range p.1 (c.requires.new p.0 p.1).free c.reserve_region.new.t (c.in_ok-reserve_region.ensures.ok p.0 p.1))
          c.reserve_region.ensures.settles.settled c.commit_ends.ensures.settled;
    }
