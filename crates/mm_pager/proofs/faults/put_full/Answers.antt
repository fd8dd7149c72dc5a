use Rattle.std.proofs.Common.{refl, ap, ◌∙◌}
use Rattle.mm_types.specs.{Place}
use Rattle.mm_state_calls.specs.{StateOf}
use Rattle.mm_types.specs.declared.moves.Move.TheVariants as move
use Rattle.mm_pager.proofs.{went_unmap_map, in_frame_then, some_page, placed_after, kept_made, unmapped_flight, may_use_moved}
use Rattle.mm_pager.proofs.faults.put_full.Goals as goal

pub returns-clause-went : goal.returns-clause-went
returns-clause-went g c a p = went_unmap_map a c.args.key c.args.f c.args.place (record { pid = c.args.place.pid; vpn = c.in-Some.vpn }) _ _ _ (g.met.T.StateCalls.holds c.unmap.new.self)
    (in_frame_then c.args.key c.args.f _ _ (record { pid = c.args.place.pid; vpn = c.in-Some.vpn }) c.requires.frame c.unmap.ensures.made.life c.unmap.ensures.requests) c.unmap.ensures.rest p refl c.requires.free c.requires.set.full (c.in-Some.ensures.first refl) c.unmap.ensures.made c.put_below.ensures.made

pub put_below-requires-clause-frame : goal.put_below-requires-clause-frame
put_below-requires-clause-frame g c = in_frame_then c.args.key c.args.f _ _ (record { pid = c.args.place.pid; vpn = c.in-Some.vpn }) c.requires.frame c.unmap.ensures.made.life c.unmap.ensures.requests

pub put_below-requires-clause-usable : goal.put_below-requires-clause-usable
put_below-requires-clause-usable g c = may_use_moved c.args.key c.args.place (g.T.StateCalls.shown c.args.state.now) (g.T.StateCalls.shown c.unmap.new.self) c.unmap.ensures.rest c.requires.usable

pub unreachable-requires : goal.unreachable-requires
unreachable-requires g c = some_page _ c.args.place.pid.0 (g.met.T.StateCalls.holds c.args.state.now) c.requires.set.set c.requires.set.full c.in-None.ensures.next

pub returns-clause-puts : goal.returns-clause-puts
returns-clause-puts g c =
    let old : Place = record { pid = c.args.place.pid; vpn = c.in-Some.vpn } in
    let s = g.T.StateCalls.shown c.args.state.now in
    let y = g.T.StateCalls.shown c.unmap.new.self in
    let put = c.put_below.ensures.puts in
    record {
      stored = (put.stored.0 ∙ ap (λ (x : StateOf). x.slots) c.unmap.ensures.rest, put.stored.1 ∙ ap (λ (x : StateOf). x.blocks) c.unmap.ensures.rest);
      placed = placed_after c.args.key c.args.f c.args.place s y (g.T.StateCalls.shown c.put_below.new.state) (kept_made (move.Unmap old) s y c.unmap.ensures.made tt).kind c.unmap.ensures.rest put.placed;
      told = put.told ∙ c.unmap.ensures.made.told;
      flight = put.flight ∙ unmapped_flight s.life y.life old c.unmap.ensures.made.life;
    }
