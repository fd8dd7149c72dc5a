use Rattle.std.proofs.Common.{ap}
use Rattle.mm_move_rules.specs.{FrameLife}
use Rattle.mm_state_calls.specs.{StateOf}
use Rattle.mm_pager.proofs.{map_legal, may_map, placed_by}
use Rattle.mm_pager.proofs.faults.put_below.Goals as goal

pub map-requires-clause-legal : goal.map-requires-clause-legal
map-requires-clause-legal g c = map_legal c.args.key c.args.f c.args.place _ (g.met.T.StateCalls.holds c.args.state.now) c.requires.frame c.requires.usable.fits c.requires.free c.requires.touch c.requires.below

pub map-requires-clause-alone : goal.map-requires-clause-alone
map-requires-clause-alone g c = may_map c.args.key c.args.f c.args.place (g.T.StateCalls.shown c.args.state.now) (g.met.T.StateCalls.holds c.args.state.now) c.requires.frame c.requires.usable.alone

pub returns-clause-puts : goal.returns-clause-puts
returns-clause-puts g c = record {
  stored = (ap (λ (x : StateOf). x.slots) c.map.ensures.rest, ap (λ (x : StateOf). x.blocks) c.map.ensures.rest);
  placed = placed_by c.args.key c.args.f c.args.place _ _ (g.met.T.StateCalls.holds c.args.state.now) c.requires.frame c.requires.usable.aside c.map.ensures.made c.map.ensures.rest c.map.ensures.quiet;
  told = c.map.ensures.made.told;
  flight = ap (λ (l : FrameLife). l.flight) c.map.ensures.made.life;
}
