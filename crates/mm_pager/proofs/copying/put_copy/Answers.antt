use Rattle.mm_move_rules.specs.{key_of_place}
use Rattle.mm_pager.proofs.{in_frame_then, map_copy, own_may_map, copy_put}
use Rattle.mm_pager.proofs.copying.put_copy.Goals as goal

pub map-requires-clause-legal : goal.map-requires-clause-legal
map-requires-clause-legal g c = map_copy c.args.place c.args.f (g.T.StateCalls.shown c.args.state.now) (g.T.StateCalls.shown c.unmap.new.self) (g.met.T.StateCalls.holds c.args.state.now) (g.met.T.StateCalls.holds c.unmap.new.self) (in_frame_then (key_of_place c.args.place) c.args.f (g.T.StateCalls.shown c.args.state.now) (g.T.StateCalls.shown c.unmap.new.self) c.args.place c.requires.frame c.unmap.ensures.made.life c.unmap.ensures.requests) c.requires.bound c.requires.shows c.requires.touch c.unmap.ensures.made

pub map-requires-clause-alone : goal.map-requires-clause-alone
map-requires-clause-alone g c = own_may_map c.args.place c.args.f (g.T.StateCalls.shown c.unmap.new.self) (g.met.T.StateCalls.holds c.unmap.new.self) (in_frame_then (key_of_place c.args.place) c.args.f (g.T.StateCalls.shown c.args.state.now) (g.T.StateCalls.shown c.unmap.new.self) c.args.place c.requires.frame c.unmap.ensures.made.life c.unmap.ensures.requests)

pub returns-clause-put : goal.returns-clause-put
returns-clause-put g c = copy_put c.args.place c.args.f (g.T.StateCalls.shown c.args.state.now) (g.T.StateCalls.shown c.unmap.new.self) (g.T.StateCalls.shown c.map.new.self) (g.met.T.StateCalls.holds c.unmap.new.self) c.requires.shows c.requires.frame (in_frame_then (key_of_place c.args.place) c.args.f (g.T.StateCalls.shown c.args.state.now) (g.T.StateCalls.shown c.unmap.new.self) c.args.place c.requires.frame c.unmap.ensures.made.life c.unmap.ensures.requests) c.requires.aside c.unmap.ensures.made c.unmap.ensures.rest c.map.ensures.made c.map.ensures.rest
