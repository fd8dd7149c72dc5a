use Rattle.std.proofs.Common.{◌≡◌, ◌≤◌, ◌+◌, take}
use Rattle.mm_dispatch.specs.{loans, world_behind, scene}
use Rattle.mm_run.specs.{Running, Handled, HasNotedAll, world_seen}
use Rattle.mm_run.proofs.bulk.decide_events.Given as goal

abbrev pub invariant-loop-event : goal.invariant-loop-event
invariant-loop-event g l = record {
  handled : Handled (Running (scene l.fn.world)) (take l.event-index l.events) l.ok l.none (Running (scene l.world));
  next : l.n ≡ l.event-index + 1;
  ok_few : l.ok ≤ l.event-index;
  none_few : l.none ≤ l.event-index;
  ready : HasNotedAll l.n (world_seen l.world);
  same : loans l.world ≡ loans l.fn.world;
  faults : (world_behind l.world).log.faults ≡ (world_behind l.fn.world).log.faults;
}
