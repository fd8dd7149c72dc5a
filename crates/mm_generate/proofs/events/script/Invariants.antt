use Rattle.std.proofs.Common.{◌≡◌, ◌+◌, ◌-◌, ◌++◌, vec_len}
use Rattle.std.specs.Prelude.{vec_capacity}
use Rattle.mm_generate.specs.{outputs, drawn_events, script_of}
use Rattle.mm_generate.proofs.events.script.Given as goal

abbrev pub invariant-loop-drawn : goal.invariant-loop-drawn
invariant-loop-drawn l = record {
  len : vec_len l.events ≡ 11 + l._drawn;
  capacity : vec_capacity l.events ≡ 11 + l.count;
  events : l.events.items ++ drawn_events (l.count - l._drawn) (outputs l.words) ≡ script_of l.fn.seed l.fn.count;
}
