use Rattle.std.proofs.Common.{◌-◌}
use Rattle.mm_frame_laws.specs.{PassedTo}
use Rattle.mm_parts.specs.{after_page}
use Rattle.mm_reclaim.specs.{IsValidPage, IsLow, rank}
use Rattle.mm_reclaim.proofs.choosing.oldest_to_go.Given as goal

abbrev pub invariant-pages : goal.invariant-pages
invariant-pages g l = record {
  held : IsValidPage (g.T.StateCalls.shown l.state).life l.pid l.after;
  low : IsLow l.after;
  passed : PassedTo (g.T.StateCalls.shown l.state).life (g.T.StateCalls.shown l.state).ages l.pinned l.pid.0 (after_page l.pid l.after);
}

abbrev pub decreases-pages : goal.decreases-pages
decreases-pages g l = 34359738369 - rank (g.T.StateCalls.shown l.state).ages l.pid l.after
