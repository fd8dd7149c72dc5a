use Rattle.mm_move_rules.proofs.{replay_of, replays_from}
use Rattle.mm_move_rules.proofs.worked.replay_computes_where_moves_lead.Goals as goal

pub returns-clause-comes : goal.returns-clause-comes
returns-clause-comes c = replay_of

pub returns-clause-leads : goal.returns-clause-leads
returns-clause-leads c = replays_from
