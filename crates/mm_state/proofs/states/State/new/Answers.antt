use Rattle.std.proofs.Common.{sym, subst}
use Rattle.mm_frame_laws.proofs.{carries_start}
use Rattle.mm_parts.specs.{first_move}
use Rattle.mm_state.specs.{IsTallied}
use Rattle.mm_state.proofs.{noted_at, ranged_at, carried, shows_start, grew_one, tallied_none}
use Rattle.mm_state.proofs.states.State.new.Goals as goal

pub invariant_of-result : goal.invariant_of-result
invariant_of-result g c =
    let now = carried _ _ _ _ _ c.in-Ok.ensures (carries_start c.args.machine (g.P.Inject.blocks c.args.paging) (g.F.Inject.blocks c.args.files) c.requires.slots c.requires.blocks) in
    record { located = now.located; tallied = subst IsTallied (sym c.none.ensures) tallied_none; slots_whole = c.requires.slots_whole; blocks_whole = c.requires.blocks_whole }

pub returns-in-Ok-clause-starts : goal.returns-in-Ok-clause-starts
returns-in-Ok-clause-starts g c =
    let now = carried _ _ _ _ _ c.in-Ok.ensures (carries_start c.args.machine (g.P.Inject.blocks c.args.paging) (g.F.Inject.blocks c.args.files) c.requires.slots c.requires.blocks) in
    record {
      in_range = (ranged_at _ _ c.first_move.ensures c.note.ensures.in_range, tt);
      grew = grew_one _ _ (first_move c.args.machine) (noted_at _ _ _ _ c.first_move.ensures c.note.ensures.grew);
      shows = shows_start _ _ _ _ _ _ _ _ _ _ c.in-Ok.ensures c.none.ensures now.bytes;
    }
