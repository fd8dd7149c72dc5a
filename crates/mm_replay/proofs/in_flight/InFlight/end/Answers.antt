use Rattle.std.proofs.Common.{rules, ◌≡◌, map, false, Bool, List, slice_index_or, subst, sym}
use Rattle.mm_move_rules.specs.{without}
use Rattle.mm_page_lists.specs.{ListsOf, without as without_number}
use Rattle.mm_replay.specs.{InFlightOf, AreLists, AreFlagged}
use Rattle.mm_replay.proofs.{flagged_ended, flight_stays}
use Rattle.mm_replay.proofs.in_flight.InFlight.end.Goals as goal

pub invariant_of-self : goal.invariant_of-self
invariant_of-self c =
    let s = c.self.inside in
    subst (λ (v : ListsOf). AreFlagged v c.set_at.new.items.items) (sym c.unlink.ensures.closed)
    (subst (λ (flags : List Bool). AreFlagged (record c.self.inside.list { lists = map (without_number c.args.f) c.self.inside.list.lists }) flags) (sym c.set_at.ensures)
    (flagged_ended s.list s.flags.items c.args.f c.self.invariant (subst (AreLists 1) c.unlink.ensures.closed c.unlink.ensures.kept)))

pub returns-else-flag_at : goal.returns-else-flag_at
returns-else-flag_at c =
    let s = c.self.inside in
    let unset : slice_index_or c.self.inside.flags.items c.args.f false ≡ false = search rules in
    subst (λ (v : InFlightOf). v ≡ record v { requests = without c.args.f v.requests }) c.self.view_is
    (flight_stays s.list s.flags.items c.args.f c.self.invariant unset)
