use Rattle.std.proofs.Common.{rules, ◌≡◌, ℕ, Some, true, false, slice_get, slice_index_or, subst}
use Rattle.mm_replay.specs.{InFlightOf, flight_of}
use Rattle.mm_replay.proofs.{request_new}
use Rattle.mm_replay.proofs.in_flight.InFlight.next.Goals as goal

pub returns-then-flag_at-clause-none : goal.returns-then-flag_at-clause-none
returns-then-flag_at-clause-none c = λ none.
    let s = c.self.inside in
    let set : slice_index_or c.self.inside.flags.items c.args.f false ≡ true = search rules in
    let on = c.self.invariant.there c.args.f set in
    let off : (k : ℕ) → slice_get (flight_of c.self.inside.list).requests k ≡ Some c.args.f → ⊥ =
    λ k e. none k (subst (λ (v : InFlightOf). slice_get v.requests k ≡ Some c.args.f) c.self.view_is e) in
    absurd (request_new s.list s.flags.items c.args.f c.self.invariant off on.0 on.1 on.2)
