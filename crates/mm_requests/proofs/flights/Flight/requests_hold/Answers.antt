use Rattle.std.proofs.Common.{◌≡◌, ◌≤◌, length, subst, arith}
use Rattle.std.proofs.lemmas.List.{length-map}
use Rattle.mm_requests.specs.{FlightOf, HoldsRequests, frame_number}
use Rattle.mm_requests.proofs.{holds_at}
use Rattle.mm_requests.proofs.flights.Flight.requests_hold.Goals as goal

pub returns-clause-holds : goal.returns-clause-holds
returns-clause-holds c = subst HoldsRequests c.self.view_is (holds_at _ c.self.invariant.kept)

pub returns-clause-few : goal.returns-clause-few
returns-clause-few c =
    let within = c.self.invariant.room.within in
    subst (λ (v : FlightOf). length v.frames ≤ v.depth) c.self.view_is (omega (arith, within, length-map c.self.inside.frames.items frame_number))

pub returns-clause-threads : goal.returns-clause-threads
returns-clause-threads c = subst (λ (v : FlightOf). length v.waits ≡ 256) c.self.view_is c.self.invariant.room.all
