use Rattle.std.proofs.Common.{◌-◌, map, sym, ap, ◌∙◌}
use Rattle.std.specs.Prelude.{slice_get}
use Rattle.mm_requests.specs.{FlightOf, frame_number}
use Rattle.mm_requests.proofs.{nth_at}
use Rattle.mm_requests.proofs.flights.Flight.nth.Goals as goal

pub returns : goal.returns
returns c =
    let at = c.args.i - 1 in
    c.frame_at.ensures
    ∙ ap (λ xs. slice_get (map frame_number xs) at) c.deref.ensures.value
    ∙ ap (λ (v : FlightOf). slice_get v.frames at) c.self.view_is
    ∙ sym (nth_at c.args.i c.args.self.now.frames c.if-i-eq0.false)
