use Rattle.std.proofs.Common.{◌≡◌, ◌∙◌, ap, sym, map, arith, below_more}
use Rattle.std.proofs.lemmas.List.{length-map}
use Rattle.mm_requests.specs.{FlightOf, frame_number, place_in}
use Rattle.mm_requests.proofs.{other_frame, same_frame, place_found, place_missing}
use Rattle.mm_requests.proofs.flights.Flight.place_of.Goals as goal

pub loop-i-preserved : goal.loop-i-preserved
loop-i-preserved c = below_more _ _ c.loop-i.invariant (other_frame c.deref-frame-items.result.now c.loop-i.i c.args.f.0 c.if-frame-f.false)

pub returns-then-frame-f : goal.returns-then-frame-f
returns-then-frame-f c =
    let e : map frame_number c.deref-frame-items.result.now ≡ c.args.self.now.frames = ap (map frame_number) c.deref-frame-items.ensures.value ∙ ap (λ (v : FlightOf). v.frames) c.self.view_is in
    sym (ap (place_in c.args.f.0) (sym e)
    ∙ place_found c.args.f.0 c.loop-i.i (map frame_number c.deref-frame-items.result.now) (omega (arith, length-map c.deref-frame-items.result.now frame_number)) c.loop-i.invariant (same_frame c.deref-frame-items.result.now c.loop-i.i c.args.f.0 c.if-frame-f.true))

pub returns : goal.returns
returns c =
    let e : map frame_number c.deref-frame-items.result.now ≡ c.args.self.now.frames = ap (map frame_number) c.deref-frame-items.ensures.value ∙ ap (λ (v : FlightOf). v.frames) c.self.view_is in
    sym (ap (place_in c.args.f.0) (sym e)
    ∙ place_missing c.args.f.0 (map frame_number c.deref-frame-items.result.now) (λ k h. c.loop-i.invariant k (omega (arith, length-map c.deref-frame-items.result.now frame_number))))
