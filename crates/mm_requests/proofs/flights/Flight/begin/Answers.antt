use Rattle.std.proofs.Common.{arith, ◌≡◌, ◌<◌, ℕ, List, [], ◌∷◌, ◌++◌, length, map, false, sym, ap, ◌∙◌, subst}
use Rattle.std.proofs.lemmas.List.{length-map, map_push}
use Rattle.mm_requests.specs.{FlightOf, IsKept, is_requested, frame_number}
use Rattle.mm_requests.proofs.{kept_begun}
use Rattle.mm_requests.proofs.flights.Flight.begin.Goals as goal

pub invariant_of-self : goal.invariant_of-self
invariant_of-self c =
    let f = c.args.f.0 in
    let frames : List ℕ = map frame_number c.self.inside.frames.items in
    let waits = c.self.inside.waits.items in
    let new : is_requested f frames ≡ false = ap (λ (v : FlightOf). is_requested f v.frames) c.self.view_is ∙ c.requires.new in
    let fewer : length frames < c.self.inside.depth = subst (λ (v : FlightOf). length v.frames < v.depth) (sym c.self.view_is) c.requires.fewer in
    let more : map frame_number c.push.new.self.items ≡ frames ++ f ∷ [] =
    ap (map frame_number) c.in-Ok.ensures.items ∙ map_push frame_number c.self.inside.frames.items c.args.f in
    record {
      room = record {
        fits = c.self.invariant.room.fits;
        within = omega (arith, fewer, c.in-Ok.ensures.len, length-map c.self.inside.frames.items frame_number, c.self.inside.frames.ok.0);
        enough = omega (arith, c.self.invariant.room.enough, c.in-Ok.ensures.capacity);
        all = c.self.invariant.room.all;
      };
      kept = subst (λ (xs : List ℕ). IsKept xs waits) (sym more) (kept_begun frames waits c.self.invariant.kept f new);
      within = c.self.invariant.within;
      idle = c.self.invariant.idle;
    }
