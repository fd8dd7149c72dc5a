use Rattle.std.proofs.Common.{arith, ◌≡◌, ℕ, List, length, map, sym, ap, ◌∙◌, subst}
use Rattle.std.proofs.lemmas.List.{length-map}
use Rattle.mm_requests.specs.{Waiting, IsKept, frame_number, without, ended}
use Rattle.mm_requests.proofs.{ended_view, numbers_without, kept_ended}
use Rattle.mm_requests.proofs.flights.Flight.end.Goals as goal

pub invariant_of-self : goal.invariant_of-self
invariant_of-self c =
    let f = c.args.f.0 in
    let items = c.self.inside.frames.items in
    let frames : List ℕ = map frame_number items in
    let waits = c.self.inside.waits.items in
    let fewer : map frame_number c.remove_frame.new.frames.items ≡ without f frames =
    ap (map frame_number) c.remove_frame.ensures.items ∙ numbers_without f items in
    let ended_one : IsKept (without f frames) c.end_waits-self-inside.new.waits.items =
    subst (λ (ws : List Waiting). IsKept (without f frames) ws) (sym c.end_waits-self-inside.ensures.waits) (kept_ended frames waits c.self.invariant.kept f c.args.ok) in
    record {
      room = record {
        fits = c.self.invariant.room.fits;
        within = omega (arith, c.self.invariant.room.within, c.remove_frame.ensures.len);
        enough = omega (arith, c.self.invariant.room.enough, c.remove_frame.ensures.capacity);
        all = ap length c.end_waits-self-inside.ensures.waits ∙ length-map waits (ended f c.args.ok) ∙ c.self.invariant.room.all;
      };
      kept = subst (λ (xs : List ℕ). IsKept xs c.end_waits-self-inside.new.waits.items) (sym fewer) ended_one;
      within = omega (arith, c.self.invariant.within, c.end_waits-self-inside.ensures.within);
      idle = c.end_waits-self-inside.ensures.idle;
    }

pub returns : goal.returns
returns c = ended_view c.self.inside.depth c.self.inside.frames.items c.remove_frame.new.frames.items c.self.inside.waits.items c.end_waits-self-inside.new.waits.items c.args.f.0 c.args.ok c.args.self.now c.self.view_is c.remove_frame.ensures.items c.end_waits-self-inside.ensures.waits
