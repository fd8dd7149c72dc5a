use Rattle.std.proofs.Common.{Some, sym, ap, ◌+◌, ◌∙◌}
use Rattle.mm_parts.specs.{joined_parts}
use Rattle.mm_parts.proofs.{own_alone, place_last}
use Rattle.mm_parts.proofs.parts.Parts.place_of.Goals as goal

pub returns-then-is_own : goal.returns-then-is_own
returns-then-is_own c =
    let s = c.args.self.now in
    let own = sym c.if-is_own.ensures in
    ap (λ n. Some (n + 1)) c.len.ensures.value ∙ place_last c.args.f.0 s.flight.frames s.own own (own_alone (joined_parts s) s.kept c.args.f.0 own)
