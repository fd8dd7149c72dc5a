use Rattle.std.proofs.Common.{◌≡◌, ◌<◌, true, length, sym, ap, ◌∙◌, subst, arith}
use Rattle.mm_move_rules.specs.{FrameTable, is_idle}
use Rattle.mm_replay.specs.{frames_on, record_of, IsBehind}
use Rattle.mm_replay.proofs.{behind_frame}
use Rattle.mm_replay.proofs.tables.Table.next.Goals as goal

pub returns : goal.returns
returns c =
    let s = c.self.inside.listing in
    let low : c.args.f < length c.self.inside.listing.records.items = omega (arith, c.self.inside.listing.records.ok.0) in
    let idle : is_idle (record_of c.self.inside.listing.records.items c.args.f) ≡ true = ap is_idle (sym c.record.ensures) ∙ sym c.is_idle.ensures ∙ c.if-not-is_idle.false in
    let on = c.self.invariant.there c.args.f low idle in
    subst (λ (d : FrameTable). IsBehind (frames_on d) c.args.f c.framed.result) c.self.view_is
    (behind_frame s.records.items s.lists c.self.invariant c.args.f c.next.result c.next.ensures (λ h. absurd (h on.0 on.1 on.2)) c.framed.result c.framed.ensures)
