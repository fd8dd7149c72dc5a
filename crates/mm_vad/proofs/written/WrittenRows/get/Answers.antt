use Rattle.std.proofs.Common.{ℕ, ◌-◌, ◌*◌, get_or, ◌∙◌, arith, length, ap}
use Rattle.std.proofs.lemmas.Nat.{div-add-mod'}
use Rattle.mm_vad.proofs.Joined.{rows_written}
use Rattle.mm_vad.proofs.{length-joined, read_within, read_behind}
use Rattle.mm_vad.proofs.written.WrittenRows.get.Goals as goal

pub index-requires : goal.index-requires
index-requires c =
    let s = c.self.inside in
    omega (arith, c.requires, c.count-whole.ensures, c.if-index-whole.false, s.rest.ok.0, div-add-mod' c.args.i 512, length-joined s.chunks.rows s.rest.items c.self.invariant.0.whole, ap length (rows_written c.self.view_is))

pub returns-then-index-whole : goal.returns-then-index-whole
returns-then-index-whole c =
    let s = c.self.inside in
    read_within s.chunks.rows s.rest.items c.args.self.now.rows c.args.i c.get.result c.self.invariant.0.whole (rows_written c.self.view_is) c.requires
    (omega (arith, c.count-whole.ensures, c.if-index-whole.true)) c.get.ensures

pub returns-else-index-whole : goal.returns-else-index-whole
returns-else-index-whole c =
    let s = c.self.inside in
    read_behind s.chunks.rows s.rest.items c.args.self.now.rows c.args.i _ c.self.invariant.0.whole (rows_written c.self.view_is) c.requires
    (omega (arith, c.count-whole.ensures, c.if-index-whole.false))
    (c.index.ensures ∙ ap (λ (n : ℕ). get_or s.rest.items (c.args.i - n * 512) c.index.result.now) c.count-whole.ensures)
