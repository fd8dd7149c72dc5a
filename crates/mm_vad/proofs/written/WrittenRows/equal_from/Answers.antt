use Rattle.std.proofs.Common.{◌<◌, ◌≤◌, ◌-◌, ◌*◌, ◌/◌, ℕ, List, length, sym, ap, ◌∙◌, arith, take, drop}
use Rattle.std.proofs.lemmas.Nat.{div-add-mod', mod_below}
use Rattle.mm_vad.specs.{Row}
use Rattle.mm_vad.proofs.Joined.{rows_written}
use Rattle.mm_vad.proofs.{length-joined, equal_within, equal_behind}
use Rattle.mm_vad.proofs.written.WrittenRows.equal_from.Goals as goal

pub returns-then-index-whole : goal.returns-then-index-whole
returns-then-index-whole c =
    let s = c.self.inside in
    let low : c.args.i / 512 < length s.chunks.rows = omega (arith, c.count-whole.ensures, c.if-index-whole.true) in
    record {
      some = c.equal_from-n.ensures.some;
      within = omega (arith, c.equal_from-n.ensures.within, c.min.ensures);
      equal = equal_within s.chunks.rows s.rest.items c.args.self.now.rows c.args.i c.equal_from-n.result.1 c.equal_from-n.result.0 c.self.invariant.0.whole (rows_written c.self.view_is) low
          (omega (arith, c.equal_from-n.ensures.within, c.min.ensures, mod_below c.args.i 512 (omega arith)))
          c.equal_from-n.ensures.equal;
    }

pub equal_in-n-requires-clause-inside : goal.equal_in-n-requires-clause-inside
equal_in-n-requires-clause-inside c =
    let s = c.self.inside in
    omega (arith, c.requires.inside, c.count-whole.ensures, c.if-index-whole.false, c.deref.ensures.len, s.rest.ok.0, div-add-mod' c.args.i 512, length-joined s.chunks.rows s.rest.items c.self.invariant.0.whole, ap length (rows_written c.self.view_is), ap length c.deref.ensures.value)

pub returns : goal.returns
returns c =
    let s = c.self.inside in
    let high : length s.chunks.rows ≤ c.args.i / 512 = omega (arith, c.count-whole.ensures, c.if-index-whole.false) in
    record {
      some = c.equal_in-n.ensures.some;
      within = c.equal_in-n.ensures.within;
      equal = equal_behind s.chunks.rows s.rest.items c.args.self.now.rows c.args.i c.equal_in-n.result.1 c.equal_in-n.result.0 c.self.invariant.0.whole (rows_written c.self.view_is) high
          (omega (arith, c.requires.inside, c.equal_in-n.ensures.within))
          (ap (λ (n : ℕ). take c.equal_in-n.result.1 (drop (c.args.i - n * 512) s.rest.items)) (sym c.count-whole.ensures)
          ∙ ap (λ (rs : List Row). take c.equal_in-n.result.1 (drop (c.args.i - c.count-whole.result * 512) rs)) (sym c.deref.ensures.value)
          ∙ c.equal_in-n.ensures.equal);
    }
