use Rattle.std.proofs.Common.{◌≡◌, ◌<◌, ◌≤◌, ◌+◌, ◌-◌, ◌*◌, ◌/◌, ◌%◌, ℕ, List, [], ◌++◌, length, get_or, take, drop, ap, ◌∙◌, arith}
use Rattle.std.proofs.lemmas.Nat.{div-add-mod', mod_below}
use Rattle.std.proofs.lemmas.List.{take_all, take-append-le}
use Rattle.mm_vad.specs.{Row, rows_joined, filled_rows}
use Rattle.mm_vad.proofs.{rows_seen, room_seen, room_written, length-joined, kept_within, kept_behind, length-filled, filled_within_chunk}
use Rattle.mm_vad.proofs.{filled_behind_chunks}
use Rattle.mm_vad.proofs.Joined.{rows_written}
use Rattle.mm_vad.proofs.written.WrittenRows.fill_some.Goals as goal

-- what a slice of all rows gives back
given_back : (new behind : List Row) (n : ℕ) → n ≡ length new → take n (new ++ behind) ≡ new
given_back new behind n e = take-append-le n new behind (omega (arith, e)) ∙ take_all n new (omega (arith, e))

pub fill_in-requires : goal.fill_in-requires
fill_in-requires c =
    let s = c.self.inside in
    omega (arith, c.requires.inside, c.count-whole.ensures, c.if-index-whole.true, c.deref_mut.ensures.len, s.rest.ok.0, div-add-mod' c.args.first 512, length-joined s.chunks.rows s.rest.items c.self.invariant.0.whole, ap length (rows_written c.self.view_is))

-- the rows behind the chunks, once some of them are filled
rest_filled : (c : goal.After-self-1) → (length c.fill_in.new.rows ≡ length c.self.inside.rest.items) × (take c.self.inside.rest.len (c.fill_in.new.rows ++ drop (length c.fill_in.new.rows) c.self.inside.rest.items) ≡ c.fill_in.new.rows)
rest_filled c =
    let s = c.self.inside in
    let at = c.args.first - c.count-whole.result * 512 in
    let room : at + c.args.n ≤ length c.deref_mut.result.now = omega (arith, c.requires.inside, c.count-whole.ensures, c.if-index-whole.true, c.deref_mut.ensures.len, s.rest.ok.0, div-add-mod' c.args.first 512, length-joined s.chunks.rows s.rest.items c.self.invariant.0.whole, ap length (rows_written c.self.view_is)) in
    let long : length c.fill_in.new.rows ≡ length s.rest.items =
    ap length c.fill_in.ensures ∙ length-filled c.deref_mut.result.now at c.args.n c.args.row room ∙ ap length c.deref_mut.ensures.value in
    (long, given_back c.fill_in.new.rows _ s.rest.len (omega (arith, long, s.rest.ok.0)))

pub invariant_of-self : goal.invariant_of-self
invariant_of-self c =
    let s = c.self.inside in
    let back = rest_filled c in
    (kept_behind s.chunks.rows s.rest.items _ c.self.invariant.0 (ap length back.1 ∙ back.0), c.self.invariant.1)

pub returns-then-index-whole-clause-filled : goal.returns-then-index-whole-clause-filled
returns-then-index-whole-clause-filled c =
    let s = c.self.inside in
    let at = c.args.first - c.count-whole.result * 512 in
    let high : length s.chunks.rows ≤ c.args.first / 512 = omega (arith, c.count-whole.ensures, c.if-index-whole.true) in
    record {
      some = c.requires.some;
      within = omega arith;
      fits = omega (arith, c.requires.inside, c.self.invariant.0.few, ap length (rows_written c.self.view_is));
      after = ap (rows_joined s.chunks.rows) ((rest_filled c).1 ∙ c.fill_in.ensures)
          ∙ ap (λ (rs : List Row). rows_joined s.chunks.rows (filled_rows rs at c.args.n c.args.row)) c.deref_mut.ensures.value
          ∙ ap (λ (n : ℕ). rows_joined s.chunks.rows (filled_rows s.rest.items (c.args.first - n * 512) c.args.n c.args.row)) c.count-whole.ensures
          ∙ filled_behind_chunks s.chunks.rows s.rest.items c.args.self.now.rows c.args.first c.args.n c.args.row c.self.invariant.0.whole (rows_written c.self.view_is) high;
    }

pub returns-then-index-whole-clause-room : goal.returns-then-index-whole-clause-room
returns-then-index-whole-clause-room c = room_written c.self.view_is

pub invariant_of-self-2 : goal.invariant_of-self-2
invariant_of-self-2 c =
    let s = c.self.inside in
    let low : c.args.first / 512 < length s.chunks.rows = omega (arith, c.count-whole.ensures, c.if-index-whole.false) in (
      kept_within s.chunks.rows c.fill.new.self.rows s.rest.items (c.args.first / 512) _ c.self.invariant.0
          (length-filled (get_or s.chunks.rows (c.args.first / 512) []) (c.args.first % 512) c.min-some.result c.args.row
          (omega (arith, c.self.invariant.0.whole (c.args.first / 512) [] low, c.min-some.ensures, mod_below c.args.first 512 (omega arith)))
          ∙ c.self.invariant.0.whole (c.args.first / 512) [] low)
          (rows_seen c.fill.ensures),
      record { within = omega (arith, c.self.invariant.1.within, room_seen c.fill.ensures); behind = c.self.invariant.1.behind },
    )

pub returns-clause-filled : goal.returns-clause-filled
returns-clause-filled c =
    let s = c.self.inside in
    let low : c.args.first / 512 < length s.chunks.rows = omega (arith, c.count-whole.ensures, c.if-index-whole.false) in
    let below = mod_below c.args.first 512 (omega arith) in
    record {
      some = omega (arith, c.min-some.ensures, c.requires.some, below);
      within = omega (arith, c.min-some.ensures);
      fits = omega (arith, c.requires.inside, c.min-some.ensures, c.self.invariant.0.few, ap length (rows_written c.self.view_is));
      after = ap (λ (cs : List (List Row)). rows_joined cs s.rest.items) (rows_seen c.fill.ensures)
          ∙ filled_within_chunk s.chunks.rows s.rest.items c.args.self.now.rows c.args.first c.min-some.result c.args.row c.self.invariant.0.whole (rows_written c.self.view_is) low
          (omega (arith, c.min-some.ensures, below));
    }

pub returns-clause-room : goal.returns-clause-room
returns-clause-room c = room_written c.self.view_is
