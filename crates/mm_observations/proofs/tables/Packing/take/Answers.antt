use Rattle.std.proofs.Common.{◌≡◌, ◌++◌, sym, ap, ◌∙◌}
use Rattle.mm_observations.specs.{row_data}
use Rattle.mm_observations.proofs.{row_packed}
use Rattle.mm_observations.proofs.tables.Packing.take.Goals as goal

pub returns : goal.returns
returns c = λ rows.
    let old = c.args.self.now in
    let packed = row_data old.before c.in-Some.row in
    let text : c.extend_from_slice.new.self.items ≡ old.text.items ++ packed =
    c.in-Ok.ensures.items ∙ ap (λ xs. old.text.items ++ xs) (c.as_slice.ensures.bytes ∙ (c.put_row.ensures ∙ ap (λ xs. xs ++ packed) c.clear.ensures)) in
    row_packed c.args.run.now old (record { before = c.after-self.result; line = c.put_row.new.out; text = c.extend_from_slice.new.self }) c.args.number c.args.row.now c.in-Some.row
    (sym c.good_row.ensures ∙ c.in-Some.is) text c.after-self.ensures rows
