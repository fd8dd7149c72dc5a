use Rattle.std.proofs.Common.{rules, ◌≡◌, ◌<◌, ◌++◌, ◌∙◌, length, take, inl, refl, sym, subst, arith}
use Rattle.std.proofs.lemmas.Grind.{common_steps}
use Rattle.mm_types.specs.{Text, Took}
use Rattle.mm_types.proofs.{took_then}
use Rattle.mm_names.specs.{most_bytes}
use Rattle.mm_names.proofs.{many_read}
use Rattle.mm_names.proofs.sources.read_all.Goals as goal

pub returns-then-len-gt-MOST_BYTES-clause-err : goal.returns-then-len-gt-MOST_BYTES-clause-err
returns-then-len-gt-MOST_BYTES-clause-err g c =
    let left = g.S.Source.left in
    let new = c.extend_from_slice.new.self in
    let bytes = take c.in-Ok.count c.read.new.buf in
    let longer : new.items ≡ c.loop-n.text.items ++ bytes = first_of (search rules, grind arith) in
    let many : most_bytes < length new.items = first_of (search rules, omega arith) in
    λ took. (
      inl (many_read (left c.args.source.now) (left c.loop-n.source) (left c.read.new.self) c.loop-n.text.items
          new.items bytes c.loop-n.invariant.took c.in-Ok.ensures.bytes.bytes longer many),
      refl,
    )

pub loop-n-preserved : goal.loop-n-preserved
loop-n-preserved g c =
    let left = g.S.Source.left in
    let bytes = take c.in-Ok.count c.read.new.buf in
    let longer : c.extend_from_slice.new.self.items ≡ c.loop-n.text.items ++ bytes = first_of (search rules, grind arith) in
    record {
      took = subst (λ (t : Text). Took (left c.args.source.now) (left c.read.new.self) t) (sym longer)
          (took_then (left c.args.source.now) (left c.loop-n.source) (left c.read.new.self) c.loop-n.text.items bytes c.loop-n.invariant.took c.in-Ok.ensures.bytes.bytes);
      few = first_of (omega arith, search rules);
      some = grind (arith, common_steps);
      later = first_of (search rules, omega arith);
      same = c.in-Ok.ensures.cause.same ∙ c.loop-n.invariant.same;
    }

pub returns-clause-err : goal.returns-clause-err
returns-clause-err g c = absurd (omega arith)
