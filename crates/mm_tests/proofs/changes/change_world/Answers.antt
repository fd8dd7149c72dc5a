use Rattle.std.proofs.Common.{ℕ, sym, subst}
use Rattle.mm_object_tables.specs.{MadeAtMost}
use Rattle.mm_tests.proofs.changes.change_world.Goals as goal

pub invariant_of-world : goal.invariant_of-world
invariant_of-world g c =
    let w = c.args.world.now in
    record {
      fits = λ ready. c.change_store.ensures.fits w.tables (w.fits c.requires.ready);
      few = λ ready. subst (λ (n : ℕ). MadeAtMost n w.tables) (sym c.change_store.ensures.line) (w.few c.requires.ready);
    }
