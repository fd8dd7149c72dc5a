use Rattle.std.proofs.Common.{rules, ◌≡◌, ◌+◌, ℕ, None, ap, ◌∙◌}
use Rattle.mm_types.specs.declared.moves.LineKind.TheVariants as kind
use Rattle.mm_types.specs.{MachineOf}
use Rattle.mm_world.specs.{with_slots}
use Rattle.mm_store.specs.{begun}
use Rattle.mm_unpaged.specs.{store_in}
use Rattle.mm_unpaged.proofs.{grown}
use Rattle.mm_unpaged.proofs.unpaged.UnpagedPageStore.grow.Goals as goal

pub returns-clause-done : goal.returns-clause-done
returns-clause-done g c =
    let s = store_in c.args.self.now in
    let m : MachineOf = s.machine in
    let made : c.new-self.result ≡ with_slots m c.args.n =
    c.new-self.ensures
    ∙ (λ i. record { frames = c.frames.ensures i; slots = ap (λ (k : ℕ). k + c.args.n) c.slots.ensures i; depth = c.depth.ensures i; blocks = c.blocks-2.ensures i }) in
    record {
      ok = grown s (store_in c.begin.new.self) (with_slots m c.args.n) c.args.line (kind.Grow c.args.n)
          (c.begin.ensures.store
          ∙ ap (λ (x : MachineOf). record s { machine = x; line = c.args.line; kind = kind.Grow c.args.n; ready = None; report = begun s.report }) made);
      extended = search rules;
      later = search rules;
      failed = search rules;
      memory = search rules;
      faults = search rules;
      cause = search rules;
      unpaged = search rules;
    }
