use Rattle.std.proofs.Common.{◌≡◌, ℕ, zero, suc, None, Some, refl, sym, ◌∙◌, subst, arith}
use Rattle.mm_types.specs.{MachineOf}
use Rattle.mm_world.specs.{process_of, Tables, world_with, first_world}
use Rattle.mm_object_tables.specs.{MadeAtMost, FitsTables, key_bytes}
use Rattle.mm_line_moves.specs.{Agrees}
use Rattle.mm_object_tables.proofs.{new_fits}
use Rattle.mm_dispatch.proofs.{agrees, stands}
use Rattle.mm_dispatch.proofs.worlds.World.new.Goals as goal

-- no process lives, and nothing was made yet
nobody : (m : MachineOf) (pid : ℕ) → process_of {B = Unit {0}} (first_world m) pid ≡ None
nobody m zero = refl
nobody m (suc pid) = refl

made_none : (m : MachineOf) (line : ℕ) → MadeAtMost {B = Unit {0}} line (first_world m)
made_none m line = record {
  sections = omega arith;
  areas = omega arith;
  handles = λ pid p e. (let none : None ≡ Some p = sym (nobody m pid) ∙ e in cc);
}

pub invariant_of-result : goal.invariant_of-result
invariant_of-result g c =
    let pages = c.args.pages in
    record {
      fits = λ h. subst (λ (t : Tables). FitsTables t (g.G.PageStore.contents pages) (g.G.PageStore.store pages)) (sym c.new.ensures) (new_fits c.args.machine _ _ c.requires.new);
      few = λ h. subst (λ (t : Tables). MadeAtMost (g.G.PageStore.store pages).line t) (sym c.new.ensures) (made_none c.args.machine (g.G.PageStore.store pages).line);
    }

pub returns-clause-agrees : goal.returns-clause-agrees
returns-clause-agrees g c paging =
    let contents = g.G.PageStore.contents c.args.pages in
    let store = g.G.PageStore.store c.args.pages in
    let behind = g.G.PageStore.behind c.args.pages in
    subst (λ (t : Tables). Agrees (world_with t (key_bytes contents)) store.report behind) (sym c.new.ensures)
    (agrees (first_world c.args.machine) contents store behind (new_fits c.args.machine _ _ c.requires.new) (stands g.G.PageStore.unpaged contents store behind paging c.sound.ensures.stands))
