use Rattle.std.proofs.Common.{◌<◌, ◌+◌, Bool, ◌∙◌, sym, subst, arith, cond, length, ◌&&◌}
use Rattle.mm_world.specs.{same_key}
use Rattle.mm_object_tables.specs.{CanGo, Gone, shared_at, is_committed_in}
use Rattle.mm_object_tables.proofs.{can_go_next, gone_then, lower_gone}
use Rattle.mm_store.proofs.{ends_meet}
use Rattle.mm_object_tables.proofs.keys.remove_shared.Goals as goal

pub remove_if-requires : goal.remove_if-requires
remove_if-requires g c =
    let few : c.loop-i.i < length c.args.pages.now.pages = omega (arith, c.loop-i-test.true, c.len-count.ensures) in
    record {
      can = subst (λ (b : Bool). CanGo (shared_at c.args.area c.loop-i.i) b (g.G.PageStore.store c.loop-i.g)) (sym c.is_committed.ensures)
          (can_go_next (shared_at c.args.area) (is_committed_in c.args.pages.now) (length c.args.pages.now.pages) c.loop-i.i c.requires.can few c.loop-i.invariant.gone);
    }

pub loop-i-preserved : goal.loop-i-preserved
loop-i-preserved g c =
    let owned = is_committed_in c.args.pages.now in
    let step : Gone (λ k. owned c.loop-i.i && same_key k (shared_at c.args.area c.loop-i.i)) (cond (owned c.loop-i.i) 1 0) (g.G.PageStore.contents c.loop-i.g) (g.G.PageStore.contents c.remove_if.new.g) (g.G.PageStore.store c.loop-i.g) (g.G.PageStore.store c.remove_if.new.g) =
    subst (λ (b : Bool). Gone (λ k. b && same_key k (shared_at c.args.area c.loop-i.i)) (cond b 1 0) (g.G.PageStore.contents c.loop-i.g) (g.G.PageStore.contents c.remove_if.new.g) (g.G.PageStore.store c.loop-i.g) (g.G.PageStore.store c.remove_if.new.g)) c.is_committed.ensures c.remove_if.ensures.gone in
    record {
      gone = gone_then (shared_at c.args.area) owned c.loop-i.i c.loop-i.invariant.gone step;
      passes = λ held from to low high. ends_meet g.G.PageStore.unpaged held from (held.rank c.args.area.0) to (g.G.PageStore.store c.args.g.now) (g.G.PageStore.store c.loop-i.g) (g.G.PageStore.store c.remove_if.new.g) (g.G.PageStore.behind c.args.g.now) (g.G.PageStore.behind c.loop-i.g) (g.G.PageStore.behind c.remove_if.new.g)
          low high (c.loop-i.invariant.passes held from (held.rank c.args.area.0 + 1) low (omega arith))
          (c.remove_if.ensures.passes held (held.rank c.args.area.0) to
          (omega arith, high, (λ i low. lower_gone c.args.area owned c.loop-i.i i c.requires.live c.loop-i.invariant.gone low)));
      loans = c.remove_if.ensures.loans ∙ c.loop-i.invariant.loans;
    }
