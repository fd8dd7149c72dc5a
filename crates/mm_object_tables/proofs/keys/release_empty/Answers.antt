use Rattle.std.proofs.Common.{◌≡◌, refl, inl, None, false, true, sym, ap, subst, arith, Bool}
use Rattle.mm_types.specs.{Range}
use Rattle.mm_store.specs.Housekeeping.{Ends}
use Rattle.mm_store.proofs.{turns_same}
use Rattle.mm_store.specs.{AllBound, AreAmong, rearranged, StoreOf, changed_in}
use Rattle.mm_object_tables.proofs.{given_at_once, dead_at_once, given_nothing}
use Rattle.mm_object_tables.proofs.keys.release_empty.Goals as goal
use Rattle.mm_object_tables.specs.{GivenUp, owned_among, is_owned_at}

pub unbind-requires : goal.unbind-requires
unbind-requires g c =
    let first = ap (λ (r : Range). r.first) c.range.view_is in
    let count = ap (λ (r : Range). r.count) c.range.view_is in
    record {
      bound = subst (λ (r : Range). AllBound (g.G.PageStore.store c.args.g.now) c.args.pid r true) (sym c.range.view_is) (c.requires.can.bound c.if-goes.true);
      dead = λ v low high. dead_at_once c.args.pid c.args.range c.args.space.now.regions c.requires.can c.requires.none v (omega (arith, low, first)) (omega (arith, high, first, count));
      kind = inl c.requires.can.unbinding;
    }

pub returns-then-goes : goal.returns-then-goes
returns-then-goes g c =
    let s = g.G.PageStore.store c.args.g.now in
    let z = g.G.PageStore.store c.unbind.new.self in
    let after = subst (λ (r : Range). ◌≡◌ {A = StoreOf} z (record s { bound = changed_in c.args.pid r s.bound false; names = changed_in c.args.pid r s.names None; report = rearranged s.report z.report })) c.range.view_is c.unbind.ensures.store in
    record {
      given_up = subst (λ (b : Bool). GivenUp b c.args.pid c.args.range (owned_among (is_owned_at c.args.space.now.regions c.args.range.first) c.args.range.count) (g.G.PageStore.contents c.args.g.now) (g.G.PageStore.contents c.unbind.new.self) s z) (sym c.if-goes.true)
          (given_at_once c.args.pid c.args.range c.args.space.now.regions c.requires.can c.requires.none c.unbind.ensures.contents after);
      passes = λ held from to among. c.unbind.ensures.passes held from to (subst (λ (r : Range). AreAmong held from to c.args.pid r) (sym c.range.view_is) among);
      loans = c.unbind.ensures.loans;
    }

pub returns-else-goes : goal.returns-else-goes
returns-else-goes g c =
    let s = g.G.PageStore.store c.args.g.now in
    record {
      given_up = subst (λ (b : Bool). GivenUp b c.args.pid c.args.range (owned_among (is_owned_at c.args.space.now.regions c.args.range.first) c.args.range.count) (g.G.PageStore.contents c.args.g.now) (g.G.PageStore.contents c.args.g.now) s s) (sym c.if-goes.false)
          (given_nothing c.args.pid c.args.range c.args.space.now.regions c.requires.can c.requires.none c.if-goes.false);
      passes = λ held from to among. turns_same g.G.PageStore.unpaged (Ends held from to) s (g.G.PageStore.behind c.args.g.now);
      loans = refl;
    }
