use Rattle.std.proofs.Common.{◌≡◌, refl, true, None, ◌∙◌, ap, subst, arith}
use Rattle.std.proofs.lemmas.Result.{on_ok_weaker}
use Rattle.mm_types.specs.{Range}
use Rattle.mm_types.proofs.{on_err}
use Rattle.mm_store.specs.{StoreOf, changed_in}
use Rattle.mm_object_tables.proofs.{idle, new_places, more_room, err_then, idle_then}
use Rattle.mm_object_tables.proofs.private_pages.grow_for_region.Goals as goal

pub returns-in_err-reserve-clause-err : goal.returns-in_err-reserve-clause-err
returns-in_err-reserve-clause-err g c = on_err c.from_residual.result (record { store = refl; later = omega arith })

pub returns-in_err-reserve-clause-idles : goal.returns-in_err-reserve-clause-idles
returns-in_err-reserve-clause-idles g c = record { contents = refl; passes = idle g.G.PageStore c.args.g.now; loans = refl }

pub returns-in_err-reserve-2-clause-err : goal.returns-in_err-reserve-2-clause-err
returns-in_err-reserve-2-clause-err g c = on_err c.from_residual-in_err-reserve-2.result (record { store = c.reserve-2.ensures.store; later = c.reserve-2.ensures.later })

pub returns-in_err-reserve-2-clause-idles : goal.returns-in_err-reserve-2-clause-idles
returns-in_err-reserve-2-clause-idles g c = record {
  contents = c.reserve-2.ensures.contents;
  passes = c.reserve-2.ensures.passes;
  loans = c.reserve-2.ensures.loans;
}

pub returns-clause-spare : goal.returns-clause-spare
returns-clause-spare g c = on_ok_weaker c.bind.result (λ bound. c.in_ok-reserve.ensures.ok) c.bind.ensures.ok

pub returns-clause-binds : goal.returns-clause-binds
returns-clause-binds g c =
    let s = g.G.PageStore.store c.args.g.now in
    let y = g.G.PageStore.store c.reserve-2.new.self in
    let z = g.G.PageStore.store c.bind.new.self in
    on_ok_weaker c.bind.result (λ bound.
    let bound : z ≡ record y { bound = changed_in c.args.pid c.args.range y.bound true; names = changed_in c.args.pid c.args.range y.names None } =
    subst (λ (r : Range). ◌≡◌ {A = StoreOf} z (record y { bound = changed_in c.args.pid r y.bound true; names = changed_in c.args.pid r y.names None })) c.range.view_is bound in
    let places = new_places c.args.pid c.args.range s y z c.reserve-2.ensures.store c.reserve-2.ensures.later bound in
    record { bound = places; room = omega (arith, c.in_ok-reserve-2.ensures.ok, (ap (λ (x : StoreOf). x.room) bound)) }) c.bind.ensures.ok

pub returns-clause-err : goal.returns-clause-err
returns-clause-err g c =
    err_then c.bind.result c.bind.ensures.err (λ same.
    more_room (g.G.PageStore.store c.args.g.now) (g.G.PageStore.store c.reserve-2.new.self) (g.G.PageStore.store c.bind.new.self) c.reserve-2.ensures.store c.reserve-2.ensures.later same)

pub returns-clause-idles : goal.returns-clause-idles
returns-clause-idles g c = record {
  contents = c.bind.ensures.contents ∙ c.reserve-2.ensures.contents;
  passes = idle_then g.G.PageStore c.args.g.now c.reserve-2.new.self c.bind.new.self c.reserve-2.ensures.passes c.bind.ensures.passes;
  loans = c.bind.ensures.loans ∙ c.reserve-2.ensures.loans;
}
