use Rattle.std.proofs.Common.{inl, ◌+◌, ℕ, Bool, sym, ap, ◌∙◌, subst, arith, cond, is_some, true, false}
use Rattle.mm_store.specs.{place_at, page_rank}
use Rattle.mm_object_tables.specs.{CanGiveUp, GivenUp, one_page_range}
use Rattle.mm_object_tables.proofs.{page_can_go, page_bound, page_dead, page_unbinding, place_given, key_given, only_is}
use Rattle.mm_store.proofs.{ends_meet}
use Rattle.mm_object_tables.proofs.keys.release_page.Given as given
use Rattle.mm_object_tables.proofs.keys.release_page.Goals as goal
use Rattle.mm_object_tables.proofs.keys.release_page.Goals.{After-is_owned}
use Rattle.mm_world.specs.{own_page}

-- by what was looked up
can_go : (g : given.Over) (c : After-is_owned g) → CanGiveUp c.args.goes c.args.pid c.args.page c.is_owned.result (g.G.PageStore.contents c.args.g.now) (g.G.PageStore.store c.args.g.now)
can_go g c = subst (λ (b : Bool). CanGiveUp c.args.goes c.args.pid c.args.page b (g.G.PageStore.contents c.args.g.now) (g.G.PageStore.store c.args.g.now)) (sym c.is_owned.ensures) c.requires.can

pub remove_if-requires : goal.remove_if-requires
remove_if-requires g c = record { can = page_can_go (can_go g (goal.at.remove_if-requires g c).After-is_owned) }

pub unbind-requires : goal.unbind-requires
unbind-requires g c =
    let can = can_go g (goal.at.unbind-requires g c).After-is_owned in
    let gone = c.remove_if.ensures.gone in
    record { bound = page_bound can gone c.if-goes.true; dead = page_dead can gone; kind = inl (page_unbinding can gone) }

pub returns-then-goes-clause-given_up : goal.returns-then-goes-clause-given_up
returns-then-goes-clause-given_up g c =
    subst (λ (b : Bool). GivenUp b c.args.pid (one_page_range c.args.page) (cond (is_some (own_page c.args.space.now.regions c.args.page)) 1 0) (g.G.PageStore.contents c.args.g.now) (g.G.PageStore.contents c.unbind.new.self) (g.G.PageStore.store c.args.g.now) (g.G.PageStore.store c.unbind.new.self)) (sym c.if-goes.true)
    (subst (λ (b : Bool). GivenUp true c.args.pid (one_page_range c.args.page) (cond b 1 0) (g.G.PageStore.contents c.args.g.now) (g.G.PageStore.contents c.unbind.new.self) (g.G.PageStore.store c.args.g.now) (g.G.PageStore.store c.unbind.new.self)) c.is_owned.ensures
    (place_given (can_go g (goal.at.returns-then-goes-clause-given_up g c).After-is_owned) c.remove_if.ensures.gone c.unbind.ensures.contents c.unbind.ensures.store))

pub returns-else-goes-clause-given_up : goal.returns-else-goes-clause-given_up
returns-else-goes-clause-given_up g c =
    subst (λ (b : Bool). GivenUp b c.args.pid (one_page_range c.args.page) (cond (is_some (own_page c.args.space.now.regions c.args.page)) 1 0) (g.G.PageStore.contents c.args.g.now) (g.G.PageStore.contents c.remove_if.new.g) (g.G.PageStore.store c.args.g.now) (g.G.PageStore.store c.remove_if.new.g)) (sym c.if-goes.false)
    (subst (λ (b : Bool). GivenUp false c.args.pid (one_page_range c.args.page) (cond b 1 0) (g.G.PageStore.contents c.args.g.now) (g.G.PageStore.contents c.remove_if.new.g) (g.G.PageStore.store c.args.g.now) (g.G.PageStore.store c.remove_if.new.g)) c.is_owned.ensures
    (key_given (can_go g (goal.at.returns-else-goes-clause-given_up g c).After-is_owned) c.remove_if.ensures.gone c.if-goes.false))

pub returns-then-goes-clause-passes : goal.returns-then-goes-clause-passes
returns-then-goes-clause-passes g c held from to is low high =
    ends_meet g.G.PageStore.unpaged held from (page_rank c.args.page) to (g.G.PageStore.store c.args.g.now) (g.G.PageStore.store c.remove_if.new.g) (g.G.PageStore.store c.unbind.new.self) (g.G.PageStore.behind c.args.g.now) (g.G.PageStore.behind c.remove_if.new.g) (g.G.PageStore.behind c.unbind.new.self) low (omega (arith, high))
    (c.remove_if.ensures.passes held from (page_rank c.args.page + 1) (is, low, omega arith))
    (c.unbind.ensures.passes held (page_rank c.args.page) to (record { each = λ v e. ap (λ (v : ℕ). held.places (place_at c.args.pid v)) (only_is c.args.page v e) ∙ is; first = omega arith; last = omega (arith, high) }))

pub returns-else-goes-clause-passes : goal.returns-else-goes-clause-passes
returns-else-goes-clause-passes g c held from to is low high = c.remove_if.ensures.passes held from to (is, low, omega (arith, high))
