use Rattle.std.proofs.Common.{◌+◌, true, None, sym, ap, ◌∙◌, arith}
use Rattle.mm_store.specs.{place_at}
use Rattle.mm_move_rules.specs.{same_place}
use Rattle.mm_move_rules.specs.{changed}
use Rattle.mm_unpaged.specs.{is_bound_in, names_in}
use Rattle.mm_unpaged.proofs.{changed_none, changed_more, next_unchanged, held}
use Rattle.mm_unpaged.proofs.places.Places.bind_all.Goals as goal

pub loop-i-init : goal.loop-i-init
loop-i-init c = record {
  bound = c.reserve.ensures.bound ∙ sym (changed_none c.args.pid c.args.first.0 (is_bound_in c.args.self.now) true);
  names = c.reserve.ensures.names ∙ sym (changed_none c.args.pid c.args.first.0 (names_in c.args.self.now) None);
  pages = c.reserve.ensures.pages;
  number = c.reserve.ensures.count;
  room = omega (arith, c.in_ok-reserve.ensures.ok);
}

pub bind-requires-clause-unbound : goal.bind-requires-clause-unbound
bind-requires-clause-unbound c =
    let here = place_at c.args.pid (c.args.first.0 + c.loop-i.i) in
    ap (λ f. f here) c.loop-i.invariant.bound
    ∙ next_unchanged c.args.pid c.args.first.0 (is_bound_in c.args.self.now) true c.loop-i.i
    ∙ c.requires.unbound (c.args.first.0 + c.loop-i.i) (held c.args.first.0 c.args.n c.loop-i.i (omega (arith, c.loop-i-test.true)))

pub loop-i-preserved : goal.loop-i-preserved
loop-i-preserved c =
    let here = place_at c.args.pid (c.args.first.0 + c.loop-i.i) in
    record {
      bound = c.bind.ensures.bound ∙ ap (λ f. changed same_place f here true) c.loop-i.invariant.bound ∙ changed_more c.args.pid c.args.first.0 (is_bound_in c.args.self.now) true c.loop-i.i;
      names = c.bind.ensures.names ∙ ap (λ f. changed same_place f here None) c.loop-i.invariant.names ∙ changed_more c.args.pid c.args.first.0 (names_in c.args.self.now) None c.loop-i.i;
      pages = c.bind.ensures.pages ∙ c.loop-i.invariant.pages;
      number = c.bind.ensures.count ∙ c.loop-i.invariant.number;
      room = omega (arith, c.bind.ensures.room, c.loop-i.invariant.room);
    }
