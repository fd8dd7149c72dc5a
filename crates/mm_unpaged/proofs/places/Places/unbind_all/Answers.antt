use Rattle.std.proofs.Common.{◌+◌, false, None, ap, ◌∙◌, arith}
use Rattle.mm_store.specs.{place_at}
use Rattle.mm_move_rules.specs.{same_place}
use Rattle.mm_move_rules.specs.{changed}
use Rattle.mm_unpaged.specs.{is_bound_in, names_in}
use Rattle.mm_unpaged.proofs.{changed_more}
use Rattle.mm_unpaged.proofs.places.Places.unbind_all.Goals as goal

pub unbind-requires : goal.unbind-requires
unbind-requires c =
    let page = c.args.first.0 + c.loop-i.i in
    record {
      dead = ap (λ f. f (place_at c.args.pid page)) c.loop-i.invariant.pages
          ∙ c.requires.dead page (omega arith) (omega (arith, c.loop-i-test.true));
    }

pub loop-i-preserved : goal.loop-i-preserved
loop-i-preserved c =
    let here = place_at c.args.pid (c.args.first.0 + c.loop-i.i) in
    record {
      bound = c.unbind.ensures.bound ∙ ap (λ f. changed same_place f here false) c.loop-i.invariant.bound ∙ changed_more c.args.pid c.args.first.0 (is_bound_in c.args.self.now) false c.loop-i.i;
      names = c.unbind.ensures.names ∙ ap (λ f. changed same_place f here None) c.loop-i.invariant.names ∙ changed_more c.args.pid c.args.first.0 (names_in c.args.self.now) None c.loop-i.i;
      pages = c.unbind.ensures.pages ∙ c.loop-i.invariant.pages;
      number = c.unbind.ensures.count ∙ c.loop-i.invariant.number;
    }
