use Rattle.std.proofs.Common.{rules, Some, Option, sym, subst}
use Rattle.std.specs.Prelude.{IsSome}
use Rattle.mm_types.specs.{Key}
use Rattle.mm_world.specs.{Page}
use Rattle.mm_move_rules.specs.{same_place}
use Rattle.mm_move_rules.specs.{changed}
use Rattle.mm_unpaged.specs.{names_in, contents_in, store_in}
use Rattle.mm_unpaged.proofs.{eased_named, fetched_named, served_named, touch_ends}
use Rattle.mm_unpaged.proofs.unpaged.UnpagedPageStore.read.Goals as goal

pub returns-clause-done : goal.returns-clause-done
returns-clause-done g c =
    let s = c.args.self.now in
    record {
      ok = fetched_named (store_in s) (store_in c.name_place.new.self) (changed same_place (names_in s.places) c.args.place (Some c.args.key)) c.name_place.ensures.store;
      err = tt;
      answered = record {
        served = served_named _ _ _ c.name_place.ensures.store;
        stored = search rules;
        fault = λ begun. touch_ends c.args.key _ (contents_in c.name_place.new.self) (subst (λ (d : Key → Option Page). IsSome (d c.args.key)) (sym c.name_place.ensures.contents) c.requires.may.at.live);
        causes = search rules;
        blamed = tt;
        was_ready = search rules;
        unpaged = search rules;
      };
      eased = λ ready. eased_named (store_in s) (store_in c.name_place.new.self) (changed same_place (names_in s.places) c.args.place (Some c.args.key)) c.name_place.ensures.store;
      passes = search rules;
    }
